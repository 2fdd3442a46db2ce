use Rattle.std.proofs.Common.{◌≡◌, map, take}
use Rattle.vs_flat.specs.DesignOf.{design_of}
use Rattle.vs_names.specs.Drawn.{byte_of}
use Rattle.vs_names.proofs.drawing.Drawing.process_bytes.Given as goal

abbrev pub invariant-loop-process : goal.invariant-loop-process
invariant-loop-process l = l.bytes.items ≡ map (byte_of l.self) (take l.process (design_of l.self.flat).processes)
