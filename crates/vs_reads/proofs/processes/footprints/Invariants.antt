use Rattle.std.proofs.Common.{◌≡◌, map, take, length}
use Rattle.vs_flat.specs.DesignOf.{design_of}
use Rattle.vs_reads.specs.Footprint.{footprints_of}
use Rattle.vs_reads.specs.Kept.{footprint_of}
use Rattle.vs_reads.proofs.processes.footprints.Given as goal

abbrev pub invariant-loop-p : goal.invariant-loop-p
invariant-loop-p l = (length l.processes.items ≡ l.p) × (map footprint_of l.processes.items ≡ take l.p (footprints_of (design_of l.shapes)))
