use Rattle.std.proofs.Common.{◌≡◌, map, take}
use Rattle.vs_const.specs.Faults.{least}
use Rattle.vs_elaborated.specs.Heads.{shared_heads}
use Rattle.vs_items.specs.Loops.{head}
use Rattle.vs_items.proofs.loops.Loops.shared_fault.Given as goal

-- of those before this one
abbrev pub invariant-loop-h : goal.invariant-loop-h
invariant-loop-h l = l.fault ≡ least (shared_heads l.self.headed (map head (take l.h-index l.heads)))
