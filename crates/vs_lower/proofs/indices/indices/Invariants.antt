use Rattle.std.proofs.Common.{map, take}
use Rattle.vs_lower.specs.Leaves.{leaf_target}
use Rattle.vs_lower.specs.Written.{AddsIndices}
use Rattle.vs_lower.proofs.indices.indices.Given as goal

abbrev pub invariant-loop-n : goal.invariant-loop-n
invariant-loop-n l = AddsIndices l.env l.initial.code l.code (take l.n (map (leaf_target l.templates.arena) l.leaves)) l.tis.items
