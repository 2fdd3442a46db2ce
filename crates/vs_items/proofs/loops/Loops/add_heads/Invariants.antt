use Rattle.std.proofs.Common.{◌≡◌, map, take}
use Rattle.vs_items.specs.Loops.{and_heads, head}
use Rattle.vs_items.proofs.loops.Loops.add_heads.Given as goal

-- with those before this one
abbrev pub invariant-loop-h : goal.invariant-loop-h
invariant-loop-h l = l.self ≡ and_heads l.fn.self (map head (take l.h-index l.heads))
