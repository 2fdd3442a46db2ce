use Rattle.std.proofs.Common.{List, flat_map, take}
use Rattle.vs_elaborated.specs.Statements.{Local}
use Rattle.vs_scope.specs.Frames.{view_env}
use Rattle.vs_items.specs.Heads.{AreAround}
use Rattle.vs_items.proofs.HeadSteps.{AreGathered, part_heads, arm_heads}
use Rattle.vs_items.proofs.heads.+heads.Given as goal

-- of those before this one
abbrev pub invariant-push_sequence-loop-s : goal.invariant-push_sequence-loop-s
invariant-push_sequence-loop-s l = (locals : List Local) → AreAround l.layers locals → AreGathered l.fn.list.items l.list.items (flat_map (part_heads locals (view_env l.here)) (take l.s-index l.parts))

abbrev pub invariant-push_arms-loop-arm : goal.invariant-push_arms-loop-arm
invariant-push_arms-loop-arm l = (locals : List Local) → AreAround l.layers locals → AreGathered l.fn.list.items l.list.items (flat_map (arm_heads locals (view_env l.here)) (take l.arm-index l.arms))
