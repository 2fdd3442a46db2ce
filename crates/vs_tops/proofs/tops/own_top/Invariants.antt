use Rattle.std.proofs.Common.{take, map, option_map}
use Rattle.vs_ast.specs.Views as view
use Rattle.vs_tops.proofs.Only.{top_level_in, AreOnly}
use Rattle.vs_tops.proofs.tops.own_top.Given as goal

-- the only one of the modules before this one, if there is any
abbrev pub invariant-loop-of : goal.invariant-loop-of
invariant-loop-of l = AreOnly (option_map (λ t. t.now) l.top) (top_level_in (view.source l.source) (take l.of-index l.of-items))
