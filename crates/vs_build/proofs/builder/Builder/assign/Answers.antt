use Rattle.std.proofs.Common.{rules, ◌-◌, take, ap, sym, ◌∙◌}
use Rattle.vs_build.proofs.Whole.{assigned, assign_kept, assign_draft}
use Rattle.std.specs.Prelude.{is_some}
use Rattle.vs_flat.specs.Arena.{Arena}
use Rattle.vs_build.specs.Growth.{open_function}
use Rattle.vs_build.proofs.builder.Builder.assign.Goals as goal

pub add_process-requires-clause-names : goal.add_process-requires-clause-names
add_process-requires-clause-names c = (assigned c.self.inside.flat c.self.inside.roots.items c.self.inside.bodies.items c.args.self.now c.args.port c.len-n.result c.index-target.result.now c.index-expr.result.now c.self.invariant.0 c.self.view_is c.requires.ends (search rules) c.index-target.ensures c.index-expr.ensures).covers c.args.at

pub invariant_of-self-2 : goal.invariant_of-self-2
invariant_of-self-2 c = (assign_kept c.self.inside.flat c.add_process.new.self c.self.inside.roots.items c.truncate.new.self.items c.self.inside.bodies.items (take (c.len-n.result - 2) c.self.inside.roots.items) c.args.port c.index-target.result.now c.index-expr.result.now c.args.at (assigned c.self.inside.flat c.self.inside.roots.items c.self.inside.bodies.items c.args.self.now c.args.port c.len-n.result c.index-target.result.now c.index-expr.result.now c.self.invariant.0 c.self.view_is c.requires.ends (search rules) c.index-target.ensures c.index-expr.ensures) c.in_ok-add_process.ensures.ok c.truncate.ensures.items, c.self.invariant.1 ∙ ap (λ (a : Arena). is_some (open_function a)) (sym c.in_ok-add_process.ensures.ok))

pub returns : goal.returns
returns c s r t u m n h k = assign_draft c.self.inside.flat c.add_process.new.self c.self.inside.roots.items c.truncate.new.self.items c.self.inside.bodies.items (take (c.len-n.result - 2) c.self.inside.roots.items) c.args.self.now c.args.port c.index-target.result.now c.index-expr.result.now c.args.at s r t u m n (assigned c.self.inside.flat c.self.inside.roots.items c.self.inside.bodies.items c.args.self.now c.args.port c.len-n.result c.index-target.result.now c.index-expr.result.now c.self.invariant.0 c.self.view_is c.requires.ends (search rules) c.index-target.ensures c.index-expr.ensures) c.in_ok-add_process.ensures.ok c.truncate.ensures.items c.self.view_is h k
