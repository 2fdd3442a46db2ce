use Rattle.std.proofs.Common.{rules, ◌-◌, take, ap, sym, ◌∙◌}
use Rattle.std.specs.Prelude.{is_some}
use Rattle.vs_flat.specs.Arena.{Arena}
use Rattle.vs_build.specs.Growth.{open_function}
use Rattle.vs_build.proofs.BodyKinds.{initial_is, initial_grows, initial_drafted}
use Rattle.vs_build.proofs.builder.Builder.initial.Goals as goal

pub add_initial-requires-clause-names : goal.add_initial-requires-clause-names
add_initial-requires-clause-names c = (initial_is c.self.inside.flat c.self.inside.roots.items c.self.inside.bodies.items c.args.self.now c.len-n.result c.index-statement.result.now c.self.invariant.0 c.self.view_is c.requires.ends (search rules) c.index-statement.ensures).covers c.args.at c.process_count-behind.result

pub invariant_of-self-2 : goal.invariant_of-self-2
invariant_of-self-2 c = (
  initial_grows c.self.inside.flat c.add_initial.new.self c.self.inside.roots.items c.self.inside.bodies.items c.truncate.new.self.items (take (c.len-n.result - 1) c.self.inside.bodies.items) c.index-statement.result.now c.args.at c.process_count-behind.result
      (initial_is c.self.inside.flat c.self.inside.roots.items c.self.inside.bodies.items c.args.self.now c.len-n.result c.index-statement.result.now c.self.invariant.0 c.self.view_is c.requires.ends (search rules) c.index-statement.ensures) c.in_ok-add_initial.ensures.ok c.truncate.ensures.items,
  c.self.invariant.1 ∙ ap (λ (a : Arena). is_some (open_function a)) (sym c.in_ok-add_initial.ensures.ok),
)

pub returns : goal.returns
returns c s t m h =
    initial_drafted c.self.inside.flat c.add_initial.new.self c.self.inside.roots.items c.self.inside.bodies.items c.truncate.new.self.items (take (c.len-n.result - 1) c.self.inside.bodies.items) c.args.self.now c.index-statement.result.now c.args.at c.process_count-behind.result s t m
    (initial_is c.self.inside.flat c.self.inside.roots.items c.self.inside.bodies.items c.args.self.now c.len-n.result c.index-statement.result.now c.self.invariant.0 c.self.view_is c.requires.ends (search rules) c.index-statement.ensures) c.in_ok-add_initial.ensures.ok c.truncate.ensures.items c.self.view_is c.process_count-behind.ensures.count h
