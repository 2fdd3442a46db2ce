use Rattle.std.proofs.Common.{rules}
use Rattle.vs_build.proofs.Ended.{ending, one_open, ending_below, ended_kept, ended_now, ended_draft}
use Rattle.vs_build.proofs.builder.Builder.end_function.Goals as goal

pub add_body-requires-clause-last : goal.add_body-requires-clause-last
add_body-requires-clause-last c = one_open c.self.inside.flat c.self.inside.roots.items c.self.inside.bodies.items c.index-statement.result.now (ending c.self.inside.flat c.self.inside.roots.items c.self.inside.bodies.items c.args.self.now c.len-n.result c.index-statement.result.now c.self.invariant.0 c.self.view_is c.requires (search rules) c.index-statement.ensures)

pub add_body-requires-clause-names : goal.add_body-requires-clause-names
add_body-requires-clause-names c = ending_below c.self.inside.flat c.self.inside.roots.items c.self.inside.bodies.items c.index-statement.result.now (ending c.self.inside.flat c.self.inside.roots.items c.self.inside.bodies.items c.args.self.now c.len-n.result c.index-statement.result.now c.self.invariant.0 c.self.view_is c.requires (search rules) c.index-statement.ensures)

pub invariant_of-self-2 : goal.invariant_of-self-2
invariant_of-self-2 c =
    let i = ending c.self.inside.flat c.self.inside.roots.items c.self.inside.bodies.items c.args.self.now c.len-n.result c.index-statement.result.now c.self.invariant.0 c.self.view_is c.requires (search rules) c.index-statement.ensures in
    (ended_kept c.self.inside.flat c.add_body.new.self c.self.inside.roots.items c.self.inside.bodies.items c.truncate.new.self.items c.len-n.result c.index-statement.result.now i (search rules) c.in_ok-add_body.ensures.ok c.truncate.ensures.items, ended_now c.self.inside.flat c.add_body.new.self c.self.inside.roots.items c.self.inside.bodies.items c.index-statement.result.now i c.in_ok-add_body.ensures.ok)

pub returns : goal.returns
returns c s h t m within adds =
    let i = ending c.self.inside.flat c.self.inside.roots.items c.self.inside.bodies.items c.args.self.now c.len-n.result c.index-statement.result.now c.self.invariant.0 c.self.view_is c.requires (search rules) c.index-statement.ensures in
    ended_draft c.self.inside.flat c.add_body.new.self c.self.inside.roots.items c.self.inside.bodies.items c.truncate.new.self.items c.args.self.now c.len-n.result c.index-statement.result.now s h t m i (search rules) c.in_ok-add_body.ensures.ok c.truncate.ensures.items c.self.view_is within adds
