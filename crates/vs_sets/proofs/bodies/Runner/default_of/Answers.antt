use Rattle.std.proofs.Common.{◌∙◌}
use Rattle.vs_sets.proofs.Completing.{next_below, next_one, then_default}
use Rattle.vs_sets.proofs.Running.{next_fits, next_within}
use Rattle.vs_sets.proofs.bodies.Runner.default_of.Goals as goal

pub returns-clause-is : goal.returns-clause-is
returns-clause-is c =
    let of = c.args.self.now in
    c.default_of.ensures ∙ then_default of.shapes.now of.defaults.now.complete of.defaults.now.others.now c.args.s c.args.kind c.args.of c.args.arms.now c.args.other c.requires.is c.requires.defaults

pub returns-clause-one : goal.returns-clause-one
returns-clause-one c =
    let of = c.args.self.now in
    next_one of.shapes.now of.defaults.now.complete c.args.kind c.args.of c.args.arms.now c.args.other c.default_of.result
    (c.default_of.ensures ∙ then_default of.shapes.now of.defaults.now.complete of.defaults.now.others.now c.args.s c.args.kind c.args.of c.args.arms.now c.args.other c.requires.is c.requires.defaults)

pub returns-clause-fit : goal.returns-clause-fit
returns-clause-fit c = next_fits c.args.self.now.shapes.now c.args.arms.now c.args.other c.default_of.result (returns-clause-one c)

pub returns-clause-within : goal.returns-clause-within
returns-clause-within c n = next_within c.args.self.now.shapes.now n c.args.arms.now c.args.other c.default_of.result (returns-clause-one c)

pub returns-clause-below : goal.returns-clause-below
returns-clause-below c n = next_below n c.args.s c.args.arms.now c.args.other c.default_of.result (returns-clause-one c)
