use Rattle.std.proofs.Common.{◌∙◌, refl, inl}
use Rattle.vs_sets.proofs.Completing.{next_branches, next_one, then_default}
use Rattle.vs_block.proofs.Defaults.{next_part}
use Rattle.vs_block.proofs.paths.default_of.Goals as goal

pub returns-clause-is : goal.returns-clause-is
returns-clause-is c =
    let defaults = c.args.defaults.now in
    c.default_of.ensures ∙ then_default c.args.shapes.now defaults.complete defaults.others.now c.args.s c.args.kind c.args.of c.args.arms.now c.args.other c.requires.is c.requires.defaults

pub returns-clause-branch : goal.returns-clause-branch
returns-clause-branch c =
    let defaults = c.args.defaults.now in
    next_part c.args.shapes.now c.args.s c.args.arms.now c.args.other c.default_of.result
    (next_one c.args.shapes.now defaults.complete c.args.kind c.args.of c.args.arms.now c.args.other c.default_of.result (returns-clause-is c))

pub returns-clause-defaults : goal.returns-clause-defaults
returns-clause-defaults c =
    let defaults = c.args.defaults.now in
    next_branches c.args.shapes.now defaults.complete defaults.others.now c.args.s c.args.kind c.args.of c.args.arms.now c.args.other c.requires.is c.requires.defaults c.default_of.result
    (next_one c.args.shapes.now defaults.complete c.args.kind c.args.of c.args.arms.now c.args.other c.default_of.result (returns-clause-is c)) c.default_of.result (inl refl)
