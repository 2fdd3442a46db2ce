use Rattle.std.proofs.Common.{sym, ◌∙◌}
use Rattle.vs_flat.specs.DesignOf.{design_of}
use Rattle.vs_shape.specs.Bodies.{body_of}
use Rattle.vs_block.proofs.Looking.{completed_kept, none_kept, noted_defaults}
use Rattle.vs_block.proofs.block.first_kept.Goals as goal

pub first_latch-requires-clause-defaults : goal.first_latch-requires-clause-defaults
first_latch-requires-clause-defaults c =
    noted_defaults c.args.shapes.now c.args.cases.now c.defaults-completed.result.complete c.defaults-completed.result.others.now c.args.statement c.defaults-completed.ensures.others (c.requires.noted (sym c.is_lenient.ensures ∙ c.if-not-is_lenient.false))

pub returns-then-not-is_lenient : goal.returns-then-not-is_lenient
returns-then-not-is_lenient c = none_kept (design_of c.args.shapes.now) (body_of c.args.shapes.now c.args.statement) c.is_lenient.result _ c.is_lenient.ensures c.requires.lenient c.if-not-is_lenient.true

pub returns : goal.returns
returns c =
    completed_kept c.args.shapes.now c.args.statement c.defaults-completed.result.complete c.is_lenient.result _ c.in_ok-first.first c.defaults-completed.ensures.complete c.is_lenient.ensures c.requires.lenient c.if-not-is_lenient.false c.in_ok-first.ensures
