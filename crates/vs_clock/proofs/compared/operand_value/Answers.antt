use Rattle.std.proofs.Common.{sym, ap, ◌∙◌}
use Rattle.vs_four.specs.Lengths.{extend}
use Rattle.vs_design.specs.Resets.{alone}
use Rattle.vs_shape.specs.Nodes.{tree_of}
use Rattle.vs_shape.specs.declared.shape.Shape.{Shape}
use Rattle.vs_clock.proofs.Comparing.{named_value}
use Rattle.vs_clock.proofs.compared.operand_value.Goals as goal

pub value-requires-clause-valued : goal.value-requires-clause-valued
value-requires-clause-valued c = record { constant = sym (ap (λ (s : Shape). s.constant) c.shape.ensures) ∙ c.if-shape.true; fits = c.requires.fits }

pub returns-then-shape-clause-value : goal.returns-then-shape-clause-value
returns-then-shape-clause-value c = λ b o.
    c.value.ensures.value ∙ sym (c.value_law.ensures.constant (tree_of c.args.shapes.now c.args.e) (sym (ap (λ (s : Shape). s.constant) c.shape.ensures) ∙ c.if-shape.true) c.args.context.width c.args.context.signed (alone b c.args.value))

pub returns-else-shape-clause-value : goal.returns-else-shape-clause-value
returns-else-shape-clause-value c = λ b o.
    c.extended.ensures.value ∙ ap (extend c.args.context.width c.args.context.signed) c.of.ensures
    ∙ sym (named_value (tree_of c.args.shapes.now c.args.e) b c.args.value c.args.context.width c.args.context.signed (o (sym (ap (λ (s : Shape). s.constant) c.shape.ensures) ∙ c.if-shape.false)))
