use Rattle.std.proofs.Common.{take, cond, sym, ◌∙◌, ap, arith}
use Rattle.std.specs.Prelude.{◌==◌}
use Rattle.std.proofs.lemmas.Bool.{ne_eqb}
use Rattle.vs_lexer.specs.Literals.{decimal_value}
use Rattle.vs_lexer.proofs.PlaneFacts.{size_is, good_size}
use Rattle.vs_lexer.proofs.value.literal_size.Goals as goal

pub returns-then-head-eq0-clause-value : goal.returns-then-head-eq0-clause-value
returns-then-head-eq0-clause-value c = sym (size_is c.args.text.now c.args.head.now c.requires.head ∙ ap (λ n. cond (n == 0) 32 (decimal_value (take c.args.head.now.size c.args.text.now))) c.if-head-eq0.true)

pub overflow_cast-result : goal.overflow_cast-result
overflow_cast-result c = let g = good_size c.args.text.now c.args.head.now c.requires.head c.requires.in_range c.if-head-eq0.false in let e = c.in-Some.ensures.value in omega (arith, g.0, g.1, e)

pub unreachable-requires : goal.unreachable-requires
unreachable-requires c = let g = good_size c.args.text.now c.args.head.now c.requires.head c.requires.in_range c.if-head-eq0.false in let e = c.in-None.ensures.large in omega (arith, g.0, g.1, e)

pub returns-clause-value : goal.returns-clause-value
returns-clause-value c =
    let text = c.args.text.now in
    let n = c.args.head.now.size in
    c.in-Some.ensures.value ∙ sym (size_is text c.args.head.now c.requires.head ∙ ap (λ b. cond b 32 (decimal_value (take n text))) (ne_eqb n 0 c.if-head-eq0.false))

pub returns-clause-range : goal.returns-clause-range
returns-clause-range c =
    let g = good_size c.args.text.now c.args.head.now c.requires.head c.requires.in_range c.if-head-eq0.false in
    let e = c.in-Some.ensures.value in
    (omega (arith, g.0, e), omega (arith, g.1, e))
