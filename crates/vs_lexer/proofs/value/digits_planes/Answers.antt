use Rattle.std.proofs.Common.{◌≡◌, ◌++◌, take, replicate, get_or, sym, ◌∙◌, ap}
use Rattle.std.proofs.lemmas.List.{take_all}
use Rattle.vs_lexer.specs.Literals.{digit_bits, all_digit_bits, fill_bit}
use Rattle.vs_lexer.proofs.PlaneFacts.{filled_none, filled_more}
use Rattle.vs_lexer.proofs.value.digits_planes.Goals as goal

pub loop-byte-init : goal.loop-byte-init
loop-byte-init c = c.filling-planes.ensures ∙ ap (λ b. replicate 64 (fill_bit b)) c.byte_at.ensures.value ∙ sym (filled_none 64 (fill_bit (get_or c.args.digits.now 0 0)))

pub loop-byte-preserved : goal.loop-byte-preserved
loop-byte-preserved c =
    c.with_digit-planes.ensures ∙ ap (λ r. take 64 (digit_bits c.args.base (get_or c.args.digits.now c.loop-byte.byte-index 0) ++ r)) c.loop-byte.invariant
    ∙ filled_more 64 c.args.base c.args.digits.now c.loop-byte.byte-index (fill_bit (get_or c.args.digits.now 0 0)) c.loop-byte-test.true

pub returns : goal.returns
returns c =
    let all : take c.loop-byte.byte-index c.args.digits.now ≡ c.args.digits.now = take_all c.loop-byte.byte-index c.args.digits.now c.loop-byte-test.false in
    c.loop-byte.invariant ∙ ap (λ ds. take 64 (all_digit_bits c.args.base ds ++ replicate 64 (fill_bit (get_or c.args.digits.now 0 0)))) all
