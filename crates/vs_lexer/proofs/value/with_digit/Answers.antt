use Rattle.std.proofs.Common.{◌+◌, ◌*◌, ◌%◌, ◌^◌, ◌++◌, take, sym, ◌∙◌, ap, arith}
use Rattle.vs_four.specs.Planes.{bits_of_planes}
use Rattle.vs_lexer.specs.Literals.{digit_bits, digit_width}
use Rattle.vs_lexer.proofs.PlaneFacts.{bits-take, bits-shift}
use Rattle.vs_lexer.proofs.value.with_digit.Goals as goal

pub returns-then-byte-eq95 : goal.returns-then-byte-eq95
returns-then-byte-eq95 c =
    let bits = bits_of_planes 64 c.args.planes.value c.args.planes.unknown in
    sym (ap (λ b. take 64 (digit_bits c.args.base b ++ bits)) c.if-byte-eq95.true ∙ bits-take 64 64 c.args.planes.value c.args.planes.unknown (omega arith))

pub returns : goal.returns
returns c =
    let k = digit_width c.args.base in
    let v = c.args.planes.value in
    let u = c.args.planes.unknown in
    let d = c.digit_planes-digit.result.value in
    let e = c.digit_planes-digit.result.unknown in
    let step = c.digit_step-step.ensures.value in
    ap (λ a. bits_of_planes 64 a c.shifted_in-2.result) (c.shifted_in.ensures ∙ ap (λ s. (v * s + d) % 2 ^ 64) step)
    ∙ ap (λ b. bits_of_planes 64 ((v * 2 ^ k + d) % 2 ^ 64) b) (c.shifted_in-2.ensures ∙ ap (λ s. (u * s + e) % 2 ^ 64) step)
    ∙ bits-shift k 64 v u d e c.digit_planes-digit.ensures.value c.digit_planes-digit.ensures.unknown
    ∙ ap (λ r. take 64 (r ++ bits_of_planes 64 v u)) c.digit_planes-digit.ensures.bits
