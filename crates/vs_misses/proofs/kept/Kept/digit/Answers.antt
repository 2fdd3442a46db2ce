use Rattle.std.proofs.Common.{Some, slice_get, length, sym, ap, ◌∙◌, arith}
use Rattle.std.proofs.lemmas.Nat.Bits.{shr_and_one}
use Rattle.vs_misses.proofs.Words.{marked_long, marked_at, mark_one, mark_zero}
use Rattle.vs_misses.proofs.kept.Kept.digit.Goals as goal

pub get-bit-requires : goal.get-bit-requires
get-bit-requires c = omega (arith, c.requires, marked_long c.self.inside.bits c.self.inside.any, ap (λ ds. length ds) c.self.view_is)

pub overflow_shr-self-inside : goal.overflow_shr-self-inside
overflow_shr-self-inside c = omega (arith, c.requires, c.self.invariant, marked_long c.self.inside.bits c.self.inside.any, ap (λ ds. length ds) c.self.view_is)

pub returns-then-self-n-eq1 : goal.returns-then-self-n-eq1
returns-then-self-n-eq1 c =
    let any = c.self.inside.any in
    let n = c.args.n in
    ap (λ ds. slice_get ds n) (sym c.self.view_is)
    ∙ marked_at c.self.inside.bits any n c.get-bit.result c.get-bit.ensures
    ∙ ap Some (mark_one c.get-bit.result _ (sym (shr_and_one any n) ∙ c.if-self-n-eq1.true))

pub returns-else-self-n-eq1 : goal.returns-else-self-n-eq1
returns-else-self-n-eq1 c =
    let any = c.self.inside.any in
    let n = c.args.n in
    ap (λ ds. slice_get ds n) (sym c.self.view_is)
    ∙ marked_at c.self.inside.bits any n c.get-bit.result c.get-bit.ensures
    ∙ ap Some (mark_zero c.get-bit.result any n (λ e. c.if-self-n-eq1.false (shr_and_one any n ∙ e)))
