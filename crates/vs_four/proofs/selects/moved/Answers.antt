use Rattle.std.proofs.Common.{◌≡◌, ℕ, ◌+◌, ◌*◌, ◌/◌, ◌%◌, ◌^◌, min, ap, ◌∙◌, arith}
use Rattle.std.proofs.lemmas.Int.{ints}
use Rattle.vs_four.proofs.ShiftLemmas.{shl_is, shr_is}
use Rattle.vs_four.proofs.SelectPlanes.{shl_most, shr_most}
use Rattle.vs_four.proofs.selects.moved.Goals as goal

pub returns-then-places-lt0-clause-down : goal.returns-then-places-lt0-clause-down
returns-then-places-lt0-clause-down c n e =
    let distance : c.min-distance.result ≡ min (n + 1) 64 = omega (arith, ints, e, c.unsigned_abs.ensures.value, c.min-distance.ensures) in
    c.unbounded_shr.ensures
    ∙ shr_is c.args.word c.min-distance.result c.ranges.word.fits
    ∙ ap (λ (k : ℕ). c.args.word / 2 ^ k) distance
    ∙ shr_most c.args.word (n + 1) c.ranges.word.fits

pub returns-else-places-lt0-clause-up : goal.returns-else-places-lt0-clause-up
returns-else-places-lt0-clause-up c n e =
    let distance : c.min-distance.result ≡ min n 64 = omega (arith, ints, e, c.unsigned_abs.ensures.value, c.min-distance.ensures) in
    c.unbounded_shl.ensures
    ∙ shl_is c.args.word c.min-distance.result
    ∙ ap (λ (k : ℕ). (c.args.word * 2 ^ k) % 2 ^ 64) distance
    ∙ shl_most c.args.word n
