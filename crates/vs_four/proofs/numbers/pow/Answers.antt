use mir.Syntax.{w128}
use mir.Val.{of_z, to_z}
use Rattle.std.proofs.Common.{◌≡◌, ◌≤◌, ◌&&◌, ◌^◌, ◌%◌, unsigned_abs, true, true≢false, length, Some, sym, ◌∙◌, ap, arith}
use Rattle.vs_four.specs.Logic.{all_known}
use Rattle.vs_four.proofs.PowerLemmas.{known_both, power_is}
use Rattle.vs_four.proofs.numbers.pow.Goals as goal
use Rattle.vs_four.proofs.numbers.pow.Goals.{then-is_known, else-is_known}

pub returns-else-exponent-lt0 : goal.returns-else-exponent-lt0
returns-else-exponent-lt0 c =
    let known : (all_known c.args.a && all_known c.args.b) ≡ true = elim c.if-is_known.branch [
      | then-is_known w ↦ known_both c.args.a c.args.b _ _ c.is_known.ensures w.if-is_known.true w.is_known-then-is_known.ensures (sym w.value-is ∙ c.if-not-is_known.false)
      | else-is_known w ↦ absurd (true≢false (sym c.if-not-is_known.false ∙ w.value-is ∙ w.if-is_known.false))
    ] in
    let most : length c.args.a ≤ 64 = let n = c.len-else-exponent-lt0.ensures.at_most_64 in let e = c.len-else-exponent-lt0.ensures.length in omega arith in
    ap (λ b. Some b) c.of_number.ensures
    ∙ power_is c.args.signed c.args.exponent_signed c.args.a c.args.b c.integer-exponent.result c.len-else-exponent-lt0.result c.wrapping_power.result known c.integer-exponent.ensures.value c.integer-exponent.ensures.fits c.if-exponent-lt0.false
    (c.wrapping_power.ensures ∙ ap (λ m. m ^ unsigned_abs (to_z w128 (of_z w128 c.integer-exponent.result)) % 2 ^ 64) c.number.ensures) c.len-else-exponent-lt0.ensures.length most
