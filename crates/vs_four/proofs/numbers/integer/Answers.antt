use Rattle.std.proofs.Common.{◌≡◌, ℕ, ◌+◌, ◌^◌, ◌≤◌, ◌<◌, ◌*◌, length, ap, sym, ◌∙◌, arith, rules}
use Rattle.std.proofs.lemmas.Int.{ints}
use denote.Enum.Bare.{same_true}
use Rattle.vs_four.specs.contracts.Bit4.{the_type}
use Rattle.vs_four.specs.declared.Bit4.TheVariants.{One}
use Rattle.vs_four.specs.Numbers.{number}
use Rattle.vs_four.proofs.NumberLemmas.{negative_number, number-below}
use Rattle.vs_four.proofs.numbers.integer.Goals as goal

pub returns-then-eq-clause-fits : goal.returns-then-eq-clause-fits
returns-then-eq-clause-fits c =
    let a = c.args.a in
    let one : c.top.result ≡ One = same_true the_type (search rules) _ _ (sym c.eq.ensures ∙ c.if-eq.true) in
    let half : 2 ^ length a ≤ 2 * number a = negative_number a (sym c.top.ensures ∙ one) in
    let below : number a < 2 ^ length a = number-below a in
    let power : c.ones.result + 1 ≡ 2 ^ length a = omega (arith, c.ones.ensures, ap (λ (n : ℕ). 2 ^ n) c.len.ensures.length) in
    omega (arith, ints, half, below, power, c.number-unsigned.ensures)
