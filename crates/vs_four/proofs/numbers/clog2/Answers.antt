use Rattle.std.proofs.Common.{◌≡◌, ◌-◌, ◌^◌, ◌<◌, suc, length, ap, sym, ◌∙◌, Some, arith}
use Rattle.std.proofs.lemmas.Bool.{cond-true}
use Rattle.std.proofs.lemmas.Nat.{leading_top}
use Rattle.vs_four.specs.Numbers.{number, log_up}
use Rattle.vs_four.proofs.NumberLemmas.{number-below, log_up-is}
use Rattle.vs_four.proofs.numbers.clog2.Goals as goal

pub returns-else-number-lt2 : goal.returns-else-number-lt2
returns-else-number-lt2 c =
    let a = c.args.a in
    let v = c.number-else-number-lt2.result in
    let below : number a < 2 ^ length a = number-below a in
    let is : v ≡ number a = c.number-else-number-lt2.ensures in
    let top = leading_top 64 (v - 1) (omega (arith, is, c.number.ensures, c.if-number-lt2.false)) (omega arith) in
    let up : log_up (length a) (number a) ≡ suc top.0 = log_up-is (length a) (number a) top.0 (omega (arith, below)) (omega (arith, is, top.2)) (omega (arith, is, top.3)) in
    ap Some (omega (arith, top.1) ∙ sym up) ∙ sym (cond-true _ _ _ (sym c.is_known.ensures ∙ c.if-not-is_known.false))
