use Rattle.std.proofs.Common.{◌≡◌, ◌∙◌, ◌==◌, ℕ, Bool, false, List, [], length, sym, ap, subst, eq-eqb, true≢false}
use Rattle.std.specs.List.{All}
use Rattle.std.proofs.lemmas.List.Elements.{All-head}
use Rattle.vs_code.specs.Calls.{IsCall}
use Rattle.vs_values.specs.Added.{copy_call}
use Rattle.vs_lower.proofs.Homing.{some_copies}
use Rattle.vs_lower.proofs.Joining.{picked}
use Rattle.vs_lower.proofs.copies.copy_all.Goals as goal

are_some : (q : Bool) (js : List ℕ) → q ≡ false → q ≡ (length js == 0) → js ≡ [] → ⊥
are_some q js a b e = true≢false (sym (eq-eqb (length js) 0 (ap (λ (xs : List ℕ). length xs) e)) ∙ sym b ∙ a)

pub copy-requires-clause-is : goal.copy-requires-clause-is
copy-requires-clause-is c =
    let env = c.args.env.now in
    let bits = c.args.bits.now in
    let to = picked c.args.to.now bits in
    let some = are_some c.is_empty.result bits c.if-is_empty.false c.is_empty.ensures in
    let one = All-head IsCall (copy_call (picked env bits) to) [] (subst (All IsCall) (some_copies env to bits some) c.requires.calls) in
    subst (λ (x : List ℕ). IsCall (copy_call x c.in_ok-slots.slots.items)) (sym c.in_ok-from.ensures)
    (subst (λ (x : List ℕ). IsCall (copy_call (picked env bits) x)) (sym c.in_ok-slots.ensures) one)
