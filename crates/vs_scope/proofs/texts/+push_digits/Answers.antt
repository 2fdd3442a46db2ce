use Rattle.std.proofs.Common.{◌≡◌, ◌-◌, ◌+◌, ◌/◌, ◌%◌, ℕ, suc, List, [], ◌∷◌, ◌++◌, sym, ap, ◌∙◌, append_assoc, arith}
use Rattle.vs_elaborated.specs.Generate.{digits_before}
use Rattle.vs_scope.proofs.Digits.{digits_more, digits_one}
use Rattle.vs_scope.proofs.texts.+push_digits.Goals as goal
use Rattle.vs_scope.proofs.texts.+push_digits.Goals.{then-n-ge10+in_ok-push_digits, else-n-ge10}

pub returns : goal.returns
returns t c =
    let text = c.args.text.now.items in
    let n = c.args.n in
    let d : ℕ = 48 + n % 10 in
    let left : c.args.left ≡ suc (c.args.left - 1) = omega (arith, c.if-left-eq0.false) in
    let pushed : c.push.new.self.items ≡ c.if-n-ge10.text.items ++ d ∷ [] = c.in_ok-push.ensures.items in
    pushed
    ∙ (elim c.if-n-ge10.branch [
      | then-n-ge10+in_ok-push_digits w ↦
          ap (λ v. v.items ++ d ∷ []) w.text-is ∙ ap (λ (x : List ℕ). x ++ d ∷ []) w.in_ok-push_digits.ensures ∙ append_assoc text (digits_before (c.args.left - 1) (n / 10) []) (d ∷ [])
          ∙ ap (λ (x : List ℕ). text ++ x) (sym (digits_more c.args.left (c.args.left - 1) n left w.if-n-ge10.true))
      | else-n-ge10 w ↦ ap (λ v. v.items ++ d ∷ []) w.text-is ∙ ap (λ (x : List ℕ). text ++ x) (sym (digits_one c.args.left (c.args.left - 1) n left w.if-n-ge10.false))
    ])
