use Rattle.std.proofs.Common.{◌≡◌, ◌++◌, ◌∷◌, [], ℕ, Option, sym, subst, append-nil}
use Rattle.vs_lower.specs.Parts.{those_there}
use Rattle.vs_lower.proofs.parts.push_value.Goals as goal

pub returns-in_ok-push-in-Some : goal.returns-in_ok-push-in-Some
returns-in_ok-push-in-Some c = subst (λ (p : Option ℕ). c.push.new.self.items ≡ c.args.out.now.items ++ those_there (p ∷ []) (c.args.slot ∷ [])) (sym c.in-Some.is) c.in_ok-push-in-Some.ensures.items

pub returns-in-None : goal.returns-in-None
returns-in-None c = subst (λ (p : Option ℕ). c.args.out.now.items ≡ c.args.out.now.items ++ those_there (p ∷ []) (c.args.slot ∷ [])) (sym c.in-None.is) (sym (append-nil c.args.out.now.items))
