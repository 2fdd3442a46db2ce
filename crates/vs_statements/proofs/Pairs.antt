-- What is known of both of two, from what is known of each.
use Rattle.std.proofs.Common.{◌≡◌, subst}
use Rattle.std.specs.Prelude.{Result, Ok, Err, MatchResult}

-- what an answer says of the value that it is
pub ok_at : {A E : Type 0} (P : A → Type 0) (Q : E → Type 0) {r : Result A E} {y : A} → r ≡ Ok y → MatchResult r P Q → P y
ok_at P Q e h = subst (λ z. MatchResult z P Q) e h

-- what it says of the error
pub err_at : {A E : Type 0} (P : A → Type 0) (Q : E → Type 0) {r : Result A E} {x : E} → r ≡ Err x → MatchResult r P Q → Q x
err_at P Q e h = subst (λ z. MatchResult z P Q) e h
