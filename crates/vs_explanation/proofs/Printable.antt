-- Bytes that are printable are shown as they are.
use Rattle.std.proofs.Common.{◌≡◌, ℕ, Bool, true, cond, List, [], ◌∷◌, ◌++◌, refl, ap, ◌∙◌}
use Rattle.std.specs.List.{list_all}
use Rattle.std.proofs.lemmas.Bool.{and_parts}
use Rattle.vs_excerpt.specs.Escapes.{is_printable, escaped_byte, escaped}

first_of : (b : Bool) (xs ys : List ℕ) → b ≡ true → cond b xs ys ≡ xs
first_of b xs ys e = rw e refl

byte_shown : (b : ℕ) → is_printable b ≡ true → escaped_byte b ≡ b ∷ []
byte_shown b e = first_of (is_printable b) (b ∷ []) _ e

pub all_shown : (bytes : List ℕ) → list_all is_printable bytes ≡ true → escaped bytes ≡ bytes
all_shown [] e = refl
all_shown (b ∷ bytes) e =
    let p = and_parts (is_printable b) (list_all is_printable bytes) e in
    ap (λ (xs : List ℕ). xs ++ escaped bytes) (byte_shown b p.0) ∙ ap (λ (xs : List ℕ). b ∷ xs) (all_shown bytes p.1)
