-- Paths as texts.
use Rattle.std.proofs.Common.{◌≡◌, ◌≢◌, ℕ, false, List, ◌++◌, sym, ◌∙◌, ap}
use Rattle.std.specs.Str.{bytes_eq}
use Rattle.std.proofs.lemmas.List.{append_cancel_right}
use Rattle.std.proofs.lemmas.Bool.Decides.{same_from_decides}
use Rattle.std.proofs.lemmas.Slice.Eq.{bytes_eq-Decides}

-- a text that is no front with this ending isn't any word with it
pub bytes_eq-none : (text word ending : List ℕ) → ((front : List ℕ) → text ≢ front ++ ending) → false ≡ bytes_eq text (word ++ ending)
bytes_eq-none text word ending none =
    same_from_decides {P = text ≡ word ++ ending} false _ (λ e. absurd (cc), λ e. absurd (none word e)) (bytes_eq-Decides text (word ++ ending))

-- equal texts have equal words where their endings are the same
pub bytes_eq-append : (text front word ending : List ℕ) → text ≡ front ++ ending → bytes_eq front word ≡ bytes_eq text (word ++ ending)
bytes_eq-append text front word ending e =
    let d = bytes_eq-Decides front word in
    same_from_decides {P = text ≡ word ++ ending} _ _
    (λ r. e ∙ ap (λ (x : List ℕ). x ++ ending) (d.0 r), λ h. d.1 (append_cancel_right front word ending (sym e ∙ h)))
    (bytes_eq-Decides text (word ++ ending))

pub bytes_eq-comm : (xs ys : List ℕ) → bytes_eq xs ys ≡ bytes_eq ys xs
bytes_eq-comm xs ys =
    let d = bytes_eq-Decides ys xs in
    same_from_decides {P = xs ≡ ys} _ _ (bytes_eq-Decides xs ys) (λ r. sym (d.0 r), λ h. d.1 (sym h))
