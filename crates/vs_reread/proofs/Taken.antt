-- What was taken of a file.
use Rattle.std.proofs.Common.{◌≡◌, ℕ, ◌+◌, ◌-◌, ◌≤◌, Bool, IsTrue, List, [], ◌++◌, length, take, append_assoc, append-nil, refl, sym, ap, ◌∙◌, arith}
use Rattle.std.proofs.lemmas.List.{length-append, take_all, take-append-le}
use Rattle.std.proofs.Math.Seq.{take-length}
use Rattle.vs_reread.specs.Again.{most_bytes, IsStart}

-- The text is the head with what was taken of the file, of which this is left.
pub record IsTaken (tells : Bool) (head file left text : List ℕ) : Type 0 where
  pub taken : List ℕ
  pub text_is : text ≡ head ++ taken
  pub split : IsTrue tells → taken ++ left ≡ file

pub none_taken : (tells : Bool) (head file text : List ℕ) → text ≡ head → IsTaken tells head file file text
none_taken tells head file text e = record { taken = []; text_is = e ∙ sym (append-nil head); split = λ t. refl }

pub more_taken : (tells : Bool) (head file left text piece rest grown : List ℕ) → IsTaken tells head file left text → grown ≡ text ++ piece
    → (IsTrue tells → piece ++ rest ≡ left) → IsTaken tells head file rest grown
more_taken tells head file left text piece rest grown s g e = record {
  taken = s.taken ++ piece;
  text_is = g ∙ ap (λ (xs : List ℕ). xs ++ piece) s.text_is ∙ append_assoc head s.taken piece;
  split = λ t. append_assoc s.taken piece rest ∙ ap (λ (xs : List ℕ). s.taken ++ xs) (e t) ∙ s.split t;
}

-- the file ended within the bytes that a text may have
pub all_taken : (tells : Bool) (head file left text : List ℕ) → IsTaken tells head file left text → length text ≤ most_bytes → (IsTrue tells → left ≡ []) → IsStart tells head file text
all_taken tells head file left text s short e =
    let size = ap (λ (xs : List ℕ). length xs) s.text_is ∙ length-append head s.taken in
    let whole : IsTrue tells → s.taken ≡ file = λ t. sym (append-nil s.taken) ∙ ap (λ (xs : List ℕ). s.taken ++ xs) (sym (e t)) ∙ s.split t in
    record {
      taken = s.taken;
      text_is = s.text_is;
      taken_is = λ t. sym (take_all (most_bytes - length head) s.taken (omega arith)) ∙ ap (λ (xs : List ℕ). take (most_bytes - length head) xs) (whole t);
    }

-- the text has as many bytes as it may
pub full_taken : (tells : Bool) (head file left text : List ℕ) → IsTaken tells head file left text → length text ≡ most_bytes → IsStart tells head file text
full_taken tells head file left text s full =
    let size = ap (λ (xs : List ℕ). length xs) s.text_is ∙ length-append head s.taken in
    let count : most_bytes - length head ≡ length s.taken = omega arith in
    record {
      taken = s.taken;
      text_is = s.text_is;
      taken_is = λ t.
          sym (take-length s.taken) ∙ sym (take-append-le (length s.taken) s.taken left (omega arith)) ∙ ap (λ (xs : List ℕ). take (length s.taken) xs) (s.split t) ∙ ap (λ k. take k file) (sym count);
    }
