-- What was taken of a design's file.
use Rattle.std.proofs.Common.{◌≡◌, ℕ, ◌+◌, ◌-◌, ◌<◌, ◌≤◌, Bool, IsTrue, List, [], ◌++◌, length, drop, append_assoc, append-nil, refl, sym, ap, ◌∙◌, arith}
use Rattle.std.proofs.lemmas.List.{length-append, drop_at}
use Rattle.vs_accept.specs.Accepted.{most_bytes}
use Rattle.vs_setup.specs.DesignText.{IsBehind, IsTooLongBehind, IsPartTaken}

-- The text is the head with what was taken of the file, of which this is left.
pub record IsTaken (tells : Bool) (head file left text : List ℕ) : Type 0 where
  pub taken : List ℕ
  pub text_is : text ≡ head ++ taken
  pub split : IsTrue tells → taken ++ left ≡ file

pub none_taken : (tells : Bool) (head file text : List ℕ) → text ≡ head → IsTaken tells head file file text
none_taken tells head file text e = record { taken = []; text_is = e ∙ sym (append-nil head); split = λ t. refl }

pub more_taken : (tells : Bool) (head file left text piece rest grown : List ℕ) → IsTaken tells head file left text → grown ≡ text ++ piece
    → (IsTrue tells → piece ++ rest ≡ left) → IsTaken tells head file rest grown
more_taken tells head file left text piece rest grown s g e = record {
  taken = s.taken ++ piece;
  text_is = g ∙ ap (λ (xs : List ℕ). xs ++ piece) s.text_is ∙ append_assoc head s.taken piece;
  split = λ t. append_assoc s.taken piece rest ∙ ap (λ (xs : List ℕ). s.taken ++ xs) (e t) ∙ s.split t;
}

pub all_taken : (tells : Bool) (head file left text : List ℕ) → IsTaken tells head file left text → (IsTrue tells → left ≡ []) → IsBehind tells head file text
all_taken tells head file left text s e = record {
  taken = s.taken;
  text_is = s.text_is;
  taken_is = λ t. sym (append-nil s.taken) ∙ ap (λ (xs : List ℕ). s.taken ++ xs) (sym (e t)) ∙ s.split t;
}

pub part_taken : (tells : Bool) (head file left text now : List ℕ) → IsTaken tells head file left text → length text ≤ most_bytes → IsTrue tells → now ≡ left → IsPartTaken head file now
part_taken tells head file left text now s short t e =
    let size = ap (λ (xs : List ℕ). length xs) s.text_is ∙ length-append head s.taken in
    record {
      count = length s.taken;
      few = omega arith;
      left_is = e ∙ sym (ap (λ (xs : List ℕ). drop (length s.taken) xs) (sym (s.split t)) ∙ drop_at s.taken left (length s.taken) refl);
    }

-- the text has more bytes than it may
pub long_taken : (tells : Bool) (head file left text : List ℕ) → IsTaken tells head file left text → IsTrue tells → most_bytes < length text → length text ≤ most_bytes + 1 → IsTooLongBehind head file left
long_taken tells head file left text s t long most =
    let split = s.split t in
    let size = ap (λ (xs : List ℕ). length xs) s.text_is ∙ length-append head s.taken in
    let whole = sym (ap (λ (xs : List ℕ). length xs) split) ∙ length-append s.taken left in
    let both = length-append head file in
    record {
      long = omega arith;
      taken = sym (ap (λ (xs : List ℕ). drop (most_bytes + 1 - length head) xs) (sym split) ∙ drop_at s.taken left (most_bytes + 1 - length head) (omega arith));
    }
