-- The text of digits.
use Rattle.std.proofs.Common.{◌≡◌, ℕ, ◌+◌, ◌-◌, ◌<◌, ◌≤◌, List, [], ◌∷◌, ◌++◌, length, map, reverse, take, get_or, set, slice_get, Some, None, Option, refl, sym, ap, ◌∙◌, inl, inr, arith}
use Rattle.std.proofs.lemmas.Bool.{cases_eq}
use Rattle.std.proofs.lemmas.Option.{get_or_from_slice_get}
use Rattle.std.proofs.lemmas.List.{reverse-append, reverse-reverse, length-set, get_or-map, get_or-reverse, length-map, length-reverse, ext_get_or, get_or-take, length-take-le, get_or-set_same, get_or-set_other}
use Rattle.vs_four.specs.declared.Bit4.TheVariants.{Zero, One, X, Z}
use Rattle.vs_stim.specs.declared.wanted.Digit.{Digit}
use Rattle.vs_stim.specs.declared.wanted.Digit.TheVariants.{Exactly, Any}
use Rattle.vs_stim.specs.Vectors.{wanted_digit, with_top, wanted_of}
use Rattle.vs_misses.specs.Texts.{digit_byte}
use Rattle.vs_misses.specs.Laws.{TextReadsBack}

byte_reads : (d : Digit) → wanted_digit (digit_byte d) ≡ Some d
byte_reads Any = refl
byte_reads (Exactly Zero) = refl
byte_reads (Exactly One) = refl
byte_reads (Exactly X) = refl
byte_reads (Exactly Z) = refl

-- the first byte is the digit on top
top_reads : (b : ℕ) (d : Digit) (bs : List ℕ) (ds : List Digit) → wanted_digit b ≡ Some d → wanted_of bs ≡ Some ds → wanted_of (b ∷ bs) ≡ Some (ds ++ d ∷ [])
top_reads b d bs ds e h =
    ap (λ (o : Option Digit). elim o as (λ _. Option (List Digit)) [ None ↦ None | Some x ↦ with_top x (wanted_of bs) ]) e ∙ ap (with_top d) h

-- bytes of digits, most significant first
reads_up : (ds : List Digit) → wanted_of (map digit_byte ds) ≡ Some (reverse ds)
reads_up [] = refl
reads_up (d ∷ ds) = top_reads (digit_byte d) d (map digit_byte ds) (reverse ds) (byte_reads d) (reads_up ds) ∙ sym (ap Some (reverse-append (d ∷ []) ds))

pub text_reads_back : TextReadsBack
text_reads_back w = reads_up (reverse w) ∙ ap Some (reverse-reverse w)

-- ---- a text that was written byte by byte

-- the first bytes are those of the text
pub record IsWritten (text : List ℕ) (count : ℕ) (bytes : List ℕ) : Type 0 where
  pub room : length bytes ≡ 64
  pub same : (j : ℕ) → j < count → get_or bytes j 0 ≡ get_or text j 0

pub written_more : (text : List ℕ) (count : ℕ) (bytes : List ℕ) (b : ℕ) → count < 64 → b ≡ get_or text count 0 → IsWritten text count bytes → IsWritten text (count + 1) (set bytes count b)
written_more text count bytes b within here h = record {
  room = length-set bytes count b ∙ h.room;
  same = λ j below. elim (cases_eq j count) as (λ _. get_or (set bytes count b) j 0 ≡ get_or text j 0) [
    | inl e ↦ ap (λ (k : ℕ). get_or (set bytes count b) k 0) e ∙ get_or-set_same bytes count b 0 (omega (arith, h.room)) ∙ here ∙ ap (λ (k : ℕ). get_or text k 0) (sym e)
    | inr ne ↦ get_or-set_other bytes count j b 0 ne ∙ h.same j (omega arith)
  ];
}

pub written_all : (text : List ℕ) (count : ℕ) (bytes : List ℕ) → count ≤ 64 → length text ≡ count → IsWritten text count bytes → take count bytes ≡ text
written_all text count bytes few e h =
    let long : length (take count bytes) ≡ count = length-take-le count bytes (omega (arith, h.room)) in
    ext_get_or 0 (take count bytes) text (long ∙ sym e) (λ i within. get_or-take count bytes i 0 (omega arith) ∙ h.same i (omega arith))

-- the bytes of a list, last element first, where each element has its byte
pub length_text : {D : Type 0} (byte : D → ℕ) (ds : List D) → length (map byte (reverse ds)) ≡ length ds
length_text byte ds = length-map (reverse ds) byte ∙ length-reverse ds

pub text_at : {D : Type 0} (byte : D → ℕ) (ds : List D) (n j : ℕ) (d : D) → n ≡ length ds → j < n → slice_get ds (n - 1 - j) ≡ Some d → byte d ≡ get_or (map byte (reverse ds)) j 0
text_at byte ds n j d long within at =
    let there : get_or ds (length ds - 1 - j) d ≡ d = ap (λ (k : ℕ). get_or ds (k - 1 - j) d) (sym long) ∙ get_or_from_slice_get ds (n - 1 - j) d d at in
    sym (get_or-map byte (reverse ds) j d 0 (omega (arith, length-reverse ds)) ∙ ap byte (get_or-reverse ds j d (omega arith) ∙ there))
