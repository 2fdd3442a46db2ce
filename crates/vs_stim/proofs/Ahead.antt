-- Runs of digits: as planes, in a field, and in a line.
use Rattle.std.proofs.Common.{◌≡◌, ℕ, zero, suc, ◌+◌, ◌-◌, ◌*◌, ◌/◌, ◌%◌, ◌^◌, ◌<◌, ◌≤◌, Bool, true, false, not, ◌&&◌, ◌||◌, nat_eq, List, [], ◌∷◌, ◌++◌, length, get_or, take, drop, refl, sym, ap, ◌∙◌, subst, inl, inr, arith, lit≤, add-one, add-zero, zero-add, take-suc, append_assoc, length-append, length-drop}
use Rattle.std.proofs.lemmas.List.{append-nil, map-append, length-take, take_all}
use Rattle.std.proofs.lemmas.Nat.{pow-add}
use Rattle.std.proofs.lemmas.Bool.Decides.{eqb_tells}
use Rattle.std.proofs.Math.Nat.{pow-suc, pow-le-pow_right}
use Rattle.std.proofs.Math.Seq.{take-add}
use Rattle.std.specs.Prelude.{Option, Some, None, IsTrue, slice_set}
use Rattle.vs_four.specs.declared.Bit4.{Bit4}
use Rattle.vs_four.specs.declared.Bit4.TheVariants.{Zero, One, X, Z}
use Rattle.vs_four.specs.Planes.{value_digit, unknown_digit, decode, bits_of_planes}
use Rattle.vs_four.specs.PlanesBack.{length-planes}
use Rattle.vs_desk.specs.Desk.{Told}
use Rattle.vs_stim.specs.declared.input.Column.{Column}
use Rattle.vs_stim.specs.declared.input.Expected.{Expected}
use Rattle.vs_stim.specs.declared.wanted.Digit.{Digit}
use Rattle.vs_stim.specs.declared.wanted.Digit.TheVariants.{Exactly, Any}
use Rattle.vs_stim.specs.declared.wants.Wants.{Wants}
use Rattle.vs_stim.specs.declared.row.Row.{Row}
use Rattle.vs_stim.specs.declared.source.Source.{Source}
use Rattle.vs_stim.specs.Fields.{Fields, words, all_fields}
use Rattle.vs_stim.specs.Lines.{Lines, lines, with_lf, with_byte, without_cr, no_lf, is_inner}
use Rattle.vs_stim.specs.Reading.{Said, limits, too_long}
use Rattle.vs_stim.specs.Reading.Said.{Malformed}
use Rattle.vs_stim.specs.Vectors.{digit, with_top, digits_by, bits_of, wanted_digit, wanted_of}
use Rattle.vs_stim.specs.Wanted.{Wanteds, exactly}
use Rattle.vs_stim.specs.Wants.{wanted_to_come, in_wanted, wants_with}
use Rattle.vs_stim.specs.Row.{Values, Tail, to_come, in_field, row_with, ReadsOn}
use Rattle.vs_stim.proofs.Counted.{both}
use Rattle.vs_stim.specs.Source.{Open, says, open_before, open_at, in_block, SameLine, GoesOn, GivesByte, WentOn, ReadsDigits, ReadsAhead, ReadsWantedDigits, ReadsBehind, is_told}

-- ---- planes

-- one digit more, below the others
pub planes_more : (n v u : ℕ) (d : Bit4) → bits_of_planes (n + 1) (2 * v + value_digit d) (2 * u + unknown_digit d) ≡ d ∷ bits_of_planes n v u
unfolding bits_of_planes
planes_more n v u d = ap (λ k. bits_of_planes k (2 * v + value_digit d) (2 * u + unknown_digit d)) (add-one n) ∙ of d
  where
    at : (d : Bit4) (a b : ℕ) → a < 2 → b < 2 → decode a b ≡ d → bits_of_planes (suc n) (2 * v + a) (2 * u + b) ≡ d ∷ bits_of_planes n v u
    at d a b h k e =
        let low : (2 * v + a) % 2 ≡ a = omega arith in
        let high : (2 * v + a) / 2 ≡ v = omega arith in
        let low_two : (2 * u + b) % 2 ≡ b = omega arith in
        let high_two : (2 * u + b) / 2 ≡ u = omega arith in
        (λ i. decode (low i) (low_two i) ∷ bits_of_planes n (high i) (high_two i)) ∙ ap (λ x. x ∷ bits_of_planes n v u) e

    of : (d : Bit4) → bits_of_planes (suc n) (2 * v + value_digit d) (2 * u + unknown_digit d) ≡ d ∷ bits_of_planes n v u
    of Zero = at Zero 0 0 (omega arith) (omega arith) refl
    of One = at One 1 0 (omega arith) (omega arith) refl
    of X = at X 1 1 (omega arith) (omega arith) refl
    of Z = at Z 0 1 (omega arith) (omega arith) refl

-- digits whose unknown plane is 0, below the others
pub planes_above : (k n v u low : ℕ) → low < 2 ^ k → bits_of_planes (k + n) (2 ^ k * v + low) (2 ^ k * u) ≡ bits_of_planes k low 0 ++ bits_of_planes n v u
unfolding bits_of_planes
planes_above zero n v u low h =
    let none : 2 ^ 0 * v + low ≡ v = omega arith in
    let none_two : 2 ^ 0 * u ≡ u = omega arith in
    (λ i. bits_of_planes (zero-add n i) (none i) (none_two i))
planes_above (suc k) n v u low h =
    let p = pow-suc 2 k in
    let twice : 2 ^ suc k * v ≡ 2 * (2 ^ k * v) = ap (λ m. m * v) p ∙ omega arith in
    let twice_two : 2 ^ suc k * u ≡ 2 * (2 ^ k * u) = ap (λ m. m * u) p ∙ omega arith in
    let half : low / 2 < 2 ^ k = omega (arith, p, h) in
    let below : (2 ^ suc k * v + low) % 2 ≡ low % 2 = omega (arith, twice) in
    let above : (2 ^ suc k * v + low) / 2 ≡ 2 ^ k * v + low / 2 = omega (arith, twice) in
    let below_two : (2 ^ suc k * u) % 2 ≡ 0 = omega (arith, twice_two) in
    let above_two : (2 ^ suc k * u) / 2 ≡ 2 ^ k * u = omega (arith, twice_two) in
    let more : suc k + n ≡ suc (k + n) = omega arith in
    ap (λ m. bits_of_planes m (2 ^ suc k * v + low) (2 ^ suc k * u)) more
    ∙ (λ i. decode (below i) (below_two i) ∷ bits_of_planes (k + n) (above i) (above_two i))
    ∙ ap (λ bits. decode (low % 2) 0 ∷ bits) (planes_above k n v u (low / 2) half)

pub below_more : (n v d : ℕ) → v < 2 ^ n → d < 2 → 2 * v + d < 2 ^ (n + 1)
below_more n v d h k = subst (λ m. 2 * v + d < 2 ^ m) (sym (add-one n)) (omega (arith, pow-suc 2 n))

pub digit_fits : (n v d : ℕ) → n < 64 → v < 2 ^ n → d < 2 → 2 * v + d < 2 ^ 64
digit_fits n v d m h k =
    let few : n + 1 ≤ 64 = omega arith in
    let some : 2 ^ (n + 1) ≤ 2 ^ 64 = pow-le-pow_right (lit≤ tt) few in
    omega (arith, below_more n v d h k, some)

pub half_fits : (n v : ℕ) → n < 64 → v < 2 ^ n → 2 * v < 2 ^ 64
half_fits n v m h = omega (arith, digit_fits n v 0 m h (omega arith))

pub eight_fits : (n v d : ℕ) → n + 8 ≤ 64 → v < 2 ^ n → d < 2 ^ 8 → 256 * v + d < 2 ^ 64
eight_fits n v d m h k =
    let few : 8 + n ≤ 64 = omega (arith, m) in
    let some : 2 ^ (8 + n) ≤ 2 ^ 64 = pow-le-pow_right (lit≤ tt) few in
    omega (arith, pow-add 2 8 n, some, h, k)

-- how many there are
pub planes_count : (n v u : ℕ) (bits : List Bit4) → bits_of_planes n v u ≡ bits → n ≡ length bits
planes_count n v u bits e = sym (length-planes n v u) ∙ ap length e

-- there is room for one more
pub room_more : (n v u count most : ℕ) (bits : List Bit4) → bits_of_planes n v u ≡ bits → length bits + most ≤ 64 → count < most → n + count < 64
room_more n v u count most bits e h k = omega (arith, planes_count n v u bits e, h, k)

-- and for eight more
pub room_eight : (n v u count most : ℕ) (bits : List Bit4) → bits_of_planes n v u ≡ bits → length bits + most ≤ 64 → count + 8 ≤ most → n + count + 8 ≤ 64
room_eight n v u count most bits e h k = omega (arith, planes_count n v u bits e, h, k)

pub value_below : (d : Bit4) → value_digit d < 2
value_below Zero = omega arith
value_below One = omega arith
value_below X = omega arith
value_below Z = omega arith

pub unknown_below : (d : Bit4) → unknown_digit d < 2
unknown_below Zero = omega arith
unknown_below One = omega arith
unknown_below X = omega arith
unknown_below Z = omega arith

-- ---- bytes that are digits

-- a digit is no other byte
pub other : {D : Type 0} (read : ℕ → Option D) (a n : ℕ) (d : D) → read a ≡ Some d → read n ≡ None → nat_eq a n ≡ false
other {D = D} read a n d h k = elim (eqb_tells a n) [ inl e ↦ absurd (never (sym h ∙ ap read e.1 ∙ k)) | inr e ↦ e.0 ]
  where
    never : ◌≡◌ {A = Option D} (Some d) None → ⊥
    never e = cc

-- what holds of the first byte and of the others
pub record FirstDigit {D : Type 0} (read : ℕ → Option D) (a : ℕ) (text : List ℕ) (digits : List D) : Type 0 where
  pub first : D
  pub is : read a ≡ Some first
  pub later : List D
  pub are : digits_by read text ≡ Some later
  pub digits_are : digits ≡ later ++ first ∷ []

pub first_digit : {D : Type 0} (read : ℕ → Option D) (a : ℕ) (text : List ℕ) (digits : List D) → digits_by read (a ∷ text) ≡ Some digits → FirstDigit read a text digits
first_digit {D = D} read a text digits h = of (read a) (digits_by read text) refl refl h
  where
    top : (d : D) (ds : List D) → (let o : Option (List D) = Some (ds ++ d ∷ []) in o) ≡ Some digits → digits ≡ ds ++ d ∷ []
    top d ds e = cc

    of : (o : Option D) (r : Option (List D)) → read a ≡ o → digits_by read text ≡ r → (elim o as (λ _. Option (List D)) [ None ↦ None | Some d ↦ with_top d r ]) ≡ Some digits → FirstDigit read a text digits
    of None r e f k = absurd (let x = k in cc)
    of (Some d) None e f k = absurd (let x = k in cc)
    of (Some d) (Some ds) e f k = record { first = d; is = e; later = ds; are = f; digits_are = top d ds k }

none_read : {D : Type 0} (read : ℕ → Option D) (digits : List D) → digits_by read [] ≡ Some digits → digits ≡ []
none_read read digits h = cc

-- one more behind them
pub bits_more : (text : List ℕ) (b : ℕ) (bits : List Bit4) (d : Bit4) → bits_of text ≡ Some bits → digit b ≡ Some d → bits_of (text ++ b ∷ []) ≡ Some (d ∷ bits)
bits_more [] b bits d h e = ap (λ o. elim o as (λ _. Option (List Bit4)) [ None ↦ None | Some x ↦ with_top x (Some []) ]) e ∙ ap (λ ds. let o : Option (List Bit4) = Some (d ∷ ds) in o) (sym (none_read digit bits h))
bits_more (a ∷ text) b bits d h e =
    let f = first_digit digit a text bits h in
    ap (λ o. elim o as (λ _. Option (List Bit4)) [ None ↦ None | Some x ↦ with_top x (bits_of (text ++ b ∷ [])) ]) f.is
    ∙ ap (with_top f.first) (bits_more text b f.later d f.are e)
    ∙ ap (λ ds. let o : Option (List Bit4) = Some (d ∷ ds) in o) (sym f.digits_are)

digits_length : {D : Type 0} (read : ℕ → Option D) (text : List ℕ) (digits : List D) → digits_by read text ≡ Some digits → length digits ≡ length text
digits_length read [] digits h = ap length (none_read read digits h)
digits_length read (a ∷ text) digits h =
    let f = first_digit read a text digits h in
    let e : length digits ≡ length (f.later ++ f.first ∷ []) = ap length f.digits_are in
    omega (arith, e, length-append f.later (f.first ∷ []), digits_length read text f.later f.are)

-- digits of later bytes below them
above : {D : Type 0} → List D → Option (List D) → Option (List D)
above digits None = None
above digits (Some ds) = Some (ds ++ digits)

digits_front : {D : Type 0} (read : ℕ → Option D) (text w : List ℕ) (digits : List D) → digits_by read text ≡ Some digits → digits_by read (text ++ w) ≡ above digits (digits_by read w)
unfolding above
digits_front {D = D} read [] w digits h = alone (digits_by read w) ∙ ap (λ ds. above ds (digits_by read w)) (sym (none_read read digits h))
  where
    alone : (o : Option (List D)) → o ≡ above [] o
    alone None = refl
    alone (Some ds) = ap (λ xs. let o : Option (List D) = Some xs in o) (sym (append-nil ds))
digits_front {D = D} read (a ∷ text) w digits h =
    let f = first_digit read a text digits h in
    ap (λ o. elim o as (λ _. Option (List D)) [ None ↦ None | Some x ↦ with_top x (digits_by read (text ++ w)) ]) f.is
    ∙ ap (with_top f.first) (digits_front read text w f.later f.are)
    ∙ topped f.later f.first (digits_by read w)
    ∙ ap (λ ds. above ds (digits_by read w)) (sym f.digits_are)
  where
    topped : (ds : List D) (d : D) (o : Option (List D)) → with_top d (above ds o) ≡ above (ds ++ d ∷ []) o
    topped ds d None = refl
    topped ds d (Some es) = ap (λ xs. let o : Option (List D) = Some xs in o) (append_assoc es ds (d ∷ []))

-- the same digits, as such that an output is wanted to have
pub exactly_read : (text : List ℕ) (bits : List Bit4) → bits_of text ≡ Some bits → wanted_of text ≡ Some (exactly bits)
exactly_read [] bits h = ap (λ bs. let o : Option (List Digit) = Some (exactly bs) in o) (sym (none_read digit bits h))
exactly_read (a ∷ text) bits h =
    let f = first_digit digit a text bits h in
    let no_dash : nat_eq a 45 ≡ false = other digit a 45 f.first f.is refl in
    let is : wanted_digit a ≡ Some (Exactly f.first) =
    (λ i. elim (no_dash i) as (λ _. Option Digit) [ true ↦ Some Any | false ↦ elim (f.is i) as (λ _. Option Digit) [ None ↦ None | Some d ↦ Some (Exactly d) ] ]) in
    ap (λ o. elim o as (λ _. Option (List Digit)) [ None ↦ None | Some x ↦ with_top x (wanted_of text) ]) is
    ∙ ap (with_top (Exactly f.first)) (exactly_read text f.later f.are)
    ∙ ap (λ ds. let o : Option (List Digit) = Some ds in o) (sym (map-append (λ b. Exactly b) f.later (f.first ∷ [])))
    ∙ ap (λ bs. let o : Option (List Digit) = Some (exactly bs) in o) (sym f.digits_are)

-- so many bytes were read, below the bits of these planes
pub record HasRead (bytes : List ℕ) (count n v u value unknown : ℕ) : Type 0 where
  pub within : count ≤ length bytes
  pub bits : List Bit4
  pub are : bits_of (take count bytes) ≡ Some bits
  pub planes : bits_of_planes (n + count) value unknown ≡ bits ++ bits_of_planes n v u
  pub value_fits : value < 2 ^ (n + count)
  pub unknown_fits : unknown < 2 ^ (n + count)

pub read_none : (bytes : List ℕ) (n v u : ℕ) → v < 2 ^ n → u < 2 ^ n → HasRead bytes 0 n v u v u
read_none bytes n v u h k = record {
  within = omega arith;
  bits = [];
  are = refl;
  planes = ap (λ m. bits_of_planes m v u) (add-zero n);
  value_fits = subst (λ m. v < 2 ^ m) (sym (add-zero n)) h;
  unknown_fits = subst (λ m. u < 2 ^ m) (sym (add-zero n)) k;
}

pub read_more : (bytes : List ℕ) (count n v u value unknown b : ℕ) (d : Bit4) → HasRead bytes count n v u value unknown → count < length bytes → get_or bytes count 0 ≡ b → digit b ≡ Some d
    → HasRead bytes (count + 1) n v u (2 * value + value_digit d) (2 * unknown + unknown_digit d)
read_more bytes count n v u value unknown b d h k e is = record {
  within = omega (arith, k);
  bits = d ∷ h.bits;
  are = ap bits_of taken ∙ bits_more (take count bytes) b h.bits d h.are is;
  planes = ap (λ m. bits_of_planes m (2 * value + value_digit d) (2 * unknown + unknown_digit d)) next ∙ planes_more (n + count) value unknown d ∙ ap (λ xs. d ∷ xs) h.planes;
  value_fits = subst (λ m. 2 * value + value_digit d < 2 ^ m) (sym next) (below_more (n + count) value (value_digit d) h.value_fits (value_below d));
  unknown_fits = subst (λ m. 2 * unknown + unknown_digit d < 2 ^ m) (sym next) (below_more (n + count) unknown (unknown_digit d) h.unknown_fits (unknown_below d));
}
  where
    next : n + (count + 1) ≡ (n + count) + 1
    next = omega arith

    taken : take (count + 1) bytes ≡ take count bytes ++ b ∷ []
    taken = ap (λ m. take m bytes) (add-one count) ∙ take-suc bytes count 0 k ∙ ap (λ x. take count bytes ++ x ∷ []) e

of_plain : (bytes : List ℕ) (count n v u value unknown m : ℕ) (d : Bit4) → HasRead bytes count n v u value unknown → count < length bytes → get_or bytes count 0 ≡ 48 + m → digit (48 + m) ≡ Some d → m ≡ value_digit d → 0 ≡ unknown_digit d
    → HasRead bytes (count + 1) n v u (2 * value + m) (unknown * 2)
of_plain bytes count n v u value unknown m d h k e is p q =
    let twice : 2 * unknown + unknown_digit d ≡ unknown * 2 = omega (arith, q) in
    subst (λ x. HasRead bytes (count + 1) n v u (2 * value + m) x) twice
    (subst (λ x. HasRead bytes (count + 1) n v u (2 * value + x) (2 * unknown + unknown_digit d)) (sym p) (read_more bytes count n v u value unknown (48 + m) d h k e is))

-- one that is no x or z
pub read_plain : (bytes : List ℕ) (count n v u value unknown b m : ℕ) → HasRead bytes count n v u value unknown → count < length bytes → get_or bytes count 0 ≡ b → m ≤ 1 → (m ≡ 0 → b ≡ 48) → (m ≡ 1 → b ≡ 49)
    → HasRead bytes (count + 1) n v u (2 * value + m) (unknown * 2)
read_plain bytes count n v u value unknown b zero h k e few p q = of_plain bytes count n v u value unknown 0 Zero h k (e ∙ p refl) refl refl refl
read_plain bytes count n v u value unknown b (suc zero) h k e few p q = of_plain bytes count n v u value unknown 1 One h k (e ∙ q refl) refl refl refl
read_plain bytes count n v u value unknown b (suc (suc m)) h k e few p q = absurd (let f : ⊥ = omega arith in f)

-- the bytes from a place on, as a slice gives them
pub behind_place : (bytes : List ℕ) (at : ℕ) → take (length bytes - at) (drop at bytes) ≡ drop at bytes
behind_place bytes at = take_all (length bytes - at) (drop at bytes) (let e = length-drop at bytes in omega (arith, e))

-- eight more behind them
pub read_eight : (bytes : List ℕ) (count n v u value unknown eight : ℕ) → HasRead bytes count n v u value unknown → bits_of (take 8 (take (length bytes - count) (drop count bytes))) ≡ Some (bits_of_planes 8 eight 0) → eight < 2 ^ 8
    → HasRead bytes (count + 8) n v u (256 * value + eight) (unknown * 256)
unfolding above
read_eight bytes count n v u value unknown eight h in_slice few = record {
  within = omega (arith, h.within, many, length-take 8 (drop count bytes), length-drop count bytes);
  bits = bits_of_planes 8 eight 0 ++ h.bits;
  are = ap bits_of (take-add count 8 bytes) ∙ digits_front digit (take count bytes) (take 8 (drop count bytes)) h.bits h.are ∙ ap (above h.bits) are;
  planes = (λ i. bits_of_planes (next i) (256 * value + eight) (turned i)) ∙ planes_above 8 (n + count) value unknown eight few ∙ ap (λ xs. bits_of_planes 8 eight 0 ++ xs) h.planes ∙ sym (append_assoc (bits_of_planes 8 eight 0) h.bits (bits_of_planes n v u));
  value_fits = subst (λ m. 256 * value + eight < 2 ^ m) (sym next) (omega (arith, wider, h.value_fits, few));
  unknown_fits = subst (λ m. unknown * 256 < 2 ^ m) (sym next) (omega (arith, wider, h.unknown_fits));
}
  where
    are : bits_of (take 8 (drop count bytes)) ≡ Some (bits_of_planes 8 eight 0)
    are = ap (λ bs. bits_of (take 8 bs)) (sym (behind_place bytes count)) ∙ in_slice

    next : n + (count + 8) ≡ 8 + (n + count)
    next = omega arith

    turned : unknown * 256 ≡ 256 * unknown
    turned = omega arith

    many : 8 ≡ length (take 8 (drop count bytes))
    many = sym (length-planes 8 eight 0) ∙ digits_length digit (take 8 (drop count bytes)) (bits_of_planes 8 eight 0) are

    wider : 2 ^ (8 + (n + count)) ≡ 256 * 2 ^ (n + count)
    wider = pow-add 2 8 (n + count)

-- one run behind another
pub reads_both : (bytes : List ℕ) (count more : ℕ) (high middle all : List Bit4) → ReadsOn bytes count high middle → ReadsOn (take (length bytes - count) (drop count bytes)) more middle all → ReadsOn bytes (count + more) high all
unfolding above
reads_both bytes count more high middle all r q = record {
  bits = q.bits ++ r.bits;
  are = ap bits_of (take-add count more bytes) ∙ digits_front digit (take count bytes) (take more (drop count bytes)) r.bits r.are ∙ ap (above r.bits) (ap (λ bs. bits_of (take more bs)) (sym (behind_place bytes count)) ∙ q.are);
  below = q.below ∙ ap (λ xs. q.bits ++ xs) r.below ∙ sym (append_assoc q.bits r.bits high);
}

-- ---- in a field

-- no digit is a blank
pub record NoBlanks {D : Type 0} (read : ℕ → Option D) : Type 0 where
  pub space : read 32 ≡ None
  pub tab : read 9 ≡ None

pub words_ahead : {D : Type 0} (read : ℕ → Option D) → NoBlanks read → (text rest : List ℕ) (digits : List D) → digits_by read text ≡ Some digits
    → words (text ++ rest) ≡ record { word = text ++ (words rest).word; later = (words rest).later }
words_ahead read n [] rest digits h = refl
words_ahead read n (a ∷ text) rest digits h =
    let f = first_digit read a text digits h in
    (λ i. with_word (other read a 32 f.first f.is n.space i || other read a 9 f.first f.is n.tab i) (words_ahead read n text rest f.later f.are i))
  where
    with_word : Bool → Fields → Fields
    with_word b t = elim b as (λ _. Fields) [ true ↦ record { word = []; later = all_fields t.word t.later } | false ↦ record { word = a ∷ t.word; later = t.later } ]

-- a field of so many digits has begun, and `next` is what the line says by all its digits and the fields behind it
in_digits : {D A : Type 0} → (ℕ → Option D) → ℕ → (List D → List (List ℕ) → Said A) → List D → Fields → Said A
in_digits {A = A} read long next high t =
    elim (nat_eq (length t.word + length high) long) as (λ _. Said A) [
      | false ↦ Malformed
      | true ↦ elim (digits_by read t.word) as (λ _. Said A) [ None ↦ Malformed | Some ds ↦ next (ds ++ high) t.later ]
    ]

field_ahead : {D A : Type 0} (read : ℕ → Option D) (long : ℕ) (next : List D → List (List ℕ) → Said A) (text : List ℕ) (digits high : List D) (t : Fields) → digits_by read text ≡ Some digits
    → in_digits read long next (digits ++ high) t ≡ in_digits read long next high (record { word = text ++ t.word; later = t.later })
unfolding above in_digits
field_ahead {D = D} {A = A} read long next text digits high t h =
    let many : length t.word + length (digits ++ high) ≡ length (text ++ t.word) + length high = omega (arith, length-append digits high, length-append text t.word, digits_length read text digits h) in
    ap (λ n. elim (nat_eq n long) as (λ _. Said A) [
      | false ↦ Malformed
      | true ↦ elim (digits_by read t.word) as (λ _. Said A) [ None ↦ Malformed | Some ds ↦ next (ds ++ (digits ++ high)) t.later ]
    ]) many
    ∙ ap (λ s. elim (nat_eq (length (text ++ t.word) + length high) long) as (λ _. Said A) [ false ↦ Malformed | true ↦ s ]) (below (digits_by read t.word) ∙ ap behind (sym (digits_front read text t.word digits h)))
  where
    behind : Option (List D) → Said A
    behind o = elim o as (λ _. Said A) [ None ↦ Malformed | Some ds ↦ next (ds ++ high) t.later ]

    below : (o : Option (List D)) → (elim o as (λ _. Said A) [ None ↦ Malformed | Some ds ↦ next (ds ++ (digits ++ high)) t.later ]) ≡ behind (above digits o)
    below None = refl
    below (Some ds) = ap (λ v. next v t.later) (sym (append_assoc ds digits high))

-- digits in front of what a field goes on with
digits_go_on : {D A : Type 0} (read : ℕ → Option D) → NoBlanks read → (long : ℕ) (next : List D → List (List ℕ) → Said A) (text : List ℕ) (digits high all : List D) (rest : List ℕ)
    → digits_by read text ≡ Some digits → all ≡ digits ++ high → in_digits read long next all (words rest) ≡ in_digits read long next high (words (text ++ rest))
digits_go_on read n long next text digits high all rest h e =
    ap (λ a. in_digits read long next a (words rest)) e
    ∙ field_ahead read long next text digits high (words rest) h
    ∙ ap (in_digits read long next high) (sym (words_ahead read n text rest digits h))

pub field_goes_on : (tail : Tail) (c : Column) (text : List ℕ) (bits high all : List Bit4) (left : List Column) (stored : Values) (rest : List ℕ) → bits_of text ≡ Some bits → all ≡ bits ++ high
    → in_field tail c all left stored (words rest) ≡ in_field tail c high left stored (words (text ++ rest))
unfolding in_digits
field_goes_on tail c text bits high all left stored rest h e =
    digits_go_on digit (record { space = refl; tab = refl }) c.length (λ v fs. to_come tail left (slice_set stored c.input v) fs) text bits high all rest h e

pub wanted_goes_on : (es : List Expected) (n : ℕ) (text : List ℕ) (digits high all : List Digit) (stored : Wanteds) (rest : List ℕ) → wanted_of text ≡ Some digits → all ≡ digits ++ high
    → in_wanted es all n stored (words rest) ≡ in_wanted es high n stored (words (text ++ rest))
unfolding in_digits
wanted_goes_on [] n text digits high all stored rest h e = refl
wanted_goes_on (x ∷ es) n text digits high all stored rest h e =
    digits_go_on wanted_digit (record { space = refl; tab = refl }) x.length (λ w fs. wanted_to_come es (n + 1) (slice_set stored n w) fs) text digits high all rest h e

-- ---- in a line

-- what holds of the first byte and of the others
inner_parts : (a : ℕ) (text : List ℕ) → is_inner (a ∷ text) ≡ true → (nat_eq a 10 ≡ false) × (nat_eq a 13 ≡ false) × (is_inner text ≡ true)
inner_parts a text h =
    let p = both (not (nat_eq a 10) && not (nat_eq a 13)) (is_inner text) h in
    let q = both (not (nat_eq a 10)) (not (nat_eq a 13)) p.0 in
    (is_false (nat_eq a 10) q.0, is_false (nat_eq a 13) q.1, p.1)
  where
    is_false : (b : Bool) → not b ≡ true → b ≡ false
    is_false true e = sym e
    is_false false e = refl

-- no digit ends a line
pub record NoEnds {D : Type 0} (read : ℕ → Option D) : Type 0 where
  pub lf : read 10 ≡ None
  pub cr : read 13 ≡ None

pub inner_digits : {D : Type 0} (read : ℕ → Option D) → NoEnds read → (text : List ℕ) (digits : List D) → digits_by read text ≡ Some digits → is_inner text ≡ true
inner_digits read n [] digits h = refl
inner_digits read n (a ∷ text) digits h =
    let f = first_digit read a text digits h in
    (λ i. not (other read a 10 f.first f.is n.lf i) && not (other read a 13 f.first f.is n.cr i) && is_inner text) ∙ inner_digits read n text f.later f.are

pub inner-append : (a b : List ℕ) → is_inner a ≡ true → is_inner b ≡ true → is_inner (a ++ b) ≡ true
inner-append [] b h k = k
inner-append (x ∷ a) b h k =
    let p = inner_parts x a h in
    (λ i. not (p.0 i) && not (p.1 i) && is_inner (a ++ b)) ∙ inner-append a b p.2 k

lines_ahead : (text rest : List ℕ) → is_inner text ≡ true
    → lines (text ++ rest) ≡ record { first = record { bytes = text ++ (lines rest).first.bytes; ended = (lines rest).first.ended }; later = (lines rest).later }
lines_ahead [] rest h = refl
lines_ahead (a ∷ text) rest h =
    let p = inner_parts a text h in
    ap (λ b. elim b as (λ _. Lines) [ true ↦ with_lf (lines (text ++ rest)) | false ↦ with_byte a (lines (text ++ rest)) ]) p.0 ∙ ap (with_byte a) (lines_ahead text rest p.2)

pub no_lf_ahead : (text : List ℕ) → is_inner text ≡ true → no_lf text ≡ true
no_lf_ahead [] h = refl
no_lf_ahead (a ∷ text) h = let p = inner_parts a text h in ap (λ b. not b && no_lf text) p.0 ∙ no_lf_ahead text p.2

pub without_cr_ahead : (text rest : List ℕ) → is_inner text ≡ true → without_cr (text ++ rest) ≡ text ++ without_cr rest
without_cr_ahead [] rest h = refl
without_cr_ahead (a ∷ text) rest h = let p = inner_parts a text h in kept (text ++ rest) p.1 ∙ ap (λ bs. a ∷ bs) (without_cr_ahead text rest p.2)
  where
    kept : (bs : List ℕ) → nat_eq a 13 ≡ false → without_cr (a ∷ bs) ≡ a ∷ without_cr bs
    kept [] e = ap (λ b. elim b as (λ _. List ℕ) [ true ↦ [] | false ↦ a ∷ [] ]) e
    kept (b ∷ bs) e = refl

-- the reader is behind this text of its line
pub record IsBehind (text : List ℕ) (old new : Open) : Type 0 where
  pub inner : is_inner text ≡ true
  pub rest : old.rest ≡ text ++ new.rest
  pub taken : new.taken ≡ old.taken + length text
  pub at : new.at ≡ old.at

pub line_ahead : (text : List ℕ) (old new : Open) → IsBehind text old new → SameLine old new
line_ahead text old new h =
    let l = ap lines h.rest ∙ lines_ahead text new.rest h.inner in
    record {
      at = h.at;
      size = omega (arith, h.taken, ap (λ (x : Lines). length x.first.bytes) l, length-append text (lines new.rest).first.bytes);
      ended = sym (ap (λ (x : Lines). x.first.ended) l);
      later = sym (ap (λ (x : Lines). x.later) l);
    }

pub goes_ahead : (text : List ℕ) (old new : Open) → IsBehind text old new → GoesOn old new
goes_ahead text old new h = record { bytes = text; inner = no_lf_ahead text h.inner; rest = h.rest; taken = h.taken; at = h.at }

pub says_behind : (text : List ℕ) (old new : Open) → IsBehind text old new → says old ≡ text ++ says new
says_behind text old new h =
    ap (λ (x : Lines). elim x.first.ended as (λ _. List ℕ) [ true ↦ without_cr x.first.bytes | false ↦ x.first.bytes ]) (ap lines h.rest ∙ lines_ahead text new.rest h.inner) ∙ of (lines new.rest).first.ended
  where
    of : (b : Bool) → (elim b as (λ _. List ℕ) [ true ↦ without_cr (text ++ (lines new.rest).first.bytes) | false ↦ text ++ (lines new.rest).first.bytes ])
        ≡ text ++ (elim b as (λ _. List ℕ) [ true ↦ without_cr (lines new.rest).first.bytes | false ↦ (lines new.rest).first.bytes ])
    of true = without_cr_ahead text (lines new.rest).first.bytes h.inner
    of false = refl

-- ---- in a source

-- nothing was read
pub reads_none : (row : Row) (s : Source) → ReadsAhead row row s s
reads_none row s = record {
  text = [];
  went = record { block = refl; moved = ap (λ n. record s { length = n }) (sym (add-zero s.length)) };
  inner = refl;
  says = λ rest. refl;
}

-- digits were read
pub reads_digits : (before after : Row) (old new : Source) (high all : List Bit4) → ReadsDigits old new high all
    → ((text rest : List ℕ) (bits : List Bit4) → bits_of text ≡ Some bits → all ≡ bits ++ high → row_with after rest ≡ row_with before (text ++ rest)) → ReadsAhead before after old new
reads_digits before after old new high all r f = record { text = r.text; went = r.went; inner = inner_digits digit (record { lf = refl; cr = refl }) r.text r.bits r.are; says = λ rest. f r.text rest r.bits r.are r.below }

-- digits that an output is wanted to have were read
pub reads_wanted : (before after : Wants) (old new : Source) (high all : List Digit) → ReadsWantedDigits old new high all
    → ((text rest : List ℕ) (digits : List Digit) → wanted_of text ≡ Some digits → all ≡ digits ++ high → wants_with after rest ≡ wants_with before (text ++ rest))
    → ReadsBehind before after old new
reads_wanted before after old new high all r f = record {
  text = r.text;
  went = r.went;
  inner = inner_digits wanted_digit (record { lf = refl; cr = refl }) r.text r.digits r.are;
  says = λ rest. f r.text rest r.digits r.are r.below;
}

-- nothing was read
pub behind_none : (w : Wants) (s : Source) → ReadsBehind w w s s
behind_none w s = record {
  text = [];
  went = record { block = refl; moved = ap (λ n. record s { length = n }) (sym (add-zero s.length)) };
  inner = refl;
  says = λ rest. refl;
}

-- one behind the other
pub reads_more : (a b c : Row) (s t u : Source) → ReadsAhead a b s t → ReadsAhead b c t u → ReadsAhead a c s u
reads_more a b c s t u r q = record {
  text = r.text ++ q.text;
  went = record {
    block = r.went.block ∙ ap (λ bs. r.text ++ bs) q.went.block ∙ sym (append_assoc r.text q.text u.block);
    moved = q.went.moved ∙ ap (λ (x : Source). record x { block = u.block; length = x.length + length q.text }) r.went.moved ∙ ap (λ n. record s { block = u.block; length = n }) long;
  };
  inner = inner-append r.text q.text r.inner q.inner;
  says = λ rest. q.says rest ∙ r.says (q.text ++ rest) ∙ ap (row_with a) (sym (append_assoc r.text q.text rest));
}
  where
    long : s.length + length r.text + length q.text ≡ s.length + length (r.text ++ q.text)
    long = omega (arith, length-append r.text q.text)

-- and one byte more
pub reads_on : (first before after : Row) (start old new : Source) (byte : ℕ) → ReadsAhead first before start old → WentOn (byte ∷ []) old new → is_inner (byte ∷ []) ≡ true
    → ((rest : List ℕ) → row_with after rest ≡ row_with before (byte ∷ rest)) → ReadsAhead first after start new
reads_on first before after start old new byte r w h f = reads_more first before after start old new r (record { text = byte ∷ []; went = w; inner = h; says = f })

-- where the reader is behind what a row read ahead
ahead_at : (before after : Row) (old new : Source) (r : ReadsAhead before after old new) (a b : List ℕ) → a ≡ r.text ++ b → IsBehind r.text (open_before old a) (open_before new b)
ahead_at before after old new r a b e = record {
  inner = r.inner;
  rest = e;
  taken = ap (λ (s : Source). s.length) r.went.moved;
  at = λ i. record { number = (r.went.moved i).number; start = (r.went.moved i).start };
}

pub ahead_in_block : (before after : Row) (old new : Source) (r : ReadsAhead before after old new) → IsBehind r.text (in_block old) (in_block new)
ahead_in_block before after old new r = ahead_at before after old new r old.block new.block r.went.block

pub ahead_on_desk : {tells : Bool} (told : Told tells) (before after : Row) (old new : Source) (r : ReadsAhead before after old new) → IsBehind r.text (open_at old told) (open_at new told)
ahead_on_desk told before after old new r =
    ahead_at before after old new r (old.block ++ told.contents.left old.place) (new.block ++ told.contents.left new.place)
    (ap (λ bs. bs ++ told.contents.left old.place) r.went.block
    ∙ append_assoc r.text new.block (told.contents.left old.place)
    ∙ ap (λ (s : Source). r.text ++ (new.block ++ told.contents.left s.place)) (sym r.went.moved))

-- the row says the same of the line
pub ahead_says : (before after : Row) (old new : Source) (r : ReadsAhead before after old new) (o p : Open) → IsBehind r.text o p → row_with after (says p) ≡ row_with before (says o)
ahead_says before after old new r o p h = r.says (says p) ∙ ap (row_with before) (sym (says_behind r.text o p h))

-- the same line, behind one byte of it and behind more
pub byte_line : (byte : ℕ) (o p : Open) → GivesByte byte o p → p.at ≡ o.at → SameLine o p
byte_line byte o p h e = record { at = e; size = h.size; ended = h.ended; later = h.later }

pub line_on : (o p q : Open) → SameLine o p → SameLine p q → SameLine o q
line_on o p q h k = record { at = k.at ∙ h.at; size = k.size ∙ h.size; ended = k.ended ∙ h.ended; later = k.later ∙ h.later }

-- what tells the line tells it there too
pub told_on : (o p : Open) → SameLine o p → IsTrue (is_told o) → IsTrue (is_told p)
told_on o p h t = (λ i. elim (too_long limits (h.at i) (h.size i) (h.ended i)) as (λ _. Bool) [ Some e ↦ true | None ↦ h.ended i ]) ∙ t
