-- The head of a number in a prefix of a text.
use Rattle.std.proofs.Common.{◌≡◌, ℕ, zero, suc, ◌+◌, ◌-◌, ◌<◌, ◌≤◌, Bool, true, false, cond, List, [], ◌∷◌, refl, sym, ◌∙◌, ap, length, take, drop, get_or, arith, min, length-take, get_or-take, ◌⊎◌, inl, inr}
use Rattle.std.specs.Prelude.{Option, Some, None, ◌==◌}
use Rattle.std.specs.List.{prefix_len}
use Rattle.std.proofs.lemmas.List.{get_or_past}
use Rattle.std.proofs.lemmas.Bool.{cases_lt}
use Rattle.vs_lexer.specs.declared.bytes.Base.{Base}
use Rattle.vs_lexer.specs.declared.bytes.ByteClass.TheVariants as class
use Rattle.vs_lexer.specs.declared.number.LiteralHead.{LiteralHead}
use Rattle.vs_lexer.specs.Classes.{is_in, is_digit, base_of}
use Rattle.vs_lexer.specs.Literals.{size_length, quote_place, is_sign_mark, head_at, head_of, are_digits, is_based}

-- ---- lists

pub prefix_len-take : (p : ℕ → Bool) (xs : List ℕ) (m : ℕ) → prefix_len p (take m xs) ≡ min m (prefix_len p xs)
prefix_len-take p xs zero = omega arith
prefix_len-take p [] (suc m) = omega arith
prefix_len-take p (x ∷ xs) (suc m) = go (p x) (prefix_len-take p xs m)
  where
    go : (b : Bool) → prefix_len p (take m xs) ≡ min m (prefix_len p xs) → cond b (1 + prefix_len p (take m xs)) 0 ≡ min (suc m) (cond b (1 + prefix_len p xs) 0)
    go true ih = omega arith
    go false ih = omega arith

take_none : (k : ℕ) → ◌≡◌ {A = List ℕ} [] (take k [])
take_none zero = refl
take_none (suc k) = refl

pub drop-take : (n m : ℕ) (xs : List ℕ) → drop n (take m xs) ≡ take (m - n) (drop n xs)
drop-take zero m xs = let e : m - 0 ≡ m = omega arith in ap (λ k. take k xs) (sym e)
drop-take (suc n) zero xs = let e : 0 - suc n ≡ 0 = omega arith in ap (λ k. take k (drop (suc n) xs)) (sym e)
drop-take (suc n) (suc m) [] = take_none (suc m - suc n)
drop-take (suc n) (suc m) (x ∷ xs) = let e : suc m - suc n ≡ m - n = omega arith in drop-take n m xs ∙ ap (λ k. take k (drop n xs)) (sym e)

read_within : (m : ℕ) (t : List ℕ) (i : ℕ) → i < m → get_or (take m t) i 0 ≡ get_or t i 0
read_within m t i h = get_or-take m t i 0 h

read_past : (m : ℕ) (t : List ℕ) (i : ℕ) → m ≤ i → get_or (take m t) i 0 ≡ 0
read_past m t i h = get_or_past (take m t) i 0 (let e : length (take m t) ≡ min m (length t) = length-take m t in omega arith)

-- ---- the parts of a head

size_by : (d : Bool) (m : ℕ) (t : List ℕ) → 0 < m → cond d (prefix_len (is_in class.Decimal) (take m t)) 0 ≡ min m (cond d (prefix_len (is_in class.Decimal) t) 0)
size_by true m t h = prefix_len-take (is_in class.Decimal) t m
size_by false m t h = omega arith

pub size-take : (m : ℕ) (t : List ℕ) → size_length (take m t) ≡ min m (size_length t)
size-take zero t = omega arith
size-take (suc m) t = ap (λ b. cond (is_digit b) (prefix_len (is_in class.Decimal) (take (suc m) t)) 0) (read_within (suc m) t 0 (omega arith)) ∙ size_by (is_digit (get_or t 0 0)) (suc m) t (omega arith)

blanks_at : ℕ → List ℕ → ℕ
blanks_at n t = prefix_len (is_in class.Blank) (drop n t)

blanks-take : (n m : ℕ) (t : List ℕ) → blanks_at n (take m t) ≡ min (m - n) (blanks_at n t)
unfolding blanks_at
blanks-take n m t = ap (λ r. prefix_len (is_in class.Blank) r) (drop-take n m t) ∙ prefix_len-take (is_in class.Blank) (drop n t) (m - n)

place_sum : (m s k : ℕ) (t : List ℕ) → k ≡ blanks_at s t → min m s + blanks_at (min m s) (take m t) ≡ min m (s + k)
place_sum m s k t e = elim (cases_lt s m) [
  | inl h ↦ let z : min m s ≡ s = omega arith in rw z (let w = blanks-take s m t in omega arith)
  | inr h ↦ let z : min m s ≡ m = omega arith in rw z (let w = blanks-take m m t in omega arith)
]

pub quote-take : (m : ℕ) (t : List ℕ) → quote_place (take m t) ≡ min m (quote_place t)
unfolding blanks_at
quote-take zero t = omega arith
quote-take (suc m) t =
    ap (λ b. cond (is_digit b) (size_length (take (suc m) t) + blanks_at (size_length (take (suc m) t)) (take (suc m) t)) 0) (read_within (suc m) t 0 (omega arith))
    ∙ ap (λ s. cond (is_digit (get_or t 0 0)) (s + blanks_at s (take (suc m) t)) 0) (size-take (suc m) t)
    ∙ by (is_digit (get_or t 0 0))
  where
    by : (d : Bool) → cond d (min (suc m) (size_length t) + blanks_at (min (suc m) (size_length t)) (take (suc m) t)) 0 ≡ min (suc m) (cond d (size_length t + blanks_at (size_length t) t) 0)
    by true = place_sum (suc m) (size_length t) (blanks_at (size_length t) t) t refl
    by false = omega arith

size_before_quote : (t : List ℕ) → size_length t ≤ quote_place t
size_before_quote t = by (is_digit (get_or t 0 0)) (prefix_len (is_in class.Decimal) t) (prefix_len (is_in class.Blank) (drop (size_length t) t))
  where
    by : (d : Bool) (s k : ℕ) → cond d s 0 ≤ cond d (cond d s 0 + k) 0
    by true s k = omega arith
    by false s k = omega arith

-- ---- heads

-- what is left of a head in the first m bytes
abbrev trim : ℕ → Option LiteralHead → Option LiteralHead
trim m None = None
trim m (Some h) = Some (record { size = h.size; signed = h.signed; base = h.base; digits = min m h.digits })

abbrev head_with : ℕ → Bool → ℕ → Option Base → Option LiteralHead
head_with size signed digits o = elim o [ None ↦ None | Some base ↦ Some (record { size = size; signed = signed; base = base; digits = digits }) ]

trim_with : (m size digits : ℕ) (signed : Bool) (o : Option Base) → head_with size signed (min m digits) o ≡ trim m (head_with size signed digits o)
trim_with m size digits signed None = refl
trim_with m size digits signed (Some base) = refl

at_within : (m : ℕ) (t : List ℕ) (signed : Bool) (p : ℕ) → p < m → size_length t ≤ p → head_at (take m t) signed p ≡ trim m (head_at t signed p)
unfolding blanks_at
at_within m t signed p h s =
    let size : size_length (take m t) ≡ size_length t = let e = size-take m t in omega arith in
    let digits : p + 1 + blanks_at (p + 1) (take m t) ≡ min m (p + 1 + blanks_at (p + 1) t) = let e = blanks-take (p + 1) m t in omega arith in
    ap (λ b. head_with (size_length (take m t)) signed (p + 1 + prefix_len (is_in class.Blank) (drop (p + 1) (take m t))) (base_of b)) (read_within m t p h)
    ∙ ap (λ n. head_with n signed (p + 1 + prefix_len (is_in class.Blank) (drop (p + 1) (take m t))) (base_of (get_or t p 0))) size
    ∙ ap (λ d. head_with (size_length t) signed d (base_of (get_or t p 0))) digits
    ∙ trim_with m (size_length t) (p + 1 + prefix_len (is_in class.Blank) (drop (p + 1) t)) signed (base_of (get_or t p 0))

at_past : (m : ℕ) (t : List ℕ) (signed : Bool) (p : ℕ) → m ≤ p → head_at (take m t) signed p ≡ None
at_past m t signed p h = ap (λ b. head_with (size_length (take m t)) signed (p + 1 + prefix_len (is_in class.Blank) (drop (p + 1) (take m t))) (base_of b)) (read_past m t p h)

-- the digits come behind the base
with_digits : (size digits : ℕ) (signed : Bool) (o : Option Base) (h : LiteralHead) → head_with size signed digits o ≡ Some h → h.digits ≡ digits
with_digits size digits signed None h e = cc
with_digits size digits signed (Some base) h e = cc

digits_after : (t : List ℕ) (signed : Bool) (p : ℕ) (h : LiteralHead) → head_at t signed p ≡ Some h → p < h.digits
digits_after t signed p h e = let w = with_digits (size_length t) (p + 1 + prefix_len (is_in class.Blank) (drop (p + 1) t)) signed (base_of (get_or t p 0)) h e in omega arith

-- a head, by its quote and the byte behind it
abbrev head_by : List ℕ → ℕ → ℕ → ℕ → Option LiteralHead
head_by t q c d = cond (c == 39) (cond (is_sign_mark d) (head_at t true (q + 2)) (head_at t false (q + 1))) None

by_digits : (t : List ℕ) (q : ℕ) (x y : Bool) (h : LiteralHead) → cond x (cond y (head_at t true (q + 2)) (head_at t false (q + 1))) None ≡ Some h → q + 1 < h.digits
by_digits t q true true h e = let w = digits_after t true (q + 2) h e in omega arith
by_digits t q true false h e = digits_after t false (q + 1) h e
by_digits t q false y h e = cc

pub digits_behind_quote : (t : List ℕ) (h : LiteralHead) → head_of t ≡ Some h → quote_place t + 1 < h.digits
digits_behind_quote t h e = by_digits t (quote_place t) (get_or t (quote_place t) 0 == 39) (is_sign_mark (get_or t (quote_place t + 1) 0)) h e

-- A prefix has the same head, with what is left of its blanks; or none, and is shorter than the head.
abbrev Short : ℕ → List ℕ → Type 0
Short m t = (h : LiteralHead) → head_of t ≡ Some h → m < h.digits

before_quote : (m : ℕ) (t : List ℕ) → m ≤ quote_place t → head_of (take m t) ≡ None
before_quote m t h =
    let q : quote_place (take m t) ≡ m = let e = quote-take m t in omega arith in
    ap (λ q. head_by (take m t) q (get_or (take m t) q 0) (get_or (take m t) (q + 1) 0)) q ∙ ap (λ c. head_by (take m t) m c (get_or (take m t) (m + 1) 0)) (read_past m t m (omega arith))

-- the prefix goes past the quote
past_quote : (m : ℕ) (t : List ℕ) → quote_place t < m → head_of (take m t) ≡ head_by (take m t) (quote_place t) (get_or t (quote_place t) 0) (get_or (take m t) (quote_place t + 1) 0)
past_quote m t h =
    let q : quote_place (take m t) ≡ quote_place t = let e = quote-take m t in omega arith in
    ap (λ q. head_by (take m t) q (get_or (take m t) q 0) (get_or (take m t) (q + 1) 0)) q ∙ ap (λ c. head_by (take m t) (quote_place t) c (get_or (take m t) (quote_place t + 1) 0)) (read_within m t (quote_place t) h)

no_base : (m : ℕ) (t : List ℕ) (x : Bool) (q : ℕ) → m ≤ q + 1 → cond x (head_at (take m t) false (q + 1)) None ≡ None
no_base m t true q h = at_past m t false (q + 1) h
no_base m t false q h = refl

at_quote : (m : ℕ) (t : List ℕ) → quote_place t < m → m ≤ quote_place t + 1 → head_of (take m t) ≡ None
at_quote m t h k =
    past_quote m t h
    ∙ ap (λ d. head_by (take m t) (quote_place t) (get_or t (quote_place t) 0) d) (read_past m t (quote_place t + 1) k)
    ∙ no_base m t (get_or t (quote_place t) 0 == 39) (quote_place t) k

one_at : (m : ℕ) (t : List ℕ) (signed : Bool) (p : ℕ) → size_length t ≤ p → (head_at (take m t) signed p ≡ trim m (head_at t signed p)) ⊎ ((head_at (take m t) signed p ≡ None) × (m ≤ p))
one_at m t signed p s = elim (cases_lt p m) [ inl h ↦ inl (at_within m t signed p h s) | inr h ↦ inr (at_past m t signed p h, h) ]

behind_quote : (m : ℕ) (t : List ℕ) (x y : Bool) (q : ℕ) → size_length t ≤ q
    → (cond x (cond y (head_at (take m t) true (q + 2)) (head_at (take m t) false (q + 1))) None ≡ trim m (cond x (cond y (head_at t true (q + 2)) (head_at t false (q + 1))) None))
    ⊎ ((cond x (cond y (head_at (take m t) true (q + 2)) (head_at (take m t) false (q + 1))) None ≡ None) × ((h : LiteralHead) → cond x (cond y (head_at t true (q + 2)) (head_at t false (q + 1))) None ≡ Some h → m < h.digits))
behind_quote m t true true q s = elim (one_at m t true (q + 2) (omega arith)) [ inl e ↦ inl e | inr w ↦ inr (w.0, λ h e. let d = digits_after t true (q + 2) h e in let le = w.1 in omega arith) ]
behind_quote m t true false q s = elim (one_at m t false (q + 1) (omega arith)) [ inl e ↦ inl e | inr w ↦ inr (w.0, λ h e. let d = digits_after t false (q + 1) h e in let le = w.1 in omega arith) ]
behind_quote m t false y q s = inl refl

pub head-take : (m : ℕ) (t : List ℕ) → (head_of (take m t) ≡ trim m (head_of t)) ⊎ ((head_of (take m t) ≡ None) × Short m t)
head-take m t = elim (cases_lt (quote_place t) m) [
  | inr h ↦ inr (before_quote m t h, λ g e. let w = digits_behind_quote t g e in omega arith)
  | inl h ↦ elim (cases_lt (quote_place t + 1) m) [
    | inr k ↦ inr (at_quote m t h k, λ g e. let w = digits_behind_quote t g e in omega arith)
    | inl k ↦
        let same : head_of (take m t) ≡ head_by (take m t) (quote_place t) (get_or t (quote_place t) 0) (get_or t (quote_place t + 1) 0) = past_quote m t h ∙ ap (λ d. head_by (take m t) (quote_place t) (get_or t (quote_place t) 0) d) (read_within m t (quote_place t + 1) k) in
        elim (behind_quote m t (get_or t (quote_place t) 0 == 39) (is_sign_mark (get_or t (quote_place t + 1) 0)) (quote_place t) (size_before_quote t)) [ inl e ↦ inl (same ∙ e) | inr w ↦ inr (same ∙ w.0, w.1) ]
  ]
]

-- ---- what follows for prefixes

-- a text without a head has no prefix with one
pub no_head : (m : ℕ) (t : List ℕ) → head_of t ≡ None → head_of (take m t) ≡ None
no_head m t e = elim (head-take m t) [ inl w ↦ w ∙ ap (trim m) e | inr w ↦ w.0 ]

-- a prefix that goes past the head has the same
pub same_head : (m : ℕ) (t : List ℕ) (h : LiteralHead) → head_of t ≡ Some h → h.digits ≤ m → head_of (take m t) ≡ Some h
same_head m t h e le = elim (head-take m t) [
  | inl w ↦ w ∙ ap (trim m) e ∙ (let d : min m h.digits ≡ h.digits = omega arith in ap (λ n. Some (record { size = h.size; signed = h.signed; base = h.base; digits = n })) d)
  | inr w ↦ let short = w.1 h e in absurd (omega arith)
]

abbrev based_by : List ℕ → Option LiteralHead → Bool
based_by t o = elim o [ None ↦ false | Some h ↦ are_digits h.base (drop h.digits t) ]

-- a text without a head has no prefix that is a number with a base
pub no_head_no_number : (m : ℕ) (t : List ℕ) → head_of t ≡ None → is_based (take m t) ≡ false
no_head_no_number m t e = ap (based_by (take m t)) (no_head m t e)

-- nor has one that ends in its head
pub head_no_number : (m : ℕ) (t : List ℕ) (h : LiteralHead) → head_of t ≡ Some h → m ≤ h.digits → is_based (take m t) ≡ false
head_no_number m t h e le = elim (head-take m t) [
  | inl w ↦
      let d : min m h.digits ≡ m = omega arith in
      ap (based_by (take m t)) (w ∙ ap (trim m) e) ∙ ap (λ n. are_digits h.base (drop n (take m t))) d ∙ ap (λ r. are_digits h.base r) (drop-take m m t) ∙ (let z : m - m ≡ 0 = omega arith in ap (λ n. are_digits h.base (take n (drop m t))) z)
  | inr w ↦ ap (based_by (take m t)) w.0
]

-- past the head, it is told by the digits alone
pub head_number : (m : ℕ) (t : List ℕ) (h : LiteralHead) → head_of t ≡ Some h → h.digits ≤ m → is_based (take m t) ≡ are_digits h.base (take (m - h.digits) (drop h.digits t))
head_number m t h e le = ap (based_by (take m t)) (same_head m t h e le) ∙ ap (λ r. are_digits h.base r) (drop-take h.digits m t)
