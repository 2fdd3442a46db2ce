-- A number whose size stands in front of it in another piece.
use Rattle.std.proofs.Common.{◌≡◌, ℕ, ◌+◌, ◌^◌, ◌<◌, ◌≤◌, Bool, not, true, false, ◌&&◌, ◌||◌, cond, List, [], ◌∷◌, ◌++◌, ◌⊎◌, inl, inr, refl, sym, ◌∙◌, ap, subst, length, take, drop, get_or, arith}
use Rattle.std.specs.Prelude.{Option, Some, None, Ok, ◌==◌}
use Rattle.std.specs.List.{prefix_len, list_all}
use Rattle.std.proofs.lemmas.Bool.{and_parts, ne_eqb}
use Rattle.std.proofs.lemmas.List.{drop-drop, drop_at, take_at, get_or-append-add}
use Rattle.vs_lexer.specs.declared.bytes.Base.{Base}
use Rattle.vs_lexer.specs.declared.bytes.ByteClass.TheVariants as class
use Rattle.vs_lexer.specs.declared.number.LiteralHead.{LiteralHead}
use Rattle.vs_lexer.specs.declared.scan.Lexeme.{Lexeme}
use Rattle.vs_lexer.specs.declared.token.TokenKind.{TokenKind}
use Rattle.vs_lexer.specs.declared.token.TokenKind.TheVariants as kind
use Rattle.vs_lexer.specs.Classes.{is_digit, is_in, base_of}
use Rattle.vs_lexer.specs.Literals.{size_length, quote_place, is_sign_mark, head_at, head_of, are_digits, is_based, is_in_range, is_decimal_number, decimal_value, literal_size, literal_bits, is_signed_literal, has_size, fitted, fill_bit, digits_bits}
use Rattle.vs_lexer.specs.Tokens.{token_kind, kind_from, start_of, begins_number, here, if_so}
use Rattle.vs_lexer.proofs.Numbers.{number_start, quote_start}
use Rattle.vs_lexer.proofs.Progress.{here_longest}
use Rattle.vs_lexer.proofs.PlaneFacts.{good_size, good_value, size_is, based_bits, signed_is, sized_is}
use Rattle.vs_lexer.proofs.Spans.{longest_kind, from_no_number}

either : (b : Bool) → (b ≡ true) ⊎ (b ≡ false)
either true = inl refl
either false = inr refl

-- the kind of the token at the front of a text
pub kind_here : (text : List ℕ) (l : Lexeme) → here text ≡ Ok l → token_kind (take l.length text) ≡ Some l.kind
kind_here text l e = longest_kind text (length text) l (here_longest text l e)

-- ---- a size

pub record IsSize (s : List ℕ) : Type 0 where
  pub some : 0 < length s
  pub digit : is_digit (get_or s 0 0) ≡ true
  pub all : list_all (is_in class.Decimal) s ≡ true

all_by : (b c : Bool) → cond b (Some kind.Decimal) (if_so c kind.Based) ≡ Some kind.Decimal → b ≡ true
all_by true c e = refl
all_by false true e = cc
all_by false false e = cc

not_based : (b : Bool) → if_so b kind.Based ≡ Some kind.Decimal → ⊥
not_based true e = cc
not_based false e = cc

not_number : true ≡ false → ⊥
not_number e = cc

other_kind : kind.Decimal ≡ kind.Based → ⊥
other_kind e = cc

pub size_of : (s : List ℕ) → token_kind s ≡ Some kind.Decimal → IsSize s
size_of [] e = cc
size_of (a ∷ xs) e = elim (either (begins_number (start_of a))) [
  | inr n ↦ elim (from_no_number (start_of a) a xs kind.Decimal n e) [ inl f ↦ absurd (not_number f) | inr s ↦ absurd (other_kind s.based) ]
  | inl y ↦ elim (either (is_digit a)) [
    | inr d ↦ absurd (not_based (is_based (a ∷ xs)) (ap (λ s. kind_from s a xs) (sym (quote_start a y d)) ∙ e))
    | inl d ↦
        let more = all_by (list_all (is_in class.Decimal) xs) (is_based (a ∷ xs)) (ap (λ s. kind_from s a xs) (sym (number_start a y d)) ∙ e) in
        record { some = omega arith; digit = d; all = ap (λ x. (x || a == 95) && list_all (is_in class.Decimal) xs) d ∙ more }
  ]
]

-- ---- a number that begins with its quote

so_based : (b : Bool) → if_so b kind.Based ≡ Some kind.Based → b ≡ true
so_based true e = refl
so_based false e = cc

pub based_of : (b : List ℕ) → token_kind b ≡ Some kind.Based → get_or b 0 0 ≡ 39 → is_based b ≡ true
based_of [] k e = cc
based_of (c ∷ cs) k e = so_based (is_based (c ∷ cs)) (ap (λ s. kind_from s c cs) (sym (ap start_of e)) ∙ k)

abbrev based_by : List ℕ → Option LiteralHead → Bool
based_by b o = elim o [ None ↦ false | Some h ↦ are_digits h.base (drop h.digits b) ]

pub has_head : (b : List ℕ) → is_based b ≡ true → head_of b ≡ None → ⊥
has_head b e n = not_number (sym e ∙ ap (based_by b) n)

with_quote : (b : List ℕ) → get_or b 0 0 ≡ 39 → b ≡ 39 ∷ drop 1 b
with_quote [] e = cc
with_quote (c ∷ cs) e = ap (λ x. x ∷ cs) e

-- ---- both together

pub digits_joined : (s b : List ℕ) (k : ℕ) → drop (length s + k) (s ++ b) ≡ drop k b
digits_joined s b k = sym (drop-drop k (length s) (s ++ b)) ∙ ap (drop k) (drop_at s b (length s) refl)

pub size_joined : (s b : List ℕ) → take (length s) (s ++ b) ≡ s
size_joined s b = take_at s b (length s) refl

prefix_all : (p : ℕ → Bool) (s : List ℕ) (c : ℕ) (bs : List ℕ) → list_all p s ≡ true → p c ≡ false → prefix_len p (s ++ c ∷ bs) ≡ length s
prefix_all p [] c bs h e = ap (λ b. cond b (1 + prefix_len p bs) 0) e
prefix_all p (x ∷ xs) c bs h e =
    let q = and_parts (p x) (list_all p xs) h in
    let r = prefix_all p xs c bs q.1 e in
    ap (λ b. cond b (1 + prefix_len p (xs ++ c ∷ bs)) 0) q.0 ∙ omega arith

first_is : (s r : List ℕ) → 0 < length s → get_or (s ++ r) 0 0 ≡ get_or s 0 0
first_is [] r h = absurd (omega arith)
first_is (x ∷ xs) r h = refl

-- a head behind a size of n bytes
abbrev behind_size : ℕ → Option LiteralHead → Option LiteralHead
behind_size n None = None
behind_size n (Some h) = Some (record { size = n; signed = h.signed; base = h.base; digits = n + h.digits })

abbrev head_with : ℕ → Bool → ℕ → Option Base → Option LiteralHead
head_with size signed digits o = elim o [ None ↦ None | Some base ↦ Some (record { size = size; signed = signed; base = base; digits = digits }) ]

abbrev head_by : List ℕ → ℕ → ℕ → ℕ → Option LiteralHead
head_by t q c d = cond (c == 39) (cond (is_sign_mark d) (head_at t true (q + 2)) (head_at t false (q + 1))) None

with_behind : (n digits : ℕ) (signed : Bool) (o : Option Base) → head_with n signed (n + digits) o ≡ behind_size n (head_with 0 signed digits o)
with_behind n digits signed None = refl
with_behind n digits signed (Some base) = refl

either_behind : (n : ℕ) (b : Bool) (x y : Option LiteralHead) → cond b (behind_size n x) (behind_size n y) ≡ behind_size n (cond b x y)
either_behind n true x y = refl
either_behind n false x y = refl

module _ (s bs : List ℕ) (z : IsSize s) where
  size_whole : size_length (s ++ 39 ∷ bs) ≡ length s
  size_whole =
      ap (λ b. cond (is_digit b) (prefix_len (is_in class.Decimal) (s ++ 39 ∷ bs)) 0) (first_is s (39 ∷ bs) z.some)
      ∙ ap (λ d. cond d (prefix_len (is_in class.Decimal) (s ++ 39 ∷ bs)) 0) z.digit ∙ prefix_all (is_in class.Decimal) s 39 bs z.all refl

  quote_whole : quote_place (s ++ 39 ∷ bs) ≡ length s
  quote_whole =
      let n = length s in
      let last : n + 0 ≡ n = omega arith in
      ap (λ b. cond (is_digit b) (size_length (s ++ 39 ∷ bs) + prefix_len (is_in class.Blank) (drop (size_length (s ++ 39 ∷ bs)) (s ++ 39 ∷ bs))) 0) (first_is s (39 ∷ bs) z.some)
      ∙ ap (λ d. cond d (size_length (s ++ 39 ∷ bs) + prefix_len (is_in class.Blank) (drop (size_length (s ++ 39 ∷ bs)) (s ++ 39 ∷ bs))) 0) z.digit
      ∙ ap (λ m. m + prefix_len (is_in class.Blank) (drop m (s ++ 39 ∷ bs))) size_whole
      ∙ ap (λ r. n + prefix_len (is_in class.Blank) r) (drop_at s (39 ∷ bs) n refl) ∙ last

  at_whole : (signed : Bool) (k : ℕ) → head_at (s ++ 39 ∷ bs) signed (length s + k) ≡ behind_size (length s) (head_at (39 ∷ bs) signed k)
  at_whole signed k =
      let n = length s in
      let t = s ++ 39 ∷ bs in
      let x = prefix_len (is_in class.Blank) (drop (k + 1) (39 ∷ bs)) in
      let place : n + k + 1 ≡ n + (k + 1) = omega arith in
      let sum : n + k + 1 + x ≡ n + (k + 1 + x) = omega arith in
      ap (λ m. head_with m signed (n + k + 1 + prefix_len (is_in class.Blank) (drop (n + k + 1) t)) (base_of (get_or t (n + k) 0))) size_whole
      ∙ ap (λ r. head_with n signed (n + k + 1 + prefix_len (is_in class.Blank) r) (base_of (get_or t (n + k) 0))) (ap (λ m. drop m t) place ∙ digits_joined s (39 ∷ bs) (k + 1))
      ∙ ap (λ b. head_with n signed (n + k + 1 + x) (base_of b)) (get_or-append-add s (39 ∷ bs) k 0)
      ∙ ap (λ d. head_with n signed d (base_of (get_or (39 ∷ bs) k 0))) sum
      ∙ with_behind n (k + 1 + x) signed (base_of (get_or (39 ∷ bs) k 0))

  head_whole : head_of (s ++ 39 ∷ bs) ≡ behind_size (length s) (head_of (39 ∷ bs))
  head_whole =
      let n = length s in
      let t = s ++ 39 ∷ bs in
      let d = get_or (39 ∷ bs) 1 0 in
      let here : n ≡ n + 0 = omega arith in
      ap (λ q. head_by t q (get_or t q 0) (get_or t (q + 1) 0)) quote_whole
      ∙ ap (λ c. head_by t n c (get_or t (n + 1) 0)) (ap (λ m. get_or t m 0) here ∙ get_or-append-add s (39 ∷ bs) 0 0)
      ∙ ap (λ e. head_by t n 39 e) (get_or-append-add s (39 ∷ bs) 1 0)
      ∙ ap (λ x. cond (is_sign_mark d) x (head_at t false (n + 1))) (at_whole true 2)
      ∙ ap (λ y. cond (is_sign_mark d) (behind_size n (head_at (39 ∷ bs) true 2)) y) (at_whole false 1)
      ∙ either_behind n (is_sign_mark d) (head_at (39 ∷ bs) true 2) (head_at (39 ∷ bs) false 1)

-- a head, behind a size
pub head_joined : (s b : List ℕ) (h : LiteralHead) → IsSize s → get_or b 0 0 ≡ 39 → head_of b ≡ Some h
    → head_of (s ++ b) ≡ Some (record { size = length s; signed = h.signed; base = h.base; digits = length s + h.digits })
head_joined s b h z e f =
    let q = with_quote b e in
    ap (λ r. head_of (s ++ r)) q ∙ head_whole s (drop 1 b) z ∙ ap (λ r. behind_size (length s) (head_of r)) (sym q) ∙ ap (behind_size (length s)) f

-- ---- what a number is with a size in front of it

module _ (s b : List ℕ) (h : LiteralHead) (z : IsSize s) (q : get_or b 0 0 ≡ 39) (f : head_of b ≡ Some h) where
  joined : LiteralHead
  joined = record { size = length s; signed = h.signed; base = h.base; digits = length s + h.digits }

  is_joined : head_of (s ++ b) ≡ Some joined
  unfolding joined
  is_joined = head_joined s b h z q f

  not_none : length s ≡ 0 → ⊥
  not_none e = let o = z.some in absurd (omega arith)

  pub sized_range : is_in_range (s ++ b) ≡ true → (1 ≤ decimal_value s) × (decimal_value s ≤ 64)
  unfolding joined
  sized_range r = subst (λ (d : List ℕ). (1 ≤ decimal_value d) × (decimal_value d ≤ 64)) (size_joined s b) (good_size (s ++ b) joined is_joined r not_none)

  pub sized_value : is_in_range (s ++ b) ≡ true → is_decimal_number h.base (drop h.digits b) ≡ true → decimal_value (drop h.digits b) < 2 ^ 64
  unfolding joined
  sized_value r d =
      let e = digits_joined s b h.digits in
      subst (λ (x : List ℕ). decimal_value x < 2 ^ 64) e (good_value (s ++ b) joined is_joined r (ap (is_decimal_number h.base) e ∙ d))

  pub sized_size : literal_size (s ++ b) ≡ decimal_value s
  unfolding joined
  sized_size =
      size_is (s ++ b) joined is_joined ∙ ap (λ x. cond x 32 (decimal_value (take (length s) (s ++ b)))) (ne_eqb (length s) 0 not_none) ∙ ap decimal_value (size_joined s b)

  pub sized_bits : literal_bits (s ++ b) ≡ fitted (decimal_value s) (fill_bit (get_or (drop h.digits b) 0 0)) (digits_bits h.base (drop h.digits b))
  unfolding joined
  sized_bits =
      based_bits (s ++ b) joined is_joined ∙ ap (λ n. fitted n (fill_bit (get_or (drop (length s + h.digits) (s ++ b)) 0 0)) (digits_bits h.base (drop (length s + h.digits) (s ++ b)))) sized_size
      ∙ ap (λ d. fitted (decimal_value s) (fill_bit (get_or d 0 0)) (digits_bits h.base d)) (digits_joined s b h.digits)

  pub sized_signed : is_signed_literal (s ++ b) ≡ h.signed
  unfolding joined
  sized_signed = signed_is (s ++ b) joined is_joined

  pub sized_has : has_size (s ++ b) ≡ true
  unfolding joined
  sized_has = sized_is (s ++ b) joined is_joined ∙ ap not (ne_eqb (length s) 0 not_none)
