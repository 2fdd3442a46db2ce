-- The longest number.
use Rattle.std.proofs.Common.{◌≡◌, ℕ, zero, suc, ◌+◌, ◌-◌, ◌<◌, ◌≤◌, Bool, true, false, ◌&&◌, ◌||◌, cond, List, [], ◌∷◌, refl, sym, ◌∙◌, ap, length, take, drop, get_or, arith, inl, inr, length-drop}
use Rattle.std.specs.Prelude.{Option, Some, None, Result, Err, ◌==◌}
use Rattle.std.specs.List.{prefix_len, list_all}
use Rattle.std.proofs.lemmas.Bool.{cases_Bool, ne_eqb}
use Rattle.std.proofs.lemmas.List.Sums.{prefix_len-le-length}
use Rattle.vs_lexer.specs.declared.bytes.Base.{Base}
use Rattle.vs_lexer.specs.declared.bytes.ByteClass.TheVariants as class
use Rattle.vs_lexer.specs.declared.number.LiteralHead.{LiteralHead}
use Rattle.vs_lexer.specs.declared.token.TokenKind.{TokenKind}
use Rattle.vs_lexer.specs.declared.token.TokenKind.TheVariants as kind
use Rattle.vs_lexer.specs.declared.scan.Lexeme.{Lexeme}
use Rattle.vs_lexer.specs.declared.scan.Fault.{Fault}
use Rattle.vs_lexer.specs.declared.scan.Fault.TheVariants.{BadLiteral}
use Rattle.vs_lexer.specs.declared.scan.Start.{Start}
use Rattle.vs_lexer.specs.declared.scan.Start.TheVariants as start
use Rattle.vs_lexer.specs.Classes.{is_in, is_letter, is_digit, begins_digits}
use Rattle.vs_lexer.specs.Literals.{size_length, quote_place, head_of, digits_class, digits_length, are_digits, is_based, is_in_range}
use Rattle.vs_lexer.specs.Tokens.{start_of, kind_from, token_kind, longest, here, here_from, number_here, begins_number, checked, if_so}
use Rattle.vs_lexer.proofs.Longest.{lexeme, within_is, within_none, if_so_true, if_so_false}
use Rattle.vs_lexer.proofs.Runs.{front_passes, front_fails}
use Rattle.vs_lexer.proofs.Heads.{no_head, same_head, no_head_no_number, head_number, digits_behind_quote}

-- ---- digits

-- a front of digits, told by its length
digits_by : (x : Bool) (base : Base) (b : ℕ) (bs : List ℕ) (m : ℕ) → 0 < m → m ≤ cond x (1 + prefix_len (is_in (digits_class base b)) bs) 0 → (x && list_all (is_in (digits_class base b)) (take (m - 1) bs)) ≡ true
digits_by true base b bs m o h = front_passes (is_in (digits_class base b)) bs (m - 1) (omega arith)
digits_by false base b bs m o h = absurd (omega arith)

no_digits_by : (x : Bool) (base : Base) (b : ℕ) (bs : List ℕ) (m : ℕ) → cond x (1 + prefix_len (is_in (digits_class base b)) bs) 0 < suc m → m ≤ length bs → (x && list_all (is_in (digits_class base b)) (take m bs)) ≡ false
no_digits_by true base b bs m h k = front_fails (is_in (digits_class base b)) bs m (omega arith) k
no_digits_by false base b bs m h k = refl

pub digits_pass : (base : Base) (t : List ℕ) (m : ℕ) → 0 < m → m ≤ digits_length base t → are_digits base (take m t) ≡ true
digits_pass base [] m o h = absurd (omega arith)
digits_pass base (b ∷ bs) zero o h = absurd (omega arith)
digits_pass base (b ∷ bs) (suc m) o h = let z : suc m - 1 ≡ m = omega arith in ap (λ k. begins_digits base b && list_all (is_in (digits_class base b)) (take k bs)) (sym z) ∙ digits_by (begins_digits base b) base b bs (suc m) o h

pub digits_fail : (base : Base) (t : List ℕ) (m : ℕ) → digits_length base t < m → m ≤ length t → are_digits base (take m t) ≡ false
digits_fail base [] m h k = absurd (omega arith)
digits_fail base (b ∷ bs) zero h k = absurd (omega arith)
digits_fail base (b ∷ bs) (suc m) h k = no_digits_by (begins_digits base b) base b bs m h (omega arith)

-- ---- kinds of prefixes

abbrev start_by : Bool → Bool → Bool → Bool → Bool → Bool → Bool → Start
start_by l d q t e s x = cond l start.Word (cond d start.Number (cond q start.Quote (cond t start.Text (cond e start.Escaped (cond s start.System (cond x start.Directive start.Sign))))))

number_by : (l d q t e s x : Bool) → begins_number (start_by l d q t e s x) ≡ true → d ≡ true → start_by l d q t e s x ≡ start.Number
number_by true d q t e s x h k = cc
number_by false true q t e s x h k = refl
number_by false false q t e s x h k = cc

quote_by : (l d q t e s x : Bool) → begins_number (start_by l d q t e s x) ≡ true → d ≡ false → start_by l d q t e s x ≡ start.Quote
quote_by true d q t e s x h k = cc
quote_by false true q t e s x h k = cc
quote_by false false true t e s x h k = refl
quote_by false false false true e s x h k = cc
quote_by false false false false true s x h k = cc
quote_by false false false false false true x h k = cc
quote_by false false false false false false true h k = cc
quote_by false false false false false false false h k = cc

pub number_start : (b : ℕ) → begins_number (start_of b) ≡ true → is_digit b ≡ true → start_of b ≡ start.Number
number_start b h k = number_by (is_letter b) (is_digit b) (b == 39) (b == 34) (b == 92) (b == 36) (b == 96) h k

pub quote_start : (b : ℕ) → begins_number (start_of b) ≡ true → is_digit b ≡ false → start_of b ≡ start.Quote
quote_start b h k = quote_by (is_letter b) (is_digit b) (b == 39) (b == 34) (b == 92) (b == 36) (b == 96) h k

number_here_by : (s : Start) (t : List ℕ) → begins_number s ≡ true → here_from s t ≡ number_here t
number_here_by start.Number t h = refl
number_here_by start.Quote t h = refl
number_here_by start.Word t h = cc
number_here_by start.Text t h = cc
number_here_by start.Escaped t h = cc
number_here_by start.System t h = cc
number_here_by start.Directive t h = cc
number_here_by start.Sign t h = cc

here_is : (t : List ℕ) → 0 < length t → begins_number (start_of (get_or t 0 0)) ≡ true → here t ≡ number_here t
here_is [] o h = absurd (omega arith)
here_is (b ∷ bs) o h = number_here_by (start_of b) (b ∷ bs) h

abbrev decimal : ℕ → Bool
decimal = is_in class.Decimal

abbrev number_kind : Bool → Bool → Option TokenKind
number_kind d b = cond d (Some kind.Decimal) (if_so b kind.Based)

number_token : (b : ℕ) (bs : List ℕ) (m : ℕ) → start_of b ≡ start.Number → token_kind (b ∷ take m bs) ≡ number_kind (list_all decimal (take m bs)) (is_based (b ∷ take m bs))
number_token b bs m e = ap (λ s. kind_from s b (take m bs)) e

quote_token : (b : ℕ) (bs : List ℕ) (m : ℕ) → start_of b ≡ start.Quote → token_kind (b ∷ take m bs) ≡ if_so (is_based (b ∷ take m bs)) kind.Based
quote_token b bs m e = ap (λ s. kind_from s b (take m bs)) e

-- where the bytes are no decimal number, a number with a base is told by `is_based`
based_token : (b : ℕ) (bs : List ℕ) (m : ℕ) → begins_number (start_of b) ≡ true → (is_digit b ≡ true → list_all decimal (take m bs) ≡ false) → token_kind (b ∷ take m bs) ≡ if_so (is_based (b ∷ take m bs)) kind.Based
based_token b bs m h f = elim (cases_Bool (is_digit b)) [
  | inl d ↦ number_token b bs m (number_start b h d) ∙ ap (λ x. number_kind x (is_based (b ∷ take m bs))) (f d)
  | inr d ↦ quote_token b bs m (quote_start b h d)
]

-- ---- the longest

-- a decimal number
longest_decimal : (b : ℕ) (bs : List ℕ) → start_of b ≡ start.Number → head_of (b ∷ bs) ≡ None → longest (b ∷ bs) ≡ Some (lexeme kind.Decimal (suc (prefix_len decimal bs)))
longest_decimal b bs e h =
    within_is (b ∷ bs) (suc (prefix_len decimal bs)) (suc (length bs)) kind.Decimal (omega arith) (let le = prefix_len-le-length decimal bs in omega arith)
    (number_token b bs (prefix_len decimal bs) e ∙ ap (λ x. number_kind x (is_based (b ∷ take (prefix_len decimal bs) bs))) (front_passes decimal bs (prefix_len decimal bs) (omega arith)))
    later
  where
    later : (m : ℕ) → suc (prefix_len decimal bs) < m → m ≤ suc (length bs) → token_kind (take m (b ∷ bs)) ≡ None
    later zero a c = absurd (omega arith)
    later (suc m) a c = number_token b bs m e ∙ ap (λ x. number_kind x (is_based (b ∷ take m bs))) (front_fails decimal bs m (omega arith) (omega arith)) ∙ ap (λ x. if_so x kind.Based) (no_head_no_number (suc m) (b ∷ bs) h)

-- a quote that begins no number
longest_quote : (b : ℕ) (bs : List ℕ) → start_of b ≡ start.Quote → head_of (b ∷ bs) ≡ None → longest (b ∷ bs) ≡ None
longest_quote b bs e h = within_none (b ∷ bs) (suc (length bs)) later
  where
    later : (m : ℕ) → 0 < m → m ≤ suc (length bs) → token_kind (take m (b ∷ bs)) ≡ None
    later zero a c = absurd (omega arith)
    later (suc m) a c = quote_token b bs m e ∙ ap (λ x. if_so x kind.Based) (no_head_no_number (suc m) (b ∷ bs) h)

-- a number with a base

-- the size is a front of decimal digits, and the quote stands behind it
size_front : (d : Bool) (p k : ℕ) → d ≡ true → 1 + p ≤ cond d (cond d (1 + p) 0 + k) 0
size_front true p k e = omega arith
size_front false p k e = cc

digit_is_decimal : (b : ℕ) → is_digit b ≡ true → decimal b ≡ true
digit_is_decimal b e = ap (λ x. x || b == 95) e

prefix_more : (x : Bool) (n : ℕ) → x ≡ true → cond x (1 + n) 0 ≡ 1 + n
prefix_more true n e = refl
prefix_more false n e = cc

before_quote : (b : ℕ) (bs : List ℕ) → is_digit b ≡ true → 1 + prefix_len decimal bs ≤ quote_place (b ∷ bs)
before_quote b bs d =
    let one : prefix_len decimal (b ∷ bs) ≡ 1 + prefix_len decimal bs = prefix_more (decimal b) (prefix_len decimal bs) (digit_is_decimal b d) in
    let size : size_length (b ∷ bs) ≡ prefix_len decimal (b ∷ bs) = ap (λ x. cond x (prefix_len decimal (b ∷ bs)) 0) d in
    let le : size_length (b ∷ bs) ≤ quote_place (b ∷ bs) = quote_behind (is_digit b) (size_length (b ∷ bs)) (prefix_len (is_in class.Blank) (drop (size_length (b ∷ bs)) (b ∷ bs))) d in
    omega arith
  where
    quote_behind : (x : Bool) (s k : ℕ) → x ≡ true → s ≤ cond x (s + k) 0
    quote_behind true s k e = omega arith
    quote_behind false s k e = cc

longest_based : (b : ℕ) (bs : List ℕ) (h : LiteralHead) (n : ℕ) → begins_number (start_of b) ≡ true → head_of (b ∷ bs) ≡ Some h
    → 0 < digits_length h.base (drop h.digits (b ∷ bs)) → n ≡ h.digits + digits_length h.base (drop h.digits (b ∷ bs)) → n ≤ length (b ∷ bs) → longest (b ∷ bs) ≡ Some (lexeme kind.Based n)
longest_based b bs h n s e o q le = within_is (b ∷ bs) n (suc (length bs)) kind.Based (omega arith) le (at n (omega arith) le ∙ if_so_true (is_based (take n (b ∷ bs))) kind.Based (passes n refl)) later
  where
    t : List ℕ
    t = b ∷ bs

    at : (m : ℕ) → h.digits < m → m ≤ suc (length bs) → token_kind (take m (b ∷ bs)) ≡ if_so (is_based (take m (b ∷ bs))) kind.Based
    at zero a c = absurd (omega arith)
    at (suc m) a c = based_token b bs m s (λ d. front_fails decimal bs m (let x = before_quote b bs d in let y = digits_behind_quote (b ∷ bs) h e in omega arith) (omega arith))

    passes : (m : ℕ) → m ≡ n → is_based (take m (b ∷ bs)) ≡ true
    passes m z = head_number m (b ∷ bs) h e (omega arith) ∙ digits_pass h.base (drop h.digits (b ∷ bs)) (m - h.digits) (omega arith) (omega arith)

    later : (m : ℕ) → n < m → m ≤ suc (length bs) → token_kind (take m (b ∷ bs)) ≡ None
    later m a c = at m (omega arith) c ∙ if_so_false (is_based (take m (b ∷ bs))) kind.Based (head_number m (b ∷ bs) h e (omega arith) ∙ digits_fail h.base (drop h.digits (b ∷ bs)) (m - h.digits) (omega arith) (simp length-drop (omega arith)))

-- ---- the token or the fault that is here

abbrev lacks_by : List ℕ → Option LiteralHead → Bool
lacks_by t o = elim o [ None ↦ false | Some h ↦ digits_length h.base (drop h.digits t) == 0 ]

abbrev number_by_longest : List ℕ → Bool → Option Lexeme → Result Lexeme Fault
number_by_longest t lacks o = elim lacks [ true ↦ Err BadLiteral | false ↦ elim o [ None ↦ Err BadLiteral | Some l ↦ checked (is_in_range (take l.length t)) l ] ]

pub decimal_here : (t : List ℕ) (n : ℕ) → 0 < length t → begins_number (start_of (get_or t 0 0)) ≡ true → is_digit (get_or t 0 0) ≡ true → head_of t ≡ None → n ≡ 1 + prefix_len decimal (drop 1 t) → here t ≡ checked (is_in_range (take n t)) (lexeme kind.Decimal n)
decimal_here [] n o s d e q = absurd (omega arith)
decimal_here (b ∷ bs) n o s d e q =
    let z : suc (prefix_len decimal bs) ≡ n = omega arith in
    here_is (b ∷ bs) o s ∙ ap (λ x. number_by_longest (b ∷ bs) x (longest (b ∷ bs))) (ap (lacks_by (b ∷ bs)) e)
    ∙ ap (λ l. number_by_longest (b ∷ bs) false l) (longest_decimal b bs (number_start b s d) e) ∙ ap (λ k. checked (is_in_range (take k (b ∷ bs))) (lexeme kind.Decimal k)) z

pub quote_here : (t : List ℕ) → 0 < length t → begins_number (start_of (get_or t 0 0)) ≡ true → is_digit (get_or t 0 0) ≡ false → head_of t ≡ None → here t ≡ Err BadLiteral
quote_here [] o s d e = absurd (omega arith)
quote_here (b ∷ bs) o s d e =
    here_is (b ∷ bs) o s ∙ ap (λ x. number_by_longest (b ∷ bs) x (longest (b ∷ bs))) (ap (lacks_by (b ∷ bs)) e) ∙ ap (λ l. number_by_longest (b ∷ bs) false l) (longest_quote b bs (quote_start b s d) e)

pub no_digits_here : (t : List ℕ) (h : LiteralHead) → 0 < length t → begins_number (start_of (get_or t 0 0)) ≡ true → head_of t ≡ Some h → digits_length h.base (drop h.digits t) ≡ 0 → here t ≡ Err BadLiteral
no_digits_here t h o s e z = here_is t o s ∙ ap (λ x. number_by_longest t x (longest t)) (ap (lacks_by t) e ∙ ap (λ n. n == 0) z)

pub based_here : (t : List ℕ) (h : LiteralHead) (n : ℕ) → 0 < length t → begins_number (start_of (get_or t 0 0)) ≡ true → head_of t ≡ Some h → 0 < digits_length h.base (drop h.digits t) → n ≡ h.digits + digits_length h.base (drop h.digits t) → n ≤ length t → here t ≡ checked (is_in_range (take n t)) (lexeme kind.Based n)
based_here [] h n o s e p q le = absurd (omega arith)
based_here (b ∷ bs) h n o s e p q le =
    here_is (b ∷ bs) o s ∙ ap (λ x. number_by_longest (b ∷ bs) x (longest (b ∷ bs))) (ap (lacks_by (b ∷ bs)) e ∙ ne_eqb (digits_length h.base (drop h.digits (b ∷ bs))) 0 (λ z. absurd (omega arith)))
    ∙ ap (λ l. number_by_longest (b ∷ bs) false l) (longest_based b bs h n s e p q le)

-- the head of the token itself
pub head_of_token : (t : List ℕ) (h : LiteralHead) (n : ℕ) → head_of t ≡ Some h → h.digits ≤ n → head_of (take n t) ≡ Some h
head_of_token t h n e le = same_head n t h e le

pub no_head_of_token : (t : List ℕ) (n : ℕ) → head_of t ≡ None → head_of (take n t) ≡ None
no_head_of_token t n e = no_head n t e
