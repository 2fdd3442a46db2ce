-- What each token of a text is.
use Rattle.std.proofs.Common.{◌≡◌, ℕ, zero, suc, ◌+◌, ◌-◌, ◌<◌, ◌≤◌, Bool, true, false, cond, List, [], ◌∷◌, refl, sym, ◌∙◌, ap, subst, length, take, drop, get_or, arith, length-drop, ◌⊎◌, inl, inr}
use Rattle.std.specs.Prelude.{Option, Some, None, Result, Ok, Err, IfSome, not, slice_get, unwrap_or, ◌==◌}
use Rattle.std.specs.List.{list_all}
use Rattle.std.specs.Str.{bytes_eq}
use Rattle.std.proofs.lemmas.Bool.{and_parts, not-true, eqb-true}
use Rattle.std.proofs.lemmas.List.{drop-drop}
use Rattle.std.proofs.lemmas.Option.{slice_get-get_or, get_or_from_slice_get, slice_get_within}
use Rattle.vs_lexer.specs.declared.token.Token.{Token}
use Rattle.vs_lexer.specs.declared.token.TokenKind.{TokenKind}
use Rattle.vs_lexer.specs.declared.token.TokenKind.TheVariants as kind
use Rattle.vs_lexer.specs.declared.token.LexError.{LexError}
use Rattle.vs_lexer.specs.declared.scan.Lexeme.{Lexeme}
use Rattle.vs_lexer.specs.declared.scan.Fault.{Fault}
use Rattle.vs_lexer.specs.declared.scan.Start.{Start}
use Rattle.vs_lexer.specs.declared.scan.Start.TheVariants as start
use Rattle.vs_lexer.specs.Spellings.{Spelling, signs, keywords, left_out_words, system_names, find_spelling, is_among}
use Rattle.vs_lexer.specs.Classes.{is_letter, is_digit}
use Rattle.vs_lexer.specs.Strings.{ends_string, is_short_string}
use Rattle.vs_lexer.specs.Literals.{lacks_digits, is_in_range}
use Rattle.vs_lexer.specs.Tokens.{token_kind, kind_from, start_of, longest, longest_within, here, begins_number, checked, if_so, is_number_kind, word_kind, system_kind, sign_kind}
use Rattle.vs_lexer.specs.Cuts.{skipped, cut, cut_text, byte_order_mark, own_bytes, token_limit, token_at, with_token}
use Rattle.vs_lexer.specs.Laws.{IsSizeOf, StandsIn, AreTokens as AreAll, TokensStand}
use Rattle.vs_lexer.proofs.Longest.{lexeme}
use Rattle.vs_lexer.proofs.Progress.{cut_by, here_by, here_longest, here_some, here_inside}

-- ---- the tokens of a cut

-- a token of the text that begins at a place
pub record IsToken (at : ℕ) (rest : List ℕ) (t : Token) : Type 0 where
  pub low : at ≤ t.start
  pub some : t.start < t.end
  pub found : here (drop (t.start - at) rest) ≡ Ok (lexeme t.kind (t.end - t.start))
  pub whole : t.size ≡ None

-- each of these tokens is one
abbrev AreTokens : ℕ → List ℕ → List Token → Type 0
AreTokens at rest ts = (n : ℕ) (t : Token) → slice_get ts n ≡ Some t → IsToken at rest t

further : (at k : ℕ) (rest : List ℕ) (t : Token) → IsToken (at + k) (drop k rest) t → IsToken at rest t
further at k rest t i = record {
  low = let h = i.low in omega arith;
  some = i.some;
  found = let h = i.low in let e : k + (t.start - (at + k)) ≡ t.start - at = omega arith in ap (λ m. here (drop m rest)) (sym e) ∙ ap here (sym (drop-drop (t.start - (at + k)) k rest)) ∙ i.found;
  whole = i.whole;
}

first : (at : ℕ) (rest : List ℕ) (l : Lexeme) → here rest ≡ Ok l → IsToken at rest (token_at l at)
first at rest l e = record {
  low = omega arith;
  some = let s = here_some rest l e in omega arith;
  found = let z : at - at ≡ 0 = omega arith in let y : at + l.length - at ≡ l.length = omega arith in ap (λ m. here (drop m rest)) z ∙ e ∙ ap (λ n. Ok (lexeme l.kind n)) (sym y);
  whole = refl;
}

pushed : (at : ℕ) (rest : List ℕ) (l : Lexeme) (r : Result (List Token) LexError) (ts : List Token) → here rest ≡ Ok l → with_token (token_at l at) r ≡ Ok ts
    → ((us : List Token) → r ≡ Ok us → AreTokens (at + l.length) (drop l.length rest) us) → AreTokens at rest ts
pushed at rest l (Err e) ts h w f = cc
pushed at rest l (Ok us) ts h w f = let P : List Token → Type 0 = λ ts. AreTokens at rest ts in subst P (same w) each
  where
    same : with_token (token_at l at) (Ok us) ≡ Ok ts → token_at l at ∷ us ≡ ts
    same w = cc

    each : AreTokens at rest (token_at l at ∷ us)
    each zero t e = let q : token_at l at ≡ t = cc in let P : Token → Type 0 = λ t. IsToken at rest t in subst P q (first at rest l h)
    each (suc n) t e = further at l.length rest t (f us refl n t e)

cut_tokens : (steps left at : ℕ) (rest : List ℕ) (o : Option ℕ) (r : Result Lexeme Fault) (ts : List Token) → here rest ≡ r → cut_by steps left at rest o r ≡ Ok ts
    → ((left at : ℕ) (rest : List ℕ) (ts : List Token) → cut steps left at rest ≡ Ok ts → AreTokens at rest ts) → AreTokens at rest ts
cut_tokens steps left at rest None r ts h e f = cc
cut_tokens steps left at rest (Some (suc k)) r ts h e f = λ n t g. further at (suc k) rest t (f left (at + suc k) (drop (suc k) rest) ts e n t g)
cut_tokens steps left at rest (Some zero) (Err fault) ts h e f = cc
cut_tokens steps zero at rest (Some zero) (Ok l) ts h e f = cc
cut_tokens steps (suc more) at rest (Some zero) (Ok l) ts h e f = pushed at rest l (cut steps more (at + l.length) (drop l.length rest)) ts h e (λ us g. f more (at + l.length) (drop l.length rest) us g)

none_are : (at : ℕ) (rest : List ℕ) (ts : List Token) → ◌≡◌ {A = Result (List Token) LexError} (Ok []) (Ok ts) → AreTokens at rest ts
none_are at rest ts e = let q : ◌≡◌ {A = List Token} [] ts = cc in let P : List Token → Type 0 = λ ts. AreTokens at rest ts in subst P q (λ n t g. cc)

tokens_of : (steps left at : ℕ) (rest : List ℕ) (ts : List Token) → cut steps left at rest ≡ Ok ts → AreTokens at rest ts
tokens_of zero left at [] ts e = none_are at [] ts e
tokens_of zero left at (b ∷ bs) ts e = none_are at (b ∷ bs) ts e
tokens_of (suc steps) left at [] ts e = none_are at [] ts e
tokens_of (suc steps) left at (b ∷ bs) ts e = cut_tokens steps left at (b ∷ bs) (skipped (b ∷ bs)) (here (b ∷ bs)) ts refl e (tokens_of steps)

pub token_of : (text : List ℕ) (ts : List Token) (n : ℕ) (t : Token) → cut_text text ≡ Ok ts → slice_get ts n ≡ Some t → IsToken 0 text t
unfolding cut_text
token_of text ts n t e g = further 0 (byte_order_mark text) text t (tokens_of (length text) token_limit (0 + byte_order_mark text) (drop (byte_order_mark text) text) ts (subst (λ (m : ℕ). cut (length text) token_limit m (drop (byte_order_mark text) text) ≡ Ok ts) (zero_plus (byte_order_mark text)) e) n t g)
  where
    zero_plus : (m : ℕ) → m ≡ 0 + m
    zero_plus m = omega arith

-- a token stands in the text
pub token_inside : (text : List ℕ) (t : Token) → IsToken 0 text t → t.end ≤ length text
token_inside text t i =
    let le = here_inside (drop (t.start - 0) text) (lexeme t.kind (t.end - t.start)) i.found in
    let d : length (drop (t.start - 0) text) ≡ length text - (t.start - 0) = length-drop (t.start - 0) text in
    let s = i.some in
    omega arith

-- ---- numbers are in range

pick_kind : (o : Option TokenKind) (n : ℕ) (other : Option Lexeme) (l : Lexeme) (text : List ℕ) → o ≡ token_kind (take n text) → (elim o as (λ _. Option Lexeme) [ Some k ↦ Some (record { kind = k; length = n }) | None ↦ other ]) ≡ Some l
    → (other ≡ Some l → token_kind (take l.length text) ≡ Some l.kind) → token_kind (take l.length text) ≡ Some l.kind
pick_kind (Some k) n other l text q e f = let m : n ≡ l.length = cc in let j : k ≡ l.kind = cc in ap (λ i. token_kind (take i text)) (sym m) ∙ sym q ∙ ap (λ i. Some i) j
pick_kind None n other l text q e f = f e

pub longest_kind : (text : List ℕ) (n : ℕ) (l : Lexeme) → longest_within text n ≡ Some l → token_kind (take l.length text) ≡ Some l.kind
longest_kind text zero l e = cc
longest_kind text (suc n) l e = pick_kind (token_kind (take (suc n) text)) (suc n) (longest_within text n) l text refl e (longest_kind text n l)

-- no spelling of a table is a number
abbrev no_numbers : List Spelling → Bool
no_numbers table = list_all (λ s. not (is_number_kind s.1)) table

found_by : (b : Bool) (k : TokenKind) (o : Option TokenKind) (j : TokenKind) → cond b (Some k) o ≡ Some j → is_number_kind k ≡ false → (o ≡ Some j → is_number_kind j ≡ false) → is_number_kind j ≡ false
found_by true k o j e p f = let q : k ≡ j = cc in ap is_number_kind (sym q) ∙ p
found_by false k o j e p f = f e

found_no_number : (table : List Spelling) (text : List ℕ) (k : TokenKind) → no_numbers table ≡ true → find_spelling table text ≡ Some k → is_number_kind k ≡ false
found_no_number [] text k c e = cc
found_no_number (s ∷ ss) text k c e =
    let p = and_parts (not (is_number_kind s.1)) (no_numbers ss) c in
    found_by (bytes_eq s.0 text) s.1 (find_spelling ss text) k e (not-true (is_number_kind s.1) p.0) (λ f. found_no_number ss text k p.1 f)

or_no_number : (o : Option TokenKind) (d : TokenKind) → ((k : TokenKind) → o ≡ Some k → is_number_kind k ≡ false) → is_number_kind d ≡ false → is_number_kind (unwrap_or o d) ≡ false
or_no_number None d f g = g
or_no_number (Some k) d f g = f k refl

word_no_number : (w : List ℕ) → is_number_kind (word_kind w) ≡ false
unfolding word_kind keywords
word_no_number w = or_no_number (find_spelling keywords w) (cond (is_among left_out_words w) kind.LeftOutWord kind.Identifier) (λ k e. found_no_number keywords w k refl e) (other (is_among left_out_words w))
  where
    other : (b : Bool) → is_number_kind (cond b kind.LeftOutWord kind.Identifier) ≡ false
    other true = refl
    other false = refl

system_no_number : (w : List ℕ) → is_number_kind (system_kind w) ≡ false
unfolding system_kind system_names
system_no_number w = or_no_number (find_spelling system_names w) kind.SystemName (λ k e. found_no_number system_names w k refl e) refl

sign_no_number : (w : List ℕ) (k : TokenKind) → sign_kind w ≡ Some k → is_number_kind k ≡ false
unfolding sign_kind signs
sign_no_number w k e = found_no_number signs w k refl e

so_no_number : (b : Bool) (k j : TokenKind) → is_number_kind k ≡ false → if_so b k ≡ Some j → is_number_kind j ≡ false
so_no_number true k j p e = let q : k ≡ j = cc in ap is_number_kind (sym q) ∙ p
so_no_number false k j p e = cc

-- a string that is a number
pub record IsShort (s : Start) (text : List ℕ) (k : TokenKind) : Type 0 where
  pub string : s ≡ start.Text
  pub short : is_short_string text ≡ true
  pub based : k ≡ kind.Based

string_by : (short : Bool) (k : TokenKind) → cond short kind.Based kind.Text ≡ k → (is_number_kind k ≡ false) ⊎ ((short ≡ true) × (k ≡ kind.Based))
string_by true k e = inr (refl, sym e)
string_by false k e = inl (ap is_number_kind (sym e))

so_string : (b short : Bool) (k : TokenKind) → if_so b (cond short kind.Based kind.Text) ≡ Some k → (is_number_kind k ≡ false) ⊎ ((short ≡ true) × (k ≡ kind.Based))
so_string true short k e = let q : cond short kind.Based kind.Text ≡ k = cc in string_by short k q
so_string false short k e = cc

-- what begins as no number is none, or a short string
pub from_no_number : (s : Start) (b : ℕ) (bs : List ℕ) (k : TokenKind) → begins_number s ≡ false → kind_from s b bs ≡ Some k → (is_number_kind k ≡ false) ⊎ IsShort s (b ∷ bs) k
from_no_number start.Word b bs k n e = inl (so_no_number _ (word_kind (b ∷ bs)) k (word_no_number (b ∷ bs)) e)
from_no_number start.Number b bs k n e = cc
from_no_number start.Quote b bs k n e = cc
from_no_number start.Text b bs k n e = elim (so_string (ends_string bs) (is_short_string (b ∷ bs)) k e) [ inl f ↦ inl f | inr p ↦ inr (record { string = refl; short = p.0; based = p.1 }) ]
from_no_number start.Escaped b bs k n e = inl (so_no_number _ kind.EscapedIdentifier k refl e)
from_no_number start.System b bs k n e = inl (so_no_number _ (system_kind (b ∷ bs)) k (system_no_number (b ∷ bs)) e)
from_no_number start.Directive b bs k n e = inl (so_no_number _ kind.Directive k refl e)
from_no_number start.Sign b bs k n e = inl (sign_no_number (b ∷ bs) k e)

token_no_number : (b : ℕ) (bs : List ℕ) (n : ℕ) (k : TokenKind) → begins_number (start_of b) ≡ false → token_kind (take n (b ∷ bs)) ≡ Some k → (is_number_kind k ≡ false) ⊎ IsShort (start_of b) (take n (b ∷ bs)) k
token_no_number b bs zero k s e = cc
token_no_number b bs (suc n) k s e = from_no_number (start_of b) b (take n bs) k s e

checked_range : (b : Bool) (k l : Lexeme) → checked b k ≡ Ok l → (b ≡ true) × (k ≡ l)
checked_range true k l e = (refl, cc)
checked_range false k l e = cc

range_by : (number lacks : Bool) (o : Option Lexeme) (in_range : Lexeme → Bool) (l : Lexeme) → here_by number lacks o in_range ≡ Ok l → (number ≡ false → in_range l ≡ true) → in_range l ≡ true
range_by false lacks o r l e f = f refl
range_by true true o r l e f = cc
range_by true false None r l e f = cc
range_by true false (Some k) r l e f = let p = checked_range (r k) k l e in ap r (sym p.1) ∙ p.0

-- a string begins with `"`
text_by : (l d q t e s x : Bool) → cond l start.Word (cond d start.Number (cond q start.Quote (cond t start.Text (cond e start.Escaped (cond s start.System (cond x start.Directive start.Sign)))))) ≡ start.Text → t ≡ true
text_by true d q t e s x h = cc
text_by false true q t e s x h = cc
text_by false false true t e s x h = cc
text_by false false false true e s x h = refl
text_by false false false false true s x h = cc
text_by false false false false false true x h = cc
text_by false false false false false false true h = cc
text_by false false false false false false false h = cc

quote_of : (b : ℕ) → start_of b ≡ start.Text → b ≡ 34
quote_of b h = eqb-true b 34 (text_by (is_letter b) (is_digit b) (b == 39) (b == 34) (b == 92) (b == 36) (b == 96) h)

-- a short string is in range
pub short_in_range : (text : List ℕ) → get_or text 0 0 ≡ 34 → is_short_string text ≡ true → is_in_range text ≡ true
unfolding is_in_range
short_in_range [] q s = cc
short_in_range (b ∷ bs) q s = subst (λ (c : ℕ). is_short_string (c ∷ bs) ≡ true → is_in_range (c ∷ bs) ≡ true) (sym q) (λ t. t) s

-- a number that is taken is in range
pub number_in_range : (text : List ℕ) (l : Lexeme) → here text ≡ Ok l → is_number_kind l.kind ≡ true → is_in_range (take l.length text) ≡ true
number_in_range [] l e k = cc
number_in_range (b ∷ bs) l e k =
    range_by (begins_number (start_of b)) (lacks_digits (b ∷ bs)) (longest (b ∷ bs)) (λ m. is_in_range (take m.length (b ∷ bs))) l e
    (λ n. elim (token_no_number b bs l.length l.kind n (longest_kind (b ∷ bs) (length (b ∷ bs)) l (here_longest (b ∷ bs) l e))) [
      | inl f ↦ absurd (not_both k f)
      | inr s ↦ short_at l.length s.short (quote_of b s.string) (here_some (b ∷ bs) l e)
    ])
  where
    not_both : is_number_kind l.kind ≡ true → is_number_kind l.kind ≡ false → ⊥
    not_both y n = cc

    short_at : (n : ℕ) → is_short_string (take n (b ∷ bs)) ≡ true → b ≡ 34 → 0 < n → is_in_range (take n (b ∷ bs)) ≡ true
    short_at zero s q o = absurd (omega arith)
    short_at (suc n) s q o = short_in_range (b ∷ take n bs) q s

-- ---- the law of the tokens

push_few : (t : Token) (r : Result (List Token) LexError) (ts : List Token) (more : ℕ) → with_token t r ≡ Ok ts → ((us : List Token) → r ≡ Ok us → length us ≤ more) → length ts ≤ suc more
push_few t (Err e) ts more w f = cc
push_few t (Ok us) ts more w f = let q : t ∷ us ≡ ts = cc in let n = ap length q in let h = f us refl in omega arith

cut_few : (steps left at : ℕ) (rest : List ℕ) (o : Option ℕ) (r : Result Lexeme Fault) (ts : List Token) → cut_by steps left at rest o r ≡ Ok ts
    → ((left at : ℕ) (rest : List ℕ) (ts : List Token) → cut steps left at rest ≡ Ok ts → length ts ≤ left) → length ts ≤ left
cut_few steps left at rest None r ts e f = cc
cut_few steps left at rest (Some (suc k)) r ts e f = f left (at + suc k) (drop (suc k) rest) ts e
cut_few steps left at rest (Some zero) (Err fault) ts e f = cc
cut_few steps zero at rest (Some zero) (Ok l) ts e f = cc
cut_few steps (suc more) at rest (Some zero) (Ok l) ts e f = push_few (token_at l at) (cut steps more (at + l.length) (drop l.length rest)) ts more e (λ us g. f more (at + l.length) (drop l.length rest) us g)

none_few : (left : ℕ) (ts : List Token) → ◌≡◌ {A = Result (List Token) LexError} (Ok []) (Ok ts) → length ts ≤ left
none_few left ts e = let q : ◌≡◌ {A = List Token} [] ts = cc in let n = ap length q in omega arith

few_of : (steps left at : ℕ) (rest : List ℕ) (ts : List Token) → cut steps left at rest ≡ Ok ts → length ts ≤ left
few_of zero left at [] ts e = none_few left ts e
few_of zero left at (b ∷ bs) ts e = none_few left ts e
few_of (suc steps) left at [] ts e = none_few left ts e
few_of (suc steps) left at (b ∷ bs) ts e = cut_few steps left at (b ∷ bs) (skipped (b ∷ bs)) (here (b ∷ bs)) ts e (few_of steps)

stands : (text : List ℕ) (t : Token) → IsToken 0 text t → StandsIn text t
stands text t i = record {
  some = i.some;
  inside = token_inside text t i;
  taken = let z : t.start - 0 ≡ t.start = omega arith in ap (λ n. here (drop n text)) (sym z) ∙ i.found;
  sized = subst (λ o. IfSome o (IsSizeOf text t.kind (own_bytes text t))) (sym i.whole) tt;
}

pub tokens_stand : TokensStand
unfolding cut_text
tokens_stand text tokens e = record { few = few_of (length text) token_limit (byte_order_mark text) (drop (byte_order_mark text) text) tokens e; each = λ n d h. stands text (get_or tokens n d) (token_of text tokens n (get_or tokens n d) e (slice_get-get_or tokens n d h)) }

-- token n of a text
pub stands_at : (text : List ℕ) (tokens : List Token) (n : ℕ) (t : Token) → AreAll text tokens → slice_get tokens n ≡ Some t → StandsIn text t
stands_at text tokens n t a g = subst (StandsIn text) (get_or_from_slice_get tokens n t t g) (a.each n t (slice_get_within tokens n t g))
