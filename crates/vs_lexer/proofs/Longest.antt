-- The longest prefix that is a token.
use Rattle.std.proofs.Common.{◌≡◌, ℕ, zero, suc, ◌<◌, ◌≤◌, Bool, true, false, List, ◌∷◌, refl, sym, ◌∙◌, ap, length, take, arith, ◌⊎◌, inl, inr}
use Rattle.std.specs.Prelude.{Option, Some, None}
use Rattle.vs_lexer.specs.declared.token.TokenKind.{TokenKind}
use Rattle.vs_lexer.specs.declared.scan.Lexeme.{Lexeme}
use Rattle.vs_lexer.specs.Tokens.{token_kind, longest, longest_within, if_so}

pub over : (n t : ℕ) → n ≤ suc t → (n ≤ t) ⊎ (n ≡ suc t)
over n t h = grind arith

abbrev pub lexeme : TokenKind → ℕ → Lexeme
lexeme k n = record { kind = k; length = n }

choose : Option TokenKind → ℕ → Option Lexeme → Option Lexeme
choose o n other = elim o [ Some k ↦ Some (lexeme k n) | None ↦ other ]

pub within_is : (text : List ℕ) (n top : ℕ) (k : TokenKind) → 0 < n → n ≤ top → token_kind (take n text) ≡ Some k → ((m : ℕ) → n < m → m ≤ top → token_kind (take m text) ≡ None) → longest_within text top ≡ Some (lexeme k n)
unfolding choose
within_is text n zero k p h e g = absurd (omega arith)
within_is text n (suc t) k p h e g =
    elim (over n t h) [
      | inl i ↦ ap (λ o. choose o (suc t) (longest_within text t)) (g (suc t) (omega arith) (omega arith)) ∙ within_is text n t k p i e (λ m a b. g m a (omega arith))
      | inr i ↦ let w : token_kind (take (suc t) text) ≡ Some k = rw (← i) e in ap (λ o. choose o (suc t) (longest_within text t)) w ∙ ap (λ m. Some (lexeme k m)) (sym i)
    ]

pub within_none : (text : List ℕ) (top : ℕ) → ((m : ℕ) → 0 < m → m ≤ top → token_kind (take m text) ≡ None) → longest_within text top ≡ None
unfolding choose
within_none text zero g = refl
within_none text (suc t) g = ap (λ o. choose o (suc t) (longest_within text t)) (g (suc t) (omega arith) (omega arith)) ∙ within_none text t (λ m p h. g m p (omega arith))

-- prefixes past a length are no tokens
pub within_down : (text : List ℕ) (n top : ℕ) → n ≤ top → ((m : ℕ) → n < m → m ≤ top → token_kind (take m text) ≡ None) → longest_within text top ≡ longest_within text n
unfolding choose
within_down text n zero h g = let z : n ≡ 0 = omega arith in rw z refl
within_down text n (suc t) h g =
    elim (over n t h) [
      | inl i ↦ ap (λ o. choose o (suc t) (longest_within text t)) (g (suc t) (omega arith) (omega arith)) ∙ within_down text n t i (λ m a b. g m a (omega arith))
      | inr i ↦ rw i refl
    ]

-- one step of a search from the longest prefix down
pub within_some : (text : List ℕ) (n : ℕ) (k : TokenKind) → token_kind (take (suc n) text) ≡ Some k → longest_within text (suc n) ≡ Some (lexeme k (suc n))
unfolding choose
within_some text n k e = ap (λ o. choose o (suc n) (longest_within text n)) e

pub within_less : (text : List ℕ) (n : ℕ) → token_kind (take (suc n) text) ≡ None → longest_within text (suc n) ≡ longest_within text n
unfolding choose
within_less text n e = ap (λ o. choose o (suc n) (longest_within text n)) e

pub if_so_true : (b : Bool) (k : TokenKind) → b ≡ true → if_so b k ≡ Some k
if_so_true true k e = refl
if_so_true false k e = cc

pub if_so_false : (b : Bool) (k : TokenKind) → b ≡ false → if_so b k ≡ None
if_so_false true k e = cc
if_so_false false k e = refl

-- Where the prefixes of one kind are told by a test, the longest that passes is taken.
pub tested : (b : ℕ) (bs : List ℕ) (ok : ℕ → Bool) (kind : ℕ → TokenKind) (n : ℕ)
    → ((m : ℕ) → token_kind (b ∷ take m bs) ≡ if_so (ok m) (kind m)) → n ≤ length bs → ok n ≡ true → ((m : ℕ) → n < m → m ≤ length bs → ok m ≡ false)
    → longest (b ∷ bs) ≡ Some (lexeme (kind n) (suc n))
tested b bs ok kind n is h e g = within_is (b ∷ bs) (suc n) (suc (length bs)) (kind n) (omega arith) (omega arith) (is n ∙ if_so_true (ok n) (kind n) e) later
  where
    later : (m : ℕ) → suc n < m → m ≤ suc (length bs) → token_kind (take m (b ∷ bs)) ≡ None
    later zero a c = absurd (omega arith)
    later (suc m) a c = is m ∙ if_so_false (ok m) (kind m) (g m (omega arith) (omega arith))

pub untested : (b : ℕ) (bs : List ℕ) (ok : ℕ → Bool) (kind : ℕ → TokenKind)
    → ((m : ℕ) → token_kind (b ∷ take m bs) ≡ if_so (ok m) (kind m)) → ((m : ℕ) → m ≤ length bs → ok m ≡ false) → longest (b ∷ bs) ≡ None
untested b bs ok kind is g = within_none (b ∷ bs) (suc (length bs)) later
  where
    later : (m : ℕ) → 0 < m → m ≤ suc (length bs) → token_kind (take m (b ∷ bs)) ≡ None
    later zero a c = absurd (omega arith)
    later (suc m) a c = is m ∙ if_so_false (ok m) (kind m) (g m (omega arith))
