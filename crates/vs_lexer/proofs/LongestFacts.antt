-- The longest prefix that is a token, told by all prefixes.
use Rattle.std.proofs.Common.{◌≡◌, ℕ, zero, suc, ◌<◌, ◌≤◌, List, refl, ◌∙◌, ap, length, take, arith, inl, inr}
use Rattle.std.specs.Prelude.{Option, Some, None, MatchOption}
use Rattle.vs_lexer.specs.declared.token.TokenKind.{TokenKind}
use Rattle.vs_lexer.specs.declared.scan.Lexeme.{Lexeme}
use Rattle.vs_lexer.specs.Tokens.{token_kind, longest_within}
use Rattle.vs_lexer.specs.Laws.{LongestIsTaken}
use Rattle.vs_lexer.proofs.Longest.{lexeme, over}

abbrev Law : List ℕ → ℕ → Option Lexeme → Type 0
Law text top o = MatchOption o ((n : ℕ) → n ≤ top → token_kind (take n text) ≡ None) (λ l. (token_kind (take l.length text) ≡ Some l.kind) × (l.length ≤ top) × ((n : ℕ) → l.length < n → n ≤ top → token_kind (take n text) ≡ None))

pick : Option TokenKind → ℕ → Option Lexeme → Option Lexeme
pick o n other = elim o [ Some k ↦ Some (lexeme k n) | None ↦ other ]

one_more : (text : List ℕ) (top : ℕ) (o : Option TokenKind) (other : Option Lexeme) → token_kind (take (suc top) text) ≡ o → Law text top other → Law text (suc top) (pick o (suc top) other)
unfolding pick
one_more text top (Some k) other e h = (e, omega arith, λ n a b. absurd (omega arith))
one_more text top None None e h = λ n a. elim (over n top a) [ inl i ↦ h n i | inr i ↦ ap (λ m. token_kind (take m text)) i ∙ e ]
one_more text top None (Some l) e h =
    let le = h.1 in
    (h.0, omega arith, λ n a b. elim (over n top b) [ inl i ↦ h.2 n a i | inr i ↦ ap (λ m. token_kind (take m text)) i ∙ e ])

within_law : (text : List ℕ) (top : ℕ) → Law text top (longest_within text top)
unfolding pick
within_law text zero = λ n a. let z : n ≡ 0 = omega arith in ap (λ m. token_kind (take m text)) z
within_law text (suc top) = one_more text top (token_kind (take (suc top) text)) (longest_within text top) refl (within_law text top)

pub longest_taken : LongestIsTaken
longest_taken text = within_law text (length text)
