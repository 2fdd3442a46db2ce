-- Numbers.
use Rattle.std.proofs.Common.{◌≡◌, ℕ, Bool, true, false, ◌||◌, List, [], ◌∷◌, refl, sym, suc, zero, ◌+◌, drop, nat_eq, arith}
use Rattle.vs_lexer.specs.declared.token.Token.{Token}
use Rattle.vs_lexer.specs.declared.token.TokenKind.{TokenKind}
use Rattle.vs_lexer.specs.declared.token.TokenKind.TheVariants as kind
use Rattle.vs_lexer.specs.Cuts.{is_number}
use Rattle.vs_lexer.specs.Tokens.{is_number_kind}
use Rattle.vs_four.specs.declared.Bit4.{Bit4}
use Rattle.vs_grammar.specs.Kinds.{number_of}
use Rattle.vs_grammar.specs.Grammars.Tree.{former, latter}
use Rattle.vs_grammar.specs.Predictive.{is_member}
use Rattle.vs_grammar.specs.Trees.{Literal}
use Rattle.vs_grammar.specs.Meaning.{literal_at, literal_of}
use Rattle.vs_statements.specs.declared.input.Input.{Input}
use Rattle.vs_statements.specs.Reading.{kind_at, first_kind, terminal_at, bytes_in, Chosen}
use Rattle.vs_statements.proofs.Places.{inside_of, same_number}
use Rattle.vs_statements.proofs.Tables.{chosen_leaf, chosen_former, chosen_latter}
use Rattle.vs_grammar.specs.Verilog as grammar
use Rattle.vs_grammar.specs.Meaning as meaning

unlike : {P : Type 0} → false ≡ true → P
unlike e = cc

number_kind : (k : TokenKind) → is_member (number_of k) (1 ∷ 2 ∷ []) ≡ true → is_number_kind k ≡ true
number_kind kind.Decimal e = refl
number_kind kind.Based e = refl
number_kind _ e = unlike e

there : (ts : List Token) (i : ℕ) → is_member (first_kind (drop i ts)) (1 ∷ 2 ∷ []) ≡ true → is_number ts i ≡ true
there [] zero e = unlike e
there [] (suc i) e = unlike e
there (t ∷ ts) zero e = number_kind t.kind e
there (t ∷ ts) (suc i) e = there ts i e

pub is_number_there : (ts : List Token) (i : ℕ) → is_member (kind_at ts i) (1 ∷ 2 ∷ []) ≡ true → is_number ts i ≡ true
unfolding kind_at
is_number_there ts i e = there ts i e

no_number_kind : (k : TokenKind) → number_of k ≡ number_of kind.Identifier → is_number_kind k ≡ false
no_number_kind kind.Decimal e = absurd (omega arith)
no_number_kind kind.Based e = absurd (omega arith)
no_number_kind _ e = refl

no_number : (ts : List Token) (i : ℕ) → first_kind (drop i ts) ≡ number_of kind.Identifier → is_number ts i ≡ false
no_number [] zero e = refl
no_number [] (suc i) e = refl
no_number (t ∷ ts) zero e = no_number_kind t.kind e
no_number (t ∷ ts) (suc i) e = no_number ts i e

-- an identifier is none
pub is_no_number_there : (ts : List Token) (i : ℕ) → kind_at ts i ≡ number_of kind.Identifier → is_number ts i ≡ false
unfolding kind_at
is_no_number_there ts i e = no_number ts i e

-- the number that a token stands for
pub number_chosen : (input : Input) (i : ℕ) (value : Literal) → is_member (kind_at input.tokens.now i) (1 ∷ 2 ∷ []) ≡ true → literal_at (bytes_in input) (terminal_at input.tokens.now i) ≡ value → Chosen input.tokens.now grammar.number (meaning.literal_of (bytes_in input)) i value (i + 1)
number_chosen input i value m e = go (nat_eq (kind_at input.tokens.now i) 1) refl
  where
    rest : (a b : Bool) → a ≡ false → (a || (b || false)) ≡ true → b ≡ true
    rest true b e f = unlike (sym e)
    rest false true e f = refl
    rest false false e f = f

    off : (a : Bool) → a ≡ false → (a || false) ≡ false
    off true e = e
    off false e = refl

    go : (b : Bool) → nat_eq (kind_at input.tokens.now i) 1 ≡ b → Chosen input.tokens.now grammar.number (meaning.literal_of (bytes_in input)) i value (i + 1)
    go true q = chosen_former (meaning.literal_of (bytes_in input)) (λ a. refl) (chosen_leaf 1 (same_number (kind_at input.tokens.now i) 1 q) (inside_of input.tokens.now i (1 ∷ 2 ∷ []) m refl) (λ a. literal_of (bytes_in input) (former a)) e)
    go false q = chosen_latter (meaning.literal_of (bytes_in input)) (λ a. refl) (off (nat_eq (kind_at input.tokens.now i) 1) q) (chosen_leaf 2 (same_number (kind_at input.tokens.now i) 2 (rest (nat_eq (kind_at input.tokens.now i) 1) (nat_eq (kind_at input.tokens.now i) 2) q m)) (inside_of input.tokens.now i (1 ∷ 2 ∷ []) m refl) (λ a. literal_of (bytes_in input) (latter a)) e)

pub same_literal : {a p : List Bit4} {b q c r : Bool} (place : ℕ) → p ≡ a → q ≡ b → r ≡ c → let x : Literal = record { place = place; bits = a; signed = b; sized = c } in let y : Literal = record { place = place; bits = p; signed = q; sized = r } in x ≡ y
same_literal {a} {p} {b} {q} {c} {r} place e f g = rw (e, f, g) refl
