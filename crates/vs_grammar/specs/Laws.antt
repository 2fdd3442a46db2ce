-- What holds of every grammar that one token of look-ahead decides. The lists of tokens are those of x with a token of kind e, the end of the text,
-- behind them.
use Rattle.std.specs.Prelude.{◌≡◌, ℕ, ◌<◌, ◌↔◌, List, [], drop}
use Rattle.vs_grammar.specs.Grammars.{Phrase, Tree, Terminal, Derives, SyntaxAt, TooDeepAt}
use Rattle.vs_grammar.specs.Grammars.Phrase.{tok, seq}
use Rattle.vs_grammar.specs.Predictive.{Table, IsPredictive, Reads, Stops, Sinks}

-- a list of tokens has one tree at most
abbrev pub OneTree : Type 0
OneTree = (g : Table) (x : Phrase) (e : ℕ) → IsPredictive g x e → (ts : List Terminal) (a b : Tree g.rule (seq x (tok e))) → Derives a ts → Derives b ts → a ≡ b

-- what is read to the end is exactly what is derived, with the same tree
abbrev pub ReadIsDerived : Type 0
ReadIsDerived = (g : Table) (x : Phrase) (e : ℕ) → IsPredictive g x e → (ts : List Terminal) (a : Tree g.rule (seq x (tok e))) → Reads g (seq x (tok e)) ts a [] ↔ Derives a ts

-- where reading stops is the first token with which no derived list goes on
abbrev pub StopsAtFault : Type 0
StopsAtFault = (g : Table) (x : Phrase) (e : ℕ) → IsPredictive g x e → (ts : List Terminal) (k : ℕ) → Stops g (seq x (tok e)) ts (drop k ts) → SyntaxAt g.rule (seq x (tok e)) ts k

-- where a token is read more levels deep than are allowed, a derived list goes on with it, but none that is shallow enough
abbrev pub SinksTooDeep : Type 0
SinksTooDeep = (g : Table) (x : Phrase) (e : ℕ) → IsPredictive g x e → (most levels : ℕ) → most < levels → (ts : List Terminal) (k : ℕ) → Sinks g (seq x (tok e)) ts (drop k ts) levels → TooDeepAt g.rule (seq x (tok e)) most ts k

-- there is one such first token at most, in any grammar
abbrev pub OneFault : Type 0
OneFault = (rule : ℕ → Phrase) (x : Phrase) (ts : List Terminal) (j k : ℕ) → SyntaxAt rule x ts j → SyntaxAt rule x ts k → j ≡ k

-- and none in a list that is derived
abbrev pub NoFault : Type 0
NoFault = (rule : ℕ → Phrase) (x : Phrase) (ts : List Terminal) (k : ℕ) (a : Tree rule x) → Derives a ts → SyntaxAt rule x ts k → ⊥
