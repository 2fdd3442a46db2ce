-- Functions by their numbers in a design (IEEE 1364-2005, 10.4): those of a scope come before those of the scopes within it, in the order of the text.
use Rattle.std.specs.Prelude.{◌≡◌, ℕ, ◌+◌, List, [], ◌∷◌, ◌++◌, length, slice_get, Some}
use Rattle.vs_design.specs.Statements.{Function}
use Rattle.vs_design.specs.Designs.{Design}
use Rattle.vs_grammar.specs.Trees as tree
use Rattle.vs_grammar.specs.Trees.{Source}
use Rattle.vs_grammar.specs.Shapes.{Each}
use Rattle.vs_const.specs.Meanings.{FunctionMeaning, Meaning, AFunction, Find}
use Rattle.vs_elaborated.specs.Limits.{Limits}
use Rattle.vs_elaborated.specs.Environments.{Declared, OfFunction, Entry, Env, named}
use Rattle.vs_elaborated.specs.Declarations.{Declaration}
use Rattle.vs_elaborated.specs.Functions.{function_names, Counts, said_functions}
use Rattle.vs_elaborated.specs.Pieces.{Task, Piece, Own, OfScopes, Initially, Instance, Within}
use Rattle.vs_elaborated.specs.Surveys.{Totals, survey}

-- ---- names

-- what a call of it holds is the function of its number in the design
abbrev pub IsAtNumber : Design → FunctionMeaning → Type 0
IsAtNumber d f = slice_get d.functions f.number ≡ Some (record { header = f.header; statement = f.statement })

-- of a name
abbrev pub IsNumbered : Design → Meaning → Type 0
IsNumbered d (AFunction f) = IsAtNumber d f
IsNumbered d _ = Unit {0}

-- of every name
abbrev pub AreNumbered : Design → Find → Type 0
AreNumbered d find = (name : List ℕ) → IsNumbered d (find name)

-- of what is declared, if it is a function that is complete
abbrev pub IsNumberedDeclared : Design → Declared → Type 0
IsNumberedDeclared d (OfFunction (Some f)) = IsAtNumber d f
IsNumberedDeclared d _ = Unit {0}

-- of a scope
abbrev pub AreNumberedEntries : Design → List Entry → Type 0
AreNumberedEntries d es = Each (λ (e : Entry). IsNumberedDeclared d e.declared) es

-- of a scope and of the scopes around it
abbrev pub AreNumberedFrames : Design → List (List Entry) → Type 0
AreNumberedFrames d fs = Each (AreNumberedEntries d) fs

-- of what is still to be read
abbrev pub IsNumberedPiece : Design → Piece → Type 0
IsNumberedPiece d (Own p) = Unit {0}
IsNumberedPiece d (OfScopes b) = AreNumberedFrames d b.env.frames
IsNumberedPiece d (Initially place statement) = Unit {0}
IsNumberedPiece d (Instance connections task) = AreNumberedFrames d task.env.frames
IsNumberedPiece d (Within task) = AreNumberedFrames d task.env.frames

-- these functions stand in the design, from this number on
abbrev pub HasFunctions : Design → (first : ℕ) → List Function → Type 0
HasFunctions d first [] = Unit {0}
HasFunctions d first (f ∷ fs) = (slice_get d.functions first ≡ Some f) × HasFunctions d (first + 1) fs

-- ---- laws

-- what numbered names mean
abbrev pub NamesAreNumbered : Type 0
NamesAreNumbered = (d : Design) (env : Env) → AreNumberedFrames d env.frames → AreNumbered d (named env)

-- and what they mean in a function
abbrev pub FunctionNamesAreNumbered : Type 0
FunctionNamesAreNumbered = (d : Design) (scope : ℕ) (env : Env) (f : tree.Function) → AreNumberedFrames d env.frames → AreNumbered d (function_names scope env f)

-- where a design has the functions of some declarations, the names behind them are numbered
abbrev pub FunctionsAreNumbered : Type 0
FunctionsAreNumbered = (d : Design) (limits : Limits) (scope : ℕ) (outer : Env) (counts : Counts) (ds : List Declaration) (es : List Entry) → AreNumberedEntries d es
    → HasFunctions d counts.functions (said_functions limits scope outer counts ds es).functions → AreNumberedEntries d (said_functions limits scope outer counts ds es).entries

-- of a scope
pub record IsNumberedScope (d : Design) (limits : Limits) (source : Source) (t : Task) (totals : Totals) : Type 0 where
  pub names : AreNumberedEntries d (survey limits source t totals).entries
  pub pieces : Each (IsNumberedPiece d) (survey limits source t totals).pieces

-- where a design has the functions of a scope, its names are numbered, and those that are seen within it
abbrev pub ScopesAreNumbered : Type 0
ScopesAreNumbered = (d : Design) (limits : Limits) (source : Source) (t : Task) (totals : Totals) → AreNumberedFrames d t.env.frames → HasFunctions d totals.functions (survey limits source t totals).functions
    → IsNumberedScope d limits source t totals

-- the functions of every scope follow on
abbrev pub FunctionsAreCounted : Type 0
FunctionsAreCounted = (limits : Limits) (source : Source) (t : Task) (totals : Totals) → (survey limits source t totals).totals.functions ≡ totals.functions + length (survey limits source t totals).functions

-- functions that come behind others change no number
abbrev pub NumbersStay : Type 0
NumbersStay = (d e : Design) (more : List Function) (fs : List (List Entry)) → e.functions ≡ d.functions ++ more → AreNumberedFrames d fs → AreNumberedFrames e fs

-- and have the numbers behind them
abbrev pub MoreFunctionsStand : Type 0
MoreFunctionsStand = (d e : Design) (more : List Function) → e.functions ≡ d.functions ++ more → HasFunctions e (length d.functions) more
