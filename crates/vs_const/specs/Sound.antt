-- What an expression without a fault stands for.
use Rattle.std.specs.Prelude.{◌≡◌, ◌≤◌, ℕ, Bool, true, false, List, [], ◌∷◌, Some}
use Rattle.vs_design.specs.Expressions.{Signal, addresses, width, is_constant}
use Rattle.vs_design.specs.Designs.{Design}
use Rattle.vs_design.specs.Elaborated.{is_plain, has_words, is_lawful_range, is_formed, is_formed_header, is_formed_statement, is_nil, inside}
use Rattle.vs_design.specs.Rules.{mixed_in}
use Rattle.vs_grammar.specs.Trees.{Expr}
use Rattle.vs_grammar.specs.Shapes.{IsExpr}
use Rattle.vs_const.specs.Meanings.{SignalMeaning, FunctionMeaning, Meaning, AValue, Undefined, ASignal, AMemory, AFunction, Incomplete, Another, Barred, Unknown, Find, IsFairValue}
use Rattle.vs_const.specs.Typed.{Typed}
use Rattle.vs_const.specs.Selects.{array_net}
use Rattle.vs_const.specs.Expressions.{typed}

-- what a name means where no fault was met: a value with its range, a known signal with a lawful range, a known memory or function of the design (in a constant any of them is a fault), or nothing that an expression can name
abbrev pub IsSoundSignal : Design → Bool → SignalMeaning → Type 0
IsSoundSignal d true s = Unit {0}
IsSoundSignal d false s = (is_plain d s.signal ≡ true) × (s.known ≡ true) × (s.signal.input ≡ true → s.input ≡ true) × (is_lawful_range s.signal.range ≡ true)

-- a memory has its words in the design, and an array of nets each of its nets
abbrev pub HasAllWords : (array : Bool) → Design → Signal → Type 0
HasAllWords false d s = has_words d s ≡ true
HasAllWords true d s = (n : ℕ) → (addresses s).right ≤ n → n ≤ (addresses s).left → has_words d (array_net s n) ≡ true

-- a memory likewise
abbrev pub IsSoundMemory : Design → Bool → SignalMeaning → Type 0
IsSoundMemory d true m = Unit {0}
IsSoundMemory d false m = HasAllWords m.signal.net d m.signal × (m.known ≡ true) × (m.signal.input ≡ true → m.input ≡ true)

-- what a call of a function holds is formed
pub record IsFormedFunction (d : Design) (f : FunctionMeaning) : Type 0 where
  pub header : is_formed_header d f.header ≡ true
  pub blocking : is_nil (mixed_in false f.statement) ≡ true
  pub statement : is_formed_statement (inside d f.header) f.statement ≡ true

-- what it passes are signals of the design
abbrev pub AreSoundSignals : Design → List SignalMeaning → Type 0
AreSoundSignals d [] = Unit {0}
AreSoundSignals d (s ∷ ss) = IsSoundSignal d false s × AreSoundSignals d ss

-- a function that is complete, likewise
abbrev pub IsSoundFunction : Design → Bool → FunctionMeaning → Type 0
IsSoundFunction d true f = Unit {0}
IsSoundFunction d false f = (f.known ≡ true) × IsFormedFunction d f × AreSoundSignals d f.passed

-- of a name
abbrev pub IsSound : Design → Bool → Meaning → Type 0
IsSound d needed (AValue v r turns) = IsFairValue v r × (is_lawful_range (Some r) ≡ true)
IsSound d needed (Undefined r) = ⊥
IsSound d needed (ASignal s) = IsSoundSignal d needed s
IsSound d needed (AMemory m) = IsSoundMemory d needed m
IsSound d needed (AFunction f) = IsSoundFunction d needed f
IsSound d needed Incomplete = Unit {0}
IsSound d needed Another = Unit {0}
IsSound d needed (Barred rule) = Unit {0}
IsSound d needed Unknown = Unit {0}

-- of every name
abbrev pub AreSound : Design → Bool → Find → Type 0
AreSound d needed find = (name : List ℕ) → IsSound d needed (find name)

-- an expression whose value no fault leaves undefined
pub record IsFine (d : Design) (needed : Bool) (t : Typed) : Type 0 where
  pub good : t.good ≡ true
  pub formed : is_formed d t.expression ≡ true
  pub length : t.length ≡ Some (width t.expression)
  pub constant : needed ≡ true → is_constant t.expression ≡ true

-- an expression without a fault stands for a formed one, whose length and value are known; it names no signal where a constant is needed
abbrev pub FaultlessIsFine : Type 0
FaultlessIsFine = (d : Design) (e : Expr) (find : Find) (needed : Bool) → AreSound d needed find → IsExpr e → (typed e find needed).faults ≡ [] → IsFine d needed (typed e find needed)
