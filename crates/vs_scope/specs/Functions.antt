-- What the code finds of functions.
use Rattle.std.specs.Prelude.{◌≡◌, ◌==◌, ◌||◌, ◌&&◌, ℕ, nat_le, nat_lt, is_none, Bool, true, false, List, [], ◌∷◌, ◌++◌, length, map, Option, None}
use Rattle.vs_const.specs.Faults.{least, better, fault_if}
use Rattle.vs_const.specs.declared.rules.Rule.TheVariants.{FunctionRule}
use Rattle.vs_const.specs.Meanings.{FunctionMeaning}
use Rattle.vs_elaborated.specs.Limits.{the_limits}
use Rattle.vs_elaborated.specs.Environments.{Declared, OfFunction, Entry, Env}
use Rattle.vs_elaborated.specs.Declarations.{Declaration, FunctionOf}
use Rattle.vs_elaborated.specs.Functions as spec
use Rattle.std.specs.Borrow.{Bor}
use Rattle.vs_ast.specs.declared.items.Function.{Function}
use Rattle.vs_scope.specs.declared.names.Declared.{Declared as DeclaredOf}
use Rattle.vs_scope.specs.declared.names.Declared.TheVariants as states
use Rattle.vs_scope.specs.declared.names.Names.{Names}
use Rattle.vs_scope.specs.declared.functions.SaidFunction.{SaidFunction}
use Rattle.vs_scope.specs.declared.functions.SaidFunctions.{SaidFunctions}
use Rattle.vs_scope.specs.declared.functions.SaidHeader.{SaidHeader}
use Rattle.vs_bodies.specs.declared.said.StatementSaid.{StatementSaid}
use Rattle.vs_scope.specs.Counts.{counted}
use Rattle.vs_scope.specs.Complete.{KeepsShapes, complete, completed, function_declaration}
use Rattle.vs_scope.specs.Seen.{HasShape}
use Rattle.vs_scope.specs.Views.{entries}

-- the functions among declarations
abbrev pub functions_in : List Declaration → List Declaration
functions_in [] = []
functions_in (d ∷ ds) = elim d.sort [ FunctionOf f ↦ d ∷ functions_in ds | _ ↦ functions_in ds ]

-- one function
pub record IsSaidFunction (c : SaidFunction) (s : spec.SaidFunction) : Type 0 where
  pub shape : HasShape c.shape s.meaning
  pub fault : c.fault ≡ least s.faults
  pub copies : c.copies ≡ s.copies

-- one function, by what its local signals and its statement say
pub record IsOfParts (c : SaidFunction) (place number : ℕ) (h : SaidHeader) (s : StatementSaid) : Type 0 where
  pub number_is : c.shape.number ≡ number
  pub inputs : c.shape.inputs ≡ h.inputs
  pub passed : c.shape.passed ≡ h.passed
  pub range : c.shape.range ≡ h.range
  pub signed : c.shape.signed ≡ h.signed
  pub known : c.shape.known ≡ (h.known && is_none c.fault)
  pub depth : c.shape.depth ≡ s.depth
  pub fault : c.fault ≡ better h.fault (better s.fault (least (fault_if ((h.inputs == 0) || (nat_le 64 s.depth || nat_lt spec.most_bits h.bits)) FunctionRule place)))
  pub copies : c.copies ≡ s.copies

-- one declaration, where perhaps a function is complete now
abbrev pub IsCompletedDeclared : (old new : Declared) → Type 0
IsCompletedDeclared (OfFunction None) d = (f : Option FunctionMeaning) × (d ≡ OfFunction f)
IsCompletedDeclared c d = d ≡ c

-- the same names, of which perhaps more functions are complete
abbrev pub AreCompleted : (old new : List Entry) → Type 0
AreCompleted [] [] = Unit {0}
AreCompleted (e ∷ es) (f ∷ fs) = ((f.name ≡ e.name) × (f.place ≡ e.place) × IsCompletedDeclared e.declared f.declared) × AreCompleted es fs
AreCompleted _ _ = ⊥

-- of all functions, those that are left
abbrev pub said_left : (outer : Env) → Names → spec.Counts → List Declaration → spec.SaidFunctions
said_left outer names before rest = spec.said_functions the_limits names.scope outer before rest (complete outer names)

-- functions one after the other: with the rest, it is what all say
pub record IsSaying (outer : Env) (names : Names) (s : SaidFunctions) (rest : List Declaration) (all : spec.SaidFunctions) (called : List Declaration) : Type 0 where
  pub plain : names.plain ≡ length (entries names)
  pub kept : KeepsShapes outer names
  pub counts_now : counted s.counts ≡ (completed outer names).counts
  pub entries_are : (said_left outer names (counted s.counts) rest).entries ≡ all.entries
  pub fault : better s.fault (least (said_left outer names (counted s.counts) rest).faults) ≡ least all.faults
  pub counts_are : (said_left outer names (counted s.counts) rest).counts ≡ all.counts
  pub functions : map function_declaration names.functions.items ++ functions_in rest ≡ called

-- ---- one function more

abbrev pub is_incomplete : DeclaredOf → Bool
is_incomplete (states.Function None) = true
is_incomplete _ = false

-- but for the names
pub record IsSameScope (old new : Names) : Type 0 where
  pub functions : new.functions.items ≡ old.functions.items
  pub scope : new.scope ≡ old.scope
  pub counts : new.counts ≡ old.counts
  pub plain : new.plain ≡ old.plain

-- the names are the same, and one function more is complete
pub record IsCalled (old new : Names) (f : Bor Function) : Type 0 where
  pub entries_are : entries new ≡ entries old
  pub functions : new.functions.items ≡ old.functions.items ++ f ∷ []
  pub scope : new.scope ≡ old.scope
  pub counts : new.counts ≡ old.counts
  pub plain : new.plain ≡ old.plain
