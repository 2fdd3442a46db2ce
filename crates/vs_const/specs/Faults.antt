-- Broken rules, and the first of them.
use Rattle.std.specs.Prelude.{ℕ, Bool, false, ◌&&◌, ◌||◌, List, [], ◌∷◌, if◌then◌else◌, ◌==◌, nat_lt, Option, Some, None}
use Rattle.vs_const.specs.Rules.{rule_number, is_of_signal}
pub use Rattle.vs_const.specs.declared.rules.Rule.{Rule}
pub use Rattle.vs_const.specs.declared.rules.Rule.TheVariants.{NotConstant, UnknownConstant, NoTop, DuplicateModule, UnknownModule, UnknownName, DuplicateName, BadRange, PortCount, UnknownPort, InstanceDepth, TooManyInstances, GenerateTurns, WrongKind, TooManyBits, TooManyProcesses, LoopTurns, LoopVariable, FunctionRule, Recursion}
use Rattle.vs_const.specs.declared.faults.Fault.{Fault}
use Rattle.vs_const.specs.declared.faults.Flaws.{Flaws}

-- a broken rule at a place
abbrev pub fault : Rule → ℕ → List Fault
fault rule place = record { rule = rule; place = place } ∷ []

-- the fault where the rule is broken
abbrev pub fault_if : Bool → Rule → ℕ → List Fault
fault_if broken rule place = if broken then fault rule place else []

-- at a lesser place, or there with a lesser number
abbrev pub comes_before : Fault → Fault → Bool
comes_before a b = nat_lt a.place b.place || ((a.place == b.place) && nat_lt (rule_number a.rule) (rule_number b.rule))

-- the first of one and another, if there is another
abbrev pub lesser : Fault → Option Fault → Fault
lesser a None = a
lesser a (Some b) = if comes_before b a then b else a

-- the one with the least place, there with the least number
abbrev pub least : List Fault → Option Fault
least [] = None
least (a ∷ fs) = Some (lesser a (least fs))

-- the first of two
abbrev pub better : Option Fault → Option Fault → Option Fault
better None b = b
better (Some a) b = Some (lesser a b)

-- whether a signal is named where a constant is needed
abbrev pub names_signal : List Fault → Bool
names_signal [] = false
names_signal (a ∷ fs) = is_of_signal a.rule || names_signal fs

-- what is kept of faults
abbrev pub flaws_of : List Fault → Flaws
flaws_of fs = record { first = least fs; signal = names_signal fs }

-- what is kept of two lists
abbrev pub merged : Flaws → Flaws → Flaws
merged a b = record { first = better a.first b.first; signal = a.signal || b.signal }
