-- A signal, by what is found of its declarations.
use Rattle.std.proofs.Common.{◌≡◌, ℕ, Bool, List, Option, Some, None, refl, ap}
use Rattle.vs_four.specs.declared.Range.{Range}
use Rattle.vs_ast.specs.Views.{option}
use Rattle.vs_grammar.specs.Trees.{ValueType}
use Rattle.vs_const.specs.Faults.{fault_if}
use Rattle.vs_const.specs.declared.rules.Rule.TheVariants.{BadRange}
use Rattle.vs_const.specs.declared.names.Role.TheVariants.{InModule}
use Rattle.vs_const.specs.Meanings.{SignalMeaning}
use Rattle.vs_elaborated.specs.Environments.{Env}
use Rattle.vs_elaborated.specs.Declarations.{SignalSort}
use Rattle.vs_elaborated.specs.Parameters.{said_type}
use Rattle.vs_elaborated.specs.Signals as spec
use Rattle.vs_scope.specs.declared.names.Declaration.{Declaration}
use Rattle.vs_scope.specs.Views.{declaration}
use Rattle.vs_scope.specs.Signalled.{second_faults}

abbrev meaning_of : List ℕ → ℕ → ℕ → Bool → Bool → Option Range → Bool → ℕ → Option Range → Bool → Bool → Bool → SignalMeaning
meaning_of name scope number net input range signed first words integer is_input known =
    record { signal = record { name = name; scope = scope; number = number; net = net; input = input; range = range; signed = signed; first = first; words = words; integer = integer }; input = is_input; role = InModule; known = known }

pub same_meaning : (scope number first : ℕ) (n m : List ℕ) (a b c d e f g h k l i j : Bool) (r q v w : Option Range) → n ≡ m → a ≡ b → c ≡ d → e ≡ f → g ≡ h → k ≡ l → r ≡ q → v ≡ w → i ≡ j
    → meaning_of n scope number a c r e first v i g k ≡ meaning_of m scope number b d q f first w j h l
same_meaning scope number first n m a b c d e f g h k l i j r q v w x1 x2 x3 x4 x5 x6 x7 x8 x9 = cc

pub same_faults : (env : Env) (s : SignalSort) (other : ValueType) (second : Option Declaration) → other ≡ (spec.second_sort s (option declaration second)).value_type
    → second_faults (said_type s.value_type env) (said_type other env) second ≡ spec.second_faults env s (option declaration second)
same_faults env s other None h = refl
same_faults env s other (Some d) h = ap (λ (x : ValueType). fault_if (spec.are_unequal (said_type s.value_type env) (said_type x env)) BadRange d.name.now.place) h
