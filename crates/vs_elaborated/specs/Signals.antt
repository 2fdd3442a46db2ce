-- The signals of a scope, with their ranges and numbers (IEEE 1364-2005, 3.2, 3.3 and 12.3.3).
use Rattle.std.specs.Prelude.{ℕ, ◌+◌, Bool, true, false, not, ◌&&◌, ◌||◌, List, [], ◌∷◌, ◌++◌, map, flat_map, length, sum_by, is_some, if◌then◌else◌, Option, Some, None}
use Rattle.vs_design.specs.Expressions.{Signal, signal_length, addresses}
use Rattle.vs_four.specs.Selects.{range_length}
use Rattle.vs_design.specs.Values.{count_from}
use Rattle.vs_design.specs.Clocks.{same_name}
use Rattle.vs_design.specs.Elaborated.{same_range}
use Rattle.vs_grammar.specs.Trees.{Name, SignalKind, Input, InputWire, OutputReg, Reg}
use Rattle.vs_const.specs.declared.faults.Fault.{Fault}
use Rattle.vs_const.specs.Faults.{fault_if}
use Rattle.vs_const.specs.declared.rules.Rule.TheVariants.{BadRange}
use Rattle.vs_const.specs.declared.names.Role.TheVariants.{InModule}
use Rattle.vs_const.specs.Meanings.{SignalMeaning}
use Rattle.vs_const.specs.Selects.{array_net}
use Rattle.vs_elaborated.specs.Environments.{OfSignal, Entry, Env}
use Rattle.vs_elaborated.specs.Declarations.{SignalSort, Sort, SignalOf, Declaration, Named}
use Rattle.vs_elaborated.specs.Parameters.{SaidRange, said_type, is_signed, is_integer_type, said_addresses}

-- whether it declares a variable
abbrev pub is_reg : SignalKind → Bool
is_reg Reg = true
is_reg OutputReg = true
is_reg _ = false

-- whether it declares an input
abbrev pub is_input : SignalKind → Bool
is_input Input = true
is_input InputWire = true
is_input _ = false

-- a signal that is declared once is declared with itself
abbrev pub second_sort : SignalSort → Option Declaration → SignalSort
second_sort s None = s
second_sort s (Some d) = elim d.sort [ SignalOf t ↦ t | _ ↦ s ]

-- where the signals begin; `top` says whether their scope is the top
pub record Start : Type 0 where
  pub scope : ℕ
  pub top : Bool
  pub signal : ℕ
  pub bit : ℕ

-- a signal of its first declaration, and perhaps of a second one: a variable, an input, signed where one of them says so; a memory and an array of nets have one alone
abbrev pub signal_meaning : Env → Start → Name → SignalSort → SignalSort → SignalMeaning
signal_meaning env start name s t =
    let r = said_type s.value_type env in
    let w = said_addresses s.addresses env in
    let input = is_input s.kind || is_input t.kind in
    record {
      signal = record { name = name.bytes; scope = start.scope; number = start.signal; net = not (is_reg s.kind || is_reg t.kind); input = input && start.top; range = r.range; signed = is_signed s.value_type || is_signed t.value_type; first = start.bit; words = w.range; integer = is_integer_type s.value_type || is_integer_type t.value_type };
      input = input;
      role = InModule;
      known = r.known && w.known;
    }

-- the ranges of both declarations are equal
abbrev pub are_unequal : SaidRange → SaidRange → Bool
are_unequal r q = r.known && (q.known && not (same_range r.range q.range))

-- the second name is at fault
abbrev pub second_faults : Env → SignalSort → Option Declaration → List Fault
second_faults env s None = []
second_faults env s (Some d) = fault_if (are_unequal (said_type s.value_type env) (said_type (second_sort s (Some d)).value_type env)) BadRange d.name.place

-- a signal, where it is first declared, and its faults
pub record SaidSignal : Type 0 where
  pub place : ℕ
  pub meaning : SignalMeaning
  pub faults : List Fault

-- the signals of the design that a name stands for: an array of nets stands for its nets, by ascending address
abbrev pub nets_if : (array : Bool) → Signal → List Signal
nets_if false s = s ∷ []
nets_if true s = map (array_net s) (count_from (addresses s).right (range_length (addresses s)))

abbrev pub nets_of : Signal → List Signal
nets_of s = nets_if (s.net && is_some s.words) s

-- where the next signal begins
abbrev pub after : Start → SignalMeaning → Start
after start m = record start { signal = start.signal + length (nets_of m.signal); bit = start.bit + signal_length m.signal }

-- one signal, of its one or two declarations
abbrev pub said_signal : Env → Start → Named → SignalSort → SaidSignal
said_signal env start n s = record { place = n.first.name.place; meaning = signal_meaning env start n.first.name s (second_sort s n.second); faults = second_faults env s n.second }

-- in order of declaration
abbrev pub said_signals : Env → Start → List Named → List SaidSignal
said_signals env start [] = []
said_signals env start (n ∷ ns) = elim n.first.sort [ SignalOf s ↦ let one = said_signal env start n s in one ∷ said_signals env (after start one.meaning) ns | _ ↦ said_signals env start ns ]

-- those of the design, by their numbers, and how many these are
abbrev pub all_nets : List SaidSignal → List Signal
all_nets ss = flat_map (λ (s : SaidSignal). nets_of s.meaning.signal) ss

abbrev pub net_count : List SaidSignal → ℕ
net_count ss = sum_by (λ (s : SaidSignal). length (nets_of s.meaning.signal)) ss

-- of a signal's ranges
abbrev pub sort_faults : Env → Sort → List Fault
sort_faults env (SignalOf s) = (said_type s.value_type env).faults ++ (said_addresses s.addresses env).faults
sort_faults env _ = []

-- of all declarations of signals
abbrev pub range_faults : Env → List Declaration → List Fault
range_faults env ds = flat_map (λ (d : Declaration). sort_faults env d.sort) ds

-- this signal is known now
abbrev pub put_signal : SignalMeaning → List Entry → List Entry
put_signal m es = map (λ (e : Entry). if same_name e.name m.signal.name then record e { declared = OfSignal m } else e) es

-- all signals are known now
abbrev pub put_signals : List SaidSignal → List Entry → List Entry
put_signals [] es = es
put_signals (s ∷ ss) es = put_signals ss (put_signal s.meaning es)
