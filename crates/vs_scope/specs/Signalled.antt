-- What the code finds of signals.
use Rattle.std.specs.Prelude.{◌≡◌, ℕ, ◌+◌, Bool, List, [], ◌∷◌, sum_by, Option, Some, None}
use Rattle.vs_design.specs.Expressions as design
use Rattle.vs_design.specs.Expressions.{signal_length}
use Rattle.vs_ast.specs.Views as view
use Rattle.vs_grammar.specs.Trees.{RangeTree, ValueType, IntegerType, RangeType, SignalKind, Reg}
use Rattle.vs_const.specs.declared.faults.Fault.{Fault}
use Rattle.vs_const.specs.Faults.{least, fault_if}
use Rattle.vs_const.specs.declared.rules.Rule.TheVariants.{BadRange}
use Rattle.vs_const.specs.Meanings.{SignalMeaning}
use Rattle.vs_elaborated.specs.Environments.{Entry}
use Rattle.vs_elaborated.specs.Declarations.{SignalSort}
use Rattle.vs_elaborated.specs.Parameters as parameters
use Rattle.vs_elaborated.specs.Signals as spec
use Rattle.vs_scope.specs.declared.names.Declaration.{Declaration}
use Rattle.vs_scope.specs.declared.names.Signal.{Signal}
use Rattle.vs_scope.specs.declared.signals.Start.{Start}
use Rattle.vs_scope.specs.declared.signals.Form.{Form}
use Rattle.vs_scope.specs.declared.signals.Form.TheVariants.{Signals, Integer}
use Rattle.vs_scope.specs.declared.signals.SaidSignal.{SaidSignal}
use Rattle.vs_scope.specs.Views.{signal_meaning}

-- where signals begin
abbrev pub start_of : Start → spec.Start
start_of s = record { scope = s.scope; top = s.top; signal = s.signal; bit = s.bit }

-- behind all of these
abbrev pub start_after : spec.Start → List spec.SaidSignal → spec.Start
start_after s ss = record s { signal = s.signal + spec.net_count ss; bit = s.bit + sum_by (λ (x : spec.SaidSignal). signal_length x.meaning.signal) ss }

-- the kind and the type of a declaration
abbrev pub form_kind : Form → SignalKind
form_kind (Signals s) = view.signal_kind s.now.kind
form_kind Integer = Reg

abbrev pub form_type : Form → ValueType
form_type (Signals s) = RangeType s.now.signed (view.option view.range s.now.range)
form_type Integer = IntegerType

-- one name of a declaration, with its addresses
abbrev pub signal_sort : Form → Option RangeTree → Bool → SignalSort
signal_sort f addresses header = record { kind = form_kind f; value_type = form_type f; addresses = addresses; header = header }

-- the ranges of both declarations are equal
abbrev pub second_faults : parameters.SaidRange → parameters.SaidRange → Option Declaration → List Fault
second_faults r q None = []
second_faults r q (Some d) = fault_if (spec.are_unequal r q) BadRange d.name.now.place

-- but for its addresses and where it stands
pub record IsSortOf (f : Form) (s : SignalSort) : Type 0 where
  pub kind : form_kind f ≡ s.kind
  pub value_type : form_type f ≡ s.value_type

-- a signal, where it is first declared, and of its faults the first
pub record IsSaidSignal (c : SaidSignal) (s : spec.SaidSignal) : Type 0 where
  pub place : c.signal.place ≡ s.place
  pub meaning : signal_meaning c.signal ≡ s.meaning
  pub fault : c.fault ≡ least s.faults

-- a signal, and where it is declared
pub record Placed : Type 0 where
  pub place : ℕ
  pub meaning : SignalMeaning

-- as the code has it
abbrev pub placed : Signal → Placed
placed s = record { place = s.place; meaning = signal_meaning s }

-- as it is said
abbrev pub placed_of : spec.SaidSignal → Placed
placed_of s = record { place = s.place; meaning = s.meaning }

-- the faults of a signal
abbrev pub faults_of : spec.SaidSignal → List Fault
faults_of s = s.faults

-- a signal in the design
abbrev pub net : Signal → design.Signal
net s = (signal_meaning s).signal

-- those of the design that a name stands for
abbrev pub nets_in : Signal → List design.Signal
nets_in s = spec.nets_of (signal_meaning s).signal

-- the signal of one name, if it is one
abbrev pub IsSignalAt : Option SaidSignal → List spec.SaidSignal → Type 0
IsSignalAt None said = said ≡ []
IsSignalAt (Some c) said = (s : spec.SaidSignal) × (said ≡ s ∷ []) × IsSaidSignal c s

-- all signals of these meanings are known now
abbrev pub put_all : List SignalMeaning → List Entry → List Entry
put_all [] es = es
put_all (m ∷ ms) es = put_all ms (spec.put_signal m es)
