-- What the code finds of a function's local signals.
use Rattle.std.specs.Prelude.{◌≡◌, ◌==◌, ◌+◌, ℕ, List, [], ◌∷◌, ◌++◌, length, map, sum_by, Option, Some, None, if◌then◌else◌}
use Rattle.vs_design.specs.Expressions.{signal_length}
use Rattle.vs_const.specs.Faults.{least}
use Rattle.vs_elaborated.specs.Statements as statements
use Rattle.vs_elaborated.specs.Functions as spec
use Rattle.vs_maps.specs.Places.{found_at}
use Rattle.vs_maps.specs.PlaceViews.{placed as by_place}
use Rattle.vs_maps.specs.declared.places.PlaceMap.{PlaceMap}
use Rattle.vs_scope.specs.declared.names.LocalSignal.{LocalSignal}
use Rattle.vs_scope.specs.declared.names.PassedInput.{PassedInput}
use Rattle.vs_scope.specs.declared.inside.SaidLocals.{SaidLocals}
use Rattle.vs_scope.specs.declared.inside.SignalledLocals.{SignalledLocals}
use Rattle.vs_scope.specs.Locals.{AreLocals, local_meaning, numbered, passed_of, placed_local, placed_local_of}
use Rattle.vs_scope.specs.LocalLists.{local_faults}

-- the first of this key
abbrev pub first_by : {A : Type 0} → (key : A → ℕ) → List A → ℕ → Option A
first_by key [] n = None
first_by key (x ∷ xs) n = if key x == n then Some x else first_by key xs n

-- where a local signal is declared, and which signal an input passes
abbrev pub place_of_local : LocalSignal → ℕ
place_of_local s = s.place

abbrev pub signal_of : PassedInput → ℕ
signal_of p = p.signal

-- of each place the number of the first local signal that is declared there
pub record AreNumbered (places : PlaceMap ℕ) (ss : List LocalSignal) : Type 0 where
  pub each : (place : ℕ) → numbered ss (found_at place (by_place places)) ≡ first_by place_of_local ss place

-- of each signal the number of the first input that passes it
pub record AreNumberedInputs (numbers : PlaceMap ℕ) (ps : List PassedInput) : Type 0 where
  pub each : (number : ℕ) → numbered ps (found_at number (by_place numbers)) ≡ first_by signal_of ps number

-- how many bits all have, also those that pass signals
abbrev pub all_bits : spec.Locals → ℕ
all_bits l = sum_by (λ (s : spec.LocalSignal). signal_length s.meaning.signal) l.inputs + (sum_by (λ (p : spec.Passed). signal_length p.input.signal) l.passed + sum_by (λ (s : spec.LocalSignal). signal_length s.meaning.signal) (l.result ∷ l.own))

-- the local signals, with their ranges
pub record AreSignalled (c : SignalledLocals) (l : spec.Locals) : Type 0 where
  pub signals : map placed_local c.all.signals.items ≡ map placed_local_of (spec.all_locals l)
  pub inputs : c.inputs ≡ length l.inputs
  pub passed : map passed_of c.passed.items ≡ l.passed
  pub result : local_meaning c.result ≡ l.result.meaning
  pub fault : c.all.fault ≡ least (local_faults (spec.all_locals l))
  pub known : c.all.known ≡ spec.are_known (spec.all_locals l)
  pub bits : c.all.next.bit ≡ all_bits l

pub record IsSaidLocals (c : SaidLocals) (l : spec.Locals) (vs : List statements.Local) : Type 0 where
  pub locals : AreLocals c.locals l vs
  pub range : c.result_range ≡ l.result.meaning.signal.range
  pub signed : c.result_signed ≡ l.result.meaning.signal.signed
  pub fault : c.fault ≡ least (statements.repeated_locals [] vs ++ local_faults (spec.all_locals l))
  pub known : c.known ≡ spec.are_known (spec.all_locals l)
  pub bits : c.bits ≡ all_bits l
