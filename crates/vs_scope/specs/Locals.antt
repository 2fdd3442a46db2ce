-- What the code finds of the local signals of a function.
use Rattle.std.specs.Prelude.{◌≡◌, ℕ, Bool, true, false, List, [], length, map, slice_get, Option, Some, None, is_some, if◌then◌else◌}
use Rattle.vs_ast.specs.Views as view
use Rattle.vs_ast.specs.Views.{option}
use Rattle.vs_const.specs.Faults.{least}
use Rattle.vs_const.specs.declared.names.Role.TheVariants.{InFunction}
use Rattle.vs_const.specs.declared.rules.Rule.TheVariants.{LoopVariable}
use Rattle.vs_const.specs.Meanings.{SignalMeaning, Meaning, ASignal, Barred, Find}
use Rattle.vs_elaborated.specs.Environments.{named}
use Rattle.vs_elaborated.specs.Statements as statements
use Rattle.vs_elaborated.specs.Functions as spec
use Rattle.vs_maps.specs.Maps.{value_at}
use Rattle.vs_maps.specs.MapViews.{pairs}
use Rattle.vs_maps.specs.Places.{found_at}
use Rattle.vs_maps.specs.PlaceViews.{placed as by_place}
use Rattle.vs_scope.specs.declared.locals.Local.{Local}
use Rattle.vs_scope.specs.declared.local_signals.LocalStart.{LocalStart}
use Rattle.vs_scope.specs.declared.names.LocalSignal.{LocalSignal}
use Rattle.vs_scope.specs.declared.names.PassedInput.{PassedInput}
use Rattle.vs_scope.specs.declared.local_signals.SaidLocal.{SaidLocal}
use Rattle.vs_scope.specs.declared.inside.Locals.{Locals}
use Rattle.vs_scope.specs.declared.inside.Inside.{Inside}
use Rattle.vs_scope.specs.Signalled.{Placed}
use Rattle.vs_scope.specs.Frames.{view_env}

-- a declaration of a function or of a named block in it
abbrev pub local : Local → statements.Local
local v = record { name = view.name v.name.now; value_type = view.value_type v.value_type.now }

-- where local signals begin
abbrev pub local_start : LocalStart → spec.Start
local_start s = record { scope = s.scope; signal = s.signal; bit = s.bit }

-- a local signal
abbrev pub local_meaning : LocalSignal → SignalMeaning
local_meaning s = record {
  signal = record { name = s.name.now; scope = s.scope; number = s.number; net = false; input = s.input; range = s.range; signed = s.signed; first = s.first; words = None; integer = s.integer };
  input = s.input;
  role = s.role;
  known = s.known;
}

-- and where it is declared
abbrev pub placed_local : LocalSignal → Placed
placed_local s = record { place = s.place; meaning = local_meaning s }

abbrev pub placed_local_of : spec.LocalSignal → Placed
placed_local_of s = record { place = s.place; meaning = s.meaning }

-- an input that passes a signal of the module
abbrev pub passed_of : PassedInput → spec.Passed
passed_of p = record {
  number = p.signal;
  input = record {
    signal = record { name = []; scope = p.scope; number = p.number; net = true; input = true; range = p.range; signed = p.signed; first = p.first; words = None; integer = false };
    input = true;
    role = InFunction;
    known = p.known;
  };
}

-- with the first fault of its range
pub record IsSaidLocal (c : SaidLocal) (s : spec.LocalSignal) : Type 0 where
  pub placed_is : placed_local c.signal ≡ placed_local_of s
  pub fault : c.fault ≡ least s.faults

-- ---- look-ups

-- the one of this number
abbrev pub numbered : {A : Type 0} → List A → Option ℕ → Option A
numbered xs None = None
numbered xs (Some i) = slice_get xs i

-- the one that is declared at this place
abbrev pub local_at : Locals → ℕ → Option LocalSignal
local_at l place = numbered l.signals.items (found_at place (by_place l.places))

-- what a name of the function's own means, or of a named block in it; if it is no local signal it is an integer of loops
abbrev pub own_meaning : Option LocalSignal → Meaning
own_meaning None = Barred LoopVariable
own_meaning (Some s) = ASignal (local_meaning s)

-- a name that is its own, by where it is declared, and else what the name means around
abbrev pub own_or : Locals → Option ℕ → Meaning → Meaning
own_or l None m = m
own_or l (Some place) m = own_meaning (local_at l place)

-- the input that passes the signal of a number
abbrev pub input_of : Locals → ℕ → Option SignalMeaning
input_of l number = option (λ (p : PassedInput). (passed_of p).input) (numbered l.passed.items (found_at number (by_place l.by_signal)))

-- whether there is one for each of these
abbrev pub hands_on : Locals → List SignalMeaning → Bool
hands_on l ss = is_some (spec.passed_on (input_of l) ss)

-- what a name means that means this around: in a function what is passed to it
abbrev pub outer_meaning : Inside → Meaning → Meaning
outer_meaning i m = if i.here.in_function then spec.passed_meaning (input_of i.locals) m else m

-- what each name means within a function, or within an always block
abbrev pub inside_names : Inside → Find
inside_names i name = own_or i.locals (value_at name (pairs i.locals.names)) (outer_meaning i (named (view_env i.here) name))

-- what a variable of a named block means that is declared at a place
abbrev pub inside_declared : Inside → ℕ → Meaning
inside_declared i place = own_meaning (local_at i.locals place)

-- ---- all of a function

-- where the first of this name is declared
abbrev pub place_of : List statements.Local → List ℕ → Option ℕ
place_of vs name = option (λ (v : statements.Local). v.name.place) (statements.find_local vs name)

pub record AreLocals (c : Locals) (l : spec.Locals) (vs : List statements.Local) : Type 0 where
  pub signals : map placed_local c.signals.items ≡ map placed_local_of (spec.all_locals l)
  pub inputs : c.inputs ≡ length l.inputs
  pub passed : map passed_of c.passed.items ≡ l.passed
  pub by_signal : (number : ℕ) → input_of c number ≡ spec.find_passed l.passed number
  pub by_name : (name : List ℕ) → value_at name (pairs c.names) ≡ place_of vs name
  pub at_place : (place : ℕ) → option local_meaning (local_at c place) ≡ option (λ (s : spec.LocalSignal). s.meaning) (spec.signal_at (spec.all_locals l) place)
