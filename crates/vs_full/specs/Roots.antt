-- The inputs that signals copy, by number.
use Rattle.std.specs.Prelude.{◌≡◌, ◌<◌, ℕ, Bool, true, false, List, map, set, take, length, if◌then◌else◌, ◌==◌, Option, None, Some, option_map, slice_get, slice_index_or}
use Rattle.vs_design.specs.Expressions.{Signal, signal_length, Expression}
use Rattle.vs_design.specs.Designs.{Port, InputPort, Process, Design}
use Rattle.vs_design.specs.Clocks.{name_of}
use Rattle.vs_design.specs.Selects.{copied_by, copied_from, root_within, select_root}

abbrev pub number_of : Signal → ℕ
number_of s = s.number

-- the signal that an expression is the name of is one of the design's
abbrev pub IsNamed : Design → Expression → Type 0
IsNamed d e = (s : Signal) → name_of e ≡ Some s → slice_get d.signals s.number ≡ Some s

abbrev pub is_input_port : Port → Bool
is_input_port InputPort = true
is_input_port _ = false

-- the number of the signal that is copied, and of the one that it is copied to, where both are as long as each other
abbrev pub copied_number : Option Signal → Option Signal → Option (ℕ × ℕ)
copied_number (Some t) (Some s) = if signal_length t == signal_length s then Some (s.number, t.number) else None
copied_number _ _ = None

-- of this copy what is copied to signal n
abbrev pub noted : ℕ → Option (ℕ × ℕ) → Option ℕ
noted n None = None
noted n (Some c) = if c.1 == n then Some c.0 else None

-- what a process copies to signal n, by number
abbrev pub copied_number_by : Signal → Process → Option ℕ
copied_number_by s p = option_map number_of (copied_by s p)

abbrev pub IsCopyWithin : ℕ → Option (ℕ × ℕ) → Type 0
IsCopyWithin count None = Unit {0}
IsCopyWithin count (Some c) = (c.0 < count) × (c.1 < count)

-- with a copy more, where none to the same signal is there
abbrev pub first_number : Option ℕ → ℕ → Option ℕ
first_number (Some n) m = Some n
first_number None m = Some m

abbrev pub with_copy : List (Option ℕ) → Option (ℕ × ℕ) → List (Option ℕ)
with_copy copies None = copies
with_copy copies (Some c) = set copies c.1 (first_number (slice_index_or copies c.1 None) c.0)

-- for each signal of the design what an input port copies to it, by number, of these processes alone
pub record AreCopiesBy (d : Design) (ps : List Process) (copies : List (Option ℕ)) : Type 0 where
  pub count : length copies ≡ length d.signals
  pub each : (n : ℕ) (s : Signal) → slice_get d.signals n ≡ Some s → slice_index_or copies n None ≡ option_map number_of (copied_from ps s)

-- of those before process p, and of all processes
abbrev pub AreCopiesBefore : Design → ℕ → List (Option ℕ) → Type 0
AreCopiesBefore d p copies = AreCopiesBy d (take p d.processes) copies

abbrev pub AreCopies : Design → List (Option ℕ) → Type 0
AreCopies d copies = AreCopiesBy d d.processes copies

-- the input that a signal is or copies
abbrev pub root_number : ℕ → Design → Signal → Option ℕ
root_number n d s = option_map number_of (root_within n d.processes s)

-- for each of these signals, and for each of the design
abbrev pub roots_in : Design → List Signal → List (Option ℕ)
roots_in d ss = map (λ (s : Signal). option_map number_of (select_root d s)) ss

abbrev pub AreRoots : Design → List (Option ℕ) → Type 0
AreRoots d roots = roots ≡ roots_in d d.signals
