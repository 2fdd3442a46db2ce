-- What a turn of a run does: a step of a process, or the activation; none where nothing is left in the slot.
use Rattle.std.specs.Prelude.{◌≡◌, ℕ, ◌%◌, Bool, true, false, [], length, Some, slice_get, slice_index_or}
use Rattle.vs_net.specs.Network.{Network}
use Rattle.vs_net.specs.Queue.{Queue, Choice, after}
use Rattle.vs_events.specs.Held.{Events}
use Rattle.vs_queue.specs.Chosen.{drawn, beginning, possible_steps}
use Rattle.vs_queue.specs.Longest.{begins_slot}

-- the step that is drawn, within the slot
pub record IsDrawnStep (n : Network) (q : Queue) (seed : ℕ) (now : Queue) : Type 0 where
  pub choice : Choice
  pub drawn : slice_get (possible_steps n q) (drawn seed % length (possible_steps n q)) ≡ Some choice
  pub within : begins_slot choice ≡ false
  pub after : now ≡ after n q choice

-- no step is left but the one that begins the next slot
pub record IsSlotOver (n : Network) (q : Queue) (now : Queue) : Type 0 where
  pub over : possible_steps n q ≡ beginning q.slots
  pub same : now ≡ q

abbrev pub IsTurn : Network → Queue → ℕ → Bool → Queue → Type 0
IsTurn n q seed true now = IsDrawnStep n q seed now
IsTurn n q seed false now = IsSlotOver n q now

-- nothing is active
abbrev pub IsSpent : Events → Type 0
IsSpent e = (p : ℕ) → slice_index_or e.active p [] ≡ []

-- nothing waits
abbrev pub IsRested : Events → Type 0
IsRested e = (p : ℕ) → slice_index_or e.waiting p [] ≡ []
