-- The text of a slot, in each lane.
use Rattle.std.specs.Prelude.{◌≡◌, ℕ, ◌≤◌, Bool, true, false, if◌then◌else◌, List, [], ◌++◌, take, length, codes, slice_get, Some}
use Rattle.vs_vcd.specs.Values.{line, tail_text}
use Rattle.vs_vcd.specs.Texts.{time_line}
use Rattle.vs_waves.specs.declared.slot.Slot.{Slot}
use Rattle.vs_waves.specs.declared.round.LaneWave.{LaneWave}
use Rattle.vs_waves.specs.declared.round.Round.{Round}
use Rattle.vs_waves.specs.Changes.{changes_text, AreOf}

-- the first slot is closed
abbrev pub closing : Bool → List ℕ
closing true = line (codes "$end")
closing false = []

-- the text of a slot in lane i: what opens it, the lines of what changed, and what closes it
abbrev pub slot_lines : {W : Type 0} → (W → ℕ → Bool) → ℕ → Slot W → ℕ → List ℕ
slot_lines lane lanes s i = take s.opened s.opening ++ (changes_text lane lanes s.changes i ++ closing s.is_first)

-- what is left of the fall, once it was noted: its text, with the head before that of the first slot
abbrev pub noted_text : {W : Type 0} → (W → ℕ → Bool) → ℕ → Round W → LaneWave → ℕ → List ℕ
noted_text lane lanes r l i = if l.is_noted then (if r.fall.is_first then r.head.items else []) ++ slot_lines lane lanes r.fall i else []

-- what a round gives of lane i, where the fall is at this time: a live lane's two slots, and of a lane that has ended its last line, once
abbrev pub lane_text : {W : Type 0} → (W → ℕ → Bool) → ℕ → Round W → Bool → ℕ → LaneWave → ℕ → List ℕ
lane_text lane lanes r true time l i = noted_text lane lanes r l i ++ slot_lines lane lanes r.rise i
lane_text lane lanes r false time l i = if l.is_open then time_line time else []

-- each signal's lines end with its own identifier code
pub record AreTails (tails : List (List ℕ)) : Type 0 where
  pub each : (n : ℕ) (t : List ℕ) → slice_get tails n ≡ Some t → t ≡ tail_text n

-- the slot's changes are of signals whose numbers are below this one
pub record IsSlot {W : Type 0} (lanes signals : ℕ) (s : Slot W) : Type 0 where
  pub opened : s.opened ≤ 32
  pub changes : AreOf lanes signals s.changes

-- the round's slots have changes of its signals, each of which has an end of its lines
pub record IsRound {W : Type 0} (lanes : ℕ) (r : Round W) : Type 0 where
  pub tails : AreTails r.tails.items
  pub fall : IsSlot lanes (length r.tails.items) r.fall
  pub rise : IsSlot lanes (length r.tails.items) r.rise
