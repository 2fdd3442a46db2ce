-- Files that are read again, at places of their own.
use Rattle.std.specs.Prelude.{◌≡◌, ◌≢◌, ◌⊎◌, ℕ, zero, suc, ◌+◌, ◌-◌, ◌<◌, Bool, IsTrue, IsNone, List, [], ◌∷◌, ◌++◌, length, take, if◌then◌else◌}
use Rattle.vs_desk.specs.Desk.{Register, Told}
use Rattle.vs_desk.specs.Places.{most_lanes, most_others}
use Rattle.vs_excerpt.specs.Positions.{is_newline}

-- the places at which files are read again, a design and a stimulus; a run has no such places
abbrev pub design_again : ℕ
design_again = 2

abbrev pub stimulus_again : ℕ
stimulus_again = 3

abbrev pub IsAgain : ℕ → Type 0
IsAgain place = (place ≡ design_again) ⊎ (place ≡ stimulus_again)

-- the places at which stimuli of several lanes are read again, one behind the other: each has a place of its own, since one is attached only once
abbrev pub lane_again : ℕ → ℕ
lane_again lane = 4 + lane

-- The places at which the design's further files are read again. They are some of the places of lanes: where a refusal is explained no stimuli of several lanes are read again.
abbrev pub other_again : ℕ → ℕ
other_again n = lane_again n

-- nothing is attached at any of these
pub record AreUnread (register : Register) : Type 0 where
  pub design : IsNone (register.attached design_again)
  pub stimulus : IsNone (register.attached stimulus_again)
  pub lanes : (lane : ℕ) → lane < most_lanes → IsNone (register.attached (lane_again lane))

-- the greatest number of bytes in the text of a design
abbrev pub most_bytes : ℕ
most_bytes = 4194304

-- the text is this head with the first bytes of a file behind it, as many as a text may have, where the desk tells of this file
pub record IsStart (tells : Bool) (head file text : List ℕ) : Type 0 where
  pub taken : List ℕ
  pub text_is : text ≡ head ++ taken
  pub taken_is : IsTrue tells → taken ≡ take (most_bytes - length head) file

-- the greatest number of bytes in the text of a stimulus
abbrev pub most_stimulus : ℕ
most_stimulus = 4294967296

-- the first n lines of a text, each with its LF; all of a text that has fewer
abbrev pub first_lines : ℕ → List ℕ → List ℕ
first_lines zero text = []
first_lines (suc n) [] = []
first_lines (suc n) (b ∷ bs) = b ∷ first_lines (if is_newline b then n else suc n) bs

-- none of the places of further files
abbrev pub IsNoOther : ℕ → Type 0
IsNoOther p = (n : ℕ) → n < most_others → p ≢ other_again n

-- Nothing that a desk tells has changed but at the places at which files are read again for a refusal. A call at such a place may have failed.
pub record OnlyRead {tells : Bool} (old new : Told tells) : Type 0 where
  pub others : (p : ℕ) → p ≢ design_again → p ≢ stimulus_again → IsNoOther p → new.register.attached p ≡ old.register.attached p
  pub losses : new.register.losses ≡ old.register.losses
  pub files : IsTrue tells → new.contents.files ≡ old.contents.files
  pub put : IsTrue tells → new.contents.put ≡ old.contents.put
  pub left : IsTrue tells → (p : ℕ) → p ≢ design_again → p ≢ stimulus_again → IsNoOther p → new.contents.left p ≡ old.contents.left p

-- Nothing that a desk tells has changed but at this place. A call there may have failed.
pub record OnlyReadAt {tells : Bool} (place : ℕ) (old new : Told tells) : Type 0 where
  pub others : (p : ℕ) → p ≢ place → new.register.attached p ≡ old.register.attached p
  pub losses : new.register.losses ≡ old.register.losses
  pub files : IsTrue tells → new.contents.files ≡ old.contents.files
  pub put : IsTrue tells → new.contents.put ≡ old.contents.put
  pub left : IsTrue tells → (p : ℕ) → p ≢ place → new.contents.left p ≡ old.contents.left p

-- no call failed
pub record IsFaultless (old new : Register) : Type 0 where
  pub faults : new.faults ≡ old.faults
  pub failed : new.failed ≡ old.failed
  pub asked : new.asked ≡ old.asked
