-- What an answer keeps of the lanes of a check, beside its outcome.
use Rattle.std.specs.Prelude.{◌≡◌, ℕ, Bool, IsTrue, List, [], length, Option, Some, None}
use Rattle.vs_desk.specs.Desk.{Contents, Told}
use Rattle.vs_misses.specs.Missed.{Found}
use Rattle.vs_job.specs.declared.job.Job.{Job}
use Rattle.vs_job.specs.declared.job.Mode.TheVariants as modes
use Rattle.vs_top.specs.declared.outcome.Summary.{Summary}
use Rattle.vs_top.specs.declared.outcome.Outcome.{Outcome}
use Rattle.vs_top.specs.declared.outcome.Outcome.TheVariants.{Done}
use Rattle.vs_top.specs.Verdicts.{misses_text, missed_lanes}
use Rattle.vs_top.specs.Checked.{IsVerdict}
use Rattle.vs_top.specs.Reported.{OnDone}
use Rattle.vs_top.specs.Reports.{IsSimulated}

-- what is kept of lanes of which so many missed something; where that is said of none there was no check, and nothing is kept
abbrev pub IsKeptOf : Option ℕ → List (Option Found) → Type 0
IsKeptOf None found = found ≡ []
IsKeptOf (Some missed) found = missed ≡ missed_lanes found

-- what is kept beside an outcome: of a check that is done what was found in each lane, and of every other nothing
abbrev pub IsKept : Outcome → List (Option Found) → Type 0
IsKept (Done s) found = IsKeptOf s.missed found
IsKept _ found = found ≡ []

-- It was found and told, and this is what was found in each lane.
abbrev pub IsVerdictOn : Job → Contents → Contents → List (Option Found) → Summary → Type 0
IsVerdictOn job old new found s = (v : IsVerdict job old new s) × (v.found ≡ found)

-- A job was run or checked with this outcome, and this is kept of its lanes: the lines that place 0 has got before the report line of one that is done are
-- those of what is kept, and of a check that is what is missed of each lane.
pub record IsAnswered {tells : Bool} {D : Type 0} (told : D → Told tells) (job : Job) (old new : D) (result : Outcome) (found : List (Option Found)) : Type 0 where
  pub simulated : IsSimulated told job old new result
  pub lines : OnDone result (simulated.lines ≡ misses_text found)
  pub kept : IsKept result found
  pub lanes : job.mode ≡ modes.Check → OnDone result (length found ≡ length job.stimuli)
  pub verdict : IsTrue tells → job.mode ≡ modes.Check → (s : Summary) → result ≡ Done s → IsVerdictOn job (told old).contents (told new).contents found s
