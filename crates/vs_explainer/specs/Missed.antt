-- What is put on place 0 of the lanes of a check that missed something.
use Rattle.std.specs.Prelude.{◌≡◌, ◌⊎◌, ℕ, suc, Bool, IsTrue, List, [], ◌∷◌, slice_get, take, Option, Some, None, Result, Ok, IsOk, IsErr, OnOk, OnErr}
use Rattle.vs_desk.specs.declared.desk.Failed.{Failed}
use Rattle.vs_desk.specs.Desk.{Told, PutsAll}
use Rattle.vs_misses.specs.Missed.{Found}
use Rattle.vs_misses.specs.Texts.{wanted_text, bits_text}
use Rattle.vs_job.specs.declared.job.Job.{Job}
use Rattle.vs_refusal.specs.declared.ending.Ending.{Ending}
use Rattle.vs_explanation.specs.Missed.{spot_in, miss_text}
use Rattle.vs_explanation.specs.Subjects.{stimulus_path}
use Rattle.vs_reread.specs.Again.{lane_again, most_stimulus, first_lines, OnlyReadAt}
use Rattle.vs_explainer.specs.Told.{IsPut, ending_text}

-- The stimulus of a lane was read again as far as this line, or it wasn't, since a call on the desk failed or memory ran out.
pub record SeesLane {tells : Bool} (job : Job) (lane row : ℕ) (old new : Told tells) (seen : Option (List ℕ)) : Type 0 where
  pub only : OnlyReadAt (lane_again lane) old new
  pub seen_is : IsTrue tells → (text path : List ℕ) → seen ≡ Some text → slice_get job.stimuli lane ≡ Some path → text ≡ first_lines row (take most_stimulus (old.contents.files path))

-- the line of what was found in a lane, where this was read of its stimulus
abbrev pub found_text : Job → ℕ → Option (List ℕ) → Found → List ℕ
found_text job lane seen f =
    miss_text (stimulus_path job lane) (spot_in seen f.line f.miss.output) f.line f.miss.output (wanted_text f.miss.wanted) (bits_text f.miss.got)

-- It was put, whole or, where a call at place 0 failed, some first bytes of it.
pub record TellsFound {tells : Bool} (job : Job) (lane : ℕ) (f : Found) (old new : Told tells) (result : Result (Unit {0}) Failed) : Type 0 where
  pub seen : Option (List ℕ)
  pub middle : Told tells
  pub sees : SeesLane job lane f.line old middle seen
  pub puts : PutsAll middle new 0 (found_text job lane seen f) result

-- the same of a lane in which perhaps nothing was found
abbrev pub TellsLane : {tells : Bool} → Job → ℕ → Option Found → Told tells → Told tells → Result (Unit {0}) Failed → Type 0
TellsLane job lane None old new result = (new ≡ old) × IsOk result
TellsLane job lane (Some f) old new result = TellsFound job lane f old new result

-- The lines of all lanes from this one on were put, by lane; where a call at place 0 failed those before it were, and some first bytes of its own.
abbrev pub TellsFrom : {tells : Bool} → Job → ℕ → List (Option Found) → Told tells → Told tells → Result (Unit {0}) Failed → Type 0
TellsFrom job lane [] old new result = (new ≡ old) × IsOk result
TellsFrom {tells} job lane (f ∷ found) old new result =
    (IsErr result × TellsLane job lane f old new result) ⊎ ((middle : Told tells) × TellsLane job lane f old middle (Ok tt) × TellsFrom job (suc lane) found middle new result)

-- What is put of an answer that is done, where this was found in the lanes of a job: a line for each lane that missed something, and then what is said of the answer.
-- Of a bench, which is no job, that alone.
abbrev pub ExplainsDone : {tells : Bool} → Option Job → List (Option Found) → Ending → Told tells → Told tells → Type 0
ExplainsDone {tells} (Some job) found ending old new =
    (middle : Told tells) × (result : Result (Unit {0}) Failed) × TellsFrom job 0 found old middle result
    × OnErr result (new ≡ middle) × OnOk result (IsPut middle new (ending_text (Some job) ending))
ExplainsDone None found ending old new = IsPut old new (ending_text None ending)
