-- What `run` of vs_top promises of words, and what is put behind its report where they ask for an explanation.
use Rattle.std.specs.Prelude.{◌≡◌, ◌≢◌, ◌⊎◌, ℕ, ◌+◌, ◌*◌, ◌≤◌, Bool, IsTrue, List, Option, Some, None}
use Rattle.vs_desk.specs.Desk.{Told}
use Rattle.vs_job.specs.declared.job.Job.{Job}
use Rattle.vs_job.specs.declared.job.Mode.TheVariants as modes
use Rattle.vs_job.specs.declared.bench.Bench.{Bench}
use Rattle.vs_job.specs.Bench.{bench}
use Rattle.vs_job.specs.Job.{Text, job}
use Rattle.vs_refusal.specs.declared.names.BareName.TheVariants.{Usage}
use Rattle.vs_refusal.specs.declared.refusal.Refusal.{Refusal}
use Rattle.vs_refusal.specs.declared.refusal.Refusal.TheVariants.{Bare}
use Rattle.vs_refusal.specs.declared.ending.Ending.TheVariants as ending
use Rattle.vs_top.specs.declared.outcome.Summary.{Summary}
use Rattle.vs_top.specs.declared.outcome.Course.{Course}
use Rattle.vs_top.specs.declared.outcome.Outcome.{Outcome}
use Rattle.vs_top.specs.declared.outcome.Outcome.TheVariants.{Done, Ordered, Refused, ReadFault, WriteFault, Memory}
use Rattle.vs_misses.specs.Missed.{Found}
use Rattle.vs_top.specs.Answered.{IsAnswered, IsKept}
use Rattle.vs_top.specs.Benched.{IsBenched}
use Rattle.vs_top.specs.Checked.{IsVerdict}
use Rattle.vs_top.specs.Ended.{OthersAttached}
use Rattle.vs_top.specs.Ordered.{IsOrdered}
use Rattle.vs_top.specs.Outcomes.{done_ending, ordered_ending}
use Rattle.vs_top.specs.Causes.{IsDoneOrMemory, IsFaultless, IsLawful, ShowsCause}
use Rattle.vs_top.specs.Refused.{IsRefusedJob, IsRefusedSo}
use Rattle.vs_top.specs.Reports.{IsSimulated, IsReported}
use Rattle.vs_top.specs.Headline.{IsWritten}
use Rattle.vs_explainer.specs.Missed.{ExplainsDone}
use Rattle.vs_explainer.specs.Told.{ExplainsRefusal, IsPut, ending_text, usage_text}

-- All clauses of `run` of vs_top: these words were run from the one desk to the other, with so many steps before and after.
pub record IsRun {tells : Bool} {D : Type 0} (told : D → Told tells) (words : List Text) (old new : D) (before after : ℕ) (result : Outcome) : Type 0 where
  pub written : IsTrue tells → (j : Job) → job words ≡ Some j → j.mode ≡ modes.Run → (s : Summary) → result ≡ Done s → IsWritten j (told old).contents (told new).contents s
  pub checked : IsTrue tells → (j : Job) → job words ≡ Some j → j.mode ≡ modes.Check → (s : Summary) → result ≡ Done s → IsVerdict j (told old).contents (told new).contents s
  pub ordered : IsTrue tells → (j : Job) → job words ≡ Some j → (c : Course) → result ≡ Ordered c → IsOrdered j (told old).contents (told new).contents c
  pub order : (j : Job) → job words ≡ Some j → (c : Course) → result ≡ Ordered c → (j.mode ≡ modes.Queue c.order) × (after ≡ before)
  pub operations : (s : Summary) → result ≡ Done s → (after ≡ before + s.operations) × (s.operations ≤ s.size * s.settlings)
  pub usage : job words ≡ None → bench words ≡ None → (result ≡ Refused (Bare Usage)) × IsReported (told old) (told new) result
  pub usage_only : result ≡ Refused (Bare Usage) → (job words ≡ None) × (bench words ≡ None)
  pub causes : ShowsCause (told old) (told new) result
  pub ended : (j : Job) → job words ≡ Some j → IsSimulated told j old new result ⊎ ((result ≡ Memory) × IsReported (told old) (told new) result)
  pub benched : (b : Bench) → bench words ≡ Some b → IsBenched b (told old) (told new) result
  pub others : OthersAttached (told old).register (told new).register
  pub refused : IsTrue tells → (j : Job) → job words ≡ Some j → (q : Refusal) → IsRefusedJob j (told old).contents q → IsFaultless (told old) (told new) → IsRefusedSo q result
  pub complete : IsTrue tells → (j : Job) → job words ≡ Some j → IsLawful j (told old).contents → IsFaultless (told old) (told new) → IsDoneOrMemory result

-- What `answer` of vs_top keeps of the lanes of these words, run from the one desk to the other: of a check that is done what was found and told of each.
pub record KeepsFound {tells : Bool} {D : Type 0} (told : D → Told tells) (words : List Text) (old new : D) (result : Outcome) (found : List (Option Found)) : Type 0 where
  pub kept : IsKept result found
  pub answered : (j : Job) → job words ≡ Some j → IsAnswered told j old new result found ⊎ ((result ≡ Memory) × IsReported (told old) (told new) result)

-- what is put of a refusal: of a job's what is seen again of its file says, of words that call for none the forms of all words
abbrev pub ExplainsRefused : {tells : Bool} → Option Job → Refusal → Told tells → Told tells → Type 0
ExplainsRefused (Some j) r old new = ExplainsRefusal j r old new
ExplainsRefused None r old new = IsPut old new usage_text

-- What is put behind the report of an answer that keeps this of lanes: of a refusal of a job by what is seen again of its file, of words that call for nothing the
-- forms of all words, of an answer that is done a line for each lane that missed something and then what it says, and of any other answer what it says. Where memory
-- runs out nothing is put of a refusal of a job, and the lines of lanes are put without what their files show. Where a call at place 0 fails some first bytes are.
abbrev pub Explains : {tells : Bool} → Option Job → Outcome → List (Option Found) → Told tells → Told tells → Type 0
Explains j (Refused r) found old new = ExplainsRefused j r old new
Explains j (Done s) found old new = ExplainsDone j found (done_ending s s.missed) old new
Explains j (Ordered c) found old new = IsPut old new (ending_text j (ordered_ending c))
Explains j (ReadFault place) found old new = IsPut old new (ending_text j (ending.ReadFault place))
Explains j (WriteFault place) found old new = IsPut old new (ending_text j (ending.WriteFault place))
Explains j Memory found old new = IsPut old new (ending_text j ending.Memory)

-- The same by the words. A job is read out of them again; where there is no memory for that nothing is put, unless want of memory is the answer. Where they
-- call for no job none is taken.
pub data ExplainsWords {tells : Bool} (words : List Text) (o : Outcome) (found : List (Option Found)) (old new : Told tells) : Type 0 where
  unexplained : (j : Job) → job words ≡ Some j → o ≢ Memory → new ≡ old → ExplainsWords words o found old new
  explained : Explains (job words) o found old new → ExplainsWords words o found old new
