-- What is put where there is no memory for the job of the words.
use Rattle.std.proofs.Common.{◌≡◌, ◌≢◌, Bool, List, Option, Some, None, refl}
use Rattle.vs_desk.specs.Desk.{Told}
use Rattle.vs_job.specs.declared.job.Job.{Job}
use Rattle.vs_job.specs.Job.{Text, job}
use Rattle.vs_refusal.specs.declared.ending.Ending.TheVariants as ending
use Rattle.vs_top.specs.declared.outcome.Outcome.{Outcome}
use Rattle.vs_top.specs.declared.outcome.Outcome.TheVariants.{Done, Ordered, Refused, ReadFault, WriteFault, Memory}
use Rattle.vs_misses.specs.Missed.{Found}
use Rattle.vs_explainer.specs.Told.{IsPut, ending_text}
use Rattle.vs_explain.specs.Answered.{ExplainsWords}
use Rattle.vs_explain.specs.Answered.ExplainsWords.{unexplained, explained}

pub unread : {tells : Bool} (words : List Text) (o : Outcome) (found : List (Option Found)) (old new : Told tells) (j : Option Job) → job words ≡ j → (j ≡ None → ⊥)
    → (o ≡ Memory → IsPut old new (ending_text None ending.Memory)) → (o ≢ Memory → new ≡ old) → ExplainsWords words o found old new
unread words o found old new None e some memory others = absurd (some refl)
unread words Memory found old new (Some j) e some memory others = explained (memory refl)
unread words (Done s) found old new (Some j) e some memory others = unexplained j e (λ p. cc) (others (λ p. cc))
unread words (Ordered c) found old new (Some j) e some memory others = unexplained j e (λ p. cc) (others (λ p. cc))
unread words (Refused r) found old new (Some j) e some memory others = unexplained j e (λ p. cc) (others (λ p. cc))
unread words (ReadFault place) found old new (Some j) e some memory others = unexplained j e (λ p. cc) (others (λ p. cc))
unread words (WriteFault place) found old new (Some j) e some memory others = unexplained j e (λ p. cc) (others (λ p. cc))
