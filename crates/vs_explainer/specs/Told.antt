-- What is put on place 0 of an answer.
use Rattle.std.specs.Prelude.{ℕ, Bool, List, [], ◌++◌, Option, Some, None, Result, codes}
use Rattle.vs_desk.specs.declared.desk.Failed.{Failed}
use Rattle.vs_desk.specs.Desk.{Told, PutsAll}
use Rattle.vs_job.specs.declared.job.Job.{Job}
use Rattle.vs_refusal.specs.declared.refusal.Refusal.{Refusal}
use Rattle.vs_refusal.specs.declared.ending.Ending.{Ending}
use Rattle.vs_refusal.specs.declared.ending.Ending.TheVariants.{Done, Checked, Ordered, ReadFault, WriteFault, Memory}
use Rattle.vs_explanation.specs.Seen.{Seen}
use Rattle.vs_explanation.specs.Refused.{refusal_text}
use Rattle.vs_explanation.specs.Ended.{done_text, checked_text, ordered_text, waves_from, read_fault_text, write_fault_text, output_fault_text, memory_text}
use Rattle.vs_reread.specs.Again.{OnlyRead}
use Rattle.vs_explainer.specs.Looks.{IsSeen}

-- the text was put at place 0, whole or, where a call there failed, some first bytes of it
abbrev pub IsPut : {tells : Bool} → Told tells → Told tells → List ℕ → Type 0
IsPut old new text = (result : Result (Unit {0}) Failed) × PutsAll old new 0 text result

-- A refusal of a job was explained: the text of what was seen again was put behind the desk that saw it. Or, for want of memory, nothing was put, and
-- nothing else has changed but at the places of files that are read again.
pub data ExplainsRefusal {tells : Bool} (job : Job) (r : Refusal) (old new : Told tells) : Type 0 where
  unexplained : OnlyRead old new → ExplainsRefusal job r old new
  explained : (seen : Seen) (middle : Told tells) → IsSeen job r old middle seen → IsPut middle new (refusal_text job seen r) → ExplainsRefusal job r old new

-- what is said of another answer, where the words call for a job and where they call for none, as for a bench, whose one file is standard output
abbrev pub waves_text : Option Job → List ℕ
waves_text (Some job) = waves_from job.mode 0 job.stimuli
waves_text None = []

abbrev pub read_text : Option Job → ℕ → List ℕ
read_text (Some job) place = read_fault_text job place
read_text None place = output_fault_text

abbrev pub write_text : Option Job → ℕ → List ℕ
write_text (Some job) place = write_fault_text job place
write_text None place = output_fault_text

abbrev pub ending_text : Option Job → Ending → List ℕ
ending_text job (Done lanes vectors settlings size) = done_text lanes vectors settlings size ++ waves_text job
ending_text job (Checked lanes vectors settlings size missed) = checked_text lanes vectors settlings size missed
ending_text job (Ordered vectors slots order) = ordered_text vectors slots order ++ waves_text job
ending_text job (ReadFault place) = read_text job place
ending_text job (WriteFault place) = write_text job place
ending_text job Memory = memory_text

-- the forms of all words
abbrev pub usage_text : List ℕ
usage_text = codes
    "error: Usage: the words aren't those of the program, or a value of --define is no macro\nnote: cyclesim run [OPTIONS] <DESIGN> <STIM>...\nnote: cyclesim check [OPTIONS] <DESIGN> <STIM>...\nnote: cyclesim queue --order <N> [OPTIONS] <DESIGN> <STIM>\nnote: cyclesim bench <N> [L]\nnote: cyclesim --explain <WORDS>...\nnote: --top <T>: the name of the top module, by default the one that no instance names\nnote: --clock <C[,C]..>: the names of the top's clock inputs, if it has any\nnote: --half <H>: half a clock period, from 1 to 1000000 [default: 5]\nnote: --define <NAME[=TEXT]>: a macro that is defined before the design's text, up to 64 of them\nnote: --with <PATH>: a further file of the design, read behind it, up to 64 of them\nnote: --share: one identifier code in the waveform for all signals that ports join, with run alone\nnote: --order <N>: what the order of the event queue's steps is drawn from, from 0 to 18446744073709551615, with queue alone\nnote: docs/running.md says what each word is (docs/refusals.md)\n"
