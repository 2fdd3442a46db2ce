-- The line and the status of each outcome.
use Rattle.std.specs.Prelude.{ℕ, zero, suc, nat_le, List, Option, Some, None, if◌then◌else◌}
use Rattle.vs_refusal.specs.declared.ending.Ending.{Ending}
use Rattle.vs_refusal.specs.declared.ending.Ending.TheVariants as ending
use Rattle.vs_refusal.specs.Refusals.{number, line}
use Rattle.vs_refusal.specs.Endings.{ending_line}
use Rattle.vs_top.specs.declared.outcome.Summary.{Summary}
use Rattle.vs_top.specs.declared.outcome.Course.{Course}
use Rattle.vs_top.specs.declared.outcome.Outcome.{Outcome}
use Rattle.vs_top.specs.declared.outcome.Outcome.TheVariants.{Done, Ordered, Refused, ReadFault, WriteFault, Memory}

-- how a run that is done ended, or a check in which so many lanes missed something
abbrev pub done_ending : Summary → Option ℕ → Ending
done_ending s None = ending.Done s.lanes s.vectors s.settlings s.size
done_ending s (Some missed) = ending.Checked s.lanes s.vectors s.settlings s.size missed

-- `ok lanes=1 vectors=2 settlings=4 size=5`, or with ` missed=0` behind it, with the end of the line
abbrev pub done_line : Summary → List ℕ
done_line s = ending_line (done_ending s s.missed)

-- how a run of the queue that is done ended
abbrev pub ordered_ending : Course → Ending
ordered_ending c = ending.Ordered c.vectors c.slots c.order

-- `ok vectors=2 slots=4 order=7`, with the end of the line
abbrev pub course_line : Course → List ℕ
course_line c = ending_line (ordered_ending c)

abbrev pub read_fault_line : ℕ → List ℕ
read_fault_line place = ending_line (ending.ReadFault place)

abbrev pub write_fault_line : ℕ → List ℕ
write_fault_line place = ending_line (ending.WriteFault place)

abbrev pub memory_line : List ℕ
memory_line = ending_line ending.Memory

-- the report line of an outcome
abbrev pub outcome_line : Outcome → List ℕ
outcome_line (Done summary) = done_line summary
outcome_line (Ordered course) = course_line course
outcome_line (Refused refusal) = line refusal
outcome_line (ReadFault place) = read_fault_line place
outcome_line (WriteFault place) = write_fault_line place
outcome_line Memory = memory_line

-- 2 for the words and the paths, 3 for the design, 4 for the stimuli
abbrev pub refused_status : ℕ → ℕ
refused_status n = if nat_le n 2 then 2 else (if nat_le n 69 then 3 else 4)

-- 1 where a lane of a check missed something
abbrev pub done_status : Option ℕ → ℕ
done_status None = 0
done_status (Some zero) = 0
done_status (Some (suc n)) = 1

abbrev pub status : Outcome → ℕ
status (Done summary) = done_status summary.missed
status (Ordered course) = 0
status (Refused refusal) = refused_status (number refusal)
status (ReadFault place) = 5
status (WriteFault place) = 6
status Memory = 7
