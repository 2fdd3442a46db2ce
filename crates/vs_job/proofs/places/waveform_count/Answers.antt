use Rattle.std.proofs.Common.{sym, ◌∙◌}
use Rattle.vs_job.proofs.Listed.{length-written, length-unwritten}
use Rattle.vs_job.proofs.places.waveform_count.Goals as goal

pub returns-in-Run : goal.returns-in-Run
returns-in-Run c = c.len.ensures ∙ sym (length-written c.args.job.now c.in-Run.is)

pub returns-in-Check : goal.returns-in-Check
returns-in-Check c = sym (length-unwritten c.args.job.now c.in-Check.is)
