use Rattle.vs_job.proofs.Listed.{length-run, length-check, length-queue, slice_get-design, slice_get-stimulus, slice_get-vcd, slice_get-queue, slice_get-other}
use Rattle.vs_job.proofs.laws.places_law.Goals as goal

pub returns : goal.returns
returns c = record { design = slice_get-design; stimulus = slice_get-stimulus; vcd = slice_get-vcd; queue_vcd = slice_get-queue; other = slice_get-other; run = length-run; check = length-check; queue = length-queue }
