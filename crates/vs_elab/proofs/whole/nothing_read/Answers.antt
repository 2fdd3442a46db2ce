use Rattle.std.proofs.Common.{true, ap}
use Rattle.vs_build.specs.Drafts.{Draft}
use Rattle.vs_elab.specs.declared.reading.Counts.{Counts}
use Rattle.vs_elab.specs.declared.reading.Reading.{Reading}
use Rattle.vs_elab.specs.Reading.{totals_of}
use Rattle.vs_elab.proofs.TopReading.{nothing_is_read}
use Rattle.vs_elab.proofs.whole.nothing_read.Goals as goal

pub returns-clause-design : goal.returns-clause-design
returns-clause-design c = ap (λ (s : Draft). s.design) c.new.ensures

pub returns-clause-read : goal.returns-clause-read
returns-clause-read c =
    let counts : Counts = record { start = record { scope = 0; top = true; signal = 0; bit = 0 }; instances = 0; turns = 0; functions = 0; processes = 0 } in
    let r : Reading = record { builder = c.new.result; frames = c.new-2.result; counts = counts; loops = c.new-3.result } in
    nothing_is_read r c.new.ensures c.new-2.ensures.items (ap (totals_of counts) c.new-3.ensures)
