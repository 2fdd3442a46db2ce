use Rattle.std.proofs.Common.{◌∙◌, IsTrue}
use Rattle.vs_stim.specs.Reading.{vector_line}
use Rattle.vs_stim.specs.Row.{each_input}
use Rattle.vs_stim.specs.Source.{open_at, in_block, says}
use Rattle.vs_stim.proofs.Arranged.{row_says}
use Rattle.vs_stim.proofs.vectors.feed_line.Goals as goal

pub returns-clause-says : goal.returns-clause-says
returns-clause-says g c = λ t.
    let rest = says (open_at c.args.source.now (g.D.Desk.told c.args.desk.now)) in
    let each : IsTrue (each_input c.begin.new.self) = rw (c.begin.ensures.values, c.begin.ensures.columns) c.requires.each in
    c.finish.ensures.says
    ∙ c.in_ok-last.ensures.says t
    ∙ row_says c.begin.new.self rest c.begin.ensures.spot each c.begin.ensures.row.wants
    ∙ (λ i. vector_line (record { inputs = (c.begin.ensures.columns i).items; expected = (c.begin.ensures.expected i).items }) rest)

pub returns-clause-told_says : goal.returns-clause-told_says
returns-clause-told_says g c = λ t.
    let rest = says (in_block c.args.source.now) in
    let each : IsTrue (each_input c.begin.new.self) = rw (c.begin.ensures.values, c.begin.ensures.columns) c.requires.each in
    c.finish.ensures.says
    ∙ c.in_ok-last.ensures.told_says t
    ∙ row_says c.begin.new.self rest c.begin.ensures.spot each c.begin.ensures.row.wants
    ∙ (λ i. vector_line (record { inputs = (c.begin.ensures.columns i).items; expected = (c.begin.ensures.expected i).items }) rest)
