use Rattle.std.proofs.Common.{◌∙◌, IsTrue, sym}
use Rattle.vs_stim.specs.Reading.{vector_line}
use Rattle.vs_stim.specs.Row.{each_input}
use Rattle.vs_stim.proofs.Arranged.{row_says}
use Rattle.vs_stim.proofs.LineRead.{row_passed}
use Rattle.vs_stim.proofs.vectors.read_row.Goals as goal

pub returns-in-Some-clause-says : goal.returns-in-Some-clause-says
returns-in-Some-clause-says g c = λ t.
    let passed = row_passed (g.D.Desk.told c.args.desk.now) c.begin.new.self c.read_line.new.self c.args.source.now c.pass_line.new.self c.in-Some.count c.in-Some.ensures.line c.pass_line.ensures.passed in
    let each : IsTrue (each_input c.begin.new.self) = rw (c.begin.ensures.values, c.begin.ensures.columns) c.requires.each in
    sym passed.says
    ∙ row_says c.begin.new.self passed.text c.begin.ensures.spot each c.begin.ensures.row.wants
    ∙ (λ i. vector_line (record { inputs = (c.begin.ensures.columns i).items; expected = (c.begin.ensures.expected i).items }) (sym passed.on_desk.spoken i))

pub returns-in-Some-clause-told_says : goal.returns-in-Some-clause-told_says
returns-in-Some-clause-told_says g c = λ t.
    let passed = row_passed (g.D.Desk.told c.args.desk.now) c.begin.new.self c.read_line.new.self c.args.source.now c.pass_line.new.self c.in-Some.count c.in-Some.ensures.line c.pass_line.ensures.passed in
    let each : IsTrue (each_input c.begin.new.self) = rw (c.begin.ensures.values, c.begin.ensures.columns) c.requires.each in
    sym passed.says
    ∙ row_says c.begin.new.self passed.text c.begin.ensures.spot each c.begin.ensures.row.wants
    ∙ (λ i. vector_line (record { inputs = (c.begin.ensures.columns i).items; expected = (c.begin.ensures.expected i).items }) (sym passed.in_block.spoken i))

pub returns-in-Some-clause-passes : goal.returns-in-Some-clause-passes
returns-in-Some-clause-passes g c = λ t.
    (row_passed (g.D.Desk.told c.args.desk.now) c.begin.new.self c.read_line.new.self c.args.source.now c.pass_line.new.self c.in-Some.count c.in-Some.ensures.line c.pass_line.ensures.passed).on_desk.whole

pub returns-in-Some-clause-told : goal.returns-in-Some-clause-told
returns-in-Some-clause-told g c = λ t.
    (row_passed (g.D.Desk.told c.args.desk.now) c.begin.new.self c.read_line.new.self c.args.source.now c.pass_line.new.self c.in-Some.count c.in-Some.ensures.line c.pass_line.ensures.passed).in_block.whole

pub returns-in-Some-clause-ends : goal.returns-in-Some-clause-ends
returns-in-Some-clause-ends g c = λ t _.
    (row_passed (g.D.Desk.told c.args.desk.now) c.begin.new.self c.read_line.new.self c.args.source.now c.pass_line.new.self c.in-Some.count c.in-Some.ensures.line c.pass_line.ensures.passed).on_desk.lf
