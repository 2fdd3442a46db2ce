use Rattle.vs_flat.specs.DesignOf.{design_of}
use Rattle.vs_queue.proofs.Listened.{item_got}
use Rattle.vs_queue.proofs.Vectors.{some_drive, first_given, first_under_way, first_come}
use Rattle.vs_queue.proofs.ordered.first_period.Goals as goal

pub begin-requires-clause-given : goal.begin-requires-clause-given
begin-requires-clause-given c =
    let d = design_of c.args.machine.now.typed.now in
    let k = c.args.machine.now.clocks.now.bits in
    let drive = some_drive d k c.args.vectors.now c.requires.drive c.requires.there in
    (drive.first, first_given d k c.args.vectors.now c.index-vectors-0.result drive.first drive.later drive.given (item_got c.args.vectors.now 0 c.index-vectors-0.result c.index-vectors-0.is c.requires.there))

pub rise-requires-clause-under_way : goal.rise-requires-clause-under_way
rise-requires-clause-under_way c =
    let d = design_of c.args.machine.now.typed.now in
    let k = c.args.machine.now.clocks.now.bits in
    first_under_way d k c.args.order c.args.vectors.now (some_drive d k c.args.vectors.now c.requires.drive c.requires.there) c.index-vectors-0.result (item_got c.args.vectors.now 0 c.index-vectors-0.result c.index-vectors-0.is c.requires.there) c.in_ok-run.run'.events c.in_ok-run.run'.seed c.in_ok-run.run'.ends c.in_ok-run.run'.steps c.in_ok-run.ensures.reached

pub returns-clause-come : goal.returns-clause-come
returns-clause-come c =
    let d = design_of c.args.machine.now.typed.now in
    let k = c.args.machine.now.clocks.now.bits in
    first_come d k c.args.order c.args.vectors.now (some_drive d k c.args.vectors.now c.requires.drive c.requires.there) c.index-vectors-0.result (item_got c.args.vectors.now 0 c.index-vectors-0.result c.index-vectors-0.is c.requires.there) c.in_ok-run.run'.events c.in_ok-run.run'.seed c.in_ok-run.run'.ends c.in_ok-run.run'.steps c.in_ok-run.ensures.reached
    c.rise.new.run.events c.rise.new.run.seed c.rise.new.run.ends c.rise.new.run.steps c.in_ok-rise.ensures.reached

pub returns-clause-whole : goal.returns-clause-whole
returns-clause-whole c = c.in_ok-rise.ensures.whole 0 c.in_ok-run.ensures.whole
