use Rattle.std.proofs.Common.{length}
use Rattle.vs_rounds.proofs.Rereads.{both_ok, all_unrefused}
use Rattle.vs_rounds.proofs.Checks.{watched_next, watched_begun}
use Rattle.vs_rounds.proofs.checker.Checker.begin.Goals as goal

pub returns-clause-begun : goal.returns-clause-begun
returns-clause-begun g c = λ t run h.
    both_ok c.read.result
    (λ lanes read. watched_begun g.W.Word.lane run c.args.self.now c.read.new.self (g.D.Desk.told c.args.desk.now).contents (g.D.Desk.told c.read.new.desk).contents h lanes c.read.ensures.misses c.read.ensures.engine read)
    c.read.ensures.lanes
    (c.read.ensures.read t run 0 (watched_next g.W.Word.lane run c.args.self.now (g.D.Desk.told c.args.desk.now).contents h))

pub returns-clause-unrefused : goal.returns-clause-unrefused
returns-clause-unrefused g c = λ t run h.
    both_ok c.read.result
    (λ lanes read. all_unrefused run 0 (length c.args.self.now.stimuli) c.read.new.self.stimuli (g.D.Desk.told c.read.new.desk).contents lanes read)
    c.read.ensures.lanes
    (c.read.ensures.read t run 0 (watched_next g.W.Word.lane run c.args.self.now (g.D.Desk.told c.args.desk.now).contents h))

pub returns-clause-stops : goal.returns-clause-stops
returns-clause-stops g c = λ t run h. c.read.ensures.stops t run 0 (watched_next g.W.Word.lane run c.args.self.now (g.D.Desk.told c.args.desk.now).contents h)
