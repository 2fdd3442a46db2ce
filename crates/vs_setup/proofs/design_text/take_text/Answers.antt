use Rattle.std.proofs.Common.{ap, arith}
use Rattle.vs_desk.specs.Desk.{Contents}
use Rattle.vs_setup.proofs.Taken.{part_taken, long_taken}
use Rattle.vs_setup.proofs.design_text.take_text.Goals as goal

pub returns-in_err-taken-clause-part : goal.returns-in_err-taken-clause-part
returns-in_err-taken-clause-part g c = λ t e.
    part_taken g.D.Desk.tells c.args.text.now.items _ _ c.taking.text.items _ c.taking.invariant.taken (omega arith) t
    (ap (λ (x : Contents). x.left c.args.place) (c.in_err-taken.ensures.kept t))

pub returns-then-len-gt-MAX_BYTES-clause-long : goal.returns-then-len-gt-MAX_BYTES-clause-long
returns-then-len-gt-MAX_BYTES-clause-long g c = λ t e.
    long_taken g.D.Desk.tells c.args.text.now.items _ _ c.taking.text.items c.taking.invariant.taken t (omega arith) c.taking.invariant.short
