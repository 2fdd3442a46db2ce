use Rattle.std.proofs.Common.{◌≡◌, ◌<◌, ◌-◌, ◌^◌, true, length, refl}
use Rattle.vs_accept.proofs.LeftOut.{clash, on_ok_more}
use Rattle.vs_accept.proofs.leaving.leave_if.Goals as goal

pub returns-then-not-dead-clause-ok : goal.returns-then-not-dead-clause-ok
returns-then-not-dead-clause-ok c = rw c.if-not-dead.true refl

pub returns-then-not-dead-clause-room : goal.returns-then-not-dead-clause-room
returns-then-not-dead-clause-room c = λ h. absurd (clash c.args.dead c.if-not-dead.true h)

pub returns-clause-ok : goal.returns-clause-ok
returns-clause-ok c = rw c.if-not-dead.false c.leave_out.ensures.ok

pub returns-clause-room : goal.returns-clause-room
returns-clause-room c =
    on_ok_more (length c.args.flat.now.statements < 2 ^ 32 - 1) (c.args.dead ≡ true → length c.args.flat.now.statements < 2 ^ 32 - 1) c.leave_out.result (λ l h. l) c.leave_out.ensures.room
