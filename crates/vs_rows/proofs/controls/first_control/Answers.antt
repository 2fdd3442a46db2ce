use Rattle.std.proofs.Common.{sym, ◌∙◌, arith}
use Rattle.vs_rows.proofs.Controlled.{nameless, fieldless}
use Rattle.vs_rows.proofs.controls.first_control.Goals as goal
use Rattle.vs_rows.proofs.controls.first_control.Goals.{then-loop-k-test+else-k-fields, else-loop-k-test}

pub returns : goal.returns
returns c =
    let control = c.args.control in
    let inputs = c.args.inputs.now in
    let header = c.args.header.now in
    let line = c.args.line.now in
    let names = c.args.names.now in
    let fields = c.args.fields.now in
    let k = c.loop-k.k in
    elim c.loop-k-test.branch [
      | then-loop-k-test+else-k-fields w ↦ sym (fieldless control inputs header line _ names fields k w.loop-k-test.true (omega (arith, w.if-k-fields.false))) ∙ c.loop-k.invariant.left
      | else-loop-k-test w ↦ sym (nameless control inputs header line _ names _ k (omega (arith, w.loop-k-test.false))) ∙ c.loop-k.invariant.left
    ]
