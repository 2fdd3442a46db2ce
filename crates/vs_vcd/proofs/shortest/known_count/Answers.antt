use Rattle.std.proofs.Common.{◌<◌, ◌≤◌, ◌^◌, arith}
use Rattle.vs_vcd.proofs.Known.{known_shortest, count_some, count_fits, count_least}
use Rattle.vs_vcd.proofs.shortest.known_count.Goals as goal
use Rattle.vs_vcd.proofs.shortest.known_count.Goals.{then-number-eq0, else-number-eq0}

pub returns-clause-some : goal.returns-clause-some
returns-clause-some c =
    let p : 0 < c.if-number-eq0.some = elim c.if-number-eq0.branch [ then-number-eq0 w ↦ omega arith | else-number-eq0 w ↦ omega arith ] in
    let fits : c.if-number-eq0.some < 2 ^ 64 = elim c.if-number-eq0.branch [ then-number-eq0 w ↦ omega arith | else-number-eq0 w ↦ omega arith ] in
    count_some c.if-number-eq0.some p fits

pub returns-clause-shortest : goal.returns-clause-shortest
returns-clause-shortest c = λ len long below.
    let some = c.if-number-eq0.some in
    let p : 0 < some = elim c.if-number-eq0.branch [ then-number-eq0 w ↦ omega arith | else-number-eq0 w ↦ omega arith ] in
    let fits : some < 2 ^ 64 = elim c.if-number-eq0.branch [ then-number-eq0 w ↦ omega arith | else-number-eq0 w ↦ omega arith ] in
    let le : c.args.number ≤ some = elim c.if-number-eq0.branch [ then-number-eq0 w ↦ omega arith | else-number-eq0 w ↦ omega arith ] in
    let same : 2 ≤ some → some ≤ c.args.number = λ (h : 2 ≤ c.if-number-eq0.some). elim c.if-number-eq0.branch [ then-number-eq0 w ↦ omega arith | else-number-eq0 w ↦ omega arith ] in
    known_shortest len _ c.args.number long below (count_some some p fits) (count_fits c.args.number some p le fits) (count_least c.args.number some p fits same)
