use Rattle.std.proofs.Common.{◌≡◌, ℕ, List, get_or, ap, sym, ◌∙◌, arith}
use Rattle.vs_job.proofs.Counts.{count_value-none, count_value-some}
use Rattle.vs_job.proofs.words.number_value.Goals as goal

pub returns-in_err-count : goal.returns-in_err-count
returns-in_err-count c =
    let first : get_or c.args.digits.now 0 0 ≡ c.in_ok-first.first.now = ap (λ (xs : List ℕ). get_or xs 0 0) (sym c.as_bytes.ensures.value ∙ c.in_ok-first.ensures.cases.0) in
    c.from_residual-in_err-count.ensures ∙ count_value-none 64 c.args.most c.args.digits.now c.parse.result (omega arith) c.parse.ensures.value.0 (λ e. c.if-first-eq43.false (sym first ∙ e)) (sym c.ok.ensures.value ∙ c.in_err-count.was)

pub returns-then-count-most : goal.returns-then-count-most
returns-then-count-most c =
    let first : get_or c.args.digits.now 0 0 ≡ c.in_ok-first.first.now = ap (λ (xs : List ℕ). get_or xs 0 0) (sym c.as_bytes.ensures.value ∙ c.in_ok-first.ensures.cases.0) in
    count_value-some 64 c.args.most c.args.digits.now c.parse.result c.in_ok-count.count c.parse.ensures.value.0 (λ e. c.if-first-eq43.false (sym first ∙ e)) (λ e. c.if-first-eq48.false (sym first ∙ e)) (sym c.ok.ensures.value ∙ c.in_ok-count.was) c.if-count-ge1.true c.if-count-most.true
