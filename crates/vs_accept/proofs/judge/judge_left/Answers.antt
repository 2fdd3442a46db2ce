use Rattle.std.proofs.Common.{◌≡◌, ℕ, ap, ◌∙◌, subst, map, max}
use Rattle.std.specs.Prelude.{IfOk, IfErr}
use Rattle.vs_design.specs.Accepted.{IsAcceptedDesign}
use Rattle.vs_design.specs.Sizes.{size}
use Rattle.vs_flat.specs.Arena.{Arena}
use Rattle.vs_flat.specs.DesignOf.{design_of}
use Rattle.vs_accept.specs.Refused.{byte_of}
use Rattle.vs_accept.specs.Answers.{IsVerdict}
use Rattle.vs_accept.specs.Lent.{Acceptance}
use Rattle.vs_accept.proofs.Judged.{passed_on}
use Rattle.vs_accept.proofs.Told.{as_verdict}
use Rattle.vs_accept.proofs.judge.judge_left.Goals as goal

pub returns-in-Err-clause-refused : goal.returns-in-Err-clause-refused
returns-in-Err-clause-refused c =
    let clocks = map (λ c. c.now) c.args.clocks.now in
    as_verdict (byte_of c.args.places.now.text.now c.args.places.now.tokens.now) (design_of c.args.flat) clocks c.width_error.result (c.width_error.ensures (design_of c.args.flat) clocks c.in-Err.ensures.refused)

pub returns-in_err-cases-clause-refused : goal.returns-in_err-cases-clause-refused
returns-in_err-cases-clause-refused c =
    let clocks = map (λ c. c.now) c.args.clocks.now in
    let byte = byte_of c.args.places.now.text.now c.args.places.now.tokens.now in
    subst (λ (a : Arena). IfErr c.from_residual-in_err-cases.result (IsVerdict byte (design_of a) clocks)) c.in-Ok.ensures.same
    (passed_on (IsVerdict byte (design_of c.in-Ok.typed) clocks) c.from_residual-in_err-cases.result
    c.in_err-cases.field-0.0 c.from_residual-in_err-cases.ensures.1 (as_verdict byte (design_of c.in-Ok.typed) clocks c.in_err-cases.field-0.0 (c.in_err-cases.ensures.refused clocks)))

pub returns-clause-same : goal.returns-clause-same
returns-clause-same c = subst (λ (b : Arena). IfOk c.judge_clocked.result (λ (a : Acceptance). a.flat ≡ b)) c.in-Ok.ensures.same c.judge_clocked.ensures.same

pub returns-clause-size : goal.returns-clause-size
returns-clause-size c =
    subst (λ (n : ℕ). IfOk c.judge_clocked.result (λ (a : Acceptance). a.size ≡ n))
    (c.max-told.ensures ∙ ap (max c.args.size) (c.size.ensures.is ∙ ap (λ (a : Arena). size (design_of a)) c.in-Ok.ensures.same)) c.judge_clocked.ensures.size

pub returns-clause-accepted : goal.returns-clause-accepted
returns-clause-accepted c =
    subst (λ (a : Arena). IfOk c.judge_clocked.result (λ (kept : Acceptance). IsAcceptedDesign (design_of a) (map (λ c. c.now) c.args.clocks.now))) c.in-Ok.ensures.same c.judge_clocked.ensures.accepted

pub returns-clause-refused : goal.returns-clause-refused
returns-clause-refused c =
    subst (λ (a : Arena). IfErr c.judge_clocked.result (IsVerdict (byte_of c.args.places.now.text.now c.args.places.now.tokens.now) (design_of a) (map (λ c. c.now) c.args.clocks.now))) c.in-Ok.ensures.same
    c.judge_clocked.ensures.refused
