use Rattle.std.proofs.Common.{◌≡◌, sym, ap, ◌∙◌, subst, map}
use Rattle.std.specs.Prelude.{IfOk, IfErr}
use Rattle.vs_design.specs.Accepted.{IsAcceptedDesign}
use Rattle.vs_design.specs.Dead.{dead_nets, is_dead, without_dead}
use Rattle.vs_design.specs.Designs.{Design}
use Rattle.vs_flat.specs.Arena.{Arena}
use Rattle.vs_flat.specs.DesignOf.{design_of}
use Rattle.vs_accept.specs.Refused.{byte_of}
use Rattle.vs_accept.specs.Answers.{IsVerdict}
use Rattle.vs_accept.specs.Lent.{Acceptance}
use Rattle.vs_accept.proofs.Judged.{as_design, size_alone, size_both}
use Rattle.vs_accept.proofs.LeftOut.{none_left_out}
use Rattle.vs_accept.proofs.judge.judge_written.Goals as goal

pub dead_blocks-requires-clause-lawful : goal.dead_blocks-requires-clause-lawful
dead_blocks-requires-clause-lawful c = rw c.flat.ensures.same c.flat.ensures.lawful

pub dead_blocks-requires-clause-footprints : goal.dead_blocks-requires-clause-footprints
dead_blocks-requires-clause-footprints c = rw c.flat.ensures.same c.requires.footprints

pub returns-then-not-has_mark-clause-left : goal.returns-then-not-has_mark-clause-left
returns-then-not-has_mark-clause-left c =
    let d = design_of c.args.typed in
    let marks : c.as_slice.result.now ≡ map (is_dead (dead_nets d)) d.processes = c.as_slice.ensures.value ∙ (c.in_ok-dead.ensures ∙ ap (λ (a : Arena). map (is_dead (dead_nets (design_of a))) (design_of a).processes) c.flat.ensures.same) in
    as_design c.args.typed (without_dead d) c.judge_clocked.result c.judge_clocked.ensures.same (sym (none_left_out d c.as_slice.result.now marks (sym c.has_mark.ensures ∙ c.if-not-has_mark.true)))

pub returns-then-not-has_mark-clause-size : goal.returns-then-not-has_mark-clause-size
returns-then-not-has_mark-clause-size c =
    let d = design_of c.args.typed in
    let marks : c.as_slice.result.now ≡ map (is_dead (dead_nets d)) d.processes = c.as_slice.ensures.value ∙ (c.in_ok-dead.ensures ∙ ap (λ (a : Arena). map (is_dead (dead_nets (design_of a))) (design_of a).processes) c.flat.ensures.same) in
    size_alone d c.size-size.result c.judge_clocked.result c.size-size.ensures.is (none_left_out d c.as_slice.result.now marks (sym c.has_mark.ensures ∙ c.if-not-has_mark.true)) c.judge_clocked.ensures.size

pub returns-then-not-has_mark-clause-accepted : goal.returns-then-not-has_mark-clause-accepted
returns-then-not-has_mark-clause-accepted c =
    let d = design_of c.args.typed in
    let marks : c.as_slice.result.now ≡ map (is_dead (dead_nets d)) d.processes = c.as_slice.ensures.value ∙ (c.in_ok-dead.ensures ∙ ap (λ (a : Arena). map (is_dead (dead_nets (design_of a))) (design_of a).processes) c.flat.ensures.same) in
    subst (λ (e : Design). IfOk c.judge_clocked.result (λ (kept : Acceptance). IsAcceptedDesign e (map (λ c. c.now) c.args.clocks.now)))
    (sym (none_left_out d c.as_slice.result.now marks (sym c.has_mark.ensures ∙ c.if-not-has_mark.true))) c.judge_clocked.ensures.accepted

pub returns-then-not-has_mark-clause-refused : goal.returns-then-not-has_mark-clause-refused
returns-then-not-has_mark-clause-refused c =
    let d = design_of c.args.typed in
    let marks : c.as_slice.result.now ≡ map (is_dead (dead_nets d)) d.processes = c.as_slice.ensures.value ∙ (c.in_ok-dead.ensures ∙ ap (λ (a : Arena). map (is_dead (dead_nets (design_of a))) (design_of a).processes) c.flat.ensures.same) in
    subst (λ (e : Design). IfErr c.judge_clocked.result (IsVerdict (byte_of c.args.places.now.text.now c.args.places.now.tokens.now) e (map (λ c. c.now) c.args.clocks.now)))
    (sym (none_left_out d c.as_slice.result.now marks (sym c.has_mark.ensures ∙ c.if-not-has_mark.true))) c.judge_clocked.ensures.refused

pub left_out-requires-clause-lawful : goal.left_out-requires-clause-lawful
left_out-requires-clause-lawful c = rw c.into_flat.ensures c.flat.ensures.lawful

pub left_out-requires-clause-dead : goal.left_out-requires-clause-dead
left_out-requires-clause-dead c =
    c.as_slice-2.ensures.value ∙ (c.in_ok-dead.ensures ∙ ap (λ (a : Arena). map (is_dead (dead_nets (design_of a))) (design_of a).processes) (c.flat.ensures.same ∙ sym c.into_flat.ensures))

pub returns-clause-left : goal.returns-clause-left
returns-clause-left c =
    as_design c.in_ok-left.left (without_dead (design_of c.args.typed)) c.judge_left.result c.judge_left.ensures.same (c.in_ok-left.ensures.design ∙ ap (λ (a : Arena). without_dead (design_of a)) c.into_flat.ensures)

pub returns-clause-size : goal.returns-clause-size
returns-clause-size c =
    size_both (design_of c.args.typed) (design_of c.in_ok-left.left) c.size-size.result c.judge_left.result c.size-size.ensures.is (c.in_ok-left.ensures.design ∙ ap (λ (a : Arena). without_dead (design_of a)) c.into_flat.ensures) c.judge_left.ensures.size

pub returns-clause-accepted : goal.returns-clause-accepted
returns-clause-accepted c =
    subst (λ (e : Design). IfOk c.judge_left.result (λ (kept : Acceptance). IsAcceptedDesign e (map (λ c. c.now) c.args.clocks.now)))
    (c.in_ok-left.ensures.design ∙ ap (λ (a : Arena). without_dead (design_of a)) c.into_flat.ensures) c.judge_left.ensures.accepted

pub returns-clause-refused : goal.returns-clause-refused
returns-clause-refused c =
    subst (λ (e : Design). IfErr c.judge_left.result (IsVerdict (byte_of c.args.places.now.text.now c.args.places.now.tokens.now) e (map (λ c. c.now) c.args.clocks.now)))
    (c.in_ok-left.ensures.design ∙ ap (λ (a : Arena). without_dead (design_of a)) c.into_flat.ensures) c.judge_left.ensures.refused
