use Rattle.std.proofs.Common.{◌<◌, List, refl, sym, ap, ◌∙◌, subst, arith}
use Rattle.vs_elab.specs.declared.stack.Pending.{Pending}
use Rattle.vs_elab.specs.Reading.{IsReading, outcome, work_left}
use Rattle.vs_elab.proofs.TopReading.{all_read, told_part, none_taken}
use Rattle.vs_elab.proofs.whole.read_pending.Goals as goal

pub loop-next-init : goal.loop-next-init
loop-next-init c = record { reading = c.requires.reading; same = refl }

pub read_part-requires-clause-reading : goal.read_part-requires-clause-reading
read_part-requires-clause-reading c = subst (λ (ps : List Pending). IsReading c.args.text.now c.loop-next.reading ps) c.in-Some.ensures.items c.loop-next.invariant.reading

pub loop-next-preserved : goal.loop-next-preserved
loop-next-preserved c =
    let step = c.in_ok-read_part.ensures.step in
    record {
      reading = step.reading;
      same = step.same ∙ ap (outcome c.args.text.now c.loop-next.reading) (sym c.in-Some.ensures.items) ∙ c.loop-next.invariant.same;
    }

pub loop-next-smaller : goal.loop-next-smaller
loop-next-smaller c =
    subst (λ (ps : List Pending). work_left c.args.text.now c.read_part.new.reading c.read_part.new.stack.items < work_left c.args.text.now c.loop-next.reading ps) (sym c.in-Some.ensures.items) c.in_ok-read_part.ensures.step.less

pub returns-in_err-read_part-clause-broken : goal.returns-in_err-read_part-clause-broken
returns-in_err-read_part-clause-broken c =
    told_part c.args.text.now c.loop-next.reading c.loop-next.stack.items _ (outcome c.args.text.now c.args.reading c.args.stack.items) c.from_residual.result _ c.loop-next.invariant.same c.in-Some.ensures.items c.from_residual.ensures.1 c.in_err-read_part.ensures.broken

pub returns-clause-design : goal.returns-clause-design
returns-clause-design c =
    let none = none_taken c.pop.result _ _ c.pop.ensures.cases c.in_default.is in
    sym c.loop-next.invariant.same ∙ all_read c.args.text.now c.loop-next.reading c.loop-next.stack.items (omega (arith, none.0, c.loop-next.stack.ok.0))

pub returns-clause-idle : goal.returns-clause-idle
returns-clause-idle c = c.loop-next.invariant.reading.read.idle
