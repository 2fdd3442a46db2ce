use Rattle.std.proofs.Common.{◌≡◌, ℕ, ◌<◌, ◌*◌, ◌+◌, ◌∙◌, suc, sym, subst, ap, length, arith, refl}
use Rattle.std.specs.List.{count_by}
use Rattle.std.proofs.lemmas.List.Sums.{count_by-le-length}
use Rattle.std.proofs.lemmas.Result.{err_from_is_err_and}
use Rattle.vs_design.specs.Sizes.{size}
use Rattle.vs_misses.specs.Watch.{Watch}
use Rattle.vs_rounds.specs.Stops.{ReadStops}
use Rattle.vs_rounds.specs.Counts.{AreCounted, TicksRounds}
use Rattle.vs_rounds.specs.Checked.{Checking, AreFoundIn}
use Rattle.vs_rounds.proofs.Counting.{AreTaken, none_taken, taken_next, all_taken, few_at_last, none_more}
use Rattle.vs_rounds.proofs.Going.{rounds_within, ticked_more, operations_are}
use Rattle.vs_rounds.proofs.Checks.{kept_on, found_long, check_next, check_stops, checked_before, checked_at_last}
use Rattle.vs_rounds.proofs.checker.Checker.rounds.Goals as goal

pub loop-round-init : goal.loop-round-init
loop-round-init g c = record {
  ready = c.requires.ready;
  readable = c.requires.readable;
  same = refl;
  lanes = refl;
  outputs = refl;
  program = refl;
  few = omega arith;
  begun = λ h. absurd (omega (arith, h));
  begins = λ h. refl;
  ticked = record { none = λ h. refl; some = λ h. absurd (omega (arith, h)) };
  others = λ t. record { files = refl; put = refl; before = λ p lt. refl; behind = λ p le. refl };
  in_round = λ t run h. h;
  taken = λ t run h. none_taken run (length c.args.self.now.stimuli);
}

pub returns-in_err-read-clause-others : goal.returns-in_err-read-clause-others
returns-in_err-read-clause-others g c =
    let inv = c.loop-round.invariant in
    λ t. kept_on (ap length c.round-live.ensures.stimuli ∙ inv.lanes) (inv.others t) (c.in_err-read.ensures.others t)

pub returns-then-live-eq0-clause-lanes : goal.returns-then-live-eq0-clause-lanes
returns-then-live-eq0-clause-lanes g c = found_long c.round-live.new.self (length c.args.self.now.stimuli) (ap length c.round-live.ensures.stimuli ∙ c.loop-round.invariant.lanes) c.round-live.ensures.ready

pub returns-in_err-read-clause-lanes : goal.returns-in_err-read-clause-lanes
returns-in_err-read-clause-lanes g c =
    ap (λ (w : Watch). length w.found) c.in_err-read.ensures.misses
    ∙ found_long c.round-live.new.self (length c.args.self.now.stimuli) (ap length c.round-live.ensures.stimuli ∙ c.loop-round.invariant.lanes) c.round-live.ensures.ready

pub returns-clause-lanes : goal.returns-clause-lanes
returns-clause-lanes g c = found_long c.loop-round.self (length c.args.self.now.stimuli) c.loop-round.invariant.lanes c.loop-round.invariant.ready

pub returns-then-live-eq0-clause-done : goal.returns-then-live-eq0-clause-done
returns-then-live-eq0-clause-done g c =
    let inv = c.loop-round.invariant in
    let e = c.round-live.ensures in
    λ t run h.
    checked_before g.W.Word.lane run (length c.args.self.now.stimuli) c.loop-round.round c.loop-round.self c.round-live.new.self (g.D.Desk.told c.loop-round.desk).contents inv.lanes e.stimuli
    (sym c.if-live-eq0.true ∙ e.count) e.ready.lanes (e.done run c.loop-round.round (g.D.Desk.told c.loop-round.desk).contents (inv.in_round t run h))

pub returns-then-live-eq0-clause-counted : goal.returns-then-live-eq0-clause-counted
returns-then-live-eq0-clause-counted g c =
    let inv = c.loop-round.invariant in
    let e = c.round-live.ensures in
    λ t run h.
    all_taken run (length c.args.self.now.stimuli) c.loop-round.round c.loop-round.vectors (inv.taken t run h)
    (none_more run (length c.args.self.now.stimuli) c.loop-round.round c.loop-round.self.stimuli (g.D.Desk.told c.loop-round.desk).contents inv.lanes (inv.in_round t run h).read (sym c.if-live-eq0.true ∙ e.count))

pub returns-then-live-eq0-clause-within : goal.returns-then-live-eq0-clause-within
returns-then-live-eq0-clause-within g c =
    let inv = c.loop-round.invariant in
    let e = c.round-live.ensures in
    λ d clocks is_program.
    let p = c.args.self.now.engine.program in
    let small = rounds_within p c.args.self.now.engine.begun c.loop-round.round (size d) c.args.steps.now c.loop-round.steps is_program.first_small is_program.fall_small is_program.rise_small inv.ticked in
    omega (arith, small, e.ticked.none (sym e.count ∙ c.if-live-eq0.true))

pub returns-then-live-eq0-clause-operations : goal.returns-then-live-eq0-clause-operations
returns-then-live-eq0-clause-operations g c =
    let e = c.round-live.ensures in
    let slots = c.of-slots.ensures in
    let counted = operations_are c.args.self.now.engine c.engine.result.now c.loop-round.round c.of-slots.result.next_fall c.of-slots.result.later_fall c.of-slots.result.rise c.in_rounds.result c.args.steps.now c.loop-round.steps
    (c.engine.ensures ∙ ap (λ (s : Checking _). s.engine) c.self.view_is) slots.next_fall slots.later_fall slots.rise c.in_rounds.ensures.none c.in_rounds.ensures.some c.loop-round.invariant.ticked in
    omega (arith, counted, e.ticked.none (sym e.count ∙ c.if-live-eq0.true))

pub returns-clause-operations : goal.returns-clause-operations
returns-clause-operations g c =
    let last : c.loop-round.round ≡ 16777217 = omega arith in
    let slots = c.of-slots.ensures in
    operations_are c.args.self.now.engine c.engine.result.now 16777217 c.of-slots.result.next_fall c.of-slots.result.later_fall c.of-slots.result.rise c.in_rounds-2.result c.args.steps.now c.loop-round.steps
    (c.engine.ensures ∙ ap (λ (s : Checking _). s.engine) c.self.view_is) slots.next_fall slots.later_fall slots.rise c.in_rounds-2.ensures.none c.in_rounds-2.ensures.some
    (subst (λ (n : ℕ). TicksRounds c.args.self.now.engine.program c.args.self.now.engine.begun n c.args.steps.now c.loop-round.steps) last c.loop-round.invariant.ticked)

pub returns-in_err-read-clause-stops : goal.returns-in_err-read-clause-stops
returns-in_err-read-clause-stops g c =
    let inv = c.loop-round.invariant in
    let ran = c.round-live.ensures in
    let is = err_from_is_err_and c.from_residual.result c.from_residual.ensures.1 in
    let before = (g.D.Desk.told c.loop-round.desk).contents in
    let after = (g.D.Desk.told c.read.new.desk).contents in
    let lanes : length c.round-live.new.self.stimuli ≡ length c.args.self.now.stimuli = ap length ran.stimuli ∙ inv.lanes in
    λ t run h. rw (is.1, is.2)
    (let found = ran.done run c.loop-round.round before (inv.in_round t run h) in (
      suc c.loop-round.round,
      check_stops g.W.Word.lane run (suc c.loop-round.round) (length c.args.self.now.stimuli) c.round-live.new.self c.read.new.self.misses before after _ (omega arith) lanes c.in_err-read.ensures.misses found
          (subst (λ (n : ℕ). ReadStops run n (suc c.loop-round.round) after c.in_err-read.field-0.0) lanes (c.in_err-read.ensures.stops t run (suc c.loop-round.round) found.next)),
    ))

pub loop-round-preserved : goal.loop-round-preserved
loop-round-preserved g c =
    let inv = c.loop-round.invariant in
    let ran = c.round-live.ensures in
    let read = c.in_ok-read.ensures in
    let k = c.loop-round.round in
    let next : suc k ≡ k + 1 = omega arith in
    let here : length c.round-live.new.self.stimuli ≡ length c.args.self.now.stimuli = ap length ran.stimuli ∙ inv.lanes in
    let before = (g.D.Desk.told c.loop-round.desk).contents in
    let count = count_by-le-length (λ s. s.live) c.loop-round.self.stimuli in
    let some : 0 < c.round-live.result = omega (arith, c.if-live-eq0.false) in
    record {
      ready = read.ready ran.ready;
      readable = read.attached;
      same = read.same ∙ inv.same;
      lanes = read.lanes ∙ here;
      outputs = ap (λ (w : Watch). w.outputs) read.misses ∙ ran.outputs ∙ inv.outputs;
      program = ap (λ e. e.program) read.engine ∙ ran.program ∙ inv.program;
      few = omega (arith, inv.few, ran.count, count, inv.ready.lanes.few);
      begun = λ h. ap (λ e. e.begun) read.engine ∙ ran.begun (omega (arith, some, ran.count));
      begins = λ h. absurd (omega (arith, h));
      ticked = ticked_more c.args.self.now.engine.program c.loop-round.self.engine.program c.args.self.now.engine.begun c.loop-round.self.engine.begun k (count_by (λ s. s.live) c.loop-round.self.stimuli) c.args.steps.now c.loop-round.steps c.round-live.new.steps inv.program (omega (arith, some, ran.count)) inv.begins inv.begun inv.ticked ran.ticked;
      others = λ t. kept_on here (inv.others t) (read.others t);
      in_round = λ t run h. subst (λ (n : ℕ). AreFoundIn g.W.Word.lane run n c.read.new.self (g.D.Desk.told c.read.new.desk).contents) next
          (check_next g.W.Word.lane run (suc k) c.round-live.new.self c.read.new.self before (g.D.Desk.told c.read.new.desk).contents read.lanes read.misses read.engine (ran.done run k before (inv.in_round t run h)) (read.read t run (suc k)));
      taken = λ t run h. subst (λ (n : ℕ). AreTaken run (length c.args.self.now.stimuli) n (c.loop-round.vectors + c.round-live.result)) next
          (taken_next run (length c.args.self.now.stimuli) k c.loop-round.vectors c.round-live.result c.loop-round.self.stimuli before inv.lanes (inv.in_round t run h).read ran.count some (inv.taken t run h));
    }

pub returns-clause-done : goal.returns-clause-done
returns-clause-done g c =
    let inv = c.loop-round.invariant in
    λ t run h. checked_at_last g.W.Word.lane run (length c.args.self.now.stimuli) c.loop-round.round c.loop-round.self (g.D.Desk.told c.loop-round.desk).contents inv.lanes (omega arith) inv.ready.lanes (inv.in_round t run h)

pub returns-clause-counted : goal.returns-clause-counted
returns-clause-counted g c =
    let inv = c.loop-round.invariant in
    let last : c.loop-round.round ≡ 16777217 = omega arith in
    λ t run h.
    subst (λ (n : ℕ). AreCounted run (length c.args.self.now.stimuli) c.loop-round.vectors (2 * n)) last
    (all_taken run (length c.args.self.now.stimuli) c.loop-round.round c.loop-round.vectors (inv.taken t run h) (λ i lt. few_at_last run c.loop-round.round i (omega arith)))

pub returns-in_err-read-clause-ticked_always : goal.returns-in_err-read-clause-ticked_always
returns-in_err-read-clause-ticked_always g c =
    let inv = c.loop-round.invariant in
    let ran = c.round-live.ensures in (
      c.loop-round.round + 1,
      ticked_more c.args.self.now.engine.program c.loop-round.self.engine.program c.args.self.now.engine.begun c.loop-round.self.engine.begun c.loop-round.round (count_by (λ s. s.live) c.loop-round.self.stimuli) c.args.steps.now c.loop-round.steps c.round-live.new.steps inv.program (omega (arith, c.if-live-eq0.false, ran.count)) inv.begins inv.begun inv.ticked ran.ticked,
    )
