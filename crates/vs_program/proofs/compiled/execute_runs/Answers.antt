use Rattle.std.proofs.Common.{◌<◌, ◌∙◌, length, sym, subst, arith}
use Rattle.std.specs.List.{All}
use Rattle.vs_plane.specs.Lanes.{slot_lane}
use Rattle.vs_code.specs.Calls.{call_slots, call_targets, slots_of}
use Rattle.vs_program.specs.Phases.{calls_of_runs}
use Rattle.vs_program.proofs.Executing.{in_runs, all_of_run, called_more, stores_more}
use Rattle.vs_program.proofs.compiled.execute_runs.Goals as goal

pub execute_part-requires-clause-below : goal.execute_part-requires-clause-below
execute_part-requires-clause-below g c =
    let below = subst (λ count. All (λ slot. slot < count) (slots_of (calls_of_runs c.args.calls.now c.args.runs.now))) (sym c.loop-run.invariant.slots) c.requires.below in
    all_of_run (λ slot. slot < length c.loop-run.file) call_slots c.args.calls.now c.args.runs.now c.loop-run.run-index c.loop-run-test.true below

pub loop-run-preserved : goal.loop-run-preserved
loop-run-preserved g c =
    let calls = c.args.calls.now in
    let runs = c.args.runs.now in
    let n = c.loop-run.run-index in
    record {
      applied = λ i l.
          called_more c.sequence_law.ensures.both calls runs n (λ slot. slot_lane g.W.Word.lane c.args.file.now slot i) (λ slot. slot_lane g.W.Word.lane c.loop-run.file slot i) (λ slot. slot_lane g.W.Word.lane c.execute_part.new.file slot i)
          c.loop-run-test.true (c.loop-run.invariant.applied i l) (c.execute_part.ensures.applied i l);
      slots = c.execute_part.ensures.slots ∙ c.loop-run.invariant.slots;
      kept = λ slot other.
          c.execute_part.ensures.kept slot (λ h. other (in_runs call_targets calls runs n slot c.loop-run-test.true h)) ∙ c.loop-run.invariant.kept slot other;
      ticked = omega (arith, c.execute_part.ensures.ticked, c.loop-run.invariant.ticked, stores_more calls runs n c.loop-run-test.true);
    }
