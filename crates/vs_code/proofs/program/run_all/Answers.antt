use Rattle.std.proofs.Common.{◌<◌, length, sym, subst, arith}
use Rattle.std.specs.List.{All}
use Rattle.std.proofs.lemmas.List.{length-map}
use Rattle.vs_code.specs.Calls.{IsCall, call_slots, slots_of}
use Rattle.vs_code.specs.Placed.{call_at, calls_at}
use Rattle.vs_code.proofs.Arena.{one_at, same_at}
use Rattle.vs_code.proofs.Runs.{all_of_one, made_more}
use Rattle.vs_code.proofs.program.run_all.Goals as goal

pub run-requires-clause-call : goal.run-requires-clause-call
run-requires-clause-call g c = one_at IsCall c.args.arena.now c.args.calls.now c.loop-call.call-index _ c.loop-call-test.true c.requires.calls

pub run-requires-clause-below : goal.run-requires-clause-below
run-requires-clause-below g c =
    let calls = calls_at c.args.arena.now c.args.calls.now in
    let below = subst (λ count. All (λ slot. slot < count) (slots_of calls)) (sym c.loop-call.invariant.slots) c.requires.below in
    all_of_one (λ slot. slot < length c.loop-call.file) call_slots calls c.loop-call.call-index _
    (omega (arith, c.loop-call-test.true, length-map c.args.calls.now (call_at c.args.arena.now)))
    (same_at c.args.arena.now c.args.calls.now c.loop-call.call-index _ c.loop-call-test.true) below

pub loop-call-preserved : goal.loop-call-preserved
loop-call-preserved g c =
    made_more g.W.Word.lane g.W.Word.LANES c.args.file.now c.loop-call.file c.run.new.file c.args.steps.now c.loop-call.steps c.run.new.steps
    (calls_at c.args.arena.now c.args.calls.now) c.loop-call.call-index _
    (omega (arith, c.loop-call-test.true, length-map c.args.calls.now (call_at c.args.arena.now)))
    (same_at c.args.arena.now c.args.calls.now c.loop-call.call-index _ c.loop-call-test.true)
    c.loop-call.invariant (record { computes = c.run.ensures.computes; ticked = c.run.ensures.ticked })
