use Rattle.std.proofs.Common.{◌≡◌, ◌<◌, ap, sym, subst, arith}
use Rattle.std.proofs.lemmas.List.Elements.{All-nil}
use Rattle.vs_code.specs.Calls.{length_of}
use Rattle.vs_program.specs.Layouts.{slots_of_design}
use Rattle.vs_program.specs.Program.{AreIn}
use Rattle.vs_assemble.proofs.Stepping.{room_after, one_reset, all_resets, all_few}
use Rattle.vs_assemble.proofs.assembling.lower_resets.Goals as goal

pub lower_reset-requires-clause-few : goal.lower_reset-requires-clause-few
lower_reset-requires-clause-few g c =
    room_after (g.T.Processes.design c.args.lowering.now) c.args.blocks.now c.loop-process.process-index _ 0 c.loop-process-test.true (omega (arith, c.loop-process.invariant.few)) (omega (arith, c.requires.few))

pub loop-process-init : goal.loop-process-init
loop-process-init g c =
    let none : length_of c.args.program.now ≡ 0 = ap length_of c.requires.none in
    record {
      calls = c.requires.none;
      few = omega (arith, none);
      slots = subst (AreIn (slots_of_design (g.T.Processes.design c.args.lowering.now))) (sym c.requires.none) (All-nil (λ slot. slot < slots_of_design (g.T.Processes.design c.args.lowering.now)));
    }

pub loop-process-preserved : goal.loop-process-preserved
loop-process-preserved g c =
    let low = c.in_ok-lower_reset.ensures in
    let inv = c.loop-process.invariant in
    let more = one_reset c.program_law.ensures.resets (g.T.Processes.design c.args.lowering.now) c.args.clocks.now (g.T.Lowering.layout c.args.lowering.now) c.requires.room c.args.blocks.now c.loop-process.process-index
    c.loop-process.program c.lower_reset.new.program low.0 c.loop-process-test.true inv.calls inv.few inv.slots low.1 low.2 in
    record { calls = more.calls_are; few = more.few; slots = more.slots }

pub returns-clause-calls : goal.returns-clause-calls
returns-clause-calls g c = all_resets (g.T.Processes.design c.args.lowering.now) c.args.clocks.now (g.T.Lowering.layout c.args.lowering.now) c.args.blocks.now c.loop-process.process-index c.loop-process.program c.loop-process-test.false c.loop-process.invariant.calls

pub returns-clause-few : goal.returns-clause-few
returns-clause-few g c =
    let all = all_few (g.T.Processes.design c.args.lowering.now) c.args.blocks.now c.loop-process.process-index (length_of c.loop-process.program) 0 (omega (arith, c.loop-process.invariant.few)) in
    omega (arith, all)
