use Rattle.std.proofs.Common.{◌<◌, List, length, sym, subst}
use Rattle.std.specs.List.{All}
use Rattle.vs_code.specs.Calls.{Call, IsCall, slots_of}
use Rattle.vs_code.proofs.Arena.{part_is}
use Rattle.vs_code.proofs.Runs.{HaveRun, part_all}
use Rattle.vs_code.proofs.program.Program.execute_part.Goals as goal

pub run_all-requires-clause-calls : goal.run_all-requires-clause-calls
run_all-requires-clause-calls g c =
    let same = part_is _ _ _ _ _ c.args.from c.args.to c.as_slice-2.ensures.value c.as_slice.ensures.value c.self.view_is in
    subst (All IsCall) (sym same) (part_all IsCall c.args.self.now c.args.from c.args.to (subst (All IsCall) c.self.view_is c.self.invariant.calls))

pub run_all-requires-clause-below : goal.run_all-requires-clause-below
run_all-requires-clause-below g c =
    let same = part_is _ _ _ _ _ c.args.from c.args.to c.as_slice-2.ensures.value c.as_slice.ensures.value c.self.view_is in
    subst (λ (calls : List Call). All (λ slot. slot < length c.args.file.now) (slots_of calls)) (sym same) c.requires.below

pub returns : goal.returns
returns g c =
    let same = part_is _ _ _ _ _ c.args.from c.args.to c.as_slice-2.ensures.value c.as_slice.ensures.value c.self.view_is in
    let r = subst (λ (calls : List Call). HaveRun g.W.Word.lane g.W.Word.LANES c.args.file.now c.run_all.new.file c.args.steps.now c.run_all.new.steps calls calls) same
    (record { applied = c.run_all.ensures.applied; slots = c.run_all.ensures.slots; kept = c.run_all.ensures.kept; ticked = c.run_all.ensures.ticked }) in
    record { applied = r.applied; slots = r.slots; kept = r.kept; ticked = r.ticked }
