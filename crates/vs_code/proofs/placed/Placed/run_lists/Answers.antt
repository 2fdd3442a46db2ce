use Rattle.std.proofs.Common.{[], length, lit<, sym, subst}
use Rattle.vs_code.specs.Placed.{call_at}
use Rattle.vs_code.proofs.Arguments.{one_call, two_call, three_call, CanRun, can_run, HasRun}
use Rattle.vs_code.proofs.placed.Placed.run_lists.Goals as goal

pub run_one-requires : goal.run_one-requires
run_one-requires g c =
    let call = one_call _ _ _ _ _ _ _ _ _ _ _ c.in-One.is c.split_at.ensures.back c.split_at-in-One.ensures.front c.split_at-in-One.ensures.back c.written.ensures.to c.written.ensures.scratch in
    let f = subst (CanRun (length c.args.file.now)) (sym call) (can_run (length c.args.file.now) (call_at c.args.arena.now c.args.self.now) c.requires.call c.requires.below) in
    record { lengths = f.lengths; targets = f.targets; a = f.arguments 0 [] (lit< tt) }

pub returns-in-One : goal.returns-in-One
returns-in-One g c =
    let call = one_call _ _ _ _ _ _ _ _ _ _ _ c.in-One.is c.split_at.ensures.back c.split_at-in-One.ensures.front c.split_at-in-One.ensures.back c.written.ensures.to c.written.ensures.scratch in
    let r = subst (HasRun g.W.Word.lane g.W.Word.LANES c.args.file.now c.run_one.new.file c.args.steps.now c.run_one.new.steps) call (record { computes = c.run_one.ensures.computes; ticked = c.run_one.ensures.ticked }) in
    record { computes = r.computes; ticked = r.ticked }

pub run_two-requires : goal.run_two-requires
run_two-requires g c =
    let call = two_call _ _ _ _ _ _ _ _ _ _ _ _ _ _ c.in-Two.is c.split_at.ensures.back c.split_at-in-Two.ensures.front c.split_at-in-Two.ensures.back c.split_at-in-Two-2.ensures.front c.split_at-in-Two-2.ensures.back c.written-in-Two.ensures.to c.written-in-Two.ensures.scratch in
    let f = subst (CanRun (length c.args.file.now)) (sym call) (can_run (length c.args.file.now) (call_at c.args.arena.now c.args.self.now) c.requires.call c.requires.below) in
    record { lengths = f.lengths; room = f.room; targets = f.targets; a = f.arguments 0 [] (lit< tt); b = f.arguments 1 [] (lit< tt) }

pub returns-in-Two : goal.returns-in-Two
returns-in-Two g c =
    let call = two_call _ _ _ _ _ _ _ _ _ _ _ _ _ _ c.in-Two.is c.split_at.ensures.back c.split_at-in-Two.ensures.front c.split_at-in-Two.ensures.back c.split_at-in-Two-2.ensures.front c.split_at-in-Two-2.ensures.back c.written-in-Two.ensures.to c.written-in-Two.ensures.scratch in
    let r = subst (HasRun g.W.Word.lane g.W.Word.LANES c.args.file.now c.run_two.new.file c.args.steps.now c.run_two.new.steps) call (record { computes = c.run_two.ensures.computes; ticked = c.run_two.ensures.ticked }) in
    record { computes = r.computes; ticked = r.ticked }

pub run_three-requires : goal.run_three-requires
run_three-requires g c =
    let call = three_call _ _ _ _ _ _ _ _ _ _ _ _ _ _ _ _ _ c.in-Three.is c.split_at.ensures.back c.split_at-in-Three.ensures.front c.split_at-in-Three.ensures.back c.split_at-in-Three-2.ensures.front c.split_at-in-Three-2.ensures.back c.split_at-in-Three-3.ensures.front c.split_at-in-Three-3.ensures.back c.written-in-Three.ensures.to c.written-in-Three.ensures.scratch in
    let f = subst (CanRun (length c.args.file.now)) (sym call) (can_run (length c.args.file.now) (call_at c.args.arena.now c.args.self.now) c.requires.call c.requires.below) in
    record { lengths = f.lengths; targets = f.targets; a = f.arguments 0 [] (lit< tt); b = f.arguments 1 [] (lit< tt); c = f.arguments 2 [] (lit< tt) }

pub returns-in-Three : goal.returns-in-Three
returns-in-Three g c =
    let call = three_call _ _ _ _ _ _ _ _ _ _ _ _ _ _ _ _ _ c.in-Three.is c.split_at.ensures.back c.split_at-in-Three.ensures.front c.split_at-in-Three.ensures.back c.split_at-in-Three-2.ensures.front c.split_at-in-Three-2.ensures.back c.split_at-in-Three-3.ensures.front c.split_at-in-Three-3.ensures.back c.written-in-Three.ensures.to c.written-in-Three.ensures.scratch in
    let r = subst (HasRun g.W.Word.lane g.W.Word.LANES c.args.file.now c.run_three.new.file c.args.steps.now c.run_three.new.steps) call (record { computes = c.run_three.ensures.computes; ticked = c.run_three.ensures.ticked }) in
    record { computes = r.computes; ticked = r.ticked }
