use Rattle.std.proofs.Common.{[], ◌∷◌, length, take, drop, get_or, lit<, sym, ap, ap₂, ◌∙◌, subst, arith}
use Rattle.vs_kern_logic.specs.Operators.{operator_of}
use Rattle.vs_code.specs.declared.placed.Lengths.TheVariants.{One, Two}
use Rattle.vs_code.specs.Placed.{call_at}
use Rattle.vs_code.proofs.Arguments.{CanRun, can_run, HasRun}
use Rattle.vs_code.proofs.OneBits.{is_one, is_two, with_scratch}
use Rattle.vs_code.proofs.placed.Placed.run.Goals as goal

pub run_one-requires : goal.run_one-requires
run_one-requires g c =
    let slots = c.split_at.result.1.now in
    let one = is_one c.args.arena.now c.args.self.now c.in-Logic-One-eq1.kernel slots c.in-Logic-One-eq1.is-0 (c.in-Logic-One-eq1.t10-in-One-1-is ∙ ap One (omega arith)) c.split_at.ensures.back c.requires.within c.requires.call in
    let f = subst (CanRun (length c.args.file.now)) (sym one.is) (can_run (length c.args.file.now) (call_at c.args.arena.now c.args.self.now) c.requires.call c.requires.below) in
    record { lengths = f.lengths; a = (f.arguments 0 [] (lit< tt)).below 0 0 (lit< tt); to = f.targets.to_below 0 0 (lit< tt) }

pub returns-in-Logic-One-eq1 : goal.returns-in-Logic-One-eq1
returns-in-Logic-One-eq1 g c =
    let slots = c.split_at.result.1.now in
    let one = is_one c.args.arena.now c.args.self.now c.in-Logic-One-eq1.kernel slots c.in-Logic-One-eq1.is-0 (c.in-Logic-One-eq1.t10-in-One-1-is ∙ ap One (omega arith)) c.split_at.ensures.back c.requires.within c.requires.call in
    let computes = with_scratch g.W.Word.lane g.W.Word.LANES (operator_of c.in-Logic-One-eq1.kernel) ((get_or slots 0 0 ∷ []) ∷ []) (get_or slots 1 0 ∷ []) (take c.args.self.now.scratch (drop 2 slots)) c.args.file.now c.run_one.new.file c.run_one.ensures.computes in
    let r = subst (HasRun g.W.Word.lane g.W.Word.LANES c.args.file.now c.run_one.new.file c.args.steps.now c.run_one.new.steps) one.is (record { computes = computes; ticked = c.run_one.ensures.ticked }) in
    record { computes = r.computes; ticked = r.ticked }

pub run_two-requires : goal.run_two-requires
run_two-requires g c =
    let slots = c.split_at-in-Logic-Two-eq1-eq1.result.1.now in
    let one = is_two c.args.arena.now c.args.self.now c.in-Logic-Two-eq1-eq1.kernel slots c.in-Logic-Two-eq1-eq1.is-0 (c.in-Logic-Two-eq1-eq1.t10-in-Two-1-is ∙ ap₂ Two (omega arith) (omega arith)) c.split_at-in-Logic-Two-eq1-eq1.ensures.back c.requires.within c.requires.call in
    let f = subst (CanRun (length c.args.file.now)) (sym one.is) (can_run (length c.args.file.now) (call_at c.args.arena.now c.args.self.now) c.requires.call c.requires.below) in
    record { lengths = f.lengths; a = (f.arguments 0 [] (lit< tt)).below 0 0 (lit< tt); b = (f.arguments 1 [] (lit< tt)).below 0 0 (lit< tt); to = f.targets.to_below 0 0 (lit< tt) }

pub returns-in-Logic-Two-eq1-eq1 : goal.returns-in-Logic-Two-eq1-eq1
returns-in-Logic-Two-eq1-eq1 g c =
    let slots = c.split_at-in-Logic-Two-eq1-eq1.result.1.now in
    let one = is_two c.args.arena.now c.args.self.now c.in-Logic-Two-eq1-eq1.kernel slots c.in-Logic-Two-eq1-eq1.is-0 (c.in-Logic-Two-eq1-eq1.t10-in-Two-1-is ∙ ap₂ Two (omega arith) (omega arith)) c.split_at-in-Logic-Two-eq1-eq1.ensures.back c.requires.within c.requires.call in
    let computes = with_scratch g.W.Word.lane g.W.Word.LANES (operator_of c.in-Logic-Two-eq1-eq1.kernel) ((get_or slots 0 0 ∷ []) ∷ (get_or slots 1 0 ∷ []) ∷ []) (get_or slots 2 0 ∷ []) (take c.args.self.now.scratch (drop 3 slots)) c.args.file.now c.run_two.new.file c.run_two.ensures.computes in
    let r = subst (HasRun g.W.Word.lane g.W.Word.LANES c.args.file.now c.run_two.new.file c.args.steps.now c.run_two.new.steps) one.is (record { computes = computes; ticked = c.run_two.ensures.ticked }) in
    record { computes = r.computes; ticked = r.ticked }

pub bounds-slots-0 : goal.bounds-slots-0
bounds-slots-0 g c =
    let slots = c.split_at.result.1.now in
    let one = is_one c.args.arena.now c.args.self.now c.in-Logic-One-eq1.kernel slots c.in-Logic-One-eq1.is-0 (c.in-Logic-One-eq1.t10-in-One-1-is ∙ ap One (omega arith)) c.split_at.ensures.back c.requires.within c.requires.call in
    omega (arith, one.long)

pub bounds-slots-1 : goal.bounds-slots-1
bounds-slots-1 g c =
    let slots = c.split_at.result.1.now in
    let one = is_one c.args.arena.now c.args.self.now c.in-Logic-One-eq1.kernel slots c.in-Logic-One-eq1.is-0 (c.in-Logic-One-eq1.t10-in-One-1-is ∙ ap One (omega arith)) c.split_at.ensures.back c.requires.within c.requires.call in
    omega (arith, one.long)

pub bounds-slots-0-in-Logic-Two-eq1-eq1 : goal.bounds-slots-0-in-Logic-Two-eq1-eq1
bounds-slots-0-in-Logic-Two-eq1-eq1 g c =
    let slots = c.split_at-in-Logic-Two-eq1-eq1.result.1.now in
    let one = is_two c.args.arena.now c.args.self.now c.in-Logic-Two-eq1-eq1.kernel slots c.in-Logic-Two-eq1-eq1.is-0 (c.in-Logic-Two-eq1-eq1.t10-in-Two-1-is ∙ ap₂ Two (omega arith) (omega arith)) c.split_at-in-Logic-Two-eq1-eq1.ensures.back c.requires.within c.requires.call in
    omega (arith, one.long)

pub bounds-slots-1-in-Logic-Two-eq1-eq1 : goal.bounds-slots-1-in-Logic-Two-eq1-eq1
bounds-slots-1-in-Logic-Two-eq1-eq1 g c =
    let slots = c.split_at-in-Logic-Two-eq1-eq1.result.1.now in
    let one = is_two c.args.arena.now c.args.self.now c.in-Logic-Two-eq1-eq1.kernel slots c.in-Logic-Two-eq1-eq1.is-0 (c.in-Logic-Two-eq1-eq1.t10-in-Two-1-is ∙ ap₂ Two (omega arith) (omega arith)) c.split_at-in-Logic-Two-eq1-eq1.ensures.back c.requires.within c.requires.call in
    omega (arith, one.long)

pub bounds-slots-2 : goal.bounds-slots-2
bounds-slots-2 g c =
    let slots = c.split_at-in-Logic-Two-eq1-eq1.result.1.now in
    let one = is_two c.args.arena.now c.args.self.now c.in-Logic-Two-eq1-eq1.kernel slots c.in-Logic-Two-eq1-eq1.is-0 (c.in-Logic-Two-eq1-eq1.t10-in-Two-1-is ∙ ap₂ Two (omega arith) (omega arith)) c.split_at-in-Logic-Two-eq1-eq1.ensures.back c.requires.within c.requires.call in
    omega (arith, one.long)
