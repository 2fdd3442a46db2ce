use Rattle.std.proofs.Common.{sym, ◌∙◌, arith}
use Rattle.vs_flat.specs.DesignOf.{initial_of, arena_statements, design_of}
use Rattle.vs_flat.specs.Trees.{statement_at}
use Rattle.vs_names.proofs.Placed.{here_is, before_is, behind_is, none_left}
use Rattle.vs_names.proofs.drawing.place_of_number.Goals as goal

pub returns-then-process-initial : goal.returns-then-process-initial
returns-then-process-initial c =
    let a = c.args.flat.now in
    let k = c.loop-k.k in
    sym (here_is (design_of a).processes (design_of a).initials k c.loop-k.process (initial_of (statement_at (arena_statements a)) c.initial-initial.result)
    (c.trees_law.ensures.initials a k c.initial-initial.result c.initial-initial.ensures) c.if-process-initial.true) ∙ c.loop-k.invariant

pub returns-then-process-initial-2 : goal.returns-then-process-initial-2
returns-then-process-initial-2 c =
    let a = c.args.flat.now in
    let k = c.loop-k.k in
    c.place_of_process.ensures
    ∙ (sym (before_is (design_of a).processes (design_of a).initials k c.loop-k.process (initial_of (statement_at (arena_statements a)) c.initial-initial.result)
    (c.trees_law.ensures.initials a k c.initial-initial.result c.initial-initial.ensures) (omega (arith, c.if-process-initial-2.true))) ∙ c.loop-k.invariant)

pub loop-k-preserved : goal.loop-k-preserved
loop-k-preserved c =
    let a = c.args.flat.now in
    let k = c.loop-k.k in
    sym (behind_is (design_of a).processes (design_of a).initials k c.loop-k.process (initial_of (statement_at (arena_statements a)) c.initial-initial.result)
    (c.trees_law.ensures.initials a k c.initial-initial.result c.initial-initial.ensures) (omega (arith, c.if-process-initial.false, c.if-process-initial-2.false))) ∙ c.loop-k.invariant

pub returns : goal.returns
returns c =
    let a = c.args.flat.now in
    let same = (c.trees_law.ensures.counts a).initials in
    c.place_of_process-2.ensures
    ∙ (sym (none_left (design_of a).processes (design_of a).initials c.loop-k.k c.loop-k.process (omega (arith, same, c.initial_count-k-end.ensures.count, c.loop-k-test.false))) ∙ c.loop-k.invariant)
