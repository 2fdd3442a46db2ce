use Rattle.std.proofs.Common.{◌≤◌, length, arith}
use Rattle.vs_flat.specs.DesignOf.{initial_of, arena_statements, design_of}
use Rattle.vs_flat.specs.Trees.{statement_at}
use Rattle.vs_accept.proofs.Numbered.{has_start_number, has_no_start, behind_few}
use Rattle.vs_accept.proofs.numbers.initial_number.Goals as goal

pub returns-then-initial-initial_count : goal.returns-then-initial-initial_count
returns-then-initial-initial_count c =
    let same = (c.trees_law.ensures.counts c.args.flat.now).initials in
    has_no_start (design_of c.args.flat.now) c.args.initial (omega (arith, same, c.initial_count.ensures.count, c.if-initial-initial_count.true))

pub returns : goal.returns
returns c =
    let a = c.args.flat.now in
    has_start_number (design_of a) c.args.initial (initial_of (statement_at (arena_statements a)) c.initial.result) (c.trees_law.ensures.initials a c.args.initial c.initial.result c.initial.ensures)

pub overflow_add-result : goal.overflow_add-result
overflow_add-result c =
    let a = c.args.flat.now in
    let d = design_of a in
    let lawful = c.lawful_law.ensures.design a c.requires in
    let few : c.initial.result.behind ≤ length d.processes =
    behind_few 0 (length d.processes) d.initials c.args.initial (initial_of (statement_at (arena_statements a)) c.initial.result) lawful.behind (c.trees_law.ensures.initials a c.args.initial c.initial.result c.initial.ensures) in
    let most = lawful.few_processes in
    omega (arith, few, most, c.if-initial-initial_count.false, c.initial_count.ensures.most)
