use Rattle.std.proofs.Common.{◌∙◌, length, subst}
use Rattle.std.proofs.lemmas.Bool.{and_parts}
use Rattle.vs_design.specs.Fits.{fits, divides_constants}
use Rattle.vs_design.specs.Designs.{bit_count}
use Rattle.vs_flat.specs.Lawful.{IsLawful}
use Rattle.vs_flat.specs.DesignOf.{design_of}
use Rattle.vs_flat.specs.Trees.{target_tree}
use Rattle.vs_sets.specs.Nodes.{tree_of}
use Rattle.vs_writes.specs.Held.{state_of}
use Rattle.vs_interpret.proofs.ByProcess.{assign_fits, the_target, target_inside, names_inside, assign_made, not_block, if_ok}
use Rattle.vs_interpret.proofs.Wider.{wider_target, wider_names}
use Rattle.vs_interpret.proofs.processes.assigned.Goals as goal

pub assignment_writes-requires-clause-target_there : goal.assignment_writes-requires-clause-target_there
assignment_writes-requires-clause-target_there c = (assign_fits c.args.shapes.now c.fit_process.result.now.kind c.in-Assign.target c.in-Assign.expr c.in-Assign.port c.fit_process.ensures.fit c.in-Assign.is).target_there

pub assignment_writes-requires-clause-there : goal.assignment_writes-requires-clause-there
assignment_writes-requires-clause-there c = (assign_fits c.args.shapes.now c.fit_process.result.now.kind c.in-Assign.target c.in-Assign.expr c.in-Assign.port c.fit_process.ensures.fit c.in-Assign.is).expression_there

pub assignment_writes-requires-clause-target : goal.assignment_writes-requires-clause-target
assignment_writes-requires-clause-target c =
    the_target (tree_of c.args.shapes.now c.in-Assign.target) (assign_fits c.args.shapes.now c.fit_process.result.now.kind c.in-Assign.target c.in-Assign.expr c.in-Assign.port c.fit_process.ensures.fit c.in-Assign.is).target_fits

pub assignment_writes-requires-clause-fit : goal.assignment_writes-requires-clause-fit
assignment_writes-requires-clause-fit c =
    let e = tree_of c.args.shapes.now c.in-Assign.expr in
    (and_parts (fits e) (divides_constants e) (assign_fits c.args.shapes.now c.fit_process.result.now.kind c.in-Assign.target c.in-Assign.expr c.in-Assign.port c.fit_process.ensures.fit c.in-Assign.is).expression_fits).0

pub assignment_writes-requires-clause-target_within : goal.assignment_writes-requires-clause-target_within
assignment_writes-requires-clause-target_within c =
    let a = c.args.shapes.now in
    wider_target (bit_count (design_of a)) (length c.args.values.now) c.requires.values (target_tree (tree_of a c.in-Assign.target))
    (target_inside c.trees_law.ensures.processes c.lawful_law.ensures.design a (subst IsLawful c.flat.ensures.same c.flat.ensures.lawful) c.args.p c.fit_process.result.now c.fit_process.ensures.is c.within_law.ensures.targets c.in-Assign.target c.in-Assign.expr c.in-Assign.port c.in-Assign.is)

pub assignment_writes-requires-clause-within : goal.assignment_writes-requires-clause-within
assignment_writes-requires-clause-within c =
    let a = c.args.shapes.now in
    wider_names (bit_count (design_of a)) (length c.args.values.now) c.requires.values (tree_of a c.in-Assign.expr)
    (names_inside c.trees_law.ensures.processes c.lawful_law.ensures.design a (subst IsLawful c.flat.ensures.same c.flat.ensures.lawful) c.args.p c.fit_process.result.now c.fit_process.ensures.is c.within_law.ensures.expressions c.in-Assign.target c.in-Assign.expr c.in-Assign.port c.in-Assign.is)

pub returns-in-Assign : goal.returns-in-Assign
returns-in-Assign c =
    let a = c.args.shapes.now in
    if_ok c.assignment_writes.result c.assignment_writes.ensures (λ u h clocks x at is.
    h ∙ assign_made c.trees_law.ensures.processes c.lawful_law.ensures.design a (subst IsLawful c.flat.ensures.same c.flat.ensures.lawful) c.args.p c.fit_process.result.now c.fit_process.ensures.is clocks x (state_of c.args.values.now) c.in-Assign.target c.in-Assign.expr c.in-Assign.port c.in-Assign.is at)

pub returns-in-Block : goal.returns-in-Block
returns-in-Block c = λ clocks x at is.
    absurd (not_block c.trees_law.ensures.processes c.lawful_law.ensures.design c.args.shapes.now (subst IsLawful c.flat.ensures.same c.flat.ensures.lawful) c.args.p c.fit_process.result.now c.fit_process.ensures.is x c.in-Block.star c.in-Block.events c.in-Block.statement c.in-Block.is at is)
