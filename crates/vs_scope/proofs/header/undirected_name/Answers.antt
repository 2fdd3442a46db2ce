use Rattle.std.proofs.Common.{not, ℕ, Bool, map, drop, sym, ap, ◌∙◌, subst, add-one}
use Rattle.vs_ast.specs.Views as view
use Rattle.vs_grammar.specs.Trees as tree
use Rattle.vs_const.specs.Faults.{least, fault_if}
use Rattle.vs_const.specs.declared.rules.Rule.TheVariants.{UnknownName}
use Rattle.vs_scope.specs.Headers.{undirected_faults}
use Rattle.vs_maps.specs.Sets.{has}
use Rattle.vs_scope.specs.SoFar.{IsFirstSoFar}
use Rattle.vs_scope.proofs.SoFar.{so_far_start, so_far_next, so_far_done}
use Rattle.vs_scope.proofs.header.undirected_name.Goals as goal

pub loop-name-init : goal.loop-name-init
loop-name-init c = so_far_start _

pub loop-name-preserved : goal.loop-name-preserved
loop-name-preserved c =
    let names = c.args.names.now in
    let d = view.name c.name-item.result in
    let directed = has c.args.directed.now in
    let all = undirected_faults directed (map view.name names) in
    subst (λ (n : ℕ). IsFirstSoFar c.first_of-fault.result (undirected_faults directed (map view.name (drop n names))) all) (sym (add-one c.loop-name.name-index))
    (so_far_next (λ (n : tree.Name). fault_if (not (directed n.bytes)) UnknownName n.place) view.name names c.loop-name.name-index c.name-item.result all c.loop-name.fault c.fault_if.result c.first_of-fault.result c.loop-name-test.true c.name-item.is
    c.loop-name.invariant
    (c.fault_if.ensures ∙ ap (λ (b : Bool). least (fault_if (not b) UnknownName d.place)) (c.contains-missing.ensures ∙ ap directed c.as_slice.ensures))
    c.first_of-fault.ensures)

pub returns : goal.returns
returns c =
    let names = c.args.names.now in
    let directed = has c.args.directed.now in
    so_far_done (λ (n : tree.Name). fault_if (not (directed n.bytes)) UnknownName n.place) view.name names c.loop-name.name-index (undirected_faults directed (map view.name names)) c.loop-name.fault c.loop-name-test.false c.loop-name.invariant
