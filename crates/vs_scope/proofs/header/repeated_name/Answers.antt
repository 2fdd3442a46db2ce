use Rattle.std.proofs.Common.{◌≡◌, ◌||◌, ℕ, Bool, suc, List, [], map, drop, sym, ap, ◌∙◌, subst, add-one}
use Rattle.vs_ast.specs.Views as view
use Rattle.vs_ast.specs.declared.names.Name.{Name}
use Rattle.vs_design.specs.Clocks.{same_name}
use Rattle.vs_const.specs.Faults.{least, fault_if}
use Rattle.vs_const.specs.declared.rules.Rule.TheVariants.{DuplicateName}
use Rattle.vs_elaborated.specs.Ports.{repeated}
use Rattle.vs_maps.specs.Sets.{has}
use Rattle.vs_scope.proofs.Steps.{from_place, none_left}
use Rattle.vs_scope.proofs.SoFar.{so_far_start}
use Rattle.vs_scope.proofs.HeaderLoops.{AreRepeated, repeated_start, repeated_more, repeated_end}
use Rattle.vs_scope.proofs.header.repeated_name.Goals as goal

pub loop-name-init : goal.loop-name-init
loop-name-init c = repeated_start (has c.args.known.now) (map view.name c.args.names.now) c.requires (so_far_start (repeated [] (map view.name c.args.names.now)))

pub loop-name-preserved : goal.loop-name-preserved
loop-name-preserved c =
    let names = c.args.names.now in
    let all = map view.name names in
    let i = c.loop-name.name-index in
    let d = view.name c.name-item.result in
    let text : c.as_slice-text.result.now ≡ d.bytes = c.as_slice-text.ensures in
    subst (λ (n : ℕ). AreRepeated (has c.add.new.self) c.first_of-fault.result (map view.name (drop n names)) all) (sym (add-one i))
    (repeated_more (has c.loop-name.known) (has c.add.new.self) d (map view.name (drop (suc i) names)) all c.loop-name.fault c.fault_if.result c.first_of-fault.result
    (subst (λ (x : List Name). AreRepeated (has c.loop-name.known) c.loop-name.fault (map view.name x) all) (from_place names i c.name-item.result c.loop-name-test.true c.name-item.is) c.loop-name.invariant)
    (c.fault_if.ensures ∙ ap (λ (b : Bool). least (fault_if b DuplicateName d.place)) (c.contains-again.ensures ∙ ap (has c.loop-name.known) text))
    c.first_of-fault.ensures
    (λ n. c.in_ok-add.ensures n ∙ ap (λ (x : List ℕ). same_name x n || has c.loop-name.known n) text))

pub returns-clause-fault : goal.returns-clause-fault
returns-clause-fault c =
    let names = c.args.names.now in
    (repeated_end (has c.loop-name.known) c.loop-name.fault (map view.name names)
    (subst (λ (x : List Name). AreRepeated (has c.loop-name.known) c.loop-name.fault (map view.name x) (map view.name names)) (none_left names c.loop-name.name-index c.loop-name-test.false) c.loop-name.invariant)).0

pub returns-clause-known : goal.returns-clause-known
returns-clause-known c =
    let names = c.args.names.now in
    (repeated_end (has c.loop-name.known) c.loop-name.fault (map view.name names)
    (subst (λ (x : List Name). AreRepeated (has c.loop-name.known) c.loop-name.fault (map view.name x) (map view.name names)) (none_left names c.loop-name.name-index c.loop-name-test.false) c.loop-name.invariant)).1
