use Rattle.std.proofs.Common.{◌≡◌, List, Option, IfOk, OnOk, length, map, sym, ap, ◌∙◌, subst}
use Rattle.std.proofs.lemmas.List.{length-map}
use Rattle.vs_grammar.specs.Trees as tree
use Rattle.vs_ast.specs.Views as view
use Rattle.vs_const.specs.declared.faults.Fault.{Fault}
use Rattle.vs_const.specs.Faults.{least}
use Rattle.vs_elaborated.specs.Limits.{the_limits}
use Rattle.vs_elaborated.specs.Surveys.{items_said, loops_behind}
use Rattle.vs_scope.specs.Contents.{contents_items}
use Rattle.vs_items.specs.Stated.{AreStated}
use Rattle.vs_items.proofs.Repeats.{items_are}
use Rattle.vs_items.proofs.bodies.contents_fault.Goals as goal

pub items_fault-requires : goal.items_fault-requires
items_fault-requires c =
    subst (λ (is : List tree.Item). AreStated is) (ap contents_items c.in-Module.is ∙ items_are c.in-Module.m.now.items.items ∙ ap (map view.item) (sym c.deref.ensures.value)) c.requires

pub returns-in-Module-clause-fault : goal.returns-in-Module-clause-fault
returns-in-Module-clause-fault c = λ source around made a names same.
    let all : contents_items c.args.contents ≡ map view.item c.deref.result.now =
    ap contents_items c.in-Module.is ∙ items_are c.in-Module.m.now.items.items ∙ ap (map view.item) (sym c.deref.ensures.value) in
    subst (λ (is : List tree.Item). IfOk c.items_fault.result (λ (f : Option Fault). f ≡ least (items_said the_limits source around c.args.loops.now is made).faults)) (sym all)
    (c.items_fault.ensures.fault source around made a names (same ∙ ap (λ (is : List tree.Item). length is) all ∙ length-map c.deref.result.now view.item))

pub returns-in-Module-clause-loops : goal.returns-in-Module-clause-loops
returns-in-Module-clause-loops c = λ env names.
    let all : contents_items c.args.contents ≡ map view.item c.deref.result.now =
    ap contents_items c.in-Module.is ∙ items_are c.in-Module.m.now.items.items ∙ ap (map view.item) (sym c.deref.ensures.value) in
    subst (λ (is : List tree.Item). OnOk c.items_fault.result (c.items_fault.new.loops ≡ loops_behind the_limits env c.args.loops.now is)) (sym all) (c.items_fault.ensures.loops env names)
