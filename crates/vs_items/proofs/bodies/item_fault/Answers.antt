use Rattle.std.proofs.Common.{◌≡◌, List, Option, IfOk, OnOk, map, sym, ap, ◌∙◌, subst}
use Rattle.vs_grammar.specs.Trees.{AlwaysItem, InitialItem}
use Rattle.vs_ast.specs.declared.items.Item.{Item}
use Rattle.vs_ast.specs.declared.items.Assign.{Assign}
use Rattle.vs_ast.specs.Views as view
use Rattle.vs_const.specs.declared.faults.Fault.{Fault}
use Rattle.vs_const.specs.Faults.{least}
use Rattle.vs_elaborated.specs.Pieces.{all_said}
use Rattle.vs_elaborated.specs.Limits.{the_limits}
use Rattle.vs_elaborated.specs.Surveys.{Loops, assign_said, item_said, loops_after}
use Rattle.vs_scope.specs.Frames.{view_env}
use Rattle.vs_items.proofs.BodyFaults.{assigns_alike, signals_alike, block_faults_are, block_alike, initial_alike, after_alike}
use Rattle.vs_items.proofs.bodies.item_fault.Goals as goal

pub returns-in-Signals-clause-fault : goal.returns-in-Signals-clause-fault
returns-in-Signals-clause-fault c = λ source around made a names.
    let env = view_env c.args.here.now in
    let t = view.signals c.in-Signals.s in
    subst (λ (x : Item). IfOk c.signals_fault.result (λ (f : Option Fault). f ≡ least (item_said the_limits source around c.args.loops.now (view.item x) made).faults)) (sym c.in-Signals.is)
    (subst (λ (fs : List Fault). IfOk c.signals_fault.result (λ (f : Option Fault). f ≡ least fs)) (signals_alike env around.env (sym names.names) t) c.signals_fault.ensures)

pub returns-in-Assigns-clause-fault : goal.returns-in-Assigns-clause-fault
returns-in-Assigns-clause-fault c = λ source around made a names.
    let env = view_env c.args.here.now in
    let place = c.in-Assigns.place in
    subst (λ (x : Item). IfOk c.assigns_fault.result (λ (f : Option Fault). f ≡ least (item_said the_limits source around c.args.loops.now (view.item x) made).faults)) (sym c.in-Assigns.is)
    (subst (λ (fs : List Fault). IfOk c.assigns_fault.result (λ (f : Option Fault). f ≡ least fs))
    (ap (λ (xs : List Assign). (all_said (assign_said env place) (map view.assign xs)).faults) c.deref.ensures.value ∙ assigns_alike env around.env (sym names.names) place (map view.assign c.in-Assigns.assigns.items))
    (c.assigns_fault.ensures place))

pub returns-in-Instances-clause-fault : goal.returns-in-Instances-clause-fault
returns-in-Instances-clause-fault c = λ source around made a names.
    subst (λ (x : Item). IfOk c.instances_fault.result (λ (f : Option Fault). f ≡ least (item_said the_limits source around c.args.loops.now (view.item x) made).faults)) (sym c.in-Instances.is)
    (c.instances_fault.ensures source around (c.seen_by.ensures source a) names.names)

pub returns-in-Always-clause-fault : goal.returns-in-Always-clause-fault
returns-in-Always-clause-fault c = λ source around made a names.
    subst (λ (x : Item). IfOk c.block_fault.result (λ (f : Option Fault). f ≡ least (item_said the_limits source around c.args.loops.now (view.item x) made).faults)) (sym c.in-Always.is)
    (subst (λ (fs : List Fault). IfOk c.block_fault.result (λ (f : Option Fault). f ≡ least fs))
    (sym (block_faults_are the_limits around c.args.loops.now (view.always_block c.in-Always.b) ∙ block_alike the_limits c.args.loops.now around.env (view_env c.args.here.now) names (view.always_block c.in-Always.b)))
    c.block_fault.ensures.fault)

pub returns-in-Always-clause-loops : goal.returns-in-Always-clause-loops
returns-in-Always-clause-loops c = λ env names.
    let b = view.always_block c.in-Always.b in
    subst (λ (x : Item). OnOk c.block_fault.result (c.block_fault.new.loops ≡ loops_after the_limits env c.args.loops.now (view.item x))) (sym c.in-Always.is)
    (subst (λ (l : Loops). OnOk c.block_fault.result (c.block_fault.new.loops ≡ l)) (sym (after_alike the_limits c.args.loops.now env (view_env c.args.here.now) names (AlwaysItem b)))
    c.block_fault.ensures.loops)

pub returns-in-Initial-clause-fault : goal.returns-in-Initial-clause-fault
returns-in-Initial-clause-fault c = λ source around made a names.
    subst (λ (x : Item). IfOk c.initial_fault.result (λ (f : Option Fault). f ≡ least (item_said the_limits source around c.args.loops.now (view.item x) made).faults)) (sym c.in-Initial.is)
    (subst (λ (fs : List Fault). IfOk c.initial_fault.result (λ (f : Option Fault). f ≡ least fs)) (sym (initial_alike the_limits c.args.loops.now around.env (view_env c.args.here.now) names (view.initial_block c.in-Initial.b)))
    c.initial_fault.ensures.fault)

pub returns-in-Initial-clause-loops : goal.returns-in-Initial-clause-loops
returns-in-Initial-clause-loops c = λ env names.
    let b = view.initial_block c.in-Initial.b in
    subst (λ (x : Item). OnOk c.initial_fault.result (c.initial_fault.new.loops ≡ loops_after the_limits env c.args.loops.now (view.item x))) (sym c.in-Initial.is)
    (subst (λ (l : Loops). OnOk c.initial_fault.result (c.initial_fault.new.loops ≡ l)) (sym (after_alike the_limits c.args.loops.now env (view_env c.args.here.now) names (InitialItem b)))
    c.initial_fault.ensures.loops)
