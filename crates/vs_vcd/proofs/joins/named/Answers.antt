use Rattle.std.proofs.Common.{ℕ, ◌<◌, length, sym, ap, ◌∙◌, subst}
use Rattle.std.specs.Prelude.{Some}
use Rattle.vs_design.specs.Expressions.{At}
use Rattle.vs_flat.specs.Arena.{declared_at}
use Rattle.vs_flat.specs.Named.{locals_in}
use Rattle.vs_shape.specs.Nodes.{HasCalls, HasNames, place_of, tree_of_node}
use Rattle.vs_vcd.specs.Joins.{named_number}
use Rattle.vs_vcd.proofs.Naming.{named_local, named_signal}
use Rattle.vs_vcd.proofs.joins.named.Goals as goal

pub returns-in-Name : goal.returns-in-Name
returns-in-Name c =
    let a = c.args.flat.now in
    let tree = c.node_of.ensures.tree ∙ ap (λ n. At (place_of a c.args.e) (tree_of_node a n)) c.in-Name.is in
    let there : c.in-Name.signal < length a.signals = subst (HasNames (length a.signals) c.args.e) c.in-Name.is c.node_of.ensures.names in
    sym (ap named_number tree ∙ ap (λ (k : ℕ). Some k) (named_signal a c.in-Name.signal there))

pub returns-in-Local : goal.returns-in-Local
returns-in-Local c =
    let a = c.args.flat.now in
    let tree = c.node_of.ensures.tree ∙ ap (λ n. At (place_of a c.args.e) (tree_of_node a n)) c.in-Local.is in
    let there : c.in-Local.signal < length (locals_in (declared_at a c.in-Local.function)) = (subst (HasCalls a) c.in-Local.is c.node_of.ensures.calls).1 in
    sym (ap named_number tree ∙ ap (λ (k : ℕ). Some k) (named_local a c.in-Local.function c.in-Local.signal there))
