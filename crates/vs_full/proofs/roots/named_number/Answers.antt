use Rattle.std.proofs.Common.{Some, length, option_map, sym, ap, ◌∙◌, subst}
use Rattle.vs_design.specs.Clocks.{name_of}
use Rattle.vs_design.specs.Expressions.{Expression, At}
use Rattle.vs_shape.specs.Nodes.{HasNames, HasCalls, place_of, tree_of_node}
use Rattle.vs_full.specs.Roots.{number_of}
use Rattle.vs_full.proofs.Rooting.{signal_numbered, local_numbered}
use Rattle.vs_full.proofs.roots.named_number.Goals as goal

pub returns-in-Name : goal.returns-in-Name
returns-in-Name c =
    let a = c.args.flat.now in
    let tree = c.node_of.ensures.tree ∙ ap (λ n. At (place_of a c.args.e) (tree_of_node a n)) c.in-Name.is in
    let below = subst (HasNames (length a.signals) c.args.e) c.in-Name.is c.node_of.ensures.names in
    ap Some (sym (signal_numbered a c.in-Name.signal below)) ∙ sym (ap (λ (e : Expression). option_map number_of (name_of e)) tree)

pub returns-in-Local : goal.returns-in-Local
returns-in-Local c =
    let a = c.args.flat.now in
    let tree = c.node_of.ensures.tree ∙ ap (λ n. At (place_of a c.args.e) (tree_of_node a n)) c.in-Local.is in
    let there = subst (HasCalls a) c.in-Local.is c.node_of.ensures.calls in
    ap Some (sym (local_numbered a _ c.in-Local.signal there.1)) ∙ sym (ap (λ (e : Expression). option_map number_of (name_of e)) tree)
