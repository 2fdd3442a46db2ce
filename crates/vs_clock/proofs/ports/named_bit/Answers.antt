use Rattle.std.proofs.Common.{sym, ap, ◌∙◌}
use Rattle.vs_design.specs.Clocks.{name_of}
use Rattle.vs_design.specs.Expressions.{At}
use Rattle.vs_shape.specs.Nodes.{place_of, tree_of_node}
use Rattle.vs_clock.specs.Ports.{bit_of, one_bit}
use Rattle.vs_clock.proofs.ports.named_bit.Goals as goal

pub returns-in-Name : goal.returns-in-Name
returns-in-Name c =
    let a = c.args.flat.now in
    let tree = c.node_of.ensures.tree ∙ ap (λ n. At (place_of a c.args.e) (tree_of_node a n)) c.in-Name.is in
    c.only_bit.ensures ∙ sym (ap (λ e. bit_of (name_of e)) tree)

pub returns-in-Local : goal.returns-in-Local
returns-in-Local c =
    let a = c.args.flat.now in
    let tree = c.node_of.ensures.tree ∙ ap (λ n. At (place_of a c.args.e) (tree_of_node a n)) c.in-Local.is in
    c.bit_in.ensures c.in-Local.signal ∙ sym (ap one_bit c.local_of.ensures.is) ∙ sym (ap (λ e. bit_of (name_of e)) tree)
