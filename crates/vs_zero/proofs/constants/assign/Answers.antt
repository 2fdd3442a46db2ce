use Rattle.std.proofs.Common.{◌≡◌, take, sym, ap, ◌∙◌, arith}
use Rattle.vs_four.specs.Logic.{BitList}
use Rattle.vs_net.specs.Network.{State, write_all}
use Rattle.vs_design.specs.Bodies.{target_writes}
use Rattle.vs_design.specs.Statements.{target_width}
use Rattle.vs_design.specs.Values.{assigned_value}
use Rattle.vs_sets.specs.Nodes.{tree_of}
use Rattle.vs_sets.specs.TargetsOf.{target_tree}
use Rattle.vs_zero.specs.States.{state_of, unknown}
use Rattle.vs_sets.proofs.TargetFacts.{target_few, target_length}
use Rattle.vs_zero.proofs.Valued.{last_all}
use Rattle.vs_zero.proofs.constants.assign.Goals as goal

pub assigned_value-requires-clause-few : goal.assigned_value-requires-clause-few
assigned_value-requires-clause-few c =
    let few = target_few (tree_of c.args.shapes.now c.args.target) c.requires.target in
    (omega (arith, few.0, few.1, c.from-len.ensures, ap (λ s. s.width) c.shape.ensures), omega (arith, few.0, few.1, c.from-len.ensures, ap (λ s. s.width) c.shape.ensures))

pub returns : goal.returns
returns c =
    let a = c.args.shapes.now in
    let st : State = state_of c.args.state.now in
    let target = tree_of a c.args.target in
    let e = tree_of a c.args.e in
    let few = target_few target c.requires.target in
    let long = target_length target c.requires.target in
    let len : c.from-len.result ≡ target_width (target_tree target) = omega (arith, few.0, few.1, long, c.from-len.ensures, ap (λ s. s.width) c.shape.ensures) in
    let value = ap (λ n. take n c.listed-bits.result) (sym c.assigned_value.ensures.length) ∙ c.listed-bits.ensures ∙ c.assigned_value.ensures.value ∙ ap (λ n. assigned_value e n unknown) len in
    c.put.ensures ∙ ap (λ (v : BitList). write_all st (target_writes (target_tree target) v unknown)) value
    ∙ sym (last_all (target_writes (target_tree target) (assigned_value e (target_width (target_tree target)) unknown) unknown) st)
