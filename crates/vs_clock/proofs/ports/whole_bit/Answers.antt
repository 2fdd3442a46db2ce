use Rattle.std.proofs.Common.{◌≡◌, ◌<◌, length, sym, ap, ◌∙◌, arith}
use Rattle.std.specs.Prelude.{Some, None}
use Rattle.vs_design.specs.Clocks.{name_of}
use Rattle.vs_design.specs.Expressions.{Expression}
use Rattle.vs_flat.specs.DesignOf.{arena_names, arena_trees}
use Rattle.vs_flat.specs.Trees.{tree_at}
use Rattle.vs_clock.specs.Ports.{bit_of, target_bit, only_part}
use Rattle.vs_clock.proofs.Wholes.{no_part, one_part, part_below}
use Rattle.vs_clock.proofs.ports.whole_bit.Goals as goal

pub loop-part-smaller : goal.loop-part-smaller
loop-part-smaller c =
    let node = c.node_of.result.now in
    part_below (length c.args.flat.now.signals) c.loop-part.e node c.in-Some.part (sym c.only_part.ensures ∙ c.in-Some.is) c.node_of.ensures.names

pub loop-part-preserved : goal.loop-part-preserved
loop-part-preserved c =
    let a = c.args.flat.now in
    let node = c.node_of.result.now in
    let is : only_part node ≡ Some c.in-Some.part = sym c.only_part.ensures ∙ c.in-Some.is in
    let less : c.in-Some.part < c.loop-part.e = part_below (length a.signals) c.loop-part.e node c.in-Some.part is c.node_of.ensures.names in
    record {
      there = omega (arith, less, c.loop-part.invariant.there);
      same = sym (ap target_bit c.node_of.ensures.tree ∙ one_part (arena_names a) (tree_at (arena_trees a)) node c.in-Some.part is) ∙ c.loop-part.invariant.same;
    }

pub returns : goal.returns
returns c =
    let a = c.args.flat.now in
    let node = c.node_of.result.now in
    let is : only_part node ≡ None = sym c.only_part.ensures ∙ c.in_default.is in
    c.named_bit.ensures
    ∙ sym (ap target_bit c.node_of.ensures.tree ∙ no_part (arena_names a) (tree_at (arena_trees a)) node is ∙ sym (ap (λ (e : Expression). bit_of (name_of e)) c.node_of.ensures.tree))
    ∙ c.loop-part.invariant.same
