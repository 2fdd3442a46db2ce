use Rattle.std.proofs.Common.{◌≡◌, true, List, ℕ, length, map, sym, ap, ◌∙◌, subst, arith}
use Rattle.std.proofs.lemmas.List.{drop_all}
use Rattle.vs_design.specs.Expressions.{Expression, At, Repeat}
use Rattle.vs_design.specs.Elaborated.{is_formed}
use Rattle.vs_design.specs.Fits.{is_fit}
use Rattle.vs_design.specs.Selects.{is_selector}
use Rattle.vs_design.proofs.Formed.{plain_signal}
use Rattle.vs_flat.specs.declared.expressions.Node.{Node}
use Rattle.vs_flat.specs.DesignOf.{design_of}
use Rattle.vs_flat.specs.Targets.{source_of}
use Rattle.vs_flat.specs.Trees.{joined, first_copy, copy_count}
use Rattle.vs_shape.specs.Nodes.{EachBelow, HasNames, tree_of, tree_of_node, place_of}
use Rattle.vs_sets.proofs.Fit.{fit_parts}
use Rattle.vs_sets.proofs.Joins.{each_fit}
use Rattle.vs_full.specs.Selectors.{has_root, is_source}
use Rattle.vs_full.proofs.Selecting.{copy_below, each_formed, more_times, once, part_no, part_yes, repeated_formed}
use Rattle.vs_full.proofs.selector.+selecting.Goals as goal

pub is_selector-names_select-requires-clause-formed : goal.is_selector-names_select-requires-clause-formed
is_selector-names_select-requires-clause-formed t c =
    let a = c.args.shapes.now in
    let tree = c.node.ensures.tree ∙ ap (λ (n : Node). At (place_of a c.args.e) (tree_of_node a n)) c.in-Name.is in
    ap (λ (x : Expression). is_source (design_of a) (source_of x)) tree ∙ plain_signal (design_of a) _ (ap (is_formed (design_of a)) (sym tree) ∙ c.requires.formed)

pub is_selector-names_select-requires-in-Local-clause-formed : goal.is_selector-names_select-requires-in-Local-clause-formed
is_selector-names_select-requires-in-Local-clause-formed t c =
    let a = c.args.shapes.now in
    let tree = c.node.ensures.tree ∙ ap (λ (n : Node). At (place_of a c.args.e) (tree_of_node a n)) c.in-Local.is in
    ap (λ (x : Expression). is_source (design_of a) (source_of x)) tree ∙ plain_signal (design_of a) _ (ap (is_formed (design_of a)) (sym tree) ∙ c.requires.formed)

pub is_selector-selects_inside-requires : goal.is_selector-selects_inside-requires
is_selector-selects_inside-requires t c =
    let a = c.args.shapes.now in
    let tree = c.node.ensures.tree ∙ ap (λ (n : Node). At (place_of a c.args.e) (tree_of_node a n)) c.in-Bit.is in
    let names = subst (HasNames (length a.signals) c.args.e) c.in-Bit.is c.node.ensures.names in
    record {
      roots = c.requires.roots;
      of_there = omega (arith, names.0, c.requires.there);
      there = omega (arith, names.1, c.requires.there);
      fit = ap is_fit (sym tree) ∙ c.requires.fit;
      formed = ap (is_formed (design_of a)) (sym tree) ∙ c.requires.formed;
    }

pub is_selector-selects_inside-requires-in-Part : goal.is_selector-selects_inside-requires-in-Part
is_selector-selects_inside-requires-in-Part t c =
    let a = c.args.shapes.now in
    let tree = c.node.ensures.tree ∙ ap (λ (n : Node). At (place_of a c.args.e) (tree_of_node a n)) c.in-Part.is in
    let names = subst (HasNames (length a.signals) c.args.e) c.in-Part.is c.node.ensures.names in
    record {
      roots = c.requires.roots;
      of_there = omega (arith, names.0, c.requires.there);
      there = omega (arith, names.1, c.requires.there);
      fit = ap is_fit (sym tree) ∙ c.requires.fit;
      formed = ap (is_formed (design_of a)) (sym tree) ∙ c.requires.formed;
    }

pub is_selector-are_selectors-requires : goal.is_selector-are_selectors-requires
is_selector-are_selectors-requires t c =
    let a = c.args.shapes.now in
    let d = design_of a in
    let parts = c.in-Join.parts in
    let tree = c.node.ensures.tree ∙ ap (λ (n : Node). At (place_of a c.args.e) (tree_of_node a n)) c.in-Join.is in
    let names = subst (HasNames (length a.signals) c.args.e) c.in-Join.is c.node.ensures.names in
    let slice = c.as_slice-then-copy_count-eq1.result.now in
    let same : slice ≡ parts = c.as_slice-then-copy_count-eq1.ensures in
    let copy : c.first_copy.result.now ≡ first_copy parts = c.first_copy.ensures.copy ∙ ap first_copy same in
    let whole : is_fit (Repeat (copy_count parts) (joined (map (tree_of a) (first_copy parts)))) ≡ true = ap is_fit (sym tree) ∙ c.requires.fit in
    let formed : is_formed d (Repeat (copy_count parts) (joined (map (tree_of a) (first_copy parts)))) ≡ true = ap (is_formed d) (sym tree) ∙ c.requires.formed in (
      omega arith,
      (
        c.requires.roots,
        (
          c.requires.there,
          (
            copy_below c.args.e slice c.first_copy.result.now (subst (EachBelow c.args.e) (sym same) names) c.first_copy.ensures.prefix c.first_copy.ensures.short,
            (
              subst (λ (ns : List ℕ). is_fit (joined (map (tree_of a) ns)) ≡ true) (sym copy) (fit_parts (Repeat (copy_count parts) (joined (map (tree_of a) (first_copy parts)))) whole).1,
              subst (λ (ns : List ℕ). is_formed d (joined (map (tree_of a) ns)) ≡ true) (sym copy) (repeated_formed d (copy_count parts) (joined (map (tree_of a) (first_copy parts))) formed),
            ),
          ),
        ),
      ),
    )

pub is_selector-returns-in-Literal : goal.is_selector-returns-in-Literal
is_selector-returns-in-Literal t c =
    let a = c.args.shapes.now in
    let tree = c.node.ensures.tree ∙ ap (λ (n : Node). At (place_of a c.args.e) (tree_of_node a n)) c.in-Literal.is in
    c.is_known.ensures ∙ sym (ap (is_selector (design_of a)) tree)

pub is_selector-returns-in-Name : goal.is_selector-returns-in-Name
is_selector-returns-in-Name t c =
    let a = c.args.shapes.now in
    let tree = c.node.ensures.tree ∙ ap (λ (n : Node). At (place_of a c.args.e) (tree_of_node a n)) c.in-Name.is in
    c.names_select.ensures ∙ ap (λ (x : Expression). has_root (design_of a) (source_of x)) tree ∙ sym (ap (is_selector (design_of a)) tree)

pub is_selector-returns-in-Local : goal.is_selector-returns-in-Local
is_selector-returns-in-Local t c =
    let a = c.args.shapes.now in
    let tree = c.node.ensures.tree ∙ ap (λ (n : Node). At (place_of a c.args.e) (tree_of_node a n)) c.in-Local.is in
    c.names_select-in-Local.ensures ∙ ap (λ (x : Expression). has_root (design_of a) (source_of x)) tree ∙ sym (ap (is_selector (design_of a)) tree)

pub is_selector-returns-in-Bit : goal.is_selector-returns-in-Bit
is_selector-returns-in-Bit t c =
    let a = c.args.shapes.now in
    let tree = c.node.ensures.tree ∙ ap (λ (n : Node). At (place_of a c.args.e) (tree_of_node a n)) c.in-Bit.is in
    c.selects_inside.ensures ∙ sym (ap (is_selector (design_of a)) tree)

pub is_selector-returns-in-Part : goal.is_selector-returns-in-Part
is_selector-returns-in-Part t c =
    let a = c.args.shapes.now in
    let tree = c.node.ensures.tree ∙ ap (λ (n : Node). At (place_of a c.args.e) (tree_of_node a n)) c.in-Part.is in
    c.selects_inside-in-Part.ensures ∙ sym (ap (is_selector (design_of a)) tree)

pub is_selector-returns-then-copy_count-eq1 : goal.is_selector-returns-then-copy_count-eq1
is_selector-returns-then-copy_count-eq1 t c =
    let a = c.args.shapes.now in
    let d = design_of a in
    let parts = c.in-Join.parts in
    let tree = c.node.ensures.tree ∙ ap (λ (n : Node). At (place_of a c.args.e) (tree_of_node a n)) c.in-Join.is in
    let copy = c.first_copy.ensures.copy ∙ ap first_copy c.as_slice-then-copy_count-eq1.ensures in
    once d (copy_count parts) c.copy_count.result (joined (map (tree_of a) (first_copy parts))) c.are_selectors.result (c.copy_count.ensures ∙ ap copy_count c.as_slice.ensures) c.if-copy_count-eq1.true
    (c.are_selectors.ensures ∙ ap (λ (ns : List ℕ). is_selector d (joined (map (tree_of a) ns))) copy) ∙ sym (ap (is_selector d) tree)

pub is_selector-returns-else-copy_count-eq1 : goal.is_selector-returns-else-copy_count-eq1
is_selector-returns-else-copy_count-eq1 t c =
    let a = c.args.shapes.now in
    let d = design_of a in
    let parts = c.in-Join.parts in
    let tree = c.node.ensures.tree ∙ ap (λ (n : Node). At (place_of a c.args.e) (tree_of_node a n)) c.in-Join.is in
    more_times d (copy_count parts) c.copy_count.result (joined (map (tree_of a) (first_copy parts))) (c.copy_count.ensures ∙ ap copy_count c.as_slice.ensures) c.if-copy_count-eq1.false ∙ sym (ap (is_selector d) tree)

pub are_selectors-is_selector-requires : goal.are_selectors-is_selector-requires
are_selectors-is_selector-requires t c =
    let tree = tree_of c.args.shapes.now in
    let k = c.loop-part.part-index in
    let below = c.requires.below k c.loop-part-test.true in
    (omega (arith, below), (c.requires.roots, (omega (arith, below, c.requires.there), (each_fit tree c.args.parts.now k c.requires.fit c.loop-part-test.true, each_formed (design_of c.args.shapes.now) tree c.args.parts.now k c.requires.formed c.loop-part-test.true))))

pub are_selectors-returns-then-not-is_selector : goal.are_selectors-returns-then-not-is_selector
are_selectors-returns-then-not-is_selector t c =
    let a = c.args.shapes.now in
    part_no (design_of a) (tree_of a) c.args.parts.now c.loop-part.part-index _ c.is_selector.result c.loop-part-test.true c.is_selector.ensures c.if-not-is_selector.true c.loop-part.invariant

pub are_selectors-loop-part-preserved : goal.are_selectors-loop-part-preserved
are_selectors-loop-part-preserved t c =
    let a = c.args.shapes.now in
    part_yes (design_of a) (tree_of a) c.args.parts.now c.loop-part.part-index _ c.is_selector.result c.loop-part-test.true c.is_selector.ensures c.if-not-is_selector.false c.loop-part.invariant

pub are_selectors-returns : goal.are_selectors-returns
are_selectors-returns t c =
    let a = c.args.shapes.now in
    sym (ap (λ (ns : List ℕ). is_selector (design_of a) (joined (map (tree_of a) ns))) (drop_all c.loop-part.part-index c.args.parts.now c.loop-part-test.false)) ∙ c.loop-part.invariant
