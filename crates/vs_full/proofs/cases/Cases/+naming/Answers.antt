use Rattle.std.proofs.Common.{◌≡◌, ◌+◌, true, List, ℕ, length, map, drop, get_or, sym, ap, ◌∙◌, subst, arith}
use Rattle.std.proofs.lemmas.List.{drop_all}
use Rattle.vs_design.specs.Expressions.{Expression, At, Repeat}
use Rattle.vs_design.specs.Elaborated.{is_formed}
use Rattle.vs_design.specs.Footprints.{read_signals, source_signals}
use Rattle.vs_design.specs.Selects.{is_selector}
use Rattle.vs_design.proofs.Formed.{plain_signal}
use Rattle.vs_design.proofs.Lists.{and_both}
use Rattle.vs_flat.specs.declared.expressions.Node.{Node}
use Rattle.vs_flat.specs.DesignOf.{design_of}
use Rattle.vs_flat.specs.Lawful.{IsLawful}
use Rattle.vs_flat.specs.Targets.{source_of}
use Rattle.vs_flat.specs.Trees.{joined, first_copy, copy_count}
use Rattle.vs_shape.specs.Nodes.{EachBelow, HasNames, tree_of, tree_of_node, place_of}
use Rattle.vs_full.specs.Selectors.{is_source}
use Rattle.vs_full.proofs.Picking.{each_selector, next_names, nothing_picked, picked_as, picked_done, picked_more, picked_none, picked_start, select_names}
use Rattle.vs_full.proofs.Selecting.{copy_below, each_formed, repeated_formed, source_formed}
use Rattle.vs_full.proofs.cases.Cases.+naming.Goals as goal

pub pick_parts-loop-part-init : goal.pick_parts-loop-part-init
pick_parts-loop-part-init t c =
    let a = c.args.shapes.now in
    picked_start (design_of a) (read_signals (joined (map (tree_of a) c.args.parts.now))) c.args.picked.now

pub pick_parts-pick_named-requires : goal.pick_parts-pick_named-requires
pick_parts-pick_named-requires t c =
    let a = c.args.shapes.now in
    let d = design_of a in
    let k = c.loop-part.part-index in
    let ns = c.args.parts.now in
    let below = c.requires.below k c.loop-part-test.true in
    (omega (arith, below), (c.requires.sound, (c.loop-part.invariant.count ∙ c.requires.count, (omega (arith, below, c.requires.there), (each_formed d (tree_of a) ns k c.requires.formed c.loop-part-test.true, each_selector d (tree_of a) ns k c.requires.selector c.loop-part-test.true)))))

pub pick_parts-loop-part-preserved : goal.pick_parts-loop-part-preserved
pick_parts-loop-part-preserved t c =
    let a = c.args.shapes.now in
    let k = c.loop-part.part-index in
    let ns = c.args.parts.now in
    let names = λ (ms : List ℕ). read_signals (joined (map (tree_of a) ms)) in
    picked_more (design_of a) (read_signals (tree_of a (get_or ns k 0))) (names (drop (k + 1) ns)) (names (drop k ns)) (names ns) c.args.picked.now c.loop-part.picked c.pick_named.new.picked (next_names (tree_of a) ns k c.loop-part-test.true) c.pick_named.ensures c.loop-part.invariant

pub pick_parts-returns : goal.pick_parts-returns
pick_parts-returns t c =
    let a = c.args.shapes.now in
    let ns = c.args.parts.now in
    let names = λ (ms : List ℕ). read_signals (joined (map (tree_of a) ms)) in
    picked_done (design_of a) (names (drop c.loop-part.part-index ns)) (names ns) c.args.picked.now c.loop-part.picked (ap names (drop_all c.loop-part.part-index ns c.loop-part-test.false)) c.loop-part.invariant

pub pick_named-pick_source-requires-clause-formed : goal.pick_named-pick_source-requires-clause-formed
pick_named-pick_source-requires-clause-formed t c =
    let a = c.args.shapes.now in
    let tree = c.node.ensures.tree ∙ ap (λ (n : Node). At (place_of a c.args.e) (tree_of_node a n)) c.in-Name.is in
    ap (λ (x : Expression). is_source (design_of a) (source_of x)) tree ∙ plain_signal (design_of a) _ (ap (is_formed (design_of a)) (sym tree) ∙ c.requires.formed)

pub pick_named-pick_source-requires-in-Local-clause-formed : goal.pick_named-pick_source-requires-in-Local-clause-formed
pick_named-pick_source-requires-in-Local-clause-formed t c =
    let a = c.args.shapes.now in
    let tree = c.node.ensures.tree ∙ ap (λ (n : Node). At (place_of a c.args.e) (tree_of_node a n)) c.in-Local.is in
    ap (λ (x : Expression). is_source (design_of a) (source_of x)) tree ∙ plain_signal (design_of a) _ (ap (is_formed (design_of a)) (sym tree) ∙ c.requires.formed)

pub pick_named-pick_source-requires-in-Bit : goal.pick_named-pick_source-requires-in-Bit
pick_named-pick_source-requires-in-Bit t c =
    let a = c.args.shapes.now in
    let tree = c.node.ensures.tree ∙ ap (λ (n : Node). At (place_of a c.args.e) (tree_of_node a n)) c.in-Bit.is in
    let names = subst (HasNames (length a.signals) c.args.e) c.in-Bit.is c.node.ensures.names in
    record { sound = c.requires.sound; count = c.requires.count; there = omega (arith, names.0, c.requires.there); formed = source_formed (design_of a) (source_of (tree_of a c.in-Bit.of)) _ (tree_of a c.in-Bit.index) (ap (is_formed (design_of a)) (sym tree) ∙ c.requires.formed) }

pub pick_named-pick_source-requires-in-Part : goal.pick_named-pick_source-requires-in-Part
pick_named-pick_source-requires-in-Part t c =
    let a = c.args.shapes.now in
    let tree = c.node.ensures.tree ∙ ap (λ (n : Node). At (place_of a c.args.e) (tree_of_node a n)) c.in-Part.is in
    let names = subst (HasNames (length a.signals) c.args.e) c.in-Part.is c.node.ensures.names in
    record { sound = c.requires.sound; count = c.requires.count; there = omega (arith, names.0, c.requires.there); formed = source_formed (design_of a) (source_of (tree_of a c.in-Part.of)) _ (tree_of a c.in-Part.base) (ap (is_formed (design_of a)) (sym tree) ∙ c.requires.formed) }

pub pick_named-pick_parts-requires : goal.pick_named-pick_parts-requires
pick_named-pick_parts-requires t c =
    let a = c.args.shapes.now in
    let d = design_of a in
    let parts = c.in-Join.parts in
    let tree = c.node.ensures.tree ∙ ap (λ (n : Node). At (place_of a c.args.e) (tree_of_node a n)) c.in-Join.is in
    let names = subst (HasNames (length a.signals) c.args.e) c.in-Join.is c.node.ensures.names in
    let slice = c.as_slice.result.now in
    let same : slice ≡ parts = c.as_slice.ensures in
    let copy : c.first_copy.result.now ≡ first_copy parts = c.first_copy.ensures.copy ∙ ap first_copy same in
    let formed : is_formed d (Repeat (copy_count parts) (joined (map (tree_of a) (first_copy parts)))) ≡ true = ap (is_formed d) (sym tree) ∙ c.requires.formed in
    let selector : is_selector d (Repeat (copy_count parts) (joined (map (tree_of a) (first_copy parts)))) ≡ true = ap (is_selector d) (sym tree) ∙ c.requires.selector in (
      omega arith,
      (
        c.requires.sound,
        (
          c.requires.count,
          (
            c.requires.there,
            (
              copy_below c.args.e slice c.first_copy.result.now (subst (EachBelow c.args.e) (sym same) names) c.first_copy.ensures.prefix c.first_copy.ensures.short,
              (
                subst (λ (ns : List ℕ). is_formed d (joined (map (tree_of a) ns)) ≡ true) (sym copy) (repeated_formed d (copy_count parts) (joined (map (tree_of a) (first_copy parts))) formed),
                subst (λ (ns : List ℕ). is_selector d (joined (map (tree_of a) ns)) ≡ true) (sym copy) (and_both _ (is_selector d (joined (map (tree_of a) (first_copy parts)))) selector).1,
              ),
            ),
          ),
        ),
      ),
    )

pub pick_named-returns-in-Literal : goal.pick_named-returns-in-Literal
pick_named-returns-in-Literal t c =
    let a = c.args.shapes.now in
    let tree = c.node.ensures.tree ∙ ap (λ (n : Node). At (place_of a c.args.e) (tree_of_node a n)) c.in-Literal.is in
    picked_as (design_of a) _ (read_signals (tree_of a c.args.e)) c.args.picked.now c.args.picked.now (sym (ap read_signals tree)) (picked_none (design_of a) c.args.picked.now)

pub pick_named-returns-in-Name : goal.pick_named-returns-in-Name
pick_named-returns-in-Name t c =
    let a = c.args.shapes.now in
    let tree = c.node.ensures.tree ∙ ap (λ (n : Node). At (place_of a c.args.e) (tree_of_node a n)) c.in-Name.is in
    picked_as (design_of a) (source_signals (source_of (tree_of a c.args.e))) (read_signals (tree_of a c.args.e)) c.args.picked.now c.pick_source.new.picked (ap (λ (x : Expression). source_signals (source_of x)) tree ∙ sym (ap read_signals tree)) c.pick_source.ensures

pub pick_named-returns-in-Local : goal.pick_named-returns-in-Local
pick_named-returns-in-Local t c =
    let a = c.args.shapes.now in
    let tree = c.node.ensures.tree ∙ ap (λ (n : Node). At (place_of a c.args.e) (tree_of_node a n)) c.in-Local.is in
    picked_as (design_of a) (source_signals (source_of (tree_of a c.args.e))) (read_signals (tree_of a c.args.e)) c.args.picked.now c.pick_source-in-Local.new.picked (ap (λ (x : Expression). source_signals (source_of x)) tree ∙ sym (ap read_signals tree)) c.pick_source-in-Local.ensures

pub pick_named-returns-in-Bit : goal.pick_named-returns-in-Bit
pick_named-returns-in-Bit t c =
    let a = c.args.shapes.now in
    let d = design_of a in
    let tree = c.node.ensures.tree ∙ ap (λ (n : Node). At (place_of a c.args.e) (tree_of_node a n)) c.in-Bit.is in
    let law = (subst IsLawful c.flat.ensures.same c.flat.ensures.lawful).design in
    picked_as d (source_signals (source_of (tree_of a c.in-Bit.of))) (read_signals (tree_of a c.args.e)) c.args.picked.now c.pick_source-in-Bit.new.picked
    (select_names d law (source_of (tree_of a c.in-Bit.of)) _ _ (ap (is_selector d) (sym tree) ∙ c.requires.selector) ∙ sym (ap read_signals tree)) c.pick_source-in-Bit.ensures

pub pick_named-returns-in-Part : goal.pick_named-returns-in-Part
pick_named-returns-in-Part t c =
    let a = c.args.shapes.now in
    let d = design_of a in
    let tree = c.node.ensures.tree ∙ ap (λ (n : Node). At (place_of a c.args.e) (tree_of_node a n)) c.in-Part.is in
    let law = (subst IsLawful c.flat.ensures.same c.flat.ensures.lawful).design in
    picked_as d (source_signals (source_of (tree_of a c.in-Part.of))) (read_signals (tree_of a c.args.e)) c.args.picked.now c.pick_source-in-Part.new.picked
    (select_names d law (source_of (tree_of a c.in-Part.of)) _ _ (ap (is_selector d) (sym tree) ∙ c.requires.selector) ∙ sym (ap read_signals tree)) c.pick_source-in-Part.ensures

pub pick_named-returns-in-Join : goal.pick_named-returns-in-Join
pick_named-returns-in-Join t c =
    let a = c.args.shapes.now in
    let tree = c.node.ensures.tree ∙ ap (λ (n : Node). At (place_of a c.args.e) (tree_of_node a n)) c.in-Join.is in
    let copy = c.first_copy.ensures.copy ∙ ap first_copy c.as_slice.ensures in
    picked_as (design_of a) (read_signals (joined (map (tree_of a) c.first_copy.result.now))) (read_signals (tree_of a c.args.e)) c.args.picked.now c.pick_parts.new.picked
    (ap (λ (ns : List ℕ). read_signals (joined (map (tree_of a) ns))) copy ∙ sym (ap read_signals tree)) c.pick_parts.ensures

pub pick_named-returns-in-Word : goal.pick_named-returns-in-Word
pick_named-returns-in-Word t c =
    let a = c.args.shapes.now in
    let tree = c.node.ensures.tree ∙ ap (λ (n : Node). At (place_of a c.args.e) (tree_of_node a n)) c.in-Word.is in
    nothing_picked (design_of a) (tree_of a c.args.e) c.args.picked.now c.requires.selector (ap (is_selector (design_of a)) tree)

pub pick_named-returns-in-WordPart : goal.pick_named-returns-in-WordPart
pick_named-returns-in-WordPart t c =
    let a = c.args.shapes.now in
    let tree = c.node.ensures.tree ∙ ap (λ (n : Node). At (place_of a c.args.e) (tree_of_node a n)) c.in-WordPart.is in
    nothing_picked (design_of a) (tree_of a c.args.e) c.args.picked.now c.requires.selector (ap (is_selector (design_of a)) tree)

pub pick_named-returns-in-Unary : goal.pick_named-returns-in-Unary
pick_named-returns-in-Unary t c =
    let a = c.args.shapes.now in
    let tree = c.node.ensures.tree ∙ ap (λ (n : Node). At (place_of a c.args.e) (tree_of_node a n)) c.in-Unary.is in
    nothing_picked (design_of a) (tree_of a c.args.e) c.args.picked.now c.requires.selector (ap (is_selector (design_of a)) tree)

pub pick_named-returns-in-Binary : goal.pick_named-returns-in-Binary
pick_named-returns-in-Binary t c =
    let a = c.args.shapes.now in
    let tree = c.node.ensures.tree ∙ ap (λ (n : Node). At (place_of a c.args.e) (tree_of_node a n)) c.in-Binary.is in
    nothing_picked (design_of a) (tree_of a c.args.e) c.args.picked.now c.requires.selector (ap (is_selector (design_of a)) tree)

pub pick_named-returns-in-Choice : goal.pick_named-returns-in-Choice
pick_named-returns-in-Choice t c =
    let a = c.args.shapes.now in
    let tree = c.node.ensures.tree ∙ ap (λ (n : Node). At (place_of a c.args.e) (tree_of_node a n)) c.in-Choice.is in
    nothing_picked (design_of a) (tree_of a c.args.e) c.args.picked.now c.requires.selector (ap (is_selector (design_of a)) tree)

pub pick_named-returns-in-Call : goal.pick_named-returns-in-Call
pick_named-returns-in-Call t c =
    let a = c.args.shapes.now in
    let tree = c.node.ensures.tree ∙ ap (λ (n : Node). At (place_of a c.args.e) (tree_of_node a n)) c.in-Call.is in
    nothing_picked (design_of a) (tree_of a c.args.e) c.args.picked.now c.requires.selector (ap (is_selector (design_of a)) tree)
