use Rattle.std.proofs.Common.{◌≡◌, ◌≤◌, ◌<◌, ◌+◌, ◌-◌, ◌*◌, ◌++◌, ℕ, Bool, length, map, take, drop, true, false, List, [], ◌∷◌, get_or, replicate, if◌then◌else◌, Some, Result, Ok, Err, refl, sym, ap, ap₂, ◌∙◌, subst, arith, inl, inr}
use Rattle.std.specs.Prelude.{All, IfOk, OnOk, slice_index}
use Rattle.std.specs.List.{list_any}
use Rattle.std.proofs.lemmas.Bool.{cond-true, cond-false}
use Rattle.std.proofs.lemmas.List.{take-append-drop}
use Rattle.std.proofs.lemmas.List.Elements.{All-push, All-take, All-drop}
use Rattle.vs_four.specs.declared.Bit4.TheVariants.{X}
use Rattle.vs_four.specs.Selects.{Part}
use Rattle.vs_design.specs.Expressions as E
use Rattle.vs_design.specs.Statements as T
use Rattle.vs_design.specs.Statements.{arms_width, arms_sign, case_width, case_sign}
use Rattle.vs_design.specs.Fits.{fit_items, fits_statement}
use Rattle.vs_design.specs.Lifted as L
use Rattle.vs_design.specs.LiftedBodies.{item_sets, lifted_body, write_sets}
use Rattle.vs_design.specs.Sets.{Set4, is_only_one, only, set_or}
use Rattle.vs_design.specs.Sleepers.{arms_at_once, at_once}
use Rattle.vs_design.specs.Values.{bits_of_signal, count_from}
use Rattle.vs_design.specs.Within.{items_within}
use Rattle.vs_flat.specs.declared.expressions.Node.{Node}
use Rattle.vs_flat.specs.declared.expressions.Node.TheVariants as N
use Rattle.vs_flat.specs.declared.statements.Statement.{Statement}
use Rattle.vs_flat.specs.declared.statements.Arm.{Arm}
use Rattle.vs_flat.specs.Trees.{arms_tree, branch, copy_count, first_copy, joined}
use Rattle.vs_sets.specs.Branches.{branch_sets, taken_arms, taken_branches}
use Rattle.vs_sets.specs.Calls.{IsCall, arguments_of, function_of}
use Rattle.vs_sets.specs.FitParts.{FitParts}
use Rattle.vs_sets.specs.Completing.{AreDefaults, HasDefaults, IsNext, done, node_done, other_of}
use Rattle.vs_sets.specs.Matches.{IsEither, IsOneOf, are_within, branches_of}
use Rattle.vs_sets.specs.Nodes.{EachBelow, place_of, signal_of, tree_of, tree_of_node}
use Rattle.vs_sets.specs.PartSets.{part_sets}
use Rattle.vs_sets.specs.StatementParts.{BranchFacts, Covers, EachRuns, FitStatement, HasStatementNames, WithinStatement, arms_of, place_of_statement, statement_of, statement_of_node, tree_with}
use Rattle.vs_sets.specs.Tables.{family_of}
use Rattle.vs_sets.specs.TargetsOf.{target_tree}
use Rattle.vs_sets.proofs.Arguments.{all_arguments, all_x, argument_facts, argument_step, item_within, part_within, seam}
use Rattle.vs_sets.proofs.CaseSteps.{arm_fit, arm_items_within, arm_step, arm_within, arms_grow, branches_push, each_fit_item, each_within, get_is, items_at-is, sign_at_once, sign_of_arms, width_at_once, width_of_arms}
use Rattle.vs_sets.proofs.Joins.{each_fit, length-part_sets, part_room, part_step, repeat_room}
use Rattle.vs_sets.proofs.Names.{sets_at}
use Rattle.vs_sets.proofs.Completing.{next_branches, of_parts, of_taken}
use Rattle.vs_sets.proofs.Running.{All_same, all_covered, all_facts, default_facts, either_facts, join_is, parts_run}
use Rattle.vs_sets.proofs.Steps.{moved}
use Rattle.vs_sets.proofs.TargetFacts.{target_few, target_length}
use Rattle.vs_sets.proofs.Unwritten.{case_branches, if_branches}
use Rattle.vs_sets.proofs.Widths.{joined_sets, length-lifted}
use Rattle.vs_sets.proofs.+lifting.Goals as goal
use Rattle.vs_sets.proofs.+lifting.Goals.{cases::taken_arms-then-found-2+in_ok-push-2, cases::taken_arms-else-found-2}

on_ok : {V W : Type 0} {P Q : Type 0} (r : Result V W) → OnOk r P → (P → Q) → OnOk r Q
on_ok (Ok v) h k = k h
on_ok (Err e) h k = h

if_ok : {V W : Type 0} {P Q : V → Type 0} (r : Result V W) → IfOk r P → ((v : V) → P v → Q v) → IfOk r Q
if_ok (Ok v) h k = k v h
if_ok (Err e) h k = h

-- ---- expressions

pub lifter::Lifter::lifted-returns-clause-length : goal.lifter::Lifter::lifted-returns-clause-length
lifter::Lifter::lifted-returns-clause-length t c =
    let a = c.args.self.now.shapes.now in
    if_ok c.lifted_node.result c.lifted_node.ensures
    (λ v e. ap length e ∙ length-lifted c.value_law.ensures.length (tree_of a c.args.e) c.args.context.width c.args.context.signed (family_of c.args.self.now.table.now) c.requires.wide)

-- a part of a word, by the sets of its address, of the word and of its index
part_lifted : (s : E.Signal) (address : E.Expression) (part : Part) (index : E.Expression) (w : ℕ) (signed : Bool) (f : L.Family) (at word by vector out : List Set4) → at ≡ L.own_sets address f
    → word ≡ L.set_word s address at (map f (bits_of_signal s)) → by ≡ L.own_sets index f → vector ≡ L.set_select part index by word → out ≡ L.extend_sets w signed vector → out ≡ L.lifted (E.WordPart s address part index) w signed f
part_lifted s address part index w signed f at word by vector out at_is word_is by_is vector_is out_is =
    let whole : word ≡ L.set_word s address (L.own_sets address f) (map f (bits_of_signal s)) = word_is ∙ ap (λ (a : List Set4). L.set_word s address a (map f (bits_of_signal s))) at_is in
    out_is ∙ ap (λ (v : List Set4). L.extend_sets w signed v) (vector_is ∙ ap₂ (λ (i v : List Set4). L.set_select part index i v) by_is whole)

pub lifter::Lifter::lifted_node-returns-in_ok-sets-in-WordPart-2 : goal.lifter::Lifter::lifted_node-returns-in_ok-sets-in-WordPart-2
lifter::Lifter::lifted_node-returns-in_ok-sets-in-WordPart-2 t c =
    let a = c.args.self.now.shapes.now in
    let f = family_of c.args.self.now.table.now in
    let w = c.args.context.width in
    let signed = c.args.context.signed in
    let address = tree_of a c.in-WordPart.address in
    let index = tree_of a c.in-WordPart.base in
    let part : Part = record { range = c.in-WordPart.range; up = c.in-WordPart.up; width = c.in-WordPart.width } in
    let tree : tree_of a c.args.e ≡ E.At (place_of a c.args.e) (tree_of_node a (N.WordPart c.in-WordPart.signal c.in-WordPart.address c.in-WordPart.range c.in-WordPart.base c.in-WordPart.up c.in-WordPart.width)) =
    c.node.ensures.tree ∙ ap (λ (m : Node). E.At (place_of a c.args.e) (tree_of_node a m)) c.in-WordPart.is in
    part_lifted (signal_of a c.in-WordPart.signal) address part index w signed f c.in_ok-sets-in-WordPart.sets c.word-word.result c.in_ok-sets-in-WordPart-2.sets c.taken.result c.extended-in-WordPart.result
    (c.in_ok-sets-in-WordPart.ensures.value ∙ ap₂ (λ (k : ℕ) (s : Bool). L.lifted address k s f) c.own_context-in-WordPart.ensures.width c.own_context-in-WordPart.ensures.signed)
    c.word-word.ensures
    (c.in_ok-sets-in-WordPart-2.ensures.value ∙ ap₂ (λ (k : ℕ) (s : Bool). L.lifted index k s f) c.own_context-in-WordPart-2.ensures.width c.own_context-in-WordPart-2.ensures.signed)
    c.taken.ensures c.extended-in-WordPart.ensures
    ∙ ap (λ (x : E.Expression). L.lifted x w signed f) (sym tree)

pub lifter::Lifter::lifted_node-repeated-requires : goal.lifter::Lifter::lifted_node-repeated-requires
lifter::Lifter::lifted_node-repeated-requires t c =
    let a = c.args.self.now.shapes.now in
    let width = λ (ns : List ℕ). E.width (joined (map (tree_of a) ns)) in
    let parts = subst (λ (m : Node). FitParts (tree_of_node a m)) c.in-Join.is c.node.ensures.parts in
    let copy : c.first_copy.result.now ≡ first_copy c.in-Join.parts = c.first_copy.ensures.copy ∙ ap first_copy c.as_slice-in-Join.ensures in
    let count : c.copy_count-count.result ≡ copy_count c.in-Join.parts = c.copy_count-count.ensures ∙ ap copy_count c.as_slice-in-Join-2.ensures in
    repeat_room c.copy_count-count.result c.in_ok-copy-in-Join.copy (width (first_copy c.in-Join.parts)) (c.in_ok-copy-in-Join.ensures.length ∙ ap width copy)
    (subst (λ n. n * width (first_copy c.in-Join.parts) ≤ 64) (sym count) parts.0.1)

pub lifter::Lifter::lifted_node-call-requires : goal.lifter::Lifter::lifted_node-call-requires
lifter::Lifter::lifted_node-call-requires t c =
    let a = c.args.self.now.shapes.now in
    (omega arith, (c.requires.there, subst (IsCall a (length c.args.self.now.table.now) c.args.e c.in-Call.function) (sym c.as_slice-in-Call.ensures) (c.node.ensures.call c.in-Call.function c.in-Call.arguments c.in-Call.is)))

pub lifter::Lifter::parts-own_context-requires-clause-fit : goal.lifter::Lifter::parts-own_context-requires-clause-fit
lifter::Lifter::parts-own_context-requires-clause-fit t c = each_fit (tree_of c.args.self.now.shapes.now) c.args.parts.now (c.loop-n.n - 1) c.requires.fit (omega arith)

pub lifter::Lifter::parts-lifted-requires : goal.lifter::Lifter::parts-lifted-requires
lifter::Lifter::parts-lifted-requires t c =
    let n = c.loop-n.n - 1 in
    let tree = tree_of c.args.self.now.shapes.now in
    let inside : n < length c.args.parts.now = omega arith in
    let before = c.requires.before n inside in (
      omega (arith, before),
      (
        omega (arith, before),
        (
          each_fit tree c.args.parts.now n c.requires.fit inside,
          (part_within (length c.args.self.now.table.now) tree c.args.parts.now n c.requires.within inside, (omega (arith, c.own_context.ensures.width), c.own_context.ensures.few.1)),
        ),
      ),
    )

-- the part that this turn adds
next : (n : ℕ) → 0 < n → n ≡ (n - 1) + 1
next n h = omega arith

pub lifter::Lifter::parts-append-requires : goal.lifter::Lifter::parts-append-requires
lifter::Lifter::parts-append-requires t c =
    let n = c.loop-n.n - 1 in
    let inside : n < length c.args.parts.now = omega arith in
    let tree = tree_of c.args.self.now.shapes.now in
    let sets = family_of c.args.self.now.table.now in
    let own = c.as_slice.ensures.value ∙ c.in_ok-sets.ensures.value ∙ ap₂ (λ w s. L.lifted (tree (get_or c.args.parts.now n 0)) w s sets) c.own_context.ensures.width c.own_context.ensures.signed in
    part_room c.value_law.ensures.length tree c.args.parts.now sets n c.loop-n.list c.as_slice.result.now inside c.requires.few
    (c.loop-n.invariant.rest ∙ ap (λ k. part_sets (drop k (map tree c.args.parts.now)) sets) (next c.loop-n.n c.loop-n-test.true)) own

pub lifter::Lifter::parts-loop-n-preserved : goal.lifter::Lifter::parts-loop-n-preserved
lifter::Lifter::parts-loop-n-preserved t c =
    let n = c.loop-n.n - 1 in
    let inside : n < length c.args.parts.now = omega arith in
    let tree = tree_of c.args.self.now.shapes.now in
    let sets = family_of c.args.self.now.table.now in
    let done = c.loop-n.invariant.rest ∙ ap (λ k. part_sets (drop k (map tree c.args.parts.now)) sets) (next c.loop-n.n c.loop-n-test.true) in
    let own = c.as_slice.ensures.value ∙ c.in_ok-sets.ensures.value ∙ ap₂ (λ w s. L.lifted (tree (get_or c.args.parts.now n 0)) w s sets) c.own_context.ensures.width c.own_context.ensures.signed in
    record {
      within = omega arith;
      rest = c.append.ensures ∙ ap₂ ◌++◌ done own ∙ sym (part_step tree c.args.parts.now sets n inside);
    }

all_parts : (n : ℕ) (es : List E.Expression) (sets : L.Family) (list : List Set4) → n ≤ 0 → list ≡ part_sets (drop n es) sets → list ≡ part_sets es sets
all_parts n es sets list h e = let none : n ≡ 0 = omega arith in e ∙ ap (λ k. part_sets (drop k es) sets) none

pub lifter::Lifter::parts-returns-clause-value : goal.lifter::Lifter::parts-returns-clause-value
lifter::Lifter::parts-returns-clause-value t c =
    let es = map (tree_of c.args.self.now.shapes.now) c.args.parts.now in
    let sets = family_of c.args.self.now.table.now in
    all_parts c.loop-n.n es sets c.loop-n.list c.loop-n-test.false c.loop-n.invariant.rest ∙ sym (joined_sets c.value_law.ensures.length es sets)

pub lifter::Lifter::parts-returns-clause-length : goal.lifter::Lifter::parts-returns-clause-length
lifter::Lifter::parts-returns-clause-length t c =
    let es = map (tree_of c.args.self.now.shapes.now) c.args.parts.now in
    let sets = family_of c.args.self.now.table.now in
    ap length (all_parts c.loop-n.n es sets c.loop-n.list c.loop-n-test.false c.loop-n.invariant.rest) ∙ length-part_sets c.value_law.ensures.length es sets

-- ---- calls

pub lifter::Lifter::put_arguments-local_span-input-requires-clause-there : goal.lifter::Lifter::put_arguments-local_span-input-requires-clause-there
lifter::Lifter::put_arguments-local_span-input-requires-clause-there t c =
    (argument_facts c.args.self.now.shapes.now (length c.args.self.now.table.now) c.args.e c.args.function c.loop-n.n c.args.arguments.now c.requires.call c.loop-n-test.true).there

pub lifter::Lifter::put_arguments-overflow_cast-input : goal.lifter::Lifter::put_arguments-overflow_cast-input
lifter::Lifter::put_arguments-overflow_cast-input t c =
    let facts = argument_facts c.args.self.now.shapes.now (length c.args.self.now.table.now) c.args.e c.args.function c.loop-n.n c.args.arguments.now c.requires.call c.loop-n-test.true in
    omega (arith, facts.few, c.local_span-input.ensures.len)

pub lifter::Lifter::put_arguments-assigned-requires : goal.lifter::Lifter::put_arguments-assigned-requires
lifter::Lifter::put_arguments-assigned-requires t c =
    let facts = argument_facts c.args.self.now.shapes.now (length c.args.self.now.table.now) c.args.e c.args.function c.loop-n.n c.args.arguments.now c.requires.call c.loop-n-test.true in
    let before = c.requires.call.before c.loop-n.n c.loop-n-test.true in
    (omega (arith, before), (omega (arith, before, c.requires.there), (facts.fit, (facts.within, omega (arith, facts.few, c.local_span-input.ensures.len)))))

pub lifter::Lifter::put_arguments-loop-n-preserved : goal.lifter::Lifter::put_arguments-loop-n-preserved
lifter::Lifter::put_arguments-loop-n-preserved t c =
    let a = c.args.self.now.shapes.now in
    let facts = argument_facts a (length c.args.self.now.table.now) c.args.e c.args.function c.loop-n.n c.args.arguments.now c.requires.call c.loop-n-test.true in
    argument_step (tree_of a) c.args.arguments.now (function_of a c.args.function).header.inputs c.loop-n.n _ (family_of c.args.self.now.table.now) (family_of c.loop-n.local) (family_of c.put_run.new.table) c.local_span-input.result.first
    c.local_span-input.result.len c.as_slice.result.now c.loop-n-test.true facts.input facts.is c.local_span-input.ensures.first c.local_span-input.ensures.len (c.as_slice.ensures.value ∙ c.in_ok-sets.ensures.value)
    (ap length c.as_slice.ensures.value ∙ c.in_ok-sets.ensures.length) c.put_run.ensures
    ∙ c.loop-n.invariant

pub lifter::Lifter::put_arguments-returns : goal.lifter::Lifter::put_arguments-returns
lifter::Lifter::put_arguments-returns t c =
    let a = c.args.self.now.shapes.now in
    sym (all_arguments (tree_of a) c.args.arguments.now (function_of a c.args.function).header.inputs c.loop-n.n (family_of c.args.self.now.table.now) (family_of c.loop-n.local) c.requires.call.as_many (omega arith)) ∙ c.loop-n.invariant

pub lifter::Lifter::call-returns : goal.lifter::Lifter::call-returns
lifter::Lifter::call-returns t c =
    let a = c.args.self.now.shapes.now in
    let f = family_of c.args.self.now.table.now in
    let callee = c.in_ok-callee.callee in
    let facts = c.in_ok-callee.ensures in
    let function = function_of a c.args.function in
    let first = callee.result.first in
    let len = callee.result.len in
    let ran = c.run_function.new.local in
    let table : c.deref.result.now ≡ ran = c.deref.ensures.value ∙ seam c.in_ok-local.local.len ran (drop (length ran) c.in_ok-local.local.items) (sym (c.run_function.auto.local ∙ c.as_mut_slice.ensures.len)) in
    let begun : family_of c.as_mut_slice.result.now ≡ (λ b. only X) = ap family_of (c.as_mut_slice.ensures.value ∙ c.in_ok-local.ensures.items_if_clones_equal (λ y e. e) ∙ ap (replicate callee.len) c.only.ensures) ∙ all_x callee.len in
    let sets = lifted_body function.statement (L.argument_sets (arguments_of a c.args.arguments.now) function.header.inputs f (λ b. only X)) in
    let left : family_of ran ≡ sets = c.in_ok-run_function.ensures ∙ ap (λ g. lifted_body function.statement (L.argument_sets (arguments_of a c.args.arguments.now) function.header.inputs f g)) begun in
    let inside : first + len ≤ length ran = omega (arith, facts.result_within, c.run_function.auto.local, c.as_mut_slice.ensures.len, c.in_ok-local.ensures.len) in
    let count : (first + len) - first ≡ len = omega arith in
    c.list_of.ensures ∙ ap (λ xs. take ((first + len) - first) (drop first xs)) table ∙ ap (λ n. take n (drop first ran)) count ∙ sym (sets_at ran first len inside)
    ∙ ap (λ g. map g (count_from first len)) left ∙ ap₂ (λ m n. map sets (count_from m n)) facts.result_first facts.result_len

-- ---- cases

pub cases::match_items-lifted-requires : goal.cases::match_items-lifted-requires
cases::match_items-lifted-requires t c =
    let tree = tree_of c.args.lifter.now.shapes.now in
    let k = c.loop-item.item-index in
    let before = c.requires.there k c.loop-item-test.true in (
      omega (arith, before),
      (
        omega (arith, before, c.requires.nodes),
        (
          each_fit_item tree c.args.items.now k c.requires.fit c.loop-item-test.true,
          (item_within (length c.args.lifter.now.table.now) tree c.args.items.now k c.requires.names c.loop-item-test.true, (each_within c.args.context.width tree c.args.items.now k c.requires.within c.loop-item-test.true, c.requires.few)),
        ),
      ),
    )

pub cases::taken_arms-match_items-requires : goal.cases::taken_arms-match_items-requires
cases::taken_arms-match_items-requires t c =
    let a = c.args.lifter.now.shapes.now in
    let x = c.arm-item.result in
    let k = c.loop-arm.arm-index in
    let count = length c.args.lifter.now.table.now in
    let items = c.as_slice.ensures ∙ ap (λ y. y.items) c.arm-item.is in
    let there = c.requires.there k x (get_is c.args.arms.now k x c.loop-arm-test.true c.arm-item.is) in (
      omega arith,
      (
        c.requires.nodes,
        (
          subst (EachBelow c.args.nodes) (sym c.as_slice.ensures) there.0,
          (
            ap (λ ns. items_within count (E.items_of (map (tree_of a) ns))) items ∙ arm_items_within count (tree_of a) (statement_of a) c.args.other c.args.arms.now k x c.requires.names c.loop-arm-test.true,
            (
              ap (λ ns. fit_items (E.items_of (map (tree_of a) ns))) items ∙ arm_fit (tree_of a) (statement_of a) c.args.other c.args.arms.now k x c.requires.fit c.loop-arm-test.true,
              (
                ap (λ ns. are_within c.args.context.width (map (tree_of a) ns)) (items ∙ sym (items_at-is c.args.arms.now k x c.loop-arm-test.true)) ∙ c.requires.within k c.loop-arm-test.true,
                (c.requires.few, c.requires.many),
              ),
            ),
          ),
        ),
      ),
    )

pub cases::taken_arms-returns-then-found-clause-from : goal.cases::taken_arms-returns-then-found-clause-from
cases::taken_arms-returns-then-found-clause-from t c =
    rw c.in_ok-push.ensures.items (All-push (IsOneOf c.args.arms.now c.args.other) c.loop-arm.taken.items (Some c.arm-item.result.statement) c.loop-arm.invariant.from
    (inr (c.loop-arm.arm-index, c.arm-item.result, get_is c.args.arms.now c.loop-arm.arm-index c.arm-item.result c.loop-arm-test.true c.arm-item.is, refl)))

pub cases::taken_arms-returns-clause-from : goal.cases::taken_arms-returns-clause-from
cases::taken_arms-returns-clause-from t c = rw c.in_ok-push-3.ensures.items (All-push (IsOneOf c.args.arms.now c.args.other) c.loop-arm.taken.items c.args.other c.loop-arm.invariant.from (inl refl))

pub cases::taken_arms-loop-arm-preserved : goal.cases::taken_arms-loop-arm-preserved
cases::taken_arms-loop-arm-preserved t c =
    let a = c.args.lifter.now.shapes.now in
    let f = family_of c.args.lifter.now.table.now in
    let kind = c.args.kind in
    let w = c.args.context.width in
    let s = c.args.context.signed in
    let subject = c.args.subject.now in
    let arm = c.arm-item.result in
    let k = c.loop-arm.arm-index in
    let items = ap (λ ns. item_sets kind w s subject (E.items_of (map (tree_of a) ns)) f) c.as_slice.ensures in
    let unsure : list_any is_only_one (item_sets kind w s subject (E.items_of (map (tree_of a) arm.items)) f) ≡ false = ap (λ ms. list_any is_only_one ms) (sym items) ∙ sym c.in_ok-found.ensures.sure ∙ c.if-found.false in
    let step = λ (st : ℕ → T.Statement). arm_step (tree_of a) st c.args.other c.args.arms.now k arm kind w s subject f c.loop-arm-test.true c.arm-item.is unsure in
    let may = ap (λ ms. list_any (λ (m : Set4). m.one?) ms) (sym items) ∙ sym c.in_ok-found.ensures.may in
    let rest = λ (st : ℕ → T.Statement). taken_arms (arms_at_once (arms_tree (tree_of a) st c.args.other (drop (k + 1) c.args.arms.now))) kind w s subject f in
    record {
      from = elim c.if-found-2.branch [
        | cases::taken_arms-then-found-2+in_ok-push-2 v ↦
            rw (v.taken-is, v.in_ok-push-2.ensures.items) (All-push (IsOneOf c.args.arms.now c.args.other) c.loop-arm.taken.items (Some arm.statement) c.loop-arm.invariant.from
            (inr (k, arm, get_is c.args.arms.now k arm c.loop-arm-test.true c.arm-item.is, refl)))
        | cases::taken_arms-else-found-2 v ↦ rw v.taken-is c.loop-arm.invariant.from
      ];
      taken = λ st. elim c.if-found-2.branch [
        | cases::taken_arms-then-found-2+in_ok-push-2 v ↦
            (let chosen = may ∙ v.if-found-2.true in
            let more = step st ∙ cond-true _ (at_once (st arm.statement) ∷ rest st) (rest st) chosen in
            ap (λ x. branches_of st x.items ++ rest st) v.taken-is ∙ ap (λ xs. branches_of st xs ++ rest st) v.in_ok-push-2.ensures.items
            ∙ ap (λ x. x ++ rest st) (branches_push st c.loop-arm.taken.items (Some arm.statement))
            ∙ moved (branches_of st c.loop-arm.taken.items) (at_once (st arm.statement) ∷ []) _ (rest st) _ (c.loop-arm.invariant.taken st) more)
        | cases::taken_arms-else-found-2 v ↦
            (let passed = may ∙ v.if-found-2.false in
            let same = step st ∙ cond-false _ (at_once (st arm.statement) ∷ rest st) (rest st) passed in
            ap (λ x. branches_of st x.items ++ rest st) v.taken-is ∙ ap (λ x. branches_of st c.loop-arm.taken.items ++ x) (sym same) ∙ c.loop-arm.invariant.taken st)
      ];
    }

pub cases::case_branches-lifted-requires : goal.cases::case_branches-lifted-requires
cases::case_branches-lifted-requires t c =
    let a = c.args.lifter.now.shapes.now in (
      omega (arith, c.requires.of_there),
      (
        omega (arith, c.requires.of_there, c.requires.nodes),
        (
          c.requires.of_fit,
          (
            c.requires.of_within,
            (
              omega (arith, c.own_context.ensures.width, c.case_context-context.ensures.width, arms_grow (arms_of a c.args.other c.args.arms.now) c.own_context.result.width),
              c.case_context-context.ensures.few,
            ),
          ),
        ),
      ),
    )

pub cases::case_branches-taken_arms-requires : goal.cases::case_branches-taken_arms-requires
cases::case_branches-taken_arms-requires t c =
    let a = c.args.lifter.now.shapes.now in (
      omega arith,
      (
        c.requires.nodes,
        (
          c.requires.there,
          (
            c.requires.names,
            (
              c.requires.fit,
              (
                λ k inside. arm_within (tree_of a) (statement_of a) c.args.other c.args.arms.now c.own_context.result.width c.case_context-context.result.width k (omega (arith, c.case_context-context.ensures.width)) inside,
                (c.case_context-context.ensures.few, c.in_ok-subject.ensures.length),
              ),
            ),
          ),
        ),
      ),
    )

pub cases::case_branches-returns-clause-taken : goal.cases::case_branches-returns-clause-taken
cases::case_branches-returns-clause-taken t c st =
    let a = c.args.lifter.now.shapes.now in
    let f = family_of c.args.lifter.now.table.now in
    let subject = tree_of a c.args.of in
    let arms = arms_tree (tree_of a) st c.args.other c.args.arms.now in
    let kind = c.args.kind in
    let w = c.case_context-context.result.width in
    let s = c.case_context-context.result.signed in
    let len : w ≡ case_width subject (arms_at_once arms) =
    c.case_context-context.ensures.width ∙ ap (arms_width (arms_of a c.args.other c.args.arms.now)) c.own_context.ensures.width ∙ width_of_arms (tree_of a) (statement_of a) st c.args.other c.args.arms.now (E.width subject) ∙ sym (width_at_once arms (E.width subject))
    in
    let sign : s ≡ case_sign subject (arms_at_once arms) =
    c.case_context-context.ensures.signed ∙ ap (arms_sign (arms_of a c.args.other c.args.arms.now)) c.own_context.ensures.signed ∙ sign_of_arms (tree_of a) (statement_of a) st c.args.other c.args.arms.now (E.sign subject) ∙ sym (sign_at_once arms (E.sign subject))
    in
    let whole =
    ap (λ ss. taken_arms (arms_at_once arms) kind w s ss f) c.in_ok-subject.ensures.value
    ∙ ap₂ (λ n x. taken_arms (arms_at_once arms) kind n x (L.lifted subject n x f) f) len sign
    in
    if_ok c.taken_arms.result (c.taken_arms.ensures.taken st)
    (λ v e. ap (λ ss. branch_sets ss f) (e ∙ whole)
    ∙ sym (case_branches (arms_at_once arms) kind (case_width subject (arms_at_once arms)) (case_sign subject (arms_at_once arms)) (L.lifted subject (case_width subject (arms_at_once arms)) (case_sign subject (arms_at_once arms)) f) f))

-- ---- statements

pub targets::assign-assigned-requires : goal.targets::assign-assigned-requires
targets::assign-assigned-requires t c =
    let few = target_few (tree_of c.args.shapes.now c.args.target) c.requires.target in
    (omega arith, (c.requires.there, (c.requires.fit, (c.requires.within, omega (arith, few.1, c.from.ensures, ap (λ s. s.width) c.shape.ensures)))))

pub targets::assign-returns : goal.targets::assign-returns
targets::assign-returns t c =
    let target = tree_of c.args.shapes.now c.args.target in
    let e = tree_of c.args.shapes.now c.args.e in
    let sets = family_of c.args.table.now in
    let few = target_few target c.requires.target in
    let width : c.from.result ≡ E.width target = omega (arith, few.1, c.from.ensures, ap (λ s. s.width) c.shape.ensures) in
    c.write.ensures ∙ ap (λ ss. write_sets (target_tree target) ss sets) (c.as_slice.ensures.value ∙ c.in_ok-sets.ensures.value)
    ∙ ap (λ n. write_sets (target_tree target) (L.assigned_sets e n sets) sets) (width ∙ sym (target_length target c.requires.target))

pub bodies::Runner::join-returns : goal.bodies::Runner::join-returns
bodies::Runner::join-returns t c =
    let a = c.args.self.now.shapes.now in
    let complete = c.args.self.now.defaults.now.complete in
    let count = length c.args.table.now in
    let bits = c.args.self.now.bits.now in
    let f = family_of c.args.table.now in
    let t1 = family_of c.join.new.table in
    let all = c.args.branches.now in
    let left = c.split_at.result.0.now in
    let right = c.split_at.result.1.now in
    let facts = BranchFacts a count c.args.s bits in
    let front = c.split_at.ensures.front in
    let back = c.split_at.ensures.back in
    join_is (done complete a) bits all left right f t1 (family_of c.put_back.new.table) (family_of c.join-2.new.table) (family_of c.unite.new.table)
    (ap₂ ◌++◌ front back ∙ take-append-drop _ all)
    (all_covered complete a count c.args.s bits left (All_same facts _ left (sym front) (All-take facts _ all c.requires.runs))) (omega (arith, c.split_at.ensures.front_len))
    (all_covered complete a count c.args.s bits right (All_same facts _ right (sym back) (All-drop facts _ all c.requires.runs))) (omega (arith, c.split_at.ensures.back_len))
    c.in_ok-join.ensures (c.put_back.ensures f (c.as_slice.ensures.value ∙ c.in_ok-start.ensures)) c.in_ok-join-2.ensures (c.unite.ensures t1 (c.as_slice-2.ensures.value ∙ c.in_ok-first.ensures))

pub bodies::Runner::run_all-run-requires : goal.bodies::Runner::run_all-run-requires
bodies::Runner::run_all-run-requires t c =
    let a = c.args.self.now.shapes.now in
    let k = c.loop-part.part-index in
    let part = get_or c.args.parts.now k 0 in
    let bits = c.args.self.now.bits.now in
    let facts = c.requires.each k c.loop-part-test.true in
    let same : length c.args.table.now ≡ length c.loop-part.table = sym c.loop-part.auto.table in (
      omega (arith, facts.earlier),
      (
        omega (arith, facts.earlier, c.requires.there),
        (
          facts.fits,
          (
            λ s p l. c.requires.below s p (omega (arith, l, facts.earlier)),
            (
              subst (λ (n : ℕ). Rattle.vs_design.specs.Within.statement_within n (statement_of a part) ≡ true) same facts.within,
              (subst (λ (n : ℕ). All (λ b. b < n) bits) same c.requires.within, (facts.covers, c.requires.defaults k c.loop-part-test.true)),
            ),
          ),
        ),
      ),
    )

pub bodies::Runner::run-run_all-requires : goal.bodies::Runner::run-run_all-requires
bodies::Runner::run-run_all-requires t c =
    let a = c.args.self.now.shapes.now in
    let defaults = c.args.self.now.defaults.now in
    let count = length c.args.table.now in
    let bits = c.args.self.now.bits.now in
    let made = statement_of_node a (place_of_statement a c.args.s) in
    let tree = c.statement.ensures.tree ∙ ap made c.in-Seq.is in
    let names = subst (HasStatementNames c.args.self.now.nodes c.args.s) c.in-Seq.is c.statement.ensures.names in (
      omega arith,
      (
        omega (arith, c.requires.there),
        (
          λ s p l. c.requires.below s p (omega (arith, l)),
          (
            subst (λ (ps : List ℕ). EachRuns a count c.args.s bits ps) (sym c.as_slice-in-Seq.ensures)
                (parts_run a count c.args.s bits c.in-Seq.parts names (ap fits_statement (sym tree) ∙ c.requires.fit) (ap (Rattle.vs_design.specs.Within.statement_within count) (sym tree) ∙ c.requires.names) (subst (Covers bits) tree c.requires.covers)),
            (
              subst (λ (ps : List ℕ). (k : ℕ) → k < length ps → AreDefaults a defaults.complete defaults.others.now (slice_index ps k)) (sym c.as_slice-in-Seq.ensures)
                  (of_parts a defaults.complete defaults.others.now c.args.s c.in-Seq.parts (c.statement.ensures.is ∙ ap Some c.in-Seq.is) c.requires.defaults),
              c.requires.within,
            ),
          ),
        ),
      ),
    )

pub bodies::Runner::run-join-requires : goal.bodies::Runner::run-join-requires
bodies::Runner::run-join-requires t c =
    let a = c.args.self.now.shapes.now in
    let defaults = c.args.self.now.defaults.now in
    let count = length c.args.table.now in
    let bits = c.args.self.now.bits.now in
    let made = statement_of_node a (place_of_statement a c.args.s) in
    let tree = c.statement.ensures.tree ∙ ap made c.in-If.is in
    let is = c.statement.ensures.is ∙ ap Some c.in-If.is in
    let names = subst (HasStatementNames c.args.self.now.nodes c.args.s) c.in-If.is c.statement.ensures.names in
    let parts = subst (λ (x : Statement). FitStatement (made x)) c.in-If.is c.statement.ensures.parts in
    let within = subst (λ (x : Statement). WithinStatement count (made x)) c.in-If.is (c.statement.ensures.within count c.requires.names) in
    let yes = c.in-If.yes in
    let no = c.in-If.no in
    let facts = BranchFacts a count c.args.s bits in
    let has = HasDefaults a defaults.complete defaults.others.now in
    let items = c.in_ok-branches-in-If.branches.items in
    let from = c.in_ok-branches-in-If.ensures.from in (
      omega (arith, c.as_slice-in-If.ensures.len, c.in_ok-branches-in-If.branches.small),
      (
        omega (arith, c.requires.there),
        (
          λ s p l. c.requires.below s p (omega (arith, l)),
          (
            omega (arith, ap length c.as_slice-in-If.ensures.value, c.in_ok-branches-in-If.ensures.some),
            (
              All_same facts items c.as_slice-in-If.result.now (sym c.as_slice-in-If.ensures.value)
                  (all_facts (IsEither yes no) facts items (either_facts a count c.args.s bits yes no (tree_of a c.in-If.c) names.1 names.2 parts.1 parts.2 within.1 within.2 (subst (Covers bits) tree c.requires.covers)) from),
              (
                All_same has items c.as_slice-in-If.result.now (sym c.as_slice-in-If.ensures.value) (all_facts (IsEither yes no) has items (of_taken a defaults.complete defaults.others.now c.args.s c.in-If.c yes no is c.requires.defaults) from),
                c.requires.within,
              ),
            ),
          ),
        ),
      ),
    )

pub bodies::Runner::run-join-requires-in-Case : goal.bodies::Runner::run-join-requires-in-Case
bodies::Runner::run-join-requires-in-Case t c =
    let a = c.args.self.now.shapes.now in
    let defaults = c.args.self.now.defaults.now in
    let count = length c.args.table.now in
    let bits = c.args.self.now.bits.now in
    let made = statement_of_node a (place_of_statement a c.args.s) in
    let tree = c.statement.ensures.tree ∙ ap made c.in-Case.is in
    let is = c.statement.ensures.is ∙ ap Some c.in-Case.is in
    let names = subst (HasStatementNames c.args.self.now.nodes c.args.s) c.in-Case.is c.statement.ensures.names in
    let parts = subst (λ (x : Statement). FitStatement (made x)) c.in-Case.is c.statement.ensures.parts in
    let within = subst (λ (x : Statement). WithinStatement count (made x)) c.in-Case.is (c.statement.ensures.within count c.requires.names) in
    let arms = c.in-Case.arms in
    let other = c.in-Case.other in
    let next = c.default_of-default.result in
    let one = subst (λ (xs : List Arm). IsNext xs other next) c.as_slice-in-Case.ensures c.default_of-default.ensures.one in
    let facts = BranchFacts a count c.args.s bits in
    let has = HasDefaults a defaults.complete defaults.others.now in
    let items = c.in_ok-branches-in-Case.branches.items in
    let from = subst (λ (xs : List Arm). All (IsOneOf xs next) items) c.as_slice-in-Case-2.ensures c.in_ok-branches-in-Case.ensures.from in (
      omega (arith, c.as_slice-in-Case-3.ensures.len, c.in_ok-branches-in-Case.branches.small),
      (
        omega (arith, c.requires.there),
        (
          λ s p l. c.requires.below s p (omega (arith, l)),
          (
            omega (arith, ap length c.as_slice-in-Case-3.ensures.value, c.in_ok-branches-in-Case.ensures.some),
            (
              All_same facts items c.as_slice-in-Case-3.result.now (sym c.as_slice-in-Case-3.ensures.value)
                  (all_facts (IsOneOf arms next) facts items
                  (default_facts a count c.args.self.now.nodes c.args.s bits arms other next names.1 names.2 parts.1 within.1 (subst (Covers bits) tree c.requires.covers) one) from),
              (
                All_same has items c.as_slice-in-Case-3.result.now (sym c.as_slice-in-Case-3.ensures.value)
                    (all_facts (IsOneOf arms next) has items (next_branches a defaults.complete defaults.others.now c.args.s c.in-Case.kind c.in-Case.of arms other is c.requires.defaults next one) from),
                c.requires.within,
              ),
            ),
          ),
        ),
      ),
    )

pub bodies::Runner::run-returns-in_ok-branches-in-If : goal.bodies::Runner::run-returns-in_ok-branches-in-If
bodies::Runner::run-returns-in_ok-branches-in-If t c =
    let a = c.args.self.now.shapes.now in
    let complete = c.args.self.now.defaults.now.complete in
    let st = done complete a in
    let f = family_of c.args.table.now in
    let condition = tree_of a c.in-If.c in
    let tree = c.statement.ensures.done complete ∙ ap (λ (n : Statement). tree_with a st (place_of_statement a c.args.s) (node_done complete a n)) c.in-If.is in
    let truth : c.set_or-truth.result ≡ set_or (L.own_sets condition f) =
    c.set_or-truth.ensures ∙ ap set_or (c.as_slice.ensures.value ∙ c.in_ok-condition-in-If.ensures.value) ∙ ap₂ (λ w s. set_or (L.lifted condition w s f)) c.own_context.ensures.width c.own_context.ensures.signed
    in
    on_ok c.join.result c.join.ensures
    (λ e. e ∙ ap (λ bs. branch_sets (branches_of st bs) f) c.as_slice-in-If.ensures.value ∙ ap (λ ss. branch_sets ss f) (c.in_ok-branches-in-If.ensures.taken st)
    ∙ ap (λ x. branch_sets (taken_branches x (at_once (st c.in-If.yes)) (at_once (branch st c.in-If.no))) f) truth
    ∙ sym (if_branches (set_or (L.own_sets condition f)) (at_once (st c.in-If.yes)) (at_once (branch st c.in-If.no)) f)
    ∙ ap (λ x. lifted_body (at_once x) f) (sym tree))

pub bodies::Runner::run-returns-in_ok-branches-in-Case : goal.bodies::Runner::run-returns-in_ok-branches-in-Case
bodies::Runner::run-returns-in_ok-branches-in-Case t c =
    let a = c.args.self.now.shapes.now in
    let complete = c.args.self.now.defaults.now.complete in
    let st = done complete a in
    let f = family_of c.args.table.now in
    let kind = c.in-Case.kind in
    let of = c.in-Case.of in
    let arms = c.in-Case.arms in
    let other = c.in-Case.other in
    let next = c.default_of-default.result in
    let tree = c.statement.ensures.done complete ∙ ap (λ (n : Statement). tree_with a st (place_of_statement a c.args.s) (node_done complete a n)) c.in-Case.is in
    let next_is : next ≡ (if complete then other_of a kind of arms other else other) = c.default_of-default.ensures.is ∙ ap (λ (xs : List Arm). if complete then other_of a kind of xs other else other) c.as_slice-in-Case.ensures in
    on_ok c.join-in-Case.result c.join-in-Case.ensures
    (λ e. e ∙ ap (λ bs. branch_sets (branches_of st bs) f) c.as_slice-in-Case-3.ensures.value ∙ c.in_ok-branches-in-Case.ensures.taken st
    ∙ ap (λ (xs : List Arm). lifted_body (at_once (T.Case kind (tree_of a of) (arms_tree (tree_of a) st next xs))) f) c.as_slice-in-Case-2.ensures
    ∙ ap (λ o. lifted_body (at_once (T.Case kind (tree_of a of) (arms_tree (tree_of a) st o arms))) f) next_is
    ∙ ap (λ x. lifted_body (at_once x) f) (sym tree))
