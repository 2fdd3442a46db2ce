use Rattle.std.proofs.Common.{◌+◌, List, Option, ℕ, [], ◌∷◌, Some, length, map, drop, get_or, refl, sym, ap, ◌∙◌, subst, arith, if◌then◌else◌}
use Rattle.std.proofs.lemmas.List.{drop_all}
use Rattle.vs_design.specs.Elaborated.{is_formed_statement}
use Rattle.vs_design.specs.Fits.{fits_statement}
use Rattle.vs_design.specs.Footprints.{read_signals}
use Rattle.vs_design.specs.Selects.{arms_selector_signals, selector_signals}
use Rattle.vs_flat.specs.declared.statements.Arm.{Arm}
use Rattle.vs_flat.specs.declared.statements.Statement.{Statement}
use Rattle.vs_flat.specs.declared.statements.Statement.TheVariants as S
use Rattle.vs_flat.specs.DesignOf.{design_of}
use Rattle.vs_flat.specs.Trees.{branch, sequence}
use Rattle.vs_sets.specs.Nodes.{tree_of}
use Rattle.vs_sets.specs.StatementParts.{FitStatement, HasStatementNames, arms_of, place_of_statement, statement_of, statement_of_node}
use Rattle.vs_sets.proofs.CaseSteps.{get_is}
use Rattle.vs_full.proofs.Noting.{arms_of_noted, case_formed, default_fits, default_formed, full_is, if_formed, other_of_noted, other_of_taken, part_of_noted, parts_of_noted, ready_arms, ready_branch, ready_is, ready_parts, selector_if_full}
use Rattle.vs_full.proofs.Picking.{next_arm, next_statement, picked_as, picked_both, picked_done, picked_last, picked_more, picked_none, picked_start}
use Rattle.vs_full.proofs.cases.Cases.+picking.Goals as goal

-- ---- a branch

pub pick_branch-pick_in-requires : goal.pick_branch-pick_in-requires
pick_branch-pick_in-requires t c =
    let a = c.args.shapes.now in
    let r = ready_is a c.args.s c.in-Some.n c.args.part c.in-Some.is c.requires.ready in
    (omega (arith, r.earlier), (c.requires.sound, (c.requires.count, (omega (arith, r.earlier, c.requires.there), (r.fits, (r.formed, part_of_noted a c.args.self.now c.in-Some.n c.args.part c.in-Some.is c.requires.noted))))))

pub pick_branch-returns-in-Some : goal.pick_branch-returns-in-Some
pick_branch-returns-in-Some t c =
    let a = c.args.shapes.now in
    picked_as (design_of a) _ _ c.args.picked.now c.pick_in.new.picked (sym (ap (λ (o : Option ℕ). selector_signals (design_of a) (branch (statement_of a) o)) c.in-Some.is)) c.pick_in.ensures

pub pick_branch-returns-in-None : goal.pick_branch-returns-in-None
pick_branch-returns-in-None t c =
    let a = c.args.shapes.now in
    picked_as (design_of a) [] _ c.args.picked.now c.args.picked.now (sym (ap (λ (o : Option ℕ). selector_signals (design_of a) (branch (statement_of a) o)) c.in-None.is)) (picked_none (design_of a) c.args.picked.now)

-- ---- arms

pub pick_arms-loop-arm-init : goal.pick_arms-loop-arm-init
pick_arms-loop-arm-init t c =
    let a = c.args.shapes.now in
    picked_start (design_of a) (arms_selector_signals (design_of a) (arms_of a c.args.other c.args.arms.now)) c.args.picked.now

pub pick_arms-pick_in-requires : goal.pick_arms-pick_in-requires
pick_arms-pick_in-requires t c =
    let at = get_is c.args.arms.now c.loop-arm.arm-index c.arm-item.result c.loop-arm-test.true c.arm-item.is in
    let r = c.requires.ready c.loop-arm.arm-index c.arm-item.result at in
    (omega (arith, r.earlier), (c.requires.sound, (c.loop-arm.invariant.count ∙ c.requires.count, (omega (arith, r.earlier, c.requires.there), (r.fits, (r.formed, c.requires.noted c.loop-arm.arm-index c.arm-item.result at))))))

pub pick_arms-loop-arm-preserved : goal.pick_arms-loop-arm-preserved
pick_arms-loop-arm-preserved t c =
    let a = c.args.shapes.now in
    let d = design_of a in
    let k = c.loop-arm.arm-index in
    let arms = c.args.arms.now in
    let names = λ (xs : List Arm). arms_selector_signals d (arms_of a c.args.other xs) in
    picked_more d (selector_signals d (statement_of a c.arm-item.result.statement)) (names (drop (k + 1) arms)) (names (drop k arms)) (names arms) c.args.picked.now c.loop-arm.picked c.pick_in.new.picked
    (next_arm d (tree_of a) (statement_of a) c.args.other arms k c.arm-item.result c.loop-arm-test.true c.arm-item.is) c.pick_in.ensures c.loop-arm.invariant

pub pick_arms-pick_branch-requires : goal.pick_arms-pick_branch-requires
pick_arms-pick_branch-requires t c = (omega arith, (c.requires.sound, (c.loop-arm.invariant.count ∙ c.requires.count, (c.requires.there, (c.requires.other_ready, c.requires.other_noted)))))

pub pick_arms-returns : goal.pick_arms-returns
pick_arms-returns t c =
    let a = c.args.shapes.now in
    let d = design_of a in
    let arms = c.args.arms.now in
    let names = λ (xs : List Arm). arms_selector_signals d (arms_of a c.args.other xs) in
    picked_last d (selector_signals d (branch (statement_of a) c.args.other)) (names (drop c.loop-arm.arm-index arms)) (names arms) c.args.picked.now c.loop-arm.picked c.pick_branch.new.picked (ap names (drop_all c.loop-arm.arm-index arms c.loop-arm-test.false)) c.pick_branch.ensures
    c.loop-arm.invariant

-- ---- parts

pub pick_all-loop-part-init : goal.pick_all-loop-part-init
pick_all-loop-part-init t c =
    let a = c.args.shapes.now in
    picked_start (design_of a) (selector_signals (design_of a) (sequence (map (statement_of a) c.args.parts.now))) c.args.picked.now

pub pick_all-pick_in-requires : goal.pick_all-pick_in-requires
pick_all-pick_in-requires t c =
    let k = c.loop-part.part-index in
    let r = c.requires.ready k c.loop-part-test.true in
    (omega (arith, r.earlier), (c.requires.sound, (c.loop-part.invariant.count ∙ c.requires.count, (omega (arith, r.earlier, c.requires.there), (r.fits, (r.formed, c.requires.noted k c.loop-part-test.true))))))

pub pick_all-loop-part-preserved : goal.pick_all-loop-part-preserved
pick_all-loop-part-preserved t c =
    let a = c.args.shapes.now in
    let d = design_of a in
    let k = c.loop-part.part-index in
    let parts = c.args.parts.now in
    let names = λ (ns : List ℕ). selector_signals d (sequence (map (statement_of a) ns)) in
    picked_more d (selector_signals d (statement_of a (get_or parts k 0))) (names (drop (k + 1) parts)) (names (drop k parts)) (names parts) c.args.picked.now c.loop-part.picked c.pick_in.new.picked (next_statement d (statement_of a) parts k c.loop-part-test.true) c.pick_in.ensures
    c.loop-part.invariant

pub pick_all-returns : goal.pick_all-returns
pick_all-returns t c =
    let a = c.args.shapes.now in
    let d = design_of a in
    let parts = c.args.parts.now in
    let names = λ (ns : List ℕ). selector_signals d (sequence (map (statement_of a) ns)) in
    picked_done d (names (drop c.loop-part.part-index parts)) (names parts) c.args.picked.now c.loop-part.picked (ap names (drop_all c.loop-part.part-index parts c.loop-part-test.false)) c.loop-part.invariant

-- ---- a statement

pub pick_in-pick_in-requires : goal.pick_in-pick_in-requires
pick_in-pick_in-requires t c =
    let a = c.args.shapes.now in
    let made = statement_of_node a (place_of_statement a c.args.s) in
    let tree = c.statement_node.ensures.tree ∙ ap made c.in-If.is in
    let names = subst (HasStatementNames (length a.nodes) c.args.s) c.in-If.is c.statement_node.ensures.names in
    let parts = subst (λ (n : Statement). FitStatement (made n)) c.in-If.is c.statement_node.ensures.parts in
    let formed = if_formed (design_of a) (tree_of a c.in-If.c) (statement_of a c.in-If.yes) (branch (statement_of a) c.in-If.no) (ap (is_formed_statement (design_of a)) (sym tree) ∙ c.requires.formed) in (
      omega (arith, names.1),
      (c.requires.sound, (c.requires.count, (omega (arith, names.1, c.requires.there), (parts.1, (formed.0, other_of_taken a c.args.self.now c.args.s _ c.in-If.yes c.in-If.no c.statement_node.result.now c.statement_node.ensures.is c.in-If.is c.requires.noted))))),
    )

pub pick_in-pick_branch-requires : goal.pick_in-pick_branch-requires
pick_in-pick_branch-requires t c =
    let a = c.args.shapes.now in
    let made = statement_of_node a (place_of_statement a c.args.s) in
    let tree = c.statement_node.ensures.tree ∙ ap made c.in-If.is in
    let names = subst (HasStatementNames (length a.nodes) c.args.s) c.in-If.is c.statement_node.ensures.names in
    let parts = subst (λ (n : Statement). FitStatement (made n)) c.in-If.is c.statement_node.ensures.parts in
    let formed = if_formed (design_of a) (tree_of a c.in-If.c) (statement_of a c.in-If.yes) (branch (statement_of a) c.in-If.no) (ap (is_formed_statement (design_of a)) (sym tree) ∙ c.requires.formed) in (
      omega arith,
      (
        c.requires.sound,
        (
          c.pick_in.ensures.0 ∙ c.requires.count,
          (
            omega (arith, c.requires.there),
            (ready_branch a c.args.s c.in-If.no names.2 parts.2 formed.1, other_of_noted a c.args.self.now c.args.s c.in-If.no (S.If _ c.in-If.yes c.in-If.no) (c.in-If.yes ∷ []) refl (c.statement_node.ensures.is ∙ ap Some c.in-If.is) c.requires.noted),
          ),
        ),
      ),
    )

pub pick_in-pick_subject-requires : goal.pick_in-pick_subject-requires
pick_in-pick_subject-requires t c =
    let a = c.args.shapes.now in
    let made = statement_of_node a (place_of_statement a c.args.s) in
    let tree = c.statement_node.ensures.tree ∙ ap made c.in-Case.is in
    let names = subst (HasStatementNames (length a.nodes) c.args.s) c.in-Case.is c.statement_node.ensures.names in
    let formed = case_formed (design_of a) c.in-Case.kind (tree_of a c.in-Case.of) (arms_of a c.in-Case.other c.in-Case.arms) (ap (is_formed_statement (design_of a)) (sym tree) ∙ c.requires.formed) in
    record {
      sound = c.requires.sound;
      count = c.requires.count;
      there = names.0;
      formed = formed.0;
      selector = λ h. selector_if_full a c.args.self.now c.args.s _ c.in-Case.of c.in-Case.arms c.in-Case.other (c.statement_node.ensures.is ∙ ap Some c.in-Case.is) c.requires.noted h;
    }

pub pick_in-pick_arms-requires : goal.pick_in-pick_arms-requires
pick_in-pick_arms-requires t c =
    let a = c.args.shapes.now in
    let made = statement_of_node a (place_of_statement a c.args.s) in
    let tree = c.statement_node.ensures.tree ∙ ap made c.in-Case.is in
    let names = subst (HasStatementNames (length a.nodes) c.args.s) c.in-Case.is c.statement_node.ensures.names in
    let parts = subst (λ (n : Statement). FitStatement (made n)) c.in-Case.is c.statement_node.ensures.parts in
    let formed = case_formed (design_of a) c.in-Case.kind (tree_of a c.in-Case.of) (arms_of a c.in-Case.other c.in-Case.arms) (ap (is_formed_statement (design_of a)) (sym tree) ∙ c.requires.formed) in
    let at = c.statement_node.ensures.is ∙ ap Some c.in-Case.is in (
      omega arith,
      (
        c.requires.sound,
        (
          c.pick_subject.ensures.0 ∙ c.requires.count,
          (
            omega (arith, c.requires.there),
            (
              ready_arms a (length a.nodes) c.args.s c.in-Case.other c.in-Case.arms c.as_slice.result.now c.as_slice.ensures names.1 parts.1 formed.1,
              (
                ready_branch a c.args.s c.in-Case.other names.2 (default_fits a c.in-Case.other c.in-Case.arms parts.1) (default_formed a c.in-Case.other c.in-Case.arms formed.1),
                (
                  arms_of_noted a c.args.self.now c.args.s _ c.in-Case.of c.in-Case.arms c.as_slice.result.now c.in-Case.other c.as_slice.ensures at c.requires.noted,
                  other_of_noted a c.args.self.now c.args.s c.in-Case.other (S.Case _ c.in-Case.of c.in-Case.arms c.in-Case.other) (map (λ (x : Arm). x.statement) c.in-Case.arms) refl at c.requires.noted,
                ),
              ),
            ),
          ),
        ),
      ),
    )

pub pick_in-pick_all-requires : goal.pick_in-pick_all-requires
pick_in-pick_all-requires t c =
    let a = c.args.shapes.now in
    let made = statement_of_node a (place_of_statement a c.args.s) in
    let tree = c.statement_node.ensures.tree ∙ ap made c.in-Seq.is in
    let names = subst (HasStatementNames (length a.nodes) c.args.s) c.in-Seq.is c.statement_node.ensures.names in (
      omega arith,
      (
        c.requires.sound,
        (
          c.requires.count,
          (
            omega (arith, c.requires.there),
            (
              ready_parts a c.args.s c.in-Seq.parts c.as_slice-in-Seq.result.now c.as_slice-in-Seq.ensures names (ap fits_statement (sym tree) ∙ c.requires.fit) (ap (is_formed_statement (design_of a)) (sym tree) ∙ c.requires.formed),
              parts_of_noted a c.args.self.now c.args.s c.in-Seq.parts c.as_slice-in-Seq.result.now c.as_slice-in-Seq.ensures (c.statement_node.ensures.is ∙ ap Some c.in-Seq.is) c.requires.noted,
            ),
          ),
        ),
      ),
    )

pub pick_in-returns-in-Empty : goal.pick_in-returns-in-Empty
pick_in-returns-in-Empty t c =
    let a = c.args.shapes.now in
    let tree = c.statement_node.ensures.tree ∙ ap (statement_of_node a (place_of_statement a c.args.s)) c.in-Empty.is in
    picked_as (design_of a) [] _ c.args.picked.now c.args.picked.now (sym (ap (selector_signals (design_of a)) tree)) (picked_none (design_of a) c.args.picked.now)

pub pick_in-returns-in-Assign : goal.pick_in-returns-in-Assign
pick_in-returns-in-Assign t c =
    let a = c.args.shapes.now in
    let tree = c.statement_node.ensures.tree ∙ ap (statement_of_node a (place_of_statement a c.args.s)) c.in-Assign.is in
    picked_as (design_of a) [] _ c.args.picked.now c.args.picked.now (sym (ap (selector_signals (design_of a)) tree)) (picked_none (design_of a) c.args.picked.now)

pub pick_in-returns-in-If : goal.pick_in-returns-in-If
pick_in-returns-in-If t c =
    let a = c.args.shapes.now in
    let d = design_of a in
    let tree = c.statement_node.ensures.tree ∙ ap (statement_of_node a (place_of_statement a c.args.s)) c.in-If.is in
    let taken = selector_signals d (statement_of a c.in-If.yes) in
    let untaken = selector_signals d (branch (statement_of a) c.in-If.no) in
    picked_as d _ _ c.args.picked.now c.pick_branch.new.picked (sym (ap (selector_signals d) tree)) (picked_both d taken untaken c.args.picked.now c.pick_in.new.picked c.pick_branch.new.picked c.pick_in.ensures c.pick_branch.ensures)

pub pick_in-returns-in-Case : goal.pick_in-returns-in-Case
pick_in-returns-in-Case t c =
    let a = c.args.shapes.now in
    let d = design_of a in
    let tree = c.statement_node.ensures.tree ∙ ap (statement_of_node a (place_of_statement a c.args.s)) c.in-Case.is in
    let of = tree_of a c.in-Case.of in
    let arms = arms_of a c.in-Case.other c.in-Case.arms in
    let full = full_is a c.args.self.now c.args.s _ c.in-Case.of c.in-Case.arms c.in-Case.other (c.statement_node.ensures.is ∙ ap Some c.in-Case.is) c.requires.noted in
    let subject = picked_as d _ _ c.args.picked.now c.pick_subject.new.picked (ap (λ f. if f then read_signals of else []) full) c.pick_subject.ensures in
    let rest = picked_as d _ (arms_selector_signals d arms) c.pick_subject.new.picked c.pick_arms.new.picked (ap (λ (xs : List Arm). arms_selector_signals d (arms_of a c.in-Case.other xs)) c.as_slice.ensures) c.pick_arms.ensures in
    picked_as d _ _ c.args.picked.now c.pick_arms.new.picked (sym (ap (selector_signals d) tree)) (picked_both d _ (arms_selector_signals d arms) c.args.picked.now c.pick_subject.new.picked c.pick_arms.new.picked subject rest)

pub pick_in-returns-in-Seq : goal.pick_in-returns-in-Seq
pick_in-returns-in-Seq t c =
    let a = c.args.shapes.now in
    let d = design_of a in
    let tree = c.statement_node.ensures.tree ∙ ap (statement_of_node a (place_of_statement a c.args.s)) c.in-Seq.is in
    picked_as d _ _ c.args.picked.now c.pick_all.new.picked (ap (λ (ns : List ℕ). selector_signals d (sequence (map (statement_of a) ns))) c.as_slice-in-Seq.ensures ∙ sym (ap (selector_signals d) tree)) c.pick_all.ensures
