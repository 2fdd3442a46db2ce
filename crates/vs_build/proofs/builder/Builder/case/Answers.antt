use Rattle.std.proofs.Common.{rules, List, ℕ, ◌≡◌, ◌<◌, ◌-◌, ◌+◌, ◌∷◌, slice_get, take, drop, length, refl, ap, sym, ◌∙◌, arith}
use Rattle.std.proofs.lemmas.List.{length-drop, length-map}
use Rattle.vs_ast.specs.declared.statements.CaseArm.{CaseArm}
use Rattle.vs_flat.specs.declared.statements.Statement.TheVariants as S
use Rattle.vs_build.specs.Cut.{label_counts, cut}
use Rattle.vs_build.proofs.BodySteps.{body_covers, body_kept}
use Rattle.vs_build.proofs.BodyKinds.{slice_from, case_fits, arms_are, case_step, case_adds}
use Rattle.vs_build.proofs.Begun.{stays_open}
use Rattle.vs_build.proofs.builder.Builder.case.Goals as goal

counted : (arms : List CaseArm) → length (label_counts arms) ≡ length arms
counted arms = length-map arms (λ (a : CaseArm). length a.labels.items)

pub cut-requires-clause-labels : goal.cut-requires-clause-labels
cut-requires-clause-labels c = ap (λ (xs : List ℕ). length xs) (slice_from c.self.inside.roots.items c.deref.result.now (c.args.first + 1) (search rules)) ∙ length-drop (c.args.first + 1) c.self.inside.roots.items ∙ omega (arith, (case_fits c.self.inside.flat c.self.inside.roots.items c.self.inside.bodies.items c.args.self.now c.args.first c.args.others (label_counts c.args.arms.now) c.self.view_is c.requires.ends).subject)

pub cut-requires-clause-statements : goal.cut-requires-clause-statements
cut-requires-clause-statements c = omega (arith, ap (λ (xs : List ℕ). length xs) (slice_from c.self.inside.bodies.items c.deref-2.result.now (c.len.result - c.args.others - length c.args.arms.now) (search rules)), length-drop (c.len.result - c.args.others - length c.args.arms.now) c.self.inside.bodies.items, (case_fits c.self.inside.flat c.self.inside.roots.items c.self.inside.bodies.items c.args.self.now c.args.first c.args.others (label_counts c.args.arms.now) c.self.view_is c.requires.ends).enough, counted c.args.arms.now, (let n : c.len.result ≡ length c.self.inside.bodies.items = search rules in n))

pub index-of-requires : goal.index-of-requires
index-of-requires c = let within : c.args.first < length c.self.inside.roots.items = omega (arith, (case_fits c.self.inside.flat c.self.inside.roots.items c.self.inside.bodies.items c.args.self.now c.args.first c.args.others (label_counts c.args.arms.now) c.self.view_is c.requires.ends).subject) in search rules

pub add_body-requires-clause-covered : goal.add_body-requires-clause-covered
add_body-requires-clause-covered c = body_covers c.self.inside.flat c.self.inside.roots.items c.self.inside.bodies.items (take c.args.first c.self.inside.roots.items) (c.index-of.result.now ∷ drop (c.args.first + 1) c.self.inside.roots.items) (take (c.len.result - c.args.others - length c.args.arms.now) c.self.inside.bodies.items) (drop (c.len.result - c.args.others - length c.args.arms.now) c.self.inside.bodies.items) (S.Case c.args.kind c.index-of.result.now c.of.result c.entry-other.result) c.args.at (case_step c.self.inside.flat c.self.inside.roots.items c.self.inside.bodies.items c.args.self.now c.args.first (c.len.result - c.args.others - length c.args.arms.now) c.index-of.result.now c.args.others (label_counts c.args.arms.now) c.of.result c.entry-other.result c.args.kind c.args.at c.self.invariant.0 c.self.view_is c.requires.ends (arms_are c.self.inside.flat c.self.inside.roots.items c.self.inside.bodies.items c.args.first c.args.others c.len.result (length c.args.arms.now) (c.len.result - c.args.others - length c.args.arms.now) c.index-of.result.now (label_counts c.args.arms.now) c.of.result c.entry-other.result c.requires.most (case_fits c.self.inside.flat c.self.inside.roots.items c.self.inside.bodies.items c.args.self.now c.args.first c.args.others (label_counts c.args.arms.now) c.self.view_is c.requires.ends) (search rules) (sym (counted c.args.arms.now)) refl c.index-of.ensures (c.of.ensures ∙ c.in_ok-made.ensures ∙ ap (λ (xs : List ℕ). cut (label_counts c.args.arms.now) xs (take (length c.deref-2.result.now - (c.len.result - c.args.others - length c.args.arms.now)) (drop (c.len.result - c.args.others - length c.args.arms.now) c.deref-2.result.now))) (slice_from c.self.inside.roots.items c.deref.result.now (c.args.first + 1) (search rules)) ∙ ap (cut (label_counts c.args.arms.now) (drop (c.args.first + 1) c.self.inside.roots.items)) (slice_from c.self.inside.bodies.items c.deref-2.result.now (c.len.result - c.args.others - length c.args.arms.now) (search rules))) (c.entry-other.ensures ∙ ap (λ (xs : List ℕ). slice_get xs ((c.len.result - c.args.others - length c.args.arms.now) + length c.args.arms.now)) c.deref-3.ensures.value)))

pub invariant_of-self : goal.invariant_of-self
invariant_of-self c = (body_kept c.add_body.result c.self.inside.flat c.add_body.new.flat c.self.inside.roots.items c.add_body.new.roots.items (take c.args.first c.self.inside.roots.items) (c.index-of.result.now ∷ drop (c.args.first + 1) c.self.inside.roots.items) c.self.inside.bodies.items c.add_body.new.bodies.items (take (c.len.result - c.args.others - length c.args.arms.now) c.self.inside.bodies.items) (drop (c.len.result - c.args.others - length c.args.arms.now) c.self.inside.bodies.items) (S.Case c.args.kind c.index-of.result.now c.of.result c.entry-other.result) c.args.at (case_step c.self.inside.flat c.self.inside.roots.items c.self.inside.bodies.items c.args.self.now c.args.first (c.len.result - c.args.others - length c.args.arms.now) c.index-of.result.now c.args.others (label_counts c.args.arms.now) c.of.result c.entry-other.result c.args.kind c.args.at c.self.invariant.0 c.self.view_is c.requires.ends (arms_are c.self.inside.flat c.self.inside.roots.items c.self.inside.bodies.items c.args.first c.args.others c.len.result (length c.args.arms.now) (c.len.result - c.args.others - length c.args.arms.now) c.index-of.result.now (label_counts c.args.arms.now) c.of.result c.entry-other.result c.requires.most (case_fits c.self.inside.flat c.self.inside.roots.items c.self.inside.bodies.items c.args.self.now c.args.first c.args.others (label_counts c.args.arms.now) c.self.view_is c.requires.ends) (search rules) (sym (counted c.args.arms.now)) refl c.index-of.ensures (c.of.ensures ∙ c.in_ok-made.ensures ∙ ap (λ (xs : List ℕ). cut (label_counts c.args.arms.now) xs (take (length c.deref-2.result.now - (c.len.result - c.args.others - length c.args.arms.now)) (drop (c.len.result - c.args.others - length c.args.arms.now) c.deref-2.result.now))) (slice_from c.self.inside.roots.items c.deref.result.now (c.args.first + 1) (search rules)) ∙ ap (cut (label_counts c.args.arms.now) (drop (c.args.first + 1) c.self.inside.roots.items)) (slice_from c.self.inside.bodies.items c.deref-2.result.now (c.len.result - c.args.others - length c.args.arms.now) (search rules))) (c.entry-other.ensures ∙ ap (λ (xs : List ℕ). slice_get xs ((c.len.result - c.args.others - length c.args.arms.now) + length c.args.arms.now)) c.deref-3.ensures.value))) (record { flat = c.add_body.ensures.flat; roots = c.add_body.ensures.roots; parts = c.add_body.ensures.bodies; room = c.add_body.ensures.room; same_flat = c.add_body.ensures.same_flat; same_roots = c.add_body.ensures.same_roots; same_parts = c.add_body.ensures.same_bodies }), c.self.invariant.1 ∙ stays_open c.add_body.result c.self.inside.flat c.add_body.new.flat _ c.add_body.ensures.flat c.add_body.ensures.same_flat refl)

pub returns : goal.returns
returns c s t made other m h k q = case_adds c.add_body.result c.self.inside.flat c.add_body.new.flat c.self.inside.roots.items c.add_body.new.roots.items c.self.inside.bodies.items c.add_body.new.bodies.items c.args.self.now c.args.first (c.len.result - c.args.others - length c.args.arms.now) c.index-of.result.now c.args.others (label_counts c.args.arms.now) c.of.result c.entry-other.result c.args.kind c.args.at s t made other m (case_step c.self.inside.flat c.self.inside.roots.items c.self.inside.bodies.items c.args.self.now c.args.first (c.len.result - c.args.others - length c.args.arms.now) c.index-of.result.now c.args.others (label_counts c.args.arms.now) c.of.result c.entry-other.result c.args.kind c.args.at c.self.invariant.0 c.self.view_is c.requires.ends (arms_are c.self.inside.flat c.self.inside.roots.items c.self.inside.bodies.items c.args.first c.args.others c.len.result (length c.args.arms.now) (c.len.result - c.args.others - length c.args.arms.now) c.index-of.result.now (label_counts c.args.arms.now) c.of.result c.entry-other.result c.requires.most (case_fits c.self.inside.flat c.self.inside.roots.items c.self.inside.bodies.items c.args.self.now c.args.first c.args.others (label_counts c.args.arms.now) c.self.view_is c.requires.ends) (search rules) (sym (counted c.args.arms.now)) refl c.index-of.ensures (c.of.ensures ∙ c.in_ok-made.ensures ∙ ap (λ (xs : List ℕ). cut (label_counts c.args.arms.now) xs (take (length c.deref-2.result.now - (c.len.result - c.args.others - length c.args.arms.now)) (drop (c.len.result - c.args.others - length c.args.arms.now) c.deref-2.result.now))) (slice_from c.self.inside.roots.items c.deref.result.now (c.args.first + 1) (search rules)) ∙ ap (cut (label_counts c.args.arms.now) (drop (c.args.first + 1) c.self.inside.roots.items)) (slice_from c.self.inside.bodies.items c.deref-2.result.now (c.len.result - c.args.others - length c.args.arms.now) (search rules))) (c.entry-other.ensures ∙ ap (λ (xs : List ℕ). slice_get xs ((c.len.result - c.args.others - length c.args.arms.now) + length c.args.arms.now)) c.deref-3.ensures.value))) (record { flat = c.add_body.ensures.flat; roots = c.add_body.ensures.roots; parts = c.add_body.ensures.bodies; room = c.add_body.ensures.room; same_flat = c.add_body.ensures.same_flat; same_roots = c.add_body.ensures.same_roots; same_parts = c.add_body.ensures.same_bodies }) c.self.view_is (arms_are c.self.inside.flat c.self.inside.roots.items c.self.inside.bodies.items c.args.first c.args.others c.len.result (length c.args.arms.now) (c.len.result - c.args.others - length c.args.arms.now) c.index-of.result.now (label_counts c.args.arms.now) c.of.result c.entry-other.result c.requires.most (case_fits c.self.inside.flat c.self.inside.roots.items c.self.inside.bodies.items c.args.self.now c.args.first c.args.others (label_counts c.args.arms.now) c.self.view_is c.requires.ends) (search rules) (sym (counted c.args.arms.now)) refl c.index-of.ensures (c.of.ensures ∙ c.in_ok-made.ensures ∙ ap (λ (xs : List ℕ). cut (label_counts c.args.arms.now) xs (take (length c.deref-2.result.now - (c.len.result - c.args.others - length c.args.arms.now)) (drop (c.len.result - c.args.others - length c.args.arms.now) c.deref-2.result.now))) (slice_from c.self.inside.roots.items c.deref.result.now (c.args.first + 1) (search rules)) ∙ ap (cut (label_counts c.args.arms.now) (drop (c.args.first + 1) c.self.inside.roots.items)) (slice_from c.self.inside.bodies.items c.deref-2.result.now (c.len.result - c.args.others - length c.args.arms.now) (search rules))) (c.entry-other.ensures ∙ ap (λ (xs : List ℕ). slice_get xs ((c.len.result - c.args.others - length c.args.arms.now) + length c.args.arms.now)) c.deref-3.ensures.value)) h k q
