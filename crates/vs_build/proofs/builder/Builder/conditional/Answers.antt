use Rattle.std.proofs.Common.{rules, arith, ◌≡◌, vec_len, List, ℕ, ◌-◌, ◌+◌, ◌∷◌, [], slice_get, take, ap, ◌∙◌, refl}
use Rattle.std.specs.Prelude.{option_to_list}
use Rattle.vs_flat.specs.declared.statements.Statement.TheVariants as S
use Rattle.vs_build.proofs.BodySteps.{body_covers, body_kept}
use Rattle.vs_build.proofs.BodyKinds.{condition_there, branches_are, conditional_step, conditional_adds}
use Rattle.vs_build.proofs.Begun.{stays_open}
use Rattle.vs_build.proofs.builder.Builder.conditional.Goals as goal

pub add_body-requires-clause-covered : goal.add_body-requires-clause-covered
add_body-requires-clause-covered c = body_covers c.self.inside.flat c.self.inside.roots.items c.self.inside.bodies.items (take (c.len-expressions.result - 1) c.self.inside.roots.items) (c.index-c.result.now ∷ []) (take (c.len.result - c.args.branches) c.self.inside.bodies.items) (c.index-yes.result.now ∷ option_to_list c.entry-no.result) (S.If c.index-c.result.now c.index-yes.result.now c.entry-no.result) c.args.at (conditional_step c.self.inside.flat c.self.inside.roots.items c.self.inside.bodies.items c.args.self.now c.args.branches (c.len-expressions.result - 1) (c.len.result - c.args.branches) c.index-c.result.now c.index-yes.result.now c.entry-no.result c.args.at c.self.invariant.0 c.self.view_is c.requires.ends (branches_are c.self.inside.flat c.self.inside.roots.items c.self.inside.bodies.items c.args.self.now c.args.branches c.len.result c.len-expressions.result c.index-c.result.now c.index-yes.result.now c.entry-no.result c.self.view_is c.requires.some c.requires.most c.requires.ends (search rules) c.index-yes.ensures (c.entry-no.ensures ∙ ap (λ (xs : List ℕ). slice_get xs (c.len.result - c.args.branches + 1)) c.deref.ensures.value) (search rules) c.index-c.ensures))

pub invariant_of-self : goal.invariant_of-self
invariant_of-self c = (body_kept c.add_body.result c.self.inside.flat c.add_body.new.flat c.self.inside.roots.items c.add_body.new.roots.items (take (c.len-expressions.result - 1) c.self.inside.roots.items) (c.index-c.result.now ∷ []) c.self.inside.bodies.items c.add_body.new.bodies.items (take (c.len.result - c.args.branches) c.self.inside.bodies.items) (c.index-yes.result.now ∷ option_to_list c.entry-no.result) (S.If c.index-c.result.now c.index-yes.result.now c.entry-no.result) c.args.at (conditional_step c.self.inside.flat c.self.inside.roots.items c.self.inside.bodies.items c.args.self.now c.args.branches (c.len-expressions.result - 1) (c.len.result - c.args.branches) c.index-c.result.now c.index-yes.result.now c.entry-no.result c.args.at c.self.invariant.0 c.self.view_is c.requires.ends (branches_are c.self.inside.flat c.self.inside.roots.items c.self.inside.bodies.items c.args.self.now c.args.branches c.len.result c.len-expressions.result c.index-c.result.now c.index-yes.result.now c.entry-no.result c.self.view_is c.requires.some c.requires.most c.requires.ends (search rules) c.index-yes.ensures (c.entry-no.ensures ∙ ap (λ (xs : List ℕ). slice_get xs (c.len.result - c.args.branches + 1)) c.deref.ensures.value) (search rules) c.index-c.ensures)) (record { flat = c.add_body.ensures.flat; roots = c.add_body.ensures.roots; parts = c.add_body.ensures.bodies; room = c.add_body.ensures.room; same_flat = c.add_body.ensures.same_flat; same_roots = c.add_body.ensures.same_roots; same_parts = c.add_body.ensures.same_bodies }), c.self.invariant.1 ∙ stays_open c.add_body.result c.self.inside.flat c.add_body.new.flat _ c.add_body.ensures.flat c.add_body.ensures.same_flat refl)

pub returns : goal.returns
returns c s t taken other m h k = conditional_adds c.add_body.result c.self.inside.flat c.add_body.new.flat c.self.inside.roots.items c.add_body.new.roots.items c.self.inside.bodies.items c.add_body.new.bodies.items c.args.self.now c.args.branches (c.len-expressions.result - 1) (c.len.result - c.args.branches) c.index-c.result.now c.index-yes.result.now c.entry-no.result c.args.at s t taken other m (conditional_step c.self.inside.flat c.self.inside.roots.items c.self.inside.bodies.items c.args.self.now c.args.branches (c.len-expressions.result - 1) (c.len.result - c.args.branches) c.index-c.result.now c.index-yes.result.now c.entry-no.result c.args.at c.self.invariant.0 c.self.view_is c.requires.ends (branches_are c.self.inside.flat c.self.inside.roots.items c.self.inside.bodies.items c.args.self.now c.args.branches c.len.result c.len-expressions.result c.index-c.result.now c.index-yes.result.now c.entry-no.result c.self.view_is c.requires.some c.requires.most c.requires.ends (search rules) c.index-yes.ensures (c.entry-no.ensures ∙ ap (λ (xs : List ℕ). slice_get xs (c.len.result - c.args.branches + 1)) c.deref.ensures.value) (search rules) c.index-c.ensures)) (record { flat = c.add_body.ensures.flat; roots = c.add_body.ensures.roots; parts = c.add_body.ensures.bodies; room = c.add_body.ensures.room; same_flat = c.add_body.ensures.same_flat; same_roots = c.add_body.ensures.same_roots; same_parts = c.add_body.ensures.same_bodies }) c.self.view_is (branches_are c.self.inside.flat c.self.inside.roots.items c.self.inside.bodies.items c.args.self.now c.args.branches c.len.result c.len-expressions.result c.index-c.result.now c.index-yes.result.now c.entry-no.result c.self.view_is c.requires.some c.requires.most c.requires.ends (search rules) c.index-yes.ensures (c.entry-no.ensures ∙ ap (λ (xs : List ℕ). slice_get xs (c.len.result - c.args.branches + 1)) c.deref.ensures.value) (search rules) c.index-c.ensures) h k

pub overflow_sub-expressions : goal.overflow_sub-expressions
overflow_sub-expressions c =
    let n : c.len-expressions.result ≡ vec_len c.self.inside.roots = search rules in
    omega (arith, n, condition_there c.self.inside.flat c.self.inside.roots.items c.self.inside.bodies.items c.args.self.now c.args.branches c.self.view_is c.requires.ends)

pub index-c-requires : goal.index-c-requires
index-c-requires c =
    let n : c.len-expressions.result ≡ vec_len c.self.inside.roots = search rules in
    omega (arith, n, condition_there c.self.inside.flat c.self.inside.roots.items c.self.inside.bodies.items c.args.self.now c.args.branches c.self.view_is c.requires.ends)
