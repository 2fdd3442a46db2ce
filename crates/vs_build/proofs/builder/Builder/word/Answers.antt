use Rattle.std.proofs.Common.{rules, ◌-◌, ◌∷◌, [], take, length, refl, ◌∙◌}
use Rattle.vs_flat.specs.declared.expressions.Node.TheVariants as N
use Rattle.vs_flat.specs.Trees.{signal_at}
use Rattle.vs_build.specs.Drafts.{home}
use Rattle.vs_build.specs.Growth.{draft}
use Rattle.vs_build.proofs.Steps.{step_kept}
use Rattle.vs_build.proofs.NodeKinds.{word_found, word_adds, with_enough, last_added, memory_is}
use Rattle.vs_build.proofs.Begun.{stays_open}
use Rattle.vs_build.proofs.builder.Builder.word.Goals as goal

pub add_over-requires-clause-covered : goal.add_over-requires-clause-covered
add_over-requires-clause-covered c = (word_found c.self.inside.flat c.self.inside.roots.items c.self.inside.bodies.items c.args.self.now c.args.signal c.len-n.result c.index-index.result.now c.args.at c.self.invariant.0 c.self.view_is c.requires.there c.requires.memory c.requires.ends (search rules) c.index-index.ensures).covers

pub add_over-requires-clause-enough : goal.add_over-requires-clause-enough
add_over-requires-clause-enough c = with_enough 1 c.self.inside.flat c.self.inside.roots.items c.self.inside.bodies.items c.args.self.now c.self.view_is c.requires.ends

pub invariant_of-self : goal.invariant_of-self
invariant_of-self c = (step_kept c.add_over.result c.self.inside.flat c.add_over.new.flat c.self.inside.roots.items c.add_over.new.roots.items c.self.inside.bodies.items (take (length c.self.inside.roots.items - 1) c.self.inside.roots.items) (c.index-index.result.now ∷ []) (N.Word c.args.signal c.index-index.result.now) c.args.at (word_found c.self.inside.flat c.self.inside.roots.items c.self.inside.bodies.items c.args.self.now c.args.signal c.len-n.result c.index-index.result.now c.args.at c.self.invariant.0 c.self.view_is c.requires.there c.requires.memory c.requires.ends (search rules) c.index-index.ensures) (record { flat = c.add_over.ensures.flat; roots = c.add_over.ensures.roots; room = c.add_over.ensures.room; same_flat = c.add_over.ensures.same_flat; same_roots = c.add_over.ensures.same_roots }), c.self.invariant.1 ∙ stays_open c.add_over.result c.self.inside.flat c.add_over.new.flat _ c.add_over.ensures.flat c.add_over.ensures.same_flat refl)

pub returns : goal.returns
returns c s t m h = word_adds c.add_over.result c.self.inside.flat c.add_over.new.flat c.self.inside.roots.items c.add_over.new.roots.items (take (length c.self.inside.roots.items - 1) c.self.inside.roots.items) c.self.inside.bodies.items c.args.signal c.index-index.result.now c.args.at (signal_at (home (draft c.args.self.now)).signals c.args.signal) s t m (memory_is c.self.inside.flat c.self.inside.roots.items c.self.inside.bodies.items c.args.self.now c.args.signal c.self.invariant.0 c.self.view_is c.requires.there c.requires.memory).same (word_found c.self.inside.flat c.self.inside.roots.items c.self.inside.bodies.items c.args.self.now c.args.signal c.len-n.result c.index-index.result.now c.args.at c.self.invariant.0 c.self.view_is c.requires.there c.requires.memory c.requires.ends (search rules) c.index-index.ensures) (record { flat = c.add_over.ensures.flat; roots = c.add_over.ensures.roots; room = c.add_over.ensures.room; same_flat = c.add_over.ensures.same_flat; same_roots = c.add_over.ensures.same_roots }) (last_added c.self.inside.flat c.self.inside.roots.items c.self.inside.bodies.items c.args.self.now s t m c.self.view_is h)
