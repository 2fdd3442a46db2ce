use Rattle.std.proofs.Common.{rules, ◌-◌, ◌∷◌, [], take, length, refl, ◌∙◌}
use Rattle.vs_flat.specs.declared.expressions.Node.TheVariants as N
use Rattle.vs_flat.specs.Trees.{signal_at}
use Rattle.vs_build.specs.Drafts.{home}
use Rattle.vs_build.specs.Growth.{draft}
use Rattle.vs_build.proofs.Steps.{step_kept}
use Rattle.vs_build.proofs.NodeKinds.{word_part_found, word_part_adds, words_of_part, with_enough, last_added, memory_is}
use Rattle.vs_build.proofs.Begun.{stays_open}
use Rattle.vs_build.proofs.builder.Builder.word_part.Goals as goal

pub add_over-requires-clause-covered : goal.add_over-requires-clause-covered
add_over-requires-clause-covered c = (word_part_found c.self.inside.flat c.self.inside.roots.items c.self.inside.bodies.items c.args.self.now c.args.signal c.args.range c.args.up c.args.width c.len-n.result c.index-address.result.now c.index-base.result.now c.args.at c.self.invariant.0 c.self.view_is c.requires.there c.requires.formed c.requires.ends (search rules) c.index-address.ensures c.index-base.ensures).covers

pub add_over-requires-clause-enough : goal.add_over-requires-clause-enough
add_over-requires-clause-enough c = with_enough 2 c.self.inside.flat c.self.inside.roots.items c.self.inside.bodies.items c.args.self.now c.self.view_is c.requires.ends

pub invariant_of-self : goal.invariant_of-self
invariant_of-self c = (step_kept c.add_over.result c.self.inside.flat c.add_over.new.flat c.self.inside.roots.items c.add_over.new.roots.items c.self.inside.bodies.items (take (length c.self.inside.roots.items - 2) c.self.inside.roots.items) (c.index-address.result.now ∷ c.index-base.result.now ∷ []) (N.WordPart c.args.signal c.index-address.result.now c.args.range c.index-base.result.now c.args.up c.args.width) c.args.at (word_part_found c.self.inside.flat c.self.inside.roots.items c.self.inside.bodies.items c.args.self.now c.args.signal c.args.range c.args.up c.args.width c.len-n.result c.index-address.result.now c.index-base.result.now c.args.at c.self.invariant.0 c.self.view_is c.requires.there c.requires.formed c.requires.ends (search rules) c.index-address.ensures c.index-base.ensures) (record { flat = c.add_over.ensures.flat; roots = c.add_over.ensures.roots; room = c.add_over.ensures.room; same_flat = c.add_over.ensures.same_flat; same_roots = c.add_over.ensures.same_roots }), c.self.invariant.1 ∙ stays_open c.add_over.result c.self.inside.flat c.add_over.new.flat _ c.add_over.ensures.flat c.add_over.ensures.same_flat refl)

pub returns : goal.returns
returns c s r t u m n h k = word_part_adds c.add_over.result c.self.inside.flat c.add_over.new.flat c.self.inside.roots.items c.add_over.new.roots.items (take (length c.self.inside.roots.items - 2) c.self.inside.roots.items) c.self.inside.bodies.items c.args.signal c.args.range c.args.up c.args.width c.index-address.result.now c.index-base.result.now c.args.at (signal_at (home (draft c.args.self.now)).signals c.args.signal) s r t u m n (memory_is c.self.inside.flat c.self.inside.roots.items c.self.inside.bodies.items c.args.self.now c.args.signal c.self.invariant.0 c.self.view_is c.requires.there (words_of_part (home (draft c.args.self.now)) (signal_at (home (draft c.args.self.now)).signals c.args.signal) (record { range = c.args.range; up = c.args.up; width = c.args.width }) c.requires.formed)).same (word_part_found c.self.inside.flat c.self.inside.roots.items c.self.inside.bodies.items c.args.self.now c.args.signal c.args.range c.args.up c.args.width c.len-n.result c.index-address.result.now c.index-base.result.now c.args.at c.self.invariant.0 c.self.view_is c.requires.there c.requires.formed c.requires.ends (search rules) c.index-address.ensures c.index-base.ensures) (record { flat = c.add_over.ensures.flat; roots = c.add_over.ensures.roots; room = c.add_over.ensures.room; same_flat = c.add_over.ensures.same_flat; same_roots = c.add_over.ensures.same_roots }) h (last_added c.self.inside.flat c.self.inside.roots.items c.self.inside.bodies.items c.args.self.now r u n c.self.view_is k)
