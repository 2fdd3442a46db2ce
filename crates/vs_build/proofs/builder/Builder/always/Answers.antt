use Rattle.std.proofs.Common.{rules, List, ◌-◌, take, length, map, ap, ◌∙◌, sym}
use Rattle.vs_design.specs.Designs.{Always}
use Rattle.vs_flat.specs.declared.processes.Event.{Event}
use Rattle.vs_flat.specs.Named.{all_below}
use Rattle.vs_flat.specs.Trees.{signal_at}
use Rattle.vs_flat.specs.DesignOf.{event_of}
use Rattle.vs_build.specs.Drafts.{and_process}
use Rattle.vs_build.specs.Growth.{draft}
use Rattle.vs_build.proofs.BodyKinds.{block_is, block_kept, block_draft}
use Rattle.std.specs.Prelude.{is_some}
use Rattle.vs_flat.specs.Arena.{Arena}
use Rattle.vs_build.specs.Growth.{open_function}
use Rattle.vs_build.proofs.builder.Builder.always.Goals as goal

pub add_process-requires-clause-names : goal.add_process-requires-clause-names
add_process-requires-clause-names c = (block_is c.self.inside.flat c.self.inside.roots.items c.self.inside.bodies.items c.args.self.now c.args.star c.of.result c.len-n.result c.index-statement.result.now c.self.invariant.0 c.self.view_is c.requires.ends (ap (λ (es : List Event). all_below (length (draft c.args.self.now).design.signals) (map (λ (e : Event). e.signal) es)) c.of.ensures ∙ c.requires.there) (search rules) c.index-statement.ensures).covers c.args.at

pub invariant_of-self-2 : goal.invariant_of-self-2
invariant_of-self-2 c = (block_kept c.self.inside.flat c.add_process.new.self c.self.inside.roots.items c.self.inside.bodies.items c.truncate.new.self.items (take (c.len-n.result - 1) c.self.inside.bodies.items) c.args.star c.of.result c.index-statement.result.now c.args.at (block_is c.self.inside.flat c.self.inside.roots.items c.self.inside.bodies.items c.args.self.now c.args.star c.of.result c.len-n.result c.index-statement.result.now c.self.invariant.0 c.self.view_is c.requires.ends (ap (λ (es : List Event). all_below (length (draft c.args.self.now).design.signals) (map (λ (e : Event). e.signal) es)) c.of.ensures ∙ c.requires.there) (search rules) c.index-statement.ensures) c.in_ok-add_process.ensures.ok c.truncate.ensures.items, c.self.invariant.1 ∙ ap (λ (a : Arena). is_some (open_function a)) (sym c.in_ok-add_process.ensures.ok))

pub returns : goal.returns
returns c s t m h =
    block_draft c.self.inside.flat c.add_process.new.self c.self.inside.roots.items c.self.inside.bodies.items c.truncate.new.self.items (take (c.len-n.result - 1) c.self.inside.bodies.items) c.args.self.now c.args.star c.of.result c.index-statement.result.now c.args.at s t m (block_is c.self.inside.flat c.self.inside.roots.items c.self.inside.bodies.items c.args.self.now c.args.star c.of.result c.len-n.result c.index-statement.result.now c.self.invariant.0 c.self.view_is c.requires.ends (ap (λ (es : List Event). all_below (length (draft c.args.self.now).design.signals) (map (λ (e : Event). e.signal) es)) c.of.ensures ∙ c.requires.there) (search rules) c.index-statement.ensures) c.in_ok-add_process.ensures.ok c.truncate.ensures.items c.self.view_is h
    ∙ ap (λ (es : List Event). and_process s (Always c.args.at c.args.star (map (event_of (signal_at (draft c.args.self.now).design.signals)) es) t)) c.of.ensures
