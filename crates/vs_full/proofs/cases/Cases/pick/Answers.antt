use Rattle.std.proofs.Common.{List, Option, ℕ, length, ap, ◌∙◌, subst, arith}
use Rattle.std.specs.Prelude.{slice_get, slice_index_or, None}
use Rattle.vs_flat.specs.DesignOf.{arena_signals, design_of}
use Rattle.vs_flat.specs.Lawful.{IsLawful}
use Rattle.vs_flat.specs.Trees.{signal_at}
use Rattle.vs_full.proofs.Copying.{root_at, roots_count}
use Rattle.vs_full.proofs.Picking.{picked_one, root_below}
use Rattle.vs_full.proofs.Rooting.{signal_numbered, signal_there}
use Rattle.vs_full.proofs.cases.Cases.pick.Goals as goal

pub number_at-root-requires : goal.number_at-root-requires
number_at-root-requires c =
    let a = c.args.shapes.now in
    omega (arith, c.requires.there, roots_count a c.args.self.now.roots c.requires.sound.roots, ap (λ (rs : List (Option ℕ)). length rs) c.roots.ensures)

pub mark_root-requires : goal.mark_root-requires
mark_root-requires c =
    let a = c.args.shapes.now in
    let n = c.args.signal in
    let s = signal_at (arena_signals a) n in
    let there = ap (slice_get (design_of a).signals) (signal_numbered a n c.requires.there) ∙ signal_there a n c.requires.there in
    root_below a (subst IsLawful c.flat.ensures.same c.flat.ensures.lawful) s c.number_at-root.result (length c.args.picked.now) c.requires.count there
    (c.number_at-root.ensures ∙ ap (λ (rs : List (Option ℕ)). slice_index_or rs n None) c.roots.ensures ∙ root_at (design_of a) c.args.self.now.roots n s c.requires.sound.roots (signal_there a n c.requires.there))

pub returns : goal.returns
returns c = λ s at.
    let a = c.args.shapes.now in
    let n = c.args.signal in
    let named = signal_at (arena_signals a) n in
    let there = ap (slice_get (design_of a).signals) (signal_numbered a n c.requires.there) ∙ signal_there a n c.requires.there in
    let below = root_below a (subst IsLawful c.flat.ensures.same c.flat.ensures.lawful) named c.number_at-root.result (length c.args.picked.now) c.requires.count there
    (c.number_at-root.ensures ∙ ap (λ (rs : List (Option ℕ)). slice_index_or rs n None) c.roots.ensures ∙ root_at (design_of a) c.args.self.now.roots n named c.requires.sound.roots (signal_there a n c.requires.there)) in
    picked_one (design_of a) s c.number_at-root.result c.args.picked.now c.mark_root.new.picked
    (c.number_at-root.ensures ∙ ap (λ (rs : List (Option ℕ)). slice_index_or rs n None) c.roots.ensures ∙ root_at (design_of a) c.args.self.now.roots n s c.requires.sound.roots at) below c.mark_root.ensures
