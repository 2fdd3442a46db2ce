use Rattle.std.proofs.Common.{ℕ, ◌+◌, ◌*◌, [], ◌∷◌, length, sym, ap, ap₂, ◌∙◌, subst}
use Rattle.vs_four.specs.declared.Bit4.{Bit4}
use Rattle.vs_plane.specs.Lanes.{decode}
use Rattle.vs_feed.specs.Lanes.{lane_at}
use Rattle.vs_feed.specs.Fed.{driven_value, IsWide}
use Rattle.vs_feed.proofs.Packs.{only_set, only_is}
use Rattle.vs_feed.proofs.column.feed_group.Goals as goal

pub returns-then-pairs-eq1-clause-packed : goal.returns-then-pairs-eq1-clause-packed
returns-then-pairs-eq1-clause-packed g c = λ i below.
    let ks = c.args.stimuli.now in
    let one = c.if-pairs-eq1.true in
    let value = c.with_sixty_four in
    let unknown = c.with_sixty_four-then-pairs-eq1 in
    only_set g.W.Word.lane c.args.pairs.now record { value = value.result; unknown = unknown.result } (64 * c.args.k + i) one
    ∙ ap₂ (λ v u. decode v u ∷ []) (value.ensures.changed i below) (unknown.ensures.changed i below)
    ∙ c.bits_of-value.ensures i (subst (λ (n : ℕ). IsWide c.args.input n ks) one c.requires.input) below
    ∙ ap (λ (n : ℕ). driven_value n (lane_at ks (64 * c.args.k + i)) c.args.input) (sym one)

pub returns-then-pairs-eq1-clause-others : goal.returns-then-pairs-eq1-clause-others
returns-then-pairs-eq1-clause-others g c = λ n below ne.
    let one = c.if-pairs-eq1.true in
    let value = c.with_sixty_four in
    let unknown = c.with_sixty_four-then-pairs-eq1 in
    only_set g.W.Word.lane c.args.pairs.now record { value = value.result; unknown = unknown.result } n one
    ∙ ap₂ (λ v u. decode v u ∷ []) (value.ensures.others n below ne) (unknown.ensures.others n below ne)
    ∙ only_is g.W.Word.lane c.args.pairs.now c.index-pairs-0.result n one (sym c.index-pairs-0.is)

pub returns-else-pairs-eq1-clause-packed : goal.returns-else-pairs-eq1-clause-packed
returns-else-pairs-eq1-clause-packed g c = λ i below.
    c.pack.ensures.packed i below ∙ c.columns_of.ensures (length c.args.pairs.now) i c.requires.input c.requires.most below
