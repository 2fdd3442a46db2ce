use Rattle.std.proofs.Common.{◌≡◌, ℕ, List, ◌∷◌, [], length, refl, ap, subst, ◌∙◌}
use Rattle.std.specs.Prelude.{slice_index_or}
use Rattle.std.proofs.lemmas.List.{take_all}
use Rattle.vs_design.specs.Lifted.{Family}
use Rattle.vs_sets.specs.Tables.{family_of}
use Rattle.vs_zero.specs.Sources.{with_clocks}
use Rattle.vs_zero.proofs.Sourcing.{clocks_begun, clocks_more}
use Rattle.vs_zero.proofs.families.set_clocks.Goals as goal

pub loop-k-init : goal.loop-k-init
loop-k-init c = (refl, clocks_begun (length c.args.table.now) (family_of c.args.table.now))

pub loop-k-preserved : goal.loop-k-preserved
loop-k-preserved c = (
  c.set_clock.auto.table ∙ c.loop-k.invariant.0,
  clocks_more c.args.clocks.now c.loop-k.k (length c.args.table.now) (family_of c.args.table.now) (family_of c.loop-k.table) (family_of c.set_clock.new.table) c.loop-k-test.true c.loop-k.invariant.1
      (subst (λ n. family_of c.set_clock.new.table ≡ with_clocks (slice_index_or c.args.clocks.now c.loop-k.k 0 ∷ []) n (family_of c.loop-k.table)) c.loop-k.invariant.0 c.set_clock.ensures),
)

pub returns : goal.returns
returns c =
    let within = λ (cs : List ℕ). with_clocks cs (length c.args.table.now) (family_of c.args.table.now) in
    c.loop-k.invariant.1 ∙ ap {B = Family} within (take_all c.loop-k.k c.args.clocks.now c.loop-k-test.false)
