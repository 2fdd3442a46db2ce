use Rattle.std.proofs.Common.{◌≡◌, ◌+◌, ℕ, List, length, ap, sym, ◌∙◌, subst}
use Rattle.vs_design.specs.Designs.{bit_count}
use Rattle.vs_flat.specs.DesignOf.{design_of}
use Rattle.vs_reads.specs.Footprint.{writes_at}
use Rattle.vs_level.specs.Feeders.{AreWriters}
use Rattle.vs_level.proofs.Growing.{writers_more, writers_same}
use Rattle.vs_reads.proofs.Told.{process_is, told, below_length, there}
use Rattle.vs_level.proofs.feeders.writers_of.Goals as goal
use Rattle.vs_level.proofs.feeders.writers_of.Goals.{then-is_settling+in_ok-add_writer, else-is_settling}

pub add_writer-requires : goal.add_writer-requires
add_writer-requires c =
    let d = design_of c.args.flat.now in
    let x = process_is c.footprint_law.ensures.bits c.args.flat.now (c.trees_law.ensures.counts c.args.flat.now) c.requires.lawful c.loop-p.p (there c.loop-p-test.true c.process_count-p-end.ensures.count) in
    below_length (bit_count d) _ _ _ c.loop-p.invariant.0 (told (bit_count d) _ _ _ (c.writes.ensures ∙ ap (λ fs. writes_at fs c.loop-p.p) c.requires.footprints) x.bits.writes)

pub loop-p-preserved : goal.loop-p-preserved
loop-p-preserved c =
    let d = design_of c.args.flat.now in
    let p = c.loop-p.p in
    let x = process_is c.footprint_law.ensures.bits c.args.flat.now (c.trees_law.ensures.counts c.args.flat.now) c.requires.lawful p (there c.loop-p-test.true c.process_count-p-end.ensures.count) in
    let P : List (List ℕ) → Type 0 = λ ws. (length ws ≡ bit_count d) × AreWriters d (p + 1) ws in
    elim c.if-is_settling.branch [
      | then-is_settling+in_ok-add_writer w ↦
          let bits = told (bit_count d) _ _ _ (w.writes.ensures ∙ ap (λ fs. writes_at fs p) c.requires.footprints) x.bits.writes in
          let k = w.in_ok-add_writer.ensures in
          subst P (sym w.writers-is) (k.count ∙ c.loop-p.invariant.0, writers_more d p x.process c.loop-p.writers _ _ k.count x.is (sym c.is_settling.ensures ∙ w.if-is_settling.true) bits.same k.added c.loop-p.invariant.1)
      | else-is_settling w ↦ subst P (sym w.writers-is) (c.loop-p.invariant.0, writers_same d p c.loop-p.writers (sym c.is_settling.ensures ∙ w.if-is_settling.false) c.loop-p.invariant.1)
    ]
