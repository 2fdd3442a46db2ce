use Rattle.std.proofs.Common.{◌≡◌, List, ℕ, length, sym, ap, ◌∙◌, subst}
use Rattle.std.proofs.lemmas.List.{length-replicate}
use Rattle.vs_design.specs.Designs.{bit_count}
use Rattle.vs_flat.specs.Arena.{Arena}
use Rattle.vs_flat.specs.Arena as A
use Rattle.vs_flat.specs.DesignOf.{design_of}
use Rattle.vs_queue.specs.Initially.{AreKept}
use Rattle.vs_queue.proofs.Owners.{front, none_kept}
use Rattle.vs_queue.proofs.starts.block_owners.Goals as goal

pub note_owners-requires-clause-many : goal.note_owners-requires-clause-many
note_owners-requires-clause-many c =
    let count = c.count_bits.ensures ∙ ap (λ (z : Arena). A.bit_count z.signals) c.flat.ensures.same ∙ sym (c.trees_law.ensures.counts c.args.typed.now).bits in
    ap length (c.as_mut_slice.ensures.value ∙ c.in_ok-owners.ensures.items_if_clones_equal (λ y e. e)) ∙ length-replicate c.count_bits.result c.args.keeper ∙ count

pub returns-clause-count : goal.returns-clause-count
returns-clause-count c =
    let count = c.count_bits.ensures ∙ ap (λ (z : Arena). A.bit_count z.signals) c.flat.ensures.same ∙ sym (c.trees_law.ensures.counts c.args.typed.now).bits in
    let long = ap length (c.as_mut_slice.ensures.value ∙ c.in_ok-owners.ensures.items_if_clones_equal (λ y e. e)) ∙ length-replicate c.count_bits.result c.args.keeper ∙ count in
    subst (λ (os : List ℕ). length os ≡ bit_count (design_of c.args.typed.now)) (sym (front c.in_ok-owners.owners.len c.note_owners.new.owners _ (sym (c.note_owners.auto.owners ∙ c.as_mut_slice.ensures.len)))) (c.note_owners.auto.owners ∙ long)

pub returns-clause-kept : goal.returns-clause-kept
returns-clause-kept c =
    let d = design_of c.args.typed.now in
    let count = c.count_bits.ensures ∙ ap (λ (z : Arena). A.bit_count z.signals) c.flat.ensures.same ∙ sym (c.trees_law.ensures.counts c.args.typed.now).bits in
    let first = c.as_mut_slice.ensures.value ∙ c.in_ok-owners.ensures.items_if_clones_equal (λ y e. e) in
    subst (AreKept d (length d.processes) c.args.keeper) (sym (front c.in_ok-owners.owners.len c.note_owners.new.owners _ (sym (c.note_owners.auto.owners ∙ c.as_mut_slice.ensures.len))))
    (c.note_owners.ensures c.args.keeper (none_kept d c.args.keeper c.count_bits.result c.as_mut_slice.result.now first count))
