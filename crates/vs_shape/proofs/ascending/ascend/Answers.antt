use Rattle.std.proofs.Common.{◌≡◌, ◌==◌, ℕ, ap, ◌∙◌, sym, subst, eqb}
use Rattle.std.specs.List.Sorted.{IsStrictlyIncreasing}
use Rattle.std.proofs.lemmas.List.Filters.{dedup_is}
use Rattle.std.proofs.lemmas.List.Sorted.{list_any-IsPermutation}
use Rattle.std.proofs.lemmas.Map.Keys.{IsStrictlyIncreasing-dedup}
use Rattle.vs_design.specs.Footprints.{contains}
use Rattle.vs_shape.proofs.Rising.{contains-dedup, is_ascending}
use Rattle.vs_shape.proofs.ascending.ascend.Goals as goal

pub returns : goal.returns
returns c =
    let old = c.args.bits.now.items in
    let sorted = c.sort_unstable.new.self.items in
    let bits = c.dedup.new.self.items in
    let left = dedup_is eqb sorted bits c.dedup.ensures.filtered in
    let rising : IsStrictlyIncreasing bits = subst IsStrictlyIncreasing (sym left) (IsStrictlyIncreasing-dedup sorted c.sort_unstable.ensures.sorted) in
    let same : (b : ℕ) → contains bits b ≡ contains old b =
    λ b. ap (λ xs. contains xs b) left ∙ contains-dedup sorted b ∙ sym (list_any-IsPermutation (λ n. b == n) old sorted c.sort_unstable.ensures.permutation)
    in
    record { rising = rising; same = same; is = is_ascending c.footprint_law.ensures.ascending c.footprint_law.ensures.rises bits old rising same }
