-- The environments put back after a branch.
use Rattle.std.proofs.Common.{◌≡◌, ℕ, ◌<◌, Bool, true, false, ◌||◌, ◌==◌, if◌then◌else◌, List, [], ◌∷◌, map, length, slice_index, Some, sym, ap, ◌∙◌, arith, true≢false, inl, inr}
use Rattle.std.specs.List.{All, range_with_len}
use Rattle.std.proofs.lemmas.List.Elements.{All-weaker}
use Rattle.vs_design.specs.Footprints.{contains}
use Rattle.vs_values.specs.Coded.{Coding}
use Rattle.vs_values.specs.Environments.{placed}
use Rattle.vs_lower.specs.Joined.{IsJoined, differing_bits}
use Rattle.vs_lower.specs.Stated.{AreAmong}
use Rattle.vs_lower.proofs.Apart.{outside}
use Rattle.vs_lower.proofs.Branching.{put_back}
use Rattle.vs_lower.proofs.Placing.{by_test, placed_other}
use Rattle.vs_values.proofs.Environments.{placed_length}

pub restored : (bits env mid after before : List ℕ) → length mid ≡ length env → ((b : ℕ) → contains bits b ≡ false → slice_index mid b ≡ slice_index env b)
    → All (λ b. b < length env) bits → before ≡ map (slice_index env) bits → after ≡ placed mid (map Some bits) before → after ≡ env
restored bits env mid after before long same inside is put =
    put ∙ ap (λ (to : List ℕ). placed mid (map Some bits) to) is
    ∙ put_back mid env bits long (All-weaker (λ b. b < length env) (λ b. b < length mid) (λ b l. omega (arith, l, long)) bits inside) same

differing_among : (bits first env : List ℕ) → AreAmong (differing_bits bits first env) bits
differing_among [] first env b h = h
differing_among (c ∷ cs) [] env b h = absurd (true≢false (sym h))
differing_among (c ∷ cs) (t ∷ ts) env b h =
    by_test (b == c)
    (λ e. ap (λ q. q || contains cs b) e)
    (λ e. ap (λ q. q || contains cs b) e ∙ differing_among cs ts env b (among (t == slice_index env c) e h))
  where
    rest : List ℕ
    rest = differing_bits cs ts env

    among : (q : Bool) → (b == c) ≡ false → contains (if q then rest else (c ∷ rest)) b ≡ true → contains rest b ≡ true
    among true e k = k
    among false e k = sym (ap (λ q. q || contains rest b) e) ∙ k

-- after a join the other bits have the slots that they had
pub joined_kept : (condition bits first env after : List ℕ) (old new : Coding) → IsJoined condition bits first env after old new
    → (length after ≡ length env) × ((b : ℕ) → contains bits b ≡ false → slice_index after b ≡ slice_index env b)
joined_kept condition bits first env after old new (inl j) = (ap length j.slots, λ b h. ap (λ (x : List ℕ). slice_index x b) j.slots)
joined_kept condition bits first env after old new (inr j) =
    let js = differing_bits bits first env in
    let to = range_with_len old.next (length js) in (
      ap length j.slots ∙ placed_length env (map Some js) to,
      λ b h. ap (λ (x : List ℕ). slice_index x b) j.slots ∙ placed_other env js to b (outside js bits b (differing_among bits first env) h),
    )
