-- The layout by a table of shadows.
use Rattle.std.proofs.Common.{◌≡◌, ℕ, suc, ◌+◌, ◌≤◌, Bool, true, List, [], ◌∷◌, if◌then◌else◌, length, sym, ap, ◌∙◌, arith}
use Rattle.std.specs.Prelude.{slice_index, sum_by}
use Rattle.std.proofs.lemmas.List.Sums.{sum_by-cons}
use Rattle.vs_design.specs.Designs.{Process, Design, bit_count}
use Rattle.vs_design.specs.Footprints.{contains, memory_bits, waits_of, writes_of}
use Rattle.vs_design.specs.Sizes.{distinct, register_bits, sleeper_weight}
use Rattle.vs_design.specs.Sleepers.{is_sleeping}
use Rattle.vs_cone.specs.Lists.{FewAreApart}
use Rattle.vs_program.specs.Compiled.{IsAcceptedAt}
use Rattle.vs_program.specs.Lowered.{Layout, home}
use Rattle.vs_program.specs.Layouts.{AreRegisters, IsLayoutOf, LayoutsFit, first_mask, layout_of, sleepers, sleepers_from}
use Rattle.vs_assemble.specs.Plans.{IsTightLayout}
use Rattle.vs_compile.specs.Laid.{HasPlaces, IsTable}
use Rattle.vs_compile.proofs.Lists.{by_test, distinct_left, distinct_within}

pub register_count : FewAreApart → (d : Design) (regs : List ℕ) → AreRegisters d regs → length regs ≡ distinct (register_bits d.processes)
register_count few d regs are =
    let most = few (register_bits d.processes) regs are.once (λ b h. sym (are.has b) ∙ h) in
    let least = distinct_within (register_bits d.processes) regs (λ b h. are.has b ∙ h) in
    omega (arith, most, least)

pub table_fits : FewAreApart → LayoutsFit → (d : Design) (count : ℕ) (regs shadows : List ℕ) (first : ℕ) → AreRegisters d regs → count ≡ bit_count d → length shadows ≡ count
    → HasPlaces count regs shadows → first ≡ 4 + count + length regs + length (sleepers d) → IsTable d count shadows first
table_fits few fits d count regs shadows first are counted long places is = record {
  count_is = counted;
  long = long;
  layout = record {
    layout = record {
      bits = counted;
      layout = record {
        temps_above = omega (arith, is);
        shadow_above = λ b h. let at = shadow b h in omega (arith, at, counted);
        shadow_below = λ b h. let at = shadow b h in let low = law.below_masks b h in omega (arith, at, low, right);
        shadow_own = λ b c h k same. law.layout.shadow_own b c h k (sym (shadow b h) ∙ same ∙ shadow c k);
      };
      below_masks = λ b h. let at = shadow b h in let low = law.below_masks b h in omega (arith, at, low);
      masks = omega (arith, right);
    };
    first = right;
  };
}
  where
    law : IsLayoutOf d (layout_of d regs)
    law = (fits d regs are).layout

    shadow : (b : ℕ) → contains (register_bits d.processes) b ≡ true → slice_index shadows b ≡ (layout_of d regs).shadow b
    shadow b h = places b (are.has b ∙ h) ∙ ap (λ n. home n + Rattle.vs_program.specs.Layouts.place_of regs b) counted

    right : first ≡ first_mask d + length (sleepers d)
    right = let own = register_count few d regs are in omega (arith, is, counted, own)

-- ---- how many slots there are

-- the sleeping blocks are within the size
sleepers_small : (d : Design) (k : ℕ) (xs : List Process) → length (sleepers_from d k xs) ≤ sum_by (sleeper_weight d) xs
sleepers_small d k [] = omega arith
sleepers_small d k (x ∷ xs) =
    let rest = sleepers_small d (suc k) xs in
    let sum = sum_by-cons (sleeper_weight d) x xs in
    by_test (is_sleeping d x)
    (λ e. let here : length (sleepers_from d k (x ∷ xs)) ≡ suc (length (sleepers_from d (suc k) xs)) = ap (λ (c : Bool). length (if c then (k ∷ sleepers_from d (suc k) xs) else sleepers_from d (suc k) xs)) e in
    let weight : sleeper_weight d x ≡ distinct (waits_of x) + 1 + distinct (writes_of x) = ap (λ (c : Bool). if c then (distinct (waits_of x) + 1 + distinct (writes_of x)) else 0) e in
    omega (arith, rest, sum, here, weight))
    (λ e. let here : length (sleepers_from d k (x ∷ xs)) ≡ length (sleepers_from d (suc k) xs) = ap (λ (c : Bool). length (if c then (k ∷ sleepers_from d (suc k) xs) else sleepers_from d (suc k) xs)) e in
    omega (arith, rest, sum, here))

pub few_registers : FewAreApart → (d : Design) (clocks : List ℕ) → IsAcceptedAt d clocks → (regs : List ℕ) → AreRegisters d regs → length regs ≤ 16777216
few_registers few d clocks at regs are =
    let own = register_count few d regs are in
    let left = distinct_left (register_bits d.processes) (memory_bits d) in
    omega (arith, own, left, at.accepted.small)

pub first_low : (d : Design) (l : Layout) (clocks : List ℕ) → IsAcceptedAt d clocks → IsTightLayout d l → l.first_temp ≤ 67108868
first_low d l clocks at tight =
    let rest = sleepers_small d 0 d.processes in
    let left = distinct_left (register_bits d.processes) (memory_bits d) in
    omega (arith, tight.first, rest, left, at.accepted.small, at.accepted.lawful.few_bits)
