-- How many stores the processes of a plan make, and which there are.
use Rattle.std.proofs.Common.{◌≡◌, ℕ, suc, ◌+◌, ◌<◌, ◌≤◌, Bool, true, not, List, [], ◌∷◌, if◌then◌else◌, map, length, sym, ap, ◌∙◌, subst, arith, refl, slice_get}
use Rattle.std.specs.Prelude.{sum_by}
use Rattle.std.specs.List.{All}
use Rattle.std.proofs.lemmas.List.{length-map}
use Rattle.std.proofs.lemmas.List.Elements.{All-nil, All-cons, All-filter}
use Rattle.std.proofs.lemmas.Option.{slice_get_within}
use Rattle.vs_design.specs.Designs.{Process, is_clocked, Design}
use Rattle.vs_design.specs.Clocks.{clock_nets}
use Rattle.vs_design.specs.Levels.{is_level_order}
use Rattle.vs_design.specs.Laws.{LevelOrderIs}
use Rattle.vs_design.specs.Footprints.{waits_of, writes_of}
use Rattle.vs_design.specs.Sizes.{distinct, register_bits, sleeper_weight}
use Rattle.vs_design.specs.Sleepers.{is_sleeping}
use Rattle.std.proofs.lemmas.List.Sums.{sum_by-cons}
use Rattle.vs_cone.specs.Cones.{is_port_or}
use Rattle.vs_cone.specs.Counts.{clocked_from, clocked, stores_of, AreWithin, StoresFit, StoresFitIn}
use Rattle.vs_cone.specs.Lists.{FewAreApart}
use Rattle.vs_code.specs.Calls.{length_of}
use Rattle.vs_program.specs.Lowered.{Layout, home}
use Rattle.vs_program.specs.Layouts.{AreRegisters, LayoutsFit, sleepers_from}
use Rattle.vs_program.specs.Compiled.{IsAcceptedAt}
use Rattle.vs_program.specs.Made.{copy_shadows}
use Rattle.vs_assemble.specs.Plans.{may_store, may_store_or, HasRoom, IsPlanOf, IsTightLayout}
use Rattle.vs_assemble.proofs.Lists.{by_test, all_from}

-- there are processes of these numbers
abbrev AreThere : Design → List ℕ → Type 0
AreThere d ps = All (λ p. p < length d.processes) ps

blocks_there : (k count : ℕ) (xs : List Process) → k + length xs ≤ count → All (λ p. p < count) (clocked_from k xs)
blocks_there k count [] h = All-nil (λ p. p < count)
blocks_there k count (x ∷ xs) h =
    let rest = blocks_there (suc k) count xs (omega (arith, h)) in
    by_test (is_clocked x)
    (λ e. subst (λ (c : Bool). All (λ p. p < count) (if c then (k ∷ clocked_from (suc k) xs) else clocked_from (suc k) xs)) (sym e) (All-cons (λ p. p < count) k (clocked_from (suc k) xs) (omega (arith, h)) rest))
    (λ e. subst (λ (c : Bool). All (λ p. p < count) (if c then (k ∷ clocked_from (suc k) xs) else clocked_from (suc k) xs)) (sym e) rest)

pub order_there : LevelOrderIs → (d : Design) (order : List ℕ) → is_level_order d order ≡ true → AreThere d order
order_there levels d order ordered =
    all_from (λ p. p < length d.processes) order (λ q h. let r = ((levels d order ordered).members q).0 h in slice_get_within d.processes q r.0 r.1)

-- the processes of a plan are there, and the stores of all of them are few
pub record PlanFits (d : Design) (settling blocks : List ℕ) : Type 0 where
  pub settling_there : AreThere d settling
  pub blocks_there : AreThere d blocks
  pub few_falls : sum_by (may_store d) blocks + sum_by (may_store d) settling ≤ 16777216
  pub few_rises : sum_by (may_store d) blocks ≤ 16777216
  pub few_registers : distinct (register_bits d.processes) ≤ 16777216

pub plan_fits : StoresFit → LevelOrderIs → (d : Design) (clocks : List ℕ) → IsAcceptedAt d clocks → (order : List ℕ) → is_level_order d order ≡ true
    → (settling blocks registers falling : List ℕ) → IsPlanOf d clocks order settling blocks registers falling → PlanFits d settling blocks
plan_fits fit levels d clocks at order ordered settling blocks registers falling plan = record {
  settling_there = subst (AreThere d) (sym plan.settling_are)
      (All-filter (λ p. not (is_port_or (clock_nets d clocks) (slice_get d.processes p))) (λ p. p < length d.processes) order (order_there levels d order ordered));
  blocks_there = subst (AreThere d) (sym plan.blocks_are) (blocks_there 0 (length d.processes) d.processes (omega arith));
  few_falls = subst (λ ps. sum_by (may_store d) ps + sum_by (may_store d) settling ≤ 16777216) (sym plan.blocks_are)
      (subst (λ ps. sum_by (may_store d) (clocked d) + sum_by (may_store d) ps ≤ 16777216) (sym plan.settling_are) (omega (arith, fits.fall, at.accepted.small)));
  few_rises = subst (λ ps. sum_by (may_store d) ps ≤ 16777216) (sym plan.blocks_are) (omega (arith, fits.rise, at.accepted.small));
  few_registers = omega (arith, fits.rise, at.accepted.small);
}
  where
    within : AreWithin d (may_store d)
    within = record { each = λ p x e. subst (λ o. may_store_or d o ≤ stores_of d x) (sym e) (same (stores_of d x)) }
      where
        same : (n : ℕ) → n ≤ n
        same n = omega arith

    fits : StoresFitIn d clocks order (may_store d) (may_store d)
    fits = subst (λ c. StoresFitIn d c order (may_store d) (may_store d)) at.clocks_are (fit d at.names at.accepted order ordered (may_store d) (may_store d) within within)

copy_cost : (l : Layout) (bs : List ℕ) → length_of (copy_shadows l bs) ≡ length bs
copy_cost l [] = refl
copy_cost l (b ∷ bs) = let long : length (map home (b ∷ bs)) ≡ length (b ∷ bs) = length-map (b ∷ bs) home in omega (arith, long)

-- the copy makes few stores
pub copy_small : FewAreApart → (d : Design) (l : Layout) (regs : List ℕ) → AreRegisters d regs → distinct (register_bits d.processes) ≤ 16777216 → length_of (copy_shadows l regs) ≤ 16777216
copy_small fewer d l regs are small =
    let cost = copy_cost l regs in
    let own = fewer (register_bits d.processes) regs are.once (λ b h. sym (are.has b) ∙ h) in
    omega (arith, cost, own, small)

-- each process's temporaries have room
pub has_room : LayoutsFit → (d : Design) (l : Layout) (regs : List ℕ) → IsTightLayout d l → AreRegisters d regs → HasRoom d l
has_room fits d l regs tight are = record {
  room = λ q x is. let r = (fits d regs are).room q x is in omega (arith, r, tight.first);
}

pub plan_there : LevelOrderIs → (d : Design) (clocks : List ℕ) (order : List ℕ) → is_level_order d order ≡ true
    → (settling blocks registers falling : List ℕ) → IsPlanOf d clocks order settling blocks registers falling → All (λ p. p < length d.processes) settling
plan_there levels d clocks order ordered settling blocks registers falling plan =
    subst (AreThere d) (sym plan.settling_are)
    (All-filter (λ p. not (is_port_or (clock_nets d clocks) (slice_get d.processes p))) (λ p. p < length d.processes) order (order_there levels d order ordered))

-- the sleeping blocks are within the size
sleepers_small : (d : Design) (k : ℕ) (xs : List Process) → length (sleepers_from d k xs) ≤ sum_by (sleeper_weight d) xs
sleepers_small d k [] = omega arith
sleepers_small d k (x ∷ xs) =
    let rest = sleepers_small d (suc k) xs in
    let sum = sum_by-cons (sleeper_weight d) x xs in
    by_test (is_sleeping d x)
    (λ e. let here : length (sleepers_from d k (x ∷ xs)) ≡ suc (length (sleepers_from d (suc k) xs)) = ap (λ (c : Bool). length (if c then (k ∷ sleepers_from d (suc k) xs) else sleepers_from d (suc k) xs)) e in
    let weight : sleeper_weight d x ≡ distinct (waits_of x) + 1 + distinct (writes_of x) = ap (λ (c : Bool). if c then (distinct (waits_of x) + 1 + distinct (writes_of x)) else 0) e in
    omega (arith, rest, sum, here, weight))
    (λ e. let here : length (sleepers_from d k (x ∷ xs)) ≡ length (sleepers_from d (suc k) xs) = ap (λ (c : Bool). length (if c then (k ∷ sleepers_from d (suc k) xs) else sleepers_from d (suc k) xs)) e in
    omega (arith, rest, sum, here))

-- all slots below the temporaries can be numbered
pub first_low : (d : Design) (l : Layout) (clocks : List ℕ) → IsAcceptedAt d clocks → IsTightLayout d l → distinct (register_bits d.processes) ≤ 16777216 → l.first_temp ≤ 67108868
first_low d l clocks at tight registers =
    let masks = sleepers_small d 0 d.processes in
    omega (arith, tight.first, masks, registers, at.accepted.small, at.accepted.lawful.few_bits)
