-- What an accepted design gives the lowering of a block that sleeps.
use Rattle.std.proofs.Common.{◌≡◌, ℕ, zero, suc, ◌+◌, ◌<◌, ◌≤◌, ◌^◌, Bool, true, false, not, ◌&&◌, List, [], ◌∷◌, ◌++◌, if◌then◌else◌, length, Some, slice_get, sym, ap, ◌∙◌, subst, refl, arith}
use Rattle.std.specs.Prelude.{sum_by}
use Rattle.std.specs.List.{list_all}
use Rattle.std.proofs.lemmas.List.Sums.{sum_by-cons}
use Rattle.vs_design.specs.Designs.{Process, Continuous, Always, Design, bit_count, is_clocked}
use Rattle.vs_design.specs.Footprints.{all_reads, ascending, contains, waits_of, writes_of}
use Rattle.vs_design.specs.Laws.{BitsOfDesign}
use Rattle.vs_design.specs.Sizes.{distinct, process_weight, register_bits, size, sleeper_weight}
use Rattle.vs_design.specs.Sleepers.{is_sleeping, is_still, stays_x}
use Rattle.vs_cone.specs.Lists.{AscendingIsOnce, FewAreApart, HasEachOnce}
use Rattle.vs_code.specs.Calls.{Call}
use Rattle.vs_program.specs.Layouts.{IsLayoutOf, LayoutsFit, MasksFit, first_mask, layout_of, mask_of, sleepers}
use Rattle.vs_program.specs.Lowered.{Layout, process_stores}
use Rattle.vs_program.specs.Made.{IsLoweredAt, RegistersInOrder}
use Rattle.vs_reset.specs.Sleepers.{AreBits, IsMask, SleeperCallsAre, sleeper_calls}
use Rattle.vs_assemble.specs.Plans.{may_store, may_store_or}
use Rattle.vs_lower.specs.Asleep.{AddsSleeper}
use Rattle.vs_compile.specs.Known.{IsAccepted}
use Rattle.vs_compile.proofs.Lists.{contains-append, or_right}

-- a block that sleeps is no clocked one
not_clocked : (d : Design) (x : Process) → is_sleeping d x ≡ true → is_clocked x ≡ false
not_clocked d (Continuous place port target_place target e) h = cc
not_clocked d (Always place star events st) h =
    of (is_clocked (Always place star events st)) (list_all (is_still d) (waits_of (Always place star events st))) (not (stays_x st)) h
  where
    of : (c v w : Bool) → (not c && v && w) ≡ true → c ≡ false
    of true v w k = cc
    of false v w k = refl

-- one of a list weighs no more than all
one_of_all : (f : Process → ℕ) (ps : List Process) (q : ℕ) (y : Process) → slice_get ps q ≡ Some y → f y ≤ sum_by f ps
one_of_all f [] q y e = cc
one_of_all f (z ∷ ps) zero y e = let sum = sum_by-cons f z ps in subst (λ w. f w ≤ sum_by f (z ∷ ps)) (some_is z y e) (omega (arith, sum))
  where
    some_is : (a b : Process) → Some a ≡ Some b → a ≡ b
    some_is a b q = cc
one_of_all f (z ∷ ps) (suc q) y e = let sum = sum_by-cons f z ps in let rest = one_of_all f ps q y e in omega (arith, sum, rest)

-- what it weighs and stores
pub record IsSlept (d : Design) (p : ℕ) (x : Process) : Type 0 where
  pub stores : process_stores x ≡ process_weight x
  pub own : sleeper_weight d x ≡ distinct (waits_of x) + 1 + distinct (writes_of x)
  pub may : may_store d p ≡ process_weight x + sleeper_weight d x
  pub within : process_weight x + sleeper_weight d x ≤ size d

pub is_slept : (d : Design) (p : ℕ) (x : Process) → slice_get d.processes p ≡ Some x → is_sleeping d x ≡ true → IsSlept d p x
is_slept d p x e h =
    let awake = not_clocked d x h in
    let weight = one_of_all process_weight d.processes p x e in
    let more = one_of_all (sleeper_weight d) d.processes p x e in
    let stored : process_stores x ≡ process_weight x + 0 = ap (λ (c : Bool). process_weight x + (if c then distinct (writes_of x) else 0)) awake in
    let most : may_store d p ≡ process_weight x + 0 + sleeper_weight d x = ap (may_store_or d) e ∙ ap (λ (c : Bool). process_weight x + (if c then distinct (writes_of x) else 0) + sleeper_weight d x) awake in
    record {
      stores = omega (arith, stored);
      own = ap (λ (c : Bool). if c then distinct (waits_of x) + 1 + distinct (writes_of x) else 0) h;
      may = omega (arith, most);
      within = omega (arith, weight, more);
    }

-- ---- its mask

pub mask_fits : LayoutsFit → MasksFit → RegistersInOrder → (d : Design) → IsAccepted d → (p : ℕ) (x : Process) → slice_get d.processes p ≡ Some x → is_sleeping d x ≡ true
    → (count first mask : ℕ) → bit_count d ≡ count → first ≡ first_mask d + length (sleepers d) → mask ≡ mask_of d p → IsMask count first mask
mask_fits layouts masks registers d a p x e h count first mask counted behind is =
    let regs = ascending (bit_count d) (register_bits d.processes) in
    let layout = (layouts d regs (registers d a.0 a.1)).layout in
    let fits = masks d (layout_of d regs) layout p x e h in
    let above = fits.above in
    let below = fits.below in
    record { above = omega (arith, above, is, counted); below = omega (arith, below, is, behind) }

-- ---- the bits that it waits on

pub record AreWaits (d : Design) (p count : ℕ) (x : Process) (waits : List ℕ) : Type 0 where
  pub each : HasEachOnce (waits_of x) waits
  pub bits : AreBits count waits
  pub few : length waits ≤ distinct (waits_of x)

pub are_waits : FewAreApart → AscendingIsOnce → BitsOfDesign → (d : Design) → IsAccepted d → (p : ℕ) (x : Process) → slice_get d.processes p ≡ Some x → is_sleeping d x ≡ true
    → (count : ℕ) → bit_count d ≡ count → (waits : List ℕ) → waits ≡ ascending (bit_count d) (waits_of x) → AreWaits d p count x waits
are_waits fewer once law d a p x e h count counted waits is =
    let slept = is_slept d p x e h in
    let low : (b : ℕ) → contains (waits_of x) b ≡ true → b < bit_count d = λ b k. law d a.1.lawful p x e b (in_all b k) in
    let each : HasEachOnce (waits_of x) waits = subst (HasEachOnce (waits_of x)) (sym is) (once (bit_count d) (waits_of x) low) in
    let few = fewer (waits_of x) waits each.once (λ b k. sym (each.has b) ∙ k) in
    let small = a.1.small in
    let own = slept.own in
    let within = slept.within in
    record {
      each = each;
      bits = record {
        below = λ b k. let q = low b (sym (each.has b) ∙ k) in omega (arith, q, counted);
        few = omega (arith, few, own, within, small);
      };
      few = few;
    }
  where
    in_all : (b : ℕ) → contains (waits_of x) b ≡ true → contains (all_reads x ++ (writes_of x ++ waits_of x)) b ≡ true
    in_all b k =
        contains-append (all_reads x) (writes_of x ++ waits_of x) b
        ∙ or_right (contains (all_reads x) b) (contains (writes_of x ++ waits_of x) b)
        (contains-append (writes_of x) (waits_of x) b ∙ or_right (contains (writes_of x) b) (contains (waits_of x) b) k)

-- ---- the room that it has

pub slept_slots : (d : Design) (p : ℕ) (x : Process) → slice_get d.processes p ≡ Some x → is_sleeping d x ≡ true → (first : ℕ) → first + size d ≤ 2 ^ 32 → first + process_stores x < 2 ^ 32
slept_slots d p x e h first room =
    let slept = is_slept d p x e h in
    let own = slept.own in
    let within = slept.within in
    let stores = slept.stores in
    omega (arith, own, within, stores, room)

pub slept_few : (d : Design) (p : ℕ) (x : Process) → slice_get d.processes p ≡ Some x → is_sleeping d x ≡ true → (waits : List ℕ) → length waits ≤ distinct (waits_of x) → (calls : ℕ) → calls + may_store d p ≤ 2 ^ 32
    → calls + (process_stores x + (length waits + 1 + distinct (writes_of x))) ≤ 2 ^ 32
slept_few d p x e h waits few calls room =
    let slept = is_slept d p x e h in
    let own = slept.own in
    let may = slept.may in
    let stores = slept.stores in
    omega (arith, own, may, stores, room, few)

-- ---- its calls

pub slept_calls : SleeperCallsAre → (d : Design) → IsAccepted d → (l : Layout) → IsLayoutOf d l → l.first_temp + size d ≤ 2 ^ 32 → (p : ℕ) (x : Process) → slice_get d.processes p ≡ Some x → is_sleeping d x ≡ true
    → (waits : List ℕ) → HasEachOnce (waits_of x) waits → (mask : ℕ) → mask ≡ mask_of d p → (old new : List Call) → AddsSleeper l x waits mask old new
    → (calls : List Call) × (new ≡ old ++ calls) × IsLoweredAt d l p calls
slept_calls law d a l layout room p x e h waits each mask is old new adds =
    let calls = sleeper_calls (mask_of d p) l.first_temp waits adds.bits adds.now adds.body in (
      calls,
      adds.is ∙ ap (λ (m : ℕ). old ++ sleeper_calls m l.first_temp waits adds.bits adds.now adds.body) is,
      law d a.0 a.1 l layout room p x e h waits adds.bits each adds.bits_are adds.now adds.body adds.lowered,
    )
