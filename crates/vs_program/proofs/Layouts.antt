-- The layout of a design.
use Rattle.std.proofs.Common.{◌≡◌, ℕ, zero, suc, ◌≤◌, Bool, List, [], ◌∷◌, length, max, Some, sym, ap, ◌∙◌, subst, refl, arith, slice_get}
use Rattle.vs_design.specs.Designs.{Process, Design}
use Rattle.vs_design.specs.Footprints.{writes_of, waits_of}
use Rattle.vs_design.specs.Sleepers.{sleeper_if, sleeper_of}
use Rattle.vs_design.specs.Sizes.{distinct, process_weight, register_bits}
use Rattle.vs_cone.specs.Lists.{FewAreApart}
use Rattle.vs_program.specs.Layouts.{widest_of, sleepers, AreRegisters, LayoutsFit, MasksFit}
use Rattle.vs_program.proofs.Processes.{some_is}
use Rattle.vs_program.proofs.Sleeping.{place_below, place_own, sleepers_has}

wide_enough : (xs : List Process) (q : ℕ) (x : Process) → slice_get xs q ≡ Some x → process_weight x ≤ widest_of xs
wide_enough [] q x e = cc
wide_enough (y ∷ xs) zero x e = subst (λ z. process_weight z ≤ max (process_weight y) (widest_of xs)) (some_is y x e) (omega arith)
wide_enough (y ∷ xs) (suc q) x e = let r = wide_enough xs q x e in omega (arith, r)

-- the registers of such a list are no more than there are
pub few_registers : FewAreApart → (d : Design) (regs : List ℕ) → AreRegisters d regs → length regs ≤ distinct (register_bits d.processes)
few_registers fewer d regs are = fewer (register_bits d.processes) regs are.once (λ b h. sym (are.has b) ∙ h)

pub layouts_fit : FewAreApart → LayoutsFit
layouts_fit fewer d regs are =
    let few = few_registers fewer d regs are in
    record {
      layout = record {
        bits = refl;
        layout = record {
          temps_above = omega arith;
          shadow_above = λ b h. omega arith;
          shadow_below = λ b h. let r = place_below regs b (are.has b ∙ h) in omega (arith, r, few);
          shadow_own = λ b c h k e. place_own regs b c (are.has b ∙ h) (are.has c ∙ k) (omega (arith, e));
        };
        below_masks = λ b h. let r = place_below regs b (are.has b ∙ h) in omega (arith, r, few);
        masks = omega arith;
      };
      room = λ q x e. let r = wide_enough d.processes q x e in omega (arith, r, few);
      temps = omega (arith, few);
    }

pub masks_fit : MasksFit
masks_fit d l layout p x e h =
    let has = sleepers_has d p (record { on = waits_of x; bits = writes_of x }) (ap (sleeper_of d) e ∙ ap (λ (c : Bool). sleeper_if c x) h) in
    let place = place_below (sleepers d) p has in
    let masks = layout.masks in
    record {
      above = omega (arith, layout.bits);
      below = omega (arith, place, masks);
      own = λ q k same. place_own (sleepers d) p q has k (omega (arith, same));
    }
