-- All calls of a design, and the slots that they name.
use Rattle.std.proofs.Common.{◌≡◌, ℕ, ◌+◌, ◌-◌, ◌<◌, true, List, [], ◌∷◌, ◌++◌, map, length, append-nil, append_assoc, length-append, sym, ap, ◌∙◌, subst, arith}
use Rattle.std.specs.List.{All, concat}
use Rattle.std.proofs.lemmas.List.{take_all}
use Rattle.std.proofs.lemmas.List.Elements.{All-nil, All-append}
use Rattle.vs_design.specs.Designs.{Design, bit_count}
use Rattle.vs_design.specs.Footprints.{contains}
use Rattle.vs_code.specs.Calls.{Call}
use Rattle.vs_program.specs.Lowered.{Layout, home}
use Rattle.vs_program.specs.Layouts.{AreRegisters, slots_of_design}
use Rattle.vs_program.specs.Phases.{IsRunWithin, calls_of_run}
use Rattle.vs_program.specs.Program.{AreIn}
use Rattle.vs_program.specs.Made.{AreResetsOf, copy_shadows}
use Rattle.vs_assemble.specs.declared.assembling.Lowered.{Lowered}
use Rattle.vs_assemble.specs.Plans.{IsTightLayout}
use Rattle.vs_assemble.specs.Runs.{AreRunsOf}
use Rattle.vs_assemble.specs.Together.{IsLoweredDesign}
use Rattle.vs_assemble.proofs.Slices.{part_of_first, part_of_second}
use Rattle.vs_assemble.proofs.Lists.{from_all}
use Rattle.vs_assemble.proofs.Copying.{below_all}
use Rattle.vs_assemble.proofs.Running.{runs_grown}
use Rattle.vs_assemble.proofs.Stepping.{both_in}

copy_in : (count : ℕ) (l : Layout) (bs : List ℕ) → ((b : ℕ) → contains bs b ≡ true → l.shadow b < count) → ((b : ℕ) → contains bs b ≡ true → home b < count) → AreIn count (copy_shadows l bs)
copy_in count l [] h k = All-nil (λ slot. slot < count)
copy_in count l (b ∷ bs) h k =
    subst (All (λ slot. slot < count)) (sym (shape (map l.shadow (b ∷ bs)) (map home (b ∷ bs))))
    (All-append (λ slot. slot < count) (map l.shadow (b ∷ bs)) (map home (b ∷ bs)) (below_all count l.shadow (b ∷ bs) h) (below_all count home (b ∷ bs) k))
  where
    shape : (xs ys : List ℕ) → (concat (xs ∷ []) ++ (ys ++ [])) ++ [] ≡ xs ++ ys
    shape xs ys = simp append-nil

-- the copy's slots are there
pub copy_there : (d : Design) (l : Layout) (regs : List ℕ) → IsTightLayout d l → AreRegisters d regs → All (λ b. b < bit_count d) regs → AreIn (slots_of_design d) (copy_shadows l regs)
copy_there d l regs tight are below =
    copy_in (slots_of_design d) l regs
    (λ b h. let own = tight.layout.layout.shadow_below b (sym (are.has b) ∙ h) in omega (arith, own, tight.first))
    (λ b h. let own = from_all (λ c. c < bit_count d) regs below b h in omega (arith, own))

-- all of a list
all_of : (calls : List Call) → calls_of_run calls (record { from = 0; to = length calls }) ≡ calls
all_of calls = take_all (length calls - 0) calls (omega arith)

pub whole : (d : Design) (clocks : List ℕ) (l : Layout) (settling blocks registers : List ℕ) (lowered : Lowered) (resets settled stepped more most : List Call)
    → settled ≡ resets ++ more → stepped ≡ settled ++ most → lowered.program ≡ stepped ++ copy_shadows l registers
    → AreResetsOf d clocks l blocks resets → lowered.resets ≡ record { from = 0; to = length resets }
    → AreRunsOf d l settled settling lowered.settling.items → AreRunsOf d l stepped blocks lowered.blocks.items
    → lowered.copy ≡ record { from = length stepped; to = length lowered.program }
    → AreIn (slots_of_design d) stepped → AreIn (slots_of_design d) (copy_shadows l registers)
    → IsLoweredDesign d clocks l settling blocks registers lowered
whole d clocks l settling blocks registers lowered resets settled stepped more most e f p resets_are resets_run settling_are blocks_are copy_run slots copy_slots = record {
  resets_within = subst (IsRunWithin (length lowered.program)) (sym resets_run) (record { order = omega arith; there = omega (arith, long_settled, long_stepped, long) });
  resets_are = subst (λ (cs : List Call). AreResetsOf d clocks l blocks cs) (sym its_resets) resets_are;
  settling_are = subst (λ (cs : List Call). AreRunsOf d l cs settling lowered.settling.items) (sym p)
      (runs_grown d l stepped (copy_shadows l registers) settling lowered.settling.items (subst (λ (cs : List Call). AreRunsOf d l cs settling lowered.settling.items) (sym f) (runs_grown d l settled most settling lowered.settling.items settling_are)));
  blocks_are = subst (λ (cs : List Call). AreRunsOf d l cs blocks lowered.blocks.items) (sym p) (runs_grown d l stepped (copy_shadows l registers) blocks lowered.blocks.items blocks_are);
  copy_within = subst (IsRunWithin (length lowered.program)) (sym copy_run) (record { order = omega (arith, long); there = omega arith });
  copy_is = its_copy;
  slots = subst (AreIn (slots_of_design d)) (sym p) (both_in (slots_of_design d) stepped (copy_shadows l registers) slots copy_slots);
}
  where
    long_settled : length settled ≡ length resets + length more
    long_settled = ap length e ∙ length-append resets more

    long_stepped : length stepped ≡ length settled + length most
    long_stepped = ap length f ∙ length-append settled most

    long : length lowered.program ≡ length stepped + length (copy_shadows l registers)
    long = ap length p ∙ length-append stepped (copy_shadows l registers)

    shape : lowered.program ≡ resets ++ (more ++ (most ++ copy_shadows l registers))
    shape = p ∙ ap (λ (cs : List Call). cs ++ copy_shadows l registers) (f ∙ ap (λ (cs : List Call). cs ++ most) e)
        ∙ append_assoc (resets ++ more) most (copy_shadows l registers) ∙ append_assoc resets more (most ++ copy_shadows l registers)

    its_resets : calls_of_run lowered.program lowered.resets ≡ resets
    its_resets = ap (calls_of_run lowered.program) resets_run
        ∙ ap (λ (cs : List Call). calls_of_run cs (record { from = 0; to = length resets })) shape
        ∙ part_of_first resets (more ++ (most ++ copy_shadows l registers)) 0 (length resets) (omega arith) (omega arith)
        ∙ all_of resets

    its_copy : calls_of_run lowered.program lowered.copy ≡ copy_shadows l registers
    its_copy = ap (calls_of_run lowered.program) copy_run
        ∙ ap (λ (cs : List Call). calls_of_run cs (record { from = length stepped; to = length cs })) p
        ∙ part_of_second stepped (copy_shadows l registers)
