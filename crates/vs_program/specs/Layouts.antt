-- The layout of a design's slots: the constants, the bits, the next values of the registers, the masks of the sleeping blocks, and the temporaries of the widest process.
use Rattle.std.specs.Prelude.{◌≡◌, ℕ, suc, ◌+◌, ◌<◌, ◌≤◌, true, List, [], ◌∷◌, max, length, if◌then◌else◌, ◌==◌, Some, slice_get}
use Rattle.vs_design.specs.Designs.{Process, Design, bit_count}
use Rattle.vs_design.specs.Footprints.{contains}
use Rattle.vs_design.specs.Sleepers.{is_sleeping}
use Rattle.vs_design.specs.Sizes.{distinct, process_weight, register_bits}
use Rattle.vs_cone.specs.Lists.{HasEachOnce}
use Rattle.vs_program.specs.Lowered.{Layout, IsLayout, home}

-- at which place of the list a number stands
abbrev pub place_of : List ℕ → ℕ → ℕ
place_of [] b = 0
place_of (c ∷ cs) b = if b == c then 0 else suc (place_of cs b)

-- the list has the bits of the registers, each once
abbrev pub AreRegisters : Design → List ℕ → Type 0
AreRegisters d regs = HasEachOnce (register_bits d.processes) regs

-- the numbers of the sleeping blocks of the list, which is numbered from p on
abbrev pub sleepers_from : Design → ℕ → List Process → List ℕ
sleepers_from d p [] = []
sleepers_from d p (x ∷ xs) = if is_sleeping d x then (p ∷ sleepers_from d (suc p) xs) else sleepers_from d (suc p) xs

-- the numbers of the sleeping blocks, in order
abbrev pub sleepers : Design → List ℕ
sleepers d = sleepers_from d 0 d.processes

-- the slot of the first one's mask
abbrev pub first_mask : Design → ℕ
first_mask d = home (bit_count d) + distinct (register_bits d.processes)

-- the slot of the mask of the sleeping block of this number
abbrev pub mask_of : Design → ℕ → ℕ
mask_of d p = first_mask d + place_of (sleepers d) p

-- the layout by such a list of registers: the next value of each stands at its place of the list
abbrev pub layout_of : Design → List ℕ → Layout
layout_of d regs = record {
  bits = bit_count d;
  shadow = λ b. home (bit_count d) + place_of regs b;
  first_temp = first_mask d + length (sleepers d);
}

-- the greatest weight of a process of the list
abbrev pub widest_of : List Process → ℕ
widest_of [] = 0
widest_of (x ∷ xs) = max (process_weight x) (widest_of xs)

-- of all: how many temporaries the processes need
abbrev pub widest : Design → ℕ
widest d = widest_of d.processes

-- how many slots there are at most: the constants, one for each bit, a second one for each register bit, one for each sleeping block, and the temporaries of one process
abbrev pub slots_of_design : Design → ℕ
slots_of_design d = 4 + bit_count d + distinct (register_bits d.processes) + length (sleepers d) + widest d

-- the layout is one of the design: the shadows stand below the masks, and these below the temporaries
pub record IsLayoutOf (d : Design) (l : Layout) : Type 0 where
  pub bits : l.bits ≡ bit_count d
  pub layout : IsLayout l (register_bits d.processes)
  pub below_masks : (b : ℕ) → contains (register_bits d.processes) b ≡ true → l.shadow b < first_mask d
  pub masks : first_mask d + length (sleepers d) ≤ l.first_temp

-- it is one of the design, and the temporaries of each process have room
pub record LayoutFits (d : Design) (regs : List ℕ) : Type 0 where
  pub layout : IsLayoutOf d (layout_of d regs)
  pub room : (q : ℕ) (x : Process) → slice_get d.processes q ≡ Some x → (layout_of d regs).first_temp + process_weight x ≤ slots_of_design d
  pub temps : (layout_of d regs).first_temp ≤ slots_of_design d

-- so is the layout by any such list
abbrev pub LayoutsFit : Type 0
LayoutsFit = (d : Design) (regs : List ℕ) → AreRegisters d regs → LayoutFits d regs

-- the mask of the sleeping block of this number stands between the bits and the temporaries, and no other one has the same
pub record MaskFits (d : Design) (l : Layout) (p : ℕ) : Type 0 where
  pub above : home l.bits ≤ mask_of d p
  pub below : mask_of d p < l.first_temp
  pub own : (q : ℕ) → contains (sleepers d) q ≡ true → mask_of d p ≡ mask_of d q → p ≡ q

-- so each mask does
abbrev pub MasksFit : Type 0
MasksFit =
    (d : Design) (l : Layout) → IsLayoutOf d l
    → (p : ℕ) (x : Process) → slice_get d.processes p ≡ Some x → is_sleeping d x ≡ true → MaskFits d l p
