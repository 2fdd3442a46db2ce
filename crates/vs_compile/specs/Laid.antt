-- A design with a layout of its slots.
use Rattle.std.specs.Prelude.{◌≡◌, ℕ, ◌+◌, ◌<◌, ◌≤◌, true, All, List, length, slice_index}
use Rattle.vs_design.specs.Designs.{Design, bit_count}
use Rattle.vs_design.specs.Footprints.{contains}
use Rattle.vs_program.specs.Lowered.{Layout, home}
use Rattle.vs_program.specs.Layouts.{AreRegisters, place_of}
use Rattle.vs_assemble.specs.Plans.{IsTightLayout}
use Rattle.vs_compile.specs.Known.{Known}

-- a design, how many bits it has, by bit the slot of its next value, and the first temporary
pub record Laid : Type 0 where
  pub known : Known
  pub count : ℕ
  pub shadows : List ℕ
  pub first : ℕ

-- the layout whose shadows are in a table, by bit
abbrev pub table_layout : ℕ → List ℕ → ℕ → Layout
table_layout count shadows first = record { bits = count; shadow = slice_index shadows; first_temp = first }

abbrev pub laid_layout : Laid → Layout
laid_layout l = table_layout l.count l.shadows l.first

-- the table has a place for each bit of the design, and its layout is one of the design whose temporaries stand right behind the masks
pub record IsTable (d : Design) (count : ℕ) (shadows : List ℕ) (first : ℕ) : Type 0 where
  pub count_is : count ≡ bit_count d
  pub long : length shadows ≡ count
  pub layout : IsTightLayout d (table_layout count shadows first)

-- these are the bits of the registers, each once, all of them among so many, and no more than the size of a design allows
pub record AreFewRegisters (d : Design) (count : ℕ) (registers : List ℕ) : Type 0 where
  pub are : AreRegisters d registers
  pub below : All (λ b. b < count) registers
  pub few : length registers ≤ 16777216

-- the shadow of each of these bits stands at its place among them, behind the bits
abbrev pub HasPlaces : ℕ → List ℕ → List ℕ → Type 0
HasPlaces count registers shadows = (b : ℕ) → contains registers b ≡ true → slice_index shadows b ≡ home count + place_of registers b
