-- The clocked blocks that stir each bit, as far as they matter.
use Rattle.std.specs.Prelude.{◌≡◌, ◌≢◌, ◌<◌, ◌==◌, ◌&&◌, ◌||◌, ℕ, Bool, true, false, not, if◌then◌else◌, List, length, nat_lt, slice_index, slice_index_or, Option, Some, None}
use Rattle.std.specs.List.{list_any}
use Rattle.vs_design.specs.Designs.{Design, bit_count}
use Rattle.vs_design.specs.Footprints.{contains}
use Rattle.vs_design.specs.Levels.{at_number}
use Rattle.vs_design.specs.Races.{at_once_bits, stirred}
use Rattle.vs_reads.specs.Footprint.{Footprint, reads_at, writes_at, waits_at}
use Rattle.vs_race.specs.declared.stirrer.Stirrer.{Stirrer}
use Rattle.vs_race.specs.declared.stirrer.Stirrer.TheVariants.{Nobody, One, Several}

-- those of both
abbrev pub joined : Stirrer → Stirrer → Stirrer
joined Nobody other = other
joined (One p) Nobody = One p
joined (One p) (One q) = if p == q then One p else Several
joined (One p) Several = Several
joined Several other = Several

-- another one than p is among them
abbrev pub has_other : Stirrer → ℕ → Bool
has_other Nobody p = false
has_other (One q) p = not (q == p)
has_other Several p = true

-- what it tells of a test of processes
abbrev pub Tells : Stirrer → (ℕ → Bool) → Type 0
Tells Nobody stirs = (q : ℕ) → stirs q ≡ false
Tells (One p) stirs = (q : ℕ) → stirs q ≡ (q == p)
Tells Several stirs = (p : ℕ) × (q : ℕ) × (p ≢ q) × (stirs p ≡ true) × (stirs q ≡ true)

abbrev pub stirrer_at : List Stirrer → ℕ → Stirrer
stirrer_at table b = slice_index_or table b Nobody

-- what a table tells of each bit
abbrev pub AreTold : List Stirrer → (ℕ → ℕ → Bool) → Type 0
AreTold table stirs = (b : ℕ) → b < length table → Tells (stirrer_at table b) (stirs b)

abbrev pub IsWithin : ℕ → List ℕ → Type 0
IsWithin n bits = (b : ℕ) → contains bits b ≡ true → b < n

-- those of g stir these bits too
abbrev pub with_noted : (ℕ → ℕ → Bool) → List ℕ → (ℕ → Bool) → ℕ → ℕ → Bool
with_noted f bits g b q = f b q || (contains bits b && g q)

-- what stirs a bit that p reads or waits on stirs those that it writes
abbrev pub passed_on : (ℕ → ℕ → Bool) → List Footprint → ℕ → ℕ → ℕ → Bool
passed_on f prints p b q = f b q || (contains (writes_at prints p) b && (list_any (λ c. f c q) (reads_at prints p) || list_any (λ c. f c q) (waits_at prints p)))

-- q is one of the processes before n and writes the bit at once
abbrev pub seeds_bit : Design → ℕ → ℕ → ℕ → Bool
seeds_bit d n b q = nat_lt q n && at_number q d.processes (λ x. contains (at_once_bits x) b)

-- q stirs the bit
abbrev pub stirs_bit : Design → List ℕ → ℕ → ℕ → Bool
stirs_bit d order b q = at_number q d.processes (λ x. contains (stirred d order x) b)

pub record IsSeeded (d : Design) (n : ℕ) (table : List Stirrer) : Type 0 where
  pub count : length table ≡ bit_count d
  pub told : AreTold table (seeds_bit d n)

pub record IsTableOf (d : Design) (order : List ℕ) (table : List Stirrer) : Type 0 where
  pub count : length table ≡ bit_count d
  pub told : AreTold table (stirs_bit d order)

-- the first of these bits that another one than p stirs
abbrev pub IsFirstStirred : List Stirrer → List ℕ → ℕ → Option ℕ → Type 0
IsFirstStirred table bits p None = (k : ℕ) → k < length bits → has_other (stirrer_at table (slice_index bits k)) p ≡ false
IsFirstStirred table bits p (Some bit) =
    (k : ℕ) × (k < length bits) × (slice_index bits k ≡ bit) × (has_other (stirrer_at table bit) p ≡ true) × ((j : ℕ) → j < k → has_other (stirrer_at table (slice_index bits j)) p ≡ false)
