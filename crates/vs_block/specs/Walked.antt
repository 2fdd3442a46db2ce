-- What a walk over the paths of a statement finds.
use Rattle.std.specs.Prelude.{◌≡◌, ◌<◌, ℕ, Bool, not, ◌&&◌, ◌||◌, List, length}
use Rattle.vs_design.specs.Statements.{Statement}
use Rattle.vs_design.specs.Footprints.{contains}
use Rattle.vs_design.specs.Latches.{assigned_after, early_reads}
use Rattle.vs_block.specs.Flags.{bit_at, is_set, AreFresh}

-- of the block's own bits: `assigned` are those before it, `found` those that it assigns besides on every path, and to `before` it adds the bits that some path reads before it assigns them
pub record IsWalked (own : List ℕ) (after early : List ℕ → List ℕ) (assigned before noted : List Bool) (found : List ℕ) : Type 0 where
  pub assigns : (k : ℕ) → k < length own → (bits : List ℕ) → contains bits (bit_at own k) ≡ is_set assigned k → contains (after bits) (bit_at own k) ≡ (is_set assigned k || contains found (bit_at own k))
  pub reads : (k : ℕ) → k < length own → (bits : List ℕ) → contains bits (bit_at own k) ≡ is_set assigned k → is_set noted k ≡ (is_set before k || contains (early bits) (bit_at own k))
  pub fresh : AreFresh own assigned found

-- of an arm that reads these bits in its items: `found` are those of the bits `paths`, which other paths assign besides, that it assigns too
pub record IsArmWalked (own items : List ℕ) (body : Statement) (assigned before noted : List Bool) (paths found : List ℕ) : Type 0 where
  pub assigns : (k : ℕ) → k < length own → (bits : List ℕ) → contains bits (bit_at own k) ≡ is_set assigned k
      → (is_set assigned k || contains found (bit_at own k)) ≡ ((is_set assigned k || contains paths (bit_at own k)) && contains (assigned_after body bits) (bit_at own k))
  pub reads : (k : ℕ) → k < length own → (bits : List ℕ) → contains bits (bit_at own k) ≡ is_set assigned k
      → is_set noted k ≡ (is_set before k || ((contains items (bit_at own k) && not (is_set assigned k)) || contains (early_reads body bits) (bit_at own k)))
  pub fresh : AreFresh own assigned found
