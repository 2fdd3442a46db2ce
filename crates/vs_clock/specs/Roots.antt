-- Labels of bits by the inputs that they copy.
use Rattle.std.specs.Prelude.{◌≡◌, ◌<◌, ℕ, true, length, List, [], ◌∷◌, find, Option}
use Rattle.vs_design.specs.Designs.{Design}
use Rattle.vs_design.specs.Footprints.{contains}
use Rattle.vs_design.specs.Clocks.{clock_nets}
use Rattle.vs_clock.specs.Ports.{copies}
use Rattle.vs_clock.specs.Spread.{targets_at, label_at, has_label}

-- all copies of the design
abbrev pub AreAllTargets : Design → List (List ℕ) → Type 0
AreAllTargets d targets = (b t : ℕ) → contains (targets_at targets b) t ≡ copies d.processes b t

-- what is copied to is one of the bits
abbrev pub AreWithin : List (List ℕ) → Type 0
AreWithin targets = (b t : ℕ) → contains (targets_at targets b) t ≡ true → t < length targets

-- what has a label leads to what has one
abbrev pub AreClosed : List (List ℕ) → List (Option ℕ) → Type 0
AreClosed targets labels = (b t : ℕ) → has_label labels b ≡ true → contains (targets_at targets b) t ≡ true → has_label labels t ≡ true

-- the first of these bits whose nets have the bit
abbrev pub root_among : Design → List ℕ → ℕ → Option ℕ
root_among d roots b = find (λ i. contains (clock_nets d (i ∷ [])) b) roots

-- each bit is labelled by the first of the roots that it copies
abbrev pub AreRoots : Design → List ℕ → List (Option ℕ) → Type 0
AreRoots d roots labels = (b : ℕ) → label_at labels b ≡ root_among d roots b
