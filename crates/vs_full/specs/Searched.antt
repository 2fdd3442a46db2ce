-- What a search finds.
use Rattle.std.specs.Prelude.{◌≡◌, ◌+◌, ℕ, List, length, Option, Some, None, All}
use Rattle.vs_design.specs.Covers.{Pattern}

-- each pattern has n bits
abbrev pub AreLong : ℕ → List Pattern → Type 0
AreLong n ps = All (λ p. length p ≡ n) ps

-- so many splits were made, and taken off what was left
abbrev pub IsLeft : ℕ → ℕ → Option ℕ → Type 0
IsLeft before after (Some k) = before ≡ k + after
IsLeft before after None = ⊥
