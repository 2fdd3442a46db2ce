-- The line of what a lane of a check missed first.
use Rattle.std.specs.Prelude.{ℕ, ◌≤◌, List, [], ◌∷◌, ◌++◌, length, codes}
use Rattle.std.proofs.Common.{lit≤}
use Rattle.std.specs.List.{flat_map}
use Rattle.vs_refusal.specs.declared.refusal.Field.{Field}
use Rattle.vs_refusal.specs.declared.refusal.Label.TheVariants as label
use Rattle.vs_refusal.specs.Refusals.{field, field_text}

-- the lane, the line of the vector in its stimulus, and the place of the output's name behind `->`
abbrev pub miss_fields : ℕ → ℕ → ℕ → List Field
miss_fields lane row output = field label.Lane lane ∷ field label.Line row ∷ field label.Output output ∷ []

-- there are few
pub few_miss_fields : (lane row output : ℕ) → length (miss_fields lane row output) ≤ 5
few_miss_fields lane row output = lit≤ tt

-- the digits that are wanted, and those that the output has
abbrev pub digits_text : List ℕ → List ℕ → List ℕ
digits_text wanted got = codes " wanted=" ++ (wanted ++ (codes " got=" ++ got))

-- `missed lane=0 line=3 output=0 wanted=0 got=1`, with the end of the line
abbrev pub miss_line : (lane row output : ℕ) (wanted got : List ℕ) → List ℕ
miss_line lane row output wanted got = codes "missed" ++ (flat_map field_text (miss_fields lane row output) ++ (digits_text wanted got ++ codes "\n"))
