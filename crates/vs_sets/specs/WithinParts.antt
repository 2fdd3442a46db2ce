-- The parts of an expression that names bits among the first n alone.
use Rattle.std.specs.Prelude.{◌≡◌, ℕ, true}
use Rattle.vs_design.specs.Expressions.{Expression, Literal, Name, Select, Word, WordPart, Unary, Binary, Choice, Join, Repeat, At, Call}
use Rattle.vs_design.specs.Within.{signal_within, source_within, names_within, items_within}

-- they name such bits alone too
abbrev pub WithinParts : ℕ → Expression → Type 0
WithinParts n (Literal bits signed sized) = Unit {0}
WithinParts n (Name signal) = signal_within n signal ≡ true
WithinParts n (Select source part index) = (source_within n source ≡ true) × (names_within n index ≡ true)
WithinParts n (Word signal index) = (signal_within n signal ≡ true) × (names_within n index ≡ true)
WithinParts n (WordPart signal address part index) = (signal_within n signal ≡ true) × (names_within n address ≡ true) × (names_within n index ≡ true)
WithinParts n (Unary op a) = names_within n a ≡ true
WithinParts n (Binary op a b) = (names_within n a ≡ true) × (names_within n b ≡ true)
WithinParts n (Choice c p q) = (names_within n c ≡ true) × (names_within n p ≡ true) × (names_within n q ≡ true)
WithinParts n (Join high low) = (names_within n high ≡ true) × (names_within n low ≡ true)
WithinParts n (Repeat count a) = names_within n a ≡ true
WithinParts n (At place e) = WithinParts n e
WithinParts n (Call header statement arguments) = items_within n arguments ≡ true
