-- Arms of a flat design, cut from one list of labels and one of statements.
use Rattle.std.specs.Prelude.{ℕ, List, [], ◌∷◌, map, length, take, drop, slice_index_or}
use Rattle.vs_ast.specs.declared.statements.CaseArm.{CaseArm}
use Rattle.vs_flat.specs.declared.statements.Arm.{Arm}

-- how many labels each arm of the text has
abbrev pub label_counts : List CaseArm → List ℕ
label_counts arms = map (λ (a : CaseArm). length a.labels.items) arms

-- so many labels for each arm, in order, and the next statement
abbrev pub cut : List ℕ → List ℕ → List ℕ → List Arm
cut [] labels statements = []
cut (n ∷ ns) labels statements = record { items = take n labels; statement = slice_index_or statements 0 0 } ∷ cut ns (drop n labels) (drop 1 statements)
