-- Single values of what is lawful.
use Rattle.std.specs.Prelude.{◌≡◌, true, false, [], ◌∷◌}
use Rattle.vs_design.specs.Expressions as E
use Rattle.vs_flat.specs.declared.expressions.Node.TheVariants.{Name, Unary, Join}
use Rattle.vs_base.specs.declared.operators.UnaryOp.TheVariants.{BitNot}
use Rattle.vs_flat.specs.declared.processes.Port.TheVariants.{Written, Input}
use Rattle.vs_flat.specs.Arena.{placed}
use Rattle.vs_flat.specs.Lawful.{are_different, are_copies, is_target, are_chains, node_depths, nodes_name_earlier}
use Rattle.vs_flat.specs.Example.{plain_a, plain_y}

-- `{a, b}`, `{2{a, b}}`, `{3{a}}`, and what is neither
abbrev pub CopyRows : Type 0
CopyRows = (are_copies (1 ∷ 2 ∷ []) ≡ true) × (are_copies (1 ∷ 2 ∷ 1 ∷ 2 ∷ []) ≡ true) × (are_copies (1 ∷ 1 ∷ 1 ∷ []) ≡ true)
    × (are_copies [] ≡ false) × (are_copies (1 ∷ 2 ∷ 1 ∷ []) ≡ false) × (are_copies (1 ∷ 2 ∷ 2 ∷ []) ≡ false)

-- `y`, `{y}`, `{y, a}`, and as no targets `{2{y}}` and `~y`; by an input port `{y}` is none
abbrev pub TargetRows : Type 0
TargetRows = (is_target Written (E.At 1 (E.Name plain_y)) ≡ true) × (is_target Written (E.At 1 (E.Repeat 1 (E.Name plain_y))) ≡ true) × (is_target Written (E.Repeat 1 (E.Join (E.Name plain_y) (E.Name plain_a))) ≡ true)
    × (is_target Written (E.Repeat 2 (E.Name plain_y)) ≡ false) × (is_target Written (E.Unary E.BitNot (E.Name plain_y)) ≡ false)
    × (is_target Input (E.At 1 (E.Name plain_y)) ≡ true) × (is_target Input (E.At 1 (E.Repeat 1 (E.Name plain_y))) ≡ false)

abbrev pub NameRows : Type 0
NameRows = (are_different (1 ∷ 2 ∷ 3 ∷ []) ≡ true) × (are_different (1 ∷ 2 ∷ 1 ∷ []) ≡ false)
    × (nodes_name_earlier 1 0 (placed (Name 0) 0 ∷ placed (Unary BitNot 0) 0 ∷ []) ≡ true)
    × (nodes_name_earlier 1 0 (placed (Name 1) 0 ∷ []) ≡ false)
    × (nodes_name_earlier 1 0 (placed (Unary BitNot 0) 0 ∷ []) ≡ false)

-- a chain has at most 256 expressions
abbrev pub ChainRows : Type 0
ChainRows = (node_depths (placed (Name 0) 0 ∷ placed (Unary BitNot 0) 0 ∷ placed (Name 0) 0 ∷ placed (Join (2 ∷ 1 ∷ [])) 0 ∷ []) ≡ 1 ∷ 2 ∷ 1 ∷ 3 ∷ [])
    × (are_chains (1 ∷ 256 ∷ []) ≡ true) × (are_chains (1 ∷ 257 ∷ []) ≡ false)
