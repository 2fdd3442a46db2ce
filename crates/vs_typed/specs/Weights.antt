-- Weights of several expressions, and of arms, one after the other.
use Rattle.std.specs.Prelude.{◌≡◌, ◌<◌, ◌≤◌, ◌+◌, ◌*◌, ◌&&◌, ℕ, Bool, true, false, min, List, [], ◌∷◌, length, if◌then◌else◌, Option, Some, None, slice_get, slice_index, slice_index_or, sum_by}
use Rattle.vs_four.specs.Selects.{range_length}
use Rattle.vs_four.specs.declared.Range.{Range}
use Rattle.vs_design.specs.Expressions.{Signal, Expression, items_of, BinaryOp, way, width, is_constant}
use Rattle.vs_design.specs.Fits.{is_fit}
use Rattle.vs_design.specs.Sizes.{declared_length, address_weight, arguments_weight, weight, binary_weight, is_shift, statement_weight, process_weight}
use Rattle.vs_design.specs.Fits.{fits_statement}
use Rattle.vs_design.specs.Statements.{Statement, Arms}
use Rattle.vs_design.specs.Designs.{Process}
use Rattle.vs_flat.specs.declared.functions.Body.{Body}
use Rattle.vs_flat.specs.declared.processes.Signal.{Signal as SignalOf}
use Rattle.vs_flat.specs.declared.statements.Arm.{Arm}
use Rattle.vs_flat.specs.Arena.{Arena, body_at, signal_length as length_of}
use Rattle.vs_flat.specs.Trees.{arms_tree}
use Rattle.vs_shape.specs.Bodies.{body_of}
use Rattle.vs_shape.specs.Nodes.{tree_of}

-- as far as a sum is told: 2^64 - 1 and all above it are one
abbrev pub capped : ℕ → ℕ
capped n = min n 18446744073709551615

-- what is told of the weight of a process
abbrev pub told_weight : Process → ℕ
told_weight p = capped (process_weight p)

-- by itself
abbrev pub own_weight : Expression → ℕ
own_weight e = weight e (width e)

abbrev pub own_weights : List Expression → ℕ
own_weights [] = 0
own_weights (e ∷ es) = own_weight e + own_weights es

-- what the arguments of a call cost, and the bits of the inputs that its function declares
abbrev pub call_inputs : List Expression → List Signal → ℕ
call_inputs es inputs = arguments_weight (items_of es) inputs + sum_by declared_length inputs

-- so many bits of an input count
abbrev pub input_weight : SignalOf → ℕ
input_weight s = if s.net then 0 else length_of s

-- of a select of so many bits
abbrev pub select_weight : ℕ → Range → Expression → ℕ
select_weight n range index = if is_constant index then 0 else (n * (range_length range * width index) + weight index (width index))

-- of a read of a word by this address, and what a write to one adds
abbrev pub word_weight : Signal → Expression → ℕ
word_weight signal index = if is_constant index then 0 else (address_weight signal (width index) + weight index (width index))

-- what an operator itself costs, by the lengths of its operands and whether they are constant
abbrev pub binary_own : BinaryOp → ℕ → ℕ → Bool → ℕ → Bool → ℕ
binary_own op w m k n l = if k && l then 0 else (if is_shift (way op) && l then 0 else binary_weight op w m n)

-- of expressions below e, all of which fit
abbrev pub EachFits : Arena → ℕ → List ℕ → Type 0
EachFits a e parts = (k : ℕ) → k < length parts → (slice_index parts k < e) × (is_fit (tree_of a (slice_index parts k)) ≡ true)

-- what a target's select by this index adds
abbrev pub index_weight : ℕ → Range → Expression → ℕ
index_weight n range index = if is_constant index then 0 else (n * (range_length range * (width index + 1)) + weight index (width index))

-- of arms with earlier statements, all of which fit, and whose items are below e
abbrev pub EachArmFits : Arena → (e s : ℕ) → List Arm → Type 0
EachArmFits a e s arms = (k : ℕ) (arm : Arm) → slice_get arms k ≡ Some arm → EachFits a e arm.items × (arm.statement < s) × (fits_statement (body_of a arm.statement) ≡ true)

-- the arms of a case with its default
abbrev pub arms_of : Arena → Option ℕ → List Arm → Arms
arms_of a other arms = arms_tree (tree_of a) (body_of a) other arms

-- the weight of a statement that fits
abbrev pub IsWeight : Statement → Option ℕ → Type 0
IsWeight s None = fits_statement s ≡ false
IsWeight s (Some w) = (fits_statement s ≡ true) × (w ≡ capped (statement_weight s))

-- of each of the first functions what its statement weighs, those of what it calls included
pub record AreWeights (a : Arena) (table : List (Option ℕ)) : Type 0 where
  pub few : length table ≤ length a.bodies
  pub each : (f : ℕ) (b : Body) → f < length table → body_at a f ≡ Some b → IsWeight (body_of a b.statement) (slice_index_or table f None)
