-- The places of what is refused, by rule, and the least of them.
use Rattle.std.specs.Prelude.{◌≡◌, ◌<◌, ◌≤◌, ℕ, length, not, ◌&&◌, List, [], ◌∷◌, ◌++◌, if◌then◌else◌, Option, Some, None, slice_index_or}
use Rattle.vs_design.specs.Expressions.{Expression, Literal, Name, Select, Word, WordPart, Unary, Binary, Choice, Join, Repeat, At, Call, Items, BinaryOp, width, is_constant}
use Rattle.vs_design.specs.Statements.{Target, target_width, Statement, Arms}
use Rattle.vs_flat.specs.declared.processes.Kind.{Kind}
use Rattle.vs_flat.specs.declared.processes.Kind.TheVariants as K
use Rattle.vs_flat.specs.Arena.{Arena, body_at}
use Rattle.vs_flat.specs.declared.functions.Body.{Body}
use Rattle.vs_shape.specs.Bodies.{body_of}
use Rattle.vs_shape.specs.Nodes.{tree_of}
use Rattle.vs_flat.specs.Targets.{target_of}
use Rattle.vs_flat.specs.Trees.{target_tree}
use Rattle.vs_design.specs.Designs.{Process, Initial}
use Rattle.vs_design.specs.Fits.{is_division}
use Rattle.vs_design.specs.Refusals.{least, least_with, over_64, place_in, wide_places, wide_in_items, wide_in_statement, division_places, divisions_in_items, divisions_in_statement, in_indices, in_items, in_statement, in_arms, in_process}
use Rattle.vs_typed.specs.declared.places.Rule.{Rule}
use Rattle.vs_typed.specs.declared.places.Rule.TheVariants.{Wide, Division}

abbrev pub places_of : Rule → ℕ → Expression → List ℕ
places_of Wide at e = wide_places at e
places_of Division at e = division_places at e

-- a target's own length counts too
abbrev pub own_places : Rule → ℕ → ℕ → List ℕ
own_places Wide at n = over_64 at n
own_places Division at n = []

-- the least of these and of the one so far
abbrev pub least_from : Option ℕ → List ℕ → Option ℕ
least_from None ns = least ns
least_from (Some n) ns = Some (least_with n ns)

-- the lesser of both
abbrev pub lesser_of : Option ℕ → Option ℕ → Option ℕ
lesser_of best None = best
lesser_of best (Some at) = least_from best (at ∷ [])

-- what an operator itself adds, and what its operands add
abbrev pub divided_at : ℕ → BinaryOp → Expression → Expression → List ℕ
divided_at at op a b = if is_division op && not (is_constant a && is_constant b) then (place_in at a ∷ []) else []

abbrev pub head_places : Rule → ℕ → Expression → List ℕ
head_places Wide at e = over_64 at (width e)
head_places Division at (Binary op a b) = divided_at at op a b
head_places Division at _ = []

-- of a call's arguments, and of its function's statement, which begins at this place
abbrev pub call_places : Rule → ℕ → Items → ℕ → Statement → List ℕ
call_places Wide at arguments place statement = wide_in_items at arguments ++ wide_in_statement place statement
call_places Division at arguments place statement = divisions_in_items at arguments ++ divisions_in_statement place statement

abbrev pub rest_places : Rule → ℕ → Expression → List ℕ
rest_places rule at (Literal bits signed sized) = []
rest_places rule at (Name signal) = []
rest_places rule at (Select source part index) = places_of rule at index
rest_places rule at (Word signal index) = places_of rule at index
rest_places rule at (WordPart signal address part index) = places_of rule at address ++ places_of rule at index
rest_places rule at (Unary op a) = places_of rule at a
rest_places rule at (Binary op a b) = places_of rule at a ++ places_of rule at b
rest_places rule at (Choice c p q) = places_of rule at c ++ (places_of rule at p ++ places_of rule at q)
rest_places rule at (Join high low) = places_of rule at high ++ places_of rule at low
rest_places rule at (Repeat count a) = places_of rule at a
rest_places rule at (At place e) = places_of rule at (At place e)
rest_places rule at (Call header statement arguments) = call_places rule at arguments header.place statement

-- no place stands before it
abbrev pub IsPlain : Expression → Type 0
IsPlain (At place e) = ⊥
IsPlain _ = Unit {0}

-- of one after the other
abbrev pub part_places : Rule → ℕ → List Expression → List ℕ
part_places rule at [] = []
part_places rule at (e ∷ es) = places_of rule at e ++ part_places rule at es

abbrev pub target_places : Rule → ℕ → Target → List ℕ
target_places rule at target = in_indices (places_of rule) at target

abbrev pub item_places : Rule → ℕ → Items → List ℕ
item_places rule at es = in_items (places_of rule) at es

abbrev pub statement_places : Rule → ℕ → Statement → List ℕ
statement_places rule at s = in_statement (places_of rule) (own_places rule) at s

abbrev pub arms_places : Rule → ℕ → Arms → List ℕ
arms_places rule at arms = in_arms (places_of rule) (own_places rule) at arms

abbrev pub process_places : Rule → Process → List ℕ
process_places rule p = in_process (places_of rule) (own_places rule) p

abbrev pub initial_places : Rule → Initial → List ℕ
initial_places rule i = statement_places rule i.place i.statement

-- of an assignment that begins at a place, with the place at which its target is told of
abbrev pub assignment_places : Rule → (own place : ℕ) → Target → Expression → List ℕ
assignment_places rule own place target e = own_places rule own (target_width target) ++ (target_places rule own target ++ places_of rule place e)

-- the expression is a target
abbrev pub HasTargetTree : Expression → Type 0
HasTargetTree e = target_of e ≡ Some (target_tree e)

-- the expressions and the statement of a process are there, and an assign writes a target
abbrev pub HasKindNames : Arena → Kind → Type 0
HasKindNames a (K.Assign target e port) = (target < length a.nodes) × (e < length a.nodes) × HasTargetTree (tree_of a target)
HasKindNames a (K.Block star events statement) = statement < length a.statements

-- of each of the first functions the least place in its statement, those of what it calls included
pub record AreLeast (a : Arena) (rule : Rule) (table : List (Option ℕ)) : Type 0 where
  pub few : length table ≤ length a.bodies
  pub each : (f : ℕ) (b : Body) → f < length table → body_at a f ≡ Some b → (at : ℕ) → slice_index_or table f None ≡ least (statement_places rule at (body_of a b.statement))
