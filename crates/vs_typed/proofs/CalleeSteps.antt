-- What is found of a function that is called.
use Rattle.std.proofs.Common.{◌≡◌, ℕ, zero, suc, ◌<◌, List, [], ◌∷◌, ◌++◌, length, min, Option, Some, None, refl, sym, ap, ap₂, ◌∙◌, subst, arith}
use Rattle.std.specs.Prelude.{slice_get, slice_index_or}
use Rattle.vs_design.specs.Expressions.{Items}
use Rattle.vs_design.specs.Statements.{Statement}
use Rattle.vs_design.specs.PlaceLaws.{ItemPlacesAgree, StatementPlacesAgree}
use Rattle.vs_design.specs.Refusals.{least_with, least}
use Rattle.vs_flat.specs.declared.functions.Body.{Body}
use Rattle.vs_flat.specs.Arena.{Arena, body_at}
use Rattle.vs_flat.specs.DesignOf.{arena_statements, callee_of, statement_in}
use Rattle.vs_shape.specs.Bodies.{body_of}
use Rattle.vs_shape.specs.Nodes.{tree_of}
use Rattle.vs_typed.specs.declared.places.Rule.{Rule}
use Rattle.vs_typed.specs.declared.places.Rule.TheVariants.{Wide, Division}
use Rattle.vs_typed.specs.Places.{least_from, lesser_of, call_places, item_places, statement_places, AreLeast}
use Rattle.vs_typed.specs.Weights.{AreWeights, IsWeight}
use Rattle.vs_typed.proofs.LeastSteps.{from_none, from_append, with_min}

-- ---- its statement

-- it is that of the arena
pub record HasBody (a : Arena) (f : ℕ) : Type 0 where
  pub body : Body
  pub at : body_at a f ≡ Some body
  pub is : (callee_of a (tree_of a) f).statement ≡ body_of a body.statement

pub has_body : (a : Arena) (f : ℕ) → f < length a.bodies → HasBody a f
has_body a f h = let b = found a.bodies f h in record { body = b.0; at = b.1; is = ap (statement_in (arena_statements a)) b.1 }
  where
    found : (bodies : List Body) (n : ℕ) → n < length bodies → (b : Body) × (slice_get bodies n ≡ Some b)
    found [] n h = absurd (omega (arith, h))
    found (b ∷ bodies) zero h = (b, refl)
    found (b ∷ bodies) (suc n) h = found bodies n (omega (arith, h))

pub least_of_callee : (a : Arena) (rule : Rule) (table : List (Option ℕ)) → AreLeast a rule table → (f : ℕ) → f < length table → (at : ℕ) → slice_index_or table f None ≡ least (statement_places rule at (callee_of a (tree_of a) f).statement)
least_of_callee a rule table are f h at =
    let b = has_body a f (omega (arith, h, are.few)) in
    are.each f b.body h b.at at ∙ ap (λ s. least (statement_places rule at s)) (sym b.is)

pub weight_of_callee : (a : Arena) (table : List (Option ℕ)) → AreWeights a table → (f : ℕ) → f < length table → IsWeight (callee_of a (tree_of a) f).statement (slice_index_or table f None)
weight_of_callee a table are f h =
    let b = has_body a f (omega (arith, h, are.few)) in
    subst (λ s. IsWeight s (slice_index_or table f None)) (sym b.is) (are.each f b.body h b.at)

-- ---- its least place

lesser_least : (best : Option ℕ) (ns : List ℕ) → lesser_of best (least ns) ≡ least_from best ns
lesser_least best [] = sym (from_none best)
lesser_least None (n ∷ ns) = refl
lesser_least (Some k) (n ∷ ns) =
    let e : min k (least_with n ns) ≡ min (least_with n ns) k = omega arith in
    let g : min n k ≡ min k n = omega arith in
    ap Some (e ∙ sym (with_min n k ns) ∙ ap (λ m. least_with m ns) g)

call_is : ItemPlacesAgree → StatementPlacesAgree → (rule : Rule) (at : ℕ) (es : Items) (place : ℕ) (s : Statement) → call_places rule at es place s ≡ item_places rule at es ++ statement_places rule place s
call_is items statements Wide at es place s = sym (ap₂ ◌++◌ (items es at).0 (statements s place).0)
call_is items statements Division at es place s = sym (ap₂ ◌++◌ (items es at).1 (statements s place).1)

-- after a call's arguments comes its statement
pub call_done : ItemPlacesAgree → StatementPlacesAgree → (rule : Rule) (at : ℕ) (es : Items) (place : ℕ) (s : Statement) (head after found : Option ℕ) (callee : Option ℕ) → after ≡ least_from head (item_places rule at es)
    → callee ≡ least (statement_places rule place s) → found ≡ lesser_of after callee → found ≡ least_from head (call_places rule at es place s)
call_done items statements rule at es place s head after found callee arguments is f =
    f ∙ ap (lesser_of after) is ∙ lesser_least after (statement_places rule place s) ∙ ap (λ b. least_from b (statement_places rule place s)) arguments ∙ sym (from_append head (item_places rule at es) (statement_places rule place s))
    ∙ ap (least_from head) (sym (call_is items statements rule at es place s))
