-- Tables by function, step by step.
use Rattle.std.proofs.Common.{◌≡◌, ℕ, zero, suc, ◌+◌, ◌≤◌, ◌<◌, Bool, true, false, List, [], ◌∷◌, ◌++◌, length, Option, Some, None, refl, sym, ap, ◌∙◌, subst, arith, ◌⊎◌, inl, inr}
use Rattle.std.specs.Prelude.{◌↔◌, slice_get, slice_index_or}
use Rattle.std.proofs.lemmas.Bool.{cases_lt}
use Rattle.std.proofs.lemmas.List.{get_or_append_left}
use Rattle.std.proofs.Math.Seq.{get_or-append_seam}
use Rattle.vs_design.specs.Designs.{Design}
use Rattle.vs_design.specs.Elaborated.{is_formed_statement}
use Rattle.vs_design.specs.Fits.{fits_statement}
use Rattle.vs_design.specs.PlaceLaws.{StatementPlacesAgree, StatementFits}
use Rattle.vs_design.specs.Refusals.{least, wide_in_statement, divisions_in_statement}
use Rattle.vs_design.specs.Statements.{Statement, Function}
use Rattle.vs_flat.specs.declared.functions.Body.{Body}
use Rattle.vs_flat.specs.Arena.{Arena, body_at}
use Rattle.vs_flat.specs.DesignOf.{design_of, header_of}
use Rattle.vs_flat.specs.Laws.{EachFunction}
use Rattle.vs_shape.specs.Bodies.{body_of}
use Rattle.vs_typed.specs.declared.places.Rule.{Rule}
use Rattle.vs_typed.specs.declared.places.Rule.TheVariants.{Wide, Division}
use Rattle.vs_typed.specs.Functions.{HaveWeights, are_none}
use Rattle.vs_typed.specs.Places.{statement_places, AreLeast}
use Rattle.vs_typed.specs.Weights.{AreWeights, IsWeight}

-- ---- one more

longer : {A : Type 0} (xs : List A) (x : A) → length (xs ++ x ∷ []) ≡ length xs + 1
longer [] x = refl
longer (y ∷ xs) x = let l = longer xs x in omega (arith, l)

-- what holds of each of a list and of one more holds of each of both
module _ (holds : ℕ → Option ℕ → Type 0) where
  pub each_more : (table : List (Option ℕ)) (x : Option ℕ) → ((f : ℕ) → f < length table → holds f (slice_index_or table f None)) → holds (length table) x → (f : ℕ) → f < length (table ++ x ∷ []) → holds f (slice_index_or (table ++ x ∷ []) f None)
  each_more table x h here f inside = at (cases_lt f (length table))
    where
      at : (f < length table) ⊎ (length table ≤ f) → holds f (slice_index_or (table ++ x ∷ []) f None)
      at (inl l) = subst (holds f) (sym (get_or_append_left table (x ∷ []) None f l)) (h f l)
      at (inr l) =
          let is : length table ≡ f = omega (arith, l, inside, longer table x) in
          subst (λ n. holds n (slice_index_or (table ++ x ∷ []) n None)) is (subst (holds (length table)) (sym (get_or-append_seam table x [] None)) here)

pub least_pushed : (a : Arena) (rule : Rule) (table : List (Option ℕ)) (f : ℕ) (x : Option ℕ) → AreLeast a rule table → f ≡ length table → f < length a.bodies
    → ((b : Body) → body_at a f ≡ Some b → (at : ℕ) → x ≡ least (statement_places rule at (body_of a b.statement))) → AreLeast a rule (table ++ x ∷ [])
least_pushed a rule table f x are next there is = record { few = omega (arith, longer table x, next, there); each = each }
  where
    holds : ℕ → Option ℕ → Type 0
    holds g y = (b : Body) → body_at a g ≡ Some b → (at : ℕ) → y ≡ least (statement_places rule at (body_of a b.statement))

    each : (g : ℕ) (b : Body) → g < length (table ++ x ∷ []) → body_at a g ≡ Some b → (at : ℕ) → slice_index_or (table ++ x ∷ []) g None ≡ least (statement_places rule at (body_of a b.statement))
    each g b inside = each_more holds table x (λ k l c. are.each k c l) (subst (λ n. holds n x) next is) g inside b

pub weight_pushed : (a : Arena) (table : List (Option ℕ)) (f : ℕ) (x : Option ℕ) → AreWeights a table → f ≡ length table → f < length a.bodies → ((b : Body) → body_at a f ≡ Some b → IsWeight (body_of a b.statement) x) → AreWeights a (table ++ x ∷ [])
weight_pushed a table f x are next there is = record { few = omega (arith, longer table x, next, there); each = each }
  where
    holds : ℕ → Option ℕ → Type 0
    holds g y = (b : Body) → body_at a g ≡ Some b → IsWeight (body_of a b.statement) y

    each : (g : ℕ) (b : Body) → g < length (table ++ x ∷ []) → body_at a g ≡ Some b → IsWeight (body_of a b.statement) (slice_index_or (table ++ x ∷ []) g None)
    each g b inside = each_more holds table x (λ k l c. are.each k c l) (subst (λ n. holds n x) next is) g inside b

pub one_longer : (table : List (Option ℕ)) (f : ℕ) (x : Option ℕ) → length table ≡ f → length (table ++ x ∷ []) ≡ f + 1
one_longer table f x h = omega (arith, longer table x, h)

-- ---- whether a function fits

nothing_least : (ns : List ℕ) → None ≡ least ns → ns ≡ []
nothing_least [] h = refl
nothing_least (n ∷ ns) h = absurd (let z : ⊥ = cc in z)

some_least : (ns : List ℕ) (n : ℕ) → Some n ≡ least ns → ns ≡ [] → ⊥
some_least [] n h e = cc
some_least (m ∷ ns) n h e = cc

pub clear_is : StatementPlacesAgree → StatementFits → (d : Design) (s : Statement) (at : ℕ) → is_formed_statement d s ≡ true → (w v : Option ℕ) → w ≡ least (statement_places Wide at s) → v ≡ least (statement_places Division at s) → are_none w v ≡ fits_statement s
clear_is agree law d s at formed w v is_w is_v = go w v (is_w ∙ ap least (agree s at).0) (is_v ∙ ap least (agree s at).1) (fits_statement s) refl
  where
    both : (fits_statement s ≡ true) ↔ ((wide_in_statement at s ≡ []) × (divisions_in_statement at s ≡ []))
    both = law d s formed at

    go : (w v : Option ℕ) → w ≡ least (wide_in_statement at s) → v ≡ least (divisions_in_statement at s) → (fit : Bool) → fits_statement s ≡ fit → are_none w v ≡ fit
    go None None p q true e = refl
    go None None p q false e = absurd (apart (fits_statement s) (both.1 (nothing_least (wide_in_statement at s) p, nothing_least (divisions_in_statement at s) q)) e)
      where
        apart : (b : Bool) → b ≡ true → b ≡ false → ⊥
        apart true h k = cc
        apart false h k = cc
    go None (Some n) p q true e = absurd (some_least (divisions_in_statement at s) n q (both.0 e).1)
    go None (Some n) p q false e = refl
    go (Some m) v p q true e = absurd (some_least (wide_in_statement at s) m p (both.0 e).0)
    go (Some m) None p q false e = refl
    go (Some m) (Some n) p q false e = refl

pub same_body : (a : Arena) (f : ℕ) (b c : Body) → body_at a f ≡ Some b → body_at a f ≡ Some c → b ≡ c
same_body a f b c p q = same b c (sym p ∙ q)
  where
    same : (b c : Body) → Some b ≡ Some c → b ≡ c
    same b c e = cc

-- ---- of the plain design

found_in : {A : Type 0} (xs : List A) (n : ℕ) → n < length xs → (x : A) × (slice_get xs n ≡ Some x)
found_in [] n h = absurd (omega (arith, h))
found_in (x ∷ xs) zero h = (x, refl)
found_in (x ∷ xs) (suc n) h = found_in xs n (omega (arith, h))

within : {A : Type 0} (xs : List A) (n : ℕ) (x : A) → slice_get xs n ≡ Some x → n < length xs
within [] n x h = cc
within (y ∷ xs) zero x h = omega arith
within (y ∷ xs) (suc n) x h = let l = within xs n x h in omega (arith, l)

at_index : (xs : List (Option ℕ)) (n : ℕ) (x : Option ℕ) → slice_get xs n ≡ Some x → slice_index_or xs n None ≡ x
at_index [] n x h = cc
at_index (y ∷ xs) zero x h = cc
at_index (y ∷ xs) (suc n) x h = at_index xs n x h

pub have_weights : EachFunction → (a : Arena) → length a.bodies ≤ length a.functions → (weights : List (Option ℕ)) → AreWeights a weights → HaveWeights (design_of a).functions weights
have_weights law a matched weights are f x w is at =
    let inside = within weights f w at in
    let b = found_in a.bodies f (omega (arith, inside, are.few)) in
    let d = found_in a.functions f (omega (arith, inside, are.few, matched)) in
    let found : Function = record { header = header_of d.0.function; statement = body_of a b.0.statement } in
    let e = same found x (sym (law a f d.0 b.0 d.1 b.1) ∙ is) in
    subst (λ (y : Function). IsWeight y.statement w) e (subst (IsWeight (body_of a b.0.statement)) (at_index weights f w at) (are.each f b.0 inside b.1))
  where
    same : (x y : Function) → Some x ≡ Some y → x ≡ y
    same x y e = cc
