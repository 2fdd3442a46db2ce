-- Statements that run one after the other, and branches.
use Rattle.std.proofs.Common.{◌≡◌, ℕ, zero, suc, ◌+◌, ◌<◌, ◌≤◌, Bool, true, false, List, [], ◌∷◌, ◌++◌, length, map, take, drop, get_or, Option, Some, None, refl, sym, ap, ap₂, ◌∙◌, subst, arith, ◌⊎◌, inl, inr}
use Rattle.std.specs.Prelude.{◌&&◌, ◌||◌, ◌==◌, slice_get, slice_index, if◌then◌else◌, All}
use Rattle.std.specs.List.{list_all}
use Rattle.vs_design.specs.Expressions.{items_of}
use Rattle.vs_design.specs.Fits.{fit_items}
use mathlib.Core.Path.{fun_ext}
use Rattle.std.proofs.lemmas.List.{drop_more}
use Rattle.std.proofs.lemmas.List.Folds.{list_any-append}
use Rattle.std.proofs.lemmas.Bool.{cond-true, cond-false}
use Rattle.vs_design.specs.Footprints.{contains, statement_bits, arms_bits}
use Rattle.vs_design.specs.Expressions.{Expression, Items}
use Rattle.vs_design.specs.Statements.{Statement, Empty, If, Arms, Arm, Default}
use Rattle.vs_design.specs.Within.{items_within, statement_within, arms_within}
use Rattle.vs_design.specs.Fits.{fits_statement, fits_arms}
use Rattle.vs_four.specs.declared.Bit4.TheVariants.{X}
use Rattle.vs_design.specs.Sets.{union, only, is_only_x}
use Rattle.vs_design.specs.Lifted.{Family}
use Rattle.vs_design.specs.LiftedBodies.{either, lifted_body}
use Rattle.vs_design.specs.Sleepers.{at_once}
use Rattle.vs_flat.specs.declared.statements.Arm as F
use Rattle.vs_flat.specs.Arena.{Arena}
use Rattle.vs_flat.specs.Trees as R
use Rattle.vs_flat.specs.DesignOf.{design_of}
use Rattle.vs_design.proofs.Completed.{completed_bits}
use Rattle.vs_sets.specs.Branches.{replaced, branch_sets}
use Rattle.vs_sets.specs.Matches.{branches_of, IsOneOf, IsEither}
use Rattle.vs_sets.specs.StatementParts.{BranchBelow, ArmsBelow, BranchFacts, Covers, EachRuns, statement_of, arms_of}
use Rattle.vs_sets.specs.Nodes.{tree_of}
use Rattle.vs_sets.specs.Completing.{IsNext, done}
use Rattle.vs_sets.proofs.Fit.{and_left, and_right}
use Rattle.vs_sets.proofs.BranchSteps.{union_same, or_true}
use Rattle.vs_sets.proofs.Unwritten.{body_other, branch_sets-append}

-- ---- sequences

pub sequence_step : (s : Statement) (ss : List Statement) (f : Family) → lifted_body (at_once (R.sequence (s ∷ ss))) f ≡ lifted_body (at_once (R.sequence ss)) (lifted_body (at_once s) f)
sequence_step s [] f = refl
sequence_step s (t ∷ ss) f = refl

pub parts_step : (st : ℕ → Statement) (parts : List ℕ) (k : ℕ) (f : Family) → k < length parts
    → lifted_body (at_once (R.sequence (map st (drop k parts)))) f ≡ lifted_body (at_once (R.sequence (map st (drop (k + 1) parts)))) (lifted_body (at_once (st (get_or parts k 0))) f)
parts_step st parts k f h = ap (λ ps. lifted_body (at_once (R.sequence (map st ps))) f) (drop_more parts k 0 h) ∙ sequence_step (st (get_or parts k 0)) (map st (drop (k + 1) parts)) f

-- ---- what is written is covered

left_covers : (bits xs ys : List ℕ) → ((b : ℕ) → contains (xs ++ ys) b ≡ true → contains bits b ≡ true) → (b : ℕ) → contains xs b ≡ true → contains bits b ≡ true
left_covers bits xs ys h b k = h b (list_any-append (λ c. b == c) xs ys ∙ ap (λ q. q || contains ys b) k)

right_covers : (bits xs ys : List ℕ) → ((b : ℕ) → contains (xs ++ ys) b ≡ true → contains bits b ≡ true) → (b : ℕ) → contains ys b ≡ true → contains bits b ≡ true
right_covers bits xs ys h b k = h b (list_any-append (λ c. b == c) xs ys ∙ ap (λ q. contains xs b || q) k ∙ or_true (contains xs b))

nothing_covered : (bits : List ℕ) → Covers bits Empty
nothing_covered bits b h = absurd (let z : ⊥ = cc in z)

record IsRun (bits : List ℕ) (count : ℕ) (s : Statement) : Type 0 where
  fits : fits_statement s ≡ true
  within : statement_within count s ≡ true
  covers : Covers bits s

sequence_facts : (st : ℕ → Statement) (bits : List ℕ) (count : ℕ) (parts : List ℕ) (k : ℕ) → IsRun bits count (R.sequence (map st parts)) → k < length parts → IsRun bits count (st (get_or parts k 0))
sequence_facts st bits count [] k h inside = absurd (omega arith)
sequence_facts st bits count (p ∷ []) zero h inside = h
sequence_facts st bits count (p ∷ []) (suc k) h inside = absurd (omega arith)
sequence_facts st bits count (p ∷ q ∷ parts) zero h inside = record {
  fits = and_left _ _ h.fits;
  within = and_left _ _ h.within;
  covers = left_covers bits (statement_bits (st p)) (statement_bits (R.sequence (map st (q ∷ parts)))) h.covers;
}
sequence_facts st bits count (p ∷ q ∷ parts) (suc k) h inside =
    let rest : IsRun bits count (R.sequence (map st (q ∷ parts))) = record {
      fits = and_right (fits_statement (st p)) _ h.fits;
      within = and_right (statement_within count (st p)) _ h.within;
      covers = right_covers bits (statement_bits (st p)) (statement_bits (R.sequence (map st (q ∷ parts)))) h.covers;
    } in
    sequence_facts st bits count (q ∷ parts) k rest (omega arith)

pub parts_run : (a : Arena) (count n : ℕ) (bits parts : List ℕ) → ((k : ℕ) → k < length parts → slice_index parts k < n) → fits_statement (R.sequence (map (statement_of a) parts)) ≡ true
    → statement_within count (R.sequence (map (statement_of a) parts)) ≡ true → Covers bits (R.sequence (map (statement_of a) parts)) → EachRuns a count n bits parts
parts_run a count n bits parts below fit within covers k inside =
    let facts = sequence_facts (statement_of a) bits count parts k (record { fits = fit; within = within; covers = covers }) inside in
    record { earlier = below k inside; fits = facts.fits; within = facts.within; covers = facts.covers }

-- ---- branches of an `if`

pub either_facts : (a : Arena) (count n : ℕ) (bits : List ℕ) (taken : ℕ) (other : Option ℕ) (c : Expression) → taken < n → BranchBelow n other → fits_statement (statement_of a taken) ≡ true
    → fits_statement (R.branch (statement_of a) other) ≡ true → statement_within count (statement_of a taken) ≡ true → statement_within count (R.branch (statement_of a) other) ≡ true
    → Covers bits (If c (statement_of a taken) (R.branch (statement_of a) other)) → (b : Option ℕ) → IsEither taken other b → BranchFacts a count n bits b
either_facts a count n bits taken other c below otherwise fit fits within others covers b (inl e) =
    subst (BranchFacts a count n bits) (sym e) (record { earlier = below; fits = fit; within = within; covers = left_covers bits (statement_bits (statement_of a taken)) (statement_bits (R.branch (statement_of a) other)) covers })
either_facts a count n bits taken other c below otherwise fit fits within others covers b (inr e) =
    subst (BranchFacts a count n bits) (sym e) (record { earlier = otherwise; fits = fits; within = others; covers = right_covers bits (statement_bits (statement_of a taken)) (statement_bits (R.branch (statement_of a) other)) covers })

-- ---- arms of a case

record AreRun (bits : List ℕ) (count : ℕ) (arms : Arms) : Type 0 where
  fits : fits_arms arms ≡ true
  within : arms_within count arms ≡ true
  covers : (b : ℕ) → contains (arms_bits arms) b ≡ true → contains bits b ≡ true

rest_run : (tree : ℕ → Expression) (st : ℕ → Statement) (other : Option ℕ) (bits : List ℕ) (count : ℕ) (x : F.Arm) (arms : List F.Arm) → AreRun bits count (R.arms_tree tree st other (x ∷ arms)) → AreRun bits count (R.arms_tree tree st other arms)
rest_run tree st other bits count x arms h = record {
  fits = and_right (fit_items (items_of (map tree x.items)) && fits_statement (st x.statement)) _ h.fits;
  within = and_right (items_within count (items_of (map tree x.items)) && statement_within count (st x.statement)) _ h.within;
  covers = right_covers bits (statement_bits (st x.statement)) (arms_bits (R.arms_tree tree st other arms)) h.covers;
}

arm_facts : (tree : ℕ → Expression) (st : ℕ → Statement) (other : Option ℕ) (bits : List ℕ) (count : ℕ) (arms : List F.Arm) → AreRun bits count (R.arms_tree tree st other arms) → (k : ℕ) (arm : F.Arm) → slice_get arms k ≡ Some arm
    → IsRun bits count (st arm.statement)
arm_facts tree st other bits count [] h k arm e = absurd (let z : ⊥ = cc in z)
arm_facts tree st other bits count (x ∷ arms) h zero arm e =
    let same : x ≡ arm = cc in
    subst (λ (y : F.Arm). IsRun bits count (st y.statement)) same (record {
      fits = and_right (fit_items (items_of (map tree x.items))) _ (and_left _ _ h.fits);
      within = and_right (items_within count (items_of (map tree x.items))) _ (and_left _ _ h.within);
      covers = left_covers bits (statement_bits (st x.statement)) (arms_bits (R.arms_tree tree st other arms)) h.covers;
    })
arm_facts tree st other bits count (x ∷ arms) h (suc k) arm e = arm_facts tree st other bits count arms (rest_run tree st other bits count x arms h) k arm e

other_facts : (tree : ℕ → Expression) (st : ℕ → Statement) (other : Option ℕ) (bits : List ℕ) (count : ℕ) (arms : List F.Arm) → AreRun bits count (R.arms_tree tree st other arms) → IsRun bits count (R.branch st other)
other_facts tree st other bits count [] h = record { fits = h.fits; within = h.within; covers = h.covers }
other_facts tree st other bits count (x ∷ arms) h = other_facts tree st other bits count arms (rest_run tree st other bits count x arms h)

pub case_facts : (a : Arena) (count nodes n : ℕ) (bits : List ℕ) (arms : List F.Arm) (other : Option ℕ) → ArmsBelow nodes n arms → BranchBelow n other → fits_arms (arms_of a other arms) ≡ true → arms_within count (arms_of a other arms) ≡ true
    → ((b : ℕ) → contains (arms_bits (arms_of a other arms)) b ≡ true → contains bits b ≡ true) → (b : Option ℕ) → IsOneOf arms other b → BranchFacts a count n bits b
case_facts a count nodes n bits arms other below otherwise fit within covers b (inl e) =
    let facts = other_facts (tree_of a) (statement_of a) other bits count arms (record { fits = fit; within = within; covers = covers }) in
    subst (BranchFacts a count n bits) (sym e) (record { earlier = otherwise; fits = facts.fits; within = facts.within; covers = facts.covers })
case_facts a count nodes n bits arms other below otherwise fit within covers b (inr i) =
    let facts = arm_facts (tree_of a) (statement_of a) other bits count arms (record { fits = fit; within = within; covers = covers }) i.0 i.1 i.2 in
    subst (BranchFacts a count n bits) (sym i.3) (record { earlier = (below i.0 i.1 i.2).1; fits = facts.fits; within = facts.within; covers = facts.covers })

-- what holds of each that passes
pub all_facts : {A : Type 0} (P Q : A → Type 0) (xs : List A) → ((x : A) → P x → Q x) → All P xs → All Q xs
all_facts P Q xs h k n d inside = h (get_or xs n d) (k n d inside)

-- ---- joins

covered_or_not : (bits : List ℕ) (b : ℕ) (s : Statement) → Covers bits s → contains bits b ≡ false → contains (statement_bits s) b ≡ false
covered_or_not bits b s c h = at (contains (statement_bits s) b) refl where
  at : (k : Bool) → contains (statement_bits s) b ≡ k → contains (statement_bits s) b ≡ false
  at true e = absurd (let t = c b e in let z : ⊥ = cc in z)
  at false e = e

-- a bit that no branch writes keeps its set, where there is a branch
abbrev AreCovered : (ℕ → Statement) → List ℕ → List (Option ℕ) → Type 0
AreCovered st bits bs = All (λ x. Covers bits (R.branch st x)) bs

branches_other : (st : ℕ → Statement) (bits : List ℕ) (bs : List (Option ℕ)) (f : Family) (b : ℕ) → AreCovered st bits bs → 1 ≤ length bs → contains bits b ≡ false → branch_sets (branches_of st bs) f b ≡ f b
branches_other st bits [] f b h some absent = absurd (omega arith)
branches_other st bits (x ∷ []) f b h some absent =
    let here = body_other (R.branch st x) f b (covered_or_not bits b (R.branch st x) (h 0 x (omega arith)) absent) in
    Rattle.vs_sets.proofs.BranchSteps.union_none (lifted_body (at_once (R.branch st x)) f b) ∙ here
branches_other st bits (x ∷ y ∷ bs) f b h some absent =
    let here = body_other (R.branch st x) f b (covered_or_not bits b (R.branch st x) (h 0 x (omega arith)) absent) in
    ap₂ union here (branches_other st bits (y ∷ bs) f b (λ k d i. h (suc k) d (omega (arith, i))) (omega arith) absent) ∙ union_same (f b)

-- what is put back is as before
pub back : (st : ℕ → Statement) (bits : List ℕ) (bs : List (Option ℕ)) (f : Family) → AreCovered st bits bs → 1 ≤ length bs → replaced bits f (branch_sets (branches_of st bs) f) ≡ f
back st bits bs f h some = fun_ext (λ b. at b (contains bits b) refl) where
  at : (b : ℕ) (k : Bool) → contains bits b ≡ k → (if contains bits b then f b else branch_sets (branches_of st bs) f b) ≡ f b
  at b true e = cond-true (contains bits b) _ _ e
  at b false e = cond-false (contains bits b) _ _ e ∙ branches_other st bits bs f b h some e

-- and what is united is the union
pub both : (st : ℕ → Statement) (bits : List ℕ) (bs cs : List (Option ℕ)) (f : Family) → AreCovered st bits bs → 1 ≤ length bs → AreCovered st bits cs → 1 ≤ length cs
    → replaced bits (either (branch_sets (branches_of st bs) f) (branch_sets (branches_of st cs) f)) (branch_sets (branches_of st cs) f) ≡ either (branch_sets (branches_of st bs) f) (branch_sets (branches_of st cs) f)
both st bits bs cs f h some i others = fun_ext (λ b. at b (contains bits b) refl) where
  at : (b : ℕ) (k : Bool) → contains bits b ≡ k
      → (if contains bits b then either (branch_sets (branches_of st bs) f) (branch_sets (branches_of st cs) f) b else branch_sets (branches_of st cs) f b) ≡ either (branch_sets (branches_of st bs) f) (branch_sets (branches_of st cs) f) b
  at b true e = cond-true (contains bits b) _ _ e
  at b false e =
      let x = branches_other st bits bs f b h some e in
      let y = branches_other st bits cs f b i others e in
      cond-false (contains bits b) _ _ e ∙ y ∙ sym (union_same (f b)) ∙ ap₂ union (sym x) (sym y)

pub branches_append : (st : ℕ → Statement) (bs cs : List (Option ℕ)) → branches_of st (bs ++ cs) ≡ branches_of st bs ++ branches_of st cs
branches_append st [] cs = refl
branches_append st (b ∷ bs) cs = ap (λ xs. at_once (R.branch st b) ∷ xs) (branches_append st bs cs)

pub join_is : (st : ℕ → Statement) (bits : List ℕ) (all left right : List (Option ℕ)) (f t1 t2 t3 t4 : Family) → left ++ right ≡ all → AreCovered st bits left → 1 ≤ length left → AreCovered st bits right → 1 ≤ length right
    → t1 ≡ branch_sets (branches_of st left) f → t2 ≡ replaced bits f t1 → t3 ≡ branch_sets (branches_of st right) t2 → t4 ≡ replaced bits (either t1 t3) t3 → t4 ≡ branch_sets (branches_of st all) f
join_is st bits all left right f t1 t2 t3 t4 e h some i others p q r s =
    let back_is : t2 ≡ f = q ∙ ap (replaced bits f) p ∙ back st bits left f h some in
    let second : t3 ≡ branch_sets (branches_of st right) f = r ∙ ap (branch_sets (branches_of st right)) back_is in
    s ∙ ap₂ (λ x y. replaced bits (either x y) y) p second ∙ both st bits left right f h some i others
    ∙ sym (branch_sets-append (branches_of st left) (branches_of st right) f) ∙ ap (λ bs. branch_sets bs f) (sym (branches_append st left right)) ∙ ap (λ bs. branch_sets (branches_of st bs) f) e

-- ---- completed statements

-- a completed branch writes no more than the branch
pub done_covers : (complete : Bool) (a : Arena) (bits : List ℕ) (b : Option ℕ) → Covers bits (R.branch (statement_of a) b) → Covers bits (R.branch (done complete a) b)
done_covers complete a bits None h = h
done_covers true a bits (Some s) h = λ b k. h b (completed_bits (design_of a) (statement_of a s) b k)
done_covers false a bits (Some s) h = h

-- a default that the arms of a case then have is one of these branches, or none
pub default_facts : (a : Arena) (count nodes n : ℕ) (bits : List ℕ) (arms : List F.Arm) (other next : Option ℕ) → ArmsBelow nodes n arms → BranchBelow n other → fits_arms (arms_of a other arms) ≡ true → arms_within count (arms_of a other arms) ≡ true
    → ((b : ℕ) → contains (arms_bits (arms_of a other arms)) b ≡ true → contains bits b ≡ true) → IsNext arms other next → (b : Option ℕ) → IsOneOf arms next b → BranchFacts a count n bits b
default_facts a count nodes n bits arms other next below otherwise fit within covers (inl none) b (inl e) =
    subst (BranchFacts a count n bits) (sym (e ∙ none)) (record { earlier = tt; fits = refl; within = refl; covers = nothing_covered bits })
default_facts a count nodes n bits arms other next below otherwise fit within covers (inr i) b (inl e) =
    subst (BranchFacts a count n bits) (sym e) (case_facts a count nodes n bits arms other below otherwise fit within covers next i)
default_facts a count nodes n bits arms other next below otherwise fit within covers one b (inr i) = case_facts a count nodes n bits arms other below otherwise fit within covers b (inr i)

pub all_covered : (complete : Bool) (a : Arena) (count n : ℕ) (bits : List ℕ) (bs : List (Option ℕ)) → All (BranchFacts a count n bits) bs → AreCovered (done complete a) bits bs
all_covered complete a count n bits bs h = all_facts (BranchFacts a count n bits) (λ x. Covers bits (R.branch (done complete a) x)) bs (λ x p. done_covers complete a bits x p.covers) h

-- what holds of all statements of a case's arms
module _ (tree : ℕ → Expression) (st : ℕ → Statement) (items : Items → Bool) (holds : Statement → Bool) (all : Arms → Bool)
    (at_arm : (i : Items) (s : Statement) (rest : Arms) → all (Arm i s rest) ≡ (items i && holds s && all rest)) (at_default : (s : Statement) → all (Default s) ≡ holds s) (at_nothing : holds Empty ≡ true) where
  arm_holds : (other : Option ℕ) (arms : List F.Arm) → all (R.arms_tree tree st other arms) ≡ true → (k : ℕ) (arm : F.Arm) → slice_get arms k ≡ Some arm → holds (st arm.statement) ≡ true
  arm_holds other [] h k arm e = absurd (let z : ⊥ = cc in z)
  arm_holds other (x ∷ arms) h zero arm e =
      let same : x ≡ arm = cc in
      let here = and_left (items (items_of (map tree x.items)) && holds (st x.statement)) (all (R.arms_tree tree st other arms)) (sym (at_arm (items_of (map tree x.items)) (st x.statement) (R.arms_tree tree st other arms)) ∙ h) in
      subst (λ (y : F.Arm). holds (st y.statement) ≡ true) same (and_right (items (items_of (map tree x.items))) (holds (st x.statement)) here)
  arm_holds other (x ∷ arms) h (suc k) arm e =
      arm_holds other arms (and_right (items (items_of (map tree x.items)) && holds (st x.statement)) (all (R.arms_tree tree st other arms)) (sym (at_arm (items_of (map tree x.items)) (st x.statement) (R.arms_tree tree st other arms)) ∙ h)) k arm e

  other_holds : (other : Option ℕ) (arms : List F.Arm) → all (R.arms_tree tree st other arms) ≡ true → holds (R.branch st other) ≡ true
  other_holds other [] h = sym (at_default (R.branch st other)) ∙ h
  other_holds other (x ∷ arms) h =
      other_holds other arms (and_right (items (items_of (map tree x.items)) && holds (st x.statement)) (all (R.arms_tree tree st other arms)) (sym (at_arm (items_of (map tree x.items)) (st x.statement) (R.arms_tree tree st other arms)) ∙ h))

  with_next : (other next : Option ℕ) (arms : List F.Arm) → all (R.arms_tree tree st other arms) ≡ true → holds (R.branch st next) ≡ true → all (R.arms_tree tree st next arms) ≡ true
  with_next other next [] h k = at_default (R.branch st next) ∙ k
  with_next other next (x ∷ arms) h k =
      let here = items (items_of (map tree x.items)) && holds (st x.statement) in
      let parts = sym (at_arm (items_of (map tree x.items)) (st x.statement) (R.arms_tree tree st other arms)) ∙ h in
      at_arm (items_of (map tree x.items)) (st x.statement) (R.arms_tree tree st next arms)
      ∙ Rattle.vs_sets.proofs.Fit.and_both here (all (R.arms_tree tree st next arms)) (and_left here (all (R.arms_tree tree st other arms)) parts) (with_next other next arms (and_right here (all (R.arms_tree tree st other arms)) parts) k)

  -- holds with a default that the case may have
  next_holds : (other next : Option ℕ) (arms : List F.Arm) → IsNext arms other next → all (R.arms_tree tree st other arms) ≡ true → all (R.arms_tree tree st next arms) ≡ true
  next_holds other next arms one h = with_next other next arms h (here one)
    where
      here : IsNext arms other next → holds (R.branch st next) ≡ true
      here (inl e) = ap (λ b. holds (R.branch st b)) e ∙ at_nothing
      here (inr (inl e)) = ap (λ b. holds (R.branch st b)) e ∙ other_holds other arms h
      here (inr (inr i)) = ap (λ b. holds (R.branch st b)) i.3 ∙ arm_holds other arms h i.0 i.1 i.2

pub next_fits : (a : Arena) (arms : List F.Arm) (other next : Option ℕ) → IsNext arms other next → fits_arms (arms_of a other arms) ≡ true → fits_arms (arms_of a next arms) ≡ true
next_fits a arms other next one h = next_holds (tree_of a) (statement_of a) fit_items fits_statement fits_arms (λ i s rest. refl) (λ s. refl) refl other next arms one h

pub next_within : (a : Arena) (count : ℕ) (arms : List F.Arm) (other next : Option ℕ) → IsNext arms other next → arms_within count (arms_of a other arms) ≡ true → arms_within count (arms_of a next arms) ≡ true
next_within a count arms other next one h = next_holds (tree_of a) (statement_of a) (items_within count) (statement_within count) (arms_within count) (λ i s rest. refl) (λ s. refl) refl other next arms one h

pub All_same : {A : Type 0} (P : A → Type 0) (xs ys : List A) → xs ≡ ys → All P xs → All P ys
All_same {A} P xs ys e h = subst (λ (zs : List A). All P zs) e h

-- ---- bits that are x

-- after the statement each bit that isn't covered is x
pub x_elsewhere : (bits : List ℕ) (s : Statement) → Covers bits s → replaced bits (λ b. only X) (lifted_body (at_once s) (λ b. only X)) ≡ (λ b. only X)
x_elsewhere bits s c = fun_ext (λ b. at b (contains bits b) refl) where
  at : (b : ℕ) (k : Bool) → contains bits b ≡ k → (if contains bits b then only X else lifted_body (at_once s) (λ b. only X) b) ≡ only X
  at b true e = cond-true (contains bits b) _ _ e
  at b false e = cond-false (contains bits b) _ _ e ∙ body_other s (λ b. only X) b (covered_or_not bits b s c e)

pub all_of_each : (p : ℕ → Bool) (xs : List ℕ) → ((b : ℕ) → contains xs b ≡ true → p b ≡ true) → list_all p xs ≡ true
all_of_each p [] h = refl
all_of_each p (x ∷ xs) h = Rattle.vs_sets.proofs.Fit.and_both (p x) (list_all p xs) (h x (ap (λ k. k || contains xs x) (Rattle.vs_sets.proofs.Families.equal_test x))) (all_of_each p xs (λ b k. h b (ap (λ q. (b == x) || q) k ∙ or_true (b == x))))

pub each_of_all : (p : ℕ → Bool) (xs : List ℕ) → list_all p xs ≡ true → (b : ℕ) → contains xs b ≡ true → p b ≡ true
each_of_all p [] h b k = absurd (let z : ⊥ = cc in z)
each_of_all p (x ∷ xs) h b k = at (Rattle.vs_sets.proofs.Families.same_or_other b x) k (each_of_all p xs (and_right (p x) _ h) b) where
  at : (((b == x) ≡ true) × (b ≡ x)) ⊎ (((b == x) ≡ false) × (Rattle.std.proofs.Common.◌≢◌ b x)) → ((b == x) || contains xs b) ≡ true → (contains xs b ≡ true → p b ≡ true) → p b ≡ true
  at (inl e) k rest = ap p e.1 ∙ and_left (p x) _ h
  at (inr e) k rest = rest (sym (ap (λ q. q || contains xs b) e.0) ∙ k)

pub same_truth : (a b : Bool) → (a ≡ true → b ≡ true) → (b ≡ true → a ≡ true) → a ≡ b
same_truth true b h k = sym (h refl)
same_truth false true h k = k refl
same_truth false false h k = refl

-- a test that passes elsewhere tells of the covered bits what it tells of those that are written
pub x_of_all : (bits : List ℕ) (s : Statement) → Covers bits s
    → list_all (λ b. is_only_x (lifted_body (at_once s) (λ c. only X) b)) bits ≡ list_all (λ b. is_only_x (lifted_body (at_once s) (λ c. only X) b)) (statement_bits s)
x_of_all bits s c =
    same_truth _ _ (λ h. all_of_each p (statement_bits s) (λ b k. each_of_all p bits h b (c b k)))
    (λ h. all_of_each p bits (λ b k. at b (contains (statement_bits s) b) refl (each_of_all p (statement_bits s) h b)))
  where
    p : ℕ → Bool
    p b = is_only_x (lifted_body (at_once s) (λ c. only X) b)

    at : (b : ℕ) (k : Bool) → contains (statement_bits s) b ≡ k → (contains (statement_bits s) b ≡ true → p b ≡ true) → p b ≡ true
    at b true e h = h e
    at b false e h = ap is_only_x (body_other s (λ c. only X) b e)
