-- The labels of the bits that copy a clock; where there is no clock, one more label behind those of the design's bits.
use Rattle.std.proofs.Common.{◌≡◌, ℕ, ◌+◌, ◌≤◌, ◌<◌, Bool, true, false, List, [], ◌∷◌, ◌++◌, ◌||◌, ◌==◌, refl, sym, ap, ◌∙◌, subst, eqb-true, eq-eqb, length, length-append, arith, Some, None, Option, Vec, Global, Result, Ok, Err, is_some, if◌then◌else◌, ◌≢◌, inl, inr, nat_lt}
use Rattle.std.proofs.Math.ListN.{get_or-append}
use Rattle.std.proofs.Math.Seq.{get_or-append_seam}
use Rattle.std.specs.Prelude.{IfOk}
use Rattle.std.specs.List.{list_all}
use Rattle.vs_design.specs.Designs.{Design, bit_count}
use Rattle.vs_design.specs.Elaborated.{IsLawfulDesign}
use Rattle.vs_design.specs.Clocks.{clock_nets}
use Rattle.vs_design.specs.Footprints.{contains}
use Rattle.vs_design.specs.Laws.{NetsOfEach, SpareClockIs}
use Rattle.vs_clock.specs.Inputs.{AllBelow, AreClockBits}
use Rattle.vs_clock.specs.Roots.{AreAllTargets, root_among, AreRoots}
use Rattle.vs_clock.specs.Spread.{label_at, has_label}
use Rattle.vs_reads.proofs.Tests.{by_test, either_way, and_both, and_true, or_right, contains_head}
use Rattle.vs_clock.proofs.Spreading.{label_within}

one_only : (clock b : ℕ) (t : Bool) → (b == clock) ≡ t → contains (clock ∷ []) b ≡ t
one_only clock b true e = ap {B = Bool} (λ t. t || false) e
one_only clock b false e = ap {B = Bool} (λ t. t || false) e

pub one_listed : (clock b : ℕ) → contains (clock ∷ []) b ≡ true → b ≡ clock
one_listed clock b h = by_test (b == clock) (eqb-true b clock) (λ e. absurd (either_way (contains (clock ∷ []) b) h (one_only clock b false e)))

-- one of the roots copies the bit where there is one that does
some_found : (d : Design) (b : ℕ) (xs : List ℕ) (c : ℕ) → contains xs c ≡ true → contains (clock_nets d (c ∷ [])) b ≡ true → is_some (root_among d xs b) ≡ true
some_found d b [] c m k = cc
some_found d b (x ∷ xs) c m k =
    by_test (contains (clock_nets d (x ∷ [])) b)
    (λ e. rw e refl)
    (λ e. rw e (some_found d b xs c (later e) k))
  where
    later : contains (clock_nets d (x ∷ [])) b ≡ false → contains xs c ≡ true
    later e = by_test (c == x) (λ q. absurd (either_way (contains (clock_nets d (x ∷ [])) b) (subst (λ n. contains (clock_nets d (n ∷ [])) b ≡ true) (eqb-true c x q) k) e)) (λ q. subst (λ t. (t || contains xs c) ≡ true) q m)

root_there : (d : Design) (b : ℕ) (xs : List ℕ) → is_some (root_among d xs b) ≡ true → (c : ℕ) × (contains xs c ≡ true) × (contains (clock_nets d (c ∷ [])) b ≡ true)
root_there d b [] h = cc
root_there d b (x ∷ xs) h =
    by_test (contains (clock_nets d (x ∷ [])) b)
    (λ e. (x, contains_head x xs, e))
    (λ e. let r = root_there d b xs (subst (λ (t : Bool). is_some (if t then Some x else root_among d xs b) ≡ true) e h) in (r.0, or_right (r.0 == x) (contains xs r.0) r.1, r.2))

-- the labels of the clocks
pub clocks_labelled : NetsOfEach → (d : Design) (clocks : List ℕ) (ls : List (Option ℕ)) → AreRoots d clocks ls → (b : ℕ) → has_label ls b ≡ contains (clock_nets d clocks) b
clocks_labelled law d clocks ls h b = ap is_some (h b) ∙ go (contains (clock_nets d clocks) b) refl
  where
    go : (t : Bool) → contains (clock_nets d clocks) b ≡ t → is_some (root_among d clocks b) ≡ t
    go true e = let r = (law d clocks b).0 e in some_found d b clocks r.0 r.1 r.2
    go false e = by_test (is_some (root_among d clocks b)) (λ s. absurd (either_way (contains (clock_nets d clocks) b) ((law d clocks b).1 (root_there d b clocks s)) e)) (λ s. s)

-- and one more behind those of no bits
last_label : (clock : ℕ) (ls : List (Option ℕ)) → length ls ≡ clock → ((b : ℕ) → label_at ls b ≡ None) → (b : ℕ) → has_label (ls ++ Some clock ∷ []) b ≡ contains (clock ∷ []) b
last_label clock ls h none b = by_test (b == clock) at other
  where
    at : (b == clock) ≡ true → has_label (ls ++ Some clock ∷ []) b ≡ contains (clock ∷ []) b
    at e = subst (λ n. has_label (ls ++ Some clock ∷ []) n ≡ true) (h ∙ sym (eqb-true b clock e)) (ap is_some (get_or-append_seam ls (Some clock) [] None)) ∙ sym (one_only clock b true e)

    apart : (b == clock) ≡ false → b ≢ clock
    apart e f = either_way (b == clock) (subst (λ m. (b == m) ≡ true) f (eq-eqb b b refl)) e

    longer : length (ls ++ Some clock ∷ []) ≡ length ls + 1
    longer = length-append ls (Some clock ∷ [])

    none_left : (b == clock) ≡ false → has_label (ls ++ Some clock ∷ []) b ≡ true → b < length ls
    none_left e t = let ne : b ≢ clock = apart e in let w = label_within (ls ++ Some clock ∷ []) b t in let m = longer in omega (arith, w, m, h)

    other : (b == clock) ≡ false → has_label (ls ++ Some clock ∷ []) b ≡ contains (clock ∷ []) b
    other e = by_test (has_label (ls ++ Some clock ∷ []) b)
        (λ t. absurd (either_way (has_label (ls ++ Some clock ∷ []) b) t (ap is_some (get_or-append ls (Some clock ∷ []) None b (none_left e t) ∙ none b))))
        (λ f. f ∙ sym (one_only clock b false e))

pub spare_labelled : SpareClockIs → (d : Design) → IsLawfulDesign d → (clock : ℕ) → bit_count d ≤ clock → (ls : List (Option ℕ)) → length ls ≡ clock → AreRoots d [] ls → (b : ℕ) → has_label (ls ++ Some clock ∷ []) b ≡ contains (clock_nets d (clock ∷ [])) b
spare_labelled law d l clock m ls h r b = last_label clock ls h r b ∙ sym (ap (λ (bs : List ℕ). contains bs b) (law d l clock m).0)

-- ---- the clocks are bits of the design, or the one is the number of them

pub below_of : (n : ℕ) (bs : List ℕ) → list_all (λ b. nat_lt b n) bs ≡ true → AllBelow n bs
below_of n [] h b m = cc
below_of n (x ∷ xs) h b m =
    let p = and_both (nat_lt x n) (list_all (λ b. nat_lt b n) xs) h in
    by_test (b == x)
    (λ e. subst (λ k. k < n) (sym (eqb-true b x e)) (less x n p.0))
    (λ e. below_of n xs p.1 b (subst (λ t. (t || contains xs b) ≡ true) e m))
  where
    less : (k n : ℕ) → nat_lt k n ≡ true → k < n
    less k n h = grind arith

all_of : (n : ℕ) (bs : List ℕ) → AllBelow n bs → list_all (λ b. nat_lt b n) bs ≡ true
all_of n [] h = refl
all_of n (x ∷ xs) h = and_true (nat_lt x n) (list_all (λ b. nat_lt b n) xs) (is_less x n (h x (contains_head x xs))) (all_of n xs (λ b m. h b (or_right (b == x) (contains xs b) m)))
  where
    is_less : (k n : ℕ) → k < n → nat_lt k n ≡ true
    is_less k n h = grind arith

pub spare_of : (d : Design) (clocks : List ℕ) → AreClockBits d clocks → list_all (λ b. nat_lt b (bit_count d)) clocks ≡ false → clocks ≡ bit_count d ∷ []
spare_of d clocks (inl a) h = absurd (either_way (list_all (λ b. nat_lt b (bit_count d)) clocks) (all_of (bit_count d) clocks a) h)
spare_of d clocks (inr e) h = e

-- ---- of whatever answer

pub own_labels : {E : Type 0} → NetsOfEach → (d : Design) (clocks : List ℕ) (targets : List (List ℕ)) → AreAllTargets d targets → (r : Result (Vec (Option ℕ) Global) E) → IfOk r (λ v. (e : Design) → AreAllTargets e targets → AreRoots e clocks v.items)
    → IfOk r (λ v. (b : ℕ) → has_label v.items b ≡ contains (clock_nets d clocks) b)
own_labels law d clocks targets all (Ok v) h = clocks_labelled law d clocks v.items (h d all)
own_labels law d clocks targets all (Err e) h = tt
