-- The bits that a target surely assigns, by its parts.
use Rattle.std.proofs.Common.{◌≡◌, ℕ, ◌+◌, ◌<◌, ◌==◌, Bool, true, false, not, ◌&&◌, cond, if◌then◌else◌, List, [], ◌∷◌, ◌++◌, map, take, length, get_or, unwrap_or, refl, sym, ap, ◌∙◌, subst, arith, eqb-true, append_assoc, append-nil}
use Rattle.std.specs.Prelude.{Option, None, Some, is_some, count_by, take_while}
use Rattle.std.proofs.lemmas.List.{take_more}
use Rattle.std.proofs.lemmas.List.Sums.{sum_by-cons, take_while-cons}
use Rattle.vs_design.specs.Expressions as E
use Rattle.vs_design.specs.Statements.{Target, Whole, Both, target_width}
use Rattle.vs_design.specs.Fits.{fits_64, fits_target}
use Rattle.vs_design.specs.Latches.{assigns}
use Rattle.vs_flat.specs.Targets.{target_of, both_of}
use Rattle.vs_flat.specs.Trees.{no_signal, joined, first_copy, copy_count, target_tree}
use Rattle.vs_shape.specs.Walked.{IsTarget}
use Rattle.vs_reads.proofs.Tests.{and_both}
use Rattle.vs_shape.proofs.TargetParts.{part_target}

both_some : (s t : Option Target) → is_some (both_of s t) ≡ true → (is_some s ≡ true) × (is_some t ≡ true) × (unwrap_or (both_of s t) (Whole no_signal) ≡ Both (unwrap_or s (Whole no_signal)) (unwrap_or t (Whole no_signal)))
both_some None t h = cc
both_some (Some x) None h = cc
both_some (Some x) (Some y) h = (refl, refl, refl)

target_join : (e f : E.Expression) → IsTarget (E.Join e f) → IsTarget e × IsTarget f × (target_tree (E.Join e f) ≡ Both (target_tree e) (target_tree f))
target_join e f t =
    let parts = both_some (target_of e) (target_of f) t.target in
    let fit : fits_target (Both (target_tree e) (target_tree f)) ≡ true = ap fits_target (sym parts.2) ∙ t.fits in
    let whole = and_both (fits_64 (target_width (target_tree e) + target_width (target_tree f)) && fits_target (target_tree e)) (fits_target (target_tree f)) fit in
    let first = and_both (fits_64 (target_width (target_tree e) + target_width (target_tree f))) (fits_target (target_tree e)) whole.0 in
    (record { target = parts.0; fits = first.1 }, record { target = parts.1; fits = whole.1 }, parts.2)

-- what all parts assign, one after the other
abbrev pub each_assigns : (ℕ → E.Expression) → List ℕ → List ℕ
each_assigns tree [] = []
each_assigns tree (p ∷ ps) = assigns (target_tree (tree p)) ++ each_assigns tree ps

each_append : (tree : ℕ → E.Expression) (ps qs : List ℕ) → each_assigns tree (ps ++ qs) ≡ each_assigns tree ps ++ each_assigns tree qs
each_append tree [] qs = refl
each_append tree (p ∷ ps) qs = ap (λ bs. assigns (target_tree (tree p)) ++ bs) (each_append tree ps qs) ∙ sym (append_assoc (assigns (target_tree (tree p))) (each_assigns tree ps) (each_assigns tree qs))

each_end : (tree : ℕ → E.Expression) (ps : List ℕ) (p : ℕ) → each_assigns tree (ps ++ p ∷ []) ≡ each_assigns tree ps ++ assigns (target_tree (tree p))
each_end tree ps p = each_append tree ps (p ∷ []) ∙ ap (λ bs. each_assigns tree ps ++ bs) (append-nil (assigns (target_tree (tree p))))

pub each_more : (tree : ℕ → E.Expression) (ps before : List ℕ) (k : ℕ) → k < length ps → (before ++ each_assigns tree (take k ps)) ++ assigns (target_tree (tree (get_or ps k 0))) ≡ before ++ each_assigns tree (take (k + 1) ps)
each_more tree ps before k h =
    append_assoc before (each_assigns tree (take k ps)) (assigns (target_tree (tree (get_or ps k 0))))
    ∙ ap (λ bs. before ++ bs) (sym (each_end tree (take k ps) (get_or ps k 0)) ∙ ap (each_assigns tree) (sym (take_more ps k 0 h)))

each_joined : (tree : ℕ → E.Expression) (ps : List ℕ) → IsTarget (joined (map tree ps)) → assigns (target_tree (joined (map tree ps))) ≡ each_assigns tree ps
each_joined tree [] t = never t.target
  where
    never : false ≡ true → assigns (target_tree (joined [])) ≡ []
    never h = cc
each_joined tree (p ∷ []) t = sym (append-nil (assigns (target_tree (tree p))))
each_joined tree (p ∷ q ∷ ps) t =
    let parts = target_join (tree p) (joined (map tree (q ∷ ps))) t in
    ap assigns parts.2 ∙ ap (λ bs. assigns (target_tree (tree p)) ++ bs) (each_joined tree (q ∷ ps) parts.1)

-- a replication that is a target has one copy
one_copy : (count : ℕ) (e : E.Expression) → IsTarget (E.Repeat count e) → IsTarget e × (target_tree (E.Repeat count e) ≡ target_tree e) × (count ≡ 1)
one_copy count e t = go (count == 1) refl t.target t.fits
  where
    go : (b : Bool) → (count == 1) ≡ b → is_some (if b then target_of e else None) ≡ true → fits_target (unwrap_or (if b then target_of e else None) (Whole no_signal)) ≡ true
        → IsTarget e × (unwrap_or (if b then target_of e else None) (Whole no_signal) ≡ target_tree e) × (count ≡ 1)
    go true s h k = (record { target = h; fits = k }, refl, eqb-true count 1 s)
    go false s h k = cc

all_taken : (e : ℕ) (es : List ℕ) → count_by (λ n. n == e) es ≡ 0 → take_while (λ n. not (n == e)) es ≡ es
all_taken e [] h = refl
all_taken e (x ∷ es) h =
    take_while-cons (λ n. not (n == e)) x es
    ∙ go (x == e) (sym (sum_by-cons (λ n. cond (n == e) 1 0) x es) ∙ h) (all_taken e es)
  where
    go : (b : Bool) → cond b 1 0 + count_by (λ n. n == e) es ≡ 0 → (count_by (λ n. n == e) es ≡ 0 → take_while (λ n. not (n == e)) es ≡ es) → cond (not b) (x ∷ take_while (λ n. not (n == e)) es) [] ≡ x ∷ es
    go true s f = absurd (omega (arith, s))
    go false s f = ap (λ zs. x ∷ zs) (f (omega (arith, s)))

whole_copy : (parts : List ℕ) → copy_count parts ≡ 1 → first_copy parts ≡ parts
whole_copy [] h = refl
whole_copy (e ∷ es) h = ap (λ zs. e ∷ zs) (all_taken e es (omega (arith, h)))

-- the parts of a target that is a concatenation
pub record HasTargetParts (tree : ℕ → E.Expression) (e : E.Expression) (parts : List ℕ) : Type 0 where
  pub each : (k : ℕ) → k < length parts → IsTarget (tree (get_or parts k 0))
  pub is : assigns (target_tree e) ≡ each_assigns tree parts

pub target_parts : (tree : ℕ → E.Expression) (place : ℕ) (parts : List ℕ) → IsTarget (E.At place (E.Repeat (copy_count parts) (joined (map tree (first_copy parts))))) → HasTargetParts tree (E.At place (E.Repeat (copy_count parts) (joined (map tree (first_copy parts))))) parts
target_parts tree place parts t =
    let inner = joined (map tree (first_copy parts)) in
    let one = one_copy (copy_count parts) inner (record { target = t.target; fits = t.fits }) in
    let same = whole_copy parts one.2 in
    let these : IsTarget (joined (map tree parts)) = subst (λ (ps : List ℕ). IsTarget (joined (map tree ps))) same one.0 in
    record {
      each = λ k h. part_target tree parts k these h;
      is = ap assigns one.1 ∙ ap (λ (ps : List ℕ). assigns (target_tree (joined (map tree ps)))) same ∙ each_joined tree parts these;
    }
