-- What is gathered from a target, by its parts.
use Rattle.std.proofs.Common.{◌≡◌, ℕ, zero, suc, ◌+◌, ◌<◌, ◌≤◌, ◌==◌, Bool, true, false, ◌&&◌, if◌then◌else◌, List, [], ◌∷◌, ◌++◌, map, drop, length, get_or, unwrap_or, refl, sym, ap, ◌∙◌, subst, arith, append_assoc, append-nil}
use Rattle.std.specs.Prelude.{Option, None, Some, is_some}
use Rattle.vs_design.specs.Expressions as E
use Rattle.vs_design.specs.Statements.{Target, Whole, Both, target_width}
use Rattle.vs_design.specs.Fits.{fits_64, fits_target}
use Rattle.vs_flat.specs.Arena.{Arena}
use Rattle.vs_flat.specs.declared.expressions.Node.{Node}
use Rattle.vs_flat.specs.declared.expressions.Node.TheVariants as N
use Rattle.vs_flat.specs.Targets.{target_of, both_of}
use Rattle.vs_flat.specs.Trees.{no_signal, joined, first_copy, copy_count, target_tree}
use Rattle.vs_shape.specs.Nodes.{tree_of, place_of, tree_of_node}
use Rattle.vs_shape.specs.Walked.{IsTarget}
use Rattle.vs_shape.proofs.Names.{and_both}
use Rattle.vs_shape.proofs.Gathering.{tree_is}

both_some : (s t : Option Target) → is_some (both_of s t) ≡ true → (is_some s ≡ true) × (is_some t ≡ true) × (unwrap_or (both_of s t) (Whole no_signal) ≡ Both (unwrap_or s (Whole no_signal)) (unwrap_or t (Whole no_signal)))
both_some None t h = cc
both_some (Some x) None h = cc
both_some (Some x) (Some y) h = (refl, refl, refl)

target_join : (e f : E.Expression) → IsTarget (E.Join e f) → IsTarget e × IsTarget f × (target_tree (E.Join e f) ≡ Both (target_tree e) (target_tree f))
target_join e f t =
    let parts = both_some (target_of e) (target_of f) t.target in
    let fit : fits_target (Both (target_tree e) (target_tree f)) ≡ true = ap fits_target (sym parts.2) ∙ t.fits in
    let whole = and_both (fits_64 (target_width (target_tree e) + target_width (target_tree f)) && fits_target (target_tree e)) (fits_target (target_tree f)) fit in
    let first = and_both (fits_64 (target_width (target_tree e) + target_width (target_tree f))) (fits_target (target_tree e)) whole.0 in
    (record { target = parts.0; fits = first.1 }, record { target = parts.1; fits = whole.1 }, parts.2)

pub part_target : (tree : ℕ → E.Expression) (ps : List ℕ) (k : ℕ) → IsTarget (joined (map tree ps)) → k < length ps → IsTarget (tree (get_or ps k 0))
part_target tree [] k t h = absurd (omega arith)
part_target tree (p ∷ []) zero t h = t
part_target tree (p ∷ []) (suc k) t h = absurd (omega arith)
part_target tree (p ∷ q ∷ ps) zero t h = (target_join (tree p) (joined (map tree (q ∷ ps))) t).0
part_target tree (p ∷ q ∷ ps) (suc k) t h = part_target tree (q ∷ ps) k (target_join (tree p) (joined (map tree (q ∷ ps))) t).1 (omega arith)

-- what f gives of all parts, one after the other
abbrev pub each_target : (Target → List ℕ) → (ℕ → E.Expression) → List ℕ → List ℕ
each_target f tree [] = []
each_target f tree (p ∷ ps) = f (target_tree (tree p)) ++ each_target f tree ps

each_from : (f : Target → List ℕ) (tree : ℕ → E.Expression) (ps : List ℕ) (n : ℕ) → n < length ps → each_target f tree (drop n ps) ≡ f (target_tree (tree (get_or ps n 0))) ++ each_target f tree (drop (suc n) ps)
each_from f tree [] n h = absurd (omega arith)
each_from f tree (p ∷ ps) zero h = refl
each_from f tree (p ∷ ps) (suc n) h = each_from f tree ps n (omega arith)

pub with_target : (f : Target → List ℕ) (tree : ℕ → E.Expression) (ps : List ℕ) (n : ℕ) (before after all : List ℕ) → n < length ps → before ++ each_target f tree (drop n ps) ≡ all → after ≡ before ++ f (target_tree (tree (get_or ps n 0)))
    → after ++ each_target f tree (drop (n + 1) ps) ≡ all
with_target f tree ps n before after all h is pushed =
    let next : n + 1 ≡ suc n = omega arith in
    ap (λ k. after ++ each_target f tree (drop k ps)) next
    ∙ ap (λ bs. bs ++ each_target f tree (drop (suc n) ps)) pushed
    ∙ append_assoc before (f (target_tree (tree (get_or ps n 0)))) (each_target f tree (drop (suc n) ps))
    ∙ ap (λ bs. before ++ bs) (sym (each_from f tree ps n h)) ∙ is

drop_none : {A : Type 0} (n : ℕ) (xs : List A) → length xs ≤ n → drop n xs ≡ []
drop_none zero [] h = refl
drop_none (suc n) [] h = refl
drop_none zero (x ∷ xs) h = absurd (omega arith)
drop_none (suc n) (x ∷ xs) h = drop_none n xs (omega arith)

each_joined : (f : Target → List ℕ) → ((s t : Target) → f (Both s t) ≡ f s ++ f t) → (tree : ℕ → E.Expression) (p : ℕ) (ps : List ℕ) → IsTarget (joined (map tree (p ∷ ps))) → f (target_tree (joined (map tree (p ∷ ps)))) ≡ each_target f tree (p ∷ ps)
each_joined f both tree p [] t = sym (append-nil (f (target_tree (tree p))))
each_joined f both tree p (q ∷ ps) t =
    let parts = target_join (tree p) (joined (map tree (q ∷ ps))) t in
    ap f parts.2 ∙ both (target_tree (tree p)) (target_tree (joined (map tree (q ∷ ps)))) ∙ ap (λ bs. f (target_tree (tree p)) ++ bs) (each_joined f both tree q ps parts.1)

-- a replication that is a target has one copy
one_copy : (count : ℕ) (e : E.Expression) → IsTarget (E.Repeat count e) → IsTarget e × (target_tree (E.Repeat count e) ≡ target_tree e)
one_copy count e t = go (count == 1) t.target t.fits
  where
    go : (b : Bool) → is_some (if b then target_of e else None) ≡ true → fits_target (unwrap_or (if b then target_of e else None) (Whole no_signal)) ≡ true → IsTarget e × (unwrap_or (if b then target_of e else None) (Whole no_signal) ≡ target_tree e)
    go true h k = (record { target = h; fits = k }, refl)
    go false h k = cc

module _ (a kept : Arena) (e : ℕ) (n : Node) (parts slice items : List ℕ) (same : kept ≡ a) (tree : tree_of kept e ≡ E.At (place_of kept e) (tree_of_node kept n)) (is : n ≡ N.Join parts) (copy : items ≡ first_copy slice) (sliced : slice ≡ parts) (t : IsTarget (tree_of a e)) where
  whole : IsTarget (E.Repeat (copy_count parts) (joined (map (tree_of a) (first_copy parts))))
  whole =
      let h : IsTarget (E.At (place_of a e) (tree_of_node a (N.Join parts))) = subst IsTarget (tree_is a kept e n (N.Join parts) same tree is) t in
      record { target = h.target; fits = h.fits }

  these : items ≡ first_copy parts
  these = copy ∙ ap first_copy sliced

  inner : IsTarget (joined (map (tree_of a) items)) × (target_tree (tree_of a e) ≡ target_tree (joined (map (tree_of a) items)))
  inner =
      let one = one_copy (copy_count parts) (joined (map (tree_of a) (first_copy parts))) whole in (
        subst (λ xs. IsTarget (joined (map (tree_of a) xs))) (sym these) one.0,
        ap target_tree (tree_is a kept e n (N.Join parts) same tree is) ∙ one.1 ∙ ap (λ xs. target_tree (joined (map (tree_of a) xs))) (sym these),
      )

  pub target_part : (k : ℕ) → k < length items → IsTarget (tree_of a (get_or items k 0))
  target_part k h = part_target (tree_of a) items k inner.0 h

  -- all parts
  pub all_targets : (f : Target → List ℕ) → ((s u : Target) → f (Both s u) ≡ f s ++ f u) → (k : ℕ) (out begun : List ℕ) → length items ≤ k → out ++ each_target f (tree_of a) (drop k items) ≡ begun ++ each_target f (tree_of a) items
      → out ≡ begun ++ f (target_tree (tree_of a e))
  all_targets f both k out begun done so_far =
      sym (append-nil out) ∙ ap (λ xs. out ++ each_target f (tree_of a) xs) (sym (drop_none k items done)) ∙ so_far ∙ ap (λ bs. begun ++ bs) (sym (ap f inner.1 ∙ of_all items inner.0))
    where
      of_all : (ps : List ℕ) → IsTarget (joined (map (tree_of a) ps)) → f (target_tree (joined (map (tree_of a) ps))) ≡ each_target f (tree_of a) ps
      of_all [] u = never u.target
        where
          never : false ≡ true → f (target_tree (joined [])) ≡ []
          never h = cc
      of_all (p ∷ ps) u = each_joined f both (tree_of a) p ps u
