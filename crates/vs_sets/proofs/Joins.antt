-- The parts of a concatenation.
use Rattle.std.proofs.Common.{◌≡◌, ℕ, zero, suc, ◌+◌, ◌*◌, ◌<◌, ◌≤◌, true, List, [], ◌∷◌, ◌++◌, length, map, drop, get_or, refl, sym, ap, ◌∙◌, subst, arith, length-append}
use Rattle.std.proofs.lemmas.List.{drop_more, length-map}
use Rattle.vs_four.specs.Lengths.{repeat}
use Rattle.vs_design.specs.Sets.{Set4}
use Rattle.vs_design.specs.Expressions.{Expression, Join, width}
use Rattle.vs_design.specs.Fits.{is_fit}
use Rattle.vs_design.specs.Lifted.{Family, own_sets}
use Rattle.vs_design.specs.TreeLaws.{ValueLength}
use Rattle.vs_flat.specs.Trees.{joined, no_expression}
use Rattle.vs_sets.specs.PartSets.{part_sets}
use Rattle.vs_sets.proofs.Fit.{fit_parts}
use Rattle.vs_sets.proofs.Widths.{joined_sets, length-own, length-repeat}

part_fit : (es : List Expression) (k : ℕ) → is_fit (joined es) ≡ true → k < length es → is_fit (get_or es k no_expression) ≡ true
part_fit [] k h inside = absurd (omega arith)
part_fit (e ∷ []) zero h inside = h
part_fit (e ∷ []) (suc k) h inside = absurd (omega arith)
part_fit (e ∷ f ∷ es) zero h inside = (fit_parts (Join e (joined (f ∷ es))) h).1
part_fit (e ∷ f ∷ es) (suc k) h inside = part_fit (f ∷ es) k ((fit_parts (Join e (joined (f ∷ es))) h).2) (omega arith)

pub get_or-trees : (tree : ℕ → Expression) (ns : List ℕ) (k : ℕ) → k < length ns → get_or (map tree ns) k no_expression ≡ tree (get_or ns k 0)
get_or-trees tree [] k h = absurd (omega arith)
get_or-trees tree (n ∷ ns) zero h = refl
get_or-trees tree (n ∷ ns) (suc k) h = get_or-trees tree ns k (omega arith)

-- each part of a concatenation is fit
pub each_fit : (tree : ℕ → Expression) (ns : List ℕ) (k : ℕ) → is_fit (joined (map tree ns)) ≡ true → k < length ns → is_fit (tree (get_or ns k 0)) ≡ true
each_fit tree ns k h inside = subst (λ (e : Expression). is_fit e ≡ true) (get_or-trees tree ns k inside) (part_fit (map tree ns) k h (omega (arith, length-map ns tree)))

pub length-part_sets : ValueLength → (es : List Expression) (sets : Family) → length (part_sets es sets) ≡ width (joined es)
length-part_sets law es sets = ap length (sym (joined_sets law es sets)) ∙ length-own law (joined es) sets

rest_shorter : (es : List Expression) (sets : Family) (n : ℕ) → length (part_sets (drop n es) sets) ≤ length (part_sets es sets)
rest_shorter es sets zero = omega arith
rest_shorter [] sets (suc n) = omega arith
rest_shorter (e ∷ es) sets (suc n) = omega (arith, rest_shorter es sets n, length-append (part_sets es sets) (own_sets e sets))

-- one part more
pub part_step : (tree : ℕ → Expression) (ns : List ℕ) (sets : Family) (n : ℕ) → n < length ns
    → part_sets (drop n (map tree ns)) sets ≡ part_sets (drop (n + 1) (map tree ns)) sets ++ own_sets (tree (get_or ns n 0)) sets
part_step tree ns sets n inside =
    let e = drop_more (map tree ns) n no_expression (omega (arith, length-map ns tree)) in
    ap (λ es. part_sets es sets) e ∙ ap (λ t. part_sets (drop (n + 1) (map tree ns)) sets ++ own_sets t sets) (get_or-trees tree ns n inside)

pub part_room : ValueLength → (tree : ℕ → Expression) (ns : List ℕ) (sets : Family) (n : ℕ) (done own : List Set4) → n < length ns → width (joined (map tree ns)) ≤ 64
    → done ≡ part_sets (drop (n + 1) (map tree ns)) sets → own ≡ own_sets (tree (get_or ns n 0)) sets → length done + length own ≤ 64
part_room law tree ns sets n done own inside few d o =
    let all = length-part_sets law (map tree ns) sets in
    let shorter = rest_shorter (map tree ns) sets n in
    let step = ap length (part_step tree ns sets n inside) in
    let both = length-append (part_sets (drop (n + 1) (map tree ns)) sets) (own_sets (tree (get_or ns n 0)) sets) in
    let d2 = ap length d in
    let o2 = ap length o in
    omega (arith, all, shorter, step, both, d2, o2, few)

pub repeat_room : (n : ℕ) (xs : List Set4) (w : ℕ) → length xs ≡ w → n * w ≤ 64 → length (repeat n xs) ≤ 64
repeat_room n xs w h few = rw (length-repeat n xs, h) few
