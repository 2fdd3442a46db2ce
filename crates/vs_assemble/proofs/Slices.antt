-- Parts of lists.
use Rattle.std.proofs.Common.{◌≡◌, ℕ, ◌+◌, ◌-◌, ◌≤◌, List, ◌++◌, length, take, drop, sym, ap, ◌∙◌, arith, length-append, length-drop}
use Rattle.std.specs.List.{slice_range}
use Rattle.std.proofs.lemmas.List.{take-append-le, drop-append-le, take_all, length-take-le}
use Rattle.std.proofs.lemmas.List.Folds.{drop_split}
use Rattle.std.proofs.Math.Seq.{take-append-add, drop-append_seam}

-- a part of the first list
pub part_of_first : {X : Type 0} (xs ys : List X) (a b : ℕ) → a ≤ b → b ≤ length xs → slice_range (xs ++ ys) a b ≡ slice_range xs a b
part_of_first xs ys a b l m =
    let low : a ≤ length xs = omega (arith, l, m) in
    let within : b - a ≤ length (drop a xs) = let long = length-drop a xs in omega (arith, long, l, m) in
    ap (take (b - a)) (drop-append-le a xs ys low) ∙ take-append-le (b - a) (drop a xs) ys within

-- all of the second list
pub part_of_second : {X : Type 0} (xs ys : List X) → slice_range (xs ++ ys) (length xs) (length (xs ++ ys)) ≡ ys
part_of_second xs ys =
    ap (take (length (xs ++ ys) - length xs)) (drop-append_seam xs ys)
    ∙ let long = length-append xs ys in take_all (length (xs ++ ys) - length xs) ys (omega (arith, long))

-- a part and the one behind it
pub parts_glued : {X : Type 0} (xs : List X) (a b c : ℕ) → a ≤ b → b ≤ c → c ≤ length xs → slice_range xs a b ++ slice_range xs b c ≡ slice_range xs a c
parts_glued xs a b c l m n =
    let first : length (slice_range xs a b) ≡ b - a = let long = length-drop a xs in length-take-le (b - a) (drop a xs) (omega (arith, long, l, m, n)) in
    let at : c - a ≡ length (slice_range xs a b) + (c - b) = omega (arith, first, l, m) in
    sym (ap (take (c - a)) (drop_split xs a b l) ∙ ap (λ k. take k (slice_range xs a b ++ drop b xs)) at ∙ take-append-add (slice_range xs a b) (drop b xs) (c - b))
