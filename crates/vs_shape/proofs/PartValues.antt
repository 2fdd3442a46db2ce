-- The value of a concatenation by those of its parts.
use Rattle.std.proofs.Common.{◌≡◌, ℕ, zero, suc, ◌+◌, ◌-◌, ◌≤◌, ◌<◌, Bool, false, ◌&&◌, List, [], ◌∷◌, ◌++◌, map, drop, length, get_or, replicate, if◌then◌else◌, refl, sym, ap, ◌∙◌, arith, append-nil, append_assoc}
use Rattle.std.proofs.lemmas.List.{length-append}
use Rattle.vs_four.specs.declared.Bit4.TheVariants.{Zero, X}
use Rattle.vs_four.specs.Logic.{BitList}
use Rattle.vs_four.specs.Lengths.{extend, last_or}
use Rattle.vs_design.specs.Expressions.{Expression, Join, width, is_constant}
use Rattle.vs_design.specs.Fits.{fits, fits_64}
use Rattle.vs_design.specs.Values.{constant_value}
use Rattle.vs_design.proofs.Lengths.{length_value}
use Rattle.vs_flat.specs.Trees.{joined}
use Rattle.vs_shape.specs.Constants.{IsValued}
use Rattle.vs_shape.proofs.Names.{and_both}

-- the parts' values one after the other, that of the last part lowest
abbrev pub parts_value : List Expression → BitList
parts_value [] = []
parts_value (t ∷ ts) = parts_value ts ++ constant_value t

length_constant : (e : Expression) → length (constant_value e) ≡ width e
length_constant e = length_value e (width e) _ (λ b. X) (omega arith)

extend_same : (w : ℕ) (signed : Bool) (a : BitList) → length a ≡ w → extend w signed a ≡ a
extend_same w signed a h =
    let none : w - length a ≡ 0 = omega arith in
    ap (λ n. a ++ replicate n (if signed then last_or Zero a else Zero)) none ∙ append-nil a

value_join : (e f : Expression) → constant_value (Join e f) ≡ constant_value f ++ constant_value e
value_join e f =
    extend_same (width e + width f) false (constant_value f ++ constant_value e)
    (length-append (constant_value f) (constant_value e) ∙ omega (arith, length_constant e, length_constant f))

pub parts_joined : (t : Expression) (ts : List Expression) → parts_value (t ∷ ts) ≡ constant_value (joined (t ∷ ts))
parts_joined t [] = refl
parts_joined t (u ∷ ts) = ap (λ bs. bs ++ constant_value t) (parts_joined u ts) ∙ sym (value_join t (joined (u ∷ ts)))

valued_join : (e f : Expression) → IsValued (Join e f) → IsValued e × IsValued f
valued_join e f v =
    let constant = and_both (is_constant e) (is_constant f) v.constant in
    let whole = and_both (fits_64 (width e + width f) && fits e) (fits f) v.fits in
    let first = and_both (fits_64 (width e + width f)) (fits e) whole.0 in
    (record { constant = constant.0; fits = first.1 }, record { constant = constant.1; fits = whole.1 })

pub part_valued : (tree : ℕ → Expression) (ps : List ℕ) (k : ℕ) → IsValued (joined (map tree ps)) → k < length ps → IsValued (tree (get_or ps k 0))
part_valued tree [] k v h = absurd (omega arith)
part_valued tree (p ∷ []) zero v h = v
part_valued tree (p ∷ []) (suc k) v h = absurd (omega arith)
part_valued tree (p ∷ q ∷ ps) zero v h = (valued_join (tree p) (joined (map tree (q ∷ ps))) v).0
part_valued tree (p ∷ q ∷ ps) (suc k) v h = part_valued tree (q ∷ ps) k (valued_join (tree p) (joined (map tree (q ∷ ps))) v).1 (omega arith)

length_parts : (t : Expression) (ts : List Expression) → length (parts_value (t ∷ ts)) ≡ width (joined (t ∷ ts))
length_parts t ts = ap length (parts_joined t ts) ∙ length_constant (joined (t ∷ ts))

-- the parts from this one on
parts_from : (tree : ℕ → Expression) (ps : List ℕ) (n : ℕ) → n < length ps → parts_value (map tree (drop n ps)) ≡ parts_value (map tree (drop (suc n) ps)) ++ constant_value (tree (get_or ps n 0))
parts_from tree [] n h = absurd (omega arith)
parts_from tree (p ∷ ps) zero h = refl
parts_from tree (p ∷ ps) (suc n) h = parts_from tree ps n (omega arith)

drop_none : {A : Type 0} (n : ℕ) (xs : List A) → length xs ≤ n → drop n xs ≡ []
drop_none n [] h = drop_nil n
  where
    drop_nil : {A : Type 0} (n : ℕ) → drop n (let xs : List A = [] in xs) ≡ []
    drop_nil zero = refl
    drop_nil (suc n) = refl
drop_none zero (x ∷ xs) h = absurd (omega arith)
drop_none (suc n) (x ∷ xs) h = drop_none n xs (omega arith)

pub room_for_part : (tree : ℕ → Expression) (ps : List ℕ) (n : ℕ) (whole last : BitList) → n < length ps → parts_value (map tree (drop n ps)) ++ whole ≡ parts_value (map tree ps)
    → last ≡ constant_value (tree (get_or ps n 0)) → width (joined (map tree ps)) ≤ 64 → length whole + length last ≤ 64
room_for_part tree [] n whole last h so_far is most = absurd (omega arith)
room_for_part tree (p ∷ ps) n whole last h so_far is most =
    let all = p ∷ ps in
    let rest : BitList = parts_value (map tree (drop (suc n) all)) in
    let whole_length : length (rest ++ constant_value (tree (get_or all n 0))) + length whole ≡ width (joined (map tree all)) =
    ap (λ bs. length bs + length whole) (sym (parts_from tree all n h)) ∙ sym (length-append (parts_value (map tree (drop n all))) whole) ∙ ap length so_far ∙ length_parts (tree p) (map tree ps)
    in
    omega (arith, whole_length, length-append rest (constant_value (tree (get_or all n 0))), ap length is, most)

pub with_part : (tree : ℕ → Expression) (ps : List ℕ) (n : ℕ) (whole last : BitList) → n < length ps → parts_value (map tree (drop n ps)) ++ whole ≡ parts_value (map tree ps)
    → last ≡ constant_value (tree (get_or ps n 0)) → parts_value (map tree (drop (suc n) ps)) ++ (last ++ whole) ≡ parts_value (map tree ps)
with_part tree ps n whole last h so_far is =
    ap (λ bs. parts_value (map tree (drop (suc n) ps)) ++ (bs ++ whole)) is ∙ sym (append_assoc (parts_value (map tree (drop (suc n) ps))) (constant_value (tree (get_or ps n 0))) whole)
    ∙ ap (λ bs. bs ++ whole) (sym (parts_from tree ps n h)) ∙ so_far

pub all_parts : (tree : ℕ → Expression) (ps : List ℕ) (n : ℕ) (whole : BitList) → 1 ≤ length ps → length ps ≤ n → parts_value (map tree (drop n ps)) ++ whole ≡ parts_value (map tree ps)
    → whole ≡ constant_value (joined (map tree ps))
all_parts tree [] n whole some done so_far = absurd (omega arith)
all_parts tree (p ∷ ps) n whole some done so_far =
    ap (λ xs. parts_value (map tree xs) ++ whole) (sym (drop_none n (p ∷ ps) done)) ∙ so_far ∙ parts_joined (tree p) (map tree ps)

pub length_all_parts : (tree : ℕ → Expression) (ps : List ℕ) (whole : BitList) → whole ≡ constant_value (joined (map tree ps)) → length whole ≡ width (joined (map tree ps))
length_all_parts tree ps whole is = ap length is ∙ length_constant (joined (map tree ps))
