-- The value of a concatenation by those of its parts.
use Rattle.std.proofs.Common.{◌≡◌, ℕ, zero, suc, ◌+◌, ◌-◌, ◌≤◌, ◌<◌, Bool, false, true, ◌&&◌, List, [], ◌∷◌, ◌++◌, map, drop, length, get_or, replicate, if◌then◌else◌, refl, sym, ap, ◌∙◌, arith, append-nil, append_assoc}
use Rattle.std.proofs.lemmas.List.{length-append}
use Rattle.vs_four.specs.declared.Bit4.TheVariants.{Zero}
use Rattle.vs_four.specs.Logic.{BitList}
use Rattle.vs_four.specs.Lengths.{extend, last_or}
use Rattle.vs_net.specs.Network.{State}
use Rattle.vs_design.specs.Expressions.{Expression, Join, width}
use Rattle.vs_design.specs.Fits.{fits, fits_64}
use Rattle.vs_design.specs.Values.{own_value}
use Rattle.vs_design.proofs.Lengths.{length_value}
use Rattle.vs_flat.specs.Trees.{joined}
use Rattle.vs_shape.proofs.Names.{and_both}

-- the parts' values one after the other, that of the last part lowest
abbrev pub parts_value : State → List Expression → BitList
parts_value s [] = []
parts_value s (t ∷ ts) = parts_value s ts ++ own_value t s

length_own : (s : State) (e : Expression) → length (own_value e s) ≡ width e
length_own s e = length_value e (width e) _ s (omega arith)

extend_same : (w : ℕ) (signed : Bool) (a : BitList) → length a ≡ w → extend w signed a ≡ a
extend_same w signed a h =
    let none : w - length a ≡ 0 = omega arith in
    ap (λ n. a ++ replicate n (if signed then last_or Zero a else Zero)) none ∙ append-nil a

value_join : (s : State) (e f : Expression) → own_value (Join e f) s ≡ own_value f s ++ own_value e s
value_join s e f =
    extend_same (width e + width f) false (own_value f s ++ own_value e s)
    (length-append (own_value f s) (own_value e s) ∙ omega (arith, length_own s e, length_own s f))

pub parts_joined : (s : State) (t : Expression) (ts : List Expression) → parts_value s (t ∷ ts) ≡ own_value (joined (t ∷ ts)) s
parts_joined s t [] = refl
parts_joined s t (u ∷ ts) = ap (λ bs. bs ++ own_value t s) (parts_joined s u ts) ∙ sym (value_join s t (joined (u ∷ ts)))

join_fits : (e f : Expression) → fits (Join e f) ≡ true → (fits e ≡ true) × (fits f ≡ true)
join_fits e f h =
    let whole = and_both (fits_64 (width e + width f) && fits e) (fits f) h in
    ((and_both (fits_64 (width e + width f)) (fits e) whole.0).1, whole.1)

pub part_fits : (tree : ℕ → Expression) (ps : List ℕ) (k : ℕ) → fits (joined (map tree ps)) ≡ true → k < length ps → fits (tree (get_or ps k 0)) ≡ true
part_fits tree [] k f h = absurd (omega arith)
part_fits tree (p ∷ []) zero f h = f
part_fits tree (p ∷ []) (suc k) f h = absurd (omega arith)
part_fits tree (p ∷ q ∷ ps) zero f h = (join_fits (tree p) (joined (map tree (q ∷ ps))) f).0
part_fits tree (p ∷ q ∷ ps) (suc k) f h = part_fits tree (q ∷ ps) k (join_fits (tree p) (joined (map tree (q ∷ ps))) f).1 (omega arith)

length_parts : (s : State) (t : Expression) (ts : List Expression) → length (parts_value s (t ∷ ts)) ≡ width (joined (t ∷ ts))
length_parts s t ts = ap length (parts_joined s t ts) ∙ length_own s (joined (t ∷ ts))

-- the parts from this one on
parts_from : (s : State) (tree : ℕ → Expression) (ps : List ℕ) (n : ℕ) → n < length ps → parts_value s (map tree (drop n ps)) ≡ parts_value s (map tree (drop (suc n) ps)) ++ own_value (tree (get_or ps n 0)) s
parts_from s tree [] n h = absurd (omega arith)
parts_from s tree (p ∷ ps) zero h = refl
parts_from s tree (p ∷ ps) (suc n) h = parts_from s tree ps n (omega arith)

drop_none : {A : Type 0} (n : ℕ) (xs : List A) → length xs ≤ n → drop n xs ≡ []
drop_none n [] h = drop_nil n
  where
    drop_nil : {A : Type 0} (n : ℕ) → drop n (let xs : List A = [] in xs) ≡ []
    drop_nil zero = refl
    drop_nil (suc n) = refl
drop_none zero (x ∷ xs) h = absurd (omega arith)
drop_none (suc n) (x ∷ xs) h = drop_none n xs (omega arith)

pub room_for_part : (s : State) (tree : ℕ → Expression) (ps : List ℕ) (n : ℕ) (whole last : BitList) → n < length ps → parts_value s (map tree (drop n ps)) ++ whole ≡ parts_value s (map tree ps)
    → last ≡ own_value (tree (get_or ps n 0)) s → width (joined (map tree ps)) ≤ 64 → length whole + length last ≤ 64
room_for_part s tree [] n whole last h so_far is most = absurd (omega arith)
room_for_part s tree (p ∷ ps) n whole last h so_far is most =
    let all = p ∷ ps in
    let rest : BitList = parts_value s (map tree (drop (suc n) all)) in
    let whole_length : length (rest ++ own_value (tree (get_or all n 0)) s) + length whole ≡ width (joined (map tree all)) =
    ap (λ bs. length bs + length whole) (sym (parts_from s tree all n h)) ∙ sym (length-append (parts_value s (map tree (drop n all))) whole) ∙ ap length so_far ∙ length_parts s (tree p) (map tree ps)
    in
    omega (arith, whole_length, length-append rest (own_value (tree (get_or all n 0)) s), ap length is, most)

pub with_part : (s : State) (tree : ℕ → Expression) (ps : List ℕ) (n : ℕ) (whole last : BitList) → n < length ps → parts_value s (map tree (drop n ps)) ++ whole ≡ parts_value s (map tree ps)
    → last ≡ own_value (tree (get_or ps n 0)) s → parts_value s (map tree (drop (suc n) ps)) ++ (last ++ whole) ≡ parts_value s (map tree ps)
with_part s tree ps n whole last h so_far is =
    ap (λ bs. parts_value s (map tree (drop (suc n) ps)) ++ (bs ++ whole)) is ∙ sym (append_assoc (parts_value s (map tree (drop (suc n) ps))) (own_value (tree (get_or ps n 0)) s) whole)
    ∙ ap (λ bs. bs ++ whole) (sym (parts_from s tree ps n h)) ∙ so_far

pub all_parts : (s : State) (tree : ℕ → Expression) (ps : List ℕ) (n : ℕ) (whole : BitList) → 1 ≤ length ps → length ps ≤ n → parts_value s (map tree (drop n ps)) ++ whole ≡ parts_value s (map tree ps)
    → whole ≡ own_value (joined (map tree ps)) s
all_parts s tree [] n whole some done so_far = absurd (omega arith)
all_parts s tree (p ∷ ps) n whole some done so_far =
    ap (λ xs. parts_value s (map tree xs) ++ whole) (sym (drop_none n (p ∷ ps) done)) ∙ so_far ∙ parts_joined s (tree p) (map tree ps)

pub length_all_parts : (s : State) (tree : ℕ → Expression) (ps : List ℕ) (whole : BitList) → whole ≡ own_value (joined (map tree ps)) s → length whole ≡ width (joined (map tree ps))
length_all_parts s tree ps whole is = ap length is ∙ length_own s (joined (map tree ps))
