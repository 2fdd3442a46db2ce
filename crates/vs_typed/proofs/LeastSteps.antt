-- The least of places, step by step.
use Rattle.std.proofs.Common.{◌≡◌, ℕ, zero, suc, ◌+◌, ◌*◌, ◌<◌, ◌≤◌, Bool, true, false, List, [], ◌∷◌, ◌++◌, length, map, take, drop, get_or, min, Option, Some, None, refl, sym, ap, ap₂, ◌∙◌, subst, arith, if◌then◌else◌}
use Rattle.std.specs.Prelude.{nat_lt}
use Rattle.std.proofs.lemmas.Bool.Decides.{nat_tests}
use Rattle.std.proofs.lemmas.List.{append-nil, drop_more}
use Rattle.vs_design.specs.Expressions.{Expression, Literal, Name, Select, Word, WordPart, Unary, Binary, Choice, Join, Repeat, At, Call, width}
use Rattle.vs_design.specs.Refusals.{least_with, over_64}
use Rattle.vs_flat.specs.Trees.{joined, copy_count}
use Rattle.vs_shape.specs.Nodes.{EachBelow}
use Rattle.vs_typed.specs.declared.places.Rule.{Rule}
use Rattle.vs_typed.specs.declared.places.Rule.TheVariants.{Wide, Division}
use Rattle.vs_typed.specs.Places.{places_of, own_places, least_from, head_places, call_places, rest_places, IsPlain, part_places}

-- ---- lists

pub from_none : (best : Option ℕ) → least_from best [] ≡ best
from_none None = refl
from_none (Some n) = refl

with_append : (n : ℕ) (xs ys : List ℕ) → least_with n (xs ++ ys) ≡ least_with (least_with n xs) ys
with_append n [] ys = refl
with_append n (x ∷ xs) ys = with_append (min n x) xs ys

pub from_append : (best : Option ℕ) (xs ys : List ℕ) → least_from best (xs ++ ys) ≡ least_from (least_from best xs) ys
from_append (Some n) xs ys = ap Some (with_append n xs ys)
from_append None [] ys = refl
from_append None (x ∷ xs) ys = ap Some (with_append x xs ys)

pub with_min : (n m : ℕ) (ms : List ℕ) → least_with (min n m) ms ≡ min (least_with n ms) m
with_min n m [] = refl
with_min n m (k ∷ ms) =
    let e : min (min n m) k ≡ min (min n k) m = omega arith in
    ap (λ j. least_with j ms) e ∙ with_min (min n k) m ms

one_last : (best : Option ℕ) (m : ℕ) (xs : List ℕ) → least_from (least_from best (m ∷ [])) xs ≡ least_from (least_from best xs) (m ∷ [])
one_last (Some n) m xs = ap Some (with_min n m xs)
one_last None m [] = refl
one_last None m (x ∷ xs) =
    let e : min m x ≡ min x m = omega arith in
    ap (λ j. Some (least_with j xs)) e ∙ ap Some (with_min x m xs)

one_twice : (best : Option ℕ) (m : ℕ) → least_from (least_from best (m ∷ [])) (m ∷ []) ≡ least_from best (m ∷ [])
one_twice (Some n) m = let e : min (min n m) m ≡ min n m = omega arith in ap Some e
one_twice None m = let e : min m m ≡ m = omega arith in ap Some e

-- ---- what is added by a length of over 64 bits

abbrev over : Bool → ℕ → List ℕ
over k at = if k then (at ∷ []) else []

over_twice : (k : Bool) (best : Option ℕ) (at : ℕ) → least_from (least_from best (over k at)) (over k at) ≡ least_from best (over k at)
over_twice true best at = one_twice best at
over_twice false best at = from_none (least_from best [])

over_last : (k : Bool) (best : Option ℕ) (at : ℕ) (xs : List ℕ) → least_from (least_from best (over k at)) xs ≡ least_from (least_from best xs) (over k at)
over_last true best at xs = one_last best at xs
over_last false best at xs = ap (λ b. least_from b xs) (from_none best) ∙ sym (from_none (least_from best xs))

-- the place of lengths as far as n is there already
abbrev pub Absorbs : Rule → ℕ → ℕ → Option ℕ → Type 0
Absorbs rule at n best = (m : ℕ) → m ≤ n → least_from best (own_places rule at m) ≡ best

own_last : (rule : Rule) (best : Option ℕ) (at m : ℕ) (xs : List ℕ) → least_from (least_from best xs) (own_places rule at m) ≡ least_from (least_from best (own_places rule at m)) xs
own_last Wide best at m xs = sym (over_last (nat_lt 64 m) best at xs)
own_last Division best at m xs = from_none (least_from best xs) ∙ ap (λ b. least_from b xs) (sym (from_none best))

pub absorbs_more : (rule : Rule) (at n : ℕ) (best : Option ℕ) (xs : List ℕ) → Absorbs rule at n best → Absorbs rule at n (least_from best xs)
absorbs_more rule at n best xs h m k = own_last rule best at m xs ∙ ap (λ b. least_from b xs) (h m k)

pub absorbs_own : (rule : Rule) (at n : ℕ) (best : Option ℕ) → Absorbs rule at n (least_from best (own_places rule at n))
absorbs_own Division at n best m k = from_none (least_from best [])
absorbs_own Wide at n best m k = go (nat_lt 64 m) (nat_lt 64 n) refl refl where
  go : (i j : Bool) → nat_lt 64 m ≡ i → nat_lt 64 n ≡ j → least_from (least_from best (over (nat_lt 64 n) at)) (over (nat_lt 64 m) at) ≡ least_from best (over (nat_lt 64 n) at)
  go false j p q = ap (λ b. least_from (least_from best (over (nat_lt 64 n) at)) (over b at)) p ∙ from_none (least_from best (over (nat_lt 64 n) at))
  go true true p q = ap₂ (λ b d. least_from (least_from best (over d at)) (over b at)) p q ∙ one_twice best at ∙ ap (λ d. least_from best (over d at)) (sym q)
  go true false p q = absurd (let l : 64 < m = grind (arith, nat_tests, p) in let o : n ≤ 64 = grind (arith, nat_tests, q) in omega arith)

-- ---- concatenations

pub joined_places : (rule : Rule) (at n : ℕ) (es : List Expression) (best : Option ℕ) → width (joined es) ≤ n → Absorbs rule at n best → least_from best (places_of rule at (joined es)) ≡ least_from best (part_places rule at es)
joined_places Wide at n [] best h k = refl
joined_places Division at n [] best h k = refl
joined_places rule at n (e ∷ []) best h k = ap (least_from best) (sym (append-nil (places_of rule at e)))
joined_places rule at n (e ∷ f ∷ es) best h k =
    let rest = joined (f ∷ es) in
    let next = least_from best (places_of rule at e) in
    split rule e rest
    ∙ from_append best (own_places rule at (width e + width rest)) (places_of rule at e ++ places_of rule at rest)
    ∙ ap (λ b. least_from b (places_of rule at e ++ places_of rule at rest)) (k (width e + width rest) h)
    ∙ from_append best (places_of rule at e) (places_of rule at rest)
    ∙ joined_places rule at n (f ∷ es) next (omega (arith, h)) (absorbs_more rule at n best (places_of rule at e) k)
    ∙ sym (from_append best (places_of rule at e) (part_places rule at (f ∷ es)))
  where
    split : (rule : Rule) (e rest : Expression) → least_from best (places_of rule at (Join e rest)) ≡ least_from best (own_places rule at (width e + width rest) ++ (places_of rule at e ++ places_of rule at rest))
    split Wide e rest = refl
    split Division e rest = refl

-- ---- nodes

-- where it is known which expression is left
pub placed_node : (rule : Rule) (at place : ℕ) (x : Expression) (best : Option ℕ) → IsPlain x → least_from best (places_of rule at (At place x)) ≡ least_from (least_from best (head_places rule place x)) (rest_places rule place x)
placed_node rule at place x best plain = go rule x plain where
  twice : (n : ℕ) (xs : List ℕ) → least_from best (over_64 place n ++ (over_64 place n ++ xs)) ≡ least_from (least_from best (over_64 place n)) xs
  twice n xs =
      from_append best (over_64 place n) (over_64 place n ++ xs) ∙ from_append (least_from best (over_64 place n)) (over_64 place n) xs
      ∙ ap (λ b. least_from b xs) (over_twice (nat_lt 64 n) best place)

  alone : (n : ℕ) → least_from best (over_64 place n ++ over_64 place n) ≡ least_from (least_from best (over_64 place n)) []
  alone n = ap (λ xs. least_from best (over_64 place n ++ xs)) (sym (append-nil (over_64 place n))) ∙ twice n []

  none : (xs : List ℕ) → least_from best xs ≡ least_from (least_from best []) xs
  none xs = ap (λ b. least_from b xs) (sym (from_none best))

  go : (rule : Rule) (x : Expression) → IsPlain x → least_from best (places_of rule at (At place x)) ≡ least_from (least_from best (head_places rule place x)) (rest_places rule place x)
  go Wide (Literal bits signed sized) p = alone (length bits)
  go Wide (Name signal) p = alone (width (Name signal))
  go Wide (Select source part index) p = twice (width (Select source part index)) (places_of Wide place index)
  go Wide (Word signal index) p = twice (width (Word signal index)) (places_of Wide place index)
  go Wide (WordPart signal address part index) p = twice (width (WordPart signal address part index)) (places_of Wide place address ++ places_of Wide place index)
  go Wide (Unary op a) p = twice (width (Unary op a)) (places_of Wide place a)
  go Wide (Binary op a b) p = twice (width (Binary op a b)) (places_of Wide place a ++ places_of Wide place b)
  go Wide (Choice c d e) p = twice (width (Choice c d e)) (places_of Wide place c ++ (places_of Wide place d ++ places_of Wide place e))
  go Wide (Join high low) p = twice (width (Join high low)) (places_of Wide place high ++ places_of Wide place low)
  go Wide (Repeat count a) p = twice (width (Repeat count a)) (places_of Wide place a)
  go Wide (At q e) p = absurd p
  go Wide (Call header statement arguments) p = twice (width (Call header statement arguments)) (call_places Wide place arguments header.place statement)
  go Division (Literal bits signed sized) p = none []
  go Division (Name signal) p = none []
  go Division (Select source part index) p = none (places_of Division place index)
  go Division (Word signal index) p = none (places_of Division place index)
  go Division (WordPart signal address part index) p = none (places_of Division place address ++ places_of Division place index)
  go Division (Unary op a) p = none (places_of Division place a)
  go Division (Binary op a b) p = from_append best (head_places Division place (Binary op a b)) (places_of Division place a ++ places_of Division place b)
  go Division (Choice c d e) p = none (places_of Division place c ++ (places_of Division place d ++ places_of Division place e))
  go Division (Join high low) p = none (places_of Division place high ++ places_of Division place low)
  go Division (Repeat count a) p = none (places_of Division place a)
  go Division (At q e) p = absurd p
  go Division (Call header statement arguments) p = none (call_places Division place arguments header.place statement)

pub node_done : (rule : Rule) (at place : ℕ) (best head found : Option ℕ) (t x : Expression) → t ≡ At place x → IsPlain x → head ≡ least_from best (head_places rule place x) → found ≡ least_from head (rest_places rule place x)
    → found ≡ least_from best (places_of rule at t)
node_done rule at place best head found t x is plain h f = f ∙ ap (λ b. least_from b (rest_places rule place x)) h ∙ sym (placed_node rule at place x best plain) ∙ ap (λ y. least_from best (places_of rule at y)) (sym is)

-- ---- lists of expressions

pub part_step : (rule : Rule) (at : ℕ) (tree : ℕ → Expression) (parts : List ℕ) (k : ℕ) (best after : Option ℕ) → k < length parts → after ≡ least_from best (places_of rule at (tree (get_or parts k 0)))
    → least_from after (part_places rule at (map tree (drop (k + 1) parts))) ≡ least_from best (part_places rule at (map tree (drop k parts)))
part_step rule at tree parts k best after h is =
    ap (λ b. least_from b (part_places rule at (map tree (drop (k + 1) parts)))) is
    ∙ sym (from_append best (places_of rule at (tree (get_or parts k 0))) (part_places rule at (map tree (drop (k + 1) parts))))
    ∙ ap (λ ps. least_from best (part_places rule at (map tree ps))) (sym (drop_more parts k 0 h))

-- ---- copies

pub drop_none : {A : Type 0} (xs : List A) (k : ℕ) → length xs ≤ k → drop k xs ≡ []
drop_none [] zero h = refl
drop_none [] (suc k) h = refl
drop_none (x ∷ xs) zero h = absurd (omega arith)
drop_none (x ∷ xs) (suc k) h = drop_none xs k (omega arith)

get_take : (n k : ℕ) (xs : List ℕ) → k < n → get_or (take n xs) k 0 ≡ get_or xs k 0
get_take zero k xs h = absurd (omega arith)
get_take (suc n) k [] h = refl
get_take (suc n) zero (x ∷ xs) h = refl
get_take (suc n) (suc k) (x ∷ xs) h = get_take n k xs (omega arith)

-- what is before all before a copy
pub copy_below : (e : ℕ) (all copy : List ℕ) → EachBelow e all → copy ≡ take (length copy) all → length copy ≤ length all → EachBelow e copy
copy_below e all copy h is short k inside =
    subst (λ n. n < e) (sym (ap (λ xs. get_or xs k 0) is ∙ get_take (length copy) k all inside)) (h k (omega (arith, inside, short)))

pub some_copies : (parts : List ℕ) → 1 ≤ copy_count parts
some_copies [] = omega arith
some_copies (e ∷ es) = omega arith

pub more_copies : (n w : ℕ) → 1 ≤ n → w ≤ n * w
more_copies zero w h = absurd (omega arith)
more_copies (suc n) w h = grind arith

pub copies_absorb : (rule : Rule) (at count : ℕ) (x : Expression) (best head : Option ℕ) → head ≡ least_from best (head_places rule at (Repeat count x)) → Absorbs rule at (count * width x) head
copies_absorb Wide at count x best head h = subst (Absorbs Wide at (count * width x)) (sym h) (absorbs_own Wide at (count * width x) best)
copies_absorb Division at count x best head h = subst (Absorbs Division at (count * width x)) (sym h) (absorbs_own Division at (count * width x) best)

pub two_more : (best : Option ℕ) (xs ys zs : List ℕ) → least_from (least_from (least_from best xs) ys) zs ≡ least_from best (xs ++ (ys ++ zs))
two_more best xs ys zs = sym (from_append best xs (ys ++ zs) ∙ from_append (least_from best xs) ys zs)
