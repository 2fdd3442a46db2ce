-- The sets that a port gives to the net that copies another one.
use Rattle.std.proofs.Common.{◌≡◌, ℕ, zero, suc, ◌-◌, ◌≤◌, Bool, true, false, ◌||◌, ◌==◌, List, [], ◌∷◌, map, length, replicate, take, max, if◌then◌else◌, refl, sym, ap, ◌∙◌, subst, Some, arith, length-take}
use Rattle.std.specs.List.{list_all}
use Rattle.std.proofs.lemmas.List.Folds.{list_all-append}
use Rattle.vs_four.specs.declared.Bit4.TheVariants.{Zero}
use Rattle.vs_four.specs.Lengths.{last_or, cut}
use Rattle.vs_net.specs.Network.{put}
use Rattle.vs_design.specs.Expressions.{Signal, signal_length, Expression, Literal, Name, Select, Word, WordPart, Unary, Binary, Choice, Join, Repeat, At, Call, width, sign}
use Rattle.vs_design.specs.Values.{bits_of_signal}
use Rattle.vs_design.specs.Statements.{Whole}
use Rattle.vs_design.specs.Footprints.{contains}
use Rattle.vs_design.specs.Clocks.{name_of}
use Rattle.vs_design.specs.Sets.{Set4, only, is_known_set}
use Rattle.vs_design.specs.Lifted.{Family, lifted, extend_sets}
use Rattle.vs_design.specs.LiftedBodies.{put_each, assign_sets}
use Rattle.vs_design.proofs.Lists.{by_test, or_right, and_both, contains_head}
use Rattle.vs_design.proofs.Writes.{either_way, somes_all}
use Rattle.vs_design.proofs.Lengths.{length_count}
use Rattle.vs_design.proofs.SetReads.{length_lifted}
use Rattle.vs_design.proofs.TimeBits.{some_is}
use Rattle.vs_design.proofs.ClockNets.{name_facts}
use Rattle.vs_design.proofs.Along.{each_other}
use Rattle.vs_design.proofs.Covering.{and_true}

name_lifted : (e : Expression) (u : Signal) → name_of e ≡ Some u → (w : ℕ) (g : Bool) (f : Family) → lifted e w g f ≡ extend_sets w g (map f (bits_of_signal u))
name_lifted (Name t) u h w g f = ap {B = List Set4} (λ (z : Signal). extend_sets w g (map f (bits_of_signal z))) (some_is t u h)
name_lifted (At place e) u h w g f = name_lifted e u h w g f
name_lifted (Literal bits signed sized) u h w g f = cc
name_lifted (Select source part index) u h w g f = cc
name_lifted (Word signal index) u h w g f = cc
name_lifted (WordPart signal address part index) u h w g f = cc
name_lifted (Unary op a) u h w g f = cc
name_lifted (Binary op a b) u h w g f = cc
name_lifted (Choice c p q) u h w g f = cc
name_lifted (Join high low) u h w g f = cc
name_lifted (Repeat count a) u h w g f = cc
name_lifted (Call header statement arguments) u h w g f = cc

all_known_map : (bs : List ℕ) (f : Family) → ((b : ℕ) → contains bs b ≡ true → is_known_set (f b) ≡ true) → list_all is_known_set (map f bs) ≡ true
all_known_map [] f h = refl
all_known_map (b ∷ bs) f h = and_true (is_known_set (f b)) (list_all is_known_set (map f bs)) (h b (contains_head b bs)) (all_known_map bs f (λ c k. h c (or_right (c == b) (contains bs c) k)))

known_fill : (ss : List Set4) (s : Set4) → is_known_set s ≡ true → list_all is_known_set ss ≡ true → is_known_set (last_or s ss) ≡ true
known_fill [] s h k = h
known_fill (t ∷ ss) s h k = let a = and_both (is_known_set t) (list_all is_known_set ss) k in known_fill ss t a.0 a.1

known_copies : (n : ℕ) (s : Set4) → is_known_set s ≡ true → list_all is_known_set (replicate n s) ≡ true
known_copies zero s h = refl
known_copies (suc n) s h = and_true (is_known_set s) (list_all is_known_set (replicate n s)) h (known_copies n s h)

known_extended : (w : ℕ) (g : Bool) (ss : List Set4) → list_all is_known_set ss ≡ true → list_all is_known_set (extend_sets w g ss) ≡ true
known_extended w g ss h = list_all-append is_known_set ss (replicate (w - length ss) (if g then last_or (only Zero) ss else only Zero)) ∙ and_true (list_all is_known_set ss) (list_all is_known_set (replicate (w - length ss) (if g then last_or (only Zero) ss else only Zero))) h
    (known_copies (w - length ss) (if g then last_or (only Zero) ss else only Zero) (fill g))
  where
    fill : (g : Bool) → is_known_set (if g then last_or (only Zero) ss else only Zero) ≡ true
    fill true = known_fill ss (only Zero) refl h
    fill false = refl

known_taken : (n : ℕ) (ss : List Set4) → list_all is_known_set ss ≡ true → list_all is_known_set (take n ss) ≡ true
known_taken zero ss h = refl
known_taken (suc n) [] h = refl
known_taken (suc n) (s ∷ ss) h = let a = and_both (is_known_set s) (list_all is_known_set ss) h in and_true (is_known_set s) (list_all is_known_set (take n ss)) a.0 (known_taken n ss a.1)

-- each bit gets one of the sets
known_put : (bs : List ℕ) (ss : List Set4) (f : Family) (b : ℕ) → list_all is_known_set ss ≡ true → length bs ≤ length ss → contains bs b ≡ true → is_known_set (put_each (map Some bs) ss f b) ≡ true
known_put [] ss f b h l m = cc
known_put (c ∷ bs) [] f b h l m = absurd (omega (arith, l))
known_put (c ∷ bs) (s ∷ ss) f b h l m =
    let a = and_both (is_known_set s) (list_all is_known_set ss) h in
    by_test (contains bs b)
    (λ q. known_put bs ss (put f c s) b a.1 (omega (arith, l)) q)
    (λ q. subst (λ (x : Set4). is_known_set x ≡ true) (sym (each_other (map Some bs) ss (put f c s) b (subst (λ xs. contains xs b ≡ false) (sym (somes_all bs)) q) ∙ own q)) a.0)
  where
    own : contains bs b ≡ false → put f c s b ≡ s
    own q = rw (here (b == c) refl) refl
      where
        here : (x : Bool) → (b == c) ≡ x → (b == c) ≡ true
        here true e = e
        here false e = absurd (either_way (contains bs b) (subst (λ (y : Bool). (y || contains bs b) ≡ true) e m) q)

-- where the sets of a net are known, so are those of what copies it
pub port_known : (s u : Signal) (e : Expression) (f : Family) (b : ℕ) → name_of e ≡ Some u → signal_length u ≡ signal_length s → ((c : ℕ) → contains (bits_of_signal u) c ≡ true → is_known_set (f c) ≡ true) → contains (bits_of_signal s) b ≡ true → is_known_set (assign_sets (Whole s) e f b) ≡ true
port_known s u e f b h k known m =
    let w = max (width e) (signal_length s) in
    let own = name_facts e u h in
    let wide = own.width_is in
    let given = known_extended w (sign e) (map f (bits_of_signal u)) (all_known_map (bits_of_signal u) f known) in
    let all = subst (λ (xs : List Set4). list_all is_known_set xs ≡ true) (sym (name_lifted e u h w (sign e) f)) given in
    let long = length_lifted e w (sign e) f (omega arith) in
    let bits = length_count s.first (signal_length s) in
    known_put (bits_of_signal s) (cut (signal_length s) (lifted e w (sign e) f)) f b (known_taken (signal_length s) (lifted e w (sign e) f) all) (let t = length-take (signal_length s) (lifted e w (sign e) f) in omega (arith, t, long, bits)) m
