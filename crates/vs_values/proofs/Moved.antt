-- Slots of constants, and slots that are moved with no call.
use Rattle.std.proofs.Common.{◌≡◌, ℕ, zero, suc, ◌-◌, ◌*◌, ◌<◌, ◌≤◌, Bool, true, false, if◌then◌else◌, List, [], ◌∷◌, ◌++◌, map, length, replicate, length-append, sym, ap, ◌∙◌, refl, arith}
use Rattle.std.specs.List.{All}
use Rattle.std.proofs.lemmas.List.{map-append, length-map, length-replicate}
use Rattle.std.proofs.lemmas.List.Elements.{All-nil, All-cons, All-append, All-replicate, All-head, All-tail}
use Rattle.vs_four.specs.declared.Bit4.{Bit4}
use Rattle.vs_four.specs.declared.Bit4.TheVariants.{Zero, One, X, Z}
use Rattle.vs_four.specs.Logic.{BitList}
use Rattle.vs_four.specs.Lengths.{last_or, extend_with, extend, repeat}
use Rattle.vs_code.specs.Calls.{State}
use Rattle.vs_program.specs.Lowered.{HasConstants}
use Rattle.vs_values.specs.Constants.{constant_slot, constant_slots, extended_slots, AreConstant}

-- ---- constants

pub constant_is : (slots : State) (b : Bit4) → HasConstants slots → slots (constant_slot b) ≡ b
constant_is slots Zero h = h.zero
constant_is slots One h = h.one
constant_is slots X h = h.x
constant_is slots Z h = h.z

pub constants_are : (slots : State) (v : BitList) → HasConstants slots → map slots (constant_slots v) ≡ v
constants_are slots [] h = refl
constants_are slots (b ∷ v) h = ap (λ c. c ∷ map slots (constant_slots v)) (constant_is slots b h) ∙ ap (λ u. b ∷ u) (constants_are slots v h)

pub constant_below : (b : Bit4) → constant_slot b < 4
constant_below Zero = omega arith
constant_below One = omega arith
constant_below X = omega arith
constant_below Z = omega arith

pub all_constant : (v : BitList) → AreConstant (constant_slots v)
all_constant [] = All-nil (λ slot. slot < 4)
all_constant (b ∷ v) = All-cons (λ slot. slot < 4) (constant_slot b) (constant_slots v) (constant_below b) (all_constant v)

-- ---- moved slots

map_replicate : {A B : Type 0} (f : A → B) (n : ℕ) (x : A) → map f (replicate n x) ≡ replicate n (f x)
map_replicate f zero x = refl
map_replicate f (suc n) x = ap (λ ys. f x ∷ ys) (map_replicate f n x)

map_last : {A B : Type 0} (f : A → B) (d : A) (xs : List A) → f (last_or d xs) ≡ last_or (f d) (map f xs)
map_last f d [] = refl
map_last f d (x ∷ xs) = map_last f x xs

pub map_extend_with : {A B : Type 0} (f : A → B) (fill : A) (w : ℕ) (xs : List A) → map f (extend_with fill w xs) ≡ extend_with (f fill) w (map f xs)
map_extend_with f fill w xs =
    map-append f xs (replicate (w - length xs) fill)
    ∙ ap (λ ys. map f xs ++ ys) (map_replicate f (w - length xs) fill)
    ∙ ap (λ n. map f xs ++ replicate (w - n) (f fill)) (sym (length-map xs f))

filled : (slots : State) (to : List ℕ) (signed : Bool) → HasConstants slots → slots (if signed then last_or 0 to else 0) ≡ (if signed then last_or Zero (map slots to) else Zero)
filled slots to true h = map_last slots 0 to ∙ ap (λ d. last_or d (map slots to)) h.zero
filled slots to false h = h.zero

pub extended_are : (slots : State) (w : ℕ) (signed : Bool) (to : List ℕ) → HasConstants slots → map slots (extended_slots w signed to) ≡ extend w signed (map slots to)
extended_are slots w signed to h =
    map_extend_with slots (if signed then last_or 0 to else 0) w to
    ∙ ap (λ fill. extend_with fill w (map slots to)) (filled slots to signed h)

last_all : (P : ℕ → Type 0) (d : ℕ) (xs : List ℕ) → P d → All P xs → P (last_or d xs)
last_all P d [] p h = p
last_all P d (x ∷ xs) p h = last_all P x xs (All-head P x xs h) (All-tail P x xs h)

fill_all : (P : ℕ → Type 0) (to : List ℕ) (signed : Bool) → P 0 → All P to → P (if signed then last_or 0 to else 0)
fill_all P to true p h = last_all P 0 to p h
fill_all P to false p h = p

pub extended_all : (P : ℕ → Type 0) (w : ℕ) (signed : Bool) (to : List ℕ) → P 0 → All P to → All P (extended_slots w signed to)
extended_all P w signed to p h =
    All-append P to (replicate (w - length to) (if signed then last_or 0 to else 0)) h
    (All-replicate P (w - length to) (if signed then last_or 0 to else 0) (fill_all P to signed p h))

pub length-extended : (w : ℕ) (signed : Bool) (to : List ℕ) → length to ≤ w → length (extended_slots w signed to) ≡ w
length-extended w signed to l =
    let fill = if signed then last_or 0 to else 0 in
    length-append to (replicate (w - length to) fill) ∙ omega (arith, length-replicate (w - length to) fill)

-- copies
pub map_repeat : {A B : Type 0} (f : A → B) (n : ℕ) (xs : List A) → map f (repeat n xs) ≡ repeat n (map f xs)
map_repeat f zero xs = refl
map_repeat f (suc n) xs = map-append f xs (repeat n xs) ∙ ap (λ ys. map f xs ++ ys) (map_repeat f n xs)

pub all_repeat : (P : ℕ → Type 0) (n : ℕ) (xs : List ℕ) → All P xs → All P (repeat n xs)
all_repeat P zero xs h = All-nil P
all_repeat P (suc n) xs h = All-append P xs (repeat n xs) h (all_repeat P n xs h)

pub length-repeated : (n : ℕ) (xs : List ℕ) → length (repeat n xs) ≡ n * length xs
length-repeated zero xs = omega arith
length-repeated (suc n) xs = length-append xs (repeat n xs) ∙ omega (arith, length-repeated n xs)
