-- Values stored bit by bit.
use Rattle.std.proofs.Common.{◌≡◌, ◌≢◌, ℕ, zero, suc, ◌+◌, ◌<◌, ◌≤◌, Bool, List, [], ◌∷◌, map, length, get_or, set, slice_get, Some, sym, refl, ap, ◌∙◌, arith, below_more}
use Rattle.std.proofs.lemmas.List.{get_or-map, length-map, ext_get_or, length-set, get_or-set_same, get_or_default}
use Rattle.std.proofs.lemmas.Option.{slice_get-get_or}
use Rattle.vs_four.specs.declared.Bit4.{Bit4}
use Rattle.vs_four.specs.declared.Bit4.TheVariants.{X}
use Rattle.vs_four.specs.Logic.{BitList, map2}
use Rattle.vs_plane.specs.declared.pairs.Pair.{Pair}
use Rattle.vs_plane.specs.Lanes.{lane_or_x, pair_lane, slot_lane}
use Rattle.vs_plane.specs.Kernels.{lane_bits, AreDifferent, AreApart, KeepsOthers, Computes, Fills, FillingComputes}

pub slice_get-set_same : {A : Type 0} → (xs : List A) (n : ℕ) (a : A) → n < length xs → slice_get (set xs n a) n ≡ Some a
slice_get-set_same xs n a h =
    let within : n < length (set xs n a) = omega (arith, length-set xs n a) in
    slice_get-get_or (set xs n a) n a within ∙ ap Some (get_or-set_same xs n a a h)

pub slice_get-set_other : {A : Type 0} → (xs : List A) (n m : ℕ) (a : A) → n ≢ m → slice_get (set xs n a) m ≡ slice_get xs m
slice_get-set_other [] n m a ne = refl
slice_get-set_other (x ∷ xs) zero zero a ne = absurd (ne refl)
slice_get-set_other (x ∷ xs) zero (suc m) a ne = refl
slice_get-set_other (x ∷ xs) (suc n) zero a ne = refl
slice_get-set_other (x ∷ xs) (suc n) (suc m) a ne = slice_get-set_other xs n m a (λ e. ne (ap suc e))

begins : {W : Type 0} (lane : W → ℕ → Bool) (lanes : ℕ) (value : ℕ → BitList) (to : List ℕ) (file : List (Pair W)) → Fills lane lanes value to 0 file file
begins lane lanes value to file = record {
  slots = refl;
  bits = λ k i h j. absurd (let n : ⊥ = omega arith in n);
  kept = λ slot h. refl;
}

grows : {W : Type 0} (lane : W → ℕ → Bool) (lanes : ℕ) (value : ℕ → BitList) (to : List ℕ) (done : ℕ) (before file : List (Pair W)) (pair : Pair W)
    → AreDifferent to → done < length to → get_or to done 0 < length file
    → Fills lane lanes value to done before file
    → ((i : ℕ) → i < lanes → pair_lane lane pair i ≡ get_or (value i) done X)
    → Fills lane lanes value to (done + 1) before (set file (get_or to done 0) pair)
grows lane lanes value to done before file pair different within below fills holds =
    let slot : ℕ = get_or to done 0 in
    record {
      slots = length-set file slot pair ∙ fills.slots;
      bits = λ k i h j. below_more (λ k. slot_lane lane (set file slot pair) (get_or to k 0) i ≡ get_or (value i) k X) done
          (λ k h. ap (λ o. lane_or_x lane o i) (slice_get-set_other file slot (get_or to k 0) pair
          (λ e. let same : done ≡ k = different.place done k within (omega arith) e in absurd (let n : ⊥ = omega arith in n)))
          ∙ fills.bits k i h j)
          (ap (λ o. lane_or_x lane o i) (slice_get-set_same file slot pair below) ∙ holds i j)
          k h;
      kept = λ s h. slice_get-set_other file slot s pair (h done (omega arith)) ∙ fills.kept s (λ k l. h k (omega arith));
    }

bit : {W : Type 0} (lane : W → ℕ → Bool) (file : List (Pair W)) (slots : List ℕ) (k i : ℕ) → k < length slots
    → get_or (lane_bits lane file slots i) k X ≡ slot_lane lane file (get_or slots k 0) i
bit lane file slots k i h = get_or-map (λ slot. slot_lane lane file slot i) slots k 0 X h

reads : {W : Type 0} (lane : W → ℕ → Bool) (lanes : ℕ) (value : ℕ → BitList) (to : List ℕ) (done : ℕ) (before file : List (Pair W)) (arg : List ℕ) (k i : ℕ)
    → AreApart arg to → done ≤ length to → k < length arg
    → Fills lane lanes value to done before file
    → slot_lane lane file (get_or arg k 0) i ≡ get_or (lane_bits lane before arg i) k X
reads lane lanes value to done before file arg k i apart most within fills =
    ap (λ o. lane_or_x lane o i) (fills.kept (get_or arg k 0) (λ j l e. apart.differ k j within (omega arith) (sym e)))
    ∙ sym (bit lane before arg k i within)

stands : {W : Type 0} (lane : W → ℕ → Bool) (lanes : ℕ) (value : ℕ → BitList) (to : List ℕ) (done i : ℕ) (before file : List (Pair W))
    → i < lanes → length (value i) ≡ length to → done ≡ length to
    → Fills lane lanes value to done before file
    → lane_bits lane file to i ≡ value i
stands lane lanes value to done i before file j long all fills =
    let same : length (lane_bits lane file to i) ≡ length to = length-map to (λ slot. slot_lane lane file slot i) in
    ext_get_or X (lane_bits lane file to i) (value i) (same ∙ sym long)
    (λ k h. let within : k < length to = omega arith in
    bit lane file to k i within ∙ fills.bits k i (omega arith) j)

others : {W : Type 0} (lane : W → ℕ → Bool) (lanes : ℕ) (value : ℕ → BitList) (to scratch : List ℕ) (done : ℕ) (before file : List (Pair W))
    → done ≤ length to
    → Fills lane lanes value to done before file
    → KeepsOthers to scratch before file
others lane lanes value to scratch done before file most fills = record {
  slots = fills.slots;
  kept = λ slot none _. fills.kept slot (λ k l e. let within : k < length to = omega arith in none (k, within, get_or_default to k slot 0 within ∙ e));
}

ends : {W : Type 0} (lane : W → ℕ → Bool) (lanes : ℕ) (operator : List BitList → BitList) (args : List (List ℕ)) (to scratch : List ℕ) (done : ℕ) (before file : List (Pair W))
    → ((i : ℕ) → i < lanes → length (operator (map (λ arg. lane_bits lane before arg i) args)) ≡ length to)
    → done ≡ length to
    → Fills lane lanes (λ i. operator (map (λ arg. lane_bits lane before arg i) args)) to done before file
    → Computes lane lanes operator args to scratch before file
ends lane lanes operator args to scratch done before file long all fills =
    let value : ℕ → BitList = λ i. operator (map (λ arg. lane_bits lane before arg i) args) in
    record {
      value = λ i j. stands lane lanes value to done i before file j (long i j) all fills;
      others = others lane lanes value to scratch done before file (omega arith) fills;
    }

-- an operator on two vectors, place by place
get_or-map2 : (f : Bit4 → Bit4 → Bit4) (xs ys : BitList) (k : ℕ) → k < length xs → k < length ys → get_or (map2 f xs ys) k X ≡ f (get_or xs k X) (get_or ys k X)
get_or-map2 f [] ys k h j = absurd (let n : ⊥ = omega arith in n)
get_or-map2 f (x ∷ xs) [] k h j = absurd (let n : ⊥ = omega arith in n)
get_or-map2 f (x ∷ xs) (y ∷ ys) zero h j = refl
get_or-map2 f (x ∷ xs) (y ∷ ys) (suc k) h j = get_or-map2 f xs ys k (omega arith) (omega arith)

length-map2 : (f : Bit4 → Bit4 → Bit4) (xs ys : BitList) → length xs ≡ length ys → length (map2 f xs ys) ≡ length xs
length-map2 f [] ys h = refl
length-map2 f (x ∷ xs) [] h = absurd (let n : ⊥ = omega arith in n)
length-map2 f (x ∷ xs) (y ∷ ys) h = ap suc (length-map2 f xs ys (omega arith))

-- a value that is the same in each lane
fills_same : {W : Type 0} (lane : W → ℕ → Bool) (lanes : ℕ) (value other : ℕ → BitList) (to : List ℕ) (done : ℕ) (before file : List (Pair W))
    → ((i : ℕ) → i < lanes → value i ≡ other i) → Fills lane lanes value to done before file → Fills lane lanes other to done before file
fills_same lane lanes value other to done before file same fills = record {
  slots = fills.slots;
  bits = λ k i h j. fills.bits k i h j ∙ ap (λ (v : BitList). get_or v k X) (same i j);
  kept = fills.kept;
}

pub filling : {W : Type 0} (lane : W → ℕ → Bool) (lanes : ℕ) → FillingComputes lane lanes
filling lane lanes = record {
  begins = begins lane lanes;
  grows = grows lane lanes;
  reads = reads lane lanes;
  stands = stands lane lanes;
  others = others lane lanes;
  ends = ends lane lanes;
  bit = bit lane;
  long = λ file slots i. length-map slots (λ slot. slot_lane lane file slot i);
  pair_at = get_or-map2;
  pair_long = length-map2;
  same = fills_same lane lanes;
}
