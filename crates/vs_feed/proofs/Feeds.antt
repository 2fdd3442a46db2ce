-- The bits that the lanes drive, one after the other.
use Rattle.std.proofs.Common.{◌≡◌, ℕ, ◌+◌, ◌<◌, ◌≤◌, Bool, true, false, List, [], ◌∷◌, ◌++◌, length, get_or, set, take, map, replicate, sum, sym, ap, ◌∙◌, inl, inr, arith}
use Rattle.std.proofs.lemmas.Bool.{cases_lt}
use Rattle.std.proofs.lemmas.List.{length-map, length-set, length-replicate, get_or-map, get_or-replicate, get_or_past, get_or_read, map-set, take_more, take_more_set, take_all, take-map}
use Rattle.std.proofs.lemmas.List.Concat.{length-flat_map, get_or-flat_map}
use Rattle.std.proofs.lemmas.List.Sums.{sum-map, sum_by_more, sum_by_more_le}
use Rattle.vs_four.specs.declared.Bit4.{Bit4}
use Rattle.vs_four.specs.declared.Bit4.TheVariants.{X}
use Rattle.vs_plane.specs.declared.pairs.Pair.{Pair}
use Rattle.vs_plane.specs.Lanes.{pair_lane}
use Rattle.vs_stim.specs.Known.{Known}
use Rattle.vs_stim.specs.Row.{sizes}
use Rattle.vs_feed.specs.Lanes.{ended, lane_at, AreLanes}
use Rattle.vs_feed.specs.Fed.{vector_bits, driven, driven_value, HaveBits, AreFed}

-- a vector has as many bits as its values together
length_bits : (vector : List (List Bit4)) → length (vector_bits vector) ≡ sum (sizes vector)
length_bits vector = length-flat_map (λ value. value) vector ∙ sym (sum-map (λ value. length value) vector)

-- many x
pub unknown_at : (n i : ℕ) → get_or (replicate n X) i X ≡ X
unknown_at n i = elim (cases_lt i n) [
  | inl h ↦ get_or-replicate n i X X h
  | inr past ↦ get_or_past (replicate n X) i X (rw (length-replicate n X) past)
]

-- the bits of an input stand behind those of the inputs before it
driven_at : (n : ℕ) (k : Known) (number count offset bit : ℕ) → number < length k.vector → length (get_or k.vector number []) ≡ count
    → sum (take number (sizes k.vector)) ≡ offset → bit < count → get_or (driven n k) (offset + bit) X ≡ get_or (driven_value count k number) bit X
driven_at n k number count offset bit within size place below =
    let start : length (vector_bits (take number k.vector)) ≡ offset =
    length_bits (take number k.vector) ∙ ap sum (sym (take-map (λ (value : List Bit4). length value) number k.vector)) ∙ place in
    let fits : bit < length (get_or k.vector number []) = omega arith in
    let bits : get_or (vector_bits k.vector) (offset + bit) X ≡ get_or (get_or k.vector number []) bit X =
    ap (λ i. get_or (vector_bits k.vector) (i + bit) X) (sym start) ∙ get_or-flat_map (λ value. value) k.vector number bit [] X within fits in
    go bits k.live
  where
    go : get_or (vector_bits k.vector) (offset + bit) X ≡ get_or (get_or k.vector number []) bit X → (b : Bool)
        → get_or (elim b as (λ _. List Bit4) [ true ↦ vector_bits k.vector | false ↦ replicate n X ]) (offset + bit) X
        ≡ get_or (elim b as (λ _. List Bit4) [ true ↦ get_or k.vector number [] | false ↦ replicate count X ]) bit X
    go bits true = bits
    go bits false = unknown_at n (offset + bit) ∙ sym (unknown_at count bit)

length_known : (n : ℕ) (k : Known) → sum (sizes k.vector) ≡ n → length (driven n k) ≡ n
length_known n k h = go k.live
  where
    go : (b : Bool) → length (elim b as (λ _. List Bit4) [ true ↦ vector_bits k.vector | false ↦ replicate n X ]) ≡ n
    go true = length_bits k.vector ∙ h
    go false = length-replicate n X

-- each lane drives this many bits
pub length_driven : (n : ℕ) (ks : List Known) (i : ℕ) → HaveBits n ks → length (driven n (lane_at ks i)) ≡ n
length_driven n ks i h = elim (cases_lt i (length ks)) [
  | inl within ↦ length_known n (lane_at ks i) (h.each i within)
  | inr past ↦ ap (λ k. length (driven n k)) (get_or_past ks i ended past) ∙ length-replicate n X
]

-- one more pair
pub fed_more : {W : Type 0} (lane : W → ℕ → Bool) (lanes done : ℕ) (ks : List Known) (pairs : List (Pair W)) (pair : Pair W) → HaveBits (length pairs) ks
    → done < length pairs → ((i : ℕ) → i < lanes → pair_lane lane pair i ≡ get_or (driven (length pairs) (lane_at ks i)) done X)
    → AreFed lane lanes done ks pairs → AreFed lane lanes (done + 1) ks (set pairs done pair)
fed_more lane lanes done ks pairs pair bits within here fed = record {
  each = λ i h.
      let f = λ (p : Pair _). pair_lane lane p i in
      let long : length (driven (length pairs) (lane_at ks i)) ≡ length pairs = length_driven (length pairs) ks i bits in
      ap (take (done + 1)) (map-set f pairs done pair)
      ∙ take_more_set (map f pairs) done (f pair) (rw (length-map pairs f) within)
      ∙ (λ k. fed.each i h k ++ here i h k ∷ [])
      ∙ sym (take_more (driven (length pairs) (lane_at ks i)) done X (omega arith))
      ∙ ap (λ n. take (done + 1) (driven n (lane_at ks i))) (sym (length-set pairs done pair));
}

-- all pairs
pub fed_all : {W : Type 0} (lane : W → ℕ → Bool) (lanes n : ℕ) (ks : List Known) (pairs : List (Pair W)) → length pairs ≡ n → HaveBits n ks → AreFed lane lanes n ks pairs
    → (i : ℕ) → i < lanes → map (λ p. pair_lane lane p i) pairs ≡ driven n (lane_at ks i)
fed_all lane lanes n ks pairs e bits fed i h =
    let f = λ (p : Pair _). pair_lane lane p i in
    let long : length (driven n (lane_at ks i)) ≡ n = length_driven n ks i bits in
    sym (take_all n (map f pairs) (omega (arith, length-map pairs f)))
    ∙ fed.each i h
    ∙ ap (λ m. take n (driven m (lane_at ks i))) e
    ∙ take_all n (driven n (lane_at ks i)) (omega arith)

-- without lanes each bit is x
pub none_driven : (n : ℕ) (ks : List Known) (i done : ℕ) → length ks ≡ 0 → get_or (driven n (lane_at ks i)) done X ≡ X
none_driven n ks i done e = ap (λ k. get_or (driven n k) done X) (get_or_past ks i ended (omega arith)) ∙ unknown_at n done

-- past the lanes each bit is x
past_driven : (ks : List Known) (i count number bit : ℕ) → length ks ≤ i → get_or (driven_value count (lane_at ks i) number) bit X ≡ X
past_driven ks i count number bit h = ap (λ k. get_or (driven_value count k number) bit X) (get_or_past ks i ended h) ∙ unknown_at count bit

-- In each lane the input has this many bits, behind this many bits of the inputs before it.
pub record IsPlaced (number count offset : ℕ) (ks : List Known) : Type 0 where
  pub input : (i : ℕ) → i < length ks → number < length (lane_at ks i).vector
  pub bits : (i : ℕ) → i < length ks → length (get_or (lane_at ks i).vector number []) ≡ count
  pub first : (i : ℕ) → i < length ks → sum (take number (sizes (lane_at ks i).vector)) ≡ offset

-- a bit of an input that was placed, in any lane
pub fed_bit : (n : ℕ) (ks : List Known) (i number count offset bit : ℕ) → IsPlaced number count offset ks → bit < count
    → get_or (driven n (lane_at ks i)) (offset + bit) X ≡ get_or (driven_value count (lane_at ks i) number) bit X
fed_bit n ks i number count offset bit h below = elim (cases_lt i (length ks)) [
  | inl within ↦ driven_at n (lane_at ks i) number count offset bit (h.input i within) (h.bits i within) (h.first i within) below
  | inr past ↦ ap (λ k. get_or (driven n k) (offset + bit) X) (get_or_past ks i ended past) ∙ unknown_at n (offset + bit) ∙ sym (past_driven ks i count number bit past)
]

-- the input stands at the same place in each lane
pub placed : (ks : List Known) (number count offset : ℕ) → AreLanes ks → number < length (lane_at ks 0).vector
    → length (get_or (lane_at ks 0).vector number []) ≡ count → sum (take number (sizes (lane_at ks 0).vector)) ≡ offset → IsPlaced number count offset ks
placed ks number count offset lanes within size place =
    let vector : ℕ → List (List Bit4) = λ i. (lane_at ks i).vector in
    let f = λ (value : List Bit4). length value in
    let has : (i : ℕ) → i < length ks → number < length (vector i) = λ i below.
    omega (arith, length-map (vector i) f, length-map (vector 0) f, ap length (lanes.alike i below)) in
    record {
      input = has;
      bits = λ i below.
          sym (get_or-map f (vector i) number [] 0 (has i below))
          ∙ ap (λ s. get_or s number 0) (lanes.alike i below)
          ∙ get_or-map f (vector 0) number [] 0 within
          ∙ size;
      first = λ i below. ap (λ s. sum (take number s)) (lanes.alike i below) ∙ place;
    }

-- the offset of the next input, and that there is room for this one
pub offset_more : (vector : List (List Bit4)) (number count offset : ℕ) → number < length vector → length (get_or vector number []) ≡ count
    → sum (take number (sizes vector)) ≡ offset → sum (take (number + 1) (sizes vector)) ≡ offset + count
offset_more vector number count offset within size place =
    let f = λ (value : List Bit4). length value in
    let item : get_or (sizes vector) number 0 ≡ count = get_or-map f vector number [] 0 within ∙ size in
    sum_by_more (λ x. x) (sizes vector) number 0 (omega (arith, length-map vector f)) ∙ (λ i. place i + item i)

pub offset_within : (vector : List (List Bit4)) (number count offset : ℕ) → number < length vector → length (get_or vector number []) ≡ count
    → sum (take number (sizes vector)) ≡ offset → offset + count ≤ sum (sizes vector)
offset_within vector number count offset within size place =
    let f = λ (value : List Bit4). length value in
    let item : get_or (sizes vector) number 0 ≡ count = get_or-map f vector number [] 0 within ∙ size in
    let total : sum (take number (sizes vector)) + get_or (sizes vector) number 0 ≤ sum (sizes vector) =
    sum_by_more_le (λ x. x) (sizes vector) number 0 (omega (arith, length-map vector f)) in
    rw (place, item) at total

-- the number of bits of a value that was read
pub value_size : (vector now : List (List Bit4)) (value : List Bit4) (number count : ℕ) → now ≡ vector → number < length now → value ≡ get_or now number value
    → count ≡ length value → length (get_or vector number []) ≡ count
value_size vector now value number count e within read size =
    ap (λ vs. length (get_or vs number [])) (sym e) ∙ ap (λ v. length v) (sym (get_or_read now number value within read [])) ∙ sym size
