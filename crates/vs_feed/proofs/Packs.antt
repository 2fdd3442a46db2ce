-- An input's pairs, and the planes that they are packed from.
use Rattle.std.proofs.Common.{◌≡◌, ◌≢◌, ℕ, zero, suc, ◌+◌, ◌-◌, ◌*◌, ◌/◌, ◌%◌, ◌^◌, ◌<◌, ◌≤◌, ◌==◌, Bool, true, false, List, [], ◌∷◌, ◌++◌, length, get_or, set, take, drop, map, replicate, sum, refl, sym, ap, ap₂, ◌∙◌, subst, inl, inr, arith}
use Rattle.std.proofs.lemmas.Bool.{cases_eq, cases_lt}
use Rattle.std.proofs.lemmas.List.{length-replicate, get_or_past, get_or_read, get_or-set_same, get_or-set_other, length-map, map-set, take-map, map-append, append_assoc, length-append, length-drop, length-take-le, get_or-take, get_or-drop, ext_get_or}
use Rattle.std.proofs.Math.Seq.{take-add, take-append_seam}
use Rattle.std.proofs.lemmas.Nat.{pow_pos}
use Rattle.std.proofs.lemmas.Nat.Bits.{bit_at-lt, bit_at_lowest, shr_and_one}
use Rattle.std.proofs.Math.Nat.{pow-suc}
use Rattle.std.specs.Prelude.{bit_and}
use Rattle.std.specs.Int.{bit_at}
use Rattle.vs_four.specs.declared.Bit4.{Bit4}
use Rattle.vs_four.specs.declared.Bit4.TheVariants.{X}
use Rattle.vs_four.specs.Planes.{bits_of_planes}
use Rattle.vs_four.specs.Planes as Planes
use Rattle.vs_plane.specs.declared.pairs.Pair.{Pair}
use Rattle.vs_plane.specs.Lanes.{decode, pair_lane}
use Rattle.vs_stim.specs.Known.{Known}
use Rattle.vs_stim.specs.Row.{sizes}
use Rattle.vs_feed.specs.Lanes.{ended, lane_at, AreLanes}
use Rattle.vs_feed.specs.Fed.{driven, driven_value, HaveBits, IsWide, AreFed}
use Rattle.vs_plane.proofs.ColumnBits.{get_or-planes}
use Rattle.vs_feed.proofs.Feeds.{unknown_at, IsPlaced, length_driven, fed_bit, placed, offset_more, offset_within, value_size}

-- planes of ones are x
unknown_planes : (n k : ℕ) → n ≤ k → bits_of_planes n (2 ^ k - 1) (2 ^ k - 1) ≡ replicate n X
unfolding bits_of_planes
unknown_planes zero k h = refl
unknown_planes (suc n) zero h = absurd (let e : ⊥ = omega arith in e)
unknown_planes (suc n) (suc k) h =
    let some : 0 < 2 ^ k = pow_pos k in
    let odd : (2 ^ suc k - 1) % 2 ≡ 1 = omega (arith, pow-suc 2 k, some) in
    let half : (2 ^ suc k - 1) / 2 ≡ 2 ^ k - 1 = omega (arith, pow-suc 2 k, some) in
    ap₂ (λ (b : Bit4) (bs : List Bit4). b ∷ bs) (ap (λ (m : ℕ). Planes.decode m m) odd) (ap (λ (m : ℕ). bits_of_planes n m m) half ∙ unknown_planes n k (omega arith))

-- a lane that has ended drives x
value_ended : (count : ℕ) (k : Known) (number : ℕ) → k.live ≡ false → driven_value count k number ≡ replicate count X
value_ended count k number h = rw h refl

pub ended_planes : (count number : ℕ) (k : Known) → k.live ≡ false → count ≤ 64 → bits_of_planes count 18446744073709551615 18446744073709551615 ≡ driven_value count k number
ended_planes count number k h most = unknown_planes count 64 most ∙ sym (value_ended count k number h)

-- and so does one that isn't there
past_ended : (ks : List Known) (lane : ℕ) → length ks ≤ lane → (lane_at ks lane).live ≡ false
past_ended ks lane h = ap (λ (k : Known). k.live) (get_or_past ks lane ended h)

-- the planes of the first lanes of a group
pub record AreRead (ks : List Known) (number k done : ℕ) (value unknown : List ℕ) : Type 0 where
  pub each : (count i : ℕ) → IsWide number count ks → count ≤ 64 → i < done → bits_of_planes count (get_or value i 0) (get_or unknown i 0) ≡ driven_value count (lane_at ks (64 * k + i)) number

pub read_more : (ks : List Known) (number k done : ℕ) (value unknown : List ℕ) (v u : ℕ) → done < length value → done < length unknown
    → ((count : ℕ) → IsWide number count ks → count ≤ 64 → bits_of_planes count v u ≡ driven_value count (lane_at ks (64 * k + done)) number)
    → AreRead ks number k done value unknown → AreRead ks number k (done + 1) (set value done v) (set unknown done u)
read_more ks number k done value unknown v u value_room unknown_room here read = record {
  each = λ count i wide most h. elim (cases_eq i done) as (λ _. bits_of_planes count (get_or (set value done v) i 0) (get_or (set unknown done u) i 0) ≡ driven_value count (lane_at ks (64 * k + i)) number) [
    | inl e ↦ subst (λ (n : ℕ). bits_of_planes count (get_or (set value done v) n 0) (get_or (set unknown done u) n 0) ≡ driven_value count (lane_at ks (64 * k + n)) number) (sym e)
        (ap₂ (λ (m n : ℕ). bits_of_planes count m n) (get_or-set_same value done v 0 value_room) (get_or-set_same unknown done u 0 unknown_room) ∙ here count wide most)
    | inr ne ↦
        ap₂ (λ (m n : ℕ). bits_of_planes count m n) (get_or-set_other value done i v 0 ne) (get_or-set_other unknown done i u 0 ne)
        ∙ read.each count i wide most (omega arith)
  ];
}

-- a value has as many bits as its input
pub value_length : (count number : ℕ) (ks : List Known) (i : ℕ) → IsWide number count ks → length (driven_value count (lane_at ks i) number) ≡ count
value_length count number ks i wide = elim (cases_lt i (length ks)) [
  | inl within ↦ go (lane_at ks i) (wide.bits i within) (lane_at ks i).live
  | inr past ↦ ap length (value_ended count (lane_at ks i) number (past_ended ks i past)) ∙ length-replicate count X
]
  where
    go : (k : Known) → length (get_or k.vector number []) ≡ count → (b : Bool) → length (elim b as (λ _. List Bit4) [ true ↦ get_or k.vector number [] | false ↦ replicate count X ]) ≡ count
    go k h true = h
    go k h false = length-replicate count X

-- the first lanes have their values
pub record ArePacked {W : Type 0} (lane : W → ℕ → Bool) (lanes done : ℕ) (ks : List Known) (number count : ℕ) (pairs : List (Pair W)) : Type 0 where
  pub long : length pairs ≡ count
  pub each : (i : ℕ) → i < lanes → i < done → map (λ p. pair_lane lane p i) pairs ≡ driven_value count (lane_at ks i) number

pub group_more : {W : Type 0} (lane : W → ℕ → Bool) (lanes k : ℕ) (ks : List Known) (number count : ℕ) (pairs news : List (Pair W))
    → length news ≡ length pairs
    → ((i : ℕ) → i < 64 → map (λ p. pair_lane lane p (64 * k + i)) news ≡ driven_value (length pairs) (lane_at ks (64 * k + i)) number)
    → ((n : ℕ) → n < lanes → n / 64 ≢ k → map (λ p. pair_lane lane p n) news ≡ map (λ p. pair_lane lane p n) pairs)
    → ArePacked lane lanes (64 * k) ks number count pairs → ArePacked lane lanes (64 * (k + 1)) ks number count news
group_more lane lanes k ks number count pairs news long packed others so_far = record {
  long = long ∙ so_far.long;
  each = λ i h below. elim (cases_eq (i / 64) k) as (λ _. map (λ p. pair_lane lane p i) news ≡ driven_value count (lane_at ks i) number) [
    | inl e ↦
        let place : 64 * k + i % 64 ≡ i = omega arith in
        let low : i % 64 < 64 = omega arith in
        subst (λ (n : ℕ). map (λ p. pair_lane lane p n) news ≡ driven_value count (lane_at ks n) number) place
        (packed (i % 64) low ∙ ap (λ n. driven_value n (lane_at ks (64 * k + i % 64)) number) so_far.long)
    | inr ne ↦ others i h ne ∙ so_far.each i h (omega arith)
  ];
}

-- ---- an input of one bit

pub lowest_bit : (w : ℕ) → bit_and w 1 ≡ w % 2
lowest_bit w = ap (λ n. bit_and n 1) (let e : w ≡ w / 2 ^ 0 = omega arith in e) ∙ shr_and_one w 0 ∙ bit_at_lowest w

-- the same bit by digits and by truth
decode_is : (p q : ℕ) → p < 2 → q < 2 → Planes.decode p q ≡ decode (p == 1) (q == 1)
decode_is zero zero h l = refl
decode_is zero (suc zero) h l = refl
decode_is (suc zero) zero h l = refl
decode_is (suc zero) (suc zero) h l = refl
decode_is (suc (suc p)) q h l = absurd (let e : ⊥ = omega arith in e)
decode_is p (suc (suc q)) h l = absurd (let e : ⊥ = omega arith in e)

one_plane : (v u : ℕ) → bits_of_planes 1 v u ≡ decode (v % 2 == 1) (u % 2 == 1) ∷ []
unfolding bits_of_planes
one_plane v u = ap (λ (b : Bit4). b ∷ []) (decode_is (v % 2) (u % 2) (omega arith) (omega arith))

-- the bits of the first lanes of a group, and no others
pub record AreBits (ks : List Known) (number k done value unknown : ℕ) : Type 0 where
  pub each : (i : ℕ) → IsWide number 1 ks → i < done → decode (bit_at value i == 1) (bit_at unknown i == 1) ∷ [] ≡ driven_value 1 (lane_at ks (64 * k + i)) number
  pub value_high : (i : ℕ) → done ≤ i → bit_at value i ≡ 0
  pub unknown_high : (i : ℕ) → done ≤ i → bit_at unknown i ≡ 0

pub bits_more : (ks : List Known) (number k done value unknown v u new_value new_unknown : ℕ)
    → ((count : ℕ) → IsWide number count ks → count ≤ 64 → bits_of_planes count v u ≡ driven_value count (lane_at ks (64 * k + done)) number)
    → bit_at new_value done ≡ v % 2 → ((i : ℕ) → i ≢ done → bit_at new_value i ≡ bit_at value i)
    → bit_at new_unknown done ≡ u % 2 → ((i : ℕ) → i ≢ done → bit_at new_unknown i ≡ bit_at unknown i)
    → AreBits ks number k done value unknown → AreBits ks number k (done + 1) new_value new_unknown
bits_more ks number k done value unknown v u new_value new_unknown here value_here value_others unknown_here unknown_others so_far = record {
  each = λ i wide h. elim (cases_eq i done) as (λ _. decode (bit_at new_value i == 1) (bit_at new_unknown i == 1) ∷ [] ≡ driven_value 1 (lane_at ks (64 * k + i)) number) [
    | inl e ↦ subst (λ (n : ℕ). decode (bit_at new_value n == 1) (bit_at new_unknown n == 1) ∷ [] ≡ driven_value 1 (lane_at ks (64 * k + n)) number) (sym e)
        (ap₂ (λ (m n : ℕ). decode (m == 1) (n == 1) ∷ []) value_here unknown_here ∙ sym (one_plane v u) ∙ here 1 wide (omega arith))
    | inr ne ↦ ap₂ (λ (m n : ℕ). decode (m == 1) (n == 1) ∷ []) (value_others i ne) (unknown_others i ne) ∙ so_far.each i wide (omega arith)
  ];
  value_high = λ i past. value_others i (λ e. let never : ⊥ = omega arith in never) ∙ so_far.value_high i (omega arith);
  unknown_high = λ i past. unknown_others i (λ e. let never : ⊥ = omega arith in never) ∙ so_far.unknown_high i (omega arith);
}

-- the only pair, in one lane
pub only_set : {W : Type 0} (lane : W → ℕ → Bool) (pairs : List (Pair W)) (new : Pair W) (i : ℕ) → length pairs ≡ 1 → map (λ p. pair_lane lane p i) (set pairs 0 new) ≡ pair_lane lane new i ∷ []
only_set lane [] new i h = absurd (let e : ⊥ = omega arith in e)
only_set lane (p ∷ []) new i h = refl
only_set lane (p ∷ (q ∷ pairs)) new i h = absurd (let e : ⊥ = omega arith in e)

pub only_is : {W : Type 0} (lane : W → ℕ → Bool) (pairs : List (Pair W)) (old : Pair W) (i : ℕ) → length pairs ≡ 1 → get_or pairs 0 old ≡ old → pair_lane lane old i ∷ [] ≡ map (λ p. pair_lane lane p i) pairs
only_is lane [] old i h e = absurd (let f : ⊥ = omega arith in f)
only_is lane (p ∷ []) old i h e = ap (λ (x : Pair _). pair_lane lane x i ∷ []) (sym e)
only_is lane (p ∷ (q ∷ pairs)) old i h e = absurd (let f : ⊥ = omega arith in f)

-- ---- the pairs of an input among those of all inputs

-- the value stands in the bits that a lane drives
placed_value : (n : ℕ) (ks : List Known) (i number count offset : ℕ) → IsPlaced number count offset ks → HaveBits n ks → offset + count ≤ n
    → take count (drop offset (driven n (lane_at ks i))) ≡ driven_value count (lane_at ks i) number
placed_value n ks i number count offset placed bits room =
    let all : List Bit4 = driven n (lane_at ks i) in
    let value : List Bit4 = driven_value count (lane_at ks i) number in
    let wide : IsWide number count ks = record { input = placed.input; bits = placed.bits } in
    let size : length value ≡ count = value_length count number ks i wide in
    let behind : length (drop offset all) ≡ n - offset = length-drop offset all ∙ ap (λ m. m - offset) (length_driven n ks i bits) in
    let long : length (take count (drop offset all)) ≡ count = length-take-le count (drop offset all) (omega arith) in
    ext_get_or X (take count (drop offset all)) value (long ∙ sym size) (λ bit h.
    let below : bit < count = omega arith in
    get_or-take count (drop offset all) bit X below
    ∙ get_or-drop offset all bit X
    ∙ fed_bit n ks i number count offset bit placed below)

-- the next input stands behind those before it, and there is room for it among this many pairs
pub record IsNext (n number count offset : ℕ) (ks : List Known) : Type 0 where
  pub wide : IsWide number count ks
  pub placed : IsPlaced number count offset ks
  pub room : offset + count ≤ n
  pub next : offset + count ≡ sum (take (number + 1) (sizes (lane_at ks 0).vector))

pub next_input : (n number count offset : ℕ) (ks : List Known) (now : List (List Bit4)) (value : List Bit4) (first : Known)
    → 0 < length ks → AreLanes ks → HaveBits n ks → first ≡ get_or ks 0 first → now ≡ first.vector → number < length now → value ≡ get_or now number value
    → count ≡ length value → offset ≡ sum (take number (sizes (lane_at ks 0).vector)) → IsNext n number count offset ks
next_input n number count offset ks now value first some lanes bits at was within read size place =
    let vector : List (List Bit4) = (lane_at ks 0).vector in
    let same : now ≡ vector = was ∙ ap (λ (k : Known). k.vector) (get_or_read ks 0 first some at ended) in
    let in_vector : number < length vector = subst (λ (vs : List (List Bit4)). number < length vs) same within in
    let long : length (get_or vector number []) ≡ count = value_size vector now value number count same within read size in
    let here : IsPlaced number count offset ks = placed ks number count offset lanes in_vector long (sym place) in
    let total : sum (sizes vector) ≡ n = bits.each 0 some in
    record {
      wide = record { input = here.input; bits = here.bits };
      placed = here;
      room = omega (arith, offset_within vector number count offset in_vector long (sym place), total);
      next = sym (offset_more vector number count offset in_vector long (sym place));
    }

-- the pairs of an input
pub window : {X : Type 0} (xs : List X) (first m count : ℕ) → m ≡ count → first + count ≤ length xs → length (take m (drop first xs)) ≡ count
window xs first m count same room =
    let behind : length (drop first xs) ≡ length xs - first = length-drop first xs in
    length-take-le m (drop first xs) (omega arith) ∙ same

pub input_fed : {W : Type 0} (lane : W → ℕ → Bool) (lanes first count number m : ℕ) (ks : List Known) (pairs news : List (Pair W))
    → HaveBits (length pairs) ks → IsNext (length pairs) number count first ks → m ≡ count → length news ≡ count
    → ((i : ℕ) → i < lanes → map (λ p. pair_lane lane p i) news ≡ driven_value count (lane_at ks i) number)
    → AreFed lane lanes first ks pairs → AreFed lane lanes (first + count) ks (take first pairs ++ (news ++ drop m (drop first pairs)))
input_fed {W} lane lanes first count number m ks pairs news bits input same long packed fed =
    let room : first + count ≤ length pairs = input.room in
    let front : List (Pair W) = take first pairs in
    let rest : List (Pair W) = drop m (drop first pairs) in
    let front_long : length front ≡ first = length-take-le first pairs (omega arith) in
    let total : length (front ++ (news ++ rest)) ≡ length pairs =
    omega (arith, length-append front (news ++ rest), length-append news rest, length-drop m (drop first pairs), length-drop first pairs, front_long) in
    record {
      each = λ i h.
          let f = λ (p : Pair W). pair_lane lane p i in
          let all : List Bit4 = driven (length pairs) (lane_at ks i) in
          let two : length (front ++ news) ≡ first + count = omega (arith, length-append front news, front_long) in
          take-map f (first + count) (front ++ (news ++ rest))
          ∙ ap (map f) (ap (take (first + count)) (sym (append_assoc front news rest)) ∙ ap (λ n. take n ((front ++ news) ++ rest)) (sym two) ∙ take-append_seam (front ++ news) rest)
          ∙ map-append f front news
          ∙ ap₂ (λ (xs ys : List Bit4). xs ++ ys) (sym (take-map f first pairs) ∙ fed.each i h) (packed i h ∙ sym (placed_value (length pairs) ks i number count first input.placed bits room))
          ∙ sym (take-add first count all)
          ∙ ap (λ n. take (first + count) (driven n (lane_at ks i))) (sym total);
    }

-- ---- the only stimulus

-- bit m of lane i, where lane 0 has these planes and the others x
abbrev pub lone_bit : ℕ → ℕ → ℕ → ℕ → Bit4
lone_bit value unknown m zero = decode (bit_at value m == 1) (bit_at unknown m == 1)
lone_bit value unknown m (suc i) = X

-- the first pairs have these bits
pub record AreLone {W : Type 0} (lane : W → ℕ → Bool) (lanes done value unknown : ℕ) (pairs : List (Pair W)) : Type 0 where
  pub each : (i m : ℕ) → i < lanes → m < done → get_or (map (λ p. pair_lane lane p i) pairs) m X ≡ lone_bit value unknown m i

pub none_lone : {W : Type 0} (lane : W → ℕ → Bool) (lanes value unknown : ℕ) (pairs : List (Pair W)) → AreLone lane lanes 0 value unknown pairs
none_lone lane lanes value unknown pairs = record { each = λ i m h l. absurd (let e : ⊥ = omega arith in e) }

pub lone_more : {W : Type 0} (lane : W → ℕ → Bool) (lanes done value unknown : ℕ) (pairs : List (Pair W)) (new : Pair W) → done < length pairs
    → pair_lane lane new 0 ≡ decode (bit_at value done == 1) (bit_at unknown done == 1) → ((i : ℕ) → 0 < i → i < lanes → pair_lane lane new i ≡ X)
    → AreLone lane lanes done value unknown pairs → AreLone lane lanes (done + 1) value unknown (set pairs done new)
lone_more {W} lane lanes done value unknown pairs new room first others so_far = record {
  each = λ i m h l.
      let f = λ (p : Pair W). pair_lane lane p i in
      ap (λ (bs : List Bit4). get_or bs m X) (map-set f pairs done new)
      ∙ elim (cases_eq m done) as (λ _. get_or (set (map f pairs) done (f new)) m X ≡ lone_bit value unknown m i) [
        | inl e ↦ subst (λ (n : ℕ). get_or (set (map f pairs) done (f new)) n X ≡ lone_bit value unknown n i) (sym e)
            (get_or-set_same (map f pairs) done (f new) X (omega (arith, length-map pairs f)) ∙ here i h)
        | inr ne ↦ get_or-set_other (map f pairs) done m (f new) X ne ∙ so_far.each i m h (omega arith)
      ];
}
  where
    here : (i : ℕ) → i < lanes → pair_lane lane new i ≡ lone_bit value unknown done i
    here zero h = first
    here (suc i) h = others (suc i) (omega arith) h

-- and all of them are the input's value
pub lone_all : {W : Type 0} (lane : W → ℕ → Bool) (lanes count value unknown : ℕ) (pairs : List (Pair W)) (ks : List Known) (number i : ℕ)
    → length pairs ≡ count → length ks ≡ 1 → i < lanes → IsWide number count ks → count ≤ 64 → bits_of_planes count value unknown ≡ driven_value count (lane_at ks 0) number
    → ((j m : ℕ) → j < lanes → m < count → get_or (map (λ p. pair_lane lane p j) pairs) m X ≡ lone_bit value unknown m j)
    → map (λ p. pair_lane lane p i) pairs ≡ driven_value count (lane_at ks i) number
lone_all {W} lane lanes count value unknown pairs ks number i long lone h wide most first each =
    ext_get_or X (map (λ (p : Pair W). pair_lane lane p i) pairs) (driven_value count (lane_at ks i) number)
    (length-map pairs (λ (p : Pair W). pair_lane lane p i) ∙ long ∙ sym (value_length count number ks i wide))
    (λ m l.
    let below : m < count = omega (arith, l, length-map pairs (λ (p : Pair W). pair_lane lane p i), long) in
    each i m h below ∙ bit i m below)
  where
    bit : (j m : ℕ) → m < count → lone_bit value unknown m j ≡ get_or (driven_value count (lane_at ks j) number) m X
    bit zero m below =
        sym (get_or-planes count value unknown m below ∙ decode_is (bit_at value m) (bit_at unknown m) (bit_at-lt value m) (bit_at-lt unknown m))
        ∙ ap (λ (bs : List Bit4). get_or bs m X) first
    bit (suc j) m below =
        sym (unknown_at count m) ∙ sym (ap (λ (bs : List Bit4). get_or bs m X) (value_ended count (lane_at ks (suc j)) number (past_ended ks (suc j) (omega arith))))
