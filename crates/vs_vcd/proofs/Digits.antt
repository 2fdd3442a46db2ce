-- Digits in a block, written some at a time from the top of a word.
use Rattle.std.proofs.Common.{◌≡◌, ℕ, zero, suc, ◌+◌, ◌-◌, ◌*◌, ◌/◌, ◌%◌, ◌^◌, ◌<◌, ◌≤◌, List, [], ◌∷◌, ◌++◌, length, min, map, reverse, take, drop, subst, refl, ◌∙◌, sym, ap, arith, append_assoc, append-nil, length-append, inl, inr}
use Rattle.std.proofs.lemmas.Bool.{cases_lt}
use Rattle.std.proofs.Math.Nat.{div-div-eq-div-mul, mul-div_cancel, mod-lt, mul_assoc}
use Rattle.std.proofs.Math.Seq.{take-append_seam}
use Rattle.std.proofs.lemmas.List.{length-take-le, reverse-append, map-append, take-append-drop, take-append-le}
use Rattle.std.proofs.lemmas.Nat.{pow-add, pow_pos, mod-pow-add, div-mul-add, mul-mod_first}
use Rattle.vs_four.specs.Planes.{decode, bits_of_planes}
use Rattle.vs_vcd.specs.Values.{digit_code}

pub over_one : (n : ℕ) → n / 2 ^ 0 ≡ n
over_one n = omega arith

pub double : (j : ℕ) → 2 * 2 ^ j ≡ 2 ^ suc j
double j = let e : 1 + j ≡ suc j = omega arith in sym (pow-add 2 1 j) ∙ ap (λ m. 2 ^ m) e

-- the digits of the last so many bits of two planes, most significant first
unfoldable pub digits : ℕ → ℕ → ℕ → List ℕ
digits zero v u = []
digits (suc count) v u = digits count (v / 2) (u / 2) ++ digit_code (decode (v % 2) (u % 2)) ∷ []

pub digits_are : (count v u : ℕ) → map digit_code (reverse (bits_of_planes count v u)) ≡ digits count v u
unfolding bits_of_planes digits
digits_are zero v u = refl
digits_are (suc count) v u =
    ap (map digit_code) (reverse-append (decode (v % 2) (u % 2) ∷ []) (bits_of_planes count (v / 2) (u / 2)))
    ∙ map-append digit_code (reverse (bits_of_planes count (v / 2) (u / 2))) (decode (v % 2) (u % 2) ∷ [])
    ∙ ap (λ ds. ds ++ digit_code (decode (v % 2) (u % 2)) ∷ []) (digits_are count (v / 2) (u / 2))

pub length-digits : (count v u : ℕ) → length (digits count v u) ≡ count
unfolding digits
length-digits zero v u = refl
length-digits (suc count) v u = length-append (digits count (v / 2) (u / 2)) (digit_code (decode (v % 2) (u % 2)) ∷ []) ∙ (let e = length-digits count (v / 2) (u / 2) in omega (arith, e))

-- those before the last j, and the last j
digits-split : (k j v u : ℕ) → digits (k + j) v u ≡ digits k (v / 2 ^ j) (u / 2 ^ j) ++ digits j v u
unfolding digits
digits-split k zero v u =
    let all : k + 0 ≡ k = omega arith in
    ap (λ m. digits m v u) all ∙ sym (append-nil (digits k v u)) ∙ ap (λ m. digits k m u ++ []) (sym (over_one v)) ∙ ap (λ m. digits k (v / 2 ^ 0) m ++ []) (sym (over_one u))
digits-split k (suc j) v u =
    let all : k + suc j ≡ suc (k + j) = omega arith in
    ap (λ m. digits m v u) all
    ∙ ap (λ xs. xs ++ digit_code (decode (v % 2) (u % 2)) ∷ []) (digits-split k j (v / 2) (u / 2))
    ∙ append_assoc (digits k (v / 2 / 2 ^ j) (u / 2 / 2 ^ j)) (digits j (v / 2) (u / 2)) (digit_code (decode (v % 2) (u % 2)) ∷ [])
    ∙ ap (λ m. digits k m (u / 2 / 2 ^ j) ++ digits (suc j) v u) (halves v)
    ∙ ap (λ m. digits k (v / 2 ^ suc j) m ++ digits (suc j) v u) (halves u)
  where
    halves : (n : ℕ) → n / 2 / 2 ^ j ≡ n / 2 ^ suc j
    halves n = div-div-eq-div-mul n 2 (2 ^ j) ∙ ap (λ m. n / m) (double j)

-- the bits above count for nothing
digits-mod : (j v u : ℕ) → digits j (v % 2 ^ j) (u % 2 ^ j) ≡ digits j v u
unfolding digits
digits-mod zero v u = refl
digits-mod (suc j) v u =
    ap (λ m. digits j m (u % 2 ^ suc j / 2) ++ digit_code (decode (v % 2 ^ suc j % 2) (u % 2 ^ suc j % 2)) ∷ []) (half v)
    ∙ ap (λ m. digits j (v / 2 % 2 ^ j) m ++ digit_code (decode (v % 2 ^ suc j % 2) (u % 2 ^ suc j % 2)) ∷ []) (half u)
    ∙ ap (λ xs. xs ++ digit_code (decode (v % 2 ^ suc j % 2) (u % 2 ^ suc j % 2)) ∷ []) (digits-mod j (v / 2) (u / 2))
    ∙ ap (λ m. digits j (v / 2) (u / 2) ++ digit_code (decode m (u % 2 ^ suc j % 2)) ∷ []) (last v)
    ∙ ap (λ m. digits j (v / 2) (u / 2) ++ digit_code (decode (v % 2) m) ∷ []) (last u)
  where
    by_one : (n : ℕ) → n % 2 ^ suc j ≡ (n / 2 % 2 ^ j) * 2 + n % 2
    by_one n = let e : suc j ≡ j + 1 = omega arith in ap (λ m. n % 2 ^ m) e ∙ mod-pow-add n j 1

    half : (n : ℕ) → n % 2 ^ suc j / 2 ≡ n / 2 % 2 ^ j
    half n = omega (arith, by_one n)

    last : (n : ℕ) → n % 2 ^ suc j % 2 ≡ n % 2
    last n = omega (arith, by_one n)

-- w digits more
digits-more : (done left w v u : ℕ) → digits done (v / 2 ^ (left + w)) (u / 2 ^ (left + w)) ++ digits w (v / 2 ^ left % 2 ^ w) (u / 2 ^ left % 2 ^ w) ≡ digits (done + w) (v / 2 ^ left) (u / 2 ^ left)
digits-more done left w v u =
    ap (λ m. digits done m (u / 2 ^ (left + w)) ++ digits w (v / 2 ^ left % 2 ^ w) (u / 2 ^ left % 2 ^ w)) (above v)
    ∙ ap (λ m. digits done (v / 2 ^ left / 2 ^ w) m ++ digits w (v / 2 ^ left % 2 ^ w) (u / 2 ^ left % 2 ^ w)) (above u)
    ∙ ap (λ xs. digits done (v / 2 ^ left / 2 ^ w) (u / 2 ^ left / 2 ^ w) ++ xs) (digits-mod w (v / 2 ^ left) (u / 2 ^ left))
    ∙ sym (digits-split done w (v / 2 ^ left) (u / 2 ^ left))
  where
    above : (n : ℕ) → n / 2 ^ (left + w) ≡ n / 2 ^ left / 2 ^ w
    above n = ap (λ k. n / k) (pow-add 2 left w) ∙ sym (div-div-eq-div-mul n (2 ^ left) (2 ^ w))

-- planes that were moved up by r bits
digits-up : (left r v u : ℕ) → digits (left + r) (v * 2 ^ r % 2 ^ (left + r)) (u * 2 ^ r % 2 ^ (left + r)) ≡ digits left v u ++ digits r (v * 2 ^ r % 2 ^ (left + r)) (u * 2 ^ r % 2 ^ (left + r))
digits-up left r v u =
    digits-split left r (v * 2 ^ r % 2 ^ (left + r)) (u * 2 ^ r % 2 ^ (left + r))
    ∙ ap (λ m. digits left m (u * 2 ^ r % 2 ^ (left + r) / 2 ^ r) ++ digits r (v * 2 ^ r % 2 ^ (left + r)) (u * 2 ^ r % 2 ^ (left + r))) (high v)
    ∙ ap (λ m. digits left (v % 2 ^ left) m ++ digits r (v * 2 ^ r % 2 ^ (left + r)) (u * 2 ^ r % 2 ^ (left + r))) (high u)
    ∙ ap (λ xs. xs ++ digits r (v * 2 ^ r % 2 ^ (left + r)) (u * 2 ^ r % 2 ^ (left + r))) (digits-mod left v u)
  where
    high : (n : ℕ) → n * 2 ^ r % 2 ^ (left + r) / 2 ^ r ≡ n % 2 ^ left
    high n =
        ap (λ m. m / 2 ^ r) (mod-pow-add (n * 2 ^ r) left r)
        ∙ div-mul-add (n * 2 ^ r / 2 ^ r % 2 ^ left) (2 ^ r) (n * 2 ^ r % 2 ^ r) (mod-lt (n * 2 ^ r) (pow_pos r))
        ∙ ap (λ m. m % 2 ^ left) (mul-div_cancel n (pow_pos r))

-- ---- the top of a word

top_of : (w n : ℕ) → w ≤ 64 → n % 2 ^ 64 / 2 ^ (64 - w) ≡ n / 2 ^ (64 - w) % 2 ^ w
top_of w n most =
    let all : 64 ≡ w + (64 - w) = omega arith in
    ap (λ m. n % 2 ^ m / 2 ^ (64 - w)) all
    ∙ ap (λ m. m / 2 ^ (64 - w)) (mod-pow-add n w (64 - w))
    ∙ div-mul-add (n / 2 ^ (64 - w) % 2 ^ w) (2 ^ (64 - w)) (n % 2 ^ (64 - w)) (mod-lt n (pow_pos (64 - w)))

-- where bits are left below
top_of_many : (left w n : ℕ) → left + w ≤ 64 → n * 2 ^ (64 - (left + w)) % 2 ^ 64 / 2 ^ (64 - w) ≡ n / 2 ^ left % 2 ^ w
top_of_many left w n most =
    let r = 64 - (left + w) in
    let sum : 64 - w ≡ 64 - (left + w) + left = omega arith in
    top_of w (n * 2 ^ (64 - (left + w))) (omega arith)
    ∙ ap (λ m. m % 2 ^ w)
    (ap (λ m. n * 2 ^ (64 - (left + w)) / 2 ^ m) sum
    ∙ ap (λ m. n * 2 ^ (64 - (left + w)) / m) (pow-add 2 (64 - (left + w)) left)
    ∙ sym (div-div-eq-div-mul (n * 2 ^ (64 - (left + w))) (2 ^ (64 - (left + w))) (2 ^ left))
    ∙ ap (λ m. m / 2 ^ left) (mul-div_cancel n (pow_pos (64 - (left + w)))))

-- where fewer than w bits are left in all
top_of_few : (left w n : ℕ) → left < w → w ≤ 64 → n * 2 ^ (64 - left) % 2 ^ 64 / 2 ^ (64 - w) ≡ n * 2 ^ (w - left) % 2 ^ w
top_of_few left w n few most =
    let sum : 64 - left ≡ w - left + (64 - w) = omega arith in
    top_of w (n * 2 ^ (64 - left)) most
    ∙ ap (λ m. m / 2 ^ (64 - w) % 2 ^ w) (ap (λ m. n * 2 ^ m) sum ∙ ap (λ m. n * m) (pow-add 2 (w - left) (64 - w)) ∙ sym (mul_assoc n (2 ^ (w - left)) (2 ^ (64 - w))))
    ∙ ap (λ m. m % 2 ^ w) (mul-div_cancel (n * 2 ^ (w - left)) (pow_pos (64 - w)))

-- ---- the steps of a loop: of `count` digits d stand behind `at`, and the bits of the rest are at the top of a word

abbrev pub AtTop : ℕ → ℕ → ℕ → ℕ → Type 0
AtTop count d n rest = d < count → rest ≡ n * 2 ^ (64 - (count - d)) % 2 ^ 64

abbrev pub Stand : ℕ → ℕ → ℕ → ℕ → ℕ → List ℕ → List ℕ → Type 0
Stand at count v u d old now = take (at + min d count) now ≡ take at old ++ digits (min d count) (v / 2 ^ (count - d)) (u / 2 ^ (count - d))

pub top_begins : (count d n : ℕ) → d ≡ 0 → AtTop count d n (n * 2 ^ (64 - count) % 2 ^ 64)
top_begins count d n z some = let e : 64 - count ≡ 64 - (count - d) = omega arith in ap (λ m. n * 2 ^ m % 2 ^ 64) e

pub top_on : (w count d e n rest : ℕ) → d + w ≡ e → count ≤ 64 → AtTop count d n rest → AtTop count e n (rest * 2 ^ w % 2 ^ 64)
top_on w count d e n rest further most top more =
    let sum : 64 - (count - d) + w ≡ 64 - (count - e) = omega arith in
    ap (λ m. m * 2 ^ w % 2 ^ 64) (top (omega arith))
    ∙ mul-mod_first (n * 2 ^ (64 - (count - d))) (2 ^ w) (2 ^ 64)
    ∙ ap (λ m. m % 2 ^ 64) (mul_assoc n (2 ^ (64 - (count - d))) (2 ^ w) ∙ ap (λ m. n * m) (sym (pow-add 2 (64 - (count - d)) w)) ∙ ap (λ m. n * 2 ^ m) sum)

pub stand_begins : (at count v u d : ℕ) (old : List ℕ) → d ≡ 0 → Stand at count v u d old old
unfolding digits
stand_begins at count v u d old z =
    let none : 0 ≡ min d count = omega arith in
    let here : at + 0 ≡ at = omega arith in
    subst (λ k. take (at + k) old ≡ take at old ++ digits k (v / 2 ^ (count - d)) (u / 2 ^ (count - d))) none (ap (λ m. take m old) here ∙ sym (append-nil (take at old)))

-- the first bytes of a block that begins with these
prefix : (k n : ℕ) (xs front rest : List ℕ) → take n xs ≡ front ++ rest → k ≡ length front → take k xs ≡ front
prefix k n xs front rest h long =
    let within : k ≤ length (take n xs) = omega (arith, ap length h, length-append front rest, long) in
    ap (take k) (sym (take-append-drop n xs)) ∙ take-append-le k (take n xs) (drop n xs) within ∙ ap (take k) h ∙ ap (λ m. take m (front ++ rest)) long ∙ take-append_seam front rest

-- the last digits, fewer than w
last_on : (w at done left v u : ℕ) (old middle new : List ℕ) → left < w → at ≤ length old
    → take (at + done) middle ≡ take at old ++ digits done (v / 2 ^ left) (u / 2 ^ left)
    → take (at + done + w) new ≡ take (at + done) middle ++ digits w (v * 2 ^ (w - left) % 2 ^ w) (u * 2 ^ (w - left) % 2 ^ w)
    → take (at + (done + left)) new ≡ take at old ++ digits (done + left) v u
last_on w at done left v u old middle new few within before after =
    let all : left + (w - left) ≡ w = omega arith in
    let more = digits w (v * 2 ^ (w - left) % 2 ^ w) (u * 2 ^ (w - left) % 2 ^ w) in
    let rest = digits (w - left) (v * 2 ^ (w - left) % 2 ^ w) (u * 2 ^ (w - left) % 2 ^ w) in
    let cut : more ≡ digits left v u ++ rest =
    subst (λ n. digits n (v * 2 ^ (w - left) % 2 ^ n) (u * 2 ^ (w - left) % 2 ^ n) ≡ digits left v u ++ digits (w - left) (v * 2 ^ (w - left) % 2 ^ n) (u * 2 ^ (w - left) % 2 ^ n)) all (digits-up left (w - left) v u) in
    let front = take at old ++ digits (done + left) v u in
    let joined : take (at + done + w) new ≡ front ++ rest =
    after
    ∙ ap (λ xs. xs ++ more) before
    ∙ ap (λ xs. (take at old ++ digits done (v / 2 ^ left) (u / 2 ^ left)) ++ xs) cut
    ∙ append_assoc (take at old) (digits done (v / 2 ^ left) (u / 2 ^ left)) (digits left v u ++ rest)
    ∙ ap (λ xs. take at old ++ xs) (sym (append_assoc (digits done (v / 2 ^ left) (u / 2 ^ left)) (digits left v u) rest) ∙ ap (λ xs. xs ++ rest) (sym (digits-split done left v u)))
    ∙ sym (append_assoc (take at old) (digits (done + left) v u) rest) in
    let long : at + (done + left) ≡ length (take at old ++ digits (done + left) v u) = omega (arith, length-append (take at old) (digits (done + left) v u), length-take-le at old within, length-digits (done + left) v u) in
    prefix (at + (done + left)) (at + done + w) new front rest joined long

-- w digits, where there are so many
more_on : (w at d left v u a b : ℕ) (old middle new : List ℕ) → a ≡ v / 2 ^ left % 2 ^ w → b ≡ u / 2 ^ left % 2 ^ w
    → take (at + d) middle ≡ take at old ++ digits d (v / 2 ^ (left + w)) (u / 2 ^ (left + w))
    → take (at + d + w) new ≡ take (at + d) middle ++ digits w a b
    → take (at + (d + w)) new ≡ take at old ++ digits (d + w) (v / 2 ^ left) (u / 2 ^ left)
more_on w at d left v u a b old middle new is_a is_b before after =
    let sum : at + (d + w) ≡ at + d + w = omega arith in
    let stood = digits d (v / 2 ^ (left + w)) (u / 2 ^ (left + w)) in
    ap (λ n. take n new) sum
    ∙ after
    ∙ ap (λ xs. xs ++ digits w a b) before
    ∙ append_assoc (take at old) stood (digits w a b)
    ∙ ap (λ n. take at old ++ (stood ++ digits w n b)) is_a
    ∙ ap (λ n. take at old ++ (stood ++ digits w (v / 2 ^ left % 2 ^ w) n)) is_b
    ∙ ap (λ xs. take at old ++ xs) (digits-more d left w v u)

pub stand_on : (w at count d e v u rv ru : ℕ) (old middle new : List ℕ) → d + w ≡ e → d < count → count ≤ 64 → w ≤ 64 → at ≤ length old → AtTop count d v rv → AtTop count d u ru
    → Stand at count v u d old middle
    → take (at + d + w) new ≡ take (at + d) middle ++ digits w (rv / 2 ^ (64 - w)) (ru / 2 ^ (64 - w))
    → Stand at count v u e old new
stand_on w at count d e v u rv ru old middle new further some most wide within top_v top_u before after =
    let m : min d count ≡ d = omega arith in
    let stood = subst (λ k. take (at + k) middle ≡ take at old ++ digits k (v / 2 ^ (count - d)) (u / 2 ^ (count - d))) m before in
    elim (cases_lt count (d + w)) [
      | inl short ↦
          let few : count - d < w = omega arith in
          let a = ap (λ k. k / 2 ^ (64 - w)) (top_v some) ∙ top_of_few (count - d) w v few wide in
          let b = ap (λ k. k / 2 ^ (64 - w)) (top_u some) ∙ top_of_few (count - d) w u few wide in
          let done = last_on w at d (count - d) v u old middle new few within stood
          (after ∙ ap (λ k. take (at + d) middle ++ digits w k (ru / 2 ^ (64 - w))) a ∙ ap (λ k. take (at + d) middle ++ digits w (v * 2 ^ (w - (count - d)) % 2 ^ w) k) b) in
          let all : d + (count - d) ≡ min e count = omega arith in
          let none : 0 ≡ count - e = omega arith in
          let whole_v : v ≡ v / 2 ^ (count - e) = sym (over_one v) ∙ ap (λ k. v / 2 ^ k) none in
          let whole_u : u ≡ u / 2 ^ (count - e) = sym (over_one u) ∙ ap (λ k. u / 2 ^ k) none in
          subst (λ k. take (at + k) new ≡ take at old ++ digits k (v / 2 ^ (count - e)) (u / 2 ^ (count - e))) all
          (done ∙ ap (λ k. take at old ++ digits (d + (count - d)) k u) whole_v ∙ ap (λ k. take at old ++ digits (d + (count - d)) (v / 2 ^ (count - e)) k) whole_u)
      | inr long ↦
          let back : count - d ≡ count - e + w = omega arith in
          let few : count - e + w ≤ 64 = omega arith in
          let a : rv / 2 ^ (64 - w) ≡ v / 2 ^ (count - e) % 2 ^ w = ap (λ k. k / 2 ^ (64 - w)) (top_v some) ∙ ap (λ k. v * 2 ^ (64 - k) % 2 ^ 64 / 2 ^ (64 - w)) back ∙ top_of_many (count - e) w v few in
          let b : ru / 2 ^ (64 - w) ≡ u / 2 ^ (count - e) % 2 ^ w = ap (λ k. k / 2 ^ (64 - w)) (top_u some) ∙ ap (λ k. u * 2 ^ (64 - k) % 2 ^ 64 / 2 ^ (64 - w)) back ∙ top_of_many (count - e) w u few in
          let all : d + w ≡ min e count = omega arith in
          subst (λ k. take (at + k) new ≡ take at old ++ digits k (v / 2 ^ (count - e)) (u / 2 ^ (count - e))) all
          (more_on w at d (count - e) v u (rv / 2 ^ (64 - w)) (ru / 2 ^ (64 - w)) old middle new a b (subst (λ k. take (at + d) middle ≡ take at old ++ digits d (v / 2 ^ k) (u / 2 ^ k)) back stood) after)
    ]

-- the same by places
pub stand_on_at : (w at count place v u rv ru : ℕ) (old middle new : List ℕ) → at ≤ place → place < at + count → count ≤ 64 → w ≤ 64 → at ≤ length old → AtTop count (place - at) v rv → AtTop count (place - at) u ru
    → Stand at count v u (place - at) old middle
    → take (place + w) new ≡ take place middle ++ map digit_code (reverse (bits_of_planes w (rv / 2 ^ (64 - w)) (ru / 2 ^ (64 - w))))
    → Stand at count v u (place + w - at) old new
stand_on_at w at count place v u rv ru old middle new from below most wide within top_v top_u before after =
    let further : place - at + w ≡ place + w - at = omega arith in
    let some : place - at < count = omega arith in
    let placed : place ≡ at + (place - at) = omega arith in
    let written = after ∙ ap (λ ds. take place middle ++ ds) (digits_are w (rv / 2 ^ (64 - w)) (ru / 2 ^ (64 - w))) in
    stand_on w at count (place - at) (place + w - at) v u rv ru old middle new further some most wide within top_v top_u before
    (subst (λ k. take (k + w) new ≡ take k middle ++ digits w (rv / 2 ^ (64 - w)) (ru / 2 ^ (64 - w))) placed written)

pub stand_ends : (at count d v u : ℕ) (old now : List ℕ) → count ≤ d → Stand at count v u d old now → take (at + count) now ≡ take at old ++ map digit_code (reverse (bits_of_planes count v u))
stand_ends at count d v u old now all before =
    let m : min d count ≡ count = omega arith in
    let none : count - d ≡ 0 = omega arith in
    let whole_v : v / 2 ^ (count - d) ≡ v = ap (λ k. v / 2 ^ k) none ∙ over_one v in
    let whole_u : u / 2 ^ (count - d) ≡ u = ap (λ k. u / 2 ^ k) none ∙ over_one u in
    subst (λ k. take (at + k) now ≡ take at old ++ digits k (v / 2 ^ (count - d)) (u / 2 ^ (count - d))) m before
    ∙ ap (λ k. take at old ++ digits count k (u / 2 ^ (count - d))) whole_v
    ∙ ap (λ k. take at old ++ digits count v k) whole_u
    ∙ ap (λ xs. take at old ++ xs) (sym (digits_are count v u))
