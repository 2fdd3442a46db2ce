-- Words of a memory, place by place.
use Rattle.std.proofs.Common.{◌≡◌, ◌≢◌, ℕ, zero, suc, ◌+◌, ◌*◌, ◌<◌, ◌≤◌, Bool, true, false, ◌==◌, if◌then◌else◌, nat_lt, ℤ, pos, negsuc, ◌+ℤ◌, ◌-ℤ◌, Option, Some, None, [], ◌∷◌, map, length, get_or, take, drop, replicate, refl, sym, ap, ◌∙◌, arith, inl, inr}
use Rattle.std.proofs.Math.Nat.{mul-le-mul_right}
use Rattle.std.proofs.lemmas.Bool.{cond-true, eqb-true, eqb-false, lt-ltb, ltb-true, ltb-false, cases_lt}
use Rattle.std.proofs.lemmas.Int.{ints}
use Rattle.std.proofs.lemmas.List.{drop_more, get_or-drop, get_or-take, length-map, length-replicate, length-take-le, length-drop}
use Rattle.vs_four.specs.declared.Bit4.{Bit4}
use Rattle.vs_four.specs.declared.Bit4.TheVariants.{X}
use Rattle.vs_four.specs.declared.Range.{Range}
use Rattle.vs_four.specs.Logic.{BitList, all_known}
use Rattle.vs_four.specs.Numbers.{integer}
use Rattle.vs_four.specs.Selects.{is_descending, range_length, below, place_of, at_place, one_bit, indices, places, write_places}
use Rattle.vs_kern_select.specs.Matches.{is_place}
use Rattle.vs_kern_select.specs.Words.{count_from, address_place, spread, word_places, select_word, write_word}
use Rattle.vs_kern_select.proofs.SelectPlaces.{written_at, write_at, length-write}

-- ---- the place of a word

below_less : (length : ℕ) (z : ℤ) (n : ℕ) → below length z ≡ Some n → n < length
below_less length (pos m) n h = at (nat_lt m length) refl h where
  at : (d : Bool) → nat_lt m length ≡ d → (if d then Some m else None) ≡ Some n → n < length
  at true e h = let same : m ≡ n = ap (λ (o : Option ℕ). o_or o) h in omega (arith, same, ltb-true m length e) where
    o_or : Option ℕ → ℕ
    o_or None = m
    o_or (Some p) = p
  at false e h = cc
below_less length (negsuc m) n h = cc

pub address_less : (r : Range) (g : Bool) (address : BitList) (n : ℕ) → address_place r g address ≡ Some n → n < range_length r
address_less r g address n h = at (all_known address) h where
  at : (k : Bool) → (if k then place_of r (integer g address) else None) ≡ Some n → n < range_length r
  at true e = below_less (range_length r) _ n e
  at false e = cc

-- an address is looked for as the index of a select of one bit is
pub one_place : (r : Range) (g : Bool) (address : BitList) → get_or (places (one_bit r) g address) 0 None ≡ address_place r g address
one_place r g address = at (all_known address) where
  first : (z : ℤ) → get_or (map (place_of r) (indices (one_bit r) z)) 0 None ≡ place_of r z
  first z = by (is_descending r) where
    by : (d : Bool) → get_or (map (λ (i : ℤ). below (range_length r) (if d then (i -ℤ pos r.right) else (pos r.right -ℤ i))) (if d then (z ∷ []) else ((z +ℤ pos 0) ∷ []))) 0 None ≡ below (range_length r) (if d then (z -ℤ pos r.right) else (pos r.right -ℤ z))
    by true = refl
    by false = ap (λ (i : ℤ). below (range_length r) i) (omega (arith, ints))

  at : (k : Bool) → get_or (if k then map (place_of r) (indices (one_bit r) (integer g address)) else replicate 1 None) 0 None ≡ (if k then place_of r (integer g address) else None)
  at true = first (integer g address)
  at false = refl

pub word_ends : (d k n : ℕ) → n < d → n * k + k ≤ d * k
word_ends d k n h = let m : suc n * k ≤ d * k = mul-le-mul_right k h in omega (arith, m)

-- ---- a word that is read

-- the word at a place that is one of the first n, and else all x
abbrev pub so_far : ℕ → ℕ → BitList → Option ℕ → BitList
so_far k n a None = replicate k X
so_far k n a (Some p) = if nat_lt p n then take k (drop (p * k) a) else replicate k X

pub word_none : (k : ℕ) (a : BitList) (o : Option ℕ) → replicate k X ≡ so_far k 0 a o
word_none k a None = refl
word_none k a (Some p) = at (nat_lt p 0) refl where
  at : (d : Bool) → nat_lt p 0 ≡ d → replicate k X ≡ (if d then take k (drop (p * k) a) else replicate k X)
  at true e = let less : p < 0 = ltb-true p 0 e in absurd (let n : ⊥ = omega arith in n)
  at false e = refl

pub word_next : (k n : ℕ) (a : BitList) (o : Option ℕ)
    → (if is_place n o then take k (drop (n * k) a) else so_far k n a o) ≡ so_far k (n + 1) a o
word_next k n a None = refl
word_next k n a (Some p) = at (p == n) refl where
  other : p ≢ n → so_far k n a (Some p) ≡ so_far k (n + 1) a (Some p)
  other apart = by (nat_lt p n) refl where
    by : (d : Bool) → nat_lt p n ≡ d → (if d then take k (drop (p * k) a) else replicate k X) ≡ so_far k (n + 1) a (Some p)
    by true e = let within : p < n = ltb-true p n e in sym (cond-true (nat_lt p (n + 1)) _ _ (lt-ltb p (n + 1) (omega arith)))
    by false e =
        let past : n ≤ p = ltb-false p n e in
        go (nat_lt p (n + 1)) refl where
          go : (d : Bool) → nat_lt p (n + 1) ≡ d → replicate k X ≡ (if d then take k (drop (p * k) a) else replicate k X)
          go true f = let within : p < n + 1 = ltb-true p (n + 1) f in absurd (apart (omega (arith, ltb-false p n e)))
          go false f = refl

  at : (d : Bool) → (p == n) ≡ d → (if d then take k (drop (n * k) a) else so_far k n a (Some p)) ≡ so_far k (n + 1) a (Some p)
  at true e =
      let same : p ≡ n = eqb-true p n e in
      ap (λ (m : ℕ). take k (drop (m * k) a)) (sym same) ∙ sym (cond-true (nat_lt p (n + 1)) _ _ (lt-ltb p (n + 1) (omega arith)))
  at false e = other (eqb-false p n e)

nones : (n : ℕ) (a : BitList) → map (at_place X a) (replicate n None) ≡ replicate n X
nones zero a = refl
nones (suc n) a = ap (λ (xs : BitList). X ∷ xs) (nones n a)

taken : (a : BitList) (m n : ℕ) → m + n ≤ length a → map (at_place X a) (map Some (count_from m n)) ≡ take n (drop m a)
taken a m zero h = refl
taken a m (suc n) h =
    let next : m + 1 ≡ suc m = omega arith in
    ap (λ (xs : BitList). get_or a m X ∷ xs) (taken a (suc m) n (omega arith))
    ∙ ap (λ (i : ℕ). get_or a m X ∷ take n (drop i a)) (sym next)
    ∙ sym (ap (λ (xs : BitList). take (suc n) xs) (drop_more a m X (omega arith)))

-- after all words it is the word
pub word_ended : (r : Range) (k : ℕ) (g : Bool) (a address : BitList) → length a ≡ range_length r * k
    → so_far k (range_length r) a (address_place r g address) ≡ select_word r k g a address
word_ended r k g a address long = at (address_place r g address) refl where
  at : (o : Option ℕ) → address_place r g address ≡ o → so_far k (range_length r) a o ≡ map (at_place X a) (spread k o)
  at None e = sym (nones k a)
  at (Some p) e =
      let within : p < range_length r = address_less r g address p e in
      cond-true (nat_lt p (range_length r)) _ _ (lt-ltb p (range_length r) within)
      ∙ sym (taken a (p * k) k (omega (arith, long, word_ends (range_length r) k p within)))

length-count : (m n : ℕ) → length (count_from m n) ≡ n
length-count m zero = refl
length-count m (suc n) = ap suc (length-count (suc m) n)

length-spread : (k : ℕ) (o : Option ℕ) → length (spread k o) ≡ k
length-spread k None = length-replicate k None
length-spread k (Some n) = length-map (count_from (n * k) k) Some ∙ length-count (n * k) k

pub length-word : (r : Range) (k : ℕ) (g : Bool) (a address : BitList) → length (select_word r k g a address) ≡ k
length-word r k g a address = length-map (word_places r k g address) (at_place X a) ∙ length-spread k (address_place r g address)

-- a bit of a choice of two vectors
pub choice_at : (t : Bool) (k m j : ℕ) (a b : BitList) → j < k
    → (if t then get_or a (m + j) X else get_or b j X) ≡ get_or (if t then take k (drop m a) else b) j X
choice_at true k m j a b h = sym (get_or-take k (drop m a) j X h ∙ get_or-drop m a j X)
choice_at false k m j a b h = refl

pub length-choice : (t : Bool) (k m : ℕ) (a b : BitList) → m + k ≤ length a → length b ≡ k → length (if t then take k (drop m a) else b) ≡ k
length-choice true k m a b h l = length-take-le k (drop m a) (omega (arith, h, length-drop m a))
length-choice false k m a b h l = l

-- ---- a word that is written

-- places that aren't this one
written_none : (q : ℕ) (b : Bit4) (m k : ℕ) (vs : BitList) → ((j : ℕ) → j < k → m + j ≢ q) → written_at q b (map Some (count_from m k)) vs ≡ b
written_none q b m zero vs h = refl
written_none q b m (suc k) [] h = refl
written_none q b m (suc k) (v ∷ vs) h = at (m == q) refl (written_none q b (suc m) k vs (λ j l s. h (suc j) (omega arith) (omega (arith, s)))) where
  at : (d : Bool) → (m == q) ≡ d → written_at q b (map Some (count_from (suc m) k)) vs ≡ b → written_at q (if d then v else b) (map Some (count_from (suc m) k)) vs ≡ b
  at true e rest = absurd (h 0 (omega arith) (omega (arith, eqb-true m q e)))
  at false e rest = rest

written_one : (b : Bit4) (m k j : ℕ) (vs : BitList) → length vs ≡ k → j < k → written_at (m + j) b (map Some (count_from m k)) vs ≡ get_or vs j X
written_one b m zero j vs l h = absurd (let e : ⊥ = omega arith in e)
written_one b m (suc k) j [] l h = absurd (let e : ⊥ = omega arith in e)
written_one b m (suc k) zero (v ∷ vs) l h = at (m == m + 0) refl where
  at : (d : Bool) → (m == m + 0) ≡ d → written_at (m + 0) (if d then v else b) (map Some (count_from (suc m) k)) vs ≡ v
  at true e = written_none (m + 0) v (suc m) k vs (λ j l s. let n : ⊥ = omega arith in n)
  at false e = let apart : m ≢ m + 0 = eqb-false m (m + 0) e in absurd (apart (omega arith))
written_one b m (suc k) (suc j) (v ∷ vs) l h =
    let place : m + suc j ≡ suc m + j = omega arith in
    ap (λ (q : ℕ). written_at q (if (m == q) then v else b) (map Some (count_from (suc m) k)) vs) place
    ∙ written_one (if (m == suc m + j) then v else b) (suc m) k j vs (omega arith) (omega arith)

unwritten : (k : ℕ) (a vs : BitList) → write_places a (replicate k None) vs ≡ a
unwritten zero a vs = refl
unwritten (suc k) a [] = refl
unwritten (suc k) a (v ∷ vs) = unwritten k a vs

-- different words have different places
other_word : (k n p i j : ℕ) → p ≢ n → i < k → j < k → p * k + i ≢ n * k + j
other_word k n p i j apart hi hj = elim (cases_lt p n) [ inl h ↦ (λ e. omega (arith, e, hi, word_ends n k p h)) | inr h ↦ (λ e. let less : n < p = omega (arith, h, apart) in omega (arith, e, hj, word_ends p k n less)) ]

-- a bit of a word, after a word is written
written_word : (k n j : ℕ) (o : Option ℕ) (a vs : BitList) → length vs ≡ k → j < k → n * k + j < length a
    → (if is_place n o then get_or vs j X else get_or a (n * k + j) X) ≡ get_or (write_places a (spread k o) vs) (n * k + j) X
written_word k n j None a vs l h within = sym (ap (λ (xs : BitList). get_or xs (n * k + j) X) (unwritten k a vs))
written_word k n j (Some p) a vs l h within = sym (write_at (map Some (count_from (p * k) k)) a vs (n * k + j) within ∙ at (p == n) refl) where
  at : (d : Bool) → (p == n) ≡ d → written_at (n * k + j) (get_or a (n * k + j) X) (map Some (count_from (p * k) k)) vs ≡ (if d then get_or vs j X else get_or a (n * k + j) X)
  at true e =
      let same : p ≡ n = eqb-true p n e in
      ap (λ (m : ℕ). written_at (n * k + j) (get_or a (n * k + j) X) (map Some (count_from (m * k) k)) vs) same
      ∙ written_one (get_or a (n * k + j) X) (n * k) k j vs l h
  at false e = written_none (n * k + j) (get_or a (n * k + j) X) (p * k) k vs (λ i hi. other_word k n p i j (eqb-false p n e) hi h)

pub written_bit : (r : Range) (g : Bool) (a address vs : BitList) (k n j : ℕ) → length vs ≡ k → j < k → n * k + j < length a
    → (if is_place n (address_place r g address) then get_or vs j X else get_or a (n * k + j) X) ≡ get_or (write_word r g a address vs) (n * k + j) X
written_bit r g a address vs k n j l h within =
    written_word k n j (address_place r g address) a vs l h within
    ∙ ap (λ (m : ℕ). get_or (write_places a (spread m (address_place r g address)) vs) (n * k + j) X) (sym l)

pub length-written : (r : Range) (g : Bool) (a address vs : BitList) → length (write_word r g a address vs) ≡ length a
length-written r g a address vs = length-write a (word_places r (length vs) g address) vs
