-- The signals of a design that a name stands for: one, or each net of an array.
use Rattle.std.proofs.Common.{◌≡◌, ℕ, zero, suc, ◌+◌, ◌*◌, ◌-◌, ◌≤◌, ◌<◌, Bool, true, false, not, ◌&&◌, ◌||◌, List, [], ◌∷◌, ◌++◌, map, length, max, min, Option, Some, None, is_some, if◌then◌else◌, ◌==◌, nat_le, eq-eqb, eqb-true, refl, sym, ap, ◌∙◌, subst, arith}
use Rattle.std.proofs.lemmas.Bool.{leb-true, leb-false, le-leb}
use Rattle.std.proofs.Math.Nat.{suc-mul}
use Rattle.vs_four.specs.declared.Range.{Range}
use Rattle.vs_four.specs.Selects.{is_descending, range_length}
use Rattle.vs_design.specs.Expressions.{Signal, words_length, signal_length, word_length, range_or_zero, addresses}
use Rattle.vs_design.specs.Values.{count_from}
use Rattle.vs_design.specs.Designs.{Design}
use Rattle.vs_design.specs.Footprints.{is_variable, is_memory}
use Rattle.vs_design.specs.Elaborated.{is_signal, are_lawful_words, is_array_net, is_lawful_memory}
use Rattle.vs_grammar.specs.Shapes.{Each}
use Rattle.vs_const.specs.Selects.{array_net}
use Rattle.vs_const.specs.Sound.{HasAllWords}
use Rattle.vs_const.proofs.Formed.{both, split}
use Rattle.vs_elaborated.specs.Signals.{SaidSignal, nets_if, nets_of, all_nets}
use Rattle.vs_elaborated.specs.Sound.{AreCounted}

pub length_is : (r : Range) → range_length r ≡ suc (max r.left r.right - min r.left r.right)
length_is r = of (is_descending r) refl
  where
    of : (b : Bool) → is_descending r ≡ b → (if b then suc (r.left - r.right) else suc (r.right - r.left)) ≡ suc (max r.left r.right - min r.left r.right)
    of true e = let h = leb-true r.right r.left e in omega (arith, h)
    of false e = let h = leb-false r.right r.left e in omega (arith, h)

-- ---- the net of an array is a memory of one word

pub is_one : (n : ℕ) → range_length (record { left = n; right = n }) ≡ 1
is_one n = of (is_descending (record { left = n; right = n }))
  where
    of : (b : Bool) → (if b then suc (n - n) else suc (n - n)) ≡ 1
    of true = omega arith
    of false = omega arith

pub net_length : (s : Signal) (n : ℕ) → signal_length (array_net s n) ≡ word_length s
net_length s n = ap (λ z. z * word_length s) (is_one n) ∙ one (word_length s)
  where
    one : (k : ℕ) → 1 * k ≡ k
    one k = omega arith

some_length : (o : Option Range) (k : ℕ) → is_some o ≡ true → words_length o k ≡ range_length (range_or_zero o) * k
some_length None k h = cc
some_length (Some r) k h = refl

pub array_length : (s : Signal) → (s.net && is_some s.words) ≡ true → signal_length s ≡ range_length (addresses s) * word_length s
array_length s e = some_length s.words (word_length s) (split s.net (is_some s.words) e).1

-- ---- by whether a name means an array

pub by_array : (P : List Signal → Type 0) (s : Signal) → ((s.net && is_some s.words) ≡ false → P (s ∷ [])) → ((s.net && is_some s.words) ≡ true → P (map (array_net s) (count_from (addresses s).right (range_length (addresses s))))) → P (nets_of s)
by_array P s one many = of (s.net && is_some s.words) refl
  where
    of : (b : Bool) → (s.net && is_some s.words) ≡ b → P (nets_if b s)
    of false e = one e
    of true e = many e

each_net : (Q : Signal → Type 0) (s : Signal) (n count : ℕ) → ((m : ℕ) → n ≤ m → m < n + count → Q (array_net s m)) → Each Q (map (array_net s) (count_from n count))
each_net Q s n zero h = tt
each_net Q s n (suc count) h = (h n (omega arith) (omega arith), each_net Q s (suc n) count (λ m l k. h m (omega (arith, l)) (omega (arith, k))))

next_on : (m n : ℕ) → n ≤ m → (m == n) ≡ false → suc n ≤ m
next_on m n l e = grind arith

net_among : (Q : Signal → Type 0) (s : Signal) (n count m : ℕ) → n ≤ m → m < n + count → Each Q (map (array_net s) (count_from n count)) → Q (array_net s m)
net_among Q s n zero m l k h = absurd (omega (arith, l, k))
net_among Q s n (suc count) m l k h = of (m == n) refl (λ e. net_among Q s (suc n) count m (next_on m n l e) (omega (arith, k)) h.1)
  where
    of : (b : Bool) → (m == n) ≡ b → ((m == n) ≡ false → Q (array_net s m)) → Q (array_net s m)
    of true e rest = subst (λ z. Q (array_net s z)) (sym (eqb-true m n e)) h.0
    of false e rest = rest e

-- each of them
pub each_of : (Q : Signal → Type 0) (s : Signal) → ((s.net && is_some s.words) ≡ false → Q s) → ((s.net && is_some s.words) ≡ true → (n : ℕ) → (addresses s).right ≤ n → n < (addresses s).right + range_length (addresses s) → Q (array_net s n)) → Each Q (nets_of s)
each_of Q s one many = by_array (Each Q) s (λ e. (one e, tt)) (λ e. each_net Q s (addresses s).right (range_length (addresses s)) (many e))

-- ---- they are numbered, and have their bits, one after the other

further : (k count : ℕ) → k + suc count ≡ suc k + count
further k count = omega arith

array_counted : (s : Signal) (ys : List Signal) (k count : ℕ) → AreCounted s.scope (s.number + (k + count)) (s.first + (k + count) * word_length s) ys
    → AreCounted s.scope (s.number + k) (s.first + k * word_length s) (map (array_net s) (count_from ((addresses s).right + k) count) ++ ys)
array_counted s ys k zero q = subst (λ z. AreCounted s.scope (s.number + z) (s.first + z * word_length s) ys) (none k) q
  where
    none : (k : ℕ) → k + zero ≡ k
    none k = omega arith
array_counted s ys k (suc count) q =
    (number, first, refl, rest (array_counted s ys (suc k) count (subst (λ z. AreCounted s.scope (s.number + z) (s.first + z * word_length s) ys) (further k count) q)))
  where
    back : (((addresses s).right + k) - (addresses s).right) ≡ k
    back = omega arith

    number : s.number + (((addresses s).right + k) - (addresses s).right) ≡ s.number + k
    number = ap (λ z. s.number + z) back

    first : s.first + (((addresses s).right + k) - (addresses s).right) * word_length s ≡ s.first + k * word_length s
    first = ap (λ z. s.first + z * word_length s) back

    bits : s.first + suc k * word_length s ≡ (s.first + k * word_length s) + signal_length (array_net s ((addresses s).right + k))
    bits = omega (arith, suc-mul k (word_length s), net_length s ((addresses s).right + k))

    next : s.number + suc k ≡ (s.number + k) + 1
    next = omega arith

    address : (addresses s).right + suc k ≡ suc ((addresses s).right + k)
    address = omega arith

    rest : AreCounted s.scope (s.number + suc k) (s.first + suc k * word_length s) (map (array_net s) (count_from ((addresses s).right + suc k) count) ++ ys)
        → AreCounted s.scope ((s.number + k) + 1) ((s.first + k * word_length s) + signal_length (array_net s ((addresses s).right + k))) (map (array_net s) (count_from (suc ((addresses s).right + k)) count) ++ ys)
    rest behind =
        subst (λ z. AreCounted s.scope z ((s.first + k * word_length s) + signal_length (array_net s ((addresses s).right + k))) (map (array_net s) (count_from (suc ((addresses s).right + k)) count) ++ ys)) next
        (subst (λ z. AreCounted s.scope (s.number + suc k) z (map (array_net s) (count_from (suc ((addresses s).right + k)) count) ++ ys)) bits
        (subst (λ z. AreCounted s.scope (s.number + suc k) (s.first + suc k * word_length s) (map (array_net s) (count_from z count) ++ ys)) address behind))

counted : (n : ℕ) (s : Signal) (first : ℕ) → length (map (array_net s) (count_from first n)) ≡ n
counted zero s first = refl
counted (suc n) s first = ap suc (counted n s (suc first))

pub nets_counted : (s : Signal) (ys : List Signal) → AreCounted s.scope (s.number + length (nets_of s)) (s.first + signal_length s) ys → AreCounted s.scope s.number s.first (nets_of s ++ ys)
nets_counted s ys q =
    by_array (λ xs. AreCounted s.scope (s.number + length xs) (s.first + signal_length s) ys → AreCounted s.scope s.number s.first (xs ++ ys)) s
    (λ e q. (refl, refl, refl, q))
    (λ e q.
    let n = range_length (addresses s) in
    let p : AreCounted s.scope (s.number + (0 + n)) (s.first + (0 + n) * word_length s) ys =
    subst (λ z. AreCounted s.scope (s.number + z) (s.first + z * word_length s) ys) (all n)
    (subst (λ z. AreCounted s.scope (s.number + z) (s.first + n * word_length s) ys) (counted n s (addresses s).right) (subst (λ z. AreCounted s.scope (s.number + length (map (array_net s) (count_from (addresses s).right n))) (s.first + z) ys) (array_length s e) q))
    in
    start (map (array_net s) (count_from ((addresses s).right + 0) n) ++ ys) (map (array_net s) (count_from (addresses s).right n) ++ ys) (ap (λ z. map (array_net s) (count_from z n) ++ ys) (none (addresses s).right)) (array_counted s ys 0 n p))
    q
  where
    none : (k : ℕ) → k + 0 ≡ k
    none k = omega arith

    all : (k : ℕ) → k ≡ 0 + k
    all k = omega arith

    no_bits : s.first + 0 * word_length s ≡ s.first
    no_bits = omega arith

    start : (xs zs : List Signal) → xs ≡ zs → AreCounted s.scope (s.number + 0) (s.first + 0 * word_length s) xs → AreCounted s.scope s.number s.first zs
    start xs zs e p = subst (λ n. AreCounted s.scope n s.first zs) (none s.number) (subst (λ n. AreCounted s.scope (s.number + 0) n zs) no_bits (subst (AreCounted s.scope (s.number + 0) (s.first + 0 * word_length s)) e p))

-- ---- what holds of the signals that are said holds of those of the design

each_append : (Q : Signal → Type 0) (xs ys : List Signal) → Each Q xs → Each Q ys → Each Q (xs ++ ys)
each_append Q [] ys h k = k
each_append Q (x ∷ xs) ys h k = (h.0, each_append Q xs ys h.1 k)

each_left : (Q : Signal → Type 0) (xs ys : List Signal) → Each Q (xs ++ ys) → Each Q xs
each_left Q [] ys h = tt
each_left Q (x ∷ xs) ys h = (h.0, each_left Q xs ys h.1)

each_right : (Q : Signal → Type 0) (xs ys : List Signal) → Each Q (xs ++ ys) → Each Q ys
each_right Q [] ys h = h
each_right Q (x ∷ xs) ys h = each_right Q xs ys h.1

pub of_all : (Q : Signal → Type 0) (ss : List SaidSignal) → Each Q (all_nets ss) → Each (λ (s : SaidSignal). Each Q (nets_of s.meaning.signal)) ss
of_all Q [] h = tt
of_all Q (s ∷ ss) h = (each_left Q (nets_of s.meaning.signal) (all_nets ss) h, of_all Q ss (each_right Q (nets_of s.meaning.signal) (all_nets ss) h))

pub to_all : (Q : Signal → Type 0) (ss : List SaidSignal) → Each (λ (s : SaidSignal). Each Q (nets_of s.meaning.signal)) ss → Each Q (all_nets ss)
to_all Q [] h = tt
to_all Q (s ∷ ss) h = each_append Q (nets_of s.meaning.signal) (all_nets ss) h.0 (to_all Q ss h.1)

-- ---- they are in the design

alone : (Q : Signal → Type 0) (s : Signal) (b : Bool) → (s.net && is_some s.words) ≡ b → b ≡ false → Each Q (nets_if b s) → Q s
alone Q s false e f h = h.0
alone Q s true e f h = cc

pub no_array : (Q : Signal → Type 0) (s : Signal) → (s.net && is_some s.words) ≡ false → Each Q (nets_of s) → Q s
no_array Q s e h = alone Q s (s.net && is_some s.words) refl e h

many : (Q : Signal → Type 0) (s : Signal) (b : Bool) → b ≡ true → Each Q (nets_if b s) → Each Q (map (array_net s) (count_from (addresses s).right (range_length (addresses s))))
many Q s true e h = h
many Q s false e h = cc

pub has_all : (d : Design) (s : Signal) (r : Range) → s.words ≡ Some r → Each (λ x. is_signal d x ≡ true) (nets_of s) → HasAllWords s.net d s
has_all d s r e h = of s.net refl
  where
    memory : is_some s.words ≡ true
    memory = ap (λ (o : Option Range). is_some o) e

    of : (b : Bool) → s.net ≡ b → HasAllWords b d s
    of false k = both (is_signal d s) (is_memory s) (no_array (λ x. is_signal d x ≡ true) s (ap (λ n. n && is_some s.words) k) h) memory
    of true k = λ n l u.
        let all = many (λ x. is_signal d x ≡ true) s (s.net && is_some s.words) (both s.net (is_some s.words) k memory) h in
        both (is_signal d (array_net s n)) true (net_among (λ x. is_signal d x ≡ true) s (addresses s).right (range_length (addresses s)) n l (omega (arith, length_is (addresses s), l, u)) all) refl

-- ---- they are as the law has it

pub lawful_net : (s : Signal) (n : ℕ) → s.net ≡ true → s.input ≡ false → are_lawful_words s.words ≡ true → is_some s.words ≡ true → (addresses s).right ≤ n → n < (addresses s).right + range_length (addresses s) → is_lawful_memory (array_net s n) ≡ true
lawful_net s n net input lawful some l u =
    both (are_lawful_words (Some (record { left = n; right = n }))) (is_variable (array_net s n) || is_array_net (array_net s n))
    (three (nat_le n n) (nat_le n 65535) (nat_le (range_length (record { left = n; right = n })) 1024) (le-leb n n (omega arith)) (le-leb n 65535 most) (le-leb (range_length (record { left = n; right = n })) 1024 (omega (arith, is_one n))))
    (later (is_variable (array_net s n)) (is_array_net (array_net s n)) (three s.net (not s.input) (range_length (record { left = n; right = n }) == 1) net (ap not input) (eq-eqb (range_length (record { left = n; right = n })) 1 (is_one n))))
  where
    three : (a b c : Bool) → a ≡ true → b ≡ true → c ≡ true → (a && b && c) ≡ true
    three true true true h k l = refl
    three true true false h k l = cc
    three true false c h k l = cc
    three false b c h k l = cc

    later : (a b : Bool) → b ≡ true → (a || b) ≡ true
    later true b k = refl
    later false b k = k

    bound : (o : Option Range) → are_lawful_words o ≡ true → is_some o ≡ true → ((range_or_zero o).right ≤ (range_or_zero o).left) × ((range_or_zero o).left ≤ 65535)
    bound None h k = cc
    bound (Some r) h k =
        let p = split (nat_le r.right r.left && nat_le r.left 65535) (nat_le (range_length r) 1024) h in
        let q = split (nat_le r.right r.left) (nat_le r.left 65535) p.0 in
        (leb-true r.right r.left q.0, leb-true r.left 65535 q.1)

    most : n ≤ 65535
    most = let b = bound s.words lawful some in omega (arith, length_is (addresses s), b.0, b.1, u)
