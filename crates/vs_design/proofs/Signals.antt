-- Signals share no bits.
use Rattle.std.proofs.Common.{◌≡◌, ℕ, zero, suc, ◌+◌, ◌≤◌, ◌<◌, Bool, true, false, List, [], ◌∷◌, ◌++◌, ◌||◌, refl, sym, ap, ◌∙◌, subst, arith, ◌==◌, eqb-true, Some}
use Rattle.std.specs.Prelude.{slice_get, sum_by}
use Rattle.std.specs.List.{filter}
use Rattle.std.proofs.lemmas.List.Sums.{sum_by-cons}
use Rattle.vs_design.specs.Expressions.{Signal, signal_length}
use Rattle.vs_design.specs.Values.{count_from, bits_of_signal}
use Rattle.vs_design.specs.Footprints.{contains, signals_bits}
use Rattle.vs_design.specs.Elaborated.{have_bits_from}
use Rattle.vs_design.proofs.Lists.{by_test, and_both, contains-append, contains-left, contains-right}

pub count_low : (f n b : ℕ) → contains (count_from f n) b ≡ true → f ≤ b
count_low f zero b h = cc
count_low f (suc n) b h =
    by_test (b == f)
    (λ e. let k = eqb-true b f e in omega arith)
    (λ e. let k = count_low (suc f) n b (subst (λ c. (c || contains (count_from (suc f) n) b) ≡ true) e h) in omega (arith, k))

pub count_high : (f n b : ℕ) → contains (count_from f n) b ≡ true → b < f + n
count_high f zero b h = cc
count_high f (suc n) b h =
    by_test (b == f)
    (λ e. let k = eqb-true b f e in omega arith)
    (λ e. let k = count_high (suc f) n b (subst (λ c. (c || contains (count_from (suc f) n) b) ≡ true) e h) in omega (arith, k))

-- in one of two lists
pub split : {P : Type 0} (xs ys : List ℕ) (b : ℕ) → contains (xs ++ ys) b ≡ true → (contains xs b ≡ true → P) → (contains ys b ≡ true → P) → P
split xs ys b h f g = by_test (contains xs b) f (λ e. g (subst (λ c. (c || contains ys b) ≡ true) e (sym (contains-append xs ys b) ∙ h)))

head_first : (k : ℕ) (s : Signal) (ss : List Signal) → have_bits_from k (s ∷ ss) ≡ true → (s.first ≡ k) × (have_bits_from (k + signal_length s) ss ≡ true)
head_first k s ss h = let p = and_both (s.first == k) (have_bits_from (k + signal_length s) ss) h in (eqb-true s.first k p.0, p.1)

filter_take : (t : Signal → Bool) (s : Signal) (ss : List Signal) → t s ≡ true → filter t (s ∷ ss) ≡ s ∷ filter t ss
filter_take t s ss h = rw h refl

filter_leave : (t : Signal → Bool) (s : Signal) (ss : List Signal) → t s ≡ false → filter t (s ∷ ss) ≡ filter t ss
filter_leave t s ss h = rw h refl

pub filter_low : (t : Signal → Bool) (k : ℕ) (ss : List Signal) (b : ℕ) → have_bits_from k ss ≡ true → contains (signals_bits (filter t ss)) b ≡ true → k ≤ b
filter_low t k [] b h c = cc
filter_low t k (s ∷ ss) b h c =
    let p = head_first k s ss h in
    by_test (t s)
    (λ e. split (bits_of_signal s) (signals_bits (filter t ss)) b (subst (λ xs. contains (signals_bits xs) b ≡ true) (filter_take t s ss e) c)
    (λ q. let l = count_low s.first (signal_length s) b q in let z = p.0 in omega arith)
    (λ q. let l = filter_low t (k + signal_length s) ss b p.1 q in omega arith))
    (λ e. let l = filter_low t (k + signal_length s) ss b p.1 (subst (λ xs. contains (signals_bits xs) b ≡ true) (filter_leave t s ss e) c) in omega arith)

-- and none lies beyond them all
pub filter_high : (t : Signal → Bool) (k : ℕ) (ss : List Signal) (b : ℕ) → have_bits_from k ss ≡ true → contains (signals_bits (filter t ss)) b ≡ true → b < k + sum_by signal_length ss
filter_high t k [] b h c = cc
filter_high t k (s ∷ ss) b h c =
    let p = head_first k s ss h in
    let total = sum_by-cons signal_length s ss in
    let rest = filter_high t (k + signal_length s) ss b p.1 in
    by_test (t s)
    (λ e. split (bits_of_signal s) (signals_bits (filter t ss)) b (subst (λ xs. contains (signals_bits xs) b ≡ true) (filter_take t s ss e) c)
    (λ q. let l = count_high s.first (signal_length s) b q in let z = p.0 in omega (arith, l, z, total))
    (λ q. let l = rest q in omega (arith, l, total)))
    (λ e. let l = rest (subst (λ xs. contains (signals_bits xs) b ≡ true) (filter_leave t s ss e) c) in omega (arith, l, total))

-- two kinds of signals share no bit
pub kinds_apart : (t u : Signal → Bool) (k : ℕ) (ss : List Signal) (b : ℕ) → ((s : Signal) → t s ≡ true → u s ≡ false) → have_bits_from k ss ≡ true → contains (signals_bits (filter t ss)) b ≡ true → contains (signals_bits (filter u ss)) b ≡ true → ⊥
kinds_apart t u k [] b x h c d = cc
kinds_apart t u k (s ∷ ss) b x h c d =
    let p = head_first k s ss h in
    by_test (t s)
    (λ e.
    let d' = subst (λ xs. contains (signals_bits xs) b ≡ true) (filter_leave u s ss (x s e)) d in
    split (bits_of_signal s) (signals_bits (filter t ss)) b (subst (λ xs. contains (signals_bits xs) b ≡ true) (filter_take t s ss e) c)
    (λ q. let l = count_high s.first (signal_length s) b q in let m = filter_low u (k + signal_length s) ss b p.1 d' in let z = p.0 in omega arith)
    (λ q. kinds_apart t u (k + signal_length s) ss b x p.1 q d'))
    (λ e.
    let c' = subst (λ xs. contains (signals_bits xs) b ≡ true) (filter_leave t s ss e) c in
    by_test (u s)
    (λ f. split (bits_of_signal s) (signals_bits (filter u ss)) b (subst (λ xs. contains (signals_bits xs) b ≡ true) (filter_take u s ss f) d)
    (λ q. let l = count_high s.first (signal_length s) b q in let m = filter_low t (k + signal_length s) ss b p.1 c' in let z = p.0 in omega arith)
    (λ q. kinds_apart t u (k + signal_length s) ss b x p.1 c' q))
    (λ f. kinds_apart t u (k + signal_length s) ss b x p.1 c' (subst (λ xs. contains (signals_bits xs) b ≡ true) (filter_leave u s ss f) d)))

pub member_bits : (ss : List Signal) (i : ℕ) (s : Signal) (b : ℕ) → slice_get ss i ≡ Some s → contains (bits_of_signal s) b ≡ true → contains (signals_bits ss) b ≡ true
member_bits [] i s b e h = cc
member_bits (t ∷ ss) zero s b e h = contains-left (bits_of_signal t) (signals_bits ss) b (subst (λ x. contains (bits_of_signal x) b ≡ true) (sym (some_is t s e)) h)
  where
    some_is : (y x : Signal) → Some y ≡ Some x → y ≡ x
    some_is y x e = cc
member_bits (t ∷ ss) (suc i) s b e h = contains-right (bits_of_signal t) (signals_bits ss) b (member_bits ss i s b e h)

-- a bit is of one signal
pub one_signal : (t : Signal → Bool) (k : ℕ) (ss : List Signal) (b i j : ℕ) (s r : Signal) → have_bits_from k ss ≡ true → slice_get (filter t ss) i ≡ Some s → slice_get (filter t ss) j ≡ Some r → contains (bits_of_signal s) b ≡ true → contains (bits_of_signal r) b ≡ true → i ≡ j
one_signal t k [] b i j s r h e f c d = cc
one_signal t k (x ∷ ss) b i j s r h e f c d =
    let p = head_first k x ss h in
    by_test (t x)
    (λ q. go i j (λ i j e f. one_signal t (k + signal_length x) ss b i j s r p.1 e f c d) p (subst (λ xs. slice_get xs i ≡ Some s) (filter_take t x ss q) e) (subst (λ xs. slice_get xs j ≡ Some r) (filter_take t x ss q) f))
    (λ q. one_signal t (k + signal_length x) ss b i j s r p.1 (subst (λ xs. slice_get xs i ≡ Some s) (filter_leave t x ss q) e) (subst (λ xs. slice_get xs j ≡ Some r) (filter_leave t x ss q) f) c d)
  where
    some_is : (y x : Signal) → Some y ≡ Some x → y ≡ x
    some_is y x e = cc

    head_bit : (y : Signal) → (x.first ≡ k) × (have_bits_from (k + signal_length x) ss ≡ true) → x ≡ y → contains (bits_of_signal y) b ≡ true → b < k + signal_length x
    head_bit y p e h = let l = count_high x.first (signal_length x) b (subst (λ z. contains (bits_of_signal z) b ≡ true) (sym e) h) in let z = p.0 in omega arith

    rest_bit : (n : ℕ) (y : Signal) → (x.first ≡ k) × (have_bits_from (k + signal_length x) ss ≡ true) → slice_get (filter t ss) n ≡ Some y → contains (bits_of_signal y) b ≡ true → k + signal_length x ≤ b
    rest_bit n y p e h = filter_low t (k + signal_length x) ss b p.1 (member_bits (filter t ss) n y b e h)

    go : (i j : ℕ) → ((i j : ℕ) → slice_get (filter t ss) i ≡ Some s → slice_get (filter t ss) j ≡ Some r → i ≡ j) → (x.first ≡ k) × (have_bits_from (k + signal_length x) ss ≡ true) → slice_get (x ∷ filter t ss) i ≡ Some s → slice_get (x ∷ filter t ss) j ≡ Some r → i ≡ j
    go zero zero ih p e f = refl
    go zero (suc j) ih p e f = let a = head_bit s p (some_is x s e) c in let z = rest_bit j r p f d in absurd (omega arith)
    go (suc i) zero ih p e f = let a = head_bit r p (some_is x r f) d in let z = rest_bit i s p e c in absurd (omega arith)
    go (suc i) (suc j) ih p e f = ap suc (ih i j e f)
