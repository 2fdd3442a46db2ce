-- The signals of the design that names stand for: they are counted, and have all bits that the names have.
use Rattle.std.proofs.Common.{◌≡◌, ℕ, zero, suc, ◌+◌, ◌*◌, ◌-◌, Bool, true, false, ◌&&◌, List, [], ◌∷◌, length, length-append, map, is_some, if◌then◌else◌, Option, Some, None, refl, sym, ap, ◌∙◌, arith}
use Rattle.std.proofs.Math.Nat.{suc-mul}
use Rattle.std.specs.Prelude.{sum_by}
use Rattle.std.proofs.lemmas.List.Sums.{sum_by-append, sum_by-cons}
use Rattle.vs_four.specs.declared.Range.{Range}
use Rattle.vs_four.specs.Selects.{is_descending, range_length}
use Rattle.vs_design.specs.Expressions.{Signal, words_length, signal_length, word_length, range_or_zero, addresses}
use Rattle.vs_design.specs.Values.{count_from}
use Rattle.vs_const.specs.Selects.{array_net}
use Rattle.vs_elaborated.specs.Signals.{SaidSignal, nets_if, nets_of, all_nets, net_count}

-- ---- the net of an array is a memory of one word

is_one : (n : ℕ) → range_length (record { left = n; right = n }) ≡ 1
is_one n = of (is_descending (record { left = n; right = n }))
  where
    of : (b : Bool) → (if b then suc (n - n) else suc (n - n)) ≡ 1
    of true = omega arith
    of false = omega arith

net_length : (s : Signal) (n : ℕ) → signal_length (array_net s n) ≡ word_length s
net_length s n = ap (λ z. z * word_length s) (is_one n) ∙ one (word_length s)
  where
    one : (k : ℕ) → 1 * k ≡ k
    one k = omega arith

-- ---- an array has the bits of its nets

nets_bits : (s : Signal) (n count : ℕ) → sum_by signal_length (map (array_net s) (count_from n count)) ≡ count * word_length s
nets_bits s n zero = let none : 0 ≡ 0 * word_length s = omega arith in none
nets_bits s n (suc count) =
    omega (arith, suc-mul count (word_length s), net_length s n, sum_by-cons signal_length (array_net s n) (map (array_net s) (count_from (suc n) count)), nets_bits s (suc n) count)

array_length : (o : Option Range) (k : ℕ) → is_some o ≡ true → words_length o k ≡ range_length (range_or_zero o) * k
array_length None k h = cc
array_length (Some r) k h = refl

-- and any other name is one signal
bits_of_nets : (s : Signal) → sum_by signal_length (nets_of s) ≡ signal_length s
bits_of_nets s = of s.net (is_some s.words) refl
  where
    one : sum_by signal_length (s ∷ []) ≡ signal_length s
    one = sum_by-cons signal_length s [] ∙ (let e : signal_length s + 0 ≡ signal_length s = omega arith in e)

    of : (a b : Bool) → is_some s.words ≡ b → sum_by signal_length (nets_if (a && b) s) ≡ signal_length s
    of false b e = one
    of true false e = one
    of true true e = nets_bits s (addresses s).right (range_length (addresses s)) ∙ sym (array_length s.words (word_length s) e)

-- ---- all of them

pub all_counted : (ss : List SaidSignal) → length (all_nets ss) ≡ net_count ss
all_counted [] = refl
all_counted (s ∷ ss) =
    length-append (nets_of s.meaning.signal) (all_nets ss)
    ∙ ap (λ n. length (nets_of s.meaning.signal) + n) (all_counted ss)
    ∙ sym (sum_by-cons (λ (x : SaidSignal). length (nets_of x.meaning.signal)) s ss)

pub all_bits : (ss : List SaidSignal) → sum_by signal_length (all_nets ss) ≡ sum_by (λ (x : SaidSignal). signal_length x.meaning.signal) ss
all_bits [] = refl
all_bits (s ∷ ss) =
    sum_by-append signal_length (nets_of s.meaning.signal) (all_nets ss)
    ∙ ap (λ n. n + sum_by signal_length (all_nets ss)) (bits_of_nets s.meaning.signal)
    ∙ ap (λ n. signal_length s.meaning.signal + n) (all_bits ss)
    ∙ sym (sum_by-cons (λ (x : SaidSignal). signal_length x.meaning.signal) s ss)
