-- How many bits a target has.
use Rattle.std.proofs.Common.{◌≡◌, ℕ, zero, suc, ◌+◌, ◌*◌, ◌≤◌, Bool, true, false, if◌then◌else◌, List, [], ◌∷◌, map, length, replicate, Option, Some, None, ap, ◌∙◌, refl, arith, length-append}
use Rattle.std.specs.Prelude.{option_map, ℤ, pos, ◌+ℤ◌, ◌-ℤ◌}
use Rattle.std.proofs.lemmas.List.{length-map}
use Rattle.vs_four.specs.Logic.{BitList, all_known}
use Rattle.vs_four.specs.Numbers.{integer}
use Rattle.vs_four.specs.Selects.{Part, at_place, places, place_of, indices, indices_up, indices_down, is_descending, least_index, greatest_index}
use Rattle.vs_design.specs.Bodies.{bits_at}
use Rattle.vs_design.specs.Elaborated.{has_constant_selects}
use Rattle.vs_design.specs.Expressions.{Expression, Signal, is_constant, sign, signal_length, word_length}
use Rattle.vs_design.specs.Footprints.{contains, target_bits, somes}
use Rattle.vs_design.specs.Sizes.{distinct}
use Rattle.vs_design.specs.Statements.{Target, Whole, PartOf, WordOf, WordPartOf, Both, target_width}
use Rattle.vs_design.specs.Values.{bits_of_signal, constant_value, count_from, address_place, spread, word_places, word_part_places}
use Rattle.vs_values.proofs.Values.{both_true}

pub chosen_bits : (signal : Signal) (index : Expression) (ps : List (Option ℕ)) (b : Bool) → is_constant index ≡ b → (if is_constant index then somes (bits_at signal ps) else bits_of_signal signal) ≡ (if b then somes (bits_at signal ps) else bits_of_signal signal)
chosen_bits signal index ps b h = ap (λ (k : Bool). if k then somes (bits_at signal ps) else bits_of_signal signal) h

pub distinct_length : (bs : List ℕ) → distinct bs ≤ length bs
distinct_length [] = omega arith
distinct_length (b ∷ bs) = by (contains bs b) (distinct_length bs)
  where
    by : (q : Bool) → distinct bs ≤ length bs → (if q then 0 else 1) + distinct bs ≤ suc (length bs)
    by true h = omega (arith, h)
    by false h = omega (arith, h)

somes_length : (ps : List (Option ℕ)) → length (somes ps) ≤ length ps
somes_length [] = omega arith
somes_length (None ∷ ps) = omega (arith, somes_length ps)
somes_length (Some p ∷ ps) = omega (arith, somes_length ps)

up_length : (n : ℕ) (i : ℤ) → length (indices_up i n) ≡ n
up_length zero i = refl
up_length (suc n) i = ap suc (up_length n (i +ℤ pos 1))

down_length : (n : ℕ) (i : ℤ) → length (indices_down i n) ≡ n
down_length zero i = refl
down_length (suc n) i = ap suc (down_length n (i -ℤ pos 1))

none_length : (n : ℕ) (x : Option ℕ) → length (replicate n x) ≡ n
none_length zero x = refl
none_length (suc n) x = ap suc (none_length n x)

indices_length : (part : Part) (i : ℤ) → length (indices part i) ≡ part.width
indices_length part i = by (is_descending part.range)
  where
    by : (q : Bool) → length (if q then indices_up (least_index part i) part.width else indices_down (greatest_index part i) part.width) ≡ part.width
    by true = up_length part.width (least_index part i)
    by false = down_length part.width (greatest_index part i)

places_length : (part : Part) (s : Bool) (v : BitList) → length (places part s v) ≡ part.width
places_length part s v = by (all_known v)
  where
    by : (q : Bool) → length (if q then map (place_of part.range) (indices part (integer s v)) else replicate part.width None) ≡ part.width
    by true = length-map (indices part (integer s v)) (place_of part.range) ∙ indices_length part (integer s v)
    by false = none_length part.width None

pub signal_bits_length : (n first : ℕ) → length (count_from first n) ≡ n
signal_bits_length zero first = refl
signal_bits_length (suc n) first = ap suc (signal_bits_length n (suc first))

spread_length : (k : ℕ) (o : Option ℕ) → length (spread k o) ≡ k
spread_length k None = none_length k None
spread_length k (Some n) = length-map (count_from (n * k) k) (λ m. Some m) ∙ signal_bits_length k (n * k)

pub fixed_length : (t : Target) → has_constant_selects t ≡ true → length (target_bits t) ≤ target_width t
fixed_length (Whole signal) h = omega (arith, signal_bits_length (signal_length signal) signal.first)
fixed_length (PartOf signal part index) h =
    let ps = places part (sign index) (constant_value index) in
    omega (arith, ap (λ (bs : List ℕ). length bs) (chosen_bits signal index ps true h), somes_length (bits_at signal ps), bits_at_length signal ps, places_length part (sign index) (constant_value index))
  where
    bits_at_length : (signal : Signal) (ps : List (Option ℕ)) → length (bits_at signal ps) ≡ length ps
    bits_at_length signal ps = length-map ps _
fixed_length (WordOf signal index) h =
    let v = constant_value index in
    let ps = word_places signal (sign index) v in
    let is : target_bits (WordOf signal index) ≡ somes (bits_at signal ps) = chosen_bits signal index ps true h in
    omega (arith, ap (λ (bs : List ℕ). length bs) is, somes_length (bits_at signal ps), length-map ps (λ p. option_map (λ n. signal.first + n) p), spread_length (word_length signal) (address_place signal (sign index) v))
fixed_length (WordPartOf signal address part index) h =
    let ps = word_part_places signal (sign address) (constant_value address) part (sign index) (constant_value index) in
    let is : target_bits (WordPartOf signal address part index) ≡ somes (bits_at signal ps) = rw h refl in
    let taken = length-map (places part (sign index) (constant_value index)) (at_place None (word_places signal (sign address) (constant_value address))) in
    omega (arith, ap (λ (bs : List ℕ). length bs) is, somes_length (bits_at signal ps), length-map ps (λ p. option_map (λ n. signal.first + n) p), taken, places_length part (sign index) (constant_value index))
fixed_length (Both high low) h =
    let p = both_true (has_constant_selects high) (has_constant_selects low) h in
    omega (arith, fixed_length high p.0, fixed_length low p.1, length-append (target_bits high) (target_bits low))
