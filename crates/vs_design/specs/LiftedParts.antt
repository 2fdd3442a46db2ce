-- The parts of lifted statements: writes to sets of values, and the joins of branches and of the arms of a case.
use Rattle.std.specs.Prelude.{ℕ, ◌&&◌, ◌||◌, List, [], ◌∷◌, map, take, drop, if◌then◌else◌, Option, Some, None}
use Rattle.std.specs.List.{list_any}
use Rattle.vs_four.specs.declared.Bit4.{Bit4}
use Rattle.vs_net.specs.Network.{put}
use Rattle.vs_four.specs.Tables.{same_bit, casez_bit, casex_bit}
use Rattle.vs_four.specs.Selects.{places}
use Rattle.vs_design.specs.Expressions.{sign, is_constant}
use Rattle.vs_design.specs.Values.{bits_of_signal, word_places, word_part_places, constant_value}
use Rattle.vs_design.specs.Statements.{Target, Whole, PartOf, WordOf, WordPartOf, Both, target_width, CaseKind, Exact, CaseZ, CaseX}
use Rattle.vs_design.specs.Effects.{bits_at}
use Rattle.vs_design.specs.Footprints.{contains, addressed_bits}
use Rattle.vs_design.specs.Sets.{Set4, union, is_only_one, all_of, set_match}

-- a set for each bit, by number
abbrev pub Family : Type 0
Family = ℕ → Set4

-- these bits get these sets, one after the other
abbrev pub put_each : List (Option ℕ) → List Set4 → Family → Family
put_each [] ss sets = sets
put_each (p ∷ ps) [] sets = sets
put_each (None ∷ ps) (s ∷ ss) sets = put_each ps ss sets
put_each (Some b ∷ ps) (s ∷ ss) sets = put_each ps ss (put sets b s)

-- each of these bits may also have any of these values
abbrev pub widen : List ℕ → Set4 → Family → Family
widen bits s sets b = if contains bits b then union (sets b) s else sets b

-- the parts of a target are written one after the other, in the order of the text. A write by a variable index, or to a word by a variable address, gives each bit of the signal the union of its old set and all sets of the value; one by a variable index to a word by a constant address, each bit of the word
abbrev pub write_sets : Target → List Set4 → Family → Family
write_sets (Whole signal) ss sets = put_each (map Some (bits_of_signal signal)) ss sets
write_sets (PartOf signal part index) ss sets =
    if is_constant index
    then put_each (bits_at signal (places part (sign index) (constant_value index))) ss sets
    else widen (bits_of_signal signal) (all_of ss) sets
write_sets (WordOf signal index) ss sets =
    if is_constant index
    then put_each (bits_at signal (word_places signal (sign index) (constant_value index))) ss sets
    else widen (bits_of_signal signal) (all_of ss) sets
write_sets (WordPartOf signal address part index) ss sets =
    if is_constant address && is_constant index
    then put_each (bits_at signal (word_part_places signal (sign address) (constant_value address) part (sign index) (constant_value index))) ss sets
    else widen (addressed_bits signal address) (all_of ss) sets
write_sets (Both high low) ss sets = write_sets low (take (target_width low) ss) (write_sets high (drop (target_width low) ss) sets)

-- the union of two families, bit by bit
abbrev pub either : Family → Family → Family
either f g b = union (f b) (g b)

-- the union of the branches that members of the condition's truth set take: 1 the first, 0 and x the other
abbrev pub join_branches : Set4 → Family → Family → Family
join_branches c taken other = if c.one? then (if c.zero? || c.x? || c.z? then either taken other else taken) else other

abbrev pub match_bit : CaseKind → Bit4 → Bit4 → Bit4
match_bit Exact = same_bit
match_bit CaseZ = casez_bit
match_bit CaseX = casex_bit

-- the match sets of an arm's items, by the sets of their values
abbrev pub matches_of : CaseKind → List Set4 → List (List Set4) → List Set4
matches_of kind subject items = map (λ ts. set_match (match_bit kind) subject ts) items

-- an arm with an item whose match set has 1 is included; an item whose match set is {1} ends the case
abbrev pub join_arms : List Set4 → Family → Family → Family
join_arms matches arm rest = if list_any is_only_one matches then arm else (if list_any (λ (m : Set4). m.one?) matches then either arm rest else rest)
