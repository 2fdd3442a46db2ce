-- The text of a VCD (IEEE 1364-2005, 18.2): its head, the first slot, the slots after it, and its last line.
use Rattle.std.specs.Prelude.{ℕ, suc, ◌*◌, true, false, List, [], ◌∷◌, ◌++◌, map, length, slice_index_or, codes}
use Rattle.std.specs.List.{flat_map}
use Rattle.vs_four.specs.Tables.{is_one}
use Rattle.vs_four.specs.Logic.{BitList, identical}
use Rattle.vs_net.specs.Network.{State}
use Rattle.vs_design.specs.Expressions.{Signal}
use Rattle.vs_design.specs.Values.{bits_of_signal, count_from, read}
use Rattle.vs_design.specs.Designs.{Design}
use Rattle.vs_vcd.specs.Numerals.{decimal}
use Rattle.vs_vcd.specs.Values.{line, value_line}
use Rattle.vs_vcd.specs.Scopes.{shown_signals, head_text}

-- the numbers of the signals that have lines, in order
abbrev pub shown_numbers : Design → List ℕ
shown_numbers d = map (λ (s : Signal). s.number) (shown_signals d)

-- their values, in the same order
abbrev pub values_of : Design → State → List BitList
values_of d state = map (λ (s : Signal). read state (bits_of_signal s)) (shown_signals d)

unfoldable pub time_line : ℕ → List ℕ
time_line time = line (codes "#" ++ decimal time)

-- of signals with these numbers and values, the lines of those that stand at these places
abbrev pub value_lines : List ℕ → List BitList → List ℕ → List ℕ
value_lines numbers values places = flat_map (λ k. value_line (slice_index_or numbers k 0) (slice_index_or values k [])) places

-- the places at which the values differ; the first of these values has place k
abbrev pub changed_from : ℕ → List BitList → List BitList → List ℕ
changed_from k [] now = []
changed_from k (b ∷ before) [] = []
changed_from k (b ∷ before) (v ∷ now) = elim (is_one (identical b v)) [ true ↦ changed_from (suc k) before now | false ↦ k ∷ changed_from (suc k) before now ]

-- slot 0 has all values (18.2.3.12)
abbrev pub first_text : List ℕ → List BitList → List ℕ
first_text numbers now = time_line 0 ++ line (codes "$dumpvars") ++ value_lines numbers now (count_from 0 (length now)) ++ line (codes "$end")

-- a later slot has those that differ from the slot before
abbrev pub slot_text : List ℕ → ℕ → List BitList → List BitList → List ℕ
slot_text numbers time before now = time_line time ++ value_lines numbers now (changed_from 0 before now)

abbrev pub last_text : ℕ → List ℕ
last_text time = time_line time

-- slot k and those after it, where the slot before ended in this state
abbrev pub later_slots : Design → ℕ → ℕ → State → List State → List ℕ
later_slots d half k before [] = []
later_slots d half k before (end ∷ ends) = slot_text (shown_numbers d) (k * half) (values_of d before) (values_of d end) ++ later_slots d half (suc k) end ends

-- all slots, that end in these states; slot k is at time k * half
abbrev pub slot_texts : Design → ℕ → List State → List ℕ
slot_texts d half [] = []
slot_texts d half (end ∷ ends) = first_text (shown_numbers d) (values_of d end) ++ later_slots d half 1 end ends

abbrev pub vcd : Design → ℕ → List State → List ℕ
vcd d half ends = head_text d ++ slot_texts d half ends ++ last_text (length ends * half)
