-- A vector: for each name of the header as many digits as the input has bits, most significant first; and behind the field `->` those that the
-- expected outputs are wanted to have.
use Rattle.std.specs.Prelude.{ℕ, zero, suc, ◌+◌, Bool, true, false, ◌&&◌, ◌||◌, List, [], ◌∷◌, ◌++◌, length, take, drop, not, nat_eq, slice_index_or, Option, Some, None, codes, bytes_eq, if◌then◌else◌, nat_lt}
use Rattle.vs_four.specs.declared.Bit4.{Bit4}
use Rattle.vs_four.specs.declared.Bit4.TheVariants.{Zero, One, X, Z}
use Rattle.vs_four.specs.Tables.{is_known}
use Rattle.vs_stim.specs.declared.input.Column.{Column}
use Rattle.vs_stim.specs.declared.input.Expected.{Expected}
use Rattle.vs_stim.specs.declared.wanted.Digit.{Digit}
use Rattle.vs_stim.specs.declared.wanted.Digit.TheVariants.{Exactly, Any}
use Rattle.vs_stim.specs.Header.{is_arrow, ColumnLists}

-- a digit: `0`, `1`, `x` or `X`, `z` or `Z`
abbrev pub digit : ℕ → Option Bit4
digit b =
    elim (nat_eq b 48) [
      | true ↦ Some Zero
      | false ↦ elim (nat_eq b 49) [
        | true ↦ Some One
        | false ↦ elim (nat_eq b 120 || nat_eq b 88) [
          | true ↦ Some X
          | false ↦ elim (nat_eq b 122 || nat_eq b 90) [ true ↦ Some Z | false ↦ None ]
        ]
      ]
    ]

-- digits with one more above them
abbrev pub with_top : {D : Type 0} → D → Option (List D) → Option (List D)
with_top d None = None
with_top d (Some ds) = Some (ds ++ d ∷ [])

-- what all bytes stand for, least significant first, where `read` reads one: the first digit is the most significant one
abbrev pub digits_by : {D : Type 0} → (read : ℕ → Option D) → List ℕ → Option (List D)
digits_by read [] = Some []
digits_by read (b ∷ bs) = elim (read b) [ None ↦ None | Some d ↦ with_top d (digits_by read bs) ]

-- the bits of digits
abbrev pub bits_of : List ℕ → Option (List Bit4)
bits_of bs = digits_by digit bs

-- the value of a field of a column: as many digits as the input has bits
abbrev pub value : Column → List ℕ → Option (List Bit4)
value c f = elim (nat_eq (length f) c.length) [ true ↦ bits_of f | false ↦ None ]

abbrev pub with_value : List Bit4 → Option (List (List Bit4)) → Option (List (List Bit4))
with_value v None = None
with_value v (Some vs) = Some (v ∷ vs)

-- the values of the fields, one for each column
abbrev pub values : List Column → List (List ℕ) → Option (List (List Bit4))
values [] [] = Some []
values [] (f ∷ fs) = None
values (c ∷ cs) [] = None
values (c ∷ cs) (f ∷ fs) = elim (value c f) [ None ↦ None | Some v ↦ with_value v (values cs fs) ]

-- the value of input n, where the values stand in the order of the columns
abbrev pub value_at : ℕ → List Column → List (List Bit4) → List Bit4
value_at n [] vs = []
value_at n (c ∷ cs) [] = []
value_at n (c ∷ cs) (v ∷ vs) = elim (nat_eq c.input n) [ true ↦ v | false ↦ value_at n cs vs ]

-- the values of the k inputs from n on, in the design's order
abbrev pub values_from : ℕ → ℕ → List Column → List (List Bit4) → List (List Bit4)
values_from n zero cs vs = []
values_from n (suc k) cs vs = value_at n cs vs ∷ values_from (n + 1) k cs vs

-- values in the design's order, where they stood in the order of the columns
abbrev pub arranged : List Column → Option (List (List Bit4)) → Option (List (List Bit4))
arranged cs None = None
arranged cs (Some vs) = Some (values_from 0 (length cs) cs vs)

-- the one field `-`
abbrev pub is_dash : List (List ℕ) → Bool
is_dash [] = false
is_dash (f ∷ []) = bytes_eq f (codes "-")
is_dash (f ∷ g ∷ fs) = false

-- The vector of a line, by its fields, in the design's order of inputs; none where they are no vector. With no
-- inputs it is the one field `-`.
abbrev pub vector : List Column → List (List ℕ) → Option (List (List Bit4))
vector [] fs = elim (is_dash fs) [ true ↦ Some [] | false ↦ None ]
vector (c ∷ cs) fs = arranged (c ∷ cs) (values (c ∷ cs) fs)

-- ---- what outputs are wanted to have

-- a digit, or `-`, which stands for any bit
abbrev pub wanted_digit : ℕ → Option Digit
wanted_digit b = elim (nat_eq b 45) [ true ↦ Some Any | false ↦ elim (digit b) [ None ↦ None | Some d ↦ Some (Exactly d) ] ]

-- the digits that an output is wanted to have, least significant first
abbrev pub wanted_of : List ℕ → Option (List Digit)
wanted_of bs = digits_by wanted_digit bs

-- the digits of a field of an expected output: as many as it has bits
abbrev pub wanted : Expected → List ℕ → Option (List Digit)
wanted e f = elim (nat_eq (length f) e.length) [ true ↦ wanted_of f | false ↦ None ]

abbrev pub with_wanted : List Digit → Option (List (List Digit)) → Option (List (List Digit))
with_wanted w None = None
with_wanted w (Some ws) = Some (w ∷ ws)

-- the digits of the fields, one for each expected output
abbrev pub all_wanted : List Expected → List (List ℕ) → Option (List (List Digit))
all_wanted [] [] = Some []
all_wanted [] (f ∷ fs) = None
all_wanted (e ∷ es) [] = None
all_wanted (e ∷ es) (f ∷ fs) = elim (wanted e f) [ None ↦ None | Some w ↦ with_wanted w (all_wanted es fs) ]

-- what fields behind those of inputs want: where outputs are expected, `->` and then a field for each; else there are none
abbrev pub wants : List Expected → List (List ℕ) → Option (List (List Digit))
wants [] [] = Some []
wants [] (f ∷ fs) = None
wants (e ∷ es) [] = None
wants (e ∷ es) (f ∷ fs) = elim (is_arrow f) [ true ↦ all_wanted (e ∷ es) fs | false ↦ None ]

-- ---- the whole

-- what a line gives: a value for each input, in the design's order, and what each expected output is wanted to have, in the header's order
pub record Entry : Type 0 where
  pub values : List (List Bit4)
  pub wanted : List (List Digit)

abbrev pub both_parts : Option (List (List Bit4)) → Option (List (List Digit)) → Option Entry
both_parts None ws = None
both_parts (Some vs) None = None
both_parts (Some vs) (Some ws) = Some (record { values = vs; wanted = ws })

-- how many fields inputs have: one each, and the one field `-` where there are none
abbrev pub field_count : List Column → ℕ
field_count [] = 1
field_count (c ∷ cs) = length (c ∷ cs)

-- what a line gives, by its fields; none where they are no vector
abbrev pub entry : ColumnLists → List (List ℕ) → Option Entry
entry cs fs = both_parts (vector cs.inputs (take (field_count cs.inputs) fs)) (wants cs.expected (drop (field_count cs.inputs) fs))

-- ---- known bits

-- no x or z bit
abbrev pub all_known : List Bit4 → Bool
all_known [] = true
all_known (d ∷ ds) = is_known d && all_known ds

abbrev pub vector_known : List (List Bit4) → Bool
vector_known [] = true
vector_known (v ∷ vs) = all_known v && vector_known vs

-- the column is of an input that has to be known in each vector, and isn't in these values, which stand in the design's order
abbrev pub breaks : Column → List (List Bit4) → Bool
breaks c vs = (c.reset || c.select) && not (all_known (slice_index_or vs c.input []))

-- the column of the one that comes first in the design's order
abbrev pub sooner : Column → Option Column → Column
sooner c None = c
sooner c (Some b) = if nat_lt b.input c.input then b else c

abbrev pub with_broken : Option Column → Column → List (List Bit4) → Option Column
with_broken first c vs = if breaks c vs then Some (sooner c first) else first

-- the first such input in the design's order, of this one and those of the columns
abbrev pub broken_from : Option Column → List Column → List (List Bit4) → Option Column
broken_from first [] vs = first
broken_from first (c ∷ cs) vs = broken_from (with_broken first c vs) cs vs

abbrev pub broken : List Column → List (List Bit4) → Option Column
broken cs vs = broken_from None cs vs
