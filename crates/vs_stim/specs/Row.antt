-- What a line behind the header says, where some of it was read already.
use Rattle.std.specs.Prelude.{◌≡◌, ℕ, ◌+◌, ◌<◌, ◌≤◌, Bool, true, false, ◌&&◌, List, [], ◌∷◌, ◌++◌, length, take, drop, nat_eq, Some, None, codes, bytes_eq, slice_set, slice_index, map, All}
use Rattle.vs_four.specs.declared.Bit4.{Bit4}
use Rattle.vs_stim.specs.declared.input.Column.{Column}
use Rattle.vs_stim.specs.declared.row.Spot.{Spot}
use Rattle.vs_stim.specs.declared.row.Spot.TheVariants.{Start, Comment, Gap, Field, Dash, Behind, Bad}
use Rattle.vs_stim.specs.declared.row.LineKind.{LineKind}
use Rattle.vs_stim.specs.declared.row.LineKind.TheVariants as kind
use Rattle.vs_stim.specs.declared.row.Row.{Row}
use Rattle.vs_stim.specs.declared.wants.Part.{Part}
use Rattle.vs_stim.specs.declared.wants.Wants.{Wants}
use Rattle.vs_stim.specs.Fields.{Fields, is_skipped, words, fields}
use Rattle.vs_stim.specs.Header.{ColumnLists, each_once}
use Rattle.vs_stim.specs.Vectors.{Entry, bits_of, value}
use Rattle.vs_stim.specs.Reading.{Said}
use Rattle.vs_stim.specs.Reading.Said.{Skipped, Malformed, Given}
use Rattle.vs_stim.specs.Wanted.{Wanteds, wanted_sizes}
use Rattle.vs_stim.specs.Wants.{wants_with, wants_said, AreWants, AreUnbegun, IsClosed}

abbrev pub Values : Type 0
Values = List (List Bit4)

-- what fields behind those of the inputs say
abbrev pub Tail : Type 0
Tail = List (List ℕ) → Said Wanteds

-- what a line gives, by what it wants of outputs
abbrev pub with_values : Values → Said Wanteds → Said Entry
with_values vs Skipped = Malformed
with_values vs Malformed = Malformed
with_values vs (Given ws) = Given (record { values = vs; wanted = ws })

-- the fields of these columns are still to come; their values are written over the stored ones
abbrev pub to_come : Tail → List Column → Values → List (List ℕ) → Said Entry
to_come tail [] stored fs = with_values stored (tail fs)
to_come tail (c ∷ cs) stored [] = Malformed
to_come tail (c ∷ cs) stored (f ∷ fs) = elim (value c f) [ None ↦ Malformed | Some v ↦ to_come tail cs (slice_set stored c.input v) fs ]

-- a field of this column has begun, and these are the bits of its digits so far
abbrev pub in_field : Tail → Column → List Bit4 → List Column → Values → Fields → Said Entry
in_field tail c high left stored t =
    elim (nat_eq (length t.word + length high) c.length) [
      | false ↦ Malformed
      | true ↦ elim (bits_of t.word) [ None ↦ Malformed | Some ds ↦ to_come tail left (slice_set stored c.input (ds ++ high)) t.later ]
    ]

-- nothing of the line counted yet
abbrev pub from_start : Tail → List Column → Values → List (List ℕ) → Said Entry
from_start tail [] stored [] = Malformed
from_start tail [] stored (f ∷ fs) = elim (bytes_eq f (codes "-")) [ true ↦ to_come tail [] stored fs | false ↦ Malformed ]
from_start tail (c ∷ cs) stored fs = to_come tail (c ∷ cs) stored fs

-- the field `-` was read so far
abbrev pub in_dash : Tail → Values → Fields → Said Entry
in_dash tail stored t = elim t.word [ [] ↦ to_come tail [] stored t.later | b ∷ bs ↦ Malformed ]

-- `behind` is what is said where the fields of the inputs were passed
abbrev pub at_spot : Spot → Tail → (List ℕ → Said Wanteds) → List Column → List Column → List Bit4 → Values → List ℕ → Said Entry
at_spot Start tail behind all left high stored rest = elim (is_skipped rest) [ true ↦ Skipped | false ↦ from_start tail all stored (fields rest) ]
at_spot Comment tail behind all left high stored rest = Skipped
at_spot Gap tail behind all left high stored rest = to_come tail left stored (fields rest)
at_spot (Field c) tail behind all left high stored rest = in_field tail c high left stored (words rest)
at_spot Dash tail behind all left high stored rest = in_dash tail stored (words rest)
at_spot Behind tail behind all left high stored rest = with_values stored (behind rest)
at_spot Bad tail behind all left high stored rest = Malformed

-- what the line says if it goes on with this
abbrev pub row_with : Row → List ℕ → Said Entry
row_with row rest = at_spot row.spot (wants_said row.wants) (wants_with row.wants) row.columns.items (drop row.column row.columns.items) row.digits row.values.items rest

-- what the row has read of the line
abbrev pub entry_in : Row → Entry
entry_in row = record { values = row.values.items; wanted = row.wants.values.items }

-- its columns
abbrev pub columns_in : Row → ColumnLists
columns_in row = record { inputs = row.columns.items; expected = row.wants.expected.items }

-- what a finished line says, where this is what it gives
abbrev pub as_said : {A : Type 0} → LineKind → A → Said A
as_said kind.Skipped vs = Skipped
as_said kind.Malformed vs = Malformed
as_said kind.Given vs = Given vs

-- the lengths of values
abbrev pub sizes : Values → List ℕ
sizes vs = map (λ v. length v) vs

-- the column's input is one of those that have these lengths; it has 1 to 64 bits
pub record IsColumn (lengths : List ℕ) (c : Column) : Type 0 where
  pub known : c.input < length lengths
  pub size : slice_index lengths c.input ≡ c.length
  pub some : 1 ≤ c.length
  pub at_most_64 : c.length ≤ 64

-- what is kept at each spot
abbrev pub IsSpot : Spot → List ℕ → List Bit4 → ℕ → Type 0
IsSpot Start lengths high column = column ≡ 0
IsSpot (Field c) lengths high column = IsColumn lengths c × (length high ≤ c.length)
IsSpot Comment lengths high column = Unit {0}
IsSpot Gap lengths high column = Unit {0}
IsSpot Dash lengths high column = Unit {0}
IsSpot Behind lengths high column = Unit {0}
IsSpot Bad lengths high column = Unit {0}

-- nothing is read of what is behind the inputs' fields before them
abbrev pub AreBehind : Spot → Wants → Type 0
AreBehind Start w = AreUnbegun w
AreBehind (Field c) w = AreUnbegun w
AreBehind Comment w = AreUnbegun w
AreBehind Gap w = AreUnbegun w
AreBehind Dash w = AreUnbegun w
AreBehind Behind w = Unit {0}
AreBehind Bad w = AreUnbegun w

-- there are no columns where the line is the field `-`
abbrev pub HasDash : Spot → List Column → Type 0
HasDash Dash columns = columns ≡ []
HasDash _ columns = Unit {0}

-- what is kept while a line is read
pub record IsRow (row : Row) : Type 0 where
  pub each : All (IsColumn (sizes row.values.items)) row.columns.items
  pub within : row.column ≤ length row.columns.items
  pub at : IsSpot row.spot (sizes row.values.items) row.digits row.column
  pub dash : HasDash row.spot row.columns.items
  pub wants : AreWants row.wants
  pub behind : AreBehind row.spot row.wants

-- So many of these bytes are digits, and their bits stand below those before them.
pub record ReadsOn (bytes : List ℕ) (count : ℕ) (high all : List Bit4) : Type 0 where
  pub bits : List Bit4
  pub are : bits_of (take count bytes) ≡ Some bits
  pub below : all ≡ bits ++ high

-- the columns stay, and the lengths of the values
pub record SameForm (old new : Row) : Type 0 where
  pub columns : new.columns ≡ old.columns
  pub expected : new.wants.expected ≡ old.wants.expected
  pub lengths : sizes new.values.items ≡ sizes old.values.items
  pub wanted : wanted_sizes new.wants.values.items ≡ wanted_sizes old.wants.values.items

-- no field is open
abbrev pub IsOutside : Spot → Part → Type 0
IsOutside Start part = Unit {0}
IsOutside Comment part = Unit {0}
IsOutside Gap part = Unit {0}
IsOutside (Field c) part = ⊥
IsOutside Dash part = Unit {0}
IsOutside Behind part = IsClosed part
IsOutside Bad part = Unit {0}

-- each input has one column, and one value
abbrev pub each_input : Row → Bool
each_input row = nat_eq (length (sizes row.values.items)) (length row.columns.items) && each_once (length row.columns.items) row.columns.items
