-- What a line says behind the fields of its inputs, where some of it was read already: the field `->`, and what outputs are wanted to have.
use Rattle.std.specs.Prelude.{◌≡◌, ℕ, ◌+◌, ◌<◌, ◌≤◌, ◌&&◌, not, List, [], ◌∷◌, ◌++◌, length, map, drop, nat_eq, Bool, true, false, Some, None, slice_set, slice_index, All}
use Rattle.vs_stim.specs.declared.input.Expected.{Expected}
use Rattle.vs_stim.specs.declared.wanted.Digit.{Digit}
use Rattle.vs_stim.specs.declared.wants.Part.{Part}
use Rattle.vs_stim.specs.declared.wants.Part.TheVariants.{Start, Minus, Arrow, Gap, Field, Bad}
use Rattle.vs_stim.specs.declared.wants.Wants.{Wants}
use Rattle.vs_stim.specs.Fields.{Fields, words, fields}
use Rattle.vs_stim.specs.Header.{is_arrow, is_expected}
use Rattle.vs_stim.specs.Vectors.{wanted_of, wanted}
use Rattle.vs_stim.specs.Wanted.{Wanteds, wanted_sizes}
use Rattle.vs_stim.specs.Reading.{Said}
use Rattle.vs_stim.specs.Reading.Said.{Malformed, Given}

-- the fields of these outputs are still to come; their digits are written over the stored ones, from place n on
abbrev pub wanted_to_come : List Expected → ℕ → Wanteds → List (List ℕ) → Said Wanteds
wanted_to_come [] n stored [] = Given stored
wanted_to_come [] n stored (f ∷ fs) = Malformed
wanted_to_come (e ∷ es) n stored [] = Malformed
wanted_to_come (e ∷ es) n stored (f ∷ fs) = elim (wanted e f) [ None ↦ Malformed | Some w ↦ wanted_to_come es (n + 1) (slice_set stored n w) fs ]

-- the field of the first of these outputs has begun, and these are its digits so far
abbrev pub in_wanted : List Expected → List Digit → ℕ → Wanteds → Fields → Said Wanteds
in_wanted [] high n stored t = Malformed
in_wanted (e ∷ es) high n stored t =
    elim (nat_eq (length t.word + length high) e.length) [
      | false ↦ Malformed
      | true ↦ elim (wanted_of t.word) [ None ↦ Malformed | Some ds ↦ wanted_to_come es (n + 1) (slice_set stored n (ds ++ high)) t.later ]
    ]

-- all fields behind those of the inputs are still to come
abbrev pub wants_to_come : List Expected → Wanteds → List (List ℕ) → Said Wanteds
wants_to_come [] stored [] = Given stored
wants_to_come [] stored (f ∷ fs) = Malformed
wants_to_come (e ∷ es) stored [] = Malformed
wants_to_come (e ∷ es) stored (f ∷ fs) = elim (is_arrow f) [ true ↦ wanted_to_come (e ∷ es) 0 stored fs | false ↦ Malformed ]

abbrev pub at_part : Part → List Expected → ℕ → List Digit → Wanteds → List ℕ → Said Wanteds
at_part Start all n high stored rest = wants_to_come all stored (fields rest)
at_part Minus all n high stored rest = wants_to_come all stored ((45 ∷ (words rest).word) ∷ (words rest).later)
at_part Arrow all n high stored rest = wants_to_come all stored ((45 ∷ 62 ∷ (words rest).word) ∷ (words rest).later)
at_part Gap all n high stored rest = wanted_to_come (drop n all) n stored (fields rest)
at_part Field all n high stored rest = in_wanted (drop n all) high n stored (words rest)
at_part Bad all n high stored rest = Malformed

-- what the line says if it goes on with this
abbrev pub wants_with : Wants → List ℕ → Said Wanteds
wants_with w rest = at_part w.part w.expected.items w.column w.digits w.values.items rest

-- what the line says if these fields are all that is behind those of its inputs
abbrev pub wants_said : Wants → List (List ℕ) → Said Wanteds
wants_said w fs = wants_to_come w.expected.items w.values.items fs

-- the lengths of expected outputs
abbrev pub expected_lengths : List Expected → List ℕ
expected_lengths es = map (λ e. e.length) es

-- an expected output of 1 to 64 bits
pub record IsExpected (e : Expected) : Type 0 where
  pub some : 1 ≤ e.length
  pub at_most_64 : e.length ≤ 64

-- the column's output is one of those that have these lengths
pub record IsExpectedOf (lengths : List ℕ) (e : Expected) : Type 0 where
  pub known : e.output < length lengths
  pub size : slice_index lengths e.output ≡ e.length

-- no two of these columns are of one output
abbrev pub is_each_once : List Expected → Bool
is_each_once [] = true
is_each_once (e ∷ es) = not (is_expected e.output es) && is_each_once es

-- what is kept at each part
abbrev pub IsPart : Part → List Expected → ℕ → List Digit → Type 0
IsPart Start all n high = n ≡ 0
IsPart Minus all n high = n ≡ 0
IsPart Arrow all n high = n ≡ 0
IsPart Gap all n high = n ≤ length all
IsPart Field all n high = (n < length all) × (length high ≤ slice_index (expected_lengths all) n)
IsPart Bad all n high = Unit {0}

-- what is kept while a line is read
pub record AreWants (w : Wants) : Type 0 where
  pub each : All IsExpected w.expected.items
  pub sizes : wanted_sizes w.values.items ≡ expected_lengths w.expected.items
  pub at : IsPart w.part w.expected.items w.column w.digits

-- no byte of it was read
pub record AreUnbegun (w : Wants) : Type 0 where
  pub part : w.part ≡ Start
  pub column : w.column ≡ 0

-- the expected outputs stay, and the lengths of what they are wanted to be
pub record SameWants (old new : Wants) : Type 0 where
  pub expected : new.expected ≡ old.expected
  pub lengths : wanted_sizes new.values.items ≡ wanted_sizes old.values.items

-- what a line wants that ends here, where this is what it wants if it is whole
abbrev pub if_whole : Bool → Wanteds → Said Wanteds
if_whole true ws = Given ws
if_whole false ws = Malformed

-- no field is open
abbrev pub IsClosed : Part → Type 0
IsClosed Start = Unit {0}
IsClosed Minus = Unit {0}
IsClosed Arrow = Unit {0}
IsClosed Gap = Unit {0}
IsClosed Field = ⊥
IsClosed Bad = Unit {0}
