-- The field of a vector that leaves a reset input or a select input unknown.
use Rattle.std.specs.Prelude.{ℕ, suc, Bool, ◌&&◌, List, [], ◌∷◌, drop, Option, Some, None, bytes_eq, if◌then◌else◌}
use Rattle.std.specs.List.{before_first, list_any}
use Rattle.vs_stim.specs.declared.input.Input.{Input}
use Rattle.vs_rows.specs.declared.controls.Control.{Control}
use Rattle.vs_rows.specs.declared.controls.Control.TheVariants.{Reset, Select}
use Rattle.vs_rows.specs.Rows.{is_unknown}
use Rattle.vs_rows.specs.Fields.{Wrong, wrong_at, starts, field_at}
use Rattle.vs_rows.specs.Expected.{arrow_at}

-- the bytes of a header at which the names of inputs begin: its fields behind the first one, up to `->`
abbrev pub input_starts : List ℕ → List ℕ
input_starts header = before_first (arrow_at header) (drop 1 (starts header))

-- the input is one whose digits have to be known in every vector
abbrev pub is_one : Control → Input → Bool
is_one Reset i = i.reset
is_one Select i = i.select

-- such an input has this name
abbrev pub is_control : Control → List Input → (name : List ℕ) → Bool
is_control control inputs name = list_any (λ (i : Input). is_one control i && bytes_eq name i.name) inputs

-- there is a digit x or z
abbrev pub has_unknown : (field : List ℕ) → Bool
has_unknown field = list_any is_unknown field

-- The first of these fields that has a digit x or z where the name at the same place is that of such an input; the first field has this place in its line.
abbrev pub first_control : Control → List Input → (header line : List ℕ) → (place : ℕ) → (names fields : List ℕ) → Option Wrong
first_control control inputs header line place [] fields = None
first_control control inputs header line place (n ∷ names) [] = None
first_control control inputs header line place (n ∷ names) (at ∷ fields) =
    if is_control control inputs (field_at header n) && has_unknown (field_at line at) then Some (wrong_at line place (field_at header n) at)
    else first_control control inputs header line (suc place) names fields

-- the first field of a line whose name in the header is that of such an input, and that has a digit x or z
abbrev pub wrong_control : Control → List Input → (header line : List ℕ) → Option Wrong
wrong_control control inputs header line = first_control control inputs header line 1 (input_starts header) (starts line)
