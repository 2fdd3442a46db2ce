-- The fields of a line of a stimulus, and the first of a vector's that isn't as the header wants it.
use Rattle.std.specs.Prelude.{ℕ, suc, ◌-◌, Bool, true, false, not, ◌&&◌, ◌||◌, ◌==◌, List, [], ◌∷◌, length, drop, get_or, filter, Option, Some, None, codes, bytes_eq, if◌then◌else◌}
use Rattle.std.specs.List.{range_with_len, before_first, list_all}
use Rattle.std.specs.Option.{option_map_or}
use Rattle.vs_names.specs.Drawn.{Drawn, port_bits}
use Rattle.vs_rows.specs.Rows.{is_blank}

-- a field begins at this byte of a line: it is no blank, and the first one or behind a blank
abbrev pub field_begins : List ℕ → ℕ → Bool
field_begins line at = not (is_blank (get_or line at 0)) && (at == 0 || is_blank (get_or line (at - 1) 0))

-- the bytes at which the fields of a line begin
abbrev pub starts : List ℕ → List ℕ
starts line = filter (field_begins line) (range_with_len 0 (length line))

-- the field that begins at a byte
abbrev pub field_at : List ℕ → ℕ → List ℕ
field_at line at = before_first is_blank (drop at line)

-- a field of a vector that isn't as it is to be: the how manieth of the line's it is, from 1, and where it begins in the line; what the header has in
-- its place, nothing where it has no more; and how many bytes it has, 0 where there is none
pub record Wrong : Type 0 where
  pub place : ℕ
  pub at : ℕ
  pub name : List ℕ
  pub size : ℕ

-- the field at this byte, where the header has this in its place
abbrev pub wrong_at : List ℕ → ℕ → List ℕ → ℕ → Wrong
wrong_at line place name at = record { place = place; at = at; name = name; size = length (field_at line at) }

-- a field behind the last one of the line
abbrev pub missing : List ℕ → ℕ → List ℕ → Wrong
missing line place name = record { place = place; at = length line; name = name; size = 0 }

-- `->`, before expected outputs, and `-`, where there are no inputs
abbrev pub is_arrow : List ℕ → Bool
is_arrow field = bytes_eq field (codes "->")

abbrev pub is_dash : List ℕ → Bool
is_dash field = bytes_eq field (codes "-")

abbrev pub is_mark : List ℕ → Bool
is_mark field = is_arrow field || is_dash field

-- a digit of an input, or of an output that is expected
abbrev pub is_digit : (expected : Bool) → ℕ → Bool
is_digit expected b = b == 48 || (b == 49 || (b == 120 || (b == 88 || (b == 122 || (b == 90 || (expected && b == 45))))))

-- as many bytes as the port has bits; of a name that is no port's nothing is known
abbrev pub fits_port : Option Drawn → (name field : List ℕ) → Bool
fits_port drawn name field = option_map_or (λ (n : ℕ). length field == n) (port_bits drawn name) true

abbrev pub fits : Option Drawn → (expected : Bool) → (name field : List ℕ) → Bool
fits drawn expected name field = if is_arrow name then is_arrow field else (fits_port drawn name field && list_all (is_digit expected) field)

-- The first wrong one of these fields, by the names at the same places; the first has this place. `expected` says whether `->` stands before.
abbrev pub first_wrong : Option Drawn → (header line : List ℕ) → (place : ℕ) → (expected : Bool) → (names fields : List ℕ) → Option Wrong
first_wrong drawn header line place expected [] [] = None
first_wrong drawn header line place expected [] (at ∷ fields) = Some (wrong_at line place [] at)
first_wrong drawn header line place expected (n ∷ names) [] = Some (missing line place (field_at header n))
first_wrong drawn header line place expected (n ∷ names) (at ∷ fields) =
    if fits drawn expected (field_at header n) (field_at line at) then first_wrong drawn header line (suc place) (expected || is_arrow (field_at header n)) names fields
    else Some (wrong_at line place (field_at header n) at)

-- the same behind the field `-`
abbrev pub wrong_dashed : Option Drawn → (header line : List ℕ) → (names fields : List ℕ) → Option Wrong
wrong_dashed drawn header line names [] = Some (missing line 1 (codes "-"))
wrong_dashed drawn header line names (at ∷ fields) =
    if is_dash (field_at line at) then first_wrong drawn header line 2 false names fields else Some (wrong_at line 1 (codes "-") at)

-- there is the name of an input
abbrev pub names_input : List ℕ → (names : List ℕ) → Bool
names_input header [] = false
names_input header (n ∷ names) = not (is_arrow (field_at header n))

-- the first field of a line that isn't as the header wants it, whose first field is `inputs`; without inputs the line has the field `-` in their place
abbrev pub wrong_field : Option Drawn → (header line : List ℕ) → Option Wrong
wrong_field drawn header line =
    if names_input header (drop 1 (starts header)) then first_wrong drawn header line 1 false (drop 1 (starts header)) (starts line)
    else wrong_dashed drawn header line (drop 1 (starts header)) (starts line)
