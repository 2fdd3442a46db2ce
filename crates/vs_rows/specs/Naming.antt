-- The field of a header that is wrong, or what a header lacks.
use Rattle.std.specs.Prelude.{ℕ, suc, ◌+◌, Bool, true, false, ◌==◌, List, [], ◌∷◌, ◌++◌, length, get_or, Option, Some, None, codes, bytes_eq, if◌then◌else◌}
use Rattle.std.specs.List.{before_first, after_first, list_any}
use Rattle.std.specs.Option.{option_or}
use Rattle.vs_stim.specs.declared.input.Input.{Input}
use Rattle.vs_stim.specs.declared.input.Output.{Output}
use Rattle.vs_stim.specs.Header.{PortLists}
use Rattle.vs_rows.specs.Fields.{starts, field_at}
use Rattle.vs_rows.specs.Expected.{arrow_at}
use Rattle.vs_rows.specs.declared.naming.NameFault.{NameFault}
use Rattle.vs_rows.specs.declared.naming.NameFault.TheVariants.{NoTitle, NoInput, NoOutput, Repeated, LacksInput, LacksOutput}

-- What is wrong in a header: the how manieth of its fields it is, from 1, and where it begins in the line; the field, or what lacks there; and why.
pub record BadName : Type 0 where
  pub place : ℕ
  pub at : ℕ
  pub name : List ℕ
  pub fault : NameFault

-- the field `inputs`, with which a header begins
abbrev pub is_title : List ℕ → Bool
is_title field = bytes_eq field (codes "inputs")

-- one of these data inputs has this name
abbrev pub is_input : List Input → (name : List ℕ) → Bool
is_input inputs name = list_any (λ (i : Input). bytes_eq name i.name) inputs

-- one of these outputs does
abbrev pub is_output : List Output → (name : List ℕ) → Bool
is_output outputs name = list_any (λ (o : Output). bytes_eq name o.name) outputs

-- a data input of the design has this name, or where outputs are expected an output of its top
abbrev pub is_port : PortLists → (expected : Bool) → (name : List ℕ) → Bool
is_port ports expected name = if expected then is_output ports.outputs name else is_input ports.inputs name

-- one of the fields that begin at these bytes is this name
abbrev pub is_named : (header starts name : List ℕ) → Bool
is_named header starts name = list_any (λ (at : ℕ). bytes_eq name (field_at header at)) starts

-- no port has the name
abbrev pub no_port : (expected : Bool) → NameFault
no_port true = NoOutput
no_port false = NoInput

-- what is wrong with a name that stands behind these
abbrev pub fault_of : PortLists → (expected : Bool) → (header before name : List ℕ) → Option NameFault
fault_of ports expected header before name =
    if is_port ports expected name then (if is_named header before name then Some Repeated else None) else Some (no_port expected)

-- the field at this byte
abbrev pub bad_at : List ℕ → (place at : ℕ) → NameFault → BadName
bad_at header place at fault = record { place = place; at = at; name = field_at header at; fault = fault }

-- the name at this byte, where this is wrong with it, or what comes of the others
abbrev pub bad_or : List ℕ → (place at : ℕ) → Option NameFault → Option BadName → Option BadName
bad_or header place at None others = others
bad_or header place at (Some fault) others = Some (bad_at header place at fault)

-- The first of these names that is wrong, where these stand before them; the first has this place in the header.
abbrev pub first_bad : PortLists → (expected : Bool) → (header : List ℕ) → (place : ℕ) → (before names : List ℕ) → Option BadName
first_bad ports expected header place before [] = None
first_bad ports expected header place before (n ∷ names) =
    bad_or header place n (fault_of ports expected header before (field_at header n)) (first_bad ports expected header (suc place) (before ++ n ∷ []) names)

-- the first of these data inputs that no field names
abbrev pub unnamed : (header starts : List ℕ) → List Input → Option (List ℕ)
unnamed header starts [] = None
unnamed header starts (i ∷ is) = if is_named header starts i.name then unnamed header starts is else Some i.name

-- what lacks at this byte
abbrev pub lacks_at : (place at : ℕ) → NameFault → Option (List ℕ) → Option BadName
lacks_at place at fault None = None
lacks_at place at fault (Some name) = Some (record { place = place; at = at; name = name; fault = fault })

-- a data input that isn't named, which would stand before `->` or at the line's end
abbrev pub lacking_input : PortLists → (header names : List ℕ) → (count : ℕ) → (inputs : List ℕ) → Option BadName
lacking_input ports header names count inputs = lacks_at (count + 2) (get_or names count (length header)) LacksInput (unnamed header inputs ports.inputs)

-- an output behind the last field, where that is `->`
abbrev pub lacking_output : (header names : List ℕ) → (count : ℕ) → Option BadName
lacking_output header names count = if count + 1 == length names then lacks_at (count + 3) (length header) LacksOutput (Some []) else None

-- what lacks where each field is right: an input, and else an output
abbrev pub lacking : PortLists → (header names inputs : List ℕ) → Option BadName
lacking ports header names inputs = option_or (lacking_input ports header names (length inputs) inputs) (lacking_output header names (length inputs))

-- the first name that is wrong, where these are before `->`
abbrev pub bad_names : PortLists → (header names inputs : List ℕ) → Option BadName
bad_names ports header names inputs =
    option_or (first_bad ports false header 2 [] inputs) (first_bad ports true header (length inputs + 3) [] (after_first (arrow_at header) names))

-- what is wrong with the fields behind `inputs`, of which these are before `->`
abbrev pub bad_among : PortLists → (header names inputs : List ℕ) → Option BadName
bad_among ports header names inputs = option_or (bad_names ports header names inputs) (lacking ports header names inputs)

-- what is wrong with the fields of a header, which begin at these bytes
abbrev pub bad_fields : PortLists → (header starts : List ℕ) → Option BadName
bad_fields ports header [] = Some (bad_at header 1 (length header) NoTitle)
bad_fields ports header (n ∷ names) =
    if is_title (field_at header n) then bad_among ports header names (before_first (arrow_at header) names) else Some (bad_at header 1 n NoTitle)

-- The first field of a line that keeps it from being a header for these ports; where each is right, a data input that no field names, and else an output where `->` is the
-- last field.
abbrev pub bad_name : PortLists → (header : List ℕ) → Option BadName
bad_name ports header = bad_fields ports header (starts header)
