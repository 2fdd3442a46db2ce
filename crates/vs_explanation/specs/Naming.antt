-- The notes on a header of a stimulus that is wrong, and on a reset input or a select input that a vector leaves unknown.
use Rattle.std.specs.Prelude.{ℕ, List, ◌++◌, Option, Some, None, codes, decimal}
use Rattle.vs_excerpt.specs.Escapes.{escaped}
use Rattle.vs_stim.specs.Header.{PortLists}
use Rattle.vs_rows.specs.declared.naming.NameFault.{NameFault}
use Rattle.vs_rows.specs.declared.naming.NameFault.TheVariants.{NoTitle, NoInput, NoOutput, Repeated, LacksInput, LacksOutput}
use Rattle.vs_rows.specs.declared.controls.Control.{Control}
use Rattle.vs_rows.specs.declared.controls.Control.TheVariants.{Reset, Select}
use Rattle.vs_rows.specs.Fields.{Wrong}
use Rattle.vs_rows.specs.Naming.{BadName}

-- which field it is, and what is said of it
abbrev pub field_note : (place : ℕ) → (name why : List ℕ) → List ℕ
field_note place name why = codes "note: field " ++ (decimal place ++ (codes ", " ++ (escaped name ++ why)))

-- a data input that no field names
abbrev pub lacking_note : (name : List ℕ) → List ℕ
lacking_note name = codes "note: no field names the data input " ++ (escaped name ++ codes "\n")

-- what is wrong with the field of this place, or what is missing there
abbrev pub fault_note : NameFault → (place : ℕ) → (name : List ℕ) → List ℕ
fault_note NoTitle place name = codes "note: field 1 has to be inputs\n"
fault_note NoInput place name = field_note place name (codes ", is no data input\n")
fault_note NoOutput place name = field_note place name (codes ", is no output\n")
fault_note Repeated place name = field_note place name (codes ", stands there before\n")
fault_note LacksInput place name = lacking_note name
fault_note LacksOutput place name = codes "note: no field behind -> names an output\n"

abbrev pub bad_note : BadName → List ℕ
bad_note b = fault_note b.fault b.place b.name

-- what is said of the field of an input that isn't known
abbrev pub control_words : Control → List ℕ
control_words Reset = codes ", is a reset input and has a digit x or z\n"
control_words Select = codes ", is a select input and has a digit x or z\n"

abbrev pub control_note : Control → Wrong → List ℕ
control_note control w = field_note w.place w.name (control_words control)

-- Nothing is wrong by the ports of the design: the files aren't as they were, or the design is refused, so that it has no ports that stimuli name.
abbrev pub right_note : Option PortLists → List ℕ
right_note None = codes "note: the design can't be accepted again, so names aren't compared\n"
right_note (Some ports) = codes "note: the files have changed: no field of the line is wrong\n"
