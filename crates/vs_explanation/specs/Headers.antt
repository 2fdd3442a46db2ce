-- The field of a header that is wrong.
use Rattle.std.specs.Prelude.{ℕ, ◌+◌, ◌-◌, Bool, true, false, ◌&&◌, List, [], length, min, Option, Some, None, is_some, option_map, option_and_then, if◌then◌else◌}
use Rattle.std.specs.Option.{option_map_or}
use Rattle.vs_refusal.specs.declared.names.LaneName.TheVariants.{BadHeader}
use Rattle.vs_refusal.specs.declared.refusal.Refusal.{Refusal}
use Rattle.vs_refusal.specs.declared.refusal.Refusal.TheVariants.{Lane}
use Rattle.vs_stim.specs.Header.{PortLists}
use Rattle.vs_rows.specs.Rows.{header_row, row_bytes}
use Rattle.vs_rows.specs.Naming.{BadName, bad_name}
use Rattle.vs_explanation.specs.Naming.{bad_note, right_note}
use Rattle.vs_explanation.specs.Seen.{Seen}

-- the header is refused
abbrev pub refuses_header : Refusal → Bool
refuses_header (Lane BadHeader lane) = true
refuses_header _ = false

-- what keeps the first line of a stimulus that counts from being a header for these ports
abbrev pub bad_under : PortLists → (file : List ℕ) → Option BadName
bad_under ports file = option_and_then (λ (at : ℕ). bad_name ports (row_bytes file at)) (header_row file)

abbrev pub bad_seen : Option PortLists → (file : Option (List ℕ)) → Option BadName
bad_seen None file = None
bad_seen (Some ports) None = None
bad_seen (Some ports) (Some file) = bad_under ports file

-- of a header that is refused, what is wrong in it
abbrev pub bad_of : Refusal → Seen → Option BadName
bad_of r seen = if refuses_header r then bad_seen seen.ports seen.file else None

-- the byte of the header at which it begins; the first where there is none
abbrev pub bad_byte : Option BadName → ℕ
bad_byte bad = option_map_or (λ (b : BadName). b.at) bad 0

-- the byte of the stimulus at which a refused header is told, as far as the file goes
abbrev pub header_in : (file : List ℕ) → Option BadName → Option ℕ
header_in file bad = option_map (λ (row : ℕ). row + min (bad_byte bad) (length file - row)) (header_row file)

abbrev pub header_at : (file : Option (List ℕ)) → Option BadName → Option ℕ
header_at file bad = option_and_then (λ (text : List ℕ). header_in text bad) file

-- what is said of the names of a header, where it is told at this byte
abbrev pub names_text : Refusal → Seen → (at : Option ℕ) → Option BadName → List ℕ
names_text r seen at None = if refuses_header r && is_some at then right_note seen.ports else []
names_text r seen at (Some b) = bad_note b
