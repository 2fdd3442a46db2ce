-- The line of each refusal: its number, its name and its fields in order.
use Rattle.std.specs.Prelude.{ℕ, ◌≤◌, List, [], ◌∷◌, ◌++◌, length, codes, decimal}
use Rattle.std.proofs.Common.{lit≤}
use Rattle.std.specs.List.{flat_map}
use Rattle.vs_refusal.specs.declared.refusal.Refusal.{Refusal}
use Rattle.vs_refusal.specs.declared.refusal.Refusal.TheVariants.{Bare, SamePath, At, TooLarge, Latch, Sensitivity, TwoDrivers, Process, Cycle, Race, Lane, Line}
use Rattle.vs_refusal.specs.declared.refusal.Field.{Field}
use Rattle.vs_refusal.specs.declared.refusal.Label.{Label}
use Rattle.vs_refusal.specs.declared.refusal.Label.TheVariants as label
use Rattle.vs_refusal.specs.Names.{bare_number, bare_text, at_number, at_text, process_number, process_text, lane_number, lane_text, line_number, line_text}

abbrev pub number : Refusal → ℕ
number (Bare kind) = bare_number kind
number (SamePath first second) = 2
number (At kind at) = at_number kind
number (TooLarge size) = 52
number (Latch process bit at) = 53
number (Sensitivity process signal at) = 55
number (TwoDrivers bit first second at) = 60
number (Process kind process at) = process_number kind
number (Cycle processes at) = 64
number (Race process bit at) = 67
number (Lane kind lane) = lane_number kind
number (Line kind lane row) = line_number kind

abbrev pub name : Refusal → List ℕ
name (Bare kind) = bare_text kind
name (SamePath first second) = codes "SamePath"
name (At kind at) = at_text kind
name (TooLarge size) = codes "TooLarge"
name (Latch process bit at) = codes "Latch"
name (Sensitivity process signal at) = codes "Sensitivity"
name (TwoDrivers bit first second at) = codes "TwoDrivers"
name (Process kind process at) = process_text kind
name (Cycle processes at) = codes "Cycle"
name (Race process bit at) = codes "Race"
name (Lane kind lane) = lane_text kind
name (Line kind lane row) = line_text kind

abbrev pub label_text : Label → List ℕ
label_text label.At = codes " at="
label_text label.Size = codes " size="
label_text label.Process = codes " process="
label_text label.Bit = codes " bit="
label_text label.Signal = codes " signal="
label_text label.First = codes " first="
label_text label.Second = codes " second="
label_text label.Lane = codes " lane="
label_text label.Line = codes " line="
label_text label.Lanes = codes " lanes="
label_text label.Vectors = codes " vectors="
label_text label.Settlings = codes " settlings="
label_text label.Place = codes " place="
label_text label.Missed = codes " missed="
label_text label.Output = codes " output="
label_text label.Slots = codes " slots="
label_text label.Order = codes " order="

abbrev pub field : Label → ℕ → Field
field what value = record { label = what; value = value }

-- the fields that have one number, in order
abbrev pub fields : Refusal → List Field
fields (Bare kind) = []
fields (SamePath first second) = field label.First first ∷ field label.Second second ∷ []
fields (At kind at) = field label.At at ∷ []
fields (TooLarge size) = field label.Size size ∷ []
fields (Latch process bit at) = field label.Process process ∷ field label.Bit bit ∷ field label.At at ∷ []
fields (Sensitivity process signal at) = field label.Process process ∷ field label.Signal signal ∷ field label.At at ∷ []
fields (TwoDrivers bit first second at) = field label.Bit bit ∷ field label.First first ∷ field label.Second second ∷ field label.At at ∷ []
fields (Process kind process at) = field label.Process process ∷ field label.At at ∷ []
fields (Cycle processes at) = field label.At at ∷ []
fields (Race process bit at) = field label.Process process ∷ field label.Bit bit ∷ field label.At at ∷ []
fields (Lane kind lane) = field label.Lane lane ∷ []
fields (Line kind lane row) = field label.Lane lane ∷ field label.Line row ∷ []

-- there are few
pub few_fields : (r : Refusal) → length (fields r) ≤ 5
few_fields (Bare kind) = lit≤ tt
few_fields (SamePath first second) = lit≤ tt
few_fields (At kind at) = lit≤ tt
few_fields (TooLarge size) = lit≤ tt
few_fields (Latch process bit at) = lit≤ tt
few_fields (Sensitivity process signal at) = lit≤ tt
few_fields (TwoDrivers bit first second at) = lit≤ tt
few_fields (Process kind process at) = lit≤ tt
few_fields (Cycle processes at) = lit≤ tt
few_fields (Race process bit at) = lit≤ tt
few_fields (Lane kind lane) = lit≤ tt
few_fields (Line kind lane row) = lit≤ tt

abbrev pub field_text : Field → List ℕ
field_text f = label_text f.label ++ decimal f.value

-- numbers with commas between them
abbrev pub next_number : ℕ → List ℕ
next_number n = codes "," ++ decimal n

abbrev pub more_numbers : List ℕ → List ℕ
more_numbers ns = flat_map next_number ns

abbrev pub numbers_text : List ℕ → List ℕ
numbers_text [] = []
numbers_text (n ∷ ns) = decimal n ++ more_numbers ns

-- the list of processes stands before the other fields
abbrev pub list_text : Refusal → List ℕ
list_text (Cycle processes at) = codes " processes=" ++ numbers_text processes
list_text _ = []

abbrev pub head_text : Refusal → List ℕ
head_text r = codes "refused " ++ (decimal (number r) ++ (codes " " ++ name r))

-- `refused 53 Latch process=0 bit=2 at=46`, with the end of the line
abbrev pub line : Refusal → List ℕ
line r = head_text r ++ (list_text r ++ (flat_map field_text (fields r) ++ codes "\n"))
