-- The line of a run that wasn't refused.
use Rattle.std.specs.Prelude.{ℕ, ◌≤◌, List, [], ◌∷◌, ◌++◌, length, codes}
use Rattle.std.proofs.Common.{lit≤}
use Rattle.std.specs.List.{flat_map}
use Rattle.vs_refusal.specs.declared.ending.Ending.{Ending}
use Rattle.vs_refusal.specs.declared.ending.Ending.TheVariants.{Done, Checked, Ordered, ReadFault, WriteFault, Memory}
use Rattle.vs_refusal.specs.declared.refusal.Field.{Field}
use Rattle.vs_refusal.specs.declared.refusal.Label.TheVariants as label
use Rattle.vs_refusal.specs.Refusals.{field, field_text}

abbrev pub ending_text : Ending → List ℕ
ending_text (Done lanes vectors settlings size) = codes "ok"
ending_text (Checked lanes vectors settlings size missed) = codes "ok"
ending_text (Ordered vectors slots order) = codes "ok"
ending_text (ReadFault place) = codes "refused 4 ReadFault"
ending_text (WriteFault place) = codes "refused 5 WriteFault"
ending_text Memory = codes "refused 6 Memory"

abbrev pub ending_fields : Ending → List Field
ending_fields (Done lanes vectors settlings size) = field label.Lanes lanes ∷ field label.Vectors vectors ∷ field label.Settlings settlings ∷ field label.Size size ∷ []
ending_fields (Checked lanes vectors settlings size missed) = field label.Lanes lanes ∷ field label.Vectors vectors ∷ field label.Settlings settlings ∷ field label.Size size ∷ field label.Missed missed ∷ []
ending_fields (Ordered vectors slots order) = field label.Vectors vectors ∷ field label.Slots slots ∷ field label.Order order ∷ []
ending_fields (ReadFault place) = field label.Place place ∷ []
ending_fields (WriteFault place) = field label.Place place ∷ []
ending_fields Memory = []

-- there are few
pub few_ending_fields : (e : Ending) → length (ending_fields e) ≤ 5
few_ending_fields (Done lanes vectors settlings size) = lit≤ tt
few_ending_fields (Checked lanes vectors settlings size missed) = lit≤ tt
few_ending_fields (Ordered vectors slots order) = lit≤ tt
few_ending_fields (ReadFault place) = lit≤ tt
few_ending_fields (WriteFault place) = lit≤ tt
few_ending_fields Memory = lit≤ tt

-- `ok lanes=1 vectors=2 settlings=4 size=5`, and behind it ` missed=1` of a check, or `ok vectors=2 slots=4 order=7` of a run of the queue, with the end of the line
abbrev pub ending_line : Ending → List ℕ
ending_line e = ending_text e ++ (flat_map field_text (ending_fields e) ++ codes "\n")
