-- What a line is that ends here.
use Rattle.std.proofs.Common.{◌≡◌, ◌<◌, Bool, List, [], ◌∷◌, length, drop, refl, sym, ap, ◌∙◌, subst, arith, ◌⊎◌, inl, inr}
use Rattle.std.proofs.lemmas.List.{length-drop, drop_all}
use Rattle.vs_stim.specs.declared.input.Column.{Column}
use Rattle.vs_stim.specs.declared.row.Spot.{Spot}
use Rattle.vs_stim.specs.declared.row.Spot.TheVariants.{Start, Comment, Gap, Dash, Behind, Bad}
use Rattle.vs_stim.specs.declared.row.LineKind.{LineKind}
use Rattle.vs_stim.specs.declared.row.Row.{Row}
use Rattle.vs_stim.specs.declared.wants.Part.{Part}
use Rattle.vs_stim.specs.declared.wants.Wants.{Wants}
use Rattle.vs_stim.specs.Reading.Said.{Malformed}
use Rattle.vs_stim.specs.Wants.{at_part, wants_with, wants_said, AreUnbegun, IsClosed, if_whole}
use Rattle.vs_stim.specs.Row.{with_values, to_come, at_spot, row_with, as_said, entry_in, IsOutside}

-- nothing was read behind the inputs' fields
pub unbegun_closed : (w : Wants) → AreUnbegun w → IsClosed w.part
unbegun_closed w h = subst IsClosed (sym h.part) tt

pub unbegun_said : (w : Wants) → AreUnbegun w → wants_with w [] ≡ wants_said w []
unbegun_said w h = ap (λ (p : Part). at_part p w.expected.items w.column w.digits w.values.items []) h.part

-- what is known of a line, if it is whole
pub record IsWhole (row : Row) (kind : LineKind) (whole : Bool) : Type 0 where
  pub kind_says : as_said kind (entry_in row) ≡ with_values row.values.items (if_whole whole row.wants.values.items)
  pub whole_says : IsClosed row.wants.part → if_whole whole row.wants.values.items ≡ wants_with row.wants []

said_at : (row : Row) (s : Spot) → row.spot ≡ s
    → at_spot s (wants_said row.wants) (wants_with row.wants) row.columns.items (drop row.column row.columns.items) row.digits row.values.items [] ≡ row_with row []
said_at row s e =
    ap (λ (x : Spot). at_spot x (wants_said row.wants) (wants_with row.wants) row.columns.items (drop row.column row.columns.items) row.digits row.values.items []) (sym e)

pub kind_behind : (row : Row) (kind : LineKind) (whole : Bool) → IsWhole row kind whole → row.spot ≡ Behind → IsClosed row.wants.part → as_said kind (entry_in row) ≡ row_with row []
kind_behind row kind whole h e closed = h.kind_says ∙ ap (with_values row.values.items) (h.whole_says closed) ∙ said_at row Behind e

pub kind_dash : (row : Row) (kind : LineKind) (whole : Bool) → IsWhole row kind whole → row.spot ≡ Dash → AreUnbegun row.wants → as_said kind (entry_in row) ≡ row_with row []
kind_dash row kind whole h e u =
    h.kind_says ∙ ap (with_values row.values.items) (h.whole_says (unbegun_closed row.wants u) ∙ unbegun_said row.wants u) ∙ said_at row Dash e

pub kind_gap : (row : Row) (kind : LineKind) (whole : Bool) → IsWhole row kind whole → row.spot ≡ Gap → row.column ≡ length row.columns.items → AreUnbegun row.wants → as_said kind (entry_in row) ≡ row_with row []
kind_gap row kind whole h e n u =
    h.kind_says
    ∙ ap (with_values row.values.items) (h.whole_says (unbegun_closed row.wants u) ∙ unbegun_said row.wants u)
    ∙ ap (λ (cs : List Column). to_come (wants_said row.wants) cs row.values.items []) (sym (drop_all row.column row.columns.items (omega (arith, n))))
    ∙ said_at row Gap e

-- no vector ends before its last field
pub kind_open : (row : Row) → row.spot ≡ Gap → row.column < length row.columns.items → Malformed ≡ row_with row []
kind_open row e n = still (drop row.column row.columns.items) (let l = length-drop row.column row.columns.items in omega (arith, l, n)) ∙ said_at row Gap e
  where
    still : (cs : List Column) → 0 < length cs → Malformed ≡ to_come (wants_said row.wants) cs row.values.items []
    still [] h = absurd (omega (arith, h))
    still (c ∷ cs) h = refl

-- no field is open
pub outside_of : (s : Spot) (p : Part) → (s ≡ Start) ⊎ ((s ≡ Comment) ⊎ ((s ≡ Gap) ⊎ ((s ≡ Dash) ⊎ (s ≡ Bad)))) → IsOutside s p
outside_of s p (inl e) = subst (λ (x : Spot). IsOutside x p) (sym e) tt
outside_of s p (inr (inl e)) = subst (λ (x : Spot). IsOutside x p) (sym e) tt
outside_of s p (inr (inr (inl e))) = subst (λ (x : Spot). IsOutside x p) (sym e) tt
outside_of s p (inr (inr (inr (inl e)))) = subst (λ (x : Spot). IsOutside x p) (sym e) tt
outside_of s p (inr (inr (inr (inr e)))) = subst (λ (x : Spot). IsOutside x p) (sym e) tt
