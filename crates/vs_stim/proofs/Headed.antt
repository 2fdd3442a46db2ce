-- A line before the vectors, from its start, says what the definition says.
use Rattle.std.proofs.Common.{◌≡◌, ℕ, Bool, true, false, List, [], ◌∷◌, ◌++◌, length, refl, ap, ◌∙◌, append_assoc, append-nil}
use Rattle.std.specs.Prelude.{Option, Some, None, codes, bytes_eq}
use Rattle.vs_stim.specs.declared.input.Column.{Column}
use Rattle.vs_stim.specs.declared.input.Expected.{Expected}
use Rattle.vs_stim.specs.declared.heading.Heading.{Heading}
use Rattle.vs_stim.specs.declared.heading.Stage.TheVariants.{Start}
use Rattle.vs_stim.specs.Fields.{is_skipped, fields}
use Rattle.vs_stim.specs.Header.{PortLists, ColumnLists, column_of, with_column, columns_of, each_once, all_named, expected_of, is_expected, expected_behind, all_expected, is_arrow, Parts, parts, behind_arrow, both_columns, named_columns, header}
use Rattle.vs_stim.specs.Reading.{Said, said, header_line}
use Rattle.vs_stim.specs.Reading.Said.{Skipped, Malformed, Given}
use Rattle.vs_stim.specs.Heading.{outputs_to_come, names_to_come, title_to_come, heading_with, IsUnread}

-- columns in front of others
pub in_front : List Column → Option (List Column) → Option (List Column)
in_front cs None = None
in_front cs (Some ds) = Some (cs ++ ds)

pub front_moved : (c : Column) (cs : List Column) (o : Option (List Column)) → in_front (cs ++ c ∷ []) o ≡ in_front cs (with_column c o)
unfolding in_front
front_moved c cs None = refl
front_moved c cs (Some ds) = ap Some (append_assoc cs (c ∷ []) ds)

-- names of outputs, behind one at least
more_outputs : (ports : PortLists) (cs : List Column) (e : Expected) (es : List Expected) (fs : List (List ℕ))
    → outputs_to_come ports cs (e ∷ es) fs ≡ said (both_columns (Some cs) (expected_behind ports.outputs (e ∷ es) fs))
more_outputs ports cs e es [] = refl
more_outputs ports cs e es (f ∷ fs) = go (expected_of 0 f ports.outputs) (λ x. more_outputs ports cs e (es ++ x ∷ []) fs)
  where
    new : (x : Expected) (b : Bool) → outputs_to_come ports cs (e ∷ (es ++ x ∷ [])) fs ≡ said (both_columns (Some cs) (expected_behind ports.outputs (e ∷ (es ++ x ∷ [])) fs))
        → (elim b as (λ _. Said ColumnLists) [ true ↦ Malformed | false ↦ outputs_to_come ports cs ((e ∷ es) ++ x ∷ []) fs ])
        ≡ said (both_columns (Some cs) (elim b as (λ _. Option (List Expected)) [ true ↦ None | false ↦ expected_behind ports.outputs ((e ∷ es) ++ x ∷ []) fs ]))
    new x true h = refl
    new x false h = h

    go : (o : Option Expected) → ((x : Expected) → outputs_to_come ports cs (e ∷ (es ++ x ∷ [])) fs ≡ said (both_columns (Some cs) (expected_behind ports.outputs (e ∷ (es ++ x ∷ [])) fs)))
        → (elim o as (λ _. Said ColumnLists) [
          | None ↦ Malformed
          | Some x ↦ elim (is_expected x.output (e ∷ es)) as (λ _. Said ColumnLists) [ true ↦ Malformed | false ↦ outputs_to_come ports cs ((e ∷ es) ++ x ∷ []) fs ]
        ])
        ≡ said (both_columns (Some cs) (elim o as (λ _. Option (List Expected)) [
          | None ↦ None
          | Some x ↦ elim (is_expected x.output (e ∷ es)) as (λ _. Option (List Expected)) [ true ↦ None | false ↦ expected_behind ports.outputs ((e ∷ es) ++ x ∷ []) fs ]
        ]))
    go None h = refl
    go (Some x) h = new x (is_expected x.output (e ∷ es)) (h x)

outputs_said : (ports : PortLists) (cs : List Column) (fs : List (List ℕ)) → outputs_to_come ports cs [] fs ≡ said (both_columns (Some cs) (all_expected ports.outputs fs))
outputs_said ports cs [] = refl
outputs_said ports cs (f ∷ fs) = go (expected_of 0 f ports.outputs)
  where
    go : (o : Option Expected)
        → (elim o as (λ _. Said ColumnLists) [ None ↦ Malformed | Some x ↦ outputs_to_come ports cs (x ∷ []) fs ])
        ≡ said (both_columns (Some cs) (elim o as (λ _. Option (List Expected)) [ None ↦ None | Some x ↦ expected_behind ports.outputs (x ∷ []) fs ]))
    go None = refl
    go (Some x) = more_outputs ports cs x [] fs

-- the columns that names call for, behind these
named_behind : PortLists → List Column → Parts → Option ColumnLists
named_behind ports cs p = both_columns (all_named ports.inputs (in_front cs (columns_of ports.inputs p.before))) (behind_arrow ports.outputs p.behind)

names_said : (ports : PortLists) (cs : List Column) (fs : List (List ℕ)) → names_to_come ports cs [] fs ≡ said (named_behind ports cs (parts fs))
unfolding in_front named_behind
names_said ports cs [] = rw (append-nil cs) (go (each_once (length ports.inputs) cs))
  where
    go : (b : Bool) → (elim b as (λ _. Said ColumnLists) [ true ↦ Given (record { inputs = cs; expected = [] }) | false ↦ Malformed ])
        ≡ said (both_columns (elim b as (λ _. Option (List Column)) [ true ↦ Some cs | false ↦ None ]) (Some []))
    go true = refl
    go false = refl
names_said ports cs (f ∷ fs) = go (is_arrow f) (λ c. names_said ports (cs ++ c ∷ []) fs)
  where
    at_arrow : (b : Bool) → (elim b as (λ _. Said ColumnLists) [ true ↦ outputs_to_come ports cs [] fs | false ↦ Malformed ])
        ≡ said (both_columns (elim b as (λ _. Option (List Column)) [ true ↦ Some cs | false ↦ None ]) (all_expected ports.outputs fs))
    at_arrow true = outputs_said ports cs fs
    at_arrow false = refl

    at_name : (o : Option Column) → ((c : Column) → names_to_come ports (cs ++ c ∷ []) [] fs ≡ said (named_behind ports (cs ++ c ∷ []) (parts fs)))
        → (elim o as (λ _. Said ColumnLists) [ None ↦ Malformed | Some c ↦ names_to_come ports (cs ++ c ∷ []) [] fs ])
        ≡ said (both_columns (all_named ports.inputs (in_front cs (elim o as (λ _. Option (List Column)) [ None ↦ None | Some c ↦ with_column c (columns_of ports.inputs (parts fs).before) ]))) (behind_arrow ports.outputs (parts fs).behind))
    at_name None h = refl
    at_name (Some c) h =
        h c ∙ ap (λ o. said (both_columns (all_named ports.inputs o) (behind_arrow ports.outputs (parts fs).behind))) (front_moved c cs (columns_of ports.inputs (parts fs).before))

    go : (b : Bool) → ((c : Column) → names_to_come ports (cs ++ c ∷ []) [] fs ≡ said (named_behind ports (cs ++ c ∷ []) (parts fs)))
        → (elim b as (λ _. Said ColumnLists) [
          | true ↦ elim (each_once (length ports.inputs) cs) as (λ _. Said ColumnLists) [ true ↦ outputs_to_come ports cs [] fs | false ↦ Malformed ]
          | false ↦ elim (column_of 0 f ports.inputs) as (λ _. Said ColumnLists) [ None ↦ Malformed | Some c ↦ names_to_come ports (cs ++ c ∷ []) [] fs ]
        ])
        ≡ said (named_behind ports cs (elim b as (λ _. Parts) [ true ↦ record { before = []; behind = Some fs } | false ↦ record { before = f ∷ (parts fs).before; behind = (parts fs).behind } ]))
    go true h = rw (append-nil cs) (at_arrow (each_once (length ports.inputs) cs))
    go false h = at_name (column_of 0 f ports.inputs) h

without_front : (o : Option (List Column)) → in_front [] o ≡ o
unfolding in_front
without_front None = refl
without_front (Some ds) = refl

pub header_said : (ports : PortLists) (fs : List (List ℕ)) → title_to_come ports [] [] fs ≡ said (header ports fs)
unfolding named_behind
header_said ports [] = refl
header_said ports (f ∷ fs) = go (bytes_eq f (codes "inputs"))
  where
    go : (b : Bool) → (elim b as (λ _. Said ColumnLists) [ true ↦ names_to_come ports [] [] fs | false ↦ Malformed ]) ≡ said (elim b as (λ _. Option ColumnLists) [ true ↦ named_columns ports fs | false ↦ None ])
    go true =
        names_said ports [] fs
        ∙ ap (λ o. said (both_columns (all_named ports.inputs o) (behind_arrow ports.outputs (parts fs).behind))) (without_front (columns_of ports.inputs (parts fs).before))
    go false = refl

pub heading_from_start : (ports : PortLists) (h : Heading) (rest : List ℕ) → h.stage ≡ Start → IsUnread h → heading_with ports h rest ≡ header_line ports rest
heading_from_start ports h rest s u = rw (s, u.section, u.columns, u.expected) (go (is_skipped rest))
  where
    go : (b : Bool) → (elim b as (λ _. Said ColumnLists) [ true ↦ Skipped | false ↦ title_to_come ports [] [] (fields rest) ])
        ≡ (elim b as (λ _. Said ColumnLists) [ true ↦ Skipped | false ↦ said (header ports (fields rest)) ])
    go true = refl
    go false = header_said ports (fields rest)
