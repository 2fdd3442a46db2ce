-- No vector has an x or z bit in a reset input or in a select input.
use Rattle.std.proofs.Common.{◌≡◌, ℕ, suc, ◌+◌, ◌<◌, Bool, true, false, not, ◌&&◌, ◌||◌, nat_eq, List, [], ◌∷◌, length, get_or, if◌then◌else◌, refl, ap, sym, ◌∙◌, subst, arith, eqb-true}
use Rattle.std.specs.Prelude.{All, Option, Some, None}
use Rattle.std.specs.List.{AllByRecursion}
use Rattle.vs_four.specs.declared.Bit4.{Bit4}
use Rattle.vs_stim.specs.declared.error.StimError.{StimError}
use Rattle.vs_stim.specs.declared.error.StimError.TheVariants.{FirstUnknown, TooManyVectors}
use Rattle.vs_stim.specs.declared.input.Input.{Input}
use Rattle.vs_stim.specs.declared.input.Column.{Column}
use Rattle.vs_stim.specs.Header.{PortLists, ColumnLists, IsInput, count_of}
use Rattle.vs_stim.specs.Laws.{known_in_controls}
use Rattle.vs_stim.specs.Reading.{limits, not_taken, unknown_in, reading}
use Rattle.vs_stim.specs.Vectors.{Entry, all_known, vector_known, breaks, sooner, broken_from, broken}
use Rattle.vs_stim.proofs.EachVector.{IsTaken, each_vector}
use Rattle.vs_stim.proofs.Heads.{controls, IsNamed, head_once}

abbrev Vector : Type 0
Vector = List (List Bit4)

-- a vector that is taken breaks nothing
taken_unbroken : (cs : ColumnLists) (number count : ℕ) (v : Entry) → not_taken limits cs number count v ≡ None → broken cs.inputs v.values ≡ None
taken_unbroken cs number count v = go (nat_eq count 0 && not (vector_known v.values)) (broken cs.inputs v.values)
  where
    go : (first : Bool) (found : Option Column) → (elim first as (λ _. Option StimError) [
      | true ↦ Some FirstUnknown
      | false ↦ elim found [
        | Some c ↦ Some (unknown_in c number)
        | None ↦ elim (nat_eq count limits.vectors) [ true ↦ Some TooManyVectors | false ↦ None ]
      ]
    ]) ≡ None → found ≡ None
    go true found h = cc
    go false (Some c) h = cc
    go false None h = refl

-- what is found is never lost
found_stays : (c : Column) (cs : List Column) (v : Vector) → broken_from (Some c) cs v ≡ None → ⊥
found_stays c [] v h = cc
found_stays c (b ∷ cs) v h = go (breaks b v) h (λ x. found_stays x cs v)
  where
    go : (t : Bool) → broken_from (if t then Some (sooner b (Some c)) else Some c) cs v ≡ None → ((x : Column) → broken_from (Some x) cs v ≡ None → ⊥) → ⊥
    go true k later = later (sooner b (Some c)) k
    go false k later = later c k

unbroken_next : (c : Column) (cs : List Column) (v : Vector) → broken (c ∷ cs) v ≡ None → (breaks c v ≡ false) × (broken cs v ≡ None)
unbroken_next c cs v h = go (breaks c v) refl h
  where
    go : (t : Bool) → breaks c v ≡ t → broken_from (if t then Some (sooner c None) else None) cs v ≡ None → (breaks c v ≡ false) × (broken cs v ≡ None)
    go true e k = absurd (found_stays (sooner c None) cs v k)
    go false e k = (e, k)

held : (control known : Bool) → (control && not known) ≡ false → (not control || known) ≡ true
held true true h = refl
held true false h = cc
held false known h = refl

-- the value of an input that has a column is known, if it is a reset input or a select input
value_known : (is : List Input) (cs : List Column) (v : Vector) (j : ℕ) → AllByRecursion (IsNamed is) cs → broken cs v ≡ None → 0 < count_of j cs
    → (not (get_or (controls is) j false) || all_known (get_or v j [])) ≡ true
value_known is [] v j h k some = absurd (omega arith)
value_known is (c ∷ cs) v j h k some = go (nat_eq c.input j) refl (value_known is cs v j h.1) some
  where
    parts : (breaks c v ≡ false) × (broken cs v ≡ None)
    parts = unbroken_next c cs v k

    here : c.input ≡ j → (not (get_or (controls is) j false) || all_known (get_or v j [])) ≡ true
    here e =
        let P : ℕ → Type 0 = λ n. (not (get_or (controls is) n false) || all_known (get_or v n [])) ≡ true in
        subst P e (ap (λ r. not r || all_known (get_or v c.input [])) h.0.control ∙ held (c.reset || c.select) (all_known (get_or v c.input [])) parts.0)

    go : (b : Bool) → nat_eq c.input j ≡ b → (broken cs v ≡ None → 0 < count_of j cs → (not (get_or (controls is) j false) || all_known (get_or v j [])) ≡ true)
        → 0 < (elim b as (λ _. ℕ) [ true ↦ count_of j cs + 1 | false ↦ count_of j cs ])
        → (not (get_or (controls is) j false) || all_known (get_or v j [])) ≡ true
    go true e later more = here (eqb-true c.input j e)
    go false e later more = later parts.1 more

-- input by input
all_controls : (is : List Input) (v : Vector) → ((j : ℕ) → j < length is → (not (get_or (controls is) j false) || all_known (get_or v j [])) ≡ true) → known_in_controls is v ≡ true
all_controls [] v h = refl
all_controls (i ∷ is) [] h = refl
all_controls (i ∷ is) (x ∷ xs) h =
    λ k. h 0 (omega arith) k && all_controls is xs (λ j below. h (suc j) (omega arith)) k

taken_controls : (ports : PortLists) (v : Vector) → IsTaken ports v → known_in_controls ports.inputs v ≡ true
taken_controls ports v h =
    let is = ports.inputs in
    subst (λ (w : Vector). known_in_controls is w ≡ true) (sym h.values)
    (all_controls is h.entry.values
    (λ j below. value_known is h.columns.inputs h.entry.values j h.head.each (taken_unbroken h.columns h.number h.count h.entry h.taken) (omega (arith, head_once is h.columns.inputs h.head j below))))

pub reading_controls : (ports : PortLists) (text : List ℕ) → All IsInput ports.inputs → All (λ v. known_in_controls ports.inputs v ≡ true) (reading ports text).vectors
reading_controls ports text h = each_vector ports text (λ v. known_in_controls ports.inputs v ≡ true) h (taken_controls ports)
