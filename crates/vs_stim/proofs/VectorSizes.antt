-- A vector's values have the lengths of the inputs.
use Rattle.std.proofs.Common.{◌≡◌, ℕ, zero, suc, ◌+◌, ◌<◌, Bool, true, false, nat_eq, List, [], ◌∷◌, length, take, drop, get_or, refl, ap, sym, ◌∙◌, subst, arith, eqb-true, add-one}
use Rattle.std.proofs.lemmas.List.{length-map, nil_from_length, length_push, drop_all}
use Rattle.std.proofs.lemmas.List.Elements.{All-from_recursion}
use Rattle.std.proofs.Math.Seq.{drop-cons}
use Rattle.std.specs.Prelude.{All, Option, Some, None, IfSome}
use Rattle.std.specs.List.{AllByRecursion}
use Rattle.vs_four.specs.declared.Bit4.{Bit4}
use Rattle.vs_stim.specs.declared.input.Input.{Input}
use Rattle.vs_stim.specs.declared.input.Column.{Column}
use Rattle.vs_stim.specs.declared.wanted.Digit.{Digit}
use Rattle.vs_stim.specs.Fields.{is_skipped, fields}
use Rattle.vs_stim.specs.Header.{PortLists, ColumnLists, IsInput, lengths, count_of}
use Rattle.vs_stim.specs.Reading.{Said, vector_line, reading}
use Rattle.vs_stim.specs.Row.{sizes, IsColumn}
use Rattle.vs_stim.specs.Vectors.{digit, with_top, bits_of, value, with_value, values, value_at, values_from, arranged, is_dash, vector, wants, Entry, both_parts, field_count, entry}
use Rattle.vs_stim.proofs.Counted.{length-each_once}
use Rattle.vs_stim.proofs.EachVector.{IsTaken, each_vector}
use Rattle.vs_stim.proofs.Heads.{IsHead, head_columns, head_once, IfGiven, given_line}

-- as many bits as digits
bits_long : (bs : List ℕ) → IfSome (bits_of bs) (λ v. length v ≡ length bs)
bits_long [] = refl
bits_long (b ∷ bs) = go (digit b) (bits_of bs) (bits_long bs)
  where
    go : (o : Option Bit4) (p : Option (List Bit4)) → IfSome p (λ v. length v ≡ length bs)
        → IfSome (elim o as (λ _. Option (List Bit4)) [ None ↦ None | Some d ↦ with_top d p ]) (λ v. length v ≡ length (b ∷ bs))
    go None p h = tt
    go (Some d) None h = tt
    go (Some d) (Some ds) h = length_push ds d ∙ omega (arith, h)

value_long : (c : Column) (f : List ℕ) → IfSome (value c f) (λ v. length v ≡ c.length)
value_long c f = go (nat_eq (length f) c.length) refl (bits_of f) (bits_long f)
  where
    go : (b : Bool) → nat_eq (length f) c.length ≡ b → (o : Option (List Bit4)) → IfSome o (λ v. length v ≡ length f)
        → IfSome (elim b as (λ _. Option (List Bit4)) [ true ↦ o | false ↦ None ]) (λ v. length v ≡ c.length)
    go false e o h = tt
    go true e None h = tt
    go true e (Some v) h = h ∙ eqb-true (length f) c.length e

-- a value for each column, of its length
abbrev Fitting : List Column → List (List Bit4) → Type 0
Fitting [] [] = Unit {0}
Fitting [] (v ∷ vs) = ⊥
Fitting (c ∷ cs) [] = ⊥
Fitting (c ∷ cs) (v ∷ vs) = (length v ≡ c.length) × Fitting cs vs

values_fit : (cs : List Column) (fs : List (List ℕ)) → IfSome (values cs fs) (Fitting cs)
values_fit [] [] = tt
values_fit [] (f ∷ fs) = tt
values_fit (c ∷ cs) [] = tt
values_fit (c ∷ cs) (f ∷ fs) = go (value c f) (values cs fs) (value_long c f) (values_fit cs fs)
  where
    go : (o : Option (List Bit4)) (p : Option (List (List Bit4))) → IfSome o (λ v. length v ≡ c.length) → IfSome p (Fitting cs)
        → IfSome (elim o as (λ _. Option (List (List Bit4))) [ None ↦ None | Some v ↦ with_value v p ]) (Fitting (c ∷ cs))
    go None p h k = tt
    go (Some v) None h k = tt
    go (Some v) (Some vs) h k = (h, k)

-- the value of an input that has a column
value_at_long : (lens : List ℕ) (n : ℕ) (cs : List Column) (vs : List (List Bit4)) → AllByRecursion (IsColumn lens) cs → Fitting cs vs → 0 < count_of n cs
    → length (value_at n cs vs) ≡ get_or lens n 0
value_at_long lens n [] vs h k some = absurd (omega arith)
value_at_long lens n (c ∷ cs) [] h k some = absurd k
value_at_long lens n (c ∷ cs) (v ∷ vs) h k some = go (nat_eq c.input n) refl (value_at_long lens n cs vs h.1 k.1) some
  where
    go : (b : Bool) → nat_eq c.input n ≡ b → (0 < count_of n cs → length (value_at n cs vs) ≡ get_or lens n 0) → 0 < (elim b as (λ _. ℕ) [ true ↦ count_of n cs + 1 | false ↦ count_of n cs ])
        → length (elim b as (λ _. List Bit4) [ true ↦ v | false ↦ value_at n cs vs ]) ≡ get_or lens n 0
    go true e later more = k.0 ∙ sym h.0.size ∙ ap (λ i. get_or lens i 0) (eqb-true c.input n e)
    go false e later more = later more

values_from_long : (lens : List ℕ) (cs : List Column) (vs : List (List Bit4)) (n k : ℕ) → n + k ≡ length lens
    → ((j : ℕ) → j < length lens → length (value_at j cs vs) ≡ get_or lens j 0) → sizes (values_from n k cs vs) ≡ drop n lens
values_from_long lens cs vs n zero e h = sym (drop_all n lens (omega arith))
values_from_long lens cs vs n (suc k) e h =
    let here : n < length lens = omega arith in
    let next : n + 1 ≡ suc n = add-one n in
    (λ i. h n here i ∷ values_from_long lens cs vs (n + 1) k (omega arith) h i)
    ∙ ap (λ m. get_or lens n 0 ∷ drop m lens) next
    ∙ sym (drop-cons lens n 0 here)

-- the values of a line's vector
vector_long : (is : List Input) (cs : List Column) (fs : List (List ℕ)) → IsHead is cs → IfSome (vector cs fs) (λ v. sizes v ≡ lengths is)
vector_long is cs fs head = go cs (head_columns is cs head) long (λ j below. head_once is cs head j (omega (arith, many)))
  where
    many : length (lengths is) ≡ length is
    many = length-map is (λ i. i.length)

    long : length cs ≡ length (lengths is)
    long = length-each_once (lengths is) cs (All-from_recursion (IsColumn (lengths is)) cs (head_columns is cs head)) (rw many head.once)

    dash : (b : Bool) → [] ≡ lengths is → IfSome (elim b as (λ _. Option (List (List Bit4))) [ true ↦ Some [] | false ↦ None ]) (λ v. sizes v ≡ lengths is)
    dash true e = e
    dash false e = tt

    placed : (cs : List Column) (o : Option (List (List Bit4))) → AllByRecursion (IsColumn (lengths is)) cs → length cs ≡ length (lengths is)
        → ((j : ℕ) → j < length (lengths is) → count_of j cs ≡ 1) → IfSome o (Fitting cs) → IfSome (arranged cs o) (λ v. sizes v ≡ lengths is)
    placed cs None each l once k = tt
    placed cs (Some vs) each l once k =
        values_from_long (lengths is) cs vs 0 (length cs) (omega (arith, l)) (λ j below. value_at_long (lengths is) j cs vs each k (omega (arith, once j below)))

    go : (cs : List Column) → AllByRecursion (IsColumn (lengths is)) cs → length cs ≡ length (lengths is) → ((j : ℕ) → j < length (lengths is) → count_of j cs ≡ 1)
        → IfSome (vector cs fs) (λ v. sizes v ≡ lengths is)
    go [] each l once = dash (is_dash fs) (sym (nil_from_length (lengths is) (sym l)))
    go (c ∷ cs) each l once = placed (c ∷ cs) (values (c ∷ cs) fs) each l once (values_fit (c ∷ cs) fs)

entry_long : (is : List Input) (cs : ColumnLists) (fs : List (List ℕ)) → IsHead is cs.inputs → IfSome (entry cs fs) (λ v. sizes v.values ≡ lengths is)
entry_long is cs fs head =
    go (vector cs.inputs (take (field_count cs.inputs) fs)) (wants cs.expected (drop (field_count cs.inputs) fs)) (vector_long is cs.inputs (take (field_count cs.inputs) fs) head)
  where
    go : (o : Option (List (List Bit4))) (p : Option (List (List Digit))) → IfSome o (λ v. sizes v ≡ lengths is) → IfSome (both_parts o p) (λ v. sizes v.values ≡ lengths is)
    go None p h = tt
    go (Some vs) None h = tt
    go (Some vs) (Some ws) h = h

vector_given : (is : List Input) (cs : ColumnLists) (text : List ℕ) → IsHead is cs.inputs → IfGiven (λ v. sizes v.values ≡ lengths is) (vector_line cs text)
vector_given is cs text h = given_line (λ v. sizes v.values ≡ lengths is) (is_skipped text) (entry cs (fields text)) (entry_long is cs (fields text) h)

pub taken_fits : (ports : PortLists) (v : List (List Bit4)) → IsTaken ports v → sizes v ≡ lengths ports.inputs
taken_fits ports v h =
    let P : Said Entry → Type 0 = IfGiven (λ v. sizes v.values ≡ lengths ports.inputs) in
    subst (λ (w : List (List Bit4)). sizes w ≡ lengths ports.inputs) (sym h.values) (subst P h.given (vector_given ports.inputs h.columns h.text h.head))

pub reading_fits : (ports : PortLists) (text : List ℕ) → All IsInput ports.inputs → All (λ v. sizes v ≡ lengths ports.inputs) (reading ports text).vectors
reading_fits ports text h = each_vector ports text (λ v. sizes v ≡ lengths ports.inputs) h (taken_fits ports)
