-- The columns of a header.
use Rattle.std.proofs.Common.{◌≡◌, ℕ, suc, ◌+◌, ◌<◌, ◌≤◌, Bool, true, false, ◌||◌, List, [], ◌∷◌, length, map, get_or, refl, ap, sym, ◌∙◌, arith}
use Rattle.std.specs.Prelude.{Option, Some, None, IfSome, bytes_eq, codes}
use Rattle.std.specs.List.{AllByRecursion}
use Rattle.vs_stim.specs.declared.input.Input.{Input}
use Rattle.vs_stim.specs.declared.input.Column.{Column}
use Rattle.vs_stim.specs.declared.input.Expected.{Expected}
use Rattle.vs_stim.specs.Fields.{is_skipped, fields}
use Rattle.vs_stim.specs.Header.{PortLists, ColumnLists, IsInput, lengths, column_of, with_column, columns_of, count_of, each_once, all_named, parts, behind_arrow, both_columns, named_columns, header}
use Rattle.vs_stim.specs.Reading.{Said, said, header_line}
use Rattle.vs_stim.specs.Reading.Said.{Skipped, Malformed, Given}
use Rattle.vs_stim.specs.Row.{IsColumn}
use Rattle.vs_stim.proofs.Arranged.{once_below}

-- which inputs are reset inputs or select inputs
abbrev pub controls : List Input → List Bool
controls is = map (λ i. i.reset || i.select) is

-- a column that `column_of` finds where the inputs are numbered from n
record At (n : ℕ) (is : List Input) (c : Column) : Type 0 where
  index : ℕ
  input : c.input ≡ n + index
  within : index < length (lengths is)
  size : get_or (lengths is) index 0 ≡ c.length
  control : get_or (controls is) index false ≡ (c.reset || c.select)
  some : 1 ≤ c.length
  at_most_64 : c.length ≤ 64

later_at : (n : ℕ) (i : Input) (is : List Input) (o : Option Column) → IfSome o (At (n + 1) is) → IfSome o (At n (i ∷ is))
later_at n i is None h = tt
later_at n i is (Some c) h = record {
  index = suc h.index;
  input = h.input ∙ omega arith;
  within = omega (arith, h.within);
  size = h.size;
  control = h.control;
  some = h.some;
  at_most_64 = h.at_most_64;
}

column_at : (name : List ℕ) (n : ℕ) (is : List Input) → AllByRecursion IsInput is → IfSome (column_of n name is) (At n is)
column_at name n [] h = tt
column_at name n (i ∷ is) h = go (bytes_eq name i.name) (later_at n i is (column_of (n + 1) name is) (column_at name (n + 1) is h.1))
  where
    go : (b : Bool) → IfSome (column_of (n + 1) name is) (At n (i ∷ is))
        → IfSome (elim b as (λ _. Option Column) [ true ↦ Some (record { input = n; length = i.length; reset = i.reset; select = i.select }) | false ↦ column_of (n + 1) name is ]) (At n (i ∷ is))
    go true k = record { index = 0; input = omega arith; within = omega arith; size = refl; control = refl; some = h.0.some; at_most_64 = h.0.at_most_64 }
    go false k = k

-- a column of one of the inputs
pub record IsNamed (is : List Input) (c : Column) : Type 0 where
  pub column : IsColumn (lengths is) c
  pub control : get_or (controls is) c.input false ≡ (c.reset || c.select)

at_named : (is : List Input) (o : Option Column) → IfSome o (At 0 is) → IfSome o (IsNamed is)
at_named is None h = tt
at_named is (Some c) h =
    let e : h.index ≡ c.input = omega (arith, h.input) in
    record {
      column = record { known = omega (arith, h.within); size = ap (λ i. get_or (lengths is) i 0) (sym e) ∙ h.size; some = h.some; at_most_64 = h.at_most_64 };
      control = ap (λ i. get_or (controls is) i false) (sym e) ∙ h.control;
    }

columns_known : (is : List Input) (fs : List (List ℕ)) → AllByRecursion IsInput is → IfSome (columns_of is fs) (AllByRecursion (IsNamed is))
columns_known is [] h = tt
columns_known is (f ∷ fs) h = go (column_of 0 f is) (columns_of is fs) (at_named is (column_of 0 f is) (column_at f 0 is h)) (columns_known is fs h)
  where
    go : (o : Option Column) (p : Option (List Column)) → IfSome o (IsNamed is) → IfSome p (AllByRecursion (IsNamed is))
        → IfSome (elim o as (λ _. Option (List Column)) [ None ↦ None | Some c ↦ with_column c p ]) (AllByRecursion (IsNamed is))
    go None p k l = tt
    go (Some c) None k l = tt
    go (Some c) (Some cs) k l = (k, l)

-- columns of a header: each input has one
pub record IsHead (is : List Input) (cs : List Column) : Type 0 where
  pub each : AllByRecursion (IsNamed is) cs
  pub once : each_once (length is) cs ≡ true

columns_named : (is : List Input) (cs : List Column) → AllByRecursion (IsNamed is) cs → AllByRecursion (IsColumn (lengths is)) cs
columns_named is [] h = tt
columns_named is (c ∷ cs) h = (h.0.column, columns_named is cs h.1)

pub head_columns : (is : List Input) (cs : List Column) → IsHead is cs → AllByRecursion (IsColumn (lengths is)) cs
head_columns is cs h = columns_named is cs h.each

-- the inputs that have a column
pub head_once : (is : List Input) (cs : List Column) → IsHead is cs → (j : ℕ) → j < length is → count_of j cs ≡ 1
head_once is cs h j below = once_below (length is) cs h.once j below

named_known : (is : List Input) (fs : List (List ℕ)) → AllByRecursion IsInput is → IfSome (all_named is (columns_of is fs)) (IsHead is)
named_known is fs h = named (columns_of is fs) (columns_known is fs h)
  where
    once : (cs : List Column) (b : Bool) → each_once (length is) cs ≡ b → AllByRecursion (IsNamed is) cs
        → IfSome (elim b as (λ _. Option (List Column)) [ true ↦ Some cs | false ↦ None ]) (IsHead is)
    once cs true e k = record { each = k; once = e }
    once cs false e k = tt

    named : (o : Option (List Column)) → IfSome o (AllByRecursion (IsNamed is)) → IfSome (all_named is o) (IsHead is)
    named None k = tt
    named (Some cs) k = once cs (each_once (length is) cs) refl k

head_known : (ports : PortLists) (fs : List (List ℕ)) → AllByRecursion IsInput ports.inputs → IfSome (header ports fs) (λ cs. IsHead ports.inputs cs.inputs)
head_known ports [] h = tt
head_known ports (f ∷ fs) h = first (bytes_eq f (codes "inputs"))
  where
    both : (o : Option (List Column)) (p : Option (List Expected)) → IfSome o (IsHead ports.inputs) → IfSome (both_columns o p) (λ cs. IsHead ports.inputs cs.inputs)
    both None p k = tt
    both (Some cs) None k = tt
    both (Some cs) (Some es) k = k

    first : (b : Bool) → IfSome (elim b as (λ _. Option ColumnLists) [ true ↦ named_columns ports fs | false ↦ None ]) (λ cs. IsHead ports.inputs cs.inputs)
    first true =
        both (all_named ports.inputs (columns_of ports.inputs (parts fs).before)) (behind_arrow ports.outputs (parts fs).behind) (named_known ports.inputs (parts fs).before h)
    first false = tt

-- a fact of what a line gives
abbrev pub IfGiven : {A : Type 0} → (A → Type 0) → Said A → Type 0
IfGiven P Skipped = Unit {0}
IfGiven P Malformed = Unit {0}
IfGiven P (Given a) = P a

pub given_said : {A : Type 0} (P : A → Type 0) (o : Option A) → IfSome o P → IfGiven P (said o)
given_said P None h = tt
given_said P (Some a) h = h

pub given_line : {A : Type 0} (P : A → Type 0) (b : Bool) (o : Option A) → IfSome o P → IfGiven P (elim b as (λ _. Said A) [ true ↦ Skipped | false ↦ said o ])
given_line P true o h = tt
given_line P false o h = given_said P o h

pub header_given : (ports : PortLists) (text : List ℕ) → AllByRecursion IsInput ports.inputs → IfGiven (λ cs. IsHead ports.inputs cs.inputs) (header_line ports text)
header_given ports text h = given_line (λ cs. IsHead ports.inputs cs.inputs) (is_skipped text) (header ports (fields text)) (head_known ports (fields text) h)
