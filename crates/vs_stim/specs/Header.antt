-- The header: `inputs`, and then the name of every data input once, in any order; and perhaps the field `->` and names of outputs, one at least
-- and each at most once.
use Rattle.std.specs.Prelude.{ℕ, zero, suc, ◌+◌, ◌≤◌, Bool, true, false, ◌&&◌, List, [], ◌∷◌, ◌++◌, length, map, nat_eq, Option, Some, None, codes, bytes_eq, All}
use Rattle.std.specs.List.{list_any}
use Rattle.vs_stim.specs.declared.input.Input.{Input}
use Rattle.vs_stim.specs.declared.input.Output.{Output}
use Rattle.vs_stim.specs.declared.input.Column.{Column}
use Rattle.vs_stim.specs.declared.input.Expected.{Expected}

-- the data inputs and the outputs of a design, each in the design's order, and whether a header has to name outputs
pub record PortLists : Type 0 where
  pub inputs : List Input
  pub outputs : List Output
  pub demanded : Bool

-- the same inputs and outputs, where a header need not name any of the outputs
abbrev pub undemanded : PortLists → PortLists
undemanded ports = record { inputs = ports.inputs; outputs = ports.outputs; demanded = false }

-- an input of 1 to 64 bits
pub record IsInput (i : Input) : Type 0 where
  pub some : 1 ≤ i.length
  pub at_most_64 : i.length ≤ 64

-- an output of 1 to 64 bits
pub record IsOutput (o : Output) : Type 0 where
  pub some : 1 ≤ o.length
  pub at_most_64 : o.length ≤ 64

pub record ArePorts (ports : PortLists) : Type 0 where
  pub inputs : All IsInput ports.inputs
  pub outputs : All IsOutput ports.outputs

-- the inputs' lengths
abbrev pub lengths : List Input → List ℕ
lengths is = map (λ i. i.length) is

-- the outputs' lengths
abbrev pub output_lengths : List Output → List ℕ
output_lengths os = map (λ o. o.length) os

-- what the fields of each vector hold: first the columns of inputs, and behind `->` those of expected outputs
pub record ColumnLists : Type 0 where
  pub inputs : List Column
  pub expected : List Expected

-- there are none
abbrev pub is_nil : List Expected → Bool
is_nil [] = true
is_nil (e ∷ es) = false

-- these are the columns of a header that names no output, though it has to
abbrev pub lacks_output : PortLists → ColumnLists → Bool
lacks_output ports cs = ports.demanded && is_nil cs.expected

-- ---- inputs

-- the column of the input that has this name, where the inputs are numbered from n
abbrev pub column_of : ℕ → List ℕ → List Input → Option Column
column_of n name [] = None
column_of n name (i ∷ is) =
    elim (bytes_eq name i.name) [ true ↦ Some (record { input = n; length = i.length; reset = i.reset; select = i.select }) | false ↦ column_of (n + 1) name is ]

abbrev pub with_column : Column → Option (List Column) → Option (List Column)
with_column c None = None
with_column c (Some cs) = Some (c ∷ cs)

-- the columns that the names call for; none where a name is no input's
abbrev pub columns_of : List Input → List (List ℕ) → Option (List Column)
columns_of is [] = Some []
columns_of is (f ∷ fs) = elim (column_of 0 f is) [ None ↦ None | Some c ↦ with_column c (columns_of is fs) ]

-- how many columns an input has
abbrev pub count_of : ℕ → List Column → ℕ
count_of n [] = 0
count_of n (c ∷ cs) = elim (nat_eq c.input n) [ true ↦ count_of n cs + 1 | false ↦ count_of n cs ]

-- each of the first n inputs has one column
abbrev pub each_once : ℕ → List Column → Bool
each_once zero cs = true
each_once (suc n) cs = nat_eq (count_of n cs) 1 && each_once n cs

-- the columns, where each input is named once
abbrev pub all_named : List Input → Option (List Column) → Option (List Column)
all_named is None = None
all_named is (Some cs) = elim (each_once (length is) cs) [ true ↦ Some cs | false ↦ None ]

-- ---- outputs

-- the column of the output that has this name, where the outputs are numbered from n
abbrev pub expected_of : ℕ → List ℕ → List Output → Option Expected
expected_of n name [] = None
expected_of n name (o ∷ os) = elim (bytes_eq name o.name) [ true ↦ Some (record { output = n; length = o.length }) | false ↦ expected_of (n + 1) name os ]

-- whether this output has a column
abbrev pub is_expected : ℕ → List Expected → Bool
is_expected n es = list_any (λ e. nat_eq e.output n) es

-- Columns behind others that names call for; none where a name is no output's, or its output has a column.
abbrev pub expected_behind : List Output → List Expected → List (List ℕ) → Option (List Expected)
expected_behind os es [] = Some es
expected_behind os es (f ∷ fs) =
    elim (expected_of 0 f os) [
      | None ↦ None
      | Some e ↦ elim (is_expected e.output es) [ true ↦ None | false ↦ expected_behind os (es ++ e ∷ []) fs ]
    ]

-- the columns of the fields behind `->`, of which there is one at least
abbrev pub all_expected : List Output → List (List ℕ) → Option (List Expected)
all_expected os [] = None
all_expected os (f ∷ fs) = expected_behind os [] (f ∷ fs)

-- ---- the whole

-- the field `->`
abbrev pub is_arrow : List ℕ → Bool
is_arrow f = bytes_eq f (codes "->")

-- the fields up to the first `->`, and those behind it, if there is one
pub record Parts : Type 0 where
  pub before : List (List ℕ)
  pub behind : Option (List (List ℕ))

abbrev pub parts : List (List ℕ) → Parts
parts [] = record { before = []; behind = None }
parts (f ∷ fs) =
    let p = parts fs in
    elim (is_arrow f) [ true ↦ record { before = []; behind = Some fs } | false ↦ record { before = f ∷ p.before; behind = p.behind } ]

-- the columns of outputs; none are called for where there is no `->`
abbrev pub behind_arrow : List Output → Option (List (List ℕ)) → Option (List Expected)
behind_arrow os None = Some []
behind_arrow os (Some fs) = all_expected os fs

abbrev pub both_columns : Option (List Column) → Option (List Expected) → Option ColumnLists
both_columns None es = None
both_columns (Some cs) None = None
both_columns (Some cs) (Some es) = Some (record { inputs = cs; expected = es })

-- the columns that the fields behind `inputs` call for
abbrev pub named_columns : PortLists → List (List ℕ) → Option ColumnLists
named_columns ports fs = both_columns (all_named ports.inputs (columns_of ports.inputs (parts fs).before)) (behind_arrow ports.outputs (parts fs).behind)

-- the columns of a header, by its fields; none where they are no header
abbrev pub header : PortLists → List (List ℕ) → Option ColumnLists
header ports [] = None
header ports (f ∷ fs) = elim (bytes_eq f (codes "inputs")) [ true ↦ named_columns ports fs | false ↦ None ]
