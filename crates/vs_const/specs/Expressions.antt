-- Expressions of the text as expressions of a design, with their faults (IEEE 1364-2005, clauses 5 and 10.4.3).
use Rattle.std.specs.Prelude.{ℕ, Bool, true, false, not, ◌&&◌, ◌||◌, List, [], ◌∷◌, ◌++◌, Option, Some, None, if◌then◌else◌}
use Rattle.vs_four.specs.Numbers.{bits_of, clog2}
use Rattle.vs_design.specs.Expressions.{signal_length, Literal, Name, At, Call, Items, NoItem, Item, Signed, Unsigned}
use Rattle.vs_design.specs.Elaborated.{are_as_many}
use Rattle.vs_design.specs.Values.{constant_value}
use Rattle.vs_grammar.specs.Trees as tree
use Rattle.vs_grammar.specs.Trees.{expr_place}
use Rattle.vs_const.specs.declared.faults.Fault.{Fault}
use Rattle.vs_const.specs.Faults.{Rule, fault, fault_if, UnknownConstant, WrongKind, NotConstant, FunctionRule, Recursion}
use Rattle.vs_const.specs.Meanings.{SignalMeaning, FunctionMeaning, Meaning, ASignal, AFunction, Incomplete, Find, steady, is_result}
use Rattle.vs_const.specs.Typed.{Typed, broken, fine, noted, Numbered, number_of, natural, unary_typed, binary_typed, choice_typed, join_typed, copies_typed}
use Rattle.vs_four.specs.declared.Range.{Range}
use Rattle.vs_const.specs.Selects.{base_of, name_typed, Taken, not_taken, taken, slice_taken, first_needed, first_names, select_typed, bit_typed, rule_where, wrong_rule, word_range, is_array, further_typed}

-- a literal without a size has no place in a concatenation (5.1.14); brackets round it are no matter
abbrev pub unsized_faults : tree.Expr → List Fault
unsized_faults (tree.Number n) = fault_if (not n.sized) WrongKind n.place
unsized_faults (tree.Brackets place e) = unsized_faults e
unsized_faults _ = []

-- there is no fault
abbrev pub is_clean : List Fault → Bool
is_clean [] = true
is_clean (f ∷ fs) = false

-- a part of a concatenation
abbrev pub part_typed : tree.Expr → Typed → Typed
part_typed e t = let fs = unsized_faults e in record t { good = t.good && is_clean fs; faults = t.faults ++ fs }

-- one part, or the first of several
abbrev pub and_parts : tree.Exprs → Typed → Typed → Typed
and_parts tree.NoExpr t others = t
and_parts (tree.AndExpr e rest) t others = join_typed t others

-- so many copies, unless a fault leaves the count undefined
abbrev pub replicated : Option ℕ → List Fault → Typed → Typed
replicated None faults t = broken None (faults ++ t.faults)
replicated (Some n) faults t = let r = copies_typed n t in record r { faults = faults ++ t.faults }

-- a count is 1 to 64
abbrev pub replication_typed : (place : ℕ) → Typed → Typed → Typed
replication_typed place count t = let n = natural 1 64 place count in replicated n.number n.faults t

-- `$clog2` is a number of 32 bits, signed; its argument is a constant (17.11)
abbrev pub clog2_of : Option ℕ → (place : ℕ) → List Fault → Typed
clog2_of None place faults = broken (Some 32) (faults ++ fault UnknownConstant place)
clog2_of (Some n) place faults = fine (Literal (bits_of 32 n) true true) faults

-- of an argument with a value
abbrev pub clog2_typed : (good : Bool) → (place : ℕ) → Typed → Typed
clog2_typed false place t = broken (Some 32) t.faults
clog2_typed true place t = clog2_of (clog2 (constant_value t.expression)) place t.faults

-- a call, with the place of its argument
abbrev pub call_typed : tree.SystemFunction → (place : ℕ) → Typed → Typed
call_typed tree.AsSigned place t = unary_typed Signed t
call_typed tree.AsUnsigned place t = unary_typed Unsigned t
call_typed tree.Clog2 place t = clog2_typed t.good place t

-- whether the argument is a needed constant
abbrev pub argument_needed : tree.SystemFunction → Bool → Bool
argument_needed tree.Clog2 needed = true
argument_needed _ needed = needed

-- ---- calls of functions (10.4.3)

-- the arguments of a call
pub record TypedItems : Type 0 where
  pub items : Items
  pub good : Bool
  pub faults : List Fault

-- none
abbrev pub no_arguments : TypedItems
no_arguments = record { items = NoItem; good = true; faults = [] }

-- one before others
abbrev pub and_argument : Typed → TypedItems → TypedItems
and_argument t others = record { items = Item t.expression others.items; good = t.good && others.good; faults = t.faults ++ others.faults }

-- the rule that what is called breaks if it is no function that is complete here
abbrev pub call_rule : (needed : Bool) → Meaning → Rule
call_rule needed (ASignal s) = rule_where needed (if is_result s then Recursion else WrongKind)
call_rule needed Incomplete = rule_where needed Recursion
call_rule needed m = wrong_rule needed m

-- the call of a function, unless a fault leaves it or an argument undefined
abbrev pub call_if : (good : Bool) → FunctionMeaning → TypedItems → List Fault → Typed
call_if true f arguments faults = fine (Call f.header f.statement arguments.items) faults
call_if false f arguments faults = broken (if f.known then Some (signal_length f.header.result) else None) faults

-- one after the other
abbrev pub joined_items : Items → Items → Items
joined_items NoItem others = others
joined_items (Item e es) others = Item e (joined_items es others)

-- these signals, in a call at this place
abbrev pub passed_items : (place : ℕ) → List SignalMeaning → Items
passed_items place [] = NoItem
passed_items place (s ∷ ss) = Item (At place (Name s.signal)) (passed_items place ss)

-- behind its arguments a call passes the signals that the function reads
abbrev pub with_passed : (place : ℕ) → List SignalMeaning → TypedItems → TypedItems
with_passed place passed arguments = record arguments { items = joined_items arguments.items (passed_items place passed) }

-- it has as many arguments as the function declares inputs
abbrev pub called : FunctionMeaning → (place : ℕ) → TypedItems → Typed
called f place arguments =
    let whole = with_passed place f.passed arguments in
    let fits = are_as_many whole.items f.header.inputs in
    call_if (f.known && (fits && arguments.good)) f whole (fault_if (f.known && not fits) FunctionRule place ++ arguments.faults)

-- a call is no constant
abbrev pub function_applied : (needed : Bool) → FunctionMeaning → (place : ℕ) → TypedItems → Typed
function_applied true f place arguments = broken None (fault NotConstant place)
function_applied false f place arguments = called f place arguments

-- By what the name means; where it means no function, the arguments come behind it.
abbrev pub applied : (needed : Bool) → (place : ℕ) → Meaning → TypedItems → Typed
applied needed place (AFunction f) arguments = function_applied needed f place arguments
applied needed place m arguments = broken None (fault (call_rule needed m) place)

-- `needed`: where a constant is needed
abbrev mutual
  -- an expression
  pub typed : tree.Expr → Find → Bool → Typed
  typed (tree.Number n) find needed = noted needed n.place (fine (Literal n.bits n.signed n.sized) [])
  typed (tree.Named name select) find needed = noted needed name.place (selected select name find needed)
  typed (tree.Apply name arguments) find needed = noted needed name.place (applied needed name.place (find name.bytes) (typed_arguments arguments find needed))
  typed (tree.Unary place op a) find needed = noted needed place (unary_typed op (typed a find needed))
  typed (tree.Binary op a b) find needed = noted needed (expr_place a) (binary_typed op (typed a find needed) (typed b find needed))
  typed (tree.Choice c p q) find needed = noted needed (expr_place c) (choice_typed (typed c find needed) (typed p find needed) (typed q find needed))
  typed (tree.Concatenation place parts) find needed = noted needed place (copies_typed 1 (typed_parts parts find needed))
  typed (tree.Replication place count parts) find needed = noted needed place (replication_typed (expr_place count) (typed count (steady find) true) (typed_parts parts find needed))
  typed (tree.Call place function a) find needed = noted needed place (call_typed function (expr_place a) (typed a find (argument_needed function needed)))
  typed (tree.Brackets place e) find needed = noted needed place (typed e find needed)

  -- a name, with what is selected of it
  pub selected : tree.Select → tree.Name → Find → Bool → Typed
  selected tree.Whole name find needed = name_typed needed name.place (find name.bytes)
  selected (tree.BitAt bracket index) name find needed = let m = find name.bytes in bit_typed needed name.place m (expr_place index) (typed index find (is_array m || needed))
  selected (tree.Slice bracket kind e f) name find needed =
      let b = base_of needed name.place (find name.bytes) in
      select_typed b (slice_taken b.range bracket kind (expr_place e) (typed e (first_names kind find) (first_needed kind needed)) (expr_place f) (typed f (steady find) true))
  selected (tree.OfWord bracket address part) name find needed =
      let m = find name.bytes in
      further_typed needed name.place m (expr_place address) (typed address find (is_array m || needed)) (taken_by (word_range m) part find needed)

  -- which bits of a word with this range a further select takes, one or several
  pub taken_by : Option Range → tree.Select → Find → Bool → Taken
  taken_by declared (tree.BitAt bracket index) find needed = let i = typed index find needed in taken declared true 1 i i.faults
  taken_by declared (tree.Slice bracket kind e f) find needed =
      slice_taken declared bracket kind (expr_place e) (typed e (first_names kind find) (first_needed kind needed)) (expr_place f) (typed f (steady find) true)
  taken_by declared tree.Whole find needed = not_taken None []
  taken_by declared (tree.OfWord bracket address part) find needed = not_taken None []

  -- the parts of a concatenation
  pub typed_parts : tree.Exprs → Find → Bool → Typed
  typed_parts tree.NoExpr find needed = broken None []
  typed_parts (tree.AndExpr e rest) find needed = and_parts rest (part_typed e (typed e find needed)) (typed_parts rest find needed)

  -- the arguments of a call
  pub typed_arguments : tree.Exprs → Find → Bool → TypedItems
  typed_arguments tree.NoExpr find needed = no_arguments
  typed_arguments (tree.AndExpr e rest) find needed = and_argument (typed e find needed) (typed_arguments rest find needed)

-- a needed constant, and its number
abbrev pub constant : tree.Expr → Find → Typed
constant e find = typed e find true

-- its number
abbrev pub number : tree.Expr → Find → Numbered
number e find = number_of (expr_place e) (constant e find)
