-- What can be built: a tree of the text without a fault, whose names mean something in the design.
use Rattle.std.specs.Prelude.{◌≡◌, ◌≤◌, ◌||◌, ℕ, Bool, true, List, [], map, Option, Some, None}
use Rattle.vs_four.specs.declared.Range.{Range}
use Rattle.vs_four.specs.Selects.{range_length}
use Rattle.vs_ast.specs.declared.expressions.Expr.{Expr}
use Rattle.vs_ast.specs.Views.{expr}
use Rattle.vs_design.specs.Expressions.{Expression, Name, At, addresses}
use Rattle.vs_design.specs.Designs.{Design}
use Rattle.vs_design.specs.Elaborated.{is_formed}
use Rattle.vs_grammar.specs.Trees as tree
use Rattle.vs_grammar.specs.Trees.{expr_place}
use Rattle.vs_grammar.specs.Shapes.{IsExpr, AreExprs, IsSelect, is_part, AreParts}
use Rattle.vs_grammar.specs.Depths.{expr_depth, exprs_depth, select_depth}
use Rattle.vs_const.specs.Meanings.{FunctionMeaning, SignalMeaning, Meaning, AMemory, AFunction, Find, steady, IsFair}
use Rattle.vs_const.specs.Sound.{AreSoundSignals, IsSound, AreSound}
use Rattle.vs_const.specs.Typed.{Typed, natural}
use Rattle.vs_const.specs.Selects.{name_typed, Base, base_of, slice_taken, first_needed, first_names, select_typed, bit_typed, word_range, is_array, addressed, further_typed}
use Rattle.vs_const.specs.Expressions.{constant, typed, taken_by, typed_parts, typed_arguments}
use Rattle.vs_elaborated.specs.Numbers.{AreNumbered}
use Rattle.vs_flat.specs.Targets.{source_of}
use Rattle.vs_build.specs.Drafts.{Draft, AddsExpression}

-- an expression
pub record IsBuildable (d : Design) (find : Find) (needed : Bool) (e : tree.Expr) : Type 0 where
  pub shaped : IsExpr e
  pub sound : AreSound d needed find
  pub numbered : AreNumbered d find
  pub clean : (typed e find needed).faults ≡ []
  pub shallow : expr_depth e ≤ 253

-- a name with what is selected of it; `fixed`: where the name has to be a constant, `needed`: where the index has to be one
abbrev pub selected_by : tree.Select → tree.Name → Find → (fixed needed : Bool) → Typed
selected_by tree.Whole name find fixed needed = name_typed fixed name.place (find name.bytes)
selected_by (tree.BitAt bracket index) name find fixed needed = let m = find name.bytes in bit_typed fixed name.place m (expr_place index) (typed index find (is_array m || needed))
selected_by (tree.Slice bracket kind e f) name find fixed needed =
    let b = base_of fixed name.place (find name.bytes) in
    select_typed b (slice_taken b.range bracket kind (expr_place e) (typed e (first_names kind find) (first_needed kind needed)) (expr_place f) (typed f (steady find) true))
selected_by (tree.OfWord bracket address part) name find fixed needed =
    let m = find name.bytes in
    further_typed fixed name.place m (expr_place address) (typed address find (is_array m || needed)) (taken_by (word_range m) part find needed)

pub record IsSelectable (d : Design) (find : Find) (fixed needed : Bool) (name : tree.Name) (select : tree.Select) : Type 0 where
  pub shaped : IsSelect select
  pub signals : IsSound d fixed (find name.bytes)
  pub sound : AreSound d needed find
  pub numbered : AreNumbered d find
  pub clean : (selected_by select name find fixed needed).faults ≡ []
  pub good : (selected_by select name find fixed needed).good ≡ true
  pub formed : is_formed d (selected_by select name find fixed needed).expression ≡ true
  pub shallow : select_depth select ≤ 253

-- a select of one or several bits of something with this range
pub record IsTakable (d : Design) (find : Find) (needed : Bool) (declared : Range) (part : tree.Select) : Type 0 where
  pub shaped : IsSelect part
  pub one_or_several : is_part part ≡ true
  pub sound : AreSound d needed find
  pub numbered : AreNumbered d find
  pub clean : (taken_by (Some declared) part find needed).faults ≡ []
  pub shallow : select_depth part ≤ 253

-- the parts of a concatenation
pub record AreBuildable (d : Design) (find : Find) (needed : Bool) (parts : tree.Exprs) : Type 0 where
  pub shaped : AreParts parts
  pub sound : AreSound d needed find
  pub numbered : AreNumbered d find
  pub clean : (typed_parts parts find needed).faults ≡ []
  pub shallow : exprs_depth parts ≤ 253

-- the arguments of a call (10.4.3)
pub record AreArguments (d : Design) (find : Find) (needed : Bool) (es : tree.Exprs) : Type 0 where
  pub shaped : AreExprs es
  pub sound : AreSound d needed find
  pub numbered : AreNumbered d find
  pub clean : (typed_arguments es find needed).faults ≡ []
  pub shallow : exprs_depth es ≤ 253

-- what is called is a function
pub record IsCallable (m : Meaning) : Type 0 where
  pub function : FunctionMeaning
  pub is : m ≡ AFunction function

-- the signals that a call of it passes are those of the design
abbrev pub ArePassable : Design → Meaning → Type 0
ArePassable d m = (f : FunctionMeaning) → m ≡ AFunction f → AreSoundSignals d f.passed

-- what they stand for in a call at this place
abbrev pub passed_expressions : (place : ℕ) → List SignalMeaning → List Expression
passed_expressions place ss = map (λ (s : SignalMeaning). At place (Name s.signal)) ss

-- a needed number within its bounds
pub record IsWithin (low high : ℕ) (find : Find) (e : tree.Expr) : Type 0 where
  pub shaped : IsExpr e
  pub fair : IsFair find
  pub clean : (natural low high (expr_place e) (constant e find)).faults ≡ []
  pub number : ℕ
  pub is : (natural low high (expr_place e) (constant e find)).number ≡ Some number

-- what the parts stand for
abbrev pub part_expressions : Find → Bool → List Expr → List Expression
part_expressions find needed parts = map (λ (e : Expr). (typed (expr e) find needed).expression) parts

-- two bounds, and the range that they are
pub record AreBounds (find : Find) (left right : tree.Expr) : Type 0 where
  pub first : IsWithin 0 65535 find left
  pub second : IsWithin 0 65535 find right
  pub short : range_length (record { left = first.number; right = second.number }) ≤ 64

-- the range of two bounds
pub record IsRangeOf (find : Find) (left right : tree.Expr) (r : Range) : Type 0 where
  pub first : (natural 0 65535 (expr_place left) (constant left find)).number ≡ Some r.left
  pub second : (natural 0 65535 (expr_place right) (constant right find)).number ≡ Some r.right

-- a constant of at most 64 bits
pub record IsConstant (find : Find) (e : tree.Expr) : Type 0 where
  pub shaped : IsExpr e
  pub fair : IsFair find
  pub clean : (typed e find true).faults ≡ []
  pub good : (typed e find true).good ≡ true

-- what has the word at an address of the memory or the array of nets that a name means (4.9), by its number
abbrev pub memory_of : Meaning → (at : ℕ) → Typed → Option ℕ
memory_of (AMemory m) at i = Some (addressed m at i).signal.number
memory_of _ at i = None

-- an array's address is a constant, and one that it has
abbrev pub IsAddressable : SignalMeaning → Find → tree.Expr → Type 0
IsAddressable m find address = m.signal.net ≡ true → IsWithin (addresses m.signal).right (addresses m.signal).left find address

abbrev pub IsWordAddressable : Meaning → Find → tree.Expr → Type 0
IsWordAddressable (AMemory m) find address = IsAddressable m find address
IsWordAddressable m find address = Unit {0}

-- a name alone
pub record IsNameable (d : Design) (needed : Bool) (place : ℕ) (m : Meaning) : Type 0 where
  pub sound : IsSound d needed m
  pub good : (name_typed needed place m).good ≡ true

-- a name of which bits are selected
pub record HasBits (d : Design) (needed : Bool) (place : ℕ) (m : Meaning) : Type 0 where
  pub sound : IsSound d needed m
  pub good : (base_of needed place m).good ≡ true
  pub range : Range
  pub has_range : (base_of needed place m).range ≡ Some range

-- a memory whose words have a range
pub record HasWords (m : Meaning) : Type 0 where
  pub memory : SignalMeaning
  pub is : m ≡ AMemory memory
  pub range : Range
  pub has_range : memory.signal.range ≡ Some range

-- what bits are selected of is the last expression
pub record AddsSource (old new : Draft) (base : Base) (range : Range) : Type 0 where
  pub tree : Expression
  pub adds : AddsExpression old new tree 1
  pub source : source_of tree ≡ base.source
  pub has_range : base.range ≡ Some range
