-- What an assign or an assignment writes (IEEE 1364-2005, table 6-1).
use Rattle.std.specs.Prelude.{ℕ, Bool, true, false, not, ◌&&◌, ◌||◌, List, [], ◌++◌, if◌then◌else◌, Option, Some, None}
use Rattle.vs_design.specs.Expressions.{Signal}
use Rattle.vs_design.specs.Statements.{Target, Whole, PartOf, WordOf, WordPartOf, Both}
use Rattle.vs_grammar.specs.Trees as tree
use Rattle.vs_grammar.specs.Trees.{expr_place}
use Rattle.vs_const.specs.declared.faults.Fault.{Fault}
use Rattle.vs_const.specs.Faults.{fault, fault_if}
use Rattle.vs_const.specs.declared.rules.Rule.TheVariants.{WrongKind, LoopVariable, FunctionRule}
use Rattle.vs_const.specs.declared.rules.Rule.{Rule}
use Rattle.vs_const.specs.Meanings.{SignalMeaning, Meaning, AValue, ASignal, AMemory, Find, steady, is_local}
use Rattle.vs_const.specs.Selects.{Base, no_base, signal_base, is_scalar, Taken, taken, slice_taken, first_needed, first_names, word_range, is_array, Addressed, addressed, wrong_rule}
use Rattle.vs_const.specs.Typed.{Typed}
use Rattle.vs_const.specs.Expressions.{typed, taken_by}

-- what stands where no signal is named
abbrev pub no_signal : Signal
no_signal = record { name = []; scope = 0; number = 0; net = true; input = false; range = None; signed = false; first = 0; words = None; integer = false }

-- the signal that a name means, if it does
abbrev pub meant_signal : Meaning → Signal
meant_signal (ASignal s) = s.signal
meant_signal _ = no_signal

-- a target of a design, and its faults
pub record TypedTarget : Type 0 where
  pub target : Target
  pub faults : List Fault

-- an assign and an output connection write nets, a statement variables, and nothing an input
abbrev pub is_wrong_target : Bool → SignalMeaning → Bool
is_wrong_target procedural s = s.input || (procedural && s.signal.net || not procedural && not s.signal.net)

-- what a target breaks that is none: of a function's input that the function writes it (10.4.4)
abbrev pub target_rule : SignalMeaning → Rule
target_rule s = if is_local s then FunctionRule else WrongKind

-- The rule that a name breaks which means no signal: an integer isn't written within its loop (9.6).
abbrev pub unwritten_rule : Meaning → Rule
unwritten_rule (AValue v range true) = LoopVariable
unwritten_rule m = wrong_rule false m

-- what a target names, alone or as what a select takes bits of
abbrev pub target_base : (procedural : Bool) → (place : ℕ) → (is_selected : Bool) → Meaning → Base
target_base procedural place is_selected (ASignal s) =
    signal_base (fault_if (is_wrong_target procedural s) (target_rule s) place ++ fault_if (is_selected && is_scalar s) WrongKind place) s
target_base procedural place is_selected m = no_base None (fault (unwritten_rule m) place)

-- a select of a signal
abbrev pub part_target : Signal → Base → Taken → TypedTarget
part_target s b t = record { target = PartOf s t.part t.index; faults = b.faults ++ t.faults }

-- a word of a memory (4.9.3), or a net of an array of nets
abbrev pub word_target : (procedural : Bool) → (place : ℕ) → SignalMeaning → Addressed → TypedTarget
word_target procedural place m a = record { target = WordOf a.signal a.index; faults = fault_if (is_wrong_target procedural m) WrongKind place ++ a.faults }

-- `name[i]`, where i stands at the place `at`: a word of a memory, a bit of anything else
abbrev pub bit_target : (procedural : Bool) → (place : ℕ) → Meaning → (at : ℕ) → Typed → TypedTarget
bit_target procedural place (AMemory m) at i = word_target procedural place m (addressed m at i)
bit_target procedural place m at i = let b = target_base procedural place true m in part_target (meant_signal m) b (taken b.range true 1 i i.faults)

-- bits of a word (5.2.2)
abbrev pub word_part_target : (procedural : Bool) → (place : ℕ) → SignalMeaning → Addressed → Taken → TypedTarget
word_part_target procedural place m a t = record {
  target = WordPartOf a.signal a.index t.part t.index;
  faults = fault_if (is_wrong_target procedural m) WrongKind place ++ (fault_if (is_scalar m) WrongKind place ++ (a.faults ++ t.faults));
}

-- `name[i]` with a further select, where i stands at the place `at`: of a memory
abbrev pub further_target : (procedural : Bool) → (place : ℕ) → Meaning → (at : ℕ) → Typed → Taken → TypedTarget
further_target procedural place (AMemory m) at i t = word_part_target procedural place m (addressed m at i) t
further_target procedural place m at i t = record { target = Whole no_signal; faults = fault (unwritten_rule m) place }

-- the index of an assign's target is a constant
abbrev pub selected_target : tree.Select → tree.Name → Find → Bool → TypedTarget
selected_target tree.Whole name find procedural =
    record { target = Whole (meant_signal (find name.bytes)); faults = (target_base procedural name.place false (find name.bytes)).faults }
selected_target (tree.BitAt bracket index) name find procedural =
    let m = find name.bytes in bit_target procedural name.place m (expr_place index) (typed index find (is_array m || not procedural))
selected_target (tree.Slice bracket kind e f) name find procedural =
    let b = target_base procedural name.place true (find name.bytes) in
    part_target (meant_signal (find name.bytes)) b (slice_taken b.range bracket kind (expr_place e) (typed e (first_names kind find) (first_needed kind (not procedural))) (expr_place f) (typed f (steady find) true))
selected_target (tree.OfWord bracket address part) name find procedural =
    let m = find name.bytes in
    further_target procedural name.place m (expr_place address) (typed address find (is_array m || not procedural)) (taken_by (word_range m) part find (not procedural))

-- the left one has the higher bits
abbrev pub both_targets : TypedTarget → TypedTarget → TypedTarget
both_targets high low = record { target = Both high.target low.target; faults = high.faults ++ low.faults }

-- one part, or the first of several
abbrev pub and_targets : tree.Targets → TypedTarget → TypedTarget → TypedTarget
and_targets tree.NoTarget t others = t
and_targets (tree.AndTarget target rest) t others = both_targets t others

abbrev mutual
  pub typed_target : tree.Target → Find → Bool → TypedTarget
  typed_target (tree.NamedTarget name select) find procedural = selected_target select name find procedural
  typed_target (tree.Targeted place parts) find procedural = typed_targets parts find procedural

  pub typed_targets : tree.Targets → Find → Bool → TypedTarget
  typed_targets tree.NoTarget find procedural = record { target = Whole no_signal; faults = [] }
  typed_targets (tree.AndTarget target rest) find procedural = and_targets rest (typed_target target find procedural) (typed_targets rest find procedural)

-- ---- an expression that is connected to an output is a target (12.3.9.2); brackets round it are no matter

-- `{..}`, where each part is a target
abbrev pub targeted : ℕ → Option tree.Targets → Option tree.Target
targeted place None = None
targeted place (Some parts) = Some (tree.Targeted place parts)

-- where both are targets
abbrev pub and_target : Option tree.Target → Option tree.Targets → Option tree.Targets
and_target (Some target) (Some rest) = Some (tree.AndTarget target rest)
and_target _ _ = None

abbrev mutual
  pub as_target : tree.Expr → Option tree.Target
  as_target (tree.Named name select) = Some (tree.NamedTarget name select)
  as_target (tree.Concatenation place parts) = targeted place (as_targets parts)
  as_target (tree.Brackets place e) = as_target e
  as_target _ = None

  pub as_targets : tree.Exprs → Option tree.Targets
  as_targets tree.NoExpr = Some tree.NoTarget
  as_targets (tree.AndExpr e rest) = and_target (as_target e) (as_targets rest)
