-- The signals that an expression comes to, by their names or through the functions that it calls, in the order of the text (IEEE 1364-2005, 9.7.5 and 10.4).
use Rattle.std.specs.Prelude.{ℕ, Bool, true, false, not, ◌&&◌, ◌||◌, ◌==◌, List, [], ◌∷◌, ◌++◌, map}
use Rattle.std.specs.List.{list_all, list_any}
use Rattle.vs_grammar.specs.Trees as tree
use Rattle.vs_const.specs.declared.faults.Fault.{Fault}
use Rattle.vs_const.specs.Faults.{fault_if, FunctionRule}
pub use Rattle.vs_const.specs.declared.mentions.Way.{Way}
pub use Rattle.vs_const.specs.declared.mentions.Way.TheVariants.{Outside, InArgument, ByCall}
use Rattle.vs_const.specs.Meanings.{SignalMeaning, Meaning, ASignal, AFunction, Find}

-- a signal, and how it is come to: by its name outside of calls, by its name in an argument of a call, or since a function that is called reads it
pub record Mention : Type 0 where
  pub meaning : SignalMeaning
  pub way : Way

-- by its name
abbrev pub named_way : (in_call : Bool) → Way
named_way true = InArgument
named_way false = Outside

-- what a name comes to, alone or with a select of it; no function reads a memory, so that it is no matter who names one
abbrev pub named_mentions : (in_call : Bool) → Meaning → List Mention
named_mentions in_call (ASignal s) = record { meaning = s; way = named_way in_call } ∷ []
named_mentions in_call m = []

-- what a call comes to
abbrev pub called_mentions : Meaning → List Mention
called_mentions (AFunction f) = map (λ (s : SignalMeaning). record { meaning = s; way = ByCall }) f.passed
called_mentions m = []

-- `in_call`: in an argument of a call
abbrev mutual
  pub mentions : tree.Expr → Find → (in_call : Bool) → List Mention
  mentions (tree.Number n) find in_call = []
  mentions (tree.Named name select) find in_call = named_mentions in_call (find name.bytes) ++ select_mentions select find in_call
  mentions (tree.Apply name arguments) find in_call = called_mentions (find name.bytes) ++ all_mentions arguments find true
  mentions (tree.Unary place op a) find in_call = mentions a find in_call
  mentions (tree.Binary op a b) find in_call = mentions a find in_call ++ mentions b find in_call
  mentions (tree.Choice c p q) find in_call = mentions c find in_call ++ (mentions p find in_call ++ mentions q find in_call)
  mentions (tree.Concatenation place parts) find in_call = all_mentions parts find in_call
  mentions (tree.Replication place count parts) find in_call = mentions count find in_call ++ all_mentions parts find in_call
  mentions (tree.Call place function a) find in_call = mentions a find in_call
  mentions (tree.Brackets place e) find in_call = mentions e find in_call

  pub select_mentions : tree.Select → Find → (in_call : Bool) → List Mention
  select_mentions tree.Whole find in_call = []
  select_mentions (tree.BitAt bracket index) find in_call = mentions index find in_call
  select_mentions (tree.Slice bracket kind e f) find in_call = mentions e find in_call ++ mentions f find in_call
  select_mentions (tree.OfWord bracket address part) find in_call = mentions address find in_call ++ select_mentions part find in_call

  -- of several expressions
  pub all_mentions : tree.Exprs → Find → (in_call : Bool) → List Mention
  all_mentions tree.NoExpr find in_call = []
  all_mentions (tree.AndExpr e rest) find in_call = mentions e find in_call ++ all_mentions rest find in_call

-- ---- who wakes for what a function reads: a process waits for what it names itself, and for nothing that a function names (9.7.5, 10.4.4)

abbrev pub is_outside : Way → Bool
is_outside Outside = true
is_outside _ = false

abbrev pub is_by_call : Way → Bool
is_by_call ByCall = true
is_by_call _ = false

-- whether the signal of this number is named outside of calls
abbrev pub is_named : List Mention → ℕ → Bool
is_named ms number = list_any (λ (m : Mention). is_outside m.way && (m.meaning.signal.number == number)) ms

-- each signal that a function reads is named outside of calls
abbrev pub are_heard : List Mention → Bool
are_heard ms = list_all (λ (m : Mention). not (is_by_call m.way) || is_named ms m.meaning.signal.number) ms

-- the process at this place, which comes to these
abbrev pub unheard_faults : (place : ℕ) → List Mention → List Fault
unheard_faults place ms = fault_if (not (are_heard ms)) FunctionRule place
