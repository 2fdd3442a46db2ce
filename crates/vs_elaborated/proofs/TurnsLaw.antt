-- What holds of nothing, of one statement before another, and of each copy of a loop's statement, holds of all its turns (IEEE 1364-2005, 9.6).
use Rattle.std.proofs.Common.{◌≡◌, ℕ, zero, suc, Bool, true, false, List, [], ◌++◌, Option, Some, None, length, if◌then◌else◌, nat_lt}
use Rattle.vs_four.specs.Logic.{BitList}
use Rattle.vs_design.specs.Statements.{Statement, Empty, Then}
use Rattle.vs_design.specs.Values.{unset, assigned_value}
use Rattle.vs_design.proofs.Lengths.{length_assigned}
use Rattle.vs_grammar.specs.Trees as tree
use Rattle.vs_const.specs.declared.faults.Fault.{Fault}
use Rattle.vs_const.specs.declared.rules.Rule.TheVariants.{LoopTurns}
use Rattle.vs_const.specs.Faults.{fault}
use Rattle.vs_const.specs.Meanings.{Find, turning}
use Rattle.vs_const.specs.Typed.{Typed}
use Rattle.vs_const.specs.Expressions.{constant, is_clean}
use Rattle.vs_const.proofs.Formed.{both_nil}
use Rattle.vs_elaborated.specs.Statements.{Body, TypedStatement, nothing_done, in_block, given, not_there, goes_on, and_turn, turns, most_turns, variable_faults, second_faults, as_copies, loop_turns, loop_done, typed_statement, unrolled_within}

-- a value of an integer
abbrev pub IsWord : Option BitList → Type 0
IsWord None = Unit {0}
IsWord (Some bits) = length bits ≡ 32

given_word : (t : Typed) → IsWord (given t)
given_word t = of t.good
  where
    of : (b : Bool) → IsWord (if b then Some (assigned_value t.expression 32 unset) else None)
    of true = length_assigned t.expression 32 unset
    of false = tt

module _ (P : Statement → Type 0) (Q : Find → Type 0) (nothing : P Empty) (two : (s t : Statement) → P s → P t → P (Then s t)) (turned : (find : Find) (name : List ℕ) (bits : BitList) → length bits ≡ 32 → Q find → Q (turning find name bits)) where
  turns_law : (copy : Find → TypedStatement) → ((find : Find) → Q find → (copy find).faults ≡ [] → P (copy find).statement)
      → (left : ℕ) (head : tree.LoopHead) (find : Find) (o : Option BitList) → Q find → IsWord o → (turns left copy head find o).faults ≡ [] → P (turns left copy head find o).statement
  turns_law copy f left head find None q w h = nothing
  turns_law copy f zero head find (Some bits) q w h = nothing
  turns_law copy f (suc left) head find (Some bits) q w h =
      let next = constant head.next (turning find head.variable.bytes bits) in
      of (goes_on test) (λ k. turns_law copy f left head find (given next) q (given_word next) k) h
    where
      inner : Find
      inner = turning find head.variable.bytes bits

      test : Typed
      test = constant head.test inner

      next : Typed
      next = constant head.next inner

      of : (b : Bool) → ((turns left copy head find (given next)).faults ≡ [] → P (turns left copy head find (given next)).statement) → (elim b as (λ x. TypedStatement) [ true ↦ and_turn (test.faults ++ next.faults) (copy inner) (turns left copy head find (given next)) | false ↦ not_there test.faults ]).faults ≡ []
          → P (elim b as (λ x. TypedStatement) [ true ↦ and_turn (test.faults ++ next.faults) (copy inner) (turns left copy head find (given next)) | false ↦ not_there test.faults ]).statement
      of false r k = nothing
      of true r k =
          let others = turns left copy head find (given next) in
          let n = both_nil (test.faults ++ next.faults) ((copy inner).faults ++ others.faults) k in
          let m = both_nil (copy inner).faults others.faults n.1 in
          two (copy inner).statement others.statement (f inner (turned find head.variable.bytes bits w q) m.0) (r m.1)

  pub loop_law : (body : Body) (copy : Find → TypedStatement) → ((find : Find) → Q find → (copy find).faults ≡ [] → P (copy find).statement)
      → (head : tree.LoopHead) (find : Find) → Q find → (loop_done body copy head find).faults ≡ [] → P (loop_done body copy head find).statement
  loop_law body copy f head find q h = of (is_clean faults) h
    where
      faults : List Fault
      faults = variable_faults head.variable.place (find head.variable.bytes) ++ second_faults head find

      first : Typed
      first = constant head.first find

      unrolled : (b : Bool) → (if b then as_copies (turns most_turns copy head find (given first)) else nothing_done (fault LoopTurns head.place)).faults ≡ []
          → P (if b then as_copies (turns most_turns copy head find (given first)) else nothing_done (fault LoopTurns head.place)).statement
      unrolled true k = turns_law copy f most_turns head find (given first) q (given_word first) k
      unrolled false k = nothing

      of : (b : Bool) → (if b then in_block first.faults (loop_turns body copy head find first) else nothing_done faults).faults ≡ []
          → P (if b then in_block first.faults (loop_turns body copy head find first) else nothing_done faults).statement
      of true k = unrolled body.unrolls (both_nil first.faults (loop_turns body copy head find first).faults k).1
      of false k = nothing

-- what holds of a statement, whether or not its loops are unrolled
pub unrolled_law : (P : Statement → Type 0) (most : ℕ) (s : tree.Statement) (body : Body) (find : Find)
    → ((b : Bool) → (typed_statement s (record body { unrolls = b }) find).faults ≡ [] → P (typed_statement s (record body { unrolls = b }) find).statement)
    → (unrolled_within most s body find).faults ≡ [] → P (unrolled_within most s body find).statement
unrolled_law P most s body find f h = of (nat_lt most (typed_statement s (record body { unrolls = true }) find).copies) h
  where
    of : (b : Bool) → (if b then typed_statement s (record body { unrolls = false }) find else typed_statement s (record body { unrolls = true }) find).faults ≡ []
        → P (if b then typed_statement s (record body { unrolls = false }) find else typed_statement s (record body { unrolls = true }) find).statement
    of true k = f false k
    of false k = f true k
