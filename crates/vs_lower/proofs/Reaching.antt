-- Signals whose bits are among so many, and how many bits an environment has.
use Rattle.std.proofs.Common.{◌≡◌, ℕ, ◌+◌, ◌≤◌, Bool, true, nat_le, List, length, sym, subst, arith}
use Rattle.vs_design.specs.Expressions.{Signal, signal_length, Expression}
use Rattle.vs_design.specs.Statements.{Statement, Target}
use Rattle.vs_design.specs.Within.{signal_within}
use Rattle.vs_values.specs.Coded.{Coding}
use Rattle.vs_lower.specs.Assigned.{IsAssignReady}
use Rattle.vs_lower.specs.Stated.{IsStatementReady, IsArmReady}

le_is : (m n : ℕ) → nat_le m n ≡ true → m ≤ n
le_is m n h = grind arith

pub within_is : (n : ℕ) (s : Signal) → signal_within n s ≡ true → s.first + signal_length s ≤ n
within_is n s h = le_is (s.first + signal_length s) n h

-- ready where there are as many bits as the environment has
pub own_bits : (n : ℕ) (now later : List ℕ) (code : Coding) (st : Statement) → IsStatementReady n now later code st → IsStatementReady (length now) now later code st
own_bits n now later code st r = subst (λ (k : ℕ). IsStatementReady k now later code st) (sym r.now_bits) r

pub own_assign : (n : ℕ) (now later : List ℕ) (code : Coding) (ahead : Bool) (t : Target) (e : Expression) → IsAssignReady n now later code ahead t e → IsAssignReady (length now) now later code ahead t e
own_assign n now later code ahead t e r = subst (λ (k : ℕ). IsAssignReady k now later code ahead t e) (sym r.now_bits) r

pub own_arm : (n : ℕ) (now later subject : List ℕ) (code : Coding) (w : ℕ) (items : List Expression) (st : Statement) (bits behind_now behind_later : List ℕ) → IsArmReady n now later subject code w items st bits behind_now behind_later
    → IsArmReady (length now) now later subject code w items st bits behind_now behind_later
own_arm n now later subject code w items st bits behind_now behind_later r = subst (λ (k : ℕ). IsArmReady k now later subject code w items st bits behind_now behind_later) (sym r.now_bits) r
