-- The worked run.
use Rattle.std.proofs.Common.{◌≡◌, ℕ, zero, suc, ◌≤◌, true, List, [], ◌∷◌, inl, refl, map, arith}
use Rattle.vs_four.specs.declared.Bit4.TheVariants.{Zero, One}
use Rattle.vs_net.specs.Network.{Input}
use Rattle.vs_net.specs.Queue.{Choice, change, changes, is_held, IsCompleted, ends}
use Rattle.vs_net.specs.Checked.{is_completed}
use Rattle.vs_net.specs.Worked.{worked_process, worked_idle, worked, vector_of, worked_start, row, rows, slot_0, slot_0_rows, worked_run, other_run, worked_ends, WorkedRun}
use Rattle.vs_net.proofs.Checked.{tested_runs_complete}

steps : rows worked worked_start slot_0 ≡ slot_0_rows
unfolding change changes is_held
steps = refl

run_ends : map row (ends worked worked_start worked_run) ≡ worked_ends
unfolding change changes is_held
run_ends = refl

other_run_ends : map row (ends worked worked_start other_run) ≡ worked_ends
unfolding change changes is_held
other_run_ends = refl

tested : is_completed worked worked_start worked_run ≡ true
unfolding change changes is_held
tested = refl

other_tested : is_completed worked worked_start other_run ≡ true
unfolding change changes is_held
other_tested = refl

beyond : (p : ℕ) → 5 ≤ p → worked_process p ≡ Input []
beyond zero h = absurd (omega arith)
beyond (suc zero) h = absurd (omega arith)
beyond (suc (suc zero)) h = absurd (omega arith)
beyond (suc (suc (suc zero))) h = absurd (omega arith)
beyond (suc (suc (suc (suc zero)))) h = absurd (omega arith)
beyond (suc (suc (suc (suc (suc p))))) h = refl

completed : (choices : List Choice) → is_completed worked worked_start choices ≡ true → IsCompleted worked worked_start choices
completed choices h = tested_runs_complete worked beyond (λ p l. (refl, refl)) worked_idle (vector_of One Zero) (vector_of One One ∷ []) choices h

pub worked_run_is : WorkedRun
worked_run_is = record {
  first = λ b. inl refl;
  steps = steps;
  completed = completed worked_run tested;
  ends_of_slots = run_ends;
  other_completed = completed other_run other_tested;
  other_ends = other_run_ends;
}
