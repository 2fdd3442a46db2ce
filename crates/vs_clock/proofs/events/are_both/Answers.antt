use Rattle.vs_clock.proofs.Ruled.{both_hold, first_fails}
use Rattle.vs_clock.proofs.events.are_both.Goals as goal

pub returns-then-is_clock : goal.returns-then-is_clock
returns-then-is_clock c = λ n a. both_hold c.is_clock.result c.is_reset.result _ _ (c.is_clock.ensures n a) c.if-is_clock.true (c.is_reset.ensures n a)

pub returns-else-is_clock : goal.returns-else-is_clock
returns-else-is_clock c = λ n a. first_fails c.is_clock.result _ _ (c.is_clock.ensures n a) c.if-is_clock.false
