use Rattle.vs_desk.proofs.FailingAgain.{first_fails, last_stays, fails_again}
use Rattle.vs_desk.proofs.laws.fail_law.Goals as goal

pub returns-clause-first : goal.returns-clause-first
returns-clause-first c = first_fails

pub returns-clause-last : goal.returns-clause-last
returns-clause-last c = last_stays

pub returns-clause-again : goal.returns-clause-again
returns-clause-again c = fails_again
