use Rattle.vs_accept.proofs.judge.check_writers.Goals as goal

pub returns-in-Err-clause-refused : goal.returns-in-Err-clause-refused
returns-in-Err-clause-refused c = λ clocks. c.block_error.ensures clocks c.flat-flat.ensures.fits c.in-Err.ensures.refused

pub returns-in-Err-check-clause-refused : goal.returns-in-Err-check-clause-refused
returns-in-Err-check-clause-refused c = λ clocks. c.driver_error.ensures clocks (c.flat-flat.ensures.fits, c.in-Ok.ensures.unrefused) c.in-Err-check.ensures.refused
