use Rattle.vs_clock.proofs.form.+branch_of.Given as goal

abbrev pub decreases-branch_of : goal.decreases-branch_of
decreases-branch_of l = l.s
