use Rattle.vs_full.proofs.full.+does_nothing.Given as goal

abbrev pub decreases-does_nothing : goal.decreases-does_nothing
decreases-does_nothing l = l.s
