use Rattle.vs_full.proofs.search.+search.Given as goal

abbrev pub decreases-search : goal.decreases-search
decreases-search l = l.n
