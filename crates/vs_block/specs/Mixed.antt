-- Nonblocking assignments of several statements.
use Rattle.std.specs.Prelude.{ℕ, false, List, [], ◌∷◌, ◌++◌}
use Rattle.vs_design.specs.Statements.{Statement}
use Rattle.vs_design.specs.Rules.{mixed_in}

-- those of one after the other
abbrev pub mixed_of : List Statement → List ℕ
mixed_of [] = []
mixed_of (s ∷ ss) = mixed_in false s ++ mixed_of ss
