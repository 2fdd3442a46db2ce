-- What holds of statements whose assignments are all blocking.
use Rattle.std.specs.Prelude.{◌≡◌, [], false}
use Rattle.vs_design.specs.Statements.{Statement}
use Rattle.vs_design.specs.Rules.{mixed_in}
use Rattle.vs_design.specs.Sleepers.{at_once}

-- without a `<=` there is nothing to take as a `=`
abbrev pub BlockingIsAtOnce : Type 0
BlockingIsAtOnce = (s : Statement) → mixed_in false s ≡ [] → at_once s ≡ s
