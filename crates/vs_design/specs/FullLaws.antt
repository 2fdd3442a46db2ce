-- The laws of full cases.
use Rattle.std.specs.Prelude.{◌≡◌, ℕ, true, false, List, length}
use Rattle.std.specs.List.{list_any}
use Rattle.vs_four.specs.Logic.{BitList, all_known}
use Rattle.vs_net.specs.Network.{State}
use Rattle.vs_net.specs.Lawful.{IsKnown}
use Rattle.vs_design.specs.Statements.{Statement}
use Rattle.vs_design.specs.Bodies.{body}
use Rattle.vs_design.specs.Designs.{Design}
use Rattle.vs_design.specs.Footprints.{contains, statement_bits}
use Rattle.vs_design.specs.Fits.{fits_statement}
use Rattle.vs_design.specs.Covers.{Pattern, meets, covers}
use Rattle.vs_design.specs.Selects.{completed, selector_bits}

-- where the search finds that the patterns cover, each list of so many known bits matches one of them
abbrev pub CoversAll : Type 0
CoversAll = (n : ℕ) (ps : List Pattern) (vs : BitList) → covers n ps ≡ true → length vs ≡ n → all_known vs ≡ true → list_any (λ p. meets p vs) ps ≡ true

-- where the selectors of its full cases are known, and are none of the bits that it writes, a statement does what the completed one does
abbrev pub CompletedDoesTheSame : Type 0
CompletedDoesTheSame = (d : Design) (st : Statement) (s : State) → fits_statement st ≡ true → ((b : ℕ) → contains (selector_bits d st) b ≡ true → IsKnown (s b) × (contains (statement_bits st) b ≡ false)) → body (completed d st) s ≡ body st s
