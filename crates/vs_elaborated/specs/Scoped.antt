-- What holds of named blocks that are scopes (IEEE 1364-2005, 9.8.2).
use Rattle.std.specs.Prelude.{◌≡◌, ◌<◌, ◌≤◌, ◌+◌, ℕ, suc, true, false, List, [], ◌∷◌, map, length, Option, Some, None}
use Rattle.vs_design.specs.Expressions.{Signal, signal_length}
use Rattle.vs_design.specs.Designs.{Design}
use Rattle.vs_design.specs.Elaborated.{is_signal}
use Rattle.vs_grammar.specs.Trees.{Statement}
use Rattle.vs_grammar.specs.Shapes.{Each, IsStatement, IsValueType}
use Rattle.vs_const.specs.Sound.{IsSound}
use Rattle.vs_elaborated.specs.Limits.{Limits}
use Rattle.vs_elaborated.specs.Statements.{Local}
use Rattle.vs_elaborated.specs.Functions.{LocalSignal, signal_at, meaning_or}
use Rattle.vs_elaborated.specs.NamedBlocks.{NamedBlock, named_blocks}
use Rattle.vs_elaborated.specs.Pieces.{ScopedBlock}
use Rattle.vs_elaborated.specs.Surveys.{Totals, scoped_signals, scoped_statement}
use Rattle.vs_elaborated.specs.Elaborated.{scoped_totals, scoped_faults}
use Rattle.vs_elaborated.specs.Sound.{AreSoundFrames}

-- their variables have types of the grammar
abbrev pub BlocksAreShaped : Type 0
BlocksAreShaped = (s : Statement) → IsStatement s → Each (λ (b : NamedBlock). Each (λ (v : Local). IsValueType v.value_type) b.variables) (named_blocks s)

-- each stands in one before it, or in none
abbrev pub IsBefore : (next : ℕ) → Option ℕ → Type 0
IsBefore next None = Unit {0}
IsBefore next (Some n) = n < next

abbrev pub AreBefore : (next : ℕ) → List NamedBlock → Type 0
AreBefore next [] = Unit {0}
AreBefore next (b ∷ bs) = IsBefore next b.outer × AreBefore (suc next) bs

abbrev pub BlocksComeBefore : Type 0
BlocksComeBefore = (s : Statement) → AreBefore 0 (named_blocks s)

-- their variables, in a design
abbrev pub variables_in : ScopedBlock → Totals → List Signal
variables_in b t = map (λ (s : LocalSignal). s.meaning.signal) (scoped_signals b t)

-- these are numbered from `n` on, have their bits from `b` on, and stand in scopes that are there
abbrev pub AreNumberedBelow : (scopes n b : ℕ) → List Signal → Type 0
AreNumberedBelow scopes n b [] = Unit {0}
AreNumberedBelow scopes n b (s ∷ ss) = (s.number ≡ n) × (s.first ≡ b) × (s.scope < scopes) × AreNumberedBelow scopes (n + 1) (b + signal_length s) ss

-- they follow on all that was read
abbrev pub VariablesAreCounted : Type 0
VariablesAreCounted = (b : ScopedBlock) (t : Totals) → AreNumberedBelow (t.scopes + length (named_blocks b.block.statement)) t.signals t.bits (variables_in b t)

-- where there is no fault their bits are within the limit
abbrev pub VariablesAreFew : Type 0
VariablesAreFew = (d : Design) (limits : Limits) (b : ScopedBlock) (t : Totals) → AreSoundFrames d false b.env.frames → IsStatement b.block.statement → t.bits ≤ limits.bits → scoped_faults limits b t ≡ []
    → (scoped_totals b t (scoped_signals b t) (scoped_statement limits b t)).bits ≤ limits.bits

-- and in a design that has them each means one of its signals
abbrev pub VariablesAreSound : Type 0
VariablesAreSound = (d : Design) (limits : Limits) (b : ScopedBlock) (t : Totals) → AreSoundFrames d false b.env.frames → IsStatement b.block.statement → scoped_faults limits b t ≡ [] → Each (λ (s : Signal). is_signal d s ≡ true) (variables_in b t)
    → (place : ℕ) → IsSound d false (meaning_or (signal_at (scoped_signals b t) place))
