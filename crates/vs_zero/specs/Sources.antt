-- The sets that a table begins with.
use Rattle.std.specs.Prelude.{ℕ, Bool, List, filter, nat_lt, if◌then◌else◌}
use Rattle.vs_four.specs.declared.Bit4.TheVariants.{Zero}
use Rattle.vs_design.specs.Expressions.{Signal}
use Rattle.vs_design.specs.Designs.{Design}
use Rattle.vs_design.specs.Footprints.{contains, is_input, is_net, signals_bits}
use Rattle.vs_design.specs.Lifted.{Family}
use Rattle.vs_design.specs.Sets.{only}
use Rattle.vs_zero.specs.declared.sources.SignalKind.{SignalKind}
use Rattle.vs_zero.specs.declared.sources.SignalKind.TheVariants.{Net, Input}

abbrev pub is_kind : SignalKind → Signal → Bool
is_kind Net s = is_net s
is_kind Input s = is_input s

-- the bits of all signals of this kind
abbrev pub bits_of_kind : SignalKind → Design → List ℕ
bits_of_kind kind d = signals_bits (filter (is_kind kind) d.signals)

-- these sets, but 0 alone in each clock that is one of so many bits
abbrev pub with_clocks : List ℕ → ℕ → Family → Family
with_clocks clocks count sets b = if contains (filter (λ c. nat_lt c count) clocks) b then only Zero else sets b
