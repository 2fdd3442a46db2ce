-- Selectors and what they name.
use Rattle.std.specs.Prelude.{Bool, true, false, not, ◌&&◌, length, nat_le, nat_lt, is_some}
use Rattle.vs_design.specs.Expressions.{Source, OfSignal, OfConstant, Expression}
use Rattle.vs_design.specs.Statements.{Arms}
use Rattle.vs_design.specs.Designs.{Design}
use Rattle.vs_design.specs.Elaborated.{is_signal}
use Rattle.vs_design.specs.Footprints.{read_bits}
use Rattle.vs_design.specs.Selects.{select_root, is_selector, has_default, arms_constant, items_in}

-- it is a signal that is or copies an input
abbrev pub has_root : Design → Source → Bool
has_root d (OfSignal s) = is_some (select_root d s)
has_root d (OfConstant bits) = false

-- it is a signal of the design, or a parameter's value
abbrev pub is_source : Design → Source → Bool
is_source d (OfSignal s) = is_signal d s
is_source d (OfConstant bits) = true

-- the case has no default and at most 4,096 items, all constant, and its selector reads a select net
abbrev pub has_form : Design → Expression → Arms → Bool
has_form d subject arms = is_selector d subject && nat_lt 0 (length (read_bits subject)) && not (has_default arms) && arms_constant arms && nat_le (items_in arms) 4096
