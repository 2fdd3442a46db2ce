-- Texts that are added one after another.
use Rattle.std.proofs.Common.{◌≡◌, ◌++◌, append_assoc}
use Rattle.std.specs.Prelude.{codes}
use Rattle.vs_design.specs.Expressions.{Signal}
use Rattle.vs_design.specs.Designs.{Scope}
use Rattle.vs_vcd.specs.Scopes.{declared_range, range_text, variable_start, variable_line, scope_kind, scope_line}

pub scope_line-is : (s : Scope) → scope_line s ≡ codes "$scope " ++ (scope_kind s.instance ++ (s.name ++ codes " $end\n"))
unfolding scope_line
scope_line-is s = simp append_assoc

pub variable_line-is : (s : Signal) → variable_line s ≡ variable_start s ++ (s.name ++ (range_text (declared_range s.integer s.range) ++ codes " $end\n"))
unfolding variable_line
variable_line-is s = simp append_assoc
