use Rattle.std.proofs.Common.{refl}
use Rattle.vs_vcd.specs.Numerals.{digits_up_to, digits, decimal, identifier}
use Rattle.vs_vcd.specs.Values.{value_line}
use Rattle.vs_vcd.specs.Scopes.{variable_start, variable_line, variables, scope_line}
use Rattle.vs_vcd.specs.Texts.{time_line}
use Rattle.vs_vcd.specs.Shared.{code_by}
use Rattle.vs_vcd.proofs.laws.shared_law.Goals as goal

pub returns : goal.returns
unfolding digits_up_to digits decimal identifier value_line variable_start variable_line variables scope_line time_line code_by
returns c = (refl, refl, refl, (refl, refl, refl, refl, refl))
