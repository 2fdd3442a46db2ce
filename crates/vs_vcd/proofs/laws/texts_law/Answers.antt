use Rattle.std.proofs.Common.{refl}
use Rattle.vs_vcd.specs.Numerals.{digits_up_to, digits, decimal, identifier}
use Rattle.vs_vcd.specs.Values.{value_line}
use Rattle.vs_vcd.specs.Scopes.{variable_start, variable_line, variables, scope_line}
use Rattle.vs_vcd.specs.Texts.{time_line}
use Rattle.vs_vcd.proofs.laws.texts_law.Goals as goal

pub returns-clause-texts : goal.returns-clause-texts
unfolding digits_up_to digits decimal identifier value_line variable_start variable_line variables scope_line time_line
returns-clause-texts c = (refl, refl, refl, refl, refl, refl)

pub returns-clause-digits : goal.returns-clause-digits
unfolding digits_up_to digits identifier value_line
returns-clause-digits c = (refl, refl, refl, refl, refl, refl, refl, refl)

pub returns-clause-numerals : goal.returns-clause-numerals
unfolding digits_up_to digits decimal identifier
returns-clause-numerals c = (refl, refl, refl, refl, refl, refl, refl, refl)
