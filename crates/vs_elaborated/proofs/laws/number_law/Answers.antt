use Rattle.vs_elaborated.proofs.NumberedFunctions.{names_numbered, inside_numbered, functions_numbered, scopes_numbered, functions_counted, numbers_stay, more_stand}
use Rattle.vs_elaborated.proofs.laws.number_law.Goals as goal

pub returns : goal.returns
returns c = record { names = names_numbered; inside = inside_numbered; functions = functions_numbered; scopes = scopes_numbered; counted = functions_counted; stay = numbers_stay; more = more_stand }
