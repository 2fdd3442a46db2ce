use Rattle.vs_elaborated.proofs.SoundNames.{named_sound}
use Rattle.vs_elaborated.proofs.SoundScopes.{functions_are_formed, functions_see_sound, faultless_fair, signals_counted, ports_signals, blocks_lower}
use Rattle.vs_elaborated.proofs.laws.scope_law.Goals as goal

pub returns : goal.returns
returns c = record { names = named_sound; functions = functions_are_formed; inside = functions_see_sound; fair = faultless_fair; counted = signals_counted; ports = ports_signals; blocks = blocks_lower }
