use Rattle.std.proofs.Common.{sym, subst}
use Rattle.vs_flat.specs.Lawful.{IsLawful}
use Rattle.vs_values.proofs.locals.local_slots.Goals as goal

pub local_of-signal-requires-clause-lawful : goal.local_of-signal-requires-clause-lawful
local_of-signal-requires-clause-lawful c = subst IsLawful (sym c.flat.ensures.same) c.flat.ensures.lawful
