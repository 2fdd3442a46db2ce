use Rattle.std.proofs.Common.{sym, ap, ◌∙◌, Some}
use Rattle.vs_block.proofs.Mixing.{least_one}
use Rattle.vs_block.proofs.mixed.with_place.Goals as goal

pub returns-in-Some : goal.returns-in-Some
returns-in-Some c places h = ap Some c.min.ensures ∙ least_one places c.args.place c.in-Some.before (sym c.in-Some.is ∙ h)
