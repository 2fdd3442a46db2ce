use Rattle.std.proofs.Common.{refl}
use Rattle.vs_stim.proofs.Endings.{outside_of}
use Rattle.vs_stim.proofs.Stepped.{same_form}
use Rattle.vs_stim.proofs.row.Row.end_word.Goals as goal

pub returns-in-Start : goal.returns-in-Start
returns-in-Start c =
    let row = c.args.self.now in
    record { row = c.requires; says = refl; outside = outside_of row.spot row.wants.part c.in-Start.is; form = same_form row }
