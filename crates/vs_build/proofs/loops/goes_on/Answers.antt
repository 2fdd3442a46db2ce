use Rattle.std.proofs.Common.{sym, subst}
use Rattle.vs_const.specs.Meanings.{IsFair}
use Rattle.vs_build.proofs.loops.goes_on.Goals as goal

pub tested_by-requires-clause-fair : goal.tested_by-requires-clause-fair
tested_by-requires-clause-fair g c =
    let declared = g.S.Surroundings.declared c.args.here.now.around.now in
    let find = g.S.Env.names c.args.here.now.around.now in
    subst IsFair (sym (c.in_turn-layers.ensures declared find)) c.requires.fair
