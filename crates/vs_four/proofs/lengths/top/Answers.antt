use Rattle.std.proofs.Common.{◌-◌, arith}
use Rattle.vs_four.specs.declared.Bit4.TheVariants.{Zero}
use Rattle.vs_four.proofs.LengthsLemmas.{last_or-slice_get}
use Rattle.vs_four.proofs.lengths.top.Goals as goal

pub returns : goal.returns
returns c = last_or-slice_get Zero _ c.args.a (c.len.result - 1) (omega (arith, c.len.ensures.some, c.len.ensures.length)) c.get.ensures
