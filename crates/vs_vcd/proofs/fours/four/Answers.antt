use Rattle.std.proofs.Common.{◌∙◌, ap, arith}
use Rattle.vs_vcd.proofs.Bytes.{four, four_is}
use Rattle.vs_vcd.proofs.fours.four.Goals as goal

pub returns : goal.returns
returns c = c.to_le_bytes.ensures ∙ ap four c.from-copies.ensures ∙ four_is c.args.planes (omega arith)
