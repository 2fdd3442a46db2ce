use Rattle.std.proofs.Common.{◌∙◌, ap, arith}
use Rattle.vs_vcd.proofs.Bytes.{eight, eight_is}
use Rattle.vs_vcd.proofs.eights.eight.Goals as goal

pub returns : goal.returns
returns c = c.to_le_bytes.ensures ∙ ap eight c.from-copies.ensures ∙ eight_is c.args.byte (omega arith)
