use Rattle.std.proofs.Common.{◌+◌, ◌-◌, ◌++◌, take, length, ◌∙◌, ap, arith}
use Rattle.std.proofs.lemmas.Slice.{take-put_mid}
use Rattle.vs_vcd.proofs.Digits.{digits_are, length-digits}
use Rattle.vs_vcd.proofs.eights.put_eight.Goals as goal

pub returns-clause-text : goal.returns-clause-text
returns-clause-text c =
    let e = c.copy_from_slice.ensures.after ∙ c.eight-digits.ensures in
    let l = ap length (e ∙ digits_are 8 c.args.byte 0) ∙ length-digits 8 c.args.byte 0 in
    take-put_mid c.args.at (c.args.at + 8 - c.args.at) c.args.block.now c.copy_from_slice.new.self (c.args.at + 8) (omega (arith, l)) (omega arith) ∙ ap (λ xs. take c.args.at c.args.block.now ++ xs) e
