use Rattle.std.proofs.Common.{◌+◌, ◌-◌, ◌∷◌, ◌++◌, [], length, take, ◌∙◌, sym, ap, arith}
use Rattle.std.proofs.lemmas.Slice.{take-put_mid}
use Rattle.vs_vcd.specs.Numerals.{decimal}
use Rattle.vs_vcd.specs.Texts.{time_line}
use Rattle.vs_vcd.proofs.time.put_time.Goals as goal

pub returns-clause-text : goal.returns-clause-text
unfolding time_line
returns-clause-text c =
    let copied = c.copy_from_slice.ensures.after in
    let end = c.args.at + length c.as_slice-text.result.now in
    take-put_mid c.args.at (end - c.args.at) c.args.block.now c.copy_from_slice.new.self end (ap (λ t. c.args.at + length t) (sym copied)) (omega arith)
    ∙ ap (λ t. take c.args.at c.args.block.now ++ t)
    (copied ∙ c.as_slice-text.ensures ∙ c.push-2.ensures ∙ ap (λ t. t ++ 10 ∷ []) (c.push_decimal.ensures.text ∙ ap (λ t. t ++ decimal c.args.time) (c.push.ensures ∙ ap (λ t. t ++ 35 ∷ []) c.new-line.ensures)))
