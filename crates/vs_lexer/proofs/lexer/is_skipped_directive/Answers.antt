use Rattle.std.proofs.Common.{◌≡◌, ◌+◌, ◌-◌, [], ◌∷◌, codes, take, drop, ◌∙◌, ap, arith}
use Rattle.std.specs.List.{prefix_len}
use Rattle.vs_lexer.specs.declared.bytes.ByteClass.TheVariants as class
use Rattle.vs_lexer.specs.Classes.{is_in}
use Rattle.vs_lexer.specs.Spellings.{is_among}
use Rattle.vs_lexer.proofs.lexer.is_skipped_directive.Goals as goal

pub returns : goal.returns
returns c =
    let same : 1 + c.run_length-end.result - 1 ≡ prefix_len (is_in class.Name) (drop 1 c.args.text.now) = omega (arith, c.run_length-end.ensures.value) in
    c.is_among.ensures ∙ ap (λ n. is_among (codes "timescale" ∷ codes "default_nettype" ∷ []) (take n (drop 1 c.args.text.now))) same
