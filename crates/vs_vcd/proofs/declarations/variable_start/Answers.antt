use Rattle.std.proofs.Common.{append_assoc, sym, ◌∙◌}
use Rattle.vs_flat.specs.Trees.{signal_of}
use Rattle.vs_vcd.specs.Scopes.{variable_start}
use Rattle.vs_vcd.proofs.Arenas.{plain_length}
use Rattle.vs_vcd.proofs.declarations.variable_start.Goals as goal

pub returns : goal.returns
unfolding variable_start
returns c =
    simp (c.push-3.ensures, c.push_identifier.ensures.text, c.push-2.ensures, c.push_decimal.ensures.text, c.range_bits.ensures ∙ sym (plain_length (signal_of c.args.code c.args.signal.now) c.requires), c.push.ensures, c.push_text-2.ensures, c.variable_kind.ensures.kind, c.push_text.ensures, c.new-line.ensures, append_assoc)
