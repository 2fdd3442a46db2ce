use Rattle.std.proofs.Common.{append_assoc}
use Rattle.vs_vcd.proofs.Appending.{variable_line-is}
use Rattle.vs_vcd.proofs.declarations.push_variable.Goals as goal

pub returns : goal.returns
returns c =
    simp (variable_line-is, c.in_ok-extend_from_slice-3.ensures.items, c.in_ok-push_range.ensures, c.declared_range.ensures, c.in_ok-extend_from_slice-2.ensures.items, c.in_ok-extend_from_slice.ensures.items, c.as_slice.ensures, c.as_slice-2.ensures, c.variable_start.ensures, append_assoc)
