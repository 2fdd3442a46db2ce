use Rattle.std.proofs.Common.{append_assoc}
use Rattle.vs_vcd.proofs.Appending.{scope_line-is}
use Rattle.vs_vcd.proofs.declarations.push_scope_line.Goals as goal

pub returns-clause-text : goal.returns-clause-text
returns-clause-text c =
    simp (scope_line-is, c.in_ok-extend_from_slice-4.ensures.items, c.in_ok-extend_from_slice-3.ensures.items, c.in_ok-extend_from_slice-2.ensures.items, c.in_ok-extend_from_slice.ensures.items, c.scope_kind.ensures, c.as_slice.ensures, append_assoc)
