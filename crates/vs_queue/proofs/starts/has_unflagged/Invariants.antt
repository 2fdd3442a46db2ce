use Rattle.std.proofs.Common.{◌≡◌, drop}
use Rattle.std.specs.List.{list_any}
use Rattle.vs_queue.specs.Initially.{is_unflagged}
use Rattle.vs_queue.proofs.starts.has_unflagged.Given as goal

abbrev pub invariant-loop-bit : goal.invariant-loop-bit
invariant-loop-bit l = list_any (is_unflagged l.flags) (drop l.bit-index l.bits) ≡ list_any (is_unflagged l.flags) l.bits
