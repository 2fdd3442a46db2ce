use Rattle.std.proofs.Common.{◌≡◌}
use Rattle.vs_lower.proofs.functions.templates.Given as goal

abbrev pub invariant-loop-f : goal.invariant-loop-f
invariant-loop-f l = (l.all.arena ≡ l.typed) × (l.all.functions ≡ l.f)
