use Rattle.std.proofs.Common.{◌≡◌, map, take}
use Rattle.vs_build.specs.Growth.{draft}
use Rattle.vs_elab.specs.Opening.{signal, and_signals}
use Rattle.vs_elab.proofs.opening.add_signals.Given as goal

-- those before this one are added
abbrev pub invariant-loop-s : goal.invariant-loop-s
invariant-loop-s l = draft l.builder ≡ and_signals (draft l.fn.builder) (map signal (take l.s-index l.signals))
