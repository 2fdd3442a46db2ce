use Rattle.std.proofs.Common.{◌≡◌, take}
use Rattle.vs_build.specs.Growth.{draft}
use Rattle.vs_elab.specs.Functions.{signals_of}
use Rattle.vs_elab.specs.Opening.{and_signals}
use Rattle.vs_elab.proofs.scoped.add_variables.Given as goal

-- those before this one are added
abbrev pub invariant-loop-s : goal.invariant-loop-s
invariant-loop-s l = draft l.builder ≡ and_signals (draft l.fn.builder) (signals_of (take l.s-index l.signals))
