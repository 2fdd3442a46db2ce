use Rattle.std.proofs.Common.{◌≡◌, map, take}
use Rattle.vs_build.specs.Growth.{draft}
use Rattle.vs_elab.specs.Scoped.{and_scopes}
use Rattle.vs_elab.proofs.ScopedParts.{scope_here}
use Rattle.vs_elab.proofs.scoped.add_blocks.Given as goal

-- those before this one are added
abbrev pub invariant-loop-b : goal.invariant-loop-b
invariant-loop-b l = draft l.builder ≡ and_scopes (draft l.fn.builder) (map (scope_here l.around l.first) (take l.b-index l.blocks))
