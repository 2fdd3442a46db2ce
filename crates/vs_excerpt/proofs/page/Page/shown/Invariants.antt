use Rattle.std.proofs.Common.{◌≡◌, ◌++◌, take}
use Rattle.vs_excerpt.specs.Escapes as spec
use Rattle.vs_excerpt.proofs.page.Page.shown.Given as goal

abbrev pub invariant-loop-byte : goal.invariant-loop-byte
invariant-loop-byte l = l.self ≡ l.initial.self ++ spec.shown (take l.byte-index l.bytes)
