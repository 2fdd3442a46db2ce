use Rattle.std.proofs.Common.{◌≡◌, map, take}
use Rattle.vs_job.proofs.text.Texts.bytes.Given as goal

abbrev pub invariant-loop-text : goal.invariant-loop-text
invariant-loop-text l = map (λ b. b.now) l.bytes.items ≡ take l.text-index l.text-items
