use Rattle.std.proofs.Common.{◌≡◌, ◌-◌, ◌^◌, ◌/◌, ◌++◌}
use Rattle.vs_bench.specs.Texts.{binary}
use Rattle.vs_bench.proofs.texts.push_binary.Given as goal

abbrev pub invariant-loop-place : goal.invariant-loop-place
invariant-loop-place l = l.text.items ≡ l.initial.text.items ++ binary (32 - l.place) (l.number / 2 ^ l.place)
