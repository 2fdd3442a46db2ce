-- Runs of the example.
use Rattle.std.proofs.Common.{◌≡◌, [], ◌∷◌, inl, inr, refl, map}
use Rattle.vs_net.specs.Queue.{start, change, changes, is_held, ends}
use Rattle.vs_net.specs.LevelRun.{level_run}
use Rattle.vs_net.specs.Example.{example, example_idle, example_start, six_bits, example_ends, ExampleRuns}
use Rattle.vs_net.proofs.Levelled.{level_run_is_one}
use Rattle.vs_net.proofs.Example.{ordered, example_lawful}

level_ends : map six_bits (ends example example_start (level_run example (0 ∷ 1 ∷ 2 ∷ []) example_start)) ≡ example_ends
unfolding change changes is_held
level_ends = refl

pub example_runs : ExampleRuns
example_runs = record {
  first = λ b. inl refl;
  known = λ p b k w. inr refl;
  runs = λ v vs known resets.
      let r = level_run_is_one example example_lawful (0 ∷ 1 ∷ 2 ∷ []) ordered example_idle v vs (λ b. inl refl) known resets in
      (level_run example (0 ∷ 1 ∷ 2 ∷ []) (start example example_idle v vs), r.0, r.1);
  level_order = ordered;
  level_ends = level_ends;
}
