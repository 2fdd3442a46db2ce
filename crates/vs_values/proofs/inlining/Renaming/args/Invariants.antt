use Rattle.std.proofs.Common.{◌≡◌, map, take, ℕ, List}
use Rattle.vs_values.specs.Templates.{renamed}
use Rattle.vs_values.proofs.inlining.Renaming.args.Given as goal

abbrev pub invariant-loop-arg : goal.invariant-loop-arg
invariant-loop-arg l = l.to.items ≡ map (λ (arg : List ℕ). map (renamed l.self.names.items l.self.first) arg) (take l.arg-index l.args)
