use Rattle.std.proofs.Common.{◌≡◌, ◌++◌, take}
use Rattle.std.specs.List.{concat}
use Rattle.vs_code.proofs.placed.append_args.Given as goal

-- the lists so far stand behind the arena that was
abbrev pub invariant-loop-arg : goal.invariant-loop-arg
invariant-loop-arg l = l.arena.items ≡ l.initial.arena.items ++ concat (take l.arg-index l.args)
