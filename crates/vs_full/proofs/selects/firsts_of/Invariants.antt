use Rattle.std.proofs.Common.{◌≡◌, ◌<◌, ℕ, List, map, take, length}
use Rattle.std.specs.Prelude.{filter, slice_index_or, false}
use Rattle.vs_design.specs.Expressions.{Signal}
use Rattle.vs_design.specs.Footprints.{contains}
use Rattle.vs_flat.specs.DesignOf.{arena_signals}
use Rattle.vs_full.proofs.selects.firsts_of.Given as goal

-- those of the signals before this one
abbrev pub invariant-loop-n : goal.invariant-loop-n
invariant-loop-n l =
    (numbers : List ℕ) → ((n : ℕ) → n < length l.flat.signals → slice_index_or l.picked n false ≡ contains numbers n)
    → l.firsts.items ≡ map (λ (s : Signal). s.first) (filter (λ (s : Signal). contains numbers s.number) (filter (λ (s : Signal). s.input) (take l.n (arena_signals l.flat))))
