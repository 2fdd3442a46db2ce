use Rattle.std.proofs.Common.{List, ℕ, drop, length, map}
use Rattle.vs_values.specs.Coded.{Coding}
use Rattle.vs_lower.specs.Unless.{AddsMade, note_of}
use Rattle.vs_lower.proofs.Making.{AreMakeReady}
use Rattle.vs_lower.proofs.unless.make_updates.Given as goal

-- whatever makes the rest makes all
abbrev pub invariant-loop-k : goal.invariant-loop-k
invariant-loop-k l =
    AreMakeReady (length l.initial.env) l.env l.code (map (note_of l.templates.arena) (drop l.k l.updates))
    × ((last : Coding) (env : List ℕ) → AddsMade l.env env l.code last (map (note_of l.templates.arena) (drop l.k l.updates)) → AddsMade l.initial.env env l.initial.code last (map (note_of l.templates.arena) l.updates))
