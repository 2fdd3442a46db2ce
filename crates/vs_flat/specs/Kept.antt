-- How a flat design is kept.
use Rattle.std.specs.Prelude.{◌≡◌}
use Rattle.vs_flat.specs.declared.flat.Flat.TheInside.{Inside}
use Rattle.vs_flat.specs.Arena.{Arena, IsWithinLimits, top_inputs}

abbrev pub arena_of : Inside → Arena
arena_of f = record { scopes = f.scopes.items; signals = f.signals.items; processes = f.processes.items; initials = f.initials.items; nodes = f.nodes.items; statements = f.statements.items; functions = f.functions.items; bodies = f.bodies.items }

pub record IsKept (f : Inside) : Type 0 where
  pub limits : IsWithinLimits (arena_of f)
  -- the inputs stand in a list of their own
  pub inputs : f.inputs.items ≡ top_inputs (arena_of f)
