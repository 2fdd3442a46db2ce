-- What a statement stands in.
use Rattle.std.specs.Prelude.{ℕ, Bool}
use Rattle.vs_const.specs.Meanings.{Meaning}
use Rattle.vs_elaborated.specs.Statements.{Body}
use Rattle.vs_bodies.specs.declared.statements.BodyKind.{BodyKind}

abbrev pub body_of : BodyKind → (unrolls : Bool) → (declared : ℕ → Meaning) → Body
body_of kind unrolls declared = record { declared = declared; in_function = kind.in_function; takes_variables = kind.takes_variables; clocked = kind.clocked; unrolls = unrolls }
