-- What an expression has to be: anything, a constant, or a constant that names no integer of a loop either.
use Rattle.std.specs.Prelude.{Bool, true, false}
use Rattle.vs_const.specs.declared.needs.Need.{Need}
use Rattle.vs_const.specs.declared.needs.Need.TheVariants.{Anything, Steady}
use Rattle.vs_const.specs.Meanings.{Find, steady}

-- whether it has to be a constant
abbrev pub is_needed : Need → Bool
is_needed Anything = false
is_needed _ = true

-- what each name means in it
abbrev pub names_for : Need → Find → Find
names_for Steady find = steady find
names_for _ find = find
