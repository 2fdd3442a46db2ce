-- What is found of a name that is seen at a place of the text.
use Rattle.std.specs.Prelude.{◌≡◌, ◌+◌, ℕ, List, Option, Some, None, length}
use Rattle.vs_const.specs.Meanings.{FunctionMeaning}
use Rattle.vs_const.specs.CallDepths.{calls_in}
use Rattle.vs_const.specs.declared.names.FunctionShape.{FunctionShape}
use Rattle.vs_elaborated.specs.Environments as environment
use Rattle.vs_scope.specs.declared.names.Declared.{Declared}
use Rattle.vs_scope.specs.declared.names.Declared.TheVariants as states
use Rattle.vs_scope.specs.declared.names.Entry.{Entry}
use Rattle.vs_scope.specs.Views.{declared}

-- what a call needs to know of a function
pub record HasShape (f : FunctionShape) (g : FunctionMeaning) : Type 0 where
  pub number : f.number ≡ g.number
  pub inputs : f.inputs + f.passed ≡ length g.header.inputs
  pub passed : f.passed ≡ length g.passed
  pub range : f.range ≡ g.header.result.range
  pub signed : f.signed ≡ g.header.result.signed
  pub known : f.known ≡ g.known
  pub words : g.header.result.words ≡ None
  pub depth : f.depth ≡ calls_in g.statement

-- a function that is complete, and else what is known of the name
abbrev pub StandsFor : Declared → environment.Declared → Type 0
StandsFor (states.Function (Some f)) d = (g : FunctionMeaning) × (d ≡ environment.OfFunction (Some g)) × HasShape f g
StandsFor c d = d ≡ declared c

-- the entry of this name, as the code has it
pub record Finds (found : Option environment.Entry) (name : List ℕ) (c : Entry) : Type 0 where
  pub entry : environment.Entry
  pub found_is : found ≡ Some entry
  pub name_is : entry.name ≡ name
  pub place_is : entry.place ≡ c.first.name.now.place
  pub declared_is : StandsFor c.declared entry.declared
