-- Ports that can be built: what they are connected to is without a fault, and inside there is a signal of their name that is no memory.
use Rattle.std.specs.Prelude.{◌≡◌, ℕ, true, false, List, [], ◌∷◌, Some}
use Rattle.vs_design.specs.Designs.{Design}
use Rattle.vs_design.specs.Elaborated.{is_plain}
use Rattle.vs_grammar.specs.Shapes.{Each}
use Rattle.vs_ast.specs.Views.{expr}
use Rattle.vs_const.specs.Meanings.{SignalMeaning, Find}
use Rattle.vs_elaborated.specs.Environments.{OfSignal, Entry, Env, find_entry}
use Rattle.vs_build.specs.Buildable.{IsBuildable}
use Rattle.vs_build.specs.Outputs.{IsOutput}
use Rattle.vs_items.specs.declared.connections.Connection.{Connection}

-- the names of the innermost scope
abbrev pub own_names : Env → List Entry
own_names env = elim env.frames [ [] ↦ [] | f ∷ fs ↦ f ]

-- a name is this signal
pub record IsSignalOf (es : List Entry) (name : List ℕ) (m : SignalMeaning) : Type 0 where
  pub entry : Entry
  pub found : find_entry es name ≡ Some entry
  pub declared : entry.declared ≡ OfSignal m

-- a connection whose expression is seen by `find`, to a scope of these names
pub record IsWirable (d : Design) (find : Find) (es : List Entry) (c : Connection) : Type 0 where
  pub meaning : SignalMeaning
  pub is : IsSignalOf es c.name.now meaning
  pub there : is_plain d meaning.signal ≡ true
  pub input : c.input ≡ true → IsBuildable d find false (expr c.e.now)
  pub output : c.input ≡ false → IsOutput d find (expr c.e.now)

abbrev pub AreWirable : Design → Find → List Entry → List Connection → Type 0
AreWirable d find es cs = Each (IsWirable d find es) cs
