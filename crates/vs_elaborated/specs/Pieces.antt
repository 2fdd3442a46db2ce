-- What a scope has in text order: its processes and initial processes, its instances and its generate blocks.
use Rattle.std.specs.Prelude.{ℕ, Bool, true, false, List, [], ◌∷◌, ◌++◌, Option}
use Rattle.vs_design.specs.Expressions.{Expression}
use Rattle.vs_design.specs.Statements.{Target, Statement}
use Rattle.vs_design.specs.Designs.{Process}
use Rattle.vs_grammar.specs.Trees.{Module, Item, AlwaysBlock}
use Rattle.vs_const.specs.declared.faults.Fault.{Fault}
use Rattle.vs_elaborated.specs.Environments.{Env}
use Rattle.vs_elaborated.specs.Parameters.{Override}

-- what a scope is made of: an instance of a module, or a generate block's items
pub data Contents : Type 0 where
  OfModule : (m : Module) (overrides : List Override) → Contents
  OfBlock : (items : List Item) → Contents

-- a scope that is still to be read: `depth` counts the instances around it and itself, `place` is the instance's item, `env` is around it
pub record Task : Type 0 where
  pub name : List ℕ
  pub parent : Option ℕ
  pub contents : Contents
  pub depth : ℕ
  pub place : ℕ
  pub env : Env

-- and not a generate block
abbrev pub is_instance : Contents → Bool
is_instance (OfModule m overrides) = true
is_instance (OfBlock items) = false

-- a connected port: an expression for an input, a target for an output
pub data Connection : Type 0 where
  IntoInput : (name : List ℕ) (e : Expression) → Connection
  FromOutput : (name : List ℕ) (place : ℕ) (target : Target) → Connection

-- An always block with named blocks that are scopes, the scope that it stands in, and what names mean there. It is read when the numbers of these scopes and of their signals are known, which
-- follow those of the instances and generate blocks before it.
pub record ScopedBlock : Type 0 where
  pub scope : ℕ
  pub env : Env
  pub block : AlwaysBlock

-- a process of the scope's own, an always block with scopes, an initial process that begins at this place, an instance with its connections, or a generate block
pub data Piece : Type 0 where
  Own : (process : Process) → Piece
  OfScopes : (block : ScopedBlock) → Piece
  Initially : (place : ℕ) (statement : Statement) → Piece
  Instance : (connections : List Connection) (task : Task) → Piece
  Within : (task : Task) → Piece

-- what items say: pieces and faults
pub record Said : Type 0 where
  pub pieces : List Piece
  pub faults : List Fault

-- no piece
abbrev pub nothing_said : List Fault → Said
nothing_said faults = record { pieces = []; faults = faults }

-- one piece
abbrev pub one_said : Piece → List Fault → Said
one_said piece faults = record { pieces = piece ∷ []; faults = faults }

-- in the order of the text
abbrev pub both_said : Said → Said → Said
both_said a b = record { pieces = a.pieces ++ b.pieces; faults = a.faults ++ b.faults }

-- what each of a list says
abbrev pub all_said : {A : Type 0} → (A → Said) → List A → Said
all_said f [] = nothing_said []
all_said f (a ∷ rest) = both_said (f a) (all_said f rest)
