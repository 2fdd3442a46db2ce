-- What holds of a scope without a fault, in every design that has its signals: what its names mean, and what its pieces are.
use Rattle.std.specs.Prelude.{◌≡◌, ◌≤◌, ◌<◌, ◌+◌, ℕ, Bool, true, false, List, [], ◌∷◌, length, Option, Some, None}
use Rattle.vs_design.specs.Expressions.{Signal, signal_length, width}
use Rattle.vs_design.specs.Statements.{Function as WholeFunction}
use Rattle.vs_design.specs.Designs.{Design}
use Rattle.vs_design.specs.Footprints.{is_net}
use Rattle.vs_design.specs.Elaborated.{inside, is_signal, is_plain, is_lawful_range, is_formed, is_formed_target, has_constant_selects, is_formed_statement, is_formed_process, is_formed_function, has_clocked_words}
use Rattle.vs_grammar.specs.Trees.{Name, Connections, Function, Item, Module, Source}
use Rattle.vs_grammar.specs.Trees as tree
use Rattle.vs_grammar.specs.Shapes.{Each, AreConnections, IsControl, IsFunction, IsGenerateItem, IsModule, IsStatement}
use Rattle.vs_grammar.specs.Depths.{deepest, item_depth}
use Rattle.vs_const.specs.Meanings.{SignalMeaning, is_local, IsFairValue}
use Rattle.vs_const.specs.Typed.{Typed}
use Rattle.vs_const.specs.Sound.{IsSoundFunction, IsSound, AreSound, IsFine}
use Rattle.vs_elaborated.specs.Limits.{Limits}
use Rattle.vs_elaborated.specs.Environments.{Declared, Later, OfSignal, OfParameter, OfGenvar, OfInteger, OfFunction, OfScope, Entry, Env, find_entry, signal_means, named}
use Rattle.vs_elaborated.specs.Parameters.{Override}
use Rattle.vs_elaborated.specs.Statements.{typed_control}
use Rattle.vs_elaborated.specs.Functions.{locals_in, header_of, function_names, function_body, said_function}
use Rattle.vs_elaborated.specs.Instances.{Around, connection_name, said_overrides, instance_said}
use Rattle.vs_elaborated.specs.Generate.{Nested, Made}
use Rattle.vs_elaborated.specs.Constructs.{constructs}
use Rattle.vs_elaborated.specs.Pieces.{Contents, OfModule, OfBlock, Task, Connection, IntoInput, FromOutput, ScopedBlock, Piece, Own, OfScopes, Initially, Instance, Within}
use Rattle.vs_elaborated.specs.Surveys.{Totals, overrides_of, survey}

-- ---- names

-- a scope declares no local signal of a function; in a constant that is no matter
abbrev pub IsOutside : Bool → SignalMeaning → Type 0
IsOutside true s = Unit {0}
IsOutside false s = is_local s ≡ false

-- a known signal, memory or function of the design, a value, or nothing that an expression can name
abbrev pub IsSoundDeclared : Design → Bool → Declared → Type 0
IsSoundDeclared d needed Later = Unit {0}
IsSoundDeclared d needed (OfSignal s) = IsSound d needed (signal_means s) × IsOutside needed s
IsSoundDeclared d needed (OfParameter (Some v) (Some r)) = IsFairValue v r × (is_lawful_range (Some r) ≡ true)
IsSoundDeclared d needed (OfParameter (Some v) None) = ⊥
IsSoundDeclared d needed (OfParameter None r) = ⊥
IsSoundDeclared d needed OfGenvar = Unit {0}
IsSoundDeclared d needed (OfInteger owner) = Unit {0}
IsSoundDeclared d needed (OfFunction (Some f)) = IsSoundFunction d needed f
IsSoundDeclared d needed (OfFunction None) = Unit {0}
IsSoundDeclared d needed OfScope = Unit {0}

-- those of a scope
abbrev pub AreSoundEntries : Design → Bool → List Entry → Type 0
AreSoundEntries d needed es = Each (λ (e : Entry). IsSoundDeclared d needed e.declared) es

-- those of a scope and of the scopes around it
abbrev pub AreSoundFrames : Design → Bool → List (List Entry) → Type 0
AreSoundFrames d needed fs = Each (AreSoundEntries d needed) fs

-- ---- what is still to be read

-- a constant without a fault
pub record IsConstantFine (d : Design) (t : Typed) : Type 0 where
  pub is_fine : IsFine d true t
  pub most : width t.expression ≤ 64

-- what overrides parameters
abbrev pub AreFineOverrides : Design → List Override → Type 0
AreFineOverrides d os = Each (λ (o : Override). IsConstantFine d o.typed) os

-- it is as the grammar has it
abbrev pub IsShapedContents : Contents → Type 0
IsShapedContents (OfModule m overrides) = IsModule m
IsShapedContents (OfBlock items) = Each IsGenerateItem items

-- a connection without a fault
abbrev pub IsFineConnection : Design → Connection → Type 0
IsFineConnection d (IntoInput name e) = is_formed d e ≡ true
IsFineConnection d (FromOutput name place target) = (is_formed_target d is_net target ≡ true) × (has_constant_selects target ≡ true)

-- a scope of which all that comes from outside is without a fault
pub record IsSoundTask (d : Design) (k : Task) : Type 0 where
  pub frames : AreSoundFrames d false k.env.frames
  pub overrides : AreFineOverrides d (overrides_of k.contents)
  pub shaped : IsShapedContents k.contents

-- an always block with scopes, of which all that is known before these is without a fault
pub record IsSoundBlock (d : Design) (b : ScopedBlock) : Type 0 where
  pub frames : AreSoundFrames d false b.env.frames
  pub control : IsControl b.block.control
  pub statement : IsStatement b.block.statement
  pub clean : (typed_control b.block.control (named b.env)).faults ≡ []

-- a piece without a fault
abbrev pub IsFinePiece : Design → Piece → Type 0
IsFinePiece d (Own p) = (is_formed_process d p ≡ true) × (has_clocked_words p ≡ true)
IsFinePiece d (OfScopes b) = IsSoundBlock d b
IsFinePiece d (Initially place statement) = is_formed_statement d statement ≡ true
IsFinePiece d (Instance connections task) = Each (IsFineConnection d) connections × IsSoundTask d task
IsFinePiece d (Within task) = IsSoundTask d task

abbrev pub AreFinePieces : Design → List Piece → Type 0
AreFinePieces d ps = Each (IsFinePiece d) ps

-- modules of a text
abbrev pub AreModules : List Module → Type 0
AreModules ms = Each IsModule ms

-- ---- the signals of a scope

-- they are numbered from `n` on, have their bits from `b` on, and stand in this scope
abbrev pub AreCounted : (scope n b : ℕ) → List Signal → Type 0
AreCounted scope n b [] = Unit {0}
AreCounted scope n b (s ∷ ss) = (s.number ≡ n) × (s.first ≡ b) × (s.scope ≡ scope) × AreCounted scope (n + 1) (b + signal_length s) ss

-- a name means a signal of the design, and no memory
pub record MeansSignal (d : Design) (es : List Entry) (name : List ℕ) : Type 0 where
  pub entry : Entry
  pub meaning : SignalMeaning
  pub found : find_entry es name ≡ Some entry
  pub declared : entry.declared ≡ OfSignal meaning
  pub there : is_plain d meaning.signal ≡ true

-- each port that an instance connects is a signal in it, if it is as the grammar has it and there is no fault in it (12.3.3)
abbrev pub HasPorts : Design → Limits → Source → Piece → Type 0
HasPorts d limits source (Own p) = Unit {0}
HasPorts d limits source (OfScopes b) = Unit {0}
HasPorts d limits source (Initially place statement) = Unit {0}
HasPorts d limits source (Instance connections task) =
    (totals : Totals) → IsShapedContents task.contents → (survey limits source task totals).faults ≡ [] → AreSoundEntries d false (survey limits source task totals).entries
    → Each (λ (c : Connection). MeansSignal d (survey limits source task totals).entries (connection_name c)) connections
HasPorts d limits source (Within task) = Unit {0}

-- ---- laws

-- sound names have sound meanings
abbrev pub NamesAreSound : Type 0
NamesAreSound = (d : Design) (needed : Bool) (env : Env) → AreSoundFrames d needed env.frames → AreSound d needed (named env)

-- a function without a fault is complete, and what a call of it holds is formed, in every design that has its scope (10.4)
abbrev pub FunctionsAreFormed : Type 0
FunctionsAreFormed = (d : Design) (number most scope : ℕ) (env : Env) (f : Function) → AreSoundFrames d false env.frames → IsFunction f → scope < length d.scopes → (said_function number most scope env f).faults ≡ []
    → IsSoundFunction d false (said_function number most scope env f).meaning

-- in a function names mean known local signals, functions that are formed, values, or nothing that an expression can name (10.4.4), and so do the variables of its named blocks
pub record SeesSound (d : Design) (scope : ℕ) (env : Env) (f : Function) : Type 0 where
  pub names : AreSound (inside d (header_of f (locals_in scope env f))) false (function_names scope env f)
  pub declared : (place : ℕ) → IsSound (inside d (header_of f (locals_in scope env f))) false ((function_body (locals_in scope env f)).declared place)

-- if it has no fault, in every design that has its scope
abbrev pub FunctionsSeeSound : Type 0
FunctionsSeeSound = (d : Design) (number most scope : ℕ) (env : Env) (f : Function) → AreSoundFrames d false env.frames → IsFunction f → scope < length d.scopes → (said_function number most scope env f).faults ≡ []
    → SeesSound d scope env f

-- what is said of a scope that has no fault: in a design that has it and its signals its names, its functions and its pieces are sound, and its bits are within the limit
pub record IsFair (d : Design) (limits : Limits) (source : Source) (t : Task) (totals : Totals) : Type 0 where
  pub names : AreSoundEntries d false (survey limits source t totals).entries
  pub functions : Each (λ (f : WholeFunction). is_formed_function d f ≡ true) (survey limits source t totals).functions
  pub pieces : AreFinePieces d (survey limits source t totals).pieces
  pub bits : totals.bits ≤ limits.bits → (survey limits source t totals).totals.bits ≤ limits.bits

-- a scope without a fault is fair
abbrev pub FaultlessIsFair : Type 0
FaultlessIsFair = (d : Design) (limits : Limits) (source : Source) (t : Task) (totals : Totals) → AreModules source.modules → IsSoundTask d t → totals.scopes < length d.scopes
    → Each (λ (s : Signal). is_signal d s ≡ true) (survey limits source t totals).signals → (survey limits source t totals).faults ≡ [] → IsFair d limits source t totals

-- the signals of every scope follow on
abbrev pub SignalsAreCounted : Type 0
SignalsAreCounted = (limits : Limits) (source : Source) (t : Task) (totals : Totals) → AreCounted totals.scopes totals.signals totals.bits (survey limits source t totals).signals

-- the instances of every scope are connected to signals
abbrev pub PortsAreSignals : Type 0
PortsAreSignals = (d : Design) (limits : Limits) (source : Source) (t : Task) (totals : Totals) → Each (HasPorts d limits source) (survey limits source t totals).pieces

-- the blocks that items make nest less deep than the items (12.4)
abbrev pub BlocksAreLower : Type 0
BlocksAreLower = (most : ℕ) (limits : Limits) (items : List Item) (env : Env) (n total : ℕ) → deepest item_depth items ≤ most
    → Each (λ (m : Made). Each (λ (b : Nested). deepest item_depth b.items + 1 ≤ most) m.blocks) (constructs limits items env n total)

-- ---- of an instance by itself

-- what overrides its parameters is without a fault, where nothing that it says is
abbrev pub OverridesAreFine : Type 0
OverridesAreFine = (d : Design) (env : Env) (of : Name) (m : Option Module) (c : Connections) → AreSoundFrames d false env.frames → AreConnections c → (said_overrides of m c env).faults ≡ []
    → AreFineOverrides d (said_overrides of m c env).overrides

-- its ports are connected to signals
abbrev pub InstancesHavePorts : Type 0
InstancesHavePorts = (d : Design) (limits : Limits) (source : Source) (around : Around) (place : ℕ) (m : Option Module) (os : List Override) (i : tree.Instance)
    → Each (HasPorts d limits source) (instance_said around place m os i).pieces
