-- What contracts see of a flat design: the lists of what was added, each kind numbered from 0.
use Rattle.std.specs.Prelude.{ℕ, suc, ◌<◌, ◌≤◌, ◌^◌, Bool, true, false, List, [], ◌∷◌, ◌++◌, length, if◌then◌else◌, set, sum_by, Option, None, Some, option_map, slice_get}
use Rattle.vs_design.specs.Expressions.{range_or_one, words_length}
use Rattle.vs_flat.specs.declared.placed.Placed.{Placed}
use Rattle.vs_flat.specs.declared.expressions.Node.{Node}
use Rattle.vs_flat.specs.declared.processes.Scope.{Scope}
use Rattle.vs_flat.specs.declared.processes.Signal.{Signal}
use Rattle.vs_flat.specs.declared.processes.Process.{Process}
use Rattle.vs_flat.specs.declared.processes.Kind.{Kind}
use Rattle.vs_flat.specs.declared.processes.Kind.TheVariants.{Assign, Block}
use Rattle.vs_flat.specs.declared.processes.Initial.{Initial}
use Rattle.vs_flat.specs.declared.statements.Statement.{Statement}
use Rattle.vs_flat.specs.declared.statements.Statement.TheVariants.{Empty}
use Rattle.vs_flat.specs.declared.functions.Function.{Function}
use Rattle.vs_flat.specs.declared.functions.Declared.{Declared}
use Rattle.vs_flat.specs.declared.functions.Body.{Body}

pub record Arena : Type 0 where
  pub scopes : List Scope
  pub signals : List Signal
  pub processes : List Process
  -- in the order of the text
  pub initials : List Initial
  pub nodes : List (Placed Node)
  pub statements : List (Placed Statement)
  -- the functions, and the statements of those that have them
  pub functions : List Declared
  pub bodies : List Body

-- nothing was added
abbrev pub empty_arena : Arena
empty_arena = record { scopes = []; signals = []; processes = []; initials = []; nodes = []; statements = []; functions = []; bodies = [] }

abbrev pub placed : {T : Type 0} → T → ℕ → Placed T
placed item at = record { item = item; at = at }

-- with one more of a kind
abbrev pub with_scope : Arena → Scope → Arena
with_scope a s = record a { scopes = a.scopes ++ s ∷ [] }

abbrev pub with_signal : Arena → Signal → Arena
with_signal a s = record a { signals = a.signals ++ s ∷ [] }

abbrev pub with_process : Arena → Process → Arena
with_process a p = record a { processes = a.processes ++ p ∷ [] }

abbrev pub with_initial : Arena → Initial → Arena
with_initial a i = record a { initials = a.initials ++ i ∷ [] }

abbrev pub with_node : Arena → Node → ℕ → Arena
with_node a n at = record a { nodes = a.nodes ++ placed n at ∷ [] }

abbrev pub with_statement : Arena → Statement → ℕ → Arena
with_statement a s at = record a { statements = a.statements ++ placed s at ∷ [] }

abbrev pub with_function : Arena → Function → Arena
with_function a f = record a { functions = a.functions ++ record { function = f; nodes = length a.nodes; statements = length a.statements } ∷ [] }

abbrev pub with_body : Arena → ℕ → Arena
with_body a s = record a { bodies = a.bodies ++ record { statement = s; nodes = length a.nodes; statements = length a.statements } ∷ [] }

-- whether it is a block
abbrev pub is_block : Kind → Bool
is_block (Assign target e port) = false
is_block (Block star events statement) = true

-- where a process begins in the text
abbrev pub place_of : Option Process → ℕ
place_of None = 0
place_of (Some p) = p.at

-- an `always @* ;`
abbrev pub empty_block : (at statement : ℕ) → Process
empty_block at statement = record { at = at; kind = Block true [] statement }

-- with such a block in the place of process p
abbrev pub with_empty : Arena → ℕ → Arena
with_empty a p =
    let at = place_of (slice_get a.processes p) in
    record a { statements = a.statements ++ placed Empty at ∷ []; processes = set a.processes p (empty_block at (length a.statements)) }

abbrev pub declared_at : Arena → ℕ → Option Declared
declared_at a f = slice_get a.functions f

abbrev pub body_at : Arena → ℕ → Option Body
body_at a f = slice_get a.bodies f

abbrev pub node_at : Arena → ℕ → Option Node
node_at a e = option_map (λ (n : Placed Node). n.item) (slice_get a.nodes e)

abbrev pub node_place : Arena → ℕ → Option ℕ
node_place a e = option_map (λ (n : Placed Node). n.at) (slice_get a.nodes e)

abbrev pub statement_at : Arena → ℕ → Option Statement
statement_at a s = option_map (λ (t : Placed Statement). t.item) (slice_get a.statements s)

abbrev pub statement_place : Arena → ℕ → Option ℕ
statement_place a s = option_map (λ (t : Placed Statement). t.at) (slice_get a.statements s)

-- how many bits a signal has (3.3), in each word of a memory (4.9)
abbrev pub signal_length : Signal → ℕ
signal_length s = words_length s.words (range_or_one s.range)

-- and how many all signals have
abbrev pub bit_count : List Signal → ℕ
bit_count signals = sum_by signal_length signals

-- the numbers of the inputs among these signals, the first of which has this number
abbrev pub inputs_from : ℕ → List Signal → List ℕ
inputs_from n [] = []
inputs_from n (s ∷ ss) = if s.input then (n ∷ inputs_from (suc n) ss) else inputs_from (suc n) ss

-- the inputs of the top, in order of declaration
abbrev pub top_inputs : Arena → List ℕ
top_inputs a = inputs_from 0 a.signals

-- what every flat design keeps: as many of a kind as a number can count, 2^20 bits, 2^16 processes and 2^16 initial processes at most
pub record IsWithinLimits (a : Arena) : Type 0 where
  pub scopes : length a.scopes < 2 ^ 32
  pub nodes : length a.nodes < 2 ^ 32
  pub statements : length a.statements < 2 ^ 32
  pub functions : length a.functions < 2 ^ 32
  pub bodies : length a.bodies ≤ length a.functions
  pub bits : bit_count a.signals ≤ 2 ^ 20
  pub processes : length a.processes ≤ 2 ^ 16
  pub initials : length a.initials ≤ 2 ^ 16
