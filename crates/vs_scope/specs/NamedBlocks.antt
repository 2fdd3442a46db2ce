-- What the code finds of named blocks that are scopes.
use Rattle.std.specs.Prelude.{◌≡◌, ◌+◌, ℕ, suc, Bool, false, List, [], ◌∷◌, ◌++◌, length, map, sum_by, Some}
use Rattle.std.specs.List.{list_any}
use Rattle.vs_design.specs.Clocks.{same_name}
use Rattle.vs_design.specs.Expressions.{signal_length}
use Rattle.vs_grammar.specs.Shapes.{Each}
use Rattle.vs_ast.specs.Views as view
use Rattle.vs_const.specs.declared.names.Role.TheVariants.{InModule}
use Rattle.vs_const.specs.Faults.{least, better}
use Rattle.vs_elaborated.specs.Environments.{Env}
use Rattle.vs_elaborated.specs.Functions as functions
use Rattle.vs_elaborated.specs.Generate.{BlockName}
use Rattle.vs_elaborated.specs.NamedBlocks as spec
use Rattle.vs_elaborated.specs.Statements.{Local, scope_locals}
use Rattle.vs_maps.specs.declared.sets.NameSet.{NameSet}
use Rattle.vs_maps.specs.Sets.{has}
use Rattle.vs_scope.specs.declared.signals.Start.{Start}
use Rattle.vs_scope.specs.declared.local_signals.Signalling.{Signalling}
use Rattle.vs_scope.specs.declared.block_scopes.NamedBlock.{NamedBlock}
use Rattle.vs_scope.specs.declared.block_scopes.SaidBlocks.{SaidBlocks}
use Rattle.vs_scope.specs.Locals.{inside_declared, local, local_start, placed_local, placed_local_of}
use Rattle.vs_scope.specs.LocalLists.{AreShapedLocals, local_faults}

abbrev pub named : NamedBlock → spec.NamedBlock
named b = record {
  name = view.name b.name.now;
  outer = b.outer;
  locals = scope_locals (Some (view.block_scope b.scope.now));
  variables = map local b.variables.items;
  parts = view.statements b.parts.now;
}

-- ---- names

abbrev pub local_texts : List Local → List (List ℕ)
local_texts vs = map (λ (v : Local). v.name.bytes) vs

abbrev pub is_among : List (List ℕ) → List ℕ → Bool
is_among names n = list_any (λ (x : List ℕ). same_name x n) names

-- a set has these
abbrev pub AreKnown : NameSet → List (List ℕ) → Type 0
AreKnown s names = (n : List ℕ) → has s n ≡ is_among names n

-- those behind the names of blocks
abbrev pub names_after : List (List ℕ) → List BlockName → List (List ℕ)
names_after names [] = names
names_after names (b ∷ bs) = names_after (b.name ∷ names) bs

-- ---- variables

-- the types of their variables are as the grammar has them
abbrev pub AreShapedBlocks : List spec.NamedBlock → Type 0
AreShapedBlocks bs = Each (λ (b : spec.NamedBlock). AreShapedLocals b.variables) bs

-- where what follows begins
abbrev pub behind_blocks : Env → functions.Start → List spec.NamedBlock → functions.Start
behind_blocks env start [] = start
behind_blocks env start (b ∷ bs) = behind_blocks env (record (functions.behind_all start (functions.signals_of env start InModule false b.variables)) { scope = suc start.scope }) bs

-- the variables of these blocks more
pub record IsSignedBlocks (old new : Signalling) (env : Env) (bs : List spec.NamedBlock) : Type 0 where
  pub signals : map placed_local new.signals.items ≡ map placed_local old.signals.items ++ map placed_local_of (spec.named_signals env (local_start old.next) bs)
  pub next : local_start new.next ≡ behind_blocks env (local_start old.next) bs
  pub fault : new.fault ≡ better old.fault (least (local_faults (spec.named_signals env (local_start old.next) bs)))

-- where they begin
abbrev pub blocks_start : Start → functions.Start
blocks_start start = record { scope = start.scope; signal = start.signal; bit = start.bit }

-- what is said of the blocks of an always block
pub record IsSaidBlocks (c : SaidBlocks) (env : Env) (start : Start) (bs : List spec.NamedBlock) : Type 0 where
  pub signals : map placed_local c.inside.locals.signals.items ≡ map placed_local_of (spec.named_signals env (blocks_start start) bs)
  pub declared : (place : ℕ) → inside_declared c.inside place ≡ functions.meaning_or (functions.signal_at (spec.named_signals env (blocks_start start) bs) place)
  pub fault : c.fault ≡ least (local_faults (spec.named_signals env (blocks_start start) bs))
  pub scope : c.next.scope ≡ start.scope + length bs
  pub signal : c.next.signal ≡ start.signal + length (spec.named_signals env (blocks_start start) bs)
  pub bit : c.next.bit ≡ start.bit + sum_by (λ (s : functions.LocalSignal). signal_length s.meaning.signal) (spec.named_signals env (blocks_start start) bs)
  pub top : c.next.top ≡ start.top
