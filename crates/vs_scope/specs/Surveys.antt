-- All that one scope says but for its items, part by part; the survey of a scope is of these parts (IEEE 1364-2005, clause 12).
use Rattle.std.specs.Prelude.{◌≡◌, ℕ, ◌+◌, false, List, [], ◌++◌, flat_map, sum_by, is_none}
use Rattle.vs_ast.specs.Views as view
use Rattle.vs_grammar.specs.Trees as tree
use Rattle.vs_grammar.specs.Shapes.{Each, IsGenerateItem, IsModule}
use Rattle.vs_design.specs.Expressions.{signal_length}
use Rattle.vs_const.specs.declared.faults.Fault.{Fault}
use Rattle.vs_const.specs.Faults.{least, better}
use Rattle.vs_elaborated.specs.Limits.{the_limits}
use Rattle.vs_elaborated.specs.Environments.{Entry, Env, within, find_entry, named}
use Rattle.vs_elaborated.specs.Functions.{Counts}
use Rattle.vs_elaborated.specs.Signals.{Start, SaidSignal, all_nets, net_count}
use Rattle.vs_elaborated.specs.Generate.{BlockName, Made}
use Rattle.vs_elaborated.specs.Constructs.{constructs}
use Rattle.vs_elaborated.specs.Pieces.{Contents as ContentsOf, OfModule, OfBlock, Task, Said}
use Rattle.vs_design.specs.Statements.{Function}
use Rattle.vs_elaborated.specs.Surveys.{Loops, loops_behind, contents_said, contents_unheard, block_faults, block_entries, Totals, bits_over, piece_processes, processes_over, turns_after, items_of, declarations_of, overrides_of, header_of, counts_of, Survey, survey}
use Rattle.vs_scope.specs.declared.contents.Contents.{Contents}
use Rattle.vs_scope.specs.declared.contents.Contents.TheVariants.{Module, Block}
use Rattle.vs_scope.specs.declared.frames.Frame.{Frame}
use Rattle.vs_maps.specs.declared.maps.NameMap.{NameMap}
use Rattle.vs_scope.specs.declared.parameters.Override.{Override}
use Rattle.vs_scope.specs.Contents.{block_items}
use Rattle.vs_scope.specs.Overrides as code
use Rattle.vs_scope.specs.Scopes.{said_signals_of, said_functions_of, said_faults}

-- ---- a scope of the code

-- what a scope is made of; a block has no overrides
abbrev pub contents_of : List Frame → NameMap Override → Contents → ContentsOf
contents_of frames overrides (Module m) = OfModule (view.module_tree m.now) (code.overrides_of frames overrides)
contents_of frames overrides (Block b) = OfBlock (block_items b)

-- it is as the grammar has it
abbrev pub IsShapedScope : Contents → Type 0
IsShapedScope (Module m) = IsModule (view.module_tree m.now)
IsShapedScope (Block b) = Each IsGenerateItem (block_items b)

-- each name means the same
abbrev pub MeanTheSame : List Entry → List Entry → Type 0
MeanTheSame es fs = (name : List ℕ) → find_entry es name ≡ find_entry fs name

-- ---- the parts

-- the names that declarations make, with the functions, behind these counts
abbrev pub declared_in : Env → ContentsOf → Start → Counts → List Entry
declared_in env c start before = (said_functions_of env (overrides_of c) start before (declarations_of c)).entries

-- the functions
abbrev pub called_in : Env → ContentsOf → Start → Counts → List Function
called_in env c start before = (said_functions_of env (overrides_of c) start before (declarations_of c)).functions

-- the counts behind them
abbrev pub counts_behind : Env → ContentsOf → Start → Counts → Counts
counts_behind env c start before = (said_functions_of env (overrides_of c) start before (declarations_of c)).counts

-- the signals
abbrev pub signals_in : Env → ContentsOf → Start → List SaidSignal
signals_in env c start = said_signals_of env (overrides_of c) start (declarations_of c)

-- what each item makes; `turns` counts those of all loops before this scope
abbrev pub made_in : Env → ContentsOf → Start → Counts → (turns : ℕ) → List Made
made_in env c start before turns = constructs the_limits (items_of c) (within env (declared_in env c start before)) 1 turns

-- the names of blocks
abbrev pub blocks_in : Env → ContentsOf → Start → Counts → (turns : ℕ) → List BlockName
blocks_in env c start before turns = flat_map (λ (m : Made). m.names) (made_in env c start before turns)

-- all names
abbrev pub entries_in : Env → ContentsOf → Start → Counts → (turns : ℕ) → List Entry
entries_in env c start before turns = declared_in env c start before ++ block_entries (blocks_in env c start before turns)

-- of constructs
abbrev pub made_faults : List Made → List Fault
made_faults ms = flat_map (λ (m : Made). m.faults) ms

-- all faults but those of the items themselves
abbrev pub faults_in : Env → ContentsOf → Start → Counts → (turns : ℕ) → List Fault
faults_in env c start before turns =
    header_of c
    ++ (said_faults env (overrides_of c) start before (declarations_of c)
    ++ (made_faults (made_in env c start before turns) ++ (block_faults (declared_in env c start before) [] (blocks_in env c start before turns) ++ bits_over the_limits.bits start.bit (signals_in env c start))))

-- how many turns there are behind the scope
abbrev pub turns_behind : Env → ContentsOf → Start → Counts → (turns : ℕ) → ℕ
turns_behind env c start before turns = turns_after turns (made_in env c start before turns)

-- where the signals of the next scope begin, which isn't the top
abbrev pub start_behind : Env → ContentsOf → Start → Start
start_behind env c start =
    let ss = signals_in env c start in
    record { scope = start.scope + 1; top = false; signal = start.signal + net_count ss; bit = start.bit + sum_by (λ (s : SaidSignal). signal_length s.meaning.signal) ss }

-- ---- the survey

-- where a scope's signals begin
abbrev pub start_at : Task → Totals → Start
start_at t totals = record { scope = totals.scopes; top = is_none t.parent; signal = totals.signals; bit = totals.bits }

-- what is seen in it
abbrev pub scope_env : Task → Totals → Env
scope_env t totals = within t.env (entries_in t.env t.contents (start_at t totals) (counts_of totals) totals.turns)

-- the loops before its items: those of its functions copied statements too
abbrev pub loops_in : Task → Totals → Loops
loops_in t totals = record totals.loops { copies = (counts_behind t.env t.contents (start_at t totals) (counts_of totals)).copies }

-- what its header and its items say
abbrev pub said_in : tree.Source → Task → Totals → Said
said_in source t totals =
    contents_said the_limits source (record { scope = totals.scopes; depth = t.depth; env = scope_env t totals }) (loops_in t totals) t.contents (made_in t.env t.contents (start_at t totals) (counts_of totals) totals.turns)

-- the faults of the items themselves, and of the processes that aren't woken by what functions read
abbrev pub items_faults : tree.Source → Task → Totals → List Fault
items_faults source t totals =
    (said_in source t totals).faults ++ (processes_over the_limits.processes totals.processes (said_in source t totals).pieces ++ contents_unheard (named (scope_env t totals)) t.contents)

-- the counts behind it
abbrev pub totals_behind : tree.Source → Task → Totals → Totals
totals_behind source t totals =
    let next = start_behind t.env t.contents (start_at t totals) in
    record totals {
      scopes = next.scope;
      signals = next.signal;
      bits = next.bit;
      turns = turns_behind t.env t.contents (start_at t totals) (counts_of totals) totals.turns;
      functions = (counts_behind t.env t.contents (start_at t totals) (counts_of totals)).functions;
      loops = loops_behind the_limits (scope_env t totals) (loops_in t totals) (items_of t.contents);
      processes = totals.processes + sum_by piece_processes (said_in source t totals).pieces;
    }

-- a survey is of these parts
pub record IsOfParts (source : tree.Source) (t : Task) (totals : Totals) (s : Survey) : Type 0 where
  pub entries : s.entries ≡ entries_in t.env t.contents (start_at t totals) (counts_of totals) totals.turns
  pub signals : s.signals ≡ all_nets (signals_in t.env t.contents (start_at t totals))
  pub functions : s.functions ≡ called_in t.env t.contents (start_at t totals) (counts_of totals)
  pub pieces : s.pieces ≡ (said_in source t totals).pieces
  pub fault : least s.faults ≡ better (least (faults_in t.env t.contents (start_at t totals) (counts_of totals) totals.turns)) (least (items_faults source t totals))
  pub totals_is : s.totals ≡ totals_behind source t totals

-- every survey is
abbrev pub SurveysAreOfParts : Type 0
SurveysAreOfParts = (source : tree.Source) (t : Task) (totals : Totals) → IsOfParts source t totals (survey the_limits source t totals)
