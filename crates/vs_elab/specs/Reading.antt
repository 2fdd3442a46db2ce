-- What has been read of a text, and what is still to be read.
use Rattle.std.specs.Prelude.{◌≡◌, ◌<◌, ◌≤◌, ◌+◌, ◌^◌, ◌++◌, ◌∷◌, [], ℕ, suc, false, List, Some, None, map, length, sum_by, Result, Err}
use Rattle.vs_design.specs.Designs.{Design, bit_count}
use Rattle.vs_grammar.specs.Trees as tree
use Rattle.vs_grammar.specs.Shapes.{Each, IsShaped}
use Rattle.vs_ast.specs.Views as view
use Rattle.vs_const.specs.declared.faults.Fault.{Fault}
use Rattle.vs_const.specs.Faults.{least}
use Rattle.vs_elaborated.specs.Limits.{the_limits}
use Rattle.vs_elaborated.specs.Environments.{within}
use Rattle.vs_elaborated.specs.Pieces.{Task}
use Rattle.vs_elaborated.specs.Surveys.{Loops, Totals, Survey, survey, turned, piece_processes, counts_of, declarations_of, overrides_of}
use Rattle.vs_elaborated.specs.Elaborated.{both_designs, counted, limit_faults, read_scope}
use Rattle.vs_elaborated.specs.Numbers.{AreNumberedFrames}
use Rattle.vs_elaborated.specs.Sound.{AreSoundFrames}
use Rattle.vs_build.specs.Growth.{draft}
use Rattle.vs_scope.specs.declared.frames.Frame.{Frame}
use Rattle.vs_scope.specs.Complete.{KeepsShapes, complete, function_declaration}
use Rattle.vs_scope.specs.Again as again
use Rattle.vs_scope.specs.Frames.{KeepShapes, turn, env_at, envs}
use Rattle.vs_scope.specs.Functions.{functions_in}
use Rattle.vs_scope.specs.Made as code
use Rattle.vs_scope.specs.Surveys.{contents_of, made_in, start_at}
use Rattle.vs_elab.specs.declared.error.ElabError.{ElabError}
use Rattle.vs_elab.specs.declared.error.ElabError.TheVariants.{Broken, Memory}
use Rattle.vs_elab.specs.declared.reading.Text.{Text}
use Rattle.vs_elab.specs.declared.reading.Counts.{Counts}
use Rattle.vs_elab.specs.declared.reading.Reading.{Reading}
use Rattle.vs_elab.specs.declared.reading.NewScope.{NewScope}
use Rattle.vs_elab.specs.declared.surveyed.SurveyedScope.{SurveyedScope}
use Rattle.vs_elab.specs.declared.stack.Pending.{Pending}
use Rattle.vs_elab.specs.declared.pending.Part.{Part}
use Rattle.vs_elab.specs.declared.steps.Standing.{Standing}
use Rattle.vs_items.specs.Modules.{AreOf}
use Rattle.vs_elab.specs.Functions.{IsIdle}
use Rattle.vs_elab.specs.Opening.{signal}
use Rattle.vs_elab.specs.Fine.{IsFinePart, AreFineParts}
use Rattle.vs_elab.specs.Pending.{parts_pieces, scope_around, stack_pieces}
use Rattle.vs_elab.specs.Stacks as stacks
use Rattle.vs_elab.specs.Stacks.{rest_of, built_then, scope_part, work}

-- ---- a text

-- its tree
abbrev pub source_of : Text → tree.Source
source_of t = view.source t.source.now

-- it is as the grammar has it, and its modules are known
pub record IsText (t : Text) : Type 0 where
  pub shaped : IsShaped (source_of t)
  pub modules : AreOf t.modules (source_of t)

-- ---- what has been read

-- the counts so far, with what loops did
abbrev pub totals_of : Counts → Loops → Totals
totals_of c loops = record {
  scopes = c.start.scope;
  signals = c.start.signal;
  bits = c.start.bit;
  instances = c.instances;
  turns = c.turns;
  functions = c.functions;
  loops = loops;
  processes = c.processes;
}

-- those of what has been read
abbrev pub totals_so_far : Reading → Totals
totals_so_far r = totals_of r.counts r.loops

-- the design so far
abbrev pub design_so_far : Reading → Design
design_so_far r = (draft r.builder).design

-- what names mean in each scope is sound in this design
abbrev pub AreSeen : Design → List Frame → Type 0
AreSeen d frames = (i : ℕ) → i < length frames → AreSoundFrames d false (env_at (envs frames) (Some i)).frames

-- the functions that names mean in each scope stand at their numbers
abbrev pub AreNumberedIn : Design → List Frame → Type 0
AreNumberedIn d frames = (i : ℕ) → i < length frames → AreNumberedFrames d (env_at (envs frames) (Some i)).frames

-- the counts are those of the design so far and within the limits, its names are sound, and its functions stand at their numbers
pub record IsRead (r : Reading) : Type 0 where
  pub scopes : length (design_so_far r).scopes ≡ r.counts.start.scope
  pub frames : length r.frames.items ≡ r.counts.start.scope
  pub signals : length (design_so_far r).signals ≡ r.counts.start.signal
  pub bits : bit_count (design_so_far r) ≡ r.counts.start.bit
  pub functions : length (design_so_far r).functions ≡ r.counts.functions
  pub idle : IsIdle (draft r.builder)
  pub few_bits : r.counts.start.bit ≤ 2 ^ 20
  pub few_instances : r.counts.instances ≤ 4096
  pub few_processes : r.counts.processes ≤ 2 ^ 16
  pub kept : KeepShapes r.frames.items
  pub seen : AreSeen (design_so_far r) r.frames.items
  pub numbered : AreNumberedIn (design_so_far r) r.frames.items

-- ---- a scope that is to be read

-- as a task, where these scopes are known
abbrev pub task_of : List Frame → NewScope → Task
task_of frames n = record {
  name = n.name.now;
  parent = n.within;
  contents = contents_of frames n.overrides.now n.contents;
  depth = n.depth;
  place = n.place;
  env = turned (env_at (envs frames) n.parent) (view.option turn n.turn);
}

-- what is found of it: its first fault, its names, and where there is no fault all that is said of it, but its pieces; loops did this then
pub record IsSurveyed (source : tree.Source) (t : Task) (totals : Totals) (loops : Loops) (r : SurveyedScope) : Type 0 where
  pub fault : r.fault ≡ least (survey the_limits source t totals).faults
  pub names : r.fault ≡ None → complete t.env r.names ≡ (survey the_limits source t totals).entries
  pub kept : KeepsShapes t.env r.names
  pub seen : again.AreSeen r.names t.env t.contents (start_at t totals) (counts_of totals)
  pub functions : map function_declaration r.names.functions.items ≡ functions_in (declarations_of t.contents)
  pub signals : map signal r.signals.items ≡ (survey the_limits source t totals).signals
  pub made : map code.made r.made.items ≡ map code.kept (made_in t.env t.contents (start_at t totals) (counts_of totals) totals.turns)
  pub blocks : Each code.AreShapedBlocks r.made.items
  pub totals_is : r.fault ≡ None → totals_of r.counts loops ≡ (survey the_limits source t totals).totals
  pub few : r.counts.processes ≤ 2 ^ 16
  pub later : r.counts.start.top ≡ false

-- all that is said of it
abbrev pub surveyed : tree.Source → Task → Reading → Survey
surveyed source t r = survey the_limits source t (counted t (totals_so_far r))

-- it is read but for its pieces, which are these parts: it breaks no rule, and the design has it with its signals and functions
pub record IsOpened (source : tree.Source) (t : Task) (old new : Reading) (ps : List Part) : Type 0 where
  pub limits : least (limit_faults the_limits t (counted t (totals_so_far old))) ≡ None
  pub fair : least (surveyed source t old).faults ≡ None
  pub design : design_so_far new ≡ both_designs (design_so_far old) (scope_part t (surveyed source t old))
  pub totals_is : totals_so_far new ≡ (surveyed source t old).totals
  pub frame : Frame
  pub frames : new.frames.items ≡ old.frames.items ++ frame ∷ []
  pub seen : env_at (envs new.frames.items) (Some (length old.frames.items)) ≡ within t.env (surveyed source t old).entries
  pub pieces : parts_pieces source (scope_around new.frames.items (length old.frames.items) t.depth) ps ≡ (surveyed source t old).pieces
  pub parts : AreFineParts source (within t.env (surveyed source t old).entries) ps
  pub read : IsRead new
  pub later : new.counts.start.top ≡ false

-- ---- errors

-- want of memory, or this holds of the first fault
abbrev pub Tells : ElabError → (Fault → Type 0) → Type 0
Tells Memory P = Unit {0}
Tells (Broken f) P = P f

-- the scope has this fault, however deep scopes may stand within one another
abbrev pub FailsBy : tree.Source → Task → Totals → Fault → Type 0
FailsBy source t totals f = (left : ℕ) → read_scope (suc left) the_limits source t totals ≡ Err f

-- ---- what is pending

-- a part that is still to be read breaks no rule in its scope
pub record IsPending (source : tree.Source) (frames : List Frame) (p : Pending) : Type 0 where
  pub within : p.frame < length frames
  pub depth : p.depth ≤ 32
  pub fine : IsFinePart source (env_at (envs frames) (Some p.frame)) p.part

abbrev pub ArePending : tree.Source → List Frame → List Pending → Type 0
ArePending source frames ps = Each (IsPending source frames) ps

-- a part that stands here
abbrev pub pending_at : Standing → Part → Pending
pending_at at part = record { frame = at.frame; depth = at.depth; left = at.left; part = part }

-- how many processes they have
abbrev pub pending_processes : List stacks.Pending → ℕ
pending_processes qs = sum_by (λ (q : stacks.Pending). piece_processes q.piece) qs

-- how many there are in a design, initial ones among them
abbrev pub processes_in : Design → ℕ
processes_in d = length d.processes + length d.initials

-- what has been read and what is pending is all there is
pub record IsReading (text : Text) (r : Reading) (stack : List Pending) : Type 0 where
  pub read : IsRead r
  pub later : r.counts.start.top ≡ false
  pub pending : ArePending (source_of text) r.frames.items stack
  pub room : processes_in (design_so_far r) + pending_processes (stack_pieces (source_of text) r.frames.items stack) ≡ r.counts.processes

-- the whole design, or the first fault of what is pending
abbrev pub outcome : Text → Reading → List Pending → Result Design Fault
outcome text r stack = built_then (design_so_far r) (rest_of the_limits (source_of text) (stack_pieces (source_of text) r.frames.items stack) (totals_so_far r))

-- how many pieces are still to be read
abbrev pub work_left : Text → Reading → List Pending → ℕ
work_left text r stack = work the_limits (source_of text) (stack_pieces (source_of text) r.frames.items stack) (totals_so_far r)

-- one step: less is pending, and the outcome is the same
pub record IsStep (text : Text) (r : Reading) (stack : List Pending) (s : Reading) (rest : List Pending) : Type 0 where
  pub reading : IsReading text s rest
  pub same : outcome text s rest ≡ outcome text r stack
  pub less : work_left text s rest < work_left text r stack
