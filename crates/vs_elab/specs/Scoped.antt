-- Always blocks whose named blocks are scopes, as they are read (IEEE 1364-2005, 9.8.2).
use Rattle.std.specs.Prelude.{◌≡◌, ◌+◌, ℕ, List, [], ◌++◌, length, None, Some}
use Rattle.vs_design.specs.Designs as design
use Rattle.vs_design.specs.Expressions.{Signal}
use Rattle.vs_grammar.specs.Trees as tree
use Rattle.vs_grammar.specs.Shapes.{Each}
use Rattle.vs_ast.specs.Views as view
use Rattle.vs_ast.specs.declared.items.AlwaysBlock.{AlwaysBlock}
use Rattle.vs_const.specs.Faults.{least}
use Rattle.vs_elaborated.specs.Limits.{the_limits}
use Rattle.vs_elaborated.specs.Pieces.{ScopedBlock}
use Rattle.vs_elaborated.specs.Environments.{Env}
use Rattle.vs_elaborated.specs.Statements.{TypedStatement}
use Rattle.vs_elaborated.specs.NamedBlocks.{named_blocks}
use Rattle.vs_elaborated.specs.Surveys.{Loops, Totals, scoped_signals, scoped_statement}
use Rattle.vs_elaborated.specs.Elaborated.{both_designs, scoped_design, scoped_totals, scoped_faults}
use Rattle.vs_build.specs.Drafts.{Draft}
use Rattle.vs_build.specs.Growth.{draft}
use Rattle.vs_scope.specs.declared.frames.Frame.{Frame}
use Rattle.vs_scope.specs.declared.signals.Start.{Start}
use Rattle.vs_scope.specs.Complete.{IsIncomplete}
use Rattle.vs_scope.specs.Views.{entries}
use Rattle.vs_scope.specs.Frames.{env_at, envs}
use Rattle.vs_elab.specs.declared.reading.Reading.{Reading}
use Rattle.vs_elab.specs.Functions.{IsIdle}
use Rattle.vs_elab.specs.Opening.{and_signals}
use Rattle.vs_elab.specs.Reading.{IsRead, design_so_far, totals_so_far}

-- one that stands in the scope of this number, where names mean this
abbrev pub block_at : (frame : ℕ) → Env → tree.AlwaysBlock → ScopedBlock
block_at frame env b = record { scope = frame; env = env; block = b }

-- and where these scopes are known
abbrev pub scoped_at : List Frame → (frame : ℕ) → AlwaysBlock → ScopedBlock
scoped_at frames frame b = block_at frame (env_at (envs frames) (Some frame)) (view.always_block b)

-- the counts that it goes by: where its scopes, signals and bits begin, and what loops did before
abbrev pub totals_at : Start → Loops → Totals
totals_at start loops = record { scopes = start.scope; signals = start.signal; bits = start.bit; instances = 0; turns = 0; functions = 0; loops = loops; processes = 0 }

-- what loops did behind it
abbrev pub loops_with : Loops → TypedStatement → Loops
loops_with loops s = record { copies = loops.copies + s.copies; headed = loops.headed }

-- with these scopes more
abbrev pub and_scopes : Draft → List design.Scope → Draft
and_scopes s xs = record s { design = record s.design { scopes = s.design.scopes ++ xs } }

-- a scope that declares no name
pub record IsEmptyFrame (f : Frame) : Type 0 where
  pub entries : entries f.names ≡ []
  pub incomplete : IsIncomplete f.names
  pub parent : f.parent ≡ None
  pub turn : f.turn ≡ None

-- so many of them more
pub record AreMoreFrames (old new : List Frame) (count : ℕ) : Type 0 where
  pub more : List Frame
  pub is : new ≡ old ++ more
  pub count_is : length more ≡ count
  pub empty : Each IsEmptyFrame more

-- with these scopes and signals more
abbrev pub with_variables : Draft → List design.Scope → List Signal → Draft
with_variables s xs ss = and_signals (and_scopes s xs) ss

-- with all that an always block has, and its process
abbrev pub with_scoped : Draft → ScopedBlock → Totals → Draft
with_scoped s b t = record s { design = both_designs s.design (scoped_design b t (scoped_signals b t) (scoped_statement the_limits b t)) }

-- it breaks no rule, and has been read
pub record ScopedIsRead (old new : Reading) (b : ScopedBlock) : Type 0 where
  pub fair : least (scoped_faults the_limits b (totals_so_far old)) ≡ None
  pub design : design_so_far new ≡ both_designs (design_so_far old) (scoped_design b (totals_so_far old) (scoped_signals b (totals_so_far old)) (scoped_statement the_limits b (totals_so_far old)))
  pub idle : IsIdle (draft new.builder)
  pub totals : totals_so_far new ≡ scoped_totals b (totals_so_far old) (scoped_signals b (totals_so_far old)) (scoped_statement the_limits b (totals_so_far old))
  pub frames : AreMoreFrames old.frames.items new.frames.items (length (named_blocks b.block.statement))
  pub read : IsRead new
  pub top : new.counts.start.top ≡ old.counts.start.top
