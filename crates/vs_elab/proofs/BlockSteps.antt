-- A generate block is opened.
use Rattle.std.proofs.Common.{◌≡◌, ℕ, suc, ◌<◌, false, List, [], ◌∷◌, ◌++◌, length, map, Option, Some, None, Vec, Global, refl, sym, ap, ◌∙◌, subst, rules}
use Rattle.std.specs.Prelude.{Err, IsTrue, option_to_list}
use Rattle.std.specs.Borrow.{Bor}
use Rattle.std.proofs.lemmas.Bool.{lt-ltb}
use Rattle.vs_flat.specs.Named.{all_below}
use Rattle.vs_design.specs.Designs.{Design}
use Rattle.vs_grammar.specs.Trees as tree
use Rattle.vs_ast.specs.declared.items.Item.{Item}
use Rattle.vs_ast.specs.Views as view
use Rattle.vs_const.specs.declared.faults.Fault.{Fault}
use Rattle.vs_elaborated.specs.Limits.{the_limits}
use Rattle.vs_elaborated.specs.Environments.{Env}
use Rattle.vs_elaborated.specs.Environments as environment
use Rattle.vs_elaborated.specs.Pieces.{Task, OfBlock, Within}
use Rattle.vs_elaborated.specs.Surveys.{turned}
use Rattle.vs_elaborated.specs.Elaborated.{read_scope}
use Rattle.vs_elaborated.specs.Numbers.{AreNumberedFrames}
use Rattle.vs_elaborated.specs.Sound.{IsSoundTask, AreSoundFrames}
use Rattle.vs_scope.specs.declared.frames.Frame.{Frame}
use Rattle.vs_scope.specs.declared.frames.Turn.{Turn}
use Rattle.vs_scope.specs.Frames.{turn, env_at, envs}
use Rattle.vs_elab.specs.declared.pending.Part.{Part}
use Rattle.vs_elab.specs.declared.pending.Part.TheVariants.{Block}
use Rattle.vs_elab.specs.declared.reading.Reading.{Reading}
use Rattle.vs_elab.specs.declared.reading.Text.{Text}
use Rattle.vs_elab.specs.declared.stack.Pending.{Pending}
use Rattle.vs_elab.specs.declared.steps.Standing.{Standing}
use Rattle.vs_elab.specs.Pending.{parts_pieces, scope_around, pending_pieces, stack_pieces}
use Rattle.vs_elab.specs.Reading.{AreNumberedIn, AreSeen, ArePending, IsOpened, IsPending, IsReading, IsStep, outcome, pending_at, source_of, totals_so_far}
use Rattle.vs_elab.specs.Stacks.{pending}
use Rattle.vs_elab.proofs.OpenedSteps.{within_opened, within_faulty}

-- what is to be read of a block that stands here
abbrev pub block_task : List Frame → Standing → List ℕ → Bor (List Item) → Option Turn → Task
block_task frames at name items t = record {
  name = name;
  parent = Some at.frame;
  contents = OfBlock (map view.item items.now);
  depth = at.depth;
  place = 0;
  env = turned (env_at (envs frames) (Some at.frame)) (view.option turn t);
}

-- it is the one piece of the part
pub block_piece : (source : tree.Source) (frames : List Frame) (at : Standing) (name : Vec ℕ Global) (items : Bor (List Item)) (t : Option Turn)
    → pending_pieces source frames (pending_at at (Block name items t)) ≡ pending at.left (Within (block_task frames at name.items items t)) ∷ []
block_piece source frames at name items t = refl

-- a loop's value leaves the names as they are
turned_frames : (env : Env) (o : Option environment.Turn) → (turned env o).frames ≡ env.frames
turned_frames env None = refl
turned_frames env (Some t) = refl

pub block_sound : (source : tree.Source) (d : Design) (frames : List Frame) (at : Standing) (name : Vec ℕ Global) (items : Bor (List Item)) (t : Option Turn)
    → IsPending source frames (pending_at at (Block name items t)) → AreSeen d frames → IsSoundTask d (block_task frames at name.items items t)
block_sound source d frames at name items t h seen = record {
  frames = subst (AreSoundFrames d false) (sym (turned_frames (env_at (envs frames) (Some at.frame)) (view.option turn t))) (seen at.frame h.within);
  overrides = tt;
  shaped = h.fine.shaped;
}

pub block_numbered : (d : Design) (frames : List Frame) (at : Standing) (name : List ℕ) (items : Bor (List Item)) (t : Option Turn)
    → at.frame < length frames → AreNumberedIn d frames → AreNumberedFrames d (block_task frames at name items t).env.frames
block_numbered d frames at name items t h numbered = subst (AreNumberedFrames d) (sym (turned_frames (env_at (envs frames) (Some at.frame)) (view.option turn t))) (numbered at.frame h)

task_is : (text : Text) (old : Reading) (at : Standing) (name : Vec ℕ Global) (items : Bor (List Item)) (t : Option Turn) (k : Task) (left : ℕ) → block_task old.frames.items at name.items items t ≡ k → at.left ≡ left
    → pending_pieces (source_of text) old.frames.items (pending_at at (Block name items t)) ≡ pending left (Within k) ∷ []
task_is text old at name items t k left e l =
    block_piece (source_of text) old.frames.items at name items t ∙ ap (λ (n : ℕ). pending n (Within (block_task old.frames.items at name.items items t)) ∷ []) l ∙ ap (λ (x : Task). pending left (Within x) ∷ []) e

-- it is opened
pub block_opened : (text : Text) (k : Task) (old new : Reading) (ps : List Part) (left : ℕ) (at : Standing) (name : Vec ℕ Global) (items : Bor (List Item)) (t : Option Turn) (stack rest : List Pending)
    → IsReading text old (stack ++ pending_at at (Block name items t) ∷ []) → block_task old.frames.items at name.items items t ≡ k → at.left ≡ suc left → IsOpened (source_of text) k old new ps
    → stack_pieces (source_of text) new.frames.items rest ≡ map (pending left) (parts_pieces (source_of text) (scope_around new.frames.items (length old.frames.items) k.depth) ps) ++ stack_pieces (source_of text) new.frames.items stack
    → ArePending (source_of text) new.frames.items rest → IsStep text old (stack ++ pending_at at (Block name items t) ∷ []) new rest
block_opened text k old new ps left at name items t stack rest h e l o pushed all =
    within_opened text k old new ps left (pending_at at (Block name items t)) stack rest h (task_is text old at name items t k (suc left) e l) o pushed all

-- or can't be
pub block_faulty : (text : Text) (k : Task) (old : Reading) (left : ℕ) (at : Standing) (name : Vec ℕ Global) (items : Bor (List Item)) (t : Option Turn) (stack : List Pending) (e : Fault)
    → block_task old.frames.items at name.items items t ≡ k → at.left ≡ left → read_scope left the_limits (source_of text) k (totals_so_far old) ≡ Err e
    → outcome text old (stack ++ pending_at at (Block name items t) ∷ []) ≡ Err e
block_faulty text k old left at name items t stack e same l fails =
    within_faulty text k old left (pending_at at (Block name items t)) stack e (task_is text old at name items t k left same l) fails

-- ---- numbers

pub below_one : (n m : ℕ) → m < n → IsTrue (all_below n (option_to_list (Some m)))
below_one n m h = search (rules, lt-ltb)
