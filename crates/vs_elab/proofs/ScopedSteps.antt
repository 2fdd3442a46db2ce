-- An always block whose named blocks are scopes has been read: what was pending stays so, less is pending, and the outcome is the same.
use Rattle.std.proofs.Common.{◌≡◌, ℕ, ◌+◌, ◌<◌, ◌≤◌, ◌^◌, List, [], ◌∷◌, ◌++◌, map, length, length-append, Some, None, refl, sym, ap, ◌∙◌, subst, append_assoc, arith}
use Rattle.std.specs.Prelude.{Err}
use Rattle.std.specs.Borrow.{Bor}
use Rattle.vs_ast.specs.declared.items.AlwaysBlock.{AlwaysBlock}
use Rattle.std.proofs.lemmas.List.{append-nil}
use Rattle.vs_design.specs.Designs.{Design}
use Rattle.vs_grammar.specs.Trees as tree
use Rattle.vs_grammar.specs.Shapes.{Each}
use Rattle.vs_const.specs.declared.faults.Fault.{Fault}
use Rattle.vs_const.specs.Faults.{least}
use Rattle.vs_elaborated.specs.Limits.{the_limits}
use Rattle.vs_elaborated.specs.Environments.{Env, Entry, no_env, within}
use Rattle.vs_elaborated.specs.Pieces.{ScopedBlock, OfScopes}
use Rattle.vs_elaborated.specs.Surveys.{Totals, scoped_signals, scoped_statement}
use Rattle.vs_elaborated.specs.Elaborated.{both_designs, scoped_design, scoped_totals, scoped_faults}
use Rattle.vs_build.proofs.Wider.{IsWider}
use Rattle.vs_scope.specs.declared.frames.Frame.{Frame}
use Rattle.vs_scope.specs.Stacks.{env_above, frame_env}
use Rattle.vs_scope.specs.Frames.{KeepShapes, envs}
use Rattle.vs_scope.proofs.Completing.{complete_none, keeps_none}
use Rattle.vs_elab.specs.declared.pending.Part.{Part}
use Rattle.vs_elab.specs.declared.pending.Part.TheVariants.{Scoped}
use Rattle.vs_elab.specs.declared.reading.Reading.{Reading}
use Rattle.vs_elab.specs.declared.reading.Text.{Text}
use Rattle.vs_elab.specs.declared.stack.Pending.{Pending}
use Rattle.vs_elab.specs.Pending.{part_pieces, pending_pieces, scope_around, stack_pieces}
use Rattle.vs_elab.specs.Reading.{AreNumberedIn, AreSeen, ArePending, IsPending, IsReading, IsStep, design_so_far, outcome, pending_processes, processes_in, source_of, totals_so_far, work_left}
use Rattle.vs_elab.specs.Scoped.{IsEmptyFrame, ScopedIsRead, scoped_at}
use Rattle.vs_elab.specs.Stacks as stacks
use Rattle.vs_elab.specs.Stacks.{built_then, pending, rest_of, work}
use Rattle.vs_elab.proofs.MoreFrames.{env_new, kept_behind, stack_kept}
use Rattle.vs_elab.proofs.NumberedNames.{same_functions, numbered_behind}
use Rattle.vs_elab.proofs.OpenedSteps.{are_within, each_front, one_pending, pending_kept}
use Rattle.vs_elab.proofs.PendingStacks.{stack_behind}
use Rattle.vs_elab.proofs.Stacks.{scoped_step, scoped_fails}
use Rattle.vs_elab.proofs.WiderScopes.{seen_more}
use Rattle.vs_elab.proofs.Work.{scoped_less}

-- ---- scopes that declare no name

empty_env : (es : List Env) (f : Frame) → IsEmptyFrame f → frame_env es f ≡ within no_env []
empty_env es f h =
    ap (λ (x : List Entry). within (env_above es f.parent f.turn) x) (complete_none (env_above es f.parent f.turn) f.names h.incomplete.functions ∙ h.entries)
    ∙ ap (λ p. within (env_above es p f.turn) []) h.parent ∙ ap (λ t. within (env_above es None t) []) h.turn

-- a design is as wide as itself
itself : (d : Design) → IsWider d d
itself d = record { scopes = omega arith; signals = λ x h. h }

pub empties_seen : (d : Design) (fs more : List Frame) → Each IsEmptyFrame more → AreSeen d fs → AreSeen d (fs ++ more)
empties_seen d fs [] e h = subst (AreSeen d) (sym (append-nil fs)) h
empties_seen d fs (f ∷ more) e h =
    subst (AreSeen d) (append_assoc fs (f ∷ []) more)
    (empties_seen d (fs ++ f ∷ []) more e.1 (seen_more d d (itself d) fs f no_env [] (env_new fs f ∙ empty_env (envs fs) f e.0) h tt tt))

pub empties_numbered : (d : Design) (fs more : List Frame) → Each IsEmptyFrame more → AreNumberedIn d fs → AreNumberedIn d (fs ++ more)
empties_numbered d fs [] e h = subst (AreNumberedIn d) (sym (append-nil fs)) h
empties_numbered d fs (f ∷ more) e h =
    subst (AreNumberedIn d) (append_assoc fs (f ∷ []) more)
    (empties_numbered d (fs ++ f ∷ []) more e.1 (numbered_behind d d [] (same_functions d d refl) fs f no_env [] (env_new fs f ∙ empty_env (envs fs) f e.0) h tt tt))

pub empties_kept : (fs more : List Frame) → Each IsEmptyFrame more → KeepShapes fs → KeepShapes (fs ++ more)
empties_kept fs [] e h = subst KeepShapes (sym (append-nil fs)) h
empties_kept fs (f ∷ more) e h = subst KeepShapes (append_assoc fs (f ∷ []) more) (empties_kept (fs ++ f ∷ []) more e.1 (kept_behind fs f h (keeps_none (env_above (envs fs) f.parent f.turn) f.names e.0.incomplete)))

pending_more : (source : tree.Source) (fs more : List Frame) (ps : List Pending) → ArePending source fs ps → ArePending source (fs ++ more) ps
pending_more source fs [] ps h = subst (λ (x : List Frame). ArePending source x ps) (sym (append-nil fs)) h
pending_more source fs (f ∷ more) ps h = subst (λ (x : List Frame). ArePending source x ps) (append_assoc fs (f ∷ []) more) (pending_more source (fs ++ f ∷ []) more ps (pending_kept source fs f ps h))

stack_more : (source : tree.Source) (fs more : List Frame) (ps : List Pending) → ArePending source fs ps → stack_pieces source (fs ++ more) ps ≡ stack_pieces source fs ps
stack_more source fs [] ps h = ap (λ (x : List Frame). stack_pieces source x ps) (append-nil fs)
stack_more source fs (f ∷ more) ps h =
    sym (ap (λ (x : List Frame). stack_pieces source x ps) (append_assoc fs (f ∷ []) more)) ∙ stack_more source (fs ++ f ∷ []) more ps (pending_kept source fs f ps h) ∙ stack_kept source fs f ps (are_within source fs ps h)

-- ---- the step

pub scoped_pieces : (text : Text) (r : Reading) (p : Pending) (b : Bor AlwaysBlock) → p.part ≡ Scoped b → pending_pieces (source_of text) r.frames.items p ≡ pending p.left (OfScopes (scoped_at r.frames.items p.frame b.now)) ∷ []
scoped_pieces text r p b is = ap (λ (x : Part). map (pending p.left) (part_pieces (source_of text) (scope_around r.frames.items p.frame p.depth) x)) is

one_less : (old new others left count : ℕ) → new ≡ old + 1 → left ≡ 1 + others → old + left ≡ count → new + others ≡ count
one_less old new others left count h k e = omega (arith, h, k, e)

module _ (text : Text) (old new : Reading) (b : ScopedBlock) (p : Pending) (stack : List Pending) (h : IsReading text old (stack ++ p ∷ [])) (is : pending_pieces (source_of text) old.frames.items p ≡ pending p.left (OfScopes b) ∷ [])
    (r : ScopedIsRead old new b) where
  abbrev source : tree.Source
  source = source_of text

  abbrev t : Totals
  t = totals_so_far old

  abbrev others : List stacks.Pending
  others = stack_pieces source old.frames.items stack

  pends : ArePending source old.frames.items stack
  pends = each_front (IsPending source old.frames.items) stack (p ∷ []) h.pending

  before_it : stack_pieces source old.frames.items (stack ++ p ∷ []) ≡ pending p.left (OfScopes b) ∷ others
  before_it = stack_behind source old.frames.items stack p ∙ ap (λ (qs : List stacks.Pending). qs ++ others) is

  after_it : stack_pieces source new.frames.items stack ≡ others
  after_it = ap (λ (fs : List Frame). stack_pieces source fs stack) r.frames.is ∙ stack_more source old.frames.items r.frames.more stack pends

  abbrev built : Design
  built = both_designs (design_so_far old) (scoped_design b t (scoped_signals b t) (scoped_statement the_limits b t))

  abbrev behind : Totals
  behind = scoped_totals b t (scoped_signals b t) (scoped_statement the_limits b t)

  one_more : processes_in (design_so_far new) ≡ processes_in (design_so_far old) + 1
  one_more =
      let more = scoped_design b t (scoped_signals b t) (scoped_statement the_limits b t) in
      let a : length (design_so_far new).processes ≡ length (design_so_far old).processes + 1 = ap (λ (d : Design). length d.processes) r.design ∙ length-append (design_so_far old).processes more.processes in
      let e : length (design_so_far new).initials ≡ length (design_so_far old).initials = ap (λ (d : Design). length d.initials) r.design ∙ ap length (append-nil (design_so_far old).initials) in
      omega (arith, a, e)

  left : pending_processes (stack_pieces source old.frames.items (stack ++ p ∷ [])) ≡ 1 + pending_processes (stack_pieces source new.frames.items stack)
  left = ap pending_processes before_it ∙ one_pending (pending p.left (OfScopes b)) others ∙ ap (λ (qs : List stacks.Pending). 1 + pending_processes qs) (sym after_it)

  same_of : outcome text new stack ≡ outcome text old (stack ++ p ∷ [])
  same_of =
      ap (λ (d : Design). built_then d (rest_of the_limits source (stack_pieces source new.frames.items stack) (totals_so_far new))) r.design
      ∙ ap (λ (qs : List stacks.Pending). built_then built (rest_of the_limits source qs (totals_so_far new))) after_it
      ∙ ap (λ (u : Totals). built_then built (rest_of the_limits source others u)) r.totals
      ∙ sym (scoped_step the_limits source (design_so_far old) p.left b others t r.fair)
      ∙ sym (ap (λ (qs : List stacks.Pending). built_then (design_so_far old) (rest_of the_limits source qs t)) before_it)

  work_after : work_left text new stack ≡ work the_limits source others behind
  work_after = ap (λ (qs : List stacks.Pending). work the_limits source qs (totals_so_far new)) after_it ∙ ap (λ (u : Totals). work the_limits source others u) r.totals

  less_of : work_left text new stack < work_left text old (stack ++ p ∷ [])
  less_of =
      subst (λ (n : ℕ). n < work_left text old (stack ++ p ∷ [])) (sym work_after)
      (subst (λ (n : ℕ). work the_limits source others behind < n) (sym (ap (λ (qs : List stacks.Pending). work the_limits source qs t) before_it)) (scoped_less the_limits source p.left b others t r.fair))

  -- it is one step
  pub scoped_is_step : IsStep text old (stack ++ p ∷ []) new stack
  scoped_is_step = record {
    reading =
        record {
          read = r.read;
          later = r.top ∙ h.later;
          pending = subst (λ (fs : List Frame). ArePending source fs stack) (sym r.frames.is) (pending_more source old.frames.items r.frames.more stack pends);
          room = one_less (processes_in (design_so_far old)) (processes_in (design_so_far new)) (pending_processes (stack_pieces source new.frames.items stack)) _ _ one_more left (h.room ∙ sym (ap (λ (u : Totals). u.processes) r.totals));
        };
    same = same_of;
    less = less_of;
  }

room_for_one : (built all more count : ℕ) → all ≡ 1 + more → built + all ≡ count → count ≤ 2 ^ 16 → built < 2 ^ 16
room_for_one a b c d x y z = omega arith

-- there is room for its process
pub scoped_room : (text : Text) (old : Reading) (b : ScopedBlock) (p : Pending) (stack : List Pending) → IsReading text old (stack ++ p ∷ []) → pending_pieces (source_of text) old.frames.items p ≡ pending p.left (OfScopes b) ∷ []
    → processes_in (design_so_far old) < 2 ^ 16
scoped_room text old b p stack h is =
    let others = stack_pieces (source_of text) old.frames.items stack in
    let before = stack_behind (source_of text) old.frames.items stack p ∙ ap (λ (qs : List stacks.Pending). qs ++ others) is in
    room_for_one (processes_in (design_so_far old)) _ (pending_processes others) _ (ap pending_processes before ∙ one_pending (pending p.left (OfScopes b)) others) h.room h.read.few_processes

-- one that breaks a rule has the first fault of all
pub scoped_is_faulty : (text : Text) (old : Reading) (b : ScopedBlock) (p : Pending) (stack : List Pending) (e : Fault) → pending_pieces (source_of text) old.frames.items p ≡ pending p.left (OfScopes b) ∷ []
    → least (scoped_faults the_limits b (totals_so_far old)) ≡ Some e → outcome text old (stack ++ p ∷ []) ≡ Err e
scoped_is_faulty text old b p stack e is fails =
    ap (λ (qs : List stacks.Pending). built_then (design_so_far old) (rest_of the_limits (source_of text) qs (totals_so_far old)))
    (stack_behind (source_of text) old.frames.items stack p ∙ ap (λ (qs : List stacks.Pending). qs ++ stack_pieces (source_of text) old.frames.items stack) is)
    ∙ scoped_fails the_limits (source_of text) (design_so_far old) p.left b (stack_pieces (source_of text) old.frames.items stack) (totals_so_far old) e fails
