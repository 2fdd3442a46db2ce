-- One step of reading: an instance.
use Rattle.std.proofs.Common.{◌≡◌, ℕ, suc, ◌+◌, ◌<◌, ◌≤◌, ◌^◌, false, List, [], ◌∷◌, ◌++◌, map, length, length-append, Option, Some, refl, sym, ap, ◌∙◌, subst, arith}
use Rattle.std.specs.Prelude.{Result, Err, IfErr}
use Rattle.std.specs.Borrow.{Bor}
use Rattle.std.proofs.lemmas.List.{append-nil}
use Rattle.vs_design.specs.Designs.{Process, Design}
use Rattle.vs_grammar.specs.Trees as tree
use Rattle.vs_grammar.specs.Shapes.{Each, IsModule}
use Rattle.vs_ast.specs.declared.items.Instance.{Instance as CodeInstance}
use Rattle.vs_ast.specs.declared.items.Instances.{Instances as CodeInstances}
use Rattle.vs_ast.specs.Views as view
use Rattle.vs_const.specs.declared.faults.Fault.{Fault}
use Rattle.vs_elaborated.specs.Limits.{the_limits}
use Rattle.vs_elaborated.specs.Environments.{Entry, Env, no_env, named}
use Rattle.vs_elaborated.specs.Parameters.{Override}
use Rattle.vs_elaborated.specs.Ports.{find_module}
use Rattle.vs_elaborated.specs.Pieces as pieces
use Rattle.vs_elaborated.specs.Pieces.{Task, Piece}
use Rattle.vs_elaborated.specs.Instances.{Around, connection_name, said_overrides, said_connections}
use Rattle.vs_elaborated.specs.Surveys.{Survey}
use Rattle.vs_elaborated.specs.Elaborated.{port_assign, counted}
use Rattle.vs_elaborated.specs.Numbers.{AreNumberedFrames, NamesAreNumbered}
use Rattle.vs_elaborated.specs.Sound.{AreSoundFrames, InstancesHavePorts, NamesAreSound, MeansSignal}
use Rattle.vs_scope.specs.declared.frames.Frame.{Frame}
use Rattle.vs_build.specs.Growth.{draft}
use Rattle.vs_scope.specs.Frames.{env_at, envs}
use Rattle.vs_items.specs.declared.connections.Connection.{Connection}
use Rattle.vs_elab.specs.declared.error.ElabError.{ElabError}
use Rattle.vs_elab.specs.declared.error.ElabError.TheVariants.{Broken, Memory}
use Rattle.vs_items.specs.declared.modules.Known.{Known}
use Rattle.vs_elab.specs.declared.stack.Pending.{Pending}
use Rattle.vs_elab.specs.declared.pending.Part.{Part}
use Rattle.vs_elab.specs.declared.pending.Part.TheVariants as part
use Rattle.vs_elab.specs.declared.steps.Standing.{Standing}
use Rattle.vs_elab.specs.declared.reading.Text.{Text}
use Rattle.vs_elab.specs.declared.reading.Counts.{Counts}
use Rattle.vs_elab.specs.declared.reading.Reading.{Reading}
use Rattle.vs_items.specs.Connections.{said}
use Rattle.vs_items.specs.Fine.{IsFineConnected}
use Rattle.vs_elab.specs.Fine.{IsFinePart, AreFineParts, IsFineInstance}
use Rattle.vs_items.specs.Interfaces.{IsInterface}
use Rattle.vs_items.specs.Overriding.{AreAlike}
use Rattle.vs_items.specs.Modules.{IsKnownOf, IsOf}
use Rattle.vs_elab.specs.Pending.{parts_pieces, scope_around, stack_pieces, AreWithin}
use Rattle.vs_elab.specs.Reading.{source_of, totals_of, totals_so_far, design_so_far, surveyed, FailsBy, IsOpened, IsPending, ArePending, IsReading, IsStep, outcome, Tells, pending_at, pending_processes, processes_in, work_left}
use Rattle.vs_elab.specs.Stacks as stacks
use Rattle.vs_elab.specs.Stacks.{built_then, rest_of, work}
use Rattle.vs_elab.specs.Functions.{IsIdle}
use Rattle.vs_elab.specs.Wiring.{AreWirable, own_names}
use Rattle.vs_elab.proofs.AlikeTasks.{instance_task, fails_alike, opened_alike}
use Rattle.vs_elab.proofs.InstanceSteps.{task_in, ports_in, instance_first, wired, AreStepped, outcome_same, work_less, room_same, room_first, survey_counts, faultless}
use Rattle.vs_elab.proofs.MoreFrames.{env_kept, stack_kept}
use Rattle.vs_elab.proofs.ReadDesigns.{read_wired}
use Rattle.vs_elab.proofs.Stacks.{instance_fails}
use Rattle.vs_elab.proofs.WiredPorts as ports
use Rattle.vs_const.specs.declared.rules.Rule.TheVariants.{InstanceDepth}

-- ---- errors

-- what an error tells, by what it tells of another fact
pub told_more : (e : ElabError) (P Q : Fault → Type 0) → ((f : Fault) → P f → Q f) → Tells e P → Tells e Q
told_more (Broken f) P Q more h = more f h
told_more Memory P Q more h = tt

-- the error that is returned
pub told : {A : Type 0} (r : Result A ElabError) (e : ElabError) (P : Fault → Type 0) → r ≡ Err e → Tells e P → IfErr r (λ (x : ElabError). Tells x P)
told {A} r e P is h = subst (λ (x : Result A ElabError). IfErr x (λ (y : ElabError). Tells y P)) (sym is) h

-- ---- what is known of it

-- its module, as the code knows it
pub record IsKnownFine (source : tree.Source) (env : Env) (t : tree.Instances) (i : tree.Instance) (k : Known) : Type 0 where
  pub found : find_module source t.of.bytes ≡ Some (view.module_tree k.of.now)
  pub seen : IsInterface k.seen (view.module_tree k.of.now)
  pub overridden : (said_overrides t.of (Some (view.module_tree k.of.now)) t.overrides env).faults ≡ []
  pub connected : (said_connections (Some (view.module_tree k.of.now)) i.name i.connections env).faults ≡ []

pub known_fine : (source : tree.Source) (env : Env) (t : tree.Instances) (i : tree.Instance) (k : Known) → IsOf (Some k) (find_module source t.of.bytes) → IsFineInstance source env t i → IsKnownFine source env t i k
known_fine source env t i k known fine =
    let is : IsKnownOf k fine.of = subst (IsOf (Some k)) fine.found known in
    record {
      found = fine.found ∙ ap (λ (m : tree.Module). let o : Option tree.Module = Some m in o) (sym is.of);
      seen = subst (IsInterface k.seen) (sym is.of) is.seen;
      overridden = subst (λ (m : tree.Module). (said_overrides t.of (Some m) t.overrides env).faults ≡ []) (sym is.of) fine.overridden;
      connected = subst (λ (m : tree.Module). (said_connections (Some m) i.name i.connections env).faults ≡ []) (sym is.of) fine.connected;
    }

-- ---- what is pending

each_before : {A : Type 0} (P : A → Type 0) (xs : List A) (y : A) → Each P (xs ++ y ∷ []) → Each P xs
each_before P [] y h = tt
each_before P (x ∷ xs) y h = (h.0, each_before P xs y h.1)

each_last : {A : Type 0} (P : A → Type 0) (xs : List A) (y : A) → Each P (xs ++ y ∷ []) → P y
each_last P [] y h = h.0
each_last P (x ∷ xs) y h = each_last P xs y h.1

-- the next one
pub next_pending : (source : tree.Source) (frames : List Frame) (stack : List Pending) (p : Pending) → ArePending source frames (stack ++ p ∷ []) → IsPending source frames p
next_pending source frames stack p h = each_last (IsPending source frames) stack p h

-- and the others
pub others_pending : (source : tree.Source) (frames : List Frame) (stack : List Pending) (p : Pending) → ArePending source frames (stack ++ p ∷ []) → ArePending source frames stack
others_pending source frames stack p h = each_before (IsPending source frames) stack p h

pending_within : (source : tree.Source) (frames : List Frame) (stack : List Pending) → ArePending source frames stack → AreWithin (length frames) stack
pending_within source frames [] h = tt
pending_within source frames (p ∷ ps) h = (h.0.within, pending_within source frames ps h.1)

-- one scope more
pub pending_kept : (source : tree.Source) (frames : List Frame) (f : Frame) (stack : List Pending) → ArePending source frames stack → ArePending source (frames ++ f ∷ []) stack
pending_kept source frames f [] h = tt
pending_kept source frames f (p ∷ ps) h = (
  record {
    within = let n = length-append frames (f ∷ []) in let w = h.0.within in omega (arith, n, w);
    depth = h.0.depth;
    fine = subst (λ (e : Env). IsFinePart source e p.part) (sym (env_kept frames f p.frame h.0.within)) h.0.fine;
  },
  pending_kept source frames f ps h.1,
)

-- ---- the step

-- where an instance stands
abbrev pub around_of : Reading → Standing → Around
around_of r at = scope_around r.frames.items at.frame at.depth

-- its scope
abbrev pub task_at : Reading → Standing → Bor CodeInstances → Bor CodeInstance → tree.Module → Task
task_at r at t i m = task_in (around_of r at) (view.instances t.now) (view.instance i.now) m

abbrev pub ports_at : Reading → Standing → Bor CodeInstance → tree.Module → List pieces.Connection
ports_at r at i m = ports_in (around_of r at) (view.instance i.now) m

module _ (text : Text) (old : Reading) (stack : List Pending) (at : Standing) (t : Bor CodeInstances) (i : Bor CodeInstance) (m : tree.Module) (found : find_module (source_of text) (view.instances t.now).of.bytes ≡ Some m) where
  -- the outcome, by the pieces that are pending
  outcome_is : outcome text old (stack ++ pending_at at (part.Instance t i) ∷ [])
      ≡ built_then (design_so_far old) (rest_of the_limits (source_of text) (stacks.pending at.left (pieces.Instance (ports_at old at i m) (task_at old at t i m)) ∷ stack_pieces (source_of text) old.frames.items stack) (totals_so_far old))
  outcome_is = ap (λ (qs : List stacks.Pending). built_then (design_so_far old) (rest_of the_limits (source_of text) qs (totals_so_far old))) (instance_first (source_of text) old.frames.items stack at t i m found)

  -- a fault of the scope is the outcome
  pub instance_broken : (left : ℕ) (f : Fault) → at.left ≡ suc left → FailsBy (source_of text) (task_at old at t i m) (totals_so_far old) f → outcome text old (stack ++ pending_at at (part.Instance t i) ∷ []) ≡ Err f
  instance_broken left f e h =
      outcome_is
      ∙ ap (λ n. built_then (design_so_far old) (rest_of the_limits (source_of text) (stacks.pending n (pieces.Instance (ports_at old at i m) (task_at old at t i m)) ∷ stack_pieces (source_of text) old.frames.items stack) (totals_so_far old))) e
      ∙ instance_fails the_limits (source_of text) (design_so_far old) (suc left) (ports_at old at i m) (task_at old at t i m) (stack_pieces (source_of text) old.frames.items stack) (totals_so_far old) f (h left)

  -- and so is one that stands too deep
  pub instance_deepest : at.left ≡ 0 → outcome text old (stack ++ pending_at at (part.Instance t i) ∷ []) ≡ Err (record { rule = InstanceDepth; place = (view.instances t.now).of.place })
  instance_deepest e =
      outcome_is
      ∙ ap (λ n. built_then (design_so_far old) (rest_of the_limits (source_of text) (stacks.pending n (pieces.Instance (ports_at old at i m) (task_at old at t i m)) ∷ stack_pieces (source_of text) old.frames.items stack) (totals_so_far old))) e
      ∙ instance_fails the_limits (source_of text) (design_so_far old) 0 (ports_at old at i m) (task_at old at t i m) (stack_pieces (source_of text) old.frames.items stack) (totals_so_far old)
      (record { rule = InstanceDepth; place = (view.instances t.now).of.place }) refl

  -- its scope as the code has it: its name, and overrides that are alike
  module _ (name : List ℕ) (os : List Override) (name_is : name ≡ (view.instance i.now).name.bytes)
      (alike : AreAlike os (said_overrides (view.instances t.now).of (Some m) (view.instances t.now).overrides (env_at (envs old.frames.items) (Some at.frame))).overrides) where
    abbrev code_task : Task
    code_task = instance_task name (Some at.frame) m (at.depth + 1) (view.instances t.now).of.place no_env os

    abbrev named_task : List ℕ → Task
    named_task n = instance_task n (Some at.frame) m (at.depth + 1) (view.instances t.now).of.place no_env os

    pub broken_at : (left : ℕ) (f : Fault) → at.left ≡ suc left → FailsBy (source_of text) code_task (totals_so_far old) f → outcome text old (stack ++ pending_at at (part.Instance t i) ∷ []) ≡ Err f
    broken_at left f e h =
        instance_broken left f e
        (fails_alike (source_of text) (view.instance i.now).name.bytes (Some at.frame) m (at.depth + 1) (view.instances t.now).of.place no_env os _ alike (totals_so_far old) f
        (subst (λ (n : List ℕ). FailsBy (source_of text) (named_task n) (totals_so_far old) f) name_is h))

    pub opened_at : (mid : Reading) (ps : List Part) → IsOpened (source_of text) code_task old mid ps → IsOpened (source_of text) (task_at old at t i m) old mid ps
    opened_at mid ps h =
        opened_alike (source_of text) (view.instance i.now).name.bytes (Some at.frame) m (at.depth + 1) (view.instances t.now).of.place no_env os _ alike old mid ps
        (subst (λ (n : List ℕ). IsOpened (source_of text) (named_task n) old mid ps) name_is h)

  -- room for its ports
  pub instance_room : (r : IsReading text old (stack ++ pending_at at (part.Instance t i) ∷ [])) → processes_in (design_so_far old) + length (ports_at old at i m) ≤ 2 ^ 16
  instance_room r =
      room_first at.left (processes_in (design_so_far old)) (ports_at old at i m) (task_at old at t i m) (stack_pieces (source_of text) old.frames.items stack) old.counts.processes
      (sym (ap (λ (qs : List stacks.Pending). processes_in (design_so_far old) + pending_processes qs) (instance_first (source_of text) old.frames.items stack at t i m found)) ∙ r.room) r.read.few_processes

  module _ (mid : Reading) (ps : List Part) (opened : IsOpened (source_of text) (task_at old at t i m) old mid ps) where
    abbrev own : Survey
    own = surveyed (source_of text) (task_at old at t i m) old

    -- what is pending, behind it
    stack_behind_it : ArePending (source_of text) old.frames.items stack → stack_pieces (source_of text) mid.frames.items stack ≡ stack_pieces (source_of text) old.frames.items stack
    stack_behind_it h =
        ap (λ (fs : List Frame). stack_pieces (source_of text) fs stack) opened.frames
        ∙ stack_kept (source_of text) old.frames.items opened.frame stack (pending_within (source_of text) old.frames.items stack h)

    -- where it stands the same is seen
    pub around_kept : at.frame < length old.frames.items → env_at (envs mid.frames.items) (Some at.frame) ≡ env_at (envs old.frames.items) (Some at.frame)
    around_kept h = ap (λ (fs : List Frame). env_at (envs fs) (Some at.frame)) opened.frames ∙ env_kept old.frames.items opened.frame at.frame h

    -- one scope more
    pub count_more : length mid.frames.items ≡ length old.frames.items + 1
    count_more = ap (λ (fs : List Frame). length fs) opened.frames ∙ length-append old.frames.items (opened.frame ∷ [])

    -- its ports can be built
    pub instance_wirable : (cs : List Connection) (here : Env) → NamesAreSound → NamesAreNumbered → InstancesHavePorts → IsModule m → at.frame < length old.frames.items → here ≡ env_at (envs mid.frames.items) (Some at.frame)
        → said (env_at (envs old.frames.items) (Some at.frame)) cs ≡ ports_at old at i m → Each (IsFineConnected (env_at (envs old.frames.items) (Some at.frame))) cs
        → AreWirable (design_so_far mid) (named here) own.entries cs
    instance_wirable cs here sound numbers meant shaped h e s f =
        let env : Env = env_at (envs old.frames.items) (Some at.frame) in
        let d : Design = design_so_far mid in
        let seen = subst (λ (x : Env). AreSoundFrames d false x.frames) (around_kept h) (opened.read.seen at.frame (let n = count_more in omega (arith, n, h))) in
        let numbered = subst (λ (x : Env). AreNumberedFrames d x.frames) (around_kept h) (opened.read.numbered at.frame (let n = count_more in omega (arith, n, h))) in
        let inside = subst (λ (x : Env). AreSoundFrames d false x.frames) opened.seen (opened.read.seen (length old.frames.items) (let n = count_more in omega (arith, n))) in
        let all = meant d the_limits (source_of text) (around_of old at) (view.instances t.now).of.place (Some m) (said_overrides (view.instances t.now).of (Some m) (view.instances t.now).overrides env).overrides (view.instance i.now) in
        let mean = all.0 (counted (task_at old at t i m) (totals_so_far old)) shaped (faultless own.faults opened.fair) inside.0 in
        subst (λ (x : Env). AreWirable d (named x) own.entries cs) (sym (e ∙ around_kept h))
        (ports.wired d env own.entries cs (sound d false env seen) (numbers d env numbered) f (subst (λ (xs : List pieces.Connection). Each (λ (c : pieces.Connection). MeansSignal d own.entries (connection_name c)) xs) (sym s) mean))

    -- there is room for its ports
    pub wiring_room : (cs : List Connection) → IsReading text old (stack ++ pending_at at (part.Instance t i) ∷ []) → said (env_at (envs old.frames.items) (Some at.frame)) cs ≡ ports_at old at i m
        → Each (IsFineConnected (env_at (envs old.frames.items) (Some at.frame))) cs → length (design_so_far mid).processes + length cs ≤ 2 ^ 16
    wiring_room cs r s f =
        let had : length (design_so_far mid).processes ≡ length (design_so_far old).processes = ap (λ (d : Design). length d.processes) opened.design ∙ ap (λ (qs : List Process). length qs) (append-nil (design_so_far old).processes) in
        let many : length (ports_at old at i m) ≡ length cs = sym (ap (λ (xs : List pieces.Connection). length xs) s) ∙ ports.said_count (env_at (envs old.frames.items) (Some at.frame)) cs f in
        let room = instance_room r in
        omega (arith, had, many, room)

    -- its names
    pub names_inside : (inside : Env) (n : ℕ) → n ≡ length old.frames.items → inside ≡ env_at (envs mid.frames.items) (Some n) → own_names inside ≡ own.entries
    names_inside inside n e is = ap own_names (is ∙ ap (λ k. env_at (envs mid.frames.items) (Some k)) e ∙ opened.seen)

    -- the step
    module _ (new : Reading) (rest : List Pending) (left : ℕ) (deeper : at.left ≡ suc left) (reading : IsReading text old (stack ++ pending_at at (part.Instance t i) ∷ []))
        (frames : new.frames.items ≡ mid.frames.items) (counts : new.counts ≡ mid.counts) (loops : new.loops ≡ mid.loops) (idle : IsIdle (draft new.builder))
        (wiring : design_so_far new ≡ wired (design_so_far mid) (map (port_assign (view.instances t.now).of.place own.entries) (ports_at old at i m)))
        (pushed : stack_pieces (source_of text) mid.frames.items rest
        ≡ map (stacks.pending left) (parts_pieces (source_of text) (scope_around mid.frames.items (length old.frames.items) (at.depth + 1)) ps) ++ stack_pieces (source_of text) mid.frames.items stack)
        (pending : ArePending (source_of text) mid.frames.items rest) where
      stepped : AreStepped (source_of text) (task_at old at t i m) (ports_at old at i m) left (design_so_far old) (totals_so_far old) (stack_pieces (source_of text) old.frames.items stack)
          own (design_so_far new) (totals_so_far new) (stack_pieces (source_of text) new.frames.items rest)
      stepped = record {
        is = refl;
        limits = opened.limits;
        fair = opened.fair;
        design = wiring ∙ ap (λ (d : Design). wired d (map (port_assign (view.instances t.now).of.place own.entries) (ports_at old at i m))) opened.design;
        totals = ap (λ (c : Counts). totals_of c new.loops) counts ∙ ap (totals_of mid.counts) loops ∙ opened.totals_is;
        pending =
            ap (λ (fs : List Frame). stack_pieces (source_of text) fs rest) frames ∙ pushed
            ∙ ap (λ (qs : List Piece). map (stacks.pending left) qs ++ stack_pieces (source_of text) mid.frames.items stack) opened.pieces
            ∙ ap (λ (qs : List stacks.Pending). map (stacks.pending left) own.pieces ++ qs)
            (stack_behind_it (others_pending (source_of text) old.frames.items stack (pending_at at (part.Instance t i)) reading.pending));
      }

      abbrev before : List stacks.Pending
      before = stacks.pending (suc left) (pieces.Instance (ports_at old at i m) (task_at old at t i m)) ∷ stack_pieces (source_of text) old.frames.items stack

      before_is : stack_pieces (source_of text) old.frames.items (stack ++ pending_at at (part.Instance t i) ∷ []) ≡ before
      before_is =
          instance_first (source_of text) old.frames.items stack at t i m found
          ∙ ap (λ n. stacks.pending n (pieces.Instance (ports_at old at i m) (task_at old at t i m)) ∷ stack_pieces (source_of text) old.frames.items stack) deeper

      reading_then : IsReading text new rest
      reading_then = record {
        read = read_wired mid new (map (port_assign (view.instances t.now).of.place own.entries) (ports_at old at i m)) frames counts idle wiring opened.read;
        later = subst (λ (c : Counts). c.start.top ≡ false) (sym counts) opened.later;
        pending = subst (λ (fs : List Frame). ArePending (source_of text) fs rest) (sym frames) pending;
        room =
            room_same (source_of text) (task_at old at t i m) (ports_at old at i m) left (design_so_far old) (totals_so_far old) (stack_pieces (source_of text) old.frames.items stack) own (design_so_far new) (totals_so_far new)
            (stack_pieces (source_of text) new.frames.items rest) stepped
            (survey_counts (source_of text) (view.instance i.now).name.bytes (Some at.frame) m (at.depth + 1) (view.instances t.now).of.place no_env
            (said_overrides (view.instances t.now).of (Some m) (view.instances t.now).overrides (env_at (envs old.frames.items) (Some at.frame))).overrides (totals_so_far old))
            (sym (ap (λ (qs : List stacks.Pending). processes_in (design_so_far old) + pending_processes qs) before_is) ∙ reading.room);
      }

      pub instance_read : IsStep text old (stack ++ pending_at at (part.Instance t i) ∷ []) new rest
      instance_read = record {
        reading = reading_then;
        same =
            outcome_same (source_of text) (task_at old at t i m) (ports_at old at i m) left (design_so_far old) (totals_so_far old) (stack_pieces (source_of text) old.frames.items stack) own (design_so_far new) (totals_so_far new)
            (stack_pieces (source_of text) new.frames.items rest) stepped
            ∙ ap (λ (qs : List stacks.Pending). built_then (design_so_far old) (rest_of the_limits (source_of text) qs (totals_so_far old))) (sym before_is);
        less =
            subst (λ (qs : List stacks.Pending). work_left text new rest < work the_limits (source_of text) qs (totals_so_far old)) (sym before_is)
            (work_less (source_of text) (task_at old at t i m) (ports_at old at i m) left (design_so_far old) (totals_so_far old) (stack_pieces (source_of text) old.frames.items stack) own (design_so_far new) (totals_so_far new)
            (stack_pieces (source_of text) new.frames.items rest) stepped);
      }

    -- its parts, where they stand
    pub parts_fine : (n : ℕ) → n ≡ length old.frames.items → AreFineParts (source_of text) (env_at (envs mid.frames.items) (Some n)) ps
    parts_fine n e = subst (λ (x : Env). AreFineParts (source_of text) x ps) (sym (ap (λ k. env_at (envs mid.frames.items) (Some k)) e ∙ opened.seen)) opened.parts

    pub stack_pending : ArePending (source_of text) old.frames.items stack → ArePending (source_of text) mid.frames.items stack
    stack_pending h = subst (λ (fs : List Frame). ArePending (source_of text) fs stack) (sym opened.frames) (pending_kept (source_of text) old.frames.items opened.frame stack h)

    pub instance_done : (new : Reading) (rest : List Pending) (left n : ℕ) (here : Env) (names : List Entry) (cs : List Connection) → at.left ≡ suc left → IsReading text old (stack ++ pending_at at (part.Instance t i) ∷ [])
        → n ≡ length old.frames.items → new.frames.items ≡ mid.frames.items → new.counts ≡ mid.counts → new.loops ≡ mid.loops → IsIdle (draft new.builder) → at.frame < length old.frames.items → here ≡ env_at (envs mid.frames.items) (Some at.frame) → names ≡ own.entries
        → said (env_at (envs old.frames.items) (Some at.frame)) cs ≡ ports_at old at i m
        → design_so_far new ≡ wired (design_so_far mid) (map (port_assign (view.instances t.now).of.place names) (said here cs))
        → stack_pieces (source_of text) mid.frames.items rest ≡ map (stacks.pending left) (parts_pieces (source_of text) (scope_around mid.frames.items n (at.depth + 1)) ps) ++ stack_pieces (source_of text) mid.frames.items stack
        → ArePending (source_of text) mid.frames.items rest → IsStep text old (stack ++ pending_at at (part.Instance t i) ∷ []) new rest
    instance_done new rest left n here names cs deeper reading number frames counts loops idle inside seen is said_is wiring pushed pending =
        instance_read new rest left deeper reading frames counts loops idle
        (wiring
        ∙ ap (λ (es : List Entry). wired (design_so_far mid) (map (port_assign (view.instances t.now).of.place es) (said here cs))) is
        ∙ ap (λ (xs : List pieces.Connection). wired (design_so_far mid) (map (port_assign (view.instances t.now).of.place own.entries) xs)) (ap (λ (e : Env). said e cs) (seen ∙ around_kept inside) ∙ said_is))
        (pushed ∙ ap (λ k. map (stacks.pending left) (parts_pieces (source_of text) (scope_around mid.frames.items k (at.depth + 1)) ps) ++ stack_pieces (source_of text) mid.frames.items stack) number) pending
