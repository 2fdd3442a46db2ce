-- What the calls that read an instance ask for, and what is told of them.
use Rattle.std.proofs.Common.{◌≡◌, ℕ, suc, ◌+◌, ◌<◌, ◌≤◌, ◌^◌, List, [], ◌∷◌, ◌++◌, map, length, Some, sym, ap, ◌∙◌, subst, arith}
use Rattle.std.specs.Prelude.{Result, Err, IfErr, IsTrue}
use Rattle.std.specs.Borrow.{Bor}
use Rattle.vs_grammar.specs.Trees as tree
use Rattle.vs_grammar.specs.Trees.{items_list}
use Rattle.vs_grammar.specs.Shapes.{Each, AreConnections, IsModule}
use Rattle.vs_grammar.specs.Depths.{deepest, header_depth, item_depth, connections_depth}
use Rattle.vs_grammar.specs.Spelled.{depth_limit}
use Rattle.vs_ast.specs.declared.items.Instance.{Instance as CodeInstance}
use Rattle.vs_ast.specs.declared.items.Instances.{Instances as CodeInstances}
use Rattle.vs_ast.specs.Views as view
use Rattle.vs_const.specs.declared.faults.Fault.{Fault}
use Rattle.vs_flat.specs.Named.{all_below}
use Rattle.vs_elaborated.specs.Environments.{Entry, Env, no_env, named}
use Rattle.vs_elaborated.specs.Ports.{find_module}
use Rattle.vs_elaborated.specs.Pieces.{Task}
use Rattle.vs_elaborated.specs.Instances.{said_overrides, said_connections}
use Rattle.vs_elaborated.specs.Elaborated.{port_assign}
use Rattle.vs_elaborated.specs.Numbers.{NamesAreNumbered}
use Rattle.vs_elaborated.specs.Sound.{InstancesHavePorts, IsSoundTask, NamesAreSound, OverridesAreFine}
use Rattle.vs_scope.specs.declared.frames.Frame.{Frame}
use Rattle.vs_build.specs.Growth.{draft}
use Rattle.vs_scope.specs.Frames.{env_at, envs}
use Rattle.vs_maps.specs.Maps.{Pair, AreDistinct}
use Rattle.vs_scope.specs.declared.parameters.Override.{Override as CodeOverride}
use Rattle.vs_items.specs.declared.connections.Connection.{Connection}
use Rattle.vs_elab.specs.declared.error.ElabError.{ElabError}
use Rattle.vs_elab.specs.declared.error.ElabError.TheVariants.{Broken}
use Rattle.vs_items.specs.declared.modules.Known.{Known}
use Rattle.vs_elab.specs.declared.stack.Pending.{Pending}
use Rattle.vs_elab.specs.declared.pending.Part.{Part}
use Rattle.vs_elab.specs.declared.pending.Part.TheVariants as part
use Rattle.vs_elab.specs.declared.steps.Standing.{Standing}
use Rattle.vs_elab.specs.declared.reading.Text.{Text}
use Rattle.vs_elab.specs.declared.reading.Reading.{Reading}
use Rattle.vs_items.specs.Connections.{said}
use Rattle.vs_items.specs.Fine.{IsFineConnected}
use Rattle.vs_elab.specs.Fine.{AreFineParts}
use Rattle.vs_items.specs.Interfaces.{IsInterface}
use Rattle.vs_items.specs.Overriding.{AreAlike, said_override}
use Rattle.vs_items.specs.Modules.{IsOf}
use Rattle.vs_elab.specs.Pending.{parts_pieces, scope_around, stack_pieces}
use Rattle.vs_elab.specs.Reading.{IsText, source_of, totals_so_far, design_so_far, surveyed, FailsBy, IsOpened, IsPending, ArePending, IsReading, IsStep, Tells, outcome, pending_at}
use Rattle.vs_elab.specs.Stacks as stacks
use Rattle.vs_elab.specs.Functions.{IsIdle}
use Rattle.vs_elab.specs.Wiring.{AreWirable, own_names}
use Rattle.vs_elab.proofs.AlikeTasks.{instance_task}
use Rattle.vs_elab.proofs.InstanceReads.{told, told_more, IsKnownFine, known_fine, next_pending, others_pending, task_at, ports_at, instance_deepest, broken_at, opened_at, wiring_room, instance_wirable, names_inside, count_more, parts_fine, stack_pending, instance_done}
use Rattle.vs_elab.proofs.InstanceSteps.{wired, depth_within}
use Rattle.vs_elab.proofs.SoundInstances.{alike_fine, found_header, found_shaped, found_shallow, instance_sound}
use Rattle.vs_const.specs.declared.rules.Rule.TheVariants.{InstanceDepth}

module _ (text : Text) (whole : IsText text) (old : Reading) (stack : List Pending) (at : Standing) (t : Bor CodeInstances) (i : Bor CodeInstance) (k : Known)
    (reading : IsReading text old (stack ++ pending_at at (part.Instance t i) ∷ [])) (known : IsOf (Some k) (find_module (source_of text) (view.instances t.now).of.bytes)) where
  -- where the instance stands, and its module
  abbrev env : Env
  env = env_at (envs old.frames.items) (Some at.frame)

  abbrev m : tree.Module
  m = view.module_tree k.of.now

  pend : IsPending (source_of text) old.frames.items (pending_at at (part.Instance t i))
  pend = next_pending (source_of text) old.frames.items stack (pending_at at (part.Instance t i)) reading.pending

  fine : IsKnownFine (source_of text) env (view.instances t.now) (view.instance i.now) k
  fine = known_fine (source_of text) env (view.instances t.now) (view.instance i.now) k known pend.fine

  pub overrides_shaped : AreConnections (view.instances t.now).overrides
  overrides_shaped = pend.fine.overrides

  pub depth_few : at.depth ≤ 32
  depth_few = pend.depth

  pub frame_within : at.frame < length old.frames.items
  frame_within = pend.within

  pub frame_below : at.frame < old.counts.start.scope
  frame_below = subst (λ n. at.frame < n) reading.read.frames pend.within

  all_within : (n : ℕ) → at.frame < n → IsTrue (all_below n (at.frame ∷ []))
  all_within n h = grind (arith, h)

  pub frame_all_below : IsTrue (all_below (length old.frames.items) (at.frame ∷ []))
  frame_all_below = all_within (length old.frames.items) pend.within

  pub module_shaped : IsModule m
  module_shaped = found_shaped (source_of text) (view.instances t.now).of.bytes m whole.shaped fine.found

  pub module_header : header_depth m.header ≤ depth_limit
  module_header = found_header (source_of text) (view.instances t.now).of.bytes m whole.shaped fine.found

  pub module_shallow : deepest item_depth (items_list m.items) ≤ depth_limit
  module_shallow = found_shallow (source_of text) (view.instances t.now).of.bytes m whole.shaped fine.found

  -- the fault of the outcome
  abbrev Fails : Fault → Type 0
  Fails f = outcome text old (stack ++ pending_at at (part.Instance t i) ∷ []) ≡ Err f

  returned : (r : Result (Unit {0}) ElabError) (y e : ElabError) → r ≡ Err y → y ≡ e → Tells e Fails → IfErr r (λ (x : ElabError). Tells x Fails)
  returned r y e is same h = told r e Fails (is ∙ ap (λ (x : ElabError). let q : Result (Unit {0}) ElabError = Err x in q) same) h

  pub deepest_told : (r : Result (Unit {0}) ElabError) (y e : ElabError) → r ≡ Err y → y ≡ e → at.left ≡ 0 → e ≡ Broken (record { rule = InstanceDepth; place = (view.instances t.now).of.place }) → IfErr r (λ (x : ElabError). Tells x Fails)
  deepest_told r y e is same none said =
      returned r y (Broken (record { rule = InstanceDepth; place = (view.instances t.now).of.place })) is (same ∙ said) (instance_deepest text old stack at t i m fine.found none)

  module _ (pairs : List (Pair CodeOverride)) (name : List ℕ)
      (overridden : (m : tree.Module) (of : tree.Name) (frames : List Frame) → IsInterface k.seen m
      → AreAlike (map (said_override frames) pairs) (said_overrides of (Some m) (view.instances t.now).overrides (env_at (envs frames) (Some at.frame))).overrides) where
    abbrev code : Task
    code = instance_task name (Some at.frame) m (at.depth + 1) (view.instances t.now).of.place no_env (map (said_override old.frames.items) pairs)

    alike : AreAlike (map (said_override old.frames.items) pairs) (said_overrides (view.instances t.now).of (Some m) (view.instances t.now).overrides env).overrides
    alike = overridden m (view.instances t.now).of old.frames.items fine.seen

    -- the scope is sound
    pub code_sound : OverridesAreFine → AreDistinct pairs → IsSoundTask (design_so_far old) code
    code_sound law apart =
        instance_sound (design_so_far old) name (Some at.frame) m (at.depth + 1) (view.instances t.now).of.place (map (said_override old.frames.items) pairs) module_shaped
        (alike_fine (design_so_far old) old.frames.items pairs (said_overrides (view.instances t.now).of (Some m) (view.instances t.now).overrides env).overrides apart alike
        (law (design_so_far old) env (view.instances t.now).of (Some m) (view.instances t.now).overrides (reading.read.seen at.frame pend.within) pend.fine.overrides fine.overridden))

    module _ (named_so : name ≡ (view.instance i.now).name.bytes) (left : ℕ) (deeper : at.left ≡ suc left) where
      -- its fault
      pub broken_told : (r : Result (Unit {0}) ElabError) (y e : ElabError) → r ≡ Err y → y ≡ e → Tells e (FailsBy (source_of text) code (totals_so_far old)) → IfErr r (λ (x : ElabError). Tells x Fails)
      broken_told r y e is same h =
          returned r y e is same
          (told_more e (FailsBy (source_of text) code (totals_so_far old)) Fails (λ f g. broken_at text old stack at t i m fine.found name (map (said_override old.frames.items) pairs) named_so alike left f deeper g) h)

      module _ (mid : Reading) (ps : List Part) (opened : IsOpened (source_of text) code old mid ps) where
        whole_opened : IsOpened (source_of text) (task_at old at t i m) old mid ps
        whole_opened = opened_at text old stack at t i m fine.found name (map (said_override old.frames.items) pairs) named_so alike mid ps opened

        pub frame_still : at.frame < length mid.frames.items
        frame_still = let n = count_more text old stack at t i m fine.found mid ps whole_opened in let h = pend.within in omega (arith, n, h)

        pub frame_new : (n : ℕ) → n ≡ length old.frames.items → n < length mid.frames.items
        frame_new n e = let h = count_more text old stack at t i m fine.found mid ps whole_opened in omega (arith, e, h)

        pub depth_within_limit : at.depth + 1 ≤ 32
        depth_within_limit =
            depth_within (view.instance i.now).name.bytes (Some at.frame) m (at.depth + 1) (view.instances t.now).of.place no_env
            (said_overrides (view.instances t.now).of (Some m) (view.instances t.now).overrides env).overrides (totals_so_far old) whole_opened.limits

        pub pending_still : ArePending (source_of text) mid.frames.items stack
        pending_still = stack_pending text old stack at t i m fine.found mid ps whole_opened (others_pending (source_of text) old.frames.items stack (pending_at at (part.Instance t i)) reading.pending)

        pub parts_still : (n : ℕ) → n ≡ length old.frames.items → AreFineParts (source_of text) (env_at (envs mid.frames.items) (Some n)) ps
        parts_still n e = parts_fine text old stack at t i m fine.found mid ps whole_opened n e

        module _ (cs xs : List Connection) (same : xs ≡ cs)
            (says : (m : tree.Module) (name : tree.Name) (env : Env) → IsInterface k.seen m → (said_connections (Some m) name (view.instance i.now).connections env).faults ≡ []
            → said env cs ≡ (said_connections (Some m) name (view.instance i.now).connections env).connections)
            (clean : (m : tree.Module) (name : tree.Name) (env : Env) → IsInterface k.seen m → AreConnections (view.instance i.now).connections → connections_depth (view.instance i.now).connections ≤ depth_limit
            → (said_connections (Some m) name (view.instance i.now).connections env).faults ≡ [] → Each (IsFineConnected env) cs) where
          said_is : said env cs ≡ ports_at old at i m
          said_is = says m (view.instance i.now).name env fine.seen fine.connected

          each_fine : Each (IsFineConnected env) cs
          each_fine = clean m (view.instance i.now).name env fine.seen pend.fine.connections pend.fine.shallow fine.connected

          -- there is room for its ports, and they can be built
          pub ports_room : length (design_so_far mid).processes + length xs ≤ 2 ^ 16
          ports_room =
              subst (λ (ys : List Connection). length (design_so_far mid).processes + length ys ≤ 2 ^ 16) (sym same) (wiring_room text old stack at t i m fine.found mid ps whole_opened cs reading said_is each_fine)

          module _ (inside : Env) (n : ℕ) (number : n ≡ length old.frames.items) (is : inside ≡ env_at (envs mid.frames.items) (Some n)) (here : Env) (seen : here ≡ env_at (envs mid.frames.items) (Some at.frame)) where
            names_are : own_names inside ≡ (surveyed (source_of text) (task_at old at t i m) old).entries
            names_are = names_inside text old stack at t i m fine.found mid ps whole_opened inside n number is

            pub ports_wirable : NamesAreSound → NamesAreNumbered → InstancesHavePorts → AreWirable (design_so_far mid) (named here) (own_names inside) xs
            ports_wirable names numbers ports =
                subst (λ (ys : List Connection). AreWirable (design_so_far mid) (named here) (own_names inside) ys) (sym same)
                (subst (λ (es : List Entry). AreWirable (design_so_far mid) (named here) es cs) (sym names_are)
                (instance_wirable text old stack at t i m fine.found mid ps whole_opened cs here names numbers ports module_shaped pend.within seen said_is each_fine))

            -- the step is done
            pub all_done : (new : Reading) (rest : List Pending) → new.frames.items ≡ mid.frames.items → new.counts ≡ mid.counts → new.loops ≡ mid.loops → IsIdle (draft new.builder)
                → design_so_far new ≡ wired (design_so_far mid) (map (port_assign (view.instances t.now).of.place (own_names inside)) (said here xs))
                → stack_pieces (source_of text) mid.frames.items rest ≡ map (stacks.pending left) (parts_pieces (source_of text) (scope_around mid.frames.items n (at.depth + 1)) ps) ++ stack_pieces (source_of text) mid.frames.items stack
                → ArePending (source_of text) mid.frames.items rest → IsStep text old (stack ++ pending_at at (part.Instance t i) ∷ []) new rest
            all_done new rest frames counts loops idle wiring pushed pending =
                instance_done text old stack at t i m fine.found mid ps whole_opened new rest left n here (own_names inside) cs deeper reading number frames counts loops idle pend.within seen names_are said_is
                (wiring ∙ ap (λ (ys : List Connection). wired (design_so_far mid) (map (port_assign (view.instances t.now).of.place (own_names inside)) (said here ys))) same) pushed pending
