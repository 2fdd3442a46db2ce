-- An instance is read: its ports and its scope come to the design, and its pieces come before all that is pending.
use Rattle.std.proofs.Common.{◌≡◌, ℕ, Bool, true, false, suc, ◌+◌, ◌<◌, ◌≤◌, ◌^◌, List, [], ◌∷◌, ◌++◌, map, length, length-append, Option, Some, None, refl, sym, ap, ◌∙◌, subst, arith}
use Rattle.std.specs.Prelude.{nat_lt, sum_by}
use Rattle.std.specs.Borrow.{Bor}
use Rattle.std.proofs.lemmas.Bool.{ltb-false}
use Rattle.std.proofs.lemmas.List.{append-nil, length-map}
use Rattle.std.proofs.lemmas.List.Sums.{sum_by-cons, sum_by-append}
use Rattle.vs_design.specs.Expressions.{Signal}
use Rattle.vs_design.specs.Statements.{Function}
use Rattle.vs_design.specs.Designs.{Scope, Process, Initial, Design}
use Rattle.vs_grammar.specs.Trees as tree
use Rattle.vs_ast.specs.declared.items.Instance.{Instance as CodeInstance}
use Rattle.vs_ast.specs.declared.items.Instances.{Instances as CodeInstances}
use Rattle.vs_ast.specs.Views as view
use Rattle.vs_const.specs.declared.faults.Fault.{Fault}
use Rattle.vs_const.specs.Faults.{fault_if, least}
use Rattle.vs_const.specs.declared.rules.Rule.{Rule}
use Rattle.vs_const.specs.declared.rules.Rule.TheVariants.{InstanceDepth, TooManyInstances}
use Rattle.vs_elaborated.specs.Limits.{the_limits}
use Rattle.vs_elaborated.specs.Environments.{Env, no_env}
use Rattle.vs_elaborated.specs.Ports.{find_module}
use Rattle.vs_elaborated.specs.Parameters.{Override}
use Rattle.vs_elaborated.specs.Pieces.{Task, Connection, Piece, Instance}
use Rattle.vs_elaborated.specs.Instances.{Around, instance_said, said_overrides, said_connections}
use Rattle.vs_elaborated.specs.Surveys.{Totals, Survey, survey, piece_processes}
use Rattle.vs_elaborated.specs.Elaborated.{both_designs, port_assign, counted, limit_faults}
use Rattle.vs_scope.specs.declared.frames.Frame.{Frame}
use Rattle.vs_elab.specs.declared.stack.Pending.{Pending}
use Rattle.vs_elab.specs.declared.pending.Part.TheVariants as part
use Rattle.vs_elab.specs.declared.steps.Standing.{Standing}
use Rattle.vs_elab.specs.Pending.{instance_pieces, scope_around, stack_pieces}
use Rattle.vs_elab.specs.Reading.{pending_at, pending_processes, processes_in}
use Rattle.vs_elab.specs.Stacks as stacks
use Rattle.vs_elab.specs.Stacks.{rest_of, built_then, scope_part, ports_part, work}
use Rattle.vs_elab.proofs.Stacks.{instance_step}
use Rattle.vs_elab.proofs.Work.{instance_less}
use Rattle.vs_elab.proofs.PendingStacks.{stack_behind}
use Rattle.vs_elab.proofs.AlikeTasks.{instance_task}

-- ---- its piece

-- the scope of an instance of this module
abbrev pub task_in : Around → tree.Instances → tree.Instance → tree.Module → Task
task_in around t i m = instance_task i.name.bytes (Some around.scope) m (around.depth + 1) t.of.place no_env (said_overrides t.of (Some m) t.overrides around.env).overrides

-- what its ports are connected to
abbrev pub ports_in : Around → tree.Instance → tree.Module → List Connection
ports_in around i m = (said_connections (Some m) i.name i.connections around.env).connections

one_piece : (source : tree.Source) (around : Around) (t : tree.Instances) (i : tree.Instance) (m : tree.Module) → find_module source t.of.bytes ≡ Some m
    → instance_pieces source around t i ≡ Instance (ports_in around i m) (task_in around t i m) ∷ []
one_piece source around t i m found = ap (λ (o : Option tree.Module). (instance_said around t.of.place o (said_overrides t.of o t.overrides around.env).overrides i).pieces) found

-- it comes before all others that are pending
pub instance_first : (source : tree.Source) (frames : List Frame) (stack : List Pending) (at : Standing) (t : Bor CodeInstances) (i : Bor CodeInstance) (m : tree.Module) → find_module source (view.instances t.now).of.bytes ≡ Some m
    → (let around = scope_around frames at.frame at.depth in
    stack_pieces source frames (stack ++ pending_at at (part.Instance t i) ∷ [])
    ≡ stacks.pending at.left (Instance (ports_in around (view.instance i.now) m) (task_in around (view.instances t.now) (view.instance i.now) m)) ∷ stack_pieces source frames stack)
instance_first source frames stack at t i m found =
    stack_behind source frames stack (pending_at at (part.Instance t i))
    ∙ ap (λ (ps : List Piece). map (stacks.pending at.left) ps ++ stack_pieces source frames stack) (one_piece source (scope_around frames at.frame at.depth) (view.instances t.now) (view.instance i.now) m found)

-- ---- a step

-- with these processes more
abbrev pub wired : Design → List Process → Design
wired d ps = record d { processes = d.processes ++ ps }

abbrev of_parts : List Scope → List Signal → List Process → List Initial → List Function → Design
of_parts a b c i f = record { scopes = a; signals = b; processes = c; initials = i; functions = f }

-- the ports of an instance may come behind its scope
ports_behind : (d : Design) (k : Task) (s : Survey) (cs : List Connection) → both_designs (both_designs d (ports_part k s cs)) (scope_part k s) ≡ wired (both_designs d (scope_part k s)) (map (port_assign k.place s.entries) cs)
ports_behind d k s cs =
    let ps = map (port_assign k.place s.entries) cs in
    let inside = scope_part k s in
    ap (λ xs. of_parts (xs ++ inside.scopes) ((d.signals ++ []) ++ inside.signals) ((d.processes ++ ps) ++ []) ((d.initials ++ []) ++ []) ((d.functions ++ []) ++ inside.functions)) (append-nil d.scopes)
    ∙ ap (λ xs. of_parts (d.scopes ++ inside.scopes) (xs ++ inside.signals) ((d.processes ++ ps) ++ []) ((d.initials ++ []) ++ []) ((d.functions ++ []) ++ inside.functions)) (append-nil d.signals)
    ∙ ap (λ xs. of_parts (d.scopes ++ inside.scopes) (d.signals ++ inside.signals) xs ((d.initials ++ []) ++ []) ((d.functions ++ []) ++ inside.functions)) (append-nil (d.processes ++ ps) ∙ ap (λ xs. xs ++ ps) (sym (append-nil d.processes)))
    ∙ ap (λ xs. of_parts (d.scopes ++ inside.scopes) (d.signals ++ inside.signals) ((d.processes ++ []) ++ ps) (xs ++ []) ((d.functions ++ []) ++ inside.functions)) (append-nil d.initials)
    ∙ ap (λ xs. of_parts (d.scopes ++ inside.scopes) (d.signals ++ inside.signals) ((d.processes ++ []) ++ ps) (d.initials ++ []) (xs ++ inside.functions)) (append-nil d.functions)

-- what has been read of an instance, and what is pending then
pub record AreStepped (source : tree.Source) (k : Task) (cs : List Connection) (left : ℕ) (d : Design) (t : Totals) (ps : List stacks.Pending) (s : Survey) (e : Design) (u : Totals) (qs : List stacks.Pending) : Type 0 where
  pub is : s ≡ survey the_limits source k (counted k t)
  pub limits : least (limit_faults the_limits k (counted k t)) ≡ None
  pub fair : least s.faults ≡ None
  pub design : e ≡ wired (both_designs d (scope_part k s)) (map (port_assign k.place s.entries) cs)
  pub totals : u ≡ s.totals
  pub pending : qs ≡ map (stacks.pending left) s.pieces ++ ps

module _ (source : tree.Source) (k : Task) (cs : List Connection) (left : ℕ) (d : Design) (t : Totals) (ps : List stacks.Pending) (s : Survey) (e : Design) (u : Totals) (qs : List stacks.Pending) (h : AreStepped source k cs left d t ps s e u qs) where
  own_fair : least (survey the_limits source k (counted k t)).faults ≡ None
  own_fair = subst (λ (x : Survey). least x.faults ≡ None) h.is h.fair

  -- the outcome is the same
  pub outcome_same : built_then e (rest_of the_limits source qs u) ≡ built_then d (rest_of the_limits source (stacks.pending (suc left) (Instance cs k) ∷ ps) t)
  outcome_same =
      ap (λ (x : Design). built_then x (rest_of the_limits source qs u)) (h.design ∙ sym (ports_behind d k s cs))
      ∙ ap (λ (x : Totals). built_then (both_designs (both_designs d (ports_part k s cs)) (scope_part k s)) (rest_of the_limits source qs x)) h.totals
      ∙ ap (λ (xs : List stacks.Pending). built_then (both_designs (both_designs d (ports_part k s cs)) (scope_part k s)) (rest_of the_limits source xs s.totals)) h.pending
      ∙ ap (λ (x : Survey). built_then (both_designs (both_designs d (ports_part k x cs)) (scope_part k x)) (rest_of the_limits source (map (stacks.pending left) x.pieces ++ ps) x.totals)) h.is
      ∙ sym (instance_step the_limits source d left cs k ps t h.limits own_fair)

  -- less is pending
  pub work_less : work the_limits source qs u < work the_limits source (stacks.pending (suc left) (Instance cs k) ∷ ps) t
  work_less =
      let same : work the_limits source qs u ≡ work the_limits source (map (stacks.pending left) (survey the_limits source k (counted k t)).pieces ++ ps) (survey the_limits source k (counted k t)).totals =
      ap (λ (x : Totals). work the_limits source qs x) h.totals
      ∙ ap (λ (xs : List stacks.Pending). work the_limits source xs s.totals) h.pending
      ∙ ap (λ (x : Survey). work the_limits source (map (stacks.pending left) x.pieces ++ ps) x.totals) h.is in
      subst (λ n. n < work the_limits source (stacks.pending (suc left) (Instance cs k) ∷ ps) t) (sym same) (instance_less the_limits source left cs k ps t h.limits own_fair)

  counted_same : (qs : List Piece) → pending_processes (map (stacks.pending left) qs) ≡ sum_by piece_processes qs
  counted_same [] = refl
  counted_same (q ∷ qs) =
      sum_by-cons (λ (x : stacks.Pending). piece_processes x.piece) (stacks.pending left q) (map (stacks.pending left) qs) ∙ ap (λ n. piece_processes q + n) (counted_same qs) ∙ sym (sum_by-cons piece_processes q qs)

  -- and there are as many processes
  pub room_same : s.totals.processes ≡ t.processes + sum_by piece_processes s.pieces → processes_in d + pending_processes (stacks.pending (suc left) (Instance cs k) ∷ ps) ≡ t.processes
      → processes_in e + pending_processes qs ≡ u.processes
  room_same more before =
      let count = λ (x : stacks.Pending). piece_processes x.piece in
      let first : pending_processes (stacks.pending (suc left) (Instance cs k) ∷ ps) ≡ length cs + pending_processes ps = sum_by-cons count (stacks.pending (suc left) (Instance cs k)) ps in
      let now : pending_processes qs ≡ sum_by piece_processes s.pieces + pending_processes ps = ap pending_processes h.pending ∙ sum_by-append count (map (stacks.pending left) s.pieces) ps ∙ ap (λ n. n + pending_processes ps) (counted_same s.pieces) in
      let wide : length e.processes ≡ length d.processes + length cs =
      ap (λ (x : Design). length x.processes) h.design ∙ length-append (d.processes ++ []) (map (port_assign k.place s.entries) cs) ∙ ap (λ xs. length xs + length (map (port_assign k.place s.entries) cs)) (append-nil d.processes)
      ∙ ap (λ n. length d.processes + n) (length-map cs (port_assign k.place s.entries)) in
      let begun : length e.initials ≡ length d.initials = ap (λ (x : Design). length x.initials) h.design ∙ ap (λ xs. length xs) (append-nil d.initials) in
      let behind : u.processes ≡ t.processes + sum_by piece_processes s.pieces = ap (λ (x : Totals). x.processes) h.totals ∙ more in
      omega (arith, first, now, wide, begun, behind, before)

-- room for its ports
pub room_first : (left n : ℕ) (cs : List Connection) (k : Task) (ps : List stacks.Pending) (total : ℕ) → n + pending_processes (stacks.pending left (Instance cs k) ∷ ps) ≡ total → total ≤ 2 ^ 16 → n + length cs ≤ 2 ^ 16
room_first left n cs k ps total before few =
    let first : pending_processes (stacks.pending left (Instance cs k) ∷ ps) ≡ length cs + pending_processes ps = sum_by-cons (λ (x : stacks.Pending). piece_processes x.piece) (stacks.pending left (Instance cs k)) ps in
    omega (arith, first, before, few)

-- the count of processes behind it
pub survey_counts : (source : tree.Source) (name : List ℕ) (parent : Option ℕ) (m : tree.Module) (depth place : ℕ) (env : Env) (os : List Override) (t : Totals)
    → (let k = instance_task name parent m depth place env os in let s : Survey = survey the_limits source k (counted k t) in s.totals.processes ≡ t.processes + sum_by piece_processes s.pieces)
survey_counts source name parent m depth place env os t = refl

-- ---- limits

-- a survey without a first fault has none
pub faultless : (fs : List Fault) → least fs ≡ None → fs ≡ []
faultless [] h = refl
faultless (f ∷ fs) h = cc

lists_none : (b : Bool) (rule : Rule) (place : ℕ) (fs : List Fault) → fault_if b rule place ++ fs ≡ [] → b ≡ false
lists_none true rule place fs h = cc
lists_none false rule place fs h = refl

-- an instance within the limits isn't too deep
pub depth_within : (name : List ℕ) (parent : Option ℕ) (m : tree.Module) (depth place : ℕ) (env : Env) (os : List Override) (t : Totals)
    → (let k = instance_task name parent m depth place env os in least (limit_faults the_limits k (counted k t)) ≡ None) → depth ≤ 32
depth_within name parent m depth place env os t h =
    ltb-false 32 depth (lists_none (nat_lt 32 depth) InstanceDepth place (fault_if (nat_lt 4096 (t.instances + 1)) TooManyInstances place) (faultless _ h))
