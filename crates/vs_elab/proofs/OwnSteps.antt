-- A process or an initial process of a scope's own is built.
use Rattle.std.proofs.Common.{◌≡◌, ℕ, ◌+◌, ◌<◌, ◌≤◌, ◌^◌, false, List, [], ◌∷◌, ◌++◌, length, length-append, map, Option, None, Some, Vec, Global, refl, sym, ap, ◌∙◌, subst, arith}
use Rattle.std.specs.Borrow.{Bor}
use Rattle.std.proofs.lemmas.List.{append-nil}
use Rattle.vs_design.specs.Expressions.{Signal}
use Rattle.vs_design.specs.Statements.{Function, Statement}
use Rattle.vs_design.specs.Designs.{Scope, Process, Initial, Design}
use Rattle.vs_grammar.specs.Trees as tree
use Rattle.vs_grammar.specs.Depths.{assign_depth, statement_depth}
use Rattle.vs_grammar.specs.Spelled.{depth_limit}
use Rattle.vs_ast.specs.Views as view
use Rattle.vs_ast.specs.declared.expressions.Expr.{Expr}
use Rattle.vs_ast.specs.declared.items.AlwaysBlock.{AlwaysBlock}
use Rattle.vs_ast.specs.declared.items.Assign.{Assign}
use Rattle.vs_ast.specs.declared.items.InitialBlock.{InitialBlock}
use Rattle.vs_ast.specs.declared.items.Instance.{Instance as TextInstance}
use Rattle.vs_ast.specs.declared.items.Instances.{Instances}
use Rattle.vs_ast.specs.declared.items.Item.{Item}
use Rattle.vs_ast.specs.declared.names.Name.{Name}
use Rattle.vs_const.specs.Sound.{AreSound}
use Rattle.vs_const.proofs.Formed.{both_nil}
use Rattle.vs_elaborated.specs.Numbers.{AreNumbered, AreNumberedFrames}
use Rattle.vs_elaborated.specs.Statements.{typed_control, typed_statement}
use Rattle.vs_elaborated.specs.Surveys.{Totals, piece_processes, block_body, initial_body}
use Rattle.vs_elaborated.specs.Limits.{the_limits}
use Rattle.vs_elaborated.specs.Environments.{Env, named}
use Rattle.vs_elaborated.specs.Instances.{Around}
use Rattle.vs_elaborated.specs.Sound.{AreSoundFrames}
use Rattle.vs_elaborated.specs.Pieces.{Piece, Own, OfScopes, Initially, Instance as InstancePiece, Within}
use Rattle.vs_elaborated.specs.Elaborated.{both_designs, of_processes, of_initial}
use Rattle.vs_build.specs.Drafts.{Draft, home, home_in, and_process, and_initial}
use Rattle.vs_build.specs.Growth.{draft}
use Rattle.vs_build.specs.Executable.{IsExecutable, IsRunnable, barred, block_process, begun, value_assignment}
use Rattle.vs_build.specs.Writable.{IsAssignable, assign_process, wire_assign}
use Rattle.vs_scope.specs.declared.frames.Frame.{Frame}
use Rattle.vs_scope.specs.declared.frames.Turn.{Turn}
use Rattle.vs_scope.specs.Frames.{env_at, envs}
use Rattle.vs_elab.specs.declared.pending.Part.{Part}
use Rattle.vs_elab.specs.declared.pending.Part.TheVariants.{Wire, Value, Assigned, Always, Scoped, Initial as InitialPart, Instance, Block}
use Rattle.vs_elab.specs.declared.reading.Counts.{Counts}
use Rattle.vs_elab.specs.declared.reading.Reading.{Reading}
use Rattle.vs_elab.specs.declared.reading.Text.{Text}
use Rattle.vs_elab.specs.declared.stack.Pending.{Pending}
use Rattle.vs_elab.specs.Fine.{IsFineAssign, IsFineBegun, IsFineBlock, IsFinePart}
use Rattle.vs_elab.specs.OwnParts.{IsFineOwn, with_own}
use Rattle.vs_elab.specs.Functions.{IsIdle}
use Rattle.vs_elab.specs.Pending.{part_pieces, scope_around, pending_pieces, stack_pieces}
use Rattle.vs_elab.specs.Reading.{ArePending, IsPending, IsReading, IsStep, design_so_far, outcome, pending_processes, processes_in, source_of, totals_of, totals_so_far, work_left}
use Rattle.vs_elab.specs.Stacks as stacks
use Rattle.vs_elab.specs.Stacks.{built_then, pending, rest_of, work}
use Rattle.vs_elab.proofs.OpenedSteps.{HasMore, each_front, each_last, more_read, one_pending}
use Rattle.vs_elab.proofs.PendingStacks.{stack_behind}
use Rattle.vs_elab.proofs.Stacks.{IsOwnPiece, own_design, own_step}
use Rattle.vs_elab.proofs.Work.{own_less}

-- ---- numbers

one_less : (old_built new_built old_left new_left old_count new_count : ℕ) → new_built ≡ old_built + 1 → old_left ≡ 1 + new_left → new_count ≡ old_count → old_built + old_left ≡ old_count → new_built + new_left ≡ new_count
one_less a b c d e f x y z w = omega arith

room_for_one : (built all more count : ℕ) → all ≡ 1 + more → built + all ≡ count → count ≤ 2 ^ 16 → built < 2 ^ 16
room_for_one a b c d x y z = omega arith

pub room_in : (d : Design) → processes_in d < 2 ^ 16 → length d.processes < 2 ^ 16
room_in d h = omega (arith, h)

pub room_behind : (d : Design) → processes_in d < 2 ^ 16 → length d.initials < 2 ^ 16
room_behind d h = omega (arith, h)

low : (n : ℕ) → n ≤ depth_limit → n ≤ 253
low n h = omega (arith, h)

one_lower : (n : ℕ) → n ≤ depth_limit + 1 → n ≤ 253
one_lower n h = omega (arith, h)

-- ---- parts that are processes

abbrev pub IsNoBlock : Part → Type 0
IsNoBlock part = (name : Vec ℕ Global) (items : Bor (List Item)) (turn : Option Turn) → part ≡ Block name items turn → ⊥

abbrev pub IsNoInstance : Part → Type 0
IsNoInstance part = (item : Bor Instances) (instance : Bor TextInstance) → part ≡ Instance item instance → ⊥

abbrev pub IsNoScoped : Part → Type 0
IsNoScoped part = (b : Bor AlwaysBlock) → part ≡ Scoped b → ⊥

pub own_fine : (source : tree.Source) (env : Env) (part : Part) → IsNoBlock part → IsNoInstance part → IsNoScoped part → IsFinePart source env part → IsFineOwn env part
own_fine source env (Wire place name value) b i s h = h
own_fine source env (Value name value) b i s h = h
own_fine source env (Assigned place a) b i s h = h
own_fine source env (Always k) b i s h = h
own_fine source env (Scoped k) b i s h = absurd (s k refl)
own_fine source env (InitialPart k) b i s h = h
own_fine source env (Instance t x) b i s h = absurd (i t x refl)
own_fine source env (Block name items t) b i s h = absurd (b name items t refl)

-- with what a piece has of its own
abbrev pub and_piece : Draft → Piece → Draft
and_piece s (Own q) = and_process s q
and_piece s (OfScopes b) = s
and_piece s (Initially place statement) = and_initial s place statement
and_piece s (InstancePiece cs k) = s
and_piece s (Within k) = s

-- it is the one piece, and that is built
pub record IsOwn (source : tree.Source) (around : Around) (part : Part) : Type 0 where
  pub piece : Piece
  pub own : IsOwnPiece piece
  pub built : (s : Draft) → with_own s around.env part ≡ and_piece s piece
  pub pieces : part_pieces source around part ≡ piece ∷ []

pub own_pieces : (source : tree.Source) (around : Around) (part : Part) → IsFineOwn around.env part → IsOwn source around part
own_pieces source around (Wire place name value) h = record { piece = Own (assign_process place (wire_assign (view.name name.now) (view.expr value.now)) (named around.env)); own = tt; built = λ s. refl; pieces = refl }
own_pieces source around (Value name value) h = record { piece = Initially (view.name name.now).place (begun (value_assignment (view.name name.now) (view.expr value.now)) (named around.env)); own = tt; built = λ s. refl; pieces = refl }
own_pieces source around (Assigned place a) h = record { piece = Own (assign_process place (view.assign a.now) (named around.env)); own = tt; built = λ s. refl; pieces = refl }
own_pieces source around (Always k) h = record { piece = Own (block_process barred (view.always_block k.now) (named around.env)); own = tt; built = λ s. refl; pieces = refl }
own_pieces source around (Scoped k) h = absurd h
own_pieces source around (InitialPart k) h = record { piece = Initially (view.initial_block k.now).place (begun (view.initial_block k.now).statement (named around.env)); own = tt; built = λ s. refl; pieces = refl }
own_pieces source around (Instance t x) h = absurd h
own_pieces source around (Block name items t) h = absurd h

-- a part of another kind is none
pub own_only : (env : Env) (part : Part) → ((place : ℕ) (name : Bor Name) (value : Bor Expr) → part ≡ Wire place name value → ⊥) → ((name : Bor Name) (value : Bor Expr) → part ≡ Value name value → ⊥) → ((place : ℕ) (a : Bor Assign) → part ≡ Assigned place a → ⊥)
    → ((b : Bor AlwaysBlock) → part ≡ Always b → ⊥) → ((b : Bor InitialBlock) → part ≡ InitialPart b → ⊥) → IsFineOwn env part → ⊥
own_only env (Wire place name value) w v a k i h = w place name value refl
own_only env (Value name value) w v a k i h = v name value refl
own_only env (Assigned place x) w v a k i h = a place x refl
own_only env (Always b) w v a k i h = k b refl
own_only env (Scoped b) w v a k i h = h
own_only env (InitialPart b) w v a k i h = i b refl
own_only env (Instance t x) w v a k i h = h
own_only env (Block name items t) w v a k i h = h

-- ---- what can be built in a design

-- outside functions all stands in the design
pub at_home : (s : Draft) → s.function ≡ None → s.design ≡ home s
at_home s outside = sym (ap (home_in s.design) outside)

pub assign_fine : (s : Draft) (here env : Env) (a : tree.Assign) → s.function ≡ None → here ≡ env → IsFineAssign env a → AreSound s.design false (named env) → AreNumbered s.design (named env)
    → IsAssignable (home s) (named here) a
assign_fine s here env a outside e h sound numbered =
    subst (λ (d : Design). IsAssignable d (named here) a) (at_home s outside)
    (subst (λ (x : Env). IsAssignable s.design (named x) a) (sym e) (record { shaped = h.shaped; sound = sound; numbered = numbered; clean = h.clean; shallow = low (assign_depth a) h.shallow }))

pub block_fine : (s : Draft) (here env : Env) (b : tree.AlwaysBlock) → s.function ≡ None → here ≡ env → IsFineBlock env b → AreSound s.design false (named env) → AreNumbered s.design (named env)
    → IsRunnable (home s) barred (named here) b
block_fine s here env b outside e h sound numbered =
    let n = both_nil (typed_control b.control (named env)).faults (typed_statement b.statement (block_body b) (named env)).faults h.clean in
    subst (λ (d : Design). IsRunnable d barred (named here) b) (at_home s outside)
    (subst (λ (x : Env). IsRunnable s.design barred (named x) b) (sym e)
    (record { shaped = h.shaped; around = record { unrolls = refl; sound = λ place. tt; numbered = λ place. tt }; sound = sound; numbered = numbered; control = n.0; clean = n.1; shallow = low (statement_depth b.statement) h.shallow }))

pub begun_fine : (s : Draft) (here env : Env) (t : tree.Statement) → s.function ≡ None → here ≡ env → IsFineBegun env t → AreSound s.design false (named env) → AreNumbered s.design (named env)
    → IsExecutable (home s) initial_body (named here) t
begun_fine s here env t outside e h sound numbered =
    subst (λ (d : Design). IsExecutable d initial_body (named here) t) (at_home s outside)
    (subst (λ (x : Env). IsExecutable s.design initial_body (named x) t) (sym e)
    (record { shaped = h.shaped; around = record { unrolls = refl; sound = λ place. tt; numbered = λ place. tt }; sound = sound; numbered = numbered; clean = h.clean; shallow = one_lower (statement_depth t) h.shallow }))

-- ---- what is built

pub wire_built : (old new : Draft) (here env : Env) (part : Part) (place : ℕ) (name : Bor Name) (value : Bor Expr) → here ≡ env → part ≡ Wire place name value
    → new ≡ and_process old (assign_process place (wire_assign (view.name name.now) (view.expr value.now)) (named here)) → new ≡ with_own old env part
wire_built old new here env part place name value e is h =
    h ∙ ap (λ (x : Env). and_process old (assign_process place (wire_assign (view.name name.now) (view.expr value.now)) (named x))) e ∙ sym (ap (λ (x : Part). with_own old env x) is)

pub assign_built : (old new : Draft) (here env : Env) (part : Part) (place : ℕ) (a : Bor Assign) → here ≡ env → part ≡ Assigned place a
    → new ≡ and_process old (assign_process place (view.assign a.now) (named here)) → new ≡ with_own old env part
assign_built old new here env part place a e is h =
    h ∙ ap (λ (x : Env). and_process old (assign_process place (view.assign a.now) (named x))) e ∙ sym (ap (λ (x : Part). with_own old env x) is)

pub always_built : (old new : Draft) (here env : Env) (part : Part) (b : Bor AlwaysBlock) → here ≡ env → part ≡ Always b
    → new ≡ and_process old (block_process barred (view.always_block b.now) (named here)) → new ≡ with_own old env part
always_built old new here env part b e is h =
    h ∙ ap (λ (x : Env). and_process old (block_process barred (view.always_block b.now) (named x))) e ∙ sym (ap (λ (x : Part). with_own old env x) is)

pub value_built : (old new : Draft) (here env : Env) (part : Part) (name : Bor Name) (value : Bor Expr) → here ≡ env → part ≡ Value name value
    → new ≡ and_initial old (view.name name.now).place (begun (value_assignment (view.name name.now) (view.expr value.now)) (named here)) → new ≡ with_own old env part
value_built old new here env part name value e is h =
    h ∙ ap (λ (x : Env). and_initial old (view.name name.now).place (begun (value_assignment (view.name name.now) (view.expr value.now)) (named x))) e ∙ sym (ap (λ (x : Part). with_own old env x) is)

pub initial_built : (old new : Draft) (here env : Env) (part : Part) (b : Bor InitialBlock) → here ≡ env → part ≡ InitialPart b
    → new ≡ and_initial old (view.initial_block b.now).place (begun (view.initial_block b.now).statement (named here)) → new ≡ with_own old env part
initial_built old new here env part b e is h =
    h ∙ ap (λ (x : Env). and_initial old (view.initial_block b.now).place (begun (view.initial_block b.now).statement (named x))) e ∙ sym (ap (λ (x : Part). with_own old env x) is)

-- ---- one piece more

abbrev of_parts : List Scope → List Signal → List Process → List Initial → List Function → Design
of_parts a b c i d = record { scopes = a; signals = b; processes = c; initials = i; functions = d }

process_behind : (d : Design) (q : Process) → of_parts d.scopes d.signals (d.processes ++ q ∷ []) d.initials d.functions ≡ both_designs d (of_processes (q ∷ []))
process_behind d q =
    ap (λ xs. of_parts xs d.signals (d.processes ++ q ∷ []) d.initials d.functions) (sym (append-nil d.scopes))
    ∙ ap (λ xs. of_parts (d.scopes ++ []) xs (d.processes ++ q ∷ []) d.initials d.functions) (sym (append-nil d.signals))
    ∙ ap (λ xs. of_parts (d.scopes ++ []) (d.signals ++ []) (d.processes ++ q ∷ []) xs d.functions) (sym (append-nil d.initials))
    ∙ ap (of_parts (d.scopes ++ []) (d.signals ++ []) (d.processes ++ q ∷ []) (d.initials ++ [])) (sym (append-nil d.functions))

-- an initial process that begins here, behind so many
abbrev placed : (place : ℕ) → Statement → (behind : ℕ) → Initial
placed place t behind = record { place = place; behind = behind; statement = t }

none_more : (n : ℕ) → n ≡ n + 0
none_more n = omega arith

initial_behind : (d : Design) (place : ℕ) (t : Statement) → of_parts d.scopes d.signals d.processes (d.initials ++ placed place t (length d.processes) ∷ []) d.functions ≡ both_designs d (of_initial place t)
initial_behind d place t =
    ap (λ (n : ℕ). of_parts d.scopes d.signals d.processes (d.initials ++ placed place t n ∷ []) d.functions) (none_more (length d.processes))
    ∙ ap (λ xs. of_parts xs d.signals d.processes (d.initials ++ placed place t (length d.processes + 0) ∷ []) d.functions) (sym (append-nil d.scopes))
    ∙ ap (λ xs. of_parts (d.scopes ++ []) xs d.processes (d.initials ++ placed place t (length d.processes + 0) ∷ []) d.functions) (sym (append-nil d.signals))
    ∙ ap (λ xs. of_parts (d.scopes ++ []) (d.signals ++ []) xs (d.initials ++ placed place t (length d.processes + 0) ∷ []) d.functions) (sym (append-nil d.processes))
    ∙ ap (of_parts (d.scopes ++ []) (d.signals ++ []) (d.processes ++ []) (d.initials ++ placed place t (length d.processes + 0) ∷ [])) (sym (append-nil d.functions))

-- the design has it behind all others
pub piece_behind : (s : Draft) (v : Draft) (p : Piece) → IsOwnPiece p → v ≡ and_piece s p → v.design ≡ both_designs s.design (own_design p)
piece_behind s v (OfScopes b) h e = absurd h
piece_behind s v (Own q) h e = ap (λ (z : Draft). z.design) e ∙ process_behind s.design q
piece_behind s v (Initially place t) h e = ap (λ (z : Draft). z.design) e ∙ initial_behind s.design place t
piece_behind s v (InstancePiece cs k) h e = absurd h
piece_behind s v (Within k) h e = absurd h

-- it is one process or one initial process
pub piece_counts : (p : Piece) → IsOwnPiece p → piece_processes p ≡ 1
piece_counts (OfScopes b) h = absurd h
piece_counts (Own q) h = refl
piece_counts (Initially place t) h = refl
piece_counts (InstancePiece cs k) h = absurd h
piece_counts (Within k) h = absurd h

one_more_in : (s : Draft) (p : Piece) → IsOwnPiece p → processes_in (and_piece s p).design ≡ processes_in s.design + 1
one_more_in s (OfScopes b) h = absurd h
one_more_in s (Own q) h = let n = length-append s.design.processes (q ∷ []) in omega (arith, n)
one_more_in s (Initially place t) h = let n = length-append s.design.initials (placed place t (length s.design.processes) ∷ []) in omega (arith, n)
one_more_in s (InstancePiece cs k) h = absurd h
one_more_in s (Within k) h = absurd h

same_functions_in : (s : Draft) (p : Piece) → (and_piece s p).design.functions ≡ s.design.functions
same_functions_in s (OfScopes b) = refl
same_functions_in s (Own q) = refl
same_functions_in s (Initially place t) = refl
same_functions_in s (InstancePiece cs k) = refl
same_functions_in s (Within k) = refl

same_scopes_in : (s : Draft) (p : Piece) → (and_piece s p).design.scopes ≡ s.design.scopes
same_scopes_in s (OfScopes b) = refl
same_scopes_in s (Own q) = refl
same_scopes_in s (Initially place t) = refl
same_scopes_in s (InstancePiece cs k) = refl
same_scopes_in s (Within k) = refl

same_signals_in : (s : Draft) (p : Piece) → (and_piece s p).design.signals ≡ s.design.signals
same_signals_in s (OfScopes b) = refl
same_signals_in s (Own q) = refl
same_signals_in s (Initially place t) = refl
same_signals_in s (InstancePiece cs k) = refl
same_signals_in s (Within k) = refl

idle_in : (s : Draft) (p : Piece) → IsIdle s → IsIdle (and_piece s p)
idle_in s (OfScopes b) h = h
idle_in s (Own q) h = record { outside = h.outside; expressions = h.expressions; statements = h.statements }
idle_in s (Initially place t) h = record { outside = h.outside; expressions = h.expressions; statements = h.statements }
idle_in s (InstancePiece cs k) h = h
idle_in s (Within k) h = h

-- one piece more has been built, and nothing else
pub one_built : (old new : Reading) (q : Piece) → IsOwnPiece q → draft new.builder ≡ and_piece (draft old.builder) q → new.frames.items ≡ old.frames.items → new.counts ≡ old.counts → new.loops ≡ old.loops → HasMore 1 old new
one_built old new q own e f c l = record {
  frames = f;
  counts = c;
  loops = l;
  functions = ap (λ (z : Draft). z.design.functions) e ∙ same_functions_in (draft old.builder) q;
  idle = λ h. subst IsIdle (sym e) (idle_in (draft old.builder) q h);
  scopes = ap (λ (z : Draft). z.design.scopes) e ∙ same_scopes_in (draft old.builder) q;
  signals = ap (λ (z : Draft). z.design.signals) e ∙ same_signals_in (draft old.builder) q;
  processes = ap (λ (z : Draft). processes_in z.design) e ∙ one_more_in (draft old.builder) q own;
}

-- ---- the step

-- what is pending has one piece less, and that is built
pub own_built : (text : Text) (old new : Reading) (q : Piece) (p : Pending) (stack : List Pending) → IsOwnPiece q
    → IsReading text old (stack ++ p ∷ []) → pending_pieces (source_of text) old.frames.items p ≡ pending p.left q ∷ []
    → draft new.builder ≡ and_piece (draft old.builder) q → new.frames.items ≡ old.frames.items → new.counts ≡ old.counts → new.loops ≡ old.loops → IsStep text old (stack ++ p ∷ []) new stack
own_built text old new q p stack own h is built same_frames same_counts same_loops = record {
  reading =
      record {
        read = more_read 1 old new more h.read;
        later = ap (λ (c : Counts). c.start.top) same_counts ∙ h.later;
        pending = subst (λ (fs : List Frame). ArePending source fs stack) (sym same_frames) (each_front (IsPending source old.frames.items) stack (p ∷ []) h.pending);
        room = room_of;
      };
  same = same_of;
  less = less_of;
}
  where
    source : tree.Source
    source = source_of text

    more : HasMore 1 old new
    more = one_built old new q own built same_frames same_counts same_loops

    same_totals : totals_so_far new ≡ totals_so_far old
    same_totals = ap (λ (c : Counts). totals_of c new.loops) same_counts ∙ ap (totals_of old.counts) same_loops

    others : List stacks.Pending
    others = stack_pieces source old.frames.items stack

    before_it : stack_pieces source old.frames.items (stack ++ p ∷ []) ≡ pending p.left q ∷ others
    before_it = stack_behind source old.frames.items stack p ∙ ap (λ (qs : List stacks.Pending). qs ++ others) is

    after_it : stack_pieces source new.frames.items stack ≡ others
    after_it = ap (λ (fs : List Frame). stack_pieces source fs stack) same_frames

    less_pending : pending_processes (stack_pieces source old.frames.items (stack ++ p ∷ [])) ≡ 1 + pending_processes (stack_pieces source new.frames.items stack)
    less_pending =
        ap pending_processes before_it ∙ one_pending (pending p.left q) others ∙ ap (λ (n : ℕ). n + pending_processes others) (piece_counts q own) ∙ ap (λ (qs : List stacks.Pending). 1 + pending_processes qs) (sym after_it)

    room_of : processes_in (design_so_far new) + pending_processes (stack_pieces source new.frames.items stack) ≡ new.counts.processes
    room_of = one_less _ _ _ _ _ _ more.processes less_pending (ap (λ (c : Counts). c.processes) same_counts) h.room

    same_of : outcome text new stack ≡ outcome text old (stack ++ p ∷ [])
    same_of =
        ap (λ (d : Design). built_then d (rest_of the_limits source (stack_pieces source new.frames.items stack) (totals_so_far new))) (piece_behind (draft old.builder) (draft new.builder) q own built)
        ∙ ap (λ (qs : List stacks.Pending). built_then (both_designs (design_so_far old) (own_design q)) (rest_of the_limits source qs (totals_so_far new))) after_it
        ∙ ap (λ (u : Totals). built_then (both_designs (design_so_far old) (own_design q)) (rest_of the_limits source others u)) same_totals
        ∙ sym (own_step the_limits source (design_so_far old) p.left q others (totals_so_far old) own)
        ∙ sym (ap (λ (qs : List stacks.Pending). built_then (design_so_far old) (rest_of the_limits source qs (totals_so_far old))) before_it)

    work_before : work_left text old (stack ++ p ∷ []) ≡ work the_limits source (pending p.left q ∷ others) (totals_so_far old)
    work_before = ap (λ (qs : List stacks.Pending). work the_limits source qs (totals_so_far old)) before_it

    work_after : work_left text new stack ≡ work the_limits source others (totals_so_far old)
    work_after = ap (λ (qs : List stacks.Pending). work the_limits source qs (totals_so_far new)) after_it ∙ ap (λ (u : Totals). work the_limits source others u) same_totals

    less_of : work_left text new stack < work_left text old (stack ++ p ∷ [])
    less_of =
        subst (λ (n : ℕ). n < work_left text old (stack ++ p ∷ [])) (sym work_after)
        (subst (λ (n : ℕ). work the_limits source others (totals_so_far old) < n) (sym work_before) (own_less the_limits source p.left q others (totals_so_far old) own))

-- ---- what was pending

-- there is room for it
pub own_room : (text : Text) (old : Reading) (q : Piece) (p : Pending) (stack : List Pending) → IsOwnPiece q → IsReading text old (stack ++ p ∷ [])
    → pending_pieces (source_of text) old.frames.items p ≡ pending p.left q ∷ [] → processes_in (design_so_far old) < 2 ^ 16
own_room text old q p stack own h is = room_for_one _ _ _ _ left h.room h.read.few_processes
  where
    source : tree.Source
    source = source_of text

    others : List stacks.Pending
    others = stack_pieces source old.frames.items stack

    left : pending_processes (stack_pieces source old.frames.items (stack ++ p ∷ [])) ≡ 1 + pending_processes others
    left = ap pending_processes (stack_behind source old.frames.items stack p) ∙ ap (λ (qs : List stacks.Pending). pending_processes (qs ++ others)) is ∙ one_pending (pending p.left q) others
        ∙ ap (λ (n : ℕ). n + pending_processes others) (piece_counts q own)

-- ---- the part that comes next, if it is a process or an initial process

module _ (text : Text) (old : Reading) (p : Pending) (stack : List Pending) (b : IsNoBlock p.part) (i : IsNoInstance p.part) (s : IsNoScoped p.part) (h : IsReading text old (stack ++ p ∷ [])) where
  next : IsPending (source_of text) old.frames.items p
  next = each_last (IsPending (source_of text) old.frames.items) stack p h.pending

  pub next_within : p.frame < length old.frames.items
  next_within = next.within

  pub next_seen : AreSoundFrames (design_so_far old) false (env_at (envs old.frames.items) (Some p.frame)).frames
  next_seen = h.read.seen p.frame next.within

  pub next_numbered : AreNumberedFrames (design_so_far old) (env_at (envs old.frames.items) (Some p.frame)).frames
  next_numbered = h.read.numbered p.frame next.within

  pub next_fine : IsFineOwn (env_at (envs old.frames.items) (Some p.frame)) p.part
  next_fine = own_fine (source_of text) (env_at (envs old.frames.items) (Some p.frame)) p.part b i s next.fine

  own : IsOwn (source_of text) (scope_around old.frames.items p.frame p.depth) p.part
  own = own_pieces (source_of text) (scope_around old.frames.items p.frame p.depth) p.part next_fine

  pub next_room : processes_in (design_so_far old) < 2 ^ 16
  next_room = own_room text old own.piece p stack own.own h (ap (map (pending p.left)) own.pieces)

  pub next_built : (new : Reading) → draft new.builder ≡ with_own (draft old.builder) (env_at (envs old.frames.items) (Some p.frame)) p.part
      → new.frames.items ≡ old.frames.items → new.counts ≡ old.counts → new.loops ≡ old.loops → IsStep text old (stack ++ p ∷ []) new stack
  next_built new built same_frames same_counts same_loops =
      own_built text old new own.piece p stack own.own h (ap (map (pending p.left)) own.pieces) (built ∙ own.built (draft old.builder)) same_frames same_counts same_loops
