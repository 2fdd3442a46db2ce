-- A scope is opened: its parts are pending in its place.
use Rattle.std.proofs.Common.{◌≡◌, ℕ, suc, ◌+◌, ◌<◌, ◌≤◌, ◌^◌, Bool, true, false, List, [], ◌∷◌, ◌++◌, length, length-append, map, Option, Some, if◌then◌else◌, refl, sym, ap, ◌∙◌, subst, arith}
use Rattle.std.specs.Prelude.{Result, Err, IfErr, option_to_list, sum_by}
use Rattle.std.specs.Result.{IsErrAnd}
use Rattle.std.proofs.lemmas.Result.{err_from_is_err_and, IfErr-weaker}
use Rattle.std.proofs.lemmas.List.{append-nil}
use Rattle.std.proofs.lemmas.List.Sums.{sum_by-append, sum_by-cons}
use Rattle.vs_design.specs.Designs.{Design}
use Rattle.vs_design.specs.Expressions.{signal_length}
use Rattle.vs_grammar.specs.Trees as tree
use Rattle.vs_grammar.specs.Shapes.{Each}
use Rattle.vs_const.specs.declared.faults.Fault.{Fault}
use Rattle.vs_elaborated.specs.Limits.{the_limits}
use Rattle.vs_elaborated.specs.Environments.{Env}
use Rattle.vs_elaborated.specs.Pieces.{Task, Piece, Within, is_instance}
use Rattle.vs_elaborated.specs.Surveys.{Totals, survey, piece_processes}
use Rattle.vs_elaborated.specs.Elaborated.{both_designs, counted, read_scope}
use Rattle.vs_build.specs.Growth.{draft}
use Rattle.vs_build.proofs.Wider.{IsWider, same_signals}
use Rattle.vs_scope.specs.declared.frames.Frame.{Frame}
use Rattle.vs_scope.specs.Frames.{KeepShapes, env_at, envs}
use Rattle.vs_elab.specs.declared.error.ElabError.{ElabError}
use Rattle.vs_elab.specs.declared.error.ElabError.TheVariants.{Broken, Memory}
use Rattle.vs_elab.specs.declared.pending.Part.{Part}
use Rattle.vs_elab.specs.declared.reading.Counts.{Counts}
use Rattle.vs_elab.specs.declared.reading.Reading.{Reading}
use Rattle.vs_elab.specs.declared.reading.Text.{Text}
use Rattle.vs_elab.specs.declared.stack.Pending.{Pending}
use Rattle.vs_elab.specs.Fine.{IsFinePart, AreFineParts}
use Rattle.vs_elab.specs.Functions.{IsIdle}
use Rattle.vs_elab.specs.Pending.{parts_pieces, scope_around, pending_pieces, stack_pieces, AreWithin}
use Rattle.vs_elab.specs.Reading.{AreNumberedIn, AreSeen, ArePending, IsOpened, IsPending, IsRead, IsReading, IsStep, design_so_far, outcome, pending_processes, processes_in, source_of, surveyed, Tells, totals_so_far, work_left}
use Rattle.vs_elab.specs.Stacks as stacks
use Rattle.vs_elab.specs.Stacks.{built_then, pending, rest_of, scope_part, work}
use Rattle.vs_elab.proofs.MoreFrames.{each_behind, env_kept, stack_kept}
use Rattle.vs_elab.proofs.NumberedNames.{same_functions, seen_numbered}
use Rattle.vs_elab.proofs.PendingStacks.{stack_behind}
use Rattle.vs_elab.proofs.Stacks.{within_fails, within_step}
use Rattle.vs_elab.proofs.WiderScopes.{frames_wider}
use Rattle.vs_elab.proofs.Work.{within_less}

-- ---- lists

pub each_front : {A : Type 0} (P : A → Type 0) (xs ys : List A) → Each P (xs ++ ys) → Each P xs
each_front P [] ys h = tt
each_front P (x ∷ xs) ys h = (h.0, each_front P xs ys h.1)

pub each_last : {A : Type 0} (P : A → Type 0) (xs : List A) (y : A) → Each P (xs ++ y ∷ []) → P y
each_last P [] y h = h.0
each_last P (x ∷ xs) y h = each_last P xs y h.1

pub one_pending : (q : stacks.Pending) (qs : List stacks.Pending) → pending_processes (q ∷ qs) ≡ piece_processes q.piece + pending_processes qs
one_pending q qs = sum_by-cons (λ (x : stacks.Pending). piece_processes x.piece) q qs

pub both_pending : (xs ys : List stacks.Pending) → pending_processes (xs ++ ys) ≡ pending_processes xs + pending_processes ys
both_pending xs ys = sum_by-append (λ (q : stacks.Pending). piece_processes q.piece) xs ys

pub pieces_pending : (left : ℕ) (ps : List Piece) → pending_processes (map (pending left) ps) ≡ sum_by piece_processes ps
pieces_pending left [] = refl
pieces_pending left (p ∷ ps) = one_pending (pending left p) (map (pending left) ps) ∙ ap (λ (n : ℕ). piece_processes p + n) (pieces_pending left ps) ∙ sym (sum_by-cons piece_processes p ps)

-- ---- numbers

pub one_longer : {A : Type 0} (xs ys : List A) (y : A) → ys ≡ xs ++ y ∷ [] → length xs < length ys
one_longer xs ys y e = omega (arith, ap length e, length-append xs (y ∷ []))

nothing_added : (n : ℕ) → n ≡ n + 0
nothing_added n = omega arith

-- what was built, what is left and how many there are, before and then
left_is : (old_built new_built last_built old_left last_left old_count last_count own more others : ℕ) → new_built ≡ old_built → last_built ≡ new_built + own → old_left ≡ own + others → last_left ≡ more + others
    → last_count ≡ old_count + more → old_built + old_left ≡ old_count → last_built + last_left ≡ last_count
left_is a b c d e f g n i j x1 x2 x3 x4 x5 x6 = omega arith

-- ---- parts go to the stack

-- those that are left break no rule
pub parts_left : (source : tree.Source) (env : Env) (parts rest : List Part) (r : Option Part) → parts ≡ rest ++ option_to_list r → AreFineParts source env parts → AreFineParts source env rest
parts_left source env parts rest r e h = each_front (IsFinePart source env) rest (option_to_list r) (subst (AreFineParts source env) e h)

-- the one that goes there stands in its scope
pub part_pending : (source : tree.Source) (frames : List Frame) (frame depth left : ℕ) (parts rest : List Part) (r : Option Part) (part : Part) (stack new : List Pending)
    → parts ≡ rest ++ option_to_list r → r ≡ Some part → new ≡ stack ++ (record { frame = frame; depth = depth; left = left; part = part }) ∷ []
    → frame < length frames → depth ≤ 32 → AreFineParts source (env_at (envs frames) (Some frame)) parts → ArePending source frames stack → ArePending source frames new
part_pending source frames frame depth left parts rest r part stack new e is pushed within few fine before =
    let env = env_at (envs frames) (Some frame) in
    let one : IsFinePart source env part = each_last (IsFinePart source env) rest part (subst (AreFineParts source env) (e ∙ ap (λ (o : Option Part). rest ++ option_to_list o) is) fine) in
    let last : IsPending source frames (record { frame = frame; depth = depth; left = left; part = part }) = record { within = within; depth = few; fine = one } in
    subst (ArePending source frames) (sym pushed) (each_behind (IsPending source frames) stack ((record { frame = frame; depth = depth; left = left; part = part }) ∷ []) before (last, tt))

-- ---- one scope more

further : (i n m : ℕ) → i < n → n < m → i < m
further i n m h k = omega arith

pub part_kept : (source : tree.Source) (fs : List Frame) (f : Frame) (p : Pending) → IsPending source fs p → IsPending source (fs ++ f ∷ []) p
part_kept source fs f p h = record {
  within = further p.frame (length fs) (length (fs ++ f ∷ [])) h.within (one_longer fs (fs ++ f ∷ []) f refl);
  depth = h.depth;
  fine = subst (λ (e : Env). IsFinePart source e p.part) (sym (env_kept fs f p.frame h.within)) h.fine;
}

-- what is pending breaks no rule in the same scopes
pub pending_kept : (source : tree.Source) (fs : List Frame) (f : Frame) (ps : List Pending) → ArePending source fs ps → ArePending source (fs ++ f ∷ []) ps
pending_kept source fs f [] h = tt
pending_kept source fs f (p ∷ ps) h = (part_kept source fs f p h.0, pending_kept source fs f ps h.1)

pub are_within : (source : tree.Source) (fs : List Frame) (ps : List Pending) → ArePending source fs ps → AreWithin (length fs) ps
are_within source fs [] h = tt
are_within source fs (p ∷ ps) h = (h.0.within, are_within source fs ps h.1)

-- ---- names in a design that has more

seen_wider : (c d : Design) → IsWider c d → (frames : List Frame) → AreSeen c frames → AreSeen d frames
seen_wider c d w frames h = λ i within. frames_wider c d w false (env_at (envs frames) (Some i)).frames (h i within)

-- ---- processes more

-- the same, but for so many processes more
pub record HasMore (n : ℕ) (r s : Reading) : Type 0 where
  pub frames : s.frames.items ≡ r.frames.items
  pub counts : s.counts ≡ r.counts
  pub scopes : (design_so_far s).scopes ≡ (design_so_far r).scopes
  pub loops : s.loops ≡ r.loops
  pub signals : (design_so_far s).signals ≡ (design_so_far r).signals
  pub functions : (design_so_far s).functions ≡ (design_so_far r).functions
  pub idle : IsIdle (draft r.builder) → IsIdle (draft s.builder)
  pub processes : processes_in (design_so_far s) ≡ processes_in (design_so_far r) + n

pub nothing_more : (r : Reading) → HasMore 0 r r
nothing_more r = record { frames = refl; counts = refl; loops = refl; scopes = refl; signals = refl; functions = refl; idle = λ h. h; processes = nothing_added (processes_in (design_so_far r)) }

-- it has been read as before
pub more_read : (n : ℕ) (r s : Reading) → HasMore n r s → IsRead r → IsRead s
more_read n r s m h = record {
  scopes = ap length m.scopes ∙ h.scopes ∙ sym (ap (λ (c : Counts). c.start.scope) m.counts);
  frames = ap length m.frames ∙ h.frames ∙ sym (ap (λ (c : Counts). c.start.scope) m.counts);
  signals = ap length m.signals ∙ h.signals ∙ sym (ap (λ (c : Counts). c.start.signal) m.counts);
  bits = ap (sum_by signal_length) m.signals ∙ h.bits ∙ sym (ap (λ (c : Counts). c.start.bit) m.counts);
  functions = ap length m.functions ∙ h.functions ∙ sym (ap (λ (c : Counts). c.functions) m.counts);
  idle = m.idle h.idle;
  few_bits = subst (λ (c : Counts). c.start.bit ≤ 2 ^ 20) (sym m.counts) h.few_bits;
  few_instances = subst (λ (c : Counts). c.instances ≤ 4096) (sym m.counts) h.few_instances;
  few_processes = subst (λ (c : Counts). c.processes ≤ 2 ^ 16) (sym m.counts) h.few_processes;
  kept = subst KeepShapes (sym m.frames) h.kept;
  numbered = subst (AreNumberedIn (design_so_far s)) (sym m.frames) (seen_numbered (design_so_far r) (design_so_far s) [] (same_functions (design_so_far r) (design_so_far s) m.functions) r.frames.items h.numbered);
  seen = subst (AreSeen (design_so_far s)) (sym m.frames) (seen_wider (design_so_far r) (design_so_far s) (same_signals (design_so_far r) (design_so_far s) (omega (arith, ap length m.scopes)) m.signals) r.frames.items h.seen);
}

-- ---- a scope is opened

counted_if : (b : Bool) (t u : Totals) → u.processes ≡ t.processes → (if b then u else t).processes ≡ t.processes
counted_if true t u h = h
counted_if false t u h = refl

counted_processes : (k : Task) (t : Totals) → (counted k t).processes ≡ t.processes
counted_processes k t = counted_if (is_instance k.contents) t (record t { instances = t.instances + 1 }) refl

survey_processes : (source : tree.Source) (k : Task) (t : Totals) → (survey the_limits source k t).totals.processes ≡ t.processes + sum_by piece_processes (survey the_limits source k t).pieces
survey_processes source k t = refl

-- its pieces have as many processes as there are more then
surveyed_processes : (source : tree.Source) (k : Task) (r : Reading) → (surveyed source k r).totals.processes ≡ r.counts.processes + sum_by piece_processes (surveyed source k r).pieces
surveyed_processes source k r =
    survey_processes source k (counted k (totals_so_far r)) ∙ ap (λ (n : ℕ). n + sum_by piece_processes (surveyed source k r).pieces) (counted_processes k (totals_so_far r))

-- what is pending then: its parts, and what was pending before
pub opened_stack : (source : tree.Source) (t : Task) (old new : Reading) (ps : List Part) (left : ℕ) (stack rest : List Pending)
    → IsOpened source t old new ps → ArePending source old.frames.items stack
    → stack_pieces source new.frames.items rest ≡ map (pending left) (parts_pieces source (scope_around new.frames.items (length old.frames.items) t.depth) ps) ++ stack_pieces source new.frames.items stack
    → stack_pieces source new.frames.items rest ≡ map (pending left) (surveyed source t old).pieces ++ stack_pieces source old.frames.items stack
opened_stack source t old new ps left stack rest o before pushed =
    pushed
    ∙ ap (λ (qs : List Piece). map (pending left) qs ++ stack_pieces source new.frames.items stack) o.pieces
    ∙ ap (λ (fs : List Frame). map (pending left) (surveyed source t old).pieces ++ stack_pieces source fs stack) o.frames
    ∙ ap (λ (qs : List stacks.Pending). map (pending left) (surveyed source t old).pieces ++ qs) (stack_kept source old.frames.items o.frame stack (are_within source old.frames.items stack before))

-- what was pending before stays so
pub opened_before : (source : tree.Source) (t : Task) (old new : Reading) (ps : List Part) (stack : List Pending) → IsOpened source t old new ps
    → ArePending source old.frames.items stack → ArePending source new.frames.items stack
opened_before source t old new ps stack o before = subst (λ (fs : List Frame). ArePending source fs stack) (sym o.frames) (pending_kept source old.frames.items o.frame stack before)

-- it is one of the scopes
pub opened_within : (source : tree.Source) (t : Task) (old new : Reading) (ps : List Part) → IsOpened source t old new ps → length old.frames.items < length new.frames.items
opened_within source t old new ps o = one_longer old.frames.items new.frames.items o.frame o.frames

-- its parts break no rule in it
pub opened_fine : (source : tree.Source) (t : Task) (old new : Reading) (ps : List Part) → IsOpened source t old new ps
    → AreFineParts source (env_at (envs new.frames.items) (Some (length old.frames.items))) ps
opened_fine source t old new ps o = subst (λ (e : Env). AreFineParts source e ps) (sym o.seen) o.parts

-- the scope adds no process of its own
opened_processes : (source : tree.Source) (t : Task) (old new : Reading) (ps : List Part) → IsOpened source t old new ps → processes_in (design_so_far new) ≡ processes_in (design_so_far old)
opened_processes source t old new ps o =
    let a : length (design_so_far new).processes ≡ length (design_so_far old).processes = ap (λ (d : Design). length d.processes) o.design ∙ ap length (append-nil (design_so_far old).processes) in
    let b : length (design_so_far new).initials ≡ length (design_so_far old).initials = ap (λ (d : Design). length d.initials) o.design ∙ ap length (append-nil (design_so_far old).initials) in
    omega (arith, a, b)

-- what has been read and what is pending is all there is, where the part `p` had `n` processes of its own and these are built besides
pub opened_reading : (text : Text) (t : Task) (old new last : Reading) (ps : List Part) (left n : ℕ) (p : Pending) (stack rest : List Pending)
    → IsReading text old (stack ++ p ∷ []) → IsOpened (source_of text) t old new ps → HasMore n new last → pending_processes (pending_pieces (source_of text) old.frames.items p) ≡ n
    → stack_pieces (source_of text) new.frames.items rest ≡ map (pending left) (surveyed (source_of text) t old).pieces ++ stack_pieces (source_of text) old.frames.items stack
    → ArePending (source_of text) new.frames.items rest → IsReading text last rest
opened_reading text t old new last ps left n p stack rest h o m own pushed all = record {
  read = more_read n new last m o.read;
  later = subst (λ (c : Counts). c.start.top ≡ false) (sym m.counts) o.later;
  pending = subst (λ (fs : List Frame). ArePending (source_of text) fs rest) (sym m.frames) all;
  room = room_of;
}
  where
    source : tree.Source
    source = source_of text

    before : pending_processes (stack_pieces source old.frames.items (stack ++ p ∷ [])) ≡ n + pending_processes (stack_pieces source old.frames.items stack)
    before =
        ap pending_processes (stack_behind source old.frames.items stack p) ∙ both_pending (pending_pieces source old.frames.items p) (stack_pieces source old.frames.items stack)
        ∙ ap (λ (k : ℕ). k + pending_processes (stack_pieces source old.frames.items stack)) own

    behind : pending_processes (stack_pieces source last.frames.items rest) ≡ sum_by piece_processes (surveyed source t old).pieces + pending_processes (stack_pieces source old.frames.items stack)
    behind =
        ap (λ (fs : List Frame). pending_processes (stack_pieces source fs rest)) m.frames ∙ ap pending_processes pushed
        ∙ both_pending (map (pending left) (surveyed source t old).pieces) (stack_pieces source old.frames.items stack)
        ∙ ap (λ (k : ℕ). k + pending_processes (stack_pieces source old.frames.items stack)) (pieces_pending left (surveyed source t old).pieces)

    counts : last.counts.processes ≡ old.counts.processes + sum_by piece_processes (surveyed source t old).pieces
    counts = ap (λ (c : Counts). c.processes) m.counts ∙ ap (λ (u : Totals). u.processes) o.totals_is ∙ surveyed_processes source t old

    room_of : processes_in (design_so_far last) + pending_processes (stack_pieces source last.frames.items rest) ≡ last.counts.processes
    room_of = left_is _ _ _ _ _ _ _ n _ _ (opened_processes source t old new ps o) m.processes before behind counts h.room

-- ---- a generate block

-- what the outcome is, and that less is pending, where its task is the piece that comes next
pub within_opened : (text : Text) (t : Task) (old new : Reading) (ps : List Part) (left : ℕ) (p : Pending) (stack rest : List Pending)
    → IsReading text old (stack ++ p ∷ []) → pending_pieces (source_of text) old.frames.items p ≡ pending (suc left) (Within t) ∷ [] → IsOpened (source_of text) t old new ps
    → stack_pieces (source_of text) new.frames.items rest ≡ map (pending left) (parts_pieces (source_of text) (scope_around new.frames.items (length old.frames.items) t.depth) ps) ++ stack_pieces (source_of text) new.frames.items stack
    → ArePending (source_of text) new.frames.items rest → IsStep text old (stack ++ p ∷ []) new rest
within_opened text t old new ps left p stack rest h is o pushed all = record {
  reading = opened_reading text t old new new ps left 0 p stack rest h o (nothing_more new) (ap pending_processes is) after_it all;
  same = same_of;
  less = less_of;
}
  where
    source : tree.Source
    source = source_of text

    others : List stacks.Pending
    others = stack_pieces source old.frames.items stack

    after_it : stack_pieces source new.frames.items rest ≡ map (pending left) (surveyed source t old).pieces ++ others
    after_it = opened_stack source t old new ps left stack rest o (each_front (IsPending source old.frames.items) stack (p ∷ []) h.pending) pushed

    before_it : stack_pieces source old.frames.items (stack ++ p ∷ []) ≡ pending (suc left) (Within t) ∷ others
    before_it = stack_behind source old.frames.items stack p ∙ ap (λ (qs : List stacks.Pending). qs ++ others) is

    same_of : outcome text new rest ≡ outcome text old (stack ++ p ∷ [])
    same_of =
        ap (λ (d : Design). built_then d (rest_of the_limits source (stack_pieces source new.frames.items rest) (totals_so_far new))) o.design
        ∙ ap (λ (qs : List stacks.Pending). built_then (both_designs (design_so_far old) (scope_part t (surveyed source t old))) (rest_of the_limits source qs (totals_so_far new))) after_it
        ∙ ap (λ (u : Totals). built_then (both_designs (design_so_far old) (scope_part t (surveyed source t old))) (rest_of the_limits source (map (pending left) (surveyed source t old).pieces ++ others) u)) o.totals_is
        ∙ sym (within_step the_limits source (design_so_far old) left t others (totals_so_far old) o.limits o.fair)
        ∙ sym (ap (λ (qs : List stacks.Pending). built_then (design_so_far old) (rest_of the_limits source qs (totals_so_far old))) before_it)

    work_before : work_left text old (stack ++ p ∷ []) ≡ work the_limits source (pending (suc left) (Within t) ∷ others) (totals_so_far old)
    work_before = ap (λ (qs : List stacks.Pending). work the_limits source qs (totals_so_far old)) before_it

    work_after : work_left text new rest ≡ work the_limits source (map (pending left) (surveyed source t old).pieces ++ others) (surveyed source t old).totals
    work_after =
        ap (λ (qs : List stacks.Pending). work the_limits source qs (totals_so_far new)) after_it
        ∙ ap (λ (u : Totals). work the_limits source (map (pending left) (surveyed source t old).pieces ++ others) u) o.totals_is

    less_of : work_left text new rest < work_left text old (stack ++ p ∷ [])
    less_of = subst (λ (n : ℕ). n < work_left text old (stack ++ p ∷ [])) (sym work_after)
        (subst (λ (n : ℕ). work the_limits source (map (pending left) (surveyed source t old).pieces ++ others) (surveyed source t old).totals < n) (sym work_before)
        (within_less the_limits source left t others (totals_so_far old) o.limits o.fair))

-- ---- a scope that can't be opened

-- what holds of the fault, told of another
pub tells : (e : ElabError) (P Q : Fault → Type 0) → ((f : Fault) → P f → Q f) → Tells e P → Tells e Q
tells Memory P Q g h = tt
tells (Broken f) P Q g h = g f h

-- an error that is passed on
pub told_exit : {A : Type 0} (P : Fault → Type 0) (r : Result A ElabError) (e : ElabError) → IsErrAnd r (λ (y : ElabError). y ≡ e) → Tells e P → IfErr r (λ (y : ElabError). Tells y P)
told_exit P r e h q = let p = err_from_is_err_and r h in rw p.1 (subst (λ (x : ElabError). Tells x P) (sym p.2) q)

-- and of what it says another thing
pub told_on : {A : Type 0} (r : Result A ElabError) (P Q : Fault → Type 0) → ((f : Fault) → P f → Q f) → IfErr r (λ (y : ElabError). Tells y P) → IfErr r (λ (y : ElabError). Tells y Q)
told_on r P Q g h = IfErr-weaker r (λ (y : ElabError). Tells y P) (λ (y : ElabError). Tells y Q) (λ y k. tells y P Q g k) h

pub told : (P : Fault → Type 0) (e : ElabError) (f : Fault) → e ≡ Broken f → P f → Tells e P
told P e f is h = subst (λ (x : ElabError). Tells x P) (sym is) h

-- the fault of the block that comes next is the first of all
pub within_faulty : (text : Text) (t : Task) (old : Reading) (left : ℕ) (p : Pending) (stack : List Pending) (e : Fault)
    → pending_pieces (source_of text) old.frames.items p ≡ pending left (Within t) ∷ [] → read_scope left the_limits (source_of text) t (totals_so_far old) ≡ Err e
    → outcome text old (stack ++ p ∷ []) ≡ Err e
within_faulty text t old left p stack e is fails =
    ap (λ (qs : List stacks.Pending). built_then (design_so_far old) (rest_of the_limits (source_of text) qs (totals_so_far old)))
    (stack_behind (source_of text) old.frames.items stack p ∙ ap (λ (qs : List stacks.Pending). qs ++ stack_pieces (source_of text) old.frames.items stack) is)
    ∙ within_fails the_limits (source_of text) (design_so_far old) left t (stack_pieces (source_of text) old.frames.items stack) (totals_so_far old) e fails
