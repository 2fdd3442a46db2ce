-- A whole text: its top, and then all that is within it.
use Rattle.std.proofs.Common.{◌≡◌, ◌<◌, ◌≤◌, ℕ, suc, Bool, true, false, ◌+◌, List, [], ◌∷◌, ◌++◌, length, length-append, map, Option, Some, None, if◌then◌else◌, refl, sym, ap, ◌∙◌, subst, arith}
use Rattle.std.specs.Prelude.{sum_by, Result, Ok, Err, IfErr, IsErrAnd, MatchOption}
use Rattle.std.specs.Borrow.{Bor}
use Rattle.std.proofs.lemmas.List.Sums.{sum_by-cons}
use Rattle.vs_design.specs.Designs.{Design, bit_count}
use Rattle.vs_design.specs.Clocks.{same_name}
use Rattle.vs_grammar.specs.Trees as tree
use Rattle.vs_grammar.specs.Shapes.{Each, OneOrMore, IsModule, IsShaped}
use Rattle.vs_grammar.specs.Depths.{deepest, header_depth, item_depth, module_depth}
use Rattle.vs_grammar.specs.Spelled.{depth_limit}
use Rattle.vs_ast.specs.declared.modules.Module.{Module}
use Rattle.vs_ast.specs.Views as view
use Rattle.vs_const.specs.declared.faults.Fault.{Fault}
use Rattle.vs_const.specs.Faults.{least}
use Rattle.vs_elaborated.specs.Limits.{Limits, the_limits}
use Rattle.vs_elaborated.specs.Ports.{find_in, find_module}
use Rattle.vs_elaborated.specs.Parameters as parameters
use Rattle.vs_elaborated.specs.Pieces.{Task, is_instance, Piece, Within, OfModule}
use Rattle.vs_elaborated.specs.Surveys.{Totals, no_totals, survey, piece_processes}
use Rattle.vs_elaborated.specs.Elaborated.{both_designs, of_processes, then_do, repeated_modules, top_task, elaborated_top, elaborated, counted, Read, read_scope}
use Rattle.vs_elaborated.specs.Environments.{Env, no_env}
use Rattle.vs_elaborated.specs.Sound.{IsSoundTask, AreFineOverrides}
use Rattle.vs_scope.specs.declared.contents.Contents.TheVariants.{Module as OfCode}
use Rattle.vs_scope.specs.declared.frames.Frame.{Frame}
use Rattle.vs_maps.specs.declared.maps.NameMap.{NameMap}
use Rattle.vs_scope.specs.declared.parameters.Override.{Override}
use Rattle.vs_build.specs.Drafts.{Draft, no_draft}
use Rattle.vs_build.specs.Growth.{draft}
use Rattle.vs_scope.specs.Frames.{KeepShapes, env_at, envs}
use Rattle.vs_scope.specs.Overrides.{AreOverrides, EachOverride, override_typed}
use Rattle.vs_scope.specs.Surveys.{contents_of}
use Rattle.vs_maps.specs.Maps.{Pair, value_at}
use Rattle.vs_maps.specs.MapViews.{pairs}
use Rattle.vs_elab.specs.declared.pending.Part.{Part}
use Rattle.vs_elab.specs.declared.reading.Text.{Text}
use Rattle.vs_elab.specs.declared.reading.Reading.{Reading}
use Rattle.vs_elab.specs.declared.stack.Pending.{Pending}
use Rattle.vs_items.specs.declared.modules.Known.{Known}
use Rattle.vs_items.specs.Modules.{AreOf, IsOf}
use Rattle.vs_elab.specs.Fine.{AreFineParts}
use Rattle.vs_elab.specs.Functions.{IsIdle}
use Rattle.vs_elab.specs.Pending.{parts_pieces, scope_around, stack_pieces}
use Rattle.vs_elab.specs.declared.error.ElabError.{ElabError}
use Rattle.vs_elab.specs.declared.error.ElabError.TheVariants.{Broken, Memory}
use Rattle.vs_elab.specs.Reading.{IsOpened, IsRead, IsReading, Tells, FailsBy, ArePending, design_so_far, pending_processes, processes_in, outcome, source_of, surveyed, totals_so_far}
use Rattle.vs_elab.specs.Stacks as stacks
use Rattle.vs_elab.specs.Stacks.{rest_of, built_then, scope_part}
use Rattle.vs_elab.proofs.OpenedSteps.{tells, told_exit}
use Rattle.vs_elab.proofs.ShapedScopes.{list_depth}
use Rattle.vs_elab.proofs.Stacks.{and_rest, within_read, both_nothing, built_nothing, built_all, within_step}

-- ---- modules

-- the module of a name is as the grammar has it
pub record IsWhole (m : tree.Module) : Type 0 where
  pub shaped : IsModule m
  pub shallow : module_depth m ≤ depth_limit

found_whole : (ms : List tree.Module) (name : List ℕ) (m : tree.Module) → Each IsModule ms → deepest module_depth ms ≤ depth_limit → find_in ms name ≡ Some m → IsWhole m
found_whole [] name m x h e = cc
found_whole (a ∷ ms) name m x h e = of (same_name a.name.bytes name) e (λ k. found_whole ms name m x.1 (omega (arith, h)) k)
  where
    same : Some a ≡ Some m → a ≡ m
    same i = cc

    of : (b : Bool) → (if b then Some a else find_in ms name) ≡ Some m → (find_in ms name ≡ Some m → IsWhole m) → IsWhole m
    of true k f = subst IsWhole (same k) (record { shaped = x.0; shallow = omega (arith, h) })
    of false k f = f k

each_module : (ms : List tree.Module) → OneOrMore IsModule ms → Each IsModule ms
each_module [] x = absurd x
each_module (m ∷ ms) x = x

pub module_whole : (source : tree.Source) (name : List ℕ) (m : tree.Module) → IsShaped source → find_module source name ≡ Some m → IsWhole m
module_whole source name m x e = found_whole source.modules name m (each_module source.modules x.modules) x.shallow e

pub known_some : (k : Option Known) (one : Known) (o : Option tree.Module) → k ≡ Some one → IsOf k o → o ≡ Some (view.module_tree one.of.now)
known_some None one o e h = cc
known_some (Some k) one None e h = absurd h
known_some (Some k) one (Some m) e h = ap Some (sym h.of) ∙ ap (λ (x : Known). Some (view.module_tree x.of.now)) (same e)
  where
    same : Some k ≡ Some one → k ≡ one
    same i = cc

-- how deep the header of the module nests
pub header_shallow : (m : Module) → module_depth (view.module_tree m) ≤ depth_limit → header_depth (view.module_tree m).header ≤ depth_limit
header_shallow m h = omega (arith, h)

-- and its items
pub items_shallow : (m : Module) → module_depth (view.module_tree m) ≤ depth_limit → deepest item_depth (tree.items_list (view.items m.items.items)) ≤ depth_limit
items_shallow m h = let e = list_depth (view.items m.items.items) in omega (arith, e, h)

-- ---- the whole

module _ (source : tree.Source) (top : List ℕ) where
  -- a module is declared twice
  pub repeated_is : (o : Option Fault) (f : Fault) → o ≡ least (repeated_modules [] source.modules) → o ≡ Some f → elaborated source top ≡ Err f
  repeated_is o f h e = by (least (repeated_modules [] source.modules)) (sym h ∙ e)
    where
      by : (l : Option Fault) → l ≡ Some f → (let r : Result Design Fault = elim l [ None ↦ elaborated_top the_limits source (find_module source top) | Some a ↦ Err a ] in r) ≡ Err f
      by None i = cc
      by (Some a) i = cc

  -- none is
  pub once_is : (o : Option Fault) (m : Option tree.Module) (r : Result Design Fault) → o ≡ least (repeated_modules [] source.modules) → o ≡ None → find_module source top ≡ m
      → elaborated_top the_limits source m ≡ r → elaborated source top ≡ r
  once_is o m r h e found is = by (least (repeated_modules [] source.modules)) (sym h ∙ e) ∙ ap (elaborated_top the_limits source) found ∙ is
    where
      by : (l : Option Fault) → l ≡ None
          → (let r : Result Design Fault = elim l [ None ↦ elaborated_top the_limits source (find_module source top) | Some a ↦ Err a ] in r) ≡ elaborated_top the_limits source (find_module source top)
      by None i = refl
      by (Some a) i = cc

-- ---- the top

-- its task, where nothing overrides its parameters
pub top_is : (frames : List Frame) (m : Bor Module) (name : List ℕ) (overrides : NameMap Override) → name ≡ (view.module_tree m.now).name.bytes → pairs overrides ≡ []
    → (let k : Task = record { name = name; parent = None; contents = contents_of frames overrides (OfCode m); depth = 1; place = 0; env = no_env } in k) ≡ top_task (view.module_tree m.now)
top_is frames m name overrides n none =
    let f = λ (p : Pair Override). let o : parameters.Override = record { name = p.name; typed = override_typed frames p.value } in o in
    ap (λ (x : List ℕ). let k : Task = record { name = x; parent = None; contents = contents_of frames overrides (OfCode m); depth = 1; place = 0; env = no_env } in k) n
    ∙ ap (λ (xs : List (Pair Override)). let k : Task = record { name = (view.module_tree m.now).name.bytes; parent = None; contents = OfModule (view.module_tree m.now) (map f xs); depth = 1; place = 0; env = no_env } in k) none

-- there are no overrides
pub none_override : (frames : List Frame) (overrides : NameMap Override) → pairs overrides ≡ [] → AreOverrides frames overrides
none_override frames overrides none = record { each = subst (λ (ps : List (Pair Override)). EachOverride (length frames) ps) (sym none) tt }

pub top_sound : (d : Design) (frames : List Frame) (m : Bor Module) (name : List ℕ) (overrides : NameMap Override) → pairs overrides ≡ [] → IsModule (view.module_tree m.now)
    → IsSoundTask d (record { name = name; parent = None; contents = contents_of frames overrides (OfCode m); depth = 1; place = 0; env = no_env })
top_sound d frames m name overrides none shaped =
    let f = λ (p : Pair Override). let o : parameters.Override = record { name = p.name; typed = override_typed frames p.value } in o in
    record {
      frames = tt;
      overrides = subst (λ (ps : List (Pair Override)). AreFineOverrides d (map f ps)) (sym none) tt;
      shaped = shaped;
    }

abbrev design_of_read : Result Read Fault → Result Design Fault
design_of_read q = then_do q λ r. Ok r.design

-- its scope alone is pending
only_pending : (limits : Limits) (source : tree.Source) (left : ℕ) (k : Task) (t : Totals)
    → built_then (of_processes []) (rest_of limits source (stacks.pending left (Within k) ∷ []) t) ≡ design_of_read (read_scope left limits source k t)
only_pending limits source left k t = of (read_scope left limits source k t)
  where
    of : (q : Result Read Fault) → built_then (of_processes []) (and_rest limits source [] (within_read q)) ≡ design_of_read q
    of (Err e) = refl
    of (Ok r) = built_nothing (Ok (both_designs r.design (of_processes []))) ∙ ap Ok (both_nothing r.design)

-- its scope was read, and its parts are pending
pub top_opened : (source : tree.Source) (left : ℕ) (k : Task) (old new : Reading) (ps : List Part) (qs : List stacks.Pending) → IsOpened source k old new ps → design_so_far old ≡ of_processes []
    → qs ≡ map (stacks.pending left) (parts_pieces source (scope_around new.frames.items (length old.frames.items) k.depth) ps) ++ []
    → design_of_read (read_scope (suc left) the_limits source k (totals_so_far old)) ≡ built_then (design_so_far new) (rest_of the_limits source qs (totals_so_far new))
top_opened source left k old new ps qs o empty is =
    let s = surveyed source k old in
    let here : design_so_far new ≡ both_designs (of_processes []) (scope_part k s) = o.design ∙ ap (λ d. both_designs d (scope_part k s)) empty in
    let all : qs ≡ map (stacks.pending left) s.pieces ++ [] = is ∙ ap (λ xs. map (stacks.pending left) xs ++ []) o.pieces in
    sym (only_pending the_limits source (suc left) k (totals_so_far old))
    ∙ within_step the_limits source (of_processes []) left k [] (totals_so_far old) o.limits o.fair
    ∙ ap (λ d. built_then d (rest_of the_limits source (map (stacks.pending left) s.pieces ++ []) s.totals)) (sym here)
    ∙ ap (λ xs. built_then (design_so_far new) (rest_of the_limits source xs s.totals)) (sym all)
    ∙ ap (λ t. built_then (design_so_far new) (rest_of the_limits source qs t)) (sym o.totals_is)

-- ---- how many processes are pending

pieces_pending : (left : ℕ) (ps : List Piece) → pending_processes (map (stacks.pending left) ps ++ []) ≡ sum_by piece_processes ps
pieces_pending left [] = refl
pieces_pending left (p ∷ ps) =
    sum_by-cons (λ (q : stacks.Pending). piece_processes q.piece) (stacks.pending left p) (map (stacks.pending left) ps ++ [])
    ∙ ap (λ n. piece_processes p + n) (pieces_pending left ps) ∙ sym (sum_by-cons piece_processes p ps)

counted_processes : (k : Task) (t : Totals) → (counted k t).processes ≡ t.processes
counted_processes k t = of (is_instance k.contents)
  where
    of : (b : Bool) → (if b then record t { instances = t.instances + 1 } else t).processes ≡ t.processes
    of true = refl
    of false = refl

survey_processes : (limits : Limits) (source : tree.Source) (k : Task) (t : Totals) → (survey limits source k t).totals.processes ≡ t.processes + sum_by piece_processes (survey limits source k t).pieces
survey_processes limits source k t = refl

pub top_reading : (text : Text) (left : ℕ) (k : Task) (old new : Reading) (ps : List Part) (stack : List Pending) → IsOpened (source_of text) k old new ps → design_so_far old ≡ of_processes [] → totals_so_far old ≡ no_totals
    → ArePending (source_of text) new.frames.items stack
    → stack_pieces (source_of text) new.frames.items stack ≡ map (stacks.pending left) (parts_pieces (source_of text) (scope_around new.frames.items (length old.frames.items) k.depth) ps) ++ []
    → IsReading text new stack
top_reading text left k old new ps stack o empty none pending is =
    let s = surveyed (source_of text) k old in
    let built : processes_in (design_so_far new) ≡ 0 = ap processes_in (o.design ∙ ap (λ d. both_designs d (scope_part k s)) empty) in
    let counts : pending_processes (stack_pieces (source_of text) new.frames.items stack) ≡ sum_by piece_processes s.pieces =
    ap pending_processes (is ∙ ap (λ xs. map (stacks.pending left) xs ++ []) o.pieces) ∙ pieces_pending left s.pieces in
    let before : (counted k (totals_so_far old)).processes ≡ 0 = counted_processes k (totals_so_far old) ∙ ap (λ (t : Totals). t.processes) none in
    let last : new.counts.processes ≡ s.totals.processes = ap (λ (t : Totals). t.processes) o.totals_is in
    let sums = survey_processes the_limits (source_of text) k (counted k (totals_so_far old)) in
    let all : new.counts.processes ≡ sum_by piece_processes s.pieces = omega (arith, last, sums, before) in
    record {
      read = o.read;
      later = o.later;
      pending = pending;
      room = omega (arith, built, counts, all);
    }

-- ---- its parts

-- they come first of what is pending
pub first_pieces : (source : tree.Source) (left depth : ℕ) (old new : List Frame) (ps : List Part) (before stack : List Pending) → before ≡ [] → old ≡ []
    → stack_pieces source new stack ≡ map (stacks.pending left) (parts_pieces source (scope_around new 0 depth) ps) ++ stack_pieces source new before
    → stack_pieces source new stack ≡ map (stacks.pending left) (parts_pieces source (scope_around new (length old) depth) ps) ++ []
first_pieces source left depth old new ps before stack nothing none h =
    h ∙ ap (λ (qs : List Pending). map (stacks.pending left) (parts_pieces source (scope_around new 0 depth) ps) ++ stack_pieces source new qs) nothing
    ∙ ap (λ (fs : List Frame). map (stacks.pending left) (parts_pieces source (scope_around new (length fs) depth) ps) ++ []) (sym none)

-- they are seen in the first scope
pub first_parts : (source : tree.Source) (k : Task) (old new : Reading) (ps : List Part) → IsOpened source k old new ps → old.frames.items ≡ [] → AreFineParts source (env_at (envs new.frames.items) (Some 0)) ps
first_parts source k old new ps o none =
    subst (λ (fs : List Frame). AreFineParts source (env_at (envs new.frames.items) (Some (length fs))) ps) none (subst (λ (e : Env). AreFineParts source e ps) (sym o.seen) o.parts)

pub first_there : (source : tree.Source) (k : Task) (old new : Reading) (ps : List Part) → IsOpened source k old new ps → 0 < length new.frames.items
first_there source k old new ps o = let e = ap (λ (fs : List Frame). length fs) o.frames in let n = length-append old.frames.items (o.frame ∷ []) in omega (arith, e, n)

pub none_pending : (source : tree.Source) (frames : List Frame) (ps : List Pending) → ps ≡ [] → ArePending source frames ps
none_pending source frames ps none = subst (λ (qs : List Pending). ArePending source frames qs) (sym none) tt

-- ---- what comes out

pub tells_weaker : (e : ElabError) (P Q : Fault → Type 0) → ((f : Fault) → P f → Q f) → Tells e P → Tells e Q
tells_weaker Memory P Q h x = tt
tells_weaker (Broken f) P Q h x = h f x

whole_depth : (source : tree.Source) (m : tree.Module) → elaborated_top the_limits source (Some m) ≡ design_of_read (read_scope (suc 6432) the_limits source (top_task m) no_totals)
whole_depth source m = refl

same_top : (source : tree.Source) (left : ℕ) (m : tree.Module) (k : Task) (t : Totals) → k ≡ top_task m → t ≡ no_totals
    → design_of_read (read_scope left the_limits source (top_task m) no_totals) ≡ design_of_read (read_scope left the_limits source k t)
same_top source left m k t is none = ap (λ x. design_of_read (read_scope left the_limits source x no_totals)) (sym is) ∙ ap (λ x. design_of_read (read_scope left the_limits source k x)) (sym none)

-- that of all that is within the top
pub top_outcome : (text : Text) (m : tree.Module) (k : Task) (old new : Reading) (ps : List Part) (stack : List Pending) → k ≡ top_task m → IsOpened (source_of text) k old new ps
    → design_so_far old ≡ of_processes [] → totals_so_far old ≡ no_totals
    → stack_pieces (source_of text) new.frames.items stack ≡ map (stacks.pending 6432) (parts_pieces (source_of text) (scope_around new.frames.items (length old.frames.items) k.depth) ps) ++ []
    → elaborated_top the_limits (source_of text) (Some m) ≡ outcome text new stack
top_outcome text m k old new ps stack is o empty none pieces =
    whole_depth (source_of text) m ∙ same_top (source_of text) (suc 6432) m k (totals_so_far old) is none ∙ top_opened (source_of text) 6432 k old new ps (stack_pieces (source_of text) new.frames.items stack) o empty pieces

-- or the fault of the top
pub top_fails : (source : tree.Source) (m : tree.Module) (k : Task) (t : Totals) (e : ElabError) → k ≡ top_task m → t ≡ no_totals → Tells e (FailsBy source k t)
    → Tells e (λ f. elaborated_top the_limits source (Some m) ≡ Err f)
top_fails source m k t e is none h =
    tells_weaker e (FailsBy source k t) (λ f. elaborated_top the_limits source (Some m) ≡ Err f)
    (λ f x. whole_depth source m ∙ same_top source (suc 6432) m k t is none ∙ ap design_of_read (x 6432)) h

-- ---- before the first scope, and behind the last one

pub nothing_is_read : (r : Reading) → draft r.builder ≡ no_draft → r.frames.items ≡ [] → totals_so_far r ≡ no_totals → IsRead r
nothing_is_read r new none zero =
    let empty : design_so_far r ≡ of_processes [] = ap (λ (s : Draft). s.design) new in
    let scopes : r.counts.start.scope ≡ 0 = ap (λ (t : Totals). t.scopes) zero in
    let signals : r.counts.start.signal ≡ 0 = ap (λ (t : Totals). t.signals) zero in
    let bits : r.counts.start.bit ≡ 0 = ap (λ (t : Totals). t.bits) zero in
    let instances : r.counts.instances ≡ 0 = ap (λ (t : Totals). t.instances) zero in
    let functions : r.counts.functions ≡ 0 = ap (λ (t : Totals). t.functions) zero in
    let processes : r.counts.processes ≡ 0 = ap (λ (t : Totals). t.processes) zero in
    let frames : length r.frames.items ≡ 0 = ap (λ (fs : List Frame). length fs) none in
    record {
      scopes = ap (λ (d : Design). length d.scopes) empty ∙ sym scopes;
      frames = frames ∙ sym scopes;
      signals = ap (λ (d : Design). length d.signals) empty ∙ sym signals;
      bits = ap (λ (d : Design). bit_count d) empty ∙ sym bits;
      functions = ap (λ (d : Design). length d.functions) empty ∙ sym functions;
      idle = subst IsIdle (sym new) (record { outside = refl; expressions = refl; statements = refl });
      few_bits = omega (arith, bits);
      few_instances = omega (arith, instances);
      few_processes = omega (arith, processes);
      kept = subst KeepShapes (sym none) refl;
      seen = λ i h. absurd (let no : ⊥ = omega (arith, frames, h) in no);
      numbered = λ i h. absurd (let no : ⊥ = omega (arith, frames, h) in no);
    }

nothing_in : {A : Type 0} (xs : List A) → length xs ≡ 0 → xs ≡ []
nothing_in [] h = refl
nothing_in (x ∷ xs) h = absurd (let no : ⊥ = omega (arith, h) in no)

-- nothing is pending
pub all_read : (text : Text) (r : Reading) (stack : List Pending) → length stack ≡ 0 → outcome text r stack ≡ Ok (design_so_far r)
all_read text r stack h = ap (outcome text r) (nothing_in stack h) ∙ built_all the_limits (source_of text) (design_so_far r) (totals_so_far r)

-- a fault of the next part is that of the whole
pub told_part : {A : Type 0} (text : Text) (r : Reading) (ps qs : List Pending) (o : Result Design Fault) (res : Result A ElabError) (e : ElabError) → outcome text r ps ≡ o → ps ≡ qs → IsErrAnd res (λ (y : ElabError). y ≡ e)
    → Tells e (λ (f : Fault). outcome text r qs ≡ Err f) → IfErr res (λ (y : ElabError). Tells y (λ (f : Fault). o ≡ Err f))
told_part text r ps qs o res e is same h x =
    told_exit (λ (f : Fault). o ≡ Err f) res e h (tells e (λ (f : Fault). outcome text r qs ≡ Err f) (λ (f : Fault). o ≡ Err f) (λ f y. sym is ∙ ap (outcome text r) same ∙ y) x)

-- and that of the top
pub told_top : {A : Type 0} (source : tree.Source) (top : List ℕ) (o : Option Fault) (m : Option tree.Module) (res : Result A ElabError) (e : ElabError) → o ≡ least (repeated_modules [] source.modules) → o ≡ None → find_module source top ≡ m
    → IsErrAnd res (λ (y : ElabError). y ≡ e) → Tells e (λ (f : Fault). elaborated_top the_limits source m ≡ Err f) → IfErr res (λ (y : ElabError). Tells y (λ (f : Fault). elaborated source top ≡ Err f))
told_top source top o m res e h is found x t =
    told_exit (λ (f : Fault). elaborated source top ≡ Err f) res e x
    (tells e (λ (f : Fault). elaborated_top the_limits source m ≡ Err f) (λ (f : Fault). elaborated source top ≡ Err f) (λ f y. once_is source top o m (Err f) h is found y) t)

-- ---- the module of the top

module _ (source : tree.Source) (top : List ℕ) (names : NameMap Known) (one : Known) (are : AreOf names source) (is : Some one ≡ value_at top (pairs names)) where
  pub known_found : find_module source top ≡ Some (view.module_tree one.of.now)
  known_found = known_some (value_at top (pairs names)) one (find_module source top) (sym is) (are.each top)

  pub known_whole : IsShaped source → IsWhole (view.module_tree one.of.now)
  known_whole shaped = module_whole source top (view.module_tree one.of.now) shaped known_found

-- where nothing is taken, this holds
pub none_taken : {A : Type 0} (o : Option A) (P : Type 0) (Q : A → Type 0) → MatchOption o P Q → o ≡ None → P
none_taken None P Q m e = m
none_taken (Some a) P Q m e = cc
