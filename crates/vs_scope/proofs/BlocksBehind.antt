-- The names of blocks behind those of a scope's declarations.
use Rattle.std.proofs.Common.{◌≡◌, ℕ, Bool, true, false, List, [], ◌∷◌, ◌++◌, map, take, drop, length, max, Option, Some, None, if◌then◌else◌, refl, sym, ap, ◌∙◌, subst, append_assoc}
use Rattle.std.specs.Borrow.{Bor}
use Rattle.std.specs.Prelude.{Vec}
use Rattle.std.specs.Global.{Global}
use Rattle.std.proofs.lemmas.List.{map-append, append-nil, take_at, drop_at}
use Rattle.vs_design.specs.Clocks.{same_name}
use Rattle.vs_ast.specs.declared.items.Function.{Function}
use Rattle.vs_const.specs.declared.faults.Fault.{Fault}
use Rattle.vs_const.specs.declared.names.SignalShape.{SignalShape}
use Rattle.vs_const.specs.Faults.{fault, fault_if}
use Rattle.vs_const.specs.declared.rules.Rule.TheVariants.{DuplicateName}
use Rattle.vs_elaborated.specs.Limits.{the_limits}
use Rattle.vs_elaborated.specs.Environments.{Entry, Env, find_entry}
use Rattle.vs_elaborated.specs.Functions.{SaidFunctions, said_functions}
use Rattle.vs_elaborated.specs.Generate.{BlockName}
use Rattle.vs_elaborated.specs.Surveys.{clash_with, has_name, block_faults}
use Rattle.vs_maps.specs.Maps.{Pair}
use Rattle.vs_maps.specs.MapViews.{pairs}
use Rattle.vs_maps.specs.declared.maps.NameMap.{NameMap}
use Rattle.vs_scope.specs.declared.names.Entry.{Entry as EntryOf}
use Rattle.vs_scope.specs.declared.names.Names.{Names}
use Rattle.vs_scope.specs.Clashes.{IsBehind}
use Rattle.vs_scope.specs.declared.counts.Counts.{Counts as CountsOf}
use Rattle.vs_scope.specs.Counts.{counted}
use Rattle.vs_scope.specs.Complete.{Shape, shape_kept, shape_said, completed, complete, function_declaration, reads_at, shapes_by, shapes_of, KeepsShapes, ArePairsIncomplete}
use Rattle.vs_scope.specs.Functions.{AreCompleted}
use Rattle.vs_scope.specs.Surveys.{MeanTheSame}
use Rattle.vs_scope.specs.Views.{pair_entry, entries}
use Rattle.vs_scope.proofs.ClashSteps.{or_else, find_append}
use Rattle.vs_scope.proofs.Completing.{names_completed, shapes_none}

pub behind_itself : (names : Names) → IsBehind names names
behind_itself names = record { more = []; pairs_are = sym (append-nil (pairs names.map)); incomplete = tt; scope = refl; counts = refl; functions = refl; reads = refl; plain = refl }

incomplete_both : (ps qs : List (Pair EntryOf)) → ArePairsIncomplete ps → ArePairsIncomplete qs → ArePairsIncomplete (ps ++ qs)
incomplete_both [] qs h k = k
incomplete_both (p ∷ ps) qs h k = (h.0, incomplete_both ps qs h.1 k)

pub behind_then : (a b c : Names) → IsBehind a b → IsBehind b c → IsBehind a c
behind_then a b c h k = record {
  more = h.more ++ k.more;
  pairs_are = k.pairs_are ∙ ap (λ (ps : List (Pair EntryOf)). ps ++ k.more) h.pairs_are ∙ append_assoc (pairs a.map) h.more k.more;
  incomplete = incomplete_both h.more k.more h.incomplete k.incomplete;
  scope = k.scope ∙ h.scope;
  counts = k.counts ∙ h.counts;
  functions = k.functions ∙ h.functions;
  reads = k.reads ∙ h.reads;
  plain = k.plain ∙ h.plain;
}

pub entries_behind : (old new : Names) (h : IsBehind old new) → entries new ≡ entries old ++ map pair_entry h.more
entries_behind old new h = ap (map pair_entry) h.pairs_are ∙ map-append pair_entry (pairs old.map) h.more

-- all names of the declarations see the functions
pub complete_front : (outer : Env) (names : Names) → names.plain ≡ length (entries names) → complete outer names ≡ (completed outer names).entries
unfolding complete
complete_front outer names h =
    ap (λ (es : List Entry). (completed outer names).entries ++ es)
    (ap (λ (n : ℕ). drop n (entries names)) h ∙ ap (drop (length (entries names))) (sym (append-nil (entries names))) ∙ drop_at (entries names) [] (length (entries names)) refl)
    ∙ append-nil (completed outer names).entries

completed_behind : (outer : Env) (old new : Names) → old.plain ≡ length (entries old) → IsBehind old new → completed outer new ≡ completed outer old
unfolding completed
completed_behind outer old new e h =
    let front : take new.plain (entries new) ≡ take old.plain (entries old) =
    ap (λ (n : ℕ). take n (entries new)) (h.plain ∙ e) ∙ ap (take (length (entries old))) (entries_behind old new h) ∙ take_at (entries old) (map pair_entry h.more) (length (entries old)) refl
    ∙ sym (ap (λ (n : ℕ). take n (entries old)) e ∙ ap (take (length (entries old))) (sym (append-nil (entries old))) ∙ take_at (entries old) [] (length (entries old)) refl) in
    ap (λ (s : ℕ). said_functions the_limits s outer (counted new.counts) (map function_declaration new.functions.items) (take new.plain (entries new))) h.scope
    ∙ ap (λ (s : CountsOf). said_functions the_limits old.scope outer (counted s) (map function_declaration new.functions.items) (take new.plain (entries new))) h.counts
    ∙ ap (λ (fs : List (Bor Function)). said_functions the_limits old.scope outer (counted old.counts) (map function_declaration fs) (take new.plain (entries new))) h.functions
    ∙ ap (said_functions the_limits old.scope outer (counted old.counts) (map function_declaration old.functions.items)) front

pub complete_behind : (outer : Env) (old new : Names) → old.plain ≡ length (entries old) → (h : IsBehind old new) → complete outer new ≡ complete outer old ++ map pair_entry h.more
unfolding complete
complete_behind outer old new e h =
    let back : drop new.plain (entries new) ≡ map pair_entry h.more =
    ap (λ (n : ℕ). drop n (entries new)) (h.plain ∙ e) ∙ ap (drop (length (entries old))) (entries_behind old new h) ∙ drop_at (entries old) (map pair_entry h.more) (length (entries old)) refl in
    ap (λ (es : List Entry). (completed outer new).entries ++ es) back
    ∙ ap (λ (s : SaidFunctions). s.entries ++ map pair_entry h.more) (completed_behind outer old new e h)
    ∙ ap (λ (es : List Entry). es ++ map pair_entry h.more) (sym (complete_front outer old e))

shapes_both : (es fs : List Entry) → shapes_of (es ++ fs) ≡ shapes_of es ++ shapes_of fs
shapes_both [] fs = refl
shapes_both (e ∷ es) fs = ap (λ (r : List (Option Shape)). shape_said e.declared ∷ r) (shapes_both es fs)

shapes_by_both : (reads : List ℕ → List SignalShape) (ps qs : List (Pair EntryOf)) → shapes_by reads (ps ++ qs) ≡ shapes_by reads ps ++ shapes_by reads qs
shapes_by_both reads [] qs = refl
shapes_by_both reads (p ∷ ps) qs = ap (λ (r : List (Option Shape)). shape_kept (reads p.name) p.value.declared ∷ r) (shapes_by_both reads ps qs)

pub keeps_behind : (outer : Env) (old new : Names) → old.plain ≡ length (entries old) → IsBehind old new → KeepsShapes outer old → KeepsShapes outer new
keeps_behind outer old new e h k =
    let reads = reads_at (pairs old.reads) in
    ap (λ (m : NameMap (Vec SignalShape Global)). shapes_by (reads_at (pairs m)) (pairs new.map)) h.reads
    ∙ ap (shapes_by reads) h.pairs_are ∙ shapes_by_both reads (pairs old.map) h.more
    ∙ ap (λ (r : List (Option Shape)). r ++ shapes_by reads h.more) k
    ∙ ap (λ (r : List (Option Shape)). shapes_of (complete outer old) ++ r) (shapes_none reads h.more h.incomplete)
    ∙ sym (shapes_both (complete outer old) (map pair_entry h.more))
    ∙ ap shapes_of (sym (complete_behind outer old new e h))

-- ---- what is complete has the same names at the same places

-- of no name, or of two at one place
abbrev pub AreAtOnePlace : Option Entry → Option Entry → Type 0
AreAtOnePlace None o = o ≡ None
AreAtOnePlace (Some e) o = (f : Entry) × (o ≡ Some f) × (f.place ≡ e.place)

one_place : (es fs : List Entry) (name : List ℕ) → AreCompleted es fs → AreAtOnePlace (find_entry es name) (find_entry fs name)
one_place [] [] name h = refl
one_place [] (f ∷ fs) name h = absurd h
one_place (e ∷ es) [] name h = absurd h
one_place (e ∷ es) (f ∷ fs) name h = by (same_name e.name name) (ap (λ (n : List ℕ). same_name n name) h.0.0) (one_place es fs name h.1)
  where
    by : (b : Bool) → same_name f.name name ≡ b → AreAtOnePlace (find_entry es name) (find_entry fs name)
        → AreAtOnePlace (if b then Some e else find_entry es name) (if same_name f.name name then Some f else find_entry fs name)
    by true s rest = (f, ap (λ (t : Bool). if t then Some f else find_entry fs name) s, h.0.1)
    by false s rest = subst (λ (t : Bool). AreAtOnePlace (find_entry es name) (if t then Some f else find_entry fs name)) (sym s) rest

clash_same : (place : ℕ) (a b : Option Entry) → AreAtOnePlace a b → clash_with place a ≡ clash_with place b
clash_same place None b h = ap (clash_with place) (sym h)
clash_same place (Some e) b h =
    ap (λ (p : ℕ). fault DuplicateName (max place p)) (sym h.2) ∙ ap (clash_with place) (sym h.1)

block_faults_same : (es fs : List Entry) (seen bs : List BlockName) → AreCompleted es fs → block_faults es seen bs ≡ block_faults fs seen bs
block_faults_same es fs seen [] h = refl
block_faults_same es fs seen (b ∷ bs) h =
    ap (λ (x : List Fault). (x ++ fault_if (has_name b.name seen) DuplicateName b.place) ++ block_faults es (b ∷ seen) bs) (clash_same b.place (find_entry es b.name) (find_entry fs b.name) (one_place es fs b.name h))
    ∙ ap (λ (x : List Fault). (clash_with b.place (find_entry fs b.name) ++ fault_if (has_name b.name seen) DuplicateName b.place) ++ x) (block_faults_same es fs (b ∷ seen) bs h)

pub clashes_same : (outer : Env) (names : Names) (bs : List BlockName) → block_faults (entries names) [] bs ≡ block_faults (complete outer names) [] bs
clashes_same outer names bs = block_faults_same (entries names) (complete outer names) [] bs (names_completed outer names)

found_some : (es fs xs : List Entry) (n : List ℕ) (e : Entry) → find_entry es n ≡ Some e → find_entry (es ++ xs) n ≡ Some e
found_some es fs xs n e h = find_append es xs n ∙ ap (λ (o : Option Entry). or_else o (find_entry xs n)) h

-- other names behind the same ones
pub mean_behind : (es fs xs ys : List Entry) → AreCompleted es fs → MeanTheSame (es ++ xs) (es ++ ys) → MeanTheSame (fs ++ xs) (fs ++ ys)
mean_behind es fs xs ys h same = λ n. by n (find_entry es n) refl (one_place es fs n h)
  where
    by : (n : List ℕ) (o : Option Entry) → find_entry es n ≡ o → AreAtOnePlace o (find_entry fs n) → find_entry (fs ++ xs) n ≡ find_entry (fs ++ ys) n
    by n None e k =
        let out : find_entry xs n ≡ find_entry ys n =
        sym (find_append es xs n ∙ ap (λ (o : Option Entry). or_else o (find_entry xs n)) e) ∙ same n ∙ find_append es ys n ∙ ap (λ (o : Option Entry). or_else o (find_entry ys n)) e in
        find_append fs xs n ∙ ap (or_else (find_entry fs n)) out ∙ sym (find_append fs ys n)
    by n (Some x) e k = found_some fs fs xs n k.0 k.1 ∙ sym (found_some fs fs ys n k.0 k.1)
