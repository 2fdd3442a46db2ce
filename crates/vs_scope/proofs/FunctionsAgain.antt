-- The functions of a scope that are complete again, one after the other.
use Rattle.std.proofs.lemmas.List.{map-append, take-map, take_min, length-map, length-take-le}
use Rattle.std.proofs.Common.{append_assoc, arith, ◌≡◌, ◌+◌, ◌≤◌, ℕ, zero, suc, min, slice_get, Bool, true, false, List, [], ◌∷◌, ◌++◌, length, map, take, drop, Option, Some, None, MatchOption, if◌then◌else◌, refl, sym, ap, ◌∙◌, subst}
use Rattle.std.specs.Borrow.{Bor}
use Rattle.vs_design.specs.Clocks.{same_name}
use Rattle.vs_ast.specs.Views as view
use Rattle.vs_ast.specs.Views.{option}
use Rattle.vs_ast.specs.declared.items.Function.{Function}
use Rattle.vs_const.specs.declared.names.FunctionShape.{FunctionShape}
use Rattle.vs_const.specs.declared.names.SignalShape.{SignalShape}
use Rattle.vs_const.specs.Meanings.{FunctionMeaning}
use Rattle.vs_const.specs.MentionViews.{kept, kept_of}
use Rattle.vs_elaborated.specs.Limits.{Limits, the_limits}
use Rattle.vs_elaborated.specs.Environments as environment
use Rattle.vs_elaborated.specs.Environments.{Env, within, find_entry}
use Rattle.vs_elaborated.specs.Declarations as declarations
use Rattle.vs_elaborated.specs.Declarations.{Declaration}
use Rattle.vs_elaborated.specs.Functions.{Counts, SaidFunctions, next_function, and_function, completed as completed_by, put_function, said_functions}
use Rattle.vs_maps.specs.Maps.{Pair, value_at, with_value, IsNew, AreDistinct}
use Rattle.vs_maps.specs.MapViews.{pairs}
use Rattle.vs_scope.specs.declared.counts.Counts.{Counts as CountsOf}
use Rattle.vs_scope.specs.declared.names.Declared.{Declared}
use Rattle.vs_scope.specs.declared.names.Declared.TheVariants as states
use Rattle.vs_scope.specs.declared.names.Evaluated.TheVariants.{Value, Undefined}
use Rattle.vs_scope.specs.declared.names.Entry.{Entry}
use Rattle.vs_scope.specs.declared.names.Names.{Names}
use Rattle.vs_scope.specs.Again.{IsPart, is_awaited, kept_declared, kept_pair, kept_pairs, shape_at, shape_in}
use Rattle.vs_scope.specs.Complete.{completed, complete, function_declaration, reads_at, shape_kept, shapes_by, shapes_in, shapes_of, KeepsShapes, ArePairsIncomplete}
use Rattle.vs_scope.specs.Counts.{counted}
use Rattle.vs_scope.specs.Functions.{is_incomplete, AreCompleted, IsCalled}
use Rattle.vs_scope.specs.Seen.{HasShape, StandsFor, Finds}
use Rattle.vs_scope.specs.Views.{declared, entries, pair_entry}
use Rattle.vs_scope.proofs.BlocksBehind.{complete_front}
use Rattle.vs_scope.proofs.Completing.{found_complete, keeps_none, reads_complete}
use Rattle.vs_scope.proofs.NamedLists.{same_self, same_swap}
use Rattle.vs_scope.proofs.PutShapes.{put_kept, put_none}
use Rattle.vs_scope.proofs.Saying.{said_next, complete_more}

-- ---- what a name means

-- by the first of this name
abbrev pub means : List environment.Entry → List ℕ → Option environment.Declared
means es name = option (λ (e : environment.Entry). e.declared) (find_entry es name)

abbrev with_declared : environment.Entry → environment.Declared → environment.Entry
with_declared e d = record e { declared = d }

-- a function that is complete
abbrev called : FunctionMeaning → Option environment.Declared
called f = Some (environment.OfFunction (Some f))

-- it stays
means_put : (n name : List ℕ) (g f : FunctionMeaning) (es : List environment.Entry) → means es name ≡ called f → means (put_function n g es) name ≡ called f
means_put n name g f [] h = cc
means_put n name g f (e ∷ es) h = by (same_name e.name name) refl (same_name e.name n) h (means_put n name g f es)
  where
    by : (b : Bool) → same_name e.name name ≡ b → (t : Bool) → option (λ (x : environment.Entry). x.declared) (if b then Some e else find_entry es name) ≡ called f
        → (means es name ≡ called f → means (put_function n g es) name ≡ called f)
        → means ((if t then with_declared e (completed_by g e.declared) else e) ∷ put_function n g es) name ≡ called f
    by true s true h rest =
        let is : e.declared ≡ environment.OfFunction (Some f) = cc in
        ap (λ (b : Bool). option (λ (x : environment.Entry). x.declared) (if b then Some (with_declared e (completed_by g e.declared)) else find_entry (put_function n g es) name)) s
        ∙ ap (λ (d : environment.Declared). Some (completed_by g d)) is
    by true s false h rest = ap (λ (b : Bool). option (λ (x : environment.Entry). x.declared) (if b then Some e else find_entry (put_function n g es) name)) s ∙ h
    by false s true h rest = ap (λ (b : Bool). option (λ (x : environment.Entry). x.declared) (if b then Some (with_declared e (completed_by g e.declared)) else find_entry (put_function n g es) name)) s ∙ rest h
    by false s false h rest = ap (λ (b : Bool). option (λ (x : environment.Entry). x.declared) (if b then Some e else find_entry (put_function n g es) name)) s ∙ rest h

means_all : (limits : Limits) (scope : ℕ) (outer : Env) (before : Counts) (ds : List Declaration) (es : List environment.Entry) (name : List ℕ) (f : FunctionMeaning) → means es name ≡ called f
    → means (said_functions limits scope outer before ds es).entries name ≡ called f
means_all limits scope outer before [] es name f h = h
means_all limits scope outer before (d ∷ ds) es name f h = by d.sort (λ n xs k. means_all limits scope outer n ds xs name f k)
  where
    by : (s : declarations.Sort) → ((n : Counts) (xs : List environment.Entry) → means xs name ≡ called f → means (said_functions limits scope outer n ds xs).entries name ≡ called f)
        → means (said_functions limits scope outer before ((let x : Declaration = record { name = d.name; sort = s } in x) ∷ ds) es).entries name ≡ called f
    by (declarations.SignalOf s) rest = rest before es h
    by (declarations.ParameterOf p) rest = rest before es h
    by (declarations.FunctionOf g) rest =
        let s = next_function limits scope (within outer es) before g in rest (and_function before s) (put_function d.name.bytes s.meaning es) (means_put d.name.bytes name s.meaning f es h)
    by declarations.GenvarSort rest = rest before es h
    by declarations.IntegerSort rest = rest before es h
    by declarations.InstanceSort rest = rest before es h

-- one that is complete now
means_now : (name : List ℕ) (g : FunctionMeaning) (es : List environment.Entry) → means es name ≡ Some (environment.OfFunction None) → means (put_function name g es) name ≡ called g
means_now name g [] h = cc
means_now name g (e ∷ es) h = by (same_name e.name name) refl h (means_now name g es)
  where
    by : (b : Bool) → same_name e.name name ≡ b → option (λ (x : environment.Entry). x.declared) (if b then Some e else find_entry es name) ≡ Some (environment.OfFunction None)
        → (means es name ≡ Some (environment.OfFunction None) → means (put_function name g es) name ≡ called g)
        → means ((if same_name e.name name then with_declared e (completed_by g e.declared) else e) ∷ put_function name g es) name ≡ called g
    by true s h rest =
        let is : e.declared ≡ environment.OfFunction None = cc in
        ap (λ (b : Bool). means ((if b then with_declared e (completed_by g e.declared) else e) ∷ put_function name g es) name) s
        ∙ ap (λ (b : Bool). option (λ (x : environment.Entry). x.declared) (if b then Some (with_declared e (completed_by g e.declared)) else find_entry (put_function name g es) name)) s
        ∙ ap (λ (d : environment.Declared). Some (completed_by g d)) is
    by false s h rest =
        ap (λ (b : Bool). means ((if b then with_declared e (completed_by g e.declared) else e) ∷ put_function name g es) name) s
        ∙ ap (λ (b : Bool). option (λ (x : environment.Entry). x.declared) (if b then Some e else find_entry (put_function name g es) name)) s
        ∙ rest h

-- in front of others
means_front : (es fs : List environment.Entry) (name : List ℕ) (f : FunctionMeaning) → means es name ≡ called f → means (es ++ fs) name ≡ called f
means_front [] fs name f h = cc
means_front (e ∷ es) fs name f h = by (same_name e.name name) h (means_front es fs name f)
  where
    by : (b : Bool) → option (λ (x : environment.Entry). x.declared) (if b then Some e else find_entry es name) ≡ called f → (means es name ≡ called f → means (es ++ fs) name ≡ called f)
        → option (λ (x : environment.Entry). x.declared) (if b then Some e else find_entry (es ++ fs) name) ≡ called f
    by true h rest = h
    by false h rest = rest h

-- ---- some functions, and then the others

both_entries : (limits : Limits) (scope : ℕ) (outer : Env) (before : Counts) (ds rest : List Declaration) (es : List environment.Entry)
    → (said_functions limits scope outer before (ds ++ rest) es).entries
    ≡ (said_functions limits scope outer (said_functions limits scope outer before ds es).counts rest (said_functions limits scope outer before ds es).entries).entries
both_entries limits scope outer before [] rest es = refl
both_entries limits scope outer before (d ∷ ds) rest es = by d.sort (λ n xs. both_entries limits scope outer n ds rest xs)
  where
    by : (s : declarations.Sort)
        → ((n : Counts) (xs : List environment.Entry) → (said_functions limits scope outer n (ds ++ rest) xs).entries
        ≡ (said_functions limits scope outer (said_functions limits scope outer n ds xs).counts rest (said_functions limits scope outer n ds xs).entries).entries)
        → (said_functions limits scope outer before ((let x : Declaration = record { name = d.name; sort = s } in x) ∷ (ds ++ rest)) es).entries
        ≡ (said_functions limits scope outer (said_functions limits scope outer before ((let x : Declaration = record { name = d.name; sort = s } in x) ∷ ds) es).counts rest
        (said_functions limits scope outer before ((let x : Declaration = record { name = d.name; sort = s } in x) ∷ ds) es).entries).entries
    by (declarations.SignalOf s) more = more before es
    by (declarations.ParameterOf p) more = more before es
    by (declarations.FunctionOf g) more = let s = next_function limits scope (within outer es) before g in more (and_function before s) (put_function d.name.bytes s.meaning es)
    by declarations.GenvarSort more = more before es
    by declarations.IntegerSort more = more before es
    by declarations.InstanceSort more = more before es

take_all : (es : List environment.Entry) → take (length es) es ≡ es
take_all [] = refl
take_all (e ∷ es) = ap (λ (r : List environment.Entry). e ∷ r) (take_all es)

completed_part : (outer : Env) (old : Names) → old.plain ≡ length (entries old)
    → completed outer old ≡ said_functions the_limits old.scope outer (counted old.counts) (map function_declaration old.functions.items) (entries old)
unfolding completed
completed_part outer old p =
    ap (λ (n : ℕ). said_functions the_limits old.scope outer (counted old.counts) (map function_declaration old.functions.items) (take n (entries old))) p
    ∙ ap (said_functions the_limits old.scope outer (counted old.counts) (map function_declaration old.functions.items)) (take_all (entries old))

completed_whole : (outer : Env) (old whole : Names) (rest : List Declaration) → IsPart outer old whole rest
    → (completed outer whole).entries ≡ (said_functions the_limits old.scope outer (completed outer old).counts rest (completed outer old).entries).entries
unfolding completed
completed_whole outer old whole rest h =
    ap (λ (n : ℕ). (said_functions the_limits n outer (counted whole.counts) (map function_declaration whole.functions.items) (take whole.plain (entries whole))).entries) (sym h.scope)
    ∙ ap (λ (c : CountsOf). (said_functions the_limits old.scope outer (counted c) (map function_declaration whole.functions.items) (take whole.plain (entries whole))).entries) (sym h.counts)
    ∙ ap (λ (ds : List Declaration). (said_functions the_limits old.scope outer (counted old.counts) ds (take whole.plain (entries whole))).entries) h.functions
    ∙ ap (λ (es : List environment.Entry). (said_functions the_limits old.scope outer (counted old.counts) (map function_declaration old.functions.items ++ rest) es).entries) (sym h.names_are)
    ∙ both_entries the_limits old.scope outer (counted old.counts) (map function_declaration old.functions.items) rest (entries old)
    ∙ ap (λ (s : SaidFunctions). (said_functions the_limits old.scope outer s.counts rest s.entries).entries) (sym (completed_part outer old h.plain))

front_of : (outer : Env) (whole : Names) (name : List ℕ) (f : FunctionMeaning) → means (completed outer whole).entries name ≡ called f → means (complete outer whole) name ≡ called f
unfolding complete
front_of outer whole name f h = means_front (completed outer whole).entries (drop whole.plain (entries whole)) name f h

-- ---- the next one

-- it isn't complete yet
open_stands : (c : Declared) (d : environment.Declared) → is_incomplete c ≡ true → StandsFor c d → d ≡ environment.OfFunction None
open_stands states.Later d h s = cc
open_stands states.Announced d h s = cc
open_stands (states.Signal x) d h s = cc
open_stands (states.Parameter v) d h s = cc
open_stands (states.Function None) d h s = s
open_stands (states.Function (Some f)) d h s = cc
open_stands states.Genvar d h s = cc
open_stands (states.Integer scope) d h s = cc
open_stands states.Scope d h s = cc

means_open : (outer : Env) (old : Names) (name : List ℕ) → KeepsShapes outer old → is_awaited (value_at name (pairs old.map)) ≡ true → means (complete outer old) name ≡ Some (environment.OfFunction None)
means_open outer old name k h = by (value_at name (pairs old.map)) h (found_complete outer old name k)
  where
    by : (o : Option Entry) → is_awaited o ≡ true → MatchOption o (find_entry (complete outer old) name ≡ None) (λ v. Finds (find_entry (complete outer old) name) name v)
        → means (complete outer old) name ≡ Some (environment.OfFunction None)
    by None h m = cc
    by (Some e) h m = ap (option (λ (x : environment.Entry). x.declared)) m.found_is ∙ ap Some (open_stands e.declared m.entry.declared h m.declared_is)

-- with all functions it is what it is with those before it
pub means_next : (outer : Env) (old whole : Names) (f : Bor Function) (rest : List Declaration) → IsPart outer old whole (function_declaration f ∷ rest)
    → is_awaited (value_at (view.function f.now).name.bytes (pairs old.map)) ≡ true
    → means (complete outer whole) (view.function f.now).name.bytes ≡ called (said_next outer old (completed outer old).counts f).meaning
means_next outer old whole f rest h a =
    let name = (view.function f.now).name.bytes in
    let es = (completed outer old).entries in
    let s = next_function the_limits old.scope (within outer es) (completed outer old).counts (view.function f.now) in
    let front = complete_front outer old h.plain in
    let is : means es name ≡ Some (environment.OfFunction None) = ap (λ (xs : List environment.Entry). means xs name) (sym front) ∙ means_open outer old name h.kept a in
    front_of outer whole name (said_next outer old (completed outer old).counts f).meaning
    (ap (λ (xs : List environment.Entry). means xs name) (completed_whole outer old whole (function_declaration f ∷ rest) h)
    ∙ means_all the_limits old.scope outer (and_function (completed outer old).counts s) rest (put_function name s.meaning es) name s.meaning (means_now name s.meaning es is)
    ∙ ap (λ (xs : List environment.Entry). called (next_function the_limits old.scope (within outer xs) (completed outer old).counts (view.function f.now)).meaning) (sym front))

-- what is kept of it
kept_stands : (c : Declared) (d : environment.Declared) (g : FunctionMeaning) → d ≡ environment.OfFunction (Some g) → StandsFor c d → (s : FunctionShape) × (shape_in c ≡ Some s) × HasShape s g
kept_stands states.Later d g e s = cc
kept_stands states.Announced d g e s = cc
kept_stands (states.Signal x) d g e s = cc
kept_stands (states.Parameter (Value p)) d g e s = cc
kept_stands (states.Parameter (Undefined r)) d g e s = cc
kept_stands (states.Function None) d g e s = cc
kept_stands (states.Function (Some f)) d g e s =
    let is : s.0 ≡ g = cc in
    (f, refl, subst (λ (x : FunctionMeaning). HasShape f x) is s.2)
kept_stands states.Genvar d g e s = cc
kept_stands (states.Integer scope) d g e s = cc
kept_stands states.Scope d g e s = cc

pub shape_kept_of : (outer : Env) (whole : Names) (name : List ℕ) (g : FunctionMeaning) → KeepsShapes outer whole → means (complete outer whole) name ≡ called g
    → (s : FunctionShape) × (shape_at (value_at name (pairs whole.map)) ≡ Some s) × HasShape s g
shape_kept_of outer whole name g k h = by (value_at name (pairs whole.map)) (found_complete outer whole name k)
  where
    by : (o : Option Entry) → MatchOption o (find_entry (complete outer whole) name ≡ None) (λ v. Finds (find_entry (complete outer whole) name) name v) → (s : FunctionShape) × (shape_at o ≡ Some s) × HasShape s g
    by None m = absurd (none_called (sym (ap (option (λ (x : environment.Entry). x.declared)) m) ∙ h))
      where
        none_called : None ≡ called g → ⊥
        none_called h = cc
    by (Some e) m =
        let both : Some m.entry.declared ≡ called g = sym (ap (option (λ (x : environment.Entry). x.declared)) m.found_is) ∙ h in
        let is : m.entry.declared ≡ environment.OfFunction (Some g) = cc in
        kept_stands e.declared m.entry.declared g is m.declared_is

-- and of the signals that it reads
pub reads_kept_of : (outer : Env) (whole : Names) (name : List ℕ) (g : FunctionMeaning) → KeepsShapes outer whole → means (complete outer whole) name ≡ called g → map kept (reads_at (pairs whole.reads) name) ≡ map kept_of g.passed
reads_kept_of outer whole name g k h = by (find_entry (complete outer whole) name) refl h
  where
    by : (o : Option environment.Entry) → find_entry (complete outer whole) name ≡ o → option (λ (x : environment.Entry). x.declared) o ≡ called g → map kept (reads_at (pairs whole.reads) name) ≡ map kept_of g.passed
    by None f m = cc
    by (Some e) f m = let is : e.declared ≡ environment.OfFunction (Some g) = cc in reads_complete outer whole name e g k f is

-- a name of which nothing changes
pub put_other : (reads : List ℕ → List SignalShape) (name : List ℕ) (g : FunctionMeaning) (ps : List (Pair Entry)) (es : List environment.Entry) → AreDistinct ps → AreCompleted (map pair_entry ps) es → shapes_by reads ps ≡ shapes_of es
    → is_awaited (value_at name ps) ≡ false → shapes_by reads ps ≡ shapes_of (put_function name g es)
put_other reads name g ps es d h k a = by (value_at name ps) refl a
  where
    by : (o : Option Entry) → value_at name ps ≡ o → is_awaited o ≡ false → shapes_by reads ps ≡ shapes_of (put_function name g es)
    by None is a = put_none reads name g ps es h k is
    by (Some old) is a = put_kept reads name g old ps es d h k is a

-- one function less is left
pub part_more : (outer : Env) (old new whole : Names) (f : Bor Function) (rest : List Declaration) → IsPart outer old whole (function_declaration f ∷ rest) → IsCalled old new f
    → shapes_in new ≡ shapes_of (put_function (view.function f.now).name.bytes (said_next outer old (completed outer old).counts f).meaning (complete outer old))
    → IsPart outer new whole rest
part_more outer old new whole f rest h c shapes = record {
  names_are = c.entries_are ∙ h.names_are;
  scope = c.scope ∙ h.scope;
  counts = c.counts ∙ h.counts;
  plain = c.plain ∙ h.plain ∙ ap length (sym c.entries_are);
  functions =
      h.functions
      ∙ sym (append_assoc (map function_declaration old.functions.items) (function_declaration f ∷ []) rest)
      ∙ ap (λ (ds : List Declaration). ds ++ rest) (sym (map-append function_declaration old.functions.items (f ∷ [])))
      ∙ ap (λ (fs : List (Bor Function)). map function_declaration fs ++ rest) (sym c.functions);
  kept = shapes ∙ ap shapes_of (sym (complete_more outer old new f h.plain c));
}

-- ---- the names without their functions

name_there : (ps : List (Pair Entry)) (i : ℕ) (p : Pair Entry) → slice_get ps i ≡ Some p → (n : List ℕ) → IsNew n ps → same_name p.name n ≡ false
name_there [] i p h n k = cc
name_there (q ∷ ps) zero p h n k = let is : q ≡ p = cc in subst (λ (x : Pair Entry). same_name x.name n ≡ false) is k.0
name_there (q ∷ ps) (suc i) p h n k = name_there ps i p h n k.1

pub value_there : (ps : List (Pair Entry)) (i : ℕ) (p : Pair Entry) → AreDistinct ps → slice_get ps i ≡ Some p → value_at p.name ps ≡ Some p.value
value_there [] i p d h = cc
value_there (q ∷ ps) zero p d h =
    let is : q ≡ p = cc in
    ap (λ (b : Bool). if b then Some q.value else value_at p.name ps) (ap (λ (x : Pair Entry). same_name x.name p.name) is ∙ same_self p.name)
    ∙ ap (λ (x : Pair Entry). Some x.value) is
value_there (q ∷ ps) (suc i) p d h =
    ap (λ (b : Bool). if b then Some q.value else value_at p.name ps) (same_swap q.name p.name ∙ name_there ps i p h q.name d.0)
    ∙ value_there ps i p d.1 h

-- one name more
kept_more : (ps : List (Pair Entry)) (i : ℕ) (p : Pair Entry) (e : Entry) → AreDistinct ps → slice_get ps i ≡ Some p → e ≡ kept_pair p.value
    → with_value p.name e (kept_pairs (take i ps)) ≡ kept_pairs (take (suc i) ps)
kept_more [] i p e d h k = cc
kept_more (q ∷ ps) zero p e d h k =
    let is : q ≡ p = cc in
    ap (λ (v : Entry). (let x : Pair Entry = record { name = p.name; value = v } in x) ∷ []) k
    ∙ ap (λ (y : Pair Entry). (let x : Pair Entry = record { name = y.name; value = kept_pair y.value } in x) ∷ []) (sym is)
kept_more (q ∷ ps) (suc i) p e d h k =
    let kept : Pair Entry = record { name = q.name; value = kept_pair q.value } in
    ap (λ (b : Bool). if b then (let x : Pair Entry = record { name = q.name; value = e } in x) ∷ kept_pairs (take i ps) else kept ∷ with_value p.name e (kept_pairs (take i ps)))
    (same_swap q.name p.name ∙ name_there ps i p h q.name d.0)
    ∙ ap (λ (r : List (Pair Entry)). kept ∷ r) (kept_more ps i p e d.1 h k)

-- what is found at a place is the pair that stands there
pub found_there : (ps : List (Pair Entry)) (i : ℕ) (p : Pair Entry) (e : Entry) → AreDistinct ps → slice_get ps i ≡ Some p → value_at p.name ps ≡ Some e → (d : Declared) → d ≡ kept_declared e.declared
    → with_value p.name (record { first = e.first; second = e.second; declared = d }) (kept_pairs (take i ps)) ≡ kept_pairs (take (i + 1) ps)
found_there ps i p e a h v d k =
    let both : Some p.value ≡ Some e = sym (value_there ps i p a h) ∙ v in
    let is : e ≡ p.value = cc in
    let on : suc i ≡ i + 1 = omega arith in
    kept_more ps i p (record { first = e.first; second = e.second; declared = d }) a h (ap (λ (x : Declared). let y : Entry = record { first = e.first; second = e.second; declared = x } in y) k ∙ ap kept_pair is)
    ∙ ap (λ (n : ℕ). kept_pairs (take n ps)) on

-- the names mean the same
declared_kept : (d : Declared) → declared (kept_declared d) ≡ declared d
declared_kept states.Later = refl
declared_kept states.Announced = refl
declared_kept (states.Signal s) = refl
declared_kept (states.Parameter v) = refl
declared_kept (states.Function f) = refl
declared_kept states.Genvar = refl
declared_kept (states.Integer scope) = refl
declared_kept states.Scope = refl

entries_kept : (ps : List (Pair Entry)) → map pair_entry (kept_pairs ps) ≡ map pair_entry ps
entries_kept [] = refl
entries_kept (p ∷ ps) =
    ap (λ (d : environment.Declared). (let x : environment.Entry = record { name = p.name; place = p.value.first.name.now.place; declared = d } in x) ∷ map pair_entry (kept_pairs ps)) (declared_kept p.value.declared)
    ∙ ap (λ (r : List environment.Entry). pair_entry p ∷ r) (entries_kept ps)

incomplete_kept : (d : Declared) → shape_kept [] (kept_declared d) ≡ None
incomplete_kept states.Later = refl
incomplete_kept states.Announced = refl
incomplete_kept (states.Signal s) = refl
incomplete_kept (states.Parameter v) = refl
incomplete_kept (states.Function f) = refl
incomplete_kept states.Genvar = refl
incomplete_kept (states.Integer scope) = refl
incomplete_kept states.Scope = refl

pairs_incomplete : (ps : List (Pair Entry)) → ArePairsIncomplete (kept_pairs ps)
pairs_incomplete [] = tt
pairs_incomplete (p ∷ ps) = (incomplete_kept p.value.declared, pairs_incomplete ps)

pub part_first : (outer : Env) (names whole : Names) (n : ℕ) → pairs names.map ≡ kept_pairs (take n (pairs whole.map)) → n ≡ min whole.plain (length (pairs whole.map)) → names.scope ≡ whole.scope → names.counts ≡ whole.counts
    → names.functions.items ≡ [] → names.plain ≡ n → IsPart outer names whole (map function_declaration whole.functions.items)
part_first outer names whole n h least scope counts none plain =
    let ps = pairs whole.map in
    let entries_are : entries names ≡ take n (entries whole) = ap (map pair_entry) h ∙ entries_kept (take n ps) ∙ sym (take-map pair_entry n ps) in
    record {
      names_are =
          entries_are ∙ ap (λ (k : ℕ). take k (entries whole)) (least ∙ ap (min whole.plain) (sym (length-map ps pair_entry)))
          ∙ take_min whole.plain (entries whole);
      scope = scope;
      counts = counts;
      plain =
          let few : n ≤ length (entries whole) = few_of (length ps) (sym (length-map ps pair_entry)) least in
          plain ∙ sym (length-take-le n (entries whole) few) ∙ ap length (sym entries_are);
      functions = ap (λ (fs : List (Bor Function)). map function_declaration fs ++ map function_declaration whole.functions.items) (sym none);
      kept = keeps_none outer names (record { functions = none; each = subst ArePairsIncomplete (sym h) (pairs_incomplete (take n ps)) });
    }
  where
    few_of : (l : ℕ) → l ≡ length (entries whole) → n ≡ min whole.plain l → n ≤ length (entries whole)
    few_of l e m = omega arith
