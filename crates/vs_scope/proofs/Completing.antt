-- What the names of a scope mean once functions of it are complete.
use Rattle.std.proofs.Common.{◌≡◌, ℕ, zero, suc, slice_get, Bool, true, false, List, [], ◌∷◌, ◌++◌, map, take, drop, Option, Some, None, MatchOption, if◌then◌else◌, refl, sym, ap, ◌∙◌, subst}
use Rattle.std.specs.Borrow.{Bor}
use Rattle.std.proofs.lemmas.List.{take-append-drop}
use Rattle.vs_four.specs.declared.Range.{Range}
use Rattle.vs_design.specs.Clocks.{same_name}
use Rattle.vs_ast.specs.Views.{option}
use Rattle.vs_ast.specs.declared.items.Function.{Function}
use Rattle.vs_const.specs.declared.names.FunctionShape.{FunctionShape}
use Rattle.vs_const.specs.declared.names.SignalShape.{SignalShape}
use Rattle.vs_const.specs.Meanings.{SignalMeaning, FunctionMeaning, IsShapeOf, IsShapeIn}
use Rattle.vs_const.specs.MentionViews.{Kept, kept, kept_of}
use Rattle.vs_elaborated.specs.Limits.{Limits, the_limits}
use Rattle.vs_elaborated.specs.Environments as environment
use Rattle.vs_elaborated.specs.Environments.{Env, within, find_entry}
use Rattle.vs_elaborated.specs.Declarations as declarations
use Rattle.vs_elaborated.specs.Functions.{Counts, next_function, and_function, completed as completed_by, put_function, said_functions}
use Rattle.vs_maps.specs.Maps.{Pair, value_at}
use Rattle.vs_maps.specs.MapViews.{pairs}
use Rattle.vs_scope.specs.declared.names.Declared.{Declared}
use Rattle.vs_scope.specs.declared.names.Declared.TheVariants as states
use Rattle.vs_scope.specs.declared.names.Evaluated.TheVariants.{Value, Undefined}
use Rattle.vs_scope.specs.declared.names.Entry.{Entry}
use Rattle.vs_scope.specs.declared.names.Names.{Names}
use Rattle.vs_scope.specs.Views.{declared, pair_entry, entries}
use Rattle.vs_scope.specs.Counts.{counted}
use Rattle.vs_scope.specs.Complete.{completed, complete, function_declaration, Ends, ends, Shape, kept_shape, said_shape, shape_kept, shape_said, reads_at, shapes_by, shapes_of, KeepsShapes, ArePairsIncomplete, IsIncomplete}
use Rattle.vs_scope.specs.Functions.{IsCompletedDeclared, AreCompleted}
use Rattle.vs_scope.specs.Seen.{HasShape, StandsFor, Finds}
use Rattle.vs_scope.proofs.Entries.{same_is}

-- ---- no function is complete

pub complete_none : (outer : Env) (names : Names) → names.functions.items ≡ [] → complete outer names ≡ entries names
unfolding complete completed
complete_none outer names h =
    ap (λ (fs : List (Bor Function)). (said_functions the_limits names.scope outer (counted names.counts) (map function_declaration fs) (take names.plain (entries names))).entries ++ drop names.plain (entries names)) h
    ∙ take-append-drop names.plain (entries names)

pub shape_none : (d : Declared) → shape_said (declared d) ≡ None
shape_none states.Later = refl
shape_none states.Announced = refl
shape_none (states.Signal s) = refl
shape_none (states.Parameter (Value p)) = refl
shape_none (states.Parameter (Undefined r)) = refl
shape_none (states.Function f) = refl
shape_none states.Genvar = refl
shape_none (states.Integer scope) = refl
shape_none states.Scope = refl

-- whatever is read
none_any : (reads : List SignalShape) (d : Declared) → shape_kept [] d ≡ None → shape_kept reads d ≡ None
none_any reads states.Later h = refl
none_any reads states.Announced h = refl
none_any reads (states.Signal s) h = refl
none_any reads (states.Parameter v) h = refl
none_any reads (states.Function None) h = refl
none_any reads (states.Function (Some f)) h = cc
none_any reads states.Genvar h = refl
none_any reads (states.Integer scope) h = refl
none_any reads states.Scope h = refl

pub shapes_none : (reads : List ℕ → List SignalShape) (ps : List (Pair Entry)) → ArePairsIncomplete ps → shapes_by reads ps ≡ shapes_of (map pair_entry ps)
shapes_none reads [] h = refl
shapes_none reads (p ∷ ps) h =
    ap (λ (o : Option Shape). o ∷ shapes_by reads ps) (none_any (reads p.name) p.value.declared h.0 ∙ sym (shape_none p.value.declared))
    ∙ ap (λ (r : List (Option Shape)). shape_said (declared p.value.declared) ∷ r) (shapes_none reads ps h.1)

pub keeps_none : (outer : Env) (names : Names) → IsIncomplete names → KeepsShapes outer names
keeps_none outer names h = shapes_none (reads_at (pairs names.reads)) (pairs names.map) h.each ∙ ap shapes_of (sym (complete_none outer names h.functions))

-- ---- the names stay

completed_itself : (d : environment.Declared) → IsCompletedDeclared d d
completed_itself environment.Later = refl
completed_itself (environment.OfSignal s) = refl
completed_itself (environment.OfParameter v r) = refl
completed_itself environment.OfGenvar = refl
completed_itself (environment.OfInteger owner) = refl
completed_itself (environment.OfFunction None) = (None, refl)
completed_itself (environment.OfFunction (Some f)) = refl
completed_itself environment.OfScope = refl

pub all_completed_itself : (es : List environment.Entry) → AreCompleted es es
all_completed_itself [] = tt
all_completed_itself (e ∷ es) = ((refl, refl, completed_itself e.declared), all_completed_itself es)

of_function : (g : FunctionMeaning) (d : environment.Declared) (o : Option FunctionMeaning) → d ≡ environment.OfFunction o → (f : Option FunctionMeaning) × (completed_by g d ≡ environment.OfFunction f)
of_function g d None e = (Some g, ap (completed_by g) e)
of_function g d (Some h) e = (Some h, ap (completed_by g) e)

more_completed : (g : FunctionMeaning) (c d : environment.Declared) → IsCompletedDeclared c d → IsCompletedDeclared c (completed_by g d)
more_completed g environment.Later d h = ap (completed_by g) h
more_completed g (environment.OfSignal s) d h = ap (completed_by g) h
more_completed g (environment.OfParameter v r) d h = ap (completed_by g) h
more_completed g environment.OfGenvar d h = ap (completed_by g) h
more_completed g (environment.OfInteger owner) d h = ap (completed_by g) h
more_completed g (environment.OfFunction None) d h = of_function g d h.0 h.1
more_completed g (environment.OfFunction (Some f)) d h = ap (completed_by g) h
more_completed g environment.OfScope d h = ap (completed_by g) h

pub completed_put : (name : List ℕ) (g : FunctionMeaning) (es fs : List environment.Entry) → AreCompleted es fs → AreCompleted es (put_function name g fs)
completed_put name g [] [] h = tt
completed_put name g [] (f ∷ fs) h = absurd h
completed_put name g (e ∷ es) [] h = absurd h
completed_put name g (e ∷ es) (f ∷ fs) h = by (same_name f.name name) (completed_put name g es fs h.1)
  where
    by : (b : Bool) → AreCompleted es (put_function name g fs) → AreCompleted (e ∷ es) ((if b then record f { declared = completed_by g f.declared } else f) ∷ put_function name g fs)
    by true k = ((h.0.0, h.0.1, more_completed g e.declared f.declared h.0.2), k)
    by false k = (h.0, k)

pub completed_all : (limits : Limits) (scope : ℕ) (outer : Env) (before : Counts) (ds : List declarations.Declaration) (es fs : List environment.Entry) → AreCompleted es fs
    → AreCompleted es (said_functions limits scope outer before ds fs).entries
completed_all limits scope outer before [] es fs h = h
completed_all limits scope outer before (d ∷ ds) es fs h = by d.sort (λ n gs k. completed_all limits scope outer n ds es gs k)
  where
    by : (s : declarations.Sort) → ((n : Counts) (gs : List environment.Entry) → AreCompleted es gs → AreCompleted es (said_functions limits scope outer n ds gs).entries)
        → AreCompleted es (said_functions limits scope outer before ((let x : declarations.Declaration = record { name = d.name; sort = s } in x) ∷ ds) fs).entries
    by (declarations.SignalOf s) rest = rest before fs h
    by (declarations.ParameterOf p) rest = rest before fs h
    by (declarations.FunctionOf f) rest =
        let s = next_function limits scope (within outer fs) before f in rest (and_function before s) (put_function d.name.bytes s.meaning fs) (completed_put d.name.bytes s.meaning es fs h)
    by declarations.GenvarSort rest = rest before fs h
    by declarations.IntegerSort rest = rest before fs h
    by declarations.InstanceSort rest = rest before fs h

completed_before : (a b c : List environment.Entry) → AreCompleted a b → AreCompleted (a ++ c) (b ++ c)
completed_before [] [] c h = all_completed_itself c
completed_before [] (y ∷ b) c h = absurd h
completed_before (x ∷ a) [] c h = absurd h
completed_before (x ∷ a) (y ∷ b) c h = (h.0, completed_before a b c h.1)

pub names_completed : (outer : Env) (names : Names) → AreCompleted (entries names) (complete outer names)
unfolding complete completed
names_completed outer names =
    subst (λ (es : List environment.Entry). AreCompleted es (complete outer names)) (take-append-drop names.plain (entries names))
    (completed_before (take names.plain (entries names)) (completed outer names).entries (drop names.plain (entries names))
    (completed_all the_limits names.scope outer (counted names.counts) (map function_declaration names.functions.items) (take names.plain (entries names)) (take names.plain (entries names)) (all_completed_itself (take names.plain (entries names)))))

-- ---- what is kept of a function

same_range : (r q : Option Range) → option ends r ≡ option ends q → r ≡ q
same_range None None h = refl
same_range None (Some b) h = cc
same_range (Some a) None h = cc
same_range (Some a) (Some b) h = let e : ends a ≡ ends b = cc in let l : a.left ≡ b.left = ap (λ (x : Ends). x.left) e in let r : a.right ≡ b.right = ap (λ (x : Ends). x.right) e in ap Some (same a.left a.right b.left b.right l r)
  where
    same : (x y u v : ℕ) → x ≡ u → y ≡ v → (let q : Range = record { left = x; right = y } in q) ≡ record { left = u; right = v }
    same x y u v h k = cc

no_words : (q : Option Range) → None ≡ option ends q → q ≡ None
no_words None h = refl
no_words (Some b) h = cc

pub has_shape : (reads : List SignalShape) (f : FunctionShape) (g : FunctionMeaning) → kept_shape reads f ≡ said_shape g → HasShape f g
has_shape reads f g h = record {
  number = ap (λ (s : Shape). s.number) h;
  inputs = ap (λ (s : Shape). s.inputs) h;
  passed = ap (λ (s : Shape). s.passed) h;
  range = same_range f.range g.header.result.range (ap (λ (s : Shape). s.range) h);
  signed = ap (λ (s : Shape). s.signed) h;
  known = ap (λ (s : Shape). s.known) h;
  words = no_words g.header.result.words (ap (λ (s : Shape). s.words) h);
  depth = ap (λ (s : Shape). s.depth) h;
}

pub shape_is : (reads : List SignalShape) (f : FunctionShape) (g : FunctionMeaning) → HasShape f g → map kept reads ≡ map kept_of g.passed → kept_shape reads f ≡ said_shape g
shape_is reads f g h k = same _ _ _ _ _ _ _ _ _ _ _ _ _ _ _ _ _ _ h.number h.inputs h.passed (ap (option ends) h.range) h.signed h.known h.depth (sym (ap (option ends) h.words)) k
  where
    same : (m n a b i j : ℕ) (c d : Option Ends) (s t k l : Bool) (x y : ℕ) (v w : Option Ends) (p q : List Kept) → m ≡ n → a ≡ b → i ≡ j → c ≡ d → s ≡ t → k ≡ l → x ≡ y → v ≡ w → p ≡ q
        → (let z : Shape = record { number = m; inputs = a; passed = i; range = c; signed = s; known = k; depth = x; words = v; reads = p } in z) ≡ record { number = n; inputs = b; passed = j; range = d; signed = t; known = l; depth = y; words = w; reads = q }
    same m n a b i j c d s t k l x y v w p q h0 h1 h2 h3 h4 h5 h6 h7 h8 = cc

-- what is kept of a signal that is read
pub shape_of_read : (s : SignalShape) (t : SignalMeaning) → kept s ≡ kept_of t → IsShapeOf s t
shape_of_read s t h = record {
  number = ap (λ (k : Kept). k.number) h;
  range = ap (λ (k : Kept). k.range) h;
  signed = ap (λ (k : Kept). k.signed) h;
  role = ap (λ (k : Kept). k.role) h;
  known = ap (λ (k : Kept). k.known) h;
  words = sym (ap (λ (k : Kept). k.words) h);
  net = ap (λ (k : Kept). k.net) h;
  input = ap (λ (k : Kept). k.input) h;
}

pub shape_in_reads : (xs : List SignalShape) (ys : List SignalMeaning) (n : ℕ) → map kept xs ≡ map kept_of ys → IsShapeIn (slice_get xs n) (slice_get ys n)
shape_in_reads [] [] n h = refl
shape_in_reads [] (y ∷ ys) n h = cc
shape_in_reads (x ∷ xs) [] n h = cc
shape_in_reads (x ∷ xs) (y ∷ ys) zero h = let first : kept x ≡ kept_of y = cc in (y, refl, shape_of_read x y first)
shape_in_reads (x ∷ xs) (y ∷ ys) (suc n) h = let rest : map kept xs ≡ map kept_of ys = cc in shape_in_reads xs ys n rest

pub none_complete : (d : environment.Declared) (o : Option FunctionMeaning) → d ≡ environment.OfFunction o → None ≡ shape_said d → d ≡ environment.OfFunction None
none_complete d None e h = e
none_complete d (Some g) e h = let bad : None ≡ Some (said_shape g) = h ∙ ap shape_said e in cc

pub one_complete : (reads : List SignalShape) (f : FunctionShape) (d : environment.Declared) (o : Option FunctionMeaning) → d ≡ environment.OfFunction o → Some (kept_shape reads f) ≡ shape_said d → StandsFor (states.Function (Some f)) d
one_complete reads f d None e h = let bad : Some (kept_shape reads f) ≡ None = h ∙ ap shape_said e in cc
one_complete reads f d (Some g) e h = let both : Some (kept_shape reads f) ≡ Some (said_shape g) = h ∙ ap shape_said e in let is : kept_shape reads f ≡ said_shape g = cc in (g, e, has_shape reads f g is)

pub stands : (reads : List SignalShape) (c : Declared) (d : environment.Declared) → IsCompletedDeclared (declared c) d → shape_kept reads c ≡ shape_said d → StandsFor c d
stands reads states.Later d h k = h
stands reads states.Announced d h k = h
stands reads (states.Signal s) d h k = h
stands reads (states.Parameter (Value p)) d h k = h
stands reads (states.Parameter (Undefined r)) d h k = h
stands reads (states.Function None) d h k = none_complete d h.0 h.1 k
stands reads (states.Function (Some f)) d h k = one_complete reads f d h.0 h.1 k
stands reads states.Genvar d h k = h
stands reads (states.Integer scope) d h k = h
stands reads states.Scope d h k = h

kept_reads : (reads : List SignalShape) (c : Declared) (g : FunctionMeaning) → shape_kept reads c ≡ Some (said_shape g) → map kept reads ≡ map kept_of g.passed
kept_reads reads states.Later g h = cc
kept_reads reads states.Announced g h = cc
kept_reads reads (states.Signal s) g h = cc
kept_reads reads (states.Parameter v) g h = cc
kept_reads reads (states.Function None) g h = cc
kept_reads reads (states.Function (Some f)) g h = let is : kept_shape reads f ≡ said_shape g = cc in ap (λ (s : Shape). s.reads) is
kept_reads reads states.Genvar g h = cc
kept_reads reads (states.Integer scope) g h = cc
kept_reads reads states.Scope g h = cc

-- ---- look-ups

find_completed : (reads : List ℕ → List SignalShape) (name : List ℕ) (ps : List (Pair Entry)) (fs : List environment.Entry) → AreCompleted (map pair_entry ps) fs → shapes_by reads ps ≡ shapes_of fs
    → MatchOption (value_at name ps) (find_entry fs name ≡ None) (λ v. Finds (find_entry fs name) name v)
find_completed reads name [] [] h k = refl
find_completed reads name [] (f ∷ fs) h k = absurd h
find_completed reads name (p ∷ ps) [] h k = absurd h
find_completed reads name (p ∷ ps) (f ∷ fs) h k =
    let first : shape_kept (reads p.name) p.value.declared ≡ shape_said f.declared = cc in
    let rest : shapes_by reads ps ≡ shapes_of fs = cc in
    by (same_name p.name name) refl (ap (λ (n : List ℕ). same_name n name) h.0.0) (stands (reads p.name) p.value.declared f.declared h.0.2 first) (find_completed reads name ps fs h.1 rest)
  where
    by : (b : Bool) → same_name p.name name ≡ b → same_name f.name name ≡ same_name p.name name → StandsFor p.value.declared f.declared → MatchOption (value_at name ps) (find_entry fs name ≡ None) (λ v. Finds (find_entry fs name) name v)
        → MatchOption (if b then Some p.value else value_at name ps) ((if same_name f.name name then Some f else find_entry fs name) ≡ None) (λ v. Finds (if same_name f.name name then Some f else find_entry fs name) name v)
    by true e s d rest = record {
      entry = f;
      found_is = ap (λ (t : Bool). if t then Some f else find_entry fs name) (s ∙ e);
      name_is = h.0.0 ∙ same_is p.name name e;
      place_is = h.0.1;
      declared_is = d;
    }
    by false e s d rest = subst (λ (t : Bool). MatchOption (value_at name ps) ((if t then Some f else find_entry fs name) ≡ None) (λ v. Finds (if t then Some f else find_entry fs name) name v)) (sym (s ∙ e)) rest

pub found_complete : (outer : Env) (names : Names) (name : List ℕ) → KeepsShapes outer names
    → MatchOption (value_at name (pairs names.map)) (find_entry (complete outer names) name ≡ None) (λ v. Finds (find_entry (complete outer names) name) name v)
found_complete outer names name h = find_completed (reads_at (pairs names.reads)) name (pairs names.map) (complete outer names) (names_completed outer names) h

-- ---- what a call passes

-- of a function that is complete, what is kept of the signals that it reads is what it means
reads_found : (reads : List ℕ → List SignalShape) (name : List ℕ) (g : FunctionMeaning) (e : environment.Entry) (ps : List (Pair Entry)) (fs : List environment.Entry) → AreCompleted (map pair_entry ps) fs
    → shapes_by reads ps ≡ shapes_of fs → find_entry fs name ≡ Some e → e.declared ≡ environment.OfFunction (Some g) → map kept (reads name) ≡ map kept_of g.passed
reads_found reads name g e [] [] h k f is = cc
reads_found reads name g e [] (x ∷ fs) h k f is = absurd h
reads_found reads name g e (p ∷ ps) [] h k f is = absurd h
reads_found reads name g e (p ∷ ps) (x ∷ fs) h k f is =
    let first : shape_kept (reads p.name) p.value.declared ≡ shape_said x.declared = cc in
    let rest : shapes_by reads ps ≡ shapes_of fs = cc in
    by (same_name x.name name) refl f first (λ m. reads_found reads name g e ps fs h.1 rest m is)
  where
    by : (b : Bool) → same_name x.name name ≡ b → (if b then Some x else find_entry fs name) ≡ Some e → shape_kept (reads p.name) p.value.declared ≡ shape_said x.declared
        → (find_entry fs name ≡ Some e → map kept (reads name) ≡ map kept_of g.passed) → map kept (reads name) ≡ map kept_of g.passed
    by true s f first more =
        let here : x ≡ e = cc in
        let named : p.name ≡ name = sym h.0.0 ∙ same_is x.name name s in
        ap (λ (n : List ℕ). map kept (reads n)) (sym named)
        ∙ kept_reads (reads p.name) p.value.declared g (first ∙ ap (λ (y : environment.Entry). shape_said y.declared) here ∙ ap shape_said is)
    by false s f first more = more f

pub reads_complete : (outer : Env) (names : Names) (name : List ℕ) (e : environment.Entry) (g : FunctionMeaning) → KeepsShapes outer names → find_entry (complete outer names) name ≡ Some e
    → e.declared ≡ environment.OfFunction (Some g) → map kept (reads_at (pairs names.reads) name) ≡ map kept_of g.passed
reads_complete outer names name e g k f is = reads_found (reads_at (pairs names.reads)) name g e (pairs names.map) (complete outer names) (names_completed outer names) k f is
