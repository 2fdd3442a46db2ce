-- The functions of a scope, one after the other.
use Rattle.std.proofs.Common.{◌≡◌, ◌+◌, ℕ, List, [], ◌∷◌, ◌++◌, map, take, length, Option, None, refl, sym, ap, ◌∙◌, subst, append_assoc}
use Rattle.std.specs.Borrow.{Bor}
use Rattle.std.proofs.lemmas.List.{map-append}
use Rattle.vs_ast.specs.declared.items.Function.{Function}
use Rattle.vs_ast.specs.Views as view
use Rattle.vs_grammar.specs.Trees as tree
use Rattle.vs_const.specs.declared.faults.Fault.{Fault}
use Rattle.vs_const.specs.Faults.{least, better}
use Rattle.vs_const.specs.declared.names.SignalShape.{SignalShape}
use Rattle.vs_const.specs.Meanings.{FunctionMeaning}
use Rattle.vs_const.specs.MentionViews.{kept, kept_of}
use Rattle.vs_const.proofs.Least.{least_append}
use Rattle.vs_elaborated.specs.Limits.{Limits, the_limits}
use Rattle.vs_elaborated.specs.Environments.{Entry, Env, within}
use Rattle.vs_elaborated.specs.Declarations as declarations
use Rattle.vs_elaborated.specs.Declarations.{Declaration, FunctionOf}
use Rattle.vs_elaborated.specs.Functions as spec
use Rattle.vs_elaborated.specs.Functions.{Counts, next_function, and_function, put_function, said_functions}
use Rattle.vs_scope.specs.declared.names.Names.{Names}
use Rattle.vs_scope.specs.declared.functions.SaidFunction.{SaidFunction}
use Rattle.vs_scope.specs.declared.functions.SaidFunctions.{SaidFunctions}
use Rattle.vs_scope.specs.declared.counts.Counts.{Counts as CountsOf}
use Rattle.vs_scope.specs.Counts.{counted}
use Rattle.vs_scope.specs.Complete.{completed, complete, function_declaration, shapes_in, shapes_of, IsIncomplete}
use Rattle.vs_scope.specs.Functions.{functions_in, IsCalled, IsSaidFunction, AreCompleted, said_left, IsSaying}
use Rattle.vs_scope.specs.Seen.{HasShape}
use Rattle.vs_grammar.specs.Shapes.{IsFunction}
use Rattle.vs_scope.specs.declared.names.Declaration.{Declaration as DeclarationOf}
use Rattle.vs_scope.specs.declared.names.Sort.{Sort as SortOf}
use Rattle.vs_scope.specs.declared.names.Sort.TheVariants as sorts
use Rattle.vs_scope.specs.Shaped.{IsShaped}
use Rattle.vs_scope.specs.Views.{declaration, entries, sort}
use Rattle.vs_scope.proofs.BlocksBehind.{complete_front}
use Rattle.vs_scope.proofs.Completing.{complete_none, keeps_none, names_completed}
use Rattle.vs_scope.proofs.SoFar.{better_assoc, better_none}
use Rattle.vs_scope.proofs.Steps.{append_none}

-- ---- one function more, behind all others

abbrev more_of : Limits → (scope : ℕ) → Env → spec.SaidFunctions → Declaration → (f : tree.Function) → spec.SaidFunction
more_of limits scope outer r d f = next_function limits scope (within outer r.entries) r.counts f

behind_entries : (limits : Limits) (scope : ℕ) (outer : Env) (before : Counts) (ds : List Declaration) (d : Declaration) (f : tree.Function) (es : List Entry) → d.sort ≡ FunctionOf f
    → (said_functions limits scope outer before (ds ++ d ∷ []) es).entries
    ≡ put_function d.name.bytes (more_of limits scope outer (said_functions limits scope outer before ds es) d f).meaning (said_functions limits scope outer before ds es).entries
behind_entries limits scope outer before [] d f es h = ap (λ (s : declarations.Sort). (said_functions limits scope outer before ((let x : Declaration = record { name = d.name; sort = s } in x) ∷ []) es).entries) h
behind_entries limits scope outer before (a ∷ ds) d f es h = by a.sort (λ n xs. behind_entries limits scope outer n ds d f xs h)
  where
    by : (s : declarations.Sort)
        → ((n : Counts) (xs : List Entry) → (said_functions limits scope outer n (ds ++ d ∷ []) xs).entries
        ≡ put_function d.name.bytes (more_of limits scope outer (said_functions limits scope outer n ds xs) d f).meaning (said_functions limits scope outer n ds xs).entries)
        → (said_functions limits scope outer before ((let x : Declaration = record { name = a.name; sort = s } in x) ∷ (ds ++ d ∷ [])) es).entries
        ≡ put_function d.name.bytes (more_of limits scope outer (said_functions limits scope outer before ((let x : Declaration = record { name = a.name; sort = s } in x) ∷ ds) es) d f).meaning
        (said_functions limits scope outer before ((let x : Declaration = record { name = a.name; sort = s } in x) ∷ ds) es).entries
    by (declarations.SignalOf s) rest = rest before es
    by (declarations.ParameterOf p) rest = rest before es
    by (FunctionOf g) rest = let s = next_function limits scope (within outer es) before g in rest (and_function before s) (put_function a.name.bytes s.meaning es)
    by declarations.GenvarSort rest = rest before es
    by declarations.IntegerSort rest = rest before es
    by declarations.InstanceSort rest = rest before es

behind_counts : (limits : Limits) (scope : ℕ) (outer : Env) (before : Counts) (ds : List Declaration) (d : Declaration) (f : tree.Function) (es : List Entry) → d.sort ≡ FunctionOf f
    → (said_functions limits scope outer before (ds ++ d ∷ []) es).counts
    ≡ and_function (said_functions limits scope outer before ds es).counts (more_of limits scope outer (said_functions limits scope outer before ds es) d f)
behind_counts limits scope outer before [] d f es h = ap (λ (s : declarations.Sort). (said_functions limits scope outer before ((let x : Declaration = record { name = d.name; sort = s } in x) ∷ []) es).counts) h
behind_counts limits scope outer before (a ∷ ds) d f es h = by a.sort (λ n xs. behind_counts limits scope outer n ds d f xs h)
  where
    by : (s : declarations.Sort)
        → ((n : Counts) (xs : List Entry) → (said_functions limits scope outer n (ds ++ d ∷ []) xs).counts
        ≡ and_function (said_functions limits scope outer n ds xs).counts (more_of limits scope outer (said_functions limits scope outer n ds xs) d f))
        → (said_functions limits scope outer before ((let x : Declaration = record { name = a.name; sort = s } in x) ∷ (ds ++ d ∷ [])) es).counts
        ≡ and_function (said_functions limits scope outer before ((let x : Declaration = record { name = a.name; sort = s } in x) ∷ ds) es).counts
        (more_of limits scope outer (said_functions limits scope outer before ((let x : Declaration = record { name = a.name; sort = s } in x) ∷ ds) es) d f)
    by (declarations.SignalOf s) rest = rest before es
    by (declarations.ParameterOf p) rest = rest before es
    by (FunctionOf g) rest = let s = next_function limits scope (within outer es) before g in rest (and_function before s) (put_function a.name.bytes s.meaning es)
    by declarations.GenvarSort rest = rest before es
    by declarations.IntegerSort rest = rest before es
    by declarations.InstanceSort rest = rest before es

-- ---- the names of a scope, of which one function more is complete

-- what is said of it
abbrev pub said_next : (outer : Env) → Names → Counts → Bor Function → spec.SaidFunction
said_next outer names before f = next_function the_limits names.scope (within outer (complete outer names)) before (view.function f.now)

completed_more : (outer : Env) (old new : Names) (f : Bor Function) → IsCalled old new f
    → completed outer new ≡ said_functions the_limits old.scope outer (counted old.counts) (map function_declaration old.functions.items ++ function_declaration f ∷ []) (take old.plain (entries old))
unfolding completed
completed_more outer old new f h =
    ap (λ (n : ℕ). said_functions the_limits n outer (counted new.counts) (map function_declaration new.functions.items) (take new.plain (entries new))) h.scope
    ∙ ap (λ (n : CountsOf). said_functions the_limits old.scope outer (counted n) (map function_declaration new.functions.items) (take new.plain (entries new))) h.counts
    ∙ ap (λ (fs : List (Bor Function)). said_functions the_limits old.scope outer (counted old.counts) (map function_declaration fs) (take new.plain (entries new))) h.functions
    ∙ ap (λ (ds : List Declaration). said_functions the_limits old.scope outer (counted old.counts) ds (take new.plain (entries new))) (map-append function_declaration old.functions.items (f ∷ []))
    ∙ ap (λ (n : ℕ). said_functions the_limits old.scope outer (counted old.counts) (map function_declaration old.functions.items ++ function_declaration f ∷ []) (take n (entries new))) h.plain
    ∙ ap (λ (es : List Entry). said_functions the_limits old.scope outer (counted old.counts) (map function_declaration old.functions.items ++ function_declaration f ∷ []) (take old.plain es)) h.entries_are

completed_is : (outer : Env) (names : Names) → completed outer names ≡ said_functions the_limits names.scope outer (counted names.counts) (map function_declaration names.functions.items) (take names.plain (entries names))
unfolding completed
completed_is outer names = refl

plain_of : (old new : Names) (f : Bor Function) → IsCalled old new f → old.plain ≡ length (entries old) → new.plain ≡ length (entries new)
plain_of old new f h p = h.plain ∙ p ∙ ap length (sym h.entries_are)

pub complete_more : (outer : Env) (old new : Names) (f : Bor Function) → old.plain ≡ length (entries old) → IsCalled old new f
    → complete outer new ≡ put_function (view.function f.now).name.bytes (said_next outer old (completed outer old).counts f).meaning (complete outer old)
complete_more outer old new f p h =
    complete_front outer new (plain_of old new f h p)
    ∙ ap (λ (x : spec.SaidFunctions). x.entries) (completed_more outer old new f h)
    ∙ behind_entries the_limits old.scope outer (counted old.counts) (map function_declaration old.functions.items) (function_declaration f) (view.function f.now) (take old.plain (entries old)) refl
    ∙ ap (λ (x : spec.SaidFunctions). put_function (view.function f.now).name.bytes (next_function the_limits old.scope (within outer x.entries) x.counts (view.function f.now)).meaning x.entries) (sym (completed_is outer old))
    ∙ ap (λ (es : List Entry). put_function (view.function f.now).name.bytes (next_function the_limits old.scope (within outer es) (completed outer old).counts (view.function f.now)).meaning es) (sym (complete_front outer old p))

pub counts_more : (outer : Env) (old new : Names) (f : Bor Function) → old.plain ≡ length (entries old) → IsCalled old new f
    → (completed outer new).counts ≡ and_function (completed outer old).counts (said_next outer old (completed outer old).counts f)
counts_more outer old new f p h =
    ap (λ (x : spec.SaidFunctions). x.counts) (completed_more outer old new f h)
    ∙ behind_counts the_limits old.scope outer (counted old.counts) (map function_declaration old.functions.items) (function_declaration f) (view.function f.now) (take old.plain (entries old)) refl
    ∙ ap (λ (x : spec.SaidFunctions). and_function x.counts (next_function the_limits old.scope (within outer x.entries) x.counts (view.function f.now))) (sym (completed_is outer old))
    ∙ ap (λ (es : List Entry). and_function (completed outer old).counts (next_function the_limits old.scope (within outer es) (completed outer old).counts (view.function f.now))) (sym (complete_front outer old p))

-- ---- the loop

-- the declarations of no function so far
pub saying_start : (outer : Env) (names : Names) (s : SaidFunctions) (ds : List Declaration) → names.plain ≡ length (entries names) → IsIncomplete names → s.fault ≡ None → s.counts ≡ names.counts
    → IsSaying outer names s ds (said_functions the_limits names.scope outer (counted names.counts) ds (entries names)) (functions_in ds)
saying_start outer names s ds p i f c =
    let same : said_left outer names (counted s.counts) ds ≡ said_functions the_limits names.scope outer (counted names.counts) ds (entries names) =
    ap (λ (n : CountsOf). said_functions the_limits names.scope outer (counted n) ds (complete outer names)) c ∙ ap (said_functions the_limits names.scope outer (counted names.counts) ds) (complete_none outer names i.functions) in
    record {
      plain = p;
      kept = keeps_none outer names i;
      counts_now = ap counted c ∙ sym (first_counts outer names i.functions);
      entries_are = ap (λ (x : spec.SaidFunctions). x.entries) same;
      fault = ap (λ (o : Option Fault). better o (least (said_left outer names (counted s.counts) ds).faults)) f ∙ ap (λ (x : spec.SaidFunctions). least x.faults) same;
      counts_are = ap (λ (x : spec.SaidFunctions). x.counts) same;
      functions = ap (λ (fs : List (Bor Function)). map function_declaration fs ++ functions_in ds) i.functions;
    }
  where
    first_counts : (outer : Env) (names : Names) → names.functions.items ≡ [] → (completed outer names).counts ≡ counted names.counts
    first_counts outer names h = ap (λ (x : spec.SaidFunctions). x.counts) (completed_is outer names) ∙ ap (λ (fs : List (Bor Function)). (said_functions the_limits names.scope outer (counted names.counts) (map function_declaration fs) (take names.plain (entries names))).counts) h

-- a declaration of something else
pub saying_skip : (outer : Env) (names : Names) (s : SaidFunctions) (d : Declaration) (rest : List Declaration) (all : spec.SaidFunctions) (called : List Declaration) → functions_in (d ∷ []) ≡ []
    → IsSaying outer names s (d ∷ rest) all called → IsSaying outer names s rest all called
saying_skip outer names s d rest all called none h = by d.sort none h
  where
    by : (t : declarations.Sort) → functions_in ((let x : Declaration = record { name = d.name; sort = t } in x) ∷ []) ≡ [] → IsSaying outer names s ((let x : Declaration = record { name = d.name; sort = t } in x) ∷ rest) all called
        → IsSaying outer names s rest all called
    by (declarations.SignalOf x) none h = record { plain = h.plain; kept = h.kept; counts_now = h.counts_now; entries_are = h.entries_are; fault = h.fault; counts_are = h.counts_are; functions = h.functions }
    by (declarations.ParameterOf x) none h = record { plain = h.plain; kept = h.kept; counts_now = h.counts_now; entries_are = h.entries_are; fault = h.fault; counts_are = h.counts_are; functions = h.functions }
    by (FunctionOf f) none h = cc
    by declarations.GenvarSort none h = record { plain = h.plain; kept = h.kept; counts_now = h.counts_now; entries_are = h.entries_are; fault = h.fault; counts_are = h.counts_are; functions = h.functions }
    by declarations.IntegerSort none h = record { plain = h.plain; kept = h.kept; counts_now = h.counts_now; entries_are = h.entries_are; fault = h.fault; counts_are = h.counts_are; functions = h.functions }
    by declarations.InstanceSort none h = record { plain = h.plain; kept = h.kept; counts_now = h.counts_now; entries_are = h.entries_are; fault = h.fault; counts_are = h.counts_are; functions = h.functions }

-- one function more
pub saying_more : (outer : Env) (old new : Names) (s t : SaidFunctions) (f : Bor Function) (one : SaidFunction) (reads : List SignalShape) (rest : List Declaration) (all : spec.SaidFunctions) (called : List Declaration)
    → IsCalled old new f
    → ((es : List Entry) (g : FunctionMeaning) → AreCompleted (entries old) es → shapes_in old ≡ shapes_of es → HasShape one.shape g → map kept reads ≡ map kept_of g.passed → shapes_in new ≡ shapes_of (put_function (view.function f.now).name.bytes g es))
    → IsSaidFunction one (said_next outer old (counted s.counts) f) → map kept reads ≡ map kept_of (said_next outer old (counted s.counts) f).meaning.passed
    → t.fault ≡ better s.fault one.fault → t.counts.copies ≡ s.counts.copies + one.copies → t.counts.functions ≡ s.counts.functions + 1
    → IsSaying outer old s (function_declaration f ∷ rest) all called → IsSaying outer new t rest all called
saying_more outer old new s t f one reads rest all called h shapes says passed fault copies functions before =
    let now = counted s.counts in
    let said = said_next outer old now f in
    let is : said_next outer old (completed outer old).counts f ≡ said = ap (λ (n : Counts). said_next outer old n f) (sym before.counts_now) in
    let whole : complete outer new ≡ put_function (view.function f.now).name.bytes said.meaning (complete outer old) =
    complete_more outer old new f before.plain h ∙ ap (λ (x : spec.SaidFunction). put_function (view.function f.now).name.bytes x.meaning (complete outer old)) is in
    let then_counts : counted t.counts ≡ and_function now said = same_counts _ _ _ _ (copies ∙ ap (λ (n : ℕ). s.counts.copies + n) says.copies) functions in
    let left : said_left outer new (counted t.counts) rest ≡ said_functions the_limits old.scope outer (and_function now said) rest (put_function (view.function f.now).name.bytes said.meaning (complete outer old)) =
    ap (λ (n : ℕ). said_functions the_limits n outer (counted t.counts) rest (complete outer new)) h.scope
    ∙ ap (λ (n : Counts). said_functions the_limits old.scope outer n rest (complete outer new)) then_counts
    ∙ ap (said_functions the_limits old.scope outer (and_function now said) rest) whole in
    record {
      plain = plain_of old new f h before.plain;
      kept = shapes (complete outer old) said.meaning (names_completed outer old) before.kept says.shape passed ∙ ap shapes_of (sym whole);
      counts_now =
          then_counts
          ∙ sym (counts_more outer old new f before.plain h ∙ ap (λ (x : spec.SaidFunction). and_function (completed outer old).counts x) is ∙ ap (λ (n : Counts). and_function n said) (sym before.counts_now));
      entries_are = ap (λ (x : spec.SaidFunctions). x.entries) left ∙ before.entries_are;
      fault =
          ap (λ (x : spec.SaidFunctions). better t.fault (least x.faults)) left
          ∙ ap (λ (o : Option Fault). better o (least (said_functions the_limits old.scope outer (and_function now said) rest (put_function (view.function f.now).name.bytes said.meaning (complete outer old))).faults)) (fault ∙ ap (better s.fault) says.fault)
          ∙ better_assoc s.fault (least said.faults) _
          ∙ ap (better s.fault) (sym (least_append said.faults (said_functions the_limits old.scope outer (and_function now said) rest (put_function (view.function f.now).name.bytes said.meaning (complete outer old))).faults))
          ∙ before.fault;
      counts_are = ap (λ (x : spec.SaidFunctions). x.counts) left ∙ before.counts_are;
      functions =
          ap (λ (fs : List (Bor Function)). map function_declaration fs ++ functions_in rest) h.functions
          ∙ ap (λ (ds : List Declaration). ds ++ functions_in rest) (map-append function_declaration old.functions.items (f ∷ []))
          ∙ append_assoc (map function_declaration old.functions.items) (function_declaration f ∷ []) (functions_in rest)
          ∙ before.functions;
    }
  where
    same_counts : (a b c d : ℕ) → a ≡ c → b ≡ d → (let x : Counts = record { copies = a; functions = b } in x) ≡ record { copies = c; functions = d }
    same_counts a b c d h k = cc

-- what all say
pub record HaveSaid (outer : Env) (names : Names) (s : SaidFunctions) (all : spec.SaidFunctions) (called : List Declaration) : Type 0 where
  pub entries : complete outer names ≡ all.entries
  pub fault : s.fault ≡ least all.faults
  pub counts_are : counted s.counts ≡ all.counts
  pub functions : map function_declaration names.functions.items ≡ called

pub saying_end : (outer : Env) (names : Names) (s : SaidFunctions) (all : spec.SaidFunctions) (called : List Declaration) → IsSaying outer names s [] all called → HaveSaid outer names s all called
saying_end outer names s all called h = record {
  entries = h.entries_are;
  fault = sym (better_none s.fault) ∙ h.fault;
  counts_are = h.counts_are;
  functions = sym (append_none (map function_declaration names.functions.items)) ∙ h.functions;
}

-- ---- declarations of the code

pub function_is : (d : DeclarationOf) (f : Bor Function) → d.sort ≡ sorts.Function f → IsShaped (declaration d) → declaration d ≡ function_declaration f
function_is d f h k =
    let is : declaration d ≡ record { name = view.name d.name.now; sort = FunctionOf (view.function f.now) } = ap (λ (s : SortOf). let x : Declaration = record { name = view.name d.name.now; sort = sort s } in x) h in
    let shaped = subst (λ (x : Declaration). IsShaped x) is k in
    is ∙ ap (λ (n : tree.Name). let x : Declaration = record { name = n; sort = FunctionOf (view.function f.now) } in x) shaped.1

pub function_shaped : (d : DeclarationOf) (f : Bor Function) → d.sort ≡ sorts.Function f → IsShaped (declaration d) → IsFunction (view.function f.now) × (declaration d ≡ function_declaration f)
function_shaped d f h k =
    let is : declaration d ≡ record { name = view.name d.name.now; sort = FunctionOf (view.function f.now) } = ap (λ (s : SortOf). let x : Declaration = record { name = view.name d.name.now; sort = sort s } in x) h in
    ((subst (λ (x : Declaration). IsShaped x) is k).0, function_is d f h k)

pub no_function : (d : DeclarationOf) → ((f : Bor Function) → d.sort ≡ sorts.Function f → ⊥) → functions_in (declaration d ∷ []) ≡ []
no_function d other = by d.sort other
  where
    by : (s : SortOf) → ((f : Bor Function) → s ≡ sorts.Function f → ⊥) → functions_in ((let x : Declaration = record { name = view.name d.name.now; sort = sort s } in x) ∷ []) ≡ []
    by (sorts.Signal s addresses header) other = refl
    by (sorts.Parameter p value) other = refl
    by (sorts.Function f) other = absurd (other f refl)
    by sorts.Genvar other = refl
    by sorts.Variable other = refl
    by sorts.Integer other = refl
    by sorts.Scope other = refl
