-- The functions of a scope without a fault: its names say which they are, they can be built, and what is built is what its survey says (IEEE 1364-2005, 10.4).
use Rattle.std.proofs.Common.{◌≡◌, ◌<◌, ◌≤◌, ℕ, zero, suc, ◌+◌, Bool, true, false, List, [], ◌∷◌, ◌++◌, length, map, flat_map, take, Option, Some, None, refl, sym, ap, ◌∙◌, subst, arith}
use Rattle.std.specs.Borrow.{Bor}
use Rattle.vs_design.specs.Designs.{Design}
use Rattle.vs_grammar.specs.Trees as tree
use Rattle.vs_grammar.specs.Trees.{items_list}
use Rattle.vs_grammar.specs.Shapes.{Each, IsFunction, IsItem, IsGenerateItem, AreItems}
use Rattle.vs_grammar.specs.Depths.{deepest, item_depth}
use Rattle.vs_grammar.specs.Spelled.{depth_limit}
use Rattle.vs_ast.specs.declared.items.Function.{Function as TextFunction}
use Rattle.vs_ast.specs.Views as view
use Rattle.vs_const.specs.declared.faults.Fault.{Fault}
use Rattle.vs_const.specs.Faults.{least, better}
use Rattle.vs_const.proofs.Formed.{both_nil}
use Rattle.vs_elaborated.specs.Limits.{the_limits}
use Rattle.vs_elaborated.specs.Environments.{Entry}
use Rattle.vs_elaborated.specs.Declarations.{Sort, SignalOf, ParameterOf, FunctionOf, GenvarSort, IntegerSort, InstanceSort, Declaration, signals_declared, parameters_declared, integer_sort, item_declared, items_declared, header_declared}
use Rattle.vs_elaborated.specs.Uses.{is_variable_of}
use Rattle.vs_elaborated.specs.Functions.{Counts, SaidFunctions, said_functions}
use Rattle.vs_elaborated.specs.Numbers.{IsNumberedDeclared, AreNumberedEntries, AreNumberedFrames, FunctionNamesAreNumbered}
use Rattle.vs_elaborated.specs.Pieces.{Task}
use Rattle.vs_elaborated.specs.Sound.{AreSoundEntries, AreSoundFrames, FunctionsAreFormed, FunctionsSeeSound}
use Rattle.vs_elaborated.specs.Surveys.{Loops, Totals, Survey, survey, counts_of, declarations_of, overrides_of, header_of, block_entries}
use Rattle.vs_scope.specs.declared.contents.Contents.{Contents}
use Rattle.vs_scope.specs.declared.contents.Contents.TheVariants.{Module, Block}
use Rattle.vs_scope.specs.declared.frames.Frame.{Frame}
use Rattle.vs_scope.specs.declared.names.Declared.{Declared as DeclaredOf}
use Rattle.vs_scope.specs.declared.names.Declared.TheVariants as states
use Rattle.vs_scope.specs.declared.names.Entry.{Entry as EntryOf}
use Rattle.vs_scope.specs.declared.names.Evaluated.{Evaluated}
use Rattle.vs_scope.specs.declared.names.Evaluated.TheVariants as evaluated
use Rattle.vs_scope.specs.declared.names.Names.{Names}
use Rattle.vs_scope.specs.declared.parameters.Override.{Override}
use Rattle.vs_maps.specs.declared.maps.NameMap.{NameMap}
use Rattle.vs_maps.specs.Maps.{Pair}
use Rattle.vs_maps.specs.MapViews.{pairs}
use Rattle.vs_scope.specs.Complete.{completed, function_declaration}
use Rattle.vs_scope.specs.Contents.{block_items, contents_items}
use Rattle.vs_scope.specs.Counts.{counted}
use Rattle.vs_scope.specs.Functions.{functions_in}
use Rattle.vs_scope.specs.Scopes.{plain_faults, said_entries, said_faults, said_functions_of}
use Rattle.vs_scope.specs.Surveys.{IsOfParts, IsShapedScope, blocks_in, contents_of, faults_in, items_faults, start_at}
use Rattle.vs_scope.specs.Views.{declared, entries, pair_entry}
use Rattle.vs_build.specs.Items.{FunctionsAreFine}
use Rattle.vs_elab.specs.declared.surveyed.SurveyedScope.{SurveyedScope}
use Rattle.vs_elab.specs.Functions.{AreBuildable}
use Rattle.vs_elab.specs.Reading.{IsSurveyed}
use Rattle.vs_elab.proofs.BuildableFunctions.{IsLow, all_buildable, before_functions}
use Rattle.vs_elab.proofs.FineScopes.{none_left}
use Rattle.vs_elab.proofs.SaidFunctions.{functions_alone, whole_completed}

-- ---- functions of the text, as the grammar has them

each_append : {A : Type 0} (P : A → Type 0) (xs ys : List A) → Each P xs → Each P ys → Each P (xs ++ ys)
each_append P [] ys h k = k
each_append P (x ∷ xs) ys h k = (h.0, each_append P xs ys h.1 k)

none_low : {A : Type 0} (f : A → Declaration) → ((a : A) → IsLow (f a)) → (xs : List A) → Each IsLow (map f xs)
none_low f h [] = tt
none_low f h (x ∷ xs) = (h x, none_low f h xs)

each_low : {A : Type 0} (f : A → List Declaration) → ((a : A) → Each IsLow (f a)) → (xs : List A) → Each IsLow (flat_map f xs)
each_low f h [] = tt
each_low f h (x ∷ xs) = each_append IsLow (f x) (flat_map f xs) (h x) (each_low f h xs)

integer_low : (n : tree.Name) (b : Bool) → IsLow (record { name = n; sort = integer_sort b })
integer_low n true = tt
integer_low n false = tt

item_low : (v : List ℕ → Bool) (i : tree.Item) → IsItem i → item_depth i ≤ depth_limit → Each IsLow (item_declared v i)
item_low v (tree.SignalsItem t) x d = none_low _ (λ a. tt) t.names
item_low v (tree.ParametersItem t) x d = none_low _ (λ a. tt) t.settings
item_low v (tree.AssignsItem place assigns) x d = tt
item_low v (tree.AlwaysItem b) x d = tt
item_low v (tree.InitialItem b) x d = tt
item_low v (tree.GenvarsItem place names) x d = none_low _ (λ a. tt) names
item_low v (tree.IntegersItem place names) x d = none_low _ (λ a. integer_low a (v a.bytes)) names
item_low v (tree.InstancesItem t) x d = none_low _ (λ a. tt) t.instances
item_low v (tree.FunctionItem f) x d = ((x, omega (arith, d)), tt)
item_low v (tree.GenerateFor head block) x d = tt
item_low v (tree.GenerateIf place c taken other) x d = tt
item_low v (tree.GenerateCase place subject arms other) x d = tt

items_low : (v : List ℕ → Bool) (is : List tree.Item) → Each IsItem is → deepest item_depth is ≤ depth_limit → Each IsLow (flat_map (item_declared v) is)
items_low v [] x d = tt
items_low v (i ∷ is) x d = each_append IsLow (item_declared v i) (flat_map (item_declared v) is) (item_low v i x.0 (omega (arith, d))) (items_low v is x.1 (omega (arith, d)))

each_item : (is : tree.Items) → AreItems is → Each IsItem (items_list is)
each_item tree.NoItem x = tt
each_item (tree.AndItem i rest) x = (x.0, each_item rest x.1)

generate_item : (i : tree.Item) → IsGenerateItem i → IsItem i
generate_item (tree.SignalsItem t) x = x.0
generate_item (tree.ParametersItem t) x = x.0
generate_item (tree.AssignsItem place assigns) x = x
generate_item (tree.AlwaysItem b) x = x
generate_item (tree.InitialItem b) x = x
generate_item (tree.GenvarsItem place names) x = x
generate_item (tree.IntegersItem place names) x = x
generate_item (tree.InstancesItem t) x = x
generate_item (tree.FunctionItem f) x = absurd x
generate_item (tree.GenerateFor head block) x = x
generate_item (tree.GenerateIf place c taken other) x = x
generate_item (tree.GenerateCase place subject arms other) x = x

generate_items : (is : List tree.Item) → Each IsGenerateItem is → Each IsItem is
generate_items [] x = tt
generate_items (i ∷ is) x = (generate_item i x.0, generate_items is x.1)

header_low : (h : tree.Header) → Each IsLow (header_declared h)
header_low tree.NoPorts = tt
header_low (tree.PlainPorts names) = tt
header_low (tree.DeclaredPorts ports) = each_low (signals_declared true) (λ t. none_low _ (λ a. tt) t.names) ports

-- those of a scope
pub contents_low : (frames : List Frame) (overrides : NameMap Override) (c : Contents) → IsShapedScope c → deepest item_depth (contents_items c) ≤ depth_limit → Each IsLow (declarations_of (contents_of frames overrides c))
contents_low frames overrides (Module m) x d =
    let t = view.module_tree m.now in
    each_append IsLow (flat_map parameters_declared t.parameters) (header_declared t.header ++ items_declared (items_list t.items)) (each_low parameters_declared (λ p. none_low _ (λ a. tt) p.settings) t.parameters)
    (each_append IsLow (header_declared t.header) (items_declared (items_list t.items)) (header_low t.header) (items_low (is_variable_of (items_list t.items)) (items_list t.items) (each_item t.items x.items) d))
contents_low frames overrides (Block b) x d = items_low (is_variable_of (block_items b)) (block_items b) (generate_items (block_items b) x) d

functions_low : (ds : List Declaration) → Each IsLow ds → Each IsLow (functions_in ds)
functions_low [] h = tt
functions_low (d ∷ ds) h = of d.sort h.0 (functions_low ds h.1)
  where
    of : (sort : Sort) → IsLow (record { name = d.name; sort = sort }) → Each IsLow (functions_in ds) → Each IsLow (functions_in (record { name = d.name; sort = sort } ∷ ds))
    of (FunctionOf f) l k = (l, k)
    of (SignalOf s) l k = k
    of (ParameterOf p) l k = k
    of GenvarSort l k = k
    of IntegerSort l k = k
    of InstanceSort l k = k

shaped_functions : (fs : List (Bor TextFunction)) → Each IsLow (map function_declaration fs) → Each (λ (f : Bor TextFunction). IsFunction (view.function f.now)) fs
shaped_functions [] h = tt
shaped_functions (f ∷ fs) h = (h.0.0, shaped_functions fs h.1)

-- ---- names of which no function is complete

evaluated_numbered : (d : Design) (v : Evaluated) → IsNumberedDeclared d (declared (states.Parameter v))
evaluated_numbered d (evaluated.Value p) = tt
evaluated_numbered d (evaluated.Undefined r) = tt

declared_numbered : (d : Design) (x : DeclaredOf) → IsNumberedDeclared d (declared x)
declared_numbered d states.Later = tt
declared_numbered d states.Announced = tt
declared_numbered d (states.Signal s) = tt
declared_numbered d (states.Parameter v) = evaluated_numbered d v
declared_numbered d (states.Function f) = tt
declared_numbered d states.Genvar = tt
declared_numbered d (states.Integer scope) = tt
declared_numbered d states.Scope = tt

pairs_numbered : (d : Design) (n : ℕ) (ps : List (Pair EntryOf)) → AreNumberedEntries d (take n (map pair_entry ps))
pairs_numbered d zero ps = tt
pairs_numbered d (suc n) [] = tt
pairs_numbered d (suc n) (p ∷ ps) = (declared_numbered d p.value.declared, pairs_numbered d n ps)

front_sound : (d : Design) (es fs : List Entry) → AreSoundEntries d false (es ++ fs) → AreSoundEntries d false es
front_sound d [] fs h = tt
front_sound d (e ∷ es) fs h = (h.0, front_sound d es fs h.1)

first_none : (a b : Option Fault) → better a b ≡ None → a ≡ None
first_none None b h = refl
first_none (Some a) b h = cc

-- ---- a scope without a fault

module _ (source : tree.Source) (t : Task) (totals : Totals) (loops : Loops) (r : SurveyedScope) (s : IsSurveyed source t totals loops r) (parts : IsOfParts source t totals (survey the_limits source t totals)) where
  abbrev own : Survey
  own = survey the_limits source t totals

  abbrev names : Names
  names = r.names

  abbrev called : List Declaration
  called = map function_declaration names.functions.items

  abbrev said : SaidFunctions
  said = said_functions_of t.env (overrides_of t.contents) (start_at t totals) (counts_of totals) (declarations_of t.contents)

  -- what its functions say
  as_said : said_functions the_limits names.scope t.env (counted names.counts) called (take names.plain (entries names)) ≡ said
  as_said =
      ap (λ (n : ℕ). said_functions the_limits n t.env (counted names.counts) called (take names.plain (entries names))) s.seen.scope
      ∙ ap (λ (c : Counts). said_functions the_limits totals.scopes t.env c called (take names.plain (entries names))) s.seen.counts
      ∙ ap (λ (ds : List Declaration). said_functions the_limits totals.scopes t.env (counts_of totals) ds (take names.plain (entries names))) s.functions
      ∙ functions_alone the_limits totals.scopes t.env (declarations_of t.contents) (counts_of totals) (take names.plain (entries names))
      ∙ ap (λ (es : List Entry). said_functions the_limits totals.scopes t.env (counts_of totals) (declarations_of t.contents) es) s.seen.names_are

  -- they are its survey's
  pub functions_said : (completed t.env names).functions ≡ own.functions
  functions_said = ap (λ (x : SaidFunctions). x.functions) (whole_completed t.env names ∙ as_said) ∙ sym parts.functions

  pub each_shaped : Each IsLow (declarations_of t.contents) → Each (λ (f : Bor TextFunction). IsFunction (view.function f.now)) names.functions.items
  each_shaped low = shaped_functions names.functions.items (subst (Each IsLow) (sym s.functions) (functions_low (declarations_of t.contents) low))

  module _ (none : least own.faults ≡ None) where
    clean : said.faults ≡ []
    clean =
        let c = t.contents in
        let start = start_at t totals in
        let before = counts_of totals in
        let all = none_left (faults_in t.env c start before totals.turns) (first_none (least (faults_in t.env c start before totals.turns)) (least (items_faults source t totals)) (sym parts.fault ∙ none)) in
        let others = both_nil (header_of c) _ all in
        let declared = both_nil (said_faults t.env (overrides_of c) start before (declarations_of c)) _ others.1 in
        (both_nil (plain_faults t.env (overrides_of c) start (declarations_of c)) said.faults declared.0).1

    names_sound : (d : Design) → AreSoundEntries d false own.entries → AreSoundEntries d false (take names.plain (entries names))
    names_sound d h =
        subst (AreSoundEntries d false) (sym s.seen.names_are)
        (before_functions d totals.scopes t.env (declarations_of t.contents) (counts_of totals) (said_entries t.env (overrides_of t.contents) (start_at t totals) (declarations_of t.contents))
        (front_sound d said.entries (block_entries (blocks_in t.env t.contents (start_at t totals) (counts_of totals) totals.turns)) (subst (AreSoundEntries d false) parts.entries h)))

    -- they can be built
    pub functions_buildable : FunctionsAreFormed → FunctionsSeeSound → FunctionNamesAreNumbered → FunctionsAreFine → (d : Design) → totals.scopes < length d.scopes → length d.functions ≡ totals.functions
        → AreSoundFrames d false t.env.frames → AreNumberedFrames d t.env.frames → AreSoundEntries d false own.entries → Each IsLow (declarations_of t.contents)
        → AreBuildable d names.scope t.env (counted names.counts) (take names.plain (entries names)) called
    functions_buildable formed inside numbers fine d scopes count around around_numbered sound low =
        all_buildable formed inside numbers fine names.scope t.env d (counted names.counts) (take names.plain (entries names)) called
        (record {
          within_design = subst (λ (n : ℕ). n < length d.scopes) (sym s.seen.scope) scopes;
          count = count ∙ sym (ap (λ (c : Counts). c.functions) s.seen.counts);
          around = around;
          names = names_sound d sound;
          around_numbered = around_numbered;
          numbered = pairs_numbered d names.plain (pairs names.map);
        })
        (subst (Each IsLow) (sym s.functions) (functions_low (declarations_of t.contents) low)) (ap (λ (x : SaidFunctions). x.faults) as_said ∙ clean)
