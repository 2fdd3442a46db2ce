-- What a scope says but for its items, by what is found of its parts.
use Rattle.std.proofs.Common.{◌≡◌, ◌+◌, ℕ, suc, List, [], ◌∷◌, ◌++◌, map, flat_map, length, take, nat_lt, Option, Some, None, if◌then◌else◌, refl, sym, ap, ◌∙◌, subst, arith}
use Rattle.std.proofs.lemmas.List.{take_all, take_at}
use Rattle.vs_design.specs.Expressions.{Signal}
use Rattle.vs_ast.specs.Views as view
use Rattle.vs_grammar.specs.Trees as tree
use Rattle.vs_grammar.specs.Shapes.{Each, IsGenerateItem}
use Rattle.vs_const.specs.declared.faults.Fault.{Fault}
use Rattle.vs_const.specs.Faults.{least, better, fault}
use Rattle.vs_const.specs.declared.rules.Rule.TheVariants.{TooManyBits}
use Rattle.vs_const.proofs.Least.{least_append}
use Rattle.vs_elaborated.specs.Functions.{Counts}
use Rattle.vs_elaborated.specs.Signals as spec
use Rattle.vs_elaborated.specs.Generate as generate
use Rattle.vs_elaborated.specs.Pieces.{Contents as ContentsOf}
use Rattle.vs_elaborated.specs.Environments.{Env, Entry, within}
use Rattle.vs_elaborated.specs.Limits.{the_limits}
use Rattle.vs_elaborated.specs.Constructs.{construct, constructs, is_construct}
use Rattle.vs_elaborated.specs.Surveys.{bits_over, block_entries, declarations_of, items_of, turns_after}
use Rattle.vs_elaborated.specs.Surveys.{overrides_of as overrides_in}
use Rattle.vs_elaborated.proofs.ShapedBlocks.{construct_shaped}
use Rattle.vs_scope.specs.declared.contents.Contents.{Contents}
use Rattle.vs_scope.specs.declared.contents.Contents.TheVariants.{Module, Block}
use Rattle.vs_scope.specs.declared.frames.Frame.{Frame}
use Rattle.vs_maps.specs.declared.maps.NameMap.{NameMap}
use Rattle.vs_scope.specs.declared.parameters.Override.{Override}
use Rattle.vs_scope.specs.declared.names.Names.{Names}
use Rattle.vs_scope.specs.declared.names.Signal.{Signal as SignalOf}
use Rattle.vs_scope.specs.declared.made.Made.{Made}
use Rattle.vs_scope.specs.declared.made.Nested.{Nested}
use Rattle.vs_scope.specs.declared.constructs.Making.{Making}
use Rattle.vs_scope.specs.Bits.{counted_bits, over}
use Rattle.vs_scope.specs.Chosen.{IsConstruct, IsMaking}
use Rattle.vs_scope.specs.Again.{AreSeen}
use Rattle.vs_scope.specs.Clashes.{IsBehind, blocks_of}
use Rattle.vs_scope.specs.Counts.{counted}
use Rattle.vs_scope.specs.Contents.{contents_items, contents_declared, block_items}
use Rattle.vs_scope.specs.Made as code
use Rattle.vs_scope.specs.Shaped.{AreShaped}
use Rattle.vs_elaborated.specs.Parameters as parameters
use Rattle.vs_scope.specs.declared.scope.SaidScope.{SaidScope}
use Rattle.vs_maps.specs.Maps.{Pair}
use Rattle.vs_maps.specs.MapViews.{pairs}
use Rattle.vs_scope.specs.Overrides.{AreOverrides, EachOverride, override_typed, overrides_of}
use Rattle.vs_elaborated.specs.Declarations as declarations
use Rattle.vs_scope.specs.Complete.{KeepsShapes, complete, function_declaration}
use Rattle.vs_scope.specs.Functions.{functions_in}
use Rattle.vs_scope.specs.Scopes.{said_entries, said_signals_of, said_functions_of, said_faults}
use Rattle.vs_scope.specs.Wholes.{IsDeclared}
use Rattle.vs_scope.specs.Signalled.{Placed, placed, placed_of, nets_in, start_of, start_after}
use Rattle.vs_scope.specs.Surveys.{contents_of, IsShapedScope, declared_in, made_in, entries_in, made_faults, turns_behind}
use Rattle.vs_scope.specs.Views.{entries, pair_entry, signal_meaning}
use Rattle.vs_scope.proofs.BlocksBehind.{entries_behind}
use Rattle.vs_scope.proofs.MakingSteps.{making_end}
use Rattle.vs_scope.proofs.ShapedDeclarations.{module_shaped, block_shaped}
use Rattle.vs_scope.proofs.ChosenBlocks.{items_constructs, block_constructs}

-- ---- contents

pub items_same : (frames : List Frame) (overrides : NameMap Override) (c : Contents) → contents_items c ≡ items_of (contents_of frames overrides c)
items_same frames overrides (Module m) = refl
items_same frames overrides (Block b) = refl

pub declared_same : (frames : List Frame) (overrides : NameMap Override) (c : Contents) → contents_declared c ≡ declarations_of (contents_of frames overrides c)
declared_same frames overrides (Module m) = refl
declared_same frames overrides (Block b) = refl

pub scope_shaped : (c : Contents) → IsShapedScope c → AreShaped (contents_declared c)
scope_shaped (Module m) h = module_shaped (view.module_tree m.now) h
scope_shaped (Block b) h = block_shaped (block_items b) h

pub scope_constructs : (c : Contents) → IsShapedScope c → Each IsConstruct (contents_items c)
scope_constructs (Module m) h = items_constructs (view.items m.now.items.items) h.items
scope_constructs (Block b) h = block_constructs (block_items b) h

-- ---- signals

pub signals_same : (cs : List SignalOf) (ss : List spec.SaidSignal) → map placed cs ≡ map placed_of ss → map (λ (x : SignalOf). (signal_meaning x).signal) cs ≡ map (λ (x : spec.SaidSignal). x.meaning.signal) ss
signals_same cs ss h = sym (of_code cs) ∙ ap (map (λ (p : Placed). p.meaning.signal)) h ∙ of_said ss
  where
    of_code : (cs : List SignalOf) → map (λ (p : Placed). p.meaning.signal) (map placed cs) ≡ map (λ (x : SignalOf). (signal_meaning x).signal) cs
    of_code [] = refl
    of_code (c ∷ cs) = ap (λ (r : List Signal). (signal_meaning c).signal ∷ r) (of_code cs)

    of_said : (ss : List spec.SaidSignal) → map (λ (p : Placed). p.meaning.signal) (map placed_of ss) ≡ map (λ (x : spec.SaidSignal). x.meaning.signal) ss
    of_said [] = refl
    of_said (s ∷ ss) = ap (λ (r : List Signal). s.meaning.signal ∷ r) (of_said ss)

-- the signals of the design
pub nets_same : (cs : List SignalOf) (ss : List spec.SaidSignal) → map placed cs ≡ map placed_of ss → flat_map nets_in cs ≡ spec.all_nets ss
nets_same cs ss h = sym (of_code cs) ∙ ap (flat_map (λ (p : Placed). spec.nets_of p.meaning.signal)) h ∙ of_said ss
  where
    of_code : (cs : List SignalOf) → flat_map (λ (p : Placed). spec.nets_of p.meaning.signal) (map placed cs) ≡ flat_map nets_in cs
    of_code [] = refl
    of_code (c ∷ cs) = ap (λ (r : List Signal). nets_in c ++ r) (of_code cs)

    of_said : (ss : List spec.SaidSignal) → flat_map (λ (p : Placed). spec.nets_of p.meaning.signal) (map placed_of ss) ≡ spec.all_nets ss
    of_said [] = refl
    of_said (s ∷ ss) = ap (λ (r : List Signal). spec.nets_of s.meaning.signal ++ r) (of_said ss)

pub bits_same : (most total : ℕ) (ss : List spec.SaidSignal) → over most total (map placed_of ss) ≡ bits_over most total ss
bits_same most total [] = refl
bits_same most total (s ∷ ss) =
    ap (λ (r : List Fault). if nat_lt most (total + counted_bits (placed_of s)) then fault TooManyBits s.place else r) (bits_same most (total + counted_bits (placed_of s)) ss)

-- ---- what items make

pub blocks_same : (cs : List Made) (ms : List generate.Made) → map code.made cs ≡ map code.kept ms → blocks_of cs ≡ flat_map (λ (m : generate.Made). m.names) ms
blocks_same cs ms h = sym (of_code cs) ∙ ap (flat_map (λ (k : code.Kept). k.names)) h ∙ of_said ms
  where
    of_code : (cs : List Made) → flat_map (λ (k : code.Kept). k.names) (map code.made cs) ≡ blocks_of cs
    of_code [] = refl
    of_code (c ∷ cs) = ap (λ (r : List generate.BlockName). code.names_of c ++ r) (of_code cs)

    of_said : (ms : List generate.Made) → flat_map (λ (k : code.Kept). k.names) (map code.kept ms) ≡ flat_map (λ (m : generate.Made). m.names) ms
    of_said [] = refl
    of_said (m ∷ ms) = ap (λ (r : List generate.BlockName). m.names ++ r) (of_said ms)

-- ---- faults

pub five : (h s m b o : List Fault) (x y z u v q r t w : Option Fault) → x ≡ least h → y ≡ least s → z ≡ least m → u ≡ least b → v ≡ least o
    → q ≡ better u v → r ≡ better z q → t ≡ better y r → w ≡ better x t → w ≡ least (h ++ (s ++ (m ++ (b ++ o))))
five h s m b o x y z u v q r t w e1 e2 e3 e4 e5 f1 f2 f3 f4 =
    join x t h (s ++ (m ++ (b ++ o))) w e1 (join y r s (m ++ (b ++ o)) t e2 (join z q m (b ++ o) r e3 (join u v b o q e4 e5 f1) f2) f3) f4
  where
    join : (x y : Option Fault) (a b : List Fault) (o : Option Fault) → x ≡ least a → y ≡ least b → o ≡ better x y → o ≡ least (a ++ b)
    join x y a b o h k e = e ∙ ap (λ (q : Option Fault). better q y) h ∙ ap (better (least a)) k ∙ sym (least_append a b)

pub no_better : (x y : Option Fault) → better x y ≡ None → (x ≡ None) × (y ≡ None)
no_better None y h = (refl, h)
no_better (Some a) y h = cc

-- ---- the parts

pub whole_made : (env : Env) (con : ContentsOf) (start : spec.Start) (before : Counts) (turns : ℕ) (es : List Entry) (items : List tree.Item) (mk : Making) → es ≡ declared_in env con start before → items ≡ items_of con
    → IsMaking mk (within env es) turns [] (constructs the_limits items (within env es) 1 turns)
    → (map code.made mk.made.items ≡ map code.kept (made_in env con start before turns)) × (mk.fault ≡ least (made_faults (made_in env con start before turns))) × (mk.turns ≡ turns_behind env con start before turns)
whole_made env con start before turns es items mk e i h =
    let all = constructs the_limits items (within env es) 1 turns in
    let same : all ≡ made_in env con start before turns = ap (λ (x : List Entry). constructs the_limits items (within env x) 1 turns) e ∙ ap (λ (x : List tree.Item). constructs the_limits x (within env (declared_in env con start before)) 1 turns) i in
    let k = making_end mk (within env es) turns all h in
    (k.0 ∙ ap (map code.kept) same, k.1 ∙ ap (λ (x : List generate.Made). least (made_faults x)) same, k.2 ∙ ap (turns_after turns) same)

pub whole_entries : (env : Env) (con : ContentsOf) (start : spec.Start) (before : Counts) (turns : ℕ) (es : List Entry) (cs ds : List Made) → es ≡ declared_in env con start before → ds ≡ cs → map code.made cs ≡ map code.kept (made_in env con start before turns)
    → es ++ block_entries (blocks_of ds) ≡ entries_in env con start before turns
whole_entries env con start before turns es cs ds e f h =
    ap (λ (x : List Entry). x ++ block_entries (blocks_of ds)) e
    ∙ ap (λ (x : List generate.BlockName). declared_in env con start before ++ block_entries x) (ap blocks_of f ∙ blocks_same cs (made_in env con start before turns) h)

-- ---- the blocks' shapes

constructs_shaped : (items : List tree.Item) (env : Env) (n total : ℕ) → Each IsConstruct items → Each (λ (m : generate.Made). Each (λ (b : generate.Nested). Each IsGenerateItem b.items) m.blocks) (constructs the_limits items env n total)
constructs_shaped [] env n total h = tt
constructs_shaped (i ∷ is) env n total h =
    (one i h.0, constructs_shaped is env (if is_construct i then suc n else n) (construct i the_limits env n total).turns h.1)
  where
    one : (i : tree.Item) → IsConstruct i → Each (λ (b : generate.Nested). Each IsGenerateItem b.items) (construct i the_limits env n total).blocks
    one (tree.GenerateFor head block) h = construct_shaped (tree.GenerateFor head block) the_limits env n total h
    one (tree.GenerateIf place c taken other) h = construct_shaped (tree.GenerateIf place c taken other) the_limits env n total h
    one (tree.GenerateCase place subject arms other) h = construct_shaped (tree.GenerateCase place subject arms other) the_limits env n total h
    one (tree.SignalsItem t) h = tt
    one (tree.ParametersItem t) h = tt
    one (tree.AssignsItem place assigns) h = tt
    one (tree.AlwaysItem block) h = tt
    one (tree.InitialItem block) h = tt
    one (tree.GenvarsItem place names) h = tt
    one (tree.IntegersItem place names) h = tt
    one (tree.FunctionItem f) h = tt
    one (tree.InstancesItem t) h = tt

each_nested : (bs : List Nested) → Each (λ (b : generate.Nested). Each IsGenerateItem b.items) (map code.nested bs) → Each code.IsShapedNested bs
each_nested [] h = tt
each_nested (b ∷ bs) h = (h.0, each_nested bs h.1)

each_made : (cs : List Made) (ms : List generate.Made) → map code.made cs ≡ map code.kept ms → Each (λ (m : generate.Made). Each (λ (b : generate.Nested). Each IsGenerateItem b.items) m.blocks) ms → Each code.AreShapedBlocks cs
each_made [] ms e h = tt
each_made (c ∷ cs) [] e h = cc
each_made (c ∷ cs) (m ∷ ms) e h =
    let first : code.made c ≡ code.kept m = cc in
    let rest : map code.made cs ≡ map code.kept ms = cc in
    (each_nested c.blocks.items (subst (λ (bs : List generate.Nested). Each (λ (b : generate.Nested). Each IsGenerateItem b.items) bs) (sym (ap (λ (k : code.Kept). k.blocks) first)) h.0), each_made cs ms rest h.1)

pub whole_shaped : (env : Env) (con : ContentsOf) (start : spec.Start) (before : Counts) (turns : ℕ) (cs : List Made) → Each IsConstruct (items_of con) → map code.made cs ≡ map code.kept (made_in env con start before turns) → Each code.AreShapedBlocks cs
whole_shaped env con start before turns cs h e = each_made cs (made_in env con start before turns) e (constructs_shaped (items_of con) (within env (declared_in env con start before)) 1 turns h)

-- ---- declarations

pub no_overrides : (frames : List Frame) (none : NameMap Override) → pairs none ≡ [] → AreOverrides frames none
no_overrides frames none h = record { each = subst (EachOverride (length frames)) (sym h) tt }

-- all names of the declarations are seen
seen_of : (names : Names) (env : Env) (con : ContentsOf) (start : spec.Start) (before : Counts) → names.plain ≡ length (entries names) → names.scope ≡ start.scope → counted names.counts ≡ before
    → entries names ≡ said_entries env (overrides_in con) start (declarations_of con) → AreSeen names env con start before
seen_of names env con start before p s c e = record {
  scope = s;
  counts = c;
  names_are = ap (λ (n : ℕ). take n (entries names)) p ∙ take_all (length (entries names)) (entries names) (omega arith) ∙ e;
}

-- the names of blocks behind them aren't
pub seen_behind : (old new : Names) (env : Env) (con : ContentsOf) (start : spec.Start) (before : Counts) → old.plain ≡ length (entries old) → IsBehind old new → AreSeen old env con start before → AreSeen new env con start before
seen_behind old new env con start before p h seen = record {
  scope = h.scope ∙ seen.scope;
  counts = ap counted h.counts ∙ seen.counts;
  names_are =
      ap (λ (n : ℕ). take n (entries new)) (h.plain ∙ p) ∙ ap (take (length (entries old))) (entries_behind old new h) ∙ take_at (entries old) (map pair_entry h.more) (length (entries old)) refl
      ∙ sym (ap (λ (n : ℕ). take n (entries old)) p ∙ take_all (length (entries old)) (entries old) (omega arith)) ∙ seen.names_are;
}

abbrev IsSaidScope : SaidScope → Env → List parameters.Override → spec.Start → Counts → List declarations.Declaration → Type 0
IsSaidScope said env os start before ds =
    (complete env said.names ≡ (said_functions_of env os start before ds).entries)
    × KeepsShapes env said.names
    × (said.names.plain ≡ length (entries said.names))
    × (map function_declaration said.names.functions.items ≡ functions_in ds)
    × (counted said.counts ≡ (said_functions_of env os start before ds).counts)
    × (map placed said.signals.items ≡ map placed_of (said_signals_of env os start ds))
    × (said.fault ≡ least (said_faults env os start before ds))
    × (start_of said.next ≡ start_after start (said_signals_of env os start ds))
    × (said.names.scope ≡ start.scope)
    × (counted said.names.counts ≡ before)
    × (entries said.names ≡ said_entries env os start ds)

pub as_module : (said : SaidScope) (env : Env) (start : spec.Start) (before : Counts) (frames : List Frame) (os : NameMap Override) (c : Contents) (m : _) → c ≡ Module m
    → IsSaidScope said env (overrides_of frames os) start before (contents_declared c) → IsDeclared said env (contents_of frames os c) start before
as_module said env start before frames os c m is h =
    let k = subst (λ (x : Contents). IsSaidScope said env (overrides_of frames os) start before (contents_declared x)) is h in
    subst (λ (x : Contents). IsDeclared said env (contents_of frames os x) start before) (sym is)
    (record { entries_are = k.0; kept_is = k.1; plain_is = k.2; seen_is = seen_of said.names env (contents_of frames os (Module m)) start before k.2 k.8 k.9 k.10; functions_are = k.3; counts_is = k.4; signals_are = k.5; fault_is = k.6; next_is = k.7 })

pub as_block : (said : SaidScope) (env : Env) (start : spec.Start) (before : Counts) (frames : List Frame) (os none : NameMap Override) (c : Contents) (b : _) → c ≡ Block b → pairs none ≡ []
    → IsSaidScope said env (overrides_of frames none) start before (contents_declared c) → IsDeclared said env (contents_of frames os c) start before
as_block said env start before frames os none c b is z h =
    let no : overrides_of frames none ≡ [] = ap (map (λ (p : Pair Override). let o : parameters.Override = record { name = p.name; typed = override_typed frames p.value } in o)) z in
    let k = subst (λ (x : Contents). IsSaidScope said env [] start before (contents_declared x)) is (subst (λ (x : List parameters.Override). IsSaidScope said env x start before (contents_declared c)) no h) in
    subst (λ (x : Contents). IsDeclared said env (contents_of frames os x) start before) (sym is)
    (record { entries_are = k.0; kept_is = k.1; plain_is = k.2; seen_is = seen_of said.names env (contents_of frames os (Block b)) start before k.2 k.8 k.9 k.10; functions_are = k.3; counts_is = k.4; signals_are = k.5; fault_is = k.6; next_is = k.7 })
