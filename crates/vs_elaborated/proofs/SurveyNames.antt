-- Where a scope has no fault, all its names are sound.
use Rattle.std.proofs.Common.{◌≡◌, ◌<◌, ℕ, Bool, true, false, List, [], ◌∷◌, ◌++◌, map, length, Option, Some, None, is_some, refl, sym, ap, ◌∙◌, if◌then◌else◌}
use Rattle.std.specs.List.{flat_map, list_any}
use Rattle.vs_design.specs.Expressions.{Signal}
use Rattle.vs_design.specs.Designs.{Design}
use Rattle.vs_design.specs.Clocks.{same_name}
use Rattle.vs_design.specs.Elaborated.{is_signal}
use Rattle.vs_grammar.specs.Trees as tree
use Rattle.vs_grammar.specs.Trees.{Source, SignalKind, Input, InputWire, Output, OutputWire, OutputReg, Reg, Wire, items_list}
use Rattle.vs_grammar.specs.Shapes.{Each, OneOrMore, Given, IsRange, IsStored, IsPort, IsVariablePort, is_port_kind, AreNames, AreSignals, IsSetting, AreParameters, IsItem, AreItems, IsGenerateItem, AreHeaderParameters, ArePorts, IsHeader}
use Rattle.vs_const.proofs.Formed.{both_nil}
use Rattle.vs_elaborated.specs.Limits.{Limits}
use Rattle.vs_elaborated.specs.Environments.{OfScope, Env}
use Rattle.vs_elaborated.specs.Declarations.{SignalOf, ParameterOf, GenvarSort, InstanceSort, Declaration, Named, signals_declared, parameters_declared, integer_sort, item_declared, header_declared, second_of, names_after}
use Rattle.vs_elaborated.specs.Uses.{is_variable_of}
use Rattle.vs_elaborated.specs.Signals.{sort_faults, range_faults}
use Rattle.vs_elaborated.specs.Generate.{BlockName}
use Rattle.vs_elaborated.specs.Pieces.{Contents, OfModule, OfBlock, Task}
use Rattle.vs_elaborated.specs.Surveys.{declarations_of, overrides_of, block_entries, Totals, counts_of, survey}
use Rattle.vs_elaborated.specs.Sound.{AreSoundEntries, AreSoundFrames, AreFineOverrides, IsShapedContents}
use Rattle.vs_elaborated.proofs.EachOf.{each_append, each_flat}
use Rattle.vs_elaborated.proofs.Nets.{of_all}
use Rattle.vs_elaborated.proofs.SoundNames.{frames_needed, IsShapedSort, AreShapedDeclarations, AreGoodEntries, first_entries_sound, parameters_good, there, all_settled, signals_sound}
use Rattle.vs_elaborated.proofs.FormedFunctions.{AreSoundFunctions, functions_sound}
use Rattle.vs_elaborated.proofs.SurveyParts.{names_in, first_in, parameters_in, ranged_in, start_in, signals_in, entries_in, functions_in, blocks_in, faultless}

-- ---- what is declared is shaped

-- a name of this kind with its addresses
record IsShapedName (kind : SignalKind) (d : tree.Declarator) : Type 0 where
  addresses : Given IsRange d.addresses
  inner : is_some d.addresses ≡ true → is_port_kind kind ≡ false

no_addresses : (kind : SignalKind) (d : tree.Declarator) (a : Option tree.RangeTree) → d.addresses ≡ a → a ≡ None → IsShapedName kind d
no_addresses kind d None e h = record { addresses = given d.addresses e; inner = λ k. absurd (no (sym (ap is_some e) ∙ k)) }
  where
    given : (o : Option tree.RangeTree) → o ≡ None → Given IsRange o
    given None i = tt
    given (Some r) i = cc

    no : false ≡ true → ⊥
    no k = cc
no_addresses kind d (Some r) e h = cc

names_of_kind : (kind : SignalKind) (names : List tree.Declarator) → AreNames kind names → Each (IsShapedName kind) names
names_of_kind kind names x = of kind names x
  where
    each : (P : tree.Declarator → Type 0) (kind : SignalKind) → ((d : tree.Declarator) → P d → IsShapedName kind d) → (ds : List tree.Declarator) → OneOrMore P ds → Each (IsShapedName kind) ds
    each P kind f [] k = absurd k
    each P kind f (d ∷ ds) k = (f d k.0, all ds k.1)
      where
        all : (ds : List tree.Declarator) → Each P ds → Each (IsShapedName kind) ds
        all [] i = tt
        all (c ∷ cs) i = (f c i.0, all cs i.1)

    port : (kind : SignalKind) (d : tree.Declarator) → IsPort d → IsShapedName kind d
    port kind d k = no_addresses kind d d.addresses refl k.1

    of : (kind : SignalKind) (names : List tree.Declarator) → AreNames kind names → Each (IsShapedName kind) names
    of Input ds k = each IsPort Input (port Input) ds k
    of InputWire ds k = each IsPort InputWire (port InputWire) ds k
    of Output ds k = each IsPort Output (port Output) ds k
    of OutputWire ds k = each IsPort OutputWire (port OutputWire) ds k
    of OutputReg ds k = each IsVariablePort OutputReg (λ d i. no_addresses OutputReg d d.addresses refl i.1) ds k
    of Reg ds k = each IsStored Reg (λ d i. record { addresses = i.1; inner = λ e. refl }) ds k
    of Wire ds k = each IsStored Wire (λ d i. record { addresses = i.1; inner = λ e. refl }) ds k

signals_shaped : (header : Bool) (t : tree.Signals) → AreSignals t → (header ≡ true → is_port_kind t.kind ≡ true) → AreShapedDeclarations (signals_declared header t)
signals_shaped header t x h = of t.names (names_of_kind t.kind t.names x.names)
  where
    -- neither a `reg` nor a `wire` is a port of a header
    in_body : (b : Bool) (kind : SignalKind) → (b ≡ true → is_port_kind kind ≡ true) → is_port_kind kind ≡ false → b ≡ false
    in_body false kind p e = refl
    in_body true kind p e = absurd (no (sym (p refl) ∙ e))
      where
        no : true ≡ false → ⊥
        no k = cc

    of : (names : List tree.Declarator) → Each (IsShapedName t.kind) names
        → AreShapedDeclarations (map (λ (d : tree.Declarator). record { name = d.name; sort = SignalOf (record { kind = t.kind; value_type = tree.RangeType t.signed t.range; addresses = d.addresses; header = header }) }) names)
    of [] k = tt
    of (d ∷ ds) k = (record { value_type = x.range; addresses = k.0.addresses; inner = k.0.inner; body = λ e. in_body header t.kind h (k.0.inner e) }, of ds k.1)

in_no_header : (kind : SignalKind) → false ≡ true → is_port_kind kind ≡ true
in_no_header kind h = cc

parameters_shaped : (t : tree.Parameters) → AreParameters t → AreShapedDeclarations (parameters_declared t)
parameters_shaped t h = of t.settings (all t.settings h.settings)
  where
    all : (ss : List tree.Setting) → OneOrMore IsSetting ss → Each IsSetting ss
    all [] k = absurd k
    all (s ∷ ss) k = k

    of : (ss : List tree.Setting) → Each IsSetting ss → AreShapedDeclarations (map (λ (s : tree.Setting). record { name = s.name; sort = ParameterOf (record { is_local = t.is_local; value_type = t.value_type; value = s.value }) }) ss)
    of [] k = tt
    of (s ∷ ss) k = ((h.value_type, k.0.1), of ss k.1)

genvars_shaped : (ns : List tree.Name) → AreShapedDeclarations (map (λ (n : tree.Name). record { name = n; sort = GenvarSort }) ns)
genvars_shaped [] = tt
genvars_shaped (n ∷ ns) = (tt, genvars_shaped ns)

integer_shaped : (b : Bool) → IsShapedSort (integer_sort b)
integer_shaped true = record { value_type = tt; addresses = tt; inner = λ e. refl; body = λ e. refl }
integer_shaped false = tt

integers_shaped : (v : List ℕ → Bool) (ns : List tree.Name) → AreShapedDeclarations (map (λ (n : tree.Name). record { name = n; sort = integer_sort (v n.bytes) }) ns)
integers_shaped v [] = tt
integers_shaped v (n ∷ ns) = (integer_shaped (v n.bytes), integers_shaped v ns)

instances_shaped : (is : List tree.Instance) → AreShapedDeclarations (map (λ (i : tree.Instance). record { name = i.name; sort = InstanceSort }) is)
instances_shaped [] = tt
instances_shaped (i ∷ is) = (tt, instances_shaped is)

generate_item_shaped : (v : List ℕ → Bool) (item : tree.Item) → IsGenerateItem item → AreShapedDeclarations (item_declared v item)
generate_item_shaped v (tree.SignalsItem t) x = signals_shaped false t x.0 (in_no_header t.kind)
generate_item_shaped v (tree.ParametersItem t) x = parameters_shaped t x.0
generate_item_shaped v (tree.AssignsItem place assigns) x = tt
generate_item_shaped v (tree.AlwaysItem block) x = tt
generate_item_shaped v (tree.InitialItem block) x = tt
generate_item_shaped v (tree.GenvarsItem place names) x = genvars_shaped names
generate_item_shaped v (tree.IntegersItem place names) x = integers_shaped v names
generate_item_shaped v (tree.FunctionItem function) x = absurd x
generate_item_shaped v (tree.InstancesItem t) x = instances_shaped t.instances
generate_item_shaped v (tree.GenerateFor head block) x = tt
generate_item_shaped v (tree.GenerateIf place c taken other) x = tt
generate_item_shaped v (tree.GenerateCase place subject arms other) x = tt

item_shaped : (v : List ℕ → Bool) (item : tree.Item) → IsItem item → AreShapedDeclarations (item_declared v item)
item_shaped v (tree.SignalsItem t) x = signals_shaped false t x (in_no_header t.kind)
item_shaped v (tree.ParametersItem t) x = parameters_shaped t x
item_shaped v (tree.AssignsItem place assigns) x = tt
item_shaped v (tree.AlwaysItem block) x = tt
item_shaped v (tree.InitialItem block) x = tt
item_shaped v (tree.GenvarsItem place names) x = genvars_shaped names
item_shaped v (tree.IntegersItem place names) x = integers_shaped v names
item_shaped v (tree.FunctionItem function) x = (x, tt)
item_shaped v (tree.InstancesItem t) x = instances_shaped t.instances
item_shaped v (tree.GenerateFor head block) x = tt
item_shaped v (tree.GenerateIf place c taken other) x = tt
item_shaped v (tree.GenerateCase place subject arms other) x = tt

items_shaped : (v : List ℕ → Bool) (items : tree.Items) → AreItems items → AreShapedDeclarations (flat_map (item_declared v) (items_list items))
items_shaped v tree.NoItem x = tt
items_shaped v (tree.AndItem item rest) x = each_append _ (item_declared v item) (flat_map (item_declared v) (items_list rest)) (item_shaped v item x.0) (items_shaped v rest x.1)

header_shaped : (h : tree.Header) → IsHeader h → AreShapedDeclarations (header_declared h)
header_shaped tree.NoPorts x = tt
header_shaped (tree.PlainPorts names) x = tt
header_shaped (tree.DeclaredPorts []) x = tt
header_shaped (tree.DeclaredPorts (p ∷ ps)) x = each_flat ArePorts _ (signals_declared true) (λ t k. signals_shaped true t k.0 (λ e. k.1)) (p ∷ ps) x

pub contents_shaped : (c : Contents) → IsShapedContents c → AreShapedDeclarations (declarations_of c)
contents_shaped (OfModule m overrides) x =
    each_append _ (flat_map parameters_declared m.parameters) (header_declared m.header ++ flat_map (item_declared (is_variable_of (items_list m.items))) (items_list m.items)) (each_flat AreHeaderParameters _ parameters_declared (λ t k. parameters_shaped t k.0) m.parameters x.parameters)
    (each_append _ (header_declared m.header) (flat_map (item_declared (is_variable_of (items_list m.items))) (items_list m.items)) (header_shaped m.header x.header) (items_shaped (is_variable_of (items_list m.items)) m.items x.items))
contents_shaped (OfBlock items) x = each_flat IsGenerateItem _ (item_declared (is_variable_of items)) (generate_item_shaped (is_variable_of items)) items x

-- ---- names are declarations

pub names_shaped : (seen : List (List ℕ)) (ds : List Declaration) → AreShapedDeclarations ds → Each (λ (n : Named). IsShapedSort n.first.sort) (names_after seen ds)
names_shaped seen [] x = tt
names_shaped seen (a ∷ rest) x = of (list_any (same_name a.name.bytes) seen) (names_shaped seen rest x.1) (names_shaped (a.name.bytes ∷ seen) rest x.1)
  where
    of : (b : Bool) → Each (λ (n : Named). IsShapedSort n.first.sort) (names_after seen rest) → Each (λ (n : Named). IsShapedSort n.first.sort) (names_after (a.name.bytes ∷ seen) rest)
        → Each (λ (n : Named). IsShapedSort n.first.sort) (if b then names_after seen rest else record { first = a; second = second_of a rest } ∷ names_after (a.name.bytes ∷ seen) rest)
    of true h k = h
    of false h k = (x.0, k)

nil_append : {A : Type 0} (xs ys : List A) → xs ≡ [] → ys ≡ [] → xs ++ ys ≡ []
nil_append [] ys h k = k
nil_append (x ∷ xs) ys h k = cc

pub names_ranges : (env : Env) (seen : List (List ℕ)) (ds : List Declaration) → range_faults env ds ≡ [] → range_faults env (map (λ (n : Named). n.first) (names_after seen ds)) ≡ []
names_ranges env seen [] h = refl
names_ranges env seen (a ∷ rest) h =
    let k = both_nil (sort_faults env a.sort) (range_faults env rest) h in
    of (list_any (same_name a.name.bytes) seen) (names_ranges env seen rest k.1) (names_ranges env (a.name.bytes ∷ seen) rest k.1) k.0
  where
    of : (b : Bool) → range_faults env (map (λ (n : Named). n.first) (names_after seen rest)) ≡ [] → range_faults env (map (λ (n : Named). n.first) (names_after (a.name.bytes ∷ seen) rest)) ≡ [] → sort_faults env a.sort ≡ []
        → range_faults env (map (λ (n : Named). n.first) (if b then names_after seen rest else record { first = a; second = second_of a rest } ∷ names_after (a.name.bytes ∷ seen) rest)) ≡ []
    of true h k e = h
    of false h k e = nil_append (sort_faults env a.sort) (range_faults env (map (λ (n : Named). n.first) (names_after (a.name.bytes ∷ seen) rest))) e k

blocks_sound : (d : Design) (bs : List BlockName) → AreSoundEntries d false (block_entries bs)
blocks_sound d [] = tt
blocks_sound d (b ∷ bs) = of b.written (blocks_sound d bs)
  where
    of : (c : Bool) → AreSoundEntries d false (block_entries bs) → AreSoundEntries d false ((if c then (record { name = b.name; place = b.place; declared = OfScope } ∷ []) else []) ++ block_entries bs)
    of true h = (tt, h)
    of false h = h

-- all names but for functions, which aren't complete yet
pub parameters_sound : (d : Design) (k : Task) (t : Totals) → AreSoundFrames d false k.env.frames → AreFineOverrides d (overrides_of k.contents) → IsShapedContents k.contents → (parameters_in k t).faults ≡ []
    → AreGoodEntries d (signals_in k t) (parameters_in k t).entries
parameters_sound d k t s f x h =
    parameters_good d k.env (overrides_of k.contents) (signals_in k t) (frames_needed d k.env.frames s) f (declarations_of k.contents) (first_in k t) (contents_shaped k.contents x)
    (record { sound = first_entries_sound d t.scopes (names_in k); settled = there d t.scopes (ranged_in k t) (names_in k) (start_in k t) }) h

entries_sound : (d : Design) (limits : Limits) (source : Source) (k : Task) (t : Totals) → AreSoundFrames d false k.env.frames → AreFineOverrides d (overrides_of k.contents) → IsShapedContents k.contents
    → Each (λ (s : Signal). is_signal d s ≡ true) (survey limits source k t).signals → (survey limits source k t).faults ≡ [] → AreSoundEntries d false (entries_in k t)
entries_sound d limits source k t s f x i h =
    let ds = declarations_of k.contents in
    let n = faultless limits source k t h in
    let good = parameters_sound d k t s f x n.parameters in
    let sound = signals_sound d (ranged_in k t) (good.sound, frames_needed d k.env.frames s) (names_in k) (start_in k t) (of_all (λ s. is_signal d s ≡ true) (signals_in k t) i) (names_shaped [] ds (contents_shaped k.contents x)) (names_ranges (ranged_in k t) [] ds n.ranges) in
    all_settled d (signals_in k t) (parameters_in k t).entries sound good.settled

-- all functions of a scope without a fault
pub survey_functions : (d : Design) (limits : Limits) (source : Source) (k : Task) (t : Totals) → AreSoundFrames d false k.env.frames → AreFineOverrides d (overrides_of k.contents) → IsShapedContents k.contents → t.scopes < length d.scopes
    → Each (λ (s : Signal). is_signal d s ≡ true) (survey limits source k t).signals → (survey limits source k t).faults ≡ [] → AreSoundFunctions d (functions_in limits k t).entries (functions_in limits k t).functions
survey_functions d limits source k t s f x b i h =
    functions_sound d limits t.scopes k.env s b (declarations_of k.contents) (counts_of t) (entries_in k t) (contents_shaped k.contents x) (entries_sound d limits source k t s f x i h) (faultless limits source k t h).functions

-- the names of a scope without a fault
pub survey_names : (d : Design) (limits : Limits) (source : Source) (k : Task) (t : Totals) → AreSoundFrames d false k.env.frames → AreFineOverrides d (overrides_of k.contents) → IsShapedContents k.contents → t.scopes < length d.scopes
    → Each (λ (s : Signal). is_signal d s ≡ true) (survey limits source k t).signals → (survey limits source k t).faults ≡ [] → AreSoundEntries d false (survey limits source k t).entries
survey_names d limits source k t s f x b i h =
    each_append _ (functions_in limits k t).entries (block_entries (blocks_in limits k t)) (survey_functions d limits source k t s f x b i h).entries (blocks_sound d (blocks_in limits k t))
