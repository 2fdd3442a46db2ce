-- Each connection of an instance is to a port that its module declares.
use Rattle.std.proofs.Common.{◌≡◌, ℕ, zero, suc, Bool, true, false, List, [], ◌∷◌, ◌++◌, map, flat_map, Option, Some, None, ◌⊎◌, inl, inr, ◌||◌, if◌then◌else◌, refl, subst}
use Rattle.std.specs.Prelude.{slice_get}
use Rattle.vs_design.specs.Clocks.{same_name}
use Rattle.vs_grammar.specs.Trees as tree
use Rattle.vs_grammar.specs.Trees.{Module, Source, items_list}
use Rattle.vs_grammar.specs.Shapes.{Each, is_port_kind}
use Rattle.vs_elaborated.specs.Limits.{Limits}
use Rattle.vs_elaborated.specs.Environments.{Env}
use Rattle.vs_elaborated.specs.Targets.{as_target}
use Rattle.vs_elaborated.specs.Declarations.{SignalOf, Declaration, signals_declared, parameters_declared, item_declared, header_declared, module_declared}
use Rattle.vs_elaborated.specs.Uses.{is_variable_of}
use Rattle.vs_elaborated.specs.Parameters.{Override}
use Rattle.vs_elaborated.specs.Signals.{is_input}
use Rattle.vs_elaborated.specs.Generate.{Nested, Made}
use Rattle.vs_elaborated.specs.Ports.{Port, Direction, directions_in, item_directions, direction_of, header_ports, ports_of, find_port, find_module}
use Rattle.vs_elaborated.specs.Pieces.{Task, Connection, IntoInput, FromOutput, Piece, Own, OfScopes, Initially, Instance, Within, Said, all_said}
use Rattle.vs_elaborated.specs.Instances.{Around, output_target, directed, connected, connected_by_order, connected_by_name, connection_name, connection_of, in_port_order, said_connections, said_overrides, instance_said}
use Rattle.vs_elaborated.specs.NamedBlocks.{NamedBlock, named_blocks}
use Rattle.vs_elaborated.specs.Surveys.{Loops, block_by, loops_after, items_of, declarations_of, Totals, survey, header_said, assign_said, nested_piece, item_said, items_said}
use Rattle.vs_elaborated.proofs.EachOf.{each_append}
use Rattle.vs_elaborated.proofs.ValuePieces.{signals_each, header_each}
use Rattle.vs_elaborated.proofs.SurveyParts.{loops_in, made_in, around_in}
use Rattle.vs_elaborated.proofs.FirstNames.{Has, IsSignalOf, same_is}

-- a declaration of this port
pub record IsPort (name : List ℕ) (input : Bool) (a : Declaration) : Type 0 where
  pub name_is : a.name.bytes ≡ name
  pub sort : IsSignalOf input a.sort

abbrev pub IsDirected : List Declaration → Connection → Type 0
IsDirected ds (IntoInput name e) = Has (IsPort name true) ds
IsDirected ds (FromOutput name place target) = Has (IsPort name false) ds

abbrev pub IsGoodPort : List Declaration → Port → Type 0
IsGoodPort ds p = (b : Bool) → p.input ≡ Some b → Has (IsPort p.name b) ds

has_left : {A : Type 0} (P : A → Type 0) (xs ys : List A) → Has P xs → Has P (xs ++ ys)
has_left P [] ys h = absurd h
has_left P (x ∷ xs) ys (inl h) = inl h
has_left P (x ∷ xs) ys (inr h) = inr (has_left P xs ys h)

has_right : {A : Type 0} (P : A → Type 0) (xs ys : List A) → Has P ys → Has P (xs ++ ys)
has_right P [] ys h = h
has_right P (x ∷ xs) ys h = inr (has_right P xs ys h)

weaker : {A : Type 0} (P Q : A → Type 0) → ((a : A) → P a → Q a) → (xs : List A) → Each P xs → Each Q xs
weaker P Q f [] h = tt
weaker P Q f (x ∷ xs) h = (f x h.0, weaker P Q f xs h.1)

-- ---- directions are declarations

abbrev directions : tree.SignalKind → List tree.Declarator → List Direction
directions kind names = map (λ (d : tree.Declarator). record { name = d.name; input = is_input kind }) names

abbrev declarations : Bool → tree.Signals → List tree.Declarator → List Declaration
declarations header t names = map (λ (d : tree.Declarator). record { name = d.name; sort = SignalOf (record { kind = t.kind; value_type = tree.RangeType t.signed t.range; addresses = d.addresses; header = header }) }) names

signals_port : (header : Bool) (t : tree.Signals) (w : List ℕ) (b : Bool) → (header || is_port_kind t.kind) ≡ true → (names : List tree.Declarator) → direction_of (directions t.kind names) w ≡ Some b → Has (IsPort w b) (declarations header t names)
signals_port header t w b p [] h = cc
signals_port header t w b p (x ∷ xs) h = of (same_name x.name.bytes w) refl h (λ k. signals_port header t w b p xs k)
  where
    same : Some (is_input t.kind) ≡ Some b → is_input t.kind ≡ b
    same k = cc

    of : (c : Bool) → same_name x.name.bytes w ≡ c → (if c then Some (is_input t.kind) else direction_of (directions t.kind xs) w) ≡ Some b → (direction_of (directions t.kind xs) w ≡ Some b → Has (IsPort w b) (declarations header t xs)) → Has (IsPort w b) (declarations header t (x ∷ xs))
    of true e k r = inl (record { name_is = same_is x.name.bytes w e; sort = (same k, p) })
    of false e k r = inr (r k)

item_port : (v : List ℕ → Bool) (item : tree.Item) (w : List ℕ) (b : Bool) → direction_of (item_directions item) w ≡ Some b → Has (IsPort w b) (item_declared v item)
item_port v (tree.SignalsItem t) w b h = of (is_port_kind t.kind) refl h
  where
    of : (c : Bool) → is_port_kind t.kind ≡ c → direction_of (if c then directions_in t else []) w ≡ Some b → Has (IsPort w b) (signals_declared false t)
    of true e k = signals_port false t w b e t.names k
    of false e k = cc
item_port v (tree.ParametersItem t) w b h = cc
item_port v (tree.AssignsItem place assigns) w b h = cc
item_port v (tree.AlwaysItem block) w b h = cc
item_port v (tree.InitialItem block) w b h = cc
item_port v (tree.GenvarsItem place names) w b h = cc
item_port v (tree.IntegersItem place names) w b h = cc
item_port v (tree.FunctionItem function) w b h = cc
item_port v (tree.InstancesItem t) w b h = cc
item_port v (tree.GenerateFor head block) w b h = cc
item_port v (tree.GenerateIf place c taken other) w b h = cc
item_port v (tree.GenerateCase place subject arms other) w b h = cc

direction_in : (xs ys : List Direction) (w : List ℕ) (b : Bool) → direction_of (xs ++ ys) w ≡ Some b → (direction_of xs w ≡ Some b) ⊎ (direction_of ys w ≡ Some b)
direction_in [] ys w b h = inr h
direction_in (x ∷ xs) ys w b h = of (same_name x.name.bytes w) h (λ k. direction_in xs ys w b k)
  where
    of : (c : Bool) → (if c then Some x.input else direction_of (xs ++ ys) w) ≡ Some b → (direction_of (xs ++ ys) w ≡ Some b → (direction_of xs w ≡ Some b) ⊎ (direction_of ys w ≡ Some b))
        → ((if c then Some x.input else direction_of xs w) ≡ Some b) ⊎ (direction_of ys w ≡ Some b)
    of true k r = inl k
    of false k r = r k

items_port : (v : List ℕ → Bool) (items : List tree.Item) (w : List ℕ) (b : Bool) → direction_of (flat_map item_directions items) w ≡ Some b → Has (IsPort w b) (flat_map (item_declared v) items)
items_port v [] w b h = cc
items_port v (i ∷ is) w b h = of (direction_in (item_directions i) (flat_map item_directions is) w b h) (λ k. items_port v is w b k)
  where
    of : (direction_of (item_directions i) w ≡ Some b) ⊎ (direction_of (flat_map item_directions is) w ≡ Some b) → (direction_of (flat_map item_directions is) w ≡ Some b → Has (IsPort w b) (flat_map (item_declared v) is)) → Has (IsPort w b) (item_declared v i ++ flat_map (item_declared v) is)
    of (inl k) r = has_left (IsPort w b) (item_declared v i) (flat_map (item_declared v) is) (item_port v i w b k)
    of (inr k) r = has_right (IsPort w b) (item_declared v i) (flat_map (item_declared v) is) (r k)

abbrev IsThere : List Declaration → Direction → Type 0
IsThere ds d = Has (IsPort d.name.bytes d.input) ds

one_there : (t : tree.Signals) (names : List tree.Declarator) → Each (IsThere (declarations true t names)) (directions t.kind names)
one_there t [] = tt
one_there t (x ∷ xs) = (inl (record { name_is = refl; sort = (refl, refl) }), weaker (IsThere (declarations true t xs)) (IsThere (declarations true t (x ∷ xs))) (λ d h. inr h) (directions t.kind xs) (one_there t xs))

all_there : (ports : List tree.Signals) → Each (IsThere (flat_map (signals_declared true) ports)) (flat_map directions_in ports)
all_there [] = tt
all_there (t ∷ ts) =
    let all = flat_map (signals_declared true) (t ∷ ts) in
    each_append (IsThere all) (directions_in t) (flat_map directions_in ts)
    (weaker (IsThere (signals_declared true t)) (IsThere all) (λ d h. has_left (IsPort d.name.bytes d.input) (signals_declared true t) (flat_map (signals_declared true) ts) h) (directions_in t) (one_there t t.names))
    (weaker (IsThere (flat_map (signals_declared true) ts)) (IsThere all) (λ d h. has_right (IsPort d.name.bytes d.input) (signals_declared true t) (flat_map (signals_declared true) ts) h) (flat_map directions_in ts) (all_there ts))

header_good : (v : List ℕ → Bool) (h : tree.Header) (params : List Declaration) (items : List tree.Item) → Each (IsGoodPort (params ++ (header_declared h ++ flat_map (item_declared v) items))) (header_ports h (flat_map item_directions items))
header_good v tree.NoPorts params items = tt
header_good v (tree.PlainPorts names) params items = of names
  where
    of : (ns : List tree.Name) → Each (IsGoodPort (params ++ flat_map (item_declared v) items)) (map (λ (n : tree.Name). record { name = n.bytes; input = direction_of (flat_map item_directions items) n.bytes }) ns)
    of [] = tt
    of (n ∷ ns) = ((λ b e. has_right (IsPort n.bytes b) params (flat_map (item_declared v) items) (items_port v items n.bytes b e)), of ns)
header_good v (tree.DeclaredPorts ports) params items = of (flat_map directions_in ports) (all_there ports)
  where
    all : List Declaration
    all = flat_map (signals_declared true) ports

    of : (ds : List Direction) → Each (IsThere all) ds → Each (IsGoodPort (params ++ (all ++ flat_map (item_declared v) items))) (map (λ (d : Direction). record { name = d.name.bytes; input = Some d.input }) ds)
    of [] h = tt
    of (d ∷ ds) h = ((λ b e. has_right (IsPort d.name.bytes b) params (all ++ flat_map (item_declared v) items) (has_left (IsPort d.name.bytes b) all (flat_map (item_declared v) items) (subst (λ c. Has (IsPort d.name.bytes c) all) (same b e) h.0))), of ds h.1)
      where
        same : (b : Bool) → Some d.input ≡ Some b → d.input ≡ b
        same b e = cc

ports_good : (m : Module) → Each (IsGoodPort (module_declared m)) (ports_of m)
ports_good m = header_good (is_variable_of (items_list m.items)) m.header (flat_map parameters_declared m.parameters) (items_list m.items)

-- ---- connections are to ports

port_at : (P : Port → Type 0) (ps : List Port) (n : ℕ) (p : Port) → Each P ps → slice_get ps n ≡ Some p → P p
port_at P [] n p h e = cc
port_at P (q ∷ ps) zero p h e = subst P (same e) h.0
  where
    same : Some q ≡ Some p → q ≡ p
    same k = cc
port_at P (q ∷ ps) (suc n) p h e = port_at P ps n p h.1 e

port_named : (P : Port → Type 0) (ps : List Port) (w : List ℕ) (p : Port) → Each P ps → find_port ps w ≡ Some p → P p
port_named P [] w p h e = cc
port_named P (q ∷ ps) w p h e = of (same_name q.name w) e (λ k. port_named P ps w p h.1 k)
  where
    same : Some q ≡ Some p → q ≡ p
    same k = cc

    of : (b : Bool) → (if b then Some q else find_port ps w) ≡ Some p → (find_port ps w ≡ Some p → P p) → P p
    of true k r = subst P (same k) h.0
    of false k r = r k

abbrev AreDirected : List Declaration → List Connection → Type 0
AreDirected ds cs = Each (IsDirected ds) cs

module _ (ds : List Declaration) (env : Env) where
  output_directed : (name : List ℕ) (e : tree.Expr) (o : Option tree.Target) → Has (IsPort name false) ds → AreDirected ds (output_target name e env o).connections
  output_directed name e None h = tt
  output_directed name e (Some t) h = (h, tt)

  directed_directed : (name : List ℕ) (input : Option Bool) (e : tree.Expr) → ((b : Bool) → input ≡ Some b → Has (IsPort name b) ds) → AreDirected ds (directed name input e env).connections
  directed_directed name (Some false) e h = output_directed name e (as_target e) (h false refl)
  directed_directed name (Some true) e h = (h true refl, tt)
  directed_directed name None e h = tt

  connected_directed : (p : Option Port) (e : Option tree.Expr) → ((q : Port) → p ≡ Some q → IsGoodPort ds q) → AreDirected ds (connected p e env).connections
  connected_directed p None h = tt
  connected_directed None (Some e) h = tt
  connected_directed (Some p) (Some e) h = directed_directed p.name p.input e (h p refl)

  order_directed : (ports : List Port) → Each (IsGoodPort ds) ports → (n : ℕ) (es : List (Option tree.Expr)) → AreDirected ds (connected_by_order ports n es env).connections
  order_directed ports h n [] = tt
  order_directed ports h n (e ∷ es) =
      each_append (IsDirected ds) (connected (slice_get ports n) e env).connections (connected_by_order ports (suc n) es env).connections (connected_directed (slice_get ports n) e (λ q k. port_at (IsGoodPort ds) ports n q h k)) (order_directed ports h (suc n) es)

  names_directed : (ports : List Port) → Each (IsGoodPort ds) ports → (cs : List tree.NamedConnection) → AreDirected ds (connected_by_name ports cs env).connections
  names_directed ports h [] = tt
  names_directed ports h (c ∷ cs) =
      each_append (IsDirected ds) (connected (find_port ports c.name.bytes) c.e env).connections (connected_by_name ports cs env).connections (connected_directed (find_port ports c.name.bytes) c.e (λ q k. port_named (IsGoodPort ds) ports c.name.bytes q h k)) (names_directed ports h cs)

  one_directed : (name : List ℕ) (cs : List Connection) → AreDirected ds cs → AreDirected ds (connection_of name cs)
  one_directed name [] x = tt
  one_directed name (c ∷ cs) x = of (same_name (connection_name c) name) (one_directed name cs x.1)
    where
      of : (b : Bool) → AreDirected ds (connection_of name cs) → AreDirected ds (if b then c ∷ [] else connection_of name cs)
      of true k = (x.0, tt)
      of false k = k

  ordered_directed : (ports : List Port) (cs : List Connection) → AreDirected ds cs → AreDirected ds (in_port_order ports cs)
  ordered_directed [] cs x = tt
  ordered_directed (p ∷ ps) cs x = each_append (IsDirected ds) (connection_of p.name cs) (in_port_order ps cs) (one_directed p.name cs x) (ordered_directed ps cs x)

connections_directed : (m : Module) (name : tree.Name) (c : tree.Connections) (env : Env) → AreDirected (module_declared m) (said_connections (Some m) name c env).connections
connections_directed m name tree.Unconnected env = tt
connections_directed m name (tree.ByOrder parts) env = order_directed (module_declared m) env (ports_of m) (ports_good m) 0 parts
connections_directed m name (tree.ByName parts) env = ordered_directed (module_declared m) env (ports_of m) (connected_by_name (ports_of m) parts env).connections (names_directed (module_declared m) env (ports_of m) (ports_good m) parts)

-- ---- the pieces of a scope

abbrev pub IsDirectedPiece : Piece → Type 0
IsDirectedPiece (Own p) = Unit {0}
IsDirectedPiece (OfScopes b) = Unit {0}
IsDirectedPiece (Initially place statement) = Unit {0}
IsDirectedPiece (Instance connections task) = Each (IsDirected (declarations_of task.contents)) connections
IsDirectedPiece (Within task) = Unit {0}

abbrev pub AreDirectedPieces : List Piece → Type 0
AreDirectedPieces ps = Each IsDirectedPiece ps

all_pieces : {A : Type 0} (f : A → Said) (xs : List A) → ((a : A) → AreDirectedPieces (f a).pieces) → AreDirectedPieces (all_said f xs).pieces
all_pieces f [] h = tt
all_pieces f (a ∷ xs) h = each_append IsDirectedPiece (f a).pieces (all_said f xs).pieces (h a) (all_pieces f xs h)

pub known_directed : (around : Around) (place : ℕ) (m : Option Module) (os : List Override) (i : tree.Instance) → AreDirectedPieces (instance_said around place m os i).pieces
known_directed around place None os i = tt
known_directed around place (Some m) os i = (connections_directed m i.name i.connections around.env, tt)

blocks_directed : (around : Around) (bs : List Nested) → AreDirectedPieces (map (nested_piece around) bs)
blocks_directed around [] = tt
blocks_directed around (b ∷ bs) = (tt, blocks_directed around bs)

block_directed : (limits : Limits) (around : Around) (loops : Loops) (b : tree.AlwaysBlock) (ns : List NamedBlock) → AreDirectedPieces (block_by ns limits around loops b).pieces
block_directed limits around loops b [] = (tt, tt)
block_directed limits around loops b (n ∷ ns) = (tt, tt)

item_directed : (limits : Limits) (source : Source) (around : Around) (loops : Loops) (item : tree.Item) (made : Made) → AreDirectedPieces (item_said limits source around loops item made).pieces
item_directed limits source around loops (tree.SignalsItem t) made = signals_each IsDirectedPiece (λ p. tt) (λ q s. tt) around.env t
item_directed limits source around loops (tree.ParametersItem t) made = blocks_directed around made.blocks
item_directed limits source around loops (tree.AssignsItem place assigns) made = all_pieces (assign_said around.env place) assigns (λ a. (tt, tt))
item_directed limits source around loops (tree.AlwaysItem block) made = block_directed limits around loops block (named_blocks block.statement)
item_directed limits source around loops (tree.InitialItem block) made = (tt, tt)
item_directed limits source around loops (tree.GenvarsItem place names) made = blocks_directed around made.blocks
item_directed limits source around loops (tree.IntegersItem place names) made = blocks_directed around made.blocks
item_directed limits source around loops (tree.FunctionItem function) made = blocks_directed around made.blocks
item_directed limits source around loops (tree.InstancesItem t) made =
    let m = find_module source t.of.bytes in
    let o = said_overrides t.of m t.overrides around.env in
    all_pieces (instance_said around t.of.place m o.overrides) t.instances (known_directed around t.of.place m o.overrides)
item_directed limits source around loops (tree.GenerateFor head block) made = blocks_directed around made.blocks
item_directed limits source around loops (tree.GenerateIf place c taken other) made = blocks_directed around made.blocks
item_directed limits source around loops (tree.GenerateCase place subject arms other) made = blocks_directed around made.blocks

items_directed : (limits : Limits) (source : Source) (around : Around) (loops : Loops) (items : List tree.Item) (made : List Made) → AreDirectedPieces (items_said limits source around loops items made).pieces
items_directed limits source around loops [] made = tt
items_directed limits source around loops (i ∷ is) [] = tt
items_directed limits source around loops (i ∷ is) (m ∷ ms) = each_append IsDirectedPiece (item_said limits source around loops i m).pieces (items_said limits source around (loops_after limits around.env loops i) is ms).pieces (item_directed limits source around loops i m) (items_directed limits source around (loops_after limits around.env loops i) is ms)

pub survey_directed : (limits : Limits) (source : Source) (k : Task) (t : Totals) → AreDirectedPieces (survey limits source k t).pieces
survey_directed limits source k t =
    let around = around_in limits k t in
    each_append IsDirectedPiece (header_said around.env k.contents).pieces (items_said limits source around (loops_in limits k t) (items_of k.contents) (made_in limits k t)).pieces (header_each IsDirectedPiece (λ p. tt) (λ q s. tt) around.env k.contents)
    (items_directed limits source around (loops_in limits k t) (items_of k.contents) (made_in limits k t))
