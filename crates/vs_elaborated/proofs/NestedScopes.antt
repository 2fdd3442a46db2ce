-- The scopes of an elaborated design are nested: each is within the one before it or within one around that.
use Rattle.std.proofs.Common.{◌≡◌, ℕ, zero, suc, ◌+◌, ◌≤◌, Bool, true, false, List, [], ◌∷◌, ◌++◌, map, Option, Some, None, refl, sym, subst, arith, if◌then◌else◌}
use Rattle.std.specs.Prelude.{Result, Ok, Err}
use Rattle.vs_design.specs.Designs.{Design}
use Rattle.vs_design.specs.Elaborated.{are_scopes}
use Rattle.vs_grammar.specs.Trees as tree
use Rattle.vs_grammar.specs.Trees.{Module, Source}
use Rattle.vs_grammar.specs.Shapes.{Each}
use Rattle.vs_const.specs.declared.faults.Fault.{Fault}
use Rattle.vs_const.specs.Faults.{least}
use Rattle.vs_elaborated.specs.Limits.{Limits}
use Rattle.vs_elaborated.specs.Generate.{Nested, Made}
use Rattle.vs_elaborated.specs.Parameters.{Override}
use Rattle.vs_elaborated.specs.Pieces.{Task, Piece, Own, OfScopes, Initially, Instance, Within, is_instance, Said, all_said}
use Rattle.vs_elaborated.specs.Instances.{Around, Connected, known_instance, instance_said, said_connections, said_overrides}
use Rattle.vs_elaborated.specs.Ports.{find_module}
use Rattle.vs_elaborated.proofs.ValuePieces.{signals_each, header_each}
use Rattle.vs_elaborated.specs.NamedBlocks.{NamedBlock, named_blocks, named_scopes}
use Rattle.vs_elaborated.specs.Surveys.{Loops, block_by, loops_after, items_of, Totals, no_totals, Survey, survey, header_said, assign_said, nested_piece, item_said, items_said}
use Rattle.vs_elaborated.proofs.SurveyParts.{loops_in, made_in, around_in}
use Rattle.vs_elaborated.specs.Elaborated.{both_designs, of_processes, then_do, port_assign, Read, ReadPieces, read_piece, read_pieces, counted, limit_faults, scope_design, read_scope, repeated_modules, top_task, scope_depth, elaborated_top, elaborated_within}
use Rattle.vs_elaborated.proofs.Nestings.{way_after, NestsOn, LeadsTo, no_scopes, nests_both, own_nested}
use Rattle.vs_elaborated.proofs.NamedScopes.{named_nested}
use Rattle.vs_elaborated.proofs.NumberedSignals.{GoodRead, GoodPieces, good_piece, good_scope, unless, of_scoped}

-- ---- the pieces of a scope are its children

abbrev pub IsChild : ℕ → Piece → Type 0
IsChild m (Own p) = Unit {0}
IsChild m (OfScopes b) = b.scope ≡ m
IsChild m (Initially place statement) = Unit {0}
IsChild m (Instance connections task) = task.parent ≡ Some m
IsChild m (Within task) = task.parent ≡ Some m

abbrev pub AreChildren : ℕ → List Piece → Type 0
AreChildren m ps = Each (IsChild m) ps

children_append : (m : ℕ) (ps qs : List Piece) → AreChildren m ps → AreChildren m qs → AreChildren m (ps ++ qs)
children_append m [] qs h k = k
children_append m (p ∷ ps) qs h k = (h.0, children_append m ps qs h.1 k)

all_children : {A : Type 0} (m : ℕ) (f : A → Said) (xs : List A) → ((a : A) → AreChildren m (f a).pieces) → AreChildren m (all_said f xs).pieces
all_children m f [] h = tt
all_children m f (a ∷ xs) h = children_append m (f a).pieces (all_said f xs).pieces (h a) (all_children m f xs h)

known_child : (around : Around) (place : ℕ) (name : List ℕ) (m : Option Module) (os : List Override) (c : Connected) → AreChildren around.scope (known_instance around place name m os c).pieces
known_child around place name None os c = tt
known_child around place name (Some m) os c = (refl, tt)

blocks_children : (around : Around) (bs : List Nested) → AreChildren around.scope (map (nested_piece around) bs)
blocks_children around [] = tt
blocks_children around (b ∷ bs) = (refl, blocks_children around bs)

block_children : (limits : Limits) (around : Around) (loops : Loops) (b : tree.AlwaysBlock) (ns : List NamedBlock) → AreChildren around.scope (block_by ns limits around loops b).pieces
block_children limits around loops b [] = (tt, tt)
block_children limits around loops b (n ∷ ns) = (refl, tt)

item_children : (limits : Limits) (source : Source) (around : Around) (loops : Loops) (item : tree.Item) (made : Made) → AreChildren around.scope (item_said limits source around loops item made).pieces
item_children limits source around loops (tree.SignalsItem t) made = signals_each (IsChild around.scope) (λ p. tt) (λ q s. tt) around.env t
item_children limits source around loops (tree.ParametersItem t) made = blocks_children around made.blocks
item_children limits source around loops (tree.AssignsItem place assigns) made = all_children around.scope (assign_said around.env place) assigns (λ a. (tt, tt))
item_children limits source around loops (tree.AlwaysItem block) made = block_children limits around loops block (named_blocks block.statement)
item_children limits source around loops (tree.InitialItem block) made = (tt, tt)
item_children limits source around loops (tree.GenvarsItem place names) made = blocks_children around made.blocks
item_children limits source around loops (tree.IntegersItem place names) made = blocks_children around made.blocks
item_children limits source around loops (tree.FunctionItem function) made = blocks_children around made.blocks
item_children limits source around loops (tree.InstancesItem t) made =
    let m = find_module source t.of.bytes in
    let o = said_overrides t.of m t.overrides around.env in
    all_children around.scope (instance_said around t.of.place m o.overrides) t.instances (λ i. known_child around t.of.place i.name.bytes m o.overrides (said_connections m i.name i.connections around.env))
item_children limits source around loops (tree.GenerateFor head block) made = blocks_children around made.blocks
item_children limits source around loops (tree.GenerateIf place c taken other) made = blocks_children around made.blocks
item_children limits source around loops (tree.GenerateCase place subject arms other) made = blocks_children around made.blocks

items_children : (limits : Limits) (source : Source) (around : Around) (loops : Loops) (items : List tree.Item) (made : List Made) → AreChildren around.scope (items_said limits source around loops items made).pieces
items_children limits source around loops [] made = tt
items_children limits source around loops (i ∷ is) [] = tt
items_children limits source around loops (i ∷ is) (m ∷ ms) = children_append around.scope (item_said limits source around loops i m).pieces (items_said limits source around (loops_after limits around.env loops i) is ms).pieces (item_children limits source around loops i m) (items_children limits source around (loops_after limits around.env loops i) is ms)

-- ---- reading

abbrev pub NestedRead : ℕ → List ℕ → ℕ → List ℕ → Result Read Fault → Type 0
NestedRead m w n way (Ok r) = NestsOn m w n way r.design.scopes
NestedRead m w n way (Err e) = Unit {0}

abbrev pub NestedPieces : ℕ → List ℕ → ℕ → List ℕ → Result ReadPieces Fault → Type 0
NestedPieces m w n way (Ok r) = NestsOn m w n way r.design.scopes
NestedPieces m w n way (Err e) = Unit {0}

-- how a scope within m is read
abbrev pub NestsChildren : (m : ℕ) (w : List ℕ) → (Task → Totals → Result Read Fault) → Type 0
NestsChildren m w read = (k : Task) (t : Totals) (way : List ℕ) → k.parent ≡ Some m → LeadsTo m w way → suc m ≤ t.scopes → NestedRead m w t.scopes way (read k t)

piece_nested : (limits : Limits) (m : ℕ) (w : List ℕ) (read : Task → Totals → Result Read Fault) → NestsChildren m w read → (p : Piece) → IsChild m p → (t : Totals) (way : List ℕ) → LeadsTo m w way → suc m ≤ t.scopes → NestedPieces m w t.scopes way (read_piece limits read p t)
piece_nested limits m w read h (Own p) c t way l b = no_scopes m w t.scopes way l
piece_nested limits m w read h (OfScopes s) c t way l b =
    of_scoped (NestedPieces m w t.scopes way) (λ e. tt) limits s t
    (subst (λ (k : ℕ). NestsOn m w t.scopes way (named_scopes k t.scopes (named_blocks s.block.statement))) (sym c) (named_nested m t.scopes s.block.statement w way l b))
piece_nested limits m w read h (Initially place statement) c t way l b = no_scopes m w t.scopes way l
piece_nested limits m w read h (Instance connections task) c t way l b = of (read task t) (h task t way c l b)
  where
    of : (r : Result Read Fault) → NestedRead m w t.scopes way r → NestedPieces m w t.scopes way (then_do r λ s. Ok (record { design = both_designs (of_processes (map (port_assign task.place s.entries) connections)) s.design; totals = s.totals }))
    of (Err e) g = tt
    of (Ok s) g = g
piece_nested limits m w read h (Within task) c t way l b = of (read task t) (h task t way c l b)
  where
    of : (r : Result Read Fault) → NestedRead m w t.scopes way r → NestedPieces m w t.scopes way (then_do r λ s. Ok (record { design = s.design; totals = s.totals }))
    of (Err e) g = tt
    of (Ok s) g = g

pieces_nested : (limits : Limits) (m : ℕ) (w : List ℕ) (read : Task → Totals → Result Read Fault) → ((k : Task) (t : Totals) → GoodRead t (read k t)) → NestsChildren m w read → (ps : List Piece) → AreChildren m ps → (t : Totals) (way : List ℕ) → LeadsTo m w way → suc m ≤ t.scopes
    → NestedPieces m w t.scopes way (read_pieces limits read ps t)
pieces_nested limits m w read good h [] c t way l b = no_scopes m w t.scopes way l
pieces_nested limits m w read good h (p ∷ ps) c t way l b = of (read_piece limits read p t) (good_piece limits read good p t) (piece_nested limits m w read h p c.0 t way l b) (λ u v k i. pieces_nested limits m w read good h ps c.1 u v k i)
  where
    of : (r : Result ReadPieces Fault) → GoodPieces t r → NestedPieces m w t.scopes way r → ((u : Totals) (v : List ℕ) → LeadsTo m w v → suc m ≤ u.scopes → NestedPieces m w u.scopes v (read_pieces limits read ps u))
        → NestedPieces m w t.scopes way (then_do r λ a. then_do (read_pieces limits read ps a.totals) λ b. Ok (record { design = both_designs a.design b.design; totals = b.totals }))
    of (Err e) g n k = tt
    of (Ok a) g n k = rest (read_pieces limits read ps a.totals) (λ lead. k a.totals (way_after t.scopes way a.design.scopes) lead (omega (arith, g.scopes, b)))
      where
        rest : (q : Result ReadPieces Fault) → (LeadsTo m w (way_after t.scopes way a.design.scopes) → NestedPieces m w a.totals.scopes (way_after t.scopes way a.design.scopes) q)
            → NestedPieces m w t.scopes way (then_do q λ b. Ok (record { design = both_designs a.design b.design; totals = b.totals }))
        rest (Err e) f = tt
        rest (Ok b) f = nests_both m w t.scopes a.totals.scopes way a.design.scopes b.design.scopes g.scopes n f

pub survey_children : (limits : Limits) (source : Source) (k : Task) (t : Totals) → AreChildren t.scopes (survey limits source k t).pieces
survey_children limits source k t =
    let around = around_in limits k t in
    children_append t.scopes (header_said around.env k.contents).pieces (items_said limits source around (loops_in limits k t) (items_of k.contents) (made_in limits k t)).pieces
    (header_each (IsChild t.scopes) (λ p. tt) (λ q s. tt) around.env k.contents) (items_children limits source around (loops_in limits k t) (items_of k.contents) (made_in limits k t))

pub counted_scopes : (k : Task) (t : Totals) → (counted k t).scopes ≡ t.scopes
counted_scopes k t = of (is_instance k.contents)
  where
    of : (b : Bool) → (if b then record t { instances = t.instances + 1 } else t).scopes ≡ t.scopes
    of true = refl
    of false = refl

pub scope_nested : (left : ℕ) (limits : Limits) (source : Source) (m : ℕ) (w : List ℕ) → NestsChildren m w (read_scope left limits source)
scope_nested zero limits source m w k t way e l b = tt
scope_nested (suc left) limits source m w k t way e l b =
    unless (NestedRead m w t.scopes way) (λ f. tt) (least (limit_faults limits k (counted k t))) _ λ n.
    let s = survey limits source k (counted k t) in
    unless (NestedRead m w t.scopes way) (λ f. tt) (least s.faults) _ λ i.
    let c = subst (λ j. AreChildren j s.pieces) (counted_scopes k t) (survey_children limits source k (counted k t)) in
    let after : s.totals.scopes ≡ suc t.scopes = omega (arith, counted_scopes k t) in
    of s (read_pieces limits (read_scope left limits source) s.pieces s.totals)
    (subst (λ j. NestedPieces t.scopes (m ∷ w) j (t.scopes ∷ m ∷ w) (read_pieces limits (read_scope left limits source) s.pieces s.totals)) after
    (pieces_nested limits t.scopes (m ∷ w) (read_scope left limits source) (good_scope left limits source) (scope_nested left limits source t.scopes (m ∷ w)) s.pieces c s.totals (t.scopes ∷ m ∷ w) (record { inner = []; later = tt; is = refl }) (omega (arith, after))))
  where
    of : (s : Survey) (q : Result ReadPieces Fault) → NestedPieces t.scopes (m ∷ w) (suc t.scopes) (t.scopes ∷ m ∷ w) q → NestedRead m w t.scopes way (then_do q λ r. Ok (record { entries = s.entries; design = scope_design k s r.design; totals = r.totals }))
    of s (Err f) g = tt
    of s (Ok r) g = own_nested m w t.scopes way (record { name = k.name; parent = k.parent; instance = is_instance k.contents }) r.design.scopes e l b g

abbrev pub NestedDesign : Result Design Fault → Type 0
NestedDesign (Ok d) = are_scopes d.scopes ≡ true
NestedDesign (Err e) = Unit {0}

-- the scopes of an elaborated design
pub elaborated_nested : (limits : Limits) (source : Source) (top : List ℕ) → NestedDesign (elaborated_within limits source top)
elaborated_nested limits source top = unless NestedDesign (λ e. tt) (least (repeated_modules [] source.modules)) (λ u. elaborated_top limits source (find_module source top)) (λ u. found (find_module source top))
  where
    within_top : (left : ℕ) (m : Module) → NestedDesign (then_do (read_scope left limits source (top_task m) no_totals) λ r. Ok r.design)
    within_top zero m = tt
    within_top (suc left) m =
        let k = top_task m in
        unless P (λ f. tt) (least (limit_faults limits k (counted k no_totals))) _ λ n.
        let s = survey limits source k (counted k no_totals) in
        unless P (λ f. tt) (least s.faults) _ λ i.
        of s (read_pieces limits (read_scope left limits source) s.pieces s.totals)
        (pieces_nested limits 0 [] (read_scope left limits source) (good_scope left limits source) (scope_nested left limits source 0 []) s.pieces (survey_children limits source k (counted k no_totals)) s.totals (0 ∷ []) (record { inner = []; later = tt; is = refl }) (omega arith))
      where
        P : Result Read Fault → Type 0
        P r = NestedDesign (then_do r λ s. Ok s.design)

        of : (s : Survey) (q : Result ReadPieces Fault) → NestedPieces 0 [] 1 (0 ∷ []) q → P (then_do q λ r. Ok (record { entries = s.entries; design = scope_design (top_task m) s r.design; totals = r.totals }))
        of s (Err f) g = tt
        of s (Ok r) g = g.nested

    found : (m : Option Module) → NestedDesign (elaborated_top limits source m)
    found None = tt
    found (Some m) = within_top (scope_depth limits) m
