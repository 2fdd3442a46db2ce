-- The faults of items, one after the other.
use Rattle.std.proofs.Common.{◌≡◌, ℕ, ◌+◌, ◌-◌, ◌<◌, ◌≤◌, false, List, [], ◌∷◌, ◌++◌, length, get_or, take, map, flat_map, Option, Some, None, refl, sym, ap, ◌∙◌, append_assoc, arith, add-zero, Bool}
use Rattle.std.proofs.lemmas.List.{append-nil, length-map, length-take-le}
use Rattle.vs_grammar.specs.Trees as tree
use Rattle.vs_ast.specs.declared.items.Item.{Item}
use Rattle.vs_ast.specs.Views as view
use Rattle.vs_const.specs.declared.faults.Fault.{Fault}
use Rattle.vs_const.specs.Faults.{least, better}
use Rattle.vs_const.specs.Meanings.{Find}
use Rattle.vs_const.specs.Expressions.{typed}
use Rattle.vs_const.proofs.Least.{least_append}
use Rattle.vs_elaborated.specs.Environments.{Env, named}
use Rattle.vs_elaborated.specs.Targets.{target_base, typed_target}
use Rattle.vs_elaborated.specs.Statements.{unrolled_within, typed_control}
use Rattle.vs_elaborated.specs.Generate.{Made}
use Rattle.vs_elaborated.specs.Pieces.{all_said}
use Rattle.vs_elaborated.specs.Instances.{Around}
use Rattle.vs_elaborated.specs.Limits.{Limits}
use Rattle.vs_elaborated.specs.Heads.{Head, shared_heads}
use Rattle.vs_elaborated.specs.Signals.{is_reg}
use Rattle.vs_elaborated.specs.NamedBlocks.{NamedBlock, named_blocks}
use Rattle.vs_elaborated.specs.Surveys.{Loops, assign_said, declarator_said, signals_said, ports_said, block_body, block_by, block_heads, block_said, copies_by, initial_body, initial_heads, initial_said, item_said, items_said, loops_after, loops_behind}
use Rattle.vs_items.specs.declared.counts.Count.{Count}
use Rattle.vs_items.specs.Counts.{IsCounted}
use Rattle.vs_items.specs.Blocks.{block_faults, faults_by}
use Rattle.vs_items.specs.Loops.{SeeTheSame}
use Rattle.vs_items.specs.Items.{assign_faults, value_faults, declarator_faults}
use Rattle.vs_items.proofs.HeadFacts.{heads_alike}
use Rattle.vs_items.proofs.ItemFaults.{assigns_have, declarators_have}
use Rattle.vs_items.proofs.ItemLists.{made_at, made_more}
use Rattle.vs_items.proofs.Repeats.{one_more}

-- ---- what names mean is all that matters

flat_alike : {A : Type 0} (f g : A → List Fault) → ((a : A) → f a ≡ g a) → (xs : List A) → flat_map f xs ≡ flat_map g xs
flat_alike f g h [] = refl
flat_alike f g h (x ∷ xs) = ap (λ fs. fs ++ flat_map f xs) (h x) ∙ ap (λ fs. g x ++ fs) (flat_alike f g h xs)

module _ (e1 e2 : Env) (h : named e1 ≡ named e2) where
  assign_alike : (a : tree.Assign) → assign_faults e1 a ≡ assign_faults e2 a
  assign_alike a = ap (λ (find : Find). (typed_target a.target find false).faults ++ (typed a.e find false).faults) h

  value_alike : (variable : Bool) (n : tree.Name) (v : Option tree.Expr) → value_faults e1 variable n v ≡ value_faults e2 variable n v
  value_alike variable n None = refl
  value_alike variable n (Some e) = ap (λ (find : Find). (target_base variable n.place false (find n.bytes)).faults ++ (typed e find false).faults) h

  pub assigns_alike : (place : ℕ) (xs : List tree.Assign) → (all_said (assign_said e1 place) xs).faults ≡ (all_said (assign_said e2 place) xs).faults
  assigns_alike place xs = assigns_have e1 place xs ∙ flat_alike (assign_faults e1) (assign_faults e2) assign_alike xs ∙ sym (assigns_have e2 place xs)

  pub declarators_alike : (place : ℕ) (kind : tree.SignalKind) (xs : List tree.Declarator) → (all_said (declarator_said e1 place kind) xs).faults ≡ (all_said (declarator_said e2 place kind) xs).faults
  declarators_alike place kind xs =
      declarators_have e1 place kind xs ∙ flat_alike (declarator_faults e1 (is_reg kind)) (declarator_faults e2 (is_reg kind)) (λ d. value_alike (is_reg kind) d.name d.value) xs ∙ sym (declarators_have e2 place kind xs)

  pub signals_alike : (t : tree.Signals) → (signals_said e1 t).faults ≡ (signals_said e2 t).faults
  signals_alike t = declarators_alike t.place t.kind t.names

  all_ports_alike : (ts : List tree.Signals) → (all_said (signals_said e1) ts).faults ≡ (all_said (signals_said e2) ts).faults
  all_ports_alike [] = refl
  all_ports_alike (t ∷ ts) = ap (λ fs. fs ++ (all_said (signals_said e1) ts).faults) (signals_alike t) ∙ ap (λ fs. (signals_said e2 t).faults ++ fs) (all_ports_alike ts)

  pub ports_alike : (header : tree.Header) → (ports_said e1 header).faults ≡ (ports_said e2 header).faults
  ports_alike tree.NoPorts = refl
  ports_alike (tree.PlainPorts names) = refl
  ports_alike (tree.DeclaredPorts ports) = all_ports_alike ports

-- those of a block are what an item of it says
pub block_faults_are : (limits : Limits) (around : Around) (loops : Loops) (b : tree.AlwaysBlock) → (block_said limits around loops b).faults ≡ block_faults limits around.env loops b
block_faults_are limits around loops b = of (named_blocks b.statement)
  where
    of : (ns : List NamedBlock) → (block_by ns limits around loops b).faults ≡ (typed_control b.control (named around.env)).faults ++ (faults_by ns limits around.env loops b ++ shared_heads loops.headed (block_heads around.env b))
    of [] = refl
    of (n ∷ ns) = refl

module _ (limits : Limits) (loops : Loops) (e1 e2 : Env) (h : SeeTheSame e1 e2) where
  pub block_alike : (b : tree.AlwaysBlock) → block_faults limits e1 loops b ≡ block_faults limits e2 loops b
  block_alike b =
      let ns = named_blocks b.statement in
      ap (λ (find : Find). (typed_control b.control find).faults ++ (faults_by ns limits e1 loops b ++ shared_heads loops.headed (block_heads e1 b))) h.names
      ∙ ap (λ (fs : List Fault). (typed_control b.control (named e2)).faults ++ (fs ++ shared_heads loops.headed (block_heads e1 b))) (of ns)
      ∙ ap (λ (hs : List Head). (typed_control b.control (named e2)).faults ++ (faults_by ns limits e2 loops b ++ shared_heads loops.headed hs)) (heads_alike e1 e2 h.finds b.statement [])
    where
      of : (ns : List NamedBlock) → faults_by ns limits e1 loops b ≡ faults_by ns limits e2 loops b
      of [] = ap (λ (find : Find). (unrolled_within (limits.copies - loops.copies) b.statement (block_body b) find).faults) h.names
      of (n ∷ ns) = refl

  copies_alike : (b : tree.AlwaysBlock) (ns : List NamedBlock) → copies_by ns limits e1 loops b ≡ copies_by ns limits e2 loops b
  copies_alike b [] = ap (λ (find : Find). (unrolled_within (limits.copies - loops.copies) b.statement (block_body b) find).copies) h.names
  copies_alike b (n ∷ ns) = refl

  pub initial_alike : (b : tree.InitialBlock) → (initial_said limits e1 loops b).faults ≡ (initial_said limits e2 loops b).faults
  initial_alike b =
      ap (λ (find : Find). (unrolled_within (limits.copies - loops.copies) b.statement initial_body find).faults ++ shared_heads loops.headed (initial_heads e1 b)) h.names
      ∙ ap (λ (hs : List Head). (unrolled_within (limits.copies - loops.copies) b.statement initial_body (named e2)).faults ++ shared_heads loops.headed hs) (heads_alike e1 e2 h.finds b.statement [])

  pub after_alike : (i : tree.Item) → loops_after limits e1 loops i ≡ loops_after limits e2 loops i
  after_alike (tree.SignalsItem t) = refl
  after_alike (tree.ParametersItem t) = refl
  after_alike (tree.AssignsItem place assigns) = refl
  after_alike (tree.AlwaysItem b) =
      let behind : ℕ → List Head → Loops = λ n hs. record { copies = loops.copies + n; headed = loops.headed ++ map (λ (x : Head). x.integer) hs } in
      ap (λ (n : ℕ). behind n (block_heads e1 b)) (copies_alike b (named_blocks b.statement))
      ∙ ap (λ hs. behind (copies_by (named_blocks b.statement) limits e2 loops b) hs) (heads_alike e1 e2 h.finds b.statement [])
  after_alike (tree.InitialItem b) =
      let behind : ℕ → List Head → Loops = λ n hs. record { copies = loops.copies + n; headed = loops.headed ++ map (λ (x : Head). x.integer) hs } in
      ap (λ (find : Find). behind (unrolled_within (limits.copies - loops.copies) b.statement initial_body find).copies (initial_heads e1 b)) h.names
      ∙ ap (λ hs. behind (unrolled_within (limits.copies - loops.copies) b.statement initial_body (named e2)).copies hs) (heads_alike e1 e2 h.finds b.statement [])
  after_alike (tree.GenvarsItem place names) = refl
  after_alike (tree.IntegersItem place names) = refl
  after_alike (tree.InstancesItem t) = refl
  after_alike (tree.FunctionItem f) = refl
  after_alike (tree.GenerateFor head block) = refl
  after_alike (tree.GenerateIf place c taken other) = refl
  after_alike (tree.GenerateCase place subject arms other) = refl

pub behind_more : (limits : Limits) (env : Env) (loops : Loops) (is : List tree.Item) (i : tree.Item) → loops_behind limits env loops (is ++ i ∷ []) ≡ loops_after limits env (loops_behind limits env loops is) i
behind_more limits env loops [] i = refl
behind_more limits env loops (j ∷ is) i = behind_more limits env (loops_after limits env loops j) is i

-- behind one item more
pub item_behind : (limits : Limits) (env : Env) (loops : Loops) (items : List Item) (i : ℕ) (x : Item) (now more : Loops) → i < length items → x ≡ get_or items i x → now ≡ loops_behind limits env loops (map view.item (take i items))
    → more ≡ loops_after limits env now (view.item x) → more ≡ loops_behind limits env loops (map view.item (take (i + 1) items))
item_behind limits env loops items i x now more h e is after =
    after ∙ ap (λ (l : Loops). loops_after limits env l (view.item x)) is ∙ sym (behind_more limits env loops (map view.item (take i items)) (view.item x))
    ∙ ap (loops_behind limits env loops) (sym (one_more view.item items i x h e))

-- ---- one item more

faults_behind : (limits : Limits) (source : tree.Source) (around : Around) (loops : Loops) (is : List tree.Item) (i : tree.Item) (ms : List Made) (m : Made) → length is ≡ length ms
    → (items_said limits source around loops (is ++ i ∷ []) (ms ++ m ∷ [])).faults ≡ (items_said limits source around loops is ms).faults ++ (item_said limits source around (loops_behind limits around.env loops is) i m).faults
faults_behind limits source around loops [] i [] m h = append-nil (item_said limits source around loops i m).faults
faults_behind limits source around loops [] i (n ∷ ms) m h = absurd (let no : ⊥ = omega (arith, h) in no)
faults_behind limits source around loops (j ∷ is) i [] m h = absurd (let no : ⊥ = omega (arith, h) in no)
faults_behind limits source around loops (j ∷ is) i (n ∷ ms) m h =
    let after = loops_after limits around.env loops j in
    ap (λ r. (item_said limits source around loops j n).faults ++ r) (faults_behind limits source around after is i ms m (omega (arith, h)))
    ∙ sym (append_assoc (item_said limits source around loops j n).faults (items_said limits source around after is ms).faults (item_said limits source around (loops_behind limits around.env after is) i m).faults)

pub item_found : (limits : Limits) (source : tree.Source) (around : Around) (loops : Loops) (items : List Item) (made : List Made) (i : ℕ) (x : Item) (a b both : Option Fault) → i < length items → x ≡ get_or items i x → length made ≡ length items
    → both ≡ better a b → a ≡ least (items_said limits source around loops (map view.item (take i items)) (take i made)).faults → b ≡ least (item_said limits source around (loops_behind limits around.env loops (map view.item (take i items))) (view.item x) (made_at made i)).faults
    → both ≡ least (items_said limits source around loops (map view.item (take (i + 1) items)) (take (i + 1) made)).faults
item_found limits source around loops items made i x a b both h e same is before own =
    let within : i < length made = omega (arith, h, same) in
    let p = length-map (take i items) view.item in
    let q = length-take-le i items (omega (arith, h)) in
    let r = length-take-le i made (omega (arith, within)) in
    let done = (items_said limits source around loops (map view.item (take i items)) (take i made)).faults in
    is ∙ ap (λ z. better z b) before ∙ ap (better (least done)) own
    ∙ sym (least_append done (item_said limits source around (loops_behind limits around.env loops (map view.item (take i items))) (view.item x) (made_at made i)).faults)
    ∙ ap least (sym (faults_behind limits source around loops (map view.item (take i items)) (view.item x) (take i made) (made_at made i) (p ∙ q ∙ sym r)))
    ∙ ap (λ is. least (items_said limits source around loops is (take i made ++ made_at made i ∷ [])).faults) (sym (one_more view.item items i x h e))
    ∙ ap (λ ms. least (items_said limits source around loops (map view.item (take (i + 1) items)) ms).faults) (sym (made_more made i within))

-- the one item of a block
pub one_found : (limits : Limits) (source : tree.Source) (around : Around) (loops : Loops) (i : tree.Item) (made : List Made) (f : Option Fault) → length made ≡ 1
    → f ≡ least (item_said limits source around loops i (made_at made 0)).faults → f ≡ least (items_said limits source around loops (i ∷ []) made).faults
one_found limits source around loops i [] f h k = absurd (let no : ⊥ = omega (arith, h) in no)
one_found limits source around loops i (m ∷ []) f h k = k ∙ ap least (sym (append-nil (item_said limits source around loops i m).faults))
one_found limits source around loops i (m ∷ n ∷ ms) f h k = absurd (let no : ⊥ = omega (arith, h) in no)

-- ---- with the count

pub none_counted : (most total : ℕ) → total ≤ most → (let c : Count = record { most = most; total = total; over = None } in IsCounted c total [])
none_counted most total h = record { over = refl; total = λ e. sym (add-zero total); few = h }

pub better_first : (a b : Option Fault) → better a b ≡ None → a ≡ None
better_first None b h = refl
better_first (Some a) b h = cc

pub better_second : (a b : Option Fault) → better a b ≡ None → b ≡ None
better_second None b h = h
better_second (Some a) b h = cc
