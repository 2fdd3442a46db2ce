-- What the items of a scope say, one after the other.
use Rattle.std.proofs.Common.{◌≡◌, ℕ, ◌+◌, ◌<◌, List, [], ◌∷◌, ◌++◌, length, get_or, take, map, Vec, Global, refl, sym, ap, ◌∙◌, subst, append_assoc, arith, add-one, take-suc}
use Rattle.std.proofs.lemmas.List.{append-nil, length-map, length-take-le}
use Rattle.vs_grammar.specs.Trees as tree
use Rattle.vs_ast.specs.declared.items.Item.{Item}
use Rattle.vs_ast.specs.declared.items.Item as code
use Rattle.vs_ast.specs.declared.items.Signals.{Signals}
use Rattle.vs_ast.specs.declared.items.Assign.{Assign}
use Rattle.vs_ast.specs.declared.items.AlwaysBlock.{AlwaysBlock}
use Rattle.vs_ast.specs.declared.items.InitialBlock.{InitialBlock}
use Rattle.vs_ast.specs.declared.items.Instances.{Instances}
use Rattle.vs_ast.specs.Views as view
use Rattle.vs_design.specs.Designs.{Always}
use Rattle.vs_elaborated.specs.Environments.{named}
use Rattle.vs_elaborated.specs.Statements.{typed_control}
use Rattle.vs_elaborated.specs.NamedBlocks.{NamedBlock}
use Rattle.vs_elaborated.specs.Generate.{Nested, Made, nothing_made}
use Rattle.vs_elaborated.specs.Pieces.{Piece, Own, OfScopes}
use Rattle.vs_elaborated.specs.Instances.{Around}
use Rattle.vs_elaborated.specs.Limits.{Limits}
use Rattle.vs_elaborated.specs.Surveys.{Loops, piece_place, piece_processes, block_statement, block_by, nested_piece, item_said, items_said, loops_after, loops_behind}
use Rattle.vs_items.specs.declared.counts.Count.{Count}
use Rattle.vs_items.specs.Counts.{IsCounted}
use Rattle.vs_items.proofs.CountSteps.{counted_nothing, counted_within}
use Rattle.vs_items.proofs.Repeats.{one_more}

pub pieces_behind : (limits : Limits) (source : tree.Source) (around : Around) (loops : Loops) (is : List tree.Item) (i : tree.Item) (ms : List Made) (m : Made) → length is ≡ length ms
    → (items_said limits source around loops (is ++ i ∷ []) (ms ++ m ∷ [])).pieces ≡ (items_said limits source around loops is ms).pieces ++ (item_said limits source around (loops_behind limits around.env loops is) i m).pieces
pieces_behind limits source around loops [] i [] m h = append-nil (item_said limits source around loops i m).pieces
pieces_behind limits source around loops [] i (n ∷ ms) m h = absurd (let no : ⊥ = omega (arith, h) in no)
pieces_behind limits source around loops (j ∷ is) i [] m h = absurd (let no : ⊥ = omega (arith, h) in no)
pieces_behind limits source around loops (j ∷ is) i (n ∷ ms) m h =
    let after = loops_after limits around.env loops j in
    ap (λ r. (item_said limits source around loops j n).pieces ++ r) (pieces_behind limits source around after is i ms m (omega (arith, h)))
    ∙ sym (append_assoc (item_said limits source around loops j n).pieces (items_said limits source around after is ms).pieces (item_said limits source around (loops_behind limits around.env after is) i m).pieces)

-- the i-th item makes this
abbrev pub made_at : List Made → ℕ → Made
made_at ms i = get_or ms i (nothing_made [] 0)

pub made_more : (ms : List Made) (i : ℕ) → i < length ms → take (i + 1) ms ≡ take i ms ++ made_at ms i ∷ []
made_more ms i h = ap (λ n. take n ms) (add-one i) ∙ take-suc ms i (nothing_made [] 0) h

-- an always block is one piece that has one process, whether its named blocks are scopes or not
pub block_counted : (ns : List NamedBlock) (limits : Limits) (around : Around) (loops : Loops) (b : tree.AlwaysBlock) (c : Count) (before : ℕ) (ps : List Piece)
    → ((p : Piece) → piece_processes p ≡ 1 → piece_place p ≡ b.place → IsCounted c before (ps ++ p ∷ [])) → IsCounted c before (ps ++ (block_by ns limits around loops b).pieces)
block_counted [] limits around loops b c before ps h =
    let e = typed_control b.control (named around.env) in
    h (Own (Always b.place e.star e.events (block_statement limits around.env loops b).statement)) refl refl
block_counted (n ∷ ns) limits around loops b c before ps h = h (OfScopes (record { scope = around.scope; env = around.env; block = b })) refl refl

-- one item more is counted
pub item_counted : (limits : Limits) (source : tree.Source) (around : Around) (loops : Loops) (items : List Item) (made : List Made) (i : ℕ) (x : Item) (c : Count) (before : ℕ) (ps : List Piece)
    → i < length items → x ≡ get_or items i x → length made ≡ length items
    → IsCounted c before ((ps ++ (items_said limits source around loops (map view.item (take i items)) (take i made)).pieces) ++ (item_said limits source around (loops_behind limits around.env loops (map view.item (take i items))) (view.item x) (made_at made i)).pieces)
    → IsCounted c before (ps ++ (items_said limits source around loops (map view.item (take (i + 1) items)) (take (i + 1) made)).pieces)
item_counted limits source around loops items made i x c before ps h e same k =
    let within : i < length made = omega (arith, h, same) in
    let a = length-map (take i items) view.item in
    let b = length-take-le i items (omega (arith, h)) in
    let d = length-take-le i made (omega (arith, within)) in
    subst (IsCounted c before)
    (append_assoc ps (items_said limits source around loops (map view.item (take i items)) (take i made)).pieces (item_said limits source around (loops_behind limits around.env loops (map view.item (take i items))) (view.item x) (made_at made i)).pieces
    ∙ ap (λ qs. ps ++ qs) (sym (pieces_behind limits source around loops (map view.item (take i items)) (view.item x) (take i made) (made_at made i) (a ∙ b ∙ sym d)))
    ∙ ap (λ is. ps ++ (items_said limits source around loops is (take i made ++ made_at made i ∷ [])).pieces) (sym (one_more view.item items i x h e))
    ∙ ap (λ ms. ps ++ (items_said limits source around loops (map view.item (take (i + 1) items)) ms).pieces) (sym (made_more made i within)))
    k

-- the one item of a block
pub one_counted : (limits : Limits) (source : tree.Source) (around : Around) (loops : Loops) (i : tree.Item) (made : List Made) (c : Count) (before : ℕ) (ps : List Piece) → length made ≡ 1
    → IsCounted c before (ps ++ (item_said limits source around loops i (made_at made 0)).pieces) → IsCounted c before (ps ++ (items_said limits source around loops (i ∷ []) made).pieces)
one_counted limits source around loops i [] c before ps h k = absurd (let no : ⊥ = omega (arith, h) in no)
one_counted limits source around loops i (m ∷ []) c before ps h k = subst (λ qs. IsCounted c before (ps ++ qs)) (sym (append-nil (item_said limits source around loops i m).pieces)) k
one_counted limits source around loops i (m ∷ n ∷ ms) c before ps h k = absurd (let no : ⊥ = omega (arith, h) in no)

-- blocks have no process of their own
blocks_counted : (around : Around) (bs : List Nested) (c : Count) (before : ℕ) (ps : List Piece) → IsCounted c before ps → IsCounted c before (ps ++ map (nested_piece around) bs)
blocks_counted around [] c before ps k = counted_nothing c before ps k
blocks_counted around (b ∷ bs) c before ps k =
    subst (IsCounted c before) (append_assoc ps (nested_piece around b ∷ []) (map (nested_piece around) bs)) (blocks_counted around bs c before (ps ++ nested_piece around b ∷ []) (counted_within c before ps _ k))

-- an item that has none
abbrev pub IsOther : tree.Item → Type 0
IsOther (tree.SignalsItem t) = ⊥
IsOther (tree.AssignsItem place assigns) = ⊥
IsOther (tree.AlwaysItem b) = ⊥
IsOther (tree.InitialItem b) = ⊥
IsOther (tree.InstancesItem t) = ⊥
IsOther item = Unit {0}

pub other_counted : (limits : Limits) (source : tree.Source) (around : Around) (loops : Loops) (item : tree.Item) (made : Made) (c : Count) (before : ℕ) (ps : List Piece) → IsOther item → IsCounted c before ps → IsCounted c before (ps ++ (item_said limits source around loops item made).pieces)
other_counted limits source around loops (tree.SignalsItem t) made c before ps o k = absurd o
other_counted limits source around loops (tree.AssignsItem place assigns) made c before ps o k = absurd o
other_counted limits source around loops (tree.AlwaysItem b) made c before ps o k = absurd o
other_counted limits source around loops (tree.InitialItem b) made c before ps o k = absurd o
other_counted limits source around loops (tree.InstancesItem t) made c before ps o k = absurd o
other_counted limits source around loops (tree.ParametersItem t) made c before ps o k = blocks_counted around made.blocks c before ps k
other_counted limits source around loops (tree.IntegersItem place names) made c before ps o k = blocks_counted around made.blocks c before ps k
other_counted limits source around loops (tree.FunctionItem f) made c before ps o k = blocks_counted around made.blocks c before ps k
other_counted limits source around loops (tree.GenvarsItem place names) made c before ps o k = blocks_counted around made.blocks c before ps k
other_counted limits source around loops (tree.GenerateFor head block) made c before ps o k = blocks_counted around made.blocks c before ps k
other_counted limits source around loops (tree.GenerateIf place e taken other) made c before ps o k = blocks_counted around made.blocks c before ps k
other_counted limits source around loops (tree.GenerateCase place subject arms other) made c before ps o k = blocks_counted around made.blocks c before ps k

-- an item of another kind
pub are_others : (x : Item) → ((s : Signals) → x ≡ code.Signals s → ⊥) → ((place : ℕ) (all : Vec Assign Global) → x ≡ code.Assigns place all → ⊥) → ((b : AlwaysBlock) → x ≡ code.Always b → ⊥)
    → ((b : InitialBlock) → x ≡ code.Initial b → ⊥) → ((t : Instances) → x ≡ code.Instances t → ⊥) → IsOther (view.item x)
are_others (code.Signals s) f g h i k = f s refl
are_others (code.Parameters p) f g h i k = tt
are_others (code.Assigns place all) f g h i k = g place all refl
are_others (code.Always b) f g h i k = h b refl
are_others (code.Initial b) f g h i k = i b refl
are_others (code.Genvars place names) f g h i k = tt
are_others (code.Integers place names) f g h i k = tt
are_others (code.Function fn) f g h i k = tt
are_others (code.Instances t) f g h i k = k t refl
are_others (code.GenerateFor' head p b) f g h i k = tt
are_others (code.GenerateIf' place e p b other) f g h i k = tt
are_others (code.GenerateCase' place e shape all other) f g h i k = tt
