-- The parts of items and of generate blocks, one after the other.
use Rattle.std.proofs.Common.{◌≡◌, ℕ, zero, suc, ◌+◌, ◌<◌, List, [], ◌∷◌, ◌++◌, length, get_or, take, map, Vec, Global, refl, sym, ap, ◌∙◌, append_assoc, arith, add-one, take-suc}
use Rattle.std.proofs.lemmas.List.{append-nil, map-append, length-map, length-take-le}
use Rattle.vs_grammar.specs.Trees as tree
use Rattle.vs_grammar.specs.Trees.{items_list}
use Rattle.vs_ast.specs.declared.items.Item.{Item}
use Rattle.vs_ast.specs.declared.items.Item as kind
use Rattle.vs_ast.specs.declared.items.Signals.{Signals}
use Rattle.vs_ast.specs.declared.items.Assign.{Assign}
use Rattle.vs_ast.specs.declared.items.AlwaysBlock.{AlwaysBlock}
use Rattle.vs_ast.specs.declared.items.InitialBlock.{InitialBlock}
use Rattle.vs_ast.specs.declared.items.Instances.{Instances}
use Rattle.vs_ast.specs.Views as view
use Rattle.vs_elaborated.specs.Generate.{Made, nothing_made}
use Rattle.vs_elaborated.specs.Pieces.{Piece}
use Rattle.vs_elaborated.specs.Instances.{Around}
use Rattle.vs_elaborated.specs.Surveys.{nested_piece}
use Rattle.vs_scope.specs.declared.made.Nested.{Nested}
use Rattle.vs_scope.specs.Made as code
use Rattle.vs_elab.specs.Fine.{plain_said, plains_said}
use Rattle.vs_elab.proofs.Sequences.{one_more}

-- one block more
pub block_more : (around : Around) (xs : List Nested) (i : ℕ) (x : Nested) (before done more : List Piece) → i < length xs → x ≡ get_or xs i x
    → done ≡ before ++ map (nested_piece around) (map code.nested (take i xs)) → more ≡ done ++ nested_piece around (code.nested x) ∷ []
    → more ≡ before ++ map (nested_piece around) (map code.nested (take (i + 1) xs))
block_more around xs i x before done more h e is pushed =
    let f = nested_piece around in
    pushed ∙ ap (λ r. r ++ f (code.nested x) ∷ []) is ∙ append_assoc before (map f (map code.nested (take i xs))) (f (code.nested x) ∷ [])
    ∙ ap (λ r. before ++ r) (sym (ap (map f) (one_more code.nested xs i x h e) ∙ map-append f (map code.nested (take i xs)) (code.nested x ∷ [])))

-- what is made of an item of another kind
pub other_pieces : (source : tree.Source) (around : Around) (x : Item) (made : Made) → ((s : Signals) → x ≡ kind.Signals s → ⊥) → ((place : ℕ) (all : Vec Assign Global) → x ≡ kind.Assigns place all → ⊥)
    → ((b : AlwaysBlock) → x ≡ kind.Always b → ⊥) → ((b : InitialBlock) → x ≡ kind.Initial b → ⊥) → ((t : Instances) → x ≡ kind.Instances t → ⊥) → (plain_said source around (view.item x) made).pieces ≡ map (nested_piece around) made.blocks
other_pieces source around (kind.Signals s) made f g h i k = absurd (f s refl)
other_pieces source around (kind.Parameters p) made f g h i k = refl
other_pieces source around (kind.Assigns place all) made f g h i k = absurd (g place all refl)
other_pieces source around (kind.Always b) made f g h i k = absurd (h b refl)
other_pieces source around (kind.Initial b) made f g h i k = absurd (i b refl)
other_pieces source around (kind.Genvars place names) made f g h i k = refl
other_pieces source around (kind.Integers place names) made f g h i k = refl
other_pieces source around (kind.Function fn) made f g h i k = refl
other_pieces source around (kind.Instances t) made f g h i k = absurd (k t refl)
other_pieces source around (kind.GenerateFor' head p b) made f g h i k = refl
other_pieces source around (kind.GenerateIf' place e p b other) made f g h i k = refl
other_pieces source around (kind.GenerateCase' place e shape all other) made f g h i k = refl

-- ---- lists that are alike

pub heads : {A : Type 0} (a b : A) (cs bs : List A) → (let x : List A = a ∷ cs in x) ≡ b ∷ bs → a ≡ b
heads a b cs bs h = cc

pub tails : {A : Type 0} (a b : A) (cs bs : List A) → (let x : List A = a ∷ cs in x) ≡ b ∷ bs → cs ≡ bs
tails a b cs bs h = cc

pub alike_at : {A B C : Type 0} (f : A → C) (g : B → C) (d : B) (xs : List A) (ys : List B) (i : ℕ) (x : A) → map f xs ≡ map g ys → i < length xs → x ≡ get_or xs i x → f x ≡ g (get_or ys i d)
alike_at f g d [] ys i x e h k = absurd (let no : ⊥ = omega (arith, h) in no)
alike_at f g d (a ∷ xs) [] i x e h k = cc
alike_at f g d (a ∷ xs) (b ∷ ys) zero x e h k = ap f k ∙ heads (f a) (g b) (map f xs) (map g ys) e
alike_at f g d (a ∷ xs) (b ∷ ys) (suc i) x e h k = alike_at f g d xs ys i x (tails (f a) (g b) (map f xs) (map g ys) e) (omega (arith, h)) k

pub alike_length : {A B C : Type 0} (f : A → C) (g : B → C) (xs : List A) (ys : List B) → map f xs ≡ map g ys → length ys ≡ length xs
alike_length f g xs ys e = sym (length-map ys g) ∙ ap (λ zs. length zs) (sym e) ∙ length-map xs f

-- ---- items

pub items_are : (is : List Item) → items_list (view.items is) ≡ map view.item is
items_are [] = refl
items_are (i ∷ is) = ap (λ r. view.item i ∷ r) (items_are is)

-- the i-th item makes this
abbrev pub made_at : List Made → ℕ → Made
made_at ms i = get_or ms i (nothing_made [] 0)

made_more : (ms : List Made) (i : ℕ) → i < length ms → take (i + 1) ms ≡ take i ms ++ made_at ms i ∷ []
made_more ms i h = ap (λ n. take n ms) (add-one i) ∙ take-suc ms i (nothing_made [] 0) h

pieces_behind : (source : tree.Source) (around : Around) (is : List tree.Item) (i : tree.Item) (ms : List Made) (m : Made) → length is ≡ length ms
    → (plains_said source around (is ++ i ∷ []) (ms ++ m ∷ [])).pieces ≡ (plains_said source around is ms).pieces ++ (plain_said source around i m).pieces
pieces_behind source around [] i [] m h = append-nil (plain_said source around i m).pieces
pieces_behind source around [] i (n ∷ ms) m h = absurd (let no : ⊥ = omega (arith, h) in no)
pieces_behind source around (j ∷ is) i [] m h = absurd (let no : ⊥ = omega (arith, h) in no)
pieces_behind source around (j ∷ is) i (n ∷ ms) m h =
    ap (λ r. (plain_said source around j n).pieces ++ r) (pieces_behind source around is i ms m (omega (arith, h)))
    ∙ sym (append_assoc (plain_said source around j n).pieces (plains_said source around is ms).pieces (plain_said source around i m).pieces)

-- one item more
pub item_more : (source : tree.Source) (around : Around) (items : List Item) (made : List Made) (i : ℕ) (x : Item) (before done more : List Piece) → i < length items → x ≡ get_or items i x → length made ≡ length items
    → done ≡ before ++ (plains_said source around (map view.item (take i items)) (take i made)).pieces → more ≡ done ++ (plain_said source around (view.item x) (made_at made i)).pieces
    → more ≡ before ++ (plains_said source around (map view.item (take (i + 1) items)) (take (i + 1) made)).pieces
item_more source around items made i x before done more h e same is pushed =
    let within : i < length made = omega (arith, h, same) in
    let a = length-map (take i items) view.item in
    let b = length-take-le i items (omega (arith, h)) in
    let d = length-take-le i made (omega (arith, within)) in
    pushed ∙ ap (λ r. r ++ (plain_said source around (view.item x) (made_at made i)).pieces) is
    ∙ append_assoc before (plains_said source around (map view.item (take i items)) (take i made)).pieces (plain_said source around (view.item x) (made_at made i)).pieces
    ∙ ap (λ qs. before ++ qs) (sym (pieces_behind source around (map view.item (take i items)) (view.item x) (take i made) (made_at made i) (a ∙ b ∙ sym d)))
    ∙ ap (λ is. before ++ (plains_said source around is (take i made ++ made_at made i ∷ [])).pieces) (sym (one_more view.item items i x h e))
    ∙ ap (λ ms. before ++ (plains_said source around (map view.item (take (i + 1) items)) ms).pieces) (sym (made_more made i within))

-- the one item of a block
pub one_item : (source : tree.Source) (around : Around) (i : tree.Item) (made : List Made) → length made ≡ 1 → (plain_said source around i (made_at made 0)).pieces ≡ (plains_said source around (i ∷ []) made).pieces
one_item source around i [] h = absurd (let no : ⊥ = omega (arith, h) in no)
one_item source around i (m ∷ []) h = sym (append-nil (plain_said source around i m).pieces)
one_item source around i (m ∷ n ∷ ms) h = absurd (let no : ⊥ = omega (arith, h) in no)
