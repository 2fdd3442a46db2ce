-- Lists of items and of arms of generate cases, as the plain tree has them.
use Rattle.std.proofs.Common.{◌≡◌, ℕ, ◌≤◌, true, false, List, [], ◌∷◌, ◌++◌, map, refl, sym, ◌∙◌, ap}
use Rattle.vs_lexer.specs.declared.token.TokenKind.TheVariants as kind
use Rattle.vs_grammar.specs.Grammars.{star}
use Rattle.vs_grammar.specs.Grammars.Phrase.{eps}
use Rattle.vs_grammar.specs.Grammars.Tree.{leaf, nothing, both, start, grown, named, former, latter}
use Rattle.vs_grammar.specs.Predictive.{is_member, firsts_of}
use Rattle.vs_grammar.specs.Verilog.{verilog, t, r}
use Rattle.vs_grammar.specs.Verilog.{Rule as rule}
use Rattle.vs_grammar.specs.Trees as tree
use Rattle.vs_grammar.specs.Trees.{Expr, Item, Items, GenerateBlock, GenerateArms}
use Rattle.vs_grammar.specs.Meaning as meaning
use Rattle.vs_grammar.specs.Meaning.{D, each_onto}
use Rattle.vs_ast.specs.declared.items.Item.{Item as ItemNode}
use Rattle.vs_ast.specs.declared.items.GenerateBlock.{GenerateBlock as BlockNode}
use Rattle.vs_ast.specs.declared.items.GenerateArm.{GenerateArm}
use Rattle.vs_ast.specs.Views as view
use Rattle.vs_statements.specs.declared.input.Input.{Input}
use Rattle.vs_parser.specs.Parts as part
use Rattle.vs_parser.specs.ItemLists.{ItemRead, ItemsGrown, items_from}
use Rattle.vs_statements.specs.Reading.{kind_at, bytes_in, Read, Parsed}
use Rattle.vs_statements.proofs.Places.{ap2, parsed, read_eps, read_many, grown_start, grown_more}

-- ---- arms of a generate case

abbrev block_arms_from : List (List Expr × GenerateBlock) → GenerateArms → GenerateArms
block_arms_from [] tail = tail
block_arms_from (e ∷ es) tail = tree.AndGenerateArm e.0 e.1 (block_arms_from es tail)

block_arm_put : (b : ℕ → List ℕ) (a : D (r rule.GenerateCaseItem)) (rest : GenerateArms) → meaning.generate_arm_onto b a rest ≡ tree.AndGenerateArm (part.generate_arm_of b a).0 (part.generate_arm_of b a).1 rest
block_arm_put b (named (both l (both c s))) rest = refl

block_arms_of_list : (b : ℕ → List ℕ) (l : D (star (r rule.GenerateCaseItem))) (rest : List (List Expr × GenerateBlock)) (tail : GenerateArms) → block_arms_from (each_onto (part.generate_arm_of b) l rest) tail ≡ meaning.generate_arms_onto b l (block_arms_from rest tail)
block_arms_of_list b (start z) rest tail = refl
block_arms_of_list b (grown l e) rest tail = block_arms_of_list b l (part.generate_arm_of b e ∷ rest) tail ∙ ap (λ w. meaning.generate_arms_onto b l w) (sym (block_arm_put b e (block_arms_from rest tail)))

block_arms_viewed : (list : List GenerateArm) → view.generate_arms list ≡ block_arms_from (map part.generate_arm_view list) tree.NoGenerateArm
block_arms_viewed [] = refl
block_arms_viewed (e ∷ es) = ap (λ z. tree.AndGenerateArm (map view.expr e.labels.items) (view.block e.block) z) (block_arms_viewed es)

block_arms_append : (xs ys : List (List Expr × GenerateBlock)) (tail : GenerateArms) → block_arms_from (xs ++ ys) tail ≡ block_arms_from xs (block_arms_from ys tail)
block_arms_append [] ys tail = refl
block_arms_append (x ∷ xs) ys tail = ap (λ z. tree.AndGenerateArm x.0 x.1 z) (block_arms_append xs ys tail)

-- a default and the arms behind it
pub block_default_first : (b : ℕ → List ℕ) (d : D (r rule.GenerateCaseDefault)) (l : D (star (r rule.GenerateCaseItem))) (empty list : List GenerateArm) (s : BlockNode) → meaning.default_block_of b d ≡ tree.OtherwiseBlock (view.block s) → empty ≡ [] → map part.generate_arm_view empty ++ each_onto (part.generate_arm_of b) l [] ≡ map part.generate_arm_view list → part.generate_cases_of b (named (former (both d l))) ≡ (view.generate_arms list, tree.OtherwiseBlock (view.block s))
block_default_first b d l empty list s p q m = ap2 (λ x y. (x, y)) (sym (block_arms_of_list b l [] tree.NoGenerateArm) ∙ ap (λ w. block_arms_from w tree.NoGenerateArm) (ap (λ w. map part.generate_arm_view w ++ each_onto (part.generate_arm_of b) l []) (sym q) ∙ m) ∙ sym (block_arms_viewed list)) p

-- arms alone
pub block_arms_alone : (b : ℕ → List ℕ) (a : D (r rule.GenerateCaseItem)) (l : D (star (r rule.GenerateCaseItem))) (z : D eps) (first : GenerateArm) (begun list : List GenerateArm) → part.generate_arm_of b a ≡ part.generate_arm_view first → begun ≡ first ∷ [] → map part.generate_arm_view begun ++ each_onto (part.generate_arm_of b) l [] ≡ map part.generate_arm_view list → part.generate_cases_of b (named (latter (both a (both l (latter z))))) ≡ (view.generate_arms list, tree.NoBlockFallback)
block_arms_alone b a l z first begun list p q m = ap (λ x. (x, tree.NoBlockFallback)) (block_first_arms b a l first begun list p q m)
  where
    block_first_arms : (b : ℕ → List ℕ) (a : D (r rule.GenerateCaseItem)) (l : D (star (r rule.GenerateCaseItem))) (first : GenerateArm) (begun list : List GenerateArm) → part.generate_arm_of b a ≡ part.generate_arm_view first → begun ≡ first ∷ [] → map part.generate_arm_view begun ++ each_onto (part.generate_arm_of b) l [] ≡ map part.generate_arm_view list → meaning.generate_arm_onto b a (meaning.generate_arms_onto b l tree.NoGenerateArm) ≡ view.generate_arms list
    block_first_arms b a l first begun list p q m = block_arm_put b a (meaning.generate_arms_onto b l tree.NoGenerateArm) ∙ ap (λ w. tree.AndGenerateArm (part.generate_arm_of b a).0 (part.generate_arm_of b a).1 w) (sym (block_arms_of_list b l [] tree.NoGenerateArm)) ∙ ap (λ w. block_arms_from (w ∷ each_onto (part.generate_arm_of b) l []) tree.NoGenerateArm) p ∙ ap (λ w. block_arms_from w tree.NoGenerateArm) (ap (λ w. map part.generate_arm_view w ++ each_onto (part.generate_arm_of b) l []) (sym q) ∙ m) ∙ sym (block_arms_viewed list)

-- arms, a default, and arms again
pub block_arms_around : (b : ℕ → List ℕ) (a : D (r rule.GenerateCaseItem)) (l : D (star (r rule.GenerateCaseItem))) (d : D (r rule.GenerateCaseDefault)) (n : D (star (r rule.GenerateCaseItem))) (first : GenerateArm) (begun before list : List GenerateArm) (s : BlockNode) → part.generate_arm_of b a ≡ part.generate_arm_view first → begun ≡ first ∷ [] → map part.generate_arm_view begun ++ each_onto (part.generate_arm_of b) l [] ≡ map part.generate_arm_view before → meaning.default_block_of b d ≡ tree.OtherwiseBlock (view.block s) → map part.generate_arm_view before ++ each_onto (part.generate_arm_of b) n [] ≡ map part.generate_arm_view list → part.generate_cases_of b (named (latter (both a (both l (former (both d n)))))) ≡ (view.generate_arms list, tree.OtherwiseBlock (view.block s))
block_arms_around b a l d n first begun before list s p q m e o = ap2 (λ x y. (x, y)) all e
  where
    inner : meaning.generate_arms_onto b n tree.NoGenerateArm ≡ block_arms_from (each_onto (part.generate_arm_of b) n []) tree.NoGenerateArm
    inner = sym (block_arms_of_list b n [] tree.NoGenerateArm)

    middle : (tail : GenerateArms) → tree.AndGenerateArm (part.generate_arm_of b a).0 (part.generate_arm_of b a).1 (meaning.generate_arms_onto b l tail) ≡ block_arms_from (map part.generate_arm_view before) tail
    middle tail = ap (λ w. tree.AndGenerateArm (part.generate_arm_of b a).0 (part.generate_arm_of b a).1 w) (sym (block_arms_of_list b l [] tail)) ∙ ap (λ w. block_arms_from (w ∷ each_onto (part.generate_arm_of b) l []) tail) p ∙ ap (λ w. block_arms_from w tail) (ap (λ w. map part.generate_arm_view w ++ each_onto (part.generate_arm_of b) l []) (sym q) ∙ m)

    all : meaning.generate_arm_onto b a (meaning.generate_arms_onto b l (meaning.generate_arms_onto b n tree.NoGenerateArm)) ≡ view.generate_arms list
    all = block_arm_put b a (meaning.generate_arms_onto b l (meaning.generate_arms_onto b n tree.NoGenerateArm)) ∙ middle (meaning.generate_arms_onto b n tree.NoGenerateArm) ∙ ap (λ w. block_arms_from (map part.generate_arm_view before) w) inner ∙ sym (block_arms_append (map part.generate_arm_view before) (each_onto (part.generate_arm_of b) n []) tree.NoGenerateArm) ∙ ap (λ w. block_arms_from w tree.NoGenerateArm) o ∙ sym (block_arms_viewed list)

-- ---- items

items_of_list : (b : ℕ → List ℕ) (l : D (star (r rule.GenerateItem))) (rest : List Item) (tail : Items) → items_from (each_onto (meaning.item_of b) l rest) tail ≡ meaning.generate_items_onto b l (items_from rest tail)
items_of_list b (start z) rest tail = refl
items_of_list b (grown l e) rest tail = items_of_list b l (meaning.item_of b e ∷ rest) tail

items_viewed : (list : List ItemNode) → view.items list ≡ items_from (map view.item list) tree.NoItem
items_viewed [] = refl
items_viewed (e ∷ es) = ap (λ z. tree.AndItem (view.item e) z) (items_viewed es)

items_append : (xs ys : List Item) (tail : Items) → items_from (xs ++ ys) tail ≡ items_from xs (items_from ys tail)
items_append [] ys tail = refl
items_append (x ∷ xs) ys tail = ap (λ z. tree.AndItem x z) (items_append xs ys tail)

pub items_made : (b : ℕ → List ℕ) (l : D (star (r rule.GenerateItem))) (empty list : List ItemNode) → empty ≡ [] → map view.item empty ++ each_onto (meaning.item_of b) l [] ≡ map view.item list → meaning.generate_items_onto b l tree.NoItem ≡ view.items list
items_made b l empty list q m = sym (items_of_list b l [] tree.NoItem) ∙ ap (λ w. items_from w tree.NoItem) (ap (λ w. map view.item w ++ each_onto (meaning.item_of b) l []) (sym q) ∙ m) ∙ sym (items_viewed list)

-- the items of `generate`, behind those before it
pub generated : (b : ℕ → List ℕ) (l : D (star (r rule.GenerateItem))) (before list : List ItemNode) → map view.item before ++ each_onto (meaning.item_of b) l [] ≡ map view.item list → (rest : Items) → items_from (map view.item before) (meaning.generate_items_onto b l rest) ≡ items_from (map view.item list) rest
generated b l before list m rest = ap (λ w. items_from (map view.item before) w) (sym (items_of_list b l [] rest)) ∙ sym (items_append (map view.item before) (each_onto (meaning.item_of b) l []) rest) ∙ ap (λ w. items_from w rest) m

added : (before : List ItemNode) (i : Item) (v : ItemNode) (rest : Items) → i ≡ view.item v → items_from (map view.item before) (tree.AndItem i rest) ≡ items_from (map view.item (before ++ (v ∷ []))) rest
added [] i v rest e = ap (λ z. tree.AndItem z rest) e
added (x ∷ before) i v rest e = ap (λ z. tree.AndItem (view.item x) z) (added before i v rest e)

-- one item more
pub one_more : (before list : List ItemNode) (i : Item) (v : ItemNode) → i ≡ view.item v → list ≡ before ++ (v ∷ []) → (rest : Items) → items_from (map view.item before) (tree.AndItem i rest) ≡ items_from (map view.item list) rest
one_more before list i v e q rest = added before i v rest e ∙ ap (λ z. items_from (map view.item z) rest) (sym q)

pub parameters_put : (b : ℕ → List ℕ) (p : D part.parameters_item) (rest : Items) → meaning.item_onto b (named (latter (former p))) rest ≡ tree.AndItem (part.parameters_item_tree b p) rest
parameters_put b (both (leaf a) (both y (both l z))) rest = refl

pub read_item : {input : Input} {before list : List ItemNode} {d i j : ℕ} {a : D (r rule.Item)} → Read input.tokens.now d (r rule.Item) a i j → ((rest : Items) → items_from (map view.item before) (meaning.item_onto (bytes_in input) a rest) ≡ items_from (map view.item list) rest) → ItemRead input before d i list j
read_item {a = a} p m = record { tree = a; read = p; made = m }

pub items_start : (input : Input) (d i : ℕ) (list : List ItemNode) → d ≤ 200 → list ≡ [] → ItemsGrown input d i list i
items_start input d i list s e = record { tree = start nothing; grown = grown_start (read_eps input.tokens.now d i s); made = λ rest. ap (λ z. items_from (map view.item z) rest) (sym e) }

pub items_more : {input : Input} {d i : ℕ} {list : List ItemNode} {j : ℕ} {longer : List ItemNode} {k : ℕ} → ItemsGrown input d i list j → is_member (kind_at input.tokens.now j) (firsts_of verilog (r rule.Item)) ≡ true → ItemRead input list d j longer k → ItemsGrown input d i longer k
items_more {input = input} g m p = record { tree = grown g.tree p.tree; grown = grown_more g.grown m p.read; made = λ rest. g.made (meaning.item_onto (bytes_in input) p.tree rest) ∙ p.made rest }

pub items_done : {input : Input} {d i : ℕ} {list : List ItemNode} {j : ℕ} → ItemsGrown input d i list j → is_member (kind_at input.tokens.now j) (firsts_of verilog (r rule.Item)) ≡ false → Parsed input (star (r rule.Item)) (λ b a. meaning.items_onto b a tree.NoItem) d i (view.items list) j
items_done {list = list} g m = parsed (read_many g.grown m) (g.made tree.NoItem ∙ sym (items_viewed list))
