-- Items of a scope that use an integer, as the code has them.
use Rattle.std.proofs.Common.{rules, ◌≡◌, ℕ, Bool, true, false, ◌||◌, List, [], ◌∷◌, map, Option, Some, None, refl, sym, ap, ◌∙◌}
use Rattle.std.specs.Global.{Box, Vec}
use Rattle.vs_grammar.specs.Trees as tree
use Rattle.vs_grammar.specs.Trees.{items_list}
use Rattle.vs_ast.specs.declared.expressions.Expr.{Expr}
use Rattle.vs_ast.specs.declared.names.Name.{Name}
use Rattle.vs_ast.specs.declared.items.Item.{Item, GenerateCase}
use Rattle.vs_ast.specs.declared.items.GenerateArm.{GenerateArm}
use Rattle.vs_ast.specs.declared.items.GenerateBlock.{GenerateBlock, Enclosed, the_lemmas}
use Rattle.vs_ast.proofs.Rows.{item_rows}
use Rattle.vs_ast.specs.Views as view
use Rattle.vs_scope.proofs.ChosenBlocks.{fallback_of, case_view}
use Rattle.vs_elaborated.specs.Uses as spec

pub listed_use : (as_head : Bool) (name : List ℕ) (items : tree.Items) → spec.items_use as_head name items ≡ spec.all_use as_head name (items_list items)
listed_use as_head name tree.NoItem = refl
listed_use as_head name (tree.AndItem i is) = ap (λ b. spec.item_uses as_head name i || b) (listed_use as_head name is)

pub all_use_is : (as_head : Bool) (name : List ℕ) (is : List Item) → spec.items_use as_head name (view.items is) ≡ spec.all_use as_head name (map view.item is)
all_use_is as_head name [] = refl
all_use_is as_head name (i ∷ is) = ap (λ b. spec.item_uses as_head name (view.item i) || b) (all_use_is as_head name is)

or_false : (b : Bool) → b ≡ (b || false)
or_false true = refl
or_false false = refl

pub one_use : (as_head : Bool) (name : List ℕ) (i : tree.Item) → spec.item_uses as_head name i ≡ spec.all_use as_head name (i ∷ [])
one_use as_head name i = or_false (spec.item_uses as_head name i)

-- ---- generate blocks

either : (a b : Bool) → a ≡ true → true ≡ (a || b)
either true b h = refl
either false b h = cc

neither : (a b c : Bool) → a ≡ false → c ≡ b → c ≡ (a || b)
neither true b c h k = cc
neither false b c h k = k

enclosed_view : (place : ℕ) (n : Option Name) (items : Vec Item) → view.block (Enclosed place n items) ≡ tree.Enclosed place (view.option view.name n) (view.items items.items)
enclosed_view place n items = search (rules, item_rows, the_lemmas)

module _ (as_head : Bool) (name : List ℕ) where
  abbrev of_item : Item → Bool
  of_item i = spec.item_uses as_head name (view.item i)

  abbrev of_arms : List GenerateArm → Bool
  of_arms xs = spec.generate_arms_use as_head name (view.generate_arms xs)

  -- an arm does
  pub case_uses : (i : Item) (place : ℕ) (e : Expr) (arms : Vec GenerateArm) (o : Option (Box GenerateBlock)) (xs : List GenerateArm) → i ≡ GenerateCase place e arms o → xs ≡ arms.items → of_arms xs ≡ true → true ≡ of_item i
  case_uses i place e arms o xs h m u =
      either (of_arms arms.items) (spec.block_fallback_uses as_head name (fallback_of o)) (sym (ap of_arms m) ∙ u) ∙ sym (ap (spec.item_uses as_head name) (ap view.item h ∙ case_view place e arms o))

  -- no arm does, and there is no default
  pub alone_uses : (i : Item) (place : ℕ) (e : Expr) (arms : Vec GenerateArm) (o : Option (Box GenerateBlock)) (xs : List GenerateArm) → i ≡ GenerateCase place e arms o → o ≡ None → xs ≡ arms.items → of_arms xs ≡ false → false ≡ of_item i
  alone_uses i place e arms o xs h k m u =
      neither (of_arms arms.items) false false (sym (ap of_arms m) ∙ u) refl
      ∙ sym (ap (spec.item_uses as_head name) (ap view.item h ∙ ap (λ (q : Option (Box GenerateBlock)). view.item (GenerateCase place e arms q)) k ∙ case_view place e arms None))

  -- or else the default says
  pub default_uses : (i : Item) (place : ℕ) (e : Expr) (arms : Vec GenerateArm) (q : Box GenerateBlock) (o : Option (Box GenerateBlock)) (xs : List GenerateArm) (y : GenerateBlock) (b : Bool)
      → i ≡ GenerateCase place e arms o → o ≡ Some q → xs ≡ arms.items → y ≡ q.value → of_arms xs ≡ false → b ≡ spec.block_uses as_head name (view.block y) → b ≡ of_item i
  default_uses i place e arms q o xs y b h k m n u v =
      neither (of_arms arms.items) (spec.block_uses as_head name (view.block q.value)) b (sym (ap of_arms m) ∙ u) (v ∙ ap (λ (z : GenerateBlock). spec.block_uses as_head name (view.block z)) n)
      ∙ sym (ap (spec.item_uses as_head name) (ap view.item h ∙ ap (λ (r : Option (Box GenerateBlock)). view.item (GenerateCase place e arms r)) k ∙ case_view place e arms (Some q)))

  pub enclosed_uses : (b : GenerateBlock) (place : ℕ) (n : Option Name) (items : Vec Item) (xs : List Item) (r : Bool) → b ≡ Enclosed place n items → xs ≡ items.items → r ≡ spec.items_use as_head name (view.items xs) → r ≡ spec.block_uses as_head name (view.block b)
  enclosed_uses b place n items xs r h m v = v ∙ ap (λ (z : List Item). spec.items_use as_head name (view.items z)) m ∙ sym (ap (spec.block_uses as_head name) (ap view.block h ∙ enclosed_view place n items))
