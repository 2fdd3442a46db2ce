-- Items and generate blocks as trees.
use Rattle.std.proofs.Common.{◌≡◌, ℕ, Option, None, Some, rules}
use Rattle.std.specs.Global.{Box, Vec}
use Rattle.vs_grammar.specs.Trees as tree
use Rattle.vs_ast.specs.Views as view
use Rattle.vs_ast.proofs.Rows.{generate_arm_rows, item_rows}
use Rattle.vs_ast.specs.declared.expressions.Expr.{Expr}
use Rattle.vs_ast.specs.declared.names.Name.{Name}
use Rattle.vs_ast.specs.declared.types.LoopHead.{LoopHead}
use Rattle.vs_ast.specs.declared.items.Item.{Item, GenerateFor, GenerateIf, GenerateCase, the_lemmas}
use Rattle.vs_ast.specs.declared.items.GenerateArm.{GenerateArm}
use Rattle.vs_ast.specs.declared.items.GenerateBlock.{GenerateBlock, Alone, Enclosed}

-- the block of an `else` or a default
abbrev pub other_of : Option (Box GenerateBlock) → tree.BlockFallback
other_of None = tree.NoBlockFallback
other_of (Some b) = tree.OtherwiseBlock (view.block b.value)

pub for_view : (head : LoopHead) (b : Box GenerateBlock) → view.item (GenerateFor head b) ≡ tree.GenerateFor (view.loop_head head) (view.block b.value)
for_view head b = search (rules, the_lemmas)

pub if_view : (place : ℕ) (c : Expr) (taken : Box GenerateBlock) (o : Option (Box GenerateBlock)) → view.item (GenerateIf place c taken o) ≡ tree.GenerateIf place (view.expr c) (view.block taken.value) (other_of o)
if_view place c taken None = search (rules, the_lemmas)
if_view place c taken (Some b) = search (rules, the_lemmas)

pub case_view : (place : ℕ) (e : Expr) (arms : Vec GenerateArm) (o : Option (Box GenerateBlock)) → view.item (GenerateCase place e arms o) ≡ tree.GenerateCase place (view.expr e) (view.generate_arms arms.items) (other_of o)
case_view place e arms None = search (rules, generate_arm_rows, the_lemmas)
case_view place e arms (Some b) = search (rules, generate_arm_rows, the_lemmas)

pub alone_view : (i : Box Item) → view.block (Alone i) ≡ tree.Alone (view.item i.value)
alone_view i = search (rules, the_lemmas)

pub enclosed_view : (place : ℕ) (n : Option Name) (is : Vec Item) → view.block (Enclosed place n is) ≡ tree.Enclosed place (view.option view.name n) (view.items is.items)
enclosed_view place n is = search (rules, item_rows, the_lemmas)
