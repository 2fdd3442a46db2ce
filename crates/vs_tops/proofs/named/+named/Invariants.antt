use Rattle.std.proofs.Common.{◌≡◌, ℕ, ◌||◌, List, take}
use Rattle.std.specs.List.{list_any}
use Rattle.vs_ast.specs.Views as view
use Rattle.vs_ast.specs.declared.items.Item.{Item}
use Rattle.vs_ast.specs.declared.items.GenerateArm.{GenerateArm}
use Rattle.vs_maps.specs.Sets.{has}
use Rattle.vs_tops.specs.Tops.{item_names, block_names}
use Rattle.vs_tops.proofs.named.+named.Given as goal

-- those of the arms before this one
abbrev pub invariant-add_arms-loop-arm : goal.invariant-add_arms-loop-arm
invariant-add_arms-loop-arm l = (name : List ℕ) → has l.names name ≡ (list_any (λ (a : GenerateArm). block_names name (view.block a.block)) (take l.arm-index l.arms) || has l.fn.names name)

-- those of the items before this one
abbrev pub invariant-add_items-loop-item : goal.invariant-add_items-loop-item
invariant-add_items-loop-item l = (name : List ℕ) → has l.names name ≡ (list_any (λ (i : Item). item_names name (view.item i)) (take l.item-index l.items) || has l.fn.names name)
