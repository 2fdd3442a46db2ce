use Rattle.std.proofs.Common.{◌≡◌, ℕ, ◌||◌, false, List, take}
use Rattle.std.specs.List.{list_any}
use Rattle.vs_ast.specs.Views as view
use Rattle.vs_ast.specs.declared.modules.Module.{Module}
use Rattle.vs_maps.specs.Sets.{has}
use Rattle.vs_tops.specs.Tops.{items_name}
use Rattle.vs_tops.proofs.named.instantiated.Given as goal

-- those of the modules before this one
abbrev pub invariant-loop-of : goal.invariant-loop-of
invariant-loop-of l = (name : List ℕ) → has l.names name ≡ (list_any (λ (m : Module). items_name name (view.items m.items.items)) (take l.of-index l.of-items) || false)
