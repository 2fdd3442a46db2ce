-- Items and headers without assigns, blocks and instances.
use Rattle.std.proofs.Common.{◌≡◌, ℕ, [], Vec, Global, refl}
use Rattle.vs_ast.specs.declared.items.Item.{Item}
use Rattle.vs_ast.specs.declared.items.Item as code
use Rattle.vs_ast.specs.declared.items.Signals.{Signals}
use Rattle.vs_ast.specs.declared.items.Assign.{Assign}
use Rattle.vs_ast.specs.declared.items.AlwaysBlock.{AlwaysBlock}
use Rattle.vs_ast.specs.declared.items.Instances.{Instances}
use Rattle.vs_ast.specs.declared.modules.Header.{Header}
use Rattle.vs_ast.specs.declared.modules.Header.TheVariants.{NoPorts, Plain, Declared}
use Rattle.vs_ast.specs.Views as view
use Rattle.vs_const.specs.Meanings.{Find}
use Rattle.vs_elaborated.specs.Unheard.{item_unheard, ports_unheard}

pub others_heard : (find : Find) (x : Item) → ((s : Signals) → x ≡ code.Signals s → ⊥) → ((place : ℕ) (all : Vec Assign Global) → x ≡ code.Assigns place all → ⊥) → ((b : AlwaysBlock) → x ≡ code.Always b → ⊥)
    → ((t : Instances) → x ≡ code.Instances t → ⊥) → item_unheard find (view.item x) ≡ []
others_heard find (code.Signals s) f g h k = absurd (f s refl)
others_heard find (code.Parameters p) f g h k = refl
others_heard find (code.Assigns place all) f g h k = absurd (g place all refl)
others_heard find (code.Always b) f g h k = absurd (h b refl)
others_heard find (code.Initial b) f g h k = refl
others_heard find (code.Genvars place names) f g h k = refl
others_heard find (code.Integers place names) f g h k = refl
others_heard find (code.Function fn) f g h k = refl
others_heard find (code.Instances t) f g h k = absurd (k t refl)
others_heard find (code.GenerateFor' head p b) f g h k = refl
others_heard find (code.GenerateIf' place e p b other) f g h k = refl
others_heard find (code.GenerateCase' place e shape all other) f g h k = refl

pub undeclared_heard : (find : Find) (x : Header) → ((all : Vec Signals Global) → x ≡ Declared all → ⊥) → ports_unheard find (view.header x) ≡ []
undeclared_heard find NoPorts f = refl
undeclared_heard find (Plain names) f = refl
undeclared_heard find (Declared all) f = absurd (f all refl)
