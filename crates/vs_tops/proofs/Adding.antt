-- Names that are added one after the other.
use Rattle.std.proofs.Common.{◌≡◌, ℕ, ◌+◌, ◌<◌, Bool, true, false, ◌||◌, List, [], ◌∷◌, length, take, get_or, map, refl, sym, ap, ◌∙◌}
use Rattle.std.specs.Prelude.{OnOk, Result, Ok, Err}
use Rattle.std.specs.List.{list_any}
use Rattle.std.proofs.lemmas.List.Folds.{list_any_more}
use Rattle.vs_grammar.specs.Trees as tree
use Rattle.vs_ast.specs.Views as view
use Rattle.vs_ast.specs.declared.items.Item.{Item}
use Rattle.vs_ast.specs.declared.items.GenerateArm.{GenerateArm}
use Rattle.vs_ast.specs.declared.modules.Module.{Module}
use Rattle.vs_maps.specs.Sets.{has}
use Rattle.vs_maps.specs.declared.sets.NameSet.{NameSet}
use Rattle.vs_tops.specs.Tops.{item_names, block_names, arms_name, items_name}

-- the names that this tells were added
abbrev pub Adds : NameSet → NameSet → (List ℕ → Bool) → Type 0
Adds old new told = (name : List ℕ) → has new name ≡ (told name || has old name)

pub or_false : (a : Bool) → (a || false) ≡ a
or_false true = refl
or_false false = refl

swapped : (a b c : Bool) → (b || (a || c)) ≡ ((a || b) || c)
swapped true true c = refl
swapped true false c = refl
swapped false true c = refl
swapped false false c = refl

-- first those, and then these
pub both_added : (old middle new : NameSet) (first second : List ℕ → Bool) → Adds old middle first → Adds middle new second → Adds old new (λ name. first name || second name)
both_added old middle new first second a b name = b name ∙ ap (λ t. second name || t) (a name) ∙ swapped (first name) (second name) (has old name)

-- told in another way
pub added_as : (old new : NameSet) (told other : List ℕ → Bool) → ((name : List ℕ) → told name ≡ other name) → Adds old new told → Adds old new other
added_as old new told other same a name = a name ∙ ap (λ t. t || has old name) (same name)

pub on_ok_added : {E : Type 0} (old new : NameSet) (told other : List ℕ → Bool) (r : Result (Unit {0}) E) → ((name : List ℕ) → told name ≡ other name) → OnOk r (Adds old new told) → OnOk r (Adds old new other)
on_ok_added old new told other (Ok u) same a = added_as old new told other same a
on_ok_added old new told other (Err e) same a = tt

-- those of a first part, and then perhaps those of a second
pub then_added : {E : Type 0} (old middle new : NameSet) (first second whole : List ℕ → Bool) (r : Result (Unit {0}) E) → Adds old middle first → ((name : List ℕ) → (first name || second name) ≡ whole name)
    → OnOk r (Adds middle new second) → OnOk r (Adds old new whole)
then_added old middle new first second whole (Ok u) a same b = added_as old new (λ name. first name || second name) whole same (both_added old middle new first second a b)
then_added old middle new first second whole (Err e) a same b = tt

pub alone_added : (old new : NameSet) (first whole : List ℕ → Bool) → Adds old new first → ((name : List ℕ) → (first name || false) ≡ whole name) → Adds old new whole
alone_added old new first whole a same = added_as old new first whole (λ name. sym (or_false (first name)) ∙ same name) a

-- ---- one of several more

pub one_added : {X : Type 0} (p : X → Bool) (xs : List X) (i : ℕ) (x : X) (before now after : Bool) → i < length xs → x ≡ get_or xs i x → now ≡ (list_any p (take i xs) || before) → after ≡ (p x || now) → after ≡ (list_any p (take (i + 1) xs) || before)
one_added p xs i x before now after lt at so_far step =
    step ∙ ap (λ b. p x || b) so_far ∙ swapped (list_any p (take i xs)) (p x) before ∙ ap (λ b. (list_any p (take i xs) || b) || before) (ap p at)
    ∙ ap (λ b. b || before) (sym (list_any_more p xs i x lt))

pub any_items : (name : List ℕ) (is : List Item) → list_any (λ (i : Item). item_names name (view.item i)) is ≡ items_name name (view.items is)
any_items name [] = refl
any_items name (i ∷ is) = ap (λ b. item_names name (view.item i) || b) (any_items name is)

pub any_arms : (name : List ℕ) (arms : List GenerateArm) → list_any (λ (a : GenerateArm). block_names name (view.block a.block)) arms ≡ arms_name name (view.generate_arms arms)
any_arms name [] = refl
any_arms name (a ∷ arms) = ap (λ b. block_names name (view.block a.block) || b) (any_arms name arms)

pub any_modules : (name : List ℕ) (ms : List Module) → list_any (λ (m : Module). items_name name (view.items m.items.items)) ms ≡ list_any (λ (m : tree.Module). items_name name m.items) (map view.module_tree ms)
any_modules name [] = refl
any_modules name (m ∷ ms) = ap (λ b. items_name name (view.items m.items.items) || b) (any_modules name ms)
