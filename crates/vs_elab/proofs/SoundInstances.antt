-- What comes to an instance from outside is without a fault.
use Rattle.std.proofs.Common.{◌≡◌, ℕ, ◌==◌, ◌&&◌, Bool, true, false, List, [], ◌∷◌, map, ◌≤◌, Option, Some, None, if◌then◌else◌, refl, sym, ap, ◌∙◌, subst, arith}
use Rattle.std.proofs.lemmas.Bool.{eqb-true}
use Rattle.vs_design.specs.Designs.{Design}
use Rattle.vs_design.specs.Clocks.{same_name}
use Rattle.vs_grammar.specs.Trees.{Module, Source, items_list}
use Rattle.vs_grammar.specs.Shapes.{Each, IsModule, IsShaped, OneOrMore}
use Rattle.vs_grammar.specs.Depths.{deepest, header_depth, item_depth, items_depth, module_depth}
use Rattle.vs_grammar.specs.Spelled.{depth_limit}
use Rattle.vs_const.specs.Typed.{Typed}
use Rattle.vs_elaborated.specs.Environments.{no_env}
use Rattle.vs_elaborated.specs.Parameters as spec
use Rattle.vs_elaborated.specs.Parameters.{override_of}
use Rattle.vs_elaborated.specs.Ports.{find_in, find_module}
use Rattle.vs_elaborated.specs.Sound.{IsConstantFine, AreFineOverrides, IsSoundTask}
use Rattle.vs_scope.specs.declared.frames.Frame.{Frame}
use Rattle.vs_scope.specs.declared.parameters.Override.{Override}
use Rattle.vs_maps.specs.Maps.{Pair, IsNew, AreDistinct}
use Rattle.vs_items.specs.Overriding.{AreAlike, said_override}
use Rattle.vs_elab.proofs.ShapedScopes.{list_depth}
use Rattle.vs_elab.proofs.AlikeTasks.{instance_task}

-- ---- names

same_itself : (xs : List ℕ) → same_name xs xs ≡ true
same_itself [] = refl
same_itself (x ∷ xs) = by (x == x) (let e : (x == x) ≡ true = grind arith in e) (same_itself xs)
  where
    by : (b : Bool) → b ≡ true → same_name xs xs ≡ true → (b && same_name xs xs) ≡ true
    by b e h = ap (λ (x : Bool). x && same_name xs xs) e ∙ h

same_is : (a b : List ℕ) → same_name a b ≡ true → a ≡ b
same_is [] [] h = refl
same_is [] (y ∷ ys) h = cc
same_is (x ∷ xs) [] h = cc
same_is (x ∷ xs) (y ∷ ys) h = by (x == y) refl h (λ k. same_is xs ys k)
  where
    by : (b : Bool) → (x == y) ≡ b → (b && same_name xs ys) ≡ true → (same_name xs ys ≡ true → xs ≡ ys) → x ∷ xs ≡ y ∷ ys
    by true e k f = ap (λ n. n ∷ xs) (eqb-true x y e) ∙ ap (λ zs. y ∷ zs) (f k)
    by false e k f = cc

-- ---- overrides

found_fine : (d : Design) (os : List spec.Override) (name : List ℕ) (t : Typed) → AreFineOverrides d os → override_of os name ≡ Some t → IsConstantFine d t
found_fine d [] name t f h = cc
found_fine d (o ∷ os) name t f h = by (same_name o.name name) h (λ k. found_fine d os name t f.1 k)
  where
    same : Some o.typed ≡ Some t → o.typed ≡ t
    same k = cc

    by : (b : Bool) → (if b then Some o.typed else override_of os name) ≡ Some t → (override_of os name ≡ Some t → IsConstantFine d t) → IsConstantFine d t
    by true k g = subst (IsConstantFine d) (same k) f.0
    by false k g = g k

new_none : (frames : List Frame) (name : List ℕ) (ps : List (Pair Override)) → IsNew name ps → override_of (map (said_override frames) ps) name ≡ None
new_none frames name [] h = refl
new_none frames name (p ∷ ps) h = ap (λ (b : Bool). if b then Some (said_override frames p).typed else override_of (map (said_override frames) ps) name) h.0 ∙ new_none frames name ps h.1

each_fine : (d : Design) (frames : List Frame) (ps : List (Pair Override)) → AreDistinct ps
    → ((name : List ℕ) (t : Typed) → override_of (map (said_override frames) ps) name ≡ Some t → IsConstantFine d t) → AreFineOverrides d (map (said_override frames) ps)
each_fine d frames [] a f = tt
each_fine d frames (p ∷ ps) a f = (
  f p.name (said_override frames p).typed (ap (λ (b : Bool). if b then Some (said_override frames p).typed else override_of (map (said_override frames) ps) p.name) (same_itself p.name)),
  each_fine d frames ps a.1 λ name t h. by name t (same_name p.name name) refl h,
)
  where
    clash : (name : List ℕ) (t : Typed) → same_name p.name name ≡ true → override_of (map (said_override frames) ps) name ≡ Some t → ⊥
    clash name t e h = let none : override_of (map (said_override frames) ps) name ≡ None = new_none frames name ps (subst (λ (n : List ℕ). IsNew n ps) (same_is p.name name e) a.0) in cc

    by : (name : List ℕ) (t : Typed) (b : Bool) → same_name p.name name ≡ b → override_of (map (said_override frames) ps) name ≡ Some t → IsConstantFine d t
    by name t true e h = absurd (clash name t e h)
    by name t false e h = f name t (ap (λ (b : Bool). if b then Some (said_override frames p).typed else override_of (map (said_override frames) ps) name) e ∙ h)

-- what overrides alike is fine alike
pub alike_fine : (d : Design) (frames : List Frame) (ps : List (Pair Override)) (qs : List spec.Override) → AreDistinct ps → AreAlike (map (said_override frames) ps) qs → AreFineOverrides d qs
    → AreFineOverrides d (map (said_override frames) ps)
alike_fine d frames ps qs a same f = each_fine d frames ps a λ name t h. found_fine d qs name t f (sym (same name) ∙ h)

-- ---- modules

module_shaped : (ms : List Module) (name : List ℕ) (m : Module) → Each IsModule ms → find_in ms name ≡ Some m → IsModule m
module_shaped [] name m x h = cc
module_shaped (a ∷ ms) name m x h = by (same_name a.name.bytes name) h (λ k. module_shaped ms name m x.1 k)
  where
    same : Some a ≡ Some m → a ≡ m
    same i = cc

    by : (b : Bool) → (if b then Some a else find_in ms name) ≡ Some m → (find_in ms name ≡ Some m → IsModule m) → IsModule m
    by true k f = subst IsModule (same k) x.0
    by false k f = f k

each_of : {A : Type 0} (P : A → Type 0) (xs : List A) → OneOrMore P xs → Each P xs
each_of P [] h = absurd h
each_of P (x ∷ xs) h = h

-- a module of a text is as the grammar has it
pub found_shaped : (source : Source) (name : List ℕ) (m : Module) → IsShaped source → find_module source name ≡ Some m → IsModule m
found_shaped source name m x h = module_shaped source.modules name m (each_of IsModule source.modules x.modules) h

-- ---- the scope

pub instance_sound : (d : Design) (name : List ℕ) (parent : Option ℕ) (m : Module) (depth place : ℕ) (os : List spec.Override) → IsModule m → AreFineOverrides d os → IsSoundTask d (instance_task name parent m depth place no_env os)
instance_sound d name parent m depth place os x f = record { frames = tt; overrides = f; shaped = x }

-- ---- depths

deepest_found : (ms : List Module) (name : List ℕ) (m : Module) (most : ℕ) → deepest module_depth ms ≤ most → find_in ms name ≡ Some m → module_depth m ≤ most
deepest_found [] name m most x h = cc
deepest_found (a ∷ ms) name m most x h = by (same_name a.name.bytes name) h (λ k. deepest_found ms name m most (omega (arith, x)) k)
  where
    same : Some a ≡ Some m → a ≡ m
    same i = cc

    by : (b : Bool) → (if b then Some a else find_in ms name) ≡ Some m → (find_in ms name ≡ Some m → module_depth m ≤ most) → module_depth m ≤ most
    by true k f = subst (λ (n : Module). module_depth n ≤ most) (same k) (omega (arith, x))
    by false k f = f k

-- the header of a module of a text nests within the limit
pub found_header : (source : Source) (name : List ℕ) (m : Module) → IsShaped source → find_module source name ≡ Some m → header_depth m.header ≤ depth_limit
found_header source name m x h = let whole : module_depth m ≤ depth_limit = deepest_found source.modules name m depth_limit x.shallow h in omega (arith, whole)

-- and its items
pub found_shallow : (source : Source) (name : List ℕ) (m : Module) → IsShaped source → find_module source name ≡ Some m → deepest item_depth (items_list m.items) ≤ depth_limit
found_shallow source name m x h =
    let whole : module_depth m ≤ depth_limit = deepest_found source.modules name m depth_limit x.shallow h in
    let inside : items_depth m.items ≤ depth_limit = omega (arith, whole) in
    subst (λ n. n ≤ depth_limit) (sym (list_depth m.items)) inside
