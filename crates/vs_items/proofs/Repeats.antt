-- One more module behind others.
use Rattle.std.proofs.Common.{◌≡◌, ℕ, ◌+◌, ◌<◌, length, map, take, get_or, add-one, take-suc, Bool, true, false, ◌||◌, List, [], ◌∷◌, ◌++◌, Option, Some, None, if◌then◌else◌, refl, sym, ap, ◌∙◌, subst, append_assoc}
use Rattle.std.specs.Prelude.{is_some}
use Rattle.vs_ast.specs.declared.items.Item.{Item}
use Rattle.vs_ast.specs.Views as view
use Rattle.vs_grammar.specs.Trees.{items_list}
use Rattle.vs_maps.specs.Maps.{Pair, value_at}
use Rattle.vs_items.specs.Noted.{AreFirst, named}
use Rattle.vs_items.specs.declared.modules.Known.{Known}
use Rattle.vs_items.specs.Modules.{IsKnownOf, IsOf}
use Rattle.std.proofs.lemmas.List.{append-nil, map-append}
use Rattle.vs_design.specs.Clocks.{same_name}
use Rattle.vs_grammar.specs.Trees.{Name, Module}
use Rattle.vs_const.specs.Faults.{fault_if}
use Rattle.vs_const.specs.declared.rules.Rule.TheVariants.{DuplicateModule}
use Rattle.vs_elaborated.specs.Ports.{find_in, is_named}
use Rattle.vs_elaborated.specs.Elaborated.{repeated_modules}

or_false : (b : Bool) → (b || false) ≡ b
or_false true = refl
or_false false = refl

-- whether a name came before, or stands among these
abbrev is_taken : List Name → List Module → List ℕ → Bool
is_taken seen ms name = is_named name seen || is_some (find_in ms name)

taken_more : (seen : List Name) (m : Module) (ms : List Module) (name : List ℕ) → is_taken (m.name ∷ seen) ms name ≡ is_taken seen (m ∷ ms) name
taken_more seen m ms name = by (same_name m.name.bytes name) (is_named name seen)
  where
    by : (same b : Bool) → ((same || b) || is_some (find_in ms name)) ≡ (b || is_some (if same then Some m else find_in ms name))
    by true true = refl
    by true false = refl
    by false b = refl

repeated_behind : (seen : List Name) (ms : List Module) (m : Module)
    → repeated_modules seen (ms ++ m ∷ []) ≡ repeated_modules seen ms ++ fault_if (is_taken seen ms m.name.bytes) DuplicateModule m.name.place
repeated_behind seen [] m =
    append-nil (fault_if (is_named m.name.bytes seen) DuplicateModule m.name.place) ∙ ap (λ b. fault_if b DuplicateModule m.name.place) (sym (or_false (is_named m.name.bytes seen)))
repeated_behind seen (x ∷ xs) m =
    ap (λ fs. fault_if (is_named x.name.bytes seen) DuplicateModule x.name.place ++ fs) (repeated_behind (x.name ∷ seen) xs m)
    ∙ sym (append_assoc (fault_if (is_named x.name.bytes seen) DuplicateModule x.name.place) (repeated_modules (x.name ∷ seen) xs) (fault_if (is_taken (x.name ∷ seen) xs m.name.bytes) DuplicateModule m.name.place))
    ∙ ap (λ b. (fault_if (is_named x.name.bytes seen) DuplicateModule x.name.place ++ repeated_modules (x.name ∷ seen) xs) ++ fault_if b DuplicateModule m.name.place) (taken_more seen x xs m.name.bytes)

-- of modules that stand first in a text
pub repeated_more : (ms : List Module) (m : Module) → repeated_modules [] (ms ++ m ∷ []) ≡ repeated_modules [] ms ++ fault_if (is_some (find_in ms m.name.bytes)) DuplicateModule m.name.place
repeated_more ms m = repeated_behind [] ms m

-- the elements before a place and the one there
pub one_more : {A B : Type 0} (f : A → B) (xs : List A) (i : ℕ) (x : A) → i < length xs → x ≡ get_or xs i x → map f (take (i + 1) xs) ≡ map f (take i xs) ++ f x ∷ []
one_more f xs i x h e =
    ap (λ n. map f (take n xs)) (add-one i) ∙ ap (map f) (take-suc xs i x h) ∙ map-append f (take i xs) (get_or xs i x ∷ []) ∙ ap (λ y. map f (take i xs) ++ f y ∷ []) (sym e)

-- what is known of modules, one after the other
abbrev AreAll : List (Pair Known) → List Module → Type 0
AreAll [] [] = Unit {0}
AreAll (p ∷ ps) (m ∷ ms) = (p.name ≡ m.name.bytes) × IsKnownOf p.value m × AreAll ps ms
AreAll _ _ = ⊥

-- the map has the first of each name of these
pub record AreModules (ps : List (Pair Known)) (ms : List Module) : Type 0 where
  pub all : List (Pair Known)
  pub first : AreFirst ps all
  pub are : AreAll all ms

pub no_modules : AreModules [] []
no_modules = record { all = []; first = record { each = λ name. refl }; are = tt }

all_more : (ps : List (Pair Known)) (ms : List Module) (p : Pair Known) (m : Module) → AreAll ps ms → p.name ≡ m.name.bytes → IsKnownOf p.value m → AreAll (ps ++ p ∷ []) (ms ++ m ∷ [])
all_more [] [] p m a e k = (e, k, tt)
all_more [] (x ∷ ms) p m a e k = absurd a
all_more (q ∷ ps) [] p m a e k = absurd a
all_more (q ∷ ps) (x ∷ ms) p m a e k = (a.0, a.1, all_more ps ms p m a.2 e k)

-- one more
pub modules_more : (ps new : List (Pair Known)) (ms : List Module) (k : Known) (m : Module) (name : List ℕ) → name ≡ m.name.bytes → IsKnownOf k m → AreModules ps ms
    → ((all : List (Pair Known)) → AreFirst ps all → AreFirst new (all ++ named name k ∷ [])) → AreModules new (ms ++ m ∷ [])
modules_more ps new ms k m name is known a more = record {
  all = a.all ++ named name k ∷ [];
  first = more a.all a.first;
  are = all_more a.all ms (named name k) m a.are is known;
}

all_found : (ps : List (Pair Known)) (ms : List Module) (name : List ℕ) → AreAll ps ms → IsOf (value_at name ps) (find_in ms name)
all_found [] [] name a = tt
all_found [] (m ∷ ms) name a = absurd a
all_found (p ∷ ps) [] name a = absurd a
all_found (p ∷ ps) (m ∷ ms) name a = by (same_name p.name name) (same_name m.name.bytes name) (ap (λ n. same_name n name) a.0) (all_found ps ms name a.2)
  where
    by : (b c : Bool) → b ≡ c → IsOf (value_at name ps) (find_in ms name) → IsOf (if b then Some p.value else value_at name ps) (if c then Some m else find_in ms name)
    by true true e r = a.1
    by false false e r = r
    by true false e r = cc
    by false true e r = cc

-- so it has what a look-up finds
pub module_found : (ps : List (Pair Known)) (ms : List Module) (name : List ℕ) → AreModules ps ms → IsOf (value_at name ps) (find_in ms name)
module_found ps ms name a = subst (λ o. IsOf o (find_in ms name)) (sym (a.first.each name)) (all_found a.all ms name a.are)

-- and whether it has one
pub module_had : (ps : List (Pair Known)) (ms : List Module) (name : List ℕ) → AreModules ps ms → is_some (value_at name ps) ≡ is_some (find_in ms name)
module_had ps ms name a = of (value_at name ps) (find_in ms name) (module_found ps ms name a)
  where
    of : (o : Option Known) (m : Option Module) → IsOf o m → is_some o ≡ is_some m
    of None None h = refl
    of (Some k) (Some m) h = refl
    of None (Some m) h = absurd h
    of (Some k) None h = absurd h

pub items_are : (is : List Item) → items_list (view.items is) ≡ map view.item is
items_are [] = refl
items_are (i ∷ is) = ap (λ r. view.item i ∷ r) (items_are is)
