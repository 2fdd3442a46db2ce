-- The name space of a function, one declaration after the other.
use Rattle.std.proofs.Common.{◌≡◌, ℕ, ◌<◌, ◌≤◌, ◌+◌, Bool, true, false, List, [], ◌∷◌, ◌++◌, map, length, get_or, take, is_some, if◌then◌else◌, Option, Some, None, refl, sym, ap, ◌∙◌, subst, append_assoc}
use Rattle.std.proofs.lemmas.List.{append-nil, take_all}
use Rattle.vs_design.specs.Clocks.{same_name}
use Rattle.vs_ast.specs.Views.{option}
use Rattle.vs_const.specs.declared.faults.Fault.{Fault}
use Rattle.vs_const.specs.declared.rules.Rule.TheVariants.{DuplicateName}
use Rattle.vs_const.specs.Faults.{fault_if, least, better}
use Rattle.vs_const.proofs.Least.{least_append}
use Rattle.vs_elaborated.specs.Statements as statements
use Rattle.vs_elaborated.specs.Statements.{find_local, repeated_locals}
use Rattle.vs_maps.specs.declared.maps.NameMap.{NameMap}
use Rattle.vs_maps.specs.Maps.{Pair, value_at, with_value}
use Rattle.vs_maps.specs.MapViews.{pairs}
use Rattle.vs_maps.proofs.NameSets.{same_is}
use Rattle.vs_bodies.specs.Locals.{later_faults}
use Rattle.vs_bodies.proofs.Declaring.{repeated_later}
use Rattle.vs_scope.specs.declared.locals.Local.{Local}
use Rattle.vs_scope.specs.Locals.{local, place_of}
use Rattle.vs_scope.specs.OwnNames.{ArePlaces}
use Rattle.vs_scope.proofs.LocalLists.{first_more}

abbrev place_at : statements.Local → ℕ
place_at v = v.name.place

abbrev or_else : {A : Type 0} → Option A → Option A → Option A
or_else None b = b
or_else (Some a) b = Some a

find_append : (vs ws : List statements.Local) (n : List ℕ) → find_local (vs ++ ws) n ≡ or_else (find_local vs n) (find_local ws n)
find_append [] ws n = refl
find_append (v ∷ vs) ws n = by (same_name v.name.bytes n) (find_append vs ws n)
  where
    by : (b : Bool) → find_local (vs ++ ws) n ≡ or_else (find_local vs n) (find_local ws n) → (if b then Some v else find_local (vs ++ ws) n) ≡ or_else (if b then Some v else find_local vs n) (find_local ws n)
    by true h = refl
    by false h = h

value_more : {V : Type 0} (key name : List ℕ) (v : V) (ps : List (Pair V)) → value_at key ps ≡ None → value_at name (with_value key v ps) ≡ or_else (value_at name ps) (if same_name key name then Some v else None)
value_more key name v [] h = refl
value_more {V} key name v (p ∷ ps) h = by (same_name p.name key) refl h (λ k. value_more key name v ps k)
  where
    found : (b : Bool) (w : V) (o r q : Option V) → o ≡ or_else r q → (if b then Some w else o) ≡ or_else (if b then Some w else r) q
    found true w o r q k = refl
    found false w o r q k = k

    by : (t : Bool) → same_name p.name key ≡ t → (if t then Some p.value else value_at key ps) ≡ None
        → (value_at key ps ≡ None → value_at name (with_value key v ps) ≡ or_else (value_at name ps) (if same_name key name then Some v else None))
        → value_at name (if t then (let q : Pair V = record { name = p.name; value = v } in q) ∷ ps else p ∷ with_value key v ps) ≡ or_else (if same_name p.name name then Some p.value else value_at name ps) (if same_name key name then Some v else None)
    by true e k rest = cc
    by false e k rest = found (same_name p.name name) p.value (value_at name (with_value key v ps)) (value_at name ps) (if same_name key name then Some v else None) (rest k)

place_or : (a b : Option statements.Local) → option place_at (or_else a b) ≡ or_else (option place_at a) (option place_at b)
place_or None b = refl
place_or (Some v) b = refl

place_if : (b : Bool) (v : statements.Local) → option place_at (if b then Some v else None) ≡ (if b then Some (place_at v) else None)
place_if true v = refl
place_if false v = refl

some_place : (o : Option statements.Local) → is_some (option place_at o) ≡ is_some o
some_place None = refl
some_place (Some v) = refl

-- a name that none before has
pub place_more : (m n : NameMap ℕ) (before : List statements.Local) (v : statements.Local) → value_at v.name.bytes (pairs m) ≡ None → pairs n ≡ with_value v.name.bytes v.name.place (pairs m) → ArePlaces m before → ArePlaces n (before ++ v ∷ [])
place_more m n before v h is a = record {
  each = λ name.
      ap (value_at name) is
      ∙ value_more v.name.bytes name v.name.place (pairs m) h
      ∙ ap (λ o. or_else o (if same_name v.name.bytes name then Some v.name.place else None)) (a.each name)
      ∙ ap (or_else (option place_at (find_local before name))) (sym (place_if (same_name v.name.bytes name) v))
      ∙ sym (place_or (find_local before name) (if same_name v.name.bytes name then Some v else None))
      ∙ ap (option place_at) (sym (find_append before (v ∷ []) name));
}

absorbed : (a : Option statements.Local) (c : Bool) (v : statements.Local) → (c ≡ true → is_some a ≡ true) → or_else a (if c then Some v else None) ≡ a
absorbed None true v h = let k : false ≡ true = h refl in cc
absorbed None false v h = refl
absorbed (Some w) c v h = refl

-- and one that one before has
pub place_again : (m : NameMap ℕ) (before : List statements.Local) (v : statements.Local) (o : Option ℕ) → o ≡ value_at v.name.bytes (pairs m) → is_some o ≡ true → ArePlaces m before → ArePlaces m (before ++ v ∷ [])
place_again m before v o is s a = record {
  each = λ name.
      a.each name ∙ ap (option place_at) (sym (absorbed (find_local before name) (same_name v.name.bytes name) v (λ e. found name e)) ∙ sym (find_append before (v ∷ []) name));
}
  where
    known : is_some (find_local before v.name.bytes) ≡ true
    known = sym (some_place (find_local before v.name.bytes)) ∙ ap is_some (sym (a.each v.name.bytes)) ∙ ap is_some (sym is) ∙ s

    found : (name : List ℕ) → same_name v.name.bytes name ≡ true → is_some (find_local before name) ≡ true
    found name e = subst (λ n. is_some (find_local before n) ≡ true) (same_is v.name.bytes name e) known

pub is_known : (m : NameMap ℕ) (before : List statements.Local) (name : List ℕ) (o : Option ℕ) → o ≡ value_at name (pairs m) → ArePlaces m before → is_some o ≡ is_some (find_local before name)
is_known m before name o e a = ap is_some (e ∙ a.each name) ∙ some_place (find_local before name)

-- ---- all of them

later_append : (before xs ys : List statements.Local) → later_faults before (xs ++ ys) ≡ later_faults before xs ++ later_faults (before ++ xs) ys
later_append before [] ys = ap (λ z. later_faults z ys) (sym (append-nil before))
later_append before (v ∷ vs) ys =
    let one = fault_if (is_some (find_local before v.name.bytes)) DuplicateName v.name.place in
    let more = before ++ v ∷ [] in
    ap (λ fs. one ++ fs) (later_append more vs ys ∙ ap (λ z. later_faults more vs ++ later_faults z ys) (append_assoc before (v ∷ []) vs))
    ∙ sym (append_assoc one (later_faults more vs) (later_faults (before ++ v ∷ vs) ys))

-- what was found of the first declarations
pub record AreOwn (all : List Local) (i : ℕ) (m : NameMap ℕ) (found : Option Fault) : Type 0 where
  pub places : ArePlaces m (map local (take i all))
  pub fault : found ≡ least (later_faults [] (map local (take i all)))

pub none_own : (all : List Local) (m : NameMap ℕ) → pairs m ≡ [] → AreOwn all 0 m None
none_own all m e = record { places = record { each = λ name. ap (value_at name) e }; fault = refl }

pub own_more : (all : List Local) (i : ℕ) (v : Local) (m n : NameMap ℕ) (found one sum : Option Fault) → i < length all → v ≡ get_or all i v → AreOwn all i m found
    → ((before : List statements.Local) → ArePlaces m before → ArePlaces n (before ++ local v ∷ [])) → ((before : List statements.Local) → ArePlaces m before → one ≡ least (later_faults before (local v ∷ []))) → sum ≡ better found one
    → AreOwn all (i + 1) n sum
own_more all i v m n found one sum h e before p f s =
    let vs = map local (take i all) in
    record {
      places = subst (ArePlaces n) (sym (first_more all i v h e)) (p vs before.places);
      fault =
          s ∙ ap (λ (x : Option Fault). better x one) before.fault ∙ ap (better (least (later_faults [] vs))) (f vs before.places)
          ∙ sym (least_append (later_faults [] vs) (later_faults vs (local v ∷ []))) ∙ ap least (sym (later_append [] vs (local v ∷ []))) ∙ ap (λ (x : List statements.Local). least (later_faults [] x)) (sym (first_more all i v h e));
    }

pub own_end : (all : List Local) (i : ℕ) (m : NameMap ℕ) (found : Option Fault) → length all ≤ i → AreOwn all i m found
    → ((name : List ℕ) → value_at name (pairs m) ≡ place_of (map local all) name) × (found ≡ least (repeated_locals [] (map local all)))
own_end all i m found h a =
    let is : map local (take i all) ≡ map local all = ap (map local) (take_all i all h) in (
      λ name. a.places.each name ∙ ap (λ (vs : List statements.Local). place_of vs name) is,
      a.fault ∙ ap (λ (vs : List statements.Local). least (later_faults [] vs)) is ∙ ap least (sym (repeated_later [] [] (map local all) (λ n. refl))),
    )
