-- What named blocks declare, one declaration after the other.
use Rattle.std.proofs.Common.{◌≡◌, ℕ, ◌+◌, ◌<◌, ◌≤◌, Bool, true, false, ◌||◌, ◌&&◌, ◌==◌, not, List, [], ◌∷◌, ◌++◌, map, flat_map, length, get_or, take, is_some, if◌then◌else◌, Option, Some, None, refl, sym, ap, ◌∙◌, subst, append_assoc, add-one, arith}
use Rattle.std.proofs.lemmas.List.{append-nil, map-append, take_all}
use Rattle.std.proofs.lemmas.Grind.{flat_map-append}
use Rattle.std.proofs.Math.Seq.{take-suc}
use Rattle.std.specs.Borrow.{Bor}
use Rattle.std.specs.List.{list_any}
use Rattle.std.specs.Option.{option_copied}
use Rattle.vs_design.specs.Clocks.{same_name}
use Rattle.vs_grammar.specs.Trees as tree
use Rattle.vs_ast.specs.declared.names.Name.{Name}
use Rattle.vs_ast.specs.declared.types.Variables.{Variables}
use Rattle.vs_ast.specs.Views as view
use Rattle.vs_const.specs.declared.faults.Fault.{Fault}
use Rattle.vs_const.specs.declared.rules.Rule.TheVariants.{DuplicateName, WrongKind}
use Rattle.vs_const.specs.Faults.{fault, fault_if, least, better}
use Rattle.vs_const.proofs.Least.{least_append}
use Rattle.vs_elaborated.specs.Statements.{Local, locals_of, find_local, is_integer, repeated_locals, untaken_locals}
use Rattle.vs_maps.specs.declared.maps.NameMap.{NameMap}
use Rattle.vs_maps.specs.Maps.{Pair, value_at, with_value}
use Rattle.vs_maps.specs.MapViews.{pairs}
use Rattle.vs_maps.proofs.NameSets.{same_is}
use Rattle.vs_bodies.specs.declared.layers.Local.{Local as Kept}
use Rattle.vs_bodies.specs.Layers.{local_of, AreLocals}
use Rattle.vs_bodies.specs.Locals.{local, locals, later_faults}

eqb_sym : (m n : ℕ) → (m == n) ≡ (n == m)
eqb_sym m n = grind arith

pub same_sym : (a b : List ℕ) → same_name a b ≡ same_name b a
same_sym [] [] = refl
same_sym [] (y ∷ ys) = refl
same_sym (x ∷ xs) [] = refl
same_sym (x ∷ xs) (y ∷ ys) = ap (λ r. (x == y) && r) (same_sym xs ys) ∙ ap (λ r. r && same_name ys xs) (eqb_sym x y)

-- ---- look-ups

abbrev or_else : {A : Type 0} → Option A → Option A → Option A
or_else None b = b
or_else (Some a) b = Some a

find_append : (vs ws : List Local) (n : List ℕ) → find_local (vs ++ ws) n ≡ or_else (find_local vs n) (find_local ws n)
find_append [] ws n = refl
find_append (v ∷ vs) ws n = by (same_name v.name.bytes n) (find_append vs ws n)
  where
    by : (b : Bool) → find_local (vs ++ ws) n ≡ or_else (find_local vs n) (find_local ws n) → (if b then Some v else find_local (vs ++ ws) n) ≡ or_else (if b then Some v else find_local vs n) (find_local ws n)
    by true h = refl
    by false h = h

-- ---- a name more

-- one that none before has
value_more : {V : Type 0} (key name : List ℕ) (v : V) (ps : List (Pair V)) → value_at key ps ≡ None → value_at name (with_value key v ps) ≡ or_else (value_at name ps) (if same_name key name then Some v else None)
value_more key name v [] h = refl
value_more {V} key name v (p ∷ ps) h = by (same_name p.name key) refl h (λ k. value_more key name v ps k)
  where
    found : (b : Bool) (w : V) (o r q : Option V) → o ≡ or_else r q → (if b then Some w else o) ≡ or_else (if b then Some w else r) q
    found true w o r q k = refl
    found false w o r q k = k

    by : (t : Bool) → same_name p.name key ≡ t → (if t then Some p.value else value_at key ps) ≡ None
        → (value_at key ps ≡ None → value_at name (with_value key v ps) ≡ or_else (value_at name ps) (if same_name key name then Some v else None))
        → value_at name (if t then (let q : Pair V = record { name = p.name; value = v } in q) ∷ ps else p ∷ with_value key v ps) ≡ or_else (if same_name p.name name then Some p.value else value_at name ps) (if same_name key name then Some v else None)
    by true e k rest = cc
    by false e k rest = found (same_name p.name name) p.value (value_at name (with_value key v ps)) (value_at name ps) (if same_name key name then Some v else None) (rest k)

-- look-ups of what is kept
kept_or : (a b : Option Local) → view.option local_of (or_else a b) ≡ or_else (view.option local_of a) (view.option local_of b)
kept_or None b = refl
kept_or (Some v) b = refl

kept_if : (b : Bool) (v : Local) → view.option local_of (if b then Some v else None) ≡ (if b then Some (local_of v) else None)
kept_if true v = refl
kept_if false v = refl

none_kept : (o : Option Local) → view.option local_of o ≡ None → o ≡ None
none_kept None h = refl
none_kept (Some v) h = cc

some_kept : (o : Option Local) → is_some (view.option local_of o) ≡ is_some o
some_kept None = refl
some_kept (Some v) = refl

-- one variable more, of a name that none before has
pub local_more : (m n : NameMap Kept) (before : List Local) (v : Local) (kept : Kept) → value_at v.name.bytes (pairs m) ≡ None → kept ≡ local_of v → pairs n ≡ with_value v.name.bytes kept (pairs m) → AreLocals m before → AreLocals n (before ++ v ∷ [])
local_more m n before v kept h k is a = record {
  each = λ name.
      ap (value_at name) is
      ∙ value_more v.name.bytes name kept (pairs m) h
      ∙ ap (λ o. or_else o (if same_name v.name.bytes name then Some kept else None)) (a.each name)
      ∙ ap (λ (l : Kept). or_else (view.option local_of (find_local before name)) (if same_name v.name.bytes name then Some l else None)) k
      ∙ ap (or_else (view.option local_of (find_local before name))) (sym (kept_if (same_name v.name.bytes name) v))
      ∙ sym (kept_or (find_local before name) (if same_name v.name.bytes name then Some v else None))
      ∙ ap (view.option local_of) (sym (find_append before (v ∷ []) name));
}

absorbed : (a b : Option Local) (c : Bool) (v : Local) → (c ≡ true → is_some a ≡ true) → or_else a (if c then Some v else None) ≡ a
absorbed None b true v h = let k : false ≡ true = h refl in cc
absorbed None b false v h = refl
absorbed (Some w) b c v h = refl

-- one variable more, of a name that one before has
pub local_again : (m : NameMap Kept) (before : List Local) (v : Local) (o : Option Kept) → o ≡ value_at v.name.bytes (pairs m) → is_some o ≡ true → AreLocals m before → AreLocals m (before ++ v ∷ [])
local_again m before v o is s a = record {
  each = λ name.
      a.each name
      ∙ ap (view.option local_of) (sym (absorbed (find_local before name) None (same_name v.name.bytes name) v (λ e. found name e)) ∙ sym (find_append before (v ∷ []) name));
}
  where
    known : is_some (find_local before v.name.bytes) ≡ true
    known = sym (some_kept (find_local before v.name.bytes)) ∙ ap is_some (sym (a.each v.name.bytes)) ∙ ap is_some (sym is) ∙ s

    found : (name : List ℕ) → same_name v.name.bytes name ≡ true → is_some (find_local before name) ≡ true
    found name e = subst (λ n. is_some (find_local before n) ≡ true) (same_is v.name.bytes name e) known

-- whether one before has the name
pub is_known : (m : NameMap Kept) (before : List Local) (name : List ℕ) (o : Option Kept) → o ≡ value_at name (pairs m) → AreLocals m before → is_some o ≡ is_some (find_local before name)
is_known m before name o e a = ap is_some (e ∙ a.each name) ∙ some_kept (find_local before name)

pub some_copied : (r : Option (Bor Kept)) → is_some (option_copied r) ≡ is_some r
some_copied None = refl
some_copied (Some b) = refl

pub none_of : (o : Option Kept) → is_some o ≡ false → o ≡ None
none_of None h = refl
none_of (Some k) h = cc

pub kept_is : (v : Local) (kept : Kept) → kept.place ≡ v.name.place → kept ≡ local_of v
kept_is v kept e = ap (λ p. let k : Kept = record { place = p } in k) e

-- ---- faults

one_later : (before : List Local) (v : Local) → least (later_faults before (v ∷ [])) ≡ least (fault_if (is_some (find_local before v.name.bytes)) DuplicateName v.name.place)
one_later before v = ap least (append-nil (fault_if (is_some (find_local before v.name.bytes)) DuplicateName v.name.place))

pub known_fault : (before : List Local) (v : Local) (f : Option Fault) → is_some (find_local before v.name.bytes) ≡ true → f ≡ least (fault DuplicateName v.name.place) → f ≡ least (later_faults before (v ∷ []))
known_fault before v f h e = e ∙ ap (λ b. least (fault_if b DuplicateName v.name.place)) (sym h) ∙ sym (one_later before v)

pub new_fault : (before : List Local) (v : Local) (f : Option Fault) → is_some (find_local before v.name.bytes) ≡ false → f ≡ None → f ≡ least (later_faults before (v ∷ []))
new_fault before v f h e = e ∙ ap (λ b. least (fault_if b DuplicateName v.name.place)) (sym h) ∙ sym (one_later before v)

later_append : (before xs ys : List Local) → later_faults before (xs ++ ys) ≡ later_faults before xs ++ later_faults (before ++ xs) ys
later_append before [] ys = ap (λ z. later_faults z ys) (sym (append-nil before))
later_append before (v ∷ vs) ys =
    let one = fault_if (is_some (find_local before v.name.bytes)) DuplicateName v.name.place in
    let more = before ++ v ∷ [] in
    ap (λ fs. one ++ fs) (later_append more vs ys ∙ ap (λ z. later_faults more vs ++ later_faults z ys) (append_assoc before (v ∷ []) vs))
    ∙ sym (append_assoc one (later_faults more vs) (later_faults (before ++ v ∷ vs) ys))

some_or : (a b : Option Local) → is_some (or_else a b) ≡ (is_some a || is_some b)
some_or None b = refl
some_or (Some v) b = refl

some_if : (b : Bool) (v : Local) → is_some (if b then Some v else None) ≡ b
some_if true v = refl
some_if false v = refl

or_swap : (a b : Bool) → (a || b) ≡ (b || a)
or_swap true true = refl
or_swap true false = refl
or_swap false true = refl
or_swap false false = refl

-- a name is repeated where one before has it
pub repeated_later : (seen : List (List ℕ)) (before vs : List Local) → ((n : List ℕ) → list_any (same_name n) seen ≡ is_some (find_local before n)) → repeated_locals seen vs ≡ later_faults before vs
repeated_later seen before [] h = refl
repeated_later seen before (v ∷ vs) h =
    ap (λ b. fault_if b DuplicateName v.name.place ++ repeated_locals (v.name.bytes ∷ seen) vs) (h v.name.bytes)
    ∙ ap (λ fs. fault_if (is_some (find_local before v.name.bytes)) DuplicateName v.name.place ++ fs) (repeated_later (v.name.bytes ∷ seen) (before ++ v ∷ []) vs more)
  where
    more : (n : List ℕ) → (same_name n v.name.bytes || list_any (same_name n) seen) ≡ is_some (find_local (before ++ v ∷ []) n)
    more n =
        ap (λ b. same_name n v.name.bytes || b) (h n)
        ∙ or_swap (same_name n v.name.bytes) (is_some (find_local before n))
        ∙ ap (λ b. is_some (find_local before n) || b) (same_sym n v.name.bytes ∙ sym (some_if (same_name v.name.bytes n) v))
        ∙ sym (some_or (find_local before n) (if same_name v.name.bytes n then Some v else None))
        ∙ ap is_some (sym (find_append before (v ∷ []) n))

-- ---- the names of one declaration

-- those of so many names
abbrev pub first_locals : tree.ValueType → List Name → ℕ → List Local
first_locals t names i = map (local t) (take i names)

-- what was found of the first names
pub record AreAdded (t : tree.ValueType) (names : List Name) (old new : NameMap Kept) (i : ℕ) (found : Option Fault) : Type 0 where
  pub locals : (before : List Local) → AreLocals old before → AreLocals new (before ++ first_locals t names i)
  pub fault : (before : List Local) → AreLocals old before → found ≡ least (later_faults before (first_locals t names i))

none_more : (m : NameMap Kept) (before : List Local) → AreLocals m before → AreLocals m (before ++ [])
none_more m before a = subst (λ z. AreLocals m z) (sym (append-nil before)) a

pub none_added : (t : tree.ValueType) (names : List Name) (m : NameMap Kept) → AreAdded t names m m 0 None
none_added t names m = record { locals = λ before a. none_more m before a; fault = λ before a. refl }

first_more : (t : tree.ValueType) (names : List Name) (i : ℕ) (n : Name) → i < length names → n ≡ get_or names i n → first_locals t names (i + 1) ≡ first_locals t names i ++ local t n ∷ []
first_more t names i n h e =
    ap (λ k. map (local t) (take k names)) (add-one i) ∙ ap (map (local t)) (take-suc names i n h) ∙ map-append (local t) (take i names) (get_or names i n ∷ []) ∙ ap (λ y. map (local t) (take i names) ++ local t y ∷ []) (sym e)

pub name_added : (t : tree.ValueType) (names : List Name) (old mid new : NameMap Kept) (i : ℕ) (n : Name) (found one sum : Option Fault) → i < length names → n ≡ get_or names i n
    → ((before : List Local) (v : Local) → v.name ≡ view.name n → AreLocals mid before → AreLocals new (before ++ v ∷ []))
    → ((before : List Local) (v : Local) → v.name ≡ view.name n → AreLocals mid before → one ≡ least (later_faults before (v ∷ [])))
    → sum ≡ better found one → AreAdded t names old mid i found → AreAdded t names old new (i + 1) sum
name_added t names old mid new i n found one sum h e l f s before_it = record {
  locals = λ before a.
      subst (AreLocals new) (append_assoc before (first_locals t names i) (local t n ∷ []) ∙ ap (λ z. before ++ z) (sym (first_more t names i n h e)))
      (l (before ++ first_locals t names i) (local t n) refl (before_it.locals before a));
  fault = λ before a.
      s ∙ ap (λ z. better z one) (before_it.fault before a) ∙ ap (better (least (later_faults before (first_locals t names i)))) (f (before ++ first_locals t names i) (local t n) refl (before_it.locals before a))
      ∙ sym (least_append (later_faults before (first_locals t names i)) (later_faults (before ++ first_locals t names i) (local t n ∷ [])))
      ∙ ap least (sym (later_append before (first_locals t names i) (local t n ∷ [])))
      ∙ ap (λ z. least (later_faults before z)) (sym (first_more t names i n h e));
}

fused : (t : tree.ValueType) (names : List Name) → map (local t) names ≡ map (λ (n : tree.Name). (let v : Local = record { name = n; value_type = t } in v)) (map view.name names)
fused t [] = refl
fused t (n ∷ names) = ap (λ vs. local t n ∷ vs) (fused t names)

all_names : (v : Variables) (i : ℕ) → length v.names.items ≤ i → first_locals (view.value_type v.value_type) v.names.items i ≡ locals v
all_names v i h = ap (map (local (view.value_type v.value_type))) (take_all i v.names.items h) ∙ fused (view.value_type v.value_type) v.names.items

pub all_added : (v : Variables) (names : List Name) (old new : NameMap Kept) (i : ℕ) (found : Option Fault) → names ≡ v.names.items → length names ≤ i → AreAdded (view.value_type v.value_type) names old new i found
    → ((before : List Local) → AreLocals old before → AreLocals new (before ++ locals v)) × ((before : List Local) → AreLocals old before → found ≡ least (later_faults before (locals v)))
all_added v names old new i found e h a = by (subst (λ ns. length ns ≤ i) e h) (subst (λ ns. AreAdded (view.value_type v.value_type) ns old new i found) e a)
  where
    by : length v.names.items ≤ i → AreAdded (view.value_type v.value_type) v.names.items old new i found
        → ((before : List Local) → AreLocals old before → AreLocals new (before ++ locals v)) × ((before : List Local) → AreLocals old before → found ≡ least (later_faults before (locals v)))
    by k b = (
      λ before l. subst (λ z. AreLocals new (before ++ z)) (all_names v i k) (b.locals before l),
      λ before l. b.fault before l ∙ ap (λ z. least (later_faults before z)) (all_names v i k),
    )

-- ---- all declarations

abbrev pub declared_in : List Variables → List Local
declared_in vs = flat_map locals vs

pub scope_declares : (vs : List Variables) → declared_in vs ≡ flat_map locals_of (map view.variables vs)
scope_declares [] = refl
scope_declares (v ∷ vs) = ap (λ z. locals v ++ z) (scope_declares vs)

untaken_append : (b : Bool) (xs ys : List Local) → untaken_locals b (xs ++ ys) ≡ untaken_locals b xs ++ untaken_locals b ys
untaken_append true xs ys = refl
untaken_append false xs ys = flat_map-append (λ (v : Local). fault_if (not (is_integer v)) WrongKind v.name.place) xs ys

-- what was found of the first declarations
pub record AreDeclared (takes_variables : Bool) (vs : List Variables) (m : NameMap Kept) (i : ℕ) (repeated untaken : Option Fault) : Type 0 where
  pub locals : AreLocals m (declared_in (take i vs))
  pub repeated_is : repeated ≡ least (later_faults [] (declared_in (take i vs)))
  pub untaken_is : untaken ≡ least (untaken_locals takes_variables (declared_in (take i vs)))

nothing_untaken : (b : Bool) → untaken_locals b [] ≡ []
nothing_untaken true = refl
nothing_untaken false = refl

pub none_declared : (b : Bool) (vs : List Variables) (m : NameMap Kept) → pairs m ≡ [] → AreDeclared b vs m 0 None None
none_declared b vs m e = record {
  locals = record { each = λ name. ap (value_at name) e };
  repeated_is = refl;
  untaken_is = ap least (sym (nothing_untaken b));
}

declared_more : (vs : List Variables) (i : ℕ) (v : Variables) → i < length vs → v ≡ get_or vs i v → declared_in (take (i + 1) vs) ≡ declared_in (take i vs) ++ locals v
declared_more vs i v h e =
    ap (λ k. declared_in (take k vs)) (add-one i) ∙ ap declared_in (take-suc vs i v h) ∙ flat_map-append locals (take i vs) (get_or vs i v ∷ [])
    ∙ ap (λ z. declared_in (take i vs) ++ z) (append-nil (locals (get_or vs i v)) ∙ ap locals (sym e))

pub variables_declared : (b : Bool) (vs : List Variables) (m n : NameMap Kept) (i : ℕ) (v : Variables) (repeated found sum untaken own all : Option Fault) → i < length vs → v ≡ get_or vs i v
    → ((before : List Local) → AreLocals m before → AreLocals n (before ++ locals v)) → ((before : List Local) → AreLocals m before → found ≡ least (later_faults before (locals v)))
    → sum ≡ better repeated found → own ≡ least (untaken_locals b (locals v)) → all ≡ better untaken own → AreDeclared b vs m i repeated untaken → AreDeclared b vs n (i + 1) sum all
variables_declared b vs m n i v repeated found sum untaken own all h e l f s o u before =
    let first = declared_in (take i vs) in
    let more : declared_in (take (i + 1) vs) ≡ first ++ locals v = declared_more vs i v h e in
    record {
      locals = subst (AreLocals n) (sym more) (l first before.locals);
      repeated_is =
          s ∙ ap (λ z. better z found) before.repeated_is ∙ ap (better (least (later_faults [] first))) (f first before.locals) ∙ sym (least_append (later_faults [] first) (later_faults first (locals v)))
          ∙ ap least (sym (later_append [] first (locals v))) ∙ ap (λ z. least (later_faults [] z)) (sym more);
      untaken_is =
          u ∙ ap (λ z. better z own) before.untaken_is ∙ ap (better (least (untaken_locals b first))) o ∙ sym (least_append (untaken_locals b first) (untaken_locals b (locals v)))
          ∙ ap least (sym (untaken_append b first (locals v))) ∙ ap (λ z. least (untaken_locals b z)) (sym more);
    }

pub all_declared : (b : Bool) (vs all : List Variables) (m : NameMap Kept) (i : ℕ) (repeated untaken sum : Option Fault) → vs ≡ all → length vs ≤ i → sum ≡ better repeated untaken → AreDeclared b vs m i repeated untaken
    → AreLocals m (flat_map locals_of (map view.variables all)) × (sum ≡ least (repeated_locals [] (flat_map locals_of (map view.variables all)) ++ untaken_locals b (flat_map locals_of (map view.variables all))))
all_declared b vs all m i repeated untaken sum e h s d =
    let is : declared_in (take i vs) ≡ flat_map locals_of (map view.variables all) = ap declared_in (take_all i vs h) ∙ ap declared_in e ∙ scope_declares all in
    let ls = flat_map locals_of (map view.variables all) in (
      subst (AreLocals m) is d.locals,
      s ∙ ap (λ z. better z untaken) (d.repeated_is ∙ ap (λ z. least (later_faults [] z)) is ∙ ap least (sym (repeated_later [] [] ls (λ n. refl))))
          ∙ ap (better (least (repeated_locals [] ls))) (d.untaken_is ∙ ap (λ z. least (untaken_locals b z)) is)
          ∙ sym (least_append (repeated_locals [] ls) (untaken_locals b ls)),
    )

-- ---- variables where none is taken

pub record AreUntaken (names : List Name) (i : ℕ) (found : Option Fault) : Type 0 where
  pub first : found ≡ least (flat_map (λ (n : Name). fault WrongKind n.place) (take i names))

pub none_untaken : (names : List Name) → AreUntaken names 0 None
none_untaken names = record { first = refl }

pub name_untaken : (names : List Name) (i : ℕ) (n : Name) (found one sum : Option Fault) → i < length names → n ≡ get_or names i n → one ≡ least (fault WrongKind n.place) → sum ≡ better found one → AreUntaken names i found → AreUntaken names (i + 1) sum
name_untaken names i n found one sum h e o s before =
    let at = λ (x : Name). fault WrongKind x.place in
    record {
      first =
          s ∙ ap (λ z. better z one) before.first ∙ ap (better (least (flat_map at (take i names)))) o ∙ sym (least_append (flat_map at (take i names)) (fault WrongKind n.place))
          ∙ ap (λ z. least (flat_map at (take i names) ++ z)) (ap (λ (x : Name). fault WrongKind x.place) e ∙ sym (append-nil (fault WrongKind (get_or names i n).place)))
          ∙ ap least (sym (flat_map-append at (take i names) (get_or names i n ∷ []))) ∙ ap (λ ns. least (flat_map at ns)) (sym (take-suc names i n h)) ∙ ap (λ k. least (flat_map at (take k names))) (sym (add-one i));
    }

untaken_names : (t : tree.ValueType) (names : List Name) (b : Bool) → b ≡ false → ((n : Name) → is_integer (local t n) ≡ false) → untaken_locals b (map (local t) names) ≡ flat_map (λ (n : Name). fault WrongKind n.place) names
untaken_names t names true e h = cc
untaken_names t [] false e h = refl
untaken_names t (n ∷ names) false e h =
    ap (λ b. fault_if (not b) WrongKind n.place ++ untaken_locals false (map (local t) names)) (h n) ∙ ap (λ z. fault WrongKind n.place ++ z) (untaken_names t names false refl h)

pub all_untaken : (v : Variables) (names : List Name) (b : Bool) (i : ℕ) (found : Option Fault) → names ≡ v.names.items → length names ≤ i → b ≡ false → ((n : Name) → is_integer (local (view.value_type v.value_type) n) ≡ false) → AreUntaken names i found
    → found ≡ least (untaken_locals b (locals v))
all_untaken v names b i found e h k g a =
    let t = view.value_type v.value_type in
    a.first ∙ ap (λ (ns : List Name). least (flat_map (λ (n : Name). fault WrongKind n.place) ns)) (take_all i names h ∙ e)
    ∙ ap least (sym (untaken_names t v.names.items b k g)) ∙ ap (λ z. least (untaken_locals b z)) (fused t v.names.items)

integers_taken : (t : tree.ValueType) (names : List Name) (b : Bool) → ((n : Name) → is_integer (local t n) ≡ true) → untaken_locals b (map (local t) names) ≡ []
integers_taken t names true h = refl
integers_taken t [] false h = refl
integers_taken t (n ∷ names) false h = ap (λ b. fault_if (not b) WrongKind n.place ++ untaken_locals false (map (local t) names)) (h n) ∙ integers_taken t names false h

-- integers are taken everywhere, and in a function all are
pub taken : (v : Variables) (b integers : Bool) → (b || integers) ≡ true → ((n : Name) → integers ≡ is_integer (local (view.value_type v.value_type) n)) → untaken_locals b (locals v) ≡ []
taken v true integers h k = refl
taken v false integers h k =
    let t = view.value_type v.value_type in ap (untaken_locals false) (sym (fused t v.names.items)) ∙ integers_taken t v.names.items false (λ n. sym (k n) ∙ h)

pub neither : (a b : Bool) → (a || b) ≡ false → (a ≡ false) × (b ≡ false)
neither true b h = cc
neither false b h = (refl, h)
