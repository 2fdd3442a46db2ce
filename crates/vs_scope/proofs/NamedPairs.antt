-- One declaration more, in a map of names.
use Rattle.std.proofs.Common.{◌≡◌, ℕ, Bool, true, false, not, ◌||◌, List, [], ◌∷◌, map, is_some, Option, Some, None, if◌then◌else◌, refl, sym, ap, ◌∙◌, subst}
use Rattle.vs_ast.specs.Views as view
use Rattle.vs_ast.specs.Views.{option}
use Rattle.vs_design.specs.Clocks.{same_name}
use Rattle.vs_elaborated.specs.Environments as environment
use Rattle.vs_elaborated.specs.Declarations as spec
use Rattle.vs_elaborated.specs.Declarations.{are_sorts_of_one, Named}
use Rattle.vs_elaborated.specs.Parameters.{first_declared}
use Rattle.vs_scope.specs.declared.names.Declaration.{Declaration}
use Rattle.vs_scope.specs.declared.names.Entry.{Entry}
use Rattle.vs_maps.specs.Maps.{Pair, value_at, with_value}
use Rattle.vs_scope.specs.Views.{sort, declaration, declared, pair_entry}
use Rattle.vs_scope.specs.Declares.{entry_named, named_of, first_entry, ArePairsFirst, with_second, is_open, IsOpenAt, with_named, is_one_too_many}

-- a pair has the name of its first declaration
key : (scope : ℕ) (p : Pair Entry) → pair_entry p ≡ first_entry scope (named_of p) → p.name ≡ (view.name p.value.first.name.now).bytes
key scope p h = ap (λ (e : environment.Entry). e.name) h

abbrev pub is_many : spec.Declaration → Option Entry → Bool
is_many a None = false
is_many a (Some e) = not (are_sorts_of_one (sort e.first.sort) a.sort) || is_some (option declaration e.second)

pub many_at : (scope : ℕ) (a : spec.Declaration) (ps : List (Pair Entry)) → ArePairsFirst scope ps → is_one_too_many (map named_of ps) a ≡ is_many a (value_at a.name.bytes ps)
many_at scope a [] h = refl
many_at scope a (p ∷ ps) h = by (same_name p.name a.name.bytes) (ap (λ (n : List ℕ). same_name n a.name.bytes) (sym (key scope p h.0))) (many_at scope a ps h.1)
  where
    by : (t : Bool) → same_name (view.name p.value.first.name.now).bytes a.name.bytes ≡ t → is_one_too_many (map named_of ps) a ≡ is_many a (value_at a.name.bytes ps)
        → (if same_name (view.name p.value.first.name.now).bytes a.name.bytes then not (are_sorts_of_one (sort p.value.first.sort) a.sort) || is_some (option declaration p.value.second) else is_one_too_many (map named_of ps) a)
        ≡ is_many a (if t then Some p.value else value_at a.name.bytes ps)
    by true e rest = ap (λ (t : Bool). if t then not (are_sorts_of_one (sort p.value.first.sort) a.sort) || is_some (option declaration p.value.second) else is_one_too_many (map named_of ps) a) e
    by false e rest = ap (λ (t : Bool). if t then not (are_sorts_of_one (sort p.value.first.sort) a.sort) || is_some (option declaration p.value.second) else is_one_too_many (map named_of ps) a) e ∙ rest

-- what the name's entry becomes
abbrev pub named_entry : List ℕ → Entry → Named
named_entry name e = named_of (record { name = name; value = e })

-- the first of this name becomes `e`
pub named_with : (scope : ℕ) (a : spec.Declaration) (e : Entry) (ps : List (Pair Entry)) → ArePairsFirst scope ps
    → (value_at a.name.bytes ps ≡ None → named_entry a.name.bytes e ≡ record { first = a; second = None })
    → ((d : Entry) → value_at a.name.bytes ps ≡ Some d → named_entry a.name.bytes e ≡ with_second (is_open (named_entry a.name.bytes d) a) a (named_entry a.name.bytes d))
    → map named_of (with_value a.name.bytes e ps) ≡ with_named a (map named_of ps)
named_with scope a e [] h new old = ap (λ (n : Named). n ∷ []) (new refl)
named_with scope a e (p ∷ ps) h new old = by (same_name p.name a.name.bytes) (ap (λ (n : List ℕ). same_name n a.name.bytes) (sym (key scope p h.0))) new old (named_with scope a e ps h.1)
  where
    by : (t : Bool) → same_name (view.name p.value.first.name.now).bytes a.name.bytes ≡ t
        → ((if t then Some p.value else value_at a.name.bytes ps) ≡ None → named_entry a.name.bytes e ≡ record { first = a; second = None })
        → ((d : Entry) → (if t then Some p.value else value_at a.name.bytes ps) ≡ Some d → named_entry a.name.bytes e ≡ with_second (is_open (named_entry a.name.bytes d) a) a (named_entry a.name.bytes d))
        → ((value_at a.name.bytes ps ≡ None → named_entry a.name.bytes e ≡ record { first = a; second = None })
        → ((d : Entry) → value_at a.name.bytes ps ≡ Some d → named_entry a.name.bytes e ≡ with_second (is_open (named_entry a.name.bytes d) a) a (named_entry a.name.bytes d))
        → map named_of (with_value a.name.bytes e ps) ≡ with_named a (map named_of ps))
        → map named_of (if t then (let q : Pair Entry = record { name = p.name; value = e } in q) ∷ ps else p ∷ with_value a.name.bytes e ps)
        ≡ (if same_name (view.name p.value.first.name.now).bytes a.name.bytes then with_second (is_open (named_of p) a) a (named_of p) ∷ map named_of ps else named_of p ∷ with_named a (map named_of ps))
    by true m new old rest = ap (λ (n : Named). n ∷ map named_of ps) (old p.value refl) ∙ sym (ap (λ (t : Bool). if t then with_second (is_open (named_of p) a) a (named_of p) ∷ map named_of ps else named_of p ∷ with_named a (map named_of ps)) m)
    by false m new old rest = ap (λ (r : List Named). named_of p ∷ r) (rest new old) ∙ sym (ap (λ (t : Bool). if t then with_second (is_open (named_of p) a) a (named_of p) ∷ map named_of ps else named_of p ∷ with_named a (map named_of ps)) m)

-- a name that stays as it is
pub named_kept : (scope : ℕ) (a : spec.Declaration) (d : Entry) (ps : List (Pair Entry)) → ArePairsFirst scope ps → value_at a.name.bytes ps ≡ Some d → is_many a (Some d) ≡ true → with_named a (map named_of ps) ≡ map named_of ps
named_kept scope a d [] h found many = cc
named_kept scope a d (p ∷ ps) h found many = by (same_name p.name a.name.bytes) (ap (λ (n : List ℕ). same_name n a.name.bytes) (sym (key scope p h.0))) found (named_kept scope a d ps h.1)
  where
    by : (t : Bool) → same_name (view.name p.value.first.name.now).bytes a.name.bytes ≡ t → (if t then Some p.value else value_at a.name.bytes ps) ≡ Some d
        → (value_at a.name.bytes ps ≡ Some d → is_many a (Some d) ≡ true → with_named a (map named_of ps) ≡ map named_of ps)
        → (if same_name (view.name p.value.first.name.now).bytes a.name.bytes then with_second (is_open (named_of p) a) a (named_of p) ∷ map named_of ps else named_of p ∷ with_named a (map named_of ps)) ≡ named_of p ∷ map named_of ps
    by true m same rest =
        let is : p.value ≡ d = cc in
        let closed : is_open (named_of p) a ≡ false = ap not (ap (λ (x : Entry). is_many a (Some x)) is ∙ many) in
        ap (λ (t : Bool). if t then with_second (is_open (named_of p) a) a (named_of p) ∷ map named_of ps else named_of p ∷ with_named a (map named_of ps)) m ∙ ap (λ (t : Bool). with_second t a (named_of p) ∷ map named_of ps) closed
    by false m same rest = ap (λ (t : Bool). if t then with_second (is_open (named_of p) a) a (named_of p) ∷ map named_of ps else named_of p ∷ with_named a (map named_of ps)) m ∙ ap (λ (r : List Named). named_of p ∷ r) (rest same many)

-- of each name no more is known than before
pub first_with : (scope : ℕ) (name : List ℕ) (e : Entry) (ps : List (Pair Entry)) → ArePairsFirst scope ps
    → (value_at name ps ≡ None → (let p : Pair Entry = record { name = name; value = e } in pair_entry p ≡ first_entry scope (named_of p)))
    → ((d : Entry) → value_at name ps ≡ Some d → (e.first ≡ d.first) × (declared e.declared ≡ declared d.declared))
    → ArePairsFirst scope (with_value name e ps)
first_with scope name e [] h new old = (new refl, tt)
first_with scope name e (p ∷ ps) h new old = by (same_name p.name name) new old (first_with scope name e ps h.1)
  where
    by : (t : Bool) → ((if t then Some p.value else value_at name ps) ≡ None → (let p : Pair Entry = record { name = name; value = e } in pair_entry p ≡ first_entry scope (named_of p)))
        → ((d : Entry) → (if t then Some p.value else value_at name ps) ≡ Some d → (e.first ≡ d.first) × (declared e.declared ≡ declared d.declared))
        → ((value_at name ps ≡ None → (let p : Pair Entry = record { name = name; value = e } in pair_entry p ≡ first_entry scope (named_of p)))
        → ((d : Entry) → value_at name ps ≡ Some d → (e.first ≡ d.first) × (declared e.declared ≡ declared d.declared)) → ArePairsFirst scope (with_value name e ps))
        → ArePairsFirst scope (if t then (let q : Pair Entry = record { name = p.name; value = e } in q) ∷ ps else p ∷ with_value name e ps)
    by true new old rest =
        let k = old p.value refl in
        let a : (let q : Pair Entry = record { name = p.name; value = e } in pair_entry q) ≡ pair_entry p =
        ap (λ (x : Declaration). let q : environment.Entry = record { name = p.name; place = x.name.now.place; declared = declared e.declared } in q) k.0
        ∙ ap (λ (x : environment.Declared). let q : environment.Entry = record { name = p.name; place = p.value.first.name.now.place; declared = x } in q) k.1 in
        (a ∙ h.0 ∙ sym (ap (λ (x : Declaration). let q : environment.Entry = record { name = (view.name x.name.now).bytes; place = x.name.now.place; declared = first_declared scope (sort x.sort) } in q) k.0), h.1)
    by false new old rest = (h.0, rest new old)

pub not_true : (b : Bool) → not b ≡ true → b ≡ false
not_true true h = cc
not_true false h = refl

pub not_false : (b : Bool) → not b ≡ false → b ≡ true
not_false true h = refl
not_false false h = cc

pub entries_first : (scope : ℕ) (ps : List (Pair Entry)) → ArePairsFirst scope ps → map pair_entry ps ≡ map (first_entry scope) (map named_of ps)
entries_first scope [] h = refl
entries_first scope (p ∷ ps) h = ap (λ (e : environment.Entry). e ∷ map pair_entry ps) h.0 ∙ ap (λ (r : List environment.Entry). first_entry scope (named_of p) ∷ r) (entries_first scope ps h.1)

some_option : {A B : Type 0} (f : A → B) (o : Option A) → is_some (option f o) ≡ is_some o
some_option f None = refl
some_option f (Some a) = refl

-- the code's test
pub open_is : (e : Entry) (a : spec.Declaration) (r : Bool) → r ≡ not (not (are_sorts_of_one (sort e.first.sort) a.sort) || is_some e.second) → is_open (entry_named e) a ≡ r
open_is e a r k = ap (λ (t : Bool). not (not (are_sorts_of_one (sort e.first.sort) a.sort) || t)) (some_option declaration e.second) ∙ sym k

-- what is found of a name that is declared again
pub second_at : (first d : Declaration) (o : Option Entry) → IsOpenAt first d o → (e : Entry) × (o ≡ Some e) × (e.first ≡ first) × (is_open (entry_named e) (declaration d) ≡ true)
second_at first d None h = absurd h
second_at first d (Some e) h = (e, refl, h.0, h.1)

-- no more is known of it than of any other
pub declared_at : (scope : ℕ) (name : List ℕ) (ps : List (Pair Entry)) (e : Entry) → ArePairsFirst scope ps → value_at name ps ≡ Some e → declared e.declared ≡ first_declared scope (sort e.first.sort)
declared_at scope name [] e h k = cc
declared_at scope name (p ∷ ps) e h k = by (same_name p.name name) k (declared_at scope name ps e h.1)
  where
    by : (t : Bool) → (if t then Some p.value else value_at name ps) ≡ Some e → (value_at name ps ≡ Some e → declared e.declared ≡ first_declared scope (sort e.first.sort)) → declared e.declared ≡ first_declared scope (sort e.first.sort)
    by true k rest = let same : p.value ≡ e = cc in subst (λ (x : Entry). declared x.declared ≡ first_declared scope (sort x.first.sort)) same (ap (λ (x : environment.Entry). x.declared) h.0)
    by false k rest = rest k
