-- What becomes known of one name, in a map of names.
use Rattle.std.proofs.Common.{◌≡◌, ℕ, Bool, true, false, List, [], ◌∷◌, map, Some, None, if◌then◌else◌, refl, sym, ap, ◌∙◌, subst}
use Rattle.vs_design.specs.Clocks.{same_name}
use Rattle.vs_elaborated.specs.Environments as environment
use Rattle.vs_elaborated.specs.Declarations.{Named}
use Rattle.vs_scope.specs.declared.names.Declaration.{Declaration}
use Rattle.vs_scope.specs.declared.names.Entry.{Entry}
use Rattle.vs_maps.specs.Maps.{Pair, value_at, with_value, IsNew, AreDistinct}
use Rattle.vs_elaborated.specs.Parameters.{valued}
use Rattle.vs_scope.specs.Views.{declared, pair_entry, is_later}
use Rattle.vs_scope.specs.Declares.{entry_named, named_of}
use Rattle.vs_scope.specs.declared.names.Names.{Names}
use Rattle.vs_maps.specs.MapViews.{pairs}
use Rattle.vs_scope.specs.Complete.{ArePairsIncomplete, IsStill, shape_kept}
use Rattle.vs_scope.proofs.Entries.{same_is}

-- of each of this name more is known
abbrev pub changed : (environment.Declared → environment.Declared) → List ℕ → List environment.Entry → List environment.Entry
changed f name es = map (λ (e : environment.Entry). if same_name e.name name then record e { declared = f e.declared } else e) es

new_kept : (f : environment.Declared → environment.Declared) (name : List ℕ) (ps : List (Pair Entry)) → IsNew name ps → map pair_entry ps ≡ changed f name (map pair_entry ps)
new_kept f name [] h = refl
new_kept f name (p ∷ ps) h =
    ap (λ (r : List environment.Entry). pair_entry p ∷ r) (new_kept f name ps h.1)
    ∙ sym (ap (λ (t : Bool). (if t then record (pair_entry p) { declared = f (declared p.value.declared) } else pair_entry p) ∷ changed f name (map pair_entry ps)) h.0)

pub changed_none : (f : environment.Declared → environment.Declared) (name : List ℕ) (ps : List (Pair Entry)) → value_at name ps ≡ None → map pair_entry ps ≡ changed f name (map pair_entry ps)
changed_none f name [] h = refl
changed_none f name (p ∷ ps) h = by (same_name p.name name) h (changed_none f name ps)
  where
    by : (t : Bool) → (if t then Some p.value else value_at name ps) ≡ None → (value_at name ps ≡ None → map pair_entry ps ≡ changed f name (map pair_entry ps))
        → pair_entry p ∷ map pair_entry ps ≡ (if t then record (pair_entry p) { declared = f (declared p.value.declared) } else pair_entry p) ∷ changed f name (map pair_entry ps)
    by true h rest = cc
    by false h rest = ap (λ (r : List environment.Entry). pair_entry p ∷ r) (rest h)

pub changed_some : (f : environment.Declared → environment.Declared) (name : List ℕ) (e new : Entry) (ps : List (Pair Entry)) → AreDistinct (with_value name new ps) → value_at name ps ≡ Some e
    → new.first ≡ e.first → declared new.declared ≡ f (declared e.declared) → map pair_entry (with_value name new ps) ≡ changed f name (map pair_entry ps)
changed_some f name e new [] d h k m = cc
changed_some f name e new (p ∷ ps) d h k m = by (same_name p.name name) refl d h (λ d h. changed_some f name e new ps d h k m)
  where
    by : (t : Bool) → same_name p.name name ≡ t → AreDistinct (if t then (let q : Pair Entry = record { name = p.name; value = new } in q) ∷ ps else p ∷ with_value name new ps) → (if t then Some p.value else value_at name ps) ≡ Some e
        → (AreDistinct (with_value name new ps) → value_at name ps ≡ Some e → map pair_entry (with_value name new ps) ≡ changed f name (map pair_entry ps))
        → map pair_entry (if t then (let q : Pair Entry = record { name = p.name; value = new } in q) ∷ ps else p ∷ with_value name new ps)
        ≡ (if t then record (pair_entry p) { declared = f (declared p.value.declared) } else pair_entry p) ∷ changed f name (map pair_entry ps)
    by true s d h rest =
        let is : p.value ≡ e = cc in
        ap (λ (r : List environment.Entry). pair_entry (record { name = p.name; value = new }) ∷ r) (new_kept f name ps (subst (λ (n : List ℕ). IsNew n ps) (same_is p.name name s) d.0))
        ∙ ap (λ (x : Declaration). (let q : environment.Entry = record { name = p.name; place = x.name.now.place; declared = declared new.declared } in q) ∷ changed f name (map pair_entry ps)) (k ∙ ap (λ (x : Entry). x.first) (sym is))
        ∙ ap (λ (x : environment.Declared). (let q : environment.Entry = record { name = p.name; place = p.value.first.name.now.place; declared = x } in q) ∷ changed f name (map pair_entry ps)) (m ∙ ap (λ (x : Entry). f (declared x.declared)) (sym is))
    by false s d h rest = ap (λ (r : List environment.Entry). pair_entry p ∷ r) (rest d.1 h)

pub named_changed : (name : List ℕ) (e new : Entry) (ps : List (Pair Entry)) → value_at name ps ≡ Some e → entry_named new ≡ entry_named e → map named_of (with_value name new ps) ≡ map named_of ps
named_changed name e new [] h k = cc
named_changed name e new (p ∷ ps) h k = by (same_name p.name name) h (λ h. named_changed name e new ps h k)
  where
    by : (t : Bool) → (if t then Some p.value else value_at name ps) ≡ Some e → (value_at name ps ≡ Some e → map named_of (with_value name new ps) ≡ map named_of ps)
        → map named_of (if t then (let q : Pair Entry = record { name = p.name; value = new } in q) ∷ ps else p ∷ with_value name new ps) ≡ named_of p ∷ map named_of ps
    by true h rest = let is : p.value ≡ e = cc in ap (λ (n : Named). n ∷ map named_of ps) (k ∙ ap entry_named (sym is))
    by false h rest = ap (λ (r : List Named). named_of p ∷ r) (rest h)

pub changed_kept : (f : environment.Declared → environment.Declared) (name : List ℕ) (e : Entry) (ps : List (Pair Entry)) → AreDistinct ps → value_at name ps ≡ Some e
    → f (declared e.declared) ≡ declared e.declared → map pair_entry ps ≡ changed f name (map pair_entry ps)
changed_kept f name e [] d h m = refl
changed_kept f name e (p ∷ ps) d h m = by (same_name p.name name) refl h (λ h. changed_kept f name e ps d.1 h m)
  where
    by : (t : Bool) → same_name p.name name ≡ t → (if t then Some p.value else value_at name ps) ≡ Some e → (value_at name ps ≡ Some e → map pair_entry ps ≡ changed f name (map pair_entry ps))
        → pair_entry p ∷ map pair_entry ps ≡ (if t then record (pair_entry p) { declared = f (declared p.value.declared) } else pair_entry p) ∷ changed f name (map pair_entry ps)
    by true s h rest =
        let is : p.value ≡ e = cc in
        let same : f (declared p.value.declared) ≡ declared p.value.declared = subst (λ (x : Entry). f (declared x.declared) ≡ declared x.declared) (sym is) m in
        ap (λ (r : List environment.Entry). pair_entry p ∷ r) (new_kept f name ps (subst (λ (n : List ℕ). IsNew n ps) (same_is p.name name s) d.0))
        ∙ ap (λ (x : environment.Declared). (let q : environment.Entry = record { name = p.name; place = p.value.first.name.now.place; declared = x } in q) ∷ changed f name (map pair_entry ps)) (sym same)
    by false s h rest = ap (λ (r : List environment.Entry). pair_entry p ∷ r) (rest h)

pub valued_kept : (value d : environment.Declared) → is_later d ≡ false → valued value d ≡ d
valued_kept value environment.Later h = cc
valued_kept value (environment.OfSignal s) h = refl
valued_kept value (environment.OfParameter v r) h = refl
valued_kept value (environment.OfFunction f) h = refl
valued_kept value environment.OfGenvar h = refl
valued_kept value (environment.OfInteger owner) h = refl
valued_kept value environment.OfScope h = refl

pub valued_later : (value d : environment.Declared) → is_later d ≡ true → value ≡ valued value d
valued_later value environment.Later h = refl
valued_later value (environment.OfSignal s) h = cc
valued_later value (environment.OfParameter v r) h = cc
valued_later value (environment.OfFunction f) h = cc
valued_later value environment.OfGenvar h = cc
valued_later value (environment.OfInteger owner) h = cc
valued_later value environment.OfScope h = cc

-- of each of this name no more is known
pub unchanged : (name : List ℕ) (es : List environment.Entry) → changed (λ d. d) name es ≡ es
unchanged name [] = refl
unchanged name (e ∷ es) = by (same_name e.name name) ∙ ap (λ (r : List environment.Entry). e ∷ r) (unchanged name es)
  where
    by : (b : Bool) → (if b then record e { declared = e.declared } else e) ∷ changed (λ d. d) name es ≡ e ∷ changed (λ d. d) name es
    by true = refl
    by false = refl

-- ---- no function is complete

pub incomplete_with : (name : List ℕ) (e : Entry) (ps : List (Pair Entry)) → shape_kept [] e.declared ≡ None → ArePairsIncomplete ps → ArePairsIncomplete (with_value name e ps)
incomplete_with name e [] h k = (h, tt)
incomplete_with name e (p ∷ ps) h k = by (same_name p.name name) (incomplete_with name e ps h k.1)
  where
    by : (t : Bool) → ArePairsIncomplete (with_value name e ps) → ArePairsIncomplete (if t then (let q : Pair Entry = record { name = p.name; value = e } in q) ∷ ps else p ∷ with_value name e ps)
    by true rest = (h, k.1)
    by false rest = (k.0, rest)

pub still_itself : (names : Names) → IsStill names names
still_itself names = record { scope = refl; counts = refl; incomplete = λ h. h }

pub still_with : (old new : Names) (name : List ℕ) (e : Entry) → new.scope ≡ old.scope → new.counts ≡ old.counts → new.functions.items ≡ old.functions.items → pairs new.map ≡ with_value name e (pairs old.map) → shape_kept [] e.declared ≡ None
    → IsStill old new
still_with old new name e s c f put h = record {
  scope = s;
  counts = c;
  incomplete = λ k. record { functions = f ∙ k.functions; each = subst ArePairsIncomplete (sym put) (incomplete_with name e (pairs old.map) h k.each) };
}

pub still_then : (a b c : Names) → IsStill a b → IsStill b c → IsStill a c
still_then a b c h k = record { scope = k.scope ∙ h.scope; counts = k.counts ∙ h.counts; incomplete = λ i. k.incomplete (h.incomplete i) }
