-- What is kept of a function that is complete now.
use Rattle.std.specs.Prelude.{Vec}
use Rattle.std.specs.Global.{Global}
use Rattle.std.proofs.Common.{◌≡◌, ℕ, Bool, true, false, List, [], ◌∷◌, map, Option, Some, None, if◌then◌else◌, refl, sym, ap, ◌∙◌, subst}
use Rattle.vs_design.specs.Clocks.{same_name}
use Rattle.vs_const.specs.declared.names.FunctionShape.{FunctionShape}
use Rattle.vs_const.specs.declared.names.SignalShape.{SignalShape}
use Rattle.vs_const.specs.Meanings.{FunctionMeaning}
use Rattle.vs_const.specs.MentionViews.{kept, kept_of}
use Rattle.vs_elaborated.specs.Environments as environment
use Rattle.vs_elaborated.specs.Functions.{completed, put_function}
use Rattle.vs_maps.specs.Maps.{Pair, value_at, with_value, IsNew, AreDistinct}
use Rattle.vs_scope.specs.declared.names.Declared.{Declared}
use Rattle.vs_scope.specs.declared.names.Declared.TheVariants as states
use Rattle.vs_scope.specs.declared.names.Evaluated.TheVariants.{Value, Undefined}
use Rattle.vs_scope.specs.declared.names.Entry.{Entry}
use Rattle.vs_scope.specs.Complete.{Shape, kept_shape, shape_kept, shape_said, reads_in, reads_at, shapes_by, shapes_of}
use Rattle.vs_scope.specs.Functions.{AreCompleted, IsCompletedDeclared, is_incomplete}
use Rattle.vs_scope.specs.Seen.{HasShape}
use Rattle.vs_scope.specs.Views.{declared, pair_entry}
use Rattle.vs_scope.proofs.Completing.{none_complete, one_complete, shape_is}
use Rattle.vs_scope.proofs.Entries.{same_is}
use Rattle.vs_scope.proofs.NamedLists.{same_self, same_swap}

-- no entry has the name
new_put : (name : List ℕ) (g : FunctionMeaning) (ps : List (Pair Entry)) (es : List environment.Entry) → AreCompleted (map pair_entry ps) es → IsNew name ps → put_function name g es ≡ es
new_put name g [] [] h k = refl
new_put name g [] (e ∷ es) h k = absurd h
new_put name g (p ∷ ps) [] h k = absurd h
new_put name g (p ∷ ps) (e ∷ es) h k =
    ap (λ (b : Bool). (if b then record e { declared = completed g e.declared } else e) ∷ put_function name g es) (ap (λ (n : List ℕ). same_name n name) h.0.0 ∙ k.0)
    ∙ ap (λ (r : List environment.Entry). e ∷ r) (new_put name g ps es h.1 k.1)

not_found : (name : List ℕ) (ps : List (Pair Entry)) → value_at name ps ≡ None → IsNew name ps
not_found name [] h = tt
not_found name (p ∷ ps) h = by (same_name p.name name) refl h (not_found name ps)
  where
    by : (b : Bool) → same_name p.name name ≡ b → (if b then Some p.value else value_at name ps) ≡ None → (value_at name ps ≡ None → IsNew name ps) → IsNew name (p ∷ ps)
    by true e h rest = cc
    by false e h rest = (e, rest h)

pub put_none : (reads : List ℕ → List SignalShape) (name : List ℕ) (g : FunctionMeaning) (ps : List (Pair Entry)) (es : List environment.Entry) → AreCompleted (map pair_entry ps) es → shapes_by reads ps ≡ shapes_of es → value_at name ps ≡ None
    → shapes_by reads ps ≡ shapes_of (put_function name g es)
put_none reads name g ps es h k n = k ∙ ap shapes_of (sym (new_put name g ps es h (not_found name ps n)))

-- what is no function, or is complete, stays
stays : (reads : List SignalShape) (g : FunctionMeaning) (c : Declared) (d : environment.Declared) → IsCompletedDeclared (declared c) d → shape_kept reads c ≡ shape_said d → is_incomplete c ≡ false → completed g d ≡ d
stays reads g states.Later d h k n = subst (λ (x : environment.Declared). completed g x ≡ x) (sym h) refl
stays reads g states.Announced d h k n = subst (λ (x : environment.Declared). completed g x ≡ x) (sym h) refl
stays reads g (states.Signal s) d h k n = subst (λ (x : environment.Declared). completed g x ≡ x) (sym h) refl
stays reads g (states.Parameter (Value p)) d h k n = subst (λ (x : environment.Declared). completed g x ≡ x) (sym h) refl
stays reads g (states.Parameter (Undefined r)) d h k n = subst (λ (x : environment.Declared). completed g x ≡ x) (sym h) refl
stays reads g (states.Function None) d h k n = cc
stays reads g (states.Function (Some f)) d h k n = let s = one_complete reads f d h.0 h.1 k in subst (λ (x : environment.Declared). completed g x ≡ x) (sym s.1) refl
stays reads g states.Genvar d h k n = subst (λ (x : environment.Declared). completed g x ≡ x) (sym h) refl
stays reads g (states.Integer scope) d h k n = subst (λ (x : environment.Declared). completed g x ≡ x) (sym h) refl
stays reads g states.Scope d h k n = subst (λ (x : environment.Declared). completed g x ≡ x) (sym h) refl

pub put_kept : (reads : List ℕ → List SignalShape) (name : List ℕ) (g : FunctionMeaning) (old : Entry) (ps : List (Pair Entry)) (es : List environment.Entry) → AreDistinct ps → AreCompleted (map pair_entry ps) es → shapes_by reads ps ≡ shapes_of es
    → value_at name ps ≡ Some old → is_incomplete old.declared ≡ false → shapes_by reads ps ≡ shapes_of (put_function name g es)
put_kept reads name g old [] es d h k f n = cc
put_kept reads name g old (p ∷ ps) [] d h k f n = absurd h
put_kept reads name g old (p ∷ ps) (e ∷ es) d h k f n =
    let first : shape_kept (reads p.name) p.value.declared ≡ shape_said e.declared = cc in
    let rest : shapes_by reads ps ≡ shapes_of es = cc in
    by (same_name p.name name) refl (ap (λ (x : List ℕ). same_name x name) h.0.0) first rest f (λ (m : value_at name ps ≡ Some old). put_kept reads name g old ps es d.1 h.1 rest m n)
  where
    by : (b : Bool) → same_name p.name name ≡ b → same_name e.name name ≡ same_name p.name name → shape_kept (reads p.name) p.value.declared ≡ shape_said e.declared → shapes_by reads ps ≡ shapes_of es → (if b then Some p.value else value_at name ps) ≡ Some old
        → (value_at name ps ≡ Some old → shapes_by reads ps ≡ shapes_of (put_function name g es))
        → shape_kept (reads p.name) p.value.declared ∷ shapes_by reads ps ≡ shape_said (if same_name e.name name then record e { declared = completed g e.declared } else e).declared ∷ shapes_of (put_function name g es)
    by true s same first rest f more =
        let is : p.value ≡ old = cc in
        let open_not : is_incomplete p.value.declared ≡ false = ap (λ (x : Entry). is_incomplete x.declared) is ∙ n in
        let apart : IsNew name ps = subst (λ (x : List ℕ). IsNew x ps) (same_is p.name name s) d.0 in
        ap (λ (o : Option Shape). o ∷ shapes_by reads ps) (first ∙ ap shape_said (sym (stays (reads p.name) g p.value.declared e.declared h.0.2 first open_not)))
        ∙ ap (λ (r : List (Option Shape)). shape_said (completed g e.declared) ∷ r) (rest ∙ ap shapes_of (sym (new_put name g ps es h.1 apart)))
        ∙ ap (λ (t : Bool). shape_said (if t then record e { declared = completed g e.declared } else e).declared ∷ shapes_of (put_function name g es)) (sym (same ∙ s))
    by false s same first rest f more =
        ap (λ (o : Option Shape). o ∷ shapes_by reads ps) first ∙ ap (λ (r : List (Option Shape)). shape_said e.declared ∷ r) (more f)
        ∙ ap (λ (t : Bool). shape_said (if t then record e { declared = completed g e.declared } else e).declared ∷ shapes_of (put_function name g es)) (sym (same ∙ s))

-- a function that wasn't complete
complete_now : (reads now : List SignalShape) (g : FunctionMeaning) (f : FunctionShape) (c : Declared) (d : environment.Declared) → IsCompletedDeclared (declared c) d → shape_kept reads c ≡ shape_said d → is_incomplete c ≡ true → HasShape f g → map kept now ≡ map kept_of g.passed → Some (kept_shape now f) ≡ shape_said (completed g d)
complete_now reads now g f states.Later d h k n s r = cc
complete_now reads now g f states.Announced d h k n s r = cc
complete_now reads now g f (states.Signal x) d h k n s r = cc
complete_now reads now g f (states.Parameter v) d h k n s r = cc
complete_now reads now g f (states.Function (Some x)) d h k n s r = cc
complete_now reads now g f states.Genvar d h k n s r = cc
complete_now reads now g f (states.Integer scope) d h k n s r = cc
complete_now reads now g f states.Scope d h k n s r = cc
complete_now reads now g f (states.Function None) d h k n s r = ap Some (shape_is now f g s r) ∙ ap (λ (x : environment.Declared). shape_said (completed g x)) (sym (none_complete d h.0 h.1 k))

-- what other functions read stays
reads_apart : (old_reads new_reads : List ℕ → List SignalShape) (name : List ℕ) → ((n : List ℕ) → same_name n name ≡ false → new_reads n ≡ old_reads n) → (ps : List (Pair Entry)) → IsNew name ps → shapes_by new_reads ps ≡ shapes_by old_reads ps
reads_apart old_reads new_reads name same [] h = refl
reads_apart old_reads new_reads name same (p ∷ ps) h =
    ap (λ (r : List SignalShape). shape_kept r p.value.declared ∷ shapes_by new_reads ps) (same p.name h.0)
    ∙ ap (λ (r : List (Option Shape)). shape_kept (old_reads p.name) p.value.declared ∷ r) (reads_apart old_reads new_reads name same ps h.1)

pub put_some : (old_reads new_reads : List ℕ → List SignalShape) (name : List ℕ) (g : FunctionMeaning) (f : FunctionShape) (old new : Entry) → ((n : List ℕ) → same_name n name ≡ false → new_reads n ≡ old_reads n)
    → map kept (new_reads name) ≡ map kept_of g.passed → (ps : List (Pair Entry)) (es : List environment.Entry) → AreDistinct (with_value name new ps) → AreCompleted (map pair_entry ps) es → shapes_by old_reads ps ≡ shapes_of es
    → value_at name ps ≡ Some old → is_incomplete old.declared ≡ true → new.declared ≡ states.Function (Some f) → HasShape f g → shapes_by new_reads (with_value name new ps) ≡ shapes_of (put_function name g es)
put_some old_reads new_reads name g f old new others here [] es d h k v n is s = cc
put_some old_reads new_reads name g f old new others here (p ∷ ps) [] d h k v n is s = absurd h
put_some old_reads new_reads name g f old new others here (p ∷ ps) (e ∷ es) d h k v n is s =
    let first : shape_kept (old_reads p.name) p.value.declared ≡ shape_said e.declared = cc in
    let rest : shapes_by old_reads ps ≡ shapes_of es = cc in
    by (same_name p.name name) refl (ap (λ (x : List ℕ). same_name x name) h.0.0) first rest v d (λ m t. put_some old_reads new_reads name g f old new others here ps es t h.1 rest m n is s)
  where
    by : (b : Bool) → same_name p.name name ≡ b → same_name e.name name ≡ same_name p.name name → shape_kept (old_reads p.name) p.value.declared ≡ shape_said e.declared → shapes_by old_reads ps ≡ shapes_of es
        → (if b then Some p.value else value_at name ps) ≡ Some old → AreDistinct (if b then (let q : Pair Entry = record { name = p.name; value = new } in q) ∷ ps else p ∷ with_value name new ps)
        → (value_at name ps ≡ Some old → AreDistinct (with_value name new ps) → shapes_by new_reads (with_value name new ps) ≡ shapes_of (put_function name g es))
        → shapes_by new_reads (if b then (let q : Pair Entry = record { name = p.name; value = new } in q) ∷ ps else p ∷ with_value name new ps)
        ≡ shape_said (if same_name e.name name then record e { declared = completed g e.declared } else e).declared ∷ shapes_of (put_function name g es)
    by true t same first rest v d more =
        let at : p.value ≡ old = cc in
        let open_is : is_incomplete p.value.declared ≡ true = ap (λ (x : Entry). is_incomplete x.declared) at ∙ n in
        let apart : IsNew name ps = subst (λ (x : List ℕ). IsNew x ps) (same_is p.name name t) d.0 in
        let reads_are : map kept (new_reads p.name) ≡ map kept_of g.passed = ap (λ (x : List ℕ). map kept (new_reads x)) (same_is p.name name t) ∙ here in
        ap (λ (x : Declared). shape_kept (new_reads p.name) x ∷ shapes_by new_reads ps) is
        ∙ ap (λ (o : Option Shape). o ∷ shapes_by new_reads ps) (complete_now (old_reads p.name) (new_reads p.name) g f p.value.declared e.declared h.0.2 first open_is s reads_are)
        ∙ ap (λ (r : List (Option Shape)). shape_said (completed g e.declared) ∷ r) (reads_apart old_reads new_reads name others ps apart ∙ rest ∙ ap shapes_of (sym (new_put name g ps es h.1 apart)))
        ∙ ap (λ (b : Bool). shape_said (if b then record e { declared = completed g e.declared } else e).declared ∷ shapes_of (put_function name g es)) (sym (same ∙ t))
    by false t same first rest v d more =
        ap (λ (r : List SignalShape). shape_kept r p.value.declared ∷ shapes_by new_reads (with_value name new ps)) (others p.name t)
        ∙ ap (λ (o : Option Shape). o ∷ shapes_by new_reads (with_value name new ps)) first ∙ ap (λ (r : List (Option Shape)). shape_said e.declared ∷ r) (more v d.1)
        ∙ ap (λ (b : Bool). shape_said (if b then record e { declared = completed g e.declared } else e).declared ∷ shapes_of (put_function name g es)) (sym (same ∙ t))

-- what the map of these keeps
reads_with : (name n : List ℕ) (v : Vec SignalShape Global) (rs : List (Pair (Vec SignalShape Global))) → same_name n name ≡ false → reads_at (with_value name v rs) n ≡ reads_at rs n
reads_with name n v [] h = ap (λ (b : Bool). reads_in (if b then Some v else None)) (same_swap name n ∙ h)
reads_with name n v (r ∷ rs) h = by (same_name r.name name) refl (reads_with name n v rs h)
  where
    by : (b : Bool) → same_name r.name name ≡ b → reads_at (with_value name v rs) n ≡ reads_at rs n
        → reads_at (if b then (let q : Pair (Vec SignalShape Global) = record { name = r.name; value = v } in q) ∷ rs else r ∷ with_value name v rs) n ≡ reads_at (r ∷ rs) n
    by true t rest =
        let is = same_is r.name name t in
        let apart : same_name r.name n ≡ false = same_swap r.name n ∙ ap (same_name n) is ∙ h in
        ap (λ (b : Bool). reads_in (if b then Some v else value_at n rs)) apart ∙ ap (λ (b : Bool). reads_in (if b then Some r.value else value_at n rs)) (sym apart)
    by false t rest = over (same_name r.name n)
      where
        over : (b : Bool) → reads_in (if b then Some r.value else value_at n (with_value name v rs)) ≡ reads_in (if b then Some r.value else value_at n rs)
        over true = refl
        over false = rest

reads_now : (name : List ℕ) (v : Vec SignalShape Global) (rs : List (Pair (Vec SignalShape Global))) → reads_at (with_value name v rs) name ≡ v.items
reads_now name v [] = ap (λ (b : Bool). reads_in (if b then Some v else None)) (same_self name)
reads_now name v (r ∷ rs) = by (same_name r.name name) refl (reads_now name v rs)
  where
    by : (b : Bool) → same_name r.name name ≡ b → reads_at (with_value name v rs) name ≡ v.items
        → reads_at (if b then (let q : Pair (Vec SignalShape Global) = record { name = r.name; value = v } in q) ∷ rs else r ∷ with_value name v rs) name ≡ v.items
    by true t rest = ap (λ (b : Bool). reads_in (if b then Some v else value_at name rs)) t
    by false t rest = ap (λ (b : Bool). reads_in (if b then Some r.value else value_at name (with_value name v rs))) t ∙ rest

-- in the maps of a scope
pub put_reads : (name : List ℕ) (v : Vec SignalShape Global) (rs : List (Pair (Vec SignalShape Global))) (g : FunctionMeaning) (f : FunctionShape) (old new : Entry) (ps : List (Pair Entry)) (es : List environment.Entry)
    → map kept v.items ≡ map kept_of g.passed → AreDistinct (with_value name new ps) → AreCompleted (map pair_entry ps) es → shapes_by (reads_at rs) ps ≡ shapes_of es → value_at name ps ≡ Some old → is_incomplete old.declared ≡ true
    → new.declared ≡ states.Function (Some f) → HasShape f g → shapes_by (reads_at (with_value name v rs)) (with_value name new ps) ≡ shapes_of (put_function name g es)
put_reads name v rs g f old new ps es r d h k at n is s =
    put_some (reads_at rs) (reads_at (with_value name v rs)) name g f old new (λ x t. reads_with name x v rs t) (ap (map kept) (reads_now name v rs) ∙ r) ps es d h k at n is s

-- what the name means while functions aren't complete stays
pub open_declared : (c : Declared) → is_incomplete c ≡ true → declared c ≡ environment.OfFunction None
open_declared states.Later h = cc
open_declared states.Announced h = cc
open_declared (states.Signal s) h = cc
open_declared (states.Parameter v) h = cc
open_declared (states.Function f) h = refl
open_declared states.Genvar h = cc
open_declared (states.Integer scope) h = cc
open_declared states.Scope h = cc
