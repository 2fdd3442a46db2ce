-- Overrides, and the values of parameters one after the other.
use Rattle.std.proofs.Common.{◌≡◌, ◌<◌, ◌≤◌, ℕ, suc, Bool, true, false, List, [], ◌∷◌, ◌++◌, map, length, get_or, drop, Option, Some, None, if◌then◌else◌, refl, sym, ap, ◌∙◌, subst, arith, append_assoc, zero}
use Rattle.vs_design.specs.Clocks.{same_name}
use Rattle.vs_grammar.specs.Shapes.{IsExpr}
use Rattle.vs_ast.specs.Views as view
use Rattle.vs_ast.specs.Views.{option}
use Rattle.vs_const.specs.declared.faults.Fault.{Fault}
use Rattle.vs_const.specs.Faults.{least, better}
use Rattle.vs_const.specs.Typed.{Typed}
use Rattle.vs_const.proofs.Least.{least_append}
use Rattle.vs_elaborated.specs.Environments.{Entry, Env}
use Rattle.vs_elaborated.specs.Declarations as spec
use Rattle.vs_elaborated.specs.Parameters.{Override as SaidOverride, override_of, chosen, said_parameters}
use Rattle.vs_scope.specs.declared.frames.Frame.{Frame}
use Rattle.vs_scope.specs.declared.names.Declaration.{Declaration}
use Rattle.vs_scope.specs.declared.parameters.Override.{Override}
use Rattle.vs_maps.specs.Maps.{Pair, value_at}
use Rattle.vs_scope.specs.Views.{declaration}
use Rattle.vs_scope.specs.Shaped.{IsShaped, AreShaped}
use Rattle.vs_scope.specs.Overrides.{override_typed, EachOverride}
use Rattle.vs_scope.proofs.Steps.{append_none, none_left, from_place}

override_at : (frames : List Frame) (name : List ℕ) (ps : List (Pair Override))
    → override_of (map (λ (p : Pair Override). let o : SaidOverride = record { name = p.name; typed = override_typed frames p.value } in o) ps) name ≡ option (override_typed frames) (value_at name ps)
override_at frames name [] = refl
override_at frames name (p ∷ ps) = by (same_name p.name name) (override_at frames name ps)
  where
    by : (t : Bool) → override_of (map (λ (p : Pair Override). let o : SaidOverride = record { name = p.name; typed = override_typed frames p.value } in o) ps) name ≡ option (override_typed frames) (value_at name ps)
        → (if t then Some (override_typed frames p.value) else override_of (map (λ (p : Pair Override). let o : SaidOverride = record { name = p.name; typed = override_typed frames p.value } in o) ps) name) ≡ option (override_typed frames) (if t then Some p.value else value_at name ps)
    by true rest = refl
    by false rest = rest

pub found_override : (count : ℕ) (name : List ℕ) (ps : List (Pair Override)) (o : Override) → EachOverride count ps → value_at name ps ≡ Some o → IsExpr (view.expr o.value.now) × (o.frame < count)
found_override count name [] o h k = cc
found_override count name (p ∷ ps) o h k = by (same_name p.name name) k (found_override count name ps o h.1)
  where
    by : (t : Bool) → (if t then Some p.value else value_at name ps) ≡ Some o → (value_at name ps ≡ Some o → IsExpr (view.expr o.value.now) × (o.frame < count)) → IsExpr (view.expr o.value.now) × (o.frame < count)
    by true k rest = let is : p.value ≡ o = cc in subst (λ (x : Override). IsExpr (view.expr x.value.now) × (x.frame < count)) is h.0
    by false k rest = rest k

abbrev pick_at : (b : Bool) (o : Option Typed) (t : Typed) → Typed
pick_at b o t = elim b as (λ _. Typed) [ true ↦ t | false ↦ elim o as (λ _. Typed) [ None ↦ t | Some u ↦ u ] ]

same_pick : (b : Bool) (t : Typed) → pick_at b None t ≡ t
same_pick true t = refl
same_pick false t = refl

chosen_default : (p : spec.ParameterSort) (os : List SaidOverride) (name : List ℕ) (t : Typed) → override_of os name ≡ None → chosen p os name t ≡ t
chosen_default p os name t k = ap (λ (o : Option Typed). pick_at p.is_local o t) k ∙ same_pick p.is_local t

chosen_override : (p : spec.ParameterSort) (os : List SaidOverride) (name : List ℕ) (t u : Typed) → p.is_local ≡ false → override_of os name ≡ Some u → chosen p os name t ≡ u
chosen_override p os name t u h k = ap (λ (b : Bool). pick_at b (override_of os name) t) h ∙ ap (λ (o : Option Typed). pick_at false o t) k

pub none_chosen : (frames : List Frame) (name : List ℕ) (ps : List (Pair Override)) (p : spec.ParameterSort) (t : Typed) → value_at name ps ≡ None
    → chosen p (map (λ (p : Pair Override). let o : SaidOverride = record { name = p.name; typed = override_typed frames p.value } in o) ps) name t ≡ t
none_chosen frames name ps p t h = chosen_default p _ name t (override_at frames name ps ∙ ap (option (override_typed frames)) h)

pub some_chosen : (frames : List Frame) (name : List ℕ) (ps : List (Pair Override)) (p : spec.ParameterSort) (t : Typed) (o : Override) → p.is_local ≡ false → value_at name ps ≡ Some o
    → chosen p (map (λ (p : Pair Override). let o : SaidOverride = record { name = p.name; typed = override_typed frames p.value } in o) ps) name t ≡ override_typed frames o
some_chosen frames name ps p t o l h = chosen_override p _ name t (override_typed frames o) l (override_at frames name ps ∙ ap (option (override_typed frames)) h)

pub shaped_at : (ds : List Declaration) (i : ℕ) (d : Declaration) → AreShaped (map declaration ds) → i < length ds → d ≡ get_or ds i d → IsShaped (declaration d)
shaped_at [] i d h k e = absurd (omega arith)
shaped_at (a ∷ ds) zero d h k e = subst (λ (x : Declaration). IsShaped (declaration x)) (sym e) h.0
shaped_at (a ∷ ds) (suc i) d h k e = shaped_at ds i d h.1 (omega arith) e

-- a loop over declarations, after some of them: what is made so far, and of the faults so far the first
pub record IsEvaluated (outer : Env) (os : List SaidOverride) (rest all : List spec.Declaration) (first now : List Entry) (found : Option Fault) : Type 0 where
  pub entries : (said_parameters outer os rest now).entries ≡ (said_parameters outer os all first).entries
  pub some : (fs : List Fault) × (found ≡ least fs) × (least (fs ++ (said_parameters outer os rest now).faults) ≡ least (said_parameters outer os all first).faults)

pub evaluated_start : (outer : Env) (os : List SaidOverride) (all : List spec.Declaration) (first : List Entry) → IsEvaluated outer os all all first first None
evaluated_start outer os all first = record { entries = refl; some = ([], refl, refl) }

pub evaluated_more : (outer : Env) (os : List SaidOverride) (ds : List Declaration) (i : ℕ) (d : Declaration) (all : List spec.Declaration) (first now new : List Entry) (found one sum : Option Fault)
    → i < length ds → d ≡ get_or ds i d → IsEvaluated outer os (map declaration (drop i ds)) all first now found
    → new ≡ (said_parameters outer os (declaration d ∷ []) now).entries → one ≡ least (said_parameters outer os (declaration d ∷ []) now).faults → sum ≡ better found one
    → IsEvaluated outer os (map declaration (drop (suc i) ds)) all first new sum
evaluated_more outer os ds i d all first now new found one sum h e before n f s =
    let rest = map declaration (drop (suc i) ds) in
    let is : map declaration (drop i ds) ≡ declaration d ∷ rest = ap (map declaration) (from_place ds i d h e) in
    let mine = (said_parameters outer os (declaration d ∷ []) now).faults in
    let fs = before.some.0 in
    let known : least (fs ++ (said_parameters outer os (declaration d ∷ rest) now).faults) ≡ least (said_parameters outer os all first).faults =
    ap (λ (x : List spec.Declaration). least (fs ++ (said_parameters outer os x now).faults)) (sym is) ∙ before.some.2 in
    subst (λ (x : List Entry). IsEvaluated outer os rest all first x sum) (sym n) (record {
      entries = ap (λ (x : List spec.Declaration). (said_parameters outer os x now).entries) (sym is) ∙ before.entries;
      some = (
        fs ++ mine,
        s ∙ ap (λ (x : Option Fault). better x one) before.some.1 ∙ ap (better (least fs)) f ∙ sym (least_append fs mine),
        ap least (append_assoc fs mine (said_parameters outer os rest (said_parameters outer os (declaration d ∷ []) now).entries).faults)
            ∙ ap (λ (x : List Fault). least (fs ++ x)) (ap (λ (x : List Fault). x ++ (said_parameters outer os rest (said_parameters outer os (declaration d ∷ []) now).entries).faults) (append_none _))
            ∙ known,
      );
    })

pub evaluated_end : (outer : Env) (os : List SaidOverride) (ds : List Declaration) (i : ℕ) (all : List spec.Declaration) (first now : List Entry) (found : Option Fault)
    → length ds ≤ i → IsEvaluated outer os (map declaration (drop i ds)) all first now found → (now ≡ (said_parameters outer os all first).entries) × (found ≡ least (said_parameters outer os all first).faults)
evaluated_end outer os ds i all first now found h e =
    let k : IsEvaluated outer os [] all first now found = subst (λ (x : List Declaration). IsEvaluated outer os (map declaration x) all first now found) (none_left ds i h) e in
    (k.entries, k.some.1 ∙ ap least (sym (append_none k.some.0)) ∙ k.some.2)
