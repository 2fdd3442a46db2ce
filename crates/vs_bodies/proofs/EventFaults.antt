-- The faults of events, one after the other, and which of them are edges.
use Rattle.std.proofs.Common.{◌≡◌, ℕ, suc, ◌+◌, ◌<◌, Bool, ◌||◌, List, [], ◌∷◌, ◌++◌, map, take, length, get_or, Option, refl, sym, ap, ◌∙◌, arith, append_assoc}
use Rattle.std.proofs.Math.Seq.{take-suc, take-length}
use Rattle.std.proofs.lemmas.List.{map-append, append-nil}
use Rattle.std.specs.List.{list_any}
use Rattle.vs_design.specs.Designs.{is_edge}
use Rattle.vs_ast.specs.declared.items.Event.{Event}
use Rattle.vs_ast.specs.Views.{event}
use Rattle.vs_grammar.specs.Trees as tree
use Rattle.vs_const.specs.declared.faults.Fault.{Fault}
use Rattle.vs_const.specs.Faults.{least, better}
use Rattle.vs_const.specs.Meanings.{Find}
use Rattle.vs_const.proofs.Least.{least_append}
use Rattle.vs_elaborated.specs.Statements.{event_faults, typed_events}

faults_more : (find : Find) (xs : List tree.Event) (e : tree.Event) → (typed_events (xs ++ e ∷ []) find).faults ≡ (typed_events xs find).faults ++ event_faults e.name.place e.edge (find e.name.bytes)
faults_more find [] e = append-nil (event_faults e.name.place e.edge (find e.name.bytes))
faults_more find (x ∷ xs) e =
    let first = event_faults x.name.place x.edge (find x.name.bytes) in
    ap (λ fs. first ++ fs) (faults_more find xs e) ∙ sym (append_assoc first (typed_events xs find).faults (event_faults e.name.place e.edge (find e.name.bytes)))

-- with one event more
pub more_events : (find : Find) (es : List Event) (i : ℕ) (x : Event) (first own both : Option Fault) → i < length es → x ≡ get_or es i x → first ≡ least (typed_events (map event (take i es)) find).faults
    → own ≡ least (event_faults x.name.place (event x).edge (find x.name.text)) → both ≡ better first own → both ≡ least (typed_events (map event (take (i + 1) es)) find).faults
more_events find es i x first own both h e f o b =
    let next : i + 1 ≡ suc i = omega arith in
    let list : map event (take (i + 1) es) ≡ map event (take i es) ++ event x ∷ [] =
    ap (λ n. map event (take n es)) next ∙ ap (map event) (take-suc es i x h) ∙ map-append event (take i es) (get_or es i x ∷ []) ∙ ap (λ y. map event (take i es) ++ event y ∷ []) (sym e)
    in
    b ∙ ap (λ k. better k own) f ∙ ap (better (least (typed_events (map event (take i es)) find).faults)) o
    ∙ sym (least_append (typed_events (map event (take i es)) find).faults (event_faults x.name.place (event x).edge (find x.name.text)))
    ∙ ap least (sym (faults_more find (map event (take i es)) (event x))) ∙ ap (λ l. least (typed_events l find).faults) (sym list)

pub all_events : (find : Find) (es : List Event) (i : ℕ) (first : Option Fault) → i ≡ length es → first ≡ least (typed_events (map event (take i es)) find).faults → first ≡ least (typed_events (map event es) find).faults
all_events find es i first e f = f ∙ ap (λ n. least (typed_events (map event (take n es)) find).faults) e ∙ ap (λ l. least (typed_events (map event l) find).faults) (take-length es)

-- ---- edges

abbrev pub is_edge_event : Event → Bool
is_edge_event e = is_edge e.edge

pub edges_are : (es : List Event) → list_any is_edge_event es ≡ list_any (λ (e : tree.Event). is_edge e.edge) (map event es)
edges_are [] = refl
edges_are (e ∷ es) = ap (λ (b : Bool). is_edge e.edge || b) (edges_are es)
