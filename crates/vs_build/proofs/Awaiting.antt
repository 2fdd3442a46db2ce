-- Always blocks without a fault, and the events that they wait for.
use Rattle.std.proofs.Common.{◌≡◌, ℕ, zero, suc, ◌+◌, ◌^◌, ◌<◌, ◌≤◌, Bool, true, false, ◌&&◌, nat_lt, List, [], ◌∷◌, ◌++◌, length, get_or, map, take, None, refl, sym, ap, ◌∙◌, subst, arith}
use Rattle.std.proofs.Math.Seq.{take-suc, take-length}
use Rattle.std.proofs.lemmas.Bool.{lt-ltb}
use Rattle.std.proofs.lemmas.List.{map-append}
use Rattle.vs_design.specs.Designs as D
use Rattle.vs_design.specs.Designs.{Design}
use Rattle.vs_design.specs.Statements as T
use Rattle.vs_design.specs.Elaborated.{is_signal}
use Rattle.vs_grammar.specs.Trees as tree
use Rattle.vs_ast.specs.declared.items.Event.{Event as TextEvent}
use Rattle.vs_ast.specs.Views as view
use Rattle.vs_const.specs.declared.names.Named.{Named}
use Rattle.vs_const.specs.Meanings.{SignalMeaning, Meaning, AValue, Undefined, ASignal, AMemory, AFunction, Incomplete, Another, Barred, Unknown, Find, Means}
use Rattle.vs_const.specs.Sound.{IsSound, AreSound}
use Rattle.vs_const.proofs.Formed.{both_nil}
use Rattle.vs_flat.specs.declared.processes.Event.{Event}
use Rattle.vs_flat.specs.Named.{all_below}
use Rattle.vs_flat.specs.Trees.{signal_at}
use Rattle.vs_flat.specs.DesignOf.{event_of}
use Rattle.vs_elaborated.specs.Targets.{meant_signal}
use Rattle.vs_elaborated.specs.Statements.{Body, event_faults, typed_events, typed_control, typed_statement, is_clocked_by}
use Rattle.vs_elaborated.specs.Surveys.{body_with}
use Rattle.vs_build.specs.Drafts.{Draft, home, and_process, AddsStatement, EndsInParts}
use Rattle.vs_build.specs.Executable.{IsExecutable, IsRunnable, Awaited, awaited_of, awaited, block_process}
use Rattle.vs_build.proofs.SignalNames.{signal_is, signal_within, plain_signal}
use Rattle.vs_build.proofs.Executed.{one_statement, ends_in_parts}
use Rattle.vs_build.proofs.AssignFacts.{home_outside}

-- ---- one event

-- its number
pub signal_number : (place : ℕ) (edge : D.Edge) (m : Meaning) (t : SignalMeaning) (number : ℕ) → m ≡ ASignal t → number ≡ t.signal.number → number ≡ (meant_signal m).number
signal_number place edge m t number e f = f ∙ ap (λ x. (meant_signal x).number) (sym e)

-- what else a name can mean is at fault
pub nothing_else : (n : Named) (place : ℕ) (edge : D.Edge) (m : Meaning) → Means n m → event_faults place edge m ≡ [] → (t : SignalMeaning) × (m ≡ ASignal t)
nothing_else n place edge (AValue v r turns) h f = cc
nothing_else n place edge (Undefined r) h f = cc
nothing_else n place edge (ASignal t) h f = (t, refl)
nothing_else n place edge (AMemory t) h f = cc
nothing_else n place edge (AFunction g) h f = cc
nothing_else n place edge Incomplete h f = cc
nothing_else n place edge Another h f = cc
nothing_else n place edge (Barred rule) h f = cc
nothing_else n place edge Unknown h f = cc

-- ---- several

event_clean : (find : Find) (es : List TextEvent) (i : ℕ) (x : TextEvent) → (typed_events (map view.event es) find).faults ≡ [] → i < length es
    → event_faults (get_or es i x).name.place (get_or es i x).edge (find (get_or es i x).name.text) ≡ []
event_clean find [] i x h k = absurd (let no : ⊥ = omega (arith, k) in no)
event_clean find (e ∷ es) zero x h k = (both_nil (event_faults e.name.place e.edge (find e.name.text)) (typed_events (map view.event es) find).faults h).0
event_clean find (e ∷ es) (suc i) x h k = event_clean find es i x (both_nil (event_faults e.name.place e.edge (find e.name.text)) (typed_events (map view.event es) find).faults h).1 (omega (arith, k))

pub event_at : (find : Find) (es : List TextEvent) (i : ℕ) (x : TextEvent) → (typed_events (map view.event es) find).faults ≡ [] → i < length es → x ≡ get_or es i x → event_faults x.name.place x.edge (find x.name.text) ≡ []
event_at find es i x h k e = subst (λ y. event_faults y.name.place y.edge (find y.name.text) ≡ []) (sym e) (event_clean find es i x h k)

pub events_more : (find : Find) (es : List TextEvent) (i : ℕ) (x : TextEvent) (made more : List Event) (new : Event) → i < length es → x ≡ get_or es i x → map awaited_of made ≡ map (awaited find) (map view.event (take i es)) → awaited_of new ≡ awaited find (view.event x)
    → more ≡ made ++ new ∷ [] → map awaited_of more ≡ map (awaited find) (map view.event (take (i + 1) es))
events_more find es i x made more new h e before own is =
    let next : i + 1 ≡ suc i = omega arith in
    let f : TextEvent → Awaited = λ y. awaited find (view.event y) in
    ap (map awaited_of) is ∙ map-append awaited_of made (new ∷ []) ∙ ap (λ xs. xs ++ awaited_of new ∷ []) before ∙ ap (λ y. map (awaited find) (map view.event (take i es)) ++ y ∷ []) own
    ∙ ap (λ y. map (awaited find) (map view.event (take i es)) ++ f y ∷ []) e
    ∙ sym (map-append (awaited find) (map view.event (take i es)) (view.event (get_or es i x) ∷ [])) ∙ ap (map (awaited find)) (sym (map-append view.event (take i es) (get_or es i x ∷ [])))
    ∙ ap (λ xs. map (awaited find) (map view.event xs)) (sym (take-suc es i x h)) ∙ ap (λ n. map (awaited find) (map view.event (take n es))) (sym next)

pub events_all : (find : Find) (es : List TextEvent) (i : ℕ) (made : List Event) → i ≡ length es → map awaited_of made ≡ map (awaited find) (map view.event (take i es)) → map awaited_of made ≡ map (awaited find) (map view.event es)
events_all find es i made e h = h ∙ ap (λ n. map (awaited find) (map view.event (take n es))) e ∙ ap (λ xs. map (awaited find) (map view.event xs)) (take-length es)

-- ---- they are signals of the design

sound_signal : (d : Design) (place : ℕ) (edge : D.Edge) (m : Meaning) → IsSound d false m → event_faults place edge m ≡ [] → is_signal d (meant_signal m) ≡ true
sound_signal d place edge (AValue v r turns) s h = cc
sound_signal d place edge (Undefined r) s h = cc
sound_signal d place edge (ASignal t) s h = plain_signal d t.signal s.0
sound_signal d place edge (AMemory t) s h = cc
sound_signal d place edge (AFunction g) s h = cc
sound_signal d place edge Incomplete s h = cc
sound_signal d place edge Another s h = cc
sound_signal d place edge (Barred rule) s h = cc
sound_signal d place edge Unknown s h = cc

numbers_of : (vs : List Event) → map (λ (e : Event). e.signal) vs ≡ map (λ (a : Awaited). a.number) (map awaited_of vs)
numbers_of [] = refl
numbers_of (v ∷ vs) = ap (λ ns. v.signal ∷ ns) (numbers_of vs)

numbers_below : (d : Design) (find : Find) (es : List tree.Event) → AreSound d false find → (typed_events es find).faults ≡ [] → all_below (length d.signals) (map (λ (a : Awaited). a.number) (map (awaited find) es)) ≡ true
numbers_below d find [] s h = refl
numbers_below d find (e ∷ es) s h =
    let m = find e.name.bytes in
    let n = both_nil (event_faults e.name.place e.edge m) (typed_events es find).faults h in
    both (nat_lt (meant_signal m).number (length d.signals)) (all_below (length d.signals) (map (λ (a : Awaited). a.number) (map (awaited find) es)))
    (lt-ltb (meant_signal m).number (length d.signals) (signal_within d (meant_signal m) (sound_signal d e.name.place e.edge m (s e.name.bytes) n.0))) (numbers_below d find es s n.1)
  where
    both : (a b : Bool) → a ≡ true → b ≡ true → (a && b) ≡ true
    both true true h k = refl
    both true false h k = cc
    both false b h k = cc

pub events_below : (d : Design) (find : Find) (es : List tree.Event) (vs : List Event) → AreSound d false find → (typed_events es find).faults ≡ [] → map awaited_of vs ≡ map (awaited find) es → all_below (length d.signals) (map (λ (e : Event). e.signal) vs) ≡ true
events_below d find es vs s h e = ap (all_below (length d.signals)) (numbers_of vs ∙ ap (map (λ (a : Awaited). a.number)) e) ∙ numbers_below d find es s h

events_of : (d : Design) (vs : List Event) → map (event_of (signal_at d.signals)) vs ≡ map (λ (a : Awaited). (let e : D.Event = record { signal = signal_at d.signals a.number; edge = a.edge } in e)) (map awaited_of vs)
events_of d [] = refl
events_of d (v ∷ vs) = ap (λ xs. event_of (signal_at d.signals) v ∷ xs) (events_of d vs)

text_events : (d : Design) (find : Find) (es : List tree.Event) → AreSound d false find → (typed_events es find).faults ≡ []
    → map (λ (a : Awaited). (let e : D.Event = record { signal = signal_at d.signals a.number; edge = a.edge } in e)) (map (awaited find) es) ≡ (typed_events es find).events
text_events d find [] s h = refl
text_events d find (x ∷ es) s h =
    let m = find x.name.bytes in
    let n = both_nil (event_faults x.name.place x.edge m) (typed_events es find).faults h in
    ap (λ y. (let e : D.Event = record { signal = y; edge = x.edge } in e) ∷ map (λ (a : Awaited). (let e : D.Event = record { signal = signal_at d.signals a.number; edge = a.edge } in e)) (map (awaited find) es))
    (signal_is d (meant_signal m) (sound_signal d x.name.place x.edge m (s x.name.bytes) n.0))
    ∙ ap (λ ys. (let e : D.Event = record { signal = meant_signal m; edge = x.edge } in e) ∷ ys) (text_events d find es s n.1)

pub events_are : (d : Design) (find : Find) (es : List tree.Event) (vs : List Event) → AreSound d false find → (typed_events es find).faults ≡ [] → map awaited_of vs ≡ map (awaited find) es → map (event_of (signal_at d.signals)) vs ≡ (typed_events es find).events
events_are d find es vs s h e = events_of d vs ∙ ap (map (λ (a : Awaited). (let x : D.Event = record { signal = signal_at d.signals a.number; edge = a.edge } in x))) e ∙ text_events d find es s h

not_star : (es : List tree.Event) (find : Find) → (typed_events es find).star ≡ false
not_star [] find = refl
not_star (e ∷ es) find = refl

-- ---- the block

-- what it stands in
abbrev pub stands : (declared : ℕ → Meaning) (clocked : Bool) → Body
stands declared clocked = record { declared = declared; in_function = false; takes_variables = true; clocked = clocked; unrolls = true }

stands_is : (declared : ℕ → Meaning) (b : tree.AlwaysBlock) (clocked : Bool) → clocked ≡ is_clocked_by b.control → stands declared clocked ≡ body_with declared b
stands_is declared b clocked e = ap (stands declared) e

pub body_executable : (d : Design) (declared : ℕ → Meaning) (find : Find) (b : tree.AlwaysBlock) (clocked : Bool) → clocked ≡ is_clocked_by b.control → IsRunnable d declared find b → IsExecutable d (stands declared clocked) find b.statement
body_executable d declared find b clocked e r =
    subst (λ body. IsExecutable d body find b.statement) (sym (stands_is declared b clocked e))
    (record { shaped = r.shaped; around = r.around; sound = r.sound; numbered = r.numbered; clean = r.clean; shallow = r.shallow })

pub body_added : (s v : Draft) (declared : ℕ → Meaning) (find : Find) (b : tree.AlwaysBlock) (clocked : Bool) (m : ℕ) → clocked ≡ is_clocked_by b.control → AddsStatement s v (typed_statement b.statement (stands declared clocked) find).statement m
    → AddsStatement s v (typed_statement b.statement (body_with declared b) find).statement m
body_added s v declared find b clocked m e h = subst (λ body. AddsStatement s v (typed_statement b.statement body find).statement m) (stands_is declared b clocked e) h

pub runs_outside : (s : Draft) (declared : ℕ → Meaning) (find : Find) (b : tree.AlwaysBlock) → s.function ≡ None → IsRunnable (home s) declared find b → IsRunnable s.design declared find b
runs_outside s declared find b e r = subst (λ d. IsRunnable d declared find b) (home_outside s e) r

pub still_outside : (s v : Draft) (t : T.Statement) (m : ℕ) → AddsStatement s v t m → s.function ≡ None → v.function ≡ None
still_outside s v t m h e = ap (λ (z : Draft). z.function) h.is ∙ e

pub control_clean : (d : Design) (declared : ℕ → Meaning) (find : Find) (b : tree.AlwaysBlock) (c : tree.EventControl) → b.control ≡ c → IsRunnable d declared find b → (typed_control c find).faults ≡ []
control_clean d declared find b c e r = subst (λ x. (typed_control x find).faults ≡ []) e r.control

pub block_ends : (s v : Draft) (t : T.Statement) (m : ℕ) → AddsStatement s v t m → m ≤ 255 → EndsInParts 0 1 v
block_ends s v t m h le = ends_in_parts s v [] (t ∷ []) m 0 1 (one_statement s v t m h) le refl refl

pub same_signals : (s v : Draft) (t : T.Statement) (m : ℕ) → AddsStatement s v t m → s.design ≡ v.design
same_signals s v t m h = sym (ap (λ (d : Draft). d.design) h.is)

pub few_initials : (s v : Draft) (t : T.Statement) (m : ℕ) → AddsStatement s v t m → length s.design.initials < 2 ^ 16 → length v.design.initials < 2 ^ 16
few_initials s v t m h few = subst (λ (d : Design). length d.initials < 2 ^ 16) (same_signals s v t m h) few

pub star_block : (s : Draft) (declared : ℕ → Meaning) (find : Find) (b : tree.AlwaysBlock) (at : ℕ) (vs : List Event) (signal : ℕ → _) → vs ≡ [] → b.control ≡ tree.Star → at ≡ b.place
    → and_process s (D.Always at true (map (event_of signal) vs) (typed_statement b.statement (body_with declared b) find).statement) ≡ and_process s (block_process declared b find)
star_block s declared find b at vs signal e f p =
    ap (λ xs. and_process s (D.Always at true (map (event_of signal) xs) (typed_statement b.statement (body_with declared b) find).statement)) e
    ∙ ap (λ n. and_process s (D.Always n true [] (typed_statement b.statement (body_with declared b) find).statement)) p
    ∙ ap (λ c. and_process s (D.Always b.place (typed_control c find).star (typed_control c find).events (typed_statement b.statement (body_with declared b) find).statement)) (sym f)

pub listed_block : (s v : Draft) (declared : ℕ → Meaning) (find : Find) (b : tree.AlwaysBlock) (at : ℕ) (es : List tree.Event) (vs : List Event) → IsRunnable s.design declared find b → s.design ≡ v.design → map awaited_of vs ≡ map (awaited find) es → b.control ≡ tree.Listed es → at ≡ b.place
    → and_process s (D.Always at false (map (event_of (signal_at v.design.signals)) vs) (typed_statement b.statement (body_with declared b) find).statement) ≡ and_process s (block_process declared b find)
listed_block s v declared find b at es vs r same e f p =
    let body = (typed_statement b.statement (body_with declared b) find).statement in
    ap (λ (d : Design). and_process s (D.Always at false (map (event_of (signal_at d.signals)) vs) body)) (sym same)
    ∙ ap (λ xs. and_process s (D.Always at false xs body)) (events_are s.design find es vs r.sound (control_clean s.design declared find b (tree.Listed es) f r) e)
    ∙ ap (λ x. and_process s (D.Always at x (typed_events es find).events body)) (sym (not_star es find))
    ∙ ap (λ n. and_process s (D.Always n (typed_events es find).star (typed_events es find).events body)) p
    ∙ ap (λ c. and_process s (D.Always b.place (typed_control c find).star (typed_control c find).events body)) (sym f)
