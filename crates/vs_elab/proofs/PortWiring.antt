-- The assigns of ports, one after the other.
use Rattle.std.proofs.Common.{◌≡◌, ℕ, zero, suc, ◌+◌, ◌<◌, ◌≤◌, ◌^◌, Bool, true, false, List, [], ◌∷◌, ◌++◌, length, length-append, get_or, take, map, Option, Some, None, refl, sym, ap, ◌∙◌, subst, append_assoc, arith, add-one, take-suc}
use Rattle.std.proofs.lemmas.List.{append-nil, map-append}
use Rattle.std.proofs.lemmas.Grind.{flat_map-append}
use Rattle.vs_design.specs.Expressions.{At, Name}
use Rattle.vs_design.specs.Statements.{Whole}
use Rattle.vs_design.specs.Designs.{InputPort, OutputPort, Process, Continuous, Design}
use Rattle.vs_design.specs.Elaborated.{is_signal, is_plain}
use Rattle.vs_grammar.specs.Trees as tree
use Rattle.vs_grammar.specs.Trees.{target_place}
use Rattle.vs_grammar.specs.Shapes.{Each}
use Rattle.vs_ast.specs.Views as view
use Rattle.vs_const.specs.Meanings.{SignalMeaning, Find}
use Rattle.vs_const.specs.Expressions.{typed}
use Rattle.vs_flat.specs.Trees.{signal_at}
use Rattle.vs_elaborated.specs.Environments.{Declared, OfSignal, Entry, Env, named, find_entry}
use Rattle.vs_elaborated.specs.Targets.{as_target, typed_target}
use Rattle.vs_elaborated.specs.Pieces as pieces
use Rattle.vs_elaborated.specs.Instances.{directed, output_target}
use Rattle.vs_elaborated.specs.Elaborated.{entry_signal, port_assign}
use Rattle.vs_build.specs.Drafts.{Draft, and_process}
use Rattle.vs_build.specs.Writable.{input_process}
use Rattle.vs_build.specs.Outputs.{IsOutput, output_of, output_process}
use Rattle.vs_build.proofs.SignalNames.{signal_is, signal_within, plain_signal}
use Rattle.vs_build.proofs.Wider.{same_signals}
use Rattle.vs_items.specs.declared.connections.Connection.{Connection}
use Rattle.vs_items.specs.Connections.{said, said_one}
use Rattle.vs_build.specs.Items.{and_processes}
use Rattle.vs_elab.specs.Wiring.{IsSignalOf, IsWirable, AreWirable}
use Rattle.vs_elab.proofs.NumberedNames.{same_functions}
use Rattle.vs_elab.proofs.Wider.{wirable_wider}
use Rattle.vs_elab.proofs.Sequences.{each_at}

-- ---- the signal inside

entry_is : (e : Entry) (m : SignalMeaning) → e.declared ≡ OfSignal m → entry_signal (Some e) ≡ m.signal
entry_is e m h = ap (λ (x : Declared). entry_signal (Some (record { name = e.name; place = e.place; declared = x }))) h

inner_is : (es : List Entry) (name : List ℕ) (m : SignalMeaning) → IsSignalOf es name m → entry_signal (find_entry es name) ≡ m.signal
inner_is es name m h = ap entry_signal h.found ∙ entry_is h.entry m h.declared

module _ (d : Design) (find : Find) (es : List Entry) (c : Connection) (inner : ℕ) (h : IsWirable d find es c) (is : inner ≡ h.meaning.signal.number) where
  of_design : is_signal d h.meaning.signal ≡ true
  of_design = plain_signal d h.meaning.signal h.there

  signal_there : signal_at d.signals inner ≡ h.meaning.signal
  signal_there = ap (signal_at d.signals) is ∙ signal_is d h.meaning.signal of_design

  pub inner_within : inner < length d.signals
  inner_within = subst (λ n. n < length d.signals) (sym is) (signal_within d h.meaning.signal of_design)

  pub inner_plain : is_plain d (signal_at d.signals inner) ≡ true
  inner_plain = ap (is_plain d) signal_there ∙ h.there

  pub inner_entry : signal_at d.signals inner ≡ entry_signal (find_entry es c.name.now)
  inner_entry = signal_there ∙ sym (inner_is es c.name.now h.meaning h.is)

-- ---- one port

said_input : (env : Env) (c : Connection) (b : Bool) → c.input ≡ b → said_one env c ≡ (directed c.name.now (Some b) (view.expr c.e.now) env).connections
said_input env c b h = ap (λ (x : Bool). (directed c.name.now (Some x) (view.expr c.e.now) env).connections) h

pub input_wired : (s : Draft) (place : ℕ) (env : Env) (es : List Entry) (c : Connection) (inner : ℕ) → signal_at s.design.signals inner ≡ entry_signal (find_entry es c.name.now) → c.input ≡ true
    → and_process s (input_process place (signal_at s.design.signals inner) (view.expr c.e.now) (named env)) ≡ and_processes s (map (port_assign place es) (said_one env c))
input_wired s place env es c inner is h =
    ap (λ x. and_process s (Continuous place InputPort place (Whole x) (typed (view.expr c.e.now) (named env) false).expression)) is
    ∙ ap (λ xs. and_processes s (map (port_assign place es) xs)) (sym (said_input env c true h))

said_output : (env : Env) (c : Connection) (t : tree.Target) → c.input ≡ false → as_target (view.expr c.e.now) ≡ Some t
    → said_one env c ≡ pieces.FromOutput c.name.now (target_place t) (typed_target t (named env) false).target ∷ []
said_output env c t h e = said_input env c false h ∙ ap (λ (o : Option tree.Target). (output_target c.name.now (view.expr c.e.now) env o).connections) e

pub output_wired : (s : Draft) (place : ℕ) (env : Env) (es : List Entry) (c : Connection) (inner : ℕ) → signal_at s.design.signals inner ≡ entry_signal (find_entry es c.name.now) → c.input ≡ false
    → IsOutput s.design (named env) (view.expr c.e.now)
    → and_process s (output_process place (signal_at s.design.signals inner) (output_of (view.expr c.e.now)) (named env)) ≡ and_processes s (map (port_assign place es) (said_one env c))
output_wired s place env es c inner is h o =
    let t = output_of (view.expr c.e.now) in
    ap (λ x. and_process s (Continuous place OutputPort (target_place t) (typed_target t (named env) false).target (At place (Name x)))) is
    ∙ ap (λ xs. and_processes s (map (port_assign place es) xs)) (sym (said_output env c t h o.is))

-- ---- one more

pub wired_nothing : (s : Draft) → s ≡ and_processes s []
wired_nothing s = ap (λ ps. let t : Draft = record s { design = record s.design { processes = ps } } in t) (sym (append-nil s.design.processes))

pub wired_more : (s t new : Draft) (place : ℕ) (env : Env) (es : List Entry) (cs : List Connection) (i : ℕ) (c : Connection) → i < length cs → c ≡ get_or cs i c
    → t ≡ and_processes s (map (port_assign place es) (said env (take i cs))) → new ≡ and_processes t (map (port_assign place es) (said_one env c))
    → new ≡ and_processes s (map (port_assign place es) (said env (take (i + 1) cs)))
wired_more s t new place env es cs i c h e before is =
    let f = port_assign place es in
    let done = said env (take i cs) in
    is ∙ ap (λ x. and_processes x (map f (said_one env c))) before
    ∙ ap (λ ps. let x : Draft = record s { design = record s.design { processes = ps } } in x) (append_assoc s.design.processes (map f done) (map f (said_one env c)))
    ∙ ap (λ ps. and_processes s ps) (sym (map-append f done (said_one env c)))
    ∙ ap (λ ps. and_processes s (map f ps)) (sym (ap (λ xs. said env xs) (one_taken cs i c h e) ∙ flat_map-append (said_one env) (take i cs) (c ∷ []) ∙ ap (λ xs. done ++ xs) (append-nil (said_one env c))))
  where
    one_taken : (xs : List Connection) (n : ℕ) (x : Connection) → n < length xs → x ≡ get_or xs n x → take (n + 1) xs ≡ take n xs ++ x ∷ []
    one_taken xs n x h e = ap (λ m. take m xs) (add-one n) ∙ take-suc xs n x h ∙ ap (λ y. take n xs ++ y ∷ []) (sym e)

pub wirable_at : (s t : Draft) (find : Find) (es : List Entry) (cs : List Connection) (i : ℕ) (c : Connection) (ps : List Process) → i < length cs → c ≡ get_or cs i c → t ≡ and_processes s ps
    → AreWirable s.design find es cs → IsWirable t.design find es c
wirable_at s t find es cs i c ps h e is all =
    wirable_wider s.design t.design (same_signals s.design t.design (omega (arith, ap (λ (x : Draft). length x.design.scopes) is)) (ap (λ (x : Draft). x.design.signals) is)) []
    (same_functions s.design t.design (ap (λ (x : Draft). x.design.functions) is)) find es c (each_at (IsWirable s.design find es) (λ x. x) cs i c h e (each_of cs all))
  where
    each_of : (xs : List Connection) → Each (IsWirable s.design find es) xs → Each (IsWirable s.design find es) (map (λ (x : Connection). x) xs)
    each_of [] k = tt
    each_of (x ∷ xs) k = (k.0, each_of xs k.1)

-- at most one for each
one_said : (env : Env) (c : Connection) → length (said_one env c) ≤ 1
one_said env c = subst (λ xs. length xs ≤ 1) (sym (said_input env c c.input refl)) (of c.input)
  where
    out : (o : Option tree.Target) → length (output_target c.name.now (view.expr c.e.now) env o).connections ≤ 1
    out None = omega arith
    out (Some t) = omega arith

    of : (b : Bool) → length (directed c.name.now (Some b) (view.expr c.e.now) env).connections ≤ 1
    of true = omega arith
    of false = out (as_target (view.expr c.e.now))

few_said : (env : Env) (cs : List Connection) (i : ℕ) → length (said env (take i cs)) ≤ i
few_said env cs zero = omega arith
few_said env [] (suc i) = omega arith
few_said env (c ∷ cs) (suc i) = let a = length-append (said_one env c) (said env (take i cs)) in let b = one_said env c in let r = few_said env cs i in omega (arith, a, b, r)

length_map : {A B : Type 0} (f : A → B) (xs : List A) → length (map f xs) ≡ length xs
length_map f [] = refl
length_map f (x ∷ xs) = ap suc (length_map f xs)

pub room_at : (s t : Draft) (place : ℕ) (env : Env) (es : List Entry) (cs : List Connection) (i : ℕ) → i < length cs → length s.design.processes + length cs ≤ 2 ^ 16
    → t ≡ and_processes s (map (port_assign place es) (said env (take i cs))) → length t.design.processes < 2 ^ 16
room_at s t place env es cs i h room is =
    let f = port_assign place es in
    let more = map f (said env (take i cs)) in
    let e : length t.design.processes ≡ length s.design.processes + length more = ap (λ (x : Draft). length x.design.processes) is ∙ length-append s.design.processes more in
    let a : length more ≡ length (said env (take i cs)) = length_map f (said env (take i cs)) in
    let b = few_said env cs i in
    omega (arith, e, a, b, h, room)
