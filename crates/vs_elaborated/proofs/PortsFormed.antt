-- The assigns that ports imply are formed, and the signals of a scope without a fault are declared as the law has it.
use Rattle.std.proofs.Common.{◌≡◌, ℕ, ◌+◌, ◌≤◌, Bool, true, false, not, ◌&&◌, ◌||◌, List, [], ◌∷◌, ◌++◌, map, Option, Some, None, is_none, is_some, inl, inr, if◌then◌else◌, refl, sym, ap, ◌∙◌, subst, arith, nat_lt}
use Rattle.std.proofs.lemmas.Bool.{ltb-false}
use Rattle.vs_four.specs.declared.Range.{Range}
use Rattle.vs_design.specs.Expressions.{Signal, signal_length, Expression, At, Name as NameOf}
use Rattle.vs_design.specs.Statements.{Target, Whole}
use Rattle.vs_design.specs.Designs.{Design, InputPort, OutputPort, Continuous}
use Rattle.vs_design.specs.Clocks.{same_name}
use Rattle.vs_design.specs.Footprints.{is_net, is_variable, is_memory}
use Rattle.vs_design.specs.Elaborated.{is_plain, is_formed, is_formed_target, has_constant_selects, is_formed_process, is_lawful_range, are_lawful_words, is_array_net, is_lawful_memory}
use Rattle.vs_grammar.specs.Trees as tree
use Rattle.vs_grammar.specs.Trees.{RangeTree, Source}
use Rattle.vs_grammar.specs.Shapes.{Each}
use Rattle.vs_const.specs.Faults.{fault}
use Rattle.vs_const.specs.declared.names.Role.TheVariants.{InModule}
use Rattle.vs_const.specs.declared.rules.Rule.TheVariants.{TooManyBits}
use Rattle.vs_const.specs.Meanings.{SignalMeaning}
use Rattle.vs_const.specs.Sound.{IsSound}
use Rattle.vs_const.proofs.Formed.{both_nil, both, split}
use Rattle.vs_elaborated.specs.Limits.{Limits}
use Rattle.vs_elaborated.specs.Environments.{Declared, Later, OfSignal, OfParameter, OfGenvar, OfInteger, OfFunction, OfScope, Entry, Env, with_words, find_entry}
use Rattle.vs_elaborated.specs.Targets.{no_signal}
use Rattle.vs_elaborated.specs.Declarations.{SignalSort, has_addresses, Sort, SignalOf, ParameterOf, FunctionOf, GenvarSort, IntegerSort, InstanceSort, Declaration, Named, are_sorts_of_one, names_of, first_named}
use Rattle.vs_elaborated.specs.Parameters.{said_type, said_addresses}
use Rattle.vs_elaborated.specs.Signals.{is_input, second_sort, Start, SaidSignal, said_signal, said_signals, nets_of, after, range_faults}
use Rattle.vs_elaborated.specs.Pieces.{Task, Connection, IntoInput, FromOutput}
use Rattle.vs_elaborated.specs.Surveys.{declarations_of, overrides_of, block_entries, bits_over, Totals, counts_of, survey}
use Rattle.vs_elaborated.specs.Elaborated.{entry_signal, port_assign}
use Rattle.vs_elaborated.specs.Sound.{IsSoundDeclared, AreSoundEntries, AreSoundFrames, IsShapedContents, IsFineConnection, IsSoundTask}
use Rattle.vs_elaborated.proofs.NumberedSignals.{bits_of_all, signals_of, bits_both, bits_of_nets}
use Rattle.vs_elaborated.proofs.Nets.{each_of, to_all, lawful_net}
use Rattle.vs_elaborated.proofs.SurveyParts.{names_in, first_in, parameters_in, ranged_in, start_in, signals_in, entries_in, functions_in, blocks_in, faultless}
use Rattle.vs_elaborated.proofs.SoundNames.{frames_needed, IsShapedSort, AreShapedDeclarations, type_fine, addresses_fine}
use Rattle.vs_elaborated.proofs.SurveyNames.{contents_shaped, names_shaped, names_ranges, parameters_sound}
use Rattle.vs_elaborated.proofs.FirstNames.{same_is, IsFirst, names_first, entry_first, Has, IsFirstOf, first_of, IsDeclaredWith, IsSignalWith, signals_put, parameters_put, functions_put, entry_within, MayBeInput, sort_may, IsNetNamed, net_of, any_signal, first_with, input_net, said_nets, IsPlainSort, plain_of, said_plain, memory_inner}
use Rattle.vs_elaborated.proofs.PortNames.{IsPort, IsDirected}

-- ---- the entry of a port

-- a signal that is no memory, of which this holds
abbrev pub PlainWith : (SignalMeaning → Type 0) → SignalMeaning → Type 0
PlainWith Q m = (m.signal.words ≡ None) × Q m

-- a declaration of this port, as the grammar has it
abbrev IsShapedPort : List ℕ → Bool → Declaration → Type 0
IsShapedPort w b a = IsPort w b a × IsShapedSort a.sort

has_shape : (w : List ℕ) (b : Bool) (ds : List Declaration) → AreShapedDeclarations ds → Has (IsPort w b) ds → Has (IsShapedPort w b) ds
has_shape w b [] x h = absurd h
has_shape w b (a ∷ ds) x (inl h) = inl (h, x.0)
has_shape w b (a ∷ ds) x (inr h) = inr (has_shape w b ds x.1 h)

both_said : (A B : SignalMeaning → Type 0) (w : List ℕ) (ss : List SaidSignal) → Each (λ (s : SaidSignal). same_name w s.meaning.signal.name ≡ true → A s.meaning) ss → Each (λ (s : SaidSignal). same_name w s.meaning.signal.name ≡ true → B s.meaning) ss
    → Each (λ (s : SaidSignal). same_name w s.meaning.signal.name ≡ true → A s.meaning × B s.meaning) ss
both_said A B w [] h k = tt
both_said A B w (s ∷ ss) h k = ((λ e. (h.0 e, k.0 e)), both_said A B w ss h.1 k.1)

-- what holds of the first declaration of a name holds of each name with it
first_names : (w : List ℕ) (P : Sort → Type 0) (ds : List Declaration) (f : Declaration) → first_named w ds ≡ Some f → P f.sort → (ns : List Named) → Each (IsFirst [] ds) ns → Each (λ (n : Named). same_name w n.first.name.bytes ≡ true → P n.first.sort) ns
first_names w P ds f e m [] h = tt
first_names w P ds f e m (n ∷ ns) h = ((λ i. subst (λ (u : Declaration). P u.sort) (same (sym e ∙ ap (λ u. first_named u ds) (same_is w n.first.name.bytes i) ∙ h.0.first)) m), first_names w P ds f e m ns h.1)
  where
    same : Some f ≡ Some n.first → f ≡ n.first
    same k = cc

-- what holds of a signal before it is said, and of each one said of this name, holds of the entry of this name; a port is no memory
port_entry : (Q : SignalMeaning → Type 0) → Q (record { signal = no_signal; input = false; role = InModule; known = false }) → (b : Bool) (w : List ℕ) (limits : Limits) (source : Source) (k : Task) (t : Totals)
    → IsShapedContents k.contents → Has (IsPort w b) (declarations_of k.contents) → (survey limits source k t).faults ≡ []
    → ((env : Env) (start : Start) (a f : Declaration) → IsPort w b a → IsFirstOf (declarations_of k.contents) a f → start.top ≡ is_none k.parent → Each (λ (s : SaidSignal). same_name w s.meaning.signal.name ≡ true → Q s.meaning) (said_signals env start (names_of (declarations_of k.contents))))
    → IsSignalWith (PlainWith Q) (find_entry (survey limits source k t).entries w)
port_entry Q q b w limits source k t x p h said =
    let ds = declarations_of k.contents in
    let names = names_in k in
    let n = faultless limits source k t h in
    first_of (IsShapedPort w b) (IsSignalWith (PlainWith Q) (find_entry (survey limits source k t).entries w)) [] ds n.repeated (has_shape w b ds (contents_shaped k.contents x) p) λ a f g i.
    let first = ap (λ u. first_named u ds) (sym g.0.name_is) ∙ i.first in
    let began = subst (IsSignalWith (PlainWith Q)) (sym (entry_first t.scopes [] ds w f refl first)) (first_with (PlainWith Q) (refl, q) t.scopes f.sort (any_signal b f.sort a.sort g.0.sort i.sorts)) in
    let plain = said_plain w (ranged_in k t) names (start_in k t) (first_names w IsPlainSort ds f first (plain_of b f.sort a.sort g.0.sort g.1 i.sorts) names (names_first [] ds)) in
    entry_within (PlainWith Q) w (functions_in limits k t).entries (block_entries (blocks_in limits k t))
    (functions_put (PlainWith Q) w limits t.scopes k.env (counts_of t) ds (entries_in k t)
    (signals_put (PlainWith Q) w (signals_in k t) (parameters_in k t).entries (both_said (λ (m : SignalMeaning). m.signal.words ≡ None) Q w (signals_in k t) plain (said (ranged_in k t) (start_in k t) a f g.0 i refl))
    (parameters_put (PlainWith Q) w k.env (overrides_of k.contents) ds (first_in k t) began)))

abbrev pub IsNetMeaning : SignalMeaning → Type 0
IsNetMeaning m = (m.signal.net ≡ true) × (m.signal.input ≡ false)

nets_named : (w : List ℕ) (ds : List Declaration) (f : Declaration) → first_named w ds ≡ Some f → MayBeInput f.sort → (ns : List Named) → Each (IsFirst [] ds) ns → Each (IsNetNamed w) ns
nets_named w ds f e m [] h = tt
nets_named w ds f e m (n ∷ ns) h = ((λ i. net_of n.first.sort n.second ((first_names w MayBeInput ds f e m (n ∷ []) (h.0, tt)).0 i) h.0.second), nets_named w ds f e m ns h.1)

pub input_entry : (w : List ℕ) (limits : Limits) (source : Source) (k : Task) (t : Totals) → IsShapedContents k.contents → Has (IsPort w true) (declarations_of k.contents) → (survey limits source k t).faults ≡ [] → is_none k.parent ≡ false
    → IsSignalWith (PlainWith IsNetMeaning) (find_entry (survey limits source k t).entries w)
input_entry w limits source k t x p h top = port_entry IsNetMeaning (refl, refl) true w limits source k t x p h λ env start a f g i e.
    let ds = declarations_of k.contents in
    said_nets w env (names_of ds) start (e ∙ top) (nets_named w ds f (ap (λ u. first_named u ds) (sym g.name_is) ∙ i.first) (sort_may f.sort a.sort g.sort i.sorts) (names_of ds) (names_first [] ds))

abbrev pub AnyMeaning : SignalMeaning → Type 0
AnyMeaning m = Unit {0}

any_said : (w : List ℕ) (ss : List SaidSignal) → Each (λ (s : SaidSignal). same_name w s.meaning.signal.name ≡ true → AnyMeaning s.meaning) ss
any_said w [] = tt
any_said w (s ∷ ss) = ((λ e. tt), any_said w ss)

pub port_signal : (b : Bool) (w : List ℕ) (limits : Limits) (source : Source) (k : Task) (t : Totals) → IsShapedContents k.contents → Has (IsPort w b) (declarations_of k.contents) → (survey limits source k t).faults ≡ []
    → IsSignalWith (PlainWith AnyMeaning) (find_entry (survey limits source k t).entries w)
port_signal b w limits source k t x p h = port_entry AnyMeaning tt b w limits source k t x p h λ env start a f g i e. any_said w (said_signals env start (names_of (declarations_of k.contents)))

-- ---- it is a signal of the design

abbrev pub WithIn : Design → (SignalMeaning → Type 0) → SignalMeaning → Type 0
WithIn d Q m = (is_plain d m.signal ≡ true) × Q m

pub entry_in : (d : Design) (Q : SignalMeaning → Type 0) (es : List Entry) (w : List ℕ) → AreSoundEntries d false es → IsSignalWith (PlainWith Q) (find_entry es w) → IsSignalWith (WithIn d Q) (find_entry es w)
entry_in d Q [] w s h = absurd h
entry_in d Q (e ∷ es) w s h = of (same_name e.name w) h (λ k. entry_in d Q es w s.1 k)
  where
    plain : (m : SignalMeaning) (words : Option Range) → IsSound d false (with_words words m) → words ≡ None → is_plain d m.signal ≡ true
    plain m None i k = i.0
    plain m (Some r) i k = cc

    declared : (x : Declared) → IsSoundDeclared d false x → IsDeclaredWith (PlainWith Q) x → IsDeclaredWith (WithIn d Q) x
    declared Later i k = absurd k
    declared (OfSignal m) i k = (plain m m.signal.words i.0 k.0, k.1)
    declared (OfParameter v r) i k = absurd k
    declared OfGenvar i k = absurd k
    declared (OfInteger owner) i k = absurd k
    declared (OfFunction f) i k = absurd k
    declared OfScope i k = absurd k

    of : (b : Bool) → IsSignalWith (PlainWith Q) (if b then Some e else find_entry es w) → (IsSignalWith (PlainWith Q) (find_entry es w) → IsSignalWith (WithIn d Q) (find_entry es w)) → IsSignalWith (WithIn d Q) (if b then Some e else find_entry es w)
    of true k r = declared e.declared s.0 k
    of false k r = r k

input_formed : (d : Design) (place : ℕ) (e : Expression) → is_formed d e ≡ true → (o : Option Entry) → IsSignalWith (WithIn d IsNetMeaning) o → is_formed_process d (Continuous place InputPort place (Whole (entry_signal o)) e) ≡ true
input_formed d place e f None h = absurd h
input_formed d place e f (Some x) h = of x.name x.place x.declared h
  where
    four : (a b c g : Bool) → a ≡ true → b ≡ true → c ≡ false → g ≡ true → ((a && (b && not c)) && true && g && true) ≡ true
    four true true false true p q r s = refl
    four true true false false p q r s = cc
    four true true true g p q r s = cc
    four true false c g p q r s = cc
    four false b c g p q r s = cc

    of : (n : List ℕ) (p : ℕ) (y : Declared) → IsDeclaredWith (WithIn d IsNetMeaning) y → is_formed_process d (Continuous place InputPort place (Whole (entry_signal (Some (record { name = n; place = p; declared = y })))) e) ≡ true
    of n p Later k = absurd k
    of n p (OfSignal m) k = four (is_plain d m.signal) m.signal.net m.signal.input (is_formed d e) k.0 k.1.0 k.1.1 f
    of n p (OfParameter v r) k = absurd k
    of n p OfGenvar k = absurd k
    of n p (OfInteger owner) k = absurd k
    of n p (OfFunction g) k = absurd k
    of n p OfScope k = absurd k

output_formed : (d : Design) (place target_place : ℕ) (t : Target) → is_formed_target d is_net t ≡ true → has_constant_selects t ≡ true → (o : Option Entry) → IsSignalWith (WithIn d AnyMeaning) o
    → is_formed_process d (Continuous place OutputPort target_place t (At place (NameOf (entry_signal o)))) ≡ true
output_formed d place target_place t f g None h = absurd h
output_formed d place target_place t f g (Some x) h = of x.name x.place x.declared h
  where
    four : (a b c : Bool) → a ≡ true → b ≡ true → c ≡ true → (a && b && c && true) ≡ true
    four true true true p q r = refl
    four true true false p q r = cc
    four true false c p q r = cc
    four false b c p q r = cc

    of : (n : List ℕ) (p : ℕ) (y : Declared) → IsDeclaredWith (WithIn d AnyMeaning) y → is_formed_process d (Continuous place OutputPort target_place t (At place (NameOf (entry_signal (Some (record { name = n; place = p; declared = y })))))) ≡ true
    of n p Later k = absurd k
    of n p (OfSignal m) k = four (is_formed_target d is_net t) (has_constant_selects t) (is_plain d m.signal) f g k.0
    of n p (OfParameter v r) k = absurd k
    of n p OfGenvar k = absurd k
    of n p (OfInteger owner) k = absurd k
    of n p (OfFunction g) k = absurd k
    of n p OfScope k = absurd k

-- the assign of a connection without a fault
pub port_formed : (d : Design) (limits : Limits) (source : Source) (k : Task) (t : Totals) → IsShapedContents k.contents → AreSoundEntries d false (survey limits source k t).entries → (survey limits source k t).faults ≡ [] → is_none k.parent ≡ false
    → (place : ℕ) (c : Connection) → IsFineConnection d c → IsDirected (declarations_of k.contents) c → is_formed_process d (port_assign place (survey limits source k t).entries c) ≡ true
port_formed d limits source k t x s h top place (IntoInput name e) f g =
    input_formed d place e f (find_entry (survey limits source k t).entries name) (entry_in d IsNetMeaning (survey limits source k t).entries name s (input_entry name limits source k t x g h top))
port_formed d limits source k t x s h top place (FromOutput name target_place target) f g =
    output_formed d place target_place target f.0 f.1 (find_entry (survey limits source k t).entries name) (entry_in d AnyMeaning (survey limits source k t).entries name s (port_signal false name limits source k t x g h))

-- ---- the signals of a scope

pub record IsDeclaredSaid (top : Bool) (scope : ℕ) (s : SaidSignal) : Type 0 where
  pub known : s.meaning.known ≡ true
  pub range : is_lawful_range s.meaning.signal.range ≡ true
  pub input : s.meaning.signal.input ≡ true → (s.meaning.signal.net ≡ true) × (top ≡ true)
  pub scope_is : s.meaning.signal.scope ≡ scope
  pub words : are_lawful_words s.meaning.signal.words ≡ true
  pub inner : is_some s.meaning.signal.words ≡ true → s.meaning.signal.input ≡ false

-- what has addresses is no input
inner_signal : (env : Env) (start : Start) (n : Named) (s : SignalSort) → (has_addresses s ≡ true → (is_input s.kind || is_input (second_sort s n.second).kind) ≡ false) → is_some (said_signal env start n s).meaning.signal.words ≡ true → (said_signal env start n s).meaning.signal.input ≡ false
inner_signal env start n s h = of s.addresses refl
  where
    none : (a b : Bool) → a ≡ false → (a && b) ≡ false
    none false b e = refl
    none true b e = cc

    of : (o : Option RangeTree) → s.addresses ≡ o → is_some (said_addresses s.addresses env).range ≡ true → ((is_input s.kind || is_input (second_sort s n.second).kind) && start.top) ≡ false
    of None e k = absurd (no (sym (ap (λ (o : Option RangeTree). is_some (said_addresses o env).range) e) ∙ k))
      where
        no : false ≡ true → ⊥
        no i = cc
    of (Some r) e k = none (is_input s.kind || is_input (second_sort s n.second).kind) start.top (h (ap (λ (o : Option RangeTree). is_some o) e))

said_declared : (d : Design) (env : Env) → AreSoundFrames d true env.frames → (ds : List Declaration) (names : List Named) (start : Start) → Each (IsFirst [] ds) names → Each (λ (n : Named). IsShapedSort n.first.sort) names
    → range_faults env (map (λ (n : Named). n.first) names) ≡ [] → Each (IsDeclaredSaid start.top start.scope) (said_signals env start names)
said_declared d env s ds [] start f x h = tt
said_declared d env s ds (n ∷ ns) start f x h = of n.first.name n.first.sort n.second f.0.second x.0 h (λ next e. said_declared d env s ds ns next f.1 x.1 e)
  where
    of : (w : tree.Name) (q : Sort) (second : Option Declaration) → ((b : Declaration) → second ≡ Some b → are_sorts_of_one q b.sort ≡ true) → IsShapedSort q
        → range_faults env (record { name = w; sort = q } ∷ map (λ (n : Named). n.first) ns) ≡ []
        → ((next : Start) → range_faults env (map (λ (n : Named). n.first) ns) ≡ [] → Each (IsDeclaredSaid next.top next.scope) (said_signals env next ns))
        → Each (IsDeclaredSaid start.top start.scope) (said_signals env start (record { first = record { name = w; sort = q }; second = second } ∷ ns))
    of w (SignalOf t) second g x h rest =
        let m : Named = record { first = record { name = w; sort = SignalOf t }; second = second } in
        let k = both_nil ((said_type t.value_type env).faults ++ (said_addresses t.addresses env).faults) (range_faults env (map (λ (n : Named). n.first) ns)) h in
        let l = both_nil (said_type t.value_type env).faults (said_addresses t.addresses env).faults k.0 in
        let r = type_fine d t.value_type env s x.value_type l.0 in
        let a = addresses_fine d t.addresses env s x.addresses l.1 in (
          record {
            known = both (said_type t.value_type env).known (said_addresses t.addresses env).known r.known a.known;
            range = r.lawful;
            input = λ e. let i = split (is_input t.kind || is_input (second_sort t second).kind) start.top e in (input_net t second g i.0, i.1);
            scope_is = refl;
            words = a.lawful;
            inner = inner_signal env start m t (λ e. memory_inner t second x g e);
          },
          rest (after start (said_signal env start m t).meaning) k.1,
        )
    of w (ParameterOf p) second g x h rest = rest start h
    of w (FunctionOf q) second g x h rest = rest start h
    of w GenvarSort second g x h rest = rest start h
    of w IntegerSort second g x h rest = rest start h
    of w InstanceSort second g x h rest = rest start h

not_over : (most total : ℕ) (ss : List SaidSignal) (top : Bool) (scope : ℕ) → Each (IsDeclaredSaid top scope) ss → total ≤ most → bits_over most total ss ≡ [] → total + bits_of_all (signals_of ss) ≤ most
not_over most total [] top scope x b h = omega (arith, b)
not_over most total (s ∷ ss) top scope x b h =
    let q = of (total + (if s.meaning.known then signal_length s.meaning.signal else 0)) (ap (λ c. total + (if c then signal_length s.meaning.signal else 0)) x.0.known) h (λ n c i. not_over most n ss top scope x.1 c i) in
    omega (arith, q, bits_both (nets_of s.meaning.signal) (signals_of ss), bits_of_nets s.meaning.signal)
  where
    of : (n : ℕ) → n ≡ total + signal_length s.meaning.signal → (if nat_lt most n then fault TooManyBits s.place else bits_over most n ss) ≡ [] → ((n : ℕ) → n ≤ most → bits_over most n ss ≡ [] → n + bits_of_all (signals_of ss) ≤ most)
        → total + (signal_length s.meaning.signal + bits_of_all (signals_of ss)) ≤ most
    of n e i r = by (nat_lt most n) refl i
      where
        by : (c : Bool) → nat_lt most n ≡ c → (if c then fault TooManyBits s.place else bits_over most n ss) ≡ [] → total + (signal_length s.meaning.signal + bits_of_all (signals_of ss)) ≤ most
        by true g j = cc
        by false g j = let l = r n (ltb-false most n g) j in omega (arith, e, l)

abbrev pub IsDeclaredSignal : Bool → ℕ → Signal → Type 0
IsDeclaredSignal top scope s = (is_lawful_range s.range ≡ true) × (s.input ≡ true → (s.net ≡ true) × (top ≡ true)) × (s.scope ≡ scope) × (is_lawful_memory s ≡ true)

pub record AreFineSignals (d : Design) (limits : Limits) (source : Source) (k : Task) (t : Totals) : Type 0 where
  pub declared : Each (IsDeclaredSignal (is_none k.parent) t.scopes) (survey limits source k t).signals
  pub bits : t.bits + bits_of_all (survey limits source k t).signals ≤ limits.bits

pub survey_signals : (d : Design) (limits : Limits) (source : Source) (k : Task) (t : Totals) → IsSoundTask d k → t.bits ≤ limits.bits → (survey limits source k t).faults ≡ [] → AreFineSignals d limits source k t
survey_signals d limits source k t s b h =
    let ds = declarations_of k.contents in
    let n = faultless limits source k t h in
    let good = parameters_sound d k t s.frames s.overrides s.shaped n.parameters in
    let all = said_declared d (ranged_in k t) (good.sound, frames_needed d k.env.frames s.frames) ds (names_in k) (start_in k t) (names_first [] ds) (names_shaped [] ds (contents_shaped k.contents s.shaped)) (names_ranges (ranged_in k t) [] ds n.ranges) in
    record {
      declared = to_all (IsDeclaredSignal (is_none k.parent) t.scopes) (signals_in k t) (each (signals_in k t) all);
      bits = not_over limits.bits t.bits (signals_in k t) (is_none k.parent) t.scopes all b n.bits;
    }
  where
    kinds : (memory net input array : Bool) → (net && memory) ≡ false → (memory ≡ true → input ≡ false) → (not memory || ((not net && not input) || array)) ≡ true
    kinds false net input array e h = refl
    kinds true false false array e h = refl
    kinds true false true array e h = absurd (no (h refl))
      where
        no : true ≡ false → ⊥
        no i = cc
    kinds true true input array e h = cc

    one : (s : SaidSignal) → IsDeclaredSaid (is_none k.parent) t.scopes s → Each (IsDeclaredSignal (is_none k.parent) t.scopes) (nets_of s.meaning.signal)
    one s x =
        let m = s.meaning.signal in
        each_of (IsDeclaredSignal (is_none k.parent) t.scopes) m
        (λ e. (x.range, x.input, x.scope_is, both (are_lawful_words m.words) (not (is_memory m) || (is_variable m || is_array_net m)) x.words (kinds (is_some m.words) m.net m.input (is_array_net m) e x.inner)))
        (λ e n l u. let p = split m.net (is_some m.words) e in (x.range, x.input, x.scope_is, lawful_net m n p.0 (x.inner p.1) x.words p.1 l u))

    each : (ss : List SaidSignal) → Each (IsDeclaredSaid (is_none k.parent) t.scopes) ss → Each (λ (s : SaidSignal). Each (IsDeclaredSignal (is_none k.parent) t.scopes) (nets_of s.meaning.signal)) ss
    each [] x = tt
    each (s ∷ ss) x = (one s x.0, each ss x.1)
