-- The entry of a name is that of its first declaration, and where no name is repeated, every other declaration of it is the second one of the same signal.
use Rattle.std.proofs.Common.{◌≡◌, ℕ, Bool, true, false, not, ◌&&◌, ◌||◌, ◌==◌, List, [], ◌∷◌, ◌++◌, map, Option, Some, None, is_some, ◌⊎◌, inl, inr, if◌then◌else◌, refl, sym, ap, ◌∙◌, subst, eqb-true}
use Rattle.std.specs.List.{list_any}
use Rattle.vs_design.specs.Clocks.{same_name}
use Rattle.vs_grammar.specs.Trees as tree
use Rattle.vs_grammar.specs.Trees.{SignalKind, Input, InputWire, Output, OutputWire, OutputReg, Reg, Wire}
use Rattle.vs_grammar.specs.Shapes.{Each, is_port_kind}
use Rattle.vs_const.specs.Faults.{fault_if}
use Rattle.vs_const.specs.declared.rules.Rule.TheVariants.{DuplicateName}
use Rattle.vs_const.specs.declared.names.Role.TheVariants.{InModule}
use Rattle.vs_const.specs.Meanings.{SignalMeaning, FunctionMeaning}
use Rattle.vs_const.proofs.Formed.{both_nil, no_fault, split}
use Rattle.vs_elaborated.specs.Environments.{Declared, Later, OfSignal, OfParameter, OfGenvar, OfInteger, OfFunction, OfScope, Entry, Env, within, up_to, find_entry}
use Rattle.vs_elaborated.specs.Targets.{no_signal}
use Rattle.vs_elaborated.specs.Declarations.{SignalSort, has_addresses, Sort, SignalOf, ParameterOf, FunctionOf, GenvarSort, IntegerSort, InstanceSort, Declaration, Named, are_kinds_of_one, are_sorts_of_one, second_of, names_after, first_named, is_repeated, repeated_names}
use Rattle.vs_elaborated.specs.Parameters.{said_addresses, Override, valued, put_value, first_declared, first_entries, said_parameter, said_parameters}
use Rattle.vs_elaborated.specs.Limits.{Limits}
use Rattle.vs_elaborated.specs.Functions.{Counts, next_function, and_function, completed, put_function, said_functions}
use Rattle.vs_elaborated.specs.Signals.{is_reg, is_input, second_sort, Start, SaidSignal, said_signal, said_signals, after, put_signal, put_signals}
use Rattle.vs_elaborated.proofs.SoundNames.{same_itself, IsShapedSignal, IsShapedSort}

-- ---- names

no : true ≡ false → ⊥
no h = cc

pub same_is : (xs ys : List ℕ) → same_name xs ys ≡ true → xs ≡ ys
same_is [] [] h = refl
same_is [] (y ∷ ys) h = cc
same_is (x ∷ xs) [] h = cc
same_is (x ∷ xs) (y ∷ ys) h =
    let p = split (x == y) (same_name xs ys) h in
    let a : x ≡ y = eqb-true x y p.0 in
    let b : xs ≡ ys = same_is xs ys p.1 in cc

-- what one has and the other has not
apart : (P : List ℕ → Bool) (xs ys : List ℕ) → P xs ≡ true → P ys ≡ false → same_name xs ys ≡ false
apart P xs ys h k = of (same_name xs ys) refl
  where
    of : (b : Bool) → same_name xs ys ≡ b → b ≡ false
    of false e = refl
    of true e = absurd (no (sym h ∙ ap P (same_is xs ys e) ∙ k))

turned_round : (xs ys : List ℕ) → same_name xs ys ≡ false → same_name ys xs ≡ false
turned_round xs ys h = apart (λ zs. not (same_name xs zs)) ys xs (ap not h) (ap not (same_itself xs))

neither : (a b : Bool) → (a || b) ≡ false → (a ≡ false) × (b ≡ false)
neither true b h = cc
neither false b h = (refl, h)

nor : (a b : Bool) → a ≡ false → b ≡ false → (a || b) ≡ false
nor true b h k = cc
nor false b h k = k

-- ---- the first declaration of each name

second_is : (a : Declaration) (ds : List Declaration) (b : Declaration) → second_of a ds ≡ Some b → are_sorts_of_one a.sort b.sort ≡ true
second_is a [] b h = cc
second_is a (c ∷ cs) b h = of (same_name a.name.bytes c.name.bytes) (are_sorts_of_one a.sort c.sort) refl h (λ k. second_is a cs b k)
  where
    same : Some c ≡ Some b → c ≡ b
    same k = cc

    of : (x y : Bool) → are_sorts_of_one a.sort c.sort ≡ y → (if x && y then Some c else second_of a cs) ≡ Some b → (second_of a cs ≡ Some b → are_sorts_of_one a.sort b.sort ≡ true) → are_sorts_of_one a.sort b.sort ≡ true
    of true true e h k = subst (λ (u : Declaration). are_sorts_of_one a.sort u.sort ≡ true) (same h) e
    of true false e h k = k h
    of false y e h k = k h

pub record IsFirst (seen : List (List ℕ)) (ds : List Declaration) (n : Named) : Type 0 where
  pub new : list_any (same_name n.first.name.bytes) seen ≡ false
  pub first : first_named n.first.name.bytes ds ≡ Some n.first
  pub second : (b : Declaration) → n.second ≡ Some b → are_sorts_of_one n.first.sort b.sort ≡ true

passed : (a : Declaration) (rest : List Declaration) (w : List ℕ) (f : Declaration) → same_name a.name.bytes w ≡ false → first_named w rest ≡ Some f → first_named w (a ∷ rest) ≡ Some f
passed a rest w f e h = ap (λ b. if b then Some a else first_named w rest) e ∙ h

pub names_first : (seen : List (List ℕ)) (ds : List Declaration) → Each (IsFirst seen ds) (names_after seen ds)
names_first seen [] = tt
names_first seen (a ∷ rest) = of (list_any (same_name a.name.bytes) seen) refl (names_first seen rest) (names_first (a.name.bytes ∷ seen) rest)
  where
    skipped : (ns : List Named) → list_any (same_name a.name.bytes) seen ≡ true → Each (IsFirst seen rest) ns → Each (IsFirst seen (a ∷ rest)) ns
    skipped [] e h = tt
    skipped (n ∷ ns) e h =
        (record { new = h.0.new; first = passed a rest n.first.name.bytes n.first (apart (λ w. list_any (same_name w) seen) a.name.bytes n.first.name.bytes e h.0.new) h.0.first; second = h.0.second }, skipped ns e h.1)

    later : (ns : List Named) → Each (IsFirst (a.name.bytes ∷ seen) rest) ns → Each (IsFirst seen (a ∷ rest)) ns
    later [] h = tt
    later (n ∷ ns) h =
        let k = neither (same_name n.first.name.bytes a.name.bytes) (list_any (same_name n.first.name.bytes) seen) h.0.new in
        (record { new = k.1; first = passed a rest n.first.name.bytes n.first (turned_round n.first.name.bytes a.name.bytes k.0) h.0.first; second = h.0.second }, later ns h.1)

    of : (b : Bool) → list_any (same_name a.name.bytes) seen ≡ b → Each (IsFirst seen rest) (names_after seen rest) → Each (IsFirst (a.name.bytes ∷ seen) rest) (names_after (a.name.bytes ∷ seen) rest)
        → Each (IsFirst seen (a ∷ rest)) (if b then names_after seen rest else record { first = a; second = second_of a rest } ∷ names_after (a.name.bytes ∷ seen) rest)
    of true e h k = skipped (names_after seen rest) e h
    of false e h k =
        (record { new = e; first = ap (λ b. if b then Some a else first_named a.name.bytes rest) (same_itself a.name.bytes); second = second_is a rest }, later (names_after (a.name.bytes ∷ seen) rest) k)

abbrev pub first_entry : ℕ → Declaration → Entry
first_entry scope f = record { name = f.name.bytes; place = f.name.place; declared = first_declared scope f.sort }

pub entry_first : (scope : ℕ) (seen : List (List ℕ)) (ds : List Declaration) (w : List ℕ) (f : Declaration) → list_any (same_name w) seen ≡ false → first_named w ds ≡ Some f → find_entry (first_entries scope (names_after seen ds)) w ≡ Some (first_entry scope f)
entry_first scope seen [] w f n h = cc
entry_first scope seen (a ∷ rest) w f n h = of (list_any (same_name a.name.bytes) seen) refl (same_name a.name.bytes w) refl h (λ k. entry_first scope seen rest w f n k) (λ m k. entry_first scope (a.name.bytes ∷ seen) rest w f m k)
  where
    same : Some a ≡ Some f → a ≡ f
    same k = cc

    head : (b : Bool) → same_name a.name.bytes w ≡ b → find_entry (first_entries scope (record { first = a; second = second_of a rest } ∷ names_after (a.name.bytes ∷ seen) rest)) w ≡ (if b then Some (first_entry scope a) else find_entry (first_entries scope (names_after (a.name.bytes ∷ seen) rest)) w)
    head b e = ap (λ b. if b then Some (first_entry scope a) else find_entry (first_entries scope (names_after (a.name.bytes ∷ seen) rest)) w) e

    of : (b : Bool) → list_any (same_name a.name.bytes) seen ≡ b → (c : Bool) → same_name a.name.bytes w ≡ c → (if c then Some a else first_named w rest) ≡ Some f
        → (first_named w rest ≡ Some f → find_entry (first_entries scope (names_after seen rest)) w ≡ Some (first_entry scope f))
        → (list_any (same_name w) (a.name.bytes ∷ seen) ≡ false → first_named w rest ≡ Some f → find_entry (first_entries scope (names_after (a.name.bytes ∷ seen) rest)) w ≡ Some (first_entry scope f))
        → find_entry (first_entries scope (if b then names_after seen rest else record { first = a; second = second_of a rest } ∷ names_after (a.name.bytes ∷ seen) rest)) w ≡ Some (first_entry scope f)
    of true e true g k r s = absurd (no (sym e ∙ ap (λ u. list_any (same_name u) seen) (same_is a.name.bytes w g) ∙ n))
    of true e false g k r s = r k
    of false e true g k r s = head true g ∙ ap (λ u. Some (first_entry scope u)) (same k)
    of false e false g k r s = head false g ∙ s (nor (same_name w a.name.bytes) (list_any (same_name w) seen) (turned_round a.name.bytes w g) n) k

-- ---- where no name is repeated

abbrev pub Has : {A : Type 0} → (A → Type 0) → List A → Type 0
Has P [] = ⊥
Has P (a ∷ rest) = P a ⊎ Has P rest

pub record IsFirstOf (ds : List Declaration) (a f : Declaration) : Type 0 where
  pub first : first_named a.name.bytes ds ≡ Some f
  pub sorts : (f.sort ≡ a.sort) ⊎ (are_sorts_of_one f.sort a.sort ≡ true)

first_after : (w : List ℕ) (xs ys : List Declaration) → first_named w xs ≡ None → first_named w (xs ++ ys) ≡ first_named w ys
first_after w [] ys h = refl
first_after w (x ∷ xs) ys h = of (same_name x.name.bytes w) h (λ k. first_after w xs ys k)
  where
    of : (b : Bool) → (if b then Some x else first_named w xs) ≡ None → (first_named w xs ≡ None → first_named w (xs ++ ys) ≡ first_named w ys) → (if b then Some x else first_named w (xs ++ ys)) ≡ first_named w ys
    of true k r = cc
    of false k r = r k

first_before : (w : List ℕ) (xs ys : List Declaration) (f : Declaration) → first_named w xs ≡ Some f → first_named w (xs ++ ys) ≡ Some f
first_before w [] ys f h = cc
first_before w (x ∷ xs) ys f h = of (same_name x.name.bytes w) h (λ k. first_before w xs ys f k)
  where
    of : (b : Bool) → (if b then Some x else first_named w xs) ≡ Some f → (first_named w xs ≡ Some f → first_named w (xs ++ ys) ≡ Some f) → (if b then Some x else first_named w (xs ++ ys)) ≡ Some f
    of true k r = k
    of false k r = r k

regrouped : {A : Type 0} (xs : List A) (a : A) (ys : List A) → (xs ++ a ∷ []) ++ ys ≡ xs ++ a ∷ ys
regrouped [] a ys = refl
regrouped (x ∷ xs) a ys = ap (λ zs. x ∷ zs) (regrouped xs a ys)

pub first_of : (P : Declaration → Type 0) (Q : Type 0) (before ds : List Declaration) → repeated_names before ds ≡ [] → Has P ds → ((a f : Declaration) → P a → IsFirstOf (before ++ ds) a f → Q) → Q
first_of P Q before [] h k c = absurd k
first_of P Q before (a ∷ rest) h k c =
    let n = both_nil (fault_if (is_repeated before a) DuplicateName a.name.place) (repeated_names (before ++ a ∷ []) rest) h in
    of k (no_fault (is_repeated before a) DuplicateName a.name.place n.0) (λ j. first_of P Q (before ++ a ∷ []) rest n.1 j (λ b f p i. c b f p (record { first = ap (first_named b.name.bytes) (sym (regrouped before a rest)) ∙ i.first; sorts = i.sorts })))
  where
    is_more : Option Declaration → Bool
    is_more None = false
    is_more (Some first) = not (are_sorts_of_one first.sort a.sort) || is_some (second_of first before)

    sorted : (x y : Bool) → (not x || y) ≡ false → x ≡ true
    sorted true y e = refl
    sorted false y e = cc

    here : (o : Option Declaration) → first_named a.name.bytes before ≡ o → P a → is_more o ≡ false → Q
    here None e p i = c a a p (record { first = first_after a.name.bytes before (a ∷ rest) e ∙ ap (λ b. if b then Some a else first_named a.name.bytes rest) (same_itself a.name.bytes); sorts = inl refl })
    here (Some f) e p i = c a f p (record { first = first_before a.name.bytes before (a ∷ rest) f e; sorts = inr (sorted (are_sorts_of_one f.sort a.sort) (is_some (second_of f before)) i) })

    of : P a ⊎ Has P rest → is_repeated before a ≡ false → (Has P rest → Q) → Q
    of (inl p) e r = here (first_named a.name.bytes before) refl p e
    of (inr j) e r = r j

-- ---- entries of signals

abbrev pub IsDeclaredWith : (SignalMeaning → Type 0) → Declared → Type 0
IsDeclaredWith Q Later = ⊥
IsDeclaredWith Q (OfSignal m) = Q m
IsDeclaredWith Q (OfParameter v r) = ⊥
IsDeclaredWith Q OfGenvar = ⊥
IsDeclaredWith Q (OfInteger owner) = ⊥
IsDeclaredWith Q (OfFunction f) = ⊥
IsDeclaredWith Q OfScope = ⊥

abbrev pub IsSignalWith : (SignalMeaning → Type 0) → Option Entry → Type 0
IsSignalWith Q None = ⊥
IsSignalWith Q (Some e) = IsDeclaredWith Q e.declared

mapped : (Q : SignalMeaning → Type 0) (w : List ℕ) (g : Entry → Entry) → ((e : Entry) → (g e).name ≡ e.name) → ((e : Entry) → same_name e.name w ≡ true → IsDeclaredWith Q e.declared → IsDeclaredWith Q (g e).declared)
    → (es : List Entry) → IsSignalWith Q (find_entry es w) → IsSignalWith Q (find_entry (map g es) w)
mapped Q w g names keeps [] h = h
mapped Q w g names keeps (e ∷ es) h = subst (λ n. IsSignalWith Q (if same_name n w then Some (g e) else find_entry (map g es) w)) (sym (names e)) (of (same_name e.name w) refl h (λ k. mapped Q w g names keeps es k))
  where
    of : (b : Bool) → same_name e.name w ≡ b → IsSignalWith Q (if b then Some e else find_entry es w) → (IsSignalWith Q (find_entry es w) → IsSignalWith Q (find_entry (map g es) w)) → IsSignalWith Q (if b then Some (g e) else find_entry (map g es) w)
    of true i k r = keeps e i k
    of false i k r = r k

value_put : (Q : SignalMeaning → Type 0) (w name : List ℕ) (value : Declared) (es : List Entry) → IsSignalWith Q (find_entry es w) → IsSignalWith Q (find_entry (put_value name value es) w)
value_put Q w name value es h = mapped Q w (λ (e : Entry). if same_name e.name name then record e { declared = valued value e.declared } else e) named_same (λ e i k. kept (same_name e.name name) e k) es h
  where
    put : Bool → Entry → Entry
    put b e = if b then record e { declared = valued value e.declared } else e

    same_put : (b : Bool) (e : Entry) → (put b e).name ≡ e.name
    same_put true e = refl
    same_put false e = refl

    named_same : (e : Entry) → (put (same_name e.name name) e).name ≡ e.name
    named_same e = same_put (same_name e.name name) e

    kept_value : (x : Declared) → IsDeclaredWith Q x → IsDeclaredWith Q (valued value x)
    kept_value Later k = absurd k
    kept_value (OfSignal m) k = k
    kept_value (OfParameter v r) k = k
    kept_value OfGenvar k = k
    kept_value (OfInteger owner) k = absurd k
    kept_value (OfFunction f) k = absurd k
    kept_value OfScope k = k

    kept : (b : Bool) (e : Entry) → IsDeclaredWith Q e.declared → IsDeclaredWith Q (put b e).declared
    kept true e k = kept_value e.declared k
    kept false e k = k

signal_put : (Q : SignalMeaning → Type 0) (w : List ℕ) (m : SignalMeaning) (es : List Entry) → (same_name w m.signal.name ≡ true → Q m) → IsSignalWith Q (find_entry es w) → IsSignalWith Q (find_entry (put_signal m es) w)
signal_put Q w m es q h = mapped Q w (λ (e : Entry). if same_name e.name m.signal.name then record e { declared = OfSignal m } else e) (λ e. same_put (same_name e.name m.signal.name) e) (λ e i k. kept (same_name e.name m.signal.name) e refl i k) es h
  where
    put : Bool → Entry → Entry
    put b e = if b then record e { declared = OfSignal m } else e

    same_put : (b : Bool) (e : Entry) → (put b e).name ≡ e.name
    same_put true e = refl
    same_put false e = refl

    kept : (b : Bool) (e : Entry) → same_name e.name m.signal.name ≡ b → same_name e.name w ≡ true → IsDeclaredWith Q e.declared → IsDeclaredWith Q (put b e).declared
    kept true e j i k = q (ap (λ n. same_name n m.signal.name) (sym (same_is e.name w i)) ∙ j)
    kept false e j i k = k

pub signals_put : (Q : SignalMeaning → Type 0) (w : List ℕ) (ss : List SaidSignal) (es : List Entry) → Each (λ (s : SaidSignal). same_name w s.meaning.signal.name ≡ true → Q s.meaning) ss → IsSignalWith Q (find_entry es w) → IsSignalWith Q (find_entry (put_signals ss es) w)
signals_put Q w [] es q h = h
signals_put Q w (s ∷ ss) es q h = signals_put Q w ss (put_signal s.meaning es) q.1 (signal_put Q w s.meaning es q.0 h)

parameter_put : (Q : SignalMeaning → Type 0) (w : List ℕ) (outer : Env) (os : List Override) (ds : List Declaration) (es : List Entry)
    → ((fs : List Entry) → IsSignalWith Q (find_entry fs w) → IsSignalWith Q (find_entry (said_parameters outer os ds fs).entries w))
    → (n : tree.Name) (k : Sort) → IsSignalWith Q (find_entry es w) → IsSignalWith Q (find_entry (said_parameters outer os (record { name = n; sort = k } ∷ ds) es).entries w)
parameter_put Q w outer os ds es next n (SignalOf q) h = next es h
parameter_put Q w outer os ds es next n (FunctionOf f) h = next es h
parameter_put Q w outer os ds es next n GenvarSort h = next es h
parameter_put Q w outer os ds es next n IntegerSort h = next es h
parameter_put Q w outer os ds es next n InstanceSort h = next es h
parameter_put Q w outer os ds es next n (ParameterOf p) h =
    let env = up_to (within outer es) n.place in
    let v = said_parameter env os n p in
    next (put_value n.bytes v.declared es) (value_put Q w n.bytes v.declared es h)

pub parameters_put : (Q : SignalMeaning → Type 0) (w : List ℕ) (outer : Env) (os : List Override) (ds : List Declaration) (es : List Entry) → IsSignalWith Q (find_entry es w) → IsSignalWith Q (find_entry (said_parameters outer os ds es).entries w)
parameters_put Q w outer os [] es h = h
parameters_put Q w outer os (a ∷ ds) es h = parameter_put Q w outer os ds es (λ fs k. parameters_put Q w outer os ds fs k) a.name a.sort h

function_put : (Q : SignalMeaning → Type 0) (w name : List ℕ) (f : FunctionMeaning) (es : List Entry) → IsSignalWith Q (find_entry es w) → IsSignalWith Q (find_entry (put_function name f es) w)
function_put Q w name f es h = mapped Q w (λ (e : Entry). if same_name e.name name then record e { declared = completed f e.declared } else e) (λ e. same_put (same_name e.name name) e) (λ e i k. kept (same_name e.name name) e k) es h
  where
    put : Bool → Entry → Entry
    put b e = if b then record e { declared = completed f e.declared } else e

    same_put : (b : Bool) (e : Entry) → (put b e).name ≡ e.name
    same_put true e = refl
    same_put false e = refl

    kept_signal : (x : Declared) → IsDeclaredWith Q x → IsDeclaredWith Q (completed f x)
    kept_signal Later k = absurd k
    kept_signal (OfSignal m) k = k
    kept_signal (OfParameter v r) k = k
    kept_signal OfGenvar k = k
    kept_signal (OfInteger owner) k = k
    kept_signal (OfFunction g) k = absurd k
    kept_signal OfScope k = k

    kept : (b : Bool) (e : Entry) → IsDeclaredWith Q e.declared → IsDeclaredWith Q (put b e).declared
    kept true e k = kept_signal e.declared k
    kept false e k = k

functions_one : (Q : SignalMeaning → Type 0) (w : List ℕ) (limits : Limits) (scope : ℕ) (outer : Env) (counts : Counts) (ds : List Declaration) (es : List Entry)
    → ((c : Counts) (fs : List Entry) → IsSignalWith Q (find_entry fs w) → IsSignalWith Q (find_entry (said_functions limits scope outer c ds fs).entries w))
    → (n : tree.Name) (k : Sort) → IsSignalWith Q (find_entry es w) → IsSignalWith Q (find_entry (said_functions limits scope outer counts (record { name = n; sort = k } ∷ ds) es).entries w)
functions_one Q w limits scope outer counts ds es next n (SignalOf q) h = next counts es h
functions_one Q w limits scope outer counts ds es next n (ParameterOf p) h = next counts es h
functions_one Q w limits scope outer counts ds es next n GenvarSort h = next counts es h
functions_one Q w limits scope outer counts ds es next n IntegerSort h = next counts es h
functions_one Q w limits scope outer counts ds es next n InstanceSort h = next counts es h
functions_one Q w limits scope outer counts ds es next n (FunctionOf f) h =
    let s = next_function limits scope (within outer es) counts f in
    next (and_function counts s) (put_function n.bytes s.meaning es) (function_put Q w n.bytes s.meaning es h)

pub functions_put : (Q : SignalMeaning → Type 0) (w : List ℕ) (limits : Limits) (scope : ℕ) (outer : Env) (counts : Counts) (ds : List Declaration) (es : List Entry) → IsSignalWith Q (find_entry es w)
    → IsSignalWith Q (find_entry (said_functions limits scope outer counts ds es).entries w)
functions_put Q w limits scope outer counts [] es h = h
functions_put Q w limits scope outer counts (a ∷ ds) es h = functions_one Q w limits scope outer counts ds es (λ c fs k. functions_put Q w limits scope outer c ds fs k) a.name a.sort h

pub entry_within : (Q : SignalMeaning → Type 0) (w : List ℕ) (xs ys : List Entry) → IsSignalWith Q (find_entry xs w) → IsSignalWith Q (find_entry (xs ++ ys) w)
entry_within Q w [] ys h = absurd h
entry_within Q w (x ∷ xs) ys h = of (same_name x.name w) h (λ k. entry_within Q w xs ys k)
  where
    of : (b : Bool) → IsSignalWith Q (if b then Some x else find_entry xs w) → (IsSignalWith Q (find_entry xs w) → IsSignalWith Q (find_entry (xs ++ ys) w)) → IsSignalWith Q (if b then Some x else find_entry (xs ++ ys) w)
    of true k r = k
    of false k r = r k

-- ---- kinds

abbrev pub may_be_input : SignalKind → Bool
may_be_input Input = true
may_be_input InputWire = true
may_be_input Wire = true
may_be_input _ = false

input_may : (a : SignalKind) → is_input a ≡ true → may_be_input a ≡ true
input_may Input h = refl
input_may InputWire h = refl
input_may Output h = cc
input_may OutputWire h = cc
input_may OutputReg h = cc
input_may Reg h = cc
input_may Wire h = cc

-- of a declaration that goes with an input
first_may : (a b : SignalKind) → is_input b ≡ true → are_kinds_of_one a b ≡ true → may_be_input a ≡ true
first_may Input b h k = refl
first_may InputWire b h k = refl
first_may Wire b h k = refl
first_may a Output h k = cc
first_may a OutputWire h k = cc
first_may a OutputReg h k = cc
first_may a Reg h k = cc
first_may a Wire h k = cc
first_may Output Input h k = cc
first_may OutputWire Input h k = cc
first_may OutputReg Input h k = cc
first_may Reg Input h k = cc
first_may Output InputWire h k = cc
first_may OutputWire InputWire h k = cc
first_may OutputReg InputWire h k = cc
first_may Reg InputWire h k = cc

pub may_net : (a : SignalKind) → may_be_input a ≡ true → is_reg a ≡ false
may_net Input h = refl
may_net InputWire h = refl
may_net Output h = cc
may_net OutputWire h = cc
may_net OutputReg h = cc
may_net Reg h = cc
may_net Wire h = refl

-- what goes with it is no variable either
second_net : (a b : SignalKind) → may_be_input a ≡ true → are_kinds_of_one a b ≡ true → is_reg b ≡ false
second_net a Input h k = refl
second_net a InputWire h k = refl
second_net a Output h k = refl
second_net a OutputWire h k = refl
second_net a Wire h k = refl
second_net Input Reg h k = cc
second_net InputWire Reg h k = cc
second_net Output Reg h k = cc
second_net OutputWire Reg h k = cc
second_net OutputReg Reg h k = cc
second_net Reg Reg h k = cc
second_net Wire Reg h k = cc
second_net Input OutputReg h k = cc
second_net InputWire OutputReg h k = cc
second_net Output OutputReg h k = cc
second_net OutputWire OutputReg h k = cc
second_net OutputReg OutputReg h k = cc
second_net Reg OutputReg h k = cc
second_net Wire OutputReg h k = cc

-- whether it declares a port
abbrev pub is_port_sort : SignalSort → Bool
is_port_sort s = s.header || is_port_kind s.kind

abbrev pub IsSignalOf : Bool → Sort → Type 0
IsSignalOf input (SignalOf s) = (is_input s.kind ≡ input) × (is_port_sort s ≡ true)
IsSignalOf input (ParameterOf p) = ⊥
IsSignalOf input GenvarSort = ⊥
IsSignalOf input (FunctionOf f) = ⊥
IsSignalOf input IntegerSort = ⊥
IsSignalOf input InstanceSort = ⊥

-- whether neither is a memory
abbrev are_plain : SignalSort → SignalSort → Bool
are_plain a b = not (has_addresses a) && (not (has_addresses b) && are_kinds_of_one a.kind b.kind)

sorts_plain : (a b : SignalSort) → are_sorts_of_one (SignalOf a) (SignalOf b) ≡ true → are_plain a b ≡ true
sorts_plain a b h = (split (not b.header) (are_plain a b) (split (not a.header) (not b.header && are_plain a b) h).1).1

sorts_kinds : (a b : SignalSort) → are_sorts_of_one (SignalOf a) (SignalOf b) ≡ true → are_kinds_of_one a.kind b.kind ≡ true
sorts_kinds a b h = (split (not (has_addresses b)) (are_kinds_of_one a.kind b.kind) (split (not (has_addresses a)) (not (has_addresses b) && are_kinds_of_one a.kind b.kind) (sorts_plain a b h)).1).1

-- a signal with a second declaration is no memory
sorts_first : (a b : SignalSort) → are_sorts_of_one (SignalOf a) (SignalOf b) ≡ true → has_addresses a ≡ false
sorts_first a b h = of (has_addresses a) (split (not (has_addresses a)) (not (has_addresses b) && are_kinds_of_one a.kind b.kind) (sorts_plain a b h)).0
  where
    of : (c : Bool) → not c ≡ true → c ≡ false
    of true k = cc
    of false k = refl

abbrev pub MayBeInput : Sort → Type 0
MayBeInput (SignalOf s) = may_be_input s.kind ≡ true
MayBeInput _ = Unit {0}

pub sort_may : (k l : Sort) → IsSignalOf true l → (k ≡ l) ⊎ (are_sorts_of_one k l ≡ true) → MayBeInput k
sort_may (SignalOf a) (SignalOf b) h (inl e) = input_may a.kind (ap (λ (s : SignalSort). is_input s.kind) (same e) ∙ h.0)
  where
    same : SignalOf a ≡ SignalOf b → a ≡ b
    same i = cc
sort_may (SignalOf a) (SignalOf b) h (inr e) = first_may a.kind b.kind h.0 (sorts_kinds a b e)
sort_may (SignalOf a) (ParameterOf p) h e = absurd h
sort_may (SignalOf a) GenvarSort h e = absurd h
sort_may (SignalOf a) (FunctionOf f) h e = absurd h
sort_may (SignalOf a) IntegerSort h e = absurd h
sort_may (SignalOf a) InstanceSort h e = absurd h
sort_may (ParameterOf p) l h e = tt
sort_may GenvarSort l h e = tt
sort_may (FunctionOf f) l h e = tt
sort_may IntegerSort l h e = tt
sort_may InstanceSort l h e = tt

-- both declarations of a signal whose first may be an input are of a net
second_may : (s : SignalSort) (second : Option Declaration) → may_be_input s.kind ≡ true → ((b : Declaration) → second ≡ Some b → are_sorts_of_one (SignalOf s) b.sort ≡ true) → is_reg (second_sort s second).kind ≡ false
second_may s None h k = may_net s.kind h
second_may s (Some b) h k = of b.name b.sort (k b refl)
  where
    of : (n : tree.Name) (l : Sort) → are_sorts_of_one (SignalOf s) l ≡ true → is_reg (second_sort s (Some (record { name = n; sort = l }))).kind ≡ false
    of n (SignalOf t) e = second_net s.kind t.kind h (sorts_kinds s t e)
    of n (ParameterOf p) e = cc
    of n (FunctionOf f) e = cc
    of n GenvarSort e = cc
    of n IntegerSort e = cc
    of n InstanceSort e = cc

pub both_net : (s : SignalSort) (second : Option Declaration) → may_be_input s.kind ≡ true → ((b : Declaration) → second ≡ Some b → are_sorts_of_one (SignalOf s) b.sort ≡ true) → not (is_reg s.kind || is_reg (second_sort s second).kind) ≡ true
both_net s second h k = ap not (nor (is_reg s.kind) (is_reg (second_sort s second).kind) (may_net s.kind h) (second_may s second h k))

-- ---- the signal of an input port is a net

abbrev pub IsNetOf : Sort → Option Declaration → Type 0
IsNetOf (SignalOf s) second = not (is_reg s.kind || is_reg (second_sort s second).kind) ≡ true
IsNetOf (ParameterOf p) second = Unit {0}
IsNetOf GenvarSort second = Unit {0}
IsNetOf (FunctionOf f) second = Unit {0}
IsNetOf IntegerSort second = Unit {0}
IsNetOf InstanceSort second = Unit {0}

abbrev pub IsNetNamed : List ℕ → Named → Type 0
IsNetNamed w n = same_name w n.first.name.bytes ≡ true → IsNetOf n.first.sort n.second

pub net_of : (k : Sort) (second : Option Declaration) → MayBeInput k → ((b : Declaration) → second ≡ Some b → are_sorts_of_one k b.sort ≡ true) → IsNetOf k second
net_of (SignalOf s) second h k = both_net s second h k
net_of (ParameterOf p) second h k = tt
net_of GenvarSort second h k = tt
net_of (FunctionOf f) second h k = tt
net_of IntegerSort second h k = tt
net_of InstanceSort second h k = tt

abbrev pub IsAnySignal : Sort → Type 0
IsAnySignal (SignalOf s) = Unit {0}
IsAnySignal (ParameterOf p) = ⊥
IsAnySignal GenvarSort = ⊥
IsAnySignal (FunctionOf f) = ⊥
IsAnySignal IntegerSort = ⊥
IsAnySignal InstanceSort = ⊥

pub any_signal : (b : Bool) (k l : Sort) → IsSignalOf b l → (k ≡ l) ⊎ (are_sorts_of_one k l ≡ true) → IsAnySignal k
any_signal b (SignalOf s) l h e = tt
any_signal b (ParameterOf p) (SignalOf t) h (inl e) = cc
any_signal b (ParameterOf p) (SignalOf t) h (inr e) = cc
any_signal b GenvarSort (SignalOf t) h (inl e) = cc
any_signal b GenvarSort (SignalOf t) h (inr e) = cc
any_signal b InstanceSort (SignalOf t) h (inl e) = cc
any_signal b InstanceSort (SignalOf t) h (inr e) = cc
any_signal b (FunctionOf f) (SignalOf t) h (inl e) = cc
any_signal b (FunctionOf f) (SignalOf t) h (inr e) = cc
any_signal b IntegerSort (SignalOf t) h (inl e) = cc
any_signal b IntegerSort (SignalOf t) h (inr e) = cc
any_signal b k (ParameterOf p) h e = absurd h
any_signal b k GenvarSort h e = absurd h
any_signal b k (FunctionOf f) h e = absurd h
any_signal b k IntegerSort h e = absurd h
any_signal b k InstanceSort h e = absurd h

pub first_with : (Q : SignalMeaning → Type 0) → Q (record { signal = no_signal; input = false; role = InModule; known = false }) → (scope : ℕ) (k : Sort) → IsAnySignal k → IsDeclaredWith Q (first_declared scope k)
first_with Q q scope (SignalOf s) h = q
first_with Q q scope (ParameterOf p) h = absurd h
first_with Q q scope (FunctionOf f) h = absurd h
first_with Q q scope GenvarSort h = absurd h
first_with Q q scope IntegerSort h = absurd h
first_with Q q scope InstanceSort h = absurd h

-- an input is a net, by its one or two declarations
pub input_net : (s : SignalSort) (second : Option Declaration) → ((b : Declaration) → second ≡ Some b → are_sorts_of_one (SignalOf s) b.sort ≡ true) → (is_input s.kind || is_input (second_sort s second).kind) ≡ true
    → not (is_reg s.kind || is_reg (second_sort s second).kind) ≡ true
input_net s second k h = both_net s second (of second k (is_input s.kind) refl h) k
  where
    other : (b : Declaration) (l : Sort) → are_sorts_of_one (SignalOf s) l ≡ true → is_input (second_sort s (Some (record { name = b.name; sort = l }))).kind ≡ true → may_be_input s.kind ≡ true
    other b (SignalOf t) e i = first_may s.kind t.kind i (sorts_kinds s t e)
    other b (ParameterOf p) e i = cc
    other b (FunctionOf f) e i = cc
    other b GenvarSort e i = cc
    other b IntegerSort e i = cc
    other b InstanceSort e i = cc

    of : (o : Option Declaration) → ((b : Declaration) → o ≡ Some b → are_sorts_of_one (SignalOf s) b.sort ≡ true) → (c : Bool) → is_input s.kind ≡ c → (c || is_input (second_sort s o).kind) ≡ true → may_be_input s.kind ≡ true
    of o k true e i = input_may s.kind e
    of None k false e i = input_may s.kind i
    of (Some b) k false e i = other b b.sort (k b refl) i

pub said_nets : (w : List ℕ) (env : Env) (names : List Named) (start : Start) → start.top ≡ false → Each (IsNetNamed w) names
    → Each (λ (s : SaidSignal). same_name w s.meaning.signal.name ≡ true → (s.meaning.signal.net ≡ true) × (s.meaning.signal.input ≡ false)) (said_signals env start names)
said_nets w env [] start t h = tt
said_nets w env (n ∷ ns) start t h = of n.first.name n.first.sort n.second h.0 (λ next u. said_nets w env ns next u h.1)
  where
    P : SaidSignal → Type 0
    P s = same_name w s.meaning.signal.name ≡ true → (s.meaning.signal.net ≡ true) × (s.meaning.signal.input ≡ false)

    never : (a b : Bool) → b ≡ false → (a && b) ≡ false
    never true b e = e
    never false b e = refl

    of : (v : tree.Name) (k : Sort) (second : Option Declaration) → IsNetNamed w (record { first = record { name = v; sort = k }; second = second }) → ((next : Start) → next.top ≡ false → Each P (said_signals env next ns))
        → Each P (said_signals env start (record { first = record { name = v; sort = k }; second = second } ∷ ns))
    of v (SignalOf s) second g rest =
        let m : Named = record { first = record { name = v; sort = SignalOf s }; second = second } in
        (λ e. (g e, never (is_input s.kind || is_input (second_sort s second).kind) start.top t), rest (after start (said_signal env start m s).meaning) t)
    of v (ParameterOf p) second g rest = rest start t
    of v (FunctionOf f) second g rest = rest start t
    of v GenvarSort second g rest = rest start t
    of v IntegerSort second g rest = rest start t
    of v InstanceSort second g rest = rest start t

-- ---- the signal of a port is no memory

port_plain : (s : SignalSort) → is_port_sort s ≡ true → IsShapedSignal s → has_addresses s ≡ false
port_plain s h x = of (has_addresses s) refl
  where
    of : (b : Bool) → has_addresses s ≡ b → b ≡ false
    of false e = refl
    of true e = absurd (no (sym h ∙ ap (λ c. c || is_port_kind s.kind) (x.body e) ∙ x.inner e))

abbrev pub IsPlainSort : Sort → Type 0
IsPlainSort (SignalOf s) = has_addresses s ≡ false
IsPlainSort (ParameterOf p) = Unit {0}
IsPlainSort GenvarSort = Unit {0}
IsPlainSort (FunctionOf f) = Unit {0}
IsPlainSort IntegerSort = Unit {0}
IsPlainSort InstanceSort = Unit {0}

pub plain_of : (b : Bool) (k l : Sort) → IsSignalOf b l → IsShapedSort l → (k ≡ l) ⊎ (are_sorts_of_one k l ≡ true) → IsPlainSort k
plain_of b (SignalOf a) (SignalOf t) h x (inl e) = ap has_addresses (same e) ∙ port_plain t h.1 x
  where
    same : SignalOf a ≡ SignalOf t → a ≡ t
    same i = cc
plain_of b (SignalOf a) (SignalOf t) h x (inr e) = sorts_first a t e
plain_of b (SignalOf a) (ParameterOf p) h x e = absurd h
plain_of b (SignalOf a) GenvarSort h x e = absurd h
plain_of b (SignalOf a) (FunctionOf f) h x e = absurd h
plain_of b (SignalOf a) IntegerSort h x e = absurd h
plain_of b (SignalOf a) InstanceSort h x e = absurd h
plain_of b (ParameterOf p) l h x e = tt
plain_of b GenvarSort l h x e = tt
plain_of b (FunctionOf f) l h x e = tt
plain_of b IntegerSort l h x e = tt
plain_of b InstanceSort l h x e = tt

abbrev pub IsPlainNamed : List ℕ → Named → Type 0
IsPlainNamed w n = same_name w n.first.name.bytes ≡ true → IsPlainSort n.first.sort

no_words : (o : Option tree.RangeTree) (env : Env) → is_some o ≡ false → (said_addresses o env).range ≡ None
no_words None env h = refl
no_words (Some t) env h = cc

pub said_plain : (w : List ℕ) (env : Env) (names : List Named) (start : Start) → Each (IsPlainNamed w) names → Each (λ (s : SaidSignal). same_name w s.meaning.signal.name ≡ true → s.meaning.signal.words ≡ None) (said_signals env start names)
said_plain w env [] start h = tt
said_plain w env (n ∷ ns) start h = of n.first.name n.first.sort n.second h.0 (λ next. said_plain w env ns next h.1)
  where
    P : SaidSignal → Type 0
    P s = same_name w s.meaning.signal.name ≡ true → s.meaning.signal.words ≡ None

    of : (v : tree.Name) (k : Sort) (second : Option Declaration) → IsPlainNamed w (record { first = record { name = v; sort = k }; second = second }) → ((next : Start) → Each P (said_signals env next ns))
        → Each P (said_signals env start (record { first = record { name = v; sort = k }; second = second } ∷ ns))
    of v (SignalOf s) second g rest =
        let m : Named = record { first = record { name = v; sort = SignalOf s }; second = second } in
        (λ e. no_words s.addresses env (g e), rest (after start (said_signal env start m s).meaning))
    of v (ParameterOf p) second g rest = rest start
    of v (FunctionOf f) second g rest = rest start
    of v GenvarSort second g rest = rest start
    of v IntegerSort second g rest = rest start
    of v InstanceSort second g rest = rest start

-- what has addresses has one declaration, and is no input
pub memory_inner : (s : SignalSort) (second : Option Declaration) → IsShapedSignal s → ((b : Declaration) → second ≡ Some b → are_sorts_of_one (SignalOf s) b.sort ≡ true) → has_addresses s ≡ true → (is_input s.kind || is_input (second_sort s second).kind) ≡ false
memory_inner s second x k h = alone second k
  where
    one : (kind : SignalKind) → is_port_kind kind ≡ false → (is_input kind || is_input kind) ≡ false
    one Reg e = refl
    one Wire e = refl
    one Input e = cc
    one InputWire e = cc
    one Output e = cc
    one OutputWire e = cc
    one OutputReg e = cc

    two : (b : Declaration) (l : Sort) → are_sorts_of_one (SignalOf s) l ≡ true → ⊥
    two b (SignalOf t) e = no (sym h ∙ sorts_first s t e)
    two b (ParameterOf p) e = cc
    two b (FunctionOf f) e = cc
    two b GenvarSort e = cc
    two b IntegerSort e = cc
    two b InstanceSort e = cc

    alone : (o : Option Declaration) → ((b : Declaration) → o ≡ Some b → are_sorts_of_one (SignalOf s) b.sort ≡ true) → (is_input s.kind || is_input (second_sort s o).kind) ≡ false
    alone None k = one s.kind (x.inner h)
    alone (Some b) k = absurd (two b b.sort (k b refl))
