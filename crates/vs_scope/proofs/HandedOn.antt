-- The signals that a function hands on to one that it calls.
use Rattle.std.proofs.Common.{◌≡◌, ℕ, zero, suc, ◌<◌, ◌≤◌, Bool, true, false, ◌&&◌, List, [], ◌∷◌, length, take, slice_get, is_some, Option, Some, None, if◌then◌else◌, refl, sym, ap, ◌∙◌, subst, arith}
use Rattle.std.proofs.lemmas.List.{take_all}
use Rattle.vs_const.specs.Meanings.{SignalMeaning, FunctionMeaning, Meaning, AValue, Undefined, ASignal, AMemory, AFunction, Incomplete, Another, Barred, Unknown, is_local, IsShapeIn, Means}
use Rattle.vs_const.specs.declared.names.FunctionShape.{FunctionShape}
use Rattle.vs_const.specs.declared.names.Named.{Named}
use Rattle.vs_const.specs.declared.names.Named.TheVariants.{Value as ValueNamed, Undefined as UndefinedNamed, Signal as SignalNamed, Memory as MemoryNamed, Function as FunctionNamed, Incomplete as IncompleteNamed, Other as OtherNamed, Barred as BarredNamed, Unknown as UnknownNamed}
use Rattle.vs_const.specs.declared.names.Role.{Role}
use Rattle.vs_const.specs.declared.names.Role.TheVariants.{InModule, InFunction, AsResult}
use Rattle.vs_const.specs.declared.names.SignalShape.{SignalShape}
use Rattle.vs_const.specs.declared.rules.Rule.TheVariants.{FunctionRule}
use Rattle.vs_elaborated.specs.Functions.{and_input, passed_on, passed_or, called_within, passed_meaning}

-- ---- whether there is an input for each

and_some : (o : Option SignalMeaning) (ss : Option (List SignalMeaning)) → is_some (and_input o ss) ≡ (is_some o && is_some ss)
and_some None ss = refl
and_some (Some s) None = refl
and_some (Some s) (Some ss) = refl

both : (a b : Bool) → a ≡ true → b ≡ true → (a && b) ≡ true
both true true h k = refl
both true false h k = cc
both false b h k = cc

not_second : (a b : Bool) → b ≡ false → (a && b) ≡ false
not_second true b h = h
not_second false b h = refl

-- the first of them, and one more
pub hands_more : (input : ℕ → Option SignalMeaning) (ss : List SignalMeaning) (n : ℕ) (t : SignalMeaning) → slice_get ss n ≡ Some t → is_some (input t.signal.number) ≡ true → is_some (passed_on input (take n ss)) ≡ true
    → is_some (passed_on input (take (suc n) ss)) ≡ true
hands_more input [] n t h k b = cc
hands_more input (s ∷ ss) zero t h k b =
    let is : s ≡ t = cc in
    and_some (input s.signal.number) (Some []) ∙ both (is_some (input s.signal.number)) true (ap (λ (x : SignalMeaning). is_some (input x.signal.number)) is ∙ k) refl
hands_more input (s ∷ ss) (suc n) t h k b =
    let rest = first_of (input s.signal.number) (passed_on input (take n ss)) b in
    and_some (input s.signal.number) (passed_on input (take (suc n) ss)) ∙ both (is_some (input s.signal.number)) (is_some (passed_on input (take (suc n) ss))) rest.0 (hands_more input ss n t h k rest.1)
  where
    first_of : (o : Option SignalMeaning) (q : Option (List SignalMeaning)) → is_some (and_input o q) ≡ true → (is_some o ≡ true) × (is_some q ≡ true)
    first_of None q h = cc
    first_of (Some x) None h = cc
    first_of (Some x) (Some xs) h = (refl, refl)

pub hands_all : (input : ℕ → Option SignalMeaning) (ss : List SignalMeaning) (n : ℕ) → length ss ≤ n → is_some (passed_on input (take n ss)) ≡ true → is_some (passed_on input ss) ≡ true
hands_all input ss n h = subst (λ (xs : List SignalMeaning). is_some (passed_on input xs) ≡ true) (take_all n ss h)

-- there is none for one of them
pub hands_not : (input : ℕ → Option SignalMeaning) (ss : List SignalMeaning) (n : ℕ) (t : SignalMeaning) → slice_get ss n ≡ Some t → is_some (input t.signal.number) ≡ false → is_some (passed_on input ss) ≡ false
hands_not input [] n t h k = cc
hands_not input (s ∷ ss) zero t h k =
    let is : s ≡ t = cc in
    and_some (input s.signal.number) (passed_on input ss) ∙ ap (λ (b : Bool). b && is_some (passed_on input ss)) (ap (λ (x : SignalMeaning). is_some (input x.signal.number)) is ∙ k)
hands_not input (s ∷ ss) (suc n) t h k =
    and_some (input s.signal.number) (passed_on input ss) ∙ not_second (is_some (input s.signal.number)) (is_some (passed_on input ss)) (hands_not input ss n t h k)

pub there_is : (ss : List SignalMeaning) (n : ℕ) → n < length ss → slice_get ss n ≡ None → ⊥
there_is [] n h k = absurd (omega arith)
there_is (s ∷ ss) zero h k = cc
there_is (s ∷ ss) (suc n) h k = there_is ss n (omega arith) k

-- whether one is found
pub is_there : (o : Option SignalShape) (q : Option SignalMeaning) → IsShapeIn o q → is_some q ≡ is_some o
is_there None q h = ap is_some h
is_there (Some s) q h = ap is_some h.1

-- ---- what is handed on

handed_to : (ss all : List SignalMeaning) (o : Option SignalMeaning) (q : Option (List SignalMeaning)) → and_input o q ≡ Some all → (x : SignalMeaning) × (xs : List SignalMeaning) × (o ≡ Some x) × (q ≡ Some xs) × (all ≡ x ∷ xs)
handed_to ss all None q h = cc
handed_to ss all (Some x) None h = cc
handed_to ss all (Some x) (Some xs) h = let is : x ∷ xs ≡ all = cc in (x, xs, refl, refl, sym is)

pub as_many : (input : ℕ → Option SignalMeaning) (ss all : List SignalMeaning) → passed_on input ss ≡ Some all → length all ≡ length ss
as_many input [] all h = let is : [] ≡ all = cc in ap length (sym is)
as_many input (s ∷ ss) all h =
    let p = handed_to ss all (input s.signal.number) (passed_on input ss) h in
    ap length p.4 ∙ ap suc (as_many input ss p.1 p.3)

-- the one of each number
pub handed_at : (input : ℕ → Option SignalMeaning) (ss all : List SignalMeaning) (n : ℕ) (t : SignalMeaning) → passed_on input ss ≡ Some all → slice_get ss n ≡ Some t → slice_get all n ≡ input t.signal.number
handed_at input [] all n t h k = cc
handed_at input (s ∷ ss) all zero t h k =
    let p = handed_to ss all (input s.signal.number) (passed_on input ss) h in
    let is : s ≡ t = cc in
    ap (λ (xs : List SignalMeaning). slice_get xs 0) p.4 ∙ sym p.2 ∙ ap (λ (x : SignalMeaning). input x.signal.number) is
handed_at input (s ∷ ss) all (suc n) t h k =
    let p = handed_to ss all (input s.signal.number) (passed_on input ss) h in
    ap (λ (xs : List SignalMeaning). slice_get xs (suc n)) p.4 ∙ handed_at input ss p.1 n t p.3 k

pub handed_past : (input : ℕ → Option SignalMeaning) (ss all : List SignalMeaning) (n : ℕ) → passed_on input ss ≡ Some all → slice_get ss n ≡ None → slice_get all n ≡ None
handed_past input [] all n h k = let is : [] ≡ all = cc in ap (λ (xs : List SignalMeaning). slice_get xs n) (sym is) ∙ k
handed_past input (s ∷ ss) all zero h k = cc
handed_past input (s ∷ ss) all (suc n) h k =
    let p = handed_to ss all (input s.signal.number) (passed_on input ss) h in
    ap (λ (xs : List SignalMeaning). slice_get xs (suc n)) p.4 ∙ handed_past input ss p.1 n p.3 k

-- ---- what names mean in a function

-- a function that is called there is one around that hands these on
pub record IsHandedOn (input : ℕ → Option SignalMeaning) (m : Meaning) (f : FunctionMeaning) : Type 0 where
  pub around : FunctionMeaning
  pub is : m ≡ AFunction around
  pub passed : passed_on input around.passed ≡ Some f.passed

pub handed_on : (input : ℕ → Option SignalMeaning) (m : Meaning) (f : FunctionMeaning) → passed_meaning input m ≡ AFunction f → IsHandedOn input m f
handed_on input (ASignal s) f h = absurd (own (is_local s) (input s.signal.number) h)
  where
    own : (b : Bool) (o : Option SignalMeaning) → (if b then ASignal s else passed_or o) ≡ AFunction f → ⊥
    own true o h = cc
    own false None h = cc
    own false (Some t) h = cc
handed_on input (AMemory s) f h = cc
handed_on input (AFunction g) f h = by (passed_on input g.passed) refl h
  where
    by : (o : Option (List SignalMeaning)) → passed_on input g.passed ≡ o → called_within o g ≡ AFunction f → IsHandedOn input (AFunction g) f
    by None e h = cc
    by (Some ss) e h =
        let is : (let x : FunctionMeaning = record g { passed = ss } in x) ≡ f = cc in
        record { around = g; is = refl; passed = e ∙ ap (λ (x : FunctionMeaning). Some x.passed) is }
handed_on input (AValue v r turns) f h = cc
handed_on input (Undefined r) f h = cc
handed_on input Incomplete f h = cc
handed_on input Another f h = cc
handed_on input (Barred rule) f h = cc
handed_on input Unknown f h = cc

-- a signal of the module, by the input that passes it
abbrev pub is_own : Role → Bool
is_own InModule = false
is_own InFunction = true
is_own AsResult = true

local_is : (t : SignalMeaning) → is_local t ≡ is_own t.role
local_is t = by t.role
  where
    by : (r : Role) → elim r as (λ _. Bool) [ InModule ↦ false | _ ↦ true ] ≡ is_own r
    by InModule = refl
    by InFunction = refl
    by AsResult = refl

pub signal_passing : (input : ℕ → Option SignalMeaning) (s : SignalShape) (m : Meaning) → Means (SignalNamed s) m → s.role ≡ InModule → passed_meaning input m ≡ passed_or (input s.number)
signal_passing input s m h k =
    let t = h.0 in
    let local : is_local t ≡ false = local_is t ∙ ap is_own (sym h.5 ∙ k) in
    ap (passed_meaning input) h.1 ∙ ap (λ (b : Bool). if b then ASignal t else passed_or (input t.signal.number)) local ∙ ap (λ (n : ℕ). passed_or (input n)) (sym h.2)

pub own_passing : (input : ℕ → Option SignalMeaning) (s : SignalShape) (m : Meaning) → Means (SignalNamed s) m → is_own s.role ≡ true → Means (SignalNamed s) (passed_meaning input m)
own_passing input s m h k =
    let t = h.0 in
    let local : is_local t ≡ true = local_is t ∙ ap is_own (sym h.5) ∙ k in
    let is : passed_meaning input m ≡ m = ap (passed_meaning input) h.1 ∙ ap (λ (b : Bool). if b then ASignal t else passed_or (input t.signal.number)) local ∙ sym h.1 in
    subst (Means (SignalNamed s)) (sym is) h

-- what passes a signal, or none
pub passed_none : (o : Option SignalMeaning) → IsShapeIn None o → passed_or o ≡ Barred FunctionRule
passed_none o h = ap passed_or h

pub passed_some : (s : SignalShape) (o : Option SignalMeaning) → IsShapeIn (Some s) o → Means (SignalNamed s) (passed_or o)
passed_some s o h = let t = h.2 in (h.0, ap passed_or h.1, t.number, t.range, t.signed, t.role, t.known, t.words, t.net, t.input)

-- a memory isn't read
pub memory_barred : (input : ℕ → Option SignalMeaning) (s : SignalShape) (m : Meaning) → Means (MemoryNamed s) m → passed_meaning input m ≡ Barred FunctionRule
memory_barred input s m h = ap (passed_meaning input) h.1

-- and all else means what it means around
pub other_passing : (input : ℕ → Option SignalMeaning) (n : Named) (m : Meaning) → Means n m → ((s : SignalShape) → n ≡ SignalNamed s → ⊥) → ((s : SignalShape) → n ≡ MemoryNamed s → ⊥) → ((f : FunctionShape) → n ≡ FunctionNamed f → ⊥)
    → Means n (passed_meaning input m)
other_passing input (ValueNamed v r turns) m h a b c = ap (passed_meaning input) h
other_passing input (UndefinedNamed r) m h a b c = ap (passed_meaning input) h
other_passing input (SignalNamed s) m h a b c = absurd (a s refl)
other_passing input (MemoryNamed s) m h a b c = absurd (b s refl)
other_passing input (FunctionNamed f) m h a b c = absurd (c f refl)
other_passing input IncompleteNamed m h a b c = ap (passed_meaning input) h
other_passing input OtherNamed m h a b c = ap (passed_meaning input) h
other_passing input (BarredNamed rule) m h a b c = ap (passed_meaning input) h
other_passing input UnknownNamed m h a b c = ap (passed_meaning input) h

-- a function that hands on what it reads
pub function_passing : (input : ℕ → Option SignalMeaning) (f : FunctionShape) (m : Meaning) → Means (FunctionNamed f) m → ((g : FunctionMeaning) → m ≡ AFunction g → f.passed ≡ length g.passed → is_some (passed_on input g.passed) ≡ true)
    → Means (FunctionNamed f) (passed_meaning input m)
function_passing input f m h hands = by (passed_on input h.0.passed) refl (hands h.0 h.1 h.9)
  where
    by : (o : Option (List SignalMeaning)) → passed_on input h.0.passed ≡ o → is_some o ≡ true → Means (FunctionNamed f) (passed_meaning input m)
    by None e k = cc
    by (Some ss) e k =
        let g : FunctionMeaning = record h.0 { passed = ss } in
        (g, ap (passed_meaning input) h.1 ∙ ap (λ (o : Option (List SignalMeaning)). called_within o h.0) e, h.2, h.3, h.4, h.5, h.6, h.7, h.8, h.9 ∙ sym (as_many input h.0.passed ss e))

pub function_barred : (input : ℕ → Option SignalMeaning) (f : FunctionShape) (m : Meaning) → Means (FunctionNamed f) m → ((g : FunctionMeaning) → m ≡ AFunction g → f.passed ≡ length g.passed → is_some (passed_on input g.passed) ≡ false)
    → passed_meaning input m ≡ Barred FunctionRule
function_barred input f m h hands = ap (passed_meaning input) h.1 ∙ by (passed_on input h.0.passed) (hands h.0 h.1 h.9)
  where
    by : (o : Option (List SignalMeaning)) → is_some o ≡ false → called_within o h.0 ≡ Barred FunctionRule
    by None k = refl
    by (Some ss) k = cc

-- where the function around passes no signal of this number, none is handed on
pub nothing_passed : (b : Bool) (input : ℕ → Option SignalMeaning) (m : Meaning) (f : FunctionMeaning) (n : ℕ) → (if b then passed_meaning input m else m) ≡ AFunction f
    → ((g : FunctionMeaning) → m ≡ AFunction g → slice_get g.passed n ≡ None) → slice_get f.passed n ≡ None
nothing_passed true input m f n h none = let o = handed_on input m f h in handed_past input o.around.passed f.passed n o.passed (none o.around o.is)
nothing_passed false input m f n h none = none f h
