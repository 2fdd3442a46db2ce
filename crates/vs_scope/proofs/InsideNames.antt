-- What names mean within a function, by its local signals.
use Rattle.std.proofs.Common.{◌≡◌, ℕ, Bool, true, false, ◌==◌, List, [], ◌∷◌, map, length, Option, Some, None, if◌then◌else◌, refl, ap, ◌∙◌}
use mathlib.Core.Path.{fun_ext}
use Rattle.vs_ast.specs.Views.{option}
use Rattle.vs_grammar.specs.Trees as tree
use Rattle.vs_bodies.specs.Layers.{IsNoFunction}
use Rattle.vs_const.specs.Meanings.{SignalMeaning, Meaning, AValue, Undefined, ASignal, AMemory, AFunction, Incomplete, Another, Barred, Unknown, is_local, IsFair, IsFairMeaning}
use Rattle.vs_elaborated.specs.Environments.{Env, inside_function, named}
use Rattle.vs_elaborated.specs.Statements as statements
use Rattle.vs_elaborated.specs.Statements.{find_local, local_or}
use Rattle.vs_elaborated.specs.Functions as spec
use Rattle.vs_maps.specs.Maps.{value_at}
use Rattle.vs_maps.specs.MapViews.{pairs}
use Rattle.vs_scope.specs.declared.names.LocalSignal.{LocalSignal}
use Rattle.vs_scope.specs.declared.names.PassedInput.{PassedInput}
use Rattle.vs_scope.specs.declared.inside.Inside.{Inside}
use Rattle.vs_scope.specs.declared.inside.Locals.{Locals}
use Rattle.vs_scope.specs.Signalled.{Placed}
use Rattle.vs_scope.specs.Frames.{view_env}
use Rattle.vs_scope.specs.Inside.{first_by, place_of_local, signal_of, AreNumbered, AreNumberedInputs}
use Rattle.vs_scope.specs.Locals.{local_meaning, placed_local, placed_local_of, local_at, own_meaning, own_or, passed_of, input_of, outer_meaning, inside_names, inside_declared, place_of, AreLocals}
use Rattle.vs_scope.proofs.Fair.{view_fair}

-- ---- the local signals of the definitions

first_same : (cs : List LocalSignal) (ls : List spec.LocalSignal) (place : ℕ) → map placed_local cs ≡ map placed_local_of ls → option local_meaning (first_by place_of_local cs place) ≡ option (λ (s : spec.LocalSignal). s.meaning) (spec.signal_at ls place)
first_same [] [] place h = refl
first_same [] (l ∷ ls) place h = cc
first_same (c ∷ cs) [] place h = cc
first_same (c ∷ cs) (l ∷ ls) place h =
    let first : placed_local c ≡ placed_local_of l = cc in
    let rest : map placed_local cs ≡ map placed_local_of ls = cc in
    by (c.place == place) (l.place == place) (ap (λ (p : Placed). p.place == place) first) (ap (λ (p : Placed). p.meaning) first) (first_same cs ls place rest)
  where
    by : (a b : Bool) → a ≡ b → local_meaning c ≡ l.meaning → option local_meaning (first_by place_of_local cs place) ≡ option (λ (s : spec.LocalSignal). s.meaning) (spec.signal_at ls place)
        → option local_meaning (if a then Some c else first_by place_of_local cs place) ≡ option (λ (s : spec.LocalSignal). s.meaning) (if b then Some l else spec.signal_at ls place)
    by true true e m rest = ap Some m
    by true false e m rest = cc
    by false true e m rest = cc
    by false false e m rest = rest

-- the first input that passes a signal
first_passed : (ps : List PassedInput) (number : ℕ) → option (λ (x : PassedInput). (passed_of x).input) (first_by signal_of ps number) ≡ spec.find_passed (map passed_of ps) number
first_passed [] number = refl
first_passed (p ∷ ps) number = by (p.signal == number) (first_passed ps number)
  where
    by : (b : Bool) → option (λ (x : PassedInput). (passed_of x).input) (first_by signal_of ps number) ≡ spec.find_passed (map passed_of ps) number
        → option (λ (x : PassedInput). (passed_of x).input) (if b then Some p else first_by signal_of ps number) ≡ (if b then Some (passed_of p).input else spec.find_passed (map passed_of ps) number)
    by true h = refl
    by false h = h

pub are_locals : (c : Locals) (l : spec.Locals) (vs : List statements.Local) → map placed_local c.signals.items ≡ map placed_local_of (spec.all_locals l) → c.inputs ≡ length l.inputs → map passed_of c.passed.items ≡ l.passed → AreNumberedInputs c.by_signal c.passed.items
    → ((name : List ℕ) → value_at name (pairs c.names) ≡ place_of vs name) → AreNumbered c.places c.signals.items → AreLocals c l vs
are_locals c l vs s n p q h k = record {
  signals = s;
  inputs = n;
  passed = p;
  by_signal = λ number. ap (option (λ (x : PassedInput). (passed_of x).input)) (q.each number) ∙ first_passed c.passed.items number ∙ ap (λ (ps : List spec.Passed). spec.find_passed ps number) p;
  by_name = h;
  at_place = λ place. ap (option local_meaning) (k.each place) ∙ first_same c.signals.items (spec.all_locals l) place s;
}

-- ---- what names mean

block_same : (a : Option LocalSignal) (b : Option spec.LocalSignal) → option local_meaning a ≡ option (λ (s : spec.LocalSignal). s.meaning) b → own_meaning a ≡ spec.meaning_or b
block_same None None h = refl
block_same None (Some s) h = cc
block_same (Some c) None h = cc
block_same (Some c) (Some s) h = let is : local_meaning c ≡ s.meaning = cc in ap ASignal is

-- it is no function
pub own_plain : (o : Option LocalSignal) → IsNoFunction (own_meaning o)
own_plain None f h = cc
own_plain (Some s) f h = cc

-- what is declared at a place, of these local signals
pub declared_blocks : (c : Locals) (ls : List spec.LocalSignal) → map placed_local c.signals.items ≡ map placed_local_of ls → AreNumbered c.places c.signals.items → (place : ℕ) → own_meaning (local_at c place) ≡ spec.meaning_or (spec.signal_at ls place)
declared_blocks c ls s k place = block_same (local_at c place) (spec.signal_at ls place) (ap (option local_meaning) (k.each place) ∙ first_same c.signals.items ls place s)

-- around an always block a name means what it means
outer_plain : (i : Inside) (m : Meaning) → i.here.in_function ≡ false → outer_meaning i m ≡ m
outer_plain i m h = ap (λ (b : Bool). if b then spec.passed_meaning (input_of i.locals) m else m) h

-- without names of its own
pub names_around : (i : Inside) → i.here.in_function ≡ false → pairs i.locals.names ≡ [] → inside_names i ≡ named (view_env i.here)
names_around i k h = fun_ext (λ name. ap (λ ps. own_or i.locals (value_at name ps) (outer_meaning i (named (view_env i.here) name))) h ∙ outer_plain i (named (view_env i.here) name) k)

-- around a function it means what is passed to this
outer_passed : (i : Inside) (ps : List spec.Passed) (m : Meaning) → i.here.in_function ≡ true → ((number : ℕ) → input_of i.locals number ≡ spec.find_passed ps number) → outer_meaning i m ≡ spec.passed_meaning (spec.find_passed ps) m
outer_passed i ps m h k =
    ap (λ (b : Bool). if b then spec.passed_meaning (input_of i.locals) m else m) h ∙ ap (λ (input : ℕ → Option SignalMeaning). spec.passed_meaning input m) (fun_ext (λ number. k number))

pub names_inside : (i : Inside) (scope : ℕ) (outer : Env) (f : tree.Function) → i.here.in_function ≡ true → view_env i.here ≡ inside_function outer [] → AreLocals i.locals (spec.locals_in scope outer f) (spec.declared_locals f)
    → inside_names i ≡ spec.function_names scope outer f
names_inside i scope outer f t e a = fun_ext (λ name. at name)
  where
    l : spec.Locals
    l = spec.locals_in scope outer f

    vs : List statements.Local
    vs = spec.declared_locals f

    by : (o : Option statements.Local) (m : Meaning) → own_or i.locals (option (λ (v : statements.Local). v.name.place) o) m ≡ local_or (spec.own_meaning l) o m
    by None m = refl
    by (Some v) m = block_same (local_at i.locals v.name.place) (spec.signal_at (spec.all_locals l) v.name.place) (a.at_place v.name.place)

    at : (name : List ℕ) → inside_names i name ≡ spec.function_names scope outer f name
    at name =
        ap (λ (o : Option ℕ). own_or i.locals o (outer_meaning i (named (view_env i.here) name))) (a.by_name name)
        ∙ ap (own_or i.locals (place_of vs name)) (outer_passed i l.passed (named (view_env i.here) name) t a.by_signal ∙ ap (λ (x : Env). spec.passed_meaning (spec.find_passed l.passed) (named x name)) e)
        ∙ by (find_local vs name) (spec.passed_meaning (spec.find_passed l.passed) (named (inside_function outer []) name))

pub declared_inside : (i : Inside) (l : spec.Locals) (vs : List statements.Local) → AreLocals i.locals l vs → inside_declared i ≡ (spec.function_body l).declared
declared_inside i l vs a = fun_ext (λ place. block_same (local_at i.locals place) (spec.signal_at (spec.all_locals l) place) (a.at_place place))

-- ---- values

fair_own : (l : Locals) (o : Option ℕ) (m : Meaning) → IsFairMeaning m → IsFairMeaning (own_or l o m)
fair_own l None m h = h
fair_own l (Some place) m h = by (local_at l place)
  where
    by : (o : Option LocalSignal) → IsFairMeaning (own_meaning o)
    by None = tt
    by (Some s) = tt

-- what is passed has no value
fair_passed : (input : ℕ → Option SignalMeaning) (m : Meaning) → IsFairMeaning m → IsFairMeaning (spec.passed_meaning input m)
fair_passed input (ASignal s) h = own (is_local s)
  where
    of : (o : Option SignalMeaning) → IsFairMeaning (spec.passed_or o)
    of None = tt
    of (Some t) = tt

    own : (b : Bool) → IsFairMeaning (if b then ASignal s else spec.passed_or (input s.signal.number))
    own true = tt
    own false = of (input s.signal.number)
fair_passed input (AMemory m) h = tt
fair_passed input (AFunction f) h = of (spec.passed_on input f.passed)
  where
    of : (o : Option (List SignalMeaning)) → IsFairMeaning (spec.called_within o f)
    of None = tt
    of (Some ss) = tt
fair_passed input (AValue v r turns) h = h
fair_passed input (Undefined r) h = tt
fair_passed input Incomplete h = tt
fair_passed input Another h = tt
fair_passed input (Barred rule) h = tt
fair_passed input Unknown h = tt

fair_outer : (i : Inside) (m : Meaning) → IsFairMeaning m → IsFairMeaning (outer_meaning i m)
fair_outer i m h = of i.here.in_function
  where
    of : (b : Bool) → IsFairMeaning (if b then spec.passed_meaning (input_of i.locals) m else m)
    of true = fair_passed (input_of i.locals) m h
    of false = h

pub inside_fair : (i : Inside) → IsFair (inside_names i)
inside_fair i = λ name. fair_own i.locals (value_at name (pairs i.locals.names)) (outer_meaning i (named (view_env i.here) name)) (fair_outer i (named (view_env i.here) name) (view_fair i.here name))

pub declared_fair : (i : Inside) (place : ℕ) → IsFairMeaning (inside_declared i place)
declared_fair i place = by (local_at i.locals place)
  where
    by : (o : Option LocalSignal) → IsFairMeaning (own_meaning o)
    by None = tt
    by (Some s) = tt
