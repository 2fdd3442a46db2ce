-- The copies of input ports, and where they lead, by number.
use Rattle.std.proofs.Common.{◌≡◌, ℕ, zero, suc, ◌+◌, ◌<◌, Bool, true, false, ◌==◌, eqb-true, eq-eqb, List, [], ◌∷◌, ◌++◌, length, if◌then◌else◌, Option, Some, None, option_map, refl, sym, ap, ◌∙◌, subst, arith}
use Rattle.std.specs.Prelude.{slice_get, slice_index_or}
use Rattle.std.proofs.lemmas.Option.{slice_get-get_or}
use Rattle.vs_design.specs.Expressions.{Signal, signal_length, Expression, Literal, Name, Select, Word, WordPart, Unary, Binary, Choice, Join, Repeat, At, Call}
use Rattle.vs_design.specs.Statements.{Whole}
use Rattle.vs_design.specs.Designs.{InputPort, Process, Continuous, Design}
use Rattle.vs_design.specs.Clocks.{name_of}
use Rattle.vs_design.specs.Elaborated.{is_formed}
use Rattle.vs_design.specs.Selects.{as_long, copied_by, first_some, copied_from}
use Rattle.vs_design.proofs.Formed.{signal_at as plain_at, plain_signal}
use Rattle.vs_flat.specs.declared.processes.Signal.{Signal as FlatSignal}
use Rattle.vs_flat.specs.Arena.{Arena, declared_at}
use Rattle.vs_flat.specs.DesignOf.{arena_signals, local_of, design_of}
use Rattle.vs_flat.specs.Named.{locals_in}
use Rattle.vs_flat.specs.Targets.{target_of}
use Rattle.vs_flat.specs.Trees.{no_signal, signals_from, signal_at}
use Rattle.vs_full.specs.Roots.{IsNamed, copied_number, copied_number_by, noted, number_of}

-- ---- numbers

numbered_from : (ss : List FlatSignal) (first n : ℕ) → n < length ss → number_of (slice_index_or (signals_from first ss) n no_signal) ≡ first + n
numbered_from [] first n h = absurd (omega (arith, h))
numbered_from (s ∷ ss) first zero h = let e : first ≡ first + 0 = omega arith in e
numbered_from (s ∷ ss) first (suc n) h =
    let e : suc first + n ≡ first + suc n = omega arith in
    let rest : number_of (slice_index_or (signals_from (suc first) ss) n no_signal) ≡ suc first + n = numbered_from ss (suc first) n (omega (arith, h)) in
    rest ∙ e

from_none : (n : ℕ) → 0 + n ≡ n
from_none n = omega arith

pub signal_numbered : (a : Arena) (n : ℕ) → n < length a.signals → number_of (signal_at (arena_signals a) n) ≡ n
signal_numbered a n h = numbered_from a.signals 0 n h ∙ from_none n

pub local_numbered : (a : Arena) (f n : ℕ) → n < length (locals_in (declared_at a f)) → number_of (local_of a f n) ≡ n
local_numbered a f n h = numbered_from (locals_in (declared_at a f)) 0 n h ∙ from_none n

signals_long : (ss : List FlatSignal) (first : ℕ) → length (signals_from first ss) ≡ length ss
signals_long [] first = refl
signals_long (s ∷ ss) first = ap suc (signals_long ss (suc first))

pub design_long : (a : Arena) → length (design_of a).signals ≡ length a.signals
design_long a = signals_long a.signals 0

pub signal_there : (a : Arena) (n : ℕ) → n < length a.signals → slice_get (design_of a).signals n ≡ Some (signal_at (arena_signals a) n)
signal_there a n h = slice_get-get_or (design_of a).signals n no_signal (omega (arith, h, design_long a))

some_is : {A : Type 0} (x y : A) → Some x ≡ Some y → x ≡ y
some_is x y e = cc

-- ---- names

pub formed_named : (d : Design) (e : Expression) → is_formed d e ≡ true → IsNamed d e
formed_named d (Name t) f s h = subst (λ (z : Signal). slice_get d.signals z.number ≡ Some z) (some_is t s h) (plain_at d t (plain_signal d t f))
formed_named d (At place e) f s h = formed_named d e f s h
formed_named d (Literal bits signed sized) f s h = cc
formed_named d (Select source part index) f s h = cc
formed_named d (Word signal index) f s h = cc
formed_named d (WordPart signal address part index) f s h = cc
formed_named d (Unary op a) f s h = cc
formed_named d (Binary op a b) f s h = cc
formed_named d (Choice c p q) f s h = cc
formed_named d (Join high low) f s h = cc
formed_named d (Repeat count a) f s h = cc
formed_named d (Call header statement arguments) f s h = cc

-- what is a name is the whole of that signal as a target
pub name_target : (e : Expression) (t : Signal) → name_of e ≡ Some t → target_of e ≡ Some (Whole t)
name_target (Name s) t h = ap (λ (z : Signal). Some (Whole z)) (some_is s t h)
name_target (At place e) t h = name_target e t h
name_target (Literal bits signed sized) t h = cc
name_target (Select source part index) t h = cc
name_target (Word signal index) t h = cc
name_target (WordPart signal address part index) t h = cc
name_target (Unary op a) t h = cc
name_target (Binary op a b) t h = cc
name_target (Choice c p q) t h = cc
name_target (Join high low) t h = cc
name_target (Repeat count a) t h = cc
name_target (Call header statement arguments) t h = cc

-- ---- one copy

turned : (m n : ℕ) → (m == n) ≡ (n == m)
turned m n = go (m == n) refl
  where
    go : (c : Bool) → (m == n) ≡ c → (m == n) ≡ (n == m)
    go true e = e ∙ sym (eq-eqb n m (sym (eqb-true m n e)))
    go false e = other (n == m) refl
      where
        other : (c : Bool) → (n == m) ≡ c → (m == n) ≡ (n == m)
        other true f = eq-eqb m n (sym (eqb-true n m f)) ∙ sym f
        other false f = e ∙ sym f

abbrev pair_if : Bool → Signal → Signal → Option (ℕ × ℕ)
pair_if c u t = if c then Some (u.number, t.number) else None

abbrev some_if : Bool → Signal → Option Signal
some_if c u = if c then Some u else None

abbrev then_some : Bool → Option Signal → Option Signal
then_some c o = if c then o else None

-- where the target is the signal t and s is the signal of the design with the number n
pub noted_is : (d : Design) (place target_place : ℕ) (t s : Signal) (e : Expression) (n : ℕ) → slice_get d.signals t.number ≡ Some t → slice_get d.signals n ≡ Some s → s.number ≡ n
    → noted n (copied_number (Some t) (name_of e)) ≡ copied_number_by s (Continuous place InputPort target_place (Whole t) e)
noted_is d place target_place t s e n there here own = by_name (name_of e)
  where
    at_n : (c : Bool) → (t.number == s.number) ≡ c → (t.number == n) ≡ c
    at_n c q = ap (λ (m : ℕ). t.number == m) (sym own) ∙ q

    paired : (u : Signal) (l : Bool) → (t.number == n) ≡ true → noted n (pair_if l u t) ≡ option_map number_of (some_if l u)
    paired u true q = ap (λ (c : Bool). if c then Some u.number else None) q
    paired u false q = refl

    unpaired : (u : Signal) (l : Bool) → (t.number == n) ≡ false → noted n (pair_if l u t) ≡ None
    unpaired u true q = ap (λ (c : Bool). if c then Some u.number else None) q
    unpaired u false q = refl

    by_number : (u : Signal) (c : Bool) → (t.number == s.number) ≡ c → noted n (pair_if (signal_length t == signal_length u) u t) ≡ option_map number_of (then_some (t.number == s.number) (some_if (signal_length u == signal_length s) u))
    by_number u true q =
        let same : t ≡ s = some_is t s (sym there ∙ ap (slice_get d.signals) (eqb-true t.number s.number q ∙ own) ∙ here) in
        let long : (signal_length u == signal_length s) ≡ (signal_length t == signal_length u) = turned (signal_length u) (signal_length s) ∙ ap (λ (z : Signal). signal_length z == signal_length u) (sym same) in
        paired u (signal_length t == signal_length u) (at_n true q)
        ∙ sym (ap (λ (c : Bool). option_map number_of (then_some c (some_if (signal_length u == signal_length s) u))) q ∙ ap (λ (c : Bool). option_map number_of (some_if c u)) long)
    by_number u false q =
        unpaired u (signal_length t == signal_length u) (at_n false q) ∙ sym (ap (λ (c : Bool). option_map number_of (then_some c (some_if (signal_length u == signal_length s) u))) q)

    nothing : (c : Bool) → None ≡ option_map number_of (then_some c None)
    nothing true = refl
    nothing false = refl

    by_name : (o : Option Signal) → noted n (copied_number (Some t) o) ≡ option_map number_of (then_some (t.number == s.number) (as_long s o))
    by_name None = nothing (t.number == s.number)
    by_name (Some u) = by_number u (t.number == s.number) refl

-- ---- copies of all processes

abbrev pub first_of : (o : Option ℕ) (c : Option ℕ) → Option ℕ
first_of (Some n) c = Some n
first_of None c = c

pub copied_more : (ps : List Process) (x : Process) (s : Signal) → option_map number_of (copied_from (ps ++ x ∷ []) s) ≡ first_of (option_map number_of (copied_from ps s)) (copied_number_by s x)
copied_more [] x s = go (copied_by s x)
  where
    go : (o : Option Signal) → option_map number_of (first_some o None) ≡ option_map number_of o
    go (Some u) = refl
    go None = refl
copied_more (p ∷ ps) x s = go (copied_by s p) (copied_more ps x s)
  where
    go : (o : Option Signal) → option_map number_of (copied_from (ps ++ x ∷ []) s) ≡ first_of (option_map number_of (copied_from ps s)) (copied_number_by s x)
        → option_map number_of (first_some o (copied_from (ps ++ x ∷ []) s)) ≡ first_of (option_map number_of (first_some o (copied_from ps s))) (copied_number_by s x)
    go (Some u) h = refl
    go None h = h
