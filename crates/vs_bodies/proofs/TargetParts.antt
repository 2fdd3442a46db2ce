-- What is told of a name as a target, with what is selected of it.
use Rattle.std.proofs.Common.{◌≡◌, ℕ, max, Bool, true, false, List, ◌++◌, is_some, if◌then◌else◌, Option, Some, None, refl, sym, ap, ◌∙◌, subst, arith}
use Rattle.vs_four.specs.declared.Range.{Range}
use Rattle.vs_design.specs.Expressions.{Signal}
use Rattle.vs_const.specs.declared.faults.Fault.{Fault}
use Rattle.vs_const.specs.declared.faults.Flaws.{Flaws}
use Rattle.vs_const.specs.declared.found.Checked.{Checked}
use Rattle.vs_const.specs.declared.selects.Taken.{Taken as TakenOf}
use Rattle.vs_const.specs.declared.names.Named.{Named}
use Rattle.vs_const.specs.declared.names.Named.TheVariants.{Value, Undefined as UndefinedValue, Signal as SignalNamed, Memory as MemoryNamed, Function as FunctionNamed, Incomplete as IncompleteNamed, Other, Barred as BarredName, Unknown as UnknownName}
use Rattle.vs_const.specs.declared.names.SignalShape.{SignalShape}
use Rattle.vs_const.specs.declared.rules.Rule.TheVariants.{WrongKind}
use Rattle.vs_const.specs.declared.selects.Addressed.{Addressed as AddressedOf}
use Rattle.vs_const.specs.CallDepths.{call_depth}
use Rattle.vs_const.specs.Faults.{least, better, fault, fault_if}
use Rattle.vs_const.specs.Meanings.{SignalMeaning, FunctionMeaning, Meaning, AValue, Undefined, ASignal, AMemory, AFunction, Incomplete, Another, Barred, Unknown, Means}
use Rattle.vs_const.specs.Typed.{Typed}
use Rattle.vs_const.specs.Selects.{Base, is_scalar, Taken, taken, word_range, is_array, addressed}
use Rattle.vs_const.specs.Checks.{Checks, ChecksTaken, ChecksAddress}
use Rattle.vs_const.proofs.Least.{least_append}
use Rattle.vs_elaborated.specs.Targets.{is_wrong_target, meant_signal, unwritten_rule, target_base, part_target, bit_target, further_target}
use Rattle.vs_bodies.specs.declared.targets.Base.{Base as BaseOf}
use Rattle.vs_bodies.specs.declared.told.Told.{Told}
use Rattle.vs_bodies.specs.Told.{broken, joined, told_target}
use Rattle.vs_bodies.specs.Targets.{IsBase}
use Rattle.vs_bodies.proofs.Joins.{same}

-- ---- bits of a signal

both_faults : (f g : Option Fault) (fs gs : List Fault) (d e : ℕ) → f ≡ least fs → g ≡ least gs → d ≡ e → joined (broken f 0) (broken g d) ≡ broken (least (fs ++ gs)) e
both_faults f g fs gs d e h k l = same _ _ _ _ _ _ (ap (λ z. better z g) h ∙ ap (better (least fs)) k ∙ sym (least_append fs gs)) refl (omega (arith, l))

pub part_told : (s : Signal) (b : Base) (t : Taken) (base : BaseOf) (bits : TakenOf) → IsBase base b → ChecksTaken bits t → joined (broken base.fault 0) (broken bits.flaws.first bits.depth) ≡ told_target (part_target s b t)
part_told s b t base bits h k = both_faults base.fault bits.flaws.first b.faults t.faults bits.depth (call_depth t.index) h.fault (ap (λ (f : Flaws). f.first) k.flaws) k.depth

-- one bit, where the range is known
bit_of : (s : Signal) (b : Base) (i : Typed) (index : Checked) (r : Option Range) (fault : Option Fault) (depth : ℕ) → fault ≡ least b.faults → Checks index i → depth ≡ (if is_some r then index.depth else 0)
    → joined (broken fault 0) (broken index.flaws.first depth) ≡ told_target (part_target s b (taken r true 1 i i.faults))
bit_of s b i index None fault depth h k d = both_faults fault index.flaws.first b.faults i.faults depth 0 h (ap (λ (f : Flaws). f.first) k.flaws) d
bit_of s b i index (Some r) fault depth h k d = both_faults fault index.flaws.first b.faults i.faults depth (call_depth i.expression) h (ap (λ (f : Flaws). f.first) k.flaws) (d ∙ k.depth)

pub bit_part_told : (s : Signal) (b : Base) (i : Typed) (base : BaseOf) (index : Checked) (depth : ℕ) → IsBase base b → Checks index i → depth ≡ (if is_some base.range then index.depth else 0)
    → joined (broken base.fault 0) (broken index.flaws.first depth) ≡ told_target (part_target s b (taken b.range true 1 i i.faults))
bit_part_told s b i base index depth h k d = bit_of s b i index b.range base.fault depth h.fault k (d ∙ ap (λ (r : Option Range). if is_some r then index.depth else 0) h.range)

-- what is no memory has bits
pub bit_told_of : (p : Bool) (place : ℕ) (named : Named) (m : Meaning) (at : ℕ) (i : Bool → Typed) (x : Told) → ((s : SignalShape) → named ≡ MemoryNamed s → ⊥) → Means named m
    → x ≡ told_target (part_target (meant_signal m) (target_base p place true m) (taken (target_base p place true m).range true 1 (i false) (i false).faults))
    → x ≡ told_target (bit_target p place m at (i (is_array m)))
bit_told_of p place named (AValue v q turns) at i x other h f = f
bit_told_of p place named (Undefined q) at i x other h f = f
bit_told_of p place named (ASignal s) at i x other h f = f
bit_told_of p place named (AFunction g) at i x other h f = f
bit_told_of p place named Incomplete at i x other h f = f
bit_told_of p place named Another at i x other h f = f
bit_told_of p place named (Barred rule) at i x other h f = f
bit_told_of p place named Unknown at i x other h f = f
bit_told_of p place (Value v q turns) (AMemory m) at i x other h f = cc
bit_told_of p place (UndefinedValue q) (AMemory m) at i x other h f = cc
bit_told_of p place (SignalNamed s) (AMemory m) at i x other h f = absurd (differ h.1)
  where
    differ : {k : SignalMeaning} → AMemory m ≡ ASignal k → ⊥
    differ e = cc
bit_told_of p place (MemoryNamed s) (AMemory m) at i x other h f = absurd (other s refl)
bit_told_of p place (FunctionNamed g) (AMemory m) at i x other h f = absurd (differ h.1)
  where
    differ : {k : FunctionMeaning} → AMemory m ≡ AFunction k → ⊥
    differ e = cc
bit_told_of p place IncompleteNamed (AMemory m) at i x other h f = cc
bit_told_of p place Other (AMemory m) at i x other h f = cc
bit_told_of p place (BarredName rule) (AMemory m) at i x other h f = cc
bit_told_of p place UnknownName (AMemory m) at i x other h f = cc

-- nor is there a word to take bits of
pub further_told_of : (p : Bool) (place : ℕ) (named : Named) (m : Meaning) (at : ℕ) (a : Typed) (t : Taken) (x : Told) → ((s : SignalShape) → named ≡ MemoryNamed s → ⊥) → Means named m
    → x ≡ broken (least (fault (unwritten_rule m) place)) 0 → x ≡ told_target (further_target p place m at a t)
further_told_of p place named (AValue v q turns) at a t x other h f = f
further_told_of p place named (Undefined q) at a t x other h f = f
further_told_of p place named (ASignal s) at a t x other h f = f
further_told_of p place named (AFunction g) at a t x other h f = f
further_told_of p place named Incomplete at a t x other h f = f
further_told_of p place named Another at a t x other h f = f
further_told_of p place named (Barred rule) at a t x other h f = f
further_told_of p place named Unknown at a t x other h f = f
further_told_of p place (Value v q turns) (AMemory m) at a t x other h f = cc
further_told_of p place (UndefinedValue q) (AMemory m) at a t x other h f = cc
further_told_of p place (SignalNamed s) (AMemory m) at a t x other h f = absurd (differ h.1)
  where
    differ : {k : SignalMeaning} → AMemory m ≡ ASignal k → ⊥
    differ e = cc
further_told_of p place (MemoryNamed s) (AMemory m) at a t x other h f = absurd (other s refl)
further_told_of p place (FunctionNamed g) (AMemory m) at a t x other h f = absurd (differ h.1)
  where
    differ : {k : FunctionMeaning} → AMemory m ≡ AFunction k → ⊥
    differ e = cc
further_told_of p place IncompleteNamed (AMemory m) at a t x other h f = cc
further_told_of p place Other (AMemory m) at a t x other h f = cc
further_told_of p place (BarredName rule) (AMemory m) at a t x other h f = cc
further_told_of p place UnknownName (AMemory m) at a t x other h f = cc

-- ---- a word of a memory

pub word_told : (p : Bool) (place : ℕ) (named : Named) (s : SignalShape) (m : Meaning) (at : ℕ) (i : Bool → Typed) (address : AddressedOf) (f : Option Fault) → named ≡ MemoryNamed s → Means named m
    → ((t : SignalMeaning) → s.net ≡ t.signal.net → s.input ≡ t.input → f ≡ least (fault_if (is_wrong_target p t) WrongKind place))
    → ((t : SignalMeaning) → s.net ≡ t.signal.net → s.words ≡ t.signal.words → ChecksAddress address (addressed t at (i t.signal.net)))
    → joined (broken f 0) (broken address.flaws.first address.depth) ≡ told_target (bit_target p place m at (i (is_array m)))
word_told p place named s m at i address f e h w k = of (subst (λ n. Means n m) e h)
  where
    of : Means (MemoryNamed s) m → joined (broken f 0) (broken address.flaws.first address.depth) ≡ told_target (bit_target p place m at (i (is_array m)))
    of h =
        let a = addressed h.0 at (i h.0.signal.net) in
        let c = k h.0 h.8 h.10 in
        both_faults f address.flaws.first (fault_if (is_wrong_target p h.0) WrongKind place) a.faults address.depth (call_depth a.index) (w h.0 h.8 h.9) (ap (λ (z : Flaws). z.first) c.flaws) c.depth
        ∙ ap (λ (n : Meaning). told_target (bit_target p place n at (i (is_array n)))) (sym h.1)

-- bits of it
pub part_of_word_told : (p : Bool) (place : ℕ) (named : Named) (s : SignalShape) (m : Meaning) (at : ℕ) (i : Bool → Typed) (take : Option Range → Taken) (address : AddressedOf) (bits : TakenOf) (f g : Option Fault) (scalar : Bool) → named ≡ MemoryNamed s → Means named m
    → ((t : SignalMeaning) → s.net ≡ t.signal.net → s.input ≡ t.input → f ≡ least (fault_if (is_wrong_target p t) WrongKind place))
    → ((t : SignalMeaning) → s.known ≡ t.known → s.range ≡ t.signal.range → scalar ≡ is_scalar t) → g ≡ least (fault_if scalar WrongKind place)
    → ((t : SignalMeaning) → s.net ≡ t.signal.net → s.words ≡ t.signal.words → ChecksAddress address (addressed t at (i t.signal.net))) → ChecksTaken bits (take s.range)
    → joined (broken f 0) (joined (broken g 0) (joined (broken address.flaws.first address.depth) (broken bits.flaws.first bits.depth))) ≡ told_target (further_target p place m at (i (is_array m)) (take (word_range m)))
part_of_word_told p place named s m at i take address bits f g scalar e h w v u k b = of (subst (λ n. Means n m) e h)
  where
    of : Means (MemoryNamed s) m → joined (broken f 0) (joined (broken g 0) (joined (broken address.flaws.first address.depth) (broken bits.flaws.first bits.depth))) ≡ told_target (further_target p place m at (i (is_array m)) (take (word_range m)))
    of h =
        let a = addressed h.0 at (i h.0.signal.net) in
        let t = take h.0.signal.range in
        let j = k h.0 h.8 h.10 in
        let c : ChecksTaken bits t = subst (λ r. ChecksTaken bits (take r)) h.3 b in
        let wrong = fault_if (is_wrong_target p h.0) WrongKind place in
        let none = fault_if (is_scalar h.0) WrongKind place in
        let x = joined (broken address.flaws.first address.depth) (broken bits.flaws.first bits.depth) in
        let inner : x ≡ broken (least (a.faults ++ t.faults)) (max (call_depth a.index) (call_depth t.index)) =
        same _ _ _ _ _ _ (ap (λ z. better z bits.flaws.first) (ap (λ (z : Flaws). z.first) j.flaws) ∙ ap (better (least a.faults)) (ap (λ (z : Flaws). z.first) c.flaws) ∙ sym (least_append a.faults t.faults)) refl
        (ap (λ z. max z bits.depth) j.depth ∙ ap (max (call_depth a.index)) c.depth)
        in
        let second : joined (broken g 0) x ≡ broken (least (none ++ (a.faults ++ t.faults))) (max (call_depth a.index) (call_depth t.index)) =
        ap (joined (broken g 0)) inner ∙ both_faults g (least (a.faults ++ t.faults)) none (a.faults ++ t.faults) (max (call_depth a.index) (call_depth t.index)) (max (call_depth a.index) (call_depth t.index)) (u ∙ ap (λ c. least (fault_if c WrongKind place)) (v h.0 h.6 h.3)) refl refl
        in
        ap (joined (broken f 0)) second
        ∙ both_faults f (least (none ++ (a.faults ++ t.faults))) wrong (none ++ (a.faults ++ t.faults)) (max (call_depth a.index) (call_depth t.index)) (max (call_depth a.index) (call_depth t.index)) (w h.0 h.8 h.9) refl refl
        ∙ ap (λ (n : Meaning). told_target (further_target p place n at (i (is_array n)) (take (word_range n)))) (sym h.1)
