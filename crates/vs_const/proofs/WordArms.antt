-- The arms of a word of a memory, by itself and with a further select behind its address.
use Rattle.std.proofs.Common.{◌≡◌, ℕ, Bool, true, false, ◌||◌, Option, None, refl, sym, subst}
use Rattle.vs_four.specs.declared.Range.{Range}
use Rattle.vs_const.specs.declared.found.Found.{Found}
use Rattle.vs_const.specs.declared.names.Named.{Named}
use Rattle.vs_const.specs.declared.names.Named.TheVariants.{Value, Undefined as UndefinedValue, Signal as SignalNamed, Memory as MemoryNamed, Function as FunctionNamed, Incomplete as IncompleteNamed, Other, Barred as BarredName, Unknown as UnknownName}
use Rattle.vs_const.specs.declared.names.SignalShape.{SignalShape}
use Rattle.vs_const.specs.declared.selects.Taken.{Taken as TakenOf}
use Rattle.vs_const.specs.declared.selects.Addressed.{Addressed as AddressedOf}
use Rattle.vs_const.specs.declared.found.Checked.{Checked}
use Rattle.vs_const.specs.Faults.{fault, NotConstant}
use Rattle.vs_const.specs.Meanings.{SignalMeaning, FunctionMeaning, Meaning, AValue, Undefined, ASignal, AMemory, AFunction, Incomplete, Another, Barred, Unknown, Means}
use Rattle.vs_const.specs.Typed.{Typed, broken}
use Rattle.vs_const.specs.Selects.{Taken, wrong_rule, is_array, Addressed, addressed, word_typed, bit_typed, word_range, word_part_typed, further_typed}
use Rattle.vs_const.specs.Checks.{Checks, ChecksTaken, ChecksAddress}
use Rattle.vs_const.specs.Found.{Keeps, Finds, Says}

pub no_memory : (named : Named) (k : SignalMeaning) → ((s : SignalShape) → named ≡ MemoryNamed s → ⊥) → Means named (AMemory k) → ⊥
no_memory (Value v r turns) k other h = cc
no_memory (UndefinedValue r) k other h = cc
no_memory (SignalNamed s) k other h = differ h.1
  where
    differ : {t : SignalMeaning} → AMemory k ≡ ASignal t → ⊥
    differ e = cc
no_memory (MemoryNamed s) k other h = other s refl
no_memory (FunctionNamed f) k other h = differ h.1
  where
    differ : {g : FunctionMeaning} → AMemory k ≡ AFunction g → ⊥
    differ e = cc
no_memory IncompleteNamed k other h = cc
no_memory Other k other h = cc
no_memory (BarredName rule) k other h = cc
no_memory UnknownName k other h = cc

-- what is no memory
pub other_word : (needed : Bool) (place : ℕ) (named : Named) (m : Meaning) (at : ℕ) (a : Typed) (t : Taken) (r : Found) → ((s : SignalShape) → named ≡ MemoryNamed s → ⊥) → Means named m
    → Finds needed r (broken None (fault (wrong_rule needed m) place)) → Finds needed r (further_typed needed place m at a t)
other_word true place named m at a t r other h f = f
other_word false place named (AValue v q turns) at a t r other h f = f
other_word false place named (Undefined q) at a t r other h f = f
other_word false place named (ASignal s) at a t r other h f = f
other_word false place named (AMemory s) at a t r other h f = absurd (no_memory named s other h)
other_word false place named (AFunction g) at a t r other h f = f
other_word false place named Incomplete at a t r other h f = f
other_word false place named Another at a t r other h f = f
other_word false place named (Barred rule) at a t r other h f = f
other_word false place named Unknown at a t r other h f = f

-- a memory, where a constant is needed
pub needed_word : (needed : Bool) (place : ℕ) (s : SignalShape) (m : Meaning) (at : ℕ) (a : Typed) (t : Taken) (r : Found) → needed ≡ true → Means (MemoryNamed s) m
    → Finds needed r (broken None (fault NotConstant place)) → Finds needed r (further_typed needed place m at a t)
needed_word true place s m at a t r n h f = subst (λ z. Finds true r (further_typed true place z at a t)) (sym h.1) f
needed_word false place s m at a t r n h f = cc

-- and where none is
pub memory_word : (needed : Bool) (place : ℕ) (s : SignalShape) (m : Meaning) (at : ℕ) (a : Typed) (take : Option Range → Taken) (c : Found) (bits : TakenOf) (r : Found) → needed ≡ false → Means (MemoryNamed s) m
    → Says (is_array m || needed) c a → ChecksTaken bits (take s.range)
    → ((k : SignalMeaning) (a : Typed) (t : Taken) → s.range ≡ k.signal.range → s.known ≡ k.known → s.net ≡ k.signal.net → s.words ≡ k.signal.words → Says (k.signal.net || false) c a → ChecksTaken bits t
    → Finds false r (word_part_typed place k (addressed k at a) t))
    → Finds needed r (further_typed needed place m at a (take (word_range m)))
memory_word true place s m at a take c bits r n h says checks f = cc
memory_word false place s m at a take c bits r n h says checks f =
    subst (λ z. Finds false r (further_typed false place z at a (take (word_range z)))) (sym h.1)
    (f h.0 a (take h.0.signal.range) h.3 h.6 h.8 h.10 (subst (λ z. Says (is_array z || false) c a) h.1 says) (subst (λ q. ChecksTaken bits (take q)) h.3 checks))

-- ---- a word by itself

-- what is no memory is no array
pub no_array : (P : Bool → Type 0) (named : Named) (m : Meaning) (needed : Bool) → ((s : SignalShape) → named ≡ MemoryNamed s → ⊥) → Means named m → P (is_array m || needed) → P needed
no_array P named (AMemory s) needed other h p = absurd (no_memory named s other h)
no_array P named (AValue v q turns) needed other h p = p
no_array P named (Undefined q) needed other h p = p
no_array P named (ASignal s) needed other h p = p
no_array P named (AFunction g) needed other h p = p
no_array P named Incomplete needed other h p = p
no_array P named Another needed other h p = p
no_array P named (Barred rule) needed other h p = p
no_array P named Unknown needed other h p = p

-- a word is no constant, so it is never kept
word_kept : (needed : Bool) (place : ℕ) (m : SignalMeaning) (a : Addressed) → Keeps needed None (word_typed needed place m a)
word_kept true place m a = record { sound = tt; full = λ e g. cc }
word_kept false place m a = record { sound = tt; full = λ e g. cc }

pub memory_bit : (needed : Bool) (place : ℕ) (s : SignalShape) (m : Meaning) (at : ℕ) (t : Typed) (c : Found) (a : AddressedOf) (w : Checked) → Means (MemoryNamed s) m → Says (is_array m || needed) c t
    → ((k : SignalMeaning) (needed : Bool) (t : Typed) → s.net ≡ k.signal.net → s.words ≡ k.signal.words → Says (k.signal.net || needed) c t → ChecksAddress a (addressed k at t))
    → ((k : SignalMeaning) (at : ℕ) (t : Typed) → s.range ≡ k.signal.range → s.signed ≡ k.signal.signed → s.known ≡ k.known → ChecksAddress a (addressed k at t) → Checks w (word_typed needed place k (addressed k at t)))
    → Finds needed (record { said = w; form = None }) (bit_typed needed place m at t)
memory_bit needed place s m at t c a w h says address word =
    subst (λ z. Finds needed (record { said = w; form = None }) (bit_typed needed place z at t)) (sym h.1)
    (record {
      checks = word h.0 at t h.3 h.4 h.6 (address h.0 needed t h.8 h.10 (subst (λ z. Says (is_array z || needed) c t) h.1 says));
      keeps = word_kept needed place h.0 (addressed h.0 at t);
    })
