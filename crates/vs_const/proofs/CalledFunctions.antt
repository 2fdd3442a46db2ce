-- Names that are called, and their arguments.
use Rattle.std.proofs.Common.{◌≡◌, ◌+◌, ℕ, suc, max, Bool, true, false, List, [], ◌∷◌, None, length, ◌==◌, refl, sym, ap, ◌∙◌, subst, eqb-true, eq-eqb, ne_eqb, arith}
use Rattle.std.proofs.lemmas.Bool.{both_ways}
use Rattle.vs_design.proofs.Lists.{by_test}
use Rattle.vs_design.specs.Expressions.{Signal, Items, NoItem, Item}
use Rattle.vs_design.specs.Elaborated.{are_as_many}
use Rattle.vs_const.specs.declared.calls.Arguments.{Arguments as ArgumentsOf}
use Rattle.vs_const.specs.declared.found.Found.{Found}
use Rattle.vs_const.specs.declared.names.FunctionShape.{FunctionShape}
use Rattle.vs_const.specs.declared.names.Named.{Named}
use Rattle.vs_const.specs.declared.names.Named.TheVariants.{Value, Undefined as UndefinedValue, Signal as SignalNamed, Memory as MemoryNamed, Function as FunctionNamed, Incomplete as IncompleteNamed, Other, Barred as BarredName, Unknown as UnknownName}
use Rattle.vs_const.specs.declared.names.SignalShape.{SignalShape}
use Rattle.vs_const.specs.Faults.{fault, NotConstant}
use Rattle.vs_const.specs.Meanings.{SignalMeaning, FunctionMeaning, Meaning, AValue, Undefined, ASignal, AMemory, AFunction, Incomplete, Another, Barred, Unknown, Means}
use Rattle.vs_const.specs.Typed.{broken}
use Rattle.vs_const.specs.Selects.{wrong_rule}
use Rattle.vs_const.specs.CallDepths.{call_depth, items_depth}
use Rattle.vs_const.specs.Expressions.{TypedItems, joined_items, passed_items, call_rule, called, applied}
use Rattle.vs_const.specs.Checks.{item_count, ChecksArguments}
use Rattle.vs_const.specs.Found.{Finds}

-- as many arguments as inputs
pub as_many : (items : Items) (inputs : List Signal) → are_as_many items inputs ≡ (item_count items == length inputs)
as_many NoItem [] = refl
as_many NoItem (input ∷ inputs) = sym (ne_eqb 0 (suc (length inputs)) (λ e. absurd (omega (arith, e))))
as_many (Item e es) [] = sym (ne_eqb (suc (item_count es)) 0 (λ e. absurd (omega (arith, e))))
as_many (Item e es) (input ∷ inputs) = as_many es inputs ∙ same_test (item_count es) (length inputs)
  where
    same_test : (p q : ℕ) → (p == q) ≡ (suc p == suc q)
    same_test p q = by_test (p == q)
        (λ e. e ∙ sym (eq-eqb (suc p) (suc q) (ap suc (eqb-true p q e))))
        (λ e. e ∙ sym (ne_eqb (suc p) (suc q) (λ h. both_ways (p == q) e (eq-eqb p q (omega (arith, h))))))

-- ---- what a call passes behind its arguments

joined_count : (items others : Items) → item_count (joined_items items others) ≡ item_count items + item_count others
joined_count NoItem others = omega arith
joined_count (Item e es) others = let h = joined_count es others in omega (arith, h)

passed_count : (place : ℕ) (ss : List SignalMeaning) → item_count (passed_items place ss) ≡ length ss
passed_count place [] = refl
passed_count place (s ∷ ss) = ap suc (passed_count place ss)

-- as many arguments as inputs are declared
pub as_declared : (place : ℕ) (ss : List SignalMeaning) (items : Items) (inputs : List Signal) (declared passed : ℕ) → declared + passed ≡ length inputs → passed ≡ length ss
    → are_as_many (joined_items items (passed_items place ss)) inputs ≡ (item_count items == declared)
as_declared place ss items inputs declared passed all more =
    as_many (joined_items items (passed_items place ss)) inputs
    ∙ by_test (item_count (joined_items items (passed_items place ss)) == length inputs)
    (λ e. e ∙ sym (eq-eqb (item_count items) declared (let h = eqb-true (item_count (joined_items items (passed_items place ss))) (length inputs) e in omega (arith, h, count, all, more))))
    (λ e. e ∙ sym (ne_eqb (item_count items) declared (λ h. both_ways (item_count (joined_items items (passed_items place ss)) == length inputs) e (eq-eqb (item_count (joined_items items (passed_items place ss))) (length inputs) (omega (arith, h, count, all, more))))))
  where
    count : item_count (joined_items items (passed_items place ss)) ≡ item_count items + length ss
    count = joined_count items (passed_items place ss) ∙ ap (λ (n : ℕ). item_count items + n) (passed_count place ss)

-- calls nest no deeper for it
pub passed_depth : (place : ℕ) (ss : List SignalMeaning) (items : Items) → items_depth (joined_items items (passed_items place ss)) ≡ items_depth items
passed_depth place [] NoItem = refl
passed_depth place (s ∷ ss) NoItem = let h = passed_depth place ss NoItem in omega (arith, h)
passed_depth place ss (Item e es) = ap (max (call_depth e)) (passed_depth place ss es)

-- ---- what the look-up of a name that isn't a function says

no_function : (named : Named) (g : FunctionMeaning) → ((f : FunctionShape) → named ≡ FunctionNamed f → ⊥) → Means named (AFunction g) → ⊥
no_function (Value v r turns) g other h = cc
no_function (UndefinedValue r) g other h = cc
no_function (SignalNamed s) g other h = differ h.1
  where
    differ : {t : SignalMeaning} → AFunction g ≡ ASignal t → ⊥
    differ e = cc
no_function (MemoryNamed s) g other h = differ h.1
  where
    differ : {t : SignalMeaning} → AFunction g ≡ AMemory t → ⊥
    differ e = cc
no_function (FunctionNamed f) g other h = other f refl
no_function IncompleteNamed g other h = cc
no_function Other g other h = cc
no_function (BarredName rule) g other h = cc
no_function UnknownName g other h = cc

no_signal : (named : Named) (t : SignalMeaning) → ((s : SignalShape) → named ≡ SignalNamed s → ⊥) → Means named (ASignal t) → ⊥
no_signal (Value v r turns) t other h = cc
no_signal (UndefinedValue r) t other h = cc
no_signal (SignalNamed s) t other h = other s refl
no_signal (MemoryNamed s) t other h = differ h.1
  where
    differ : {u : SignalMeaning} → ASignal t ≡ AMemory u → ⊥
    differ e = cc
no_signal (FunctionNamed f) t other h = differ h.1
  where
    differ : {g : FunctionMeaning} → ASignal t ≡ AFunction g → ⊥
    differ e = cc
no_signal IncompleteNamed t other h = cc
no_signal Other t other h = cc
no_signal (BarredName rule) t other h = cc
no_signal UnknownName t other h = cc

no_incomplete : (named : Named) → (named ≡ IncompleteNamed → ⊥) → Means named Incomplete → ⊥
no_incomplete (Value v r turns) other h = cc
no_incomplete (UndefinedValue r) other h = cc
no_incomplete (SignalNamed s) other h = differ h.1
  where
    differ : {t : SignalMeaning} → Incomplete ≡ ASignal t → ⊥
    differ e = cc
no_incomplete (MemoryNamed s) other h = differ h.1
  where
    differ : {t : SignalMeaning} → Incomplete ≡ AMemory t → ⊥
    differ e = cc
no_incomplete (FunctionNamed f) other h = differ h.1
  where
    differ : {g : FunctionMeaning} → Incomplete ≡ AFunction g → ⊥
    differ e = cc
no_incomplete IncompleteNamed other h = other refl
no_incomplete Other other h = cc
no_incomplete (BarredName rule) other h = cc
no_incomplete UnknownName other h = cc

-- what is called, and is neither a signal nor a function that isn't complete
pub other_call : (needed : Bool) (named : Named) (m : Meaning) → ((s : SignalShape) → named ≡ SignalNamed s → ⊥) → (named ≡ IncompleteNamed → ⊥) → Means named m → wrong_rule needed m ≡ call_rule needed m
other_call needed named (AValue v r turns) k n h = refl
other_call needed named (Undefined r) k n h = refl
other_call needed named (ASignal s) k n h = absurd (no_signal named s k h)
other_call needed named (AMemory s) k n h = refl
other_call needed named (AFunction f) k n h = refl
other_call needed named Incomplete k n h = absurd (no_incomplete named n h)
other_call needed named Another k n h = refl
other_call needed named (Barred rule) k n h = refl
other_call needed named Unknown k n h = refl

-- ---- the arms of a call

pub misnamed_arm : (needed : Bool) (place : ℕ) (named : Named) (m : Meaning) (t : TypedItems) (r : Found) → ((f : FunctionShape) → named ≡ FunctionNamed f → ⊥) → Means named m
    → Finds needed r (broken None (fault (call_rule needed m) place)) → Finds needed r (applied needed place m t)
misnamed_arm needed place named (AValue v r turns) t f other h k = k
misnamed_arm needed place named (Undefined r) t f other h k = k
misnamed_arm needed place named (ASignal s) t f other h k = k
misnamed_arm needed place named (AMemory s) t f other h k = k
misnamed_arm needed place named (AFunction g) t f other h k = absurd (no_function named g other h)
misnamed_arm needed place named Incomplete t f other h k = k
misnamed_arm needed place named Another t f other h k = k
misnamed_arm needed place named (Barred rule) t f other h k = k
misnamed_arm needed place named Unknown t f other h k = k

-- a function, where a constant is needed
pub needed_arm : (needed : Bool) (place : ℕ) (f : FunctionShape) (m : Meaning) (t : TypedItems) (r : Found) → needed ≡ true → Means (FunctionNamed f) m
    → Finds needed r (broken None (fault NotConstant place)) → Finds needed r (applied needed place m t)
needed_arm true place f m t r n h k = subst (λ z. Finds true r (applied true place z t)) (sym h.1) k
needed_arm false place f m t r n h k = cc

-- and where none is
pub called_arm : (needed : Bool) (place : ℕ) (f : FunctionShape) (m : Meaning) (t : TypedItems) (a : ArgumentsOf) (r : Found) → needed ≡ false → Means (FunctionNamed f) m → ChecksArguments a t
    → ((g : FunctionMeaning) (u : TypedItems) → Means (FunctionNamed f) (AFunction g) → ChecksArguments a u → Finds false r (called g place u)) → Finds needed r (applied needed place m t)
called_arm true place f m t a r n h k finds = cc
called_arm false place f m t a r n h k finds = subst (λ z. Finds false r (applied false place z t)) (sym h.1) (finds h.0 t (subst (λ z. Means (FunctionNamed f) z) h.1 h) k)
