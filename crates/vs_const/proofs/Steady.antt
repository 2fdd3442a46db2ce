-- What names mean where no integer of a loop may stand.
use Rattle.std.proofs.Common.{◌≡◌, Bool, true, false, refl, sym, ◌∙◌, subst}
use mathlib.Core.Path.{fun_ext}
use Rattle.vs_four.specs.declared.Range.{Range}
use Rattle.vs_design.specs.Designs.{Design}
use Rattle.vs_grammar.specs.Trees as tree
use Rattle.vs_const.specs.declared.names.Constant.{Constant}
use Rattle.vs_const.specs.declared.names.Named.{Named}
use Rattle.vs_const.specs.declared.names.Named.TheVariants.{Value, Undefined as UndefinedValue, Signal as SignalNamed, Memory as MemoryNamed, Function as FunctionNamed, Incomplete as IncompleteNamed, Other, Barred as BarredName, Unknown as UnknownName}
use Rattle.vs_const.specs.declared.needs.Need.{Need}
use Rattle.vs_const.specs.declared.needs.Need.TheVariants.{Anything, Constant as AConstant, Steady}
use Rattle.vs_const.specs.Meanings.{ConstantValue, SignalMeaning, FunctionMeaning, Meaning, AValue, Undefined, ASignal, AMemory, AFunction, Incomplete, Another, Barred, Unknown, Find, steady_meaning, steady, Means, IsFairMeaning, IsFair}
use Rattle.vs_const.specs.declared.found.Found.{Found}
use Rattle.vs_const.specs.declared.ranges.Numbered.{Numbered as NumberedOf}
use Rattle.vs_const.specs.Needs.{is_needed, names_for}
use Rattle.vs_const.specs.Expressions.{typed, number}
use Rattle.vs_const.specs.Checks.{ChecksNumber}
use Rattle.vs_const.specs.Found.{Says}
use Rattle.vs_const.specs.Selects.{first_needed, first_names}
use Rattle.vs_const.specs.Sound.{IsSound, AreSound}

-- ---- there, it makes no difference to ask again

again : (m : Meaning) → steady_meaning (steady_meaning m) ≡ steady_meaning m
again (AValue v r true) = refl
again (AValue v r false) = refl
again (Undefined r) = refl
again (ASignal s) = refl
again (AMemory s) = refl
again (AFunction f) = refl
again Incomplete = refl
again Another = refl
again (Barred rule) = refl
again Unknown = refl

steady_again : (find : Find) → steady (steady find) ≡ steady find
steady_again find = fun_ext (λ name. again (find name))

pub steady_for : (need : Need) (find : Find) → steady (names_for need find) ≡ steady find
steady_for Anything find = refl
steady_for AConstant find = refl
steady_for Steady find = steady_again find

pub steady_number : (need : Need) (find : Find) (n : NumberedOf) (e : tree.Expr) → ChecksNumber n (number e (steady find)) → ChecksNumber n (number e (steady (names_for need find)))
steady_number need find n e h = subst (λ names. ChecksNumber n (number e names)) (sym (steady_for need find)) h

-- what an argument says that has to be a constant
pub argument_says : (n need : Need) (find : Find) (c : Found) (e : tree.Expr) → is_needed n ≡ true → names_for n find ≡ names_for need find → Says (is_needed n) c (typed e (names_for n find) (is_needed n)) → Says true c (typed e (names_for need find) true)
argument_says n need find c e h k s = subst (λ names. Says true c (typed e names true)) k (subst (λ b. Says b c (typed e (names_for n find) b)) h s)

-- what an address says that may have to be a constant
pub address_says : (n need : Need) (find : Find) (c : Found) (e : tree.Expr) (b : Bool) → is_needed n ≡ b → names_for n find ≡ names_for need find → Says (is_needed n) c (typed e (names_for n find) (is_needed n)) → Says b c (typed e (names_for need find) b)
address_says n need find c e b h k s = subst (λ names. Says b c (typed e names b)) k (subst (λ x. Says x c (typed e (names_for n find) x)) h s)

-- ---- names stay fair, and sound

fair_one : (m : Meaning) → IsFairMeaning m → IsFairMeaning (steady_meaning m)
fair_one (AValue v r true) f = tt
fair_one (AValue v r false) f = f
fair_one (Undefined r) f = tt
fair_one (ASignal s) f = tt
fair_one (AMemory s) f = tt
fair_one (AFunction g) f = tt
fair_one Incomplete f = tt
fair_one Another f = tt
fair_one (Barred rule) f = tt
fair_one Unknown f = tt

pub fair_for : (need : Need) (find : Find) → IsFair find → IsFair (names_for need find)
fair_for Anything find f = f
fair_for AConstant find f = f
fair_for Steady find f = λ name. fair_one (find name) (f name)

pub sound_needed : (d : Design) (needed : Bool) (m : Meaning) → IsSound d needed m → IsSound d true m
sound_needed d needed (AValue v r turns) s = s
sound_needed d needed (Undefined r) s = s
sound_needed d needed (ASignal m) s = tt
sound_needed d needed (AMemory m) s = tt
sound_needed d needed (AFunction f) s = tt
sound_needed d needed Incomplete s = tt
sound_needed d needed Another s = tt
sound_needed d needed (Barred rule) s = tt
sound_needed d needed Unknown s = tt

sound_one : (d : Design) (m : Meaning) → IsSound d true m → IsSound d true (steady_meaning m)
sound_one d (AValue v r true) s = tt
sound_one d (AValue v r false) s = s
sound_one d (Undefined r) s = s
sound_one d (ASignal m) s = tt
sound_one d (AMemory m) s = tt
sound_one d (AFunction f) s = tt
sound_one d Incomplete s = tt
sound_one d Another s = tt
sound_one d (Barred rule) s = tt
sound_one d Unknown s = tt

pub steady_sound : (d : Design) (needed : Bool) (find : Find) → AreSound d needed find → AreSound d true (steady find)
steady_sound d needed find s = λ name. sound_one d (find name) (sound_needed d needed (find name) (s name))

pub first_sound : (d : Design) (kind : tree.SliceKind) (needed : Bool) (find : Find) → AreSound d needed find → AreSound d (first_needed kind needed) (first_names kind find)
first_sound d tree.Between needed find s = steady_sound d needed find s
first_sound d tree.Upward needed find s = s
first_sound d tree.Downward needed find s = s

-- ---- a look-up there

-- what isn't the value of an integer means the same
steady_same : (m : Meaning) → ((v : ConstantValue) (r : Range) → m ≡ AValue v r true → ⊥) → steady_meaning m ≡ m
steady_same (AValue v r true) other = absurd (other v r refl)
steady_same (AValue v r false) other = refl
steady_same (Undefined r) other = refl
steady_same (ASignal s) other = refl
steady_same (AMemory s) other = refl
steady_same (AFunction f) other = refl
steady_same Incomplete other = refl
steady_same Another other = refl
steady_same (Barred rule) other = refl
steady_same Unknown other = refl

no_turn : (k : Named) (m : Meaning) → ((v : Constant) (r : Range) → k ≡ Value v r true → ⊥) → Means k m → (w : ConstantValue) (q : Range) → m ≡ AValue w q true → ⊥
no_turn (Value v r true) m other h w q e = other v r refl
no_turn (Value v r false) m other h w q e = cc
no_turn (UndefinedValue r) m other h w q e = cc
no_turn (SignalNamed s) m other h w q e = differ (sym h.1 ∙ e)
  where
    differ : {t : SignalMeaning} → ASignal t ≡ AValue w q true → ⊥
    differ k = cc
no_turn (MemoryNamed s) m other h w q e = differ (sym h.1 ∙ e)
  where
    differ : {t : SignalMeaning} → AMemory t ≡ AValue w q true → ⊥
    differ k = cc
no_turn (FunctionNamed f) m other h w q e = differ (sym h.1 ∙ e)
  where
    differ : {g : FunctionMeaning} → AFunction g ≡ AValue w q true → ⊥
    differ k = cc
no_turn IncompleteNamed m other h w q e = cc
no_turn Other m other h w q e = cc
no_turn (BarredName rule) m other h w q e = cc
no_turn UnknownName m other h w q e = cc

pub steady_means : (k : Named) (m : Meaning) → ((v : Constant) (r : Range) → k ≡ Value v r true → ⊥) → Means k m → steady_meaning m ≡ m
steady_means k m other h = steady_same m (no_turn k m other h)
