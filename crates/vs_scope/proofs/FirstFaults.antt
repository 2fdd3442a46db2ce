-- The first fault of a list, met one element after the other.
use Rattle.std.proofs.Common.{◌≡◌, ◌<◌, ◌≤◌, ℕ, suc, List, [], ◌∷◌, ◌++◌, map, length, get_or, drop, Option, refl, sym, ap, ◌∙◌, subst, append_assoc}
use Rattle.vs_const.specs.declared.faults.Fault.{Fault}
use Rattle.vs_const.specs.Faults.{least, better}
use Rattle.vs_const.specs.Meanings.{SignalMeaning}
use Rattle.vs_const.proofs.Least.{least_append}
use Rattle.vs_elaborated.specs.Environments.{Env, Entry}
use Rattle.vs_elaborated.specs.Declarations as spec
use Rattle.vs_elaborated.specs.Signals.{range_faults, put_signal, put_signals, SaidSignal}
use Rattle.vs_scope.specs.declared.names.Declaration.{Declaration}
use Rattle.vs_scope.specs.declared.names.Signal.{Signal}
use Rattle.vs_scope.specs.Views.{declaration, signal_meaning}
use Rattle.vs_scope.specs.Signalled.{Placed, placed, placed_of, put_all}
use Rattle.vs_scope.proofs.Steps.{append_none, none_left, from_place}

-- of the ranges so far
pub record AreRanged (env : Env) (rest all : List spec.Declaration) (found : Option Fault) : Type 0 where
  pub some : (fs : List Fault) × (found ≡ least fs) × (least (fs ++ range_faults env rest) ≡ least (range_faults env all))

-- of a range and addresses
pub both_first : (xs ys : List Fault) (x y o : Option Fault) → x ≡ least xs → y ≡ least ys → o ≡ better x y → o ≡ least ((xs ++ ys) ++ [])
both_first xs ys x y o h k e = e ∙ ap (λ (q : Option Fault). better q y) h ∙ ap (better (least xs)) k ∙ sym (least_append xs ys) ∙ ap least (sym (append_none (xs ++ ys)))

range_step : (env : Env) (d : spec.Declaration) (rest : List spec.Declaration) → range_faults env (d ∷ rest) ≡ range_faults env (d ∷ []) ++ range_faults env rest
range_step env d rest = ap (λ (x : List Fault). x ++ range_faults env rest) (sym (append_none _))

pub ranged_more : (env : Env) (ds : List Declaration) (i : ℕ) (d : Declaration) (all : List spec.Declaration) (found one sum : Option Fault) → i < length ds → d ≡ get_or ds i d
    → AreRanged env (map declaration (drop i ds)) all found → one ≡ least (range_faults env (declaration d ∷ [])) → sum ≡ better found one → AreRanged env (map declaration (drop (suc i) ds)) all sum
ranged_more env ds i d all found one sum h e before f s =
    let rest = map declaration (drop (suc i) ds) in
    let fs = before.some.0 in
    let mine = range_faults env (declaration d ∷ []) in
    let same : range_faults env (map declaration (drop i ds)) ≡ mine ++ range_faults env rest = ap (λ (x : List Declaration). range_faults env (map declaration x)) (from_place ds i d h e) ∙ range_step env (declaration d) rest in
    record {
      some = (
        fs ++ mine,
        s ∙ ap (λ (x : Option Fault). better x one) before.some.1 ∙ ap (better (least fs)) f ∙ sym (least_append fs mine),
        ap least (append_assoc fs mine (range_faults env rest)) ∙ ap (λ (x : List Fault). least (fs ++ x)) (sym same) ∙ before.some.2,
      );
    }

pub ranged_end : (env : Env) (ds : List Declaration) (i : ℕ) (all : List spec.Declaration) (found : Option Fault) → length ds ≤ i → AreRanged env (map declaration (drop i ds)) all found → found ≡ least (range_faults env all)
ranged_end env ds i all found h e =
    let k : AreRanged env [] all found = subst (λ (x : List Declaration). AreRanged env (map declaration x) all found) (none_left ds i h) e in
    k.some.1 ∙ ap least (sym (append_none k.some.0)) ∙ k.some.2

-- ---- signals that are known

pub put_step : (ss : List Signal) (i : ℕ) (s : Signal) (es : List Entry) → i < length ss → s ≡ get_or ss i s
    → put_all (map signal_meaning (drop i ss)) es ≡ put_all (map signal_meaning (drop (suc i) ss)) (put_signal (signal_meaning s) es)
put_step ss i s es h e = ap (λ (x : List Signal). put_all (map signal_meaning x) es) (from_place ss i s h e)

pub put_none : (ss : List Signal) (i : ℕ) (es : List Entry) → length ss ≤ i → put_all (map signal_meaning (drop i ss)) es ≡ es
put_none ss i es h = ap (λ (x : List Signal). put_all (map signal_meaning x) es) (none_left ss i h)

all_put : (ss : List SaidSignal) (es : List Entry) → put_signals ss es ≡ put_all (map (λ (s : SaidSignal). s.meaning) ss) es
all_put [] es = refl
all_put (s ∷ ss) es = all_put ss (put_signal s.meaning es)

abbrev meanings_placed : (ps : List Placed) → List SignalMeaning
meanings_placed ps = map (λ (p : Placed). p.meaning) ps

placed_code : (cs : List Signal) → meanings_placed (map placed cs) ≡ map signal_meaning cs
placed_code [] = refl
placed_code (c ∷ cs) = ap (λ (r : List SignalMeaning). signal_meaning c ∷ r) (placed_code cs)

placed_said : (ss : List SaidSignal) → meanings_placed (map placed_of ss) ≡ map (λ (s : SaidSignal). s.meaning) ss
placed_said [] = refl
placed_said (s ∷ ss) = ap (λ (r : List SignalMeaning). s.meaning ∷ r) (placed_said ss)

pub put_said : (cs : List Signal) (ss : List SaidSignal) (es : List Entry) → map placed cs ≡ map placed_of ss → put_all (map signal_meaning cs) es ≡ put_signals ss es
put_said cs ss es h = ap (λ (ms : List SignalMeaning). put_all ms es) (sym (placed_code cs) ∙ ap meanings_placed h ∙ placed_said ss) ∙ sym (all_put ss es)
