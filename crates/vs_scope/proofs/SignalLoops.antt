-- The signals of a scope, one after the other.
use Rattle.std.proofs.Common.{◌≡◌, ◌≤◌, ◌+◌, ℕ, zero, suc, Bool, List, [], ◌∷◌, ◌++◌, map, flat_map, length, slice_get, drop, Option, Some, None, refl, sym, ap, ◌∙◌, subst, append_assoc, arith, sum_by, fold}
use Rattle.std.proofs.lemmas.List.{map-append}
use Rattle.vs_grammar.specs.Shapes.{Given}
use Rattle.vs_ast.specs.Views as view
use Rattle.vs_design.specs.Expressions.{signal_length}
use Rattle.vs_const.specs.declared.faults.Fault.{Fault}
use Rattle.vs_const.specs.Faults.{least, better}
use Rattle.vs_const.specs.Meanings.{SignalMeaning}
use Rattle.vs_const.proofs.Least.{least_append}
use Rattle.vs_grammar.specs.Trees.{Name}
use Rattle.vs_elaborated.specs.Environments.{Env}
use Rattle.vs_elaborated.specs.Declarations.{Sort, SignalOf, ParameterOf, FunctionOf, GenvarSort, IntegerSort, InstanceSort, Declaration, Named}
use Rattle.vs_elaborated.specs.Signals.{Start, SaidSignal, said_signals, nets_of, net_count, after}
use Rattle.vs_scope.specs.declared.names.Entry.{Entry}
use Rattle.vs_scope.specs.declared.names.Signal.{Signal}
use Rattle.vs_scope.specs.declared.signals.SaidSignal.{SaidSignal as SignalFound}
use Rattle.vs_maps.specs.Maps.{Pair, values_of}
use Rattle.vs_scope.specs.Views.{declaration}
use Rattle.vs_scope.specs.Declares.{entry_named, named_of}
use Rattle.vs_scope.specs.Shaped.{IsShaped, AreShapedNames}
use Rattle.vs_scope.specs.Signalled.{Placed, placed, placed_of, faults_of, IsSaidSignal, start_after}
use Rattle.vs_scope.proofs.Steps.{append_none, none_left}

pub named_from : (ps : List (Pair Entry)) (i : ℕ) (e : Entry) → slice_get (values_of ps) i ≡ Some e → drop i (map named_of ps) ≡ entry_named e ∷ drop (suc i) (map named_of ps)
named_from [] i e h = cc
named_from (p ∷ ps) zero e h = let is : p.value ≡ e = cc in ap (λ (x : Entry). entry_named x ∷ map named_of ps) is
named_from (p ∷ ps) (suc i) e h = named_from ps i e h

pub shaped_name : (ps : List (Pair Entry)) (i : ℕ) (e : Entry) → AreShapedNames (map named_of ps) → slice_get (values_of ps) i ≡ Some e → IsShaped (declaration e.first) × Given IsShaped (view.option declaration e.second)
shaped_name [] i e h k = cc
shaped_name (p ∷ ps) zero e h k = let is : p.value ≡ e = cc in subst (λ (x : Entry). IsShaped (declaration x.first) × Given IsShaped (view.option declaration x.second)) is h.0
shaped_name (p ∷ ps) (suc i) e h k = shaped_name ps i e h.1 k

abbrev named : Name → Sort → Option Declaration → Named
named name sort second = record { first = record { name = name; sort = sort }; second = second }

skip_sort : (env : Env) (st : Start) (name : Name) (sort : Sort) (second : Option Declaration) (ns : List Named) → said_signals env st (named name sort second ∷ []) ≡ []
    → said_signals env st (named name sort second ∷ ns) ≡ said_signals env st ns
skip_sort env st name (SignalOf s) second ns h = cc
skip_sort env st name (ParameterOf p) second ns h = refl
skip_sort env st name (FunctionOf f) second ns h = refl
skip_sort env st name GenvarSort second ns h = refl
skip_sort env st name IntegerSort second ns h = refl
skip_sort env st name InstanceSort second ns h = refl

take_sort : (env : Env) (st : Start) (name : Name) (sort : Sort) (second : Option Declaration) (ns : List Named) (x : SaidSignal) → said_signals env st (named name sort second ∷ []) ≡ x ∷ []
    → said_signals env st (named name sort second ∷ ns) ≡ x ∷ said_signals env (after st x.meaning) ns
take_sort env st name (SignalOf s) second ns x h = let is = head_is _ x h in ap (λ (y : SaidSignal). y ∷ said_signals env (after st y.meaning) ns) is
  where
    head_is : (y x : SaidSignal) → y ∷ [] ≡ x ∷ [] → y ≡ x
    head_is y x h = cc
take_sort env st name (ParameterOf p) second ns x h = cc
take_sort env st name (FunctionOf f) second ns x h = cc
take_sort env st name GenvarSort second ns x h = cc
take_sort env st name IntegerSort second ns x h = cc
take_sort env st name InstanceSort second ns x h = cc

-- a loop over the names of a scope, after some of them
pub record IsSignalled (env : Env) (start next : Start) (rest all : List Named) (list : List Signal) (found : Option Fault) : Type 0 where
  pub list_is : map placed list ++ map placed_of (said_signals env next rest) ≡ map placed_of (said_signals env start all)
  pub some : (fs : List Fault) × (found ≡ least fs) × (least (fs ++ flat_map faults_of (said_signals env next rest)) ≡ least (flat_map faults_of (said_signals env start all)))
  pub ends : start_after next (said_signals env next rest) ≡ start_after start (said_signals env start all)

same_start : (scope : ℕ) (top : Bool) (a b c d : ℕ) → a ≡ c → b ≡ d → (let s : Start = record { scope = scope; top = top; signal = a; bit = b } in s) ≡ record { scope = scope; top = top; signal = c; bit = d }
same_start scope top a b c d h k = cc

sum_from : (n : ℕ) (ss : List SaidSignal) → fold (λ a (y : SaidSignal). a + signal_length y.meaning.signal) n ss ≡ n + sum_by (λ (y : SaidSignal). signal_length y.meaning.signal) ss
sum_from n [] = omega arith
sum_from n (x ∷ ss) =
    let a = sum_from (n + signal_length x.meaning.signal) ss in
    let b = sum_from (0 + signal_length x.meaning.signal) ss in
    omega (arith, a, b)

count_more : (n : ℕ) (ss : List SaidSignal) → fold (λ a (y : SaidSignal). a + length (nets_of y.meaning.signal)) n ss ≡ n + net_count ss
count_more n [] = omega arith
count_more n (x ∷ ss) =
    let a = count_more (n + length (nets_of x.meaning.signal)) ss in
    let b = count_more (0 + length (nets_of x.meaning.signal)) ss in
    omega (arith, a, b)

after_more : (s : Start) (x : SaidSignal) (ss : List SaidSignal) → start_after (after s x.meaning) ss ≡ start_after s (x ∷ ss)
after_more s x ss =
    let a = count_more (0 + length (nets_of x.meaning.signal)) ss in
    let b = sum_from (0 + signal_length x.meaning.signal) ss in
    same_start s.scope s.top (s.signal + length (nets_of x.meaning.signal) + net_count ss) (s.bit + signal_length x.meaning.signal + sum_by (λ (y : SaidSignal). signal_length y.meaning.signal) ss)
    (s.signal + fold (λ a (y : SaidSignal). a + length (nets_of y.meaning.signal)) (0 + length (nets_of x.meaning.signal)) ss)
    (s.bit + fold (λ a (y : SaidSignal). a + signal_length y.meaning.signal) (0 + signal_length x.meaning.signal) ss) (omega (arith, a)) (omega (arith, b))

after_none : (s : Start) → start_after s [] ≡ s
after_none s = same_start s.scope s.top _ _ s.signal s.bit (let e : s.signal + 0 ≡ s.signal = omega arith in e) (let e : s.bit + 0 ≡ s.bit = omega arith in e)

pub signalled_start : (env : Env) (start : Start) (all : List Named) → IsSignalled env start start all all [] None
signalled_start env start all = record { list_is = refl; some = ([], refl, refl); ends = refl }

pub signalled_skip : (env : Env) (start next : Start) (n : Named) (rest here all : List Named) (list : List Signal) (found : Option Fault) → here ≡ n ∷ rest → IsSignalled env start next here all list found
    → said_signals env next (n ∷ []) ≡ [] → IsSignalled env start next rest all list found
signalled_skip env start next n rest here all list found is before h =
    let same : said_signals env next here ≡ said_signals env next rest = ap (said_signals env next) is ∙ skip_sort env next n.first.name n.first.sort n.second rest h in
    record {
      list_is = ap (λ (x : List SaidSignal). map placed list ++ map placed_of x) (sym same) ∙ before.list_is;
      some = (before.some.0, before.some.1, ap (λ (x : List SaidSignal). least (before.some.0 ++ flat_map faults_of x)) (sym same) ∙ before.some.2);
      ends = ap (start_after next) (sym same) ∙ before.ends;
    }

placed_is : (c : SignalFound) (x : SaidSignal) → IsSaidSignal c x → placed c.signal ≡ placed_of x
placed_is c x h = same _ _ _ _ h.place h.meaning
  where
    same : (p q : ℕ) (m n : SignalMeaning) → p ≡ q → m ≡ n → (let a : Placed = record { place = p; meaning = m } in a) ≡ record { place = q; meaning = n }
    same p q m n h k = cc

pub signalled_more : (env : Env) (start next later : Start) (n : Named) (rest here all : List Named) (list : List Signal) (found sum : Option Fault) (c : SignalFound) (x : SaidSignal)
    → here ≡ n ∷ rest → IsSignalled env start next here all list found → said_signals env next (n ∷ []) ≡ x ∷ [] → IsSaidSignal c x → later ≡ after next x.meaning → sum ≡ better found c.fault
    → IsSignalled env start later rest all (list ++ c.signal ∷ []) sum
signalled_more env start next later n rest here all list found sum c x is before h says t s =
    let same : said_signals env next here ≡ x ∷ said_signals env later rest =
    ap (said_signals env next) is ∙ take_sort env next n.first.name n.first.sort n.second rest x h ∙ ap (λ (y : Start). x ∷ said_signals env y rest) (sym t) in
    let fs = before.some.0 in
    record {
      list_is =
          ap (λ (r : List Placed). r ++ map placed_of (said_signals env later rest)) (map-append placed list (c.signal ∷ []))
          ∙ append_assoc (map placed list) (placed c.signal ∷ []) (map placed_of (said_signals env later rest))
          ∙ ap (λ (y : Placed). map placed list ++ (y ∷ map placed_of (said_signals env later rest))) (placed_is c x says)
          ∙ ap (λ (r : List SaidSignal). map placed list ++ map placed_of r) (sym same)
          ∙ before.list_is;
      some = (
        fs ++ x.faults,
        s ∙ ap (λ (y : Option Fault). better y c.fault) before.some.1 ∙ ap (better (least fs)) says.fault ∙ sym (least_append fs x.faults),
        ap least (append_assoc fs x.faults (flat_map faults_of (said_signals env later rest))) ∙ ap (λ (r : List SaidSignal). least (fs ++ flat_map faults_of r)) (sym same) ∙ before.some.2,
      );
      ends = ap (λ (y : Start). start_after y (said_signals env later rest)) t ∙ after_more next x (said_signals env later rest) ∙ ap (start_after next) (sym same) ∙ before.ends;
    }

pub signalled_end : (env : Env) (start next : Start) (ns : List Named) (i : ℕ) (list : List Signal) (found : Option Fault) → length ns ≤ i → IsSignalled env start next (drop i ns) ns list found
    → (map placed list ≡ map placed_of (said_signals env start ns)) × (found ≡ least (flat_map faults_of (said_signals env start ns)))
signalled_end env start next ns i list found h e =
    let k : IsSignalled env start next [] ns list found = subst (λ (x : List Named). IsSignalled env start next x ns list found) (none_left ns i h) e in
    (sym (append_none (map placed list)) ∙ k.list_is, k.some.1 ∙ ap least (sym (append_none k.some.0)) ∙ k.some.2)

-- where the next signal begins
pub signalled_next : (env : Env) (start next : Start) (ns : List Named) (i : ℕ) (list : List Signal) (found : Option Fault) → length ns ≤ i → IsSignalled env start next (drop i ns) ns list found
    → next ≡ start_after start (said_signals env start ns)
signalled_next env start next ns i list found h e =
    let k : IsSignalled env start next [] ns list found = subst (λ (x : List Named). IsSignalled env start next x ns list found) (none_left ns i h) e in
    sym (after_none next) ∙ k.ends

pub signalled_as : (env : Env) (start a b : Start) (rest all : List Named) (l m : List Signal) (f g : Option Fault) → b ≡ a → m ≡ l → g ≡ f → IsSignalled env start a rest all l f → IsSignalled env start b rest all m g
signalled_as env start a b rest all l m f g x y z h =
    subst (λ (s : Start). IsSignalled env start s rest all m g) (sym x) (subst (λ (s : List Signal). IsSignalled env start a rest all s g) (sym y) (subst (λ (s : Option Fault). IsSignalled env start a rest all l s) (sym z) h))
