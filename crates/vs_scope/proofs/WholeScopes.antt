-- What a scope declares, by what is found of its parts.
use Rattle.std.proofs.Common.{◌≡◌, ℕ, Bool, true, false, ◌&&◌, List, [], ◌∷◌, ◌++◌, map, flat_map, Option, Some, if◌then◌else◌, sym, ap, ◌∙◌, subst}
use Rattle.std.specs.List.{list_any}
use Rattle.vs_grammar.specs.Shapes.{Given}
use Rattle.vs_design.specs.Clocks.{same_name}
use Rattle.vs_const.specs.declared.faults.Fault.{Fault}
use Rattle.vs_const.specs.Faults.{least, better}
use Rattle.vs_const.proofs.Least.{least_append}
use Rattle.vs_elaborated.specs.Environments.{Env, Entry, within}
use Rattle.vs_elaborated.specs.Declarations.{Declaration, Named, are_sorts_of_one, second_of, names_after, names_of, repeated_names}
use Rattle.vs_elaborated.specs.Parameters.{Override, first_entries, said_parameters}
use Rattle.vs_elaborated.specs.Limits.{the_limits}
use Rattle.vs_elaborated.specs.Functions.{Counts, said_functions}
use Rattle.vs_elaborated.specs.Signals.{Start, SaidSignal, said_signals, range_faults}
use Rattle.vs_scope.specs.declared.counts.Counts.{Counts as CountsOf}
use Rattle.vs_scope.specs.declared.names.Signal.{Signal}
use Rattle.vs_scope.specs.Counts.{counted}
use Rattle.vs_scope.specs.Views.{signal_meaning}
use Rattle.vs_scope.specs.Shaped.{IsShaped, AreShaped, AreShapedNames}
use Rattle.vs_scope.specs.Signalled.{placed, placed_of, faults_of, put_all, start_after}
use Rattle.vs_scope.specs.Scopes.{evaluated_entries, said_signals_of, said_entries, said_functions_of, plain_faults, said_faults}
use Rattle.vs_scope.proofs.FirstFaults.{put_said}

second_shaped : (a : Declaration) (ds : List Declaration) → AreShaped ds → Given IsShaped (second_of a ds)
second_shaped a [] h = tt
second_shaped a (b ∷ bs) h = by (same_name a.name.bytes b.name.bytes && are_sorts_of_one a.sort b.sort) (second_shaped a bs h.1)
  where
    by : (t : Bool) → Given IsShaped (second_of a bs) → Given IsShaped (if t then Some b else second_of a bs)
    by true k = h.0
    by false k = k

shaped_after : (seen : List (List ℕ)) (ds : List Declaration) → AreShaped ds → AreShapedNames (names_after seen ds)
shaped_after seen [] h = tt
shaped_after seen (a ∷ rest) h = by (list_any (same_name a.name.bytes) seen) (shaped_after seen rest h.1) (shaped_after (a.name.bytes ∷ seen) rest h.1)
  where
    by : (t : Bool) → AreShapedNames (names_after seen rest) → AreShapedNames (names_after (a.name.bytes ∷ seen) rest)
        → AreShapedNames (if t then names_after seen rest else (let n : Named = record { first = a; second = second_of a rest } in n) ∷ names_after (a.name.bytes ∷ seen) rest)
    by true k m = k
    by false k m = ((h.0, second_shaped a rest h.1), m)

pub names_shaped : (ds : List Declaration) (ns : List Named) → AreShaped ds → ns ≡ names_of ds → AreShapedNames ns
names_shaped ds ns h e = subst AreShapedNames (sym e) (shaped_after [] ds h)

-- what a loop over each kind has found
pub record AreFound (env : Env) (os : List Override) (start : Start) (ds : List Declaration) (first evaluated whole : List Entry) (ns : List Named) (cs : List Signal) (a b c d : Option Fault) : Type 0 where
  pub first_is : first ≡ first_entries start.scope (names_of ds)
  pub repeated : a ≡ least (repeated_names [] ds)
  pub evaluated_is : evaluated ≡ (said_parameters env os ds first).entries
  pub parameters : b ≡ least (said_parameters env os ds first).faults
  pub names : ns ≡ names_of ds
  pub ranges : c ≡ least (range_faults (within env evaluated) ds)
  pub signals : map placed cs ≡ map placed_of (said_signals (within env evaluated) start ns)
  pub seconds : d ≡ least (flat_map faults_of (said_signals (within env evaluated) start ns))
  pub whole_is : whole ≡ put_all (map signal_meaning cs) evaluated

module _ {env : Env} {os : List Override} {start : Start} {ds : List Declaration} {first evaluated whole : List Entry} {ns : List Named} {cs : List Signal} {a b c d : Option Fault}
    (f : AreFound env os start ds first evaluated whole ns cs a b c d) where
  values : evaluated ≡ (evaluated_entries start.scope env os ds).entries
  values = f.evaluated_is ∙ ap (λ (e : List Entry). (said_parameters env os ds e).entries) f.first_is

  said : said_signals (within env evaluated) start ns ≡ said_signals_of env os start ds
  said = ap (λ (e : List Entry). said_signals (within env e) start ns) values ∙ ap (said_signals (within env (evaluated_entries start.scope env os ds).entries) start) f.names

  pub found_signals : map placed cs ≡ map placed_of (said_signals_of env os start ds)
  found_signals = f.signals ∙ ap (map placed_of) said

  pub found_entries : whole ≡ said_entries env os start ds
  found_entries = f.whole_is ∙ ap (put_all (map signal_meaning cs)) values ∙ put_said cs (said_signals_of env os start ds) (evaluated_entries start.scope env os ds).entries found_signals

  pub found_next : (next : Start) → next ≡ start_after start (said_signals (within env evaluated) start ns) → next ≡ start_after start (said_signals_of env os start ds)
  found_next next h = h ∙ ap (start_after start) said

  pub found_plain : better a (better b (better c d)) ≡ least (plain_faults env os start ds)
  found_plain =
      let p = (evaluated_entries start.scope env os ds).faults in
      let r = range_faults (within env (evaluated_entries start.scope env os ds).entries) ds in
      let s = flat_map faults_of (said_signals_of env os start ds) in
      ap (λ (x : Option Fault). better x (better b (better c d))) f.repeated
      ∙ ap (better (least (repeated_names [] ds)))
      (ap (λ (x : Option Fault). better x (better c d)) (f.parameters ∙ ap (λ (e : List Entry). least (said_parameters env os ds e).faults) f.first_is)
      ∙ ap (better (least p))
      (ap (λ (x : Option Fault). better x d) (f.ranges ∙ ap (λ (e : List Entry). least (range_faults (within env e) ds)) values)
      ∙ ap (better (least r)) (f.seconds ∙ ap (λ (x : List SaidSignal). least (flat_map faults_of x)) said)
      ∙ sym (least_append r s))
      ∙ sym (least_append p (r ++ s)))
      ∙ sym (least_append (repeated_names [] ds) (p ++ (r ++ s)))

  pub found_functions : (before : Counts) → said_functions the_limits start.scope env before ds whole ≡ said_functions_of env os start before ds
  found_functions before = ap (said_functions the_limits start.scope env before ds) found_entries

  pub found_said : (scope : ℕ) (now before : CountsOf) → scope ≡ start.scope → now ≡ before → said_functions the_limits scope env (counted now) ds whole ≡ said_functions_of env os start (counted before) ds
  found_said scope now before h k =
      ap (λ (n : ℕ). said_functions the_limits n env (counted now) ds whole) h ∙ ap (λ (n : CountsOf). said_functions the_limits start.scope env (counted n) ds whole) k ∙ found_functions (counted before)

  pub found_faults : (before : Counts) (p u : Option Fault) → p ≡ better a (better b (better c d)) → u ≡ least (said_functions_of env os start before ds).faults
      → better p u ≡ least (said_faults env os start before ds)
  found_faults before p u h e =
      ap (λ (x : Option Fault). better x u) (h ∙ found_plain)
      ∙ ap (better (least (plain_faults env os start ds))) e
      ∙ sym (least_append (plain_faults env os start ds) (said_functions_of env os start before ds).faults)
