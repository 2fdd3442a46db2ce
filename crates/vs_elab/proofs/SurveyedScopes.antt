-- What is found of a scope is what its survey says.
use Rattle.std.proofs.Common.{◌≡◌, ◌≤◌, ◌+◌, ◌^◌, ℕ, List, ◌++◌, flat_map, length, map, Option, Some, None, refl, sym, ap, ◌∙◌, subst}
use Rattle.std.specs.Prelude.{sum_by, Result, Ok, Err, IfOk, OnOk}
use Rattle.vs_grammar.specs.Trees as tree
use Rattle.vs_grammar.specs.Shapes.{Each}
use Rattle.vs_const.specs.declared.faults.Fault.{Fault}
use Rattle.vs_const.specs.Faults.{least, better}
use Rattle.vs_const.specs.Meanings.{Find}
use Rattle.vs_elaborated.specs.Limits.{the_limits}
use Rattle.vs_elaborated.specs.Environments.{Env, find_entry, find_name, named, within}
use Rattle.vs_elaborated.specs.Signals.{Start, all_nets}
use Rattle.vs_elaborated.specs.Generate.{Made}
use Rattle.vs_elaborated.specs.Pieces.{Task, Said, both_said}
use Rattle.vs_elaborated.specs.Instances.{Around}
use Rattle.vs_elaborated.specs.Functions.{Counts}
use Rattle.vs_elaborated.specs.Unheard.{item_unheard, ports_unheard}
use Rattle.vs_elaborated.specs.Surveys.{Loops, Totals, Survey, survey, counts_of, declarations_of, header_said, items_of, items_said, ports_said, loops_behind, piece_processes, processes_over, contents_unheard}
use Rattle.vs_scope.specs.Again.{AreSeen}
use Rattle.vs_scope.specs.Complete.{KeepsShapes, complete, function_declaration}
use Rattle.vs_scope.specs.Functions.{functions_in}
use Rattle.vs_scope.specs.Made as code
use Rattle.vs_scope.specs.Signalled.{start_of}
use Rattle.vs_scope.specs.Surveys.{IsOfParts, MeanTheSame, counts_behind, start_at, start_behind, turns_behind, signals_in, made_in, entries_in, faults_in, items_faults, loops_in, said_in, scope_env}
use Rattle.vs_items.specs.declared.bodies.SaidItems.{SaidItems}
use Rattle.vs_items.specs.Loops.{SeeTheSame}
use Rattle.vs_items.specs.Said.{IsSaid}
use Rattle.vs_elab.specs.declared.surveyed.SurveyedScope.{SurveyedScope}
use Rattle.vs_elab.specs.Opening.{signal}
use Rattle.vs_elab.specs.Reading.{IsSurveyed, totals_of}
use Rattle.vs_elab.proofs.SameMeanings.{found_alike, seen_alike}
use Rattle.vs_elab.proofs.ScopeItems.{one_made_each}

-- what is said of the items, where it is known for all that can be asked
pub said_for_all : {X Y Z E : Type 0} {P Q R : X → Y → Z → Type 0} (S : X → Y → Z → SaidItems → Type 0) (r : Result SaidItems E) → ((x : X) (y : Y) (z : Z) → P x y z → Q x y z → R x y z → IfOk r (S x y z))
    → IfOk r (λ s. (x : X) (y : Y) (z : Z) → P x y z → Q x y z → R x y z → S x y z s)
said_for_all S (Ok s) h = h
said_for_all S (Err e) h = tt

pub then_for_all : {X T E : Type 0} (P Q : X → Type 0) (r : Result T E) → ((x : X) → P x → OnOk r (Q x)) → OnOk r ((x : X) → P x → Q x)
then_for_all P Q (Ok s) h = h
then_for_all P Q (Err e) h = tt

better_first : (a b : Option Fault) → better a b ≡ None → a ≡ None
better_first None b h = refl
better_first (Some a) b h = cc

better_second : (a b : Option Fault) → better a b ≡ None → b ≡ None
better_second None b h = h
better_second (Some a) b h = cc

-- where the items of a scope stand
abbrev items_around : Task → Totals → Around
items_around t totals = record { scope = totals.scopes; depth = t.depth; env = scope_env t totals }

-- what was found of its names, of its header and of its items: the code's own words
pub record IsFound (source : tree.Source) (t : Task) (totals : Totals) (did : Loops) (r : SurveyedScope) : Type 0 where
  pub start : Start
  pub starts : start ≡ start_at t totals
  pub before : Counts
  pub counts_before : before ≡ counts_of totals
  pub items : List tree.Item
  pub items_are : items_of t.contents ≡ items
  pub header : tree.Header
  pub header_are : (env : Env) → header_said env t.contents ≡ ports_said env header
  pub unheard_are : (find : Find) → contents_unheard find t.contents ≡ ports_unheard find header ++ flat_map (item_unheard find) items
  pub here : Env
  pub here_is : here ≡ within t.env (complete t.env r.names)
  pub names : MeanTheSame (complete t.env r.names) (entries_in t.env t.contents start before totals.turns)
  pub found : Option Fault
  pub said : SaidItems
  pub behind : Counts
  pub behind_is : behind ≡ counts_behind t.env t.contents start before
  pub first : r.fault ≡ better found said.fault
  pub found_is : found ≡ least (faults_in t.env t.contents start before totals.turns)
  pub said_is : (a : Around) (ms : List Made) → SeeTheSame a.env here → length ms ≡ length items
      → IsSaid said the_limits.processes totals.processes (both_said (ports_said a.env header) (items_said the_limits source a (record { copies = behind.copies; headed = totals.loops.headed }) items ms)) (ports_unheard (named a.env) header ++ flat_map (item_unheard (named a.env)) items)
  pub then_is : (env : Env) → SeeTheSame env here → did ≡ loops_behind the_limits env (record { copies = behind.copies; headed = totals.loops.headed }) items
  pub entries_are : found ≡ None → complete t.env r.names ≡ entries_in t.env t.contents start before totals.turns
  pub kept : KeepsShapes t.env r.names
  pub seen : AreSeen r.names t.env t.contents start before
  pub functions : map function_declaration r.names.functions.items ≡ functions_in (declarations_of t.contents)
  pub signals : map signal r.signals.items ≡ all_nets (signals_in t.env t.contents start)
  pub made : map code.made r.made.items ≡ map code.kept (made_in t.env t.contents start before totals.turns)
  pub blocks : Each code.AreShapedBlocks r.made.items
  pub next : start_of r.counts.start ≡ start_behind t.env t.contents start
  pub instances : r.counts.instances ≡ totals.instances
  pub turns : r.counts.turns ≡ turns_behind t.env t.contents start before totals.turns
  pub called : r.counts.functions ≡ behind.functions
  pub processes : r.counts.processes ≡ said.processes

module _ (source : tree.Source) (t : Task) (totals : Totals) (did : Loops) (r : SurveyedScope) (f : IsFound source t totals did r) where
  abbrev all_made : List Made
  all_made = made_in t.env t.contents (start_at t totals) (counts_of totals) totals.turns

  as_many : length all_made ≡ length f.items
  as_many = one_made_each the_limits (items_of t.contents) _ 1 totals.turns ∙ ap (λ (is : List tree.Item). length is) f.items_are

  -- where its signals begin, and the counts before it
  both_are : {A : Type 0} (g : Start → Counts → A) → g f.start f.before ≡ g (start_at t totals) (counts_of totals)
  both_are g = ap (λ b. g b f.before) f.starts ∙ ap (g (start_at t totals)) f.counts_before

  same_names : (name : List ℕ) → find_entry (entries_in t.env t.contents (start_at t totals) (counts_of totals) totals.turns) name ≡ find_entry (complete t.env r.names) name
  same_names name = sym (f.names name ∙ both_are (λ b c. find_entry (entries_in t.env t.contents b c totals.turns) name))

  alike : SeeTheSame (scope_env t totals) f.here
  alike = record {
    names = seen_alike t.env (entries_in t.env t.contents (start_at t totals) (counts_of totals) totals.turns) (complete t.env r.names) same_names ∙ ap named (sym f.here_is);
    finds = λ name.
        found_alike t.env (entries_in t.env t.contents (start_at t totals) (counts_of totals) totals.turns) (complete t.env r.names) same_names name ∙ ap (λ (e : Env). find_name e.frames name) (sym f.here_is);
  }

  behind_then : f.behind ≡ counts_behind t.env t.contents (start_at t totals) (counts_of totals)
  behind_then = f.behind_is ∙ both_are (counts_behind t.env t.contents)

  abbrev loops_with : Counts → Loops
  loops_with c = record { copies = c.copies; headed = totals.loops.headed }

  loops_are : loops_with f.behind ≡ loops_in t totals
  loops_are = ap loops_with behind_then

  abbrev said_with : Loops → List tree.Item → Said
  said_with l is = both_said (ports_said (scope_env t totals) f.header) (items_said the_limits source (items_around t totals) l is all_made)

  -- the processes that aren't woken by what functions read
  abbrev unheard : List Fault
  unheard = ports_unheard (named (scope_env t totals)) f.header ++ flat_map (item_unheard (named (scope_env t totals))) f.items

  said : IsSaid f.said the_limits.processes totals.processes (said_with (loops_in t totals) f.items) unheard
  said = subst (λ (l : Loops). IsSaid f.said the_limits.processes totals.processes (said_with l f.items) unheard) loops_are (f.said_is (items_around t totals) all_made alike as_many)

  said_same : said_with (loops_in t totals) f.items ≡ said_in source t totals
  said_same =
      ap (said_with (loops_in t totals)) (sym f.items_are)
      ∙ ap (λ (h : Said). both_said h (items_said the_limits source (items_around t totals) (loops_in t totals) (items_of t.contents) all_made)) (sym (f.header_are (scope_env t totals)))

  said_fault : f.said.fault ≡ least (items_faults source t totals)
  said_fault =
      said.fault ∙ ap (λ (s : Said). least (s.faults ++ (processes_over the_limits.processes totals.processes s.pieces ++ unheard))) said_same
      ∙ ap (λ (fs : List Fault). least ((said_in source t totals).faults ++ (processes_over the_limits.processes totals.processes (said_in source t totals).pieces ++ fs))) (sym (f.unheard_are (named (scope_env t totals))))

  said_processes : f.said.fault ≡ None → r.counts.processes ≡ totals.processes + sum_by piece_processes (said_in source t totals).pieces
  said_processes none = f.processes ∙ said.processes none ∙ ap (λ (s : Said). totals.processes + sum_by piece_processes s.pieces) said_same

  loops_then : did ≡ loops_behind the_limits (scope_env t totals) (loops_in t totals) (items_of t.contents)
  loops_then =
      f.then_is (scope_env t totals) alike ∙ ap (λ (l : Loops). loops_behind the_limits (scope_env t totals) l f.items) loops_are ∙ ap (loops_behind the_limits (scope_env t totals) (loops_in t totals)) (sym f.items_are)

  next_start : start_of r.counts.start ≡ start_behind t.env t.contents (start_at t totals)
  next_start = f.next ∙ ap (start_behind t.env t.contents) f.starts

  module _ (s : Survey) (parts : IsOfParts source t totals s) where
    the_fault : r.fault ≡ least s.faults
    the_fault =
        f.first ∙ ap (λ o. better o f.said.fault) (f.found_is ∙ both_are (λ b c. least (faults_in t.env t.contents b c totals.turns)))
        ∙ ap (better (least (faults_in t.env t.contents (start_at t totals) (counts_of totals) totals.turns))) said_fault ∙ sym parts.fault

    the_entries : r.fault ≡ None → complete t.env r.names ≡ s.entries
    the_entries none =
        f.entries_are (better_first f.found f.said.fault (sym f.first ∙ none)) ∙ both_are (λ b c. entries_in t.env t.contents b c totals.turns) ∙ sym parts.entries

    the_signals : map signal r.signals.items ≡ s.signals
    the_signals = f.signals ∙ ap (λ b. all_nets (signals_in t.env t.contents b)) f.starts ∙ sym parts.signals

    the_totals : r.fault ≡ None → totals_of r.counts did ≡ s.totals
    the_totals none =
        let behind : Start → (instances turns functions : ℕ) → Loops → (processes : ℕ) → Totals =
        λ b i n k l p. record { scopes = b.scope; signals = b.signal; bits = b.bit; instances = i; turns = n; functions = k; loops = l; processes = p } in
        let next = start_behind t.env t.contents (start_at t totals) in
        let turns = turns_behind t.env t.contents (start_at t totals) (counts_of totals) totals.turns in
        let functions = (counts_behind t.env t.contents (start_at t totals) (counts_of totals)).functions in
        let loops = loops_behind the_limits (scope_env t totals) (loops_in t totals) (items_of t.contents) in
        ap (λ b. behind b r.counts.instances r.counts.turns r.counts.functions did r.counts.processes) next_start
        ∙ ap (λ i. behind next i r.counts.turns r.counts.functions did r.counts.processes) f.instances
        ∙ ap (λ n. behind next totals.instances n r.counts.functions did r.counts.processes) (f.turns ∙ both_are (λ b c. turns_behind t.env t.contents b c totals.turns))
        ∙ ap (λ k. behind next totals.instances turns k did r.counts.processes) (f.called ∙ ap (λ (c : Counts). c.functions) behind_then)
        ∙ ap (λ l. behind next totals.instances turns functions l r.counts.processes) loops_then
        ∙ ap (behind next totals.instances turns functions loops) (said_processes (better_second f.found f.said.fault (sym f.first ∙ none)))
        ∙ sym parts.totals_is

  pub surveyed : IsOfParts source t totals (survey the_limits source t totals) → IsSurveyed source t totals did r
  surveyed parts =
      let s = survey the_limits source t totals in
      record {
        fault = the_fault s parts;
        names = the_entries s parts;
        kept = f.kept;
        seen = subst (λ (b : Start). AreSeen r.names t.env t.contents b (counts_of totals)) f.starts (subst (AreSeen r.names t.env t.contents f.start) f.counts_before f.seen);
        functions = f.functions;
        signals = the_signals s parts;
        made = f.made ∙ both_are (λ b c. map code.kept (made_in t.env t.contents b c totals.turns));
        blocks = f.blocks;
        totals_is = the_totals s parts;
        few = subst (λ (n : ℕ). n ≤ 2 ^ 16) (sym f.processes) said.few;
        later = ap (λ (b : Start). b.top) f.next;
      }
