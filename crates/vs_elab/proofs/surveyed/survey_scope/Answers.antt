use Rattle.std.proofs.Common.{Bool, ℕ, refl, ap, ◌∙◌, subst}
use Rattle.vs_elaborated.specs.Functions.{Counts}
use Rattle.vs_elaborated.specs.Pieces.{Task}
use Rattle.vs_elaborated.specs.Signals.{Start}
use Rattle.vs_elaborated.specs.Limits.{the_limits}
use Rattle.vs_elaborated.specs.Surveys.{Loops, loops_behind}
use Rattle.vs_items.specs.Said.{IsSaid, scope_said}
use Rattle.vs_items.specs.Unheard.{scope_unheard}
use Rattle.vs_scope.specs.Contents.{contents_header, contents_items}
use Rattle.vs_elaborated.specs.Environments.{named, within}
use Rattle.vs_scope.specs.Complete.{complete}
use Rattle.vs_scope.specs.Counts.{counted}
use Rattle.vs_scope.specs.Signalled.{start_of}
use Rattle.vs_elab.specs.declared.surveyed.SurveyedScope.{SurveyedScope}
use Rattle.vs_elab.specs.Reading.{source_of, task_of, totals_of}
use Rattle.vs_elab.proofs.ScopeItems.{header_are_those, items_are_those, unheard_are_those}
use Rattle.vs_elab.proofs.ShapedScopes.{header_stated, scope_stated}
use Rattle.vs_elab.proofs.SurveyedScopes.{surveyed}
use Rattle.vs_elab.proofs.surveyed.survey_scope.Goals as goal

pub said_here-requires-clause-header : goal.said_here-requires-clause-header
said_here-requires-clause-header c = header_stated c.args.scope.contents c.requires.shaped

pub said_here-requires-clause-stated : goal.said_here-requires-clause-stated
said_here-requires-clause-stated c = scope_stated c.args.scope.contents c.requires.shaped

pub returns : goal.returns
returns c =
    let scope = c.args.scope in
    let counts = c.args.counts in
    let old = c.args.loops.now in
    let source = source_of c.args.text.now in
    let frames = c.args.frames.now in
    let known = c.requires.text.modules in
    let names = c.in_ok-names.field-0 in
    let is = c.in_ok-names.ensures in
    let said = c.in_ok-said.field-0 in
    let items = c.in_ok-said.ensures in
    let r : SurveyedScope = record {
      names = names.names;
      signals = names.nets;
      made = names.made;
      fault = c.first_of.result;
      counts = record { start = names.next; instances = counts.instances; turns = names.turns; functions = names.counts.functions; processes = said.processes };
    } in
    let task : Task = task_of frames scope in
    surveyed source task (totals_of counts old) c.said_here.new.loops r
    (record {
      start = start_of counts.start;
      starts = ap (λ (b : Bool). let s : Start = record { scope = counts.start.scope; top = b; signal = counts.start.signal; bit = counts.start.bit } in s) c.requires.top;
      before = let k : Counts = record { copies = c.copies.result; functions = counts.functions } in k;
      counts_before = ap (λ (n : ℕ). let k : Counts = record { copies = n; functions = counts.functions } in k) c.copies.ensures;
      items = contents_items scope.contents;
      items_are = items_are_those frames scope.overrides.now scope.contents;
      header = contents_header scope.contents;
      header_are = header_are_those frames scope.overrides.now scope.contents;
      unheard_are = unheard_are_those frames scope.overrides.now scope.contents;
      here = within task.env (complete task.env names.names);
      here_is = refl;
      names = is.names;
      found = names.fault;
      said = said;
      behind = counted names.counts;
      behind_is = is.counts;
      first = c.first_of.ensures;
      found_is = is.fault;
      said_is = λ a ms h k. subst (λ (l : Loops). IsSaid said the_limits.processes counts.processes (scope_said source a l scope.contents ms) (scope_unheard (named a.env) scope.contents)) c.set_copies.ensures (items.said source a ms known h k);
      then_is = λ env h. items.loops env h ∙ ap (λ (l : Loops). loops_behind the_limits env l (contents_items scope.contents)) c.set_copies.ensures;
      entries_are = is.entries;
      kept = is.kept;
      seen = is.seen;
      functions = is.functions;
      signals = is.nets;
      made = is.made;
      blocks = is.blocks;
      next = is.next;
      instances = refl;
      turns = is.turns;
      called = refl;
      processes = refl;
    })
    (c.survey_law.ensures source task (totals_of counts old))
