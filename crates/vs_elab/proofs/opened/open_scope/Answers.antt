use Rattle.std.proofs.Common.{◌≡◌, List, None, length, map, take, refl, sym, ap, ◌∙◌, subst}
use Rattle.vs_design.specs.Designs.{Scope, bit_count}
use Rattle.vs_build.specs.Growth.{draft}
use Rattle.vs_scope.specs.declared.frames.Frame.{Frame}
use Rattle.vs_scope.specs.declared.names.Signal.{Signal}
use Rattle.vs_scope.specs.Complete.{completed, function_declaration}
use Rattle.vs_scope.specs.Contents.{contents_header, contents_items}
use Rattle.vs_scope.specs.Counts.{counted}
use Rattle.vs_scope.specs.Made as code
use Rattle.vs_scope.specs.Views.{entries}
use Rattle.vs_elaborated.specs.Limits.{the_limits}
use Rattle.vs_elaborated.specs.Elaborated.{limit_faults}
use Rattle.vs_elaborated.specs.Surveys.{Totals, survey}
use Rattle.vs_const.specs.Faults.{least}
use Rattle.vs_elab.specs.declared.reading.Reading.{Reading}
use Rattle.vs_elab.specs.Functions.{AreBuildable, and_functions}
use Rattle.vs_elab.specs.Opening.{signal, Follow, and_signals}
use Rattle.vs_elab.specs.Reading.{IsSurveyed, source_of, task_of, totals_of, totals_so_far}
use Rattle.vs_elab.proofs.BuiltFunctions.{still_idle}
use Rattle.vs_elab.proofs.FineScopes.{items_around, items_made, made_each}
use Rattle.vs_elab.proofs.OpeningScopes.{all_added, functions_ready, mid_idle, opening, signals_ready, scope_opened}
use Rattle.vs_elab.proofs.ScopeFunctions.{contents_low, each_shaped}
use Rattle.vs_elab.proofs.ScopeItems.{header_are_those, items_are_those}
use Rattle.vs_elab.proofs.ShapedScopes.{header_stated, scope_stated}
use Rattle.vs_elab.proofs.Stacks.{faulty, limited}
use Rattle.vs_elab.proofs.opened.open_scope.Goals as goal

pub returns-in-Some-clause-broken : goal.returns-in-Some-clause-broken
returns-in-Some-clause-broken c left =
    let old = c.args.reading.now in
    let frames = old.frames.items in
    let t = task_of frames c.args.scope in
    let found = c.count_scope-limited.ensures.counted frames old.loops in
    let limits = c.count_scope-limited.ensures.limited frames old.loops ∙ ap (λ (k : Totals). least (limit_faults the_limits t k)) found in
    limited left the_limits (source_of c.args.text.now) t (totals_so_far old) c.in-Some.fault (sym limits ∙ c.in-Some.is)

pub returns-in-Some-fault-clause-broken : goal.returns-in-Some-fault-clause-broken
returns-in-Some-fault-clause-broken c left =
    let old = c.args.reading.now in
    let scope = c.args.scope in
    let source = source_of c.args.text.now in
    let frames = old.frames.items in
    let t = task_of frames scope in
    let counts = c.count_scope-limited.result.0 in
    let r = c.in_ok-names.field-0 in
    let did = c.survey_scope.new.loops in
    let found = c.count_scope-limited.ensures.counted frames old.loops in
    let limits = c.count_scope-limited.ensures.limited frames old.loops ∙ ap (λ (k : Totals). least (limit_faults the_limits t k)) found in
    let is : IsSurveyed source t (totals_of counts old.loops) did r = subst (λ (fs : List Frame). IsSurveyed source (task_of fs scope) (totals_of counts old.loops) did r) c.as_slice-frames.ensures.value c.in_ok-names.ensures in
    faulty left the_limits source t (totals_so_far old) c.in-Some-fault.fault (sym limits ∙ c.in_default.is)
    (ap (λ (k : Totals). least (survey the_limits source t k).faults) (sym found) ∙ sym is.fault ∙ c.in-Some-fault.is)

pub add_signals-requires : goal.add_signals-requires
add_signals-requires c =
    let old = c.args.reading.now in
    let scope = c.args.scope in
    let source = source_of c.args.text.now in
    let frames = old.frames.items in
    let t = task_of frames scope in
    let counts = c.count_scope-limited.result.0 in
    let r = c.in_ok-names.field-0 in
    let did = c.survey_scope.new.loops in
    let none : c.count_scope-limited.result.1 ≡ None = c.in_default.is in
    let clean : r.fault ≡ None = c.in_default-fault.is in
    let is : IsSurveyed source t (totals_of counts old.loops) did r = subst (λ (fs : List Frame). IsSurveyed source (task_of fs scope) (totals_of counts old.loops) did r) c.as_slice-frames.ensures.value c.in_ok-names.ensures in
    let o = opening source t old counts r.fault c.scope_law.ensures.fair c.scope_law.ensures.counted c.survey_law.ensures c.number_law.ensures.scopes c.number_law.ensures.more c.number_law.ensures.counted c.requires.text.shaped c.requires.read c.requires.sound
    c.requires.numbered c.count_scope-limited.ensures.start (c.count_scope-limited.ensures.few none) c.count_scope-limited.ensures.functions c.count_scope-limited.ensures.processes is.fault clean in
    let x : Scope = record { name = scope.name.now; parent = scope.within; instance = c.is_instance.result } in
    subst (λ (ss : List Signal). Follow (length (draft c.add_scope.new.builder).design.scopes) (length (draft c.add_scope.new.builder).design.signals) (bit_count (draft c.add_scope.new.builder).design) (map signal ss)) (sym c.deref.ensures.value)
    (signals_ready source t old counts o did r is (draft c.add_scope.new.builder) x c.in_ok-add_scope.ensures)

pub add_functions-requires-clause-idle : goal.add_functions-requires-clause-idle
add_functions-requires-clause-idle c =
    let old = c.args.reading.now in
    let scope = c.args.scope in
    let source = source_of c.args.text.now in
    let frames = old.frames.items in
    let t = task_of frames scope in
    let counts = c.count_scope-limited.result.0 in
    let r = c.in_ok-names.field-0 in
    let did = c.survey_scope.new.loops in
    let none : c.count_scope-limited.result.1 ≡ None = c.in_default.is in
    let clean : r.fault ≡ None = c.in_default-fault.is in
    let is : IsSurveyed source t (totals_of counts old.loops) did r = subst (λ (fs : List Frame). IsSurveyed source (task_of fs scope) (totals_of counts old.loops) did r) c.as_slice-frames.ensures.value c.in_ok-names.ensures in
    let o = opening source t old counts r.fault c.scope_law.ensures.fair c.scope_law.ensures.counted c.survey_law.ensures c.number_law.ensures.scopes c.number_law.ensures.more c.number_law.ensures.counted c.requires.text.shaped c.requires.read c.requires.sound
    c.requires.numbered c.count_scope-limited.ensures.start (c.count_scope-limited.ensures.few none) c.count_scope-limited.ensures.functions c.count_scope-limited.ensures.processes is.fault clean in
    let x : Scope = record { name = scope.name.now; parent = scope.within; instance = c.is_instance.result } in
    let e = draft c.add_scope.new.builder in
    let f = draft c.add_signals.new.builder in
    let added = c.in_ok-add_scope.ensures in
    let signals = c.in_ok-add_signals.ensures ∙ ap (λ (ss : List Signal). and_signals e (map signal ss)) c.deref.ensures.value in
    let low = contents_low frames scope.overrides.now scope.contents c.requires.shaped c.requires.shallow in
    mid_idle source t old counts o did r is e f x added signals refl refl (c.is_instance.ensures frames)

pub add_functions-requires-clause-shaped : goal.add_functions-requires-clause-shaped
add_functions-requires-clause-shaped c =
    let old = c.args.reading.now in
    let scope = c.args.scope in
    let source = source_of c.args.text.now in
    let frames = old.frames.items in
    let t = task_of frames scope in
    let counts = c.count_scope-limited.result.0 in
    let r = c.in_ok-names.field-0 in
    let did = c.survey_scope.new.loops in
    let none : c.count_scope-limited.result.1 ≡ None = c.in_default.is in
    let clean : r.fault ≡ None = c.in_default-fault.is in
    let is : IsSurveyed source t (totals_of counts old.loops) did r = subst (λ (fs : List Frame). IsSurveyed source (task_of fs scope) (totals_of counts old.loops) did r) c.as_slice-frames.ensures.value c.in_ok-names.ensures in
    let o = opening source t old counts r.fault c.scope_law.ensures.fair c.scope_law.ensures.counted c.survey_law.ensures c.number_law.ensures.scopes c.number_law.ensures.more c.number_law.ensures.counted c.requires.text.shaped c.requires.read c.requires.sound
    c.requires.numbered c.count_scope-limited.ensures.start (c.count_scope-limited.ensures.few none) c.count_scope-limited.ensures.functions c.count_scope-limited.ensures.processes is.fault clean in
    let x : Scope = record { name = scope.name.now; parent = scope.within; instance = c.is_instance.result } in
    each_shaped source t (totals_of counts old.loops) did r is o.of_parts (contents_low frames scope.overrides.now scope.contents c.requires.shaped c.requires.shallow)

pub add_functions-requires-clause-fine : goal.add_functions-requires-clause-fine
add_functions-requires-clause-fine c =
    let old = c.args.reading.now in
    let scope = c.args.scope in
    let source = source_of c.args.text.now in
    let frames = old.frames.items in
    let t = task_of frames scope in
    let counts = c.count_scope-limited.result.0 in
    let r = c.in_ok-names.field-0 in
    let did = c.survey_scope.new.loops in
    let none : c.count_scope-limited.result.1 ≡ None = c.in_default.is in
    let clean : r.fault ≡ None = c.in_default-fault.is in
    let is : IsSurveyed source t (totals_of counts old.loops) did r = subst (λ (fs : List Frame). IsSurveyed source (task_of fs scope) (totals_of counts old.loops) did r) c.as_slice-frames.ensures.value c.in_ok-names.ensures in
    let o = opening source t old counts r.fault c.scope_law.ensures.fair c.scope_law.ensures.counted c.survey_law.ensures c.number_law.ensures.scopes c.number_law.ensures.more c.number_law.ensures.counted c.requires.text.shaped c.requires.read c.requires.sound
    c.requires.numbered c.count_scope-limited.ensures.start (c.count_scope-limited.ensures.few none) c.count_scope-limited.ensures.functions c.count_scope-limited.ensures.processes is.fault clean in
    let x : Scope = record { name = scope.name.now; parent = scope.within; instance = c.is_instance.result } in
    let e = draft c.add_scope.new.builder in
    let f = draft c.add_signals.new.builder in
    let added = c.in_ok-add_scope.ensures in
    let signals = c.in_ok-add_signals.ensures ∙ ap (λ (ss : List Signal). and_signals e (map signal ss)) c.deref.ensures.value in
    let low = contents_low frames scope.overrides.now scope.contents c.requires.shaped c.requires.shallow in
    subst (λ (fs : List Frame). AreBuildable f.design r.names.scope (task_of fs scope).env (counted r.names.counts) (take r.names.plain (entries r.names)) (map function_declaration r.names.functions.items)) (sym c.as_slice.ensures.value)
    (functions_ready source t old counts o did r is e f x added signals refl refl (c.is_instance.ensures frames) c.scope_law.ensures.functions c.scope_law.ensures.inside c.number_law.ensures.inside c.fine_law.ensures.functions low)

pub parts_of-requires : goal.parts_of-requires
parts_of-requires c =
    let old = c.args.reading.now in
    let scope = c.args.scope in
    let source = source_of c.args.text.now in
    let frames = old.frames.items in
    let t = task_of frames scope in
    let counts = c.count_scope-limited.result.0 in
    let r = c.in_ok-names.field-0 in
    let did = c.survey_scope.new.loops in
    let none : c.count_scope-limited.result.1 ≡ None = c.in_default.is in
    let clean : r.fault ≡ None = c.in_default-fault.is in
    let is : IsSurveyed source t (totals_of counts old.loops) did r = subst (λ (fs : List Frame). IsSurveyed source (task_of fs scope) (totals_of counts old.loops) did r) c.as_slice-frames.ensures.value c.in_ok-names.ensures in
    let o = opening source t old counts r.fault c.scope_law.ensures.fair c.scope_law.ensures.counted c.survey_law.ensures c.number_law.ensures.scopes c.number_law.ensures.more c.number_law.ensures.counted c.requires.text.shaped c.requires.read c.requires.sound
    c.requires.numbered c.count_scope-limited.ensures.start (c.count_scope-limited.ensures.few none) c.count_scope-limited.ensures.functions c.count_scope-limited.ensures.processes is.fault clean in
    let x : Scope = record { name = scope.name.now; parent = scope.within; instance = c.is_instance.result } in
    ap length c.deref-2.ensures.value ∙ made_each t (totals_of counts old.loops) r.made.items (contents_items scope.contents) (items_are_those frames scope.overrides.now scope.contents) is.made

pub returns-clause-opened : goal.returns-clause-opened
returns-clause-opened c =
    let old = c.args.reading.now in
    let scope = c.args.scope in
    let source = source_of c.args.text.now in
    let frames = old.frames.items in
    let t = task_of frames scope in
    let counts = c.count_scope-limited.result.0 in
    let r = c.in_ok-names.field-0 in
    let did = c.survey_scope.new.loops in
    let none : c.count_scope-limited.result.1 ≡ None = c.in_default.is in
    let clean : r.fault ≡ None = c.in_default-fault.is in
    let is : IsSurveyed source t (totals_of counts old.loops) did r = subst (λ (fs : List Frame). IsSurveyed source (task_of fs scope) (totals_of counts old.loops) did r) c.as_slice-frames.ensures.value c.in_ok-names.ensures in
    let o = opening source t old counts r.fault c.scope_law.ensures.fair c.scope_law.ensures.counted c.survey_law.ensures c.number_law.ensures.scopes c.number_law.ensures.more c.number_law.ensures.counted c.requires.text.shaped c.requires.read c.requires.sound
    c.requires.numbered c.count_scope-limited.ensures.start (c.count_scope-limited.ensures.few none) c.count_scope-limited.ensures.functions c.count_scope-limited.ensures.processes is.fault clean in
    let x : Scope = record { name = scope.name.now; parent = scope.within; instance = c.is_instance.result } in
    let e = draft c.add_scope.new.builder in
    let f = draft c.add_signals.new.builder in
    let added = c.in_ok-add_scope.ensures in
    let signals = c.in_ok-add_signals.ensures ∙ ap (λ (ss : List Signal). and_signals e (map signal ss)) c.deref.ensures.value in
    let low = contents_low frames scope.overrides.now scope.contents c.requires.shaped c.requires.shallow in
    let totals = totals_of counts old.loops in
    let around = items_around t totals (survey the_limits source t totals).entries in
    let g = draft c.add_functions.new.builder in
    let functions = c.in_ok-add_functions.ensures ∙ ap (λ (fs : List Frame). and_functions f (completed (task_of fs scope).env r.names).functions) c.as_slice.ensures.value in
    let new : Reading = record { builder = c.add_functions.new.builder; frames = c.push_frame.new.frames; counts = r.counts; loops = did } in
    let made = ap (map code.made) c.deref-2.ensures.value ∙ is.made in
    scope_opened source t old new counts c.count_scope-limited.result.1 r (contents_header scope.contents) (contents_items scope.contents) c.in_ok-parts_of.field-0.items (record { names = r.names; parent = scope.parent; turn = scope.turn }) c.scope_law.ensures.blocks o
    (c.count_scope-limited.ensures.counted frames old.loops) (c.count_scope-limited.ensures.limited frames old.loops) none is clean refl
    (all_added source t old counts o did r is e f x added signals refl refl (c.is_instance.ensures frames) g functions)
    (still_idle f g (completed t.env r.names).functions functions (mid_idle source t old counts o did r is e f x added signals refl refl (c.is_instance.ensures frames)))
    c.in_ok-push_frame.ensures refl refl (header_are_those frames scope.overrides.now scope.contents) (header_stated scope.contents c.requires.shaped) c.requires.header
    (items_are_those frames scope.overrides.now scope.contents) (scope_stated scope.contents c.requires.shaped) c.requires.shallow
    (record { pieces = c.in_ok-parts_of.ensures.pieces source around (items_made t totals) made; fine = c.in_ok-parts_of.ensures.fine source around (items_made t totals) made })
