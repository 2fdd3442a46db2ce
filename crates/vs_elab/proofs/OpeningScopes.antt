-- A scope without a fault is opened: what is known of its survey, its signals and functions can be added, and its parts are what is left.
use Rattle.std.proofs.Common.{◌≡◌, ◌≤◌, ◌^◌, false, List, [], ◌∷◌, ◌++◌, length, length-append, map, take, Option, Some, None, sym, ap, ◌∙◌, subst, arith}
use Rattle.std.proofs.lemmas.List.{append-nil}
use Rattle.vs_design.specs.Designs.{Scope, Design, bit_count}
use Rattle.vs_grammar.specs.Trees as tree
use Rattle.vs_grammar.specs.Shapes.{Each, IsShaped}
use Rattle.vs_grammar.specs.Depths.{deepest, header_depth, item_depth}
use Rattle.vs_grammar.specs.Spelled.{depth_limit}
use Rattle.vs_const.specs.declared.faults.Fault.{Fault}
use Rattle.vs_const.specs.Faults.{least}
use Rattle.vs_elaborated.specs.Limits.{the_limits}
use Rattle.vs_elaborated.specs.Environments.{Env, within}
use Rattle.vs_elaborated.specs.Pieces.{Task, is_instance}
use Rattle.vs_elaborated.specs.Surveys.{Loops, Totals, Survey, survey, declarations_of, header_said, items_of, ports_said}
use Rattle.vs_elaborated.specs.Elaborated.{counted as counted_task, limit_faults}
use Rattle.vs_elaborated.specs.Numbers.{AreNumberedFrames, FunctionNamesAreNumbered, FunctionsAreCounted, MoreFunctionsStand, ScopesAreNumbered}
use Rattle.vs_elaborated.specs.Sound.{IsSoundTask, BlocksAreLower, FaultlessIsFair, FunctionsAreFormed, FunctionsSeeSound, SignalsAreCounted}
use Rattle.vs_build.specs.Drafts.{Draft, and_scope}
use Rattle.vs_build.specs.Growth.{draft}
use Rattle.vs_build.specs.Items.{FunctionsAreFine}
use Rattle.vs_scope.specs.declared.frames.Frame.{Frame}
use Rattle.vs_scope.specs.Complete.{KeepsShapes, complete, completed, function_declaration}
use Rattle.vs_scope.specs.Counts.{counted}
use Rattle.vs_scope.specs.Frames.{KeepShapes, env_above, env_at, envs}
use Rattle.vs_scope.specs.Surveys.{IsOfParts, SurveysAreOfParts}
use Rattle.vs_scope.specs.Views.{entries}
use Rattle.vs_elab.specs.declared.pending.Part.{Part}
use Rattle.vs_elab.specs.declared.reading.Counts.{Counts}
use Rattle.vs_elab.specs.declared.reading.Reading.{Reading}
use Rattle.vs_elab.specs.declared.surveyed.SurveyedScope.{SurveyedScope}
use Rattle.vs_elab.specs.Fine.{AreFineItems, AreFineParts, IsFineHeader, scope_plain}
use Rattle.vs_elab.specs.Functions.{AreBuildable, IsIdle, and_functions}
use Rattle.vs_elab.specs.Opening.{signal, Follow, and_signals}
use Rattle.vs_elab.specs.Pending.{parts_pieces}
use Rattle.vs_elab.specs.Reading.{IsRead, IsOpened, IsSurveyed, totals_of, totals_so_far, design_so_far}
use Rattle.vs_elab.specs.Stacks.{scope_part}
use Rattle.vs_items.specs.Stated.{AreStated, IsStatedHeader}
use Rattle.vs_elab.proofs.BuildableFunctions.{IsLow}
use Rattle.vs_elab.proofs.FineScopes.{items_around, items_made, scope_fine, scope_header, scope_pieces}
use Rattle.vs_elab.proofs.MoreFrames.{env_new, kept_behind}
use Rattle.vs_elab.proofs.NumberedNames.{frames_numbered}
use Rattle.vs_elab.proofs.OpenedScopes.{recounted, counted_read, design_with, mid_with, wider_mid, IsWell, well, signals_follow, signals_added, scope_added, scope_read, opened_by}
use Rattle.vs_elab.proofs.ScopeFunctions.{functions_buildable, functions_said}
use Rattle.vs_elab.proofs.WiderScopes.{frames_wider}

-- what is known of a scope without a fault, whose counts are these
pub record IsOpening (source : tree.Source) (t : Task) (old : Reading) (c : Counts) : Type 0 where
  pub read : IsRead (recounted old c)
  pub sound : IsSoundTask (design_so_far old) t
  pub numbered : AreNumberedFrames (design_so_far old) t.env.frames
  pub none : least (survey the_limits source t (totals_of c old.loops)).faults ≡ None
  pub of_parts : IsOfParts source t (totals_of c old.loops) (survey the_limits source t (totals_of c old.loops))
  pub is_well : IsWell (recounted old c) t (survey the_limits source t (totals_of c old.loops))

pub opening : (source : tree.Source) (t : Task) (old : Reading) (c : Counts) (f : Option Fault) → FaultlessIsFair → SignalsAreCounted → SurveysAreOfParts → ScopesAreNumbered → MoreFunctionsStand → FunctionsAreCounted → IsShaped source → IsRead old
    → IsSoundTask (design_so_far old) t → AreNumberedFrames (design_so_far old) t.env.frames → c.start ≡ old.counts.start → c.instances ≤ 4096 → c.functions ≡ old.counts.functions → c.processes ≡ old.counts.processes
    → f ≡ least (survey the_limits source t (totals_of c old.loops)).faults → f ≡ None → IsOpening source t old c
opening source t old c f fair counts parts scopes more called shaped read sound numbered start few functions processes fault none =
    let h = counted_read old c start few functions processes read in
    record {
      read = h;
      sound = sound;
      numbered = numbered;
      none = sym fault ∙ none;
      of_parts = parts source t (totals_of c old.loops);
      is_well = well source (recounted old c) t h sound shaped fair counts parts scopes more called numbered (sym fault ∙ none);
    }

module _ (source : tree.Source) (t : Task) (old : Reading) (c : Counts) (o : IsOpening source t old c) (did : Loops) (r : SurveyedScope) (s : IsSurveyed source t (totals_of c old.loops) did r) where
  abbrev own : Survey
  own = survey the_limits source t (totals_of c old.loops)

  -- its signals can be added
  pub signals_ready : (e : Draft) (x : Scope) → e ≡ and_scope (draft old.builder) x → Follow (length e.design.scopes) (length e.design.signals) (bit_count e.design) (map signal r.signals.items)
  signals_ready e x added = signals_follow (recounted old c) e x own r.signals.items o.read added o.is_well.counts o.is_well.behind (o.is_well.fair.bits o.read.few_bits) s.signals

  module _ (e f : Draft) (x : Scope) (scope : e ≡ and_scope (draft old.builder) x) (signals : f ≡ and_signals e (map signal r.signals.items)) (name : x.name ≡ t.name) (parent : x.parent ≡ t.parent) (instance : x.instance ≡ is_instance t.contents) where
    mid_is : f.design ≡ mid_with (design_so_far old) t own
    mid_is = signals_added (draft old.builder) e f x t own r.signals.items scope signals s.signals name parent instance

    -- its functions can be added
    pub mid_idle : IsIdle f
    mid_idle =
        let h = o.read.idle in
        subst IsIdle (sym signals) (subst (λ (y : Draft). IsIdle (and_signals y (map signal r.signals.items))) (sym scope) (record { outside = h.outside; expressions = h.expressions; statements = h.statements }))

    pub functions_ready : FunctionsAreFormed → FunctionsSeeSound → FunctionNamesAreNumbered → FunctionsAreFine → Each IsLow (declarations_of t.contents)
        → AreBuildable f.design r.names.scope t.env (counted r.names.counts) (take r.names.plain (entries r.names)) (map function_declaration r.names.functions.items)
    functions_ready formed inside numbers fine low =
        let d = design_so_far old in
        let m = mid_with d t own in
        let a = length-append d.scopes (scope_part t own).scopes in
        let b = o.read.scopes in
        subst (λ (y : Design). AreBuildable y r.names.scope t.env (counted r.names.counts) (take r.names.plain (entries r.names)) (map function_declaration r.names.functions.items)) (sym mid_is)
        (functions_buildable source t (totals_of c old.loops) did r s o.of_parts o.none formed inside numbers fine m (omega (arith, a, b)) o.read.functions (frames_wider d m (wider_mid d t own) false t.env.frames o.sound.frames)
        (frames_numbered d m [] (sym (append-nil d.functions)) t.env.frames o.numbered) o.is_well.mid.names low)

    pub all_added : (g : Draft) → g ≡ and_functions f (completed t.env r.names).functions → g.design ≡ design_with (design_so_far old) t own
    all_added g added = scope_added (draft old.builder) f g t own (completed t.env r.names).functions mid_is added (functions_said source t (totals_of c old.loops) did r s o.of_parts)

-- what parts there are
pub record AreParts (source : tree.Source) (t : Task) (totals : Totals) (s : Survey) (header : tree.Header) (items : List tree.Item) (ps : List Part) : Type 0 where
  pub pieces : parts_pieces source (items_around t totals s.entries) ps ≡ (scope_plain source (items_around t totals s.entries) header items (items_made t totals)).pieces
  pub fine : IsFineHeader (within t.env s.entries) header → AreFineItems source (items_around t totals s.entries) items (items_made t totals) → AreFineParts source (within t.env s.entries) ps

-- what is seen in the scope that was added
added_env : (old new : List Frame) (f : Frame) (t : Task) → new ≡ old ++ f ∷ [] → env_above (envs old) f.parent f.turn ≡ t.env → env_at (envs new) (Some (length old)) ≡ within t.env (complete t.env f.names)
added_env old new f t is around = ap (λ fs. env_at (envs fs) (Some (length old))) is ∙ env_new old f ∙ ap (λ (e : Env). within e (complete e f.names)) around

pub scope_opened : (source : tree.Source) (t : Task) (old new : Reading) (c : Counts) (l : Option Fault) (r : SurveyedScope) (header : tree.Header) (items : List tree.Item) (ps : List Part) (frame : Frame) → BlocksAreLower → IsOpening source t old c
    → totals_of c old.loops ≡ counted_task t (totals_so_far old) → l ≡ least (limit_faults the_limits t (totals_of c old.loops)) → l ≡ None
    → IsSurveyed source t (totals_of c old.loops) new.loops r → r.fault ≡ None → new.counts ≡ r.counts
    → design_so_far new ≡ design_with (design_so_far old) t (survey the_limits source t (totals_of c old.loops)) → IsIdle (draft new.builder)
    → new.frames.items ≡ old.frames.items ++ frame ∷ [] → frame.names ≡ r.names → env_above (envs old.frames.items) frame.parent frame.turn ≡ t.env
    → ((env : Env) → header_said env t.contents ≡ ports_said env header) → IsStatedHeader header → header_depth header ≤ depth_limit
    → items_of t.contents ≡ items → AreStated items → deepest item_depth items ≤ depth_limit → AreParts source t (totals_of c old.loops) (survey the_limits source t (totals_of c old.loops)) header items ps
    → IsOpened source t old new ps
scope_opened source t old new c l r header items ps frame lower o counts limits within_limits s none same made idle frames names around heads header_stated low are stated shallow parts =
    let v = survey the_limits source t (totals_of c old.loops) in
    let totals = ap (λ (k : Counts). totals_of k new.loops) same ∙ s.totals_is none in
    let seen : env_at (envs new.frames.items) (Some (length old.frames.items)) ≡ within t.env v.entries =
    added_env old.frames.items new.frames.items frame t frames around ∙ ap (within t.env) (ap (complete t.env) names ∙ s.names none) in
    let kept : KeepShapes new.frames.items =
    subst KeepShapes (sym frames)
    (kept_behind old.frames.items frame o.read.kept (subst (λ (e : Env). KeepsShapes e frame.names) (sym around) (subst (KeepsShapes t.env) (sym names) s.kept))) in
    opened_by source t (totals_of c old.loops) old new ps counts (record {
      limits = sym limits ∙ within_limits;
      fair = o.none;
      design = made;
      totals_is = totals;
      frame = frame;
      frames = frames;
      seen = seen;
      pieces = scope_pieces source t (totals_of c old.loops) v new.frames.items (length old.frames.items) header items ps o.of_parts o.none heads are o.read.frames seen parts.pieces;
      parts =
          parts.fine (scope_header source t (totals_of c old.loops) v header o.of_parts o.none heads header_stated low)
          (scope_fine source t (totals_of c old.loops) v r.made.items items lower o.of_parts o.none are s.made s.blocks stated shallow);
      read = scope_read (recounted old c) new t v frame o.read o.sound o.numbered o.is_well made idle totals (subst (λ (k : Counts). k.processes ≤ 2 ^ 16) (sym same) s.few) frames kept seen;
      later = ap (λ (k : Counts). k.start.top) same ∙ s.later;
    })
