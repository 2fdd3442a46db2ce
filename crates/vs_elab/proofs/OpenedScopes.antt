-- A scope that is read but for its parts: what the design has then, and what is known of it.
use Rattle.std.proofs.Common.{◌≡◌, ◌<◌, ◌≤◌, ◌^◌, ℕ, ◌+◌, Bool, true, false, List, [], ◌∷◌, ◌++◌, length, length-append, map, Option, Some, None, refl, sym, ap, ◌∙◌, subst, append_assoc, arith}
use Rattle.std.specs.Prelude.{sum_by}
use Rattle.std.proofs.lemmas.List.{append-nil}
use Rattle.std.proofs.lemmas.List.Sums.{sum_by-append}
use Rattle.vs_design.specs.Expressions as design
use Rattle.vs_design.specs.Expressions.{signal_length}
use Rattle.vs_design.specs.Statements.{Function}
use Rattle.vs_design.specs.Designs.{Scope, Process, Initial, Design, bit_count}
use Rattle.vs_design.specs.Elaborated.{is_signal}
use Rattle.vs_grammar.specs.Trees as tree
use Rattle.vs_grammar.specs.Shapes.{Each, OneOrMore, IsModule, IsShaped}
use Rattle.vs_const.specs.Faults.{least}
use Rattle.vs_elaborated.specs.Limits.{the_limits}
use Rattle.vs_elaborated.specs.Environments.{within}
use Rattle.vs_elaborated.specs.Pieces.{Task, is_instance}
use Rattle.vs_elaborated.specs.Surveys.{Totals, Survey, survey}
use Rattle.vs_elaborated.specs.Elaborated.{both_designs, counted, limit_faults}
use Rattle.vs_elaborated.specs.Numbers.{AreNumberedEntries, AreNumberedFrames, HasFunctions, ScopesAreNumbered, FunctionsAreCounted, MoreFunctionsStand}
use Rattle.vs_elaborated.specs.Sound.{AreSoundEntries, IsSoundTask, AreModules, AreCounted, FaultlessIsFair, SignalsAreCounted}
use Rattle.vs_build.specs.Drafts.{Draft, and_scope}
use Rattle.vs_build.specs.Growth.{draft}
use Rattle.vs_build.proofs.Wider.{IsWider, same_signals, more_signals}
use Rattle.vs_scope.specs.declared.frames.Frame.{Frame}
use Rattle.vs_scope.specs.declared.names.Signal.{Signal}
use Rattle.vs_scope.specs.declared.signals.Start.{Start}
use Rattle.vs_scope.specs.Frames.{KeepShapes, env_at, envs}
use Rattle.vs_scope.specs.Surveys.{SurveysAreOfParts}
use Rattle.vs_elab.specs.declared.pending.Part.{Part}
use Rattle.vs_elab.specs.declared.reading.Counts.{Counts}
use Rattle.vs_elab.specs.declared.reading.Reading.{Reading}
use Rattle.vs_elab.specs.Fine.{AreFineParts}
use Rattle.vs_elab.specs.Functions.{IsIdle, and_functions}
use Rattle.vs_elab.specs.Opening.{signal, Follow, and_signals}
use Rattle.vs_elab.specs.Pending.{parts_pieces, scope_around}
use Rattle.vs_elab.specs.Reading.{AreNumberedIn, AreSeen, IsRead, IsOpened, totals_so_far, design_so_far}
use Rattle.vs_elab.specs.Stacks.{scope_part}
use Rattle.vs_elab.proofs.FollowingSignals.{counted_follow}
use Rattle.vs_elab.proofs.FineScopes.{none_left}
use Rattle.vs_elab.proofs.NumberedNames.{frames_numbered, numbered_behind}
use Rattle.vs_elab.proofs.NewSignals.{IsBehind, signals_there, survey_behind}
use Rattle.vs_elab.proofs.WiderScopes.{frames_wider, task_wider, seen_more}

-- ---- counts

-- with other counts
abbrev pub recounted : Reading → Counts → Reading
recounted r c = record { builder = r.builder; frames = r.frames; counts = c; loops = r.loops }

pub counted_read : (r : Reading) (c : Counts) → c.start ≡ r.counts.start → c.instances ≤ 4096 → c.functions ≡ r.counts.functions → c.processes ≡ r.counts.processes → IsRead r → IsRead (recounted r c)
counted_read r c e few f p h = record {
  scopes = h.scopes ∙ ap (λ (s : Start). s.scope) (sym e);
  frames = h.frames ∙ ap (λ (s : Start). s.scope) (sym e);
  signals = h.signals ∙ ap (λ (s : Start). s.signal) (sym e);
  bits = h.bits ∙ ap (λ (s : Start). s.bit) (sym e);
  functions = h.functions ∙ sym f;
  idle = h.idle;
  few_bits = subst (λ (s : Start). s.bit ≤ 2 ^ 20) (sym e) h.few_bits;
  few_instances = few;
  few_processes = subst (λ n. n ≤ 2 ^ 16) (sym p) h.few_processes;
  kept = h.kept;
  seen = h.seen;
  numbered = h.numbered;
}

-- ---- the design with the scope

abbrev pub design_with : Design → Task → Survey → Design
design_with d t s = both_designs d (scope_part t s)

pub wider_by : (c d : Design) (ss : List design.Signal) → length c.scopes ≤ length d.scopes → d.signals ≡ c.signals ++ ss → IsWider c d
wider_by c d [] n e = same_signals c d n (e ∙ append-nil c.signals)
wider_by c d (s ∷ ss) n e = of (more_signals c m s (omega arith) refl) (wider_by m d ss n (e ∙ sym (append_assoc c.signals (s ∷ []) ss)))
  where
    m : Design
    m = record c { signals = c.signals ++ s ∷ [] }

    of : IsWider c m → IsWider m d → IsWider c d
    of a b = record { scopes = n; signals = λ x h. b.signals x (a.signals x h) }

pub wider_with : (d : Design) (t : Task) (s : Survey) → IsWider d (design_with d t s)
wider_with d t s = wider_by d (design_with d t s) s.signals (omega (arith, length-append d.scopes (scope_part t s).scopes)) refl

-- before its functions
abbrev pub mid_with : Design → Task → Survey → Design
mid_with d t s = record (design_with d t s) { functions = d.functions }

pub wider_mid : (d : Design) (t : Task) (s : Survey) → IsWider d (mid_with d t s)
wider_mid d t s = wider_by d (mid_with d t s) s.signals (omega (arith, length-append d.scopes (scope_part t s).scopes)) refl

abbrev a_scope : List ℕ → Option ℕ → Bool → Scope
a_scope name parent instance = record { name = name; parent = parent; instance = instance }

abbrev with_scope : Design → Survey → List Function → Scope → List Process → List Initial → Design
with_scope d s fs x ps is = record { scopes = d.scopes ++ x ∷ []; signals = d.signals ++ s.signals; processes = ps; initials = is; functions = fs }

-- a scope and then its signals
pub signals_added : (d e f : Draft) (x : Scope) (t : Task) (s : Survey) (ss : List Signal) → e ≡ and_scope d x → f ≡ and_signals e (map signal ss) → map signal ss ≡ s.signals
    → x.name ≡ t.name → x.parent ≡ t.parent → x.instance ≡ is_instance t.contents → f.design ≡ mid_with d.design t s
signals_added d e f x t s ss added signals same name parent instance =
    ap (λ (y : Draft). y.design) signals
    ∙ ap (λ (y : Draft). (and_signals y (map signal ss)).design) added
    ∙ ap (λ (ys : List design.Signal). (and_signals (and_scope d x) ys).design) same
    ∙ ap (λ (ps : List Process). with_scope d.design s d.design.functions x ps d.design.initials) (sym (append-nil d.design.processes))
    ∙ ap (with_scope d.design s d.design.functions x (d.design.processes ++ [])) (sym (append-nil d.design.initials))
    ∙ ap (λ n. with_scope d.design s d.design.functions (a_scope n x.parent x.instance) (d.design.processes ++ []) (d.design.initials ++ [])) name
    ∙ ap (λ p. with_scope d.design s d.design.functions (a_scope t.name p x.instance) (d.design.processes ++ []) (d.design.initials ++ [])) parent
    ∙ ap (λ i. with_scope d.design s d.design.functions (a_scope t.name t.parent i) (d.design.processes ++ []) (d.design.initials ++ [])) instance

-- and its functions
pub scope_added : (d f g : Draft) (t : Task) (s : Survey) (fs : List Function) → f.design ≡ mid_with d.design t s → g ≡ and_functions f fs → fs ≡ s.functions → g.design ≡ design_with d.design t s
scope_added d f g t s fs made functions same =
    ap (λ (y : Draft). y.design) functions
    ∙ ap (λ (y : Design). let z : Design = record y { functions = y.functions ++ fs } in z) made
    ∙ ap (λ (zs : List Function). let z : Design = record (mid_with d.design t s) { functions = d.design.functions ++ zs } in z) same

-- the signals come behind those of the design
pub signals_follow : (r : Reading) (e : Draft) (x : Scope) (s : Survey) (ss : List Signal) → IsRead r → e ≡ and_scope (draft r.builder) x
    → AreCounted (totals_so_far r).scopes (totals_so_far r).signals (totals_so_far r).bits s.signals → IsBehind (totals_so_far r) s → s.totals.bits ≤ 2 ^ 20 → map signal ss ≡ s.signals
    → Follow (length e.design.scopes) (length e.design.signals) (bit_count e.design) (map signal ss)
signals_follow r e x s ss h added counts behind few same =
    subst (λ (y : Draft). Follow (length y.design.scopes) (length y.design.signals) (bit_count y.design) (map signal ss)) (sym added)
    (subst (λ (ys : List design.Signal). Follow (length ((design_so_far r).scopes ++ x ∷ [])) (length (design_so_far r).signals) (bit_count (design_so_far r)) ys) (sym same)
    (subst (λ n. Follow (length ((design_so_far r).scopes ++ x ∷ [])) n (bit_count (design_so_far r)) s.signals) (sym h.signals)
    (subst (λ n. Follow (length ((design_so_far r).scopes ++ x ∷ [])) r.counts.start.signal n s.signals) (sym h.bits)
    (counted_follow (length ((design_so_far r).scopes ++ x ∷ [])) r.counts.start.scope r.counts.start.signal r.counts.start.bit s.signals counts
    (let a = length-append (design_so_far r).scopes (x ∷ []) in let b = h.scopes in omega (arith, a, b)) (let b = behind.bits in omega (arith, b, few))))))

-- ---- a scope without a fault

-- in this design its names are sound, and its bits are within the limit
pub record IsFairIn (d : Design) (totals : Totals) (s : Survey) : Type 0 where
  pub names : AreSoundEntries d false s.entries
  pub bits : totals.bits ≤ 2 ^ 20 → s.totals.bits ≤ 2 ^ 20

some_modules : (ms : List tree.Module) → OneOrMore IsModule ms → AreModules ms
some_modules [] h = tt
some_modules (m ∷ ms) h = h

pub fair_in : (source : tree.Source) (t : Task) (totals : Totals) (d : Design) → FaultlessIsFair → IsShaped source → IsSoundTask d t → totals.scopes < length d.scopes → Each (λ (x : design.Signal). is_signal d x ≡ true) (survey the_limits source t totals).signals
    → (survey the_limits source t totals).faults ≡ [] → IsFairIn d totals (survey the_limits source t totals)
fair_in source t totals d law shaped sound scopes there clean =
    let f = law d the_limits source t totals (some_modules source.modules shaped.modules) sound scopes there clean in
    record { names = f.names; bits = f.bits }

-- all its signals are in the design then
pub there_with : (r : Reading) (t : Task) (s : Survey) (d : Design) → d.signals ≡ (design_so_far r).signals ++ s.signals → IsRead r → AreCounted (totals_so_far r).scopes (totals_so_far r).signals (totals_so_far r).bits s.signals
    → Each (λ (x : design.Signal). is_signal d x ≡ true) s.signals
there_with r t s d e h c =
    signals_there d (design_so_far r).signals r.counts.start.scope r.counts.start.bit s.signals e
    (subst (λ n. AreCounted r.counts.start.scope n r.counts.start.bit s.signals) (sym h.signals) c)

-- what holds of a scope's survey, where what is read has its counts
pub record IsWell (r : Reading) (t : Task) (s : Survey) : Type 0 where
  pub counts : AreCounted (totals_so_far r).scopes (totals_so_far r).signals (totals_so_far r).bits s.signals
  pub behind : IsBehind (totals_so_far r) s
  pub mid : IsFairIn (mid_with (design_so_far r) t s) (totals_so_far r) s
  pub fair : IsFairIn (design_with (design_so_far r) t s) (totals_so_far r) s
  pub called : s.totals.functions ≡ (totals_so_far r).functions + length s.functions
  pub numbered : AreNumberedEntries (design_with (design_so_far r) t s) s.entries

module _ (source : tree.Source) (r : Reading) (t : Task) (h : IsRead r) (sound : IsSoundTask (design_so_far r) t) (shaped : IsShaped source) where
  abbrev own : Survey
  own = survey the_limits source t (totals_so_far r)

  one_scope_more : (d : Design) → d.scopes ≡ (design_so_far r).scopes ++ (scope_part t own).scopes → (totals_so_far r).scopes < length d.scopes
  one_scope_more d e =
      let a = ap (λ (xs : List Scope). length xs) e in
      let b = length-append (design_so_far r).scopes (scope_part t own).scopes in
      let c = h.scopes in
      omega (arith, a, b, c)

  fair_of : FaultlessIsFair → SignalsAreCounted → least own.faults ≡ None → (d : Design) → IsWider (design_so_far r) d → d.scopes ≡ (design_so_far r).scopes ++ (scope_part t own).scopes → d.signals ≡ (design_so_far r).signals ++ own.signals
      → IsFairIn d (totals_so_far r) own
  fair_of law counted none d w scopes signals =
      fair_in source t (totals_so_far r) d law shaped (task_wider (design_so_far r) d w t sound) (one_scope_more d scopes) (there_with r t own d signals h (counted the_limits source t (totals_so_far r))) (none_left own.faults none)

  numbered_of : ScopesAreNumbered → MoreFunctionsStand → AreNumberedFrames (design_so_far r) t.env.frames → AreNumberedEntries (design_with (design_so_far r) t own) own.entries
  numbered_of scopes more numbered =
      let d = design_so_far r in
      let e = design_with d t own in
      (scopes e the_limits source t (totals_so_far r) (frames_numbered d e own.functions refl t.env.frames numbered)
      (subst (λ (n : ℕ). HasFunctions e n own.functions) h.functions (more d e own.functions refl))).names

  pub well : FaultlessIsFair → SignalsAreCounted → SurveysAreOfParts → ScopesAreNumbered → MoreFunctionsStand → FunctionsAreCounted → AreNumberedFrames (design_so_far r) t.env.frames → least own.faults ≡ None → IsWell r t own
  well fair counted parts scopes more called numbered none =
      let d = design_so_far r in
      record {
        counts = counted the_limits source t (totals_so_far r);
        behind = survey_behind source t (totals_so_far r) own (parts source t (totals_so_far r));
        mid = fair_of fair counted none (mid_with d t own) (wider_mid d t own) refl refl;
        fair = fair_of fair counted none (design_with d t own) (wider_with d t own) refl refl;
        called = called the_limits source t (totals_so_far r);
        numbered = numbered_of scopes more numbered;
      }

-- what is read then
pub scope_read : (r new : Reading) (t : Task) (s : Survey) (f : Frame) → IsRead r → IsSoundTask (design_so_far r) t → AreNumberedFrames (design_so_far r) t.env.frames → IsWell r t s
    → design_so_far new ≡ design_with (design_so_far r) t s → IsIdle (draft new.builder) → totals_so_far new ≡ s.totals → new.counts.processes ≤ 2 ^ 16 → new.frames.items ≡ r.frames.items ++ f ∷ [] → KeepShapes new.frames.items
    → env_at (envs new.frames.items) (Some (length r.frames.items)) ≡ within t.env s.entries → IsRead new
scope_read r new t s f h sound around w made idle totals few frames kept seen =
    let d = design_so_far r in
    let behind = w.behind in
    let a = length-append d.scopes ((scope_part t s).scopes) in
    let b = length-append d.signals s.signals in
    let c = sum_by-append signal_length d.signals s.signals in
    let g = length-append r.frames.items (f ∷ []) in
    let k = length-append d.functions s.functions in
    let scopes : new.counts.start.scope ≡ r.counts.start.scope + 1 = ap (λ (x : Totals). x.scopes) totals ∙ behind.scopes in
    let signals : new.counts.start.signal ≡ r.counts.start.signal + length s.signals = ap (λ (x : Totals). x.signals) totals ∙ behind.signals in
    let bits : new.counts.start.bit ≡ r.counts.start.bit + sum_by signal_length s.signals = ap (λ (x : Totals). x.bits) totals ∙ behind.bits in
    let instances : new.counts.instances ≡ r.counts.instances = ap (λ (x : Totals). x.instances) totals ∙ behind.instances in
    let functions : new.counts.functions ≡ r.counts.functions + length s.functions = ap (λ (x : Totals). x.functions) totals ∙ w.called in
    let old_scopes = h.scopes in
    let old_frames = h.frames in
    let old_signals = h.signals in
    let old_bits = h.bits in
    let old_functions = h.functions in
    record {
      scopes = ap (λ (x : Design). length x.scopes) made ∙ (let e : length (design_with d t s).scopes ≡ new.counts.start.scope = omega (arith, a, scopes, old_scopes) in e);
      frames = ap (λ (xs : List Frame). length xs) frames ∙ (let e : length (r.frames.items ++ f ∷ []) ≡ new.counts.start.scope = omega (arith, g, scopes, old_frames) in e);
      signals = ap (λ (x : Design). length x.signals) made ∙ (let e : length (design_with d t s).signals ≡ new.counts.start.signal = omega (arith, b, signals, old_signals) in e);
      bits = ap bit_count made ∙ (let e : bit_count (design_with d t s) ≡ new.counts.start.bit = omega (arith, c, bits, old_bits) in e);
      functions = ap (λ (x : Design). length x.functions) made ∙ (let e : length (design_with d t s).functions ≡ new.counts.functions = omega (arith, k, functions, old_functions) in e);
      idle = idle;
      few_bits = subst (λ n. n ≤ 2 ^ 20) (ap (λ (x : Totals). x.bits) (sym totals)) (w.fair.bits h.few_bits);
      few_instances = subst (λ n. n ≤ 4096) (sym instances) h.few_instances;
      few_processes = few;
      kept = kept;
      seen =
          subst (λ (x : Design). AreSeen x new.frames.items) (sym made) (subst (λ (xs : List Frame). AreSeen (design_with d t s) xs) (sym frames)
          (seen_more d (design_with d t s) (wider_with d t s) r.frames.items f t.env s.entries (ap (λ (xs : List Frame). env_at (envs xs) (Some (length r.frames.items))) (sym frames) ∙ seen) h.seen
          (frames_wider d (design_with d t s) (wider_with d t s) false t.env.frames sound.frames) w.fair.names));
      numbered =
          subst (λ (x : Design). AreNumberedIn x new.frames.items) (sym made) (subst (λ (xs : List Frame). AreNumberedIn (design_with d t s) xs) (sym frames)
          (numbered_behind d (design_with d t s) s.functions refl r.frames.items f t.env s.entries (ap (λ (xs : List Frame). env_at (envs xs) (Some (length r.frames.items))) (sym frames) ∙ seen) h.numbered
          (frames_numbered d (design_with d t s) s.functions refl t.env.frames around) w.numbered));
    }

-- ---- a scope with a fault

-- ---- the whole

-- it is read but for its pieces, where its survey is this
pub record IsOpenedBy (source : tree.Source) (t : Task) (totals : Totals) (s : Survey) (old new : Reading) (ps : List Part) : Type 0 where
  pub limits : least (limit_faults the_limits t totals) ≡ None
  pub fair : least s.faults ≡ None
  pub design : design_so_far new ≡ design_with (design_so_far old) t s
  pub totals_is : totals_so_far new ≡ s.totals
  pub frame : Frame
  pub frames : new.frames.items ≡ old.frames.items ++ frame ∷ []
  pub seen : env_at (envs new.frames.items) (Some (length old.frames.items)) ≡ within t.env s.entries
  pub pieces : parts_pieces source (scope_around new.frames.items (length old.frames.items) t.depth) ps ≡ s.pieces
  pub parts : AreFineParts source (within t.env s.entries) ps
  pub read : IsRead new
  pub later : new.counts.start.top ≡ false

pub opened_by : (source : tree.Source) (t : Task) (totals : Totals) (old new : Reading) (ps : List Part) → totals ≡ counted t (totals_so_far old) → IsOpenedBy source t totals (survey the_limits source t totals) old new ps → IsOpened source t old new ps
opened_by source t totals old new ps e o =
    let h = subst (λ (x : Totals). IsOpenedBy source t x (survey the_limits source t x) old new ps) e o in
    record {
      limits = h.limits;
      fair = h.fair;
      design = h.design;
      totals_is = h.totals_is;
      frame = h.frame;
      frames = h.frames;
      seen = h.seen;
      pieces = h.pieces;
      parts = h.parts;
      read = h.read;
      later = h.later;
    }
