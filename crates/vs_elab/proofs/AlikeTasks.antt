-- Instances of a module whose parameters are overridden alike are read alike.
use Rattle.std.proofs.Common.{◌≡◌, ℕ, suc, List, Option, Some, None, sym, ap, ◌∙◌, subst}
use Rattle.std.specs.Prelude.{Result, Ok, length}
use Rattle.vs_grammar.specs.Trees.{Module, Source}
use Rattle.vs_const.specs.declared.faults.Fault.{Fault}
use Rattle.vs_const.specs.Faults.{least}
use Rattle.vs_elaborated.specs.Limits.{the_limits}
use Rattle.vs_elaborated.specs.Environments.{Env, within}
use Rattle.vs_elaborated.specs.Parameters.{Override}
use Rattle.vs_elaborated.specs.Pieces.{OfModule, Task}
use Rattle.vs_elaborated.specs.Surveys.{Totals, Survey, survey}
use Rattle.vs_elaborated.specs.Elaborated.{both_designs, then_do, unless_fault, Read, read_pieces, counted, limit_faults, scope_design, read_scope}
use Rattle.vs_scope.specs.Frames.{env_at, envs}
use Rattle.vs_elab.specs.declared.pending.Part.{Part}
use Rattle.vs_elab.specs.declared.reading.Reading.{Reading}
use Rattle.vs_items.specs.Overriding.{AreAlike}
use Rattle.vs_elab.specs.Fine.{AreFineParts}
use Rattle.vs_elab.specs.Pending.{parts_pieces, scope_around}
use Rattle.vs_elab.specs.Reading.{FailsBy, IsOpened, design_so_far, totals_so_far}
use Rattle.vs_elab.specs.Stacks.{scope_part}
use Rattle.vs_elab.proofs.SameOverrides.{survey_alike}

-- an instance of a module, of which these override the parameters
abbrev pub instance_task : (name : List ℕ) (parent : Option ℕ) (m : Module) (depth place : ℕ) (env : Env) → List Override → Task
instance_task name parent m depth place env os = record { name = name; parent = parent; contents = OfModule m os; depth = depth; place = place; env = env }

module _ (source : Source) (name : List ℕ) (parent : Option ℕ) (m : Module) (depth place : ℕ) (env : Env) (os qs : List Override) (alike : AreAlike os qs) where
  abbrev task : List Override → Task
  task os = instance_task name parent m depth place env os

  abbrev of_survey : (left : ℕ) → Totals → Survey → Result Read Fault
  of_survey left t s =
      unless_fault (limit_faults the_limits (task os) (counted (task os) t)) λ u. unless_fault s.faults λ v.
      then_do (read_pieces the_limits (read_scope left the_limits source) s.pieces s.totals) λ r. Ok (record { entries = s.entries; design = scope_design (task os) s r.design; totals = r.totals })

  same_survey : (t : Totals) → survey the_limits source (task os) (counted (task os) t) ≡ survey the_limits source (task qs) (counted (task qs) t)
  same_survey t = survey_alike os qs alike the_limits source name parent m depth place env (counted (task os) t)

  -- the same is read
  read_alike : (left : ℕ) (t : Totals) → read_scope (suc left) the_limits source (task os) t ≡ read_scope (suc left) the_limits source (task qs) t
  read_alike left t = ap (of_survey left t) (same_survey t)

  pub fails_alike : (t : Totals) (f : Fault) → FailsBy source (task os) t f → FailsBy source (task qs) t f
  fails_alike t f h left = sym (read_alike left t) ∙ h left

  -- and opened
  pub opened_alike : (old new : Reading) (ps : List Part) → IsOpened source (task os) old new ps → IsOpened source (task qs) old new ps
  opened_alike old new ps o =
      let e = same_survey (totals_so_far old) in
      record {
        limits = o.limits;
        fair = subst (λ (s : Survey). least s.faults ≡ None) e o.fair;
        design = subst (λ (s : Survey). design_so_far new ≡ both_designs (design_so_far old) (scope_part (task os) s)) e o.design;
        totals_is = subst (λ (s : Survey). totals_so_far new ≡ s.totals) e o.totals_is;
        frame = o.frame;
        frames = o.frames;
        seen = subst (λ (s : Survey). env_at (envs new.frames.items) (Some (length old.frames.items)) ≡ within env s.entries) e o.seen;
        pieces = subst (λ (s : Survey). parts_pieces source (scope_around new.frames.items (length old.frames.items) depth) ps ≡ s.pieces) e o.pieces;
        parts = subst (λ (s : Survey). AreFineParts source (within env s.entries) ps) e o.parts;
        read = o.read;
        later = o.later;
      }
