-- The calls of one more process.
use Rattle.std.proofs.Common.{◌≡◌, ℕ, ◌+◌, ◌^◌, ◌<◌, ◌≤◌, List, [], ◌∷◌, ◌++◌, length, get_or, take, Option, Some, None, sym, ap, ◌∙◌, subst, arith, length-append, slice_get}
use Rattle.std.specs.Prelude.{sum_by}
use Rattle.std.specs.List.{All}
use Rattle.std.proofs.lemmas.List.{take_more, take_all}
use Rattle.std.proofs.lemmas.List.Concat.{flat_map-append}
use Rattle.std.proofs.lemmas.List.Elements.{All-append, All-weaker}
use Rattle.std.proofs.lemmas.List.Sums.{sum_by-append, sum_by-take-le, sum_by_push}
use Rattle.vs_net.specs.Network.{Sleeper}
use Rattle.vs_design.specs.Designs.{Process, Design}
use Rattle.vs_design.specs.Sizes.{process_weight}
use Rattle.vs_design.specs.Sleepers.{sleeper_of}
use Rattle.vs_code.specs.Calls.{Call, call_cost, call_slots, length_of, slots_of}
use Rattle.vs_program.specs.declared.compiled.Run.{Run}
use Rattle.vs_program.specs.Lowered.{Layout}
use Rattle.vs_program.specs.Layouts.{mask_of, slots_of_design}
use Rattle.vs_program.specs.Phases.{calls_of_run}
use Rattle.vs_program.specs.Program.{AreIn}
use Rattle.vs_program.specs.Made.{IsLoweredAs, IsLoweredAt, IsResetAt, AreResetsOf, ResetsGrow, StoresAreFew}
use Rattle.vs_assemble.specs.Plans.{HasRoom, may_store, may_store_or}
use Rattle.vs_assemble.specs.Runs.{AreRunsOf}
use Rattle.vs_assemble.proofs.Slices.{part_of_second}
use Rattle.vs_assemble.proofs.Running.{runs_push, runs_grown}

sum_next : (d : Design) (ps : List ℕ) (n : ℕ) → n < length ps → sum_by (may_store d) (take (n + 1) ps) ≡ sum_by (may_store d) (take n ps) + may_store d (get_or ps n 0)
sum_next d ps n l = ap (sum_by (may_store d)) (take_more ps n 0 l) ∙ sum_by_push (may_store d) (take n ps) (get_or ps n 0)

pub room_after : (d : Design) (ps : List ℕ) (n so_far more : ℕ) → n < length ps → so_far ≤ more + sum_by (may_store d) (take n ps) → more + sum_by (may_store d) ps ≤ 2 ^ 32 → so_far + may_store d (get_or ps n 0) ≤ 2 ^ 32
room_after d ps n so_far more l few most = omega (arith, few, most, sum_next d ps n l, sum_by-take-le (may_store d) ps (n + 1))

pub all_few : (d : Design) (ps : List ℕ) (n so_far more : ℕ) → so_far ≤ more + sum_by (may_store d) (take n ps) → so_far ≤ more + sum_by (may_store d) ps
all_few d ps n so_far more h = omega (arith, h, sum_by-take-le (may_store d) ps n)

pub all_runs : (d : Design) (l : Layout) (calls : List Call) (ps : List ℕ) (n : ℕ) (rs : List Run) → length ps ≤ n → AreRunsOf d l calls (take n ps) rs → AreRunsOf d l calls ps rs
all_runs d l calls ps n rs past h = subst (λ (xs : List ℕ). AreRunsOf d l calls xs rs) (take_all n ps past) h

pub all_resets : (d : Design) (clocks : List ℕ) (l : Layout) (ps : List ℕ) (n : ℕ) (calls : List Call) → length ps ≤ n → AreResetsOf d clocks l (take n ps) calls → AreResetsOf d clocks l ps calls
all_resets d clocks l ps n calls past h = subst (λ xs. AreResetsOf d clocks l xs calls) (take_all n ps past) h

-- the slots that a process's calls name
lowered_slots : (l : Layout) (mask : ℕ) (o : Option Sleeper) (x : Process) (calls : List Call) → IsLoweredAs l mask o x calls → All (λ slot. slot < l.first_temp + process_weight x) (slots_of calls)
lowered_slots l mask None x calls h = h.slots
lowered_slots l mask (Some s) x calls h = h.slots

-- calls after calls name no more slots than both
pub both_in : (count : ℕ) (first rest : List Call) → AreIn count first → AreIn count rest → AreIn count (first ++ rest)
both_in count first rest f r =
    subst (All (λ slot. slot < count)) (sym (flat_map-append call_slots first rest)) (All-append (λ slot. slot < count) (slots_of first) (slots_of rest) f r)

few_in : (d : Design) (l : Layout) (p : ℕ) (x : Process) (calls : List Call) → HasRoom d l → slice_get d.processes p ≡ Some x
    → All (λ slot. slot < l.first_temp + process_weight x) (slots_of calls) → AreIn (slots_of_design d) calls
few_in d l p x calls room is h =
    let enough = room.room p x is in
    All-weaker (λ slot. slot < l.first_temp + process_weight x) (λ slot. slot < slots_of_design d) (λ slot k. omega (arith, k, enough)) (slots_of calls) h

pub record OneMore (d : Design) (l : Layout) (start : List Call) (ps : List ℕ) (n : ℕ) (old new : List Call) (rs : List Run) : Type 0 where
  pub runs : AreRunsOf d l new (take (n + 1) ps) rs
  pub few : length_of new ≤ length_of start + sum_by (may_store d) (take (n + 1) ps)
  pub slots : AreIn (slots_of_design d) old → AreIn (slots_of_design d) new

pub one_more : StoresAreFew → (d : Design) (l : Layout) → HasRoom d l → (start : List Call) (ps : List ℕ) (n : ℕ) (old new more : List Call) (rs : List Run) → n < length ps
    → AreRunsOf d l old (take n ps) rs → length_of old ≤ length_of start + sum_by (may_store d) (take n ps) → new ≡ old ++ more → IsLoweredAt d l (get_or ps n 0) more
    → OneMore d l start ps n old new (rs ++ (record { from = length old; to = length new }) ∷ [])
one_more law d l room start ps n old new more rs lt runs few is low =
    let p : ℕ = get_or ps n 0 in
    let stores : length_of more ≤ may_store d p = subst (λ o. length_of more ≤ may_store_or d o) (sym low.1) (law d l (mask_of d p) low.0 more low.2) in
    let sum : length_of new ≡ length_of old + length_of more = ap length_of is ∙ sum_by-append call_cost old more in
    let long : length new ≡ length (old ++ more) = ap length is in
    let both = length-append old more in
    let run : Run = record { from = length old; to = length new } in
    let its : calls_of_run new run ≡ more =
    ap (λ (cs : List Call). calls_of_run cs (record { from = length old; to = length cs })) is ∙ part_of_second old more in
    let earlier : AreRunsOf d l new (take n ps) rs = subst (λ (cs : List Call). AreRunsOf d l cs (take n ps) rs) (sym is) (runs_grown d l old more (take n ps) rs runs) in
    record {
      runs = subst (λ (xs : List ℕ). AreRunsOf d l new xs (rs ++ run ∷ [])) (sym (take_more ps n 0 lt))
          (runs_push d l new (take n ps) rs p run earlier
          (record { within = record { order = omega (arith, long, both); there = omega arith }; lowered = subst (λ (cs : List Call). IsLoweredAt d l p cs) (sym its) low }));
      few = omega (arith, few, stores, sum, sum_next d ps n lt);
      slots = λ h. subst (AreIn (slots_of_design d)) (sym is) (both_in (slots_of_design d) old more h (few_in d l p low.0 more room low.1 (lowered_slots l (mask_of d p) (sleeper_of d (Some low.0)) low.0 more low.2)));
    }

-- the same of resets
pub record OneReset (d : Design) (clocks : List ℕ) (l : Layout) (ps : List ℕ) (n : ℕ) (calls : List Call) : Type 0 where
  pub calls_are : AreResetsOf d clocks l (take (n + 1) ps) calls
  pub few : length_of calls ≤ sum_by (may_store d) (take (n + 1) ps)
  pub slots : AreIn (slots_of_design d) calls

pub one_reset : ResetsGrow → (d : Design) (clocks : List ℕ) (l : Layout) → HasRoom d l → (ps : List ℕ) (n : ℕ) (old new more : List Call) → n < length ps
    → AreResetsOf d clocks l (take n ps) old → length_of old ≤ sum_by (may_store d) (take n ps) → AreIn (slots_of_design d) old
    → new ≡ old ++ more → IsResetAt d clocks l (get_or ps n 0) more → OneReset d clocks l ps n new
one_reset grow d clocks l room ps n old new more lt are few slots is low =
    let p : ℕ = get_or ps n 0 in
    let next : AreResetsOf d clocks l (take n ps ++ p ∷ []) (old ++ more) = grow d clocks l (take n ps) p old more are low in
    let own = low.2.stores in
    let stores : length_of more ≤ may_store d p = subst (λ o. length_of more ≤ may_store_or d o) (sym low.1) (omega (arith, own)) in
    let sum : length_of new ≡ length_of old + length_of more = ap length_of is ∙ sum_by-append call_cost old more in
    record {
      calls_are = subst (λ xs. AreResetsOf d clocks l xs new) (sym (take_more ps n 0 lt)) (subst (λ (cs : List Call). AreResetsOf d clocks l (take n ps ++ p ∷ []) cs) (sym is) next);
      few = omega (arith, few, stores, sum, sum_next d ps n lt);
      slots = subst (AreIn (slots_of_design d)) (sym is) (both_in (slots_of_design d) old more slots (few_in d l p low.0 more room low.1 low.2.slots));
    }
