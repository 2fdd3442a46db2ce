use Rattle.std.proofs.Common.{◌≡◌, ◌∙◌, List, true, sym, ap, subst, arith}
use Rattle.std.specs.List.{slice_range}
use Rattle.vs_code.specs.Kernels.{takes}
use Rattle.vs_code.specs.Calls.{Call, length_of}
use Rattle.vs_code.specs.Placed.{calls_at, lengths_at}
use Rattle.vs_code.specs.Kept.{AreCounted}
use Rattle.vs_code.proofs.Arena.{all_take_lengths, part_costs}
use Rattle.vs_code.proofs.Runs.{part_all, part_length}
use Rattle.vs_code.proofs.program.Program.length_of_part.Goals as goal

pub count_stores-requires-clause-lengths : goal.count_stores-requires-clause-lengths
count_stores-requires-clause-lengths c =
    let p = c.self.inside in
    let kept = subst (λ calls. AreCounted p.arena.items calls p.length p.slots) (sym c.as_slice.ensures.value) c.self.invariant in
    part_all (λ placed. takes placed.kernel (lengths_at placed) ≡ true) c.as_slice.result.now c.args.from c.args.to
    (all_take_lengths p.arena.items c.as_slice.result.now kept.within kept.calls)

pub count_stores-requires-clause-few : goal.count_stores-requires-clause-few
count_stores-requires-clause-few c =
    let p = c.self.inside in
    let kept = subst (λ calls. AreCounted p.arena.items calls p.length p.slots) (sym c.as_slice.ensures.value) c.self.invariant in
    omega (
      arith,
      part_costs p.arena.items c.as_slice.result.now c.args.from c.args.to kept.within,
      part_length (calls_at p.arena.items c.as_slice.result.now) c.args.from c.args.to,
      kept.length,
      kept.few_stores,
    )

pub returns-clause-exact : goal.returns-clause-exact
returns-clause-exact c =
    let p = c.self.inside in
    let kept = subst (λ calls. AreCounted p.arena.items calls p.length p.slots) (sym c.as_slice.ensures.value) c.self.invariant in
    c.count_stores.ensures ∙ part_costs p.arena.items c.as_slice.result.now c.args.from c.args.to kept.within
    ∙ ap (λ (calls : List Call). length_of (slice_range calls c.args.from c.args.to)) (ap (calls_at p.arena.items) c.as_slice.ensures.value ∙ c.self.view_is)

pub returns-clause-most : goal.returns-clause-most
returns-clause-most c =
    let p = c.self.inside in
    let kept = subst (λ calls. AreCounted p.arena.items calls p.length p.slots) (sym c.as_slice.ensures.value) c.self.invariant in
    omega (
      arith,
      c.count_stores.ensures,
      part_costs p.arena.items c.as_slice.result.now c.args.from c.args.to kept.within,
      part_length (calls_at p.arena.items c.as_slice.result.now) c.args.from c.args.to,
      kept.length,
      kept.few_stores,
    )
