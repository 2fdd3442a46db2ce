use Rattle.std.proofs.Common.{◌++◌, List, ℕ, length, nat_lt, ap, ◌∙◌}
use Rattle.vs_design.specs.Footprints.{read_bits}
use Rattle.vs_shape.specs.Nodes.{tree_of}
use Rattle.vs_sets.proofs.Fit.{fits-from_fit}
use Rattle.vs_full.proofs.selector.reads_some.Goals as goal

pub push_reads-requires-clause-fits : goal.push_reads-requires-clause-fits
push_reads-requires-clause-fits c = fits-from_fit (tree_of c.args.shapes.now c.args.e) c.requires.fit

pub returns : goal.returns
returns c =
    let reads = read_bits (tree_of c.args.shapes.now c.args.e) in
    c.are_some.ensures
    ∙ ap (λ (bs : List ℕ). nat_lt 0 (length bs)) (c.as_slice.ensures.value ∙ c.in_ok-push_reads.ensures ∙ ap (λ (bs : List ℕ). bs ++ reads) c.new-bits.ensures.items)
