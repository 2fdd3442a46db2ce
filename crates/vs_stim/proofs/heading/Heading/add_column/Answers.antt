use Rattle.std.proofs.Common.{◌≡◌, ◌∙◌, arith, get_or, length}
use Rattle.std.proofs.lemmas.List.{get_or_default}
use Rattle.vs_stim.specs.Header.{count_of}
use Rattle.vs_stim.proofs.Counted.{count_of-le, counts_push}
use Rattle.vs_stim.proofs.heading.Heading.add_column.Goals as goal

pub returns-clause-counts : goal.returns-clause-counts
returns-clause-counts c =
    let i = c.args.column.input in
    let was : c.index_mut.result.now ≡ get_or c.args.self.now.counts.items i 0 = c.index_mut.ensures.value ∙ get_or_default c.args.self.now.counts.items i c.index_mut.result.now 0 c.requires.known in
    rw (was, c.in_ok-push.ensures.items) (counts_push (length c.args.self.now.counts.items) c.args.self.now.counts.items c.args.self.now.columns.items c.args.column c.requires.counts c.requires.known)

pub overflow_add-index_mut : goal.overflow_add-index_mut
overflow_add-index_mut c =
    let i = c.args.column.input in
    let columns = c.args.self.now.columns in
    let was : c.index_mut.result.now ≡ count_of i columns.items =
    c.index_mut.ensures.value ∙ get_or_default c.args.self.now.counts.items i c.index_mut.result.now 0 c.requires.known ∙ c.requires.counts.each i c.requires.known in
    omega (arith, was, count_of-le i columns.items, columns.ok.0, columns.ok.1, columns.small)
