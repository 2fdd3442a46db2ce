use Rattle.std.proofs.Common.{◌+◌, List, Option, ℕ, sym, ◌∙◌, subst, arith}
use Rattle.vs_flat.specs.DesignOf.{design_of}
use Rattle.vs_reads.proofs.Numbered.{process_there}
use Rattle.vs_full.specs.Roots.{AreCopiesBefore, IsCopyWithin}
use Rattle.vs_full.proofs.Copying.{copies_more}
use Rattle.vs_full.proofs.roots.note_process.Goals as goal

pub note_copy-requires : goal.note_copy-requires
note_copy-requires c = subst (λ n. IsCopyWithin n c.copied_in.result) (sym (c.requires.so_far.count ∙ (c.trees_law.ensures.counts c.args.flat.now).signals)) c.copied_in.ensures.within

pub returns : goal.returns
returns c =
    let a = c.args.flat.now in
    let d = design_of a in
    let x = process_there d.processes c.args.p (omega (arith, c.requires.there, (c.trees_law.ensures.counts a).processes)) in
    subst (λ (cs : List (Option ℕ)). AreCopiesBefore d (c.args.p + 1) cs) (sym c.note_copy.ensures)
    (copies_more a c.args.p x.0 c.args.copies.now c.copied_in.result x.1 c.copied_in.ensures.within (λ n inside. c.copied_in.ensures.copied x.0 x.1 n inside) c.requires.so_far)
