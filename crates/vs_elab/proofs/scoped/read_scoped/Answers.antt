use Rattle.std.proofs.Common.{◌≡◌, List, Some, length, map, sym, ap, ◌∙◌, subst}
use Rattle.std.proofs.lemmas.List.{length-map}
use Rattle.vs_ast.specs.Views as view
use Rattle.vs_const.specs.Faults.{least}
use Rattle.vs_const.specs.declared.faults.Fault.{Fault}
use Rattle.vs_elaborated.specs.Limits.{the_limits}
use Rattle.vs_elaborated.specs.NamedBlocks as spec
use Rattle.vs_elaborated.specs.Elaborated.{scoped_faults}
use Rattle.vs_scope.specs.declared.frames.Frame.{Frame}
use Rattle.vs_scope.specs.NamedBlocks.{named}
use Rattle.vs_elab.specs.Reading.{totals_so_far}
use Rattle.vs_elab.specs.Scoped.{AreMoreFrames, scoped_at}
use Rattle.vs_elab.proofs.OpenedSteps.{told_exit}
use Rattle.vs_elab.proofs.ScopedReads.{scoped_is_read}
use Rattle.vs_elab.proofs.scoped.read_scoped.Goals as goal

pub read_blocks-requires-clause-blocks : goal.read_blocks-requires-clause-blocks
read_blocks-requires-clause-blocks c = ap (map named) c.as_slice.ensures.value ∙ c.in_ok-blocks.ensures

pub returns-clause-read : goal.returns-clause-read
returns-clause-read c =
    let old = c.args.reading.now in
    let b = view.always_block c.args.block.now in
    let count : length c.as_slice.result.now ≡ length (spec.named_blocks b.statement) = sym (length-map c.as_slice.result.now named) ∙ ap (λ (bs : List spec.NamedBlock). length bs) (ap (map named) c.as_slice.ensures.value ∙ c.in_ok-blocks.ensures) in
    let many = c.len.ensures ∙ sym c.as_slice.ensures.len ∙ count in
    let more = subst (λ (fs : List Frame). AreMoreFrames fs c.push_frames.new.frames.items (length (spec.named_blocks b.statement))) c.read_blocks.ensures.frames
    (subst (AreMoreFrames c.read_blocks.new.reading.frames.items c.push_frames.new.frames.items) many c.in_ok-push_frames.ensures) in
    scoped_is_read old c.args.frame b c.requires.within c.requires.read c.requires.fine c.in_ok-start.ensures.fair _ c.in_ok-start.ensures.built c.in_ok-start.ensures.next more c.in_ok-start.ensures.top c.named_law.ensures.few

pub returns-in_err-start-clause-broken : goal.returns-in_err-start-clause-broken
returns-in_err-start-clause-broken c =
    let old = c.args.reading.now in
    told_exit (λ (f : Fault). least (scoped_faults the_limits (scoped_at old.frames.items c.args.frame c.args.block.now) (totals_so_far old)) ≡ Some f) c.from_residual-in_err-start.result c.in_err-start.field-0.0 c.from_residual-in_err-start.ensures.1 c.in_err-start.ensures.broken
