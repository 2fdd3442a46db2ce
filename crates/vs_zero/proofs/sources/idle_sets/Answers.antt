use Rattle.std.proofs.Common.{List, length, drop, sym, ap, ap₂, ◌∙◌}
use Rattle.vs_design.specs.Sets.{Set4}
use Rattle.vs_flat.specs.DesignOf.{design_of}
use Rattle.vs_sets.specs.Branches.{replaced}
use Rattle.vs_sets.specs.Tables.{family_of}
use Rattle.vs_zero.specs.declared.sources.SignalKind.TheVariants.{Net}
use Rattle.vs_zero.specs.Sources.{bits_of_kind}
use Rattle.vs_zero.proofs.Sourcing.{nets_filled, seam}
use Rattle.vs_zero.proofs.sources.idle_sets.Goals as goal

pub returns-clause-sets : goal.returns-clause-sets
returns-clause-sets c =
    let d = design_of c.args.shapes.now in
    ap family_of (seam c.in_ok-table.table.len c.fill_kind.new.table (drop (length c.fill_kind.new.table) c.in_ok-table.table.items) (sym (c.fill_kind.auto.table ∙ c.as_mut_slice.ensures.len)))
    ∙ c.fill_kind.ensures ∙ ap₂ (λ (s : Set4) (t : List Set4). replaced (bits_of_kind Net d) (λ b. s) (family_of t)) c.only-2.ensures c.as_mut_slice.ensures.value
    ∙ nets_filled d c.in_ok-table.table.items (λ b h. c.in_ok-table.ensures.sets b h ∙ c.only.ensures)
