use Rattle.std.proofs.Common.{◌≡◌, true, List, sym, subst}
use Rattle.std.specs.Prelude.{IfOk}
use Rattle.std.specs.List.{list_all}
use Rattle.vs_design.specs.Fits.{fits_process}
use Rattle.vs_flat.specs.Arena.{Arena}
use Rattle.vs_flat.specs.DesignOf.{design_of}
use Rattle.vs_reads.specs.Footprint.{Footprint, footprints_of}
use Rattle.vs_accept.proofs.judge.prints_of.Goals as goal

pub footprints-requires : goal.footprints-requires
footprints-requires c = record {
  fits = subst (λ (a : Arena). list_all fits_process (design_of a).processes ≡ true) (sym c.shapes.ensures)
      (c.fits_law.ensures.fits (design_of c.args.typed.now) c.flat-flat.ensures.lawful.design c.flat-flat.ensures.fits);
}

pub returns : goal.returns
returns c = subst (λ (a : Arena). IfOk c.footprints.result (λ (f : List Footprint). f ≡ footprints_of (design_of a))) c.shapes.ensures c.footprints.ensures
