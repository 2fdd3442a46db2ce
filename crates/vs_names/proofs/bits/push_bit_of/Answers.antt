use Rattle.std.proofs.Common.{ℕ, ap}
use Rattle.vs_flat.specs.DesignOf.{design_of}
use Rattle.vs_flat.specs.Trees.{signal_of}
use Rattle.vs_names.specs.Names as spec
use Rattle.vs_names.proofs.Added.{then_ok, as_ok}
use Rattle.vs_names.proofs.bits.push_bit_of.Goals as goal

pub returns : goal.returns
returns c = λ n.
    let s = c.args.signal.now in
    then_ok c.push_place.result _ _ _ (spec.kind_text (signal_of n s)) _ (c.in_ok-push_kind.ensures n)
    (then_ok c.push_place.result _ _ _ (spec.signal_text (design_of c.args.flat.now) (signal_of n s)) _ (c.in_ok-push_name.ensures n)
    (as_ok c.push_place.result _ _ _ _ (ap (λ (k : ℕ). spec.place_text s.words s.range k) c.saturating_sub.ensures) c.push_place.ensures))
