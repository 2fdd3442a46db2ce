use Rattle.std.proofs.Common.{refl}
use Rattle.vs_kern_arith.specs.declared.costs.Kernel.TheVariants as A
use Rattle.vs_code.specs.declared.kernels.AnyKernel.TheVariants.{Arith}
use Rattle.vs_values.proofs.Summed.{can_sub, call_at}
use Rattle.vs_values.proofs.products.zero_if_known.Goals as goal

pub called-requires : goal.called-requires
called-requires c =
    let code = c.args.code.now in
    let a = c.args.a.now in
    record {
      call = call_at code (Arith A.Sub) a c.in_ok-to_vec.field-0.items a c.in_ok-to_vec-2.field-0.items _ (c.in_ok-to_vec.ensures.items_if_clones_equal (λ x y h. h)) (c.in_ok-to_vec-2.ensures.items_if_clones_equal (λ x y h. h)) refl (can_sub code a c.requires.room).call;
    }
