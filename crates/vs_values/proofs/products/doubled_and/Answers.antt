use Rattle.std.proofs.Common.{◌∙◌, refl, arith}
use Rattle.vs_kern_arith.specs.declared.costs.Kernel.TheVariants as A
use Rattle.vs_code.specs.declared.kernels.AnyKernel.TheVariants.{Arith}
use Rattle.vs_four.specs.Shifts.{move_up}
use Rattle.vs_values.proofs.Summed.{can_add, call_at, moved_long, moved_below}
use Rattle.vs_values.proofs.products.doubled_and.Goals as goal

pub called-requires : goal.called-requires
called-requires c =
    let code = c.args.code.now in
    let a = c.args.a.now in
    let half = c.args.half.now in
    let room = c.requires.room in
    let can = can_add code a (move_up 0 1 half) a room (moved_long half ∙ c.requires.alike) refl (moved_below code.next half (omega (arith, room.constants)) c.requires.half) room.below in
    record {
      call = call_at code (Arith A.Add) (move_up 0 1 half) c.in_ok-doubled.doubled.items a c.in_ok-to_vec.field-0.items _ c.in_ok-doubled.ensures (c.in_ok-to_vec.ensures.items_if_clones_equal (λ x y h. h)) (moved_long half ∙ c.requires.alike) can.call;
    }
