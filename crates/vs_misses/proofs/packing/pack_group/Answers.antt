use Rattle.std.proofs.Common.{ℕ, ◌+◌, ◌*◌, length, slice_index, sym, ap, ap₂, ◌∙◌, subst}
use Rattle.std.proofs.lemmas.Nat.Bits.{bit_at-zero}
use Rattle.std.specs.Int.{bit_at}
use Rattle.vs_four.specs.Logic.{map2}
use Rattle.vs_four.specs.Planes.{bits_of_planes}
use Rattle.vs_stim.specs.Wanted.{marked}
use Rattle.vs_feed.specs.Lanes.{lane_at}
use Rattle.vs_misses.specs.Rows.{wanted_in, digit_of, HaveDigits}
use Rattle.vs_misses.proofs.Packs.{one_filled, digits_packed}
use Rattle.vs_misses.proofs.packing.pack_group.Goals as goal

pub returns-then-wanted-eq1-clause-packed : goal.returns-then-wanted-eq1-clause-packed
returns-then-wanted-eq1-clause-packed g c = λ i below.
    let count : ℕ = length c.args.wanted.now in
    let one = c.if-wanted-eq1.true in
    let bits = c.bits_of-value.result in
    let lane : ℕ = 64 * c.args.k + i in
    digits_packed g.W.Word.lane c.fill.new.pairs c.fill-then-wanted-eq1.new.pairs lane count (bit_at bits.0 i) (bit_at bits.1 i) (bit_at bits.2 i)
    (c.fill.ensures.filled i below ∙ one_filled count i bits.0 bits.1 one)
    (c.fill-then-wanted-eq1.ensures.filled i below ∙ one_filled (length c.args.free.now) i bits.2 0 (c.requires.both ∙ one)
    ∙ ap₂ (λ n u. bits_of_planes n (bit_at bits.2 i) u) c.requires.both (bit_at-zero i))
    ∙ ap (λ n. marked (bits_of_planes n (bit_at bits.0 i) (bit_at bits.1 i)) (bit_at bits.2 i)) one
    ∙ c.bits_of-value.ensures i (subst (λ (n : ℕ). HaveDigits n c.args.places.now c.args.drive.now) one c.requires.digits) below
    ∙ ap (λ (n : ℕ). wanted_in n c.args.places.now (lane_at c.args.drive.now lane) lane) (sym one)

pub returns-then-wanted-eq1-clause-others : goal.returns-then-wanted-eq1-clause-others
returns-then-wanted-eq1-clause-others g c = λ n below ne. ap₂ (map2 digit_of) (c.fill.ensures.others n below ne) (c.fill-then-wanted-eq1.ensures.others n below ne)

pub returns-else-wanted-eq1-clause-packed : goal.returns-else-wanted-eq1-clause-packed
returns-else-wanted-eq1-clause-packed g c = λ i below.
    let count : ℕ = length c.args.wanted.now in
    let group = c.group_of-group.result in
    let any : ℕ = slice_index group.any i in
    digits_packed g.W.Word.lane c.pack.new.pairs c.pack_any.new.free (64 * c.args.k + i) count (slice_index group.digits.value i) (slice_index group.digits.unknown i) any
    (c.pack.ensures.packed i below) (c.pack_any.ensures.packed i below ∙ ap (λ n. bits_of_planes n any 0) c.requires.both)
    ∙ c.group_of-group.ensures count i c.requires.most c.requires.digits below

pub returns-else-wanted-eq1-clause-others : goal.returns-else-wanted-eq1-clause-others
returns-else-wanted-eq1-clause-others g c = λ n below ne. ap₂ (map2 digit_of) (c.pack.ensures.others n below ne) (c.pack_any.ensures.others n below ne)
