use Rattle.std.proofs.Common.{◌≡◌, ◌≤◌, ◌*◌, None, if◌then◌else◌, length, sym, ap, ap₂, ◌∙◌, arith}
use Rattle.vs_four.specs.Logic.{all_known}
use Rattle.vs_four.specs.Numbers.{integer}
use Rattle.vs_four.specs.Selects.{place_of}
use Rattle.vs_design.specs.Expressions as E
use Rattle.vs_design.specs.Values.{address_place, constant_value}
use Rattle.vs_sets.specs.Nodes.{signal_of, tree_of}
use Rattle.vs_zero.proofs.Below.{word_below}
use Rattle.vs_zero.specs.States.{state_of}
use Rattle.vs_zero.proofs.Writing.{word_written}
use Rattle.vs_zero.proofs.targets.put_word.Goals as goal

pub put_word_at-requires : goal.put_word_at-requires
put_word_at-requires c = record {
  inside = λ n is.
      let s = signal_of c.args.shapes.now c.args.signal in
      let index = tree_of c.args.shapes.now c.args.index in
      let memory = c.memory_of-memory in
      let some : 1 ≤ E.word_length s = omega (arith, memory.ensures.few.0, memory.ensures.len) in
      let place : c.word_place-place.result ≡ address_place s (E.sign index) (constant_value index) =
      c.word_place-place.ensures.value
      ∙ ap₂ (λ g v. if all_known v then place_of memory.result.addresses (integer g v) else None) (ap (λ x. x.signed) c.shape-signed.ensures) c.constant_value.ensures.value
      ∙ ap (λ r. if all_known (constant_value index) then place_of r (integer (E.sign index) (constant_value index)) else None) memory.ensures.addresses
      in
      let ends = word_below (length c.args.state.now) s index c.requires.constant some c.requires.within n (sym place ∙ is) in
      let many : length c.args.value.now ≡ E.word_length s = c.requires.many in
      let offset : n * length c.args.value.now ≡ n * E.word_length s = ap (λ k. n * k) many in
      omega (arith, ends, many, offset, memory.ensures.first);
}

pub returns : goal.returns
returns c =
    let a = c.args.shapes.now in
    let memory = c.memory_of-memory in
    c.put_word_at.ensures
    ∙ word_written (signal_of a c.args.signal) (tree_of a c.args.index) memory.result.first memory.result.addresses c.shape-signed.result.signed c.constant_value.result c.args.value.now c.word_place-place.result (state_of c.args.state.now)
    memory.ensures.first memory.ensures.addresses (ap (λ s. s.signed) c.shape-signed.ensures) c.constant_value.ensures.value c.requires.many c.word_place-place.ensures.value
