use Rattle.std.proofs.Common.{◌≡◌, ◌<◌, ◌++◌, ◌%◌, ◌^◌, List, ℕ, true, take, drop, replicate, get_or, subst, sym, ◌∙◌, ap}
use Rattle.std.proofs.lemmas.List.{take_rest}
use Rattle.vs_four.specs.Planes.{bits_of_planes}
use Rattle.vs_lexer.specs.Literals.{digits_bits, fill_bit, fitted, decimal_value, is_decimal_number}
use Rattle.vs_lexer.proofs.PlaneFacts.{based_bits, fitted_bits, signed_is, sized_is, good_value}
use Rattle.vs_lexer.proofs.value.based_literal.Goals as goal

pub literal_planes-planes-requires : goal.literal_planes-planes-requires
literal_planes-planes-requires c =
    let head = c.args.head.now in
    subst (λ (r : List ℕ). is_decimal_number head.base r ≡ true → decimal_value r < 2 ^ 64) (sym (take_rest c.args.text.now head.digits)) (good_value c.args.text.now head c.requires.head c.requires.in_range)

pub returns-clause-bits : goal.returns-clause-bits
returns-clause-bits c =
    let text = c.args.text.now in
    let head = c.args.head.now in
    let size = c.literal_size-size.result in
    let v = c.literal_planes-planes.result.value in
    let u = c.literal_planes-planes.result.unknown in
    let fill = fill_bit (get_or (drop head.digits text) 0 0) in
    let planes = subst (λ (r : List ℕ). bits_of_planes 64 v u ≡ take 64 (digits_bits head.base r ++ replicate 64 (fill_bit (get_or r 0 0)))) (take_rest text head.digits) c.literal_planes-planes.ensures in
    ap (λ a. bits_of_planes size a c.low_bits-2.result) c.low_bits.ensures ∙ ap (λ b. bits_of_planes size (v % 2 ^ size) b) c.low_bits-2.ensures
    ∙ fitted_bits size v u (digits_bits head.base (drop head.digits text)) fill c.literal_size-size.ensures.range.1 planes
    ∙ ap (λ n. fitted n fill (digits_bits head.base (drop head.digits text))) c.literal_size-size.ensures.value ∙ sym (based_bits text head c.requires.head)

pub returns-clause-signed : goal.returns-clause-signed
returns-clause-signed c = sym (signed_is c.args.text.now c.args.head.now c.requires.head)

pub returns-clause-sized : goal.returns-clause-sized
returns-clause-sized c = sym (sized_is c.args.text.now c.args.head.now c.requires.head)
