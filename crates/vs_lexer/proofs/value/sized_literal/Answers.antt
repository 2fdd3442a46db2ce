use Rattle.std.proofs.Common.{◌≡◌, ◌<◌, ◌++◌, ◌%◌, ◌^◌, List, ℕ, true, take, drop, replicate, get_or, subst, sym, ◌∙◌, ap, arith}
use Rattle.std.proofs.lemmas.List.{take_rest}
use Rattle.vs_four.specs.Planes.{bits_of_planes}
use Rattle.vs_lexer.specs.Literals.{digits_bits, fill_bit, fitted, decimal_value, is_decimal_number}
use Rattle.vs_lexer.proofs.PlaneFacts.{fitted_bits}
use Rattle.vs_lexer.proofs.SizedFacts.{size_of, based_of, has_head, sized_range, sized_value, sized_size, sized_bits, sized_signed, sized_has}
use Rattle.vs_lexer.proofs.value.sized_literal.Goals as goal

pub unreachable-requires : goal.unreachable-requires
unreachable-requires c = has_head c.args.text.now (based_of c.args.text.now c.requires.based c.requires.quote) (sym c.head_of.ensures.head ∙ c.in_default.is)

pub unreachable-requires-in_default-decimal_value : goal.unreachable-requires-in_default-decimal_value
unreachable-requires-in_default-decimal_value c =
    let s = c.args.size.now in
    let g = sized_range s c.args.text.now c.in-Some.head (size_of s c.requires.size) c.requires.quote (sym c.head_of.ensures.head ∙ c.in-Some.is) c.requires.in_range in
    let l = c.in_default-decimal_value.ensures.large in
    omega (arith, g.1, l)

pub overflow_cast-size : goal.overflow_cast-size
overflow_cast-size c =
    let s = c.args.size.now in
    let g = sized_range s c.args.text.now c.in-Some.head (size_of s c.requires.size) c.requires.quote (sym c.head_of.ensures.head ∙ c.in-Some.is) c.requires.in_range in
    let e = c.in-Some-decimal_value.ensures.value in
    omega (arith, g.1, e)

pub low_bits-requires : goal.low_bits-requires
low_bits-requires c =
    let s = c.args.size.now in
    let g = sized_range s c.args.text.now c.in-Some.head (size_of s c.requires.size) c.requires.quote (sym c.head_of.ensures.head ∙ c.in-Some.is) c.requires.in_range in
    let e = c.in-Some-decimal_value.ensures.value in
    omega (arith, g.1, e)

pub low_bits-requires-2 : goal.low_bits-requires-2
low_bits-requires-2 c =
    let s = c.args.size.now in
    let g = sized_range s c.args.text.now c.in-Some.head (size_of s c.requires.size) c.requires.quote (sym c.head_of.ensures.head ∙ c.in-Some.is) c.requires.in_range in
    let e = c.in-Some-decimal_value.ensures.value in
    omega (arith, g.1, e)

pub literal_planes-planes-requires : goal.literal_planes-planes-requires
literal_planes-planes-requires c =
    let s = c.args.size.now in
    let head = c.in-Some.head in
    subst (λ (r : List ℕ). is_decimal_number head.base r ≡ true → decimal_value r < 2 ^ 64) (sym (take_rest c.args.text.now head.digits))
    (sized_value s c.args.text.now head (size_of s c.requires.size) c.requires.quote (sym c.head_of.ensures.head ∙ c.in-Some.is) c.requires.in_range)

pub returns-clause-bits : goal.returns-clause-bits
returns-clause-bits c =
    let s = c.args.size.now in
    let text = c.args.text.now in
    let head = c.in-Some.head in
    let f = sym c.head_of.ensures.head ∙ c.in-Some.is in
    let size = c.in-Some-decimal_value.count in
    let v = c.literal_planes-planes.result.value in
    let u = c.literal_planes-planes.result.unknown in
    let fill = fill_bit (get_or (drop head.digits text) 0 0) in
    let e = c.in-Some-decimal_value.ensures.value in
    let g = sized_range s text head (size_of s c.requires.size) c.requires.quote f c.requires.in_range in
    let planes = subst (λ (r : List ℕ). bits_of_planes 64 v u ≡ take 64 (digits_bits head.base r ++ replicate 64 (fill_bit (get_or r 0 0)))) (take_rest text head.digits) c.literal_planes-planes.ensures in
    ap (λ a. bits_of_planes size a c.low_bits-2.result) c.low_bits.ensures ∙ ap (λ b. bits_of_planes size (v % 2 ^ size) b) c.low_bits-2.ensures
    ∙ fitted_bits size v u (digits_bits head.base (drop head.digits text)) fill (omega (arith, g.1, e)) planes
    ∙ ap (λ n. fitted n fill (digits_bits head.base (drop head.digits text))) e ∙ sym (sized_bits s text head (size_of s c.requires.size) c.requires.quote f)

pub returns-clause-size : goal.returns-clause-size
returns-clause-size c =
    let s = c.args.size.now in
    c.in-Some-decimal_value.ensures.value ∙ sym (sized_size s c.args.text.now c.in-Some.head (size_of s c.requires.size) c.requires.quote (sym c.head_of.ensures.head ∙ c.in-Some.is))

pub returns-clause-range : goal.returns-clause-range
returns-clause-range c =
    let s = c.args.size.now in
    let g = sized_range s c.args.text.now c.in-Some.head (size_of s c.requires.size) c.requires.quote (sym c.head_of.ensures.head ∙ c.in-Some.is) c.requires.in_range in
    let e = c.in-Some-decimal_value.ensures.value in
    (omega (arith, g.0, e), omega (arith, g.1, e))

pub returns-clause-signed : goal.returns-clause-signed
returns-clause-signed c =
    let s = c.args.size.now in
    sym (sized_signed s c.args.text.now c.in-Some.head (size_of s c.requires.size) c.requires.quote (sym c.head_of.ensures.head ∙ c.in-Some.is))

pub returns-clause-sized : goal.returns-clause-sized
returns-clause-sized c =
    let s = c.args.size.now in
    sym (sized_has s c.args.text.now c.in-Some.head (size_of s c.requires.size) c.requires.quote (sym c.head_of.ensures.head ∙ c.in-Some.is))
