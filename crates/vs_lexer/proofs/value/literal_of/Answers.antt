use Rattle.std.proofs.Common.{not, sym, ◌∙◌, ap, arith}
use Rattle.vs_four.specs.Planes.{bits_of_planes}
use Rattle.vs_lexer.proofs.PlaneFacts.{small_value, short_string, bits_number, unsized_bits, unsized_is, unsized_signed, unsized_has, string_bits, string_is}
use Rattle.vs_lexer.proofs.value.literal_of.Goals as goal

pub string_literal-requires : goal.string_literal-requires
string_literal-requires c = short_string c.args.text.now (sym c.head_of.ensures.head ∙ c.in_default.is) (sym c.is_quoted.ensures ∙ c.if-is_quoted.true) c.requires

pub returns-then-is_quoted-clause-bits : goal.returns-then-is_quoted-clause-bits
returns-then-is_quoted-clause-bits c = c.string_literal.ensures.bits ∙ sym (string_bits c.args.text.now (sym c.head_of.ensures.head ∙ c.in_default.is) (sym c.is_quoted.ensures ∙ c.if-is_quoted.true))

pub returns-then-is_quoted-clause-size : goal.returns-then-is_quoted-clause-size
returns-then-is_quoted-clause-size c = c.string_literal.ensures.size ∙ sym (string_is c.args.text.now (sym c.head_of.ensures.head ∙ c.in_default.is) (sym c.is_quoted.ensures ∙ c.if-is_quoted.true))

pub returns-then-is_quoted-clause-signed : goal.returns-then-is_quoted-clause-signed
returns-then-is_quoted-clause-signed c = c.string_literal.ensures.signed ∙ sym (unsized_signed c.args.text.now (sym c.head_of.ensures.head ∙ c.in_default.is) ∙ ap not (sym c.is_quoted.ensures ∙ c.if-is_quoted.true))

pub returns-then-is_quoted-clause-sized : goal.returns-then-is_quoted-clause-sized
returns-then-is_quoted-clause-sized c = c.string_literal.ensures.sized ∙ sym (unsized_has c.args.text.now (sym c.head_of.ensures.head ∙ c.in_default.is) ∙ (sym c.is_quoted.ensures ∙ c.if-is_quoted.true))

pub unreachable-requires : goal.unreachable-requires
unreachable-requires c =
    let h = sym c.head_of.ensures.head ∙ c.in_default.is in
    let q = sym c.is_quoted.ensures ∙ c.if-is_quoted.false in
    let s = small_value c.args.text.now h q c.requires in
    let l = c.in-None.ensures.large in
    omega (arith, s, l)

pub returns-clause-bits : goal.returns-clause-bits
returns-clause-bits c =
    let h = sym c.head_of.ensures.head ∙ c.in_default.is in
    let q = sym c.is_quoted.ensures ∙ c.if-is_quoted.false in
    ap (λ v. bits_of_planes 32 v 0) c.in-Some-decimal_value.ensures.value ∙ bits_number 32 _ ∙ sym (unsized_bits c.args.text.now h q)

pub returns-clause-value : goal.returns-clause-value
returns-clause-value c =
    let h = sym c.head_of.ensures.head ∙ c.in_default.is in
    let q = sym c.is_quoted.ensures ∙ c.if-is_quoted.false in
    let s = small_value c.args.text.now h q c.requires in
    let e = c.in-Some-decimal_value.ensures.value in
    omega (arith, s, e)

pub returns-clause-size : goal.returns-clause-size
returns-clause-size c = sym (unsized_is c.args.text.now (sym c.head_of.ensures.head ∙ c.in_default.is) (sym c.is_quoted.ensures ∙ c.if-is_quoted.false))

pub returns-clause-signed : goal.returns-clause-signed
returns-clause-signed c = sym (unsized_signed c.args.text.now (sym c.head_of.ensures.head ∙ c.in_default.is) ∙ ap not (sym c.is_quoted.ensures ∙ c.if-is_quoted.false))

pub returns-clause-sized : goal.returns-clause-sized
returns-clause-sized c = sym (unsized_has c.args.text.now (sym c.head_of.ensures.head ∙ c.in_default.is) ∙ (sym c.is_quoted.ensures ∙ c.if-is_quoted.false))
