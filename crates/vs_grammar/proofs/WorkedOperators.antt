-- The worked groups of operators, by computation.
use Rattle.std.specs.Prelude.{codes, refl}
use Rattle.vs_lexer.specs.Cuts.{cut_text}
use Rattle.vs_lexer.specs.Spellings.{signs, keywords, left_out_words, system_names}
use Rattle.vs_lexer.specs.Tokens.{word_kind, system_kind, sign_kind}
use Rattle.vs_lexer.specs.Literals.{is_in_range, number_bits, literal_bits, literal_size, is_signed_literal, has_size}
use Rattle.vs_grammar.specs.Examples as ex
use Rattle.vs_grammar.proofs.Worked.{found}

rising : ex.IsGrouped (codes "a ? b : c || d && e | f ^ g & h == i < j << k + l * -m") (codes "[a?b:[c||[d&&[e|[f^[g&[h==[i<[j<<[k+[l*[-m]]]]]]]]]]]]")
unfolding is_in_range cut_text word_kind system_kind sign_kind signs keywords left_out_words system_names literal_bits is_signed_literal has_size literal_size number_bits
rising = let f = found (ex.assign_text (codes "a ? b : c || d && e | f ^ g & h == i < j << k + l * -m")) refl refl refl refl in record { source = f.source; spelled = f.spelled; grouped = refl }

falling : ex.IsGrouped (codes "-m * l + k << j < i == h & g ^ f | e && d || c ? b : a") (codes "[[[[[[[[[[[[-m]*l]+k]<<j]<i]==h]&g]^f]|e]&&d]||c]?b:a]")
unfolding is_in_range cut_text word_kind system_kind sign_kind signs keywords left_out_words system_names literal_bits is_signed_literal has_size literal_size number_bits
falling = let f = found (ex.assign_text (codes "-m * l + k << j < i == h & g ^ f | e && d || c ? b : a")) refl refl refl refl in record { source = f.source; spelled = f.spelled; grouped = refl }

unaries : ex.IsGrouped (codes "! ~ & a + | ~| b - ^ ~^ c * - + d") (codes "[[[![~[&a]]]+[|[~|b]]]-[[^[~^c]]*[-[+d]]]]")
unfolding is_in_range cut_text word_kind system_kind sign_kind signs keywords left_out_words system_names literal_bits is_signed_literal has_size literal_size number_bits
unaries = let f = found (ex.assign_text (codes "! ~ & a + | ~| b - ^ ~^ c * - + d")) refl refl refl refl in record { source = f.source; spelled = f.spelled; grouped = refl }

joined_unaries : ex.IsGrouped (codes "!~&a-^~^b") (codes "[[![~&a]]-[~^[^b]]]")
unfolding is_in_range cut_text word_kind system_kind sign_kind signs keywords left_out_words system_names literal_bits is_signed_literal has_size literal_size number_bits
joined_unaries = let f = found (ex.assign_text (codes "!~&a-^~^b")) refl refl refl refl in record { source = f.source; spelled = f.spelled; grouped = refl }

powers : ex.IsGrouped (codes "a ** -b ** c * d") (codes "[[[a**[-b]]**c]*d]")
unfolding is_in_range cut_text word_kind system_kind sign_kind signs keywords left_out_words system_names literal_bits is_signed_literal has_size literal_size number_bits
powers = let f = found (ex.assign_text (codes "a ** -b ** c * d")) refl refl refl refl in record { source = f.source; spelled = f.spelled; grouped = refl }

products : ex.IsGrouped (codes "a * b / c % d") (codes "[[[a*b]/c]%d]")
unfolding is_in_range cut_text word_kind system_kind sign_kind signs keywords left_out_words system_names literal_bits is_signed_literal has_size literal_size number_bits
products = let f = found (ex.assign_text (codes "a * b / c % d")) refl refl refl refl in record { source = f.source; spelled = f.spelled; grouped = refl }

sums : ex.IsGrouped (codes "a - b + c - d") (codes "[[[a-b]+c]-d]")
unfolding is_in_range cut_text word_kind system_kind sign_kind signs keywords left_out_words system_names literal_bits is_signed_literal has_size literal_size number_bits
sums = let f = found (ex.assign_text (codes "a - b + c - d")) refl refl refl refl in record { source = f.source; spelled = f.spelled; grouped = refl }

shifts : ex.IsGrouped (codes "a << b >> c <<< d >>> e") (codes "[[[[a<<b]>>c]<<<d]>>>e]")
unfolding is_in_range cut_text word_kind system_kind sign_kind signs keywords left_out_words system_names literal_bits is_signed_literal has_size literal_size number_bits
shifts = let f = found (ex.assign_text (codes "a << b >> c <<< d >>> e")) refl refl refl refl in record { source = f.source; spelled = f.spelled; grouped = refl }

relations : ex.IsGrouped (codes "a < b <= c > d >= e") (codes "[[[[a<b]<=c]>d]>=e]")
unfolding is_in_range cut_text word_kind system_kind sign_kind signs keywords left_out_words system_names literal_bits is_signed_literal has_size literal_size number_bits
relations = let f = found (ex.assign_text (codes "a < b <= c > d >= e")) refl refl refl refl in record { source = f.source; spelled = f.spelled; grouped = refl }

equalities : ex.IsGrouped (codes "a == b != c === d !== e") (codes "[[[[a==b]!=c]===d]!==e]")
unfolding is_in_range cut_text word_kind system_kind sign_kind signs keywords left_out_words system_names literal_bits is_signed_literal has_size literal_size number_bits
equalities = let f = found (ex.assign_text (codes "a == b != c === d !== e")) refl refl refl refl in record { source = f.source; spelled = f.spelled; grouped = refl }

ands : ex.IsGrouped (codes "a & b & c") (codes "[[a&b]&c]")
unfolding is_in_range cut_text word_kind system_kind sign_kind signs keywords left_out_words system_names literal_bits is_signed_literal has_size literal_size number_bits
ands = let f = found (ex.assign_text (codes "a & b & c")) refl refl refl refl in record { source = f.source; spelled = f.spelled; grouped = refl }

xors : ex.IsGrouped (codes "a ^ b ~^ c ^~ d") (codes "[[[a^b]~^c]~^d]")
unfolding is_in_range cut_text word_kind system_kind sign_kind signs keywords left_out_words system_names literal_bits is_signed_literal has_size literal_size number_bits
xors = let f = found (ex.assign_text (codes "a ^ b ~^ c ^~ d")) refl refl refl refl in record { source = f.source; spelled = f.spelled; grouped = refl }

ors : ex.IsGrouped (codes "a | b | c") (codes "[[a|b]|c]")
unfolding is_in_range cut_text word_kind system_kind sign_kind signs keywords left_out_words system_names literal_bits is_signed_literal has_size literal_size number_bits
ors = let f = found (ex.assign_text (codes "a | b | c")) refl refl refl refl in record { source = f.source; spelled = f.spelled; grouped = refl }

logical_ands : ex.IsGrouped (codes "a && b && c") (codes "[[a&&b]&&c]")
unfolding is_in_range cut_text word_kind system_kind sign_kind signs keywords left_out_words system_names literal_bits is_signed_literal has_size literal_size number_bits
logical_ands = let f = found (ex.assign_text (codes "a && b && c")) refl refl refl refl in record { source = f.source; spelled = f.spelled; grouped = refl }

logical_ors : ex.IsGrouped (codes "a || b || c") (codes "[[a||b]||c]")
unfolding is_in_range cut_text word_kind system_kind sign_kind signs keywords left_out_words system_names literal_bits is_signed_literal has_size literal_size number_bits
logical_ors = let f = found (ex.assign_text (codes "a || b || c")) refl refl refl refl in record { source = f.source; spelled = f.spelled; grouped = refl }

choices : ex.IsGrouped (codes "a ? b : c ? d : e") (codes "[a?b:[c?d:e]]")
unfolding is_in_range cut_text word_kind system_kind sign_kind signs keywords left_out_words system_names literal_bits is_signed_literal has_size literal_size number_bits
choices = let f = found (ex.assign_text (codes "a ? b : c ? d : e")) refl refl refl refl in record { source = f.source; spelled = f.spelled; grouped = refl }

choices_within : ex.IsGrouped (codes "a ? b ? c : d : e") (codes "[a?[b?c:d]:e]")
unfolding is_in_range cut_text word_kind system_kind sign_kind signs keywords left_out_words system_names literal_bits is_signed_literal has_size literal_size number_bits
choices_within = let f = found (ex.assign_text (codes "a ? b ? c : d : e")) refl refl refl refl in record { source = f.source; spelled = f.spelled; grouped = refl }

brackets : ex.IsGrouped (codes "a - (b - c)") (codes "[a-([b-c])]")
unfolding is_in_range cut_text word_kind system_kind sign_kind signs keywords left_out_words system_names literal_bits is_signed_literal has_size literal_size number_bits
brackets = let f = found (ex.assign_text (codes "a - (b - c)")) refl refl refl refl in record { source = f.source; spelled = f.spelled; grouped = refl }

primaries : ex.IsGrouped (codes "{a, {2{b, 8'h1}}, $signed(c[3:0]), $clog2(d[e])}") (codes "{a,{#{b,#}},$signed(c),$clog2(d)}")
unfolding is_in_range cut_text word_kind system_kind sign_kind signs keywords left_out_words system_names literal_bits is_signed_literal has_size literal_size number_bits
primaries = let f = found (ex.assign_text (codes "{a, {2{b, 8'h1}}, $signed(c[3:0]), $clog2(d[e])}")) refl refl refl refl in record { source = f.source; spelled = f.spelled; grouped = refl }

applications : ex.IsGrouped (codes "f(a) + g(b + c, {d})") (codes "[f(a)+g([b+c],{d})]")
unfolding is_in_range cut_text word_kind system_kind sign_kind signs keywords left_out_words system_names literal_bits is_signed_literal has_size literal_size number_bits
applications = let f = found (ex.assign_text (codes "f(a) + g(b + c, {d})")) refl refl refl refl in record { source = f.source; spelled = f.spelled; grouped = refl }

pub operators_are : ex.OperatorsAre
operators_are = record { rising = rising; falling = falling; unaries = unaries; joined_unaries = joined_unaries; powers = powers; products = products; sums = sums; shifts = shifts; relations = relations; equalities = equalities; ands = ands; xors = xors; ors = ors; logical_ands = logical_ands; logical_ors = logical_ors; choices = choices; choices_within = choices_within; brackets = brackets; primaries = primaries; applications = applications }
