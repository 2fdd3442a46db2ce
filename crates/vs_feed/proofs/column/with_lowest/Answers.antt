use Rattle.std.proofs.Common.{sym, ◌∙◌, w64}
use Rattle.std.proofs.lemmas.Nat.Bits.{bit_at_set_same, bit_at_set_other}
use Rattle.vs_feed.proofs.Packs.{lowest_bit}
use Rattle.vs_feed.proofs.column.with_lowest.Goals as goal

pub returns-then-word-eq1-clause-changed : goal.returns-then-word-eq1-clause-changed
returns-then-word-eq1-clause-changed c =
    bit_at_set_same w64 c.args.bits c.args.i c.requires.place ∙ sym (sym (lowest_bit c.args.word) ∙ c.if-word-eq1.true)

pub returns-then-word-eq1-clause-others : goal.returns-then-word-eq1-clause-others
returns-then-word-eq1-clause-others c = λ n ne. bit_at_set_other w64 c.args.bits c.args.i c.requires.place n ne
