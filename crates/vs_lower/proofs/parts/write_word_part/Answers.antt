use Rattle.std.proofs.Common.{◌∙◌, sym, true≢false}
use Rattle.vs_lower.proofs.parts.write_word_part.Goals as goal

pub write_in_word-requires : goal.write_in_word-requires
write_in_word-requires c = record { ready = c.requires; fixed = c.are_constant.ensures.0 c.if-are_constant.true }

pub write_columns-requires : goal.write_columns-requires
write_columns-requires c = record { ready = c.requires; variable = λ h. true≢false (sym (c.are_constant.ensures.1 h) ∙ c.if-are_constant.false); fixed = c.are_constant-2.ensures.0 c.if-are_constant-2.true }

pub write_changed-requires : goal.write_changed-requires
write_changed-requires c = record {
  ready = c.requires;
  variable = λ h. true≢false (sym (c.are_constant.ensures.1 h) ∙ c.if-are_constant.false);
  index_variable = λ h. true≢false (sym (c.are_constant-2.ensures.1 h) ∙ c.if-are_constant-2.false);
}
