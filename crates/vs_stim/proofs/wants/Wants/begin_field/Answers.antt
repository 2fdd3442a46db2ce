use Rattle.std.proofs.Common.{◌∷◌, drop, sym, ap, ◌∙◌}
use Rattle.vs_stim.specs.Fields.{words}
use Rattle.vs_stim.specs.Wants.{in_wanted, wanted_to_come}
use Rattle.vs_stim.proofs.Wanting.{begun, fields_begin}
use Rattle.vs_stim.proofs.wants.Wants.begin_field.Goals as goal

pub returns-clause-says : goal.returns-clause-says
returns-clause-says c = λ rest.
    let self = c.args.self.now in
    let left = drop self.column self.expected.items in
    let word = c.args.byte ∷ (words rest).word in
    c.feed_digit.ensures.says rest
    ∙ ap (λ high. in_wanted left high self.column self.values.items (record { word = word; later = (words rest).later })) c.clear.ensures
    ∙ begun left self.column self.values.items word (words rest).later
    ∙ ap (wanted_to_come left self.column self.values.items) (sym (fields_begin c.args.byte rest c.requires.no_blank))
