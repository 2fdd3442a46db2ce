use Rattle.std.proofs.Common.{◌≡◌, length, ap, sym, ◌∙◌, refl}
use Rattle.vs_stim.proofs.Sized.{sizes-set}
use Rattle.vs_stim.proofs.row.Row.end_field.Goals as goal

pub returns-then-len-column-clause-form : goal.returns-then-len-column-clause-form
returns-then-len-column-clause-form c =
    let long : length c.bits.result ≡ c.args.column.length = ap (λ v. length v) c.bits.ensures ∙ sym c.len.ensures.count ∙ c.if-len-column.true in
    record { columns = refl; expected = refl; wanted = refl; lengths = sizes-set c.args.self.now.values.items c.args.column c.bits.result c.requires.column long }

pub returns-then-len-column-clause-row : goal.returns-then-len-column-clause-row
returns-then-len-column-clause-row c =
    let long : length c.bits.result ≡ c.args.column.length = ap (λ v. length v) c.bits.ensures ∙ sym c.len.ensures.count ∙ c.if-len-column.true in
    record { each = rw (sizes-set c.args.self.now.values.items c.args.column c.bits.result c.requires.column long) c.requires.row.each; within = c.requires.row.within; at = tt; dash = tt; wants = c.requires.row.wants; behind = c.requires.unbegun }
