use Rattle.std.proofs.Common.{◌≡◌, length, ◌∙◌, subst, arith}
use Rattle.vs_stim.specs.declared.row.Spot.{Spot}
use Rattle.vs_stim.specs.Row.{AreBehind, entry_in}
use Rattle.vs_stim.proofs.Endings.{kind_dash, kind_open}
use Rattle.vs_stim.proofs.row.Row.kind.Goals as goal

pub returns-in-Dash : goal.returns-in-Dash
returns-in-Dash c =
    let row = c.args.self.now in
    kind_dash row c.kind_of.result c.is_whole.result (record { kind_says = c.kind_of.ensures (entry_in row); whole_says = c.is_whole.ensures }) c.in-Dash.is
    (subst (λ (s : Spot). AreBehind s row.wants) c.in-Dash.is c.requires.row.behind)

pub returns-else-self-len : goal.returns-else-self-len
returns-else-self-len c =
    let row = c.args.self.now in
    let within = c.requires.row.within in
    let other = c.if-self-len.false in
    let many : c.len.result ≡ length row.columns.items = c.len.ensures ∙ row.columns.ok.0 in
    kind_open row c.in-Gap.is (omega (arith, within, other, many))
