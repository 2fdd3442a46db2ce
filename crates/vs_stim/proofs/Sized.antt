-- Values keep their lengths where each is replaced by one of its column's length.
use Rattle.std.proofs.Common.{◌≡◌, List, [], length, sym, ◌∙◌}
use Rattle.std.proofs.Math.ListN.{get_or-map}
use Rattle.std.proofs.Math.Seq.{map-set_same}
use Rattle.std.specs.Prelude.{slice_set}
use Rattle.vs_four.specs.declared.Bit4.{Bit4}
use Rattle.vs_stim.specs.declared.input.Column.{Column}
use Rattle.vs_stim.specs.Row.{Values, sizes, IsColumn}

pub sizes-set : (vs : Values) (c : Column) (v : List Bit4) → IsColumn (sizes vs) c → length v ≡ c.length → sizes (slice_set vs c.input v) ≡ sizes vs
sizes-set vs c v h e = map-set_same (λ w. length w) vs c.input v [] (e ∙ sym h.size ∙ get_or-map (λ w. length w) vs c.input [])
