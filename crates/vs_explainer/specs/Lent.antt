-- What is seen of a file, as it is kept.
use Rattle.std.specs.Prelude.{drop, option_map}
use Rattle.vs_explanation.specs.Seen.{Seen}
use Rattle.vs_explainer.specs.declared.looks.View.{View}

abbrev pub seen_of : View → Seen
seen_of v = record { file = option_map (λ t. drop v.head t.items) v.text; starts = v.starts.items; head = v.head; drawn = v.drawing; heavy = option_map (λ t. t.items) v.heavy; ports = v.ports }
