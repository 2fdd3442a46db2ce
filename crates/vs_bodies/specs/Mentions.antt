-- What names mean to a statement whose own declarations are no matter.
use Rattle.std.specs.Prelude.{List, map}
use Rattle.vs_const.specs.declared.rules.Rule.TheVariants.{LoopVariable}
use Rattle.vs_const.specs.Meanings.{SignalMeaning, Barred, Find}
use Rattle.vs_const.specs.Mentions.{Mention}
use Rattle.vs_bodies.specs.declared.layers.Layers.{Layers}
use Rattle.vs_bodies.specs.Layers.{within}

-- within these named blocks
abbrev pub names_at : Find → Layers → Find
names_at find layers = within (λ place. Barred LoopVariable) layers find

-- the signals that are come to
abbrev pub meanings : List Mention → List SignalMeaning
meanings ms = map (λ (m : Mention). m.meaning) ms
