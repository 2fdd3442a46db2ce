-- What the code keeps of the signals that an expression comes to.
use Rattle.std.specs.Prelude.{ℕ, Bool, List, map, Option, None}
use Rattle.vs_four.specs.declared.Range.{Range}
use Rattle.vs_const.specs.declared.mentions.Mention.{Mention as MentionOf}
use Rattle.vs_const.specs.declared.names.Role.{Role}
use Rattle.vs_const.specs.declared.names.SignalShape.{SignalShape}
use Rattle.vs_const.specs.Meanings.{SignalMeaning}
use Rattle.vs_const.specs.Mentions.{Mention, Way}

-- of a signal that is no memory: its number, its range, its sign, whose it is, whether its range is known, whether it is a net, and an input
pub record Kept : Type 0 where
  pub number : ℕ
  pub range : Option Range
  pub signed : Bool
  pub role : Role
  pub known : Bool
  pub net : Bool
  pub input : Bool
  pub words : Option Range

abbrev pub kept : SignalShape → Kept
kept s = record { number = s.number; range = s.range; signed = s.signed; role = s.role; known = s.known; net = s.net; input = s.input; words = None }

abbrev pub kept_of : SignalMeaning → Kept
kept_of t = record { number = t.signal.number; range = t.signal.range; signed = t.signal.signed; role = t.role; known = t.known; net = t.signal.net; input = t.input; words = t.signal.words }

-- and how it is come to
pub record Told : Type 0 where
  pub signal : Kept
  pub way : Way

abbrev pub told : MentionOf → Told
told m = record { signal = kept m.signal; way = m.way }

abbrev pub told_of : Mention → Told
told_of m = record { signal = kept_of m.meaning; way = m.way }

-- of several
abbrev pub all_told : List MentionOf → List Told
all_told ms = map told ms

abbrev pub all_told_of : List Mention → List Told
all_told_of ms = map told_of ms
