-- What was seen again of the file that an answer is about.
use Rattle.std.specs.Prelude.{ℕ, List, Option, option_map}
use Rattle.vs_names.specs.Drawn.{Drawn}
use Rattle.vs_stim.specs.Header.{PortLists}
use Rattle.vs_explanation.specs.declared.heavy.Heavy.{Heavy}
use Rattle.vs_explanation.specs.declared.seen.Seen.{Seen as Lent}

-- the bytes of the file, without the lines of macros before it, or None where it couldn't be read, and of a design all of its files; the bytes at which its further files begin there; how many bytes these lines have; and the design that
-- they and the file elaborate to, with the tokens of the text, or None where they elaborate to none; and of a design that is too large its heaviest processes, or None where none was weighed;
-- and the ports that stimuli name of the design of a stimulus, or None where none were seen
pub record Seen : Type 0 where
  pub file : Option (List ℕ)
  pub starts : List ℕ
  pub head : ℕ
  pub drawn : Option Drawn
  pub heavy : Option (List Heavy)
  pub ports : Option PortLists

abbrev pub seen_of : Lent → Seen
seen_of s = record {
  file = option_map (λ t. t.now) s.file;
  starts = s.starts.now;
  head = s.head;
  drawn = option_map (λ d. d.now) s.drawing;
  heavy = option_map (λ t. t.now) s.heavy;
  ports = option_map (λ p. p.now) s.ports;
}
