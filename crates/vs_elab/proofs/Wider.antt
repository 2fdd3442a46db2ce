-- What can be built over a design can be built over one that has its signals too.
use Rattle.std.proofs.Common.{◌≡◌, ◌++◌, Bool, true, false, List}
use Rattle.vs_design.specs.Expressions.{Signal}
use Rattle.vs_design.specs.Designs.{Design}
use Rattle.vs_design.specs.Elaborated.{inside}
use Rattle.vs_grammar.specs.Trees as tree
use Rattle.vs_design.specs.Statements.{Function}
use Rattle.vs_const.specs.Meanings.{SignalMeaning, FunctionMeaning, Meaning, AValue, Undefined, ASignal, AMemory, AFunction, Incomplete, Another, Barred, Unknown, Find}
use Rattle.vs_const.specs.Selects.{array_net}
use Rattle.vs_const.specs.Sound.{HasAllWords, IsSoundSignal, IsSoundMemory, IsSoundFunction, IsSound, AreSound}
use Rattle.vs_elaborated.specs.Environments.{Entry}
use Rattle.vs_build.specs.Buildable.{IsBuildable}
use Rattle.vs_build.specs.Outputs.{IsOutput}
use Rattle.vs_build.proofs.Sounder.{signals_wider}
use Rattle.vs_build.proofs.Wider.{IsWider, plain_wider, words_wider, header_wider, inside_wider, statement_wider}
use Rattle.vs_items.specs.declared.connections.Connection.{Connection}
use Rattle.vs_elab.specs.Wiring.{IsWirable}
use Rattle.vs_elab.proofs.NumberedNames.{names_numbered}

signal_wider : (c d : Design) → IsWider c d → (needed : Bool) (s : SignalMeaning) → IsSoundSignal c needed s → IsSoundSignal d needed s
signal_wider c d w true s h = h
signal_wider c d w false s h = (plain_wider c d w s.signal h.0, h.1, h.2, h.3)

words_all_wider : (c d : Design) → IsWider c d → (array : Bool) (s : Signal) → HasAllWords array c s → HasAllWords array d s
words_all_wider c d w false s h = words_wider c d w s h
words_all_wider c d w true s h = λ n l k. words_wider c d w (array_net s n) (h n l k)

memory_wider : (c d : Design) → IsWider c d → (needed : Bool) (m : SignalMeaning) → IsSoundMemory c needed m → IsSoundMemory d needed m
memory_wider c d w true m h = h
memory_wider c d w false m h = (words_all_wider c d w m.signal.net m.signal h.0, h.1, h.2)

function_sound : (c d : Design) → IsWider c d → (needed : Bool) (f : FunctionMeaning) → IsSoundFunction c needed f → IsSoundFunction d needed f
function_sound c d w true f h = tt
function_sound c d w false f h = (
  h.0,
  record {
    header = header_wider c d w f.header h.1.header;
    blocking = h.1.blocking;
    statement = statement_wider (inside c f.header) (inside d f.header) (inside_wider c d w f.header) f.statement h.1.statement;
  },
  signals_wider c d w f.passed h.2,
)

pub meaning_wider : (c d : Design) → IsWider c d → (needed : Bool) (m : Meaning) → IsSound c needed m → IsSound d needed m
meaning_wider c d w needed (AValue v r turns) h = h
meaning_wider c d w needed (Undefined r) h = h
meaning_wider c d w needed (ASignal s) h = signal_wider c d w needed s h
meaning_wider c d w needed (AMemory m) h = memory_wider c d w needed m h
meaning_wider c d w needed (AFunction f) h = function_sound c d w needed f h
meaning_wider c d w needed Incomplete h = h
meaning_wider c d w needed Another h = h
meaning_wider c d w needed (Barred rule) h = h
meaning_wider c d w needed Unknown h = h

pub sound_wider : (c d : Design) → IsWider c d → (needed : Bool) (find : Find) → AreSound c needed find → AreSound d needed find
sound_wider c d w needed find h name = meaning_wider c d w needed (find name) (h name)

module _ (c d : Design) (w : IsWider c d) (more : List Function) (e : d.functions ≡ c.functions ++ more) where
  pub buildable_wider : (find : Find) (needed : Bool) (x : tree.Expr) → IsBuildable c find needed x → IsBuildable d find needed x
  buildable_wider find needed x h = record { shaped = h.shaped; sound = sound_wider c d w needed find h.sound; numbered = names_numbered c d more e find h.numbered; clean = h.clean; shallow = h.shallow }

  pub output_wider : (find : Find) (x : tree.Expr) → IsOutput c find x → IsOutput d find x
  output_wider find x h = record {
    is = h.is;
    fine = record { shaped = h.fine.shaped; sound = sound_wider c d w false find h.fine.sound; numbered = names_numbered c d more e find h.fine.numbered; clean = h.fine.clean; shallow = h.fine.shallow };
  }

  pub wirable_wider : (find : Find) (es : List Entry) (x : Connection) → IsWirable c find es x → IsWirable d find es x
  wirable_wider find es x h = record {
    meaning = h.meaning;
    is = h.is;
    there = plain_wider c d w h.meaning.signal h.there;
    input = λ k. buildable_wider find false _ (h.input k);
    output = λ k. output_wider find _ (h.output k);
  }
