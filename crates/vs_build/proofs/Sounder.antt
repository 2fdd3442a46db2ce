-- What names mean over a design they mean over one that has its scopes, signals and functions too.
use Rattle.std.proofs.Common.{◌≡◌, Bool, true, false, List, [], ◌∷◌, Option, Some, None, refl, ap, ◌∙◌, arith}
use Rattle.std.specs.Prelude.{slice_get}
use Rattle.vs_design.specs.Expressions.{Signal, Header}
use Rattle.vs_design.specs.Statements.{Function}
use Rattle.vs_design.specs.Designs.{Process, Design}
use Rattle.vs_design.specs.Elaborated.{inside}
use Rattle.vs_const.specs.Meanings.{SignalMeaning, Meaning, AValue, Undefined, ASignal, AMemory, AFunction, Incomplete, Another, Barred, Unknown, Find}
use Rattle.vs_const.specs.Selects.{array_net}
use Rattle.vs_const.specs.Sound.{HasAllWords, IsSoundSignal, AreSoundSignals, IsSound, AreSound}
use Rattle.vs_elaborated.specs.Numbers.{IsNumbered, AreNumbered}
use Rattle.vs_build.specs.Drafts.{home_in}
use Rattle.vs_build.proofs.Wider.{IsWider, plain_wider, words_wider, header_wider, inside_wider, statement_wider}

pub signal_wider : (c d : Design) → IsWider c d → (s : SignalMeaning) → IsSoundSignal c false s → IsSoundSignal d false s
signal_wider c d w s h = (plain_wider c d w s.signal h.0, h.1, h.2, h.3)

pub signals_wider : (c d : Design) → IsWider c d → (ss : List SignalMeaning) → AreSoundSignals c ss → AreSoundSignals d ss
signals_wider c d w [] h = tt
signals_wider c d w (s ∷ ss) h = (signal_wider c d w s h.0, signals_wider c d w ss h.1)

all_words_wider : (c d : Design) (array : Bool) → IsWider c d → (s : Signal) → HasAllWords array c s → HasAllWords array d s
all_words_wider c d false w s h = words_wider c d w s h
all_words_wider c d true w s h = λ n low high. words_wider c d w (array_net s n) (h n low high)

pub sound_wider : (c d : Design) (needed : Bool) → IsWider c d → (m : Meaning) → IsSound c needed m → IsSound d needed m
sound_wider c d needed w (AValue v r turns) h = h
sound_wider c d needed w (Undefined r) h = h
sound_wider c d true w (ASignal s) h = h
sound_wider c d false w (ASignal s) h = signal_wider c d w s h
sound_wider c d true w (AMemory s) h = h
sound_wider c d false w (AMemory s) h = (all_words_wider c d s.signal.net w s.signal h.0, h.1, h.2)
sound_wider c d true w (AFunction f) h = h
sound_wider c d false w (AFunction f) h =
    (h.0, record { header = header_wider c d w f.header h.1.header; blocking = h.1.blocking; statement = statement_wider (inside c f.header) (inside d f.header) (inside_wider c d w f.header) f.statement h.1.statement }, signals_wider c d w f.passed h.2)
sound_wider c d needed w Incomplete h = h
sound_wider c d needed w Another h = h
sound_wider c d needed w (Barred rule) h = h
sound_wider c d needed w Unknown h = h

pub names_wider : (c d : Design) (needed : Bool) (find : Find) → IsWider c d → AreSound c needed find → AreSound d needed find
names_wider c d needed find w s = λ name. sound_wider c d needed w (find name) (s name)

-- ---- the same functions

pub number_stays : (c d : Design) → d.functions ≡ c.functions → (m : Meaning) → IsNumbered c m → IsNumbered d m
number_stays c d e (AValue v r turns) h = h
number_stays c d e (Undefined r) h = h
number_stays c d e (ASignal s) h = h
number_stays c d e (AMemory s) h = h
number_stays c d e (AFunction f) h = ap (λ (fs : List Function). slice_get fs f.number) e ∙ h
number_stays c d e Incomplete h = h
number_stays c d e Another h = h
number_stays c d e (Barred rule) h = h
number_stays c d e Unknown h = h

pub numbers_stay : (c d : Design) (find : Find) → d.functions ≡ c.functions → AreNumbered c find → AreNumbered d find
numbers_stay c d find e n = λ name. number_stays c d e (find name) (n name)

-- ---- other processes

pub processes_wider : (d : Design) (o : Option Header) (ps : List Process) → IsWider (home_in d o) (home_in (record d { processes = ps }) o)
processes_wider d None ps = record { scopes = omega arith; signals = λ s k. k }
processes_wider d (Some h) ps = record { scopes = omega arith; signals = λ s k. k }

pub processes_functions : (d : Design) (o : Option Header) (ps : List Process) → (home_in (record d { processes = ps }) o).functions ≡ (home_in d o).functions
processes_functions d None ps = refl
processes_functions d (Some h) ps = refl
