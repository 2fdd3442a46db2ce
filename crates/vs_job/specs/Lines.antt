-- The words, read one after the other.
use Rattle.std.specs.Prelude.{ℕ, Bool, true, false, not, ◌&&◌, nat_le, List, [], ◌∷◌, ◌++◌, length, Option, Some, None, is_some, codes, bytes_eq, if◌then◌else◌}
use Rattle.std.specs.List.{before_first}
use Rattle.vs_desk.specs.Places.{most_lanes, most_others}
use Rattle.vs_job.specs.declared.words.Flag.{Flag}
use Rattle.vs_job.specs.declared.words.Flag.TheVariants.{Top, Clock, Half, Order, Define, With}
use Rattle.vs_job.specs.declared.words.Next.{Next}
use Rattle.vs_job.specs.declared.words.Next.TheVariants.{Any, Value, Path}
use Rattle.vs_job.specs.declared.words.Verb.{Verb}
use Rattle.vs_job.specs.Job.{◌>>=◌, Text, Said, is_plain, is_equals, flag_named, attached, verb_and_words, most_defines}

-- the command, what the words behind it say so far, and what the next one may be
pub record Line : Type 0 where
  pub verb : Verb
  pub next : Next
  pub top : Option Text
  pub clock : Option Text
  pub half : Option Text
  pub order : Option Text
  pub defines : List Text
  pub withs : List Text
  pub share : Bool
  pub paths : List Text

-- before the first word behind the command
abbrev pub start : Verb → Line
start verb = record { verb = verb; next = Any; top = None; clock = None; half = None; order = None; defines = []; withs = []; share = false; paths = [] }

-- one more path: the design and 256 stimuli at most
abbrev pub with_path : Text → Line → Option Line
with_path path l = if nat_le (length l.paths) most_lanes then Some (record l { paths = l.paths ++ path ∷ [] }) else None

-- `--share`, which is given once at most
abbrev pub with_share : Line → Option Line
with_share l = if l.share then None else Some (record l { share = true })

-- the option has its value, or as many as it may have
abbrev pub is_given : Flag → Line → Bool
is_given Top l = is_some l.top
is_given Clock l = is_some l.clock
is_given Half l = is_some l.half
is_given Order l = is_some l.order
is_given Define l = nat_le most_defines (length l.defines)
is_given With l = nat_le most_others (length l.withs)

abbrev pub given : Flag → Text → Line → Line
given Top value l = record l { next = Any; top = Some value }
given Clock value l = record l { next = Any; clock = Some value }
given Half value l = record l { next = Any; half = Some value }
given Order value l = record l { next = Any; order = Some value }
given Define value l = record l { next = Any; defines = l.defines ++ value ∷ [] }
given With value l = record l { next = Any; withs = l.withs ++ value ∷ [] }

-- the option's value: it doesn't begin with `-`, and the option may have it
abbrev pub with_value : Flag → Text → Line → Option Line
with_value flag value l = if is_plain value && not (is_given flag l) then Some (given flag value l) else None

-- an option, with its value or before it
abbrev pub with_flag : Flag → Option Text → Line → Option Line
with_flag flag (Some value) l = with_value flag value l
with_flag flag None l = Some (record l { next = Value flag })

-- an option alone, or with `=` and its value
abbrev pub with_option : Text → Line → Option Line
with_option word l = do
  flag ← flag_named (before_first is_equals word)
  with_flag flag (attached word) l

-- `--`, a path, `--share`, or an option with a value
abbrev pub with_any : Text → Line → Option Line
with_any word l =
    if bytes_eq word (codes "--") then Some (record l { next = Path })
    else (if is_plain word then with_path word l else (if bytes_eq word (codes "--share") then with_share l else with_option word l))

-- one more word
abbrev pub with_word : Next → Text → Line → Option Line
with_word Any word l = with_any word l
with_word (Value flag) word l = with_value flag word l
with_word Path word l = with_path word l

-- no option waits for its value
abbrev pub is_complete : Next → Bool
is_complete (Value flag) = false
is_complete _ = true

-- the words behind the command, one after the other
abbrev pub read : Line → List Text → Option Line
read l [] = if is_complete l.next then Some l else None
read l (word ∷ words) = do
  more ← with_word l.next word l
  read more words

-- what the words say
abbrev pub line : List Text → Option Line
line words = do
  command ← verb_and_words words
  read (start command.0) command.1

-- the values that an option has so far
abbrev pub values : Option Text → List Text
values None = []
values (Some value) = value ∷ []

-- how often `--share` is given so far
abbrev pub shares : Bool → ℕ
shares true = 1
shares false = 0

abbrev pub said_of : Line → Said
said_of l = record { tops = values l.top; clocks = values l.clock; halves = values l.half; orders = values l.order; defines = l.defines; withs = l.withs; shares = shares l.share; paths = l.paths }
