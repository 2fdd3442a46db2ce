-- The words of the command line, and the job that they call for.
use Rattle.std.specs.Prelude.{◌≡◌, ℕ, zero, suc, ◌≤◌, Bool, true, false, not, ◌&&◌, ◌||◌, ◌==◌, nat_le, List, [], ◌∷◌, ◌++◌, length, slice_index, Option, Some, None, option_map, option_and_then, codes, bytes_eq, if◌then◌else◌}
use Rattle.std.specs.List.{list_all, list_any, before_first, after_first, flat_map, slice_split}
use Rattle.std.specs.Str.{all_ascii_digits}
use Rattle.std.specs.Str.Parse.{digits_value}
use Rattle.vs_desk.specs.Places.{most_lanes, most_others}
use Rattle.vs_job.specs.declared.job.Job.{Job}
use Rattle.vs_job.specs.declared.job.Mode.{Mode}
use Rattle.vs_job.specs.declared.job.Mode.TheVariants.{Run, Check, Queue}
use Rattle.vs_job.specs.declared.words.Flag.{Flag}
use Rattle.vs_job.specs.declared.words.Flag.TheVariants.{Top, Clock, Half, Order, Define, With}
use Rattle.vs_job.specs.declared.words.Verb.{Verb}
use Rattle.vs_job.specs.declared.words.Verb.TheVariants as verbs

infixl 10 ◌>>=◌
abbrev pub ◌>>=◌ : {A B : Type 0} → Option A → (A → Option B) → Option B
o >>= f = option_and_then f o

abbrev pub Text : Type 0
Text = List ℕ

-- the command of this name, where it is one that calls for a job
abbrev pub verb_named : Text → Option Verb
verb_named command =
    if bytes_eq command (codes "run") then Some verbs.Run
    else (if bytes_eq command (codes "check") then Some verbs.Check else (if bytes_eq command (codes "queue") then Some verbs.Queue else None))

-- the command, which stands behind the program's own name, and the words behind it
abbrev pub verb_and_words : List Text → Option (Verb × List Text)
verb_and_words (program ∷ command ∷ words) = option_map (λ verb. (verb, words)) (verb_named command)
verb_and_words _ = None

-- what words say: the values of each option, how often `--share` is among them, and the paths, in order
pub record Said : Type 0 where
  pub tops : List Text
  pub clocks : List Text
  pub halves : List Text
  pub orders : List Text
  pub defines : List Text
  pub withs : List Text
  pub shares : ℕ
  pub paths : List Text

abbrev pub only_paths : List Text → Said
only_paths paths = record { tops = []; clocks = []; halves = []; orders = []; defines = []; withs = []; shares = 0; paths = paths }

-- a path, and what the words behind it say
abbrev pub path_and : Text → Said → Said
path_and path rest = record rest { paths = path ∷ rest.paths }

-- `--share`, and what the words behind it say
abbrev pub share_and : Said → Said
share_and rest = record rest { shares = suc rest.shares }

-- a value of the option, and what the words behind it say
abbrev pub value_and : Flag → Text → Said → Said
value_and Top value rest = record rest { tops = value ∷ rest.tops }
value_and Clock value rest = record rest { clocks = value ∷ rest.clocks }
value_and Half value rest = record rest { halves = value ∷ rest.halves }
value_and Order value rest = record rest { orders = value ∷ rest.orders }
value_and Define value rest = record rest { defines = value ∷ rest.defines }
value_and With value rest = record rest { withs = value ∷ rest.withs }

-- the word doesn't begin with `-`
abbrev pub is_plain : Text → Bool
is_plain [] = true
is_plain (b ∷ bs) = not (b == 45)

-- no value begins with `-`
abbrev pub plain_value_and : Flag → Text → Option Said → Option Said
plain_value_and flag value rest = if is_plain value then option_map (value_and flag value) rest else None

abbrev pub flag_named : Text → Option Flag
flag_named name =
    if bytes_eq name (codes "--top") then Some Top
    else (if bytes_eq name (codes "--clock") then Some Clock
    else (if bytes_eq name (codes "--half") then Some Half
    else (if bytes_eq name (codes "--order") then Some Order
    else (if bytes_eq name (codes "--define") then Some Define else (if bytes_eq name (codes "--with") then Some With else None)))))

-- `=`
abbrev pub is_equals : ℕ → Bool
is_equals b = b == 61

-- what stands behind the first `=` of a word that has one
abbrev pub attached : Text → Option Text
attached word = if list_any is_equals word then Some (after_first is_equals word) else None

-- an option with its value attached, or with the next word for a value
abbrev pub option_and : Option Flag → Option Text → Option Said → (Flag → Option Said) → Option Said
option_and None value rest next = None
option_and (Some flag) (Some value) rest next = plain_value_and flag value rest
option_and (Some flag) None rest next = next flag

-- what the words behind the command say. The first one is the value of the option, where one is given; else it is `--`, a
-- path, `--share`, or an option with a value.
abbrev pub said : Option Flag → List Text → Option Said
said None [] = Some (only_paths [])
said (Some flag) [] = None
said (Some flag) (word ∷ words) = plain_value_and flag word (said None words)
said None (word ∷ words) =
    if bytes_eq word (codes "--") then Some (only_paths words)
    else (if is_plain word then option_map (path_and word) (said None words)
    else (if bytes_eq word (codes "--share") then option_map share_and (said None words)
    else option_and (flag_named (before_first is_equals word)) (attached word) (said None words) (λ flag. said (Some flag) words)))

-- decimal digits without a sign or a leading zero, with a value from 1 to this one
abbrev pub is_count : ℕ → List ℕ → Bool
is_count most digits = all_ascii_digits digits && (not (slice_index digits 0 == 48) && (nat_le 1 (digits_value 10 digits) && nat_le (digits_value 10 digits) most))

abbrev pub count_value : ℕ → List ℕ → Option ℕ
count_value most digits = if is_count most digits then Some (digits_value 10 digits) else None

-- the greatest half-period of the clock, in units of time
abbrev pub most_half : ℕ
most_half = 1000000

abbrev pub half_value : List ℕ → Option ℕ
half_value = count_value most_half

-- the greatest number that chooses an order of steps
abbrev pub most_order : ℕ
most_order = 18446744073709551615

-- `0`, or decimal digits without a sign or a leading zero, with a value up to the greatest one
abbrev pub order_value : Text → Option ℕ
order_value digits = if bytes_eq digits (codes "0") then Some 0 else count_value most_order digits

-- what is done with the lanes: `queue` has the order of its steps given once, and no other command has one
abbrev pub mode_given : Verb → List Text → Option Mode
mode_given verbs.Run [] = Some Run
mode_given verbs.Check [] = Some Check
mode_given verbs.Queue (digits ∷ []) = option_map Queue (order_value digits)
mode_given _ _ = None

-- the value of an option that is given once, or none where it isn't given
abbrev pub at_most_once : List Text → Option (Option Text)
at_most_once [] = Some None
at_most_once (value ∷ []) = Some (Some value)
at_most_once _ = None

-- `,`
abbrev pub is_comma : ℕ → Bool
is_comma b = b == 44

-- the names that commas part, one at least
abbrev pub parted : Text → List Text
parted value = slice_split is_comma value

-- the names of the clocks, none where none is given
abbrev pub names_given : Option Text → List Text
names_given None = []
names_given (Some value) = parted value

-- the half-period, which is 5 where none is given
abbrev pub half_given : List Text → Option ℕ
half_given [] = Some 5
half_given (digits ∷ []) = half_value digits
half_given _ = None

-- whether `--share` is given: once at most, and in a run alone
abbrev pub share_given : Mode → ℕ → Option Bool
share_given mode zero = Some false
share_given Run (suc zero) = Some true
share_given _ _ = None

-- a letter or `_`
abbrev pub is_letter : ℕ → Bool
is_letter b = (nat_le 65 b && nat_le b 90) || (nat_le 97 b && nat_le b 122) || b == 95

-- a letter, a digit, `_` or `$`
abbrev pub is_name_byte : ℕ → Bool
is_name_byte b = is_letter b || (nat_le 48 b && nat_le b 57) || b == 36

-- a simple identifier (3.7)
abbrev pub is_identifier : Text → Bool
is_identifier [] = false
is_identifier (b ∷ bs) = is_letter b && list_all is_name_byte bs

-- a printable character of ASCII, but no `\`, with which a line might go on or an escaped name begin
abbrev pub is_body_byte : ℕ → Bool
is_body_byte b = nat_le 32 b && nat_le b 126 && not (b == 92)

-- `*`
abbrev pub begins_with_star : Text → Bool
begins_with_star [] = false
begins_with_star (b ∷ bs) = b == 42

-- whether it has `/*`, with which a comment of several lines may begin (3.3)
abbrev pub has_comment : Text → Bool
has_comment [] = false
has_comment (b ∷ bs) = (b == 47 && begins_with_star bs) || has_comment bs

-- the text of a macro, which ends with its line
abbrev pub is_body : Text → Bool
is_body text = list_all is_body_byte text && not (has_comment text)

-- no text, or one that ends with its line
abbrev pub is_body_given : Option Text → Bool
is_body_given None = true
is_body_given (Some text) = is_body text

-- a value of `--define`: a macro's name, or its name, `=` and its text
abbrev pub is_define : Text → Bool
is_define value = is_identifier (before_first is_equals value) && is_body_given (attached value)

-- what stands behind a macro's name: nothing, or a blank and its text
abbrev pub body_text : Option Text → Text
body_text None = []
body_text (Some text) = 32 ∷ text

-- the line that defines a macro (19.3.1), with its end
abbrev pub define_line : Text → Text
define_line value = codes "`define " ++ (before_first is_equals value ++ (body_text (attached value) ++ codes "\n"))

-- what stands before the design's text: a line for each macro, in the order of the words
abbrev pub head_of : List Text → Text
head_of values = flat_map define_line values

-- the greatest number of macros, and of bytes in their lines
abbrev pub most_defines : ℕ
most_defines = 64

abbrev pub most_head : ℕ
most_head = 65536

-- each defines a macro, and their lines have few bytes
abbrev pub are_defines : List Text → Bool
are_defines values = list_all is_define values && nat_le (length (head_of values)) most_head

abbrev pub head_given : List Text → Option Text
head_given values = if nat_le (length values) most_defines && are_defines values then Some (head_of values) else None

-- the further files of the design, of which there are so many at most
abbrev pub others_given : List Text → Option (List Text)
others_given values = if nat_le (length values) most_others then Some values else None

-- the design, and a stimulus for each lane
pub record Paths : Type 0 where
  pub design : Text
  pub stimuli : List Text

-- the greatest number of stimuli: the event queue runs one alone
abbrev pub most_stimuli : Mode → ℕ
most_stimuli (Queue order) = 1
most_stimuli _ = most_lanes

-- the first path is the design, and 1 to so many stimuli follow
abbrev pub design_and_stimuli : ℕ → List Text → Option Paths
design_and_stimuli most [] = None
design_and_stimuli most (design ∷ stimuli) = if nat_le 1 (length stimuli) && nat_le (length stimuli) most then Some (record { design = design; stimuli = stimuli }) else None

-- the job of a command, and of what the words behind it say
abbrev pub called : Verb → Said → Option Job
called verb s = do
  mode ← mode_given verb s.orders
  top ← at_most_once s.tops
  clock ← at_most_once s.clocks
  half ← half_given s.halves
  head ← head_given s.defines
  others ← others_given s.withs
  paths ← design_and_stimuli (most_stimuli mode) s.paths
  share ← share_given mode s.shares
  Some (record { mode = mode; top = top; clocks = names_given clock; half = half; share = share; head = head; design = paths.design; others = others; stimuli = paths.stimuli })

-- the job that the words call for, the program's own name first; none where they call for none
unfoldable pub job : List Text → Option Job
job words = do
  command ← verb_and_words words
  s ← said None command.1
  called command.0 s

-- the ranges that every job keeps
pub record IsJob (j : Job) : Type 0 where
  pub half_from : 1 ≤ j.half
  pub half_to : j.half ≤ most_half
  pub short : length j.head ≤ most_head
  pub together : length j.others ≤ most_others
  pub some : 1 ≤ length j.stimuli
  pub few : length j.stimuli ≤ most_lanes
  pub lone : (order : ℕ) → j.mode ≡ Queue order → length j.stimuli ≡ 1
