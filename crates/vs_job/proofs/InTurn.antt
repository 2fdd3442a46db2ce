-- What is read one word after the other is what the words say.
use Rattle.std.proofs.Common.{◌≡◌, ℕ, suc, ◌+◌, ◌<◌, ◌≤◌, nat_le, Bool, true, false, cond, not, ◌&&◌, List, [], ◌∷◌, ◌++◌, length, codes, Option, Some, None, is_some, option_map, option_and_then, refl, sym, ap, ◌∙◌, arith, append_assoc}
use Rattle.std.specs.List.{before_first}
use Rattle.std.specs.Str.{bytes_eq}
use Rattle.std.proofs.lemmas.Bool.{and_parts, cond-false, false_from_ne_true, leb-true}
use Rattle.std.proofs.lemmas.Bool.Decides.{nat_tests}
use Rattle.std.proofs.lemmas.List.{length-append, append-nil}
use Rattle.vs_desk.specs.Places.{most_lanes, most_others}
use Rattle.vs_job.specs.declared.job.Job.{Job}
use Rattle.vs_job.specs.declared.job.Mode.{Mode}
use Rattle.vs_job.specs.declared.job.Mode.TheVariants.{Run, Check, Queue}
use Rattle.vs_job.specs.declared.words.Flag.{Flag}
use Rattle.vs_job.specs.declared.words.Flag.TheVariants.{Top, Clock, Half, Order, Define, With}
use Rattle.vs_job.specs.declared.words.Next.{Next}
use Rattle.vs_job.specs.declared.words.Next.TheVariants.{Any, Value, Path}
use Rattle.vs_job.specs.declared.words.Verb.{Verb}
use Rattle.vs_job.specs.declared.words.Verb.TheVariants as verbs
use Rattle.vs_job.specs.Job.{Text, verb_and_words, Said, only_paths, path_and, share_and, value_and, is_plain, plain_value_and, flag_named, is_equals, attached, option_and, said, at_most_once, half_given, mode_given, most_defines, are_defines, head_given, others_given, most_stimuli, design_and_stimuli, share_given, called, job}
use Rattle.vs_job.specs.Lines.{Line, start, with_path, is_given, with_share, given, with_value, with_flag, with_any, with_word, is_complete, read, line, values, shares, said_of}

-- what a line and the words behind it say
abbrev behind : Line → Said → Said
behind l s = record { tops = values l.top ++ s.tops; clocks = values l.clock ++ s.clocks; halves = values l.half ++ s.halves; orders = values l.order ++ s.orders; defines = l.defines ++ s.defines; withs = l.withs ++ s.withs; shares = shares l.share + s.shares; paths = l.paths ++ s.paths }

-- what words say where the first one may be this
abbrev said_at : Next → List Text → Option Said
said_at Any words = said None words
said_at (Value flag) words = said (Some flag) words
said_at Path words = Some (only_paths words)

abbrev job_with : Line → Option Said → Option Job
job_with l o = option_and_then (λ s. called l.verb (behind l s)) o

abbrev pub job_read : Option Line → Option Job
job_read o = option_and_then (λ l. called l.verb (said_of l)) o

-- the line's job is that of what it and the words say
abbrev Reads : List Text → Type 0
Reads words = (l : Line) → job_read (read l words) ≡ job_with l (said_at l.next words)

-- ---- what calls for no job

no_more : {A B : Type 0} (o : Option A) (f : A → Option B) → ((a : A) → f a ≡ None) → option_and_then f o ≡ None
no_more None f h = refl
no_more (Some a) f h = h a

called-orders : (verb : Verb) (s : Said) → mode_given verb s.orders ≡ None → called verb s ≡ None
called-orders verb s e = rw e

called-tops : (verb : Verb) (s : Said) → at_most_once s.tops ≡ None → called verb s ≡ None
called-tops verb s e = no_more (mode_given verb s.orders) _ (λ mode. rw e)

called-clocks : (verb : Verb) (s : Said) → at_most_once s.clocks ≡ None → called verb s ≡ None
called-clocks verb s e = no_more (mode_given verb s.orders) _ (λ mode. no_more (at_most_once s.tops) _ (λ top. rw e))

called-halves : (verb : Verb) (s : Said) → half_given s.halves ≡ None → called verb s ≡ None
called-halves verb s e = no_more (mode_given verb s.orders) _ (λ mode. no_more (at_most_once s.tops) _ (λ top. no_more (at_most_once s.clocks) _ (λ clock. rw e)))

called-defines : (verb : Verb) (s : Said) → head_given s.defines ≡ None → called verb s ≡ None
called-defines verb s e =
    no_more (mode_given verb s.orders) _ (λ mode. no_more (at_most_once s.tops) _ (λ top. no_more (at_most_once s.clocks) _ (λ clock. no_more (half_given s.halves) _ (λ half. rw e))))

called-withs : (verb : Verb) (s : Said) → others_given s.withs ≡ None → called verb s ≡ None
called-withs verb s e =
    no_more (mode_given verb s.orders) _ (λ mode. no_more (at_most_once s.tops) _ (λ top. no_more (at_most_once s.clocks) _ (λ clock. no_more (half_given s.halves) _ (λ half. no_more (head_given s.defines) _ (λ head. rw e)))))

called-paths : (verb : Verb) (s : Said) → ((mode : Mode) → design_and_stimuli (most_stimuli mode) s.paths ≡ None) → called verb s ≡ None
called-paths verb s e =
    no_more (mode_given verb s.orders) _ (λ mode. no_more (at_most_once s.tops) _ (λ top. no_more (at_most_once s.clocks) _ (λ clock. no_more (half_given s.halves) _ (λ half. no_more (head_given s.defines) _ (λ head. no_more (others_given s.withs) _ (λ others. rw (e mode)))))))

called-shares : (verb : Verb) (s : Said) → ((mode : Mode) → share_given mode s.shares ≡ None) → called verb s ≡ None
called-shares verb s e =
    no_more (mode_given verb s.orders) _ (λ mode. no_more (at_most_once s.tops) _ (λ top. no_more (at_most_once s.clocks) _ (λ clock. no_more (half_given s.halves) _ (λ half. no_more (head_given s.defines) _ (λ head. no_more (others_given s.withs) _ (λ others. no_more (design_and_stimuli (most_stimuli mode) s.paths) _ (λ paths. rw (e mode))))))))

-- `--order` stands twice
twice_ordered : (verb : Verb) (first second : Text) (more : List Text) → mode_given verb (first ∷ second ∷ more) ≡ None
twice_ordered verbs.Run first second more = refl
twice_ordered verbs.Check first second more = refl
twice_ordered verbs.Queue first second more = refl

-- `--share` stands twice
twice_shared : (mode : Mode) (n : ℕ) → share_given mode (suc (suc n)) ≡ None
twice_shared Run n = refl
twice_shared Check n = refl
twice_shared (Queue order) n = refl

too_many_defines : (values : List Text) → most_defines < length values → head_given values ≡ None
too_many_defines values more =
    cond-false (nat_le (length values) most_defines && are_defines values) _ _ (false_from_ne_true _ (λ is.
    let few = leb-true (length values) most_defines (and_parts (nat_le (length values) most_defines) _ is).0 in
    absurd (omega arith)))

too_many_others : (values : List Text) → most_others < length values → others_given values ≡ None
too_many_others values more =
    cond-false (nat_le (length values) most_others) _ _ (false_from_ne_true _ (λ is.
    let few = leb-true (length values) most_others is in
    absurd (omega arith)))

few_stimuli : (mode : Mode) → most_stimuli mode ≤ most_lanes
few_stimuli Run = omega arith
few_stimuli Check = omega arith
few_stimuli (Queue order) = omega arith

too_many : (most : ℕ) (paths : List Text) → most ≤ most_lanes → 1 + most_lanes < length paths → design_and_stimuli most paths ≡ None
too_many most [] le more = absurd (omega arith)
too_many most (design ∷ stimuli) le more =
    cond-false (nat_le 1 (length stimuli) && nat_le (length stimuli) most) _ _ (false_from_ne_true _ (λ is.
    let few = leb-true (length stimuli) most (and_parts (nat_le 1 (length stimuli)) _ is).1 in
    absurd (omega arith)))

-- ---- one more path

path_moved : (path : Text) (l : Line) (o : Option Said) → job_with (record l { paths = l.paths ++ path ∷ [] }) o ≡ job_with l (option_map (path_and path) o)
path_moved path l None = refl
path_moved path l (Some s) =
    ap (λ (paths : List Text). called l.verb (record { tops = values l.top ++ s.tops; clocks = values l.clock ++ s.clocks; halves = values l.half ++ s.halves; orders = values l.order ++ s.orders; defines = l.defines ++ s.defines; withs = l.withs ++ s.withs; shares = shares l.share + s.shares; paths = paths }))
    (append_assoc l.paths (path ∷ []) s.paths)

path_full : (path : Text) (l : Line) (o : Option Said) → nat_le (length l.paths) most_lanes ≡ false → job_with l (option_map (path_and path) o) ≡ None
path_full path l None full = refl
path_full path l (Some s) full =
    let size = length-append l.paths (path ∷ s.paths) in
    let more : most_lanes < length l.paths = grind (arith, nat_tests) in
    called-paths l.verb (behind l (path_and path s)) (λ mode. too_many (most_stimuli mode) (l.paths ++ path ∷ s.paths) (few_stimuli mode) (omega arith))

path_step : (path : Text) (words : List Text) (l : Line) (next : Next) → l.next ≡ next → Reads words
    → job_read (option_and_then (λ m. read m words) (with_path path l)) ≡ job_with l (option_map (path_and path) (said_at next words))
path_step path words l next at reads = go (nat_le (length l.paths) most_lanes) refl
  where
    go : (t : Bool) → nat_le (length l.paths) most_lanes ≡ t → job_read (option_and_then (λ m. read m words) (cond t (Some (record l { paths = l.paths ++ path ∷ [] })) None)) ≡ job_with l (option_map (path_and path) (said_at next words))
    go true room =
        reads (record l { paths = l.paths ++ path ∷ [] }) ∙ ap (λ (n : Next). job_with (record l { paths = l.paths ++ path ∷ [] }) (said_at n words)) at
        ∙ path_moved path l (said_at next words)
    go false full = sym (path_full path l (said_at next words) full)

-- ---- `--share`

share_moved : (l : Line) (o : Option Said) → l.share ≡ false → job_with (record l { share = true }) o ≡ job_with l (option_map share_and o)
share_moved l None e = refl
share_moved l (Some s) e =
    let count : 1 + s.shares ≡ shares l.share + suc s.shares = one_more s.shares ∙ sym (ap (λ (b : Bool). shares b + suc s.shares) e) in
    ap (λ (n : ℕ). called l.verb (record { tops = values l.top ++ s.tops; clocks = values l.clock ++ s.clocks; halves = values l.half ++ s.halves; orders = values l.order ++ s.orders; defines = l.defines ++ s.defines; withs = l.withs ++ s.withs; shares = n; paths = l.paths ++ s.paths })) count
  where
    one_more : (n : ℕ) → 1 + n ≡ 0 + suc n
    one_more n = omega arith

share_twice : (l : Line) (o : Option Said) → l.share ≡ true → job_with l (option_map share_and o) ≡ None
share_twice l None e = refl
share_twice l (Some s) e =
    let count : shares l.share + suc s.shares ≡ suc (suc s.shares) = ap (λ (b : Bool). shares b + suc s.shares) e ∙ two_more s.shares in
    called-shares l.verb (behind l (share_and s)) (λ mode. ap (share_given mode) count ∙ twice_shared mode s.shares)
  where
    two_more : (n : ℕ) → 1 + suc n ≡ suc (suc n)
    two_more n = omega arith

share_step : (words : List Text) (l : Line) → l.next ≡ Any → Reads words → job_read (option_and_then (λ m. read m words) (with_share l)) ≡ job_with l (option_map share_and (said None words))
share_step words l at reads = go l.share refl
  where
    go : (t : Bool) → l.share ≡ t → job_read (option_and_then (λ m. read m words) (cond t None (Some (record l { share = true })))) ≡ job_with l (option_map share_and (said None words))
    go false none =
        reads (record l { share = true }) ∙ ap (λ (n : Next). job_with (record l { share = true }) (said_at n words)) at
        ∙ share_moved l (said None words) none
    go true given_before = sym (share_twice l (said None words) given_before)

-- ---- one more value

is_none : (o : Option Text) → is_some o ≡ false → o ≡ None
is_none None e = refl
is_none (Some value) e = absurd (cc)

is_value : (o : Option Text) → is_some o ≡ true → (value : Text) × (o ≡ Some value)
is_value None e = absurd (cc)
is_value (Some value) e = (value, refl)

value_moved : (flag : Flag) (value : Text) (l : Line) (o : Option Said) → is_given flag l ≡ false → job_with (given flag value l) o ≡ job_with l (option_map (value_and flag value) o)
value_moved Top value l None e = refl
value_moved Clock value l None e = refl
value_moved Half value l None e = refl
value_moved Order value l None e = refl
value_moved Define value l None e = refl
value_moved With value l None e = refl
value_moved Top value l (Some s) e = let none = is_none l.top e in rw none
value_moved Clock value l (Some s) e = let none = is_none l.clock e in rw none
value_moved Half value l (Some s) e = let none = is_none l.half e in rw none
value_moved Order value l (Some s) e = let none = is_none l.order e in rw none
value_moved Define value l (Some s) e =
    ap (λ (defines : List Text). called l.verb (record { tops = values l.top ++ s.tops; clocks = values l.clock ++ s.clocks; halves = values l.half ++ s.halves; orders = values l.order ++ s.orders; defines = defines; withs = l.withs ++ s.withs; shares = shares l.share + s.shares; paths = l.paths ++ s.paths }))
    (append_assoc l.defines (value ∷ []) s.defines)
value_moved With value l (Some s) e =
    ap (λ (withs : List Text). called l.verb (record { tops = values l.top ++ s.tops; clocks = values l.clock ++ s.clocks; halves = values l.half ++ s.halves; orders = values l.order ++ s.orders; defines = l.defines ++ s.defines; withs = withs; shares = shares l.share + s.shares; paths = l.paths ++ s.paths }))
    (append_assoc l.withs (value ∷ []) s.withs)

value_twice : (flag : Flag) (value : Text) (l : Line) (o : Option Said) → is_given flag l ≡ true → job_with l (option_map (value_and flag value) o) ≡ None
value_twice Top value l None e = refl
value_twice Clock value l None e = refl
value_twice Half value l None e = refl
value_twice Order value l None e = refl
value_twice Define value l None e = refl
value_twice With value l None e = refl
value_twice Top value l (Some s) e = let first = (is_value l.top e).1 in called-tops l.verb (behind l (value_and Top value s)) (rw first)
value_twice Clock value l (Some s) e = let first = (is_value l.clock e).1 in called-clocks l.verb (behind l (value_and Clock value s)) (rw first)
value_twice Half value l (Some s) e = let first = (is_value l.half e).1 in called-halves l.verb (behind l (value_and Half value s)) (rw first)
value_twice Order value l (Some s) e = let first = is_value l.order e in called-orders l.verb (behind l (value_and Order value s)) (rw first.1 (twice_ordered l.verb first.0 value s.orders))
value_twice Define value l (Some s) e =
    let size = length-append l.defines (value ∷ s.defines) in
    let full = leb-true most_defines (length l.defines) e in
    called-defines l.verb (behind l (value_and Define value s)) (too_many_defines (l.defines ++ value ∷ s.defines) (omega arith))
value_twice With value l (Some s) e =
    let size = length-append l.withs (value ∷ s.withs) in
    let full = leb-true most_others (length l.withs) e in
    called-withs l.verb (behind l (value_and With value s)) (too_many_others (l.withs ++ value ∷ s.withs) (omega arith))

given_read : (flag : Flag) (value : Text) (words : List Text) (l : Line) → Reads words → job_read (read (given flag value l) words) ≡ job_with (given flag value l) (said None words)
given_read Top value words l reads = reads (given Top value l)
given_read Clock value words l reads = reads (given Clock value l)
given_read Half value words l reads = reads (given Half value l)
given_read Order value words l reads = reads (given Order value l)
given_read Define value words l reads = reads (given Define value l)
given_read With value words l reads = reads (given With value l)

value_step : (flag : Flag) (value : Text) (words : List Text) (l : Line) → Reads words
    → job_read (option_and_then (λ m. read m words) (with_value flag value l)) ≡ job_with l (plain_value_and flag value (said None words))
value_step flag value words l reads = go (is_plain value) (is_given flag l) refl
  where
    go : (plain full : Bool) → is_given flag l ≡ full → job_read (option_and_then (λ m. read m words) (cond (plain && not full) (Some (given flag value l)) None)) ≡ job_with l (cond plain (option_map (value_and flag value) (said None words)) None)
    go true false e = given_read flag value words l reads ∙ value_moved flag value l (said None words) e
    go true true e = sym (value_twice flag value l (said None words) e)
    go false false e = refl
    go false true e = refl

-- ---- one more word

option_step : (flag : Option Flag) (value : Option Text) (words : List Text) (l : Line) → Reads words
    → job_read (option_and_then (λ m. read m words) (option_and_then (λ f. with_flag f value l) flag)) ≡ job_with l (option_and flag value (said None words) (λ f. said (Some f) words))
option_step None value words l reads = refl
option_step (Some flag) (Some value) words l reads = value_step flag value words l reads
option_step (Some flag) None words l reads = reads (record l { next = Value flag })

either : (t : Bool) (words : List Text) (l : Line) (a b : Option Line) (x y : Option Said) → job_read (option_and_then (λ m. read m words) a) ≡ job_with l x → job_read (option_and_then (λ m. read m words) b) ≡ job_with l y
    → job_read (option_and_then (λ m. read m words) (cond t a b)) ≡ job_with l (cond t x y)
either true words l a b x y first second = first
either false words l a b x y first second = second

any_step : (word : Text) (words : List Text) (l : Line) → l.next ≡ Any → Reads words → job_read (option_and_then (λ m. read m words) (with_any word l)) ≡ job_with l (said None (word ∷ words))
any_step word words l at reads =
    either (bytes_eq word (codes "--")) words l _ _ _ _ (reads (record l { next = Path }))
    (either (is_plain word) words l _ _ _ _ (path_step word words l Any at reads) (either (bytes_eq word (codes "--share")) words l _ _ _ _ (share_step words l at reads) (option_step (flag_named (before_first is_equals word)) (attached word) words l reads)))

step : (next : Next) (word : Text) (words : List Text) (l : Line) → l.next ≡ next → Reads words → job_read (option_and_then (λ m. read m words) (with_word next word l)) ≡ job_with l (said_at next (word ∷ words))
step Any word words l at reads = any_step word words l at reads
step (Value flag) word words l at reads = value_step flag word words l reads
step Path word words l at reads = path_step word words l Path at reads

add-zero : (n : ℕ) → n + 0 ≡ n
add-zero n = omega arith

end : (l : Line) → called l.verb (said_of l) ≡ called l.verb (behind l (only_paths []))
end l = rw (append-nil (values l.top), append-nil (values l.clock), append-nil (values l.half), append-nil (values l.order), append-nil l.defines, append-nil l.withs, add-zero (shares l.share), append-nil l.paths)

ends : (next : Next) (l : Line) → job_read (cond (is_complete next) (Some l) None) ≡ job_with l (said_at next [])
ends Any l = end l
ends (Value flag) l = refl
ends Path l = end l

reads_all : (words : List Text) → Reads words
reads_all [] l = ends l.next l
reads_all (word ∷ words) l = step l.next word words l refl (reads_all words)

-- what stands behind nothing
from_start : (verb : Verb) (o : Option Said) → job_with (start verb) o ≡ option_and_then (called verb) o
from_start verb None = refl
from_start verb (Some s) = ap (λ (n : ℕ). called verb (record s { shares = n })) (none_before s.shares)
  where
    none_before : (n : ℕ) → 0 + n ≡ n
    none_before n = omega arith

from_command : (o : Option (Verb × List Text)) → job_read (option_and_then (λ command. read (start command.0) command.1) o) ≡ option_and_then (λ command. option_and_then (called command.0) (said None command.1)) o
from_command None = refl
from_command (Some (verb, words)) = reads_all words (start verb) ∙ from_start verb (said None words)

-- the job of words whose line is known
pub job-line : (words : List Text) (l : Option Line) → l ≡ line words → job_read l ≡ job words
unfolding job
job-line words l e = ap job_read e ∙ from_command (verb_and_words words)
