-- One identifier code for all signals that ports join: several variables may have one code (IEEE 1364-2005, 18.2).
use Rattle.std.specs.Prelude.{◌≡◌, ℕ, suc, ◌≤◌, ◌<◌, All, ◌*◌, ◌==◌, Bool, true, false, List, [], ◌∷◌, ◌++◌, length, map, nat_lt, slice_get, slice_index_or, Option, None, Some, if◌then◌else◌}
use Rattle.std.specs.List.{filter}
use Rattle.vs_net.specs.Network.{State}
use Rattle.vs_net.specs.Queue.{Slot}
use Rattle.vs_net.specs.Solution.{IsSolution}
use Rattle.vs_design.specs.Expressions.{Signal, signal_length}
use Rattle.vs_design.specs.Statements.{Whole}
use Rattle.vs_design.specs.Designs.{Process, Continuous, Written, Design}
use Rattle.vs_design.specs.Clocks.{clock_bits, name_of}
use Rattle.vs_design.specs.Values.{bits_of_signal, read}
use Rattle.vs_design.specs.Footprints.{contains}
use Rattle.vs_design.specs.Elaborated.{IsLawfulDesign}
use Rattle.vs_design.specs.Networks.{network_of}
use Rattle.vs_design.specs.Accepted.{IsAcceptedDesign}
use Rattle.vs_vcd.specs.Scopes.{shown_signals, head_text}
use Rattle.vs_vcd.specs.Texts.{shown_numbers, values_of, slot_texts, last_text, vcd}

-- ---- classes

-- the numbers of two signals, where they have equal lengths
abbrev pub equally_long : Option Signal → Signal → Option (ℕ × ℕ)
equally_long None t = None
equally_long (Some s) t = if signal_length s == signal_length t then Some (s.number, t.number) else None

-- The numbers of the signals that a process joins: it is the assign of a port (12.3.9.2), its expression is the name of the one alone, its target is the whole of the other, and they have equal lengths. Round brackets are no matter;
-- a select and a concatenation join nothing, and an assign that is written doesn't either.
abbrev pub join_of : Process → Option (ℕ × ℕ)
join_of (Continuous place Written target_place target e) = None
join_of (Continuous place port target_place (Whole signal) e) = equally_long (name_of e) signal
join_of _ = None

-- Two signals, by number, are of one class: the least equivalence in which joined ones are.
pub data IsAlike (d : Design) : ℕ → ℕ → Type 0 where
  Itself : (n : ℕ) → IsAlike d n n
  Joined : (p : ℕ) (process : Process) (m n : ℕ) → slice_get d.processes p ≡ Some process → join_of process ≡ Some (m, n) → IsAlike d m n
  Back : (m n : ℕ) → IsAlike d m n → IsAlike d n m
  Along : (l m n : ℕ) → IsAlike d l m → IsAlike d m n → IsAlike d l n

-- ---- codes

-- where classes with the codes a and b become one, the code c becomes the less of both, if it is the greater
abbrev pub merged : ℕ → ℕ → ℕ → ℕ
merged a b c = if nat_lt a b then (if c == b then a else c) else (if c == a then b else c)

-- the code of signal k, once a process joins signals m and n
abbrev pub with_join : Option (ℕ × ℕ) → (ℕ → ℕ) → ℕ → ℕ
with_join None code k = code k
with_join (Some (m, n)) code k = merged (code m) (code n) (code k)

-- the code of signal n among these processes: its own number, where none joins it to another
unfoldable pub code_by : List Process → ℕ → ℕ
code_by [] n = n
code_by (p ∷ ps) n = with_join (join_of p) (code_by ps) n

-- the code of the class of signal n
abbrev pub class_code : Design → ℕ → ℕ
class_code d n = code_by d.processes n

-- this is the code of the class of signal n: the number of the member of least number that has a line
pub record IsClassCode (d : Design) (n code : ℕ) : Type 0 where
  pub alike : IsAlike d n code
  pub shown : contains (shown_numbers d) code ≡ true
  pub least : (m : ℕ) → IsAlike d n m → contains (shown_numbers d) m ≡ true → code ≤ m

-- ---- texts

-- the design in which each signal has its code for a number
abbrev pub coded_by : (ℕ → ℕ) → Design → Design
coded_by code d = record d { signals = map (λ (s : Signal). record s { number = code s.number }) d.signals }

-- the signal's code is its own number
abbrev pub leads : (ℕ → ℕ) → Signal → Bool
leads code s = code s.number == s.number

-- the design with these signals alone, one of each class
abbrev pub led_by : (ℕ → ℕ) → Design → Design
led_by code d = record d { signals = filter (leads code) d.signals }

-- the declarations have codes for numbers, and of each class the values of its first signal are written
abbrev pub vcd_shared : Design → ℕ → List State → List ℕ
vcd_shared d half ends = head_text (coded_by (class_code d) d) ++ slot_texts (led_by (class_code d) d) half ends ++ last_text (length ends * half)

-- the text with one code for each class, or with one for each signal
abbrev pub text_of : Bool → Design → ℕ → List State → List ℕ
text_of share d half ends = if share then vcd_shared d half ends else vcd d half ends

-- ---- its parts

-- the design whose declarations the head has, and the one whose signals the slots have
abbrev pub coded : Bool → Design → Design
coded false d = d
coded true d = coded_by (class_code d) d

abbrev pub led : Bool → Design → Design
led false d = d
led true d = led_by (class_code d) d

-- those of these signals, of which the first has place k, that lead
abbrev pub leading_from : (ℕ → ℕ) → ℕ → List Signal → List ℕ
leading_from code k [] = []
leading_from code k (s ∷ ss) = if leads code s then (k ∷ leading_from code (suc k) ss) else leading_from code (suc k) ss

-- the code of each signal
abbrev pub code_of : Bool → Design → ℕ → ℕ
code_of false d n = n
code_of true d n = class_code d n

-- the places of the signals whose values are written among all that have lines
abbrev pub led_places : Bool → Design → List ℕ
led_places share d = leading_from (code_of share d) 0 (shown_signals d)

-- what stands at these places of a list
abbrev pub at_places : {A : Type 0} → A → List ℕ → List A → List A
at_places none places xs = map (λ k. slice_index_or xs k none) places

-- ---- laws

-- the head, the slots and the last line
abbrev pub TextIsParts : Type 0
TextIsParts = (share : Bool) (d : Design) (half : ℕ) (ends : List State) → text_of share d half ends ≡ head_text (coded share d) ++ slot_texts (led share d) half ends ++ last_text (length ends * half)

-- the code of a signal that has a line is that of its class
abbrev pub CodesAreClasses : Type 0
CodesAreClasses = (d : Design) → IsLawfulDesign d → (n : ℕ) → contains (shown_numbers d) n ≡ true → IsClassCode d n (class_code d n)

-- what stands at the places of those that lead is what they have
pub record PlacesLead (share : Bool) (d : Design) : Type 0 where
  pub within : All (λ k. k < length (shown_signals d)) (led_places share d)
  pub lengths : at_places 0 (led_places share d) (map signal_length (shown_signals d)) ≡ map signal_length (shown_signals (led share d))
  pub values : (state : State) → at_places [] (led_places share d) (values_of d state) ≡ values_of (led share d) state

abbrev pub EachPlaceLeads : Type 0
EachPlaceLeads = (share : Bool) (d : Design) → PlacesLead share d

-- where no process joins signals, the text is the one with a code for each signal
abbrev pub UnjoinedIsPlain : Type 0
UnjoinedIsPlain = (d : Design) → ((p : ℕ) (process : Process) → slice_get d.processes p ≡ Some process → join_of process ≡ None) → (half : ℕ) (ends : List State) → vcd_shared d half ends ≡ vcd d half ends

-- at the end of every slot of an accepted design the signals of a class have the same bits
abbrev pub ClassesHaveOneValue : Type 0
ClassesHaveOneValue = (d : Design) (names : List (List ℕ)) (a : IsAcceptedDesign d names) (before : State) (slots : List Slot) (ends : List State) → IsSolution (network_of d (clock_bits a.clocks)) before slots ends
    → (k : ℕ) (end : State) → slice_get ends k ≡ Some end → (m n : ℕ) (s t : Signal) → IsAlike d m n → slice_get d.signals m ≡ Some s → slice_get d.signals n ≡ Some t
    → read end (bits_of_signal s) ≡ read end (bits_of_signal t)

-- ---- codes as they are kept

-- The code of signal n, where these are those of the first signals, and each other signal has its number.
abbrev pub code_at : List ℕ → ℕ → ℕ
code_at codes n = slice_index_or codes n n

-- the codes give the design's head, its slots, and the places of what is written
pub record AreCodes (share : Bool) (d : Design) (codes : List ℕ) : Type 0 where
  pub coded_is : coded_by (code_at codes) d ≡ coded share d
  pub led_is : led_by (code_at codes) d ≡ led share d
  pub places_are : leading_from (code_at codes) 0 (shown_signals d) ≡ led_places share d
