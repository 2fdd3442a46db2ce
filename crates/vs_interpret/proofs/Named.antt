-- The values of signals that are named, and of words.
use Rattle.std.proofs.Common.{◌≡◌, ℕ, ◌+◌, ◌*◌, ◌≤◌, true, List, length, map, refl, sym, ap, ap₂, ◌∙◌, arith, Option, if◌then◌else◌, Bool, None}
use Rattle.std.proofs.lemmas.List.{length-map}
use Rattle.vs_four.specs.declared.Bit4.{Bit4}
use Rattle.vs_four.specs.declared.Bit4.TheVariants.{X}
use Rattle.vs_four.specs.declared.Range.{Range}
use Rattle.vs_four.specs.Logic.{BitList, all_known}
use Rattle.vs_four.specs.Numbers.{integer}
use Rattle.vs_four.specs.Selects.{at_place, place_of, range_length}
use Rattle.vs_net.specs.Network.{State}
use Rattle.vs_design.specs.Expressions as E
use Rattle.vs_design.specs.Fits.{source_length}
use Rattle.vs_design.specs.Values.{bits_of_signal, count_from, read, select_word, source_value, spread}
use Rattle.vs_design.specs.Within.{signal_within, source_within}
use Rattle.vs_design.proofs.Lengths.{length_count, length_word}
use Rattle.vs_sets.specs.TargetsOf.{IsSignal}
use Rattle.vs_sets.proofs.Limits.{signal_ends}
use Rattle.vs_sets.proofs.Widths.{words_are}
use Rattle.vs_writes.specs.Held.{state_of}

-- ---- a signal that a source is

pub record NamedFacts (values : List Bit4) (src : E.Source) (first len : ℕ) : Type 0 where
  pub ends : first + len ≤ length values
  pub long : len ≡ source_length src
  pub is : map (state_of values) (count_from first len) ≡ source_value (state_of values) src

pub named_facts : (values : List Bit4) (src : E.Source) (first len : ℕ) → IsSignal src → source_within (length values) src ≡ true → ((s : E.Signal) → src ≡ E.OfSignal s → first ≡ s.first) → ((s : E.Signal) → src ≡ E.OfSignal s → len ≡ E.signal_length s) → NamedFacts values src first len
named_facts values (E.OfConstant bits) first len named within begins long = absurd named
named_facts values (E.OfSignal s) first len named within begins long =
    let f = begins s refl in
    let l = long s refl in
    let ends = signal_ends (length values) s within in
    record {
      ends = omega (arith, ends, f, l);
      long = l;
      is = ap₂ (λ m n. map (state_of values) (count_from m n)) f l;
    }

pub source_long : (state : State) (src : E.Source) → length (source_value state src) ≡ source_length src
source_long state (E.OfConstant bits) = refl
source_long state (E.OfSignal s) = length-map (bits_of_signal s) state ∙ length_count s.first (E.signal_length s)

-- ---- a word

pub word_ends : (n : ℕ) (s : E.Signal) (first count len : ℕ) (range : Range) → signal_within n s ≡ true → first ≡ s.first → range ≡ E.addresses s → count ≡ range_length range → len ≡ E.word_length s → first + count * len ≤ n
word_ends n s first count len range within begins range_is counted long =
    let ends = signal_ends n s within in
    let all : count * len ≡ E.signal_length s = ap₂ ◌*◌ (counted ∙ ap range_length range_is) long ∙ sym (words_are s) in
    omega (arith, ends, begins, all)

pub word_selected : (state : State) (s : E.Signal) (signed : Bool) (address v : BitList) (first count len : ℕ) (range : Range) (place : Option ℕ) → first ≡ s.first → range ≡ E.addresses s → count ≡ range_length range → len ≡ E.word_length s
    → place ≡ (if all_known address then place_of range (integer signed address) else None) → v ≡ map (at_place X (map state (count_from first (count * len)))) (spread len place) → v ≡ select_word s signed (read state (bits_of_signal s)) address
word_selected state s signed address v first count len range place begins range_is counted long place_is is =
    let all : count * len ≡ E.signal_length s = ap₂ ◌*◌ (counted ∙ ap range_length range_is) long ∙ sym (words_are s) in
    is ∙ ap₂ (λ m n. map (at_place X (map state (count_from m n))) (spread len place)) begins all
    ∙ ap₂ (λ n p. map (at_place X (read state (bits_of_signal s))) (spread n p)) long (place_is ∙ ap (λ r. if all_known address then place_of r (integer signed address) else None) range_is)

pub word_long : (s : E.Signal) (signed : Bool) (a address : BitList) → length (select_word s signed a address) ≡ E.word_length s
word_long s signed a address = length-map _ (at_place X a) ∙ length_word s signed address
