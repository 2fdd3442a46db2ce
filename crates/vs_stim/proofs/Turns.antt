-- What a text gives, line by line.
use Rattle.std.proofs.Common.{◌≡◌, ℕ, ◌+◌, ◌≤◌, Bool, true, false, List, [], length, refl, ap, sym, ◌∙◌, arith, zero-add}
use Rattle.std.proofs.lemmas.Bool.{le-ltb}
use Rattle.std.specs.Prelude.{Option, Some, None, IsTrue}
use Rattle.vs_stim.specs.declared.error.StimError.{StimError}
use Rattle.vs_stim.specs.declared.error.StimError.TheVariants.{BadHeader, NoExpectation, BadVector, StimulusTooLong}
use Rattle.vs_stim.specs.Lines.{lines, all_lines}
use Rattle.vs_stim.specs.Reading.{Reading, refused, with_vector, limits, behind, too_long, Said, said, header_line, header_fault, vector_line, not_taken, at_end, read_vectors, read_header}
use Rattle.vs_stim.specs.Reading.Said.{Skipped, Malformed, Given}
use Rattle.vs_stim.specs.Fields.{is_skipped, fields}
use Rattle.vs_stim.specs.Header.{PortLists, ColumnLists, lacks_output}
use Rattle.vs_stim.specs.Vectors.{Entry, entry}
use Rattle.vs_stim.specs.Known.{lines_tell}
use Rattle.vs_stim.specs.Source.{Open, line_length, line_refusal, says, vectors_from, header_from, header_fault_from, text_tells, is_told, Passes}

refusal_here : (o : Open) → o.taken ≡ 0 → too_long limits o.at (length (lines o.rest).first.bytes) (lines o.rest).first.ended ≡ line_refusal o
refusal_here o z = ap (λ n. too_long limits o.at n (lines o.rest).first.ended) (sym (zero-add (length (lines o.rest).first.bytes)) ∙ ap (λ t. t + length (lines o.rest).first.bytes) (sym z))

length_here : (o : Open) → o.taken ≡ 0 → line_length o ≡ length (lines o.rest).first.bytes
length_here o z = ap (λ t. t + length (lines o.rest).first.bytes) z ∙ zero-add (length (lines o.rest).first.bytes)

-- a line behind the header, by its refusal, by what it says and by whether a vector is taken
vector_turn : ColumnLists → Open → ℕ → Option StimError → Said Entry → (Entry → Option StimError) → Reading
vector_turn cs o count r s taken =
    elim r [
      | Some e ↦ refused e
      | None ↦ elim s [
        | Skipped ↦ read_vectors limits cs (behind o.at (length (lines o.rest).first.bytes)) count (lines o.rest).later
        | Malformed ↦ refused (BadVector o.at.number)
        | Given v ↦ elim (taken v) [
          | Some e ↦ refused e
          | None ↦ with_vector v (read_vectors limits cs (behind o.at (length (lines o.rest).first.bytes)) (count + 1) (lines o.rest).later)
        ]
      ]
    ]

turned : (cs : ColumnLists) (o : Open) (count : ℕ) (r : Option StimError) (s : Said Entry) → o.taken ≡ 0 → line_refusal o ≡ r → vector_line cs (says o) ≡ s → vectors_from cs count o ≡ vector_turn cs o count r s (not_taken limits cs o.at.number count)
unfolding vector_turn
turned cs o count r s z e f = λ i. vector_turn cs o count ((refusal_here o z ∙ e) i) (f i) (not_taken limits cs o.at.number count)

-- the lines behind this one
later_vectors : (cs : ColumnLists) (o p : Open) (count : ℕ) → o.taken ≡ 0 → Passes false o p → read_vectors limits cs (behind o.at (length (lines o.rest).first.bytes)) count (lines o.rest).later ≡ vectors_from cs count p
later_vectors cs o p count z h = λ i. read_vectors limits cs (sym (h.at refl ∙ ap (behind o.at) (length_here o z)) i) count (sym (h.more refl) i)

pub vectors_skipped : (cs : ColumnLists) (o p : Open) (count : ℕ) → o.taken ≡ 0 → Passes false o p → vector_line cs (says o) ≡ Skipped → vectors_from cs count o ≡ vectors_from cs count p
unfolding vector_turn
vectors_skipped cs o p count z h s = turned cs o count None Skipped z h.kept s ∙ later_vectors cs o p count z h

-- a line before the vectors, by its refusal and by what it says
fault_turn : PortLists → Open → Option StimError → Said ColumnLists → Option StimError
fault_turn is o r s =
    elim r [
      | Some e ↦ Some e
      | None ↦ elim s [
        | Skipped ↦ header_fault limits is (behind o.at (length (lines o.rest).first.bytes)) (lines o.rest).later
        | Malformed ↦ Some BadHeader
        | Given cs ↦ elim (lacks_output is cs) [ true ↦ Some NoExpectation | false ↦ None ]
      ]
    ]

pub fault_skipped : (is : PortLists) (o p : Open) → o.taken ≡ 0 → Passes false o p → header_line is (says o) ≡ Skipped → header_fault_from is o ≡ header_fault_from is p
unfolding fault_turn
fault_skipped is o p z h s =
    let turned : header_fault_from is o ≡ fault_turn is o None Skipped = λ i. fault_turn is o ((refusal_here o z ∙ h.kept) i) (s i) in
    turned ∙ (λ i. header_fault limits is (sym (h.at refl ∙ ap (behind o.at) (length_here o z)) i) (sym (h.more refl) i))

-- why a header is refused, by whether it lacks an output
fault_lacking : Bool → Option StimError
fault_lacking b = elim b [ true ↦ Some NoExpectation | false ↦ None ]

fault_given : (is : PortLists) (cs : ColumnLists) (o p : Open) (last : Bool) (b : Bool) → o.taken ≡ 0 → Passes last o p → header_line is (says o) ≡ Given cs → lacks_output is cs ≡ b
    → header_fault_from is o ≡ fault_lacking b
unfolding fault_turn fault_lacking
fault_given is cs o p last b z h s e =
    let turned : header_fault_from is o ≡ fault_turn is o None (Given cs) = λ i. fault_turn is o ((refusal_here o z ∙ h.kept) i) (s i) in
    turned ∙ ap fault_lacking e

-- A header that names no output is refused where it has to name one, and else it is none.
pub fault_lacked : (is : PortLists) (cs : ColumnLists) (o p : Open) (last : Bool) → o.taken ≡ 0 → Passes last o p → header_line is (says o) ≡ Given cs → lacks_output is cs ≡ true
    → header_fault_from is o ≡ Some NoExpectation
unfolding fault_lacking
fault_lacked is cs o p last z h s e = fault_given is cs o p last true z h s e

pub fault_found : (is : PortLists) (cs : ColumnLists) (o p : Open) (last : Bool) → o.taken ≡ 0 → Passes last o p → header_line is (says o) ≡ Given cs → lacks_output is cs ≡ false
    → header_fault_from is o ≡ None
unfolding fault_lacking
fault_found is cs o p last z h s e = fault_given is cs o p last false z h s e

last_vectors : (cs : ColumnLists) (o p : Open) (count : ℕ) → Passes true o p → read_vectors limits cs (behind o.at (length (lines o.rest).first.bytes)) count (lines o.rest).later ≡ at_end count
last_vectors cs o p count h = ap (read_vectors limits cs (behind o.at (length (lines o.rest).first.bytes)) count) (h.none refl)

vectors_given : (cs : ColumnLists) (o : Open) (count : ℕ) (v : Entry) → o.taken ≡ 0 → line_refusal o ≡ None → vector_line cs (says o) ≡ Given v → not_taken limits cs o.at.number count v ≡ None → vectors_from cs count o ≡ with_vector v (read_vectors limits cs (behind o.at (length (lines o.rest).first.bytes)) (count + 1) (lines o.rest).later)
unfolding vector_turn
vectors_given cs o count v z h s n = turned cs o count None (Given v) z h s ∙ (λ i. vector_turn cs o count None (Given v) (λ _. n i))

pub vectors_taken : (cs : ColumnLists) (o p : Open) (count : ℕ) (v : Entry) → o.taken ≡ 0 → Passes false o p → vector_line cs (says o) ≡ Given v → not_taken limits cs o.at.number count v ≡ None → vectors_from cs count o ≡ with_vector v (vectors_from cs (count + 1) p)
vectors_taken cs o p count v z h s n = vectors_given cs o count v z h.kept s n ∙ ap (with_vector v) (later_vectors cs o p (count + 1) z h)

-- nothing is left of the text
pub nothing_left : (cs : ColumnLists) (p : Open) (count : ℕ) → p.rest ≡ [] → p.at.start ≤ 4294967296 → vectors_from cs count p ≡ at_end count
nothing_left cs p count e h = ap (λ r. read_vectors limits cs p.at count (all_lines (lines r))) e ∙ ap past (le-ltb 4294967296 (p.at.start + 0) (omega arith))
  where
    past : Bool → Reading
    past b = elim (elim b as (λ _. Option StimError) [ true ↦ Some StimulusTooLong | false ↦ None ]) as (λ _. Reading) [ Some e ↦ refused e | None ↦ at_end count ]

pub vectors_taken_last : (cs : ColumnLists) (o p : Open) (count : ℕ) (v : Entry) → o.taken ≡ 0 → Passes true o p → p.at.start ≤ 4294967296 → vector_line cs (says o) ≡ Given v → not_taken limits cs o.at.number count v ≡ None → vectors_from cs count o ≡ with_vector v (vectors_from cs (count + 1) p)
vectors_taken_last cs o p count v z h b s n = vectors_given cs o count v z h.kept s n ∙ ap (with_vector v) (last_vectors cs o p (count + 1) h ∙ sym (nothing_left cs p (count + 1) (h.nothing refl) b))

-- A vector was read.
pub vectors_found : (cs : ColumnLists) (o p : Open) (count : ℕ) (v : Entry) (last : Bool) → o.taken ≡ 0 → Passes last o p → p.at.start ≤ 4294967296 → vector_line cs (says o) ≡ Given v → not_taken limits cs o.at.number count v ≡ None → vectors_from cs count o ≡ with_vector v (vectors_from cs (count + 1) p)
vectors_found cs o p count v true z h b s n = vectors_taken_last cs o p count v z h b s n
vectors_found cs o p count v false z h b s n = vectors_taken cs o p count v z h s n

-- what lines behind a header give, by whether it lacks an output
unfoldable pub if_named : Bool → Reading → Reading
if_named b r = elim b [ true ↦ refused NoExpectation | false ↦ r ]

-- a line before the vectors, by its refusal and by what it says
header_turn : PortLists → Open → Option StimError → Said ColumnLists → Reading
header_turn is o r s =
    elim r [
      | Some e ↦ refused e
      | None ↦ elim s [
        | Skipped ↦ read_header limits is (behind o.at (length (lines o.rest).first.bytes)) (lines o.rest).later
        | Malformed ↦ refused BadHeader
        | Given cs ↦ if_named (lacks_output is cs) (read_vectors limits cs (behind o.at (length (lines o.rest).first.bytes)) 0 (lines o.rest).later)
      ]
    ]

header_given : (is : PortLists) (cs : ColumnLists) (o : Open) (b : Bool) → o.taken ≡ 0 → line_refusal o ≡ None → header_line is (says o) ≡ Given cs → lacks_output is cs ≡ b
    → header_from is o ≡ if_named b (read_vectors limits cs (behind o.at (length (lines o.rest).first.bytes)) 0 (lines o.rest).later)
unfolding header_turn if_named
header_given is cs o b z h s e =
    let turned : header_from is o ≡ header_turn is o None (Given cs) = λ i. header_turn is o ((refusal_here o z ∙ h) i) (s i) in
    turned ∙ ap (λ c. if_named c (read_vectors limits cs (behind o.at (length (lines o.rest).first.bytes)) 0 (lines o.rest).later)) e

-- A header was read, with which the text ends.
pub header_last : (is : PortLists) (cs : ColumnLists) (o p : Open) → o.taken ≡ 0 → Passes true o p → p.at.start ≤ 4294967296 → header_line is (says o) ≡ Given cs → lacks_output is cs ≡ false
    → header_from is o ≡ vectors_from cs 0 p
unfolding if_named
header_last is cs o p z h b s e = header_given is cs o false z h.kept s e ∙ last_vectors cs o p 0 h ∙ sym (nothing_left cs p 0 (h.nothing refl) b)

-- A header was read.
pub header_found : (is : PortLists) (cs : ColumnLists) (o p : Open) (last : Bool) → o.taken ≡ 0 → Passes last o p → p.at.start ≤ 4294967296 → header_line is (says o) ≡ Given cs → lacks_output is cs ≡ false
    → header_from is o ≡ vectors_from cs 0 p
unfolding if_named
header_found is cs o p true z h b s e = header_last is cs o p z h b s e
header_found is cs o p false z h b s e = header_given is cs o false z h.kept s e ∙ later_vectors cs o p 0 z h

-- A header was read that names no output, though it has to.
pub header_lacked : (is : PortLists) (cs : ColumnLists) (o p : Open) (last : Bool) → o.taken ≡ 0 → Passes last o p → header_line is (says o) ≡ Given cs → lacks_output is cs ≡ true
    → header_from is o ≡ refused NoExpectation
unfolding if_named
header_lacked is cs o p last z h s e = header_given is cs o true z h.kept s e

-- what is skipped
pub skipped_is : {A : Type 0} (t : List ℕ) (o : Option A) → Skipped ≡ (elim (is_skipped t) as (λ _. Said A) [ true ↦ Skipped | false ↦ said o ]) → is_skipped t ≡ true
skipped_is {A = A} t o e = go (is_skipped t) e
  where
    never : (o : Option A) → Skipped ≡ said o → ⊥
    never None f = cc
    never (Some v) f = cc

    go : (b : Bool) → Skipped ≡ (elim b as (λ _. Said A) [ true ↦ Skipped | false ↦ said o ]) → b ≡ true
    go true f = refl
    go false f = absurd (never o f)

-- what is given isn't skipped
pub given_is : {A : Type 0} (t : List ℕ) (o : Option A) (v : A) → (elim (is_skipped t) as (λ _. Said A) [ true ↦ Skipped | false ↦ said o ]) ≡ Given v → is_skipped t ≡ false
given_is {A = A} t o v e = go (is_skipped t) e
  where
    go : (b : Bool) → (elim b as (λ _. Said A) [ true ↦ Skipped | false ↦ said o ]) ≡ Given v → b ≡ false
    go true f = absurd (cc)
    go false f = refl

-- whether lines tell, by the first one's refusal, its LF, whether it is skipped, and whether the others tell
tell : Option StimError → Bool → Bool → Bool → Bool
tell r e s k = elim r [ Some x ↦ true | None ↦ elim e [ false ↦ false | true ↦ elim s [ false ↦ true | true ↦ k ] ] ]

told_parts : (o : Open) → o.taken ≡ 0 → IsTrue (text_tells o) → tell (line_refusal o) (lines o.rest).first.ended (is_skipped (says o)) (lines_tell (behind o.at (length (lines o.rest).first.bytes)) (lines o.rest).later) ≡ true
unfolding tell
told_parts o z t = sym (ap (λ r. tell r (lines o.rest).first.ended (is_skipped (says o)) (lines_tell (behind o.at (length (lines o.rest).first.bytes)) (lines o.rest).later)) (refusal_here o z)) ∙ t

-- What tells what is read next tells the line.
pub tells_line : (o : Open) → o.taken ≡ 0 → IsTrue (text_tells o) → IsTrue (is_told o)
unfolding tell
tells_line o z t = go (line_refusal o) (lines o.rest).first.ended (is_skipped (says o)) (lines_tell (behind o.at (length (lines o.rest).first.bytes)) (lines o.rest).later) (told_parts o z t)
  where
    go : (r : Option StimError) (e s k : Bool) → tell r e s k ≡ true → (elim r as (λ _. Bool) [ Some x ↦ true | None ↦ e ]) ≡ true
    go (Some x) e s k h = refl
    go None true s k h = refl
    go None false s k h = h

-- Where a line tells what is read next and was skipped, the lines behind it tell.
pub tells_on : (cs : ColumnLists) (o p : Open) → o.taken ≡ 0 → Passes false o p → Skipped ≡ vector_line cs (says o) → IsTrue (text_tells o) → IsTrue (text_tells p)
unfolding tell
tells_on cs o p z h s t =
    let k = lines_tell (behind o.at (length (lines o.rest).first.bytes)) (lines o.rest).later in
    let e = (lines o.rest).first.ended in
    let moved : text_tells p ≡ k = (λ i. lines_tell ((h.at refl ∙ ap (behind o.at) (length_here o z)) i) (h.more refl i)) in
    let known : tell None e true k ≡ true = (λ i. tell (sym h.kept i) e (sym (skipped_is (says o) (entry cs (fields (says o))) s) i) k) ∙ told_parts o z t in
    moved ∙ go e k known
  where
    go : (e k : Bool) → tell None e true k ≡ true → k ≡ true
    go true k h = h
    go false k h = absurd (cc)
