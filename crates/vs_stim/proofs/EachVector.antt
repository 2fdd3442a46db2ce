-- What holds of each vector that is taken holds of all vectors of a reading.
use Rattle.std.proofs.Common.{◌≡◌, ℕ, zero, suc, ◌+◌, Bool, true, false, List, [], ◌∷◌, length, refl}
use Rattle.std.proofs.lemmas.List.Elements.{All-from_recursion, recursion_from_All}
use Rattle.std.specs.Prelude.{All, Option, Some, None}
use Rattle.std.specs.List.{AllByRecursion}
use Rattle.vs_four.specs.declared.Bit4.{Bit4}
use Rattle.vs_stim.specs.declared.error.StimError.{StimError}
use Rattle.vs_stim.specs.declared.error.StimError.TheVariants.{BadHeader, BadVector}
use Rattle.vs_stim.specs.Header.{PortLists, ColumnLists, IsInput, lacks_output}
use Rattle.vs_stim.specs.Vectors.{Entry}
use Rattle.vs_stim.specs.Lines.{Line, lines, all_lines, content}
use Rattle.vs_stim.specs.Reading.{Reading, refused, with_vector, limits, Place, behind, too_long, Said, header_line, vector_line, not_taken, first_place, reading, read_vectors, read_header}
use Rattle.vs_stim.specs.Reading.Said.{Skipped, Malformed, Given}
use Rattle.vs_stim.proofs.Heads.{IsHead, IfGiven, header_given}
use Rattle.vs_stim.proofs.Turns.{if_named}

abbrev Vector : Type 0
Vector = List (List Bit4)

-- a vector that may be taken behind a header of these inputs
pub record IsTaken (is : PortLists) (v : Vector) : Type 0 where
  pub columns : ColumnLists
  pub entry : Entry
  pub values : v ≡ entry.values
  pub text : List ℕ
  pub number : ℕ
  pub count : ℕ
  pub head : IsHead is.inputs columns.inputs
  pub given : vector_line columns text ≡ Given entry
  pub taken : not_taken limits columns number count entry ≡ None

-- all vectors of a reading are such
abbrev AreTaken : PortLists → Reading → Type 0
AreTaken is r = AllByRecursion (IsTaken is) r.vectors

vectors_taken : (is : PortLists) (cs : ColumnLists) (p : Place) (count : ℕ) (ls : List Line) → IsHead is.inputs cs.inputs → AreTaken is (read_vectors limits cs p count ls)
vectors_taken is cs p zero [] head = tt
vectors_taken is cs p (suc n) [] head = tt
vectors_taken is cs p count (l ∷ ls) head =
    go (too_long limits p (length l.bytes) l.ended) (vector_line cs (content l)) refl (read_vectors limits cs (behind p (length l.bytes)) count ls) (read_vectors limits cs (behind p (length l.bytes)) (count + 1) ls)
    (vectors_taken is cs (behind p (length l.bytes)) count ls head) (vectors_taken is cs (behind p (length l.bytes)) (count + 1) ls head)
  where
    last : (v : Entry) (o : Option StimError) (given : Reading) → vector_line cs (content l) ≡ Given v → not_taken limits cs p.number count v ≡ o → AreTaken is given
        → AreTaken is (elim o as (λ _. Reading) [ Some e ↦ refused e | None ↦ with_vector v given ])
    last v (Some e) given line taken later = tt
    last v None given line taken later = (record { columns = cs; entry = v; values = refl; text = content l; number = p.number; count = count; head = head; given = line; taken = taken }, later)

    go : (long : Option StimError) (s : Said Entry) → vector_line cs (content l) ≡ s → (skipped given : Reading) → AreTaken is skipped → AreTaken is given
        → AreTaken is (elim long as (λ _. Reading) [
          | Some e ↦ refused e
          | None ↦ elim s as (λ _. Reading) [
            | Skipped ↦ skipped
            | Malformed ↦ refused (BadVector p.number)
            | Given v ↦ elim (not_taken limits cs p.number count v) as (λ _. Reading) [ Some e ↦ refused e | None ↦ with_vector v given ]
          ]
        ])
    go (Some e) s line skipped given k m = tt
    go None Skipped line skipped given k m = k
    go None Malformed line skipped given k m = tt
    go None (Given v) line skipped given k m = last v (not_taken limits cs p.number count v) given line refl m

named_taken : (is : PortLists) (b : Bool) (r : Reading) → AreTaken is r → AreTaken is (if_named b r)
unfolding if_named
named_taken is true r h = tt
named_taken is false r h = h

header_taken : (is : PortLists) (p : Place) (ls : List Line) → AllByRecursion IsInput is.inputs → AreTaken is (read_header limits is p ls)
unfolding if_named
header_taken is p [] h = tt
header_taken is p (l ∷ ls) h =
    go (too_long limits p (length l.bytes) l.ended) (header_line is (content l)) (read_header limits is (behind p (length l.bytes)) ls) (λ cs. if_named (lacks_output is cs) (read_vectors limits cs (behind p (length l.bytes)) 0 ls)) (header_given is (content l) h) (header_taken is (behind p (length l.bytes)) ls h)
    (λ cs head. named_taken is (lacks_output is cs) (read_vectors limits cs (behind p (length l.bytes)) 0 ls) (vectors_taken is cs (behind p (length l.bytes)) 0 ls head))
  where
    go : (long : Option StimError) (s : Said ColumnLists) (skipped : Reading) (given : ColumnLists → Reading) → IfGiven (λ cs. IsHead is.inputs cs.inputs) s → AreTaken is skipped
        → ((cs : ColumnLists) → IsHead is.inputs cs.inputs → AreTaken is (given cs))
        → AreTaken is (elim long as (λ _. Reading) [
          | Some e ↦ refused e
          | None ↦ elim s as (λ _. Reading) [ Skipped ↦ skipped | Malformed ↦ refused BadHeader | Given cs ↦ given cs ]
        ])
    go (Some e) s skipped given h k m = tt
    go None Skipped skipped given h k m = k
    go None Malformed skipped given h k m = tt
    go None (Given cs) skipped given h k m = m cs h

-- What holds of each vector that may be taken holds of all vectors of a text.
pub each_vector : (is : PortLists) (text : List ℕ) (P : Vector → Type 0) → All IsInput is.inputs → ((v : Vector) → IsTaken is v → P v) → All P (reading is text).vectors
each_vector is text P h f =
    All-from_recursion P (reading is text).vectors (mapped (reading is text).vectors (header_taken is first_place (all_lines (lines text)) (recursion_from_All IsInput is.inputs h)))
  where
    mapped : (vs : List Vector) → AllByRecursion (IsTaken is) vs → AllByRecursion P vs
    mapped [] k = tt
    mapped (v ∷ vs) k = (f v k.0, mapped vs k.1)
