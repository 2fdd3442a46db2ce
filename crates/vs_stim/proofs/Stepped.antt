-- Where a reader is, by its parts; and a line's refusal before and after a CR.
use Rattle.std.proofs.Common.{◌≡◌, ◌≢◌, ℕ, ◌+◌, true, List, [], ◌∷◌, length, refl, ap, ◌∙◌, arith, inl, inr}
use Rattle.std.proofs.lemmas.Bool.Decides.{eqb_tells}
use Rattle.vs_stim.specs.Lines.{lines, no_lf}
use Rattle.vs_stim.specs.Reading.{Place, limits, too_long}
use Rattle.vs_stim.specs.declared.row.Row.{Row}
use Rattle.vs_stim.specs.Row.{columns_in, SameForm}
use Rattle.vs_stim.specs.Source.{Open, line_refusal, GoesOn}

pub same_open : (a b : Open) → a.at.number ≡ b.at.number → a.at.start ≡ b.at.start → a.taken ≡ b.taken → a.rest ≡ b.rest → a ≡ b
same_open a b p q r s = λ i. record { at = record { number = p i; start = q i }; taken = r i; rest = s i }

pub refusal-cr : (at : Place) (n : ℕ) (rest : List ℕ) → line_refusal (record { at = at; taken = n; rest = 13 ∷ rest }) ≡ line_refusal (record { at = at; taken = n + 1; rest = rest })
refusal-cr at n rest =
    let more : n + length (13 ∷ (lines rest).first.bytes) ≡ n + 1 + length (lines rest).first.bytes = omega arith in
    ap (λ k. too_long limits at k (lines rest).first.ended) more

-- a byte of the line was read
pub byte_read : (o p : Open) (byte : ℕ) → byte ≢ 10 → o.rest ≡ byte ∷ p.rest → p.at.number ≡ o.at.number → p.at.start ≡ o.at.start → p.taken ≡ o.taken + 1 → GoesOn o p
byte_read o p byte h e n s t = record {
  bytes = byte ∷ [];
  inner = no_lf_alone;
  rest = e;
  taken = t;
  at = λ i. record { number = n i; start = s i };
}
  where
    no_lf_alone : no_lf (byte ∷ []) ≡ true
    no_lf_alone = elim (eqb_tells byte 10) [ inl k ↦ absurd (h k.1) | inr k ↦ rw k.0 refl ]

-- a row that keeps its form keeps its columns
pub same_columns : (old new : Row) → SameForm old new → columns_in new ≡ columns_in old
same_columns old new h = λ i. record { inputs = (h.columns i).items; expected = (h.expected i).items }

pub same_form : (row : Row) → SameForm row row
same_form row = record { columns = refl; expected = refl; lengths = refl; wanted = refl }

pub form_on : (a b c : Row) → SameForm a b → SameForm b c → SameForm a c
form_on a b c h k = record { columns = k.columns ∙ h.columns; expected = k.expected ∙ h.expected; lengths = k.lengths ∙ h.lengths; wanted = k.wanted ∙ h.wanted }
