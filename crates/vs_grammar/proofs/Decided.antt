-- One token decides everywhere in the grammar of design texts.
use Rattle.std.proofs.Common.{◌≡◌, ℕ, suc, zero, ◌<◌, ◌≤◌, Bool, true, ◌&&◌, refl, arith, ◌⊎◌, inl, inr}
use Rattle.std.specs.Prelude.{[], ◌∷◌, slice_get, Option, None, not, ◌||◌}
use Rattle.std.proofs.Common.{ap}
use Rattle.std.proofs.lemmas.Option.{slice_get_past}
use Rattle.std.proofs.lemmas.Bool.{and_parts}
use Rattle.vs_grammar.specs.Predictive.{is_right, is_decided, is_subset, firsts_of, can_be_empty, derives_some, derives_some_by, IsPredictive}
use Rattle.vs_grammar.specs.Verilog.{verilog, rules, rule_count, rule_phrase, rule_is_empty, rule_firsts, rule_follows, Rule as rule, r}
use Rattle.vs_grammar.specs.Kinds.{end_of_text}

abbrev every : (ℕ → Bool) → ℕ → Bool
every f zero = true
every f (suc n) = f n && every f n

every_one : (f : ℕ → Bool) (n k : ℕ) → every f n ≡ true → k < n → f k ≡ true
every_one f zero k e h = absurd (omega arith)
every_one f (suc n) k e h = let p = and_parts (f n) (every f n) e in elim (split k n h) [ inl q ↦ every_one f n k p.1 q | inr q ↦ rw q p.0 ]
  where
    split : (k n : ℕ) → k < suc n → (k < n) ⊎ (k ≡ n)
    split k n h = grind arith

-- each rule by computation
rows : every (is_right verilog) rule_count ≡ true
rows = refl

samples : every (derives_some verilog 21) rule_count ≡ true
samples = refl

-- ---- past the last rule nothing stands

-- the test of a row, by what it says
abbrev says_row : Option rule → Bool
says_row o =
    is_decided verilog (rule_phrase o) (rule_follows o)
    && (is_subset (firsts_of verilog (rule_phrase o)) (rule_firsts o) && (not (can_be_empty verilog (rule_phrase o)) || rule_is_empty o))

none_past : (n : ℕ) → rule_count ≤ n → slice_get rules n ≡ None
none_past n h = slice_get_past rules n h

right_past : (n : ℕ) → rule_count ≤ n → is_right verilog n ≡ true
right_past n h = ap says_row (none_past n h)

derives_past : (n : ℕ) → rule_count ≤ n → derives_some verilog 21 n ≡ true
derives_past n h = ap (λ (o : Option rule). derives_some_by verilog (derives_some verilog 20) (rule_phrase o)) (none_past n h)

in_or_past : (n : ℕ) → (n < rule_count) ⊎ (rule_count ≤ n)
in_or_past n = grind arith

right : (n : ℕ) → is_right verilog n ≡ true
right n = elim (in_or_past n) [ inl h ↦ every_one (is_right verilog) rule_count n rows h | inr h ↦ right_past n h ]

derives : (n : ℕ) → derives_some verilog 21 n ≡ true
derives n = elim (in_or_past n) [ inl h ↦ every_one (derives_some verilog 21) rule_count n samples h | inr h ↦ derives_past n h ]

source_decided : is_decided verilog (r rule.Source) (end_of_text ∷ []) ≡ true
source_decided = refl

pub verilog_is_predictive : IsPredictive verilog (r rule.Source) end_of_text
verilog_is_predictive = record { right = right; steps = 21; derives = derives; whole = source_decided }
