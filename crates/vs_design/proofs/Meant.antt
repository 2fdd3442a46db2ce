-- What a block is taken to do by the rules: it writes the same bits, reads no more, and does the same where its selectors are known.
use Rattle.std.proofs.Common.{◌≡◌, ℕ, Bool, true, false, not, List, [], if◌then◌else◌, length, nat_lt, refl, sym, ap, ◌∙◌, subst}
use Rattle.vs_net.specs.Network.{State}
use Rattle.vs_net.specs.Lawful.{IsKnown}
use Rattle.vs_design.specs.Statements.{Statement}
use Rattle.vs_design.specs.Bodies.{body}
use Rattle.vs_design.specs.Designs.{Process, Continuous, Always, Design}
use Rattle.vs_design.specs.Footprints.{contains, statement_bits, statement_reads, writes_of, without}
use Rattle.vs_design.specs.Fits.{fits_statement}
use Rattle.vs_design.specs.Latches.{latch_bits}
use Rattle.vs_design.specs.Rules.{mixed_in}
use Rattle.vs_design.specs.Selects.{completed, is_lenient, meant, selector_bits}
use Rattle.vs_design.specs.TimeZero.{meant_process}
use Rattle.vs_design.proofs.Lists.{by_test, and_both, contains_filter}
use Rattle.vs_design.proofs.BodyExact.{cond_of}
use Rattle.vs_design.proofs.Blocks.{contains_without}
use Rattle.vs_design.proofs.Completed.{completed_unmixed, completed_fits, completed_bits, completed_reads, completed_keeps, complete_already, completed_same}

same_test : (x y : Bool) → (x ≡ true → y ≡ true) → (y ≡ true → x ≡ true) → x ≡ y
same_test true y f g = sym (f refl)
same_test false true f g = g refl
same_test false false f g = refl

module _ (d : Design) where
  pub meant_plain : (st : Statement) → is_lenient st ≡ false → meant d st ≡ st
  meant_plain st e = ap {B = Statement} (λ (c : Bool). if c then completed d st else st) e

  pub meant_lenient : (st : Statement) → is_lenient st ≡ true → meant d st ≡ completed d st
  meant_lenient st e = ap {B = Statement} (λ (c : Bool). if c then completed d st else st) e

  pub meant_unmixed : (st : Statement) → mixed_in false st ≡ [] → mixed_in false (meant d st) ≡ []
  meant_unmixed st f = cond_of (λ (x : Statement). mixed_in false x ≡ []) (is_lenient st) (completed d st) st (completed_unmixed d st f) f

  pub meant_fits : (st : Statement) → fits_statement st ≡ true → fits_statement (meant d st) ≡ true
  meant_fits st f = cond_of (λ (x : Statement). fits_statement x ≡ true) (is_lenient st) (completed d st) st (completed_fits d st f) f

  pub meant_bits : (st : Statement) (b : ℕ) → contains (statement_bits (meant d st)) b ≡ contains (statement_bits st) b
  meant_bits st b = cond_of (λ (x : Statement). contains (statement_bits x) b ≡ contains (statement_bits st) b) (is_lenient st) (completed d st) st
      (same_test (contains (statement_bits (completed d st)) b) (contains (statement_bits st) b) (completed_bits d st b) (completed_keeps d st b)) refl

  pub meant_reads : (st : Statement) (b : ℕ) → contains (statement_reads (meant d st)) b ≡ true → contains (statement_reads st) b ≡ true
  meant_reads st b = cond_of (λ (x : Statement). contains (statement_reads x) b ≡ true → contains (statement_reads st) b ≡ true) (is_lenient st) (completed d st) st (completed_reads d st b) (λ h. h)

  -- what it reads and doesn't write
  pub meant_needs : (st : Statement) (b : ℕ) → contains (without (statement_reads (meant d st)) (statement_bits (meant d st))) b ≡ true → contains (without (statement_reads st) (statement_bits st)) b ≡ true
  meant_needs st b h =
      let k = and_both (contains (statement_reads (meant d st)) b) (not (contains (statement_bits (meant d st)) b)) (sym (contains_filter (λ b. not (contains (statement_bits (meant d st)) b)) (statement_reads (meant d st)) b) ∙ h) in
      contains_without (statement_reads st) (statement_bits st) b (meant_reads st b k.0) (sym (meant_bits st b) ∙ no_more (contains (statement_bits (meant d st)) b) k.1)
    where
      no_more : (c : Bool) → not c ≡ true → c ≡ false
      no_more true h = cc
      no_more false h = refl

  pub meant_writes : (x : Process) (b : ℕ) → contains (writes_of (meant_process d x)) b ≡ contains (writes_of x) b
  meant_writes (Continuous place port target_place target e) b = refl
  meant_writes (Always place star events st) b = meant_bits st b

  -- the selectors of a lenient block
  abbrev pub own_selectors : Statement → List ℕ
  own_selectors st = if is_lenient st then selector_bits d st else []

  pub meant_same : (st : Statement) (s : State) → fits_statement st ≡ true → ((b : ℕ) → contains (own_selectors st) b ≡ true → IsKnown (s b) × (contains (statement_bits st) b ≡ false)) → body (meant d st) s ≡ body st s
  meant_same st s f k = go (is_lenient st) refl k
    where
      go : (c : Bool) → is_lenient st ≡ c → ((b : ℕ) → contains (if c then selector_bits d st else []) b ≡ true → IsKnown (s b) × (contains (statement_bits st) b ≡ false)) → body (if c then completed d st else st) s ≡ body st s
      go true e h = completed_same d st s f h
      go false e h = refl

  -- a lenient statement that leaves no bit unassigned when completed has a selector
  pub lenient_selects : (st : Statement) → latch_bits (meant d st) ≡ [] → selector_bits d st ≡ [] → is_lenient st ≡ false
  lenient_selects st l n = by_test (is_lenient st)
      (λ e. let none : latch_bits st ≡ [] = subst (λ (x : Statement). latch_bits x ≡ []) (meant_lenient st e ∙ complete_already d st n) l in ap {B = Bool} (λ (xs : List ℕ). nat_lt 0 (length xs)) none)
      (λ e. e)
