-- What a table has after the turn of a block.
use Rattle.std.proofs.Common.{◌≡◌, ℕ, ◌≢◌, Bool, true, false, List, [], ◌∷◌, refl, sym, ap, ap₂, ◌∙◌, ◌⊎◌, inl, inr}
use Rattle.std.specs.Prelude.{◌||◌, ◌&&◌, ◌==◌, if◌then◌else◌}
use Rattle.std.specs.List.{list_all}
use mathlib.Core.Path.{fun_ext}
use Rattle.std.proofs.lemmas.Bool.{cond-true, cond-false}
use Rattle.vs_four.specs.declared.Bit4.TheVariants.{X}
use Rattle.vs_design.specs.Footprints.{contains, statement_bits}
use Rattle.vs_design.specs.Lifted.{Family}
use Rattle.vs_design.specs.LiftedBodies.{lifted_body}
use Rattle.vs_design.specs.Rules.{mixed_in}
use Rattle.vs_design.specs.Sets.{only, any_value, union, is_only_x}
use Rattle.vs_design.specs.Sleepers.{at_once}
use Rattle.vs_design.specs.Statements.{Statement}
use Rattle.vs_design.specs.TimeZero.{before_run, block_sets, is_quiet, early_end, late_end}
use Rattle.vs_sets.specs.Branches.{replaced}
use Rattle.vs_sets.specs.Laws.{BlockingIsAtOnce}
use Rattle.vs_sets.proofs.Families.{same_or_other}
use Rattle.vs_sets.proofs.Unwritten.{body_other}
use Rattle.vs_sets.proofs.Running.{same_truth}

-- the bits are those that the statement writes
abbrev pub AreOwn : List ℕ → Statement → Type 0
AreOwn bits s = (b : ℕ) → contains bits b ≡ contains (statement_bits s) b

pub began : (bits : List ℕ) (s : Statement) (f : Family) → AreOwn bits s → replaced bits (λ b. any_value) f ≡ before_run (statement_bits s) f
began bits s f own = fun_ext (λ b. ap (λ k. if k then any_value else f b) (own b))

pub ran : BlockingIsAtOnce → (bits : List ℕ) (s : Statement) (f g h : Family) → AreOwn bits s → mixed_in false s ≡ [] → g ≡ replaced bits (λ b. any_value) f → h ≡ lifted_body (at_once s) g → h ≡ block_sets s f
ran law bits s f g h own m e k = k ∙ ap₂ lifted_body (law s m) (e ∙ began bits s f own)

-- a bit that isn't its own keeps its set
pub kept : BlockingIsAtOnce → (s : Statement) (f : Family) (b : ℕ) → mixed_in false s ≡ [] → contains (statement_bits s) b ≡ false → block_sets s f b ≡ f b
kept law s f b m h = ap (λ t. lifted_body t (before_run (statement_bits s) f) b) (sym (law s m)) ∙ body_other s (before_run (statement_bits s) f) b h ∙ cond-false (contains (statement_bits s) b) _ _ h

-- ---- all of its bits

all_of_each : (p : ℕ → Bool) (xs : List ℕ) → ((b : ℕ) → contains xs b ≡ true → p b ≡ true) → list_all p xs ≡ true
all_of_each p [] h = refl
all_of_each p (x ∷ xs) h = both (p x) (list_all p xs) (h x (ap (λ k. k || contains xs x) (self (same_or_other x x)))) (all_of_each p xs (λ b k. h b (or_right (b == x) (contains xs b) k)))
  where
    both : (a b : Bool) → a ≡ true → b ≡ true → (a && b) ≡ true
    both true b p q = q
    both false b p q = p

    or_right : (a b : Bool) → b ≡ true → (a || b) ≡ true
    or_right true b k = refl
    or_right false b k = k

    self : (((x == x) ≡ true) × (x ≡ x)) ⊎ (((x == x) ≡ false) × (x ≢ x)) → (x == x) ≡ true
    self (inl e) = e.0
    self (inr e) = absurd (e.1 refl)

each_of_all : (p : ℕ → Bool) (xs : List ℕ) → list_all p xs ≡ true → (b : ℕ) → contains xs b ≡ true → p b ≡ true
each_of_all p [] h b k = absurd (let z : ⊥ = cc in z)
each_of_all p (x ∷ xs) h b k = at (same_or_other b x) k (each_of_all p xs (right (p x) _ h) b) where
  left : (a b : Bool) → (a && b) ≡ true → a ≡ true
  left true b h = refl
  left false b h = h

  right : (a b : Bool) → (a && b) ≡ true → b ≡ true
  right true b h = h
  right false b h = absurd (let z : ⊥ = cc in z)

  at : (((b == x) ≡ true) × (b ≡ x)) ⊎ (((b == x) ≡ false) × (b ≢ x)) → ((b == x) || contains xs b) ≡ true → (contains xs b ≡ true → p b ≡ true) → p b ≡ true
  at (inl e) k rest = ap p e.1 ∙ left (p x) _ h
  at (inr e) k rest = rest (sym (ap (λ q. q || contains xs b) e.0) ∙ k)

-- lists with the same members pass the same tests
pub all_same : (p : ℕ → Bool) (xs ys : List ℕ) → ((b : ℕ) → contains xs b ≡ contains ys b) → list_all p xs ≡ list_all p ys
all_same p xs ys h =
    same_truth _ _ (λ e. all_of_each p ys (λ b k. each_of_all p xs e b (h b ∙ k))) (λ e. all_of_each p xs (λ b k. each_of_all p ys e b (sym (h b) ∙ k)))

pub quiet_is : (bits : List ℕ) (s : Statement) (f g : Family) → AreOwn bits s → g ≡ block_sets s f → list_all (λ b. is_only_x (g b)) bits ≡ is_quiet s f
quiet_is bits s f g own e = ap (λ (h : Family). list_all (λ b. is_only_x (h b)) bits) e ∙ all_same (λ b. is_only_x (block_sets s f b)) bits (statement_bits s) own

-- ---- turns

pub asleep_early : (bits : List ℕ) (s : Statement) (f g : Family) (asleep lenient : Bool) → AreOwn bits s → asleep ≡ true → g ≡ replaced bits (λ b. only X) f
    → g ≡ (λ b. early_end (contains (statement_bits s) b) asleep lenient (is_quiet s f) (block_sets s f b) (f b))
asleep_early bits s f g asleep lenient own a e =
    e ∙ fun_ext (λ b. ap₂ (λ k l. if k then (if l then only X else (if lenient then any_value else (if is_quiet s f then block_sets s f b else union (only X) (block_sets s f b)))) else f b) (own b) (sym a))

pub lenient_early : (bits : List ℕ) (s : Statement) (f g : Family) (asleep lenient : Bool) → AreOwn bits s → asleep ≡ false → lenient ≡ true → g ≡ replaced bits (λ b. any_value) f
    → g ≡ (λ b. early_end (contains (statement_bits s) b) asleep lenient (is_quiet s f) (block_sets s f b) (f b))
lenient_early bits s f g asleep lenient own a m e =
    e
    ∙ fun_ext (λ b. ap₂ (λ k l. if k then (if l then only X else any_value) else f b) (own b) (sym a)
    ∙ ap (λ l. if contains (statement_bits s) b then (if asleep then only X else (if l then any_value else (if is_quiet s f then block_sets s f b else union (only X) (block_sets s f b)))) else f b) (sym m))

-- where it is quiet it stays as it ran, and else x is added
pub quiet_early : BlockingIsAtOnce → (bits : List ℕ) (s : Statement) (f g : Family) (asleep lenient : Bool) → AreOwn bits s → mixed_in false s ≡ [] → asleep ≡ false → lenient ≡ false → g ≡ block_sets s f → list_all (λ b. is_only_x (g b)) bits ≡ true
    → g ≡ (λ b. early_end (contains (statement_bits s) b) asleep lenient (is_quiet s f) (block_sets s f b) (f b))
quiet_early law bits s f g asleep lenient own m a strict e q = e ∙ fun_ext (λ b. at b (contains (statement_bits s) b) refl) where
  quiet : is_quiet s f ≡ true
  quiet = sym (quiet_is bits s f g own e) ∙ q

  at : (b : ℕ) (k : Bool) → contains (statement_bits s) b ≡ k → block_sets s f b ≡ early_end (contains (statement_bits s) b) asleep lenient (is_quiet s f) (block_sets s f b) (f b)
  at b true k = sym (cond-true (contains (statement_bits s) b) _ _ k ∙ cond-false asleep _ _ a ∙ cond-false lenient _ _ strict ∙ cond-true (is_quiet s f) _ _ quiet)
  at b false k = kept law s f b m k ∙ sym (cond-false (contains (statement_bits s) b) _ _ k)

pub stirred_early : BlockingIsAtOnce → (bits : List ℕ) (s : Statement) (f g h : Family) (asleep lenient : Bool) → AreOwn bits s → mixed_in false s ≡ [] → asleep ≡ false → lenient ≡ false → g ≡ block_sets s f → list_all (λ b. is_only_x (g b)) bits ≡ false
    → h ≡ replaced bits (λ b. union (only X) (g b)) g → h ≡ (λ b. early_end (contains (statement_bits s) b) asleep lenient (is_quiet s f) (block_sets s f b) (f b))
stirred_early law bits s f g h asleep lenient own m a strict e q k =
    k ∙ ap (λ (g : Family). replaced bits (λ b. union (only X) (g b)) g) e ∙ fun_ext (λ b. at b (contains (statement_bits s) b) refl)
  where
    stirred : is_quiet s f ≡ false
    stirred = sym (quiet_is bits s f g own e) ∙ q

    at : (b : ℕ) (k : Bool) → contains (statement_bits s) b ≡ k → replaced bits (λ b. union (only X) (block_sets s f b)) (block_sets s f) b ≡ early_end (contains (statement_bits s) b) asleep lenient (is_quiet s f) (block_sets s f b) (f b)
    at b true k = cond-true (contains bits b) _ _ (own b ∙ k) ∙ sym (cond-true (contains (statement_bits s) b) _ _ k ∙ cond-false asleep _ _ a ∙ cond-false lenient _ _ strict ∙ cond-false (is_quiet s f) _ _ stirred)
    at b false k = cond-false (contains bits b) _ _ (own b ∙ k) ∙ kept law s f b m k ∙ sym (cond-false (contains (statement_bits s) b) _ _ k)

pub awake_late : BlockingIsAtOnce → (bits : List ℕ) (s : Statement) (f g : Family) (asleep : Bool) → AreOwn bits s → mixed_in false s ≡ [] → asleep ≡ false → g ≡ block_sets s f
    → g ≡ (λ b. late_end (contains (statement_bits s) b) asleep (block_sets s f b) (f b))
awake_late law bits s f g asleep own m a e = e ∙ fun_ext (λ b. at b (contains (statement_bits s) b) refl) where
  at : (b : ℕ) (k : Bool) → contains (statement_bits s) b ≡ k → block_sets s f b ≡ late_end (contains (statement_bits s) b) asleep (block_sets s f b) (f b)
  at b true k = sym (cond-true (contains (statement_bits s) b) _ _ k ∙ cond-false asleep _ _ a)
  at b false k = kept law s f b m k ∙ sym (cond-false (contains (statement_bits s) b) _ _ k)

pub asleep_late : BlockingIsAtOnce → (bits : List ℕ) (s : Statement) (f g h : Family) (asleep : Bool) → AreOwn bits s → mixed_in false s ≡ [] → asleep ≡ true → g ≡ block_sets s f → h ≡ replaced bits (λ b. union (only X) (g b)) g
    → h ≡ (λ b. late_end (contains (statement_bits s) b) asleep (block_sets s f b) (f b))
asleep_late law bits s f g h asleep own m a e k =
    k ∙ ap (λ (g : Family). replaced bits (λ b. union (only X) (g b)) g) e ∙ fun_ext (λ b. at b (contains (statement_bits s) b) refl)
  where
    at : (b : ℕ) (k : Bool) → contains (statement_bits s) b ≡ k → replaced bits (λ b. union (only X) (block_sets s f b)) (block_sets s f) b ≡ late_end (contains (statement_bits s) b) asleep (block_sets s f b) (f b)
    at b true k = cond-true (contains bits b) _ _ (own b ∙ k) ∙ sym (cond-true (contains (statement_bits s) b) _ _ k ∙ cond-true asleep _ _ a)
    at b false k = cond-false (contains bits b) _ _ (own b ∙ k) ∙ kept law s f b m k ∙ sym (cond-false (contains (statement_bits s) b) _ _ k)

-- what was put back is as before
pub put_back_is : BlockingIsAtOnce → (bits : List ℕ) (s : Statement) (f g : Family) → AreOwn bits s → mixed_in false s ≡ [] → g ≡ block_sets s f → replaced bits f g ≡ f
put_back_is law bits s f g own m e = ap (replaced bits f) e ∙ fun_ext (λ b. at b (contains bits b) refl) where
  at : (b : ℕ) (k : Bool) → contains bits b ≡ k → replaced bits f (block_sets s f) b ≡ f b
  at b true k = cond-true (contains bits b) _ _ k
  at b false k = cond-false (contains bits b) _ _ k ∙ kept law s f b m (sym (own b) ∙ k)
