-- Signals behind those of a design, one after the other.
use Rattle.std.proofs.Common.{◌≡◌, ℕ, zero, suc, ◌+◌, ◌<◌, ◌≤◌, ◌^◌, List, [], ◌∷◌, length, length-append, get_or, take, map, refl, sym, ap, ◌∙◌, subst, append_assoc, arith}
use Rattle.std.specs.Prelude.{sum_by}
use Rattle.std.proofs.lemmas.List.{append-nil}
use Rattle.std.proofs.lemmas.List.Sums.{sum_by-append, sum_by-cons}
use Rattle.vs_design.specs.Expressions as design
use Rattle.vs_design.specs.Expressions.{signal_length}
use Rattle.vs_design.specs.Designs.{bit_count}
use Rattle.vs_build.specs.Drafts.{Draft, and_signal}
use Rattle.vs_elab.specs.Opening.{Follow, and_signals}
use Rattle.vs_elab.proofs.Sequences.{one_more}

-- what holds of one of them
pub record Follows (scopes n b : ℕ) (s : design.Signal) : Type 0 where
  pub number : s.number ≡ n
  pub first : s.first ≡ b
  pub scope : s.scope < scopes
  pub bits : b + signal_length s ≤ 2 ^ 20

pub signals_nothing : (s : Draft) → s ≡ and_signals s []
signals_nothing s = ap (λ ss. let t : Draft = record s { design = record s.design { signals = ss } } in t) (sym (append-nil s.design.signals))

module _ {A : Type 0} (f : A → design.Signal) where
  follow_at : (scopes n b : ℕ) (xs : List A) (i : ℕ) (x : A) → i < length xs → x ≡ get_or xs i x → Follow scopes n b (map f xs)
      → Follows scopes (n + i) (b + sum_by signal_length (map f (take i xs))) (f x)
  follow_at scopes n b [] i x h e fs = absurd (let no : ⊥ = omega (arith, h) in no)
  follow_at scopes n b (y ∷ ys) zero x h e fs =
      subst (λ (s : A). Follows scopes (n + 0) (b + 0) (f s)) (sym e) (record { number = fs.0 ∙ (let k : n ≡ n + 0 = omega arith in k); first = fs.1 ∙ (let k : b ≡ b + 0 = omega arith in k); scope = fs.2; bits = omega (arith, fs.3) })
  follow_at scopes n b (y ∷ ys) (suc i) x h e fs =
      let r = follow_at scopes (n + 1) (b + signal_length (f y)) ys i x (omega (arith, h)) e fs.4 in
      let s = sum_by-cons signal_length (f y) (map f (take i ys)) in
      record { number = r.number ∙ (let k : (n + 1) + i ≡ n + suc i = omega arith in k); first = let p = r.first in omega (arith, p, s); scope = r.scope; bits = let q = r.bits in omega (arith, q, s) }

  pub signals_more : (s t new : Draft) (xs : List A) (i : ℕ) (x : A) → i < length xs → x ≡ get_or xs i x → t ≡ and_signals s (map f (take i xs)) → new ≡ and_signal t (f x)
      → new ≡ and_signals s (map f (take (i + 1) xs))
  signals_more s t new xs i x h e before is =
      is ∙ ap (λ y. and_signal y (f x)) before
      ∙ ap (λ ss. let y : Draft = record s { design = record s.design { signals = ss } } in y) (append_assoc s.design.signals (map f (take i xs)) (f x ∷ []))
      ∙ ap (and_signals s) (sym (one_more f xs i x h e))

  taken : (xs : List A) (i : ℕ) → i < length xs → length (map f (take i xs)) ≡ i
  taken [] i h = absurd (let no : ⊥ = omega (arith, h) in no)
  taken (x ∷ xs) zero h = refl
  taken (x ∷ xs) (suc i) h = ap suc (taken xs i (omega (arith, h)))

  -- the next one has the first free number
  pub next_follows : (s t : Draft) (xs : List A) (i : ℕ) (x : A) → i < length xs → x ≡ get_or xs i x → t ≡ and_signals s (map f (take i xs))
      → Follow (length s.design.scopes) (length s.design.signals) (bit_count s.design) (map f xs) → Follows (length t.design.scopes) (length t.design.signals) (bit_count t.design) (f x)
  next_follows s t xs i x h e is fs =
      subst (λ (y : Draft). Follows (length y.design.scopes) (length y.design.signals) (bit_count y.design) (f x)) (sym is)
      (let r = follow_at (length s.design.scopes) (length s.design.signals) (bit_count s.design) xs i x h e fs in
      let a = length-append s.design.signals (map f (take i xs)) in
      let b = taken xs i h in
      let d = sum_by-append signal_length s.design.signals (map f (take i xs)) in
      record { number = r.number ∙ sym (a ∙ ap (λ n. length s.design.signals + n) b); first = r.first ∙ sym d; scope = r.scope; bits = let q = r.bits in omega (arith, q, d) })
