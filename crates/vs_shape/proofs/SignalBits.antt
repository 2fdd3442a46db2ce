-- The bits of a signal are bits of the design.
use Rattle.std.proofs.Common.{◌≡◌, ℕ, zero, suc, ◌+◌, ◌≤◌, ◌<◌, ◌==◌, true, List, [], ◌∷◌, length, ap, ◌∙◌, arith, Some}
use Rattle.std.specs.Prelude.{slice_get, sum_by}
use Rattle.std.proofs.lemmas.Bool.{eqb-true}
use Rattle.std.proofs.lemmas.List.Sums.{sum_by-cons}
use Rattle.vs_design.specs.Expressions.{Signal, signal_length}
use Rattle.vs_design.specs.Elaborated.{have_bits_from}
use Rattle.std.proofs.lemmas.Option.{slice_get-get_or}
use Rattle.vs_flat.specs.declared.processes.Signal.{Signal as FlatSignal}
use Rattle.vs_flat.specs.Arena.{Arena, signal_length as flat_length}
use Rattle.vs_flat.specs.Lawful.{IsLawful}
use Rattle.vs_flat.specs.Laws.{EachSignal, HasCounts}
use Rattle.vs_flat.specs.Trees.{no_signal, signal_of, signal_at}
use Rattle.vs_flat.specs.DesignOf.{arena_signals}
use Rattle.vs_shape.proofs.Names.{and_both}

pub signal_within : (first : ℕ) (ss : List Signal) (k : ℕ) (s : Signal) → have_bits_from first ss ≡ true → slice_get ss k ≡ Some s → s.first + signal_length s ≤ first + sum_by signal_length ss
signal_within first [] k s h at = cc
signal_within first (t ∷ ts) zero s h at =
    let same : t ≡ s = first_is t s at in
    let p = and_both (t.first == first) (have_bits_from (first + signal_length t) ts) h in
    let begins = eqb-true t.first first p.0 in
    omega (arith, begins, ap (λ (x : Signal). x.first) same, ap signal_length same, sum_by-cons signal_length t ts)
  where
    first_is : (t s : Signal) → Some t ≡ Some s → t ≡ s
    first_is t s e = cc
signal_within first (t ∷ ts) (suc k) s h at =
    let p = and_both (t.first == first) (have_bits_from (first + signal_length t) ts) h in
    omega (arith, signal_within (first + signal_length t) ts k s p.1 at, sum_by-cons signal_length t ts)

-- a signal of a lawful design
pub signal_room : EachSignal → ((a : Arena) → HasCounts a) → (a : Arena) → IsLawful a → (k : ℕ) (s : FlatSignal) → slice_get a.signals k ≡ Some s → k < length a.signals → s.first_bit + flat_length s ≤ 1048576
signal_room each counts a lawful k s at h =
    let is : signal_at (arena_signals a) k ≡ signal_of k s = each a k s at in
    let found : slice_get (arena_signals a) k ≡ Some (signal_at (arena_signals a) k) = slice_get-get_or (arena_signals a) k no_signal (omega (arith, (counts a).signals)) in
    let within = signal_within 0 (arena_signals a) k (signal_of k s) lawful.design.bits_numbered (found ∙ ap Some is) in
    omega (arith, within, lawful.design.few_bits)
