-- Whom a wiring wakes.
use Rattle.std.proofs.Common.{◌≡◌, ℕ, zero, suc, ◌<◌, Bool, true, false, ◌&&◌, ◌||◌, ◌==◌, List, [], ◌∷◌, ◌++◌, length, replicate, get_or, refl, sym, ap, ap₂, ◌∙◌, subst}
use Rattle.std.proofs.lemmas.Bool.{eqb-true}
use Rattle.std.proofs.lemmas.List.{get_or-set_same, get_or-set_other, length-set, length-replicate}
use Rattle.std.proofs.lemmas.List.Folds.{list_any-append}
use Rattle.vs_four.specs.declared.Bit4.{Bit4}
use Rattle.vs_events.specs.declared.listener.Listener.{Listener}
use Rattle.vs_events.specs.Hearing.{hears}
use Rattle.vs_events.specs.Wired.{is_heard, Sensitivity, after_listen, after_listens, is_sensitive, AreBits, ListeningIsHeard}
use Rattle.vs_events.proofs.Woken.{not_same}

or_none : (b : Bool) → (b || false) ≡ b
or_none true = refl
or_none false = refl

or_assoc : (a b c : Bool) → ((a || b) || c) ≡ (a || (b || c))
or_assoc true b c = refl
or_assoc false b c = refl

-- one listener more
one_more : (table : List (List Listener)) (s : Sensitivity) (p b : ℕ) (old new : Bit4) (c : Bool) → (b == s.bit) ≡ c → s.bit < length table
    → is_heard (get_or (after_listen table s) b []) p old new ≡ (is_heard (get_or table b []) p old new || (c && ((p == s.listener.process) && hears s.listener old new)))
one_more table s p b old new true e h =
    let same = eqb-true b s.bit e in
    let here = get_or table s.bit [] in
    ap (λ k. is_heard (get_or (after_listen table s) k []) p old new) same ∙ ap (λ ls. is_heard ls p old new) (get_or-set_same table s.bit (here ++ s.listener ∷ []) [] h)
    ∙ list_any-append (λ (l : Listener). (p == l.process) && hears l old new) here (s.listener ∷ [])
    ∙ ap₂ ◌||◌ (ap (λ k. is_heard (get_or table k []) p old new) (sym same)) (or_none ((p == s.listener.process) && hears s.listener old new))
one_more table s p b old new false e h = ap (λ ls. is_heard ls p old new) (get_or-set_other table s.bit b (get_or table s.bit [] ++ s.listener ∷ []) [] (not_same b s.bit e)) ∙ sym (or_none (is_heard (get_or table b []) p old new))

there : (count : ℕ) (s : Sensitivity) (ss : List Sensitivity) → AreBits count (s ∷ ss) → (s.bit < count) × AreBits count ss
there count s ss h = (h 0 s refl, λ k x at. h (suc k) x at)

all_heard : (table : List (List Listener)) (ss : List Sensitivity) (p b : ℕ) (old new : Bit4) → AreBits (length table) ss → is_heard (get_or (after_listens table ss) b []) p old new ≡ (is_heard (get_or table b []) p old new || is_sensitive ss p b old new)
all_heard table [] p b old new h = sym (or_none (is_heard (get_or table b []) p old new))
all_heard table (s ∷ ss) p b old new h =
    let bits = there (length table) s ss h in
    let next = after_listen table s in
    let count : length next ≡ length table = length-set table s.bit (get_or table s.bit [] ++ s.listener ∷ []) in
    let here = (b == s.bit) && ((p == s.listener.process) && hears s.listener old new) in
    all_heard next ss p b old new (subst (λ n. AreBits n ss) (sym count) bits.1)
    ∙ ap (λ x. x || is_sensitive ss p b old new) (one_more table s p b old new (b == s.bit) refl bits.0)
    ∙ or_assoc (is_heard (get_or table b []) p old new) here (is_sensitive ss p b old new)

none_at : (n b : ℕ) → get_or (replicate n (let ls : List Listener = [] in ls)) b [] ≡ []
none_at zero b = refl
none_at (suc n) zero = refl
none_at (suc n) (suc b) = none_at n b

pub listening_is_heard : ListeningIsHeard
listening_is_heard count ss bits p b old new =
    all_heard (replicate count []) ss p b old new (subst (λ n. AreBits n ss) (sym (length-replicate count [])) bits) ∙ ap (λ ls. is_heard ls p old new || is_sensitive ss p b old new) (none_at count b)
