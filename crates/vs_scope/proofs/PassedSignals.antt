-- The inputs of a function that pass signals of its module, one after the other.
use Rattle.std.proofs.Common.{◌≡◌, ℕ, zero, suc, ◌<◌, ◌≤◌, ◌+◌, List, [], ◌∷◌, ◌++◌, map, length, get_or, take, refl, sym, ap, ◌∙◌, subst, arith}
use Rattle.std.proofs.lemmas.List.{map-append, take_all}
use Rattle.vs_const.specs.Meanings.{SignalMeaning}
use Rattle.vs_const.specs.MentionViews.{kept, kept_of}
use Rattle.vs_const.specs.declared.names.SignalShape.{SignalShape}
use Rattle.vs_elaborated.specs.Functions as spec
use Rattle.vs_scope.specs.declared.local_signals.Signalling.{Signalling}
use Rattle.vs_scope.specs.declared.names.PassedInput.{PassedInput}
use Rattle.vs_scope.specs.Locals.{local_start, passed_of}
use Rattle.vs_scope.specs.LocalLists.{IsSkipped}

-- ---- some signals, and then others

behind_both : (s : spec.Start) (xs ys : List SignalMeaning) → spec.behind_all_passed s (xs ++ ys) ≡ spec.behind_all_passed (spec.behind_all_passed s xs) ys
behind_both s [] ys = refl
behind_both s (x ∷ xs) ys = behind_both (spec.behind_passed s x) xs ys

passed_both : (s : spec.Start) (xs ys : List SignalMeaning) → spec.passed_signals s (xs ++ ys) ≡ spec.passed_signals s xs ++ spec.passed_signals (spec.behind_all_passed s xs) ys
passed_both s [] ys = refl
passed_both s (x ∷ xs) ys = ap (λ (r : List spec.Passed). (let p : spec.Passed = record { number = x.signal.number; input = spec.passed_signal s x } in p) ∷ r) (passed_both (spec.behind_passed s x) xs ys)

-- ---- what is kept, at a place

-- what is meant by the next one
record IsNext (s : SignalShape) (ms : List SignalMeaning) (i : ℕ) : Type 0 where
  meaning : SignalMeaning
  same : kept s ≡ kept_of meaning
  more : take (suc i) ms ≡ take i ms ++ meaning ∷ []

next_at : (reads : List SignalShape) (ms : List SignalMeaning) (i : ℕ) (s : SignalShape) → i < length reads → s ≡ get_or reads i s → map kept reads ≡ map kept_of ms → IsNext s ms i
next_at [] ms i s h e k = absurd (omega arith)
next_at (x ∷ reads) [] i s h e k = cc
next_at (x ∷ reads) (m ∷ ms) zero s h e k = let first : kept x ≡ kept_of m = cc in record { meaning = m; same = ap kept e ∙ first; more = refl }
next_at (x ∷ reads) (m ∷ ms) (suc i) s h e k =
    let rest : map kept reads ≡ map kept_of ms = cc in
    let n = next_at reads ms i s (omega arith) e rest in
    record { meaning = n.meaning; same = n.same; more = ap (λ (r : List SignalMeaning). m ∷ r) n.more }

as_many : (reads : List SignalShape) (ms : List SignalMeaning) → map kept reads ≡ map kept_of ms → length ms ≡ length reads
as_many [] [] k = refl
as_many [] (m ∷ ms) k = cc
as_many (x ∷ reads) [] k = cc
as_many (x ∷ reads) (m ∷ ms) k = let rest : map kept reads ≡ map kept_of ms = cc in ap suc (as_many reads ms rest)

-- ---- one after the other

-- the first of these are passed
pub record ArePassedTo (old now : Signalling) (list : List PassedInput) (reads : List SignalShape) (i : ℕ) : Type 0 where
  pub next : (ms : List SignalMeaning) → map kept reads ≡ map kept_of ms → IsSkipped old now (spec.behind_all_passed (local_start old.next) (take i ms))
  pub passed : (ms : List SignalMeaning) → map kept reads ≡ map kept_of ms → map passed_of list ≡ spec.passed_signals (local_start old.next) (take i ms)

pub none_passed : (s : Signalling) (list : List PassedInput) (reads : List SignalShape) → list ≡ [] → ArePassedTo s s list reads 0
none_passed s list reads h = record { next = λ ms k. record { signals = refl; next_is = refl; fault = refl; known = refl }; passed = λ ms k. ap (map passed_of) h }

skipped_then : (a b c : Signalling) (n : spec.Start) (m : spec.Start) → IsSkipped a b n → IsSkipped b c m → IsSkipped a c m
skipped_then a b c n m h k = record { signals = k.signals ∙ h.signals; next_is = k.next_is; fault = k.fault ∙ h.fault; known = k.known ∙ h.known }

pub one_passed : (old now new : Signalling) (list : List PassedInput) (longer : List PassedInput) (p : PassedInput) (reads : List SignalShape) (i : ℕ) (s : SignalShape) → i < length reads → s ≡ get_or reads i s
    → ((m : SignalMeaning) → kept s ≡ kept_of m → IsSkipped now new (spec.behind_passed (local_start now.next) m))
    → ((m : SignalMeaning) → kept s ≡ kept_of m → passed_of p ≡ record { number = m.signal.number; input = spec.passed_signal (local_start now.next) m })
    → longer ≡ list ++ p ∷ [] → ArePassedTo old now list reads i → ArePassedTo old new longer reads (i + 1)
one_passed old now new list longer p reads i s h e skipped is pushed before =
    let on : suc i ≡ i + 1 = omega arith in
    subst (ArePassedTo old new longer reads) on (record { next = next; passed = passed })
  where
    next : (ms : List SignalMeaning) → map kept reads ≡ map kept_of ms → IsSkipped old new (spec.behind_all_passed (local_start old.next) (take (suc i) ms))
    next ms k =
        let n = next_at reads ms i s h e k in
        let b = before.next ms k in
        let after : spec.behind_passed (local_start now.next) n.meaning ≡ spec.behind_all_passed (local_start old.next) (take (suc i) ms) =
        ap (λ (x : spec.Start). spec.behind_passed x n.meaning) b.next_is ∙ sym (behind_both (local_start old.next) (take i ms) (n.meaning ∷ [])) ∙ ap (spec.behind_all_passed (local_start old.next)) (sym n.more) in
        subst (IsSkipped old new) after (skipped_then old now new (spec.behind_all_passed (local_start old.next) (take i ms)) (spec.behind_passed (local_start now.next) n.meaning) b (skipped n.meaning n.same))

    passed : (ms : List SignalMeaning) → map kept reads ≡ map kept_of ms → map passed_of longer ≡ spec.passed_signals (local_start old.next) (take (suc i) ms)
    passed ms k =
        let n = next_at reads ms i s h e k in
        let b = before.next ms k in
        ap (map passed_of) pushed ∙ map-append passed_of list (p ∷ [])
        ∙ ap (λ (r : List spec.Passed). r ++ passed_of p ∷ []) (before.passed ms k)
        ∙ ap (λ (x : spec.Passed). spec.passed_signals (local_start old.next) (take i ms) ++ x ∷ []) (is n.meaning n.same)
        ∙ ap (λ (x : spec.Start). spec.passed_signals (local_start old.next) (take i ms) ++ spec.passed_signals x (n.meaning ∷ [])) b.next_is
        ∙ sym (passed_both (local_start old.next) (take i ms) (n.meaning ∷ [])) ∙ ap (spec.passed_signals (local_start old.next)) (sym n.more)

pub all_skipped : (old now : Signalling) (list : List PassedInput) (reads : List SignalShape) (i : ℕ) → length reads ≤ i → ArePassedTo old now list reads i → (ms : List SignalMeaning) → map kept reads ≡ map kept_of ms
    → IsSkipped old now (spec.behind_all_passed (local_start old.next) ms)
all_skipped old now list reads i h a ms k =
    let many = as_many reads ms k in
    subst (λ (xs : List SignalMeaning). IsSkipped old now (spec.behind_all_passed (local_start old.next) xs)) (take_all i ms (omega (arith, many))) (a.next ms k)

pub all_passed : (old now : Signalling) (list : List PassedInput) (reads : List SignalShape) (i : ℕ) → length reads ≤ i → ArePassedTo old now list reads i → (ms : List SignalMeaning) → map kept reads ≡ map kept_of ms
    → map passed_of list ≡ spec.passed_signals (local_start old.next) ms
all_passed old now list reads i h a ms k =
    let many = as_many reads ms k in
    a.passed ms k ∙ ap (spec.passed_signals (local_start old.next)) (take_all i ms (omega (arith, many)))
