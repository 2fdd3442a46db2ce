-- The signals that statements come to, one after the other.
use Rattle.std.proofs.Common.{◌≡◌, ◌<◌, ◌≤◌, ◌+◌, ◌==◌, ◌||◌, ◌&&◌, ℕ, zero, suc, Bool, true, false, not, List, [], ◌∷◌, ◌++◌, length, get_or, map, take, drop, is_some, if◌then◌else◌, refl, sym, ap, ◌∙◌, subst, arith, eq-eqb, ne_eqb, append_assoc}
use Rattle.std.specs.List.{list_all, list_any}
use Rattle.std.proofs.lemmas.Bool.{eqb-true, both_ways}
use Rattle.std.proofs.lemmas.List.{append-nil, map-append, take_all}
use Rattle.vs_design.specs.Footprints.{contains}
use Rattle.vs_const.specs.MentionViews.{Kept, kept, kept_of, Told, told, told_of, all_told, all_told_of}
use Rattle.vs_const.specs.Mentions.{Mention, is_outside, is_by_call, is_named}
use Rattle.vs_const.specs.declared.mentions.Mention.{Mention as MentionOf}
use Rattle.vs_const.specs.declared.names.SignalShape.{SignalShape}
use Rattle.vs_elaborated.specs.Reads.{distinct}
use Rattle.vs_maps.specs.Places.{found_at}
use Rattle.vs_maps.specs.PlaceViews.{placed}
use Rattle.vs_maps.specs.declared.places.PlaceMap.{PlaceMap}
use Rattle.vs_bodies.specs.Mentions.{meanings}

-- ---- lists

or_none : (b : Bool) → (b || false) ≡ b
or_none true = refl
or_none false = refl

or_apart : (a b c : Bool) → (a || (b || c)) ≡ ((a || b) || c)
or_apart true b c = refl
or_apart false b c = refl

or_swap : (a b : Bool) → (a || b) ≡ (b || a)
or_swap true true = refl
or_swap true false = refl
or_swap false true = refl
or_swap false false = refl

any_more : {A : Type 0} (p : A → Bool) (xs : List A) (i : ℕ) (x : A) → i < length xs → x ≡ get_or xs i x → list_any p (take (suc i) xs) ≡ (list_any p (take i xs) || p x)
any_more p [] i x h e = absurd (omega arith)
any_more p (y ∷ xs) zero x h e = or_none (p y) ∙ ap p (sym e)
any_more p (y ∷ xs) (suc i) x h e = ap (λ (b : Bool). p y || b) (any_more p xs i x (omega arith) e) ∙ or_apart (p y) (list_any p (take i xs)) (p x)

from_place : {A : Type 0} (xs : List A) (i : ℕ) (x : A) → i < length xs → x ≡ get_or xs i x → drop i xs ≡ x ∷ drop (suc i) xs
from_place [] i x h e = absurd (omega arith)
from_place (y ∷ xs) zero x h e = ap (λ (z : _). z ∷ xs) (sym e)
from_place (y ∷ xs) (suc i) x h e = from_place xs i x (omega arith) e

none_left : {A : Type 0} (xs : List A) (i : ℕ) → length xs ≤ i → drop i xs ≡ []
none_left [] zero h = refl
none_left [] (suc i) h = refl
none_left (x ∷ xs) zero h = absurd (omega arith)
none_left (x ∷ xs) (suc i) h = none_left xs i (omega arith)

-- ---- which signals are named outside of calls

abbrev pub named_in : List MentionOf → ℕ → Bool
named_in ms n = list_any (λ (m : MentionOf). is_outside m.way && (m.signal.number == n)) ms

same_named : (xs : List MentionOf) (ms : List Mention) (n : ℕ) → all_told xs ≡ all_told_of ms → named_in xs n ≡ is_named ms n
same_named [] [] n h = refl
same_named [] (m ∷ ms) n h = cc
same_named (x ∷ xs) [] n h = cc
same_named (x ∷ xs) (m ∷ ms) n h =
    let first : told x ≡ told_of m = cc in
    let rest : all_told xs ≡ all_told_of ms = cc in
    ap (λ (t : Told). (is_outside t.way && (t.signal.number == n)) || named_in xs n) first
    ∙ ap (λ (b : Bool). (is_outside m.way && (m.meaning.signal.number == n)) || b) (same_named xs ms n rest)

pub record AreNamedTo {V : Type 0} (named : PlaceMap V) (list : List MentionOf) (i : ℕ) : Type 0 where
  pub each : (n : ℕ) → is_some (found_at n (placed named)) ≡ named_in (take i list) n

pub none_named : {V : Type 0} (named : PlaceMap V) (list : List MentionOf) → placed named ≡ [] → AreNamedTo named list 0
none_named named list h = record { each = λ n. ap (λ ps. is_some (found_at n ps)) h }

pub named_more : {V : Type 0} (old new : PlaceMap V) (list : List MentionOf) (i : ℕ) (m : MentionOf) → i < length list → m ≡ get_or list i m
    → ((n : ℕ) → is_some (found_at n (placed new)) ≡ (is_some (found_at n (placed old)) || (is_outside m.way && (m.signal.number == n)))) → AreNamedTo old list i → AreNamedTo new list (i + 1)
named_more old new list i m h e noted before =
    let on : suc i ≡ i + 1 = omega arith in
    subst (AreNamedTo new list) on (record {
      each = λ n.
          noted n ∙ ap (λ (b : Bool). b || (is_outside m.way && (m.signal.number == n))) (before.each n)
          ∙ sym (any_more (λ (x : MentionOf). is_outside x.way && (x.signal.number == n)) list i m h e);
    })

pub all_named : {V : Type 0} (named : PlaceMap V) (list : List MentionOf) (ms : List Mention) (i : ℕ) → length list ≤ i → AreNamedTo named list i → all_told list ≡ all_told_of ms → (n : ℕ) → is_some (found_at n (placed named)) ≡ is_named ms n
all_named named list ms i h a k n = a.each n ∙ ap (λ (xs : List MentionOf). named_in xs n) (take_all i list h) ∙ same_named list ms n k

-- ---- whether each signal that a function reads is among them

abbrev heard_in : (ℕ → Bool) → List MentionOf → Bool
heard_in named ms = list_all (λ (m : MentionOf). not (is_by_call m.way) || named m.signal.number) ms

same_heard : (named others : ℕ → Bool) → ((n : ℕ) → named n ≡ others n) → (xs : List MentionOf) (ms : List Mention) → all_told xs ≡ all_told_of ms
    → heard_in named xs ≡ list_all (λ (m : Mention). not (is_by_call m.way) || others m.meaning.signal.number) ms
same_heard named others same [] [] h = refl
same_heard named others same [] (m ∷ ms) h = cc
same_heard named others same (x ∷ xs) [] h = cc
same_heard named others same (x ∷ xs) (m ∷ ms) h =
    let first : told x ≡ told_of m = cc in
    let rest : all_told xs ≡ all_told_of ms = cc in
    ap (λ (t : Told). (not (is_by_call t.way) || named t.signal.number) && heard_in named xs) first
    ∙ ap (λ (b : Bool). (not (is_by_call m.way) || b) && heard_in named xs) (same m.meaning.signal.number)
    ∙ ap (λ (b : Bool). (not (is_by_call m.way) || others m.meaning.signal.number) && b) (same_heard named others same xs ms rest)

not_unheard : (a b : Bool) → (a && not b) ≡ false → (not a || b) ≡ true
not_unheard true true h = refl
not_unheard true false h = cc
not_unheard false b h = refl

unheard_not : (a b : Bool) → (a && not b) ≡ true → (not a || b) ≡ false
unheard_not true true h = cc
unheard_not true false h = refl
unheard_not false b h = cc

-- what is left says it
pub record AreHeardFrom (named : ℕ → Bool) (list : List MentionOf) (i : ℕ) : Type 0 where
  pub left : heard_in named (drop i list) ≡ heard_in named list

pub heard_first : (named : ℕ → Bool) (list : List MentionOf) → AreHeardFrom named list 0
heard_first named list = record { left = refl }

pub heard_more : (named : ℕ → Bool) (list : List MentionOf) (i : ℕ) (m : MentionOf) → i < length list → m ≡ get_or list i m → (is_by_call m.way && not (named m.signal.number)) ≡ false → AreHeardFrom named list i → AreHeardFrom named list (i + 1)
heard_more named list i m h e k a =
    let on : suc i ≡ i + 1 = omega arith in
    subst (AreHeardFrom named list) on (record {
      left =
          ap (λ (b : Bool). b && heard_in named (drop (suc i) list)) (sym (not_unheard (is_by_call m.way) (named m.signal.number) k))
          ∙ ap (heard_in named) (sym (from_place list i m h e)) ∙ a.left;
    })

pub heard_not : (named others : ℕ → Bool) → ((n : ℕ) → named n ≡ others n) → (list : List MentionOf) (ms : List Mention) (i : ℕ) (m : MentionOf) → i < length list → m ≡ get_or list i m → (is_by_call m.way && not (named m.signal.number)) ≡ true
    → AreHeardFrom named list i → all_told list ≡ all_told_of ms → false ≡ list_all (λ (x : Mention). not (is_by_call x.way) || others x.meaning.signal.number) ms
heard_not named others same list ms i m h e k a t =
    sym (ap (λ (b : Bool). b && heard_in named (drop (suc i) list)) (unheard_not (is_by_call m.way) (named m.signal.number) k))
    ∙ ap (heard_in named) (sym (from_place list i m h e)) ∙ a.left ∙ same_heard named others same list ms t

pub all_heard : (named others : ℕ → Bool) → ((n : ℕ) → named n ≡ others n) → (list : List MentionOf) (ms : List Mention) (i : ℕ) → length list ≤ i → AreHeardFrom named list i → all_told list ≡ all_told_of ms
    → true ≡ list_all (λ (x : Mention). not (is_by_call x.way) || others x.meaning.signal.number) ms
all_heard named others same list ms i h a t = ap (heard_in named) (sym (none_left list i h)) ∙ a.left ∙ same_heard named others same list ms t

-- ---- each signal where it comes first

-- what is left, behind those that came
pub record AreDistinctTo {V : Type 0} (seen : PlaceMap V) (signals : List SignalShape) (list : List MentionOf) (i : ℕ) : Type 0 where
  pub numbers : List ℕ
  pub seen_are : (n : ℕ) → is_some (found_at n (placed seen)) ≡ contains numbers n
  pub left : (ms : List Mention) → all_told list ≡ all_told_of ms → map kept signals ++ map kept_of (distinct numbers (meanings (drop i ms))) ≡ map kept_of (distinct [] (meanings ms))

pub none_distinct : {V : Type 0} (seen : PlaceMap V) (signals : List SignalShape) (list : List MentionOf) → placed seen ≡ [] → signals ≡ [] → AreDistinctTo seen signals list 0
none_distinct seen signals list h k = record {
  numbers = [];
  seen_are = λ n. ap (λ ps. is_some (found_at n ps)) h;
  left = λ ms t. ap (λ (ss : List SignalShape). map kept ss ++ map kept_of (distinct [] (meanings ms))) k;
}

-- the next one
record IsNext (m : MentionOf) (ms : List Mention) (i : ℕ) : Type 0 where
  next : Mention
  same : told m ≡ told_of next
  from : drop i ms ≡ next ∷ drop (suc i) ms

next_at : (list : List MentionOf) (ms : List Mention) (i : ℕ) (m : MentionOf) → i < length list → m ≡ get_or list i m → all_told list ≡ all_told_of ms → IsNext m ms i
next_at [] ms i m h e k = absurd (omega arith)
next_at (x ∷ list) [] i m h e k = cc
next_at (x ∷ list) (y ∷ ms) zero m h e k = let first : told x ≡ told_of y = cc in record { next = y; same = ap told e ∙ first; from = refl }
next_at (x ∷ list) (y ∷ ms) (suc i) m h e k =
    let rest : all_told list ≡ all_told_of ms = cc in
    let n = next_at list ms i m (omega arith) e rest in
    record { next = n.next; same = n.same; from = n.from }

already : (b : Bool) (p n : ℕ) (numbers : List ℕ) → contains numbers p ≡ true → b ≡ (p == n) → (contains numbers n || b) ≡ contains numbers n
already true p n numbers h e =
    let same : p ≡ n = eqb-true p n (sym e) in
    ap (λ (c : Bool). c || true) (there) ∙ sym there
  where
    there : contains numbers n ≡ true
    there = ap (contains numbers) (sym (eqb-true p n (sym e))) ∙ h
already false p n numbers h e = or_none (contains numbers n)

equal_swap : (a b : ℕ) → (a == b) ≡ (b == a)
equal_swap a b = by (a == b) refl
  where
    by : (c : Bool) → (a == b) ≡ c → (a == b) ≡ (b == a)
    by true e = e ∙ sym (eq-eqb b a (sym (eqb-true a b e)))
    by false e = e ∙ sym (ne_eqb b a (λ h. both_ways (a == b) e (eq-eqb a b (sym h))))

pub distinct_more : {V : Type 0} (old new : PlaceMap V) (signals longer : List SignalShape) (list : List MentionOf) (i : ℕ) (m : MentionOf) → i < length list → m ≡ get_or list i m
    → ((n : ℕ) → is_some (found_at n (placed new)) ≡ (is_some (found_at n (placed old)) || (m.signal.number == n)))
    → longer ≡ (if is_some (found_at m.signal.number (placed old)) then signals else signals ++ m.signal ∷ []) → AreDistinctTo old signals list i → AreDistinctTo new longer list (i + 1)
distinct_more {V} old new signals longer list i m h e noted pushed before = subst (AreDistinctTo new longer list) (let on : suc i ≡ i + 1 = omega arith in on) (by (contains before.numbers m.signal.number) refl)
  where
    by : (b : Bool) → contains before.numbers m.signal.number ≡ b → AreDistinctTo new longer list (suc i)
    by true k = record {
      numbers = before.numbers;
      seen_are = λ n. noted n ∙ ap (λ (c : Bool). c || (m.signal.number == n)) (before.seen_are n) ∙ already (m.signal.number == n) m.signal.number n before.numbers k refl;
      left = λ ms t.
          let n = next_at list ms i m h e t in
          let number : n.next.meaning.signal.number ≡ m.signal.number = ap (λ (x : Told). x.signal.number) (sym n.same) in
          ap (λ (ss : List SignalShape). map kept ss ++ map kept_of (distinct before.numbers (meanings (drop (suc i) ms)))) (pushed ∙ ap (λ (c : Bool). if c then signals else signals ++ m.signal ∷ []) (before.seen_are m.signal.number ∙ k))
          ∙ ap (λ (c : Bool). map kept signals ++ map kept_of (if c then distinct before.numbers (meanings (drop (suc i) ms)) else n.next.meaning ∷ distinct (n.next.meaning.signal.number ∷ before.numbers) (meanings (drop (suc i) ms))))
          (sym (ap (contains before.numbers) number ∙ k))
          ∙ ap (λ (xs : List Mention). map kept signals ++ map kept_of (distinct before.numbers (meanings xs))) (sym n.from) ∙ before.left ms t;
    }
    by false k = record {
      numbers = m.signal.number ∷ before.numbers;
      seen_are = λ n.
          noted n ∙ ap (λ (c : Bool). c || (m.signal.number == n)) (before.seen_are n) ∙ or_swap (contains before.numbers n) (m.signal.number == n)
          ∙ ap (λ (c : Bool). c || contains before.numbers n) (equal_swap m.signal.number n);
      left = λ ms t.
          let n = next_at list ms i m h e t in
          let number : n.next.meaning.signal.number ≡ m.signal.number = ap (λ (x : Told). x.signal.number) (sym n.same) in
          let rest = meanings (drop (suc i) ms) in
          ap (λ (ss : List SignalShape). map kept ss ++ map kept_of (distinct (m.signal.number ∷ before.numbers) rest)) (pushed ∙ ap (λ (c : Bool). if c then signals else signals ++ m.signal ∷ []) (before.seen_are m.signal.number ∙ k))
          ∙ ap (λ (ks : List Kept). ks ++ map kept_of (distinct (m.signal.number ∷ before.numbers) rest)) (map-append kept signals (m.signal ∷ []))
          ∙ append_assoc (map kept signals) (kept m.signal ∷ []) (map kept_of (distinct (m.signal.number ∷ before.numbers) rest))
          ∙ ap (λ (x : Told). map kept signals ++ x.signal ∷ map kept_of (distinct (m.signal.number ∷ before.numbers) rest)) n.same
          ∙ ap (λ (p : ℕ). map kept signals ++ kept_of n.next.meaning ∷ map kept_of (distinct (p ∷ before.numbers) rest)) (sym number)
          ∙ ap (λ (c : Bool). map kept signals ++ map kept_of (if c then distinct before.numbers rest else n.next.meaning ∷ distinct (n.next.meaning.signal.number ∷ before.numbers) rest)) (sym (ap (contains before.numbers) number ∙ k))
          ∙ ap (λ (xs : List Mention). map kept signals ++ map kept_of (distinct before.numbers (meanings xs))) (sym n.from) ∙ before.left ms t;
    }

pub all_distinct : {V : Type 0} (seen : PlaceMap V) (signals : List SignalShape) (list : List MentionOf) (ms : List Mention) (i : ℕ) → length list ≤ i → AreDistinctTo seen signals list i → all_told list ≡ all_told_of ms
    → map kept signals ≡ map kept_of (distinct [] (meanings ms))
all_distinct seen signals list ms i h a t =
    let many = as_many list ms t in
    sym (append-nil (map kept signals))
    ∙ ap (λ (xs : List Mention). map kept signals ++ map kept_of (distinct a.numbers (meanings xs))) (sym (none_left ms i (omega (arith, many)))) ∙ a.left ms t
  where
    as_many : (list : List MentionOf) (ms : List Mention) → all_told list ≡ all_told_of ms → length ms ≡ length list
    as_many [] [] k = refl
    as_many [] (m ∷ ms) k = cc
    as_many (x ∷ list) [] k = cc
    as_many (x ∷ list) (m ∷ ms) k = let rest : all_told list ≡ all_told_of ms = cc in ap suc (as_many list ms rest)
