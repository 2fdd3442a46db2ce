-- The vectors of one stimulus, round by round.
use Rattle.std.proofs.Common.{◌≡◌, ◌<◌, ◌≤◌, ◌+◌, ◌∙◌, ℕ, suc, Bool, true, false, ◌||◌, List, [], ◌∷◌, ◌++◌, length, take, sym, ap, refl, subst, arith, inl, inr, Result, Err, IfErr, All}
use Rattle.std.proofs.lemmas.List.{take_all}
use Rattle.std.proofs.lemmas.List.Elements.{All-append, All-cons, All-nil}
use Rattle.vs_four.specs.declared.Bit4.{Bit4}
use Rattle.vs_desk.specs.Desk.{Contents}
use Rattle.vs_desk.specs.Places.{stimulus_place}
use Rattle.vs_stim.specs.Known.{Known, last_entry, remaining, text_left}
use Rattle.vs_stim.specs.Row.{sizes}
use Rattle.vs_feed.specs.Lanes.{lane_at, some_live, OtherPlacesKept}
use Rattle.vs_stim.specs.declared.error.StimError.{StimError}
use Rattle.vs_stim.specs.declared.error.StimError.TheVariants as E
use Rattle.vs_rounds.specs.declared.stop.Stop.{Stop}
use Rattle.vs_rounds.specs.declared.stop.Stop.TheVariants.{Refused, ReadFault}
use Rattle.vs_rounds.specs.Stops.{IsLaneOf, stop_of}
use Rattle.vs_rounds.specs.Lanes.{Run, HaveNext, HaveVectors, IsRead, reading_of}
use Rattle.vs_rounds.proofs.Limited.{few_vectors}
use Rattle.vs_rounds.proofs.Readings.{read_on, vector_read}
use Rattle.vs_rounds.proofs.Rereads.{either}
use Rattle.vs_ordered.specs.declared.reading.Unread.{Unread}
use Rattle.vs_ordered.specs.declared.reading.Unread.TheVariants.{Stopped, Memory}
use Rattle.vs_ordered.specs.Whole.{IsWhole, OnStop, IsMemory}

-- the one lane's state says whether some lane is live
pub lone_live : (ks : List Known) → length ks ≡ 1 → some_live ks ≡ (lane_at ks 0).live
lone_live [] h = absurd (omega arith)
lone_live (k ∷ []) h = or_false k.live
  where
    or_false : (b : Bool) → (b || false) ≡ b
    or_false true = refl
    or_false false = refl
lone_live (k ∷ l ∷ ks) h = absurd (omega arith)

-- once a round's vectors are read the next one's are next
pub next_round : (run : Run) (k : ℕ) (ks : List Known) (c : Contents) → HaveVectors run k ks c → HaveNext run (k + 1) ks c
next_round run k ks c h =
    let next : suc k ≡ k + 1 = omega arith in
    subst (λ (n : ℕ). HaveNext run n ks c) next (record { each = λ i lt. read_on (h.each i lt); read = λ i lt live. h.read i lt live; taken = h.taken })

-- one vector more
pub one_more : (run : Run) (k : ℕ) (ks : List Known) (c : Contents) (vectors more : List (List (List Bit4))) → HaveVectors run k ks c → length ks ≡ 1 → (lane_at ks 0).live ≡ true → length vectors ≡ k
    → vectors ≡ take (length vectors) (reading_of run 0).vectors → more ≡ vectors ++ (lane_at ks 0).vector ∷ [] → more ≡ take (k + 1) (reading_of run 0).vectors
one_more run k ks c vectors more h lone live count is pushed =
    let s = lane_at ks 0 in
    let r = reading_of run 0 in
    let read = subst (λ (b : Bool). IsRead r k b (last_entry s) (remaining s c)) live (h.each 0 (omega arith)) in
    let next : suc k ≡ k + 1 = omega arith in
    pushed
    ∙ ap (λ (vs : List (List (List Bit4))). vs ++ s.vector ∷ []) (is ∙ ap (λ (n : ℕ). take n r.vectors) count)
    ∙ sym (vector_read read).1
    ∙ ap (λ (n : ℕ). take n r.vectors) next

rest_nil : (xs ys : List ℕ) → xs ++ ys ≡ [] → ys ≡ []
rest_nil [] ys h = h
rest_nil (x ∷ xs) ys h = absurd (cc)

nothing_left : (s : Known) (c : Contents) → s.lane ≡ 0 → text_left s c ≡ [] → c.left (stimulus_place 0) ≡ []
nothing_left s c lane none = ap (λ (n : ℕ). c.left (stimulus_place n)) (sym lane) ∙ rest_nil s.pending (c.left (stimulus_place s.lane)) none

-- at the end of the text
pub whole_read : (run : Run) (k : ℕ) (ks : List Known) (c : Contents) (vectors : List (List (List Bit4))) → HaveVectors run k ks c → length ks ≡ 1 → (lane_at ks 0).live ≡ false → (lane_at ks 0).lane ≡ 0 → length vectors ≡ k
    → vectors ≡ take (length vectors) (reading_of run 0).vectors → IsWhole (reading_of run 0) vectors (c.left (stimulus_place 0))
whole_read run k ks c vectors h lone dead lane count is =
    let within : 0 < length ks = omega arith in
    let read = h.each 0 within in
    record {
      unrefused = read.unrefused dead;
      vectors_are = is ∙ take_all (length vectors) (reading_of run 0).vectors (omega (arith, read.ended dead));
      left_is = nothing_left (lane_at ks 0) c lane (h.taken.each 0 within dead);
    }

-- no text has more vectors than the limit
pub whole_at_last : (run : Run) (ks : List Known) (c : Contents) (vectors : List (List (List Bit4))) → HaveNext run (length vectors) ks c → length ks ≡ 1 → (lane_at ks 0).lane ≡ 0 → 16777217 ≤ length vectors
    → vectors ≡ take (length vectors) (reading_of run 0).vectors → IsWhole (reading_of run 0) vectors (c.left (stimulus_place 0))
whole_at_last run ks c vectors h lone lane many is =
    let within : 0 < length ks = omega arith in
    let unread = h.each 0 within in
    let few = few_vectors run.ports (run.texts 0) in
    elim (either (lane_at ks 0).live) [
      | inl live ↦ let more = unread.within live in absurd (omega arith)
      | inr dead ↦ record {
        unrefused = unread.unrefused dead;
        vectors_are = is ∙ take_all (length vectors) (reading_of run 0).vectors (omega arith);
        left_is = nothing_left (lane_at ks 0) c lane (h.taken.each 0 within dead);
      }
    ]

-- one of these lengths more
pub one_sized : (ns : List ℕ) (vectors more : List (List (List Bit4))) (v : List (List Bit4)) → All (λ (x : List (List Bit4)). sizes x ≡ ns) vectors → sizes v ≡ ns → more ≡ vectors ++ v ∷ [] → All (λ (x : List (List Bit4)). sizes x ≡ ns) more
one_sized ns vectors more v all fits is =
    let P : List (List Bit4) → Type 0 = λ (x : List (List Bit4)). sizes x ≡ ns in
    subst (All P) (sym is) (All-append P vectors (v ∷ []) all (All-cons P v [] fits (All-nil P)))

-- ---- other places

pub kept_on : {a b c : Contents} → OtherPlacesKept 1 a b → OtherPlacesKept 1 b c → OtherPlacesKept 1 a c
kept_on p q = record {
  files = q.files ∙ p.files;
  put = q.put ∙ p.put;
  before = λ place lt. q.before place lt ∙ p.before place lt;
  behind = λ place le. q.behind place le ∙ p.behind place le;
}

pub kept_at_first : (a : Contents) → OtherPlacesKept 1 a a
kept_at_first a = record { files = refl; put = refl; before = λ place lt. refl; behind = λ place le. refl }

-- ---- why the reading ends

pub stop_err : {V : Type 0} (P : Stop → Type 0) (r : Result V Unread) (stop : Stop) (e : Unread) → r ≡ Err e → e ≡ Stopped stop → P stop → IfErr r (OnStop P)
stop_err {V} P r stop e is of h = subst (λ (x : Result V Unread). IfErr x (OnStop P)) (sym is) (subst (OnStop P) (sym of) h)

pub memory_err : {V : Type 0} (P : Stop → Type 0) (r : Result V Unread) (e : Unread) → r ≡ Err e → e ≡ Memory → IfErr r (OnStop P)
memory_err {V} P r e is of = subst (λ (x : Result V Unread). IfErr x (OnStop P)) (sym is) (subst (OnStop P) (sym of) tt)

pub no_memory : {V : Type 0} (Q : Type 0) (r : Result V Unread) (stop : Stop) (e : Unread) → r ≡ Err e → e ≡ Stopped stop → IfErr r (λ u. IsMemory u → Q)
no_memory {V} Q r stop e is of = subst (λ (x : Result V Unread). IfErr x (λ u. IsMemory u → Q)) (sym is) (subst (λ (u : Unread). IsMemory u → Q) (sym of) (λ h. absurd h))

pub with_memory : {V : Type 0} (Q : Type 0) (r : Result V Unread) (e : Unread) → r ≡ Err e → Q → IfErr r (λ u. IsMemory u → Q)
with_memory {V} Q r e is h = subst (λ (x : Result V Unread). IfErr x (λ u. IsMemory u → Q)) (sym is) (λ _. h)

stop_cases : (P : Stop → Type 0) (lane : ℕ) (error : StimError) → P (ReadFault lane) → P (Refused lane error) → P (stop_of lane error)
stop_cases P lane E.ReadFault fault refusal = fault
stop_cases P lane E.BadHeader fault refusal = refusal
stop_cases P lane E.NoExpectation fault refusal = refusal
stop_cases P lane (E.BadVector line) fault refusal = refusal
stop_cases P lane E.FirstUnknown fault refusal = refusal
stop_cases P lane (E.UnknownReset line) fault refusal = refusal
stop_cases P lane (E.UnknownSelect line) fault refusal = refusal
stop_cases P lane E.NoVector fault refusal = refusal
stop_cases P lane E.TooManyVectors fault refusal = refusal
stop_cases P lane E.StimulusTooLong fault refusal = refusal
stop_cases P lane (E.LineTooLong line) fault refusal = refusal
stop_cases P lane E.Memory fault refusal = refusal

pub of_lane : (lanes lane : ℕ) (error : StimError) (stop : Stop) → stop ≡ stop_of lane error → lane < lanes → IsLaneOf lanes stop
of_lane lanes lane error stop is h = subst (IsLaneOf lanes) {x = stop_of lane error} (sym {b = stop_of lane error} is) (stop_cases (IsLaneOf lanes) lane error h h)
