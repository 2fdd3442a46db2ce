-- Runs of calls, one after the other.
use Rattle.std.proofs.Common.{◌≡◌, ℕ, ◌+◌, ◌<◌, ◌≤◌, List, [], ◌∷◌, ◌++◌, length, get_or, take, append-nil, append_assoc, sym, ap, ◌∙◌, subst, arith}
use Rattle.std.specs.List.{All}
use Rattle.std.proofs.lemmas.List.{take_more, take_all}
use Rattle.std.proofs.lemmas.List.Concat.{flat_map-append}
use Rattle.std.proofs.lemmas.List.Elements.{All-nil, All-append, All-push, All-head, All-take, All-get_or}
use Rattle.vs_code.specs.Calls.{Call}
use Rattle.vs_program.specs.declared.compiled.Run.{Run}
use Rattle.vs_program.specs.Phases.{IsRunWithin, calls_of_run, calls_of_runs}
use Rattle.vs_assemble.specs.Runs.{AreJoinedRuns}
use Rattle.vs_assemble.proofs.Slices.{parts_glued}

-- the calls of one run, as those of a list of runs
calls_of_one : (calls : List Call) (r : Run) → calls_of_runs calls (r ∷ []) ≡ calls_of_run calls r
calls_of_one calls r = append-nil (calls_of_run calls r)

calls_of_both : (calls : List Call) (first others : List Run) → calls_of_runs calls (first ++ others) ≡ calls_of_runs calls first ++ calls_of_runs calls others
calls_of_both calls first others = flat_map-append (calls_of_run calls) first others

-- of a list that ends with one, the list before it and that one
last_of : (P : Run → Type 0) (init : List Run) (last : Run) → All P (init ++ last ∷ []) → All P init × P last
last_of P init last h = (
  subst (All P) (front init last) (All-take P (length init) (init ++ last ∷ []) h),
  subst P (at_end init last) (All-get_or P (init ++ last ∷ []) (length init) last (let long = Rattle.std.proofs.Common.length-append init (last ∷ []) in omega (arith, long)) h),
)
  where
    front : (xs : List Run) (x : Run) → take (length xs) (xs ++ x ∷ []) ≡ xs
    front xs x = Rattle.std.proofs.Math.Seq.take-append_seam xs (x ∷ [])

    at_end : (xs : List Run) (x : Run) → get_or (xs ++ x ∷ []) (length xs) x ≡ x
    at_end [] x = Rattle.std.proofs.Common.refl
    at_end (y ∷ ys) x = at_end ys x

-- a run that goes on where the last one ends
pub merged : (init : List Run) (last run : Run) → last.to ≡ run.from → AreJoinedRuns (init ++ last ∷ []) (run ∷ []) (init ++ (record { from = last.from; to = run.to }) ∷ [])
merged init last run e = record {
  within = λ count h k.
      let parts = last_of (IsRunWithin count) init last h in
      let one = All-head (IsRunWithin count) run [] k in
      All-push (IsRunWithin count) init (record { from = last.from; to = run.to }) parts.0 (record { order = omega (arith, e, parts.1.order, one.order); there = one.there });
  calls = λ calls h k.
      let parts = last_of (IsRunWithin (length calls)) init last h in
      let one = All-head (IsRunWithin (length calls)) run [] k in
      let both : calls_of_run calls (record { from = last.from; to = run.to }) ≡ calls_of_run calls last ++ calls_of_run calls run =
      sym (ap (λ (a : ℕ). calls_of_run calls last ++ calls_of_run calls (record { from = a; to = run.to })) (sym e) ∙ parts_glued calls last.from last.to run.to parts.1.order (omega (arith, e, one.order)) one.there) in
      calls_of_both calls init ((record { from = last.from; to = run.to }) ∷ [])
      ∙ ap (λ (cs : List Call). calls_of_runs calls init ++ cs) (calls_of_one calls (record { from = last.from; to = run.to }) ∙ both)
      ∙ sym (append_assoc (calls_of_runs calls init) (calls_of_run calls last) (calls_of_run calls run))
      ∙ ap (λ (cs : List Call). (calls_of_runs calls init ++ cs) ++ calls_of_run calls run) (sym (calls_of_one calls last))
      ∙ ap (λ (cs : List Call). cs ++ calls_of_run calls run) (sym (calls_of_both calls init (last ∷ [])))
      ∙ ap (λ (cs : List Call). calls_of_runs calls (init ++ last ∷ []) ++ cs) (sym (calls_of_one calls run));
}

-- a run more, whatever there is before it
pub one_more : (runs : List Run) (run : Run) → AreJoinedRuns runs (run ∷ []) (runs ++ run ∷ [])
one_more runs run = record {
  within = λ count h k. All-append (IsRunWithin count) runs (run ∷ []) h k;
  calls = λ calls h k. calls_of_both calls runs (run ∷ []);
}

-- none more
pub none_more : (runs : List Run) → AreJoinedRuns runs [] runs
none_more runs = record {
  within = λ count h k. h;
  calls = λ calls h k. sym (append-nil (calls_of_runs calls runs));
}

-- the others one by one
pub next_more : (first others before after : List Run) (n : ℕ) → n < length others → AreJoinedRuns first (take n others) before
    → AreJoinedRuns before (get_or others n (record { from = 0; to = 0 }) ∷ []) after → AreJoinedRuns first (take (n + 1) others) after
next_more first others before after n l h k =
    subst (λ rs. AreJoinedRuns first rs after) (sym (take_more others n (record { from = 0; to = 0 }) l))
    (record {
      within = λ count f o.
          let parts = last_of (IsRunWithin count) (take n others) (get_or others n (record { from = 0; to = 0 })) o in
          k.within count (h.within count f parts.0) (All-push (IsRunWithin count) [] (get_or others n (record { from = 0; to = 0 })) (All-nil (IsRunWithin count)) parts.1);
      calls = λ calls f o.
          let run : Run = get_or others n (record { from = 0; to = 0 }) in
          let parts = last_of (IsRunWithin (length calls)) (take n others) run o in
          k.calls calls (h.within (length calls) f parts.0) (All-push (IsRunWithin (length calls)) [] run (All-nil (IsRunWithin (length calls))) parts.1)
          ∙ ap (λ (cs : List Call). cs ++ calls_of_runs calls (run ∷ [])) (h.calls calls f parts.0)
          ∙ append_assoc (calls_of_runs calls first) (calls_of_runs calls (take n others)) (calls_of_runs calls (run ∷ []))
          ∙ ap (λ (cs : List Call). calls_of_runs calls first ++ cs) (sym (calls_of_both calls (take n others) (run ∷ [])));
    })

pub all_more : (first others runs : List Run) (n : ℕ) → length others ≤ n → AreJoinedRuns first (take n others) runs → AreJoinedRuns first others runs
all_more first others runs n l h = subst (λ rs. AreJoinedRuns first rs runs) (take_all n others l) h

-- two lists, from none
pub both_joined : (first others some runs : List Run) → AreJoinedRuns [] first some → AreJoinedRuns some others runs → AreJoinedRuns first others runs
both_joined first others some runs h k = record {
  within = λ count f o. k.within count (h.within count (All-nil (IsRunWithin count)) f) o;
  calls = λ calls f o.
      k.calls calls (h.within (length calls) (All-nil (IsRunWithin (length calls))) f) o
      ∙ ap (λ (cs : List Call). cs ++ calls_of_runs calls others) (h.calls calls (All-nil (IsRunWithin (length calls))) f);
}
