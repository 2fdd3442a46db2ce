-- The bench of words.
use Rattle.std.proofs.Common.{◌≡◌, ◌-◌, ◌<◌, ◌≤◌, Bool, true, false, cond, List, [], ◌∷◌, map, length, take, drop, get_or, codes, Option, Some, None, option_map, refl, sym, ap, subst, ◌∙◌, arith}
use Rattle.std.specs.Str.{bytes_eq}
use Rattle.std.proofs.lemmas.List.{take_rest}
use Rattle.std.proofs.lemmas.Option.{option_and_then_some, same_Some}
use Rattle.std.proofs.lemmas.Slice.Eq.{bytes_eq-Decides}
use Rattle.vs_desk.specs.Places.{most_lanes}
use Rattle.vs_job.specs.declared.bench.Bench.{Bench}
use Rattle.vs_job.specs.declared.job.Job.{Job}
use Rattle.vs_job.specs.declared.words.Verb.{Verb}
use Rattle.vs_job.specs.declared.words.Verb.TheVariants.{Run, Check, Queue}
use Rattle.vs_job.specs.Job.{Text, count_value, verb_named, verb_and_words, job}
use Rattle.vs_job.specs.Bench.{most_vectors, sized, bench, IsBench}
use Rattle.vs_job.proofs.Ranges.{count_value-range}

-- ---- from what the words are seen in

-- fewer than two words call for none
pub bench-few : {A : Type 0} (text : A → Text) (xs : List A) → length xs < 2 → None ≡ bench (map text xs)
unfolding bench
bench-few text [] few = refl
bench-few text (x ∷ []) few = refl
bench-few text (x ∷ y ∷ xs) few = absurd (omega arith)

-- the bench of two words or more, where it is known whether the second one is `bench`
pub bench-some : {A : Type 0} (text : A → Text) (xs : List A) (y : A) (t : Bool) → 2 ≤ length xs → y ≡ get_or xs 1 y → bytes_eq (text y) (codes "bench") ≡ t
    → cond t (sized (map text (take (length xs - 2) (drop 2 xs)))) None ≡ bench (map text xs)
unfolding bench
bench-some text [] y t some second is = absurd (omega arith)
bench-some text (x ∷ []) y t some second is = absurd (omega arith)
bench-some {A} text (x ∷ z ∷ xs) y t some second is =
    ap (λ (ws : List A). cond t (sized (map text ws)) None) (take_rest (x ∷ z ∷ xs) 2)
    ∙ ap (λ (b : Bool). cond b (sized (map text xs)) None) (sym is ∙ ap (λ (w : A). bytes_eq (text w) (codes "bench")) second)

-- ---- what the words call for

is_named : (command name : Text) → bytes_eq command name ≡ true → bytes_eq name (codes "bench") ≡ false → bytes_eq command (codes "bench") ≡ false
is_named command name is other =
    let same : command ≡ name = (bytes_eq-Decides command name).0 is in
    rw same other

-- the name of a command that calls for a job isn't that of the bench
not_bench : (command : Text) (words : List Text) (read : Verb × List Text) → option_map (λ verb. (verb, words)) (verb_named command) ≡ Some read → bytes_eq command (codes "bench") ≡ false
not_bench command words read e = go (bytes_eq command (codes "run")) (bytes_eq command (codes "check")) (bytes_eq command (codes "queue")) refl refl refl e
  where
    go : (run check queue : Bool) → bytes_eq command (codes "run") ≡ run → bytes_eq command (codes "check") ≡ check → bytes_eq command (codes "queue") ≡ queue
        → option_map (λ verb. (verb, words)) (cond run (Some Run) (cond check (Some Check) (cond queue (Some Queue) None))) ≡ Some read → bytes_eq command (codes "bench") ≡ false
    go true check queue is _ _ e = is_named command (codes "run") is refl
    go false true queue _ is _ e = is_named command (codes "check") is refl
    go false false true _ _ is e = is_named command (codes "queue") is refl
    go false false false _ _ _ e = absurd (cc)

-- words that call for a job call for no bench
pub bench-none : (words : List Text) (j : Job) → job words ≡ Some j → bench words ≡ None
unfolding job bench
bench-none [] j e = refl
bench-none (program ∷ []) j e = refl
bench-none (program ∷ command ∷ words) j e =
    option_and_then_some _ (verb_and_words (program ∷ command ∷ words)) j e (λ read is_read _.
    let other = not_bench command words read is_read in
    rw other refl)

some_then : {A : Type 0} (t : Bool) (o : Option A) (x : A) → cond t o None ≡ Some x → o ≡ Some x
some_then true o x e = e
some_then false o x e = absurd (cc)

IsBench-sized : (words : List Text) (b : Bench) → sized words ≡ Some b → IsBench b
IsBench-sized [] b e = absurd (cc)
IsBench-sized (vectors ∷ []) b e =
    option_and_then_some _ (count_value most_vectors vectors) b e (λ n is_vectors e1.
    let range = count_value-range most_vectors vectors n is_vectors in
    subst IsBench (same_Some _ b e1) (record { vectors_from = range.from; vectors_to = range.to; lanes_from = omega arith; lanes_to = omega arith }))
IsBench-sized (vectors ∷ lanes ∷ []) b e =
    option_and_then_some _ (count_value most_vectors vectors) b e (λ n is_vectors e1.
    option_and_then_some _ (count_value most_lanes lanes) b e1 (λ l are_lanes e2.
    let range = count_value-range most_vectors vectors n is_vectors in
    let few = count_value-range most_lanes lanes l are_lanes in
    subst IsBench (same_Some _ b e2) (record { vectors_from = range.from; vectors_to = range.to; lanes_from = few.from; lanes_to = few.to })))
IsBench-sized (vectors ∷ lanes ∷ more ∷ words) b e = absurd (cc)

pub IsBench-bench : (words : List Text) (b : Bench) → bench words ≡ Some b → IsBench b
unfolding bench
IsBench-bench [] b e = absurd (cc)
IsBench-bench (program ∷ []) b e = absurd (cc)
IsBench-bench (program ∷ command ∷ words) b e = IsBench-sized words b (some_then (bytes_eq command (codes "bench")) (sized words) b e)
