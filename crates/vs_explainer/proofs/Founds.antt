-- Lanes of a check that missed something, and what is put of them.
use Rattle.std.proofs.Common.{◌≡◌, ◌⊎◌, ℕ, suc, ◌+◌, ◌≤◌, Bool, List, ◌∷◌, length, drop, take, Option, Some, None, Result, Ok, Err, IsOk, IsErr, IsTrue, add-one, inl, inr, refl, sym, ap, ◌∙◌, subst}
use Rattle.std.specs.Prelude.{MatchOption, option_map}
use Rattle.std.specs.List.{slice_get}
use Rattle.std.proofs.Math.Seq.{drop-cons}
use Rattle.std.proofs.lemmas.List.{drop_all}
use Rattle.std.proofs.lemmas.Option.{slice_get_within, get_or_from_slice_get}
use Rattle.vs_desk.specs.declared.desk.Failed.{Failed}
use Rattle.vs_desk.specs.Desk.{Told, PutsAll}
use Rattle.vs_misses.specs.Missed.{Found}
use Rattle.vs_misses.specs.Texts.{wanted_text, bits_text}
use Rattle.vs_job.specs.declared.job.Job.{Job}
use Rattle.vs_explanation.specs.Missed.{Spot, no_spot, spot_in, miss_text}
use Rattle.vs_explanation.specs.Subjects.{stimulus_path}
use Rattle.vs_reread.specs.Again.{lane_again, most_stimulus, first_lines, OnlyReadAt}
use Rattle.vs_explainer.specs.Missed.{SeesLane, TellsFound, TellsLane, TellsFrom}

-- ---- one lane

some_is : {A : Type 0} (x y : A) → Some x ≡ Some y → x ≡ y
some_is x y e = cc

-- what was read at the path of a lane
pub row_seen : {tells : Bool} {V : Type 0} (items : V → List ℕ) (job : Job) (lane row : ℕ) (old new : Told tells) (path : List ℕ) (r : Option V) → OnlyReadAt (lane_again lane) old new
    → (IsTrue tells → MatchOption r (Unit {0}) (λ v. items v ≡ first_lines row (take most_stimulus (old.contents.files path)))) → slice_get job.stimuli lane ≡ Some path
    → SeesLane job lane row old new (option_map items r)
row_seen items job lane row old new path None only h at = record { only = only; seen_is = λ t text p e k. cc }
row_seen items job lane row old new path (Some v) only h at = record {
  only = only;
  seen_is = λ t text p e k.
      sym (some_is (items v) text e) ∙ h t ∙ ap (λ (q : List ℕ). first_lines row (take most_stimulus (old.contents.files q))) (some_is path p (sym at ∙ k));
}

-- what was read isn't used where memory runs out
unseen : {tells : Bool} (job : Job) (lane row : ℕ) (old new : Told tells) (seen : Option (List ℕ)) → SeesLane job lane row old new seen → SeesLane job lane row old new None
unseen job lane row old new seen s = record { only = s.only; seen_is = λ t text path e h. cc }

pub found_told : {tells : Bool} (job : Job) (lane : ℕ) (f : Found) (old middle new : Told tells) (result : Result (Unit {0}) Failed) (seen : Option (List ℕ)) (spot : Spot)
    → SeesLane job lane f.line old middle seen → (spot ≡ spot_in seen f.line f.miss.output) ⊎ (spot ≡ no_spot)
    → PutsAll middle new 0 (miss_text (stimulus_path job lane) spot f.line f.miss.output (wanted_text f.miss.wanted) (bits_text f.miss.got)) result
    → TellsFound job lane f old new result
found_told job lane f old middle new result seen spot s (inl e) puts = record {
  seen = seen;
  middle = middle;
  sees = s;
  puts = subst (λ (x : Spot). PutsAll middle new 0 (miss_text (stimulus_path job lane) x f.line f.miss.output (wanted_text f.miss.wanted) (bits_text f.miss.got)) result) e puts;
}
found_told job lane f old middle new result seen spot s (inr e) puts = record {
  seen = None;
  middle = middle;
  sees = unseen job lane f.line old middle seen s;
  puts = subst (λ (x : Spot). PutsAll middle new 0 (miss_text (stimulus_path job lane) x f.line f.miss.output (wanted_text f.miss.wanted) (bits_text f.miss.got)) result) e puts;
}

-- the same text by other names of its numbers and digits
pub same_miss : {tells : Bool} (middle new : Told tells) (path : List ℕ) (spot : Spot) (line row output other : ℕ) (wanted want got has : List ℕ) (result : Result (Unit {0}) Failed)
    → line ≡ row → output ≡ other → wanted ≡ want → got ≡ has → PutsAll middle new 0 (miss_text path spot line output wanted got) result
    → PutsAll middle new 0 (miss_text path spot row other want has) result
same_miss middle new path spot line row output other wanted want got has result a b c d puts = rw (← a, ← b, ← c, ← d) puts

-- an Ok of any value, and an Err of any
pub as_ok : {tells : Bool} (job : Job) (lane : ℕ) (f : Option Found) (old new : Told tells) (v : Unit {0}) → TellsLane job lane f old new (Ok v) → TellsLane job lane f old new (Ok tt)
as_ok job lane f old new tt h = h

puts_err : {tells : Bool} (old new : Told tells) (text : List ℕ) (e : Failed) (result : Result (Unit {0}) Failed) → IsErr result → PutsAll {V = Unit {0}} old new 0 text (Err e) → PutsAll old new 0 text result
puts_err old new text e (Ok v) h p = cc
puts_err old new text e (Err f) h p = record { same = tt; put = λ t. tt; places = p.places; failed = p.failed; part = p.part }

pub as_err : {tells : Bool} (job : Job) (lane : ℕ) (f : Option Found) (old new : Told tells) (e : Failed) (result : Result (Unit {0}) Failed) → IsErr result
    → TellsLane job lane f old new (Err e) → TellsLane job lane f old new result
as_err job lane None old new e result h told = let k = told.1 in cc
as_err job lane (Some f) old new e result h told = record {
  seen = told.seen;
  middle = told.middle;
  sees = told.sees;
  puts = puts_err told.middle new _ e result h told.puts;
}

-- ---- all lanes

rest_of : (found : List (Option Found)) (lane : ℕ) (f : Option Found) → slice_get found lane ≡ Some f → drop lane found ≡ f ∷ drop (suc lane) found
rest_of found lane f at =
    drop-cons found lane f (slice_get_within found lane f at) ∙ ap (λ (y : Option Found). y ∷ drop (suc lane) found) (get_or_from_slice_get found lane f f at)

-- a lane was told, and then those behind it are
pub one_told : {tells : Bool} (job : Job) (found : List (Option Found)) (lane : ℕ) (f : Option Found) (old middle new : Told tells) (result : Result (Unit {0}) Failed)
    → slice_get found lane ≡ Some f → TellsLane job lane f old middle (Ok tt) → TellsFrom job (lane + 1) (drop (lane + 1) found) middle new result
    → TellsFrom job lane (drop lane found) old new result
one_told job found lane f old middle new result at told rest =
    subst (λ (fs : List (Option Found)). TellsFrom job lane fs old new result) (sym (rest_of found lane f at))
    (inr (middle, told, subst (λ (n : ℕ). TellsFrom job n (drop n found) middle new result) (add-one lane) rest))

-- a lane was told in part, and those behind it aren't
pub none_told : {tells : Bool} (job : Job) (found : List (Option Found)) (lane : ℕ) (f : Option Found) (old new : Told tells) (result : Result (Unit {0}) Failed)
    → slice_get found lane ≡ Some f → IsErr result → TellsLane job lane f old new result → TellsFrom job lane (drop lane found) old new result
none_told job found lane f old new result at h told = subst (λ (fs : List (Option Found)). TellsFrom job lane fs old new result) (sym (rest_of found lane f at)) (inl (h, told))

-- no lane is left
pub all_told : {tells : Bool} (job : Job) (found : List (Option Found)) (lane : ℕ) (now : Told tells) (result : Result (Unit {0}) Failed) → length found ≤ lane → IsOk result
    → TellsFrom job lane (drop lane found) now now result
all_told job found lane now result end h = subst (λ (fs : List (Option Found)). TellsFrom job lane fs now now result) (sym (drop_all lane found end)) (refl, h)
