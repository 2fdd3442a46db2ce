-- The parts of a call, and what a kernel needs of them.
use Rattle.std.proofs.Common.{◌≡◌, ℕ, zero, suc, ◌+◌, ◌<◌, ◌≤◌, ◌^◌, Bool, true, List, [], ◌∷◌, ◌++◌, map, length, take, drop, get_or, sym, ap, ◌∙◌, length-append, arith}
use Rattle.std.proofs.lemmas.List.{length-map, get_or_append_left, get_or-map}
use Rattle.std.specs.List.{All, Contains, concat}
use Rattle.std.proofs.lemmas.List.Elements.{All-contains, Contains-get_or, Contains-append_left, Contains-append_right}
use Rattle.vs_plane.specs.declared.pairs.Pair.{Pair}
use Rattle.vs_plane.specs.Kernels.{AreTargets, IsArgument, Computes}
use Rattle.vs_code.specs.declared.kernels.AnyKernel.{AnyKernel}
use Rattle.vs_code.specs.declared.placed.Lengths.{Lengths}
use Rattle.vs_code.specs.declared.placed.Lengths.TheVariants.{One, Two, Three}
use Rattle.vs_code.specs.Kernels.{takes, room_of, operator_of}
use Rattle.vs_code.specs.Calls.{Call, IsCall, lengths_of, call_cost, call_slots}
use Rattle.vs_code.specs.Placed.{behind, call_in_front, lengths_in, lists_in_front}
use Rattle.vs_code.proofs.Weights.{two_to_four}

abbrev pub call_of : AnyKernel → List (List ℕ) → List ℕ → List ℕ → Call
call_of kernel args to scratch = record { kernel = kernel; args = args; to = to; scratch = scratch }

-- a call by its parts
pub same_call : (kernel : AnyKernel) (args xss : List (List ℕ)) (to t scratch s : List ℕ) (now : Call)
    → call_of kernel args to scratch ≡ now → args ≡ xss → t ≡ to → s ≡ scratch → call_of kernel xss t s ≡ now
same_call kernel args xss to t scratch s now e f g h =
    ap (λ (ys : List (List ℕ)). call_of kernel ys t s) (sym f)
    ∙ ap (λ (ys : List ℕ). call_of kernel args ys s) g
    ∙ ap (λ (ys : List ℕ). call_of kernel args to ys) h
    ∙ e

-- a call whose lists stand in front, by its parts
front_is_parts : (kernel : AnyKernel) (args : Lengths) (ns : List ℕ) (to scratch : ℕ) (slots all : List ℕ) (xss : List (List ℕ)) (r t s : List ℕ)
    → lengths_in args ≡ ns → slots ≡ all → lists_in_front ns slots ≡ xss → behind ns slots ≡ r → t ≡ take to r → s ≡ take scratch (drop to r)
    → call_of kernel xss t s ≡ call_in_front kernel (lengths_in args) to scratch all
front_is_parts kernel args ns to scratch slots all xss r t s n e f b g h =
    same_call kernel (lists_in_front ns slots) xss (take to (behind ns slots)) t (take scratch (drop to (behind ns slots))) s
    (call_in_front kernel (lengths_in args) to scratch all)
    (ap (λ (ms : List ℕ). call_in_front kernel ms to scratch slots) (sym n) ∙ ap (call_in_front kernel (lengths_in args) to scratch) e) f
    (g ∙ ap (take to) (sym b)) (h ∙ ap (λ (ys : List ℕ). take scratch (drop to ys)) (sym b))

pub one_call : (kernel : AnyKernel) (args : Lengths) (to scratch a : ℕ) (slots all x r t s : List ℕ)
    → args ≡ One a → slots ≡ all → x ≡ take a slots → r ≡ drop a slots → t ≡ take to r → s ≡ take scratch (drop to r)
    → call_of kernel (x ∷ []) t s ≡ call_in_front kernel (lengths_in args) to scratch all
one_call kernel args to scratch a slots all x r t s n e f b g h =
    front_is_parts kernel args (a ∷ []) to scratch slots all (x ∷ []) r t s (ap lengths_in n) e (cc) (cc) g h

pub two_call : (kernel : AnyKernel) (args : Lengths) (to scratch a b : ℕ) (slots all x p y r t s : List ℕ)
    → args ≡ Two a b → slots ≡ all → x ≡ take a slots → p ≡ drop a slots → y ≡ take b p → r ≡ drop b p → t ≡ take to r → s ≡ take scratch (drop to r)
    → call_of kernel (x ∷ y ∷ []) t s ≡ call_in_front kernel (lengths_in args) to scratch all
two_call kernel args to scratch a b slots all x p y r t s n e f f' d d' g h =
    front_is_parts kernel args (a ∷ b ∷ []) to scratch slots all (x ∷ y ∷ []) r t s (ap lengths_in n) e (cc) (cc) g h

pub three_call : (kernel : AnyKernel) (args : Lengths) (to scratch a b c : ℕ) (slots all x p y q z r t s : List ℕ)
    → args ≡ Three a b c → slots ≡ all → x ≡ take a slots → p ≡ drop a slots → y ≡ take b p → q ≡ drop b p → z ≡ take c q → r ≡ drop c q
    → t ≡ take to r → s ≡ take scratch (drop to r)
    → call_of kernel (x ∷ y ∷ z ∷ []) t s ≡ call_in_front kernel (lengths_in args) to scratch all
three_call kernel args to scratch a b c slots all x p y q z r t s n e f f' d d' k k' g h =
    front_is_parts kernel args (a ∷ b ∷ c ∷ []) to scratch slots all (x ∷ y ∷ z ∷ []) r t s (ap lengths_in n) e (cc) (cc) g h

-- there are no others
pub one_to_three : (call : Call) → IsCall call → (1 ≤ length call.args) × (length call.args ≤ 3)
one_to_three call h =
    let counted = two_to_four call.kernel (lengths_of call) h.lengths in
    let long : length (lengths_of call) ≡ length call.args + 1 = length-append (map length call.args) (length call.to ∷ []) ∙ ap (λ n. n + 1) (length-map call.args length) in
    (omega arith, omega arith)

-- ---- in a file that has their slots

-- what the kernels need of a call in a file of `count` slots
pub record CanRun (count : ℕ) (call : Call) : Type 0 where
  pub lengths : takes call.kernel (lengths_of call) ≡ true
  pub room : room_of call.kernel (lengths_of call) ≤ length call.scratch
  pub targets : AreTargets count call.to call.scratch
  pub arguments : All (λ arg. IsArgument count arg call.to call.scratch) call.args

in_concat : (xss : List (List ℕ)) (k : ℕ) (d : List ℕ) (slot : ℕ) → k < length xss → Contains (get_or xss k d) slot → Contains (concat xss) slot
in_concat [] k d slot l h = absurd (omega arith)
in_concat (xs ∷ xss) zero d slot l h = Contains-append_left xs (concat xss) slot h
in_concat (xs ∷ xss) (suc k) d slot l h = Contains-append_right xs (concat xss) slot (in_concat xss k d slot (omega arith) h)

-- what holds of all slots of a call holds of those of each list
all_in : (P : ℕ → Type 0) (xs ys : List ℕ) → ((slot : ℕ) → Contains xs slot → Contains ys slot) → All P ys → All P xs
all_in P xs ys within h = λ k d l. All-contains P ys (get_or xs k d) h (within (get_or xs k d) (Contains-get_or xs k d l))

pub can_run : (count : ℕ) (call : Call) → IsCall call → All (λ slot. slot < count) (call_slots call) → CanRun count call
can_run count call h below =
    let written = call.to ++ call.scratch in
    let all = concat call.args ++ written in
    record {
      lengths = h.lengths;
      room = h.room;
      targets = record {
        to_below = all_in (λ slot. slot < count) call.to all (λ slot m. Contains-append_right (concat call.args) written slot (Contains-append_left call.to call.scratch slot m)) below;
        scratch_below = all_in (λ slot. slot < count) call.scratch all (λ slot m. Contains-append_right (concat call.args) written slot (Contains-append_right call.to call.scratch slot m)) below;
        to_differ = h.targets.to_differ;
        scratch_differ = h.targets.scratch_differ;
        both_apart = h.targets.both_apart;
      };
      arguments = λ k d l. record {
        below = all_in (λ slot. slot < count) (get_or call.args k d) all (λ slot m. Contains-append_left (concat call.args) written slot (in_concat call.args k d slot l m)) below;
        to_apart = (h.arguments k d l).to_apart;
        scratch_apart = (h.arguments k d l).scratch_apart;
      };
    }

-- what a call did
pub record HasRun {W : Type 0} (lane : W → ℕ → Bool) (lanes : ℕ) (before after : List (Pair W)) (old new : ℕ) (call : Call) : Type 0 where
  pub computes : Computes lane lanes (operator_of call.kernel (length call.to)) call.args call.to call.scratch before after
  pub ticked : new ≡ old + call_cost call

-- ---- their lengths

-- each is a number of 32 bits
pub args_short : (call : Call) → IsCall call → All (λ arg. length arg < 2 ^ 32) call.args
args_short call h = λ k d l.
    let ms = map length call.args in
    let long : length ms ≡ length call.args = length-map call.args length in
    let all = length-append ms (length call.to ∷ []) in
    omega (arith, h.short k 0 (omega (arith, long, all)), get_or_append_left ms (length call.to ∷ []) 0 k (omega (arith, long)), get_or-map length call.args k d 0 l)
