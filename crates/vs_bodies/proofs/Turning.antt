-- The turns of a loop, one after the other.
use Rattle.std.proofs.lemmas.List.{append-nil}
use Rattle.std.proofs.Common.{◌≡◌, ℕ, zero, suc, ◌+◌, ◌-◌, ◌<◌, ◌≤◌, Bool, true, false, List, [], ◌∷◌, ◌++◌, if◌then◌else◌, Option, Some, None, refl, sym, ap, ◌∙◌, arith}
use Rattle.vs_four.specs.Logic.{BitList}
use Rattle.vs_grammar.specs.Trees as tree
use Rattle.vs_const.specs.declared.faults.Fault.{Fault}
use Rattle.vs_const.specs.declared.rules.Rule.TheVariants.{LoopTurns}
use Rattle.vs_const.specs.Faults.{least, better, fault, fault_if}
use Rattle.vs_const.specs.Meanings.{Find, turning}
use Rattle.vs_const.specs.Typed.{Typed}
use Rattle.vs_const.specs.Expressions.{constant, is_clean}
use Rattle.vs_const.proofs.Least.{least_append}
use Rattle.vs_elaborated.specs.Statements.{Body, TypedStatement, nothing_done, not_there, in_block, both_done, and_turn, as_copies, given, goes_on, turns, most_turns, loop_turns, loop_done}
use Rattle.vs_bodies.specs.declared.told.Told.{Told}
use Rattle.vs_bodies.specs.Told.{broken, nothing, joined, one, told, Turn, turn, going, tells_turns, tells_loop, head_faults}
use Rattle.vs_bodies.proofs.Joins.{same, joined_assoc, nothing_before, nothing_behind, count_of}
use Rattle.vs_bodies.proofs.Telling.{faults_told, block_told, both_told}

-- behind the most turns there is none more
last_next : (copy : Find → Told) (head : tree.LoopHead) (find : Find) (bits : BitList) → (turn true copy head find bits).next ≡ None
last_next copy head find bits = by (goes_on (constant head.test (turning find head.variable.bytes bits)))
  where
    inner : Find
    inner = turning find head.variable.bytes bits

    test : Typed
    test = constant head.test inner

    by : (g : Bool) → (if g then going true copy head inner test (constant head.next inner) else (let t : Turn = record { told = broken (least test.faults) 0; next = None } in t)).next ≡ None
    by true = refl
    by false = refl

last_step : (copy : Find → Told) (head : tree.LoopHead) (find : Find) (bits : BitList) → tells_turns 0 copy head find (Some bits) ≡ joined (turn true copy head find bits).told (tells_turns 0 copy head find (turn true copy head find bits).next)
last_step copy head find bits =
    sym (nothing_behind (turn true copy head find bits).told) ∙ ap (λ v. joined (turn true copy head find bits).told (tells_turns 0 copy head find v)) (sym (last_next copy head find bits))

-- what was told of the turns so far, with what is left, is all
pub record TurnsSoFar (copy : Find → Told) (head : tree.LoopHead) (find : Find) (first : Option BitList) (n left : ℕ) (so_far : Told) (value : Option BitList) : Type 0 where
  pub all : joined so_far (tells_turns (4096 - n) copy head find value) ≡ tells_turns 4096 copy head find first
  pub within : so_far.count ≤ left
  pub ended : 4096 < n → value ≡ None

pub no_turn_so_far : (copy : Find → Told) (head : tree.LoopHead) (find : Find) (first : Option BitList) (left : ℕ) (so_far : Told) → so_far ≡ nothing → TurnsSoFar copy head find first 0 left so_far first
no_turn_so_far copy head find first left so_far e = record {
  all = ap (λ t. joined t (tells_turns 4096 copy head find first)) e ∙ nothing_before (tells_turns 4096 copy head find first);
  within = let n : so_far.count ≡ 0 = ap (λ (t : Told). t.count) e in omega (arith, n);
  ended = λ h. absurd (omega (arith, h));
}

-- with the turn of this number
turn_all : (copy : Find → Told) (head : tree.LoopHead) (find : Find) (first : Option BitList) (n left : ℕ) (so_far : Told) (bits : BitList) (is_last : Bool) → (is_last ≡ true → n ≡ 4096) → (is_last ≡ false → n < 4096)
    → TurnsSoFar copy head find first n left so_far (Some bits)
    → joined (joined so_far (turn is_last copy head find bits).told) (tells_turns (4096 - (n + 1)) copy head find (turn is_last copy head find bits).next) ≡ tells_turns 4096 copy head find first
turn_all copy head find first n left so_far bits true last more before =
    let e : 4096 - n ≡ 0 = let m = last refl in omega (arith, m) in
    let f : 4096 - (n + 1) ≡ 0 = omega (arith, e) in
    ap (λ m. joined (joined so_far (turn true copy head find bits).told) (tells_turns m copy head find (turn true copy head find bits).next)) f
    ∙ joined_assoc so_far (turn true copy head find bits).told (tells_turns 0 copy head find (turn true copy head find bits).next)
    ∙ ap (joined so_far) (sym (last_step copy head find bits))
    ∙ ap (λ m. joined so_far (tells_turns m copy head find (Some bits))) (sym e)
    ∙ before.all
turn_all copy head find first n left so_far bits false last more before =
    let m = 4096 - (n + 1) in
    let e : 4096 - n ≡ suc m = let h = more refl in omega (arith, h) in
    joined_assoc so_far (turn false copy head find bits).told (tells_turns m copy head find (turn false copy head find bits).next)
    ∙ ap (λ k. joined so_far (tells_turns k copy head find (Some bits))) (sym e)
    ∙ before.all

last_ends : (is_last : Bool) (n : ℕ) (copy : Find → Told) (head : tree.LoopHead) (find : Find) (bits : BitList) → (is_last ≡ false → n < 4096) → 4096 < n + 1 → (turn is_last copy head find bits).next ≡ None
last_ends true n copy head find bits more h = last_next copy head find bits
last_ends false n copy head find bits more h = absurd (let m = more refl in omega (arith, m))

pub one_turn_more : (copy : Find → Told) (head : tree.LoopHead) (find : Find) (first : Option BitList) (n left : ℕ) (so_far told_one sum : Told) (bits : BitList) (is_last : Bool) (next : Option BitList)
    → (is_last ≡ true → n ≡ 4096) → (is_last ≡ false → n < 4096)
    → told_one ≡ (turn is_last copy head find bits).told → next ≡ (turn is_last copy head find bits).next → told_one.count ≤ left - so_far.count → sum ≡ joined so_far told_one
    → TurnsSoFar copy head find first n left so_far (Some bits) → TurnsSoFar copy head find first (n + 1) left sum next
one_turn_more copy head find first n left so_far told_one sum bits is_last next last more o x w s before = record {
  all =
      ap (λ t. joined t (tells_turns (4096 - (n + 1)) copy head find next)) (s ∙ ap (joined so_far) o)
      ∙ ap (λ v. joined (joined so_far (turn is_last copy head find bits).told) (tells_turns (4096 - (n + 1)) copy head find v)) x
      ∙ turn_all copy head find first n left so_far bits is_last last more before;
  within = let k = count_of sum so_far told_one s in let m = before.within in omega (arith, k, m);
  ended = λ h. x ∙ last_ends is_last n copy head find bits more h;
}

pub no_turn_more : (copy : Find → Told) (head : tree.LoopHead) (find : Find) (first : Option BitList) (n left : ℕ) (so_far : Told) (value : Option BitList) → value ≡ None → TurnsSoFar copy head find first n left so_far value → so_far ≡ tells_turns 4096 copy head find first
no_turn_more copy head find first n left so_far value e before =
    sym (nothing_behind so_far) ∙ ap (λ v. joined so_far (tells_turns (4096 - n) copy head find v)) (sym e) ∙ before.all

pub turn_too_many : (copy : Find → Told) (head : tree.LoopHead) (find : Find) (first : Option BitList) (n left : ℕ) (so_far : Told) (bits : BitList) (is_last : Bool) → (is_last ≡ true → n ≡ 4096) → (is_last ≡ false → n < 4096)
    → left - so_far.count < (turn is_last copy head find bits).told.count → TurnsSoFar copy head find first n left so_far (Some bits) → left < (tells_turns 4096 copy head find first).count
turn_too_many copy head find first n left so_far bits is_last last more over before =
    let k = count_of (tells_turns 4096 copy head find first) (joined so_far (turn is_last copy head find bits).told) (tells_turns (4096 - (n + 1)) copy head find (turn is_last copy head find bits).next)
    (sym (turn_all copy head find first n left so_far bits is_last last more before)) in
    let m = before.within in
    omega (arith, k, m)

-- ---- turns as the definitions have them

abbrev pub told_copy : (copy : Find → TypedStatement) → Find → Told
told_copy copy find = told true (copy find)

pub turns_told : (left : ℕ) (copy : Find → TypedStatement) (head : tree.LoopHead) (find : Find) (value : Option BitList) → tells_turns left (told_copy copy) head find value ≡ told true (turns left copy head find value)
turns_told left copy head find None = refl
turns_told zero copy head find (Some bits) = by (goes_on test)
  where
    inner : Find
    inner = turning find head.variable.bytes bits

    test : Typed
    test = constant head.test inner

    ended : Turn
    ended = record { told = broken (least test.faults) 0; next = None }

    by : (g : Bool) → (if g then going true (told_copy copy) head inner test (constant head.next inner) else ended).told ≡ told true (not_there (test.faults ++ fault_if g LoopTurns head.place))
    by true = ap (λ f. broken f 0) (sym (least_append test.faults (fault LoopTurns head.place)))
    by false = ap (λ fs. broken (least fs) 0) (sym (append-nil test.faults))
turns_told (suc left) copy head find (Some bits) = by (goes_on test) (turns_told left copy head find (given next))
  where
    inner : Find
    inner = turning find head.variable.bytes bits

    test : Typed
    test = constant head.test inner

    next : Typed
    next = constant head.next inner

    ended : Turn
    ended = record { told = broken (least test.faults) 0; next = None }

    by : (g : Bool) → tells_turns left (told_copy copy) head find (given next) ≡ told true (turns left copy head find (given next))
        → joined (if g then going false (told_copy copy) head inner test next else ended).told (tells_turns left (told_copy copy) head find (if g then going false (told_copy copy) head inner test next else ended).next)
        ≡ told true (elim g [ true ↦ and_turn (test.faults ++ next.faults) (copy inner) (turns left copy head find (given next)) | false ↦ not_there test.faults ])
    by true h =
        ap (λ t. joined (joined (broken (better (least test.faults) (least next.faults)) 0) (told true (copy inner))) t) h
        ∙ ap (λ f. joined (joined (broken f 0) (told true (copy inner))) (told true (turns left copy head find (given next)))) (sym (least_append test.faults next.faults))
        ∙ joined_assoc (broken (least (test.faults ++ next.faults)) 0) (told true (copy inner)) (told true (turns left copy head find (given next)))
        ∙ ap (joined (broken (least (test.faults ++ next.faults)) 0)) (sym (both_told true (copy inner) (turns left copy head find (given next))))
        ∙ sym (block_told true (test.faults ++ next.faults) (both_done (copy inner) (turns left copy head find (given next))))
    by false h = nothing_behind (broken (least test.faults) 0)

-- ---- the whole loop

copies_told : (b : Bool) (t : TypedStatement) → told b (as_copies t) ≡ joined (one b) (told true t)
copies_told true t = same _ _ _ _ _ _ refl refl (omega arith)
copies_told false t = same _ _ _ _ _ _ refl (omega arith) (omega arith)

clean_least : (fs : List Fault) → least fs ≡ None → is_clean fs ≡ true
clean_least [] h = refl
clean_least (f ∷ fs) h = cc

faulty_least : (fs : List Fault) (f : Fault) → least fs ≡ Some f → is_clean fs ≡ false
faulty_least [] f h = cc
faulty_least (g ∷ fs) f h = refl

pub faulty_loop : (b : Bool) (body : Body) (copy : Find → TypedStatement) (head : tree.LoopHead) (find : Find) (o : Option Fault) (f : Fault) → o ≡ least (head_faults head find) → o ≡ Some f
    → told b (loop_done body copy head find) ≡ joined (broken o 0) (one b)
faulty_loop b body copy head find o f e h = by (is_clean (head_faults head find)) (faulty_least (head_faults head find) f (sym e ∙ h))
  where
    by : (c : Bool) → c ≡ false → told b (if c then in_block (constant head.first find).faults (loop_turns body copy head find (constant head.first find)) else nothing_done (head_faults head find)) ≡ joined (broken o 0) (one b)
    by true k = cc
    by false k = faults_told b (head_faults head find) ∙ ap (λ z. joined (broken z 0) (one b)) (sym e)

-- where loops aren't unrolled
pub refused_loop : (b : Bool) (body : Body) (copy : Find → TypedStatement) (head : tree.LoopHead) (find : Find) (o first sum : Option Fault) → o ≡ least (head_faults head find) → o ≡ None → body.unrolls ≡ false
    → first ≡ least (constant head.first find).faults → sum ≡ better first (least (fault LoopTurns head.place)) → told b (loop_done body copy head find) ≡ joined (broken sum 0) (one b)
refused_loop b body copy head find o first sum e h u f s = by (is_clean (head_faults head find)) (clean_least (head_faults head find) (sym e ∙ h))
  where
    fs : List Fault
    fs = (constant head.first find).faults

    refused : (v : Bool) → v ≡ false → told b (in_block fs (if v then as_copies (turns most_turns copy head find (given (constant head.first find))) else nothing_done (fault LoopTurns head.place))) ≡ joined (broken sum 0) (one b)
    refused true k = cc
    refused false k =
        block_told b fs (nothing_done (fault LoopTurns head.place))
        ∙ ap (joined (broken (least fs) 0)) (faults_told b (fault LoopTurns head.place))
        ∙ sym (joined_assoc (broken (least fs) 0) (broken (least (fault LoopTurns head.place)) 0) (one b))
        ∙ ap (λ z. joined (broken z 0) (one b)) (ap (λ z. better z (least (fault LoopTurns head.place))) (sym f) ∙ sym s)

    by : (c : Bool) → c ≡ true → told b (if c then in_block fs (loop_turns body copy head find (constant head.first find)) else nothing_done (head_faults head find)) ≡ joined (broken sum 0) (one b)
    by true k = refused body.unrolls u
    by false k = cc

-- and where they are
pub unrolled_loop : (b : Bool) (body : Body) (copy : Find → TypedStatement) (head : tree.LoopHead) (find : Find) (o first : Option Fault) → o ≡ least (head_faults head find) → o ≡ None → body.unrolls ≡ true
    → first ≡ least (constant head.first find).faults
    → told b (loop_done body copy head find) ≡ joined (joined (broken first 0) (one b)) (told true (turns most_turns copy head find (given (constant head.first find))))
unrolled_loop b body copy head find o first e h u f = by (is_clean (head_faults head find)) (clean_least (head_faults head find) (sym e ∙ h))
  where
    fs : List Fault
    fs = (constant head.first find).faults

    all : TypedStatement
    all = turns most_turns copy head find (given (constant head.first find))

    unrolled : (v : Bool) → v ≡ true → told b (in_block fs (if v then as_copies all else nothing_done (fault LoopTurns head.place))) ≡ joined (joined (broken first 0) (one b)) (told true all)
    unrolled true k =
        block_told b fs (as_copies all)
        ∙ ap (joined (broken (least fs) 0)) (copies_told b all)
        ∙ sym (joined_assoc (broken (least fs) 0) (one b) (told true all))
        ∙ ap (λ z. joined (joined (broken z 0) (one b)) (told true all)) (sym f)
    unrolled false k = cc

    by : (c : Bool) → c ≡ true → told b (if c then in_block fs (loop_turns body copy head find (constant head.first find)) else nothing_done (head_faults head find)) ≡ joined (joined (broken first 0) (one b)) (told true all)
    by true k = unrolled body.unrolls u
    by false k = cc

-- a loop, by the first fault of its head
pub loop_told : (b : Bool) (body : Body) (copy : Find → TypedStatement) (head : tree.LoopHead) (find : Find) (o : Option Fault) → o ≡ least (head_faults head find) → tells_loop b body (told_copy copy) head find o ≡ told b (loop_done body copy head find)
loop_told b body copy head find (Some f) e = sym (faulty_loop b body copy head find (Some f) f e refl)
loop_told b body copy head find None e = by body.unrolls refl
  where
    first : Typed
    first = constant head.first find

    by : (u : Bool) → body.unrolls ≡ u
        → (if u then joined (joined (broken (least first.faults) 0) (one b)) (tells_turns 4096 (told_copy copy) head find (given first)) else joined (broken (better (least first.faults) (least (fault LoopTurns head.place))) 0) (one b))
        ≡ told b (loop_done body copy head find)
    by true u = ap (joined (joined (broken (least first.faults) 0) (one b))) (turns_told 4096 copy head find (given first)) ∙ sym (unrolled_loop b body copy head find None (least first.faults) e refl u refl)
    by false u = sym (refused_loop b body copy head find None (least first.faults) (better (least first.faults) (least (fault LoopTurns head.place))) e refl u refl refl)
