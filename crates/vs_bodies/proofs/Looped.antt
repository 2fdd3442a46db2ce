-- What the code gathers of a loop's head, of its turns, and of one turn.
use Rattle.std.proofs.Common.{◌≡◌, ℕ, ◌-◌, ◌<◌, Bool, true, false, if◌then◌else◌, Option, Some, None, sym, ap, ◌∙◌, arith}
use Rattle.vs_four.specs.Logic.{BitList}
use Rattle.vs_grammar.specs.Trees as tree
use Rattle.vs_const.specs.declared.faults.Fault.{Fault}
use Rattle.vs_const.specs.declared.rules.Rule.TheVariants.{LoopTurns}
use Rattle.vs_const.specs.Faults.{fault, least, better}
use Rattle.vs_const.specs.Meanings.{Find, turning}
use Rattle.vs_const.specs.Typed.{Typed}
use Rattle.vs_const.specs.Expressions.{constant}
use Rattle.vs_elaborated.specs.Statements as statements
use Rattle.vs_elaborated.specs.Statements.{Body, goes_on}
use Rattle.vs_bodies.specs.declared.told.Told.{Told}
use Rattle.vs_bodies.specs.declared.turns.Given.{Given}
use Rattle.vs_bodies.specs.declared.turns.Tested.{Tested}
use Rattle.vs_bodies.specs.Told.{broken, joined, one, tells, tells_loop, tells_turns, Turn, turn, going, head_faults}
use Rattle.vs_bodies.specs.Turns.{IsGiven, IsTested}
use Rattle.vs_bodies.proofs.Joins.{count_of}

-- ---- a loop

module _ (b : Bool) (body : Body) (head : tree.LoopHead) (s : tree.Statement) (find : Find) where
  abbrev pub copied : Find → Told
  copied inner = tells true s body inner

  -- its head breaks a rule
  pub faulty_tells : (o : Option Fault) (f : Fault) → o ≡ least (head_faults head find) → o ≡ Some f → tells b (tree.For head s) body find ≡ joined (broken (Some f) 0) (one b)
  faulty_tells o f e h = ap (tells_loop b body copied head find) (sym e ∙ h)

  abbrev first_of_all : Typed
  first_of_all = constant head.first find

  abbrev begun : Told
  begun = joined (broken (least first_of_all.faults) 0) (one b)

  abbrev turned : Told
  turned = tells_turns 4096 copied head find (statements.given first_of_all)

  abbrev refused : Told
  refused = joined (broken (better (least first_of_all.faults) (least (fault LoopTurns head.place))) 0) (one b)

  -- its turns are looked at
  pub unrolled_tells : (o : Option Fault) → o ≡ least (head_faults head find) → o ≡ None → body.unrolls ≡ true
      → tells b (tree.For head s) body find ≡ joined (joined (broken (least (constant head.first find).faults) 0) (one b)) (tells_turns 4096 copied head find (statements.given (constant head.first find)))
  unrolled_tells o e h u =
      ap (tells_loop b body copied head find) (sym e ∙ h)
      ∙ ap (λ v. if v then joined begun turned else refused) u

  -- they aren't
  pub refused_tells : (o : Option Fault) → o ≡ least (head_faults head find) → o ≡ None → body.unrolls ≡ false
      → tells b (tree.For head s) body find ≡ joined (broken (better (least (constant head.first find).faults) (least (fault LoopTurns head.place))) 0) (one b)
  refused_tells o e h u =
      ap (tells_loop b body copied head find) (sym e ∙ h)
      ∙ ap (λ v. if v then joined begun turned else refused) u

  pub faulty_said : (o : Option Fault) (f : Fault) (said : Told) → o ≡ least (head_faults head find) → o ≡ Some f → said ≡ broken (Some f) 0 → joined said (one b) ≡ tells b (tree.For head s) body find
  faulty_said o f said e h k = ap (λ z. joined z (one b)) k ∙ sym (faulty_tells o f e h)

  pub faulty_over : (o : Option Fault) (f : Fault) (left : ℕ) → o ≡ least (head_faults head find) → o ≡ Some f → left < (one b).count → left < (tells b (tree.For head s) body find).count
  faulty_over o f left e h l =
      let n = count_of (tells b (tree.For head s) body find) (broken (Some f) 0) (one b) (faulty_tells o f e h) in
      omega (arith, n, l)

  pub refused_said : (o : Option Fault) (first : Given) (last all : Option Fault) (said : Told) → o ≡ least (head_faults head find) → o ≡ None → body.unrolls ≡ false → IsGiven first (constant head.first find)
      → last ≡ least (fault LoopTurns head.place) → all ≡ better first.fault last → said ≡ broken all 0 → joined said (one b) ≡ tells b (tree.For head s) body find
  refused_said o first last all said e h u g k l m =
      ap (λ z. joined z (one b)) (m ∙ ap (λ f. broken f 0) (l ∙ ap (better first.fault) k ∙ ap (λ f. better f (least (fault LoopTurns head.place))) g.fault)) ∙ sym (refused_tells o e h u)

  pub refused_over : (o : Option Fault) (left : ℕ) → o ≡ least (head_faults head find) → o ≡ None → body.unrolls ≡ false → left < (one b).count → left < (tells b (tree.For head s) body find).count
  refused_over o left e h u l =
      let n = count_of (tells b (tree.For head s) body find) (broken (better (least first_of_all.faults) (least (fault LoopTurns head.place))) 0) (one b) (refused_tells o e h u) in
      omega (arith, n, l)

  -- the first value and the loop itself, and then the turns
  pub loop_gathered : (o : Option Fault) (first : Given) (said start turns sum : Told) → o ≡ least (head_faults head find) → o ≡ None → body.unrolls ≡ true → IsGiven first (constant head.first find)
      → said ≡ broken first.fault 0 → start ≡ joined said (one b) → turns ≡ tells_turns 4096 copied head find first.bits → sum ≡ joined start turns → sum ≡ tells b (tree.For head s) body find
  loop_gathered o first said start turns sum e h u g k l m n =
      n ∙ ap (λ z. joined z turns) (l ∙ ap (λ z. joined z (one b)) (k ∙ ap (λ f. broken f 0) g.fault))
      ∙ ap (joined (joined (broken (least (constant head.first find).faults) 0) (one b))) (m ∙ ap (tells_turns 4096 copied head find) g.bits)
      ∙ sym (unrolled_tells o e h u)

  -- no statement is left for the loop itself
  pub loop_over : (o : Option Fault) (left : ℕ) → o ≡ least (head_faults head find) → o ≡ None → body.unrolls ≡ true → left < (one b).count → left < (tells b (tree.For head s) body find).count
  loop_over o left e h u l =
      let n = count_of (tells b (tree.For head s) body find) begun turned (unrolled_tells o e h u) in
      omega (arith, n, l)

  -- or too few for its turns
  pub turns_over : (o : Option Fault) (left : ℕ) (first : Given) (said start : Told) → o ≡ least (head_faults head find) → o ≡ None → body.unrolls ≡ true → IsGiven first (constant head.first find)
      → said ≡ broken first.fault 0 → start ≡ joined said (one b) → left - start.count < (tells_turns 4096 copied head find first.bits).count → left < (tells b (tree.For head s) body find).count
  turns_over o left first said start e h u g k l m =
      let n = count_of (tells b (tree.For head s) body find) begun turned (unrolled_tells o e h u) in
      let c = count_of start (broken first.fault 0) (one b) (l ∙ ap (λ z. joined z (one b)) k) in
      let v = ap (λ x. (tells_turns 4096 copied head find x).count) g.bits in
      omega (arith, n, c, v, m)

-- ---- one turn

module _ (is_last : Bool) (copy : Find → Told) (head : tree.LoopHead) (find : Find) (bits : BitList) where
  abbrev inside : Find
  inside = turning find head.variable.bytes bits

  abbrev ended : Option Fault → Turn
  ended f = record { told = broken f 0; next = None }

  abbrev goes : Bool → Turn
  goes g = if g then going is_last copy head inside (constant head.test inside) (constant head.next inside) else ended (least (constant head.test inside).faults)

  -- the loop ends
  pub turn_ends : (test : Tested) → IsTested test (constant head.test (turning find head.variable.bytes bits)) → test.goes_on ≡ false
      → turn is_last copy head find bits ≡ (let t : Turn = record { told = broken test.fault 0; next = None } in t)
  turn_ends test t h = ap goes (sym t.goes_on ∙ h) ∙ ap ended (sym t.fault)

  abbrev going_if : Bool → Turn
  going_if l = going l copy head inside (constant head.test inside) (constant head.next inside)

  -- it goes on behind the most turns
  pub turn_refused : (test : Tested) → IsTested test (constant head.test (turning find head.variable.bytes bits)) → test.goes_on ≡ true → is_last ≡ true
      → turn is_last copy head find bits ≡ (let t : Turn = record { told = broken (better test.fault (least (fault LoopTurns head.place))) 0; next = None } in t)
  turn_refused test t h l = ap goes (sym t.goes_on ∙ h) ∙ ap going_if l ∙ ap (λ f. ended (better f (least (fault LoopTurns head.place)))) (sym t.fault)

  -- it goes on
  pub turn_goes_on : (test : Tested) (next : Given) → IsTested test (constant head.test (turning find head.variable.bytes bits)) → test.goes_on ≡ true → is_last ≡ false
      → IsGiven next (constant head.next (turning find head.variable.bytes bits))
      → turn is_last copy head find bits ≡ (let t : Turn = record { told = joined (broken (better test.fault next.fault) 0) (copy (turning find head.variable.bytes bits)); next = next.bits } in t)
  turn_goes_on test next t h l n =
      ap goes (sym t.goes_on ∙ h) ∙ ap going_if l
      ∙ ap (λ f. (let t : Turn = record { told = joined (broken (better f (least (constant head.next inside).faults)) 0) (copy inside); next = statements.given (constant head.next inside) } in t)) (sym t.fault)
      ∙ ap (λ f. (let t : Turn = record { told = joined (broken (better test.fault f) 0) (copy inside); next = statements.given (constant head.next inside) } in t)) (sym n.fault)
      ∙ ap (λ v. (let t : Turn = record { told = joined (broken (better test.fault next.fault) 0) (copy inside); next = v } in t)) (sym n.bits)

  pub ended_told : (test : Tested) (sum : Told) → IsTested test (constant head.test (turning find head.variable.bytes bits)) → test.goes_on ≡ false → sum ≡ broken test.fault 0 → sum ≡ (turn is_last copy head find bits).told
  ended_told test sum t h s = s ∙ sym (ap (λ (z : Turn). z.told) (turn_ends test t h))

  pub ended_next : (test : Tested) → IsTested test (constant head.test (turning find head.variable.bytes bits)) → test.goes_on ≡ false → None ≡ (turn is_last copy head find bits).next
  ended_next test t h = sym (ap (λ (z : Turn). z.next) (turn_ends test t h))

  pub refused_told : (test : Tested) (last all : Option Fault) (sum : Told) → IsTested test (constant head.test (turning find head.variable.bytes bits)) → test.goes_on ≡ true → is_last ≡ true
      → last ≡ least (fault LoopTurns head.place) → all ≡ better test.fault last → sum ≡ broken all 0 → sum ≡ (turn is_last copy head find bits).told
  refused_told test last all sum t h l k a s = s ∙ ap (λ f. broken f 0) (a ∙ ap (better test.fault) k) ∙ sym (ap (λ (z : Turn). z.told) (turn_refused test t h l))

  pub refused_next : (test : Tested) → IsTested test (constant head.test (turning find head.variable.bytes bits)) → test.goes_on ≡ true → is_last ≡ true → None ≡ (turn is_last copy head find bits).next
  refused_next test t h l = sym (ap (λ (z : Turn). z.next) (turn_refused test t h l))

  pub going_told : (test : Tested) (next : Given) (both : Option Fault) (copied_once sum : Told) → IsTested test (constant head.test (turning find head.variable.bytes bits)) → test.goes_on ≡ true → is_last ≡ false
      → IsGiven next (constant head.next (turning find head.variable.bytes bits)) → both ≡ better test.fault next.fault → copied_once ≡ copy (turning find head.variable.bytes bits) → sum ≡ joined (broken both 0) copied_once
      → sum ≡ (turn is_last copy head find bits).told
  going_told test next both copied_once sum t h l n f c s =
      s ∙ ap (λ z. joined (broken z 0) copied_once) f ∙ ap (joined (broken (better test.fault next.fault) 0)) c ∙ sym (ap (λ (z : Turn). z.told) (turn_goes_on test next t h l n))

  pub going_next : (test : Tested) (next : Given) → IsTested test (constant head.test (turning find head.variable.bytes bits)) → test.goes_on ≡ true → is_last ≡ false
      → IsGiven next (constant head.next (turning find head.variable.bytes bits)) → next.bits ≡ (turn is_last copy head find bits).next
  going_next test next t h l n = sym (ap (λ (z : Turn). z.next) (turn_goes_on test next t h l n))

  pub going_over : (test : Tested) (next : Given) (left : ℕ) → IsTested test (constant head.test (turning find head.variable.bytes bits)) → test.goes_on ≡ true → is_last ≡ false
      → IsGiven next (constant head.next (turning find head.variable.bytes bits)) → left < (copy (turning find head.variable.bytes bits)).count → left < (turn is_last copy head find bits).told.count
  going_over test next left t h l n o =
      let e = ap (λ (z : Turn). z.told.count) (turn_goes_on test next t h l n) in
      omega (arith, e, o)
