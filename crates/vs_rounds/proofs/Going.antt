-- From round to round.
use Rattle.std.proofs.Common.{◌≡◌, ◌<◌, ◌*◌, ◌+◌, ◌∙◌, ℕ, zero, suc, refl, true, false, ◌≤◌, Bool, List, length, sym, ap, subst, arith}
use Rattle.std.proofs.Math.Nat.{mul-le-mul_left}
use Rattle.vs_desk.specs.Desk.{Contents}
use Rattle.vs_feed.specs.Lanes.{OtherPlacesKept}
use Rattle.vs_engine.specs.Lanes.{Running}
use Rattle.vs_program.specs.Compiled.{IsProgramOf}
use Rattle.vs_program.specs.Program.{Program, first_stores, fall_stores, rise_stores}
use Rattle.vs_rounds.specs.Lanes.{Run, Simulation, HaveNext, HaveVectors, AreBeforeRound, AreInRound}
use Rattle.vs_rounds.specs.Ready.{Ticks, settling_stores}
use Rattle.vs_rounds.specs.Stops.{OthersStay}
use Rattle.vs_rounds.specs.Counts.{TicksRounds}
use Rattle.vs_rounds.proofs.Rereads.{waves_kept}

-- two steps keep what each keeps
pub others_on : {lanes here : ℕ} {a b c : Contents} → here ≡ lanes → OthersStay lanes a b → OthersStay here b c → OthersStay lanes a c
others_on same f s = record { others = λ place ne. s.others place (λ i lt. ne i (omega (arith, same))) ∙ f.others place ne; left = λ place lt. s.left place lt ∙ f.left place lt }

pub others_read : {lanes here : ℕ} {a b c : Contents} → OthersStay lanes a b → OtherPlacesKept here b c → OthersStay lanes a c
others_read f read = record { others = λ place ne. ap (λ (put : ℕ → List ℕ). put place) read.put ∙ f.others place ne; left = λ place lt. read.before place lt ∙ f.left place lt }

-- the next vectors were read
pub in_next : {W : Type 0} (lane : W → ℕ → Bool) (run : Run) (k : ℕ) (old new : Simulation W) (before after : Contents) → length new.stimuli ≡ length old.stimuli → new.waves ≡ old.waves → new.engine ≡ old.engine → after.put ≡ before.put
    → AreBeforeRound lane run k old before → (HaveNext run k old.stimuli before → HaveVectors run k new.stimuli after) → AreInRound lane run k new after
in_next lane run k old new before after long waves engine put h read = record {
  program = subst (λ (e : Running _). IsProgramOf run.design run.clocks e.program) (sym engine) h.program;
  read = read h.next;
  waves = waves_kept lane run k old new before after long waves engine put h.waves;
}

-- the steps of one more round
pub ticked_more : (p q : Program) (begun now : Bool) (k count a b c : ℕ) → q ≡ p → 0 < count → (k ≡ 0 → now ≡ begun) → (0 < k → now ≡ true) → TicksRounds p begun k a b → Ticks q now count b c → TicksRounds p begun (k + 1) a c
ticked_more p q begun now zero count a b c same some first later before round =
    let one : 0 + 1 ≡ 1 = omega arith in
    let stays = before.none refl in
    let more : c ≡ b + (settling_stores p now + rise_stores p) = round.some some ∙ ap (λ (r : Program). b + (settling_stores r now + rise_stores r)) same in
    let settled : settling_stores p now ≡ settling_stores p begun = ap (settling_stores p) (first refl) in
    record {
      none = λ h. absurd (omega (arith, h));
      some = λ h. more_of (settling_stores p now) (settling_stores p begun) (fall_stores p) (rise_stores p) stays more settled;
    }
  where
    more_of : (s t f r : ℕ) → b ≡ a → c ≡ b + (s + r) → s ≡ t → c + f ≡ a + t + (0 + 1) * (f + r)
    more_of s t f r x y z = omega (arith, x, y, z)
ticked_more p q begun now (suc k) count a b c same some first later before round =
    let more : c ≡ b + (settling_stores p now + rise_stores p) = round.some some ∙ ap (λ (r : Program). b + (settling_stores r now + rise_stores r)) same in
    let settled : settling_stores p now ≡ fall_stores p = ap (settling_stores p) (later (omega arith)) in
    let so_far = before.some (omega arith) in
    record {
      none = λ h. absurd (omega (arith, h));
      some = λ h. more_of (settling_stores p now) (settling_stores p begun) (fall_stores p) (rise_stores p) (fall_stores p + rise_stores p) refl so_far more settled;
    }
  where
    one_more : (k each : ℕ) → (suc k + 1) * each ≡ suc k * each + each
    one_more k each = grind arith

    more_of : (s t f r each : ℕ) → each ≡ f + r → b + f ≡ a + t + suc k * (f + r) → c ≡ b + (s + r) → s ≡ f → c + f ≡ a + t + (suc k + 1) * (f + r)
    more_of s t f r each is x y z = let m = one_more k (f + r) in omega (arith, x, y, z, m)

-- all of them are within the size
pub rounds_within : (p : Program) (begun : Bool) (k size before after : ℕ) → first_stores p ≤ size → fall_stores p ≤ size → rise_stores p ≤ size → TicksRounds p begun k before after → after ≤ before + size * (2 * k)
rounds_within p begun zero size before after first fall rise h = let none = h.none refl in omega (arith, none)
rounds_within p begun (suc k) size before after first fall rise h =
    bound (settling_stores p begun) (fall_stores p) (rise_stores p) (settling begun) fall rise (h.some (omega arith))
  where
    settling : (b : Bool) → settling_stores p b ≤ size
    settling true = fall
    settling false = first

    bound : (s f r : ℕ) → s ≤ size → f ≤ size → r ≤ size → after + f ≡ before + s + suc k * (f + r) → after ≤ before + size * (2 * suc k)
    bound s f r x y z e =
        let most : k * (f + r) ≤ k * (2 * size) = mul-le-mul_left k (omega arith) in
        let split : suc k * (f + r) ≡ k * (f + r) + (f + r) = grind arith in
        let all : size * (2 * suc k) ≡ k * (2 * size) + 2 * size = grind arith in
        omega (arith, x, z, e, most, split, all)

-- the steps where a round stopped
pub ticked_stop : (p q : Program) (begun now : Bool) (k count a b c : ℕ) → q ≡ p → (k ≡ 0 → now ≡ begun) → (0 < k → now ≡ true) → TicksRounds p begun k a b → Ticks q now count b c → (n : ℕ) × TicksRounds p begun n a c
ticked_stop p q begun now k zero a b c same first later before round = (k, subst (λ (m : ℕ). TicksRounds p begun k a m) (sym (round.none refl)) before)
ticked_stop p q begun now k (suc count) a b c same first later before round = (k + 1, ticked_more p q begun now k (suc count) a b c same (omega arith) first later before round)

-- the operations of so many rounds are their steps
pub operations_are : {W : Type 0} (old now : Running W) (rounds next later rise operations before after : ℕ) → now ≡ old
    → next ≡ settling_stores now.program now.begun → later ≡ fall_stores now.program → rise ≡ rise_stores now.program
    → (rounds ≡ 0 → operations ≡ 0) → (0 < rounds → operations + later ≡ next + rounds * (later + rise)) → TicksRounds old.program old.begun rounds before after → after ≡ before + operations
operations_are old now zero next later rise operations before after same is_next is_later is_rise none some ticked = let e = ticked.none refl in let z = none refl in omega (arith, e, z)
operations_are old now (suc k) next later rise operations before after same is_next is_later is_rise none some ticked =
    let more : 0 < suc k = omega arith in
    let next_is : next ≡ settling_stores old.program old.begun = is_next ∙ ap (λ (e : Running _). settling_stores e.program e.begun) same in
    let later_is : later ≡ fall_stores old.program = is_later ∙ ap (λ (e : Running _). fall_stores e.program) same in
    let rise_is : rise ≡ rise_stores old.program = is_rise ∙ ap (λ (e : Running _). rise_stores e.program) same in
    let each : later + rise ≡ fall_stores old.program + rise_stores old.program = ap (λ (n : ℕ). n + rise) later_is ∙ ap (λ (n : ℕ). fall_stores old.program + n) rise_is in
    counted (settling_stores old.program old.begun) (fall_stores old.program) (suc k * (later + rise)) (suc k * (fall_stores old.program + rise_stores old.program)) next_is later_is (ap (λ (n : ℕ). suc k * n) each) (some more) (ticked.some more)
  where
    counted : (s f a b : ℕ) → next ≡ s → later ≡ f → a ≡ b → operations + later ≡ next + a → after + f ≡ before + s + b → after ≡ before + operations
    counted s f a b x y z told made = omega (arith, x, y, z, told, made)
