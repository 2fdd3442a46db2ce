use Rattle.std.proofs.Common.{◌≡◌, ◌≤◌, ◌<◌, ◌+◌, ◌-◌, ◌*◌, ℕ, List, Some, drop, length, subst, sym, ◌∙◌, ap, arith, length-drop}
use Rattle.std.proofs.lemmas.List.{take_rest}
use Rattle.vs_lexer.specs.Strings.{character_here}
use Rattle.vs_lexer.proofs.StringFacts.{Read, read_none, read_more, read_bad, read_over, read_all, eight_more, word_fits}
use Rattle.vs_lexer.proofs.strings.number_within.Goals as goal

some_left : (text : List ℕ) (at : ℕ) → at < length text → 0 < length (drop at text)
some_left text at h = simp length-drop (omega arith)

pub loop-at-init : goal.loop-at-init
loop-at-init c = record { inside = omega arith; few = omega arith; small = omega arith; read = read_none c.args.text.now }

pub returns-then-number-eq-MAX_CHARACTERS-clause-number : goal.returns-then-number-eq-MAX_CHARACTERS-clause-number
returns-then-number-eq-MAX_CHARACTERS-clause-number c =
    sym (read_over c.args.text.now c.loop-at.at c.loop-at.number.characters c.loop-at.number.value c.loop-at.invariant.read c.if-number-eq-MAX_CHARACTERS.true (some_left c.args.text.now c.loop-at.at c.loop-at-test.true))

pub returns-in_err-character-clause-number : goal.returns-in_err-character-clause-number
returns-in_err-character-clause-number c =
    let few : c.loop-at.number.characters < 8 = let a = c.loop-at.invariant.few in let b = c.if-number-eq-MAX_CHARACTERS.false in omega arith in
    let bad = ap character_here (sym (take_rest c.args.text.now c.loop-at.at)) ∙ sym c.character_here.ensures.value ∙ c.in_err-character.was {u = tt} in
    c.from_residual.ensures
    ∙ sym (read_bad c.args.text.now c.loop-at.at c.loop-at.number.characters c.loop-at.number.value c.loop-at.invariant.read few (some_left c.args.text.now c.loop-at.at c.loop-at-test.true) bad)

pub overflow_mul-number : goal.overflow_mul-number
overflow_mul-number c =
    let few : c.loop-at.number.characters ≤ 7 = let a = c.loop-at.invariant.few in let b = c.if-number-eq-MAX_CHARACTERS.false in omega arith in
    let w = word_fits c.loop-at.number.characters c.loop-at.number.value 0 c.loop-at.invariant.small (omega arith) few in
    omega (arith, w)

pub overflow_add-number-in-loop-at : goal.overflow_add-number-in-loop-at
overflow_add-number-in-loop-at c =
    let few : c.loop-at.number.characters ≤ 7 = let a = c.loop-at.invariant.few in let b = c.if-number-eq-MAX_CHARACTERS.false in omega arith in
    let w = word_fits c.loop-at.number.characters c.loop-at.number.value c.from.result c.loop-at.invariant.small (omega (arith, c.from.ensures)) few in
    omega (arith, w)

pub loop-at-preserved : goal.loop-at-preserved
loop-at-preserved c =
    let few : c.loop-at.number.characters < 8 = let a = c.loop-at.invariant.few in let b = c.if-number-eq-MAX_CHARACTERS.false in omega arith in
    let same = take_rest c.args.text.now c.loop-at.at in
    let here : character_here (drop c.loop-at.at c.args.text.now) ≡ Some c.in_ok-character.character = ap character_here (sym same) ∙ sym c.character_here.ensures.value ∙ c.in_ok-character.was {u = tt} in
    let within : c.in_ok-character.character.length ≤ length (drop c.loop-at.at c.args.text.now) = subst (λ (r : List ℕ). c.in_ok-character.character.length ≤ length r) same c.in_ok-character.ensures.within in
    let small : c.from.result < 256 = omega (arith, c.from.ensures) in
    record {
      inside = let e : length (drop c.loop-at.at c.args.text.now) ≡ length c.args.text.now - c.loop-at.at = length-drop c.loop-at.at c.args.text.now in let h = c.loop-at-test.true in omega arith;
      few = omega arith;
      small = eight_more c.loop-at.number.characters c.loop-at.number.value c.from.result c.loop-at.invariant.small small;
      read = subst (λ (v : ℕ). Read c.args.text.now (c.loop-at.at + c.in_ok-character.character.length) (c.loop-at.number.characters + 1) (256 * c.loop-at.number.value + v)) (sym c.from.ensures)
          (read_more c.args.text.now c.loop-at.at c.loop-at.number.characters c.loop-at.number.value c.loop-at.invariant.read c.in_ok-character.character few (some_left c.args.text.now c.loop-at.at c.loop-at-test.true) here);
    }

pub returns-clause-number : goal.returns-clause-number
returns-clause-number c = sym (read_all c.args.text.now c.loop-at.at c.loop-at.number.characters c.loop-at.number.value c.loop-at.invariant.read c.loop-at-test.false)
