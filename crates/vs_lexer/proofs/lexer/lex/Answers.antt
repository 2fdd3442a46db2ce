use Rattle.std.proofs.Common.{◌≡◌, ◌≤◌, ◌<◌, ◌+◌, ◌-◌, ℕ, List, [], ◌∷◌, ◌++◌, Some, Ok, Err, inl, length, drop, subst, sym, ◌∙◌, ap, arith, length-drop, length-append, cond, not}
use Rattle.std.proofs.lemmas.List.{take_rest}
use Rattle.vs_lexer.specs.declared.token.Token.{Token}
use Rattle.vs_lexer.specs.Tokens.{here}
use Rattle.vs_lexer.specs.Cuts.{skipped, token_at}
use Rattle.vs_lexer.specs.declared.scan.Lexeme.{Lexeme}
use Rattle.vs_lexer.proofs.Progress.{Progress, begun, open_comment, skip_piece, fault_here, too_many, take_token, ended, here_some, here_inside}
use Rattle.vs_lexer.proofs.lexer.lex.Goals as goal

pub loop-at-init : goal.loop-at-init
loop-at-init c = record {
  inside = omega arith;
  few = let e = ap length c.new-tokens.ensures.items in omega arith;
  progress = let P : List Token → Type 0 = λ ts. Progress c.args.text.now ts c.byte_order_mark-at.result in subst P (sym c.new-tokens.ensures.items) (begun c.args.text.now c.byte_order_mark-at.result c.byte_order_mark-at.ensures.value);
}

pub returns-in_default-clause-fault : goal.returns-in_default-clause-fault
returns-in_default-clause-fault c =
    let skips = ap skipped (sym (take_rest c.args.text.now c.loop-at.at)) ∙ sym c.skipped.ensures.value ∙ c.in_default.is in
    inl (open_comment c.args.text.now c.loop-at.tokens.items c.loop-at.at c.loop-at-test.true c.loop-at.invariant.progress skips)

pub loop-at-preserved-then-length-gt0 : goal.loop-at-preserved-then-length-gt0
loop-at-preserved-then-length-gt0 c =
    let skips = ap skipped (sym (take_rest c.args.text.now c.loop-at.at)) ∙ sym c.skipped.ensures.value ∙ c.in-Some.is in
    let left : c.in-Some.length ≤ length (drop c.loop-at.at c.args.text.now) = subst (λ (r : List ℕ). c.in-Some.length ≤ length r) (take_rest c.args.text.now c.loop-at.at) c.in-Some.ensures.within in
    record {
      inside = let e : length (drop c.loop-at.at c.args.text.now) ≡ length c.args.text.now - c.loop-at.at = length-drop c.loop-at.at c.args.text.now in omega arith;
      few = c.loop-at.invariant.few;
      progress = skip_piece c.args.text.now c.loop-at.tokens.items c.loop-at.at c.loop-at-test.true c.loop-at.invariant.progress c.in-Some.length skips c.if-length-gt0.true;
    }

pub returns-in-Err-clause-fault : goal.returns-in-Err-clause-fault
returns-in-Err-clause-fault c =
    let none : c.in-Some.length ≡ 0 = omega arith in
    let same = sym (take_rest c.args.text.now c.loop-at.at) in
    let skips = ap skipped same ∙ sym c.skipped.ensures.value ∙ c.in-Some.is ∙ ap (λ n. Some n) none in
    let fault = ap here same ∙ sym c.here.ensures ∙ c.in-Err.is in
    inl (fault_here c.args.text.now c.loop-at.tokens.items c.loop-at.at c.loop-at-test.true c.loop-at.invariant.progress c.in-Err.fault skips fault ∙ ap (λ e. Err e) (sym c.fault_at.ensures))

pub returns-then-len-ge-MAX_TOKENS-clause-fault : goal.returns-then-len-ge-MAX_TOKENS-clause-fault
returns-then-len-ge-MAX_TOKENS-clause-fault c =
    let none : c.in-Some.length ≡ 0 = omega arith in
    let same = sym (take_rest c.args.text.now c.loop-at.at) in
    let skips = ap skipped same ∙ sym c.skipped.ensures.value ∙ c.in-Some.is ∙ ap (λ n. Some n) none in
    let token = ap here same ∙ sym c.here.ensures ∙ c.in-Ok.is in
    inl (too_many c.args.text.now c.loop-at.tokens.items c.loop-at.at c.loop-at-test.true c.loop-at.invariant.progress c.in-Ok.lexeme skips token (omega (arith, c.loop-at.tokens.ok.0)))

-- a token ends in the text
in_text : (text : List ℕ) (at : ℕ) (l : Lexeme) → at < length text → here (drop at text) ≡ Ok l → at + l.length ≤ length text
in_text text at l h e =
    let left = here_inside (drop at text) l e in
    let d : length (drop at text) ≡ length text - at = length-drop at text in
    omega arith

pub overflow_add-at-in-loop-at : goal.overflow_add-at-in-loop-at
overflow_add-at-in-loop-at c =
    let token = ap here (sym (take_rest c.args.text.now c.loop-at.at)) ∙ sym c.here.ensures ∙ c.in-Ok.is in
    let left = in_text c.args.text.now c.loop-at.at c.in-Ok.lexeme c.loop-at-test.true token in
    omega arith

pub overflow_cast-token : goal.overflow_cast-token
overflow_cast-token c =
    let token = ap here (sym (take_rest c.args.text.now c.loop-at.at)) ∙ sym c.here.ensures ∙ c.in-Ok.is in
    let left = in_text c.args.text.now c.loop-at.at c.in-Ok.lexeme c.loop-at-test.true token in
    omega arith

pub loop-at-smaller : goal.loop-at-smaller
loop-at-smaller c =
    let token = ap here (sym (take_rest c.args.text.now c.loop-at.at)) ∙ sym c.here.ensures ∙ c.in-Ok.is in
    let some = here_some (drop c.loop-at.at c.args.text.now) c.in-Ok.lexeme token in
    omega arith

pub loop-at-preserved : goal.loop-at-preserved
loop-at-preserved c =
    let none : c.in-Some.length ≡ 0 = omega arith in
    let same = sym (take_rest c.args.text.now c.loop-at.at) in
    let skips = ap skipped same ∙ sym c.skipped.ensures.value ∙ c.in-Some.is ∙ ap (λ n. Some n) none in
    let token = ap here same ∙ sym c.here.ensures ∙ c.in-Ok.is in
    let room : length c.loop-at.tokens.items < 1048576 = omega (arith, c.loop-at.tokens.ok.0) in
    let all = c.loop-at.tokens.items ++ token_at c.in-Ok.lexeme c.loop-at.at ∷ [] in
    let pushed : c.push.new.self.items ≡ all = c.push.ensures.items ∙ ap (λ b. cond b all c.loop-at.tokens.items) (c.is_err.ensures.negation ∙ ap not c.if-is_err.false) in
    record {
      inside = in_text c.args.text.now c.loop-at.at c.in-Ok.lexeme c.loop-at-test.true token;
      few = let n = ap length pushed in let m = length-append c.loop-at.tokens.items (token_at c.in-Ok.lexeme c.loop-at.at ∷ []) in omega arith;
      progress = let P : List Token → Type 0 = λ ts. Progress c.args.text.now ts (c.loop-at.at + c.in-Ok.lexeme.length) in subst P (sym pushed) (take_token c.args.text.now c.loop-at.tokens.items c.loop-at.at c.loop-at-test.true c.loop-at.invariant.progress c.in-Ok.lexeme skips token room);
    }

pub returns-clause-tokens : goal.returns-clause-tokens
returns-clause-tokens c = ended c.args.text.now c.loop-at.tokens.items c.loop-at.at c.loop-at-test.false c.loop-at.invariant.progress
