-- How far a text has been cut.
use Rattle.std.proofs.Common.{◌≡◌, ℕ, zero, suc, ◌+◌, ◌-◌, ◌<◌, ◌≤◌, Bool, true, false, ◌&&◌, List, [], ◌∷◌, ◌++◌, refl, sym, ◌∙◌, ap, subst, length, take, drop, get_or, arith, length-append, length-drop, get_or-drop}
use Rattle.std.specs.Prelude.{Option, Some, None, Result, Ok, Err, ◌==◌}
use Rattle.std.proofs.lemmas.List.{drop_more, drop_all, drop-drop}
use Rattle.vs_lexer.specs.declared.token.Token.{Token}
use Rattle.vs_lexer.specs.declared.token.TokenKind.{TokenKind}
use Rattle.vs_lexer.specs.declared.token.LexError.{LexError}
use Rattle.vs_lexer.specs.declared.token.LexError.TheVariants.{OpenComment, TooManyTokens}
use Rattle.vs_lexer.specs.declared.scan.Lexeme.{Lexeme}
use Rattle.vs_lexer.specs.declared.scan.Fault.{Fault}
use Rattle.vs_lexer.specs.Tokens.{token_kind, longest_within, longest, here, start_of, begins_number, checked}
use Rattle.vs_lexer.specs.declared.scan.Fault.TheVariants.{NoToken, BadLiteral}
use Rattle.vs_lexer.specs.Literals.{lacks_digits, is_in_range}
use Rattle.vs_lexer.specs.Cuts.{to_close, skipped, cut, cut_text, byte_order_mark, token_limit, token_at, fault_at, with_token}

-- ---- comments

-- a length that is counted from a place
abbrev pub shifted : ℕ → Option ℕ → Option ℕ
shifted at None = None
shifted at (Some n) = Some (at + n)

step_by : Bool → Option ℕ → Option ℕ
step_by b o = elim b [ true ↦ Some 2 | false ↦ elim o [ None ↦ None | Some n ↦ Some (suc n) ] ]

shift_more : (at : ℕ) (o : Option ℕ) → shifted at (step_by false o) ≡ shifted (at + 1) o
unfolding step_by
shift_more at None = refl
shift_more at (Some n) = let e : at + suc n ≡ at + 1 + n = omega arith in ap (λ k. Some k) e

close_step : (text : List ℕ) (at : ℕ) → at < length text → to_close (drop at text) ≡ step_by (get_or text at 0 == 42 && get_or (drop (at + 1) text) 0 0 == 47) (to_close (drop (at + 1) text))
unfolding step_by
close_step text at h = ap to_close (drop_more text at 0 h)

next_byte : (text : List ℕ) (at : ℕ) → get_or (drop (at + 1) text) 0 0 ≡ get_or text (at + 1) 0
next_byte text at = let e : at + 1 + 0 ≡ at + 1 = omega arith in get_or-drop (at + 1) text 0 0 ∙ ap (λ n. get_or text n 0) e

pub close_here : (text : List ℕ) (at : ℕ) → at < length text → get_or text at 0 ≡ 42 → get_or text (at + 1) 0 ≡ 47 → shifted at (to_close (drop at text)) ≡ Some (at + 2)
unfolding step_by
close_here text at h a b =
    ap (shifted at) (close_step text at h ∙ ap (λ x. step_by (x == 42 && get_or (drop (at + 1) text) 0 0 == 47) (to_close (drop (at + 1) text))) a ∙ ap (λ y. step_by (y == 47) (to_close (drop (at + 1) text))) (next_byte text at ∙ b))

pub close_later : (text : List ℕ) (at : ℕ) → at < length text → (get_or text at 0 == 42 && get_or text (at + 1) 0 == 47) ≡ false → shifted at (to_close (drop at text)) ≡ shifted (at + 1) (to_close (drop (at + 1) text))
close_later text at h f =
    ap (shifted at) (close_step text at h ∙ ap (λ y. step_by (get_or text at 0 == 42 && y == 47) (to_close (drop (at + 1) text))) (next_byte text at) ∙ ap (λ b. step_by b (to_close (drop (at + 1) text))) f)
    ∙ shift_more at (to_close (drop (at + 1) text))

pub close_none : (text : List ℕ) (at : ℕ) → length text ≤ at → to_close (drop at text) ≡ None
close_none text at h = ap to_close (drop_all at text h)

-- ---- the length of a token

pick : Option TokenKind → ℕ → Option Lexeme → Option Lexeme
pick o n other = elim o [ Some k ↦ Some (record { kind = k; length = n }) | None ↦ other ]

within_pick : (o : Option TokenKind) (n : ℕ) (other : Option Lexeme) (l : Lexeme) → pick o n other ≡ Some l → (other ≡ Some l → l.length ≤ n) → l.length ≤ n
unfolding pick
within_pick (Some k) n other l e f = let q : n ≡ l.length = cc in omega arith
within_pick None n other l e f = f e

some_pick : (o : Option TokenKind) (n : ℕ) (other : Option Lexeme) (l : Lexeme) → 0 < n → pick o n other ≡ Some l → (other ≡ Some l → 0 < l.length) → 0 < l.length
unfolding pick
some_pick (Some k) n other l h e f = let q : n ≡ l.length = cc in omega arith
some_pick None n other l h e f = f e

longest_short : (text : List ℕ) (n : ℕ) (l : Lexeme) → longest_within text n ≡ Some l → l.length ≤ n
unfolding pick
longest_short text zero l e = cc
longest_short text (suc n) l e = within_pick (token_kind (take (suc n) text)) (suc n) (longest_within text n) l e (λ f. let i = longest_short text n l f in omega arith)

longest_some : (text : List ℕ) (n : ℕ) (l : Lexeme) → longest_within text n ≡ Some l → 0 < l.length
unfolding pick
longest_some text zero l e = cc
longest_some text (suc n) l e = some_pick (token_kind (take (suc n) text)) (suc n) (longest_within text n) l (omega arith) e (λ f. longest_some text n l f)

abbrev pub here_by : Bool → Bool → Option Lexeme → (Lexeme → Bool) → Result Lexeme Fault
here_by number lacks o in_range = elim number [
  | true ↦ elim lacks [ true ↦ Err BadLiteral | false ↦ elim o [ None ↦ Err BadLiteral | Some l ↦ checked (in_range l) l ] ]
  | false ↦ elim o [ None ↦ Err NoToken | Some l ↦ Ok l ]
]

checked_ok : (b : Bool) (k l : Lexeme) → checked b k ≡ Ok l → Some k ≡ Some l
checked_ok true k l e = cc
checked_ok false k l e = cc

ok_longest : (number lacks : Bool) (o : Option Lexeme) (in_range : Lexeme → Bool) (l : Lexeme) → here_by number lacks o in_range ≡ Ok l → o ≡ Some l
ok_longest true true o r l e = cc
ok_longest true false None r l e = cc
ok_longest true false (Some k) r l e = checked_ok (r k) k l e
ok_longest false lacks None r l e = cc
ok_longest false lacks (Some k) r l e = cc

-- a token is the longest prefix that is one
pub here_longest : (text : List ℕ) (l : Lexeme) → here text ≡ Ok l → longest text ≡ Some l
here_longest [] l e = cc
here_longest (b ∷ bs) l e = ok_longest (begins_number (start_of b)) (lacks_digits (b ∷ bs)) (longest (b ∷ bs)) (λ k. is_in_range (take k.length (b ∷ bs))) l e

pub here_some : (text : List ℕ) (l : Lexeme) → here text ≡ Ok l → 0 < l.length
here_some text l e = longest_some text (length text) l (here_longest text l e)

pub here_inside : (text : List ℕ) (l : Lexeme) → here text ≡ Ok l → l.length ≤ length text
here_inside text l e = longest_short text (length text) l (here_longest text l e)

-- ---- the cut so far

-- these tokens stand in front of what a cut gives
abbrev prepend : List Token → Result (List Token) LexError → Result (List Token) LexError
prepend [] r = r
prepend (t ∷ ts) r = with_token t (prepend ts r)

prepend_push : (ts : List Token) (t : Token) (r : Result (List Token) LexError) → prepend (ts ++ t ∷ []) r ≡ prepend ts (with_token t r)
prepend_push [] t r = refl
prepend_push (u ∷ ts) t r = ap (with_token u) (prepend_push ts t r)

prepend_none : (ts : List Token) → prepend ts (Ok []) ≡ Ok ts
prepend_none [] = refl
prepend_none (t ∷ ts) = ap (with_token t) (prepend_none ts)

prepend_err : (ts : List Token) (e : LexError) → prepend ts (Err e) ≡ Err e
prepend_err [] e = refl
prepend_err (t ∷ ts) e = ap (with_token t) (prepend_err ts e)

-- the text up to place `at` is cut into these tokens
pub record Progress (text : List ℕ) (ts : List Token) (at : ℕ) : Type 0 where
  pub steps : ℕ
  pub enough : length text - at ≤ steps
  pub same : cut_text text ≡ prepend ts (cut steps (token_limit - length ts) at (drop at text))

abbrev pub cut_by : ℕ → ℕ → ℕ → List ℕ → Option ℕ → Result Lexeme Fault → Result (List Token) LexError
cut_by steps left at rest o r = elim o [
  | None ↦ Err (OpenComment at)
  | Some k ↦ elim k [
    | suc j ↦ cut steps left (at + suc j) (drop (suc j) rest)
    | zero ↦ elim r [
      | Err f ↦ Err (fault_at f at)
      | Ok lexeme ↦ elim left [
        | zero ↦ Err (TooManyTokens at)
        | suc more ↦ with_token (token_at lexeme at) (cut steps more (at + lexeme.length) (drop lexeme.length rest))
      ]
    ]
  ]
]

pub cut_step : (steps left at : ℕ) (rest : List ℕ) → 0 < length rest → cut (suc steps) left at rest ≡ cut_by steps left at rest (skipped rest) (here rest)
cut_step steps left at [] h = absurd (omega arith)
cut_step steps left at (b ∷ bs) h = refl

pub begun : (text : List ℕ) (at : ℕ) → at ≡ byte_order_mark text → Progress text [] at
unfolding cut_text
begun text at is = subst (Progress text []) (sym is) (record {
  steps = length text;
  enough = omega arith;
  same = let e : token_limit - 0 ≡ token_limit = omega arith in ap (λ n. cut (length text) n (byte_order_mark text) (drop (byte_order_mark text) text)) (sym e);
})

module _ (text : List ℕ) (ts : List Token) (at : ℕ) (h : at < length text) (p : Progress text ts at) where
  -- one step from here
  unrolled : (steps : ℕ) × (length text - (at + 1) ≤ steps) × (cut_text text ≡ prepend ts (cut_by steps (token_limit - length ts) at (drop at text) (skipped (drop at text)) (here (drop at text))))
  unrolled = by p.steps p.enough p.same
    where
      by : (steps : ℕ) → length text - at ≤ steps → cut_text text ≡ prepend ts (cut steps (token_limit - length ts) at (drop at text)) → (steps : ℕ) × (length text - (at + 1) ≤ steps) × (cut_text text ≡ prepend ts (cut_by steps (token_limit - length ts) at (drop at text) (skipped (drop at text)) (here (drop at text))))
      by zero e s = absurd (omega arith)
      by (suc steps) e s = (steps, omega arith, s ∙ ap (prepend ts) (cut_step steps (token_limit - length ts) at (drop at text) (simp length-drop (omega arith))))

  pub open_comment : skipped (drop at text) ≡ None → cut_text text ≡ Err (OpenComment at)
  open_comment e = unrolled.2 ∙ ap (λ o. prepend ts (cut_by unrolled.0 (token_limit - length ts) at (drop at text) o (here (drop at text)))) e ∙ prepend_err ts (OpenComment at)

  pub skip_piece : (k : ℕ) → skipped (drop at text) ≡ Some k → 0 < k → Progress text ts (at + k)
  skip_piece zero e o = absurd (omega arith)
  skip_piece (suc k) e o = record {
    steps = unrolled.0;
    enough = let w = unrolled.1 in omega arith;
    same = unrolled.2 ∙ ap (λ o. prepend ts (cut_by unrolled.0 (token_limit - length ts) at (drop at text) o (here (drop at text)))) e ∙ ap (λ r. prepend ts (cut unrolled.0 (token_limit - length ts) (at + suc k) r)) (drop-drop (suc k) at text);
  }

  here_next : (r : Result Lexeme Fault) → skipped (drop at text) ≡ Some 0 → here (drop at text) ≡ r → cut_text text ≡ prepend ts (cut_by unrolled.0 (token_limit - length ts) at (drop at text) (Some 0) r)
  here_next r e f = unrolled.2 ∙ ap (λ o. prepend ts (cut_by unrolled.0 (token_limit - length ts) at (drop at text) o (here (drop at text)))) e ∙ ap (λ r. prepend ts (cut_by unrolled.0 (token_limit - length ts) at (drop at text) (Some 0) r)) f

  pub fault_here : (f : Fault) → skipped (drop at text) ≡ Some 0 → here (drop at text) ≡ Err f → cut_text text ≡ Err (fault_at f at)
  fault_here f e g = here_next (Err f) e g ∙ prepend_err ts (fault_at f at)

  pub too_many : (l : Lexeme) → skipped (drop at text) ≡ Some 0 → here (drop at text) ≡ Ok l → token_limit ≤ length ts → cut_text text ≡ Err (TooManyTokens at)
  too_many l e g q = let z : token_limit - length ts ≡ 0 = omega arith in here_next (Ok l) e g ∙ ap (λ n. prepend ts (cut_by unrolled.0 n at (drop at text) (Some 0) (Ok l))) z ∙ prepend_err ts (TooManyTokens at)

  pub take_token : (l : Lexeme) → skipped (drop at text) ≡ Some 0 → here (drop at text) ≡ Ok l → length ts < token_limit → Progress text (ts ++ token_at l at ∷ []) (at + l.length)
  take_token l e g q = record {
    steps = unrolled.0;
    enough = let w = unrolled.1 in let o = here_some (drop at text) l g in omega arith;
    same =
        let z : token_limit - length ts ≡ suc (token_limit - length (ts ++ token_at l at ∷ [])) = simp length-append (omega arith) in
        here_next (Ok l) e g ∙ ap (λ n. prepend ts (cut_by unrolled.0 n at (drop at text) (Some 0) (Ok l))) z
        ∙ sym (prepend_push ts (token_at l at) (cut unrolled.0 (token_limit - length (ts ++ token_at l at ∷ [])) (at + l.length) (drop l.length (drop at text))))
        ∙ ap (λ r. prepend (ts ++ token_at l at ∷ []) (cut unrolled.0 (token_limit - length (ts ++ token_at l at ∷ [])) (at + l.length) r)) (drop-drop l.length at text);
  }

pub ended : (text : List ℕ) (ts : List Token) (at : ℕ) → length text ≤ at → Progress text ts at → cut_text text ≡ Ok ts
ended text ts at h p = p.same ∙ ap (λ r. prepend ts (cut p.steps (token_limit - length ts) at r)) (drop_all at text h) ∙ ap (prepend ts) (cut_none p.steps (token_limit - length ts) at) ∙ prepend_none ts
  where
    cut_none : (steps left at : ℕ) → cut steps left at [] ≡ Ok []
    cut_none zero left at = refl
    cut_none (suc steps) left at = refl
