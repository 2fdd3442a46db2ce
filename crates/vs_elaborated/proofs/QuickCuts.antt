-- Texts cut into tokens in fewer steps: a word is as long as its run of name bytes, and a sign is sought among the first three bytes.
use Rattle.std.proofs.Common.{◌≡◌, ℕ, zero, suc, ◌+◌, ◌<◌, ◌==◌, Bool, true, false, cond, List, [], ◌∷◌, refl, sym, ◌∙◌, ap, length, take, drop, arith, min, length-take-le, inl, inr}
use Rattle.std.specs.Prelude.{◌||◌, Option, Some, None, Result, Ok, Err}
use Rattle.std.specs.List.{prefix_len}
use Rattle.std.proofs.lemmas.List.Sums.{prefix_len-le-length}
use Rattle.vs_lexer.specs.declared.token.Token.{Token}
use Rattle.vs_lexer.specs.declared.token.LexError.{LexError}
use Rattle.vs_lexer.specs.declared.token.LexError.TheVariants.{OpenComment, TooManyTokens}
use Rattle.vs_lexer.specs.Classes.{is_letter, is_digit}
use Rattle.vs_lexer.specs.Tokens.{start_of, longest_within, here, here_from, word_kind}
use Rattle.vs_lexer.specs.Cuts.{byte_order_mark, cut, cut_text, fault_at, skipped, token_at, token_limit, with_token, word_of}
use Rattle.vs_lexer.proofs.Longest.{lexeme}
use Rattle.vs_lexer.proofs.Classes.{word_here}
use Rattle.vs_lexer.proofs.Signs.{within_three}
use Rattle.vs_grammar.proofs.Runner.{value_of}

-- ---- the token at the front

-- neither a word nor a sign begins with this byte
abbrev is_other : ℕ → Bool
is_other b = is_digit b || (b == 39 || (b == 34 || (b == 92 || (b == 36 || b == 96))))

abbrev pick : {R : Type 0} → Bool → Bool → (word other sign : R) → R
pick is_word is_other word other sign = cond is_word word (cond is_other other sign)

abbrev taken : {L F : Type 0} → Result L F → Option L → Result L F
taken none o = elim o [ None ↦ none | Some l ↦ Ok l ]

abbrev word_length : List ℕ → ℕ
word_length text = 1 + length (word_of (drop 1 text))

yes : {A : Type 0} (c : Bool) (x y : A) → c ≡ true → cond c x y ≡ x
yes true x y e = refl
yes false x y e = cc

no : {A : Type 0} (c : Bool) (x y : A) → c ≡ false → cond c x y ≡ y
no true x y e = cc
no false x y e = refl

neither : (a b : Bool) → (a || b) ≡ false → (a ≡ false) × (b ≡ false)
neither false b e = (refl, e)
neither true b e = cc

run_length : (p : ℕ → Bool) (xs : List ℕ) → length (take (prefix_len p xs) xs) ≡ prefix_len p xs
run_length p xs = length-take-le (prefix_len p xs) xs (prefix_len-le-length p xs)

some : (b : ℕ) (bs : List ℕ) → 0 < length (b ∷ bs)
some b bs = omega arith

is_sign : (b : ℕ) → is_letter b ≡ false → is_other b ≡ false → start_of b ≡ start_of 40
is_sign b l o =
    let p = neither (is_digit b) (b == 39 || (b == 34 || (b == 92 || (b == 36 || b == 96)))) o in
    let q = neither (b == 39) (b == 34 || (b == 92 || (b == 36 || b == 96))) p.1 in
    let r = neither (b == 34) (b == 92 || (b == 36 || b == 96)) q.1 in
    let s = neither (b == 92) (b == 36 || b == 96) r.1 in
    let t = neither (b == 36) (b == 96) s.1 in
    no (is_letter b) _ _ l ∙ no (is_digit b) _ _ p.0 ∙ no (b == 39) _ _ q.0 ∙ no (b == 34) _ _ r.0 ∙ no (b == 92) _ _ s.0 ∙ no (b == 36) _ _ t.0 ∙ no (b == 96) _ _ t.1

front_is : (b : ℕ) (bs : List ℕ)
    → here (b ∷ bs) ≡ pick (is_letter b) (is_other b) (Ok (lexeme (word_kind (take (word_length (b ∷ bs)) (b ∷ bs))) (word_length (b ∷ bs)))) (here_from (start_of b) (b ∷ bs))
    (taken (here []) (longest_within (b ∷ bs) (min (length (b ∷ bs)) 3)))
front_is b bs =
    elim (value_of (is_letter b)) [
      | inl l ↦ word_here (b ∷ bs) (word_length (b ∷ bs)) (some b bs) (yes (is_letter b) _ _ l) (ap (λ n. 1 + n) (run_length _ bs)) ∙ sym (yes (is_letter b) _ _ l)
      | inr l ↦ elim (value_of (is_other b)) [
        | inl o ↦ sym (no (is_letter b) _ _ l ∙ yes (is_other b) _ _ o)
        | inr o ↦
            let e = is_sign b l o in
            ap (λ s. here_from s (b ∷ bs)) e ∙ ap (taken (here [])) (sym (within_three (b ∷ bs) (min (length (b ∷ bs)) 3) (some b bs) e refl)) ∙ sym (no (is_letter b) _ _ l ∙ no (is_other b) _ _ o)
      ]
    ]

-- ---- the cut

abbrev Cut : Type 0
Cut = Result (List Token) LexError

-- one step, by what is skipped and what token stands here
abbrev step : {L F : Type 0} → (F → ℕ → LexError) → (L → ℕ → Token) → (L → ℕ) → (ℕ → ℕ → List ℕ → Cut) → (left at : ℕ) → List ℕ → Option ℕ → Result L F → Cut
step fault token size go left at text o h = elim o [
  | None ↦ Err (OpenComment at)
  | Some k ↦ elim k [
    | suc j ↦ go left (at + suc j) (drop (suc j) text)
    | zero ↦ elim h [
      | Err f ↦ Err (fault f at)
      | Ok l ↦ elim left [
        | zero ↦ Err (TooManyTokens at)
        | suc rest ↦ with_token (token l at) (go rest (at + size l) (drop (size l) text))
      ]
    ]
  ]
]

abbrev quick_cut : ℕ → ℕ → ℕ → List ℕ → Cut
quick_cut steps left at [] = Ok []
quick_cut zero left at (b ∷ bs) = Ok []
quick_cut (suc steps) left at (b ∷ bs) =
    step fault_at token_at (λ l. l.length) (quick_cut steps) left at (b ∷ bs) (skipped (b ∷ bs))
    (pick (is_letter b) (is_other b) (Ok (lexeme (word_kind (take (word_length (b ∷ bs)) (b ∷ bs))) (word_length (b ∷ bs)))) (here_from (start_of b) (b ∷ bs))
    (taken (here []) (longest_within (b ∷ bs) (min (length (b ∷ bs)) 3))))

same_step : {L F : Type 0} (fault : F → ℕ → LexError) (token : L → ℕ → Token) (size : L → ℕ) (f g : ℕ → ℕ → List ℕ → Cut) (left at : ℕ) (text : List ℕ) (o : Option ℕ) (h : Result L F)
    → ((l a : ℕ) (t : List ℕ) → f l a t ≡ g l a t) → step fault token size f left at text o h ≡ step fault token size g left at text o h
same_step fault token size f g left at text None h e = refl
same_step fault token size f g left at text (Some (suc j)) h e = e left (at + suc j) (drop (suc j) text)
same_step fault token size f g left at text (Some zero) (Err x) e = refl
same_step fault token size f g zero at text (Some zero) (Ok l) e = refl
same_step fault token size f g (suc rest) at text (Some zero) (Ok l) e = ap (with_token (token l at)) (e rest (at + size l) (drop (size l) text))

same_cut : (steps left at : ℕ) (text : List ℕ) → quick_cut steps left at text ≡ cut steps left at text
same_cut steps left at [] = refl
same_cut zero left at (b ∷ bs) = refl
same_cut (suc steps) left at (b ∷ bs) =
    ap (step fault_at token_at (λ l. l.length) (quick_cut steps) left at (b ∷ bs) (skipped (b ∷ bs))) (sym (front_is b bs))
    ∙ same_step fault_at token_at (λ l. l.length) (quick_cut steps) (cut steps) left at (b ∷ bs) (skipped (b ∷ bs)) (here (b ∷ bs)) (same_cut steps)

-- the tokens of a text, or its first fault
abbrev pub quick_text : List ℕ → Cut
quick_text text = let mark = byte_order_mark text in quick_cut (length text) token_limit mark (drop mark text)

pub cut_is : (text : List ℕ) → cut_text text ≡ quick_text text
unfolding cut_text
cut_is text = sym (same_cut (length text) token_limit (byte_order_mark text) (drop (byte_order_mark text) text))
