-- Prefixes of a text that end a string.
use Rattle.std.proofs.Common.{◌≡◌, ◌≢◌, ℕ, zero, suc, ◌+◌, ◌-◌, ◌<◌, ◌≤◌, Bool, true, false, List, [], ◌∷◌, refl, ◌∙◌, ap, length, take, drop, get_or, arith, ◌⊎◌, inl, inr, length-drop}
use Rattle.std.proofs.lemmas.List.{drop_all}
use Rattle.std.specs.Prelude.{not, ◌&&◌, ◌==◌}
use Rattle.std.proofs.lemmas.Bool.{ne_eqb}
use Rattle.std.proofs.lemmas.List.{drop_more}
use Rattle.vs_lexer.specs.Strings.{ends_string}

-- ---- one step, over the bytes that are left

-- the test of two bytes, by what the first one is
abbrev ends_by : ℕ → List ℕ → Bool → Bool → Bool → Bool
ends_by c rest e q l = elim e [ true ↦ not (c == 10) && ends_string rest | false ↦ not q && not l && ends_string (c ∷ rest) ]

plain : (b : ℕ) (rest : List ℕ) → b ≢ 34 → b ≢ 10 → b ≢ 92 → ends_string (b ∷ rest) ≡ ends_string rest
plain b [] p o r = ne_eqb b 34 p
plain b (c ∷ rest) p o r = ap (λ e. ends_by c rest e (b == 34) (b == 10)) (ne_eqb b 92 r) ∙ ap (λ q. ends_by c rest false q (b == 10)) (ne_eqb b 34 p) ∙ ap (λ l. ends_by c rest false false l) (ne_eqb b 10 o)

line_end : (rest : List ℕ) → ends_string (10 ∷ rest) ≡ false
line_end [] = refl
line_end (c ∷ rest) = refl

quote : (c : ℕ) (rest : List ℕ) → ends_string (34 ∷ c ∷ rest) ≡ false
quote c rest = refl

escape : (c : ℕ) (rest : List ℕ) → c ≢ 10 → ends_string (92 ∷ c ∷ rest) ≡ ends_string rest
escape c rest o = ap (λ l. not l && ends_string rest) (ne_eqb c 10 o)

-- ---- places

beyond : (m at : ℕ) → (m ≤ at) ⊎ ((k : ℕ) × (m ≡ at + suc k))
beyond zero at = inl (omega arith)
beyond (suc m) at = elim (beyond m at) [
  | inl h ↦ near h
  | inr w ↦ inr (suc w.0, let e = w.1 in omega arith)
]
  where
    near : m ≤ at → (suc m ≤ at) ⊎ ((k : ℕ) × (suc m ≡ at + suc k))
    near h = elim (last m at h) [ inl i ↦ inl i | inr i ↦ inr (0, omega arith) ]
      where
        last : (m at : ℕ) → m ≤ at → (suc m ≤ at) ⊎ (m ≡ at)
        last m at h = grind arith

-- No prefix of up to `at` bytes ends a string, and a longer one does where it does from `at` on.
pub record Seen (text : List ℕ) (at : ℕ) : Type 0 where
  pub before : (m : ℕ) → m ≤ at → ends_string (take m text) ≡ false
  pub behind : (m : ℕ) → ends_string (take (at + suc m) text) ≡ ends_string (take (suc m) (drop at text))

pub seen_none : (text : List ℕ) → Seen text 0
seen_none text = record { before = none; behind = λ m. ap (λ n. ends_string (take n text)) (zero_plus (suc m)) }
  where
    zero_plus : (m : ℕ) → 0 + m ≡ m
    zero_plus m = omega arith

    none : (m : ℕ) → m ≤ 0 → ends_string (take m text) ≡ false
    none zero h = refl
    none (suc m) h = absurd (omega arith)

module _ (text : List ℕ) (at : ℕ) (h : at < length text) (seen : Seen text at) where
  -- a longer prefix, by the next byte
  next : (m : ℕ) → ends_string (take (at + suc m) text) ≡ ends_string (get_or text at 0 ∷ take m (drop (at + 1) text))
  next m = seen.behind m ∙ ap (λ r. ends_string (take (suc m) r)) (drop_more text at 0 h)

  pub seen_plain : get_or text at 0 ≢ 34 → get_or text at 0 ≢ 10 → get_or text at 0 ≢ 92 → Seen text (at + 1)
  seen_plain p o r = record { before = before; behind = behind }
    where
      step : (m : ℕ) → ends_string (take (at + suc m) text) ≡ ends_string (take m (drop (at + 1) text))
      step m = next m ∙ plain (get_or text at 0) (take m (drop (at + 1) text)) p o r

      before : (m : ℕ) → m ≤ at + 1 → ends_string (take m text) ≡ false
      before m k = elim (beyond m at) [
        | inl i ↦ seen.before m i
        | inr w ↦ let z : w.0 ≡ 0 = let e = w.1 in omega arith in ap (λ n. ends_string (take n text)) w.1 ∙ step w.0 ∙ ap (λ n. ends_string (take n (drop (at + 1) text))) z
      ]

      behind : (m : ℕ) → ends_string (take (at + 1 + suc m) text) ≡ ends_string (take (suc m) (drop (at + 1) text))
      behind m = let e : at + 1 + suc m ≡ at + suc (suc m) = omega arith in ap (λ n. ends_string (take n text)) e ∙ step (suc m)

  pub found_quote : get_or text at 0 ≡ 34 → ends_string (take (at + 1) text) ≡ true
  found_quote q = let e : at + 1 ≡ at + suc 0 = omega arith in ap (λ n. ends_string (take n text)) e ∙ next 0 ∙ ap (λ b. ends_string (b ∷ [])) q

  pub last_quote : get_or text at 0 ≡ 34 → (m : ℕ) → at + 1 < m → m ≤ length text → ends_string (take m text) ≡ false
  last_quote q m a c = elim (beyond m at) [
    | inl i ↦ absurd (omega arith)
    | inr w ↦ let o : 0 < w.0 = let e = w.1 in omega arith in let f : w.0 ≤ length (drop (at + 1) text) = let e = w.1 in simp length-drop (omega arith) in ap (λ n. ends_string (take n text)) w.1 ∙ next w.0 ∙ ap (λ b. ends_string (b ∷ take w.0 (drop (at + 1) text))) q ∙ two w.0 (drop (at + 1) text) o f
  ]
    where
      two : (k : ℕ) (rest : List ℕ) → 0 < k → k ≤ length rest → ends_string (34 ∷ take k rest) ≡ false
      two zero rest o f = absurd (omega arith)
      two (suc k) [] o f = absurd (omega arith)
      two (suc k) (c ∷ rest) o f = refl

  -- nothing ends a string where nothing longer does
  none_from : ((k : ℕ) → ends_string (get_or text at 0 ∷ take k (drop (at + 1) text)) ≡ false) → (m : ℕ) → ends_string (take m text) ≡ false
  none_from f m = elim (beyond m at) [
    | inl i ↦ seen.before m i
    | inr w ↦ ap (λ n. ends_string (take n text)) w.1 ∙ next w.0 ∙ f w.0
  ]

  pub none_line : get_or text at 0 ≡ 10 → (m : ℕ) → ends_string (take m text) ≡ false
  none_line q = none_from (λ k. ap (λ b. ends_string (b ∷ take k (drop (at + 1) text))) q ∙ line_end (take k (drop (at + 1) text)))

  -- a `\` at the end, or before a line end
  pub none_escape : get_or text at 0 ≡ 92 → (at + 1 < length text → get_or text (at + 1) 0 ≡ 10) → (m : ℕ) → ends_string (take m text) ≡ false
  none_escape q l = none_from (λ k. ap (λ b. ends_string (b ∷ take k (drop (at + 1) text))) q ∙ by (drop (at + 1) text) k (head_is l))
    where
      head_is : (at + 1 < length text → get_or text (at + 1) 0 ≡ 10) → 0 < length (drop (at + 1) text) → get_or (drop (at + 1) text) 0 0 ≡ 10
      head_is l p =
          let i : at + 1 < length text = let w : 0 < length text - (at + 1) = rw length-drop at p in omega arith in
          ap (λ r. get_or r 0 0) (drop_more text (at + 1) 0 i) ∙ l i

      by : (rest : List ℕ) (k : ℕ) → (0 < length rest → get_or rest 0 0 ≡ 10) → ends_string (92 ∷ take k rest) ≡ false
      by rest zero f = refl
      by [] (suc k) f = refl
      by (c ∷ rest) (suc k) f = ap (λ c. ends_string (92 ∷ c ∷ take k rest)) (f (omega arith))

  pub seen_escape : get_or text at 0 ≡ 92 → at + 1 < length text → get_or text (at + 1) 0 ≢ 10 → Seen text (at + 2)
  seen_escape q i l = record { before = before; behind = behind }
    where
      one : ends_string (take (at + suc 0) text) ≡ false
      one = next 0 ∙ ap (λ b. ends_string (b ∷ [])) q

      step : (m : ℕ) → ends_string (take (at + suc (suc m)) text) ≡ ends_string (take m (drop (at + 1 + 1) text))
      step m =
          next (suc m) ∙ ap (λ b. ends_string (b ∷ take (suc m) (drop (at + 1) text))) q ∙ ap (λ r. ends_string (92 ∷ take (suc m) r)) (drop_more text (at + 1) 0 i) ∙ escape (get_or text (at + 1) 0) (take m (drop (at + 1 + 1) text)) l

      before : (m : ℕ) → m ≤ at + 2 → ends_string (take m text) ≡ false
      before m k = elim (beyond m at) [
        | inl i ↦ seen.before m i
        | inr w ↦ ap (λ n. ends_string (take n text)) w.1 ∙ at_most w.0 (let e = w.1 in omega arith)
      ]
        where
          at_most : (k : ℕ) → k ≤ 1 → ends_string (take (at + suc k) text) ≡ false
          at_most zero c = one
          at_most (suc zero) c = step 0
          at_most (suc (suc k)) c = absurd (omega arith)

      behind : (m : ℕ) → ends_string (take (at + 2 + suc m) text) ≡ ends_string (take (suc m) (drop (at + 2) text))
      behind m =
          let e : at + 2 + suc m ≡ at + suc (suc (suc m)) = omega arith in
          let f : at + 1 + 1 ≡ at + 2 = omega arith in
          ap (λ n. ends_string (take n text)) e ∙ step (suc m) ∙ ap (λ n. ends_string (take (suc m) (drop n text))) f

-- the text is at its end
pub none_past : (text : List ℕ) (at : ℕ) → length text ≤ at → Seen text at → (m : ℕ) → ends_string (take m text) ≡ false
none_past text at h seen m = elim (beyond m at) [
  | inl i ↦ seen.before m i
  | inr w ↦ ap (λ n. ends_string (take n text)) w.1 ∙ seen.behind w.0 ∙ ap (λ r. ends_string (take (suc w.0) r)) (drop_all at text h)
]
