-- Sizes that stand in front of their numbers, token by token.
use Rattle.std.proofs.Common.{◌≡◌, ℕ, zero, suc, ◌+◌, ◌<◌, ◌≤◌, Bool, true, false, ◌&&◌, List, [], ◌∷◌, ◌++◌, ◌⊎◌, inl, inr, refl, sym, ◌∙◌, ap, length, drop, get_or, arith}
use Rattle.std.specs.Prelude.{None, Result, Ok, Err, ◌==◌, slice_index}
use Rattle.std.specs.List.{list_any}
use Rattle.std.proofs.lemmas.List.{drop_more, drop_all}
use Rattle.vs_lexer.specs.declared.token.Token.{Token}
use Rattle.vs_lexer.specs.declared.token.TokenKind.TheVariants.{Identifier}
use Rattle.vs_pre.specs.declared.error.PreError.{PreError}
use Rattle.vs_pre.specs.declared.error.PreError.TheVariants.{BadLiteral}
use Rattle.vs_pre.specs.Words.{is_directive, is_decimal, is_based, bytes_of}
use Rattle.vs_pre.specs.Attributes.{without_attributes}
use Rattle.vs_pre.specs.Sizes.{is_size_of, is_fitting, with_size}
use Rattle.vs_pre.specs.Preprocessing.{behind, sized, finished, resolved, pre}
use Rattle.vs_pre.specs.Laws.{HasNoAttribute, HasNoSize, PlainStays}
use Rattle.vs_pre.proofs.AttributeFacts.{no_attribute}
use Rattle.vs_pre.proofs.ReadSteps.{plain_resolved, behind_twice}
use Rattle.vs_pre.proofs.Walking.{nil_end}

-- a token, where lists ask for one to read past their end
abbrev pub blank : Token
blank = record { kind = Identifier; start = 0; end = 0; at = 0; size = None }

pair_by : List ℕ → Token → Token → List Token → Bool → Bool → Result (List Token) PreError
pair_by text t u ts size fits = elim size [
  | false ↦ behind (t ∷ []) (sized text (u ∷ ts))
  | true ↦ elim fits [ false ↦ Err (BadLiteral t.at) | true ↦ behind (with_size t u ∷ []) (sized text ts) ]
]

module _ (text : List ℕ) (t u : Token) (ts : List Token) where
  apart : is_size_of text t u ≡ false → sized text (t ∷ u ∷ ts) ≡ behind (t ∷ []) (sized text (u ∷ ts))
  unfolding pair_by
  apart e = ap (λ b. pair_by text t u ts b (is_fitting text t u)) e

  unfit : is_size_of text t u ≡ true → is_fitting text t u ≡ false → sized text (t ∷ u ∷ ts) ≡ Err (BadLiteral t.at)
  unfolding pair_by
  unfit e f = ap (λ b. pair_by text t u ts b (is_fitting text t u)) e ∙ ap (pair_by text t u ts true) f

  together : is_size_of text t u ≡ true → is_fitting text t u ≡ true → sized text (t ∷ u ∷ ts) ≡ behind (with_size t u ∷ []) (sized text ts)
  unfolding pair_by
  together e f = ap (λ b. pair_by text t u ts b (is_fitting text t u)) e ∙ ap (pair_by text t u ts true) f

-- where the list is read up to a place
module _ (text : List ℕ) (ts : List Token) (at : ℕ) (out : List Token) (g : behind out (sized text (drop at ts)) ≡ sized text ts) where
  -- the first is the last one
  pub sized_last : at < length ts → length ts ≤ at + 1 → behind (out ++ get_or ts at blank ∷ []) (sized text (drop (at + 1) ts)) ≡ sized text ts
  sized_last h e =
      let none = drop_all (at + 1) ts e in
      ap (λ us. behind (out ++ get_or ts at blank ∷ []) (sized text us)) none
      ∙ ap (λ l. Ok l) (nil_end (out ++ get_or ts at blank ∷ []))
      ∙ sym (ap (λ us. behind out (sized text us)) (drop_more ts at blank h ∙ ap (λ us. get_or ts at blank ∷ us) none)) ∙ g

  both : at + 1 < length ts → drop at ts ≡ get_or ts at blank ∷ get_or ts (at + 1) blank ∷ drop (at + 1 + 1) ts
  both h = drop_more ts at blank (omega arith) ∙ ap (λ us. get_or ts at blank ∷ us) (drop_more ts (at + 1) blank h)

  pub sized_apart : at + 1 < length ts → is_size_of text (get_or ts at blank) (get_or ts (at + 1) blank) ≡ false → behind (out ++ get_or ts at blank ∷ []) (sized text (drop (at + 1) ts)) ≡ sized text ts
  sized_apart h e =
      sym (behind_twice out (get_or ts at blank ∷ []) (sized text (drop (at + 1) ts)))
      ∙ ap (λ us. behind out (behind (get_or ts at blank ∷ []) (sized text us))) (drop_more ts (at + 1) blank h)
      ∙ ap (behind out) (sym (apart text (get_or ts at blank) (get_or ts (at + 1) blank) (drop (at + 1 + 1) ts) e))
      ∙ ap (λ us. behind out (sized text us)) (sym (both h)) ∙ g

  pub sized_together : at + 1 < length ts → is_size_of text (get_or ts at blank) (get_or ts (at + 1) blank) ≡ true → is_fitting text (get_or ts at blank) (get_or ts (at + 1) blank) ≡ true
      → behind (out ++ with_size (get_or ts at blank) (get_or ts (at + 1) blank) ∷ []) (sized text (drop (at + 2) ts)) ≡ sized text ts
  sized_together h e f =
      let place : at + 2 ≡ at + 1 + 1 = omega arith in
      ap (λ n. behind (out ++ with_size (get_or ts at blank) (get_or ts (at + 1) blank) ∷ []) (sized text (drop n ts))) place
      ∙ sym (behind_twice out (with_size (get_or ts at blank) (get_or ts (at + 1) blank) ∷ []) (sized text (drop (at + 1 + 1) ts)))
      ∙ ap (behind out) (sym (together text (get_or ts at blank) (get_or ts (at + 1) blank) (drop (at + 1 + 1) ts) e f))
      ∙ ap (λ us. behind out (sized text us)) (sym (both h)) ∙ g

  pub sized_unfit : at + 1 < length ts → is_size_of text (get_or ts at blank) (get_or ts (at + 1) blank) ≡ true → is_fitting text (get_or ts at blank) (get_or ts (at + 1) blank) ≡ false
      → sized text ts ≡ Err (BadLiteral (get_or ts at blank).at)
  sized_unfit h e f =
      sym g ∙ ap (λ us. behind out (sized text us)) (both h)
      ∙ ap (behind out) (unfit text (get_or ts at blank) (get_or ts (at + 1) blank) (drop (at + 1 + 1) ts) e f)

  pub sized_end : length ts ≤ at → sized text ts ≡ Ok out
  sized_end h = sym g ∙ ap (λ us. behind out (sized text us)) (drop_all at ts h) ∙ ap (λ l. Ok l) (nil_end out)

-- ---- tokens without a directive, an attribute and a size in front of its number

no_pair : (a b c : Bool) → (a && b) ≡ false → (a && (b && c)) ≡ false
no_pair true true c e = cc
no_pair true false c e = refl
no_pair false b c e = refl

no_size : (text : List ℕ) (ts : List Token) → HasNoSize ts → sized text ts ≡ Ok ts
no_size text [] h = refl
no_size text (t ∷ []) h = refl
no_size text (t ∷ u ∷ ts) h =
    apart text t u ts (no_pair (is_decimal t.kind) (is_based u.kind) (slice_index (bytes_of text u) 0 == 39) (h 0))
    ∙ ap (behind (t ∷ [])) (no_size text (u ∷ ts) (λ n. h (suc n)))

pub plain_stays : PlainStays
unfolding pre
plain_stays text ts e n s h = ap (finished text) (plain_resolved text ts e h) ∙ ap (sized text) (no_attribute ts n) ∙ no_size text ts s

pub finished_list : (text : List ℕ) (ts rs ks : List Token) (r : Result (List Token) PreError) → resolved text ts ≡ Ok rs → ks ≡ without_attributes rs → sized text ks ≡ r → pre text ts ≡ r
unfolding pre
finished_list text ts rs ks r e k s = ap (finished text) e ∙ ap (sized text) (sym k) ∙ s

pub unresolved : (text : List ℕ) (ts : List Token) (x : PreError) → resolved text ts ≡ Err x → pre text ts ≡ Err x
unfolding pre
unresolved text ts x e = ap (finished text) e
