-- Attributes, token by token.
use Rattle.std.proofs.Common.{◌≡◌, ℕ, zero, suc, ◌+◌, ◌<◌, ◌≤◌, Bool, true, false, List, [], ◌∷◌, ◌++◌, refl, sym, ◌∙◌, ap, length, drop, get_or, arith}
use Rattle.std.specs.Prelude.{Option, Some, None, Result, Ok, Err}
use Rattle.std.proofs.lemmas.List.{drop_more, drop_all, drop-drop, append_assoc}
use Rattle.vs_lexer.specs.declared.token.Token.{Token}
use Rattle.vs_lexer.specs.declared.token.TokenKind.TheVariants.{Identifier}
use Rattle.vs_pre.specs.Attributes.{begins_attribute, ends_attribute, to_end, attribute, outside, without_attributes}
use Rattle.vs_pre.specs.Laws.{HasNoAttribute, AttributesAreSkipped}

-- ---- the end of an attribute

-- a count that begins at a place
abbrev pub shifted : ℕ → Option ℕ → Option ℕ
shifted at None = None
shifted at (Some n) = Some (at + n)

end_by : Bool → Option ℕ → Option ℕ
end_by b o = elim b [ true ↦ Some 2 | false ↦ elim o [ None ↦ None | Some n ↦ Some (suc n) ] ]

shift_more : (at : ℕ) (o : Option ℕ) → shifted at (end_by false o) ≡ shifted (at + 1) o
unfolding end_by
shift_more at None = refl
shift_more at (Some n) = let e : at + suc n ≡ at + 1 + n = omega arith in ap (λ k. Some k) e

-- a token, where lists ask for one to read past their end
abbrev blank : Token
blank = record { kind = Identifier; start = 0; end = 0; at = 0; size = None }

end_step : (ts : List Token) (at : ℕ) → at < length ts → to_end (drop at ts) ≡ end_by (ends_attribute (drop at ts)) (to_end (drop (at + 1) ts))
unfolding end_by
end_step ts at h = let q = drop_more ts at blank h in ap to_end q ∙ ap (λ (us : List Token). end_by (ends_attribute us) (to_end (drop (at + 1) ts))) (sym q)

pub end_later : (ts : List Token) (at : ℕ) → at < length ts → ends_attribute (drop at ts) ≡ false → shifted at (to_end (drop at ts)) ≡ shifted (at + 1) (to_end (drop (at + 1) ts))
end_later ts at h e = ap (shifted at) (end_step ts at h ∙ ap (λ b. end_by b (to_end (drop (at + 1) ts))) e) ∙ shift_more at (to_end (drop (at + 1) ts))

-- no end further on, where there is none from here on
none_behind : (t : Token) (ts : List Token) → to_end (t ∷ ts) ≡ None → to_end ts ≡ None
none_behind t ts e = by (ends_attribute (t ∷ ts)) (to_end ts) e
  where
    by : (b : Bool) (o : Option ℕ) → (elim b as (λ _. Option ℕ) [ true ↦ Some 2 | false ↦ elim o [ None ↦ None | Some n ↦ Some (suc n) ] ]) ≡ None → o ≡ None
    by true o e = cc
    by false None e = refl
    by false (Some n) e = cc

none_dropped : (ts : List Token) → to_end ts ≡ None → to_end (drop 1 ts) ≡ None
none_dropped [] e = refl
none_dropped (t ∷ ts) e = none_behind t ts e

-- ---- what is left

attribute_by : Bool → Option ℕ → Option ℕ
attribute_by b o = elim b [ false ↦ None | true ↦ elim o [ None ↦ None | Some n ↦ Some (suc n) ] ]

left_by : Token → List Token → Option ℕ → List Token
left_by t ts o = elim o [ None ↦ t ∷ outside 0 ts | Some more ↦ outside more ts ]

attribute_is : (ts : List Token) (b : Bool) (o : Option ℕ) → begins_attribute ts ≡ b → to_end (drop 2 ts) ≡ o → attribute ts ≡ attribute_by b o
unfolding attribute_by
attribute_is ts b o e f = ap (λ b. attribute_by b (to_end (drop 2 ts))) e ∙ ap (attribute_by b) f

none_open : (b : Bool) → attribute_by b None ≡ None
unfolding attribute_by
none_open true = refl
none_open false = refl

drop_nil : (n : ℕ) → ◌≡◌ {A = List Token} (drop n []) []
drop_nil zero = refl
drop_nil (suc n) = refl

outside_skip : (k : ℕ) (ts : List Token) → outside k ts ≡ outside 0 (drop k ts)
outside_skip zero ts = refl
outside_skip (suc k) [] = refl
outside_skip (suc k) (t ∷ ts) = outside_skip k ts

-- where no end stands behind the first two, no attribute with an end begins at any of them
unclosed : (ts : List Token) → to_end (drop 2 ts) ≡ None → outside 0 ts ≡ ts
unfolding left_by
unclosed [] e = refl
unclosed (t ∷ ts) e =
    ap (left_by t ts) (attribute_is (t ∷ ts) (begins_attribute (t ∷ ts)) None refl e ∙ none_open (begins_attribute (t ∷ ts)))
    ∙ ap (λ us. t ∷ us) (unclosed ts (next ts e))
  where
    next : (ts : List Token) → to_end (drop 1 ts) ≡ None → to_end (drop 2 ts) ≡ None
    next [] e = refl
    next (u ∷ us) e = none_dropped us e

module _ (ts : List Token) (at : ℕ) (kept : List Token) (h : at < length ts) (g : kept ++ outside 0 (drop at ts) ≡ without_attributes ts) where
  left : (o : Option ℕ) → attribute (drop at ts) ≡ o → outside 0 (drop at ts) ≡ left_by (get_or ts at blank) (drop (at + 1) ts) o
  unfolding left_by
  left o e =
      let q = drop_more ts at blank h in
      ap (outside 0) q ∙ ap (left_by (get_or ts at blank) (drop (at + 1) ts)) (ap attribute (sym q) ∙ e)

  -- one begins here and is passed over
  pub passed : (n : ℕ) → begins_attribute (drop at ts) ≡ true → to_end (drop 2 (drop at ts)) ≡ Some n → kept ++ outside 0 (drop (at + (2 + n)) ts) ≡ without_attributes ts
  unfolding left_by attribute_by
  passed n e f =
      let place : at + 1 + suc n ≡ at + (2 + n) = omega arith in
      ap (λ us. kept ++ us) (sym (left (Some (suc n)) (attribute_is (drop at ts) true (Some n) e f) ∙ outside_skip (suc n) (drop (at + 1) ts) ∙ ap (outside 0) (drop-drop (suc n) (at + 1) ts ∙ ap (λ m. drop m ts) place)))
      ∙ g

  -- one begins here that has no end
  pub stays_open : to_end (drop 2 (drop at ts)) ≡ None → kept ++ drop at ts ≡ without_attributes ts
  stays_open f = ap (λ us. kept ++ us) (sym (unclosed (drop at ts) f)) ∙ g

-- ---- tokens without a directive and without an attribute

pub no_attribute : (ts : List Token) → HasNoAttribute ts → without_attributes ts ≡ ts
unfolding left_by attribute_by
no_attribute [] h = refl
no_attribute (t ∷ ts) h =
    ap (left_by t ts) (attribute_is (t ∷ ts) false (to_end (drop 2 (t ∷ ts))) (h 0) refl)
    ∙ ap (λ us. t ∷ us) (no_attribute ts (λ n. h (suc n)))

stays_as_is : (t : Token) (ts : List Token) → begins_attribute (t ∷ ts) ≡ false → without_attributes (t ∷ ts) ≡ t ∷ without_attributes ts
unfolding left_by attribute_by
stays_as_is t ts e = ap (left_by t ts) (attribute_is (t ∷ ts) false (to_end (drop 2 (t ∷ ts))) e refl)

skipped_to_end : (ts : List Token) (n : ℕ) → begins_attribute ts ≡ true → to_end (drop 2 ts) ≡ Some n → without_attributes ts ≡ without_attributes (drop (2 + n) ts)
unfolding left_by attribute_by
skipped_to_end [] n e f = cc
skipped_to_end (t ∷ ts) n e f =
    let place : suc (suc n) ≡ 2 + n = omega arith in
    ap (left_by t ts) (attribute_is (t ∷ ts) true (Some n) e f) ∙ outside_skip (suc n) ts ∙ ap (λ m. outside 0 (drop m (t ∷ ts))) place

pub attributes_skipped : AttributesAreSkipped
attributes_skipped = (no_attribute, unclosed, stays_as_is, skipped_to_end)
