-- Digits that are met by their bits.
use Rattle.std.proofs.Common.{◌≡◌, ◌⊎◌, ℕ, zero, suc, ◌+◌, ◌<◌, Bool, true, false, ◌&&◌, List, [], ◌∷◌, ◌++◌, length, take, replicate, get_or, slice_get, Some, refl, sym, ap, ap₂, ◌∙◌, inl, inr, arith}
use Rattle.std.proofs.lemmas.Bool.{and_parts, and_from, true≢false, false≢true}
use Rattle.std.proofs.lemmas.Option.{slice_get_within, get_or_from_slice_get, none-some, same_Some}
use Rattle.std.proofs.lemmas.List.{length-take-le, take_more, take_all}
use Rattle.vs_four.specs.declared.Bit4.{Bit4}
use Rattle.vs_four.specs.declared.Bit4.TheVariants.{Zero, One, X, Z}
use Rattle.vs_four.specs.Tables.{same}
use Rattle.vs_four.specs.Logic.{BitList}
use Rattle.vs_stim.specs.declared.wanted.Digit.{Digit}
use Rattle.vs_stim.specs.declared.wanted.Digit.TheVariants.{Exactly, Any}
use Rattle.vs_misses.specs.Missed.{is_met, are_met}
use Rattle.vs_misses.specs.Laws.{MeetsAll}

and_true : (a : Bool) → (a && true) ≡ a
and_true true = refl
and_true false = refl

and_assoc : (a b c : Bool) → (a && (b && c)) ≡ ((a && b) && c)
and_assoc true b c = refl
and_assoc false b c = refl

-- one more digit
pub are_met_push : (ws : List Digit) (bits : BitList) (d : Digit) (b : Bit4) → length ws ≡ length bits → are_met (ws ++ d ∷ []) (bits ++ b ∷ []) ≡ (are_met ws bits && is_met d b)
are_met_push [] [] d b h = and_true (is_met d b)
are_met_push [] (c ∷ bits) d b h = absurd (let e : ⊥ = omega arith in e)
are_met_push (w ∷ ws) [] d b h = absurd (let e : ⊥ = omega arith in e)
are_met_push (w ∷ ws) (c ∷ bits) d b h =
    ap (λ t. is_met w c && t) (are_met_push ws bits d b (omega arith)) ∙ and_assoc (is_met w c) (are_met ws bits) (is_met d b)

pub are_met_more : (ws : List Digit) (bits : BitList) (n : ℕ) (d : Digit) (b : Bit4) → slice_get ws n ≡ Some d → slice_get bits n ≡ Some b
    → are_met (take (n + 1) ws) (take (n + 1) bits) ≡ (are_met (take n ws) (take n bits) && is_met d b)
are_met_more ws bits n d b at got =
    let h : n < length ws = slice_get_within ws n d at in
    let l : n < length bits = slice_get_within bits n b got in
    ap₂ are_met (take_more ws n d h) (take_more bits n b l)
    ∙ are_met_push (take n ws) (take n bits) (get_or ws n d) (get_or bits n b) (length-take-le n ws (omega arith) ∙ sym (length-take-le n bits (omega arith)))
    ∙ ap₂ (λ (x : Digit) (y : Bit4). are_met (take n ws) (take n bits) && is_met x y) (get_or_from_slice_get ws n d d at) (get_or_from_slice_get bits n b b got)

pub are_met_all : (ws : List Digit) (bits : BitList) (n : ℕ) → length ws ≡ n → length bits ≡ n → are_met (take n ws) (take n bits) ≡ are_met ws bits
are_met_all ws bits n e f = ap₂ are_met (take_all n ws (omega arith)) (take_all n bits (omega arith))

-- a digit that isn't met
pub are_met_unmet : (n : ℕ) (ws : List Digit) (bits : BitList) (d : Digit) (b : Bit4) → slice_get ws n ≡ Some d → slice_get bits n ≡ Some b → is_met d b ≡ false → are_met ws bits ≡ false
are_met_unmet n [] bits d b at got h = absurd (none-some d at)
are_met_unmet n (w ∷ ws) [] d b at got h = refl
are_met_unmet zero (w ∷ ws) (c ∷ bits) d b at got h = go (is_met w c) (ap₂ is_met (same_Some w d at) (same_Some c b got) ∙ h)
  where
    go : (t : Bool) → t ≡ false → (t && are_met ws bits) ≡ false
    go true e = absurd (true≢false e)
    go false e = refl
are_met_unmet (suc n) (w ∷ ws) (c ∷ bits) d b at got h = go (is_met w c) (are_met_unmet n ws bits d b at got h)
  where
    go : (t : Bool) → are_met ws bits ≡ false → (t && are_met ws bits) ≡ false
    go true e = e
    go false e = refl

-- digits that stand for any bit
pub are_met_any : (n : ℕ) (bits : BitList) → length bits ≡ n → are_met (replicate n Any) bits ≡ true
are_met_any zero bits h = refl
are_met_any (suc n) [] h = absurd (let e : ⊥ = omega arith in e)
are_met_any (suc n) (b ∷ bits) h = are_met_any n bits (omega arith)

-- ---- a bit that is exactly a digit

same_itself : (b : Bit4) → same b b ≡ true
same_itself Zero = refl
same_itself One = refl
same_itself X = refl
same_itself Z = refl

pub same_is : (a b : Bit4) → same a b ≡ true → a ≡ b
same_is Zero Zero h = refl
same_is One One h = refl
same_is X X h = refl
same_is Z Z h = refl
same_is Zero One h = absurd (false≢true h)
same_is Zero X h = absurd (false≢true h)
same_is Zero Z h = absurd (false≢true h)
same_is One Zero h = absurd (false≢true h)
same_is One X h = absurd (false≢true h)
same_is One Z h = absurd (false≢true h)
same_is X Zero h = absurd (false≢true h)
same_is X One h = absurd (false≢true h)
same_is X Z h = absurd (false≢true h)
same_is Z Zero h = absurd (false≢true h)
same_is Z One h = absurd (false≢true h)
same_is Z X h = absurd (false≢true h)

pub is_met_by : (d : Digit) (b : Bit4) → is_met d b ≡ true → (d ≡ Any) ⊎ (d ≡ Exactly b)
is_met_by Any b h = inl refl
is_met_by (Exactly d) b h = inr (ap Exactly (same_is d b h))

pub is_met_from : (d : Digit) (b : Bit4) → (d ≡ Any) ⊎ (d ≡ Exactly b) → is_met d b ≡ true
is_met_from d b (inl e) = ap (λ x. is_met x b) e
is_met_from d b (inr e) = ap (λ x. is_met x b) e ∙ same_itself b

pub meets_from : (ws : List Digit) (bits : BitList) → are_met ws bits ≡ true → MeetsAll ws bits
meets_from [] bits h = λ j d at. absurd (none-some d at)
meets_from (w ∷ ws) [] h = absurd (false≢true h)
meets_from (w ∷ ws) (b ∷ bits) h = let parts = and_parts (is_met w b) (are_met ws bits) h in go (is_met_by w b parts.0) (meets_from ws bits parts.1)
  where
    moved : {d : Digit} → w ≡ d → (w ≡ Any) ⊎ (w ≡ Exactly b) → (d ≡ Any) ⊎ (d ≡ Exactly b)
    moved e (inl any) = inl (sym e ∙ any)
    moved e (inr exactly) = inr (sym e ∙ exactly)

    go : (w ≡ Any) ⊎ (w ≡ Exactly b) → MeetsAll ws bits → (j : ℕ) (d : Digit) → slice_get (w ∷ ws) j ≡ Some d
        → (c : Bit4) × (slice_get (b ∷ bits) j ≡ Some c) × ((d ≡ Any) ⊎ (d ≡ Exactly c))
    go first rest zero d at = (b, refl, moved (same_Some w d at) first)
    go first rest (suc j) d at = rest j d at

pub met_from : (ws : List Digit) (bits : BitList) → MeetsAll ws bits → are_met ws bits ≡ true
met_from [] bits h = refl
met_from (w ∷ ws) [] h = let m = h 0 w refl in absurd (none-some m.0 m.1)
met_from (w ∷ ws) (b ∷ bits) h =
    let m = h 0 w refl in
    let e : b ≡ m.0 = same_Some b m.0 m.1 in
    and_from (is_met w b) (are_met ws bits) (ap (is_met w) e ∙ is_met_from w m.0 m.2) (met_from ws bits (λ j d at. h (suc j) d at))
