-- The numbers of a range that pass a test.
use Rattle.std.proofs.Common.{◌≡◌, ℕ, zero, suc, ◌+◌, subst, Bool, List, [], ◌∷◌, ◌++◌, if◌then◌else◌, true, false, sym, ap, ◌∙◌, arith, append-nil, refl, ◌<◌, inl, inr}
use Rattle.std.specs.List.{filter}
use Rattle.std.proofs.lemmas.List.Elements.{filter-append}
use Rattle.vs_design.specs.Values.{count_from}
use Rattle.vs_design.specs.Designs.{Design, bit_count}
use Rattle.vs_design.specs.Footprints.{ascending, contains}
use Rattle.vs_design.specs.Clocks.{clock_nets, own_nets}
use Rattle.vs_cone.specs.Lists.{AscendingIsOnce, FewAreApart, HasEachOnce}
use Rattle.vs_cone.specs.Sources.{SourcesAre, SourcesOfDesign}
use Rattle.vs_clock.specs.Nets.{AreNets, Labelled, is_clock_bit}
use Rattle.vs_program.specs.Compiled.{IsAcceptedAt}
use Rattle.vs_program.specs.Made.{AreClockNets}
use Rattle.vs_compile.proofs.Lists.{distinct_within}

count_more : (first n : ℕ) → count_from first (suc n) ≡ count_from first n ++ (first + n) ∷ []
count_more first zero = let same : first ≡ first + 0 = omega arith in ap (λ (k : ℕ). k ∷ []) same
count_more first (suc n) =
    let same : suc first + n ≡ first + suc n = omega arith in
    ap (λ (ks : List ℕ). first ∷ ks) (count_more (suc first) n ∙ ap (λ k. count_from (suc first) n ++ k ∷ []) same)

ascending_next : (set : List ℕ) (n : ℕ) → ascending (n + 1) set ≡ ascending n set ++ (if contains set n then (n ∷ []) else [])
ascending_next set n =
    let at : n + 1 ≡ suc n = omega arith in
    let same : 0 + n ≡ n = omega arith in
    ap (λ k. filter (contains set) (count_from 0 k)) at
    ∙ ap (filter (contains set)) (count_more 0 n ∙ ap (λ k. count_from 0 n ++ k ∷ []) same)
    ∙ filter-append (contains set) (count_from 0 n) (n ∷ [])

pub nets_more : (d : Design) (clocks : List ℕ) (nets : Labelled) (n : ℕ) → AreNets d clocks nets → is_clock_bit nets n ≡ true → ascending (n + 1) (clock_nets d clocks) ≡ ascending n (clock_nets d clocks) ++ n ∷ []
nets_more d clocks nets n are e = ascending_next (clock_nets d clocks) n ∙ ap (λ (c : Bool). ascending n (clock_nets d clocks) ++ (if c then (n ∷ []) else [])) (sym (are.clock n) ∙ e)

pub nets_same : (d : Design) (clocks : List ℕ) (nets : Labelled) (n : ℕ) → AreNets d clocks nets → is_clock_bit nets n ≡ false → ascending (n + 1) (clock_nets d clocks) ≡ ascending n (clock_nets d clocks)
nets_same d clocks nets n are e =
    ascending_next (clock_nets d clocks) n ∙ ap (λ (c : Bool). ascending n (clock_nets d clocks) ++ (if c then (n ∷ []) else [])) (sym (are.clock n) ∙ e) ∙ append-nil (ascending n (clock_nets d clocks))

-- lists with the same numbers of a range have one ascending list of it
filter_same : (first n : ℕ) (xs ys : List ℕ) → ((b : ℕ) → b < first + n → contains xs b ≡ contains ys b) → filter (contains xs) (count_from first n) ≡ filter (contains ys) (count_from first n)
filter_same first zero xs ys h = refl
filter_same first (suc n) xs ys h =
    let rest = filter_same (suc first) n xs ys (λ b l. h b (omega (arith, l))) in
    ap (λ (bs : List ℕ). if contains xs first then (first ∷ bs) else bs) rest
    ∙ ap (λ (c : Bool). if c then (first ∷ filter (contains ys) (count_from (suc first) n)) else filter (contains ys) (count_from (suc first) n)) (h first (omega arith))

-- among the design's bits the clock nets are its own
own_below : (d : Design) (clocks : List ℕ) → SourcesAre d clocks → (b : ℕ) → b < bit_count d → contains (clock_nets d clocks) b ≡ contains (own_nets d clocks) b
own_below d clocks from b l = by_net (contains (clock_nets d clocks) b) (contains (own_nets d clocks) b) (from.nets_own b)
    (λ h. elim (from.nets_are b h) [
      | inl own ↦ own
      | inr q ↦ let past = q.1 in absurd (omega (arith, l, past))
    ])
  where
    by_net : (u v : Bool) → (v ≡ true → u ≡ true) → (u ≡ true → v ≡ true) → u ≡ v
    by_net true true f g = refl
    by_net false false f g = refl
    by_net true false f g = sym (g refl)
    by_net false true f g = f refl

-- the ascending list of them is the clock nets of the design's bits, and no longer
pub are_clock_nets : FewAreApart → AscendingIsOnce → SourcesOfDesign → (d : Design) (clocks : List ℕ) → IsAcceptedAt d clocks → (count : ℕ) → count ≡ bit_count d
    → (bits : List ℕ) → bits ≡ ascending count (clock_nets d clocks) → AreClockNets d clocks bits
are_clock_nets few once sources d clocks at count counted bits is =
    let nets = own_nets d clocks in
    let from : SourcesAre d clocks = subst (SourcesAre d) at.clocks_are (sources d at.names at.accepted) in
    let own : ascending (bit_count d) (clock_nets d clocks) ≡ ascending (bit_count d) nets = filter_same 0 (bit_count d) (clock_nets d clocks) nets (λ b l. own_below d clocks from b (omega (arith, l))) in
    let each : HasEachOnce nets bits = subst (HasEachOnce nets) (sym (is ∙ ap (λ n. ascending n (clock_nets d clocks)) counted ∙ own)) (once (bit_count d) nets from.nets_below) in
    let most = few nets bits each.once (λ b h. sym (each.has b) ∙ h) in
    let least = distinct_within nets nets (λ b h. h) in
    record { has = each.has; few = omega (arith, most, least) }
