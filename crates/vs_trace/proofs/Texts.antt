-- The text grows slot by slot.
use Rattle.std.proofs.Common.{◌≡◌, ℕ, suc, ◌*◌, ◌^◌, ◌<◌, ◌≤◌, Bool, List, [], ◌∷◌, ◌++◌, length, map, take, Some, sym, ap, ap₂, ◌∙◌, subst, arith, append_assoc}
use Rattle.std.specs.Prelude.{slice_get, All}
use Rattle.std.proofs.Math.Nat.{mul-le-mul}
use Rattle.std.proofs.Math.Seq.{take-suc}
use Rattle.std.proofs.lemmas.List.{length-map, length-take-le, map-append}
use Rattle.std.proofs.lemmas.List.Elements.{All-get_or}
use Rattle.std.proofs.lemmas.Option.{slice_get_within, get_or_from_slice_get}
use Rattle.vs_four.specs.declared.Bit4.{Bit4}
use Rattle.vs_net.specs.Network.{State}
use Rattle.vs_design.specs.Designs.{Design}
use Rattle.vs_vcd.specs.Laws.{FirstSlot, NextSlot}
use Rattle.vs_vcd.specs.Scopes.{head_text}
use Rattle.vs_vcd.specs.Shared.{AreCodes, TextIsParts, code_at, coded_by, led_by, text_of}
use Rattle.vs_vcd.specs.Texts.{first_text, last_text, shown_numbers, slot_text, slot_texts, time_line, values_of}
use Rattle.vs_writes.specs.Held.{state_of}

pub All-at : {X : Type 0} (P : X → Type 0) (xs : List X) (i : ℕ) (x : X) → slice_get xs i ≡ Some x → All P xs → P x
All-at P xs i x e all = subst P (get_or_from_slice_get xs i x x e) (All-get_or P xs i x (slice_get_within xs i x e) all)

-- the time of a slot
pub in_time : (k half : ℕ) → k ≤ 2 ^ 26 → half ≤ 1000000 → k * half < 2 ^ 64
in_time k half few short = let most : k * half ≤ 2 ^ 26 * 1000000 = mul-le-mul few short in omega arith

-- ---- one slot more

taken : {X : Type 0} (xs : List X) (n : ℕ) (x : X) → slice_get xs n ≡ Some x → take (suc n) xs ≡ take n xs ++ x ∷ []
taken xs n x at = take-suc xs n x (slice_get_within xs n x at) ∙ ap (λ y. take n xs ++ y ∷ []) (get_or_from_slice_get xs n x x at)

-- the first one
pub slot_first : FirstSlot → (d : Design) (half : ℕ) (ends : List (List Bit4)) (k : ℕ) (now : List Bit4) → k ≡ 0 → slice_get ends k ≡ Some now
    → (start old new : List ℕ) → old ≡ start ++ slot_texts d half (map state_of (take k ends)) → new ≡ old ++ first_text (shown_numbers d) (values_of d (state_of now))
    → new ≡ start ++ slot_texts d half (map state_of (take (suc k) ends))
slot_first first d half ends k now zeroth at start old new so_far added =
    let text = first_text (shown_numbers d) (values_of d (state_of now)) in
    let none : slot_texts d half (map state_of (take k ends)) ≡ [] = ap (λ (n : ℕ). slot_texts d half (map state_of (take n ends))) zeroth in
    let one : take (suc k) ends ≡ now ∷ [] = taken ends k now at ∙ ap (λ (n : ℕ). take n ends ++ now ∷ []) zeroth in
    let whole : slot_texts d half (map state_of (take (suc k) ends)) ≡ text = ap (λ (xs : List (List Bit4)). slot_texts d half (map state_of xs)) one ∙ first d half (state_of now) in
    added
    ∙ ap (λ (t : List ℕ). t ++ text) so_far
    ∙ append_assoc start (slot_texts d half (map state_of (take k ends))) text
    ∙ ap (λ (t : List ℕ). start ++ (t ++ text)) none
    ∙ ap (λ (t : List ℕ). start ++ t) (sym whole)

-- a later one
pub slot_next : NextSlot → (d : Design) (half : ℕ) (ends : List (List Bit4)) (k m : ℕ) (before now : List Bit4) → k ≡ suc m → slice_get ends m ≡ Some before → slice_get ends k ≡ Some now
    → (start old new : List ℕ) → old ≡ start ++ slot_texts d half (map state_of (take k ends))
    → new ≡ old ++ slot_text (shown_numbers d) (k * half) (values_of d (state_of before)) (values_of d (state_of now))
    → new ≡ start ++ slot_texts d half (map state_of (take (suc k) ends))
slot_next next d half ends k m before now is at_before at_now start old new so_far added =
    let first : List State = map state_of (take m ends) in
    let inside = slice_get_within ends m before at_before in
    let count : length first ≡ m = length-map (take m ends) state_of ∙ length-take-le m ends (omega arith) in
    let one : take k ends ≡ take m ends ++ before ∷ [] = ap (λ (n : ℕ). take n ends) is ∙ taken ends m before at_before in
    let ones : map state_of (take k ends) ≡ first ++ state_of before ∷ [] = ap (map state_of) one ∙ map-append state_of (take m ends) (before ∷ []) in
    let twos : map state_of (take (suc k) ends) ≡ first ++ state_of before ∷ state_of now ∷ [] =
    ap (map state_of) (taken ends k now at_now)
    ∙ map-append state_of (take k ends) (now ∷ [])
    ∙ ap (λ (xs : List State). xs ++ state_of now ∷ []) ones
    ∙ append_assoc first (state_of before ∷ []) (state_of now ∷ []) in
    let text : ℕ → List ℕ = λ (n : ℕ). slot_text (shown_numbers d) (n * half) (values_of d (state_of before)) (values_of d (state_of now)) in
    let time : k ≡ suc (length first) = is ∙ ap suc (sym count) in
    added
    ∙ ap₂ (λ (t u : List ℕ). t ++ u) so_far (ap text time)
    ∙ append_assoc start (slot_texts d half (map state_of (take k ends))) (text (suc (length first)))
    ∙ ap (λ (xs : List State). start ++ (slot_texts d half xs ++ text (suc (length first)))) ones
    ∙ ap (λ (t : List ℕ). start ++ t) (sym (ap (slot_texts d half) twos ∙ next d half first (state_of before) (state_of now)))

-- ---- the whole

pub whole_text : TextIsParts → (share : Bool) (d : Design) (half : ℕ) (codes : List ℕ) (ends : List (List Bit4)) (new : List ℕ) → AreCodes share d codes
    → new ≡ (head_text (coded_by (code_at codes) d) ++ slot_texts (led_by (code_at codes) d) half (map state_of ends)) ++ time_line (length ends * half)
    → new ≡ text_of share d half (map state_of ends)
whole_text parts share d half codes ends new are is =
    let count : length ends ≡ length (map state_of ends) = sym (length-map ends state_of) in
    is
    ∙ ap (λ (n : ℕ). (head_text (coded_by (code_at codes) d) ++ slot_texts (led_by (code_at codes) d) half (map state_of ends)) ++ time_line (n * half)) count
    ∙ ap₂ (λ (c l : Design). (head_text c ++ slot_texts l half (map state_of ends)) ++ last_text (length (map state_of ends) * half)) are.coded_is are.led_is
    ∙ sym (parts share d half (map state_of ends))
