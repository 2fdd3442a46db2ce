use Rattle.std.proofs.Common.{◌≡◌, ◌<◌, ◌∙◌, ℕ, List, [], ◌∷◌, map, length, slice_index, Some, sym, ap, subst, arith, Result, Ok, Err}
use Rattle.std.specs.List.{range_with_len}
use Rattle.std.proofs.lemmas.List.FromFn.{length-range_with_len}
use Rattle.vs_design.specs.Expressions.{signal_length}
use Rattle.vs_design.specs.Values.{bits_of_signal}
use Rattle.vs_code.specs.declared.kernels.AnyKernel.{AnyKernel}
use Rattle.vs_values.specs.Coded.{Coding, with_call}
use Rattle.vs_values.specs.Environments.{placed}
use Rattle.vs_values.specs.Made.{IsCallable}
use Rattle.vs_values.proofs.Named.{all_run, length_count}
use Rattle.std.specs.List.{All}
use Rattle.vs_lower.specs.Leaves.{named_signal}
use Rattle.vs_lower.proofs.Reaching.{within_is}
use Rattle.std.specs.Prelude.{OnOk}
use Rattle.vs_lower.proofs.writes.call_write.Goals as goal

callable_same : (code : Coding) (k : AnyKernel) (a a' b b' c c' : List ℕ) (w w' : ℕ) → a ≡ a' → b ≡ b' → c ≡ c' → w ≡ w' → IsCallable code k (a ∷ b ∷ c ∷ []) w → IsCallable code k (a' ∷ b' ∷ c' ∷ []) w'
callable_same code k a a' b b' c c' w w' p q r s h =
    subst (λ (x : ℕ). IsCallable code k (a' ∷ b' ∷ c' ∷ []) x) s
    (subst (λ (x : List ℕ). IsCallable code k (a' ∷ b' ∷ x ∷ []) w) r (subst (λ (x : List ℕ). IsCallable code k (a' ∷ x ∷ c ∷ []) w) q (subst (λ (x : List ℕ). IsCallable code k (x ∷ b ∷ c ∷ []) w) p h)))

with_same : (code : Coding) (k : AnyKernel) (a a' b b' c c' : List ℕ) (w w' : ℕ) → a ≡ a' → b ≡ b' → c ≡ c' → w ≡ w' → with_call code k (a' ∷ b' ∷ c' ∷ []) w' ≡ with_call code k (a ∷ b ∷ c ∷ []) w
with_same code k a a' b b' c c' w w' p q r s =
    sym (ap (λ (x : List ℕ). with_call code k (x ∷ b ∷ c ∷ []) w) p ∙ ap (λ (x : List ℕ). with_call code k (a' ∷ x ∷ c ∷ []) w) q ∙ ap (λ (x : List ℕ). with_call code k (a' ∷ b' ∷ x ∷ []) w) r ∙ ap (λ (x : ℕ). with_call code k (a' ∷ b' ∷ c' ∷ []) x) s)

on_ok : {V W : Type 0} {P Q : Type 0} (r : Result V W) → OnOk r P → (P → Q) → OnOk r Q
on_ok (Ok v) h k = k h
on_ok (Err e) h k = h

-- the bits of the signal that is named, and how many they are
pub picked-requires : goal.picked-requires
picked-requires c =
    let s = named_signal c.args.templates.now.arena c.args.signal in
    let P : ℕ → Type 0 = λ b. b < length c.args.env.now in
    subst (All P) (sym (c.as_slice.ensures.value ∙ c.in_ok-bits.ensures)) (all_run s.first (signal_length s) (length c.args.env.now) (within_is (length c.args.env.now) s c.requires.within))

pub bits_of-width-requires : goal.bits_of-width-requires
bits_of-width-requires c = omega (arith, c.declared.ensures.few)

pub written_slots-requires : goal.written_slots-requires
written_slots-requires c =
    let s = named_signal c.args.templates.now.arena c.args.signal in
    let w : signal_length s ≡ c.bits_of-width.result = ap signal_length c.declared.ensures.is ∙ sym c.bits_of-width.ensures in
    let bits = c.as_slice.ensures.value ∙ c.in_ok-bits.ensures in
    record {
      call = callable_same c.args.code.now c.args.kernel (map (slice_index c.args.env.now) (bits_of_signal s)) c.in_ok-under.under.items c.args.index.now c.in_ok-at.at.items c.args.value.now c.in_ok-with.with.items (signal_length s) c.bits_of-width.result
          (sym (c.in_ok-under.ensures ∙ ap (map (slice_index c.args.env.now)) bits)) (sym c.in_ok-at.ensures.items) (sym c.in_ok-with.ensures.items) w c.requires.call;
    }

pub place-requires-clause-inside : goal.place-requires-clause-inside
place-requires-clause-inside c =
    let s = named_signal c.args.templates.now.arena c.args.signal in
    let P : ℕ → Type 0 = λ b. b < length c.args.env.now in
    subst (All P) (sym (c.as_slice-2.ensures.value ∙ c.in_ok-bits.ensures)) (all_run s.first (signal_length s) (length c.args.env.now) (within_is (length c.args.env.now) s c.requires.within))

pub place-requires-clause-alike : goal.place-requires-clause-alike
place-requires-clause-alike c =
    let s = named_signal c.args.templates.now.arena c.args.signal in
    let w : signal_length s ≡ c.bits_of-width.result = ap signal_length c.declared.ensures.is ∙ sym c.bits_of-width.ensures in
    ap length (c.as_slice-2.ensures.value ∙ c.in_ok-bits.ensures) ∙ length_count s.first (signal_length s) ∙ w ∙ sym (ap length (c.as_slice-3.ensures.value ∙ c.in_ok-to.ensures.to) ∙ length-range_with_len c.args.code.now.next c.bits_of-width.result)

pub returns-clause-code : goal.returns-clause-code
returns-clause-code c =
    let s = named_signal c.args.templates.now.arena c.args.signal in
    let w : signal_length s ≡ c.bits_of-width.result = ap signal_length c.declared.ensures.is ∙ sym c.bits_of-width.ensures in
    let bits = c.as_slice.ensures.value ∙ c.in_ok-bits.ensures in
    on_ok c.place.result c.place.ensures
    (λ done. c.in_ok-to.ensures.ok
    ∙ with_same c.args.code.now c.args.kernel (map (slice_index c.args.env.now) (bits_of_signal s)) c.in_ok-under.under.items c.args.index.now c.in_ok-at.at.items c.args.value.now c.in_ok-with.with.items (signal_length s) c.bits_of-width.result
    (sym (c.in_ok-under.ensures ∙ ap (map (slice_index c.args.env.now)) bits)) (sym c.in_ok-at.ensures.items) (sym c.in_ok-with.ensures.items) w)

pub returns-clause-env : goal.returns-clause-env
returns-clause-env c =
    let s = named_signal c.args.templates.now.arena c.args.signal in
    let w : signal_length s ≡ c.bits_of-width.result = ap signal_length c.declared.ensures.is ∙ sym c.bits_of-width.ensures in
    let bits = c.as_slice-2.ensures.value ∙ c.in_ok-bits.ensures in
    let to = c.as_slice-3.ensures.value ∙ c.in_ok-to.ensures.to ∙ ap (range_with_len c.args.code.now.next) (sym w) in
    subst (λ (xs : List ℕ). OnOk c.place.result (c.place.new.env ≡ placed c.args.env.now (map Some xs) (range_with_len c.args.code.now.next (signal_length s)))) bits
    (subst (λ (xs : List ℕ). OnOk c.place.result (c.place.new.env ≡ placed c.args.env.now (map Some c.as_slice-2.result.now) xs)) to c.place.ensures)
