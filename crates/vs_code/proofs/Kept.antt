-- What stays counted in a longer arena, and with one call more.
use Rattle.std.proofs.Common.{◌≡◌, ℕ, ◌+◌, ◌≤◌, ◌^◌, max, List, [], ◌∷◌, ◌++◌, sym, ap, ◌∙◌, subst, arith}
use Rattle.std.proofs.lemmas.List.{map_push}
use Rattle.std.proofs.lemmas.List.Sums.{sum_by_push}
use Rattle.std.proofs.lemmas.List.Elements.{All-push}
use Rattle.std.specs.List.{All}
use Rattle.vs_code.specs.declared.placed.Placed.{Placed}
use Rattle.vs_code.specs.Calls.{Call, IsCall, call_cost, call_slots, count_for, length_of, slots_of}
use Rattle.vs_code.specs.Placed.{IsLonger, IsWithin, call_at, calls_at}
use Rattle.vs_code.specs.Kept.{AreCounted}
use Rattle.vs_code.proofs.Arena.{calls_longer, within_longer}
use Rattle.vs_code.proofs.Counts.{slots_push}

-- in a longer arena the calls are the same
pub same_longer : (old new : List ℕ) (placed : List Placed) → IsLonger old new → All (IsWithin old) placed → calls_at new placed ≡ calls_at old placed
same_longer old new placed longer h = ap (λ (arena : List ℕ). calls_at arena placed) longer.1 ∙ calls_longer old longer.0 placed h

pub counted_longer : (old new : List ℕ) (placed : List Placed) (stores count : ℕ) → IsLonger old new → AreCounted old placed stores count → AreCounted new placed stores count
counted_longer old new placed stores count longer h =
    let same = same_longer old new placed longer h.within in
    record {
      within = subst (λ (arena : List ℕ). All (IsWithin arena) placed) (sym longer.1) (within_longer old longer.0 placed h.within);
      calls = subst (All IsCall) (sym same) h.calls;
      length = h.length ∙ ap length_of (sym same);
      slots = h.slots ∙ ap (λ (calls : List Call). count_for (slots_of calls)) (sym same);
      few_stores = h.few_stores;
      few_slots = h.few_slots;
    }

-- one call more
pub same_push : (old new : List ℕ) (placed more : List Placed) (last : Placed) (call : Call) → IsLonger old new → All (IsWithin old) placed
    → more ≡ placed ++ last ∷ [] → call_at new last ≡ call → calls_at new more ≡ calls_at old placed ++ call ∷ []
same_push old new placed more last call longer h e at =
    ap (calls_at new) e ∙ map_push (call_at new) placed last
    ∙ ap (λ (calls : List Call). calls ++ call_at new last ∷ []) (same_longer old new placed longer h)
    ∙ ap (λ (c : Call). calls_at old placed ++ c ∷ []) at

pub counted_push : (old new : List ℕ) (placed more : List Placed) (last : Placed) (call : Call) (stores stores' count count' : ℕ)
    → IsLonger old new → AreCounted old placed stores count → more ≡ placed ++ last ∷ [] → call_at new last ≡ call → IsWithin new last → IsCall call
    → stores' ≡ stores + call_cost call → stores' ≤ 2 ^ 32 → count' ≡ max count (count_for (call_slots call)) → count' ≤ 2 ^ 32
    → AreCounted new more stores' count'
counted_push old new placed more last call stores stores' count count' longer h e at within is_call s few c few' =
    let same = same_push old new placed more last call longer h.within e at in
    let calls = calls_at old placed in
    let before = counted_longer old new placed stores count longer h in
    record {
      within = subst (All (IsWithin new)) (sym e) (All-push (IsWithin new) placed last before.within within);
      calls = subst (All IsCall) (sym same) (All-push IsCall calls call h.calls is_call);
      length = omega (arith, s, h.length, sum_by_push call_cost calls call, ap length_of same);
      slots = omega (arith, c, h.slots, slots_push calls call, ap (λ (cs : List Call). count_for (slots_of cs)) same);
      few_stores = few;
      few_slots = few';
    }
