-- The write under a bar to a part of a word, by a variable address and a variable index: the word is read, changed and written again, by an address that no word has where the bar holds 1.
use Rattle.std.proofs.Common.{◌≡◌, ◌⊎◌, inl, inr, ℕ, ◌+◌, ◌*◌, ◌<◌, ◌≤◌, ◌^◌, Bool, true, false, if◌then◌else◌, List, [], ◌∷◌, ◌++◌, map, drop, length, slice_index, Option, Some, None, sym, ap, ◌∙◌, subst, refl, arith}
use Rattle.std.specs.List.{All, Contains, range_with_len}
use Rattle.std.proofs.lemmas.List.{length-drop}
use Rattle.std.proofs.lemmas.List.Elements.{All-cons, All-contains, All-nil, All-weaker}
use Rattle.std.proofs.lemmas.List.FromFn.{length-range_with_len}
use Rattle.std.proofs.lemmas.List.Sums.{sum_by-cons}
use Rattle.vs_four.specs.declared.Bit4.{Bit4}
use Rattle.vs_four.specs.declared.Bit4.TheVariants.{X}
use Rattle.vs_four.specs.Logic.{BitList, truth}
use Rattle.vs_four.specs.Selects.{Part, range_length, write_places}
use Rattle.vs_four.specs.Tables.{is_one}
use Rattle.vs_net.specs.Network.{State, write_all}
use Rattle.vs_design.specs.Bodies.{pair_up, target_writes}
use Rattle.vs_design.specs.Expressions.{Signal, Expression, addresses, sign, signal_length, width, word_length}
use Rattle.vs_design.specs.Footprints.{contains}
use Rattle.vs_design.specs.Statements.{WordPartOf}
use Rattle.vs_design.specs.TreeLaws.{PartsOfNone, PartsOfWord, ValueLength}
use Rattle.vs_design.specs.Values.{address_place, bits_of_signal, own_value, spread}
use Rattle.vs_kern_select.specs.declared.costs.Kernel.TheVariants as S
use Rattle.vs_code.specs.declared.kernels.AnyKernel.TheVariants.{Select}
use Rattle.vs_code.specs.Kernels.{takes}
use Rattle.vs_code.specs.Calls as C
use Rattle.vs_code.specs.Calls.{Call, call_cost, length_of}
use Rattle.vs_values.specs.Added.{AreAdded, Holds, IsNew, fresh_call, vectors}
use Rattle.vs_values.specs.Coded.{Coding, with_call}
use Rattle.vs_values.specs.Environments.{placed}
use Rattle.vs_values.specs.Made.{IsCallable}
use Rattle.vs_lower.specs.Done.{index_values}
use Rattle.vs_lower.specs.Unless.{AddsUnlessWrite, IsWrittenUnless, bar_args, barred_address, is_barred, unless_weight, with_bar}
use Rattle.vs_lower.specs.Written.{HasRoom, write_weight}
use Rattle.vs_values.proofs.Adding.{added_call, added_more, added_within, called_parts, env_more, holds_after, is_fresh_call, one_called, vector_stays}
use Rattle.vs_values.proofs.Environments.{placed_length}
use Rattle.vs_values.proofs.Lists.{range_below, range_from}
use Rattle.vs_values.proofs.Readying.{two_added}
use Rattle.vs_values.proofs.Wording.{memory_long}
use Rattle.vs_lower.proofs.Bars.{IsBarReady, bar_added, bar_call, bar_callable, bar_stays, called_value, one_more, one_truth}
use Rattle.vs_lower.proofs.Joining.{picked, picked_are}
use Rattle.vs_lower.proofs.Partwise.{part_takes}
use Rattle.vs_lower.proofs.Placing.{placed_all, placed_from, placed_holds, placed_other, written_as}
use Rattle.vs_lower.proofs.Rejoined.{all_drop}
use Rattle.vs_lower.proofs.WordWrites.{IsVaried, after_change, all_bits, address_varies, bits_inside, change_calls, change_calls_added, change_is, change_stores, changed_values, fit_is, index_places, known_parts, nothing_placed, some_word, total, under_below, under_long, word_changed, word_operator, word_writer_kernel}

-- ---- an address with an x is that of no word

no_place : (signal : Signal) (g : Bool) (b : Bit4) (bs : BitList) → b ≡ X → address_place signal g (b ∷ bs) ≡ None
no_place signal g b bs e = ap (λ (x : Bit4). address_place signal g (x ∷ bs)) e

first_of_one : (x y : Bit4) → (x ∷ []) ≡ (y ∷ []) → x ≡ y
first_of_one x y h = cc

either_one : (q : Bool) (x y : Bit4) → (if q then (x ∷ []) else (y ∷ [])) ≡ (if q then x else y) ∷ []
either_one true x y = refl
either_one false x y = refl

first_rest : (xs : List ℕ) → 1 ≤ length xs → slice_index xs 0 ∷ drop 1 xs ≡ xs
first_rest [] l = absurd (omega (arith, l))
first_rest (x ∷ xs) l = refl

module _ (env : List ℕ) (code : Coding) (signal : Signal) (address : Expression) (part : Part) (index : Expression) (ta ti tv : List ℕ) (o : IsVaried env code signal address part index ta ti tv)
    (bar : ℕ) (bar_below : bar < code.next) (room : HasRoom env code (part.width + write_weight (WordPartOf signal address part index))) where
  abbrev low : ℕ
  low = (code.next + word_length signal) + word_length signal

  abbrev word : List ℕ
  word = range_with_len (code.next + word_length signal) (word_length signal)

  abbrev one : Coding
  one = after_change env code signal address part index ta ti tv o

  abbrev two : Coding
  two = with_bar one (bar ∷ []) 2 (slice_index ta 0)

  abbrev at : List ℕ
  at = barred_address ta low

  abbrev before_calls : List Call
  before_calls = change_calls env code signal address part index ta ti tv o

  abbrev choice_call : Call
  choice_call = bar_call (bar ∷ []) 2 (slice_index ta 0) low

  abbrev store_call : Call
  store_call = fresh_call (word_writer_kernel signal (sign address)) (picked env (bits_of_signal signal) ∷ at ∷ word ∷ []) (low + 1) (signal_length signal)

  some_address : 1 ≤ length ta
  some_address = omega (arith, o.addressed.long, (fit_is env code signal address part index ta ti tv o).address_some)

  some_part : 1 ≤ part.width
  some_part = (fit_is env code signal address part index ta ti tv o).some

  pays : (word_length signal + signal_length signal) + (word_length signal + signal_length signal) ≤ write_weight (WordPartOf signal address part index)
  pays = total env code signal address part index ta ti tv o

  -- ---- the copy of x, or of the first bit of the address

  choice_ready : IsBarReady (bar ∷ []) 2 (slice_index ta 0) low
  choice_ready =
      let first : slice_index ta 0 < code.next = o.address_below 0 0 some_address in
      record {
        taken_below = omega (arith, room.is_env.constants);
        other_below = omega (arith, first);
        below = All-cons (λ slot. slot < low) bar [] (omega (arith, bar_below)) (All-nil (λ slot. slot < low));
        some = omega arith;
        short = omega arith;
      }

  pub choice_callable : IsCallable (after_change env code signal address part index ta ti tv o) (Select S.Branch) (bar_args (bar ∷ []) 2 (slice_index ta 0)) 1
  choice_callable =
      bar_callable (bar ∷ []) 2 (slice_index ta 0) one choice_ready (omega (arith, room.slots, pays, some_part)) (omega (arith, room.few, pays, some_part, change_stores env code signal address part index ta ti tv o))

  choice_added : AreAdded low (choice_call ∷ []) (low + 1) 1
  choice_added = bar_added (bar ∷ []) 2 (slice_index ta 0) low choice_ready (omega (arith, room.slots, pays, some_part))

  -- ---- the write of the word

  at_long : length at ≡ width address
  at_long = omega (arith, length-drop 1 ta, some_address, o.addressed.long)

  more_below : (m n : ℕ) (xs : List ℕ) → m ≤ n → All (λ slot. slot < m) xs → All (λ slot. slot < n) xs
  more_below m n xs l h = All-weaker (λ slot. slot < m) (λ slot. slot < n) (λ slot k. omega (arith, l, k)) xs h

  store_below : All (λ to. All (λ slot. slot < low + 1) to) (picked env (bits_of_signal signal) ∷ at ∷ word ∷ [])
  store_below =
      let n = low + 1 in
      let P : List ℕ → Type 0 = λ to. All (λ slot. slot < n) to in
      All-cons P (picked env (bits_of_signal signal)) (at ∷ word ∷ []) (more_below code.next n (picked env (bits_of_signal signal)) (omega arith) (under_below env code signal address part index ta ti tv o))
      (All-cons P at (word ∷ [])
      (All-cons (λ slot. slot < n) low (drop 1 ta) (omega arith) (all_drop (λ slot. slot < n) 1 ta (more_below code.next n ta (omega arith) o.address_below)))
      (All-cons P word [] (range_below (code.next + word_length signal) (word_length signal) n (omega arith)) (All-nil P)))

  store_cost : call_cost store_call ≡ signal_length signal
  store_cost = length-range_with_len (low + 1) (signal_length signal)

  pub barred_callable : IsCallable (with_bar (after_change env code signal address part index ta ti tv o) (bar ∷ []) 2 (slice_index ta 0)) (word_writer_kernel signal (sign address))
      (picked env (bits_of_signal signal) ∷ barred_address ta ((code.next + word_length signal) + word_length signal) ∷ range_with_len (code.next + word_length signal) (word_length signal) ∷ []) (signal_length signal)
  barred_callable =
      let n = signal_length signal in
      let k = word_length signal in
      let f = fit_is env code signal address part index ta ti tv o in
      let under = picked env (bits_of_signal signal) in
      let long = length-range_with_len (code.next + k) k in
      let same : (n ∷ width address ∷ k ∷ n ∷ []) ≡ (length under ∷ length at ∷ length word ∷ n ∷ []) =
      ap (λ (m : ℕ). m ∷ width address ∷ k ∷ n ∷ []) (sym (under_long env code signal address part index ta ti tv o)) ∙ ap (λ (m : ℕ). length under ∷ m ∷ k ∷ n ∷ []) (sym at_long) ∙ ap (λ (m : ℕ). length under ∷ length at ∷ m ∷ n ∷ []) (sym long) in
      let Q : ℕ → Type 0 = λ m. m < 2 ^ 32 in
      let short : n < 2 ^ 32 = omega (arith, room.slots, pays) in
      let shorts : All Q (n ∷ width address ∷ k ∷ n ∷ []) =
      All-cons Q n (width address ∷ k ∷ n ∷ []) short (All-cons Q (width address) (k ∷ n ∷ []) (omega (arith, f.address_most)) (All-cons Q k (n ∷ []) (omega (arith, room.slots, pays)) (All-cons Q n [] short (All-nil Q)))) in
      let some = some_word env code signal address part index ta ti tv o in
      record {
        is = is_fresh_call (word_writer_kernel signal (sign address)) (under ∷ at ∷ word ∷ []) (low + 1) n
            (subst (λ ls. takes (word_writer_kernel signal (sign address)) ls ≡ true) same (part_takes n (range_length (addresses signal) * k) (width address) k (memory_long signal) f.address_some some))
            (subst (All Q) same shorts) (omega arith) (omega (arith, room.slots, pays, some_part)) store_below;
        slots = omega (arith, room.slots, pays, some_part);
        few = omega (arith, room.few, pays, some_part, store_cost, one_more (bar ∷ []) 2 (slice_index ta 0) one, change_stores env code signal address part index ta ti tv o);
      }

  store_added : AreAdded (low + 1) (store_call ∷ []) ((low + 1) + signal_length signal) (signal_length signal)
  store_added =
      added_call (word_writer_kernel signal (sign address)) (picked env (bits_of_signal signal) ∷ at ∷ word ∷ []) (low + 1) (signal_length signal) (signal_length signal) barred_callable.is store_below (omega (arith, store_cost)) (omega (arith, store_cost))

  module _ (law : ValueLength) (words : PartsOfWord) (none : PartsOfNone) where
    changed_added : AreAdded code.next before_calls low ((word_length signal + signal_length signal) + word_length signal)
    changed_added = change_calls_added env code signal address part index ta ti tv o law words none

    all_calls_added : AreAdded code.next (before_calls ++ choice_call ∷ store_call ∷ []) ((low + 1) + signal_length signal) (((word_length signal + signal_length signal) + word_length signal) + (1 + signal_length signal))
    all_calls_added =
        added_more code.next before_calls low ((word_length signal + signal_length signal) + word_length signal) (choice_call ∷ store_call ∷ []) ((low + 1) + signal_length signal) (1 + signal_length signal) changed_added
        (added_more low (choice_call ∷ []) (low + 1) 1 (store_call ∷ []) ((low + 1) + signal_length signal) (signal_length signal) choice_added store_added)

    -- what a lane has in the new slots
    barred_is : (before after : C.State) (state base : State) → Holds env before base → vectors before ((ta ++ ti) ∷ []) ≡ index_values (WordPartOf signal address part index) state → C.AreCalled (before_calls ++ choice_call ∷ store_call ∷ []) before after
        → (b : ℕ) → write_all base (pair_up (map Some (bits_of_signal signal)) (map after (range_with_len (low + 1) (signal_length signal)))) b
        ≡ (if is_barred bar before then base else write_all base (target_writes (WordPartOf signal address part index) (map before tv) state)) b
    barred_is before after state base h is called b =
        let bits = bits_of_signal signal in
        let g = sign address in
        let p = called_parts before_calls (choice_call ∷ store_call ∷ []) before after called in
        let mid = p.0 in
        let q = called_parts (choice_call ∷ []) (store_call ∷ []) mid after p.2 in
        let last = q.0 in
        let known = known_parts law before state address index ta ti o.addressed.long is in
        let e = o.room.is_env in
        let held = holds_after env before_calls code.next before mid base e changed_added.fresh p.1 h in
        let held_last = holds_after env (choice_call ∷ []) low mid last base (env_more env code.next low (omega arith) e) choice_added.fresh q.1 held in
        let address_is : map mid ta ≡ own_value address state = vector_stays before_calls code.next before mid ta changed_added.fresh p.1 o.address_below ∙ known.0 in
        let vs = map before tv in
        let V = word_changed signal address state base (index_places part index state) vs in
        let word_is : map last word ≡ V =
        vector_stays (choice_call ∷ []) low mid last word choice_added.fresh q.1 (range_below (code.next + word_length signal) (word_length signal) low (omega arith))
        ∙ change_is env code signal address part index ta ti tv o law words none before mid state base h is p.1 in
        let value_is : map after (range_with_len (low + 1) (signal_length signal)) ≡ write_places (map base bits) (spread (length V) (address_place signal g (map last at))) V =
        (one_called store_call last after q.2).value
        ∙ word_operator signal g (length (range_with_len (low + 1) (signal_length signal))) (map last (picked env bits)) (map last at) (map last word)
        ∙ ap (λ (a : BitList). write_places a (spread (length (map last word)) (address_place signal g (map last at))) (map last word)) (picked_are env last base bits (bits_inside env code signal address part index ta ti tv o) held_last)
        ∙ ap (λ (v : BitList). write_places (map base bits) (spread (length v) (address_place signal g (map last at))) v) word_is in
        let bar_is : is_one (truth (map mid (bar ∷ []))) ≡ is_barred bar before = one_truth (mid bar) ∙ bar_stays before_calls code.next before mid bar changed_added.fresh p.1 bar_below in
        let chosen : last low ≡ (if is_barred bar before then mid 2 else mid (slice_index ta 0)) =
        first_of_one (last low) (if is_barred bar before then mid 2 else mid (slice_index ta 0))
        (called_value (bar ∷ []) 2 (slice_index ta 0) low mid last (one_called choice_call mid last q.1)
        ∙ ap (λ (z : Bool). if z then (mid 2 ∷ []) else (mid (slice_index ta 0) ∷ [])) bar_is
        ∙ either_one (is_barred bar before) (mid 2) (mid (slice_index ta 0))) in
        let rest_is : map last (drop 1 ta) ≡ map mid (drop 1 ta) =
        vector_stays (choice_call ∷ []) low mid last (drop 1 ta) choice_added.fresh q.1 (all_drop (λ slot. slot < low) 1 ta (more_below code.next low ta (omega arith) o.address_below)) in
        let E : BitList → Bit4 = λ x. write_all base (pair_up (map Some bits) (write_places (map base bits) (spread (length V) (address_place signal g x)) V)) b in
        ap (λ (x : BitList). write_all base (pair_up (map Some bits) x) b) value_is
        ∙ by_bar mid last (own_value address state) base (write_all base (target_writes (WordPartOf signal address part index) vs state)) b (is_barred bar before) E chosen rest_is held.constants.x address_is
        (λ x gone. ap (λ (place : Option ℕ). write_all base (pair_up (map Some bits) (write_places (map base bits) (spread (length V) place) V)) b) gone
        ∙ ap (λ (a : BitList). write_all base (pair_up (map Some bits) a) b) (nothing_placed (map base bits) (length V) V)
        ∙ written_as bits base base b (λ out. refl))
        (changed_values words none signal address part index state base vs b (fit_is env code signal address part index ta ti tv o).range)
      where
        by_bar : (mid last : C.State) (av : BitList) (us vs : State) (b : ℕ) (z : Bool) (E : BitList → Bit4) → last low ≡ (if z then mid 2 else mid (slice_index ta 0)) → map last (drop 1 ta) ≡ map mid (drop 1 ta) → mid 2 ≡ X → map mid ta ≡ av
            → ((x : BitList) → address_place signal (sign address) x ≡ None → E x ≡ us b) → E av ≡ vs b
            → E (map last at) ≡ (if z then us else vs) b
        by_bar mid last av us vs b true E chosen rest x is gone there = gone (map last at) (no_place signal (sign address) (last low) (map last (drop 1 ta)) (chosen ∙ x))
        by_bar mid last av us vs b false E chosen rest x is gone there =
            ap E (ap (λ (c : Bit4). c ∷ map last (drop 1 ta)) chosen ∙ ap (λ (cs : BitList). mid (slice_index ta 0) ∷ cs) rest ∙ ap (λ (xs : List ℕ). map mid xs) (first_rest ta some_address) ∙ is) ∙ there

    pub varied_adds : (env_after : List ℕ) (after : Coding)
        → after ≡ with_call (with_bar (after_change env code signal address part index ta ti tv o) (bar ∷ []) 2 (slice_index ta 0)) (word_writer_kernel signal (sign address))
        (picked env (bits_of_signal signal) ∷ barred_address ta ((code.next + word_length signal) + word_length signal) ∷ range_with_len (code.next + word_length signal) (word_length signal) ∷ []) (signal_length signal)
        → env_after ≡ placed env (map Some (bits_of_signal signal)) (range_with_len (((code.next + word_length signal) + word_length signal) + 1) (signal_length signal))
        → AddsUnlessWrite env env_after code after (WordPartOf signal address part index) ((ta ++ ti) ∷ []) tv bar
    varied_adds env_after after call is =
        let target = WordPartOf signal address part index in
        let bits = bits_of_signal signal in
        let n = signal_length signal in
        let to = range_with_len (low + 1) n in
        let calls = before_calls ++ choice_call ∷ store_call ∷ [] in
        let next = (low + 1) + n in
        let e = o.room.is_env in
        let weighs : unless_weight target ≡ part.width + write_weight target = omega (arith, sum_by-cons write_weight target []) in
        let added = added_within code.next calls next (((word_length signal + n) + word_length signal) + (1 + n)) (unless_weight target) (omega (arith, weighs, pays, some_part)) all_calls_added in
        let written : IsWrittenUnless env code.next target ((ta ++ ti) ∷ []) tv bar calls (placed env (map Some bits) to) next = record {
          added = added;
          is_env = record {
            constants = omega (arith, e.constants, added.grown);
            below = placed_all (λ slot. slot < next) env (map Some bits) to (range_below (low + 1) n next (omega arith)) (more_below code.next next env added.grown e.below);
          };
          same_length = placed_length env (map Some bits) to;
          kept = λ b h. placed_other env bits to b (ap (λ (bs : List ℕ). contains bs b) (sym (all_bits signal address part index (address_varies env code signal address part index ta ti tv o))) ∙ h);
          from = λ b l. new_from (placed_from env (map Some bits) to b l);
          values = λ before after state base h is called.
              let held = placed_holds env after base (map Some bits) to (holds_after env calls code.next before after base e added.fresh called h) in
              record { constants = held.constants; bits = λ b l. held.bits b l ∙ barred_is before after state base h is called b };
        } in
        record {
          calls = calls;
          is = two_added code.calls before_calls (choice_call ∷ store_call ∷ []) one.calls after.calls (two_added code.calls _ _ _ one.calls refl refl) (two_added one.calls (choice_call ∷ []) (store_call ∷ []) two.calls after.calls refl (ap (λ (x : Coding). x.calls) call));
          written = subst (λ (m : ℕ). IsWrittenUnless env code.next target ((ta ++ ti) ∷ []) tv bar calls env_after m) (sym (ap (λ (x : Coding). x.next) call))
              (subst (λ (x : List ℕ). IsWrittenUnless env code.next target ((ta ++ ti) ∷ []) tv bar calls x next) (sym is) written);
        }
      where
        new_from : {A : Type 0} {B : Type 0} {x : ℕ} → A ⊎ Contains (range_with_len (low + 1) (signal_length signal)) x → A ⊎ (B ⊎ IsNew code.next x)
        new_from (inl h) = inl h
        new_from {x = x} (inr h) = inr (inr (inr (All-contains (λ slot. code.next ≤ slot) (range_with_len (low + 1) (signal_length signal)) x (range_from (low + 1) (signal_length signal) code.next (omega arith)) h)))
