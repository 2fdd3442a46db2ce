-- Parts of words whose address and index were lowered.
use Rattle.std.proofs.Common.{◌≡◌, ℕ, ◌+◌, ◌*◌, ◌<◌, ◌≤◌, ◌^◌, Bool, true, false, ◌&&◌, nat_le, nat_lt, if◌then◌else◌, List, [], ◌∷◌, ◌++◌, zero, suc, map, length, Option, None, Some, sym, ap, ◌∙◌, subst, refl, arith, inl, inr, true≢false, eqb-true, append_assoc}
use Rattle.std.specs.Prelude.{◌==◌}
use Rattle.std.specs.List.{All, list_all, range_with_len}
use Rattle.std.proofs.lemmas.List.FromFn.{length-range_with_len}
use Rattle.std.proofs.lemmas.List.Elements.{All-nil, All-cons, All-weaker, All-head}
use Rattle.vs_four.specs.declared.Range.{Range}
use Rattle.vs_four.specs.Logic.{BitList}
use Rattle.vs_four.specs.Selects.{Part, range_length, at_place, places, select}
use Rattle.vs_net.specs.Network as N
use Rattle.vs_design.specs.Expressions.{Signal, range_or_one, word_length, OfSignal, Expression, Word, WordPart, width, sign, is_constant}
use Rattle.vs_design.specs.Designs as D
use Rattle.vs_design.specs.Elaborated.{is_declared, is_lawful_range}
use Rattle.vs_design.specs.Sizes.{weight}
use Rattle.vs_design.specs.Fits.{fits, fits_64, fits_word_part, divides_constants, is_fit}
use Rattle.vs_design.specs.Values.{value, bits_of_signal, read, constant_value, word_places, word_part_places, select_word}
use Rattle.vs_design.specs.Footprints.{contains, read_bits, addressed_bits, word_part_bits}
use Rattle.vs_design.specs.TreeLaws.{ConstantValue}
use Rattle.vs_design.specs.Within.{signal_within, names_within}
use Rattle.vs_design.proofs.WordParts.{twice, part_constant, part_variable, length_select_word}
use Rattle.vs_flat.specs.Arena.{Arena}
use Rattle.vs_flat.specs.DesignOf.{arena_signals, design_of}
use Rattle.vs_flat.specs.Laws.{HasCounts}
use Rattle.vs_flat.specs.Lawful.{IsLawful}
use Rattle.vs_flat.specs.Trees.{signal_at}
use Rattle.vs_code.specs.Kernels.{operator_of, takes}
use Rattle.vs_code.specs.Calls.{call_cost}
use Rattle.vs_values.specs.Added.{AreValues, fresh_call}
use Rattle.vs_values.specs.Constants.{extended_slots, selected_slots, word_slots, constant_bits, AreConstant}
use Rattle.vs_values.specs.Coded.{Coding}
use Rattle.vs_values.specs.Made.{IsCallable, source_slots, select_kernel, IsWord, IsSelect}
use Rattle.vs_values.specs.Ready.{IsReady}
use Rattle.vs_values.specs.Valued.{IsSource, IsValue, AddsValue}
use Rattle.vs_values.proofs.Adding.{env_more, values_more, values_as, values_call, is_fresh_call}
use Rattle.vs_values.proofs.Moved.{extended_all, length-extended}
use Rattle.vs_values.proofs.Folding.{bits_are, constant_weight, selected_are}
use Rattle.vs_values.proofs.Values.{both_true, one_more, in_left, wider, extended_values, fresh_sources}
use Rattle.vs_values.proofs.Selecting.{select_takes, range_is_some, pays}
use Rattle.vs_values.proofs.Binary.{same_length}
use Rattle.vs_values.proofs.Concatenating.{no_more}
use Rattle.vs_values.proofs.Unary.{not_true}
use Rattle.vs_values.proofs.Readying.{fits_64_is, fits_length, stores_of, two_added}
use Rattle.vs_values.proofs.Taking.{IsSelectable, places_all, picks, index_is, selected_length}
use Rattle.vs_values.proofs.Wording.{Address, length_word, returns_word}

both : (a b : Bool) → a ≡ true → b ≡ true → (a && b) ≡ true
both true b h k = k
both false b h k = cc

-- ---- a word of a lawful design has 1 to 64 bits

at_least : (m n : ℕ) → m ≤ n → nat_le m n ≡ true
at_least m n h = grind arith

lawful_bits : (r : Option Range) → is_lawful_range r ≡ true → fits_64 (range_or_one r) ≡ true
lawful_bits None h = refl
lawful_bits (Some r) h = both (nat_le 1 (range_length r)) (nat_le (range_length r) 64) (at_least 1 (range_length r) (range_is_some r)) (both_true (nat_le r.left 65535 && nat_le r.right 65535) (nat_le (range_length r) 64) h).1

declared_range : (d : D.Design) (ss : List Signal) (n : ℕ) → list_all (is_declared d) ss ≡ true → n < length ss → is_lawful_range (signal_at ss n).range ≡ true
declared_range d [] n h inside = absurd (omega arith)
declared_range d (s ∷ ss) zero h inside =
    (both_true (nat_lt s.scope (length d.scopes)) (is_lawful_range s.range) (both_true (nat_lt s.scope (length d.scopes) && is_lawful_range s.range) _ (both_true (is_declared d s) (list_all (is_declared d) ss) h).0).0).1
declared_range d (s ∷ ss) (suc n) h inside = declared_range d ss n (both_true (is_declared d s) (list_all (is_declared d) ss) h).1 (omega arith)

pub word_fits : ((a : Arena) → HasCounts a) → (a : Arena) (n : ℕ) → IsLawful a → n < length a.signals → fits_64 (word_length (signal_at (arena_signals a) n)) ≡ true
word_fits counts a n lawful h = lawful_bits (signal_at (arena_signals a) n).range (declared_range (design_of a) (arena_signals a) n lawful.design.declared (omega (arith, h, (counts a).signals)))

-- ---- what a part of a word needs

record IsFitPart (signal : Signal) (address : Expression) (part : Part) (index : Expression) : Type 0 where
  pub fit_address : is_fit address ≡ true
  pub fit_index : is_fit index ≡ true
  pub fits_address : fits address ≡ true
  pub divides_address : divides_constants address ≡ true
  pub long : (1 ≤ width index) × (width index ≤ 64)
  pub part_long : (1 ≤ part.width) × (part.width ≤ 64)
  pub range : range_length part.range ≡ word_length signal

fit_part : (signal : Signal) (address : Expression) (part : Part) (index : Expression) → is_fit (WordPart signal address part index) ≡ true → IsFitPart signal address part index
fit_part signal address part index h =
    let x = both_true (fits (WordPart signal address part index)) (divides_constants (WordPart signal address part index)) h in
    let y = both_true (fits_word_part signal part && fits address) (fits index) x.0 in
    let z = both_true (fits_word_part signal part) (fits address) y.0 in
    let p = both_true (fits_64 part.width) (range_length part.range == word_length signal) z.0 in
    let d = both_true (divides_constants address) (divides_constants index) x.1 in
    record {
      fit_address = both (fits address) (divides_constants address) z.1 d.0;
      fit_index = both (fits index) (divides_constants index) y.1 d.1;
      fits_address = z.1;
      divides_address = d.0;
      long = fits_length index y.1;
      part_long = fits_64_is part.width p.0;
      range = eqb-true (range_length part.range) (word_length signal) p.1;
    }

module _ (signal : Signal) (address : Expression) (part : Part) (index : Expression) where
  -- the weight of the word, and that of the select
  weight_of_part : (w : ℕ) → is_constant index ≡ false → weight (WordPart signal address part index) w ≡ weight (Word signal address) (word_length signal) + (part.width * (range_length part.range * width index) + weight index (width index))
  weight_of_part w h = ap (λ (b : Bool). weight (Word signal address) (word_length signal) + (if b then 0 else (part.width * (range_length part.range * width index) + weight index (width index)))) h

  both_weigh : (w : ℕ) → weight (Word signal address) (word_length signal) + weight index (width index) ≤ weight (WordPart signal address part index) w
  both_weigh w = of (is_constant index) refl
    where
      total : (b : Bool) → is_constant index ≡ b
          → weight (WordPart signal address part index) w ≡ weight (Word signal address) (word_length signal) + (if b then 0 else (part.width * (range_length part.range * width index) + weight index (width index)))
      total b h = ap (λ (c : Bool). weight (Word signal address) (word_length signal) + (if c then 0 else (part.width * (range_length part.range * width index) + weight index (width index)))) h

      of : (b : Bool) → is_constant index ≡ b → weight (Word signal address) (word_length signal) + weight index (width index) ≤ weight (WordPart signal address part index) w
      of true h = omega (arith, total true h, constant_weight index (width index) h)
      of false h = omega (arith, total false h)

  -- the word by itself
  pub ready_word : (env : List ℕ) (code : Coding) (w : ℕ) → fits_64 (word_length signal) ≡ true → IsReady env code (WordPart signal address part index) w → IsReady env code (Word signal address) (word_length signal)
  ready_word env code w h r =
      let f = fit_part signal address part index r.fit in
      let weighs = both_weigh w in
      record {
        is_env = r.is_env;
        has_bits = (both_true (signal_within (length env) signal && names_within (length env) address) (names_within (length env) index) r.has_bits).0;
        fit = both (fits_64 (word_length signal) && fits address) (divides_constants address) (both (fits_64 (word_length signal)) (fits address) h f.fits_address) f.divides_address;
        wide = omega arith;
        at_most_64 = (fits_64_is (word_length signal) h).1;
        light = omega (arith, r.light, weighs);
        slots = omega (arith, r.slots, weighs);
        few = omega (arith, r.few, weighs);
      }

  -- what the code knows of the word
  pub record Worded (env : List ℕ) (code code1 code2 : Coding) (w : ℕ) (ta tw : List ℕ) : Type 0 where
    pub ready : IsReady env code (WordPart signal address part index) w
    pub own : Address env code code1 signal address (word_length signal) ta
    pub word : IsWord signal (sign address) (word_length signal) false (source_slots env (OfSignal signal)) ta code1 code2 tw

  module _ (law : ConstantValue) (env : List ℕ) (code code1 code2 : Coding) (w : ℕ) (ta tw : List ℕ) (o : Worded env code code1 code2 w ta tw) where
    pub word_value : AddsValue env code.calls code.next code2.calls code2.next (Word signal address) (word_length signal) false tw
    word_value = returns_word law env code code1 code2 signal address (word_length signal) false ta tw o.own o.word

    pub ready_taken : (k : ℕ) → k ≡ width index → IsReady env code2 index k
    ready_taken k h =
        let r = o.ready in
        let f = fit_part signal address part index r.fit in
        let weighs = both_weigh w in
        let v = word_value in
        let added = v.value.values.added in
        subst (IsReady env code2 index) (sym h) (record {
          is_env = env_more env code.next code2.next added.grown r.is_env;
          has_bits = (both_true (signal_within (length env) signal && names_within (length env) address) (names_within (length env) index) r.has_bits).1;
          fit = f.fit_index;
          wide = omega arith;
          at_most_64 = f.long.1;
          light = omega (arith, r.light, weighs);
          slots = omega (arith, r.slots, weighs, added.paid, added.stores);
          few = omega (arith, r.few, weighs, added.stores, stores_of code.calls v.calls code2.calls v.is);
        })

    module _ (code3 : Coding) (ti : List ℕ) (u : AddsValue env code2.calls code2.next code3.calls code3.next index (width index) (sign index) ti) where
      pub part_selectable : IsSelectable part tw ti
      part_selectable =
          let f = fit_part signal address part index o.ready.fit in
          record { of_range = f.range ∙ sym word_value.value.length; some = f.part_long.0; most = f.part_long.1; some_index = omega (arith, u.value.length, f.long.0); index = omega (arith, u.value.length, f.long.1) }

      range_pays : (k n i : ℕ) → 1 ≤ k → 1 ≤ i → n ≤ k * (n * i)
      range_pays k n i h j = grind arith

      pub part_callable : (AreConstant ti → ⊥) → IsCallable code3 (select_kernel part (sign index)) (tw ∷ ti ∷ []) part.width
      part_callable variable =
          let r = o.ready in
          let f = fit_part signal address part index r.fit in
          let v = word_value in
          let vi = u.value in
          let n = range_length part.range in
          let constant = not_true (is_constant index) (λ h. variable (vi.constant h)) in
          let kernel = select_kernel part (sign index) in
          let call = fresh_call kernel (tw ∷ ti ∷ []) code3.next part.width in
          let long : length tw ≡ n = v.value.length ∙ sym f.range in
          let same : (n ∷ width index ∷ part.width ∷ []) ≡ (length tw ∷ length ti ∷ part.width ∷ []) =
          ap (λ (k : ℕ). k ∷ width index ∷ part.width ∷ []) (sym long) ∙ ap (λ (k : ℕ). length tw ∷ k ∷ part.width ∷ []) (sym vi.length) in
          let total = weight_of_part w constant in
          let pays1 = pays part.width n (width index) (range_is_some part.range) f.long.0 in
          let pays2 = range_pays part.width n (width index) f.part_long.0 f.long.0 in
          let added = v.value.values.added in
          let more = vi.values.added in
          let Q : ℕ → Type 0 = λ k. k < 2 ^ 32 in
          let shorts : All Q (n ∷ width index ∷ part.width ∷ []) = All-cons Q n (width index ∷ part.width ∷ []) (omega (arith, r.slots, total, pays2)) (All-cons Q (width index) (part.width ∷ []) (omega (arith, f.long.1)) (All-cons Q part.width [] (omega (arith, f.part_long.1)) (All-nil Q))) in
          let cost : call_cost call ≡ part.width = length-range_with_len code3.next part.width in
          let here : code3.next + part.width < 2 ^ 32 = omega (arith, r.slots, total, pays1, added.paid, added.stores, more.paid, more.stores) in
          let below : List ℕ → Type 0 = λ to. All (λ slot. slot < code3.next) to in
          record {
            is = is_fresh_call kernel (tw ∷ ti ∷ []) code3.next part.width
                (subst (λ ls. takes kernel ls ≡ true) same (select_takes n n (width index) part.width refl f.long.0 f.part_long.0))
                (subst (All Q) same shorts) (omega arith) (omega (arith, here))
                (All-cons below tw (ti ∷ []) (All-weaker (λ slot. slot < code2.next) (λ slot. slot < code3.next) (λ slot l. omega (arith, more.grown)) tw (All-head (λ to. All (λ slot. slot < code2.next) to) tw [] v.value.values.below)) vi.values.below);
            slots = here;
            few = omega (arith, r.few, total, pays1, cost, added.stores, more.stores, stores_of code.calls v.calls code2.calls v.is, stores_of code2.calls u.calls code3.calls u.is);
          }

      -- the word's and the index's values, together
      abbrev of_word : N.State → BitList
      of_word state = select_word signal (sign address) (read state (bits_of_signal signal)) (value address (width address) (sign address) state)

      word_same : (state : N.State) → value (Word signal address) (word_length signal) false state ≡ of_word state
      word_same state = same_length (of_word state) _ (word_length signal) (length_select_word signal (sign address) (value address (width address) (sign address) state) (read state (bits_of_signal signal)))

      parts_are : AreValues env code.next (word_value.calls ++ u.calls) (tw ∷ ti ∷ []) code3.next (weight (Word signal address) (word_length signal) + weight index (width index))
          (λ state. value (Word signal address) (word_length signal) false state ∷ value index (width index) (sign index) state ∷ [])
      parts_are =
          values_more env code.next word_value.calls (tw ∷ []) code2.next (weight (Word signal address) (word_length signal)) (λ state. value (Word signal address) (word_length signal) false state ∷ [])
          u.calls (ti ∷ []) code3.next (weight index (width index)) (λ state. value index (width index) (sign index) state ∷ []) o.ready.is_env word_value.value.values u.value.values

      -- by a variable index: the kernel of a select
      part_called : (s : Bool) → is_constant index ≡ false → IsCallable code3 (select_kernel part (sign index)) (tw ∷ ti ∷ []) part.width
          → IsValue env code.next (WordPart signal address part index) w s ((word_value.calls ++ u.calls) ++ fresh_call (select_kernel part (sign index)) (tw ∷ ti ∷ []) code3.next part.width ∷ []) (extended_slots w s (range_with_len code3.next part.width)) (code3.next + part.width)
      part_called s constant can =
          let f = fit_part signal address part index o.ready.fit in
          let kernel = select_kernel part (sign index) in
          let call = fresh_call kernel (tw ∷ ti ∷ []) code3.next part.width in
          let x = λ (state : N.State). value (Word signal address) (word_length signal) false state in
          let y = λ (state : N.State). value index (width index) (sign index) state in
          let own = weight (Word signal address) (word_length signal) + weight index (width index) in
          let extra = part.width * (range_length part.range * width index) in
          let cost : call_cost call ≡ part.width = length-range_with_len code3.next part.width in
          let done = values_call env code.next (word_value.calls ++ u.calls) (tw ∷ ti ∷ []) code3.next own (λ state. x state ∷ y state ∷ []) kernel part.width extra parts_are can.is (omega (arith, cost))
          (omega (arith, cost, pays part.width (range_length part.range) (width index) (range_is_some part.range) f.long.0)) in
          record {
            values = extended_values env code.next ((word_value.calls ++ u.calls) ++ call ∷ []) (range_with_len code3.next part.width) (code3.next + part.width) (own + extra) (weight (WordPart signal address part index) w)
                (λ state. operator_of kernel part.width (x state ∷ y state ∷ [])) (λ state. select part (sign index) (of_word state) (y state)) w s o.ready.is_env (omega (arith, weight_of_part w constant))
                (λ state. ap (λ (v : BitList). select part (sign index) v (y state)) (word_same state)) done;
            length = length-extended w s (range_with_len code3.next part.width) (omega (arith, length-range_with_len code3.next part.width, o.ready.wide));
            constant = λ h. absurd (true≢false (sym h));
            sources = extended_all (IsSource env code.next (read_bits (WordPart signal address part index))) w s (range_with_len code3.next part.width) (inl (omega arith))
                (fresh_sources env code.next code3.next part.width (read_bits (WordPart signal address part index)) (omega (arith, word_value.value.values.added.grown, u.value.values.added.grown)));
          }

      -- by an index in constants' slots: slots of the word
      abbrev more : List ℕ
      more = read_bits (WordPart signal address part index)

      abbrev taken : List ℕ
      taken = selected_slots part (sign index) tw (constant_bits ti)

      -- of a word by a constant address the slots of its bits
      word_fixed : is_constant address ≡ true → tw ≡ word_slots signal (sign address) (source_slots env (OfSignal signal)) (constant_value address)
      word_fixed h = of o.word
        where
          bits : constant_bits ta ≡ constant_value address
          bits = index_is law env code.next address o.own.value.calls ta code1.next o.own.value.value h

          of : IsWord signal (sign address) (word_length signal) false (source_slots env (OfSignal signal)) ta code1 code2 tw → tw ≡ word_slots signal (sign address) (source_slots env (OfSignal signal)) (constant_value address)
          of (inl g) =
              let r = word_slots signal (sign address) (source_slots env (OfSignal signal)) (constant_bits ta) in
              g.1.are ∙ no_more _ (word_length signal) r (length_word signal (sign address) (source_slots env (OfSignal signal)) (constant_bits ta))
              ∙ ap (word_slots signal (sign address) (source_slots env (OfSignal signal))) bits
          of (inr g) = absurd (g.variable (o.own.value.value.constant h))

      from_word : word_part_bits signal address part index ≡ addressed_bits signal address → All (IsSource env code.next more) taken
      from_word e =
          let reads : read_bits (WordPart signal address part index) ≡ (addressed_bits signal address ++ read_bits address) ++ read_bits index =
          ap (λ bs. bs ++ (read_bits address ++ read_bits index)) e ∙ sym (append_assoc (addressed_bits signal address) (read_bits address) (read_bits index))
          in
          places_all (IsSource env code.next more) tw (places part (sign index) (constant_bits ti)) (inl (omega arith))
          (All-weaker (IsSource env code.next (read_bits (Word signal address))) (IsSource env code.next more)
          (λ slot. wider env code.next code.next (read_bits (Word signal address)) more slot (omega arith)
          (λ b k. subst (λ (bs : List ℕ). contains bs b ≡ true) (sym reads) (in_left (addressed_bits signal address ++ read_bits address) (read_bits index) b k))) tw word_value.value.sources)

      from_memory : is_constant address ≡ true → is_constant index ≡ true → All (IsSource env code.next more) taken
      from_memory a i =
          let from = source_slots env (OfSignal signal) in
          let bits = index_is law env code2.next index u.calls ti code3.next u.value i in
          let qs = places part (sign index) (constant_value index) in
          let ps = word_part_places signal (sign address) (constant_value address) part (sign index) (constant_value index) in
          let is : taken ≡ map (at_place 2 from) ps =
          ap (λ (v : BitList). selected_slots part (sign index) tw v) bits ∙ ap (λ (t : List ℕ). map (at_place 2 t) qs) (word_fixed a) ∙ twice 2 from (word_places signal (sign address) (constant_value address)) qs
          in
          let chosen = part_constant signal address part index (both (is_constant address) (is_constant index) a i) in
          subst (All (IsSource env code.next more)) (sym is)
          (picks env code.next signal ps more (λ b k. in_left (word_part_bits signal address part index) (read_bits address ++ read_bits index) b (subst (λ (bs : List ℕ). contains bs b ≡ true) (sym chosen) k)))

      taken_sources : All (IsSource env code.next more) taken
      taken_sources = of (is_constant address) (is_constant index) refl refl
        where
          of : (a i : Bool) → is_constant address ≡ a → is_constant index ≡ i → All (IsSource env code.next more) taken
          of true true a i = from_memory a i
          of true false a i = from_word (part_variable signal address part index (ap (λ b. b && is_constant index) a ∙ i))
          of false i a h = from_word (part_variable signal address part index (ap (λ b. b && is_constant index) a))

      two_lists : (a b x y : BitList) → (a ∷ b ∷ []) ≡ (x ∷ y ∷ []) → (a ≡ x) × (b ≡ y)
      two_lists a b x y h = (cc, cc)

      part_without : (s : Bool) → AreConstant ti → IsValue env code.next (WordPart signal address part index) w s (word_value.calls ++ u.calls) (extended_slots w s taken) code3.next
      part_without s fixed =
          let x = λ (state : N.State). value (Word signal address) (word_length signal) false state in
          let y = λ (state : N.State). value index (width index) (sign index) state in
          let z = λ (state : N.State). select part (sign index) (of_word state) (y state) in
          let own = weight (Word signal address) (word_length signal) + weight index (width index) in
          let e = o.ready.is_env in
          let grown = u.value.values.added.grown in
          let below : All (λ slot. slot < code3.next) taken = places_all (λ slot. slot < code3.next) tw (places part (sign index) (constant_bits ti)) (omega (arith, e.constants, grown, word_value.value.values.added.grown))
          (All-weaker (λ slot. slot < code2.next) (λ slot. slot < code3.next) (λ slot l. omega (arith, grown)) tw (All-head (λ to. All (λ slot. slot < code2.next) to) tw [] word_value.value.values.below)) in
          let moved = values_as env code.next (word_value.calls ++ u.calls) (tw ∷ ti ∷ []) code3.next own (λ state. x state ∷ y state ∷ []) (taken ∷ []) own (λ state. z state ∷ []) e parts_are (omega arith)
          (one_more (λ to. All (λ slot. slot < code3.next) to) taken below)
          (λ slots state constants same.
          let q = two_lists (map slots tw) (map slots ti) (x state) (y state) same in
          ap (λ (v : BitList). v ∷ [])
          (selected_are part (sign index) slots tw (constant_bits ti) constants ∙ ap (λ (v : BitList). select part (sign index) v (constant_bits ti)) (q.0 ∙ word_same state)
          ∙ ap (select part (sign index) (of_word state)) (sym (bits_are slots ti constants fixed) ∙ q.1))) in
          record {
            values = extended_values env code.next (word_value.calls ++ u.calls) taken code3.next own (weight (WordPart signal address part index) w) z z w s e (omega (arith, both_weigh w)) (λ state. refl) moved;
            length = length-extended w s taken (omega (arith, selected_length part (sign index) tw (constant_bits ti), o.ready.wide));
            constant = λ h. absurd (true≢false (sym h));
            sources = extended_all (IsSource env code.next more) w s taken (inl (omega arith)) taken_sources;
          }

      pub returns_part : (code4 : Coding) (s : Bool) (to : List ℕ) → IsSelect part (sign index) w s tw ti code3 code4 to → AddsValue env code.calls code.next code4.calls code4.next (WordPart signal address part index) w s to
      returns_part code4 s to (inl h) =
          subst (λ (x : Coding). AddsValue env code.calls code.next x.calls x.next (WordPart signal address part index) w s to) (sym h.1.same)
          (subst (λ (t : List ℕ). AddsValue env code.calls code.next code3.calls code3.next (WordPart signal address part index) w s t) (sym h.1.are) (record {
            calls = word_value.calls ++ u.calls;
            is = two_added code.calls word_value.calls u.calls code2.calls code3.calls word_value.is u.is;
            value = part_without s h.0;
          }))
      returns_part code4 s to (inr h) =
          let constant = not_true (is_constant index) (λ k. h.variable (u.value.constant k)) in
          let call = fresh_call (select_kernel part (sign index)) (tw ∷ ti ∷ []) code3.next part.width in
          let value = part_called s constant (part_callable h.variable) in
          let both_calls = word_value.calls ++ u.calls in
          record {
            calls = both_calls ++ call ∷ [];
            is = two_added code.calls both_calls (call ∷ []) code3.calls code4.calls (two_added code.calls word_value.calls u.calls code2.calls code3.calls word_value.is u.is) (ap (λ (x : Coding). x.calls) h.call);
            value = subst (λ k. IsValue env code.next (WordPart signal address part index) w s (both_calls ++ call ∷ []) to k) (sym (ap (λ (x : Coding). x.next) h.call))
                (subst (λ t. IsValue env code.next (WordPart signal address part index) w s (both_calls ++ call ∷ []) t (code3.next + part.width)) (sym h.are) value);
          }
