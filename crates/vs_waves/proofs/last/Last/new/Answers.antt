use Rattle.std.proofs.Common.{◌≡◌, ◌<◌, ◌≤◌, ◌+◌, ◌^◌, ℕ, false, true, refl, ◌∙◌, List, [], ◌∷◌, ◌++◌, length, slice_get, Some, sym, ap, subst, arith, rules, Vec}
use Rattle.std.specs.Prelude.{not, vec_capacity}
use Rattle.std.proofs.lemmas.Bool.{eq-eqb, ne_eqb}
use Rattle.std.proofs.lemmas.Option.{slice_get-get_or, slice_get_within}
use Rattle.vs_design.specs.Expressions as E
use Rattle.vs_design.specs.Footprints.{is_memory}
use Rattle.vs_flat.specs.Arena.{signal_length}
use Rattle.vs_flat.specs.DesignOf.{design_of}
use Rattle.vs_flat.specs.Trees.{signal_of, no_signal}
use Rattle.vs_flat.specs.declared.processes.Signal.{Signal}
use Rattle.vs_flat.proofs.BitCounts.{bits_more, bits_within}
use Rattle.vs_vcd.specs.Shared.{code_at, leads}
use Rattle.vs_program.specs.declared.compiled.Span.{Span}
use Rattle.vs_waves.specs.Last.{AreApart}
use Rattle.vs_waves.proofs.Laying.{plain_length}
use Rattle.vs_waves.proofs.LaidOut.{AreLaidOut, laid_none, laid_as, laid_written, laid_shown, laid_memory, all_lengths, all_numbers, all_places}
use Rattle.vs_waves.proofs.last.Last.new.Goals as goal
use Rattle.vs_waves.proofs.last.Last.new.Goals.{then-is_none, else-is_none, then-code-n, else-code-n}

pub length_of-length-requires : goal.length_of-length-requires
length_of-length-requires g c =
    let n : ℕ = c.loop-n.n in
    let s : Signal = c.signal-signal.result.now in
    let long = plain_length (signal_of n s) (c.is_none.ensures ∙ ap not c.if-is_none.true) in
    omega (arith, long, bits_within c.args.flat.now.signals n s c.signal-signal.ensures c.signal_count-signals.ensures.bits)

pub overflow_add-first : goal.overflow_add-first
overflow_add-first g c =
    let n : ℕ = c.loop-n.n in
    let s : Signal = c.signal-signal.result.now in
    let long = plain_length (signal_of n s) (c.is_none.ensures ∙ ap not c.if-is_none.true) in
    omega (arith, long, bits_within c.args.flat.now.signals n s c.signal-signal.ensures c.signal_count-signals.ensures.bits, c.loop-n.invariant.first, c.length_of-length.ensures)

pub loop-n-init : goal.loop-n-init
loop-n-init g c =
    let code = code_at c.args.codes.now in
    let all : List E.Signal = (design_of c.args.flat.now).signals in
    let count : ℕ = c.signal_count-signals.result in
    record {
      first = omega arith;
      laid = subst (λ (ss : List Span). AreLaidOut code all count 0 ss c.in_ok-numbers.numbers.items c.in_ok-places.places.items 0 0) (sym c.in_ok-spans.ensures.items)
          (subst (λ (ns : List ℕ). AreLaidOut code all count 0 [] ns c.in_ok-places.places.items 0 0) (sym c.in_ok-numbers.ensures.items)
          (subst (λ (ps : List ℕ). AreLaidOut code all count 0 [] [] ps 0 0) (sym c.in_ok-places.ensures.items) (laid_none code all count)));
      room = search rules;
      numbers_room = search rules;
      places_room = search rules;
    }

pub loop-n-preserved : goal.loop-n-preserved
loop-n-preserved g c =
    let code = code_at c.args.codes.now in
    let signals : List Signal = c.args.flat.now.signals in
    let all : List E.Signal = (design_of c.args.flat.now).signals in
    let count : ℕ = c.signal_count-signals.result in
    let n : ℕ = c.loop-n.n in
    let s : Signal = c.signal-signal.result.now in
    let inv = c.loop-n.invariant in
    let within : n < length all = omega (arith, slice_get_within signals n s c.signal-signal.ensures, (c.trees_law.ensures.counts c.args.flat.now).signals) in
    let here : slice_get all n ≡ Some (signal_of n s) = slice_get-get_or all n no_signal within ∙ ap Some (c.trees_law.ensures.signals c.args.flat.now n s c.signal-signal.ensures) in
    let few : count < 2 ^ 32 = omega arith in
    elim c.if-is_none.branch [
      | then-is_none w ↦
          let plain : is_memory (signal_of n s) ≡ false = c.is_none.ensures ∙ ap not w.if-is_none.true in
          elim w.if-code-n.branch [
            | then-code-n v ↦
                let size : ℕ = v.length_of-length.result in
                let last : Span = record { first = c.loop-n.first; length = size } in
                let long : size ≡ signal_length s = v.length_of-length.ensures ∙ sym (plain_length (signal_of n s) plain) in
                let leading : leads code (signal_of n s) ≡ true = eq-eqb (code n) n (sym w.code.ensures ∙ v.if-code-n.true) in
                let spans : c.if-is_none.spans.items ≡ c.loop-n.spans.items ++ last ∷ [] = ap (λ (x : Vec Span _). x.items) (w.spans-is ∙ v.spans-is) ∙ v.push_reserved.ensures.items in
                let numbers : c.if-is_none.numbers.items ≡ c.loop-n.numbers.items ++ n ∷ [] = ap (λ (x : Vec ℕ _). x.items) (w.numbers-is ∙ v.numbers-is) ∙ v.push_reserved-then-code-n.ensures.items in
                let places : c.if-is_none.places.items ≡ c.loop-n.places.items ++ c.loop-n.place ∷ [] = ap (λ (x : Vec ℕ _). x.items) (w.places-is ∙ v.places-is) ∙ v.push_reserved-then-code-n-2.ensures.items in
                record {
                  first = omega (arith, bits_more signals n s c.signal-signal.ensures, inv.first, w.first-is, v.first-is, long);
                  laid = laid_written code all count n (n + 1) c.loop-n.spans.items c.if-is_none.spans.items c.loop-n.numbers.items c.if-is_none.numbers.items c.loop-n.places.items c.if-is_none.places.items
                      c.loop-n.first c.loop-n.place c.if-is_none.first c.if-is_none.place size (signal_of n s) inv.laid refl here refl plain leading long c.loop-n-test.true few spans numbers places (w.first-is ∙ v.first-is) w.place-is;
                  room = subst (λ (x : Vec Span _). count ≤ vec_capacity x) (sym (w.spans-is ∙ v.spans-is)) (omega (arith, inv.room, v.push_reserved.ensures.capacity));
                  numbers_room = subst (λ (x : Vec ℕ _). count ≤ vec_capacity x) (sym (w.numbers-is ∙ v.numbers-is)) (omega (arith, inv.numbers_room, v.push_reserved-then-code-n.ensures.capacity));
                  places_room = subst (λ (x : Vec ℕ _). count ≤ vec_capacity x) (sym (w.places-is ∙ v.places-is)) (omega (arith, inv.places_room, v.push_reserved-then-code-n-2.ensures.capacity));
                }
            | else-code-n v ↦
                let leading : leads code (signal_of n s) ≡ false = ne_eqb (code n) n (λ e. v.if-code-n.false (w.code.ensures ∙ e)) in
                let spans = ap (λ (x : Vec Span _). x.items) (w.spans-is ∙ v.spans-is) in
                let numbers = ap (λ (x : Vec ℕ _). x.items) (w.numbers-is ∙ v.numbers-is) in
                let places = ap (λ (x : Vec ℕ _). x.items) (w.places-is ∙ v.places-is) in
                let laid = laid_shown code all count n (n + 1) c.loop-n.spans.items c.loop-n.numbers.items c.loop-n.places.items c.loop-n.first c.loop-n.place c.if-is_none.place (signal_of n s) inv.laid refl here plain leading w.place-is in
                record {
                  first = omega (arith, bits_more signals n s c.signal-signal.ensures, inv.first, w.first-is, v.first-is);
                  laid = laid_as code all count (n + 1) _ _ _ _ _ _ _ _ c.if-is_none.place spans numbers places (w.first-is ∙ v.first-is) laid;
                  room = subst (λ (x : Vec Span _). count ≤ vec_capacity x) (sym (w.spans-is ∙ v.spans-is)) inv.room;
                  numbers_room = subst (λ (x : Vec ℕ _). count ≤ vec_capacity x) (sym (w.numbers-is ∙ v.numbers-is)) inv.numbers_room;
                  places_room = subst (λ (x : Vec ℕ _). count ≤ vec_capacity x) (sym (w.places-is ∙ v.places-is)) inv.places_room;
                }
          ]
      | else-is_none w ↦
          let memory : is_memory (signal_of n s) ≡ true = c.is_none.ensures ∙ ap not w.if-is_none.false in
          let spans = ap (λ (x : Vec Span _). x.items) w.spans-is in
          let numbers = ap (λ (x : Vec ℕ _). x.items) w.numbers-is in
          let places = ap (λ (x : Vec ℕ _). x.items) w.places-is in
          let laid = laid_memory code all count n (n + 1) c.loop-n.spans.items c.loop-n.numbers.items c.loop-n.places.items c.loop-n.first c.loop-n.place (signal_of n s) inv.laid refl here memory in
          record {
            first = omega (arith, bits_more signals n s c.signal-signal.ensures, inv.first, w.first-is);
            laid = subst (λ (k : ℕ). AreLaidOut code all count (n + 1) c.if-is_none.spans.items c.if-is_none.numbers.items c.if-is_none.places.items c.if-is_none.first k) (sym w.place-is)
                (laid_as code all count (n + 1) _ _ _ _ _ _ _ _ c.loop-n.place spans numbers places w.first-is laid);
            room = subst (λ (x : Vec Span _). count ≤ vec_capacity x) (sym w.spans-is) inv.room;
            numbers_room = subst (λ (x : Vec ℕ _). count ≤ vec_capacity x) (sym w.numbers-is) inv.numbers_room;
            places_room = subst (λ (x : Vec ℕ _). count ≤ vec_capacity x) (sym w.places-is) inv.places_room;
          }
    ]

pub invariant_of-result : goal.invariant_of-result
invariant_of-result g c =
    let long : c.loop-n.first ≡ length c.in_ok-planes.planes.items = omega (arith, c.in_ok-planes.ensures.len, c.in_ok-planes.planes.ok.0) in
    record {
      apart = subst (AreApart c.loop-n.spans.items) long c.loop-n.invariant.laid.apart;
      placed = c.loop-n.invariant.laid.placed;
      numbered = record { long = c.loop-n.invariant.laid.long; few = omega (arith, c.loop-n.invariant.laid.count); below = c.loop-n.invariant.laid.below };
    }

pub returns-clause-lengths : goal.returns-clause-lengths
returns-clause-lengths g c =
    all_lengths (code_at c.args.codes.now) (design_of c.args.flat.now) c.signal_count-signals.result c.loop-n.n c.loop-n.spans.items c.loop-n.numbers.items c.loop-n.places.items c.loop-n.first c.loop-n.place c.loop-n.invariant.laid
    (omega (arith, c.signal_count-signals.ensures.count, c.loop-n-test.false, (c.trees_law.ensures.counts c.args.flat.now).signals))

pub returns-clause-numbers : goal.returns-clause-numbers
returns-clause-numbers g c =
    all_numbers (code_at c.args.codes.now) (design_of c.args.flat.now) c.signal_count-signals.result c.loop-n.n c.loop-n.spans.items c.loop-n.numbers.items c.loop-n.places.items c.loop-n.first c.loop-n.place c.loop-n.invariant.laid
    (omega (arith, c.signal_count-signals.ensures.count, c.loop-n-test.false, (c.trees_law.ensures.counts c.args.flat.now).signals))

pub returns-clause-places : goal.returns-clause-places
returns-clause-places g c =
    all_places (code_at c.args.codes.now) (design_of c.args.flat.now) c.signal_count-signals.result c.loop-n.n c.loop-n.spans.items c.loop-n.numbers.items c.loop-n.places.items c.loop-n.first c.loop-n.place c.loop-n.invariant.laid
    (omega (arith, c.signal_count-signals.ensures.count, c.loop-n-test.false, (c.trees_law.ensures.counts c.args.flat.now).signals))
