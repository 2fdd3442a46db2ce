use Rattle.std.proofs.Common.{◌≡◌, ◌∙◌, ◌<◌, ◌≤◌, ◌==◌, ℕ, Bool, true, false, List, Option, [], ◌∷◌, Some, map, length, slice_index, sym, ap, ap₂, subst, refl, arith, true≢false, eqb-true}
use Rattle.std.specs.List.{All, range_with_len}
use Rattle.vs_four.specs.declared.Range.{Range}
use Rattle.vs_four.specs.Selects.{Part, places}
use Rattle.vs_design.specs.Expressions.{Signal, Expression, sign, addresses, signal_length}
use Rattle.vs_flat.specs.DesignOf.{arena_signals, arena_trees}
use Rattle.vs_flat.specs.Trees.{signal_at, signal_of, tree_at}
use Rattle.vs_kern_select.specs.declared.costs.Kernel.TheVariants as S
use Rattle.vs_code.specs.declared.kernels.AnyKernel.{AnyKernel}
use Rattle.vs_code.specs.declared.kernels.AnyKernel.TheVariants as K
use Rattle.vs_values.specs.Coded.{Coding, with_call}
use Rattle.vs_values.specs.Constants.{AreConstant, constant_bits}
use Rattle.vs_values.specs.Environments.{placed}
use Rattle.vs_values.specs.Made.{IsCallable}
use Rattle.vs_values.specs.Templates.{Templated}
use Rattle.vs_lower.specs.declared.parts.WordPart.{WordPart}
use Rattle.vs_lower.specs.Parts.{IsPartReady, column_bits, those_there}
use Rattle.vs_lower.proofs.Partwise.{fit_word_part}
use Rattle.vs_lower.proofs.Reaching.{within_is}
use Rattle.vs_lower.proofs.WordWrites.{IsColumned, word_writer_kernel, stored_inside, few_stored, columns_callable, columns_add, no_columns_add, both_ok}
use Rattle.vs_lower.proofs.parts.write_columns.Goals as goal

abbrev signal_of_part : Templated → WordPart → Signal
signal_of_part t p = signal_at (arena_signals t.arena) p.signal

abbrev address_of_part : Templated → WordPart → Expression
address_of_part t p = tree_at (arena_trees t.arena) p.address

abbrev index_of_part : Templated → WordPart → Expression
index_of_part t p = tree_at (arena_trees t.arena) p.index

abbrev select_of_part : WordPart → ℕ → Part
select_of_part p n = record { range = p.selection.range; up = p.selection.up; width = n }

columned : (t : Templated) (env : List ℕ) (code : Coding) (p : WordPart) (ta ti tv : List ℕ) → IsPartReady t env code p ta ti tv → (AreConstant ta → ⊥) → AreConstant ti
    → IsColumned env code (signal_of_part t p) (address_of_part t p) (select_of_part p (length tv)) (index_of_part t p) ta ti tv
columned t env code p ta ti tv r v f = record {
  fit = r.fit;
  room = r.room;
  inside = within_is (length env) (signal_of_part t p) r.within;
  address_below = r.address_below;
  value_below = r.value_below;
  long = refl;
  variable = v;
  fixed = f;
  addressed = r.addressed;
  indexed = r.indexed;
}

-- the kernel, by the memory's addresses and the address's sign
kernel_is : (signal : Signal) (address : Expression) (range : Range) (s : Bool) → range ≡ addresses signal → s ≡ sign address → word_writer_kernel signal (sign address) ≡ K.Select (S.WriteWord (record { range = range; signed = s }))
kernel_is signal address range s e f =
    let made : Range → Bool → AnyKernel = λ r g. K.Select (S.WriteWord (record { range = r; signed = g })) in
    sym (ap (λ (r : Range). made r s) e ∙ ap (λ (g : Bool). made (addresses signal) g) f)

some_left : (xs : List ℕ) (q : Bool) → q ≡ false → q ≡ (length xs == 0) → 1 ≤ length xs
some_left [] q h e = absurd (true≢false (sym e ∙ h))
some_left (x ∷ xs) q h e = omega arith

none_left : (xs : List ℕ) (q : Bool) → q ≡ true → q ≡ (length xs == 0) → xs ≡ []
none_left [] q h e = refl
none_left (x ∷ xs) q h e = let none : length (x ∷ xs) ≡ 0 = eqb-true (length (x ∷ xs)) 0 (sym e ∙ h) in absurd (omega (arith, none))

pub part_places-requires-clause-some_index : goal.part_places-requires-clause-some_index
part_places-requires-clause-some_index c =
    let t = c.args.templates.now in
    let f = fit_word_part (signal_of_part t c.args.part) (address_of_part t c.args.part) (select_of_part c.args.part (length c.args.value.now)) (index_of_part t c.args.part) c.requires.ready.fit in
    omega (arith, f.index_some, c.requires.ready.indexed.long)

pub part_places-requires-clause-index : goal.part_places-requires-clause-index
part_places-requires-clause-index c =
    let t = c.args.templates.now in
    let f = fit_word_part (signal_of_part t c.args.part) (address_of_part t c.args.part) (select_of_part c.args.part (length c.args.value.now)) (index_of_part t c.args.part) c.requires.ready.fit in
    omega (arith, f.index_most, c.requires.ready.indexed.long)

pub columns-requires-clause-inside : goal.columns-requires-clause-inside
columns-requires-clause-inside c = λ k n e.
    let t = c.args.templates.now in
    let f = fit_word_part (signal_of_part t c.args.part) (address_of_part t c.args.part) (select_of_part c.args.part (length c.args.value.now)) (index_of_part t c.args.part) c.requires.ready.fit in
    omega (arith, f.range, c.in_ok-places.ensures.inside k n e)

-- the places, the slots and the bits
places_are : (t : Templated) (p : WordPart) (ti tv : List ℕ) (ps : List (Option ℕ)) → ps ≡ places (select_of_part p (length tv)) p.selection.signed (constant_bits ti) → p.selection.signed ≡ sign (index_of_part t p)
    → ps ≡ places (select_of_part p (length tv)) (sign (index_of_part t p)) (constant_bits ti)
places_are t p ti tv ps e h = e ∙ ap (λ (b : Bool). places (select_of_part p (length tv)) b (constant_bits ti)) h

pub call_on-requires-clause-inside : goal.call_on-requires-clause-inside
call_on-requires-clause-inside c =
    let t = c.args.templates.now in
    let p = c.args.part in
    let env = c.args.env.now in
    let o = columned t env c.args.code.now p c.args.address.now c.args.index.now c.args.value.now c.requires.ready c.requires.variable c.requires.fixed in
    let ps = places_are t p c.args.index.now c.args.value.now c.in_ok-places.places c.in_ok-places.ensures.value c.requires.ready.sign_is in
    subst (All (λ b. b < length env)) (sym (c.as_slice.ensures.value ∙ c.in_ok-bits.ensures ∙ ap (column_bits (signal_of_part t p)) ps))
    (stored_inside env c.args.code.now (signal_of_part t p) (address_of_part t p) (select_of_part p (length c.args.value.now)) (index_of_part t p) c.args.address.now c.args.index.now c.args.value.now o)

pub call_on-requires-clause-few : goal.call_on-requires-clause-few
call_on-requires-clause-few c =
    let t = c.args.templates.now in
    let p = c.args.part in
    let env = c.args.env.now in
    let s = signal_of_part t p in
    let o = columned t env c.args.code.now p c.args.address.now c.args.index.now c.args.value.now c.requires.ready c.requires.variable c.requires.fixed in
    let ps = places_are t p c.args.index.now c.args.value.now c.in_ok-places.places c.in_ok-places.ensures.value c.requires.ready.sign_is in
    let is : s ≡ signal_of p.signal c.declared.result.now = c.declared.ensures.is in
    let few = few_stored env c.args.code.now s (address_of_part t p) (select_of_part p (length c.args.value.now)) (index_of_part t p) c.args.address.now c.args.index.now c.args.value.now o in
    omega (arith, few, ap length (c.as_slice.ensures.value ∙ c.in_ok-bits.ensures ∙ ap (column_bits s) ps), ap signal_length is, c.declared.ensures.few)

pub call_on-requires-clause-call : goal.call_on-requires-clause-call
call_on-requires-clause-call c =
    let t = c.args.templates.now in
    let p = c.args.part in
    let env = c.args.env.now in
    let code = c.args.code.now in
    let ta = c.args.address.now in
    let s = signal_of_part t p in
    let address = address_of_part t p in
    let part = select_of_part p (length c.args.value.now) in
    let index = index_of_part t p in
    let o = columned t env code p ta c.args.index.now c.args.value.now c.requires.ready c.requires.variable c.requires.fixed in
    let ps = places_are t p c.args.index.now c.args.value.now c.in_ok-places.places c.in_ok-places.ensures.value c.requires.ready.sign_is in
    let bits = c.as_slice.ensures.value ∙ c.in_ok-bits.ensures ∙ ap (column_bits s) ps in
    let with = c.as_slice-2.ensures.value ∙ c.in_ok-with.ensures ∙ ap (λ (x : List (Option ℕ)). those_there x c.args.value.now) ps in
    let some : 1 ≤ length (those_there (places part (sign index) (constant_bits c.args.index.now)) c.args.value.now) =
    omega (arith, some_left c.in_ok-with.with.items c.is_empty.result c.if-is_empty.false (c.is_empty.ensures ∙ ap (λ (n : ℕ). n == 0) c.in_ok-with.with.ok.0), ap length (c.in_ok-with.ensures ∙ ap (λ (x : List (Option ℕ)). those_there x c.args.value.now) ps)) in
    subst (λ (k : AnyKernel). IsCallable code k (map (slice_index env) c.as_slice.result.now ∷ ta ∷ c.as_slice-2.result.now ∷ []) (length c.as_slice.result.now)) (kernel_is s address c.memory_addresses-range.result c.signed-signed.result c.memory_addresses-range.ensures c.signed-signed.ensures)
    (subst (λ (xs : List ℕ). IsCallable code (word_writer_kernel s (sign address)) (map (slice_index env) c.as_slice.result.now ∷ ta ∷ xs ∷ []) (length c.as_slice.result.now)) (sym with)
    (subst (λ (xs : List ℕ). IsCallable code (word_writer_kernel s (sign address)) (map (slice_index env) xs ∷ ta ∷ those_there (places part (sign index) (constant_bits c.args.index.now)) c.args.value.now ∷ []) (length xs)) (sym bits)
    (columns_callable env code s address part index ta c.args.index.now c.args.value.now o some)))

pub returns-then-is_empty : goal.returns-then-is_empty
returns-then-is_empty c =
    let t = c.args.templates.now in
    let p = c.args.part in
    let o = columned t c.args.env.now c.args.code.now p c.args.address.now c.args.index.now c.args.value.now c.requires.ready c.requires.variable c.requires.fixed in
    let ps = places_are t p c.args.index.now c.args.value.now c.in_ok-places.places c.in_ok-places.ensures.value c.requires.ready.sign_is in
    no_columns_add c.args.env.now c.args.code.now (signal_of_part t p) (address_of_part t p) (select_of_part p (length c.args.value.now)) (index_of_part t p) c.args.address.now c.args.index.now c.args.value.now o c.value_law.ensures.length c.word_part_law.ensures.words c.word_part_law.ensures.none
    (sym (c.in_ok-with.ensures ∙ ap (λ (x : List (Option ℕ)). those_there x c.args.value.now) ps) ∙ none_left c.in_ok-with.with.items c.is_empty.result c.if-is_empty.true (c.is_empty.ensures ∙ ap (λ (n : ℕ). n == 0) c.in_ok-with.with.ok.0))

pub returns : goal.returns
returns c =
    let t = c.args.templates.now in
    let p = c.args.part in
    let env = c.args.env.now in
    let code = c.args.code.now in
    let ta = c.args.address.now in
    let ti = c.args.index.now in
    let tv = c.args.value.now in
    let s = signal_of_part t p in
    let address = address_of_part t p in
    let part = select_of_part p (length tv) in
    let index = index_of_part t p in
    let o = columned t env code p ta ti tv c.requires.ready c.requires.variable c.requires.fixed in
    let ps = places_are t p ti tv c.in_ok-places.places c.in_ok-places.ensures.value c.requires.ready.sign_is in
    let bits = c.as_slice.ensures.value ∙ c.in_ok-bits.ensures ∙ ap (column_bits s) ps in
    let with = c.as_slice-2.ensures.value ∙ c.in_ok-with.ensures ∙ ap (λ (x : List (Option ℕ)). those_there x tv) ps in
    let some : 1 ≤ length (those_there (places part (sign index) (constant_bits ti)) tv) =
    omega (arith, some_left c.in_ok-with.with.items c.is_empty.result c.if-is_empty.false (c.is_empty.ensures ∙ ap (λ (n : ℕ). n == 0) c.in_ok-with.with.ok.0), ap length (c.in_ok-with.ensures ∙ ap (λ (x : List (Option ℕ)). those_there x tv) ps)) in
    let made : AnyKernel → List ℕ → List ℕ → Coding = λ k bs vs. with_call code k (map (slice_index env) bs ∷ ta ∷ vs ∷ []) (length bs) in
    both_ok c.call_on.result c.call_on.ensures.code c.call_on.ensures.env
    (λ call is. columns_add env code s address part index ta ti tv o c.value_law.ensures.length c.word_part_law.ensures.words c.word_part_law.ensures.none c.call_on.new.env c.call_on.new.code some
    (call
    ∙ ap (λ (k : AnyKernel). made k c.as_slice.result.now c.as_slice-2.result.now) (sym (kernel_is s address c.memory_addresses-range.result c.signed-signed.result c.memory_addresses-range.ensures c.signed-signed.ensures))
    ∙ ap₂ (made (word_writer_kernel s (sign address))) bits with)
    (is ∙ ap (λ (bs : List ℕ). placed env (map Some bs) (range_with_len code.next (length bs))) bits))
