use Rattle.std.proofs.Common.{◌≡◌, ◌∙◌, ◌+◌, ◌*◌, ◌<◌, ◌≤◌, ℕ, Bool, List, [], ◌∷◌, Option, Some, map, length, slice_index, sym, ap, ap₂, subst, refl, arith, true≢false}
use Rattle.std.specs.Prelude.{option_map}
use Rattle.std.specs.List.{All, range_with_len}
use Rattle.vs_four.specs.Selects.{Part, places}
use Rattle.vs_design.specs.Expressions.{Signal, signal_length, word_length, Expression, sign}
use Rattle.vs_design.specs.Values.{address_place, bits_of_signal, count_from}
use Rattle.vs_design.specs.Bodies.{bits_at}
use Rattle.vs_design.specs.Statements.{PartOf}
use Rattle.vs_flat.specs.DesignOf.{arena_signals, arena_trees}
use Rattle.vs_flat.specs.Trees.{signal_at, signal_of, tree_at}
use Rattle.vs_kern_select.specs.declared.costs.Kernel.TheVariants as S
use Rattle.vs_code.specs.declared.kernels.AnyKernel.TheVariants as K
use Rattle.vs_values.specs.Coded.{Coding, with_call}
use Rattle.vs_values.specs.Constants.{AreConstant, constant_bits}
use Rattle.vs_values.specs.Environments.{placed}
use Rattle.vs_values.specs.Made.{IsCallable}
use Rattle.vs_values.specs.Templates.{Templated}
use Rattle.vs_lower.specs.declared.parts.WordPart.{WordPart}
use Rattle.vs_lower.specs.Parts.{IsPartReady}
use Rattle.vs_values.proofs.Named.{all_run, length_count}
use Rattle.vs_values.proofs.Selecting.{selection}
use Rattle.vs_lower.proofs.Partwise.{CanWrite, fit_word_part}
use Rattle.vs_lower.proofs.Reaching.{within_is}
use Rattle.vs_lower.proofs.WordWrites.{word_at, IsAddressed, fixed_in_word, can_in_word, called_in_word, no_word_added, found_word, found_none, on_ok, both_ok}
use Rattle.vs_lower.proofs.parts.write_in_word.Goals as goal

abbrev signal_of_part : Templated → WordPart → Signal
signal_of_part t p = signal_at (arena_signals t.arena) p.signal

abbrev address_of_part : Templated → WordPart → Expression
address_of_part t p = tree_at (arena_trees t.arena) p.address

abbrev index_of_part : Templated → WordPart → Expression
index_of_part t p = tree_at (arena_trees t.arena) p.index

abbrev select_of_part : WordPart → ℕ → Part
select_of_part p n = record { range = p.selection.range; up = p.selection.up; width = n }

-- what is known of the word that the address has
record IsWord (t : Templated) (env : List ℕ) (p : WordPart) (ta tv : List ℕ) (first : ℕ) : Type 0 where
  n : ℕ
  is : first ≡ (signal_of_part t p).first + n * word_length (signal_of_part t p)
  inside : first + word_length (signal_of_part t p) ≤ length env
  addressed : IsAddressed (signal_of_part t p) (address_of_part t p) (select_of_part p (length tv)) ta n

word_of : (t : Templated) (env : List ℕ) (code : Coding) (p : WordPart) (ta ti tv : List ℕ) (g : Bool) (word : Option ℕ) (first : ℕ) → IsPartReady t env code p ta ti tv → AreConstant ta → g ≡ sign (address_of_part t p)
    → word ≡ option_map (λ n. (signal_of_part t p).first + n * word_length (signal_of_part t p)) (address_place (signal_of_part t p) g (constant_bits ta))
    → ((b : ℕ) → word ≡ Some b → b + word_length (signal_of_part t p) ≤ (signal_of_part t p).first + signal_length (signal_of_part t p)) → word ≡ Some first → IsWord t env p ta tv first
word_of t env code p ta ti tv g word first r c h is inside e =
    let s = signal_of_part t p in
    let w = found_word (λ n. s.first + n * word_length s) (address_place s g (constant_bits ta)) first (sym is ∙ e) in
    record {
      n = w.0;
      is = w.2;
      inside = omega (arith, inside first e, within_is (length env) s r.within);
      addressed = record {
        range = (fit_word_part s (address_of_part t p) (select_of_part p (length tv)) (index_of_part t p) r.fit).range;
        fixed = c;
        some = omega (arith, (fit_word_part s (address_of_part t p) (select_of_part p (length tv)) (index_of_part t p) r.fit).address_some, r.addressed.long);
        known = r.addressed;
        place = ap (λ (b : Bool). address_place s b (constant_bits ta)) (sym h) ∙ w.1;
      };
    }

can : (t : Templated) (env : List ℕ) (code : Coding) (p : WordPart) (ta ti tv : List ℕ) (first : ℕ) → IsPartReady t env code p ta ti tv → (w : IsWord t env p ta tv first) → (AreConstant ti → ⊥)
    → CanWrite env code (S.Write (selection (select_of_part p (length tv)) (sign (index_of_part t p)))) (PartOf (word_at (signal_of_part t p) w.n) (select_of_part p (length tv)) (index_of_part t p)) (word_at (signal_of_part t p) w.n) (index_of_part t p) ti tv
can t env code p ta ti tv first r w variable =
    can_in_word env code (signal_of_part t p) (address_of_part t p) (select_of_part p (length tv)) (index_of_part t p) ti tv w.n r.fit r.room (omega (arith, w.is, w.inside)) r.index_below r.value_below refl variable r.indexed

bits_are_word : (t : Templated) (env : List ℕ) (p : WordPart) (ta tv : List ℕ) (first k : ℕ) (bits : List ℕ) → (w : IsWord t env p ta tv first) → k ≡ word_length (signal_of_part t p) → bits ≡ count_from first k → bits ≡ bits_of_signal (word_at (signal_of_part t p) w.n)
bits_are_word t env p ta tv first k bits w h is = is ∙ ap₂ count_from w.is h

pub first_of_word-requires-clause-some : goal.first_of_word-requires-clause-some
first_of_word-requires-clause-some c =
    let t = c.args.templates.now in
    let f = fit_word_part (signal_of_part t c.args.part) (address_of_part t c.args.part) (select_of_part c.args.part (length c.args.value.now)) (index_of_part t c.args.part) c.requires.ready.fit in
    omega (arith, f.address_some, c.requires.ready.addressed.long)

pub first_of_word-requires-clause-most : goal.first_of_word-requires-clause-most
first_of_word-requires-clause-most c =
    let t = c.args.templates.now in
    let f = fit_word_part (signal_of_part t c.args.part) (address_of_part t c.args.part) (select_of_part c.args.part (length c.args.value.now)) (index_of_part t c.args.part) c.requires.ready.fit in
    omega (arith, f.address_most, c.requires.ready.addressed.long)

pub part_places-requires-clause-some_index : goal.part_places-requires-clause-some_index
part_places-requires-clause-some_index c =
    let t = c.args.templates.now in
    let f = fit_word_part (signal_of_part t c.args.part) (address_of_part t c.args.part) (select_of_part c.args.part (length c.args.value.now)) (index_of_part t c.args.part) c.requires.ready.fit in
    omega (arith, f.index_some, c.requires.ready.indexed.long)

pub part_places-requires-clause-index : goal.part_places-requires-clause-index
part_places-requires-clause-index c =
    let t = c.args.templates.now in
    let f = fit_word_part (signal_of_part t c.args.part) (address_of_part t c.args.part) (select_of_part c.args.part (length c.args.value.now)) (index_of_part t c.args.part) c.requires.ready.fit in
    omega (arith, f.index_most, c.requires.ready.indexed.long)

pub place_at-requires-clause-inside : goal.place_at-requires-clause-inside
place_at-requires-clause-inside c = λ k n e.
    let w = word_of c.args.templates.now c.args.env.now c.args.code.now c.args.part c.args.address.now c.args.index.now c.args.value.now c.signed-signed.result c.in_ok-word.word c.in-Some.first c.requires.ready c.requires.fixed c.signed-signed.ensures c.in_ok-word.ensures.value c.in_ok-word.ensures.inside c.in-Some.is in
    omega (arith, w.inside, w.addressed.range, c.in_ok-places-in-Some.ensures.inside k n e)

pub place_at-requires-clause-few : goal.place_at-requires-clause-few
place_at-requires-clause-few c = λ k n e.
    let w = word_of c.args.templates.now c.args.env.now c.args.code.now c.args.part c.args.address.now c.args.index.now c.args.value.now c.signed-signed.result c.in_ok-word.word c.in-Some.first c.requires.ready c.requires.fixed c.signed-signed.ensures c.in_ok-word.ensures.value c.in_ok-word.ensures.inside c.in-Some.is in
    let s = signal_of_part c.args.templates.now c.args.part in
    let is : s ≡ signal_of c.args.part.signal c.declared.result.now = c.declared.ensures.is in
    omega (arith, c.in_ok-word.ensures.inside c.in-Some.first c.in-Some.is, w.addressed.range, c.in_ok-places-in-Some.ensures.inside k n e, ap signal_length is, ap (λ (x : Signal). x.first) is, c.declared.ensures.few)

pub numbers-requires : goal.numbers-requires
numbers-requires c =
    let s = signal_of_part c.args.templates.now c.args.part in
    let is : s ≡ signal_of c.args.part.signal c.declared.result.now = c.declared.ensures.is in
    omega (arith, c.in_ok-word.ensures.inside c.in-Some.first c.in-Some.is, c.word_width-width.ensures, ap signal_length is, ap (λ (x : Signal). x.first) is, c.declared.ensures.few)

pub call_on-requires-clause-inside : goal.call_on-requires-clause-inside
call_on-requires-clause-inside c =
    let w = word_of c.args.templates.now c.args.env.now c.args.code.now c.args.part c.args.address.now c.args.index.now c.args.value.now c.signed-signed.result c.in_ok-word.word c.in-Some.first c.requires.ready c.requires.fixed c.signed-signed.ensures c.in_ok-word.ensures.value c.in_ok-word.ensures.inside c.in-Some.is in
    let P : ℕ → Type 0 = λ b. b < length c.args.env.now in
    subst (All P) (sym (c.as_slice.ensures.value ∙ c.in_ok-bits-in-Some.ensures)) (all_run c.in-Some.first c.word_width-width.result (length c.args.env.now) (omega (arith, w.inside, c.word_width-width.ensures)))

pub call_on-requires-clause-few : goal.call_on-requires-clause-few
call_on-requires-clause-few c =
    let s = signal_of_part c.args.templates.now c.args.part in
    let is : s ≡ signal_of c.args.part.signal c.declared.result.now = c.declared.ensures.is in
    omega (arith, ap length (c.as_slice.ensures.value ∙ c.in_ok-bits-in-Some.ensures), length_count c.in-Some.first c.word_width-width.result, c.in_ok-word.ensures.inside c.in-Some.first c.in-Some.is, c.word_width-width.ensures, ap signal_length is, ap (λ (x : Signal). x.first) is, c.declared.ensures.few)

pub call_on-requires-clause-call : goal.call_on-requires-clause-call
call_on-requires-clause-call c =
    let t = c.args.templates.now in
    let p = c.args.part in
    let env = c.args.env.now in
    let code = c.args.code.now in
    let ti = c.args.index.now in
    let tv = c.args.value.now in
    let w = word_of t env code p c.args.address.now ti tv c.signed-signed.result c.in_ok-word.word c.in-Some.first c.requires.ready c.requires.fixed c.signed-signed.ensures c.in_ok-word.ensures.value c.in_ok-word.ensures.inside c.in-Some.is in
    let word = word_at (signal_of_part t p) w.n in
    let are = bits_are_word t env p c.args.address.now tv c.in-Some.first c.word_width-width.result c.as_slice.result.now w c.word_width-width.ensures (c.as_slice.ensures.value ∙ c.in_ok-bits-in-Some.ensures) in
    subst (λ (bs : List ℕ). IsCallable code (K.Select (S.Write p.selection)) (map (slice_index env) bs ∷ ti ∷ tv ∷ []) (length bs)) (sym are)
    (subst (λ (k : ℕ). IsCallable code (K.Select (S.Write p.selection)) (map (slice_index env) (bits_of_signal word) ∷ ti ∷ tv ∷ []) k) (sym (length_count word.first (word_length (signal_of_part t p))))
    (subst (λ (b : Bool). IsCallable code (K.Select (S.Write (record { range = p.selection.range; signed = b; up = p.selection.up }))) (map (slice_index env) (bits_of_signal word) ∷ ti ∷ tv ∷ []) (word_length (signal_of_part t p))) (sym c.requires.ready.sign_is)
    (can t env code p c.args.address.now ti tv c.in-Some.first c.requires.ready w (λ h. true≢false (sym (c.are_constant.ensures.1 h) ∙ c.if-are_constant.false))).call))

pub returns-then-are_constant : goal.returns-then-are_constant
returns-then-are_constant c =
    let t = c.args.templates.now in
    let p = c.args.part in
    let env = c.args.env.now in
    let code = c.args.code.now in
    let ta = c.args.address.now in
    let ti = c.args.index.now in
    let tv = c.args.value.now in
    let w = word_of t env code p ta ti tv c.signed-signed.result c.in_ok-word.word c.in-Some.first c.requires.ready c.requires.fixed c.signed-signed.ensures c.in_ok-word.ensures.value c.in_ok-word.ensures.inside c.in-Some.is in
    let word = word_at (signal_of_part t p) w.n in
    let index = index_of_part t p in
    let part = select_of_part p (length tv) in
    let are : map (λ (q : Option ℕ). option_map (λ n. c.in-Some.first + n) q) c.in_ok-places-in-Some.places ≡ bits_at word (places part (sign index) (constant_bits ti)) =
    ap₂ (λ (f : ℕ) (ps : List (Option ℕ)). map (λ (q : Option ℕ). option_map (λ n. f + n) q) ps) w.is (c.in_ok-places-in-Some.ensures.value ∙ ap (λ (b : Bool). places part b (constant_bits ti)) c.requires.ready.sign_is) in
    on_ok c.place_at.result c.place_at.ensures
    (λ is. fixed_in_word c.value_law.ensures.length c.word_part_law.ensures.words env c.place_at.new.env code (signal_of_part t p) (address_of_part t p) part index ta ti tv w.n w.addressed c.requires.ready.fit c.requires.ready.room c.requires.ready.value_below
    (c.are_constant.ensures.0 c.if-are_constant.true) c.requires.ready.indexed (is ∙ ap (λ (ps : List (Option ℕ)). placed env ps tv) are))

pub returns-in_ok-bits-in-Some : goal.returns-in_ok-bits-in-Some
returns-in_ok-bits-in-Some c =
    let t = c.args.templates.now in
    let p = c.args.part in
    let env = c.args.env.now in
    let code = c.args.code.now in
    let ta = c.args.address.now in
    let ti = c.args.index.now in
    let tv = c.args.value.now in
    let w = word_of t env code p ta ti tv c.signed-signed.result c.in_ok-word.word c.in-Some.first c.requires.ready c.requires.fixed c.signed-signed.ensures c.in_ok-word.ensures.value c.in_ok-word.ensures.inside c.in-Some.is in
    let s = signal_of_part t p in
    let word = word_at s w.n in
    let part = select_of_part p (length tv) in
    let index = index_of_part t p in
    let bits = c.as_slice.result.now in
    let are = bits_are_word t env p ta tv c.in-Some.first c.word_width-width.result bits w c.word_width-width.ensures (c.as_slice.ensures.value ∙ c.in_ok-bits-in-Some.ensures) in
    let long : length bits ≡ word_length s = ap length are ∙ length_count word.first (word_length s) in
    both_ok c.call_on.result c.call_on.ensures.code c.call_on.ensures.env
    (λ call is. called_in_word c.value_law.ensures.length c.word_part_law.ensures.words env c.call_on.new.env code c.call_on.new.code s (address_of_part t p) part index ta ti tv w.n w.addressed c.requires.ready.fit c.requires.ready.room c.requires.ready.index_below
    c.requires.ready.value_below refl (can t env code p ta ti tv c.in-Some.first c.requires.ready w (λ h. true≢false (sym (c.are_constant.ensures.1 h) ∙ c.if-are_constant.false)))
    (call
    ∙ ap₂ (λ (bs : List ℕ) (k : ℕ). with_call code (K.Select (S.Write p.selection)) (map (slice_index env) bs ∷ ti ∷ tv ∷ []) k) are long
    ∙ ap (λ (b : Bool). with_call code (K.Select (S.Write (record { range = p.selection.range; signed = b; up = p.selection.up }))) (map (slice_index env) (bits_of_signal word) ∷ ti ∷ tv ∷ []) (word_length s)) c.requires.ready.sign_is)
    (is ∙ ap₂ (λ (bs : List ℕ) (k : ℕ). placed env (map Some bs) (range_with_len code.next k)) are long))

pub returns-in-None : goal.returns-in-None
returns-in-None c =
    let t = c.args.templates.now in
    let p = c.args.part in
    let s = signal_of_part t p in
    let ta = c.args.address.now in
    no_word_added c.value_law.ensures.length c.word_part_law.ensures.none c.args.env.now c.args.code.now s (address_of_part t p) (select_of_part p (length c.args.value.now)) (index_of_part t p) ta c.args.index.now c.args.value.now c.requires.ready.room.is_env c.requires.ready.fit c.requires.fixed c.requires.ready.addressed
    (ap (λ (b : Bool). address_place s b (constant_bits ta)) (sym c.signed-signed.ensures) ∙ found_none (λ n. s.first + n * word_length s) (address_place s c.signed-signed.result (constant_bits ta)) (sym c.in_ok-word.ensures.value ∙ c.in-None.is))
