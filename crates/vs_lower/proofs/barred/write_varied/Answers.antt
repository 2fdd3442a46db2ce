use Rattle.std.proofs.Common.{◌≡◌, ◌∙◌, ℕ, Bool, List, Some, [], ◌∷◌, map, length, slice_index, sym, ap, ap₂, subst, refl, arith}
use Rattle.std.specs.List.{range_with_len}
use Rattle.vs_four.specs.declared.Range.{Range}
use Rattle.vs_four.specs.Selects.{Part}
use Rattle.vs_design.specs.Expressions.{Signal, Expression, sign, addresses, signal_length}
use Rattle.vs_design.specs.Values.{bits_of_signal}
use Rattle.vs_flat.specs.DesignOf.{arena_signals, arena_trees}
use Rattle.vs_flat.specs.Trees.{signal_at, tree_at}
use Rattle.vs_kern_select.specs.declared.costs.Kernel.TheVariants as S
use Rattle.vs_code.specs.declared.kernels.AnyKernel.{AnyKernel}
use Rattle.vs_code.specs.declared.kernels.AnyKernel.TheVariants as K
use Rattle.vs_values.specs.Coded.{Coding, with_call}
use Rattle.vs_values.specs.Environments.{placed}
use Rattle.vs_values.specs.Made.{IsCallable}
use Rattle.vs_values.specs.Templates.{Templated}
use Rattle.vs_lower.specs.declared.parts.WordPart.{WordPart}
use Rattle.vs_lower.specs.Parts.{changed_code, changed_slots}
use Rattle.vs_lower.specs.Unless.{IsVariedReady, bar_args, barred_address, with_bar}
use Rattle.vs_lower.proofs.Partwise.{fit_word_part}
use Rattle.vs_lower.proofs.Reaching.{within_is}
use Rattle.vs_lower.proofs.Varying.{barred_callable, choice_callable, varied_adds}
use Rattle.vs_lower.proofs.WordWrites.{IsVaried, after_change, both_ok, word_writer_kernel}
use Rattle.vs_lower.proofs.barred.write_varied.Goals as goal

abbrev signal_of_part : Templated → WordPart → Signal
signal_of_part t p = signal_at (arena_signals t.arena) p.signal

abbrev address_of_part : Templated → WordPart → Expression
address_of_part t p = tree_at (arena_trees t.arena) p.address

abbrev index_of_part : Templated → WordPart → Expression
index_of_part t p = tree_at (arena_trees t.arena) p.index

abbrev select_of_part : WordPart → ℕ → Part
select_of_part p n = record { range = p.selection.range; up = p.selection.up; width = n }

varied : (t : Templated) (env : List ℕ) (code : Coding) (p : WordPart) (ta ti tv : List ℕ) (bar : ℕ) → IsVariedReady t env code p ta ti tv bar
    → IsVaried env code (signal_of_part t p) (address_of_part t p) (select_of_part p (length tv)) (index_of_part t p) ta ti tv
varied t env code p ta ti tv bar r = record {
  fit = r.part.fit;
  room = r.part.room;
  inside = within_is (length env) (signal_of_part t p) r.part.within;
  address_below = r.part.address_below;
  index_below = r.part.index_below;
  value_below = r.part.value_below;
  long = refl;
  variable = r.address_varies;
  index_variable = r.index_varies;
  addressed = r.part.addressed;
  indexed = r.part.indexed;
}

kernel_is : (signal : Signal) (address : Expression) (range : Range) (s : Bool) → range ≡ addresses signal → s ≡ sign address → word_writer_kernel signal (sign address) ≡ K.Select (S.WriteWord (record { range = range; signed = s }))
kernel_is signal address range s e f =
    let made : Range → Bool → AnyKernel = λ r g. K.Select (S.WriteWord (record { range = r; signed = g })) in
    sym (ap (λ (r : Range). made r s) e ∙ ap (λ (g : Bool). made (addresses signal) g) f)

-- the code behind the change, by the index's sign
changed_is : (t : Templated) (env : List ℕ) (code : Coding) (p : WordPart) (ta ti tv : List ℕ) (o : IsVaried env code (signal_of_part t p) (address_of_part t p) (select_of_part p (length tv)) (index_of_part t p) ta ti tv) → p.selection.signed ≡ sign (index_of_part t p)
    → changed_code t env code p ta ti tv ≡ after_change env code (signal_of_part t p) (address_of_part t p) (select_of_part p (length tv)) (index_of_part t p) ta ti tv o
changed_is t env code p ta ti tv o h =
    ap (λ (b : Bool). changed_code t env code (record p { selection = record { range = p.selection.range; signed = b; up = p.selection.up } }) ta ti tv) h

pub changed_word-requires-clause-ready : goal.changed_word-requires-clause-ready
changed_word-requires-clause-ready c = c.requires.part

pub changed_word-requires-clause-variable : goal.changed_word-requires-clause-variable
changed_word-requires-clause-variable c = c.requires.address_varies

pub changed_word-requires-clause-index_variable : goal.changed_word-requires-clause-index_variable
changed_word-requires-clause-index_variable c = c.requires.index_varies

pub barred-requires-clause-some : goal.barred-requires-clause-some
barred-requires-clause-some c =
    let t = c.args.templates.now in
    let p = c.args.part in
    let f = fit_word_part (signal_of_part t p) (address_of_part t p) (select_of_part p (length c.args.value.now)) (index_of_part t p) c.requires.part.fit in
    omega (arith, f.address_some, c.requires.part.addressed.long)

pub barred-requires-clause-call : goal.barred-requires-clause-call
barred-requires-clause-call c =
    let t = c.args.templates.now in
    let p = c.args.part in
    let env = c.args.env.now in
    let code = c.args.code.now in
    let ta = c.args.address.now in
    let ti = c.args.index.now in
    let tv = c.args.value.now in
    let o = varied t env code p ta ti tv c.args.bar c.requires in
    let after = c.in_ok-word.ensures.code ∙ changed_is t env code p ta ti tv o c.requires.part.sign_is in
    subst (λ (x : Coding). IsCallable x (K.Select S.Branch) (bar_args (c.args.bar ∷ []) 2 (slice_index ta 0)) 1) (sym after)
    (choice_callable env code (signal_of_part t p) (address_of_part t p) (select_of_part p (length tv)) (index_of_part t p) ta ti tv o c.args.bar c.requires.bar_below c.requires.room)

pub call_write-requires-clause-call : goal.call_write-requires-clause-call
call_write-requires-clause-call c =
    let t = c.args.templates.now in
    let p = c.args.part in
    let env = c.args.env.now in
    let code = c.args.code.now in
    let ta = c.args.address.now in
    let ti = c.args.index.now in
    let tv = c.args.value.now in
    let bar = c.args.bar in
    let s = signal_of_part t p in
    let address = address_of_part t p in
    let part = select_of_part p (length tv) in
    let index = index_of_part t p in
    let o = varied t env code p ta ti tv bar c.requires in
    let one = after_change env code s address part index ta ti tv o in
    let after : c.changed_word.new.code ≡ one = c.in_ok-word.ensures.code ∙ changed_is t env code p ta ti tv o c.requires.part.sign_is in
    let two : c.barred.new.code ≡ with_bar one (bar ∷ []) 2 (slice_index ta 0) = c.in_ok-at.ensures.ok ∙ ap (λ (x : Coding). with_bar x (bar ∷ []) 2 (slice_index ta 0)) after in
    let at : c.as_slice.result.now ≡ barred_address ta one.next = c.as_slice.ensures.value ∙ c.in_ok-at.ensures.slots ∙ ap (λ (x : Coding). barred_address ta x.next) after in
    let word : c.as_slice-2.result.now ≡ changed_slots t code p = c.as_slice-2.ensures.value ∙ c.in_ok-word.ensures.to in
    let args : List ℕ → List ℕ → List (List ℕ) = λ x w. map (slice_index env) (bits_of_signal s) ∷ x ∷ w ∷ [] in
    subst (λ (k : AnyKernel). IsCallable c.barred.new.code k (args c.as_slice.result.now c.as_slice-2.result.now) (signal_length s)) (kernel_is s address c.memory_addresses-range.result c.signed-signed.result c.memory_addresses-range.ensures c.signed-signed.ensures)
    (subst (λ (x : List ℕ). IsCallable c.barred.new.code (word_writer_kernel s (sign address)) (args x c.as_slice-2.result.now) (signal_length s)) (sym at)
    (subst (λ (x : List ℕ). IsCallable c.barred.new.code (word_writer_kernel s (sign address)) (args (barred_address ta one.next) x) (signal_length s)) (sym word)
    (subst (λ (x : Coding). IsCallable x (word_writer_kernel s (sign address)) (args (barred_address ta one.next) (changed_slots t code p)) (signal_length s)) (sym two)
    (barred_callable env code s address part index ta ti tv o bar c.requires.bar_below c.requires.room))))

pub returns : goal.returns
returns c =
    let t = c.args.templates.now in
    let p = c.args.part in
    let env = c.args.env.now in
    let code = c.args.code.now in
    let ta = c.args.address.now in
    let ti = c.args.index.now in
    let tv = c.args.value.now in
    let bar = c.args.bar in
    let s = signal_of_part t p in
    let address = address_of_part t p in
    let part = select_of_part p (length tv) in
    let index = index_of_part t p in
    let o = varied t env code p ta ti tv bar c.requires in
    let one = after_change env code s address part index ta ti tv o in
    let after : c.changed_word.new.code ≡ one = c.in_ok-word.ensures.code ∙ changed_is t env code p ta ti tv o c.requires.part.sign_is in
    let two : c.barred.new.code ≡ with_bar one (bar ∷ []) 2 (slice_index ta 0) = c.in_ok-at.ensures.ok ∙ ap (λ (x : Coding). with_bar x (bar ∷ []) 2 (slice_index ta 0)) after in
    let at : c.as_slice.result.now ≡ barred_address ta one.next = c.as_slice.ensures.value ∙ c.in_ok-at.ensures.slots ∙ ap (λ (x : Coding). barred_address ta x.next) after in
    let word : c.as_slice-2.result.now ≡ changed_slots t code p = c.as_slice-2.ensures.value ∙ c.in_ok-word.ensures.to in
    let made : Coding → AnyKernel → List ℕ → List ℕ → Coding = λ x k u w. with_call x k (map (slice_index env) (bits_of_signal s) ∷ u ∷ w ∷ []) (signal_length s) in
    both_ok c.call_write.result c.call_write.ensures.code c.call_write.ensures.env
    (λ call is. varied_adds env code s address part index ta ti tv o bar c.requires.bar_below c.requires.room c.value_law.ensures.length c.word_part_law.ensures.words c.word_part_law.ensures.none c.call_write.new.env c.call_write.new.code
    (call
    ∙ ap (λ (k : AnyKernel). made c.barred.new.code k c.as_slice.result.now c.as_slice-2.result.now) (sym (kernel_is s address c.memory_addresses-range.result c.signed-signed.result c.memory_addresses-range.ensures c.signed-signed.ensures))
    ∙ ap (λ (x : Coding). made x (word_writer_kernel s (sign address)) c.as_slice.result.now c.as_slice-2.result.now) two
    ∙ ap₂ (λ (u w : List ℕ). made (with_bar one (bar ∷ []) 2 (slice_index ta 0)) (word_writer_kernel s (sign address)) u w) at word)
    (is ∙ ap (λ (x : Coding). placed env (map Some (bits_of_signal s)) (range_with_len x.next (signal_length s))) two))
