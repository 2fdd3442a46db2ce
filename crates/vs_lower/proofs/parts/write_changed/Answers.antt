use Rattle.std.proofs.Common.{◌≡◌, ◌∙◌, ℕ, Bool, List, Some, [], ◌∷◌, map, length, slice_index, sym, ap, ap₂, subst, refl}
use Rattle.std.specs.List.{range_with_len}
use Rattle.vs_four.specs.declared.Range.{Range}
use Rattle.vs_four.specs.Selects.{Part}
use Rattle.vs_design.specs.Expressions.{Signal, Expression, sign, addresses, signal_length}
use Rattle.vs_design.specs.Values.{bits_of_signal}
use Rattle.vs_flat.specs.DesignOf.{arena_signals, arena_trees}
use Rattle.vs_flat.specs.Trees.{signal_at, tree_at}
use Rattle.vs_kern_select.specs.declared.costs.Kernel.TheVariants as S
use Rattle.vs_code.specs.declared.kernels.AnyKernel.{AnyKernel}
use Rattle.vs_code.specs.declared.kernels.AnyKernel.TheVariants as K
use Rattle.vs_values.specs.Coded.{Coding, with_call}
use Rattle.vs_values.specs.Constants.{AreConstant}
use Rattle.vs_values.specs.Made.{IsCallable}
use Rattle.vs_values.specs.Templates.{Templated}
use Rattle.vs_lower.specs.declared.parts.WordPart.{WordPart}
use Rattle.vs_lower.specs.Parts.{IsPartReady, changed_code, changed_slots}
use Rattle.vs_values.specs.Environments.{placed}
use Rattle.vs_lower.proofs.Reaching.{within_is}
use Rattle.vs_lower.proofs.WordWrites.{IsVaried, word_writer_kernel, after_change, store_callable, changed_adds, both_ok}
use Rattle.vs_lower.proofs.parts.write_changed.Goals as goal

abbrev signal_of_part : Templated → WordPart → Signal
signal_of_part t p = signal_at (arena_signals t.arena) p.signal

abbrev address_of_part : Templated → WordPart → Expression
address_of_part t p = tree_at (arena_trees t.arena) p.address

abbrev index_of_part : Templated → WordPart → Expression
index_of_part t p = tree_at (arena_trees t.arena) p.index

abbrev select_of_part : WordPart → ℕ → Part
select_of_part p n = record { range = p.selection.range; up = p.selection.up; width = n }

varied : (t : Templated) (env : List ℕ) (code : Coding) (p : WordPart) (ta ti tv : List ℕ) → IsPartReady t env code p ta ti tv → (AreConstant ta → ⊥) → (AreConstant ti → ⊥)
    → IsVaried env code (signal_of_part t p) (address_of_part t p) (select_of_part p (length tv)) (index_of_part t p) ta ti tv
varied t env code p ta ti tv r v w = record {
  fit = r.fit;
  room = r.room;
  inside = within_is (length env) (signal_of_part t p) r.within;
  address_below = r.address_below;
  index_below = r.index_below;
  value_below = r.value_below;
  long = refl;
  variable = v;
  index_variable = w;
  addressed = r.addressed;
  indexed = r.indexed;
}

kernel_is : (signal : Signal) (address : Expression) (range : Range) (s : Bool) → range ≡ addresses signal → s ≡ sign address → word_writer_kernel signal (sign address) ≡ K.Select (S.WriteWord (record { range = range; signed = s }))
kernel_is signal address range s e f =
    let made : Range → Bool → AnyKernel = λ r g. K.Select (S.WriteWord (record { range = r; signed = g })) in
    sym (ap (λ (r : Range). made r s) e ∙ ap (λ (g : Bool). made (addresses signal) g) f)

-- the code behind the change, by the index's sign
changed_is : (t : Templated) (env : List ℕ) (code : Coding) (p : WordPart) (ta ti tv : List ℕ) (o : IsVaried env code (signal_of_part t p) (address_of_part t p) (select_of_part p (length tv)) (index_of_part t p) ta ti tv) → p.selection.signed ≡ sign (index_of_part t p)
    → changed_code t env code p ta ti tv ≡ after_change env code (signal_of_part t p) (address_of_part t p) (select_of_part p (length tv)) (index_of_part t p) ta ti tv o
changed_is t env code p ta ti tv o h =
    ap (λ (b : Bool). changed_code t env code (record p { selection = record { range = p.selection.range; signed = b; up = p.selection.up } }) ta ti tv) h

pub call_write-requires-clause-call : goal.call_write-requires-clause-call
call_write-requires-clause-call c =
    let t = c.args.templates.now in
    let p = c.args.part in
    let env = c.args.env.now in
    let code = c.args.code.now in
    let ta = c.args.address.now in
    let ti = c.args.index.now in
    let tv = c.args.value.now in
    let s = signal_of_part t p in
    let address = address_of_part t p in
    let o = varied t env code p ta ti tv c.requires.ready c.requires.variable c.requires.index_variable in
    let word = c.as_slice.ensures.value ∙ c.in_ok-word.ensures.to in
    let after = c.in_ok-word.ensures.code ∙ changed_is t env code p ta ti tv o c.requires.ready.sign_is in
    let args : List ℕ → List (List ℕ) = λ w. map (slice_index env) (bits_of_signal s) ∷ ta ∷ w ∷ [] in
    subst (λ (k : AnyKernel). IsCallable c.changed_word.new.code k (args c.as_slice.result.now) (signal_length s)) (kernel_is s address c.memory_addresses-range.result c.signed-signed.result c.memory_addresses-range.ensures c.signed-signed.ensures)
    (subst (λ (x : List ℕ). IsCallable c.changed_word.new.code (word_writer_kernel s (sign address)) (args x) (signal_length s)) (sym word)
    (subst (λ (x : Coding). IsCallable x (word_writer_kernel s (sign address)) (args (changed_slots t code p)) (signal_length s)) (sym after)
    (store_callable env code s address (select_of_part p (length tv)) (index_of_part t p) ta ti tv o)))

pub returns : goal.returns
returns c =
    let t = c.args.templates.now in
    let p = c.args.part in
    let env = c.args.env.now in
    let code = c.args.code.now in
    let ta = c.args.address.now in
    let ti = c.args.index.now in
    let tv = c.args.value.now in
    let s = signal_of_part t p in
    let address = address_of_part t p in
    let part = select_of_part p (length tv) in
    let index = index_of_part t p in
    let o = varied t env code p ta ti tv c.requires.ready c.requires.variable c.requires.index_variable in
    let word = c.as_slice.ensures.value ∙ c.in_ok-word.ensures.to in
    let after = c.in_ok-word.ensures.code ∙ changed_is t env code p ta ti tv o c.requires.ready.sign_is in
    let made : Coding → AnyKernel → List ℕ → Coding = λ x k w. with_call x k (map (slice_index env) (bits_of_signal s) ∷ ta ∷ w ∷ []) (signal_length s) in
    both_ok c.call_write.result c.call_write.ensures.code c.call_write.ensures.env
    (λ call is. changed_adds env code s address part index ta ti tv o c.value_law.ensures.length c.word_part_law.ensures.words c.word_part_law.ensures.none c.call_write.new.env c.call_write.new.code
    (call
    ∙ ap (λ (k : AnyKernel). made c.changed_word.new.code k c.as_slice.result.now) (sym (kernel_is s address c.memory_addresses-range.result c.signed-signed.result c.memory_addresses-range.ensures c.signed-signed.ensures))
    ∙ ap₂ (λ (x : Coding) (w : List ℕ). made x (word_writer_kernel s (sign address)) w) after word)
    (is ∙ ap (λ (x : Coding). placed env (map Some (bits_of_signal s)) (range_with_len x.next (signal_length s))) after))
