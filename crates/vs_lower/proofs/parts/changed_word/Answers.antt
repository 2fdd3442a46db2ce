use Rattle.std.proofs.Common.{◌≡◌, ◌∙◌, ◌+◌, ℕ, Bool, List, [], ◌∷◌, map, length, slice_index, sym, ap, ap₂, subst, refl}
use Rattle.std.specs.List.{range_with_len}
use Rattle.vs_values.proofs.Selecting.{selection}
use Rattle.vs_four.specs.declared.Range.{Range}
use Rattle.vs_four.specs.Selects.{Part}
use Rattle.vs_design.specs.Expressions.{Signal, Expression, sign, addresses, word_length}
use Rattle.vs_design.specs.Values.{bits_of_signal}
use Rattle.vs_flat.specs.DesignOf.{arena_signals, arena_trees}
use Rattle.vs_flat.specs.Trees.{signal_at, tree_at}
use Rattle.vs_kern_select.specs.declared.costs.Kernel.TheVariants as S
use Rattle.vs_code.specs.declared.kernels.AnyKernel.{AnyKernel}
use Rattle.vs_code.specs.declared.kernels.AnyKernel.TheVariants as K
use Rattle.vs_values.specs.Coded.{Coding, with_call}
use Rattle.vs_values.specs.Constants.{AreConstant}
use Rattle.vs_values.specs.Made.{IsCallable, word_kernel}
use Rattle.vs_values.specs.Templates.{Templated}
use Rattle.vs_lower.specs.declared.parts.WordPart.{WordPart}
use Rattle.vs_lower.specs.Parts.{IsPartReady}
use Rattle.vs_lower.proofs.Indexing.{if_ok}
use Rattle.vs_lower.proofs.Reaching.{within_is}
use Rattle.vs_lower.proofs.WordWrites.{on_ok, IsVaried, read_callable, change_callable}
use Rattle.vs_lower.proofs.parts.changed_word.Goals as goal

abbrev signal_of_part : Templated → WordPart → Signal
signal_of_part t p = signal_at (arena_signals t.arena) p.signal

abbrev address_of_part : Templated → WordPart → Expression
address_of_part t p = tree_at (arena_trees t.arena) p.address

abbrev index_of_part : Templated → WordPart → Expression
index_of_part t p = tree_at (arena_trees t.arena) p.index

abbrev select_of_part : WordPart → ℕ → Part
select_of_part p n = record { range = p.selection.range; up = p.selection.up; width = n }

varied : (t : Templated) (env : List ℕ) (code : Coding) (p : WordPart) (ta ti tv : List ℕ) → IsPartReady t env code p ta ti tv → (AreConstant ta → ⊥) → (AreConstant ti → ⊥)
    → IsVaried env code (signal_of_part t p) (address_of_part t p) (select_of_part p (length tv)) (index_of_part t p) ta ti tv
varied t env code p ta ti tv r v w = record {
  fit = r.fit;
  room = r.room;
  inside = within_is (length env) (signal_of_part t p) r.within;
  address_below = r.address_below;
  index_below = r.index_below;
  value_below = r.value_below;
  long = refl;
  variable = v;
  index_variable = w;
  addressed = r.addressed;
  indexed = r.indexed;
}

-- the kernel of the read, by the memory's addresses and the address's sign
read_is : (signal : Signal) (address : Expression) (range : Range) (s : Bool) → range ≡ addresses signal → s ≡ sign address → K.Select (S.ReadWord (record { range = range; signed = s })) ≡ word_kernel signal (sign address)
read_is signal address range s e f =
    let made : Range → Bool → AnyKernel = λ r g. K.Select (S.ReadWord (record { range = r; signed = g })) in
    ap (λ (r : Range). made r s) e ∙ ap (λ (g : Bool). made (addresses signal) g) f

-- the code with the read is that of the definition
with_read : (code : Coding) (kernel kernel' : AnyKernel) (args args' : List (List ℕ)) (k k' : ℕ) → kernel ≡ kernel' → args ≡ args' → k ≡ k' → with_call code kernel args k ≡ with_call code kernel' args' k'
with_read code kernel kernel' args args' k k' e f g =
    ap (λ (x : AnyKernel). with_call code x args k) e ∙ ap (λ (x : List (List ℕ)). with_call code kernel' x k) f ∙ ap (λ (x : ℕ). with_call code kernel' args' x) g

callable_as : (code : Coding) (kernel kernel' : AnyKernel) (args args' : List (List ℕ)) (k k' : ℕ) → kernel ≡ kernel' → args ≡ args' → k ≡ k' → IsCallable code kernel' args' k' → IsCallable code kernel args k
callable_as code kernel kernel' args args' k k' e f g h =
    subst (λ (x : AnyKernel). IsCallable code x args k) (sym e) (subst (λ (x : List (List ℕ)). IsCallable code kernel' x k) (sym f) (subst (λ (x : ℕ). IsCallable code kernel' args' x) (sym g) h))

pub call-requires : goal.call-requires
call-requires c =
    let t = c.args.templates.now in
    let p = c.args.part in
    let env = c.args.env.now in
    let code = c.args.code.now in
    let ta = c.args.address.now in
    let s = signal_of_part t p in
    let o = varied t env code p ta c.args.index.now c.args.value.now c.requires.ready c.requires.variable c.requires.index_variable in
    let args : c.in_ok-args.args ≡ (map (slice_index env) (bits_of_signal s) ∷ ta ∷ []) = c.in_ok-args.ensures ∙ ap₂ (λ (x y : List ℕ). x ∷ y ∷ []) c.in_ok-from.ensures c.in_ok-at.ensures.items in
    let can = callable_as code _ (word_kernel s (sign (address_of_part t p))) c.in_ok-args.args _ c.word_width-width.result (word_length s)
    (read_is s (address_of_part t p) c.memory_addresses-range.result c.signed-signed.result c.memory_addresses-range.ensures c.signed-signed.ensures) args c.word_width-width.ensures
    (read_callable env code s (address_of_part t p) (select_of_part p (length c.args.value.now)) (index_of_part t p) ta c.args.index.now c.args.value.now o) in
    record { is = can.is; slots = can.slots; few = can.few }

-- the code behind the read
read_code_is : (t : Templated) (env : List ℕ) (code after : Coding) (p : WordPart) (ta : List ℕ) (kernel : AnyKernel) (args : List (List ℕ)) (k : ℕ) → after ≡ with_call code kernel args k → kernel ≡ word_kernel (signal_of_part t p) (sign (address_of_part t p))
    → args ≡ (map (slice_index env) (bits_of_signal (signal_of_part t p)) ∷ ta ∷ []) → k ≡ word_length (signal_of_part t p)
    → after ≡ with_call code (word_kernel (signal_of_part t p) (sign (address_of_part t p))) (map (slice_index env) (bits_of_signal (signal_of_part t p)) ∷ ta ∷ []) (word_length (signal_of_part t p))
read_code_is t env code after p ta kernel args k h e f g = h ∙ with_read code kernel _ args _ k _ e f g

pub written_slots-requires : goal.written_slots-requires
written_slots-requires c =
    let t = c.args.templates.now in
    let p = c.args.part in
    let env = c.args.env.now in
    let code = c.args.code.now in
    let ta = c.args.address.now in
    let ti = c.args.index.now in
    let tv = c.args.value.now in
    let s = signal_of_part t p in
    let k = word_length s in
    let o = varied t env code p ta ti tv c.requires.ready c.requires.variable c.requires.index_variable in
    let args : c.in_ok-args.args ≡ (map (slice_index env) (bits_of_signal s) ∷ ta ∷ []) = c.in_ok-args.ensures ∙ ap₂ (λ (x y : List ℕ). x ∷ y ∷ []) c.in_ok-from.ensures c.in_ok-at.ensures.items in
    let after = read_code_is t env code c.call.new.self p ta _ c.in_ok-args.args c.word_width-width.result c.in_ok-word.ensures.ok
    (read_is s (address_of_part t p) c.memory_addresses-range.result c.signed-signed.result c.memory_addresses-range.ensures c.signed-signed.ensures) args c.word_width-width.ensures in
    let word : c.in_ok-word.word.items ≡ range_with_len code.next k = c.in_ok-word.ensures.to ∙ ap (range_with_len code.next) c.word_width-width.ensures in
    let same : (c.in_ok-word.word.items ∷ c.in_ok-by.by.items ∷ c.in_ok-with.with.items ∷ []) ≡ (range_with_len code.next k ∷ ti ∷ tv ∷ []) =
    ap₂ (λ (x y : List ℕ). x ∷ y ∷ c.in_ok-with.with.items ∷ []) word c.in_ok-by.ensures.items ∙ ap (λ (x : List ℕ). range_with_len code.next k ∷ ti ∷ x ∷ []) c.in_ok-with.ensures.items in
    record {
      call = subst (λ (x : Coding). IsCallable x (K.Select (S.Write p.selection)) (c.in_ok-word.word.items ∷ c.in_ok-by.by.items ∷ c.in_ok-with.with.items ∷ []) c.word_width-width.result) (sym after)
          (callable_as _ (K.Select (S.Write p.selection)) (K.Select (S.Write (selection (select_of_part p (length tv)) (sign (index_of_part t p))))) _ _ c.word_width-width.result k
          (ap (λ (b : Bool). K.Select (S.Write (record { range = p.selection.range; signed = b; up = p.selection.up }))) c.requires.ready.sign_is) same c.word_width-width.ensures
          (change_callable env code s (address_of_part t p) (select_of_part p (length tv)) (index_of_part t p) ta ti tv o));
    }

pub returns-clause-code : goal.returns-clause-code
returns-clause-code c =
    let t = c.args.templates.now in
    let p = c.args.part in
    let env = c.args.env.now in
    let code = c.args.code.now in
    let ta = c.args.address.now in
    let ti = c.args.index.now in
    let tv = c.args.value.now in
    let s = signal_of_part t p in
    let k = word_length s in
    let args : c.in_ok-args.args ≡ (map (slice_index env) (bits_of_signal s) ∷ ta ∷ []) = c.in_ok-args.ensures ∙ ap₂ (λ (x y : List ℕ). x ∷ y ∷ []) c.in_ok-from.ensures c.in_ok-at.ensures.items in
    let after = read_code_is t env code c.call.new.self p ta _ c.in_ok-args.args c.word_width-width.result c.in_ok-word.ensures.ok
    (read_is s (address_of_part t p) c.memory_addresses-range.result c.signed-signed.result c.memory_addresses-range.ensures c.signed-signed.ensures) args c.word_width-width.ensures in
    let word : c.in_ok-word.word.items ≡ range_with_len code.next k = c.in_ok-word.ensures.to ∙ ap (range_with_len code.next) c.word_width-width.ensures in
    let same : (c.in_ok-word.word.items ∷ c.in_ok-by.by.items ∷ c.in_ok-with.with.items ∷ []) ≡ (range_with_len code.next k ∷ ti ∷ tv ∷ []) =
    ap₂ (λ (x y : List ℕ). x ∷ y ∷ c.in_ok-with.with.items ∷ []) word c.in_ok-by.ensures.items ∙ ap (λ (x : List ℕ). range_with_len code.next k ∷ ti ∷ x ∷ []) c.in_ok-with.ensures.items in
    on_ok c.written_slots.result c.written_slots.ensures.ok
    (λ call. call
    ∙ ap (λ (x : Coding). with_call x (K.Select (S.Write p.selection)) (c.in_ok-word.word.items ∷ c.in_ok-by.by.items ∷ c.in_ok-with.with.items ∷ []) c.word_width-width.result) after
    ∙ with_read _ (K.Select (S.Write p.selection)) _ _ _ c.word_width-width.result k refl same c.word_width-width.ensures)

pub returns-clause-to : goal.returns-clause-to
returns-clause-to c =
    let t = c.args.templates.now in
    let p = c.args.part in
    let k = word_length (signal_of_part t p) in
    let next : c.call.new.self.next ≡ c.args.code.now.next + k = ap (λ (x : Coding). x.next) c.in_ok-word.ensures.ok ∙ ap (λ (n : ℕ). c.args.code.now.next + n) c.word_width-width.ensures in
    if_ok c.written_slots.result c.written_slots.ensures.to (λ to is. is ∙ ap₂ range_with_len next c.word_width-width.ensures)
