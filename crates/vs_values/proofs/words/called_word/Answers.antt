use Rattle.std.proofs.Common.{◌≡◌, ◌∙◌, ℕ, Bool, List, [], ◌∷◌, sym, ap, subst}
use Rattle.std.proofs.Common.{Vec, Global}
use Rattle.std.specs.Prelude.{OnOk}
use Rattle.std.specs.List.{range_with_len}
use Rattle.std.proofs.lemmas.Result.{IfOk-weaker}
use Rattle.vs_four.specs.declared.Range.{Range}
use Rattle.vs_design.specs.Expressions as E
use Rattle.vs_design.specs.Expressions.{OfSignal, addresses, word_length}
use Rattle.vs_flat.specs.DesignOf.{arena_signals}
use Rattle.vs_flat.specs.Trees.{signal_at}
use Rattle.vs_kern_select.specs.declared.costs.Kernel.TheVariants as S
use Rattle.vs_code.specs.declared.kernels.AnyKernel.TheVariants as K
use Rattle.vs_values.specs.Coded.{Coding, with_call}
use Rattle.vs_values.specs.Made.{IsCallable, source_slots, word_kernel}
use Rattle.vs_values.proofs.words.called_word.Goals as goal

callable : (code : Coding) (signal : E.Signal) (s : Bool) (range : Range) (args made : List (List ℕ)) (k : ℕ) → range ≡ addresses signal → args ≡ made → k ≡ word_length signal
    → IsCallable code (word_kernel signal s) made (word_length signal) → IsCallable code (K.Select (S.ReadWord (record { range = range; signed = s }))) args k
callable code signal s range args made k e f g h =
    subst (λ (r : Range). IsCallable code (K.Select (S.ReadWord (record { range = r; signed = s }))) args k) (sym e)
    (subst (λ (xs : List (List ℕ)). IsCallable code (word_kernel signal s) xs k) (sym f) (subst (λ (n : ℕ). IsCallable code (word_kernel signal s) made n) (sym g) h))

called : (code : Coding) (signal : E.Signal) (s : Bool) (range : Range) (args made : List (List ℕ)) (k : ℕ) → range ≡ addresses signal → args ≡ made → k ≡ word_length signal
    → with_call code (K.Select (S.ReadWord (record { range = range; signed = s }))) args k ≡ with_call code (word_kernel signal s) made (word_length signal)
called code signal s range args made k e f g =
    ap (λ (r : Range). with_call code (K.Select (S.ReadWord (record { range = r; signed = s }))) args k) e
    ∙ ap (λ (xs : List (List ℕ)). with_call code (word_kernel signal s) xs k) f
    ∙ ap (λ (n : ℕ). with_call code (word_kernel signal s) made n) g

pub call-requires-clause-is : goal.call-requires-clause-is
call-requires-clause-is c =
    let signal = signal_at (arena_signals c.args.templates.now.arena) c.args.signal in
    let from = source_slots c.args.env.now (OfSignal signal) in
    let args : c.in_ok-args.args ≡ from ∷ c.args.address.items ∷ [] = c.in_ok-args.ensures ∙ ap (λ (x : List ℕ). x ∷ c.args.address.items ∷ []) c.in_ok-from.ensures in
    let can = callable c.args.code.now signal c.args.signed c.memory_addresses-range.result c.in_ok-args.args (from ∷ c.args.address.items ∷ []) c.word_width-width.result c.memory_addresses-range.ensures args c.word_width-width.ensures c.requires.call in
    can.is

pub call-requires-clause-slots : goal.call-requires-clause-slots
call-requires-clause-slots c =
    let signal = signal_at (arena_signals c.args.templates.now.arena) c.args.signal in
    let from = source_slots c.args.env.now (OfSignal signal) in
    let args : c.in_ok-args.args ≡ from ∷ c.args.address.items ∷ [] = c.in_ok-args.ensures ∙ ap (λ (x : List ℕ). x ∷ c.args.address.items ∷ []) c.in_ok-from.ensures in
    let can = callable c.args.code.now signal c.args.signed c.memory_addresses-range.result c.in_ok-args.args (from ∷ c.args.address.items ∷ []) c.word_width-width.result c.memory_addresses-range.ensures args c.word_width-width.ensures c.requires.call in
    can.slots

pub call-requires-clause-few : goal.call-requires-clause-few
call-requires-clause-few c =
    let signal = signal_at (arena_signals c.args.templates.now.arena) c.args.signal in
    let from = source_slots c.args.env.now (OfSignal signal) in
    let args : c.in_ok-args.args ≡ from ∷ c.args.address.items ∷ [] = c.in_ok-args.ensures ∙ ap (λ (x : List ℕ). x ∷ c.args.address.items ∷ []) c.in_ok-from.ensures in
    let can = callable c.args.code.now signal c.args.signed c.memory_addresses-range.result c.in_ok-args.args (from ∷ c.args.address.items ∷ []) c.word_width-width.result c.memory_addresses-range.ensures args c.word_width-width.ensures c.requires.call in
    can.few

pub returns-clause-to : goal.returns-clause-to
returns-clause-to c =
    IfOk-weaker c.call.result
    (λ (to : Vec ℕ Global). to.items ≡ range_with_len c.args.code.now.next c.word_width-width.result)
    (λ (to : Vec ℕ Global). to.items ≡ range_with_len c.args.code.now.next (word_length (signal_at (arena_signals c.args.templates.now.arena) c.args.signal)))
    (λ to h. h ∙ ap (range_with_len c.args.code.now.next) c.word_width-width.ensures)
    c.call.ensures.to

pub returns-clause-ok : goal.returns-clause-ok
returns-clause-ok c =
    let signal = signal_at (arena_signals c.args.templates.now.arena) c.args.signal in
    let from = source_slots c.args.env.now (OfSignal signal) in
    let args : c.in_ok-args.args ≡ from ∷ c.args.address.items ∷ [] = c.in_ok-args.ensures ∙ ap (λ (x : List ℕ). x ∷ c.args.address.items ∷ []) c.in_ok-from.ensures in
    let is = called c.args.code.now signal c.args.signed c.memory_addresses-range.result c.in_ok-args.args (from ∷ c.args.address.items ∷ []) c.word_width-width.result c.memory_addresses-range.ensures args c.word_width-width.ensures in
    subst (λ (x : Coding). OnOk c.call.result (c.call.new.self ≡ x)) is c.call.ensures.ok
