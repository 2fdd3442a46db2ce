use Rattle.std.proofs.Common.{◌≡◌, ◌∙◌, ◌+◌, ◌≤◌, ◌<◌, ℕ, List, [], ◌∷◌, Bool, true, map, length, slice_index, sym, ap, subst, refl, arith, true≢false}
use Rattle.std.specs.List.{All}
use Rattle.vs_four.specs.declared.Range.{Range}
use Rattle.vs_design.specs.Bodies.{bits_at}
use Rattle.vs_design.specs.Expressions as E
use Rattle.vs_design.specs.Expressions.{is_constant, sign, width, addresses, signal_length, word_length}
use Rattle.vs_design.specs.Fits.{fits_target}
use Rattle.vs_design.specs.Statements.{WordOf}
use Rattle.vs_design.specs.Values.{bits_of_signal, word_places}
use Rattle.vs_flat.specs.DesignOf.{arena_signals, arena_trees}
use Rattle.vs_flat.specs.Trees.{signal_at, tree_at}
use Rattle.vs_kern_select.specs.declared.costs.Kernel.{Kernel}
use Rattle.vs_kern_select.specs.declared.costs.Kernel.TheVariants as S
use Rattle.vs_code.specs.declared.kernels.AnyKernel.{AnyKernel}
use Rattle.vs_code.specs.declared.kernels.AnyKernel.TheVariants as K
use Rattle.vs_values.specs.Coded.{Coding, with_call}
use Rattle.vs_values.specs.Constants.{AreConstant, constant_bits}
use Rattle.vs_values.specs.Environments.{placed}
use Rattle.vs_values.specs.Made.{IsCallable}
use Rattle.vs_lower.specs.Written.{HasRoom, IsIndex, write_weight}
use Rattle.vs_lower.proofs.Reaching.{within_is}
use Rattle.vs_lower.proofs.Partwise.{fit_word, fixed_adds, word_few, word_selecting, word_writer, CanWrite, can_write, called_adds}
use Rattle.vs_lower.proofs.writes.write_word.Goals as goal

abbrev writer : E.Signal → E.Expression → Kernel
writer signal index = S.WriteWord (record { range = addresses signal; signed = sign index })

kernel_is : (signal : E.Signal) (index : E.Expression) (range : Range) (s : Bool) → range ≡ addresses signal → s ≡ sign index → K.Select (writer signal index) ≡ K.Select (S.WriteWord (record { range = range; signed = s }))
kernel_is signal index range s e f =
    let made : Range → Bool → AnyKernel = λ r g. K.Select (S.WriteWord (record { range = r; signed = g })) in
    sym (ap (λ (r : Range). made r s) e ∙ ap (λ (g : Bool). made (addresses signal) g) f)

can : (env : List ℕ) (code : Coding) (signal : E.Signal) (index : E.Expression) (ti tv : List ℕ) → fits_target (WordOf signal index) ≡ true
    → HasRoom env code (write_weight (WordOf signal index)) → signal.first + signal_length signal ≤ length env → All (λ slot. slot < code.next) ti → All (λ slot. slot < code.next) tv → length tv ≡ word_length signal
    → (AreConstant ti → ⊥) → IsIndex index ti → CanWrite env code (writer signal index) (WordOf signal index) signal index ti tv
can env code signal index ti tv f r l bi bv long v i =
    can_write env code (writer signal index) (WordOf signal index) signal index (word_places signal (sign index)) (word_length signal) ti tv (word_writer signal index f) r l bi bv long v i

pub place_word-requires-clause-some_address : goal.place_word-requires-clause-some_address
place_word-requires-clause-some_address c =
    let a = c.args.templates.now.arena in
    let f = fit_word (signal_at (arena_signals a) c.args.signal) (tree_at (arena_trees a) c.args.at) c.requires.fit in
    omega (arith, c.requires.indexed.long, f.index_some)

pub place_word-requires-clause-address : goal.place_word-requires-clause-address
place_word-requires-clause-address c =
    let a = c.args.templates.now.arena in
    let f = fit_word (signal_at (arena_signals a) c.args.signal) (tree_at (arena_trees a) c.args.at) c.requires.fit in
    omega (arith, c.requires.indexed.long, f.index_most)

pub returns-then-are_constant : goal.returns-then-are_constant
returns-then-are_constant c =
    let a = c.args.templates.now.arena in
    let signal = signal_at (arena_signals a) c.args.signal in
    let index = tree_at (arena_trees a) c.args.at in
    let ti = c.args.address.now in
    let tv = c.args.value.now in
    fixed_adds c.args.env.now c.place_word.new.env c.args.code.now (WordOf signal index) signal index (word_places signal (sign index)) ti tv (word_selecting signal index) c.requires.room c.requires.value
    (c.are_constant.ensures.0 c.if-are_constant.true) c.requires.indexed (let few = word_few signal index 0 (is_constant index) refl (λ e. refl) (omega arith) in omega (arith, few))
    (c.in_ok-place_word.ensures ∙ ap (λ (b : Bool). placed c.args.env.now (bits_at signal (word_places signal b (constant_bits ti))) tv) c.signed-signed.ensures)

pub call_write-requires-clause-call : goal.call_write-requires-clause-call
call_write-requires-clause-call c =
    let a = c.args.templates.now.arena in
    let signal = signal_at (arena_signals a) c.args.signal in
    let index = tree_at (arena_trees a) c.args.at in
    subst (λ (k : AnyKernel). IsCallable c.args.code.now k (map (slice_index c.args.env.now) (bits_of_signal signal) ∷ c.args.address.now ∷ c.args.value.now ∷ []) (signal_length signal))
    (kernel_is signal index c.memory_addresses-range.result c.signed-signed.result c.memory_addresses-range.ensures c.signed-signed.ensures)
    (can c.args.env.now c.args.code.now signal index c.args.address.now c.args.value.now c.requires.fit c.requires.room (within_is (length c.args.env.now) signal c.requires.within) c.requires.address c.requires.value c.requires.long
    (λ h. true≢false (sym (c.are_constant.ensures.1 h) ∙ c.if-are_constant.false)) c.requires.indexed).call

pub returns : goal.returns
returns c =
    let a = c.args.templates.now.arena in
    let signal = signal_at (arena_signals a) c.args.signal in
    let index = tree_at (arena_trees a) c.args.at in
    let env = c.args.env.now in
    let code = c.args.code.now in
    let ti = c.args.address.now in
    let tv = c.args.value.now in
    let w = can env code signal index ti tv c.requires.fit c.requires.room (within_is (length c.args.env.now) signal c.requires.within) c.requires.address c.requires.value c.requires.long
    (λ h. true≢false (sym (c.are_constant.ensures.1 h) ∙ c.if-are_constant.false)) c.requires.indexed in
    called_adds env c.call_write.new.env code c.call_write.new.code (writer signal index) (WordOf signal index) signal index (word_places signal (sign index)) (word_length signal) ti tv (word_writer signal index c.requires.fit) c.requires.room c.requires.address c.requires.value c.requires.long w
    (c.in_ok-call_write.ensures.code ∙ ap (λ (k : AnyKernel). with_call code k (map (slice_index env) (bits_of_signal signal) ∷ ti ∷ tv ∷ []) (signal_length signal)) (sym (kernel_is signal index c.memory_addresses-range.result c.signed-signed.result c.memory_addresses-range.ensures c.signed-signed.ensures)))
    c.in_ok-call_write.ensures.env
