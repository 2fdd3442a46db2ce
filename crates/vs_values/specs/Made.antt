-- How the slots of a value come from those of its operands: with no call, or by one.
use Rattle.std.specs.Prelude.{◌≡◌, ◌⊎◌, ℕ, ◌+◌, ◌<◌, ◌≤◌, ◌^◌, Bool, true, false, List, [], ◌∷◌, map, slice_index}
use Rattle.std.specs.List.{range_with_len}
use Rattle.vs_four.specs.Logic.{truth, choose}
use Rattle.vs_four.specs.Selects.{Part}
use Rattle.vs_design.specs.Expressions.{Signal, signal_length, word_length, addresses, UnaryOp, Source, OfSignal, OfConstant}
use Rattle.vs_design.specs.Values.{apply_unary, bits_of_signal}
use Rattle.vs_kern_select.specs.declared.costs.Kernel.TheVariants as S
use Rattle.vs_code.specs.declared.kernels.AnyKernel.{AnyKernel}
use Rattle.vs_code.specs.declared.kernels.AnyKernel.TheVariants.{Select}
use Rattle.vs_code.specs.Calls.{IsCall, call_cost, length_of}
use Rattle.vs_values.specs.Added.{fresh_call}
use Rattle.vs_values.specs.Coded.{Coding, with_call}
use Rattle.vs_values.specs.Constants.{AreConstant, constant_slots, constant_bits, extended_slots, selected_slots, word_slots}
use Rattle.vs_values.specs.Choices.{unary_kernel, unary_result, is_kept}

-- such a call may be added
pub record IsCallable (code : Coding) (kernel : AnyKernel) (args : List (List ℕ)) (width : ℕ) : Type 0 where
  pub is : IsCall (fresh_call kernel args code.next width)
  pub slots : code.next + width < 2 ^ 32
  pub few : length_of code.calls + call_cost (fresh_call kernel args code.next width) ≤ 2 ^ 32

-- nothing was added, and the slots are these
pub record IsWithout (old new : Coding) (to slots : List ℕ) : Type 0 where
  pub same : new ≡ old
  pub are : to ≡ slots

-- an operator of one operand: its slots kept, constants folded, or a call
pub record IsCalledUnary (op : UnaryOp) (w : ℕ) (signed : Bool) (a : List ℕ) (old new : Coding) (to : List ℕ) : Type 0 where
  pub kept : is_kept op ≡ false
  pub variable : AreConstant a → ⊥
  pub call : new ≡ with_call old (unary_kernel op) (a ∷ []) (unary_result op w)
  pub are : to ≡ extended_slots w signed (range_with_len old.next (unary_result op w))

abbrev pub IsUnary : UnaryOp → ℕ → Bool → List ℕ → Coding → Coding → List ℕ → Type 0
IsUnary op w signed a old new to =
    ((is_kept op ≡ true) × IsWithout old new to (extended_slots w signed a))
    ⊎ ((AreConstant a × IsWithout old new to (extended_slots w signed (constant_slots (apply_unary op (constant_bits a))))) ⊎ IsCalledUnary op w signed a old new to)

-- `c ? p : q`
abbrev pub AllConstant : List ℕ → List ℕ → List ℕ → Type 0
AllConstant c p q = AreConstant c × (AreConstant p × AreConstant q)

pub record IsCalledChoice (w : ℕ) (c p q : List ℕ) (old new : Coding) (to : List ℕ) : Type 0 where
  pub variable : AllConstant c p q → ⊥
  pub call : new ≡ with_call old (Select S.Choose) (c ∷ p ∷ q ∷ []) w
  pub are : to ≡ range_with_len old.next w

abbrev pub IsChoice : ℕ → List ℕ → List ℕ → List ℕ → Coding → Coding → List ℕ → Type 0
IsChoice w c p q old new to =
    (AllConstant c p q × IsWithout old new to (constant_slots (choose (truth (constant_bits c)) (constant_bits p) (constant_bits q)))) ⊎ IsCalledChoice w c p q old new to

-- the slots of what a select takes its bits of
abbrev pub source_slots : List ℕ → Source → List ℕ
source_slots env (OfSignal signal) = map (slice_index env) (bits_of_signal signal)
source_slots env (OfConstant bits) = constant_slots bits

-- the bits of a signal are among the design's
abbrev pub SourceInside : ℕ → Source → Type 0
SourceInside bits (OfSignal signal) = signal.first + signal_length signal ≤ bits
SourceInside bits (OfConstant v) = 0 ≤ bits

-- a select by an index in constants' slots, or a call
abbrev pub select_kernel : Part → Bool → AnyKernel
select_kernel part signed = Select (S.Select (record { range = part.range; signed = signed; up = part.up }))

pub record IsCalledSelect (part : Part) (of_index : Bool) (w : ℕ) (signed : Bool) (from index : List ℕ) (old new : Coding) (to : List ℕ) : Type 0 where
  pub variable : AreConstant index → ⊥
  pub call : new ≡ with_call old (select_kernel part of_index) (from ∷ index ∷ []) part.width
  pub are : to ≡ extended_slots w signed (range_with_len old.next part.width)

abbrev pub IsSelect : Part → Bool → ℕ → Bool → List ℕ → List ℕ → Coding → Coding → List ℕ → Type 0
IsSelect part of_index w signed from index old new to =
    (AreConstant index × IsWithout old new to (extended_slots w signed (selected_slots part of_index from (constant_bits index)))) ⊎ IsCalledSelect part of_index w signed from index old new to

-- a word by an address in constants' slots, or a call
abbrev pub word_kernel : Signal → Bool → AnyKernel
word_kernel signal signed = Select (S.ReadWord (record { range = addresses signal; signed = signed }))

pub record IsCalledWord (signal : Signal) (of_index : Bool) (w : ℕ) (signed : Bool) (from index : List ℕ) (old new : Coding) (to : List ℕ) : Type 0 where
  pub variable : AreConstant index → ⊥
  pub call : new ≡ with_call old (word_kernel signal of_index) (from ∷ index ∷ []) (word_length signal)
  pub are : to ≡ extended_slots w signed (range_with_len old.next (word_length signal))

abbrev pub IsWord : Signal → Bool → ℕ → Bool → List ℕ → List ℕ → Coding → Coding → List ℕ → Type 0
IsWord signal of_index w signed from index old new to =
    (AreConstant index × IsWithout old new to (extended_slots w signed (word_slots signal of_index from (constant_bits index)))) ⊎ IsCalledWord signal of_index w signed from index old new to
