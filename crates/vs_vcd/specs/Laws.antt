-- What a VCD is made of.
use Rattle.std.specs.Prelude.{◌≡◌, ◌↔◌, ◌*◌, ℕ, suc, List, [], ◌∷◌, ◌++◌, length, map}
use Rattle.vs_four.specs.declared.Bit4.TheVariants.{One}
use Rattle.vs_four.specs.Logic.{BitList, identical}
use Rattle.vs_net.specs.Network.{State}
use Rattle.vs_design.specs.Expressions.{signal_length}
use Rattle.vs_design.specs.Designs.{Design}
use Rattle.vs_vcd.specs.Scopes.{shown_signals, head_text}
use Rattle.vs_vcd.specs.Texts.{shown_numbers, values_of, first_text, slot_text, last_text, slot_texts, vcd}

-- the head, the slots and the last line
abbrev pub VcdIsParts : Type 0
VcdIsParts = (d : Design) (half : ℕ) (ends : List State) → vcd d half ends ≡ head_text d ++ slot_texts d half ends ++ last_text (length ends * half)

-- the first slot begins the slots, and each later one goes on with them
abbrev pub FirstSlot : Type 0
FirstSlot = (d : Design) (half : ℕ) (now : State) → slot_texts d half (now ∷ []) ≡ first_text (shown_numbers d) (values_of d now)

abbrev pub NextSlot : Type 0
NextSlot = (d : Design) (half : ℕ) (ends : List State) (before now : State)
    → slot_texts d half (ends ++ before ∷ now ∷ []) ≡ slot_texts d half (ends ++ before ∷ []) ++ slot_text (shown_numbers d) (suc (length ends) * half) (values_of d before) (values_of d now)

-- each value has its signal's length
abbrev pub ValuesFit : Type 0
ValuesFit = (d : Design) (state : State) → map length (values_of d state) ≡ map signal_length (shown_signals d)

-- a value is left out exactly where it is that of the slot before
abbrev pub UnchangedIsEqual : Type 0
UnchangedIsEqual = (a b : BitList) → length a ≡ length b → (identical a b ≡ One) ↔ (a ≡ b)
