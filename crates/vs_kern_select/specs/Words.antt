-- Words of a memory, read and written by an address (IEEE 1364-2005, 4.9.3). Its bits are those of its words, one word after the other by ascending address, and each word's least significant bit first.
use Rattle.std.specs.Prelude.{ℕ, zero, suc, ◌*◌, Bool, List, [], ◌∷◌, map, length, replicate, if◌then◌else◌, Option, Some, None}
use Rattle.vs_four.specs.declared.Bit4.TheVariants.{X}
use Rattle.vs_four.specs.declared.Range.{Range}
use Rattle.vs_four.specs.Logic.{BitList, all_known}
use Rattle.vs_four.specs.Numbers.{integer}
use Rattle.vs_four.specs.Selects.{place_of, at_place, write_places}

-- so many numbers, from this one on
abbrev pub count_from : ℕ → ℕ → List ℕ
count_from first zero = []
count_from first (suc count) = first ∷ count_from (suc first) count

-- the place of the word with this address among the words of a memory of this range of addresses; an address that is unknown or out of range has none
abbrev pub address_place : Range → Bool → BitList → Option ℕ
address_place range signed address = if all_known address then place_of range (integer signed address) else None

-- the places of the k bits of the word at this place
abbrev pub spread : ℕ → Option ℕ → List (Option ℕ)
spread k None = replicate k None
spread k (Some n) = map Some (count_from (n * k) k)

-- the places of a word's k bits among those of its memory
abbrev pub word_places : Range → ℕ → Bool → BitList → List (Option ℕ)
word_places range k signed address = spread k (address_place range signed address)

-- the word of k bits at this address, of a memory of these bits: all x where there is none
abbrev pub select_word : Range → ℕ → Bool → BitList → BitList → BitList
select_word range k signed a address = map (at_place X a) (word_places range k signed address)

-- a memory of these bits with a word written at this address: where there is none, it stays
abbrev pub write_word : Range → Bool → BitList → BitList → BitList → BitList
write_word range signed a address value = write_places a (word_places range (length value) signed address) value
