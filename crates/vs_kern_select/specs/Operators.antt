-- What each kernel computes (IEEE 1364-2005, 4.9.3, 5.1.12, 5.1.13, 5.2.1 and 9.4).
use Rattle.std.specs.Prelude.{ℕ, List, length, if◌then◌else◌}
use Rattle.vs_four.specs.Tables.{is_one}
use Rattle.vs_four.specs.Logic.{BitList, truth, choose as choose_by}
use Rattle.vs_four.specs.Shifts.{shift_left, shift_right, shift_arith}
use Rattle.vs_four.specs.Selects.{Part, select, write_select}
use Rattle.vs_plane.specs.Kernels.{binary, ternary}
use Rattle.vs_kern_select.specs.declared.costs.Kernel.{Kernel}
use Rattle.vs_kern_select.specs.declared.costs.Kernel.TheVariants.{ShiftLeft, ShiftRight, ShiftArith, Select, Write, ReadWord, WriteWord, Choose, Branch}
use Rattle.vs_kern_select.specs.declared.costs.Selection.{Selection}
use Rattle.vs_kern_select.specs.Words.{select_word, write_word}

-- `c ? p : q`, by the truth of c (5.1.13)
abbrev pub choose : BitList → BitList → BitList → BitList
choose c p q = choose_by (truth c) p q

-- what stands after an `if (c)` whose branches leave p and q: its first branch is taken where the truth of c is 1, and else the other (9.4)
abbrev pub branch : BitList → BitList → BitList → BitList
branch c p q = if is_one (truth c) then p else q

-- the bits that a select of this many takes
abbrev pub part_of : Selection → ℕ → Part
part_of s width = record { range = s.range; up = s.up; width = width }

abbrev pub select_of : Selection → ℕ → BitList → BitList → BitList
select_of s width a base = select (part_of s width) s.signed a base

-- the vector a with the value written to a select of it
abbrev pub write_of : Selection → BitList → BitList → BitList → BitList
write_of s a base value = write_select (part_of s (length value)) s.signed a base value

-- the operator of each kernel whose value has `width` bits, of the list of its arguments
abbrev pub operator_of : Kernel → ℕ → List BitList → BitList
operator_of ShiftLeft width = binary shift_left
operator_of ShiftRight width = binary shift_right
operator_of ShiftArith width = binary shift_arith
operator_of (Select s) width = binary (select_of s width)
operator_of (Write s) width = ternary (write_of s)
operator_of (ReadWord m) width = binary (select_word m.range width m.signed)
operator_of (WriteWord m) width = ternary (write_word m.range m.signed)
operator_of Choose width = ternary choose
operator_of Branch width = ternary branch
