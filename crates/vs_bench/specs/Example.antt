-- Worked texts and paths of a bench.
use Rattle.std.specs.Prelude.{◌≡◌, [], ◌∷◌, length, codes}
use Rattle.vs_bench.specs.Texts.{design, state, line, stimulus}
use Rattle.vs_bench.specs.Bench.{lane_path, lane_paths, files}

abbrev pub StatesComputed : Type 0
StatesComputed = (state 0 0 ≡ 1) × (state 0 1 ≡ 7806831264735756412) × (state 0 2 ≡ 9396908728118811419) × (state 255 0 ≡ 256)

-- the second line is line 0 of lane 0, and the third its line 1
abbrev pub TextsComputed : Type 0
TextsComputed = (stimulus 0 2 ≡ codes "inputs rst a\n1 01101100010101110110111110101100\n0 10000010011010001000011010110011\n")
    × (line 0 2 ≡ codes "0 10100101111110101110000110011001\n") × (line 255 0 ≡ codes "1 01100101111110011010100011001011\n") × (stimulus 9 0 ≡ codes "inputs rst a\n")

abbrev pub LengthsComputed : Type 0
LengthsComputed = (length design ≡ 488) × (length (line 7 0) ≡ 35) × (length (stimulus 0 2) ≡ 83)

abbrev pub PathsComputed : Type 0
PathsComputed = (lane_path 17 ≡ codes "17") × (lane_paths 3 ≡ codes "0" ∷ codes "1" ∷ codes "2" ∷ [])

abbrev pub FilesComputed : Type 0
FilesComputed = ((files 2 2).files (codes "bench.v") ≡ design) × ((files 2 2).files (codes "1") ≡ stimulus 1 2) × ((files 2 2).files (codes "2") ≡ [])
