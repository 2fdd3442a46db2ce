-- The heaviest processes of a design that is too large.
use Rattle.std.specs.Prelude.{ℕ, ◌-◌, ◌==◌, nat_le, List, [], ◌∷◌, ◌++◌, map, min, take, Option, Some, None, option_map, codes, if◌then◌else◌}
use Rattle.std.specs.List.{flat_map}
use Rattle.std.specs.Option.{option_map_or}
use Rattle.vs_design.specs.Designs.{Process}
use Rattle.vs_design.specs.Sizes.{process_weight}
use Rattle.vs_flat.specs.DesignOf.{design_of}
use Rattle.vs_names.specs.Drawn.{Drawn, byte_of}
use Rattle.vs_excerpt.specs.Escapes.{escaped}
use Rattle.vs_explanation.specs.declared.heavy.Heavy.{Heavy}
use Rattle.vs_job.specs.declared.job.Job.{Job}
use Rattle.vs_explanation.specs.Files.{file_place}
use Rattle.vs_explanation.specs.Placed.{found_in}
use Rattle.vs_explanation.specs.Seen.{Seen}
use Rattle.vs_explanation.specs.Subjects.{size_text}

-- ---- which they are

-- where a reader finds a process, and what it weighs; a weight of 2^64 or more is told as 2^64 - 1
abbrev pub heavy_of : Drawn → Process → Heavy
heavy_of d p = record { at = byte_of d p; weight = min (process_weight p) 18446744073709551615 }

-- among others in the order of their weights: before the first that is no heavier
abbrev pub placed : Heavy → List Heavy → List Heavy
placed p [] = p ∷ []
placed p (q ∷ qs) = if nat_le q.weight p.weight then p ∷ (q ∷ qs) else q ∷ placed p qs

-- by weight, the heaviest first, and of equal ones the first
abbrev pub by_weight : List Heavy → List Heavy
by_weight [] = []
by_weight (p ∷ ps) = placed p (by_weight ps)

-- the ten heaviest
abbrev pub heaviest : List Heavy → List Heavy
heaviest ps = take 10 (by_weight ps)

-- of a design: of equal ones that of the lowest number
abbrev pub heaviest_of : Drawn → List Heavy
heaviest_of d = heaviest (map (heavy_of d) (design_of d.flat).processes)

-- processes by their bytes and their weights
abbrev pub paired : List (Option ℕ) → List ℕ → List Heavy
paired [] weights = []
paired (at ∷ bytes) [] = []
paired (at ∷ bytes) (weight ∷ weights) = record { at = at; weight = weight } ∷ paired bytes weights

-- ---- what is said of them

-- the byte of the file at which a reader finds a process
abbrev pub byte_in : Seen → Heavy → Option ℕ
byte_in seen p = option_map (λ (byte : ℕ). byte - seen.head) p.at

-- where a process stands, and the path of the design alone where it stands nowhere
abbrev pub heavy_place : Job → Seen → Option ℕ → List ℕ
heavy_place job seen at = option_map_or (λ byte. found_in (file_place job seen byte)) at (escaped job.design)

-- `d.v:12:3: note: 1048576 plane operations a half-period`
abbrev pub heavy_at : Job → Seen → Heavy → List ℕ
heavy_at job seen p = heavy_place job seen (byte_in seen p) ++ (codes ": note: " ++ (size_text p.weight ++ codes "\n"))

-- a process that weighs nothing isn't told
abbrev pub heavy_line : Job → Seen → Heavy → List ℕ
heavy_line job seen p = if p.weight == 0 then [] else heavy_at job seen p

-- no process was weighed
abbrev pub unweighed_text : Option (List ℕ) → List ℕ
unweighed_text None = codes "note: the file can't be read again\n"
unweighed_text (Some text) = codes "note: the file has changed: it elaborates to no design, or a length or a division of it is refused, so no process is weighed\n"

abbrev pub heavy_lines : Job → Seen → List Heavy → List ℕ
heavy_lines job seen ps = flat_map (heavy_line job seen) ps

abbrev pub heavy_text : Job → Seen → Option (List Heavy) → List ℕ
heavy_text job seen None = unweighed_text seen.file
heavy_text job seen (Some ps) = heavy_lines job seen ps
