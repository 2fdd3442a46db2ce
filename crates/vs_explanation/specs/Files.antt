-- The file of a design in which a byte of its text lies.
use Rattle.std.specs.Prelude.{ℕ, ◌-◌, nat_le, List, [], ◌∷◌, take, drop, Option, option_map, if◌then◌else◌}
use Rattle.vs_job.specs.declared.job.Job.{Job}
use Rattle.vs_explanation.specs.declared.files.FilePlace.{FilePlace as Lent}
use Rattle.vs_explanation.specs.Seen.{Seen}

-- the path of a file, its bytes where it was read, and a byte of it
pub record FilePlace : Type 0 where
  pub path : List ℕ
  pub file : Option (List ℕ)
  pub at : ℕ

-- the bytes of a text from one on and before another
abbrev pub between : ℕ → ℕ → List ℕ → List ℕ
between from to text = drop from (take to text)

-- where a byte of a text lies: in the file of this path, which begins at this byte, or in a later one, of which these are the first bytes and the paths. A line feed stands before each later one.
abbrev pub place_from : (path : List ℕ) (from : ℕ) → (text : Option (List ℕ)) → (starts : List ℕ) → (paths : List (List ℕ)) → (at : ℕ) → FilePlace
place_from path from text [] paths at = record { path = path; file = option_map (drop from) text; at = at - from }
place_from path from text (next ∷ starts) [] at = record { path = path; file = option_map (drop from) text; at = at - from }
place_from path from text (next ∷ starts) (other ∷ paths) at =
    if nat_le next at then place_from other next text starts paths at else record { path = path; file = option_map (between from (next - 1)) text; at = at - from }

-- where a byte of the design's text lies, the lines of macros before it not counted
abbrev pub file_place : Job → Seen → ℕ → FilePlace
file_place job seen at = place_from job.design 0 seen.file seen.starts job.others at

abbrev pub place_of : Lent → FilePlace
place_of p = record { path = p.path.now; file = option_map (λ t. t.now) p.file; at = p.at }
