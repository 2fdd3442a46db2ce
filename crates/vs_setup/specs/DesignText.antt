-- The text of the design: the lines of the macros that the words define, and behind them its files, each taken from its place.
use Rattle.std.specs.Prelude.{◌≡◌, ◌⊎◌, ℕ, zero, suc, ◌+◌, ◌-◌, ◌<◌, ◌≤◌, Bool, IsTrue, IsNone, List, [], ◌∷◌, ◌++◌, length, take, drop, slice_index_or}
use Rattle.std.specs.List.{flat_map}
use Rattle.vs_desk.specs.declared.desk.Way.TheVariants.{Read}
use Rattle.vs_desk.specs.Desk.{Register, Contents, Told, with_place, Fails}
use Rattle.vs_desk.specs.Places.{design_place, other_place, with_places}
use Rattle.vs_accept.specs.Accepted.{most_bytes}
use Rattle.vs_job.specs.declared.job.Job.{Job}
use Rattle.vs_setup.specs.declared.design_text.DesignError.{DesignError}
use Rattle.vs_setup.specs.declared.design_text.DesignError.TheVariants.{TooLong, ReadFault, Memory}

-- nothing changed of the files and of what was put
pub record AreTextsKept (old new : Contents) : Type 0 where
  pub files : new.files ≡ old.files
  pub put : new.put ≡ old.put

-- the bytes of the design's files: those of the first one and, after a line feed each, those of the others in their order
abbrev pub joined_files : (List ℕ → List ℕ) → List ℕ → List (List ℕ) → List ℕ
joined_files files design others = files design ++ flat_map (λ (path : List ℕ). 10 ∷ files path) others

-- the text of a design: this head, and its files behind it
abbrev pub whole_design : List ℕ → List ℕ → List (List ℕ) → Contents → List ℕ
whole_design head design others c = head ++ joined_files c.files design others

-- the text that is accepted or refused, where the files have these bytes
abbrev pub design_text : Job → Contents → List ℕ
design_text job c = whole_design job.head job.design job.others c

-- The text is this head with bytes behind it, which are these where the desk tells.
pub record IsBehind (tells : Bool) (head file text : List ℕ) : Type 0 where
  pub taken : List ℕ
  pub text_is : text ≡ head ++ taken
  pub taken_is : IsTrue tells → taken ≡ file

-- ---- one file, behind bytes that were read before

-- These bytes and the file have more bytes than a text may have, and just the first byte that is too many was taken too.
pub record IsTooLongBehind (before file left : List ℕ) : Type 0 where
  pub long : most_bytes < length (before ++ file)
  pub taken : left ≡ drop (most_bytes + 1 - length before) file

-- Some first bytes of the file were taken, with those before it not more than a text may have.
pub record IsPartTaken (before file left : List ℕ) : Type 0 where
  pub count : ℕ
  pub few : length before + count ≤ most_bytes
  pub left_is : left ≡ drop count file

-- The attach of the file's place failed, or a take there did, behind a part of the path's file.
abbrev pub FileFails : {tells : Bool} → Told tells → Told tells → (place : ℕ) → (before path : List ℕ) → Type 0
FileFails {tells} old new place before path = Fails old.register new.register place path
    ⊎ (Fails (with_place old.register place Read path) new.register place old.register.asked × (IsTrue tells → IsPartTaken before (old.contents.files path) (new.contents.left place)))

-- ---- all files of the design: file 0 is the design's own, and file 1 + i its further file i

-- the register after the places of the design and of these further files were attached to their paths
abbrev pub with_design : Register → List ℕ → List (List ℕ) → Register
with_design register design others = with_places (with_place register design_place Read design) (other_place 0) Read others

-- after the places of the first files were attached, of so many
abbrev pub with_files : Register → Job → ℕ → Register
with_files register job zero = register
with_files register job (suc i) = with_design register job.design (take i job.others)

-- the place of a file
abbrev pub file_place : ℕ → ℕ
file_place zero = design_place
file_place (suc i) = other_place i

-- its path
abbrev pub file_path : Job → ℕ → List ℕ
file_path job zero = job.design
file_path job (suc i) = slice_index_or job.others i []

-- what stands before it in the text
abbrev pub text_before : Job → Contents → ℕ → List ℕ
text_before job c zero = job.head
text_before job c (suc i) = whole_design job.head job.design (take i job.others) c ++ 10 ∷ []

-- The text has more bytes than it may have, and just the first byte that is too many was taken too, out of this file.
pub record IsTooLong (job : Job) (old new : Contents) (n : ℕ) : Type 0 where
  pub long : most_bytes < length (design_text job old)
  pub within : length (text_before job old n) ≤ most_bytes + 1
  pub taken : new.left (file_place n) ≡ drop (most_bytes + 1 - length (text_before job old n)) (old.files (file_path job n))

-- every file was taken to its end
pub record AreTaken (job : Job) (new : Contents) : Type 0 where
  pub design : new.left design_place ≡ []
  pub others : (i : ℕ) → i < length job.others → new.left (other_place i) ≡ []

-- The attach of this file's place failed, behind the files before it, or a take there did, behind a part of the file.
abbrev pub DesignFails : {tells : Bool} → Job → Told tells → Told tells → ℕ → Type 0
DesignFails {tells} job old new n = Fails (with_files old.register job n) new.register (file_place n) (file_path job n)
    ⊎ (Fails (with_files old.register job (suc n)) new.register (file_place n) old.register.asked
    × (IsTrue tells → IsPartTaken (text_before job old.contents n) (old.contents.files (file_path job n)) (new.contents.left (file_place n))))

-- a fault at the place of a file of the design, behind text that it may have
pub record IsDesignFault {tells : Bool} (job : Job) (old new : Told tells) (place : ℕ) : Type 0 where
  pub file : ℕ
  pub is_file : file ≤ length job.others
  pub place_is : place ≡ file_place file
  pub within : IsTrue tells → length (text_before job old.contents file) ≤ most_bytes + 1
  pub fails : DesignFails job old new file

-- Why the design's text wasn't read, where the desk told this before and tells that now.
abbrev pub IsUnread : {tells : Bool} → Job → Told tells → Told tells → DesignError → Type 0
IsUnread {tells} job old new TooLong =
    (n : ℕ) × (n ≤ length job.others) × (new.register ≡ with_files old.register job (suc n)) × (IsTrue tells → IsTooLong job old.contents new.contents n)
IsUnread {tells} job old new (ReadFault place) = IsDesignFault job old new place
IsUnread {tells} job old new Memory = (n : ℕ) × (n ≤ 1 + length job.others) × (new.register ≡ with_files old.register job n)

-- none of the places of the design's files is attached, of so many further ones
pub record AreFilesFree (register : Register) (others : ℕ) : Type 0 where
  pub design : IsNone (register.attached design_place)
  pub each : (i : ℕ) → i < others → IsNone (register.attached (other_place i))
