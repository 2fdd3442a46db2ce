-- The files of a design, read one behind the other.
use Rattle.std.proofs.Common.{◌≡◌, ◌⊎◌, inl, inr, ℕ, suc, ◌+◌, ◌<◌, ◌≤◌, Bool, IsTrue, List, [], ◌∷◌, ◌++◌, length, take, get_or, refl, sym, ap, ◌∙◌, subst, arith, add-one, append_assoc, append-nil, below_more}
use Rattle.std.specs.List.{flat_map}
use Rattle.std.proofs.lemmas.Grind.{flat_map-append}
use Rattle.std.proofs.lemmas.List.{length-append, length-take-le, take_more}
use Rattle.std.proofs.lemmas.List.Folds.{length-flat_map-take}
use Rattle.vs_desk.specs.declared.desk.Way.TheVariants.{Read}
use Rattle.vs_desk.specs.Desk.{Register, Told, Fails, with_place}
use Rattle.vs_desk.specs.Laws.{NextPlaceIsAttached, NoCallFailed}
use Rattle.vs_desk.specs.Places.{design_place, other_place, with_places}
use Rattle.vs_desk.specs.Taking.{OnlyTaken}
use Rattle.vs_accept.specs.Accepted.{most_bytes}
use Rattle.vs_job.specs.declared.job.Job.{Job}
use Rattle.vs_setup.specs.declared.design_text.DesignError.{DesignError}
use Rattle.vs_setup.specs.declared.design_text.DesignError.TheVariants.{TooLong, ReadFault, Memory}
use Rattle.vs_setup.specs.DesignText.{AreTextsKept, DesignFails, FileFails, IsBehind, IsDesignFault, IsPartTaken, IsTooLong, IsTooLongBehind, IsUnread, design_text, joined_files, text_before, with_design, with_files, file_path, file_place}

-- ---- their bytes

-- one file more
joined_more : (files : List ℕ → List ℕ) (design : List ℕ) (paths : List (List ℕ)) (path : List ℕ) → joined_files files design (paths ++ path ∷ []) ≡ joined_files files design paths ++ (10 ∷ files path)
joined_more files design paths path =
    let line : List ℕ → List ℕ = λ p. 10 ∷ files p in
    ap (λ (xs : List ℕ). files design ++ xs) (flat_map-append line paths (path ∷ []) ∙ ap (λ (xs : List ℕ). flat_map line paths ++ xs) (append-nil (line path)))
    ∙ sym (append_assoc (files design) (flat_map line paths) (line path))

-- no file is longer than what is left of the text for it
joined_within : (files : List ℕ → List ℕ) (design : List ℕ) (others : List (List ℕ)) (k : ℕ) → k < length others
    → length (joined_files files design (take k others)) + (1 + length (files (get_or others k []))) ≤ length (joined_files files design others)
joined_within files design others k lt =
    let line : List ℕ → List ℕ = λ p. 10 ∷ files p in
    let part = length-flat_map-take line others k [] lt in
    let a = length-append (files design) (flat_map line (take k others)) in
    let b = length-append (files design) (flat_map line others) in
    omega arith

-- ---- the design and its first further files were read, of so many, as this text

pub record AreRead {tells : Bool} (job : Job) (old new : Told tells) (k : ℕ) (text : List ℕ) : Type 0 where
  pub register_is : new.register ≡ with_design old.register job.design (take k job.others)
  pub behind : IsBehind tells job.head (joined_files old.contents.files job.design (take k job.others)) text
  pub short : length text ≤ most_bytes
  pub design : IsTrue tells → new.contents.left design_place ≡ []
  pub others : IsTrue tells → (i : ℕ) → i < k → new.contents.left (other_place i) ≡ []
  pub kept : IsTrue tells → AreTextsKept old.contents new.contents

-- what was read of one file, behind bytes before it
pub record IsFileRead {tells : Bool} (old new : Told tells) (place : ℕ) (before path text : List ℕ) : Type 0 where
  pub register_is : new.register ≡ with_place old.register place Read path
  pub behind : IsBehind tells before (old.contents.files path) text
  pub short : length text ≤ most_bytes
  pub end : IsTrue tells → new.contents.left place ≡ []
  pub only : IsTrue tells → OnlyTaken place old.contents new.contents

pub first_read : {tells : Bool} (job : Job) (old new : Told tells) (text : List ℕ) → IsFileRead old new design_place job.head job.design text → AreRead job old new 0 text
first_read {tells} job old new text r = record {
  register_is = r.register_is;
  behind = record {
    taken = r.behind.taken;
    text_is = r.behind.text_is;
    taken_is = λ t. r.behind.taken_is t ∙ sym (append-nil (old.contents.files job.design));
  };
  short = r.short;
  design = r.end;
  others = λ t i lt. absurd (omega arith);
  kept = λ t. record { files = (r.only t).files; put = (r.only t).put };
}

-- the register after one more attach
next_register : NextPlaceIsAttached → (r : Register) (design : List ℕ) (others : List (List ℕ)) (k : ℕ) → k < length others
    → with_place (with_design r design (take k others)) (other_place k) Read (get_or others k []) ≡ with_design r design (take (k + 1) others)
next_register next r design others k lt =
    let first = with_place r design_place Read design in
    let before = take k others in
    let path = get_or others k [] in
    let count = length-take-le k others (omega arith) in
    let place : other_place 0 + length before ≡ other_place k = omega arith in
    sym (ap (λ (ps : List (List ℕ)). with_places first (other_place 0) Read ps) (take_more others k [] lt) ∙ next first (other_place 0) Read before path
    ∙ ap (λ (n : ℕ). with_place (with_places first (other_place 0) Read before) n Read path) place)

-- the bytes of one more file, behind a line feed
more_behind : (tells : Bool) (head joined file text grown : List ℕ) → IsBehind tells head joined text → IsBehind tells (text ++ 10 ∷ []) file grown → IsBehind tells head (joined ++ (10 ∷ file)) grown
more_behind tells head joined file text grown b m = record {
  taken = b.taken ++ (10 ∷ m.taken);
  text_is = m.text_is ∙ append_assoc text (10 ∷ []) m.taken ∙ ap (λ (xs : List ℕ). xs ++ (10 ∷ m.taken)) b.text_is ∙ append_assoc head b.taken (10 ∷ m.taken);
  taken_is = λ t. ap (λ (xs : List ℕ). xs ++ (10 ∷ m.taken)) (b.taken_is t) ∙ ap (λ (xs : List ℕ). joined ++ (10 ∷ xs)) (m.taken_is t);
}

pub more_read : {tells : Bool} (job : Job) (old mid new : Told tells) (k : ℕ) (text grown : List ℕ) → NextPlaceIsAttached → k < length job.others → AreRead job old mid k text
    → IsFileRead mid new (other_place k) (text ++ 10 ∷ []) (get_or job.others k []) grown → AreRead job old new (k + 1) grown
more_read {tells} job old mid new k text grown next lt up r = record {
  register_is = r.register_is ∙ ap (λ (x : Register). with_place x (other_place k) Read path) up.register_is ∙ next_register next old.register job.design job.others k lt;
  behind = subst (λ (xs : List ℕ). IsBehind tells job.head xs grown) joined (more_behind tells job.head _ (old.contents.files path) text grown up.behind same);
  short = r.short;
  design = λ t. (r.only t).left design_place (λ e. omega arith) ∙ up.design t;
  others = λ t. below_more (λ (i : ℕ). new.contents.left (other_place i) ≡ []) k (λ i below. (r.only t).left (other_place i) (λ e. omega arith) ∙ up.others t i below) (r.end t);
  kept = λ t. record { files = (r.only t).files ∙ (up.kept t).files; put = (r.only t).put ∙ (up.kept t).put };
}
  where
    path : List ℕ
    path = get_or job.others k []

    joined : joined_files old.contents.files job.design (take k job.others) ++ (10 ∷ old.contents.files path) ≡ joined_files old.contents.files job.design (take (k + 1) job.others)
    joined = sym (ap (λ (ps : List (List ℕ)). joined_files old.contents.files job.design ps) (take_more job.others k [] lt) ∙ joined_more old.contents.files job.design (take k job.others) path)

    same : IsBehind tells (text ++ 10 ∷ []) (old.contents.files path) grown
    same = record {
      taken = r.behind.taken;
      text_is = r.behind.text_is;
      taken_is = λ t. r.behind.taken_is t ∙ ap (λ (files : List ℕ → List ℕ). files path) (up.kept t).files;
    }

-- ---- a text that is too long

pub first_long : {tells : Bool} (job : Job) (old new : Told tells) → length job.head ≤ most_bytes + 1 → IsTooLongBehind job.head (old.contents.files job.design) (new.contents.left design_place) → IsTooLong job old.contents new.contents 0
first_long job old new few h =
    let files = old.contents.files in
    let line : List ℕ → List ℕ = λ p. 10 ∷ files p in
    let a = length-append job.head (files job.design) in
    let b = length-append job.head (joined_files files job.design job.others) in
    let c = length-append (files job.design) (flat_map line job.others) in
    record { long = omega (arith, h.long); within = few; taken = h.taken }

-- the text before a further file, where the desk tells
before_is : {tells : Bool} (job : Job) (old mid : Told tells) (k : ℕ) (text : List ℕ) → AreRead job old mid k text → IsTrue tells → text ++ 10 ∷ [] ≡ text_before job old.contents (suc k)
before_is job old mid k text up t = ap (λ (xs : List ℕ). xs ++ 10 ∷ []) (up.behind.text_is ∙ ap (λ (xs : List ℕ). job.head ++ xs) (up.behind.taken_is t))

before_within : {tells : Bool} (job : Job) (old mid : Told tells) (k : ℕ) (text : List ℕ) → AreRead job old mid k text → IsTrue tells → length (text_before job old.contents (suc k)) ≤ most_bytes + 1
before_within job old mid k text up t =
    let e = ap (λ (xs : List ℕ). length xs) (before_is job old mid k text up t) in
    let a = length-append text (10 ∷ []) in
    omega (arith, up.short)

pub more_long : {tells : Bool} (job : Job) (old mid new : Told tells) (k : ℕ) (text : List ℕ) → k < length job.others → AreRead job old mid k text → IsTrue tells
    → IsTooLongBehind (text ++ 10 ∷ []) (mid.contents.files (get_or job.others k [])) (new.contents.left (other_place k)) → IsTooLong job old.contents new.contents (suc k)
more_long job old mid new k text lt up t h = record {
  long = is_long;
  within = before_within job old mid k text up t;
  taken = here.taken;
}
  where
    path : List ℕ
    path = get_or job.others k []

    before : List ℕ
    before = text_before job old.contents (suc k)

    -- the same of the files as they were
    here : IsTooLongBehind before (old.contents.files path) (new.contents.left (other_place k))
    here =
        subst (λ (xs : List ℕ). IsTooLongBehind xs (old.contents.files path) (new.contents.left (other_place k))) (before_is job old mid k text up t)
        (subst (λ (files : List ℕ → List ℕ). IsTooLongBehind (text ++ 10 ∷ []) (files path) (new.contents.left (other_place k))) (up.kept t).files h)

    whole : length (before ++ old.contents.files path) ≤ length (design_text job old.contents)
    whole =
        let files = old.contents.files in
        let front = joined_files files job.design (take k job.others) in
        let a = length-append before (files path) in
        let b = length-append (job.head ++ front) (10 ∷ []) in
        let c = length-append job.head front in
        let d = length-append job.head (joined_files files job.design job.others) in
        let e = joined_within files job.design job.others k lt in
        omega arith

    is_long : most_bytes < length (design_text job old.contents)
    is_long = omega (arith, here.long, whole)

-- ---- a call that failed

part_as : {tells : Bool} (job : Job) (old mid new : Told tells) (k : ℕ) (text : List ℕ) → AreRead job old mid k text → (t : IsTrue tells)
    → IsPartTaken (text ++ 10 ∷ []) (mid.contents.files (get_or job.others k [])) (new.contents.left (other_place k))
    → IsPartTaken (text_before job old.contents (suc k)) (old.contents.files (file_path job (suc k))) (new.contents.left (file_place (suc k)))
part_as job old mid new k text up t h =
    let path = get_or job.others k [] in
    subst (λ (xs : List ℕ). IsPartTaken xs (old.contents.files path) (new.contents.left (other_place k))) (before_is job old mid k text up t)
    (subst (λ (files : List ℕ → List ℕ). IsPartTaken (text ++ 10 ∷ []) (files path) (new.contents.left (other_place k))) (up.kept t).files h)

-- at the place of the design
pub first_fault : {tells : Bool} (job : Job) (old new : Told tells) (place : ℕ) → length job.head ≤ most_bytes + 1 → place ≡ design_place → FileFails old new design_place job.head job.design → IsDesignFault job old new place
first_fault job old new place few e h = record { file = 0; is_file = omega arith; place_is = e; within = λ t. few; fails = h }

-- no call failed as the places were attached
asked_is : NoCallFailed → (r : Register) (design : List ℕ) (others : List (List ℕ)) → (with_design r design others).asked ≡ r.asked
asked_is quiet r design others = (quiet (with_place r design_place Read design) (other_place 0) Read others).asked

pub more_fault : {tells : Bool} (job : Job) (old mid new : Told tells) (k place : ℕ) (text : List ℕ) → NextPlaceIsAttached → NoCallFailed → k < length job.others → place ≡ other_place k → AreRead job old mid k text
    → FileFails mid new (other_place k) (text ++ 10 ∷ []) (get_or job.others k []) → IsDesignFault job old new place
more_fault {tells} job old mid new k place text next quiet lt e up h = record {
  file = suc k;
  is_file = omega arith;
  place_is = e;
  within = λ t. before_within job old mid k text up t;
  fails = by h;
}
  where
    path : List ℕ
    path = get_or job.others k []

    attached : with_place mid.register (other_place k) Read path ≡ with_design old.register job.design (take (suc k) job.others)
    attached =
        ap (λ (x : Register). with_place x (other_place k) Read path) up.register_is ∙ next_register next old.register job.design job.others k lt
        ∙ ap (λ (n : ℕ). with_design old.register job.design (take n job.others)) (add-one k)

    asked : mid.register.asked ≡ old.register.asked
    asked = ap (λ (x : Register). x.asked) up.register_is ∙ asked_is quiet old.register job.design (take k job.others)

    by : FileFails mid new (other_place k) (text ++ 10 ∷ []) path → DesignFails job old new (suc k)
    by (inl f) = inl (subst (λ (x : Register). Fails x new.register (other_place k) path) up.register_is f)
    by (inr f) = inr (
      subst (λ (x : Register). Fails x new.register (other_place k) old.register.asked) attached
          (subst (λ (a : List ℕ). Fails (with_place mid.register (other_place k) Read path) new.register (other_place k) a) asked f.0),
      λ t. part_as job old mid new k text up t (f.1 t),
    )

-- ---- the register where it stops

pub attached_next : {tells : Bool} (job : Job) (old mid new : Told tells) (k : ℕ) (text : List ℕ) → NextPlaceIsAttached → k < length job.others → AreRead job old mid k text
    → new.register ≡ with_place mid.register (other_place k) Read (get_or job.others k []) → new.register ≡ with_files old.register job (suc (suc k))
attached_next job old mid new k text next lt up e =
    e ∙ ap (λ (x : Register). with_place x (other_place k) Read (get_or job.others k [])) up.register_is ∙ next_register next old.register job.design job.others k lt
    ∙ ap (λ (n : ℕ). with_design old.register job.design (take n job.others)) (add-one k)

-- ---- why it stops

-- why a file wasn't read behind these bytes
pub record IsFileUnread {tells : Bool} (old new : Told tells) (place : ℕ) (before path : List ℕ) (e : DesignError) : Type 0 where
  pub long : e ≡ TooLong → (new.register ≡ with_place old.register place Read path) × (IsTrue tells → IsTooLongBehind before (old.contents.files path) (new.contents.left place))
  pub memory : e ≡ Memory → (new.register ≡ old.register) ⊎ (new.register ≡ with_place old.register place Read path)
  pub fault : (p : ℕ) → e ≡ ReadFault p → (p ≡ place) × FileFails old new place before path

pub first_unread : {tells : Bool} (job : Job) (old new : Told tells) (e : DesignError) → length job.head ≤ most_bytes + 1 → IsFileUnread old new design_place job.head job.design e → IsUnread job old new e
first_unread job old new TooLong few h =
    let none_below : 0 ≤ length job.others = omega arith in
    (0, none_below, (h.long refl).0, λ t. first_long job old new few ((h.long refl).1 t))
first_unread job old new (ReadFault p) few h = first_fault job old new p few (h.fault p refl).0 (h.fault p refl).1
first_unread job old new Memory few h = by (h.memory refl)
  where
    by : (new.register ≡ old.register) ⊎ (new.register ≡ with_place old.register design_place Read job.design) → IsUnread job old new Memory
    by (inl same) =
        let few : 0 ≤ 1 + length job.others = omega arith in
        (0, few, same)
    by (inr attached) =
        let few : 1 ≤ 1 + length job.others = omega arith in
        (1, few, attached)

-- behind the first files
pub more_unread : {tells : Bool} (job : Job) (old mid new : Told tells) (k : ℕ) (text : List ℕ) (e : DesignError) → NextPlaceIsAttached → NoCallFailed → k < length job.others → AreRead job old mid k text
    → IsFileUnread mid new (other_place k) (text ++ 10 ∷ []) (get_or job.others k []) e → IsUnread job old new e
more_unread job old mid new k text TooLong next quiet lt up h =
    let within : suc k ≤ length job.others = omega arith in
    (suc k, within, attached_next job old mid new k text next lt up (h.long refl).0, λ t. more_long job old mid new k text lt up t ((h.long refl).1 t))
more_unread job old mid new k text (ReadFault p) next quiet lt up h = more_fault job old mid new k p text next quiet lt (h.fault p refl).0 up (h.fault p refl).1
more_unread job old mid new k text Memory next quiet lt up h = by (h.memory refl)
  where
    by : (new.register ≡ mid.register) ⊎ (new.register ≡ with_place mid.register (other_place k) Read (get_or job.others k [])) → IsUnread job old new Memory
    by (inl same) =
        let few : suc k ≤ 1 + length job.others = omega arith in
        (suc k, few, same ∙ up.register_is)
    by (inr attached) =
        let few : suc (suc k) ≤ 1 + length job.others = omega arith in
        (suc (suc k), few, attached_next job old mid new k text next lt up attached)

-- before the next file
pub between_unread : {tells : Bool} (job : Job) (old mid : Told tells) (k : ℕ) (text : List ℕ) → k < length job.others → AreRead job old mid k text → IsUnread job old mid Memory
between_unread job old mid k text lt up =
    let few : suc k ≤ 1 + length job.others = omega arith in
    (suc k, few, up.register_is)

-- the same bytes and the same path
pub file_unread : {tells : Bool} (old new : Told tells) (place : ℕ) (before path bytes name : List ℕ) (e : DesignError) → before ≡ bytes → path ≡ name → IsFileUnread old new place before path e → IsFileUnread old new place bytes name e
file_unread old new place before path bytes name e b p h =
    subst (λ (xs : List ℕ). IsFileUnread old new place bytes xs e) p (subst (λ (xs : List ℕ). IsFileUnread old new place xs path e) b h)

pub file_read : {tells : Bool} (old new : Told tells) (place : ℕ) (before path bytes name text : List ℕ) → before ≡ bytes → path ≡ name → IsFileRead old new place before path text → IsFileRead old new place bytes name text
file_read old new place before path bytes name text b p h =
    subst (λ (xs : List ℕ). IsFileRead old new place bytes xs text) p (subst (λ (xs : List ℕ). IsFileRead old new place xs path text) b h)
