-- The files of a design, read again one behind the other.
use Rattle.std.proofs.Common.{◌≡◌, ℕ, suc, ◌+◌, ◌-◌, ◌<◌, ◌≤◌, nat_lt, Bool, true, false, cond, IsTrue, List, [], ◌∷◌, ◌++◌, length, take, refl, sym, ap, ◌∙◌, subst, inl, inr, arith, append_assoc, append-nil}
use Rattle.std.specs.List.{flat_map}
use Rattle.std.proofs.lemmas.Bool.{cases_lt, cond-true, cond-false, lt-ltb, le-ltb, ltb-false}
use Rattle.std.proofs.lemmas.Grind.{flat_map-append}
use Rattle.std.proofs.lemmas.List.{length-append, length-take, take-append-le, take_all}
use Rattle.std.proofs.Math.Seq.{take-append-add}
use Rattle.vs_reread.specs.Again.{most_bytes, IsStart}
use Rattle.vs_setup.specs.DesignText.{joined_files}
use Rattle.vs_explainer.specs.Joined.{starts_from, file_starts, IsJoined, JoinsNext}

-- a file, behind a line feed
abbrev line : (List ℕ → List ℕ) → List ℕ → List ℕ
line files path = 10 ∷ files path

-- how many bytes are taken behind further files
abbrev taken_behind : (List ℕ → List ℕ) → ℕ → List (List ℕ) → ℕ
taken_behind files taken [] = taken
taken_behind files taken (path ∷ paths) = taken_behind files (suc taken + length (files path)) paths

behind_is : (files : List ℕ → List ℕ) (taken : ℕ) (paths : List (List ℕ)) → taken_behind files taken paths ≡ taken + length (flat_map (line files) paths)
behind_is files taken [] = omega arith
behind_is files taken (path ∷ paths) =
    let rest = behind_is files (suc taken + length (files path)) paths in
    let both = length-append (line files path) (flat_map (line files) paths) in
    omega arith

behind_more : (files : List ℕ → List ℕ) (taken : ℕ) (paths : List (List ℕ)) → taken ≤ taken_behind files taken paths
behind_more files taken paths = let e = behind_is files taken paths in omega arith

-- where one more file begins
abbrev next_start : (room taken : ℕ) → List ℕ
next_start room taken = cond (nat_lt taken room) (suc taken ∷ []) []

starts_more : (room : ℕ) (files : List ℕ → List ℕ) (taken : ℕ) (paths : List (List ℕ)) (path : List ℕ)
    → starts_from room files taken (paths ++ path ∷ []) ≡ starts_from room files taken paths ++ next_start room (taken_behind files taken paths)
starts_more room files taken [] path = refl
starts_more room files taken (p ∷ ps) path = go (nat_lt taken room) refl (starts_more room files (suc taken + length (files p)) ps path)
  where
    behind : ℕ
    behind = taken_behind files (suc taken + length (files p)) ps

    go : (t : Bool) → nat_lt taken room ≡ t → starts_from room files (suc taken + length (files p)) (ps ++ path ∷ []) ≡ starts_from room files (suc taken + length (files p)) ps ++ next_start room behind
        → cond t (suc taken ∷ starts_from room files (suc taken + length (files p)) (ps ++ path ∷ [])) [] ≡ cond t (suc taken ∷ starts_from room files (suc taken + length (files p)) ps) [] ++ next_start room behind
    go true e rest = ap (λ (xs : List ℕ). suc taken ∷ xs) rest
    go false e rest =
        let most = ltb-false taken room e in
        let more = behind_more files (suc taken + length (files p)) ps in
        sym (cond-false (nat_lt behind room) _ _ (le-ltb behind room (omega arith)))

-- the starts of one file more, by how many bytes the others have
file_starts_more : (room : ℕ) (files : List ℕ → List ℕ) (design : List ℕ) (paths : List (List ℕ)) (path : List ℕ)
    → file_starts room files design (paths ++ path ∷ []) ≡ file_starts room files design paths ++ next_start room (length (joined_files files design paths))
file_starts_more room files design paths path =
    let whole : taken_behind files (length (files design)) paths ≡ length (joined_files files design paths) = behind_is files (length (files design)) paths ∙ sym (length-append (files design) (flat_map (line files) paths)) in
    starts_more room files (length (files design)) paths path ∙ ap (λ (n : ℕ). file_starts room files design paths ++ next_start room n) whole

joined_more : (files : List ℕ → List ℕ) (design : List ℕ) (paths : List (List ℕ)) (path : List ℕ) → joined_files files design (paths ++ path ∷ []) ≡ joined_files files design paths ++ (10 ∷ files path)
joined_more files design paths path =
    ap (λ (xs : List ℕ). files design ++ xs) (flat_map-append (line files) paths (path ∷ []) ∙ ap (λ (xs : List ℕ). flat_map (line files) paths ++ xs) (append-nil (line files path)))
    ∙ sym (append_assoc (files design) (flat_map (line files) paths) (line files path))

-- a text that is full takes no more
full_joined : (tells : Bool) (head : List ℕ) (files : List ℕ → List ℕ) (design : List ℕ) (paths : List (List ℕ)) (path text starts : List ℕ) → length head ≤ most_bytes
    → IsJoined tells head files design paths text starts → most_bytes ≤ length text → IsJoined tells head files design (paths ++ path ∷ []) text starts
full_joined tells head files design paths path text starts few j full = record {
  taken = j.taken;
  text_is = j.text_is;
  taken_is = λ t.
      let e = joined_more files design paths path in
      j.taken_is t ∙ sym (ap (λ (xs : List ℕ). take room xs) e ∙ take-append-le room all (10 ∷ files path) (long t));
  starts_are = λ t.
      j.starts_are t ∙ sym (file_starts_more room files design paths path ∙ ap (λ (xs : List ℕ). file_starts room files design paths ++ xs) (cond-false (nat_lt (length all) room) _ _ (le-ltb (length all) room (long t)))
      ∙ append-nil (file_starts room files design paths));
}
  where
    room : ℕ
    room = most_bytes - length head

    all : List ℕ
    all = joined_files files design paths

    long : IsTrue tells → room ≤ length all
    long t =
        let size = ap (λ (xs : List ℕ). length xs) j.text_is ∙ length-append head j.taken in
        let part = ap (λ (xs : List ℕ). length xs) (j.taken_is t) ∙ length-take room all in
        omega arith

-- and one with room for a line feed takes that, and of the file what there is room for
more_joined : (tells : Bool) (head : List ℕ) (files : List ℕ → List ℕ) (design : List ℕ) (paths : List (List ℕ)) (path text starts grown more piece : List ℕ) → length head ≤ most_bytes
    → IsJoined tells head files design paths text starts → length text < most_bytes → grown ≡ (text ++ 10 ∷ []) ++ piece → (IsTrue tells → piece ≡ take (most_bytes - length (text ++ 10 ∷ [])) (files path))
    → more ≡ starts ++ (length text + 1 - length head) ∷ [] → IsJoined tells head files design (paths ++ path ∷ []) grown more
more_joined tells head files design paths path text starts grown more piece few j room_left grows piece_is begins = record {
  taken = j.taken ++ (10 ∷ piece);
  text_is = grows ∙ append_assoc text (10 ∷ []) piece ∙ ap (λ (xs : List ℕ). xs ++ (10 ∷ piece)) j.text_is ∙ append_assoc head j.taken (10 ∷ piece);
  taken_is = λ t.
      ap (λ (xs : List ℕ). xs ++ (10 ∷ piece)) (whole t) ∙ ap (λ (xs : List ℕ). all ++ (10 ∷ xs)) (piece_is t ∙ ap (λ (n : ℕ). take n (files path)) (left t))
      ∙ sym (ap (λ (xs : List ℕ). take room xs) (joined_more files design paths path) ∙ ap (λ (n : ℕ). take n (all ++ (10 ∷ files path))) (split t) ∙ take-append-add all (10 ∷ files path) (suc (rest)));
  starts_are = λ t.
      begins ∙ ap (λ (xs : List ℕ). xs ++ (length text + 1 - length head) ∷ []) (j.starts_are t)
      ∙ ap (λ (n : ℕ). file_starts room files design paths ++ n ∷ []) (start t)
      ∙ sym (file_starts_more room files design paths path ∙ ap (λ (xs : List ℕ). file_starts room files design paths ++ xs) (cond-true (nat_lt (length all) room) _ _ (lt-ltb (length all) room (short t))));
}
  where
    room : ℕ
    room = most_bytes - length head

    all : List ℕ
    all = joined_files files design paths

    rest : ℕ
    rest = room - length all - 1

    size : length text ≡ length head + length j.taken
    size = ap (λ (xs : List ℕ). length xs) j.text_is ∙ length-append head j.taken

    short : IsTrue tells → length all < room
    short t =
        let part = ap (λ (xs : List ℕ). length xs) (j.taken_is t) ∙ length-take room all in
        let e = size in
        omega arith

    whole : IsTrue tells → j.taken ≡ all
    whole t = let lt = short t in j.taken_is t ∙ take_all room all (omega arith)

    split : IsTrue tells → room ≡ length all + suc rest
    split t = let lt = short t in omega arith

    left : IsTrue tells → most_bytes - length (text ++ 10 ∷ []) ≡ rest
    left t =
        let lt = short t in
        let e = size in
        let all_are = ap (λ (xs : List ℕ). length xs) (whole t) in
        let line_feed = length-append text (10 ∷ []) in
        omega arith

    start : IsTrue tells → length text + 1 - length head ≡ suc (length all)
    start t =
        let e = size in
        let all_are = ap (λ (xs : List ℕ). length xs) (whole t) in
        omega arith

-- one more file is read
pub joins_more : (tells : Bool) (head : List ℕ) (files : List ℕ → List ℕ) (design : List ℕ) (paths : List (List ℕ)) (path text starts grown more : List ℕ) → length head ≤ most_bytes
    → IsJoined tells head files design paths text starts → JoinsNext tells head (files path) text starts grown more → IsJoined tells head files design (paths ++ path ∷ []) grown more
joins_more tells head files design paths path text starts grown more few j n =
    elim (cases_lt (length text) most_bytes) [
      | inl lt ↦
          let p = n.joined lt in
          more_joined tells head files design paths path text starts grown more p.0 few j lt p.1 p.2 p.3
      | inr le ↦
          let p = n.full le in
          subst (λ (xs : List ℕ). IsJoined tells head files design (paths ++ path ∷ []) xs more) (sym p.0)
          (subst (λ (ns : List ℕ). IsJoined tells head files design (paths ++ path ∷ []) text ns) (sym p.1) (full_joined tells head files design paths path text starts few j le))
    ]

-- the design's own file is read first
pub joins_first : (tells : Bool) (head given : List ℕ) (files : List ℕ → List ℕ) (design path : List ℕ) (others : List (List ℕ)) (text starts : List ℕ)
    → given ≡ head → path ≡ design → IsStart tells given (files path) text → starts ≡ [] → IsJoined tells head files design (take 0 others) text starts
joins_first tells head given files design path others text starts e d s b = record {
  taken = s.taken;
  text_is = s.text_is ∙ ap (λ (xs : List ℕ). xs ++ s.taken) e;
  taken_is = λ t.
      s.taken_is t ∙ ap (λ (xs : List ℕ). take (most_bytes - length xs) (files path)) e
      ∙ ap (λ (xs : List ℕ). take (most_bytes - length head) xs) (ap files d ∙ sym (append-nil (files design)));
  starts_are = λ t. b;
}

-- the head stands in the text
pub joined_head : {tells : Bool} {head : List ℕ} {files : List ℕ → List ℕ} {design : List ℕ} {others : List (List ℕ)} {text starts : List ℕ} → IsJoined tells head files design others text starts
    → length head ≤ length text
joined_head {head = head} j = let size = ap (λ (xs : List ℕ). length xs) j.text_is ∙ length-append head j.taken in omega arith

-- there was no room for one more file
pub next_full : (tells : Bool) (head file text starts : List ℕ) → most_bytes ≤ length text → JoinsNext tells head file text starts text starts
next_full tells head file text starts le = record { full = λ h. (refl, refl); joined = λ lt. absurd (omega arith) }

-- one more file was begun, and read
pub next_joined : (tells : Bool) (head file other text starts before grown more : List ℕ) (start : ℕ) → length text < most_bytes → before ≡ text ++ 10 ∷ [] → IsStart tells before other grown → other ≡ file
    → more ≡ starts ++ start ∷ [] → start ≡ length text + 1 - length head → JoinsNext tells head file text starts grown more
next_joined tells head file other text starts before grown more start lt e s f m b = record {
  full = λ le. absurd (omega arith);
  joined = λ h. (
    s.taken,
    s.text_is ∙ ap (λ (xs : List ℕ). xs ++ s.taken) e,
    λ t. s.taken_is t ∙ ap (λ (xs : List ℕ). take (most_bytes - length xs) other) e ∙ ap (λ (xs : List ℕ). take (most_bytes - length (text ++ 10 ∷ [])) xs) f,
    m ∙ ap (λ (n : ℕ). starts ++ n ∷ []) b,
  );
}

-- the desk's files are those that it had, where it tells of them
pub next_of : (tells : Bool) (head file other text starts grown more : List ℕ) → (IsTrue tells → file ≡ other) → JoinsNext tells head file text starts grown more → JoinsNext tells head other text starts grown more
next_of tells head file other text starts grown more e n = record {
  full = n.full;
  joined = λ lt. let p = n.joined lt in (p.0, p.1, λ t. p.2 t ∙ ap (λ (xs : List ℕ). take (most_bytes - length (text ++ 10 ∷ [])) xs) (e t), p.3);
}

-- what a text begins with stands in it
pub start_long : (tells : Bool) (before file text : List ℕ) → IsStart tells before file text → length before ≤ length text
start_long tells before file text s = let size = ap (λ (xs : List ℕ). length xs) s.text_is ∙ length-append before s.taken in omega arith
