-- The names of blocks, one after the other.
use Rattle.std.proofs.Common.{◌≡◌, ◌<◌, ℕ, suc, Bool, true, false, ◌||◌, List, [], ◌∷◌, ◌++◌, map, length, get_or, drop, MatchOption, is_some, option_map, Option, Some, None, if◌then◌else◌, refl, sym, ap, ◌∙◌, subst, append_assoc}
use Rattle.std.proofs.lemmas.Grind.{flat_map-append}
use Rattle.std.proofs.lemmas.List.{map-append}
use Rattle.vs_design.specs.Clocks.{same_name}
use Rattle.vs_const.specs.declared.faults.Fault.{Fault}
use Rattle.vs_const.specs.Faults.{fault_if, least, better}
use Rattle.vs_const.specs.declared.rules.Rule.{Rule}
use Rattle.vs_const.specs.declared.rules.Rule.TheVariants.{DuplicateName}
use Rattle.vs_elaborated.specs.Environments.{OfScope, find_entry}
use Rattle.vs_elaborated.specs.Environments as environment
use Rattle.vs_elaborated.specs.Generate.{BlockName}
use Rattle.vs_elaborated.specs.Surveys.{clash_with, has_name, block_faults, block_entries}
use Rattle.vs_scope.specs.declared.made.BlockName.{BlockName as BlockNameOf}
use Rattle.vs_scope.specs.declared.made.Made.{Made}
use Rattle.vs_scope.specs.declared.names.Entry.{Entry}
use Rattle.vs_scope.specs.Clashes.{NameAt, block_text, text_of, blocks_of, has_name_at, clash_faults, AreNew}
use Rattle.vs_scope.specs.Made.{block_name, names_of}
use Rattle.vs_maps.specs.Maps.{Pair, value_at, with_value}
use Rattle.vs_scope.specs.SoFar.{IsFirstSoFar}
use Rattle.vs_scope.specs.Surveys.{MeanTheSame}
use Rattle.vs_scope.specs.Views.{entry_of, pair_entry}
use Rattle.vs_scope.proofs.Entries.{same_is, find_value}
use Rattle.vs_scope.proofs.Steps.{append_none, from_place}
use Rattle.vs_scope.proofs.SoFar.{so_far_start, so_far_more, so_far_end}

-- ---- clashes

-- blocks whose names are looked up
pub record AreClashing (es : List environment.Entry) (known : List ℕ → Bool) (found : Option Fault) (rest all : List NameAt) : Type 0 where
  pub seen : List NameAt
  pub same : (n : List ℕ) → known n ≡ has_name_at n seen
  pub first : IsFirstSoFar found (clash_faults es seen rest) (clash_faults es [] all)

pub clashing_start : (es : List environment.Entry) (known : List ℕ → Bool) (all : List NameAt) → ((n : List ℕ) → known n ≡ false) → AreClashing es known None all all
clashing_start es known all none = record { seen = []; same = none; first = so_far_start (clash_faults es [] all) }

pub clashing_more : (es : List environment.Entry) (known new : List ℕ → Bool) (b : NameAt) (rest all : List NameAt) (found mine sum : Option Fault) → AreClashing es known found (b ∷ rest) all
    → mine ≡ least (clash_with b.place (find_entry es b.name) ++ fault_if (known b.name) DuplicateName b.place) → sum ≡ better found mine → ((n : List ℕ) → new n ≡ (same_name b.name n || known n)) → AreClashing es new sum rest all
clashing_more es known new b rest all found mine sum h m s is = record {
  seen = b ∷ h.seen;
  same = λ n. is n ∙ ap (λ (x : Bool). same_name b.name n || x) (h.same n);
  first = so_far_more (clash_with b.place (find_entry es b.name) ++ fault_if (has_name_at b.name h.seen) DuplicateName b.place) (clash_faults es (b ∷ h.seen) rest) (clash_faults es [] all) found mine sum h.first
      (m ∙ ap (λ (x : Bool). least (clash_with b.place (find_entry es b.name) ++ fault_if x DuplicateName b.place)) (h.same b.name)) s;
}

pub clashing_end : (es : List environment.Entry) (known : List ℕ → Bool) (found : Option Fault) (all : List NameAt) → AreClashing es known found [] all → found ≡ least (clash_faults es [] all)
clashing_end es known found all h = so_far_end found (clash_faults es [] all) h.first

has_is : (n : List ℕ) (bs : List BlockName) → has_name_at n (map block_text bs) ≡ has_name n bs
has_is n [] = refl
has_is n (b ∷ bs) = ap (λ (x : Bool). same_name b.name n || x) (has_is n bs)

pub clash_is : (es : List environment.Entry) (seen bs : List BlockName) → clash_faults es (map block_text seen) (map block_text bs) ≡ block_faults es seen bs
clash_is es seen [] = refl
clash_is es seen (b ∷ bs) =
    ap (λ (x : Bool). (clash_with b.place (find_entry es b.name) ++ fault_if x DuplicateName b.place) ++ clash_faults es (map block_text (b ∷ seen)) (map block_text bs)) (has_is b.name seen)
    ∙ ap (λ (x : List Fault). (clash_with b.place (find_entry es b.name) ++ fault_if (has_name b.name seen) DuplicateName b.place) ++ x) (clash_is es (b ∷ seen) bs)

-- the names from an item on
pub names_from : (ms : List Made) (i : ℕ) (m : Made) (done more : List BlockNameOf) (whole : List BlockName) → i < length ms → m ≡ get_or ms i m → more ≡ done ++ m.names.items
    → map block_name done ++ blocks_of (drop i ms) ≡ whole → map block_name more ++ blocks_of (drop (suc i) ms) ≡ whole
names_from ms i m done more whole h e is before =
    let rest = blocks_of (drop (suc i) ms) in
    ap (λ (x : List BlockNameOf). map block_name x ++ rest) is ∙ ap (λ (x : List BlockName). x ++ rest) (map-append block_name done m.names.items) ∙ append_assoc (map block_name done) (names_of m) rest
    ∙ ap (λ (x : List Made). map block_name done ++ blocks_of x) (sym (from_place ms i m h e)) ∙ before

-- and as text
pub texts_from : (ns : List BlockNameOf) (i : ℕ) (n : BlockNameOf) (done more whole : List NameAt) → i < length ns → n ≡ get_or ns i n → more ≡ done ++ text_of n ∷ []
    → done ++ map text_of (drop i ns) ≡ whole → more ++ map text_of (drop (suc i) ns) ≡ whole
texts_from ns i n done more whole h e is before =
    let rest = map text_of (drop (suc i) ns) in
    ap (λ (x : List NameAt). x ++ rest) is ∙ append_assoc done (text_of n ∷ []) rest ∙ ap (λ (x : List BlockNameOf). done ++ map text_of x) (sym (from_place ns i n h e)) ∙ before

pub texts_are : (ns : List BlockNameOf) → map text_of ns ≡ map block_text (map block_name ns)
texts_are [] = refl
texts_are (n ∷ ns) = ap (λ (x : List NameAt). text_of n ∷ x) (texts_are ns)

-- ---- look-ups

abbrev pub or_else : Option environment.Entry → Option environment.Entry → Option environment.Entry
or_else None b = b
or_else (Some a) b = Some a

pub find_append : (xs ys : List environment.Entry) (n : List ℕ) → find_entry (xs ++ ys) n ≡ or_else (find_entry xs n) (find_entry ys n)
find_append [] ys n = refl
find_append (x ∷ xs) ys n = by (same_name x.name n) (find_append xs ys n)
  where
    by : (b : Bool) → find_entry (xs ++ ys) n ≡ or_else (find_entry xs n) (find_entry ys n) → (if b then Some x else find_entry (xs ++ ys) n) ≡ or_else (if b then Some x else find_entry xs n) (find_entry ys n)
    by true h = refl
    by false h = h

pub same_behind : (xs ys zs : List environment.Entry) → MeanTheSame xs ys → MeanTheSame (xs ++ zs) (ys ++ zs)
same_behind xs ys zs h = λ n. find_append xs zs n ∙ ap (λ (o : Option environment.Entry). or_else o (find_entry zs n)) (h n) ∙ sym (find_append ys zs n)

pub value_found : (name : List ℕ) (ps : List (Pair Entry)) (v : Entry) → value_at name ps ≡ Some v → find_entry (map pair_entry ps) name ≡ Some (entry_of name v)
value_found name ps v h = subst (λ (o : Option Entry). MatchOption o (find_entry (map pair_entry ps) name ≡ None) (λ x. find_entry (map pair_entry ps) name ≡ Some (entry_of name x))) h (find_value name ps)

-- a name that is there stays the first
pub same_there : (es : List environment.Entry) (e x : environment.Entry) → find_entry es e.name ≡ Some x → MeanTheSame es (es ++ e ∷ [])
same_there es e x h = λ n. by n (find_entry es n) refl (same_name e.name n) refl ∙ sym (find_append es (e ∷ []) n)
  where
    by : (n : List ℕ) (o : Option environment.Entry) → find_entry es n ≡ o → (b : Bool) → same_name e.name n ≡ b → find_entry es n ≡ or_else (find_entry es n) (if b then Some e else None)
    by n (Some y) is b k = is ∙ ap (λ (z : Option environment.Entry). or_else z (if b then Some e else None)) (sym is)
    by n None is false k = is ∙ ap (λ (z : Option environment.Entry). or_else z None) (sym is)
    by n None is true k = let bad : Some x ≡ None = sym h ∙ ap (find_entry es) (same_is e.name n k) ∙ is in cc

-- a new name comes last
pub put_last : (name : List ℕ) (v : Entry) (ps : List (Pair Entry)) → value_at name ps ≡ None → with_value name v ps ≡ ps ++ (let q : Pair Entry = record { name = name; value = v } in q) ∷ []
put_last name v [] h = refl
put_last name v (p ∷ ps) h = by (same_name p.name name) h (put_last name v ps)
  where
    by : (b : Bool) → (if b then Some p.value else value_at name ps) ≡ None → (value_at name ps ≡ None → with_value name v ps ≡ ps ++ (let q : Pair Entry = record { name = name; value = v } in q) ∷ [])
        → (if b then (let q : Pair Entry = record { name = p.name; value = v } in q) ∷ ps else p ∷ with_value name v ps) ≡ p ∷ (ps ++ (let q : Pair Entry = record { name = name; value = v } in q) ∷ [])
    by true h rest = cc
    by false h rest = ap (λ (x : List (Pair Entry)). p ∷ x) (rest h)

-- ---- new names

pub new_parts : (es xs bs : List environment.Entry) → AreNew es (xs ++ bs) → AreNew es xs × AreNew (es ++ xs) bs
new_parts es [] bs h = (tt, subst (λ (x : List environment.Entry). AreNew x bs) (sym (append_none es)) h)
new_parts es (a ∷ xs) bs h =
    let k = new_parts (es ++ a ∷ []) xs bs h.1 in
    ((h.0, k.0), subst (λ (x : List environment.Entry). AreNew x bs) (append_assoc es (a ∷ []) xs) k.1)

-- names so far
pub record AreDeclared (start now rest : List environment.Entry) (all : List environment.Entry) : Type 0 where
  pub same : MeanTheSame (now ++ rest) (start ++ all)
  pub new : AreNew start all → AreNew now rest × (now ++ rest ≡ start ++ all)

pub declared_start : (start all : List environment.Entry) → AreDeclared start start all all
declared_start start all = record { same = λ n. refl; new = λ h. (h, refl) }

pub declared_more : (start now next some rest all : List environment.Entry) → AreDeclared start now (some ++ rest) all → MeanTheSame next (now ++ some) → (AreNew now some → next ≡ now ++ some) → AreDeclared start next rest all
declared_more start now next some rest all h same new = record {
  same = λ n. same_behind next (now ++ some) rest same n ∙ ap (λ (x : List environment.Entry). find_entry x n) (append_assoc now some rest) ∙ h.same n;
  new = λ k.
      let g = h.new k in
      let p = new_parts now some rest g.0 in
      (subst (λ (x : List environment.Entry). AreNew x rest) (sym (new p.0)) p.1, ap (λ (x : List environment.Entry). x ++ rest) (new p.0) ∙ append_assoc now some rest ∙ g.1);
}

pub declared_end : (start now all : List environment.Entry) → AreDeclared start now [] all → MeanTheSame now (start ++ all) × (AreNew start all → now ≡ start ++ all)
declared_end start now all h = (λ n. ap (λ (x : List environment.Entry). find_entry x n) (sym (append_none now)) ∙ h.same n, λ k. sym (append_none now) ∙ (h.new k).1)

entries_both : (xs ys : List BlockName) → block_entries (xs ++ ys) ≡ block_entries xs ++ block_entries ys
entries_both xs ys = flat_map-append _ xs ys

pub entries_from : (ns : List BlockNameOf) (i : ℕ) (n : BlockNameOf) → i < length ns → n ≡ get_or ns i n → block_entries (map block_name (drop i ns)) ≡ block_entries (block_name n ∷ []) ++ block_entries (map block_name (drop (suc i) ns))
entries_from ns i n h e = ap (λ (x : List BlockNameOf). block_entries (map block_name x)) (from_place ns i n h e) ∙ entries_both (block_name n ∷ []) (map block_name (drop (suc i) ns))

-- ---- no clash

no_fault : (xs ys : List Fault) → xs ++ ys ≡ [] → (xs ≡ []) × (ys ≡ [])
no_fault [] ys h = (refl, h)
no_fault (x ∷ xs) ys h = cc

none_empty : (fs : List Fault) → least fs ≡ None → fs ≡ []
none_empty [] h = refl
none_empty (f ∷ fs) h = cc

clash_none : (place : ℕ) (o : Option environment.Entry) → clash_with place o ≡ [] → o ≡ None
clash_none place None h = refl
clash_none place (Some e) h = cc

fault_none : (b : Bool) (rule : Rule) (place : ℕ) → fault_if b rule place ≡ [] → b ≡ false
fault_none true rule place h = cc
fault_none false rule place h = refl

abbrev entry_at : BlockName → environment.Entry
entry_at b = record { name = b.name; place = b.place; declared = OfScope }

abbrev written_entry : BlockName → List environment.Entry
written_entry b = if b.written then entry_at b ∷ [] else []

one_found : (b : BlockName) (w : Bool) (n : List ℕ) → same_name b.name n ≡ false → find_entry (if w then entry_at b ∷ [] else []) n ≡ None
one_found b true n h = ap (λ (x : Bool). if x then Some (entry_at b) else None) h
one_found b false n h = refl

or_parts : (a b : Bool) → (a || b) ≡ false → (a ≡ false) × (b ≡ false)
or_parts true b h = cc
or_parts false b h = (refl, h)

one_new : (es : List environment.Entry) (b : BlockName) (w : Bool) → find_entry es b.name ≡ None → AreNew es (if w then entry_at b ∷ [] else [])
one_new es b true h = (h, tt)
one_new es b false h = tt

join_new : (es xs bs : List environment.Entry) → AreNew es xs → AreNew (es ++ xs) bs → AreNew es (xs ++ bs)
join_new es [] bs h k = subst (λ (x : List environment.Entry). AreNew x bs) (append_none es) k
join_new es (a ∷ xs) bs h k = (h.0, join_new (es ++ a ∷ []) xs bs h.1 (subst (λ (x : List environment.Entry). AreNew x bs) (sym (append_assoc es (a ∷ []) xs)) k))

apart : (es done : List environment.Entry) (seen bs : List BlockName) → ((n : List ℕ) → has_name n seen ≡ false → find_entry done n ≡ None) → block_faults es seen bs ≡ [] → AreNew (es ++ done) (block_entries bs)
apart es done seen [] known h = tt
apart es done seen (b ∷ bs) known h =
    let p = no_fault (clash_with b.place (find_entry es b.name) ++ fault_if (has_name b.name seen) DuplicateName b.place) (block_faults es (b ∷ seen) bs) h in
    let q = no_fault (clash_with b.place (find_entry es b.name)) (fault_if (has_name b.name seen) DuplicateName b.place) p.0 in
    let out : find_entry (es ++ done) b.name ≡ None =
    find_append es done b.name ∙ ap (λ (o : Option environment.Entry). or_else o (find_entry done b.name)) (clash_none b.place (find_entry es b.name) q.0) ∙ known b.name (fault_none (has_name b.name seen) DuplicateName b.place q.1) in
    let later : (n : List ℕ) → has_name n (b ∷ seen) ≡ false → find_entry (done ++ written_entry b) n ≡ None =
    (λ n k. let r = or_parts (same_name b.name n) (has_name n seen) k in
    find_append done (written_entry b) n ∙ ap (λ (o : Option environment.Entry). or_else o (find_entry (written_entry b) n)) (known n r.1) ∙ one_found b b.written n r.0) in
    join_new (es ++ done) (written_entry b) (block_entries bs) (one_new (es ++ done) b b.written out)
    (subst (λ (x : List environment.Entry). AreNew x (block_entries bs)) (sym (append_assoc es done (written_entry b))) (apart es (done ++ written_entry b) (b ∷ seen) bs later p.1))

pub none_clash : (es : List environment.Entry) (bs : List BlockName) → least (block_faults es [] bs) ≡ None → AreNew es (block_entries bs)
none_clash es bs h = subst (λ (x : List environment.Entry). AreNew x (block_entries bs)) (append_none es) (apart es [] [] bs (λ n k. refl) (none_empty (block_faults es [] bs) h))

-- what a look-up tells, with a reference in place of the value
pub copied_some : {R V : Type 0} (now : R → V) (r : Option R) (o : Option V) → option_map now r ≡ o → is_some r ≡ true → (v : V) × (o ≡ Some v)
copied_some now None o e h = cc
copied_some now (Some x) o e h = (now x, sym e)

pub copied_none : {R V : Type 0} (now : R → V) (r : Option R) (o : Option V) → option_map now r ≡ o → is_some r ≡ false → o ≡ None
copied_none now None o e h = sym e
copied_none now (Some x) o e h = cc

-- a new name of a map comes last among the entries
pub entry_last : (name : List ℕ) (v : Entry) (ps new : List (Pair Entry)) → new ≡ with_value name v ps → value_at name ps ≡ None → map pair_entry new ≡ map pair_entry ps ++ entry_of name v ∷ []
entry_last name v ps new e h = ap (map pair_entry) (e ∙ put_last name v ps h) ∙ map-append pair_entry ps ((let q : Pair Entry = record { name = name; value = v } in q) ∷ [])
