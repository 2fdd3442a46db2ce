-- A value depends on what its expression reads alone.
use Rattle.std.proofs.Common.{◌≡◌, ℕ, ◌+◌, Bool, true, false, List, [], ◌∷◌, ◌++◌, ◌&&◌, ◌==◌, if◌then◌else◌, refl, sym, ap, ◌∙◌, subst, map, max, Option, Some, None}
use Rattle.vs_four.specs.declared.Bit4.TheVariants.{X}
use Rattle.vs_net.specs.Network.{State, write_all}
use Rattle.vs_four.specs.Logic.{BitList, truth, choose}
use Rattle.vs_four.specs.Lengths.{cut, extend, join, repeat}
use Rattle.vs_four.specs.Selects.{Part, places, select, at_place}
use Rattle.vs_design.specs.Expressions.{Signal, signal_length, Source, OfSignal, OfConstant, Expression, Literal, Name, Select, Word, WordPart, Unary, Binary, Choice, Join, Repeat, At, Call, Items, NoItem, Item, unary_way, way, width, sign, is_constant}
use Rattle.vs_design.specs.Values.{bits_of_signal, read, source_value, word_places, select_word, apply_unary, apply_binary, left_width, right_width, left_sign, right_sign, unset, value, argument_state, item_values, body, constant_value, word_part_places}
use Rattle.vs_design.specs.Bodies.{bits_at, pair_up}
use Rattle.vs_design.specs.Footprints.{contains, somes, source_bits, addressed_bits, read_bits, items_reads, word_part_bits}
use Rattle.vs_design.specs.TreeLaws.{Agree}
use Rattle.vs_design.proofs.Lists.{by_test, or_right, and_both, contains_head, agree-left, agree-right, read_agree, nth_agree, contains-append, or_false}
use Rattle.vs_design.proofs.Words.{addressed_constant, addressed_variable}
use Rattle.vs_design.proofs.WordParts.{part_of_word, part_constant, part_variable}

-- nothing is read by an expression that names no signal
pub constant_reads : (e : Expression) → is_constant e ≡ true → (b : ℕ) → contains (read_bits e) b ≡ false
constant_reads (Literal bits signed sized) h b = refl
constant_reads (Name signal) h b = cc
constant_reads (Select (OfSignal signal) part index) h b = cc
constant_reads (Select (OfConstant bits) part index) h b = constant_reads index h b
constant_reads (Word signal index) h b = cc
constant_reads (WordPart signal address part index) h b = cc
constant_reads (Unary op a) h b = constant_reads a h b
constant_reads (Binary op a c) h b =
    let k = and_both (is_constant a) (is_constant c) h in
    contains-append (read_bits a) (read_bits c) b ∙ or_false _ _ (constant_reads a k.0 b) (constant_reads c k.1 b)
constant_reads (Choice c p q) h b =
    let k = and_both (is_constant c && is_constant p) (is_constant q) h in
    let m = and_both (is_constant c) (is_constant p) k.0 in
    contains-append (read_bits c) (read_bits p ++ read_bits q) b
    ∙ or_false _ _ (constant_reads c m.0 b) (contains-append (read_bits p) (read_bits q) b ∙ or_false _ _ (constant_reads p m.1 b) (constant_reads q k.1 b))
constant_reads (Join high low) h b =
    let k = and_both (is_constant high) (is_constant low) h in
    contains-append (read_bits high) (read_bits low) b ∙ or_false _ _ (constant_reads high k.0 b) (constant_reads low k.1 b)
constant_reads (Repeat count a) h b = constant_reads a h b
constant_reads (At place e) h b = constant_reads e h b
constant_reads (Call header statement arguments) h b = cc

pub constant_agree : (e : Expression) → is_constant e ≡ true → (s t : State) → Agree (read_bits e) s t
constant_agree e h s t b c = absurd (go (contains (read_bits e) b) c (constant_reads e h b))
  where
    go : (x : Bool) → x ≡ true → x ≡ false → ⊥
    go x p q = cc

-- bits at places that are read
pub places_agree : (s t : State) (signal : Signal) (ps : List (Option ℕ)) → Agree (somes (bits_at signal ps)) s t → map (at_place X (read s (bits_of_signal signal))) ps ≡ map (at_place X (read t (bits_of_signal signal))) ps
places_agree s t signal [] h = refl
places_agree s t signal (None ∷ ps) h = ap {B = BitList} (λ r. X ∷ r) (places_agree s t signal ps h)
places_agree s t signal (Some n ∷ ps) h =
    let head = nth_agree s t signal.first n (signal_length signal) (signal.first + n) refl (h (signal.first + n) (contains_head (signal.first + n) (somes (bits_at signal ps)))) in
    let rest = places_agree s t signal ps (λ b c. h b (or_right (b == (signal.first + n)) (contains (somes (bits_at signal ps)) b) c)) in
    cc

-- a select of a signal by an index that has one value
pub select_agree : (s t : State) (source : Source) (part : Part) (index : Expression) → (bits : BitList) → (is_constant index ≡ true → bits ≡ constant_value index) → Agree (source_bits source part index) s t → select part (sign index) (source_value s source) bits ≡ select part (sign index) (source_value t source) bits
select_agree s t (OfConstant all) part index bits k h = refl
select_agree s t (OfSignal signal) part index bits k h =
    by_test (is_constant index)
    (λ e.
    let h' : Agree (somes (bits_at signal (places part (sign index) (constant_value index)))) s t =
    subst (λ (c : Bool). Agree (if c then somes (bits_at signal (places part (sign index) (constant_value index))) else bits_of_signal signal) s t) e h in
    let same : bits ≡ constant_value index = k e in
    subst (λ (v : BitList). select part (sign index) (source_value s (OfSignal signal)) v ≡ select part (sign index) (source_value t (OfSignal signal)) v) (sym same) (places_agree s t signal (places part (sign index) (constant_value index)) h'))
    (λ e.
    let h' : Agree (bits_of_signal signal) s t =
    subst (λ (c : Bool). Agree (if c then somes (bits_at signal (places part (sign index) (constant_value index))) else bits_of_signal signal) s t) e h in
    ap {B = BitList} (λ v. select part (sign index) v bits) (read_agree (bits_of_signal signal) s t h'))

-- a word by an address that has one value
word_agree : (s t : State) (signal : Signal) (index : Expression) (bits : BitList) → (is_constant index ≡ true → bits ≡ constant_value index) → Agree (addressed_bits signal index) s t
    → select_word signal (sign index) (read s (bits_of_signal signal)) bits ≡ select_word signal (sign index) (read t (bits_of_signal signal)) bits
word_agree s t signal index bits k h =
    by_test (is_constant index)
    (λ e.
    let same : bits ≡ constant_value index = k e in
    subst (λ (v : BitList). select_word signal (sign index) (read s (bits_of_signal signal)) v ≡ select_word signal (sign index) (read t (bits_of_signal signal)) v) (sym same)
    (places_agree s t signal (word_places signal (sign index) (constant_value index)) (subst (λ xs. Agree xs s t) (addressed_constant signal index e) h)))
    (λ e. ap {B = BitList} (λ v. select_word signal (sign index) v bits) (read_agree (bits_of_signal signal) s t (subst (λ xs. Agree xs s t) (addressed_variable signal index e) h)))

-- a part of a word by an address and an index of which each has one value
word_part_agree : (s t : State) (signal : Signal) (address : Expression) (part : Part) (index : Expression) (us vs : BitList) → (is_constant address ≡ true → us ≡ constant_value address) → (is_constant index ≡ true → vs ≡ constant_value index) → Agree (word_part_bits signal address part index) s t
    → select part (sign index) (select_word signal (sign address) (read s (bits_of_signal signal)) us) vs ≡ select part (sign index) (select_word signal (sign address) (read t (bits_of_signal signal)) us) vs
word_part_agree s t signal address part index us vs ka ki h =
    by_test (is_constant address && is_constant index)
    (λ e.
    let p = and_both (is_constant address) (is_constant index) e in
    let one : us ≡ constant_value address = ka p.0 in
    let two : vs ≡ constant_value index = ki p.1 in
    rw (one, two) (by_constants (subst (λ xs. Agree xs s t) (part_constant signal address part index e) h)))
    (λ e. ap {B = BitList} (λ v. select part (sign index) v vs) (word_agree s t signal address us ka (subst (λ xs. Agree xs s t) (part_variable signal address part index e) h)))
  where
    by_constants : Agree (somes (bits_at signal (word_part_places signal (sign address) (constant_value address) part (sign index) (constant_value index)))) s t
        → select part (sign index) (select_word signal (sign address) (read s (bits_of_signal signal)) (constant_value address)) (constant_value index) ≡ select part (sign index) (select_word signal (sign address) (read t (bits_of_signal signal)) (constant_value address)) (constant_value index)
    by_constants k =
        part_of_word signal (sign address) (constant_value address) part (sign index) (constant_value index) (read s (bits_of_signal signal))
        ∙ places_agree s t signal (word_part_places signal (sign address) (constant_value address) part (sign index) (constant_value index)) k
        ∙ sym (part_of_word signal (sign address) (constant_value address) part (sign index) (constant_value index) (read t (bits_of_signal signal)))

mutual
  pub value_reads : (e : Expression) (w : ℕ) (g : Bool) (s t : State) → Agree (read_bits e) s t → value e w g s ≡ value e w g t
  value_reads (Literal bits signed sized) w g s t h = refl
  value_reads (Name signal) w g s t h = ap {B = BitList} (extend w g) (read_agree (bits_of_signal signal) s t h)
  value_reads (Select source part index) w g s t h =
      let ha = agree-left (source_bits source part index) (read_bits index) s t h in
      let hi = value_reads index (width index) (sign index) s t (agree-right (source_bits source part index) (read_bits index) s t h) in
      let hc : is_constant index ≡ true → value index (width index) (sign index) s ≡ constant_value index = λ e. value_reads index (width index) (sign index) s (λ b. X) (constant_agree index e s (λ b. X)) in
      ap {B = BitList} (extend w g)
      (select_agree s t source part index (value index (width index) (sign index) s) hc ha
      ∙ ap {B = BitList} (λ v. select part (sign index) (source_value t source) v) hi)
  value_reads (Word signal index) w g s t h =
      let ha = agree-left (addressed_bits signal index) (read_bits index) s t h in
      let hi = value_reads index (width index) (sign index) s t (agree-right (addressed_bits signal index) (read_bits index) s t h) in
      let hc : is_constant index ≡ true → value index (width index) (sign index) s ≡ constant_value index = λ e. value_reads index (width index) (sign index) s (λ b. X) (constant_agree index e s (λ b. X)) in
      ap {B = BitList} (extend w g)
      (word_agree s t signal index (value index (width index) (sign index) s) hc ha
      ∙ ap {B = BitList} (λ v. select_word signal (sign index) (read t (bits_of_signal signal)) v) hi)
  value_reads (WordPart signal address part index) w g s t h =
      let hb = agree-left (word_part_bits signal address part index) (read_bits address ++ read_bits index) s t h in
      let hr = agree-right (word_part_bits signal address part index) (read_bits address ++ read_bits index) s t h in
      let ha = value_reads address (width address) (sign address) s t (agree-left (read_bits address) (read_bits index) s t hr) in
      let hi = value_reads index (width index) (sign index) s t (agree-right (read_bits address) (read_bits index) s t hr) in
      let ca : is_constant address ≡ true → value address (width address) (sign address) s ≡ constant_value address = λ e. value_reads address (width address) (sign address) s (λ b. X) (constant_agree address e s (λ b. X)) in
      let ci : is_constant index ≡ true → value index (width index) (sign index) s ≡ constant_value index = λ e. value_reads index (width index) (sign index) s (λ b. X) (constant_agree index e s (λ b. X)) in
      ap {B = BitList} (extend w g)
      (word_part_agree s t signal address part index (value address (width address) (sign address) s) (value index (width index) (sign index) s) ca ci hb
      ∙ ap {B = BitList} (λ v. select part (sign index) (select_word signal (sign address) (read t (bits_of_signal signal)) v) (value index (width index) (sign index) s)) ha
      ∙ ap {B = BitList} (λ v. select part (sign index) (select_word signal (sign address) (read t (bits_of_signal signal)) (value address (width address) (sign address) t)) v) hi)
  value_reads (Unary op a) w g s t h = ap {B = BitList} (λ v. extend w g (apply_unary op v)) (value_reads a (left_width (unary_way op) w (width a) 0) (left_sign (unary_way op) g (sign a) false) s t h)
  value_reads (Binary op a b) w g s t h =
      let ha = value_reads a (left_width (way op) w (width a) (width b)) (left_sign (way op) g (sign a) (sign b)) s t (agree-left (read_bits a) (read_bits b) s t h) in
      let hb = value_reads b (right_width (way op) w (width a) (width b)) (right_sign (way op) g (sign a) (sign b)) s t (agree-right (read_bits a) (read_bits b) s t h) in
      ap {B = BitList} (λ v. extend w g (apply_binary op (left_sign (way op) g (sign a) (sign b)) (right_sign (way op) g (sign a) (sign b)) v (value b (right_width (way op) w (width a) (width b)) (right_sign (way op) g (sign a) (sign b)) s))) ha
      ∙ ap {B = BitList} (λ v. extend w g (apply_binary op (left_sign (way op) g (sign a) (sign b)) (right_sign (way op) g (sign a) (sign b)) (value a (left_width (way op) w (width a) (width b)) (left_sign (way op) g (sign a) (sign b)) t) v)) hb
  value_reads (Choice c p q) w g s t h =
      let hc = value_reads c (width c) (sign c) s t (agree-left (read_bits c) (read_bits p ++ read_bits q) s t h) in
      let hpq = agree-right (read_bits c) (read_bits p ++ read_bits q) s t h in
      let hp = value_reads p w g s t (agree-left (read_bits p) (read_bits q) s t hpq) in
      let hq = value_reads q w g s t (agree-right (read_bits p) (read_bits q) s t hpq) in
      ap {B = BitList} (λ v. choose (truth v) (value p w g s) (value q w g s)) hc
      ∙ ap {B = BitList} (λ v. choose (truth (value c (width c) (sign c) t)) v (value q w g s)) hp
      ∙ ap {B = BitList} (λ v. choose (truth (value c (width c) (sign c) t)) (value p w g t) v) hq
  value_reads (Join high low) w g s t h =
      let ha = value_reads high (width high) (sign high) s t (agree-left (read_bits high) (read_bits low) s t h) in
      let hb = value_reads low (width low) (sign low) s t (agree-right (read_bits high) (read_bits low) s t h) in
      ap {B = BitList} (λ v. extend w g (join v (value low (width low) (sign low) s))) ha
      ∙ ap {B = BitList} (λ v. extend w g (join (value high (width high) (sign high) t) v)) hb
  value_reads (Repeat count a) w g s t h = ap {B = BitList} (λ v. extend w g (repeat count v)) (value_reads a (width a) (sign a) s t h)
  value_reads (At place e) w g s t h = value_reads e w g s t h
  value_reads (Call header statement arguments) w g s t h = ap {B = BitList} (λ (begin : State). extend w g (read (write_all begin (body statement begin).writes) (bits_of_signal header.result))) (arguments_read arguments header.inputs s t unset h)

  -- what a function begins with depends on what the arguments read alone
  pub arguments_read : (es : Items) (inputs : List Signal) (s t begin : State) → Agree (items_reads es) s t → argument_state es inputs s begin ≡ argument_state es inputs t begin
  arguments_read NoItem inputs s t begin h = refl
  arguments_read (Item e es) [] s t begin h = refl
  arguments_read (Item e es) (input ∷ inputs) s t begin h =
      ap {B = State} (λ v. argument_state es inputs s (write_all begin (pair_up (map Some (bits_of_signal input)) (cut (signal_length input) v)))) (value_reads e (max (width e) (signal_length input)) (sign e) s t (agree-left (read_bits e) (items_reads es) s t h))
      ∙ arguments_read es inputs s t (write_all begin (pair_up (map Some (bits_of_signal input)) (cut (signal_length input) (value e (max (width e) (signal_length input)) (sign e) t)))) (agree-right (read_bits e) (items_reads es) s t h)

-- the values of the items of a case depend on what they read alone
pub items_read : (es : Items) (w : ℕ) (g : Bool) (s t : State) → Agree (items_reads es) s t → item_values es w g s ≡ item_values es w g t
items_read NoItem w g s t h = refl
items_read (Item e es) w g s t h =
    ap {B = List BitList} (λ v. v ∷ item_values es w g s) (value_reads e w g s t (agree-left (read_bits e) (items_reads es) s t h))
    ∙ ap {B = List BitList} (λ vs. value e w g t ∷ vs) (items_read es w g s t (agree-right (read_bits e) (items_reads es) s t h))
