-- Worked designs with blocking assignments in clocked blocks: what the queue makes of them, and which of them the rule Race refuses.
use Rattle.std.specs.Prelude.{◌≡◌, true, false, [], ◌∷◌, codes, None}
use Rattle.vs_four.specs.declared.Bit4.TheVariants.{Zero, One, X}
use Rattle.vs_design.specs.Expressions.{Signal, Name, Unary, BitNot}
use Rattle.vs_design.specs.Statements.{Whole, Empty, Then, If}
use Rattle.vs_design.specs.Designs.{Posedge, Always, Design}
use Rattle.vs_design.specs.Levels.{level_order}
use Rattle.vs_design.specs.Races.{stirred, race_bits, has_no_race}
use Rattle.vs_design.specs.Sizes.{size}
use Rattle.vs_design.specs.Refusals.{Race, IsUnrefused}
use Rattle.vs_design.specs.Answers.{OfRace, IsRefusedBy}
use Rattle.vs_design.specs.ExampleParts.{clk, clk_signal, input_of, wire_of, reg_of, to_zero, lit, dec, bit, blocking, nonblocking, assign, on_posedge, design_of, slot_ends}

abbrev pub d1 : Signal
d1 = input_of (codes "d") 1 None 1

abbrev pub q2 : Signal
q2 = reg_of (codes "q") 2 None 2

abbrev pub t3 : Signal
t3 = reg_of (codes "t") 3 None 3

abbrev pub y4 : Signal
y4 = wire_of (codes "y") 4 None 4

-- `always @(posedge clk) begin t = d; q <= ~t; end`
abbrev pub temporary : Design
temporary = design_of (clk_signal ∷ d1 ∷ q2 ∷ t3 ∷ []) (on_posedge 0 clk_signal (Then (blocking 10 t3 (Name d1)) (nonblocking 20 q2 (Unary BitNot (Name t3)))) ∷ [])

-- `always @(posedge clk) begin q <= t; t = d; end`
abbrev pub read_first : Design
read_first = design_of (clk_signal ∷ d1 ∷ q2 ∷ t3 ∷ []) (on_posedge 0 clk_signal (Then (nonblocking 10 q2 (Name t3)) (blocking 20 t3 (Name d1))) ∷ [])

-- `always @(posedge clk) t = d; always @(posedge clk) q <= t;`
abbrev pub raced : Design
raced = design_of (clk_signal ∷ d1 ∷ q2 ∷ t3 ∷ []) (on_posedge 0 clk_signal (blocking 10 t3 (Name d1)) ∷ on_posedge 20 clk_signal (nonblocking 30 q2 (Name t3)) ∷ [])

-- `always @(posedge clk) q <= y; assign y = ~t; always @(posedge clk) t = d;`
abbrev pub raced_through : Design
raced_through = design_of (clk_signal ∷ d1 ∷ q2 ∷ t3 ∷ y4 ∷ []) (on_posedge 0 clk_signal (nonblocking 10 q2 (Name y4)) ∷ assign 20 (Whole y4) (Unary BitNot (Name t3)) ∷ on_posedge 30 clk_signal (blocking 40 t3 (Name d1)) ∷ [])

abbrev pub wide_d : Signal
wide_d = input_of (codes "d") 1 (to_zero 1) 1

abbrev pub wide_q : Signal
wide_q = reg_of (codes "q") 2 (to_zero 1) 3

-- `always @(posedge clk) begin q = 2'bx; if (d[0]) q <= d; end`
abbrev pub twice : Design
twice = design_of (clk_signal ∷ wide_d ∷ wide_q ∷ []) (on_posedge 0 clk_signal (Then (blocking 10 wide_q (lit (X ∷ X ∷ []))) (If (bit wide_d 1 (dec 1 0)) (nonblocking 20 wide_q (Name wide_d)) Empty)) ∷ [])

-- `always @(posedge clk) begin q <= d; q = ~d; t <= q; end`
abbrev pub overtaken : Design
overtaken = design_of (clk_signal ∷ d1 ∷ q2 ∷ t3 ∷ []) (on_posedge 0 clk_signal (Then (nonblocking 10 q2 (Name d1)) (Then (blocking 20 q2 (Unary BitNot (Name d1))) (nonblocking 30 t3 (Name q2)))) ∷ [])

abbrev pub r1 : Signal
r1 = input_of (codes "r") 1 None 1

abbrev pub d2 : Signal
d2 = input_of (codes "d") 2 None 2

abbrev pub q3 : Signal
q3 = reg_of (codes "q") 3 None 3

abbrev pub t4 : Signal
t4 = reg_of (codes "t") 4 None 4

-- `always @(posedge clk or posedge r) if (r) begin t = 1'b0; q <= 1'b0; end else begin t = d; q <= ~t; end`
abbrev pub reset_at_once : Design
reset_at_once = design_of (clk_signal ∷ r1 ∷ d2 ∷ q3 ∷ t4 ∷ [])
    (Always 0 false (record { signal = clk_signal; edge = Posedge } ∷ record { signal = r1; edge = Posedge } ∷ [])
    (If (Name r1) (Then (blocking 10 t4 (dec 1 0)) (nonblocking 20 q3 (dec 1 0))) (Then (blocking 30 t4 (Name d2)) (nonblocking 40 q3 (Unary BitNot (Name t4))))) ∷ [])

pub record BlockingComputed : Type 0 where
  -- bits clk, d, q, t
  pub temporary_size : size temporary ≡ 9
  pub temporary_free : has_no_race temporary ≡ true
  pub temporary_passes : IsUnrefused temporary clk
  pub temporary_ends : slot_ends temporary (Zero ∷ One ∷ []) ((Zero ∷ Zero ∷ []) ∷ []) ≡
      ((Zero ∷ One ∷ X ∷ X ∷ []) ∷ (One ∷ One ∷ Zero ∷ One ∷ []) ∷ (Zero ∷ Zero ∷ Zero ∷ One ∷ []) ∷ (One ∷ Zero ∷ One ∷ Zero ∷ []) ∷ [])
  -- a variable that is read before it is written is a register
  pub read_first_size : size read_first ≡ 8
  pub read_first_free : has_no_race read_first ≡ true
  pub read_first_passes : IsUnrefused read_first clk
  pub read_first_ends : slot_ends read_first (Zero ∷ One ∷ []) ((Zero ∷ Zero ∷ []) ∷ []) ≡
      ((Zero ∷ One ∷ X ∷ X ∷ []) ∷ (One ∷ One ∷ X ∷ One ∷ []) ∷ (Zero ∷ Zero ∷ X ∷ One ∷ []) ∷ (One ∷ Zero ∷ One ∷ Zero ∷ []) ∷ [])
  -- another clocked block reads it, or what is made of it
  pub raced_bits : race_bits raced (level_order raced) 1 (on_posedge 20 clk_signal (nonblocking 30 q2 (Name t3))) ≡ 3 ∷ []
  pub raced_races : has_no_race raced ≡ false
  pub raced_refused : IsRefusedBy raced clk (OfRace (Race 1 3 20))
  pub through_stirs : stirred raced_through (level_order raced_through) (on_posedge 30 clk_signal (blocking 40 t3 (Name d1))) ≡ 3 ∷ 4 ∷ []
  pub through_bits : race_bits raced_through (level_order raced_through) 0 (on_posedge 0 clk_signal (nonblocking 10 q2 (Name y4))) ≡ 4 ∷ []
  pub through_races : has_no_race raced_through ≡ false
  pub through_refused : IsRefusedBy raced_through clk (OfRace (Race 0 4 0))
  -- `=` and `<=` to one register: it has the update where one was made, and else what `=` left. Bits clk, d, q
  pub twice_size : size twice ≡ 16
  pub twice_free : has_no_race twice ≡ true
  pub twice_passes : IsUnrefused twice clk
  pub twice_ends : slot_ends twice (Zero ∷ One ∷ Zero ∷ []) ((Zero ∷ Zero ∷ One ∷ []) ∷ []) ≡
      ((Zero ∷ One ∷ Zero ∷ X ∷ X ∷ []) ∷ (One ∷ One ∷ Zero ∷ One ∷ Zero ∷ []) ∷ (Zero ∷ Zero ∷ One ∷ One ∷ Zero ∷ []) ∷ (One ∷ Zero ∷ One ∷ X ∷ X ∷ []) ∷ [])
  -- an update is made after what is written at once behind it, with the value of its statement: bits clk, d, q, t
  pub overtaken_size : size overtaken ≡ 11
  pub overtaken_free : has_no_race overtaken ≡ true
  pub overtaken_passes : IsUnrefused overtaken clk
  pub overtaken_ends : slot_ends overtaken (Zero ∷ One ∷ []) ((Zero ∷ Zero ∷ []) ∷ []) ≡
      ((Zero ∷ One ∷ X ∷ X ∷ []) ∷ (One ∷ One ∷ One ∷ Zero ∷ []) ∷ (Zero ∷ Zero ∷ One ∷ Zero ∷ []) ∷ (One ∷ Zero ∷ Zero ∷ One ∷ []) ∷ [])
  -- an asynchronous reset: bits clk, r, d, q, t
  pub reset_free : has_no_race reset_at_once ≡ true
  pub reset_passes : IsUnrefused reset_at_once clk
  pub reset_ends : slot_ends reset_at_once (Zero ∷ Zero ∷ One ∷ []) ((Zero ∷ One ∷ One ∷ []) ∷ (Zero ∷ Zero ∷ Zero ∷ []) ∷ []) ≡
      ((Zero ∷ Zero ∷ One ∷ X ∷ X ∷ []) ∷ (One ∷ Zero ∷ One ∷ Zero ∷ One ∷ []) ∷ (Zero ∷ One ∷ One ∷ Zero ∷ Zero ∷ []) ∷ (One ∷ One ∷ One ∷ Zero ∷ Zero ∷ []) ∷ (Zero ∷ Zero ∷ Zero ∷ Zero ∷ Zero ∷ []) ∷ (One ∷ Zero ∷ Zero ∷ One ∷ Zero ∷ []) ∷ [])
