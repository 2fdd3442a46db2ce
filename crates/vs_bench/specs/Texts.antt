-- The texts of a bench: a chain of 16 registers, each behind a product and a sum, and stimuli that look random.
use Rattle.std.specs.Prelude.{ℕ, zero, suc, ◌+◌, ◌*◌, ◌^◌, ◌/◌, ◌%◌, ◌==◌, Bool, List, [], ◌∷◌, ◌++◌, codes, if◌then◌else◌}

abbrev pub Text : Type 0
Text = List ℕ

-- the design
abbrev pub design : Text
design = codes "module stage(input clk, input rst, input [31:0] d, output reg [31:0] q);\nalways @(posedge clk) if (rst) q <= 32'd0; else q <= d * 32'd5 + 32'd1;\nendmodule\nmodule chain #(parameter N = 0) (input clk, input rst, input [31:0] d, output [31:0] y);\nwire [31:0] m;\nstage s(clk, rst, d, m);\ngenerate if (N == 0) assign y = m; else chain #(N - 1) c(clk, rst, m, y); endgenerate\nendmodule\nmodule top(input clk, input rst, input [31:0] a, output [31:0] y);\nchain #(15) c(clk, rst, a, y);\nendmodule\n"

-- the generator's state after this one: a linear congruence of 64 bits
unfoldable pub after : ℕ → ℕ
after s = (s * 6364136223846793005 + 1442695040888963407) % 2 ^ 64

-- a lane's generator: its state after so many steps
abbrev pub state : ℕ → ℕ → ℕ
state lane zero = lane + 1
state lane (suc k) = after (state lane k)

-- so many binary digits of a number, the most significant first
unfoldable pub binary : ℕ → ℕ → Text
binary zero n = []
binary (suc w) n = binary w (n / 2) ++ (48 + n % 2) ∷ []

-- the line of a vector with these inputs
abbrev pub vector_line : Bool → ℕ → Text
vector_line rst a = (if rst then 49 else 48) ∷ 32 ∷ binary 32 a ++ 10 ∷ []

-- a lane's line k, from 0: `rst` is 1 in the first one alone, and `a` is the upper half of the generator's state
abbrev pub line : ℕ → ℕ → Text
line lane k = vector_line (k == 0) (state lane (suc k) / 2 ^ 32)

-- a lane's first vectors, so many, a line each
abbrev pub lines : ℕ → ℕ → Text
lines lane zero = []
lines lane (suc k) = lines lane k ++ line lane k

-- the first line of a stimulus
abbrev pub header : Text
header = codes "inputs rst a\n"

-- a lane's stimulus of so many vectors
abbrev pub stimulus : ℕ → ℕ → Text
stimulus lane vectors = header ++ lines lane vectors
