-- The limits, each number once. (The code has them again as constants: where the two differed, some function could not be proved.)
use Rattle.std.specs.Prelude.{ℕ, ◌*◌, ◌-◌}

-- Roasteries: 1 to 32 ..
unfoldable pub max_sources : ℕ
max_sources = 32

-- .. and cafés: 1 to 32.
unfoldable pub max_sinks : ℕ
max_sinks = 32

-- The room for a side of a tableau, in answers and in the arrays of the code: neither limit is above it, and 32 cafés leave none for an extra one (02, One).
unfoldable pub max_side : ℕ
max_side = 32

-- A supply or demand: 0 to 1,000,000 bags (02, Four).
unfoldable pub max_amount : ℕ
max_amount = 1_000_000

-- The most bags of a sheet, all roasteries together.
unfoldable pub max_bags : ℕ
max_bags = max_side * max_amount

-- A cost: −1,000,000 to 1,000,000 cents a bag (02, Two).
unfoldable pub max_cost : ℕ
max_cost = 1_000_000

-- What a lane of a balanced problem may cost: from −cost_below to cost_above. The costs of a sheet are such.
unfoldable pub cost_below : ℕ
cost_below = max_cost

unfoldable pub cost_above : ℕ
cost_above = max_cost

-- The most basic cells of a tableau within the limits: the length of a tableau's array.
unfoldable pub max_cells : ℕ
max_cells = 2 * max_side - 1

-- A number of a sheet text has one to seven digits. (The minus of a cost is none.)
unfoldable pub max_digits : ℕ
max_digits = 7

-- The longest sheet text, in bytes.
unfoldable pub max_text : ℕ
max_text = 9756

-- Not a limit of the paper but the length of the program's output, in bytes: no plan text is longer. (That is a theorem.)
unfoldable pub max_plan_text : ℕ
max_plan_text = 1_604
