-- The widths of words.
use Rattle.std.specs.Prelude.{ℕ, Bool, ◌||◌, ◌==◌, if◌then◌else◌}

-- a word has 1, 8, 16, 32 or 64 wires
abbrev pub is_width : ℕ → Bool
is_width n = n == 1 || n == 8 || n == 16 || n == 32 || n == 64

-- the binary logarithm of a width: as many places has a shift's amount
abbrev pub log2 : ℕ → ℕ
log2 w = if w == 64 then 6 else if w == 32 then 5 else if w == 16 then 4 else if w == 8 then 3 else 0
