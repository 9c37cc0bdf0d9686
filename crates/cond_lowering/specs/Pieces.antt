-- Pieces of code, and what it is to add one to a list of lines.
use Rattle.std.specs.Prelude.{ℕ, ◌+◌, List, [], ◌∷◌, ◌++◌, length, ◌≡◌}
use Rattle.oc_source.specs.declared.spot.Spot.{Spot}
use Rattle.oc_code.specs.declared.code.Instr.{Instr}
use Rattle.oc_code.specs.declared.code.Line.{Line}
use Rattle.oc_code.specs.Lower.{line, if_code}

-- code by the place where it begins
abbrev pub Piece : Type 0
Piece = ℕ → List Line

-- no line
abbrev pub none : Piece
none n = []

-- one instruction
abbrev pub one : Spot → Instr → Piece
one p i n = line p i ∷ []

-- lines that are the same at each place
abbrev pub fixed : List Line → Piece
fixed c n = c

-- a piece, and another where it ends
abbrev pub seq : Piece → Piece → Piece
seq a b n = a n ++ b (n + length (a n))

-- a test, what follows where it holds, and where it doesn't
abbrev pub choice : Spot → Piece → Piece → Piece → Piece
choice p t a b n = if_code p n (t n) (a (n + length (t n) + 1)) (b (n + length (t n) + 1 + length (a (n + length (t n) + 1)) + 1))

-- the lines after are those before, and then the piece at the place where they end
pub record Adds (old : List Line) (piece : Piece) (new : List Line) : Type 0 where
  pub so : new ≡ old ++ piece (length old)
