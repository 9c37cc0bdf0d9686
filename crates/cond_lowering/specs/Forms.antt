-- The code of an expression and of its parts, as pieces.
use Rattle.std.specs.Prelude.{ℕ, zero, suc, ◌+◌, pos, nat_eq, nat_le, List, [], ◌∷◌, ◌++◌, length, Bool, true, false, if◌then◌else◌}
use Rattle.oc_values.specs.declared.integers.IntKind.{IntKind}
use Rattle.oc_values.specs.declared.integers.IntKind.TheVariants.{Bool as KBool, I32}
use Rattle.oc_values.specs.declared.integers.BinaryOp.{BinaryOp}
use Rattle.oc_values.specs.declared.integers.OneOp.{OneOp}
use Rattle.oc_cells.specs.declared.types.CType.{CType, Int as CInt}
use Rattle.oc_cells.specs.Types.{kind_of, is_hidden, is_integer, is_pointer, is_struct, target}
use Rattle.oc_cells.specs.Layout.{size_of}
use Rattle.oc_typed.specs.Static.{same_spot}
use Rattle.oc_source.specs.declared.spot.Spot.{Spot}
use Rattle.oc_typed.specs.declared.typed.TExpr.{TExpr}
use Rattle.oc_typed.specs.declared.typed.TPlace.{TPlace}
use Rattle.oc_typed.specs.declared.typed.PrintPiece.{PrintPiece}
use Rattle.oc_typed.specs.declared.typed.Builtin.{Builtin}
use Rattle.oc_typed.specs.declared.typed.Builtin.TheVariants.{Private, Feed as FeedCall, Reveal as RevealCall, Give as GiveCall, PrivateCount, PublicCount as PublicCountCall, PublicWord as PublicWordCall, Print as PrintCall, Calloc, Malloc, Free as FreeCall}
use Rattle.oc_walk.specs.declared.run.Source.{Source}
use Rattle.oc_walk.specs.declared.run.Source.TheVariants.{Public}
use Rattle.oc_walk.specs.Builtins.{source_at}
use Rattle.oc_code.specs.Machine.{asked}
use Rattle.oc_code.specs.declared.code.Instr.TheVariants.{Push, FieldAt, Move, Check, Load, Store, Op, One, Same, Turn, Invoke, Dup, Swap, Discard, Reveal, Give, Count, PublicCount, PublicWord, Make, Free, Print}
use Rattle.oc_code.specs.declared.code.Line.{Line}
use Rattle.oc_code.specs.Lower.{line, below, expr_code, place_code, all_code, read_code, step_code, assign_code, convert_code, ready_code, renew_code, logic_op, feed_code, perform_code}
use Rattle.cond_lowering.specs.Pieces.{Piece, one, fixed, seq, choice}

-- an expression
abbrev pub code_of : List (List CType) → ℕ → TExpr → Piece
code_of lss d e n = expr_code lss d n e.spot e.ty e.node

-- a place
abbrev pub place_of : List (List CType) → ℕ → TPlace → Piece
place_of lss d q n = place_code lss d n q.spot q.ty q.node

-- expressions in order
abbrev pub args_of : List (List CType) → ℕ → List TExpr → Piece
args_of lss d es n = all_code lss d n es

-- an operator with one operand
abbrev pub unary_of : List (List CType) → ℕ → Spot → CType → OneOp → TExpr → Piece
unary_of lss d p t op e = seq (code_of lss d e) (one p (One op (kind_of e.ty) (is_hidden t)))

-- an operator with two operands
abbrev pub binary_of : List (List CType) → ℕ → Spot → CType → BinaryOp → TExpr → TExpr → Piece
binary_of lss d p t op l r = seq (code_of lss d l) (seq (code_of lss d r) (one p (Op op (kind_of l.ty) (is_hidden t))))

-- a pointer that is moved, where its amount comes first or not
abbrev pub moved_of : List (List CType) → ℕ → Spot → CType → TExpr → TExpr → Bool → Bool → Piece
moved_of lss d p t l r back true = seq (code_of lss d r) (seq (code_of lss d l) (fixed (step_code true p (size_of lss (target t)) back)))
moved_of lss d p t l r back false = seq (code_of lss d l) (seq (code_of lss d r) (fixed (step_code false p (size_of lss (target t)) back)))

-- whether two pointers are the same
abbrev pub same_of : List (List CType) → ℕ → Spot → TExpr → TExpr → Bool → Piece
same_of lss d p l r negated = seq (code_of lss d l) (seq (code_of lss d r) (one p (Same negated)))

-- a choice between two expressions
abbrev pub choose_of : List (List CType) → ℕ → Spot → TExpr → TExpr → TExpr → Piece
choose_of lss d p c l r = choice p (code_of lss d c) (code_of lss d l) (code_of lss d r)

-- an assignment
abbrev pub assign_of : List (List CType) → ℕ → TPlace → TExpr → Piece
assign_of lss d q e = seq (place_of lss d q) (seq (code_of lss d e) (fixed (assign_code q.spot e.spot q.ty)))

-- a conversion
abbrev pub convert_of : List (List CType) → ℕ → Spot → CType → TExpr → Piece
convert_of lss d p t e = seq (code_of lss (if same_spot p e.spot then d else below d) e) (fixed (convert_code (is_integer t) p e.ty t))

-- a call
abbrev pub call_of : List (List CType) → ℕ → Spot → ℕ → List TExpr → Piece
call_of lss d p f es = seq (args_of lss (below d) es) (one p (Invoke f (length es) (d + 1)))

-- what a place holds
abbrev pub held_of : List (List CType) → ℕ → TPlace → Piece
held_of lss d q = seq (place_of lss d q) (fixed (read_code (is_struct q.ty) q.spot q.ty))

-- where a pointer leads
abbrev pub deref_of : List (List CType) → ℕ → Spot → TExpr → Piece
deref_of lss d p e = seq (code_of lss d e) (one p Check)

-- an element
abbrev pub index_of : List (List CType) → ℕ → Spot → CType → TExpr → TExpr → Piece
index_of lss d p t l r = seq (code_of lss d l) (seq (code_of lss d r) (one p (Move (size_of lss t) false)))

-- a field
abbrev pub field_of : List (List CType) → ℕ → Spot → TPlace → ℕ → Piece
field_of lss d p b n = seq (place_of lss d b) (one p (FieldAt n))

-- an expression as 1 where it holds, and else 0
abbrev pub truth_of : List (List CType) → ℕ → Spot → TExpr → Piece
truth_of lss d p e = seq (code_of lss d e) (one p (Turn KBool I32 false))

-- `&&` of public operands, and `||`
abbrev pub public_logic : List (List CType) → ℕ → Spot → Bool → TExpr → TExpr → Piece
public_logic lss d p true l r = choice p (code_of lss d l) (truth_of lss d p r) (one p (Push I32 (pos 0)))
public_logic lss d p false l r = choice p (code_of lss d l) (one p (Push I32 (pos 1))) (truth_of lss d p r)

-- `&&` or `||` of hidden operands
abbrev pub hidden_logic : List (List CType) → ℕ → Spot → Bool → TExpr → TExpr → Piece
hidden_logic lss d p all l r = seq (code_of lss d l) (seq (code_of lss d r) (one p (Op (logic_op all) KBool true)))

-- `&&` or `||`
abbrev pub logic : List (List CType) → ℕ → Spot → CType → Bool → TExpr → TExpr → Piece
logic lss d p t all l r =
    if is_hidden t
    then hidden_logic lss d p all l r
    else public_logic lss d p all l r

-- a place once more, and then what it holds
abbrev pub again : Spot → Spot → CType → List Line
again p q u = line p Dup ∷ (line q (Load u) ∷ [])

-- the value of a place under what it is updated with, ready for the operation
abbrev pub under : Spot → Spot → BinaryOp → CType → CType → List Line
under p q op u t = line p Swap ∷ (line q (Load u) ∷ (ready_code (is_pointer u) p op u t ++ line p Swap ∷ []))

-- what an update whose value is the new one does after its operand
abbrev pub renewal : List (List CType) → Spot → Spot → BinaryOp → CType → CType → List Line
renewal lss p q op u t = under p q op u t ++ (renew_code (is_pointer u) lss p op u t ++ line q (Store u) ∷ [])

-- what an update whose value is the old one does before its operand
abbrev pub keeping : Spot → Spot → BinaryOp → CType → CType → List Line
keeping p q op u t = again p q u ++ (line p Swap ∷ (again p q u ++ ready_code (is_pointer u) p op u t))

-- and after it
abbrev pub storing : List (List CType) → Spot → Spot → BinaryOp → CType → CType → List Line
storing lss p q op u t = renew_code (is_pointer u) lss p op u t ++ (line q (Store u) ∷ (line p Discard ∷ []))

-- an update
abbrev pub update_of : List (List CType) → ℕ → Spot → BinaryOp → TPlace → TExpr → Bool → Piece
update_of lss d p op q e false =
    seq (place_of lss d q) (seq (one p Dup) (seq (code_of lss d e) (fixed (renewal lss p q.spot op q.ty e.ty))))
update_of lss d p op q e true =
    seq (place_of lss d q) (seq (fixed (keeping p q.spot op q.ty e.ty)) (seq (code_of lss d e) (fixed (storing lss p q.spot op q.ty e.ty))))

-- what the first argument is to a feed
abbrev pub first_source : List TExpr → Source
first_source [] = Public
first_source (e ∷ es) = source_at e.spot e.node

-- whether a call of the language's own has as many arguments as it takes
abbrev pub takes : Builtin → ℕ → Bool
takes Private n = nat_eq n 1
takes (FeedCall k party) n = nat_eq n 1
takes (RevealCall k) n = nat_eq n 2
takes (GiveCall k party) n = nat_eq n 1
takes (PrivateCount party) n = nat_eq n 0
takes PublicCountCall n = nat_eq n 0
takes PublicWordCall n = nat_eq n 1
takes (PrintCall ps) n = nat_eq n (asked ps)
takes Calloc n = nat_eq n 1
takes Malloc n = nat_le n 1
takes FreeCall n = nat_eq n 1

-- a call of the language's own, with its arguments
abbrev pub own_of : List (List CType) → ℕ → Spot → CType → Builtin → List TExpr → Piece
own_of lss d p t which es = seq (args_of lss d es) (fixed (perform_code p t (first_source es) which (length es)))

-- a reveal, and its write
abbrev pub reveal_code : Spot → IntKind → List Line
reveal_code p k = line p (Reveal k) ∷ (line p (Store (CInt k false)) ∷ [])

-- a new block of what a pointer type leads to
abbrev pub make_code : Spot → CType → List Line
make_code p t = line p (Make (target t)) ∷ []

-- the same, of one element where there is no argument
abbrev pub malloc_code : Spot → CType → ℕ → List Line
malloc_code p t zero = line p (Push I32 (pos 1)) ∷ make_code p t
malloc_code p t (suc n) = make_code p t

-- a print
abbrev pub print_line : Spot → List PrintPiece → List Line
print_line p ps = line p (Print ps) ∷ []

-- a call of the language's own that has as many arguments as it takes
abbrev pub performed : Spot → CType → Source → Builtin → ℕ → List Line
performed p t s Private n = []
performed p t s (FeedCall k party) n = feed_code s k party
performed p t s (RevealCall k) n = reveal_code p k
performed p t s (GiveCall k party) n = line p (Give k party) ∷ []
performed p t s (PrivateCount party) n = line p (Count party) ∷ []
performed p t s PublicCountCall n = line p PublicCount ∷ []
performed p t s PublicWordCall n = line p PublicWord ∷ []
performed p t s (PrintCall ps) n = print_line p ps
performed p t s Calloc n = make_code p t
performed p t s Malloc n = malloc_code p t n
performed p t s FreeCall n = line p Free ∷ []
