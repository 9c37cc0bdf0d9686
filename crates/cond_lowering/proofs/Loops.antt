-- What is left of a list in a loop over it.
use Rattle.std.proofs.Common.{ℕ, zero, suc, ◌+◌, ◌<◌, ◌≤◌, ◌≡◌, List, [], ◌∷◌, ◌++◌, length, take, drop, get_or, refl, ap, sym, ◌∙◌, arith, add-one, append_assoc, append-nil}
use Rattle.std.proofs.Math.Seq.{drop-cons, take-suc}
use Rattle.std.proofs.lemmas.List.{drop_all}
use Rattle.oc_cells.specs.declared.types.CType.{CType}
use Rattle.oc_typed.specs.declared.typed.TExpr.{TExpr}
use Rattle.oc_typed.specs.declared.typed.TypedFunction.{TypedFunction}
use Rattle.oc_code.specs.declared.code.Line.{Line}
use Rattle.oc_code.specs.declared.code.CodeFunction.{CodeFunction}
use Rattle.std.specs.Prelude.{Bool, true, false, nat_eq, nat_le, if◌then◌else◌}
use Rattle.oc_source.specs.declared.spot.Spot.{Spot}
use Rattle.oc_typed.specs.declared.typed.PrintPiece.{PrintPiece}
use Rattle.oc_typed.specs.declared.typed.PrintPiece.TheVariants.{Text, Decimal, Byte}
use Rattle.oc_typed.specs.declared.typed.Builtin.{Builtin}
use Rattle.oc_typed.specs.declared.typed.Builtin.TheVariants.{Private, Feed as FeedCall, Reveal as RevealCall, Give as GiveCall, PrivateCount, PublicCount as PublicCountCall, PublicWord as PublicWordCall, Print as PrintCall, Calloc, Malloc, Free as FreeCall}
use Rattle.oc_walk.specs.declared.run.Source.{Source}
use Rattle.oc_code.specs.Machine.{asked}
use Rattle.oc_code.specs.declared.code.Instr.TheVariants.{Give, Count, PublicCount, PublicWord, Free}
use Rattle.oc_code.specs.Lower.{line, feed_code, if_none, if_one, if_two, if_some, wrong_code, print_code, perform_code, function_code, functions_code}
use Rattle.cond_lowering.specs.Pieces.{Piece, seq, Adds}
use Rattle.cond_lowering.specs.Forms.{code_of, args_of, takes, performed, reveal_code, make_code, malloc_code, print_line}
use Rattle.cond_lowering.proofs.Adding.{adds_length}

-- the first of what is left in a loop
pub next_left : {A : Type 0} (xs : List A) (i : ℕ) (x : A) → i < length xs → x ≡ get_or xs i x → drop i xs ≡ x ∷ drop (i + 1) xs
next_left xs i x h e = rw add-one (drop-cons xs i x h ∙ ap (λ y. y ∷ drop (suc i) xs) (sym e))

-- a piece is added, of those that are left
pub left_next : (c0 c1 target : List Line) (a b all : Piece) → c0 ++ all (length c0) ≡ target → all (length c0) ≡ seq a b (length c0) → Adds c0 a c1 → c1 ++ b (length c1) ≡ target
left_next c0 c1 target a b all h e x =
    let n = adds_length c0 c1 a x in
    ap (λ c. c ++ b (length c1)) x.so ∙ ap (λ i. (c0 ++ a (length c0)) ++ b i) n ∙ append_assoc c0 (a (length c0)) (b (length c0 + length (a (length c0))))
    ∙ ap (λ l. c0 ++ l) (sym e) ∙ h

module _ (lss : List (List CType)) (d : ℕ) where
  pub args_next : (c0 c1 target : List Line) (es : List TExpr) (i : ℕ) (e : TExpr) → i < length es → e ≡ get_or es i e → c0 ++ args_of lss d (drop i es) (length c0) ≡ target → Adds c0 (code_of lss d e) c1
      → c1 ++ args_of lss d (drop (i + 1) es) (length c1) ≡ target
  args_next c0 c1 target es i e h q inv x =
      left_next c0 c1 target (code_of lss d e) (args_of lss d (drop (i + 1) es)) (args_of lss d (drop i es)) inv (ap (λ xs. args_of lss d xs (length c0)) (next_left es i e h q)) x

  pub args_end : (c0 c : List Line) (es : List TExpr) (i : ℕ) → length es ≤ i → c ++ args_of lss d (drop i es) (length c) ≡ c0 ++ args_of lss d es (length c0) → Adds c0 (args_of lss d es) c
  args_end c0 c es i h inv = record { so = sym (append-nil c) ∙ ap (λ xs. c ++ args_of lss d xs (length c)) (sym (drop_all i es h)) ∙ inv }

-- one more is taken
pub taken_next : {A : Type 0} (ys zs xs : List A) (i : ℕ) (x : A) → i < length xs → x ≡ get_or xs i x → ys ≡ take i xs → zs ≡ ys ++ x ∷ [] → zs ≡ take (i + 1) xs
taken_next ys zs xs i x h e inv q = q ∙ ap (λ l. l ++ x ∷ []) inv ∙ rw add-one (ap (λ y. take i xs ++ y ∷ []) e ∙ sym (take-suc xs i x h))

asked_more : (p : PrintPiece) (ps : List PrintPiece) → asked (p ∷ ps) ≡ asked (p ∷ []) + asked ps
asked_more (Text bytes) ps = omega arith
asked_more (Decimal k) ps = omega arith
asked_more Byte ps = omega arith

pub asked_next : (ps : List PrintPiece) (i : ℕ) (p : PrintPiece) (n m all k : ℕ) → i < length ps → p ≡ get_or ps i p → n + asked (drop i ps) ≡ all → k ≡ asked (p ∷ []) → m ≡ n + k → m + asked (drop (i + 1) ps) ≡ all
asked_next ps i p n m all k h e inv q r =
    let s : asked (drop i ps) ≡ asked (p ∷ []) + asked (drop (i + 1) ps) = ap asked (next_left ps i p h e) ∙ asked_more p (drop (i + 1) ps) in
    omega (arith, s)

pub asked_end : (ps : List PrintPiece) (i n : ℕ) → length ps ≤ i → n + asked (drop i ps) ≡ asked ps → n ≡ asked ps
asked_end ps i n h inv = let s : asked (drop i ps) ≡ 0 = ap asked (drop_all i ps h) in omega (arith, s)

-- the code of a call of the language's own, by whether it has as many arguments as it takes
if_one_by : (p : Spot) (n : ℕ) (c : List Line) → if_one p n c ≡ (if nat_eq n 1 then c else wrong_code p)
if_one_by p zero c = refl
if_one_by p (suc zero) c = refl
if_one_by p (suc (suc n)) c = let e : nat_eq (suc (suc n)) 1 ≡ false = grind arith in ap (λ b. if b then c else wrong_code p) (sym e)

if_two_by : (p : Spot) (n : ℕ) (c : List Line) → if_two p n c ≡ (if nat_eq n 2 then c else wrong_code p)
if_two_by p zero c = refl
if_two_by p (suc zero) c = refl
if_two_by p (suc (suc zero)) c = refl
if_two_by p (suc (suc (suc n))) c = let e : nat_eq (suc (suc (suc n))) 2 ≡ false = grind arith in ap (λ b. if b then c else wrong_code p) (sym e)

if_none_by : (p : Spot) (n : ℕ) (c : List Line) → if_none p n c ≡ (if nat_eq n 0 then c else wrong_code p)
if_none_by p zero c = refl
if_none_by p (suc n) c = let e : nat_eq (suc n) 0 ≡ false = grind arith in ap (λ b. if b then c else wrong_code p) (sym e)

if_some_by : (p : Spot) (t : CType) (n : ℕ) → if_some p n (malloc_code p t 0) (malloc_code p t 1) ≡ (if nat_le n 1 then malloc_code p t n else wrong_code p)
if_some_by p t zero = refl
if_some_by p t (suc zero) = refl
if_some_by p t (suc (suc n)) =
    let e : nat_le (suc (suc n)) 1 ≡ false = grind arith in
    ap (λ b. if b then malloc_code p t (suc (suc n)) else wrong_code p) (sym e)

print_by : (b : Bool) (p : Spot) (ps : List PrintPiece) → print_code b p ps ≡ (if b then print_line p ps else wrong_code p)
print_by true p ps = refl
print_by false p ps = refl

perform_by : (p : Spot) (t : CType) (s : Source) (w : Builtin) (n : ℕ) → perform_code p t s w n ≡ (if takes w n then performed p t s w n else wrong_code p)
perform_by p t s Private n = if_one_by p n []
perform_by p t s (FeedCall k party) n = if_one_by p n (feed_code s k party)
perform_by p t s (RevealCall k) n = if_two_by p n (reveal_code p k)
perform_by p t s (GiveCall k party) n = if_one_by p n (line p (Give k party) ∷ [])
perform_by p t s (PrivateCount party) n = if_none_by p n (line p (Count party) ∷ [])
perform_by p t s PublicCountCall n = if_none_by p n (line p PublicCount ∷ [])
perform_by p t s PublicWordCall n = if_one_by p n (line p PublicWord ∷ [])
perform_by p t s (PrintCall ps) n = print_by (nat_eq n (asked ps)) p ps
perform_by p t s Calloc n = if_one_by p n (make_code p t)
perform_by p t s Malloc n = if_some_by p t n
perform_by p t s FreeCall n = if_one_by p n (line p Free ∷ [])

pub performed_so : (p : Spot) (t : CType) (s : Source) (w : Builtin) (n : ℕ) → takes w n ≡ true → perform_code p t s w n ≡ performed p t s w n
performed_so p t s w n h = perform_by p t s w n ∙ ap (λ b. if b then performed p t s w n else wrong_code p) h

pub wrong_so : (p : Spot) (t : CType) (s : Source) (w : Builtin) (n : ℕ) → takes w n ≡ false → perform_code p t s w n ≡ wrong_code p
wrong_so p t s w n h = perform_by p t s w n ∙ ap (λ b. if b then performed p t s w n else wrong_code p) h

functions_last : (lss : List (List CType)) (fs : List TypedFunction) (f : TypedFunction) → functions_code lss (fs ++ f ∷ []) ≡ functions_code lss fs ++ function_code lss f ∷ []
functions_last lss [] f = refl
functions_last lss (g ∷ fs) f = ap (λ l. function_code lss g ∷ l) (functions_last lss fs f)

-- the code of one more function
pub functions_next : (lss : List (List CType)) (fs : List TypedFunction) (i : ℕ) (f : TypedFunction) (c0 c1 : List CodeFunction) → i < length fs → f ≡ get_or fs i f → c0 ≡ functions_code lss (take i fs) → c1 ≡ c0 ++ function_code lss f ∷ []
    → c1 ≡ functions_code lss (take (i + 1) fs)
functions_next lss fs i f c0 c1 h e inv q =
    q ∙ ap (λ l. l ++ function_code lss f ∷ []) inv ∙ sym (functions_last lss (take i fs) f) ∙ ap (λ gs. functions_code lss gs) (taken_next (take i fs) (take i fs ++ f ∷ []) fs i f h e refl refl)
