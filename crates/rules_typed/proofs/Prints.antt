-- A print passes the test.
use Rattle.std.proofs.Common.{ℕ, ◌≡◌, List, Option, Some, None, Ok, refl, sym, ap, ◌∙◌, subst, Bool, true, false, nat_eq, arith, suc, [], ◌∷◌, length, Err}
use Rattle.std.specs.Prelude.{◌&&◌, if◌then◌else◌, nat_le, IfOk}
use Rattle.oc_values.specs.declared.integers.IntKind.{IntKind}
use Rattle.oc_values.specs.declared.integers.IntKind.TheVariants.{I32, U32, I64, U64}
use Rattle.oc_values.specs.Integers.{width}
use Rattle.oc_values.specs.Kinds.{promoted}
use Rattle.oc_cells.specs.declared.types.CType.{CType, Int, Nothing}
use Rattle.oc_source.specs.declared.spot.Spot.{Spot}
use Rattle.oc_typed.specs.declared.typed.TExpr.{TExpr}
use Rattle.oc_typed.specs.declared.typed.TExprNode.TheBlock.{hidden-the_row-TExpr-0, hidden-the_row-TExpr-1, hidden-the_row-TPlace-2}
use denote.Hole.Carrier.{hidden}
use Rattle.type_rules.specs.declared.judging.Found.{Found}
use Rattle.type_rules.specs.declared.judging.TypeRule.TheVariants.{T3, T4, T7, T8}
use Rattle.type_rules.specs.Judging.{Judged, next, breaks}
use Rattle.type_rules.specs.Lookup.{converted}
use Rattle.oc_typing.specs.Typed.{Context, alone}
use Rattle.rules_typed.specs.Agreeing.{Passes, Valued}
use Rattle.oc_typed.specs.declared.typed.PrintPiece.{PrintPiece}
use Rattle.oc_typed.specs.declared.typed.TExprNode as t
use Rattle.type_rules.specs.Judging as judging
use Rattle.oc_typing.specs.Rules as test
use Rattle.oc_typed.specs.declared.typed.PrintPiece.TheVariants as piece
use Rattle.oc_typed.specs.declared.typed.Builtin.TheVariants as own
use Rattle.type_rules.specs.Prints as prints
use Rattle.rules_typed.proofs.Bools.{both, first, second, three}
use Rattle.rules_typed.proofs.Types.{itself}
use Rattle.rules_typed.proofs.Nodes.{converted_good, if_needs}
use Rattle.rules_typed.proofs.Arguments.{AllAlone, Matched, all_alone, exprs_row, matched_types, types_in, types_row}
use Rattle.rules_typed.proofs.Numbers.{at_most, number_is}

-- public integers of these kinds
abbrev pub public_of : List IntKind → List CType
public_of [] = []
public_of (k ∷ ks) = Int k false ∷ public_of ks

-- each number of a format has a promoted kind
abbrev pub AllPromoted : List PrintPiece → Type 0
AllPromoted [] = Unit {0}
AllPromoted (piece.Text bytes ∷ ps) = AllPromoted ps
AllPromoted (piece.Decimal k ∷ ps) = (test.is_promoted k ≡ true) × AllPromoted ps
AllPromoted (piece.Byte ∷ ps) = AllPromoted ps

-- a byte of text more
pub promoted_before : (b : ℕ) (ps : List PrintPiece) → AllPromoted ps → AllPromoted (prints.byte_before b ps)
promoted_before b [] h = tt
promoted_before b (piece.Text bytes ∷ ps) h = h
promoted_before b (piece.Decimal k ∷ ps) h = h
promoted_before b (piece.Byte ∷ ps) h = h

pub bytes_before : (b : ℕ) (ps : List PrintPiece) → test.text_bytes (prints.byte_before b ps) ≡ suc (test.text_bytes ps)
bytes_before b [] = refl
bytes_before b (piece.Text bytes ∷ ps) = omega arith
bytes_before b (piece.Decimal k ∷ ps) = omega arith
bytes_before b (piece.Byte ∷ ps) = omega arith

-- a format's numbers are of promoted kinds, and its texts are no longer than it
pub record Fine (n : ℕ) (f : prints.Format) : Type 0 where
  kinds : AllPromoted f.pieces
  bytes : nat_le (test.text_bytes f.pieces) n ≡ true

-- sums of lengths
pub one_longer : (a n : ℕ) → nat_le a n ≡ true → nat_le a (suc n) ≡ true
one_longer a n h = grind arith

pub both_longer : (a n : ℕ) → nat_le a n ≡ true → nat_le (suc a) (suc n) ≡ true
both_longer a n h = grind arith

-- a format stays fine in a longer text
pub longer : (n : ℕ) (f : prints.Format) → Fine n f → Fine (suc n) f
longer n f h = record { kinds = h.kinds; bytes = one_longer (test.text_bytes f.pieces) n h.bytes }

pub with_byte_fine : (b n : ℕ) (f : prints.Format) → Fine n f → Fine (suc n) (prints.with_byte b f)
with_byte_fine b n f h = record { kinds = promoted_before b f.pieces h.kinds; bytes = subst (λ m. nat_le m (suc n) ≡ true) (sym (bytes_before b f.pieces)) (both_longer (test.text_bytes f.pieces) n h.bytes) }

-- each step of a format
pub either_format : (n : ℕ) (b : Bool) (x y : prints.Format) → Fine n x → Fine n y → Fine n (if b then x else y)
either_format n true x y h i = h
either_format n false x y h i = i

pub none_fine : (n : ℕ) (good : Bool) → Fine n (prints.ended good)
none_fine n good = record { kinds = tt; bytes = zero_least n }
  where
    zero_least : (n : ℕ) → nat_le 0 n ≡ true
    zero_least n = grind arith

pub decimal_fine : (k : IntKind) (n : ℕ) (f : prints.Format) → test.is_promoted k ≡ true → Fine n f → Fine (suc n) (prints.with_piece (piece.Decimal k) f)
decimal_fine k n f q h = longer n (prints.with_piece (piece.Decimal k) f) (record { kinds = (q, h.kinds); bytes = h.bytes })

pub byte_fine : (n : ℕ) (f : prints.Format) → Fine n f → Fine (suc n) (prints.with_piece piece.Byte f)
byte_fine n f h = longer n (prints.with_piece piece.Byte f) (record { kinds = h.kinds; bytes = h.bytes })

-- a format that is read from a text is fine
pub format_fine : (bs : List ℕ) (s : prints.Part) → Fine (length bs) (prints.format s bs)
format_fine [] prints.Outside = none_fine 0 true
format_fine [] prints.Percent = none_fine 0 false
format_fine [] prints.Long = none_fine 0 false
format_fine [] prints.LongLong = none_fine 0 false
format_fine (b ∷ bs) prints.Outside = either_format (suc (length bs)) (nat_eq b 37) (prints.format prints.Percent bs) (prints.with_byte b (prints.format prints.Outside bs)) (longer (length bs) _ (format_fine bs prints.Percent)) (with_byte_fine b (length bs) _ (format_fine bs prints.Outside))
format_fine (b ∷ bs) prints.Percent =
    either_format (suc (length bs)) (nat_eq b 37) _ _ (with_byte_fine 37 (length bs) _ (format_fine bs prints.Outside))
    (either_format (suc (length bs)) (nat_eq b 100) _ _ (decimal_fine I32 (length bs) _ refl (format_fine bs prints.Outside))
    (either_format (suc (length bs)) (nat_eq b 117) _ _ (decimal_fine U32 (length bs) _ refl (format_fine bs prints.Outside))
    (either_format (suc (length bs)) (nat_eq b 99) _ _ (byte_fine (length bs) _ (format_fine bs prints.Outside))
    (either_format (suc (length bs)) (nat_eq b 108) _ _ (longer (length bs) _ (format_fine bs prints.Long)) (none_fine (suc (length bs)) false)))))
format_fine (b ∷ bs) prints.Long =
    either_format (suc (length bs)) (nat_eq b 100) _ _ (decimal_fine I64 (length bs) _ refl (format_fine bs prints.Outside))
    (either_format (suc (length bs)) (nat_eq b 117) _ _ (decimal_fine U64 (length bs) _ refl (format_fine bs prints.Outside))
    (either_format (suc (length bs)) (nat_eq b 108) _ _ (longer (length bs) _ (format_fine bs prints.LongLong)) (none_fine (suc (length bs)) false)))
format_fine (b ∷ bs) prints.LongLong =
    either_format (suc (length bs)) (nat_eq b 100) _ _ (decimal_fine I64 (length bs) _ refl (format_fine bs prints.Outside))
    (either_format (suc (length bs)) (nat_eq b 117) _ _ (decimal_fine U64 (length bs) _ refl (format_fine bs prints.Outside)) (none_fine (suc (length bs)) false))

pub text_fine : (o : Option (List ℕ)) → Fine (prints.text_length o) (prints.format_of o)
text_fine None = none_fine 0 true
text_fine (Some text) = format_fine text prints.Outside

-- the values that a format asks for are those of its test
pub formats_asked : (ps : List PrintPiece) → AllPromoted ps → test.formats ps (public_of (prints.asked ps)) ≡ true
formats_asked [] h = refl
formats_asked (piece.Text bytes ∷ ps) h = formats_asked ps h
formats_asked (piece.Decimal k ∷ ps) h = three h.0 (itself (Int k false)) (formats_asked ps h.1)
formats_asked (piece.Byte ∷ ps) h = both (itself (Int I32 false)) (formats_asked ps h)

-- lengths of lists of types
pub length_public : (ks : List IntKind) → length ks ≡ length (public_of ks)
length_public [] = refl
length_public (k ∷ ks) = ap (λ n. suc n) (length_public ks)

pub length_in : (es : List TExpr) → length (types_in es) ≡ length es
length_in [] = refl
length_in (e ∷ es) = ap (λ n. suc n) (length_in es)

module _ (g : Context) (vis : List ℕ) where
  -- the node of a print
  pub print_node : (p : Spot) (ps : List PrintPiece) (vs : List TExpr) → test.formats ps (types_in vs) ≡ true → nat_le (test.text_bytes ps) 4000 ≡ true → nat_le (length (types_in vs)) 64 ≡ true → AllAlone g vis vs → alone g vis (record { spot = p; ty = Nothing; node = t.Builtin (own.Print ps) vs }) ≡ true
  unfolding hidden-the_row-TExpr-0 hidden-the_row-TExpr-1 hidden-the_row-TPlace-2 hidden
  print_node p ps vs f b l h = both refl (three refl (subst (λ ts. test.builtin g.sizes Nothing false (own.Print ps) ts ≡ true) (sym (types_row vs)) (both (both f b) l)) (exprs_row g vis vs h))

  -- a print, of values that its format asks for
  pub print_good : (a : Bool) (p : Spot) (any : Bool) (text : Option (List ℕ)) (x : prints.Printed) → Matched g vis (public_of (prints.asked (prints.format_of text).pieces)) x.args → Passes g vis (prints.print_called a p any text x)
  print_good a p any text x h =
      if_needs g vis p T3 a _ (λ _.
      if_needs g vis p T7 any _ (λ _.
      if_needs g vis p T8 (prints.is_there text && (prints.format_of text).good && x.fit && nat_eq (length x.args) (length (prints.asked (prints.format_of text).pieces)) && nat_le (length x.args) 64 && nat_le (prints.text_length text) 4000) _ (λ k.
      let f = text_fine text in
      let rest = first (prints.is_there text && (prints.format_of text).good && x.fit && nat_eq (length x.args) (length (prints.asked (prints.format_of text).pieces)) && nat_le (length x.args) 64) (nat_le (prints.text_length text) 4000) k in
      let few = second (prints.is_there text && (prints.format_of text).good && x.fit && nat_eq (length x.args) (length (prints.asked (prints.format_of text).pieces))) (nat_le (length x.args) 64) rest in
      let many = second (prints.is_there text && (prints.format_of text).good && x.fit) (nat_eq (length x.args) (length (prints.asked (prints.format_of text).pieces))) (first (prints.is_there text && (prints.format_of text).good && x.fit && nat_eq (length x.args) (length (prints.asked (prints.format_of text).pieces))) (nat_le (length x.args) 64) rest) in
      print_node p (prints.format_of text).pieces x.args
      (subst (λ ts. test.formats (prints.format_of text).pieces ts ≡ true) (sym (matched_types g vis (public_of (prints.asked (prints.format_of text).pieces)) x.args h (number_is (length x.args) (length (prints.asked (prints.format_of text).pieces)) many ∙ length_public (prints.asked (prints.format_of text).pieces)))) (formats_asked (prints.format_of text).pieces f.kinds))
      (at_most (test.text_bytes (prints.format_of text).pieces) (prints.text_length text) 4000 f.bytes (second (prints.is_there text && (prints.format_of text).good && x.fit && nat_eq (length x.args) (length (prints.asked (prints.format_of text).pieces)) && nat_le (length x.args) 64) (nat_le (prints.text_length text) 4000) k))
      (subst (λ n. nat_le n 64 ≡ true) (sym (length_in x.args)) few)
      (all_alone g vis (public_of (prints.asked (prints.format_of text).pieces)) x.args h))))

  -- values of a print break a rule, or match what is asked for
  abbrev pub GivesPrinted : List IntKind → Judged prints.Printed → Type 0
  GivesPrinted ks m = IfOk m (λ a. Matched g vis (public_of ks) a.args)

  -- a value that nothing asks for, and one that something does
  pub printed_more : (m : Judged TExpr) (rest : Judged prints.Printed) → IfOk m (λ e. alone g vis e ≡ true) → GivesPrinted [] rest → GivesPrinted [] (next m (λ v. next rest (λ a. Ok (prints.printed_both (record { args = v ∷ []; fit = true }) a))))
  unfolding next
  printed_more (Ok e) (Ok a) h i = (h, i)
  printed_more (Ok e) (Err b) h i = tt
  printed_more (Err b) rest h i = tt

  pub printed_as : (k : IntKind) (ks : List IntKind) (m : Judged TExpr) (rest : Judged prints.Printed) → IfOk m (λ e. alone g vis e ≡ true) → GivesPrinted ks rest → GivesPrinted (k ∷ ks) (next m (λ v. next (prints.printed_value k v) (λ x. next rest (λ a. Ok (prints.printed_both x a)))))
  unfolding next
  printed_as k ks (Err b) rest h i = tt
  printed_as k ks (Ok e) rest h i = at (judging.converts e.ty (Int k false)) (judging.converts (judging.bare e.ty) (judging.bare (Int k false))) (λ c. converted_good g vis (Int k false) e h refl c)
    where
      at : (c d : Bool) → (c ≡ true → Valued g vis (Int k false) (converted (Int k false) e)) → GivesPrinted (k ∷ ks) (next (next (next (if c then Ok (tt {0}) else if d then breaks e.spot T4 else breaks e.spot T3) (λ _. Ok (converted (Int k false) e))) (λ x. Ok (record { args = x ∷ []; fit = nat_eq (width (judging.promoted (judging.kind_of e.ty))) (width k) }))) (λ x. next rest (λ a. Ok (prints.printed_both x a))))
      at true d f = tail rest i (f refl)
        where
          tail : (rest : Judged prints.Printed) → GivesPrinted ks rest → Valued g vis (Int k false) (converted (Int k false) e) → GivesPrinted (k ∷ ks) (next rest (λ a. Ok (prints.printed_both (record { args = converted (Int k false) e ∷ []; fit = nat_eq (width (judging.promoted (judging.kind_of e.ty))) (width k) }) a)))
          tail (Ok a) i v = (v, i)
          tail (Err b) i v = tt
      at false true f = tt
      at false false f = tt

  -- what follows a judgement that gives nothing
  pub after_any : (m : Judged (Unit {0})) (k : Judged Found) → Passes g vis k → Passes g vis (next m (λ _. k))
  unfolding next
  after_any (Ok u) k h = h
  after_any (Err b) k h = tt

  pub if_printed : (ks : List IntKind) (m : Judged prints.Printed) (k : prints.Printed → Judged Found) → GivesPrinted ks m → ((a : prints.Printed) → Matched g vis (public_of ks) a.args → Passes g vis (k a)) → Passes g vis (next m k)
  unfolding next
  if_printed ks (Ok a) k h f = f a h
  if_printed ks (Err b) k h f = tt
