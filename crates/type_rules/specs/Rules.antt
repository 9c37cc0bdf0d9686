-- The rules of typing for expressions, as functions: what each is found to be, or the first rule that it breaks.
use Rattle.std.specs.Prelude.{if◌then◌else◌, ℕ, nat_eq, List, [], ◌∷◌, ◌++◌, Bool, true, false, ◌&&◌, ◌||◌, Option, Some, None, is_some, Ok}
use Rattle.oc_values.specs.declared.integers.IntKind.{IntKind}
use Rattle.oc_values.specs.declared.integers.BinaryOp.{BinaryOp}
use Rattle.oc_values.specs.declared.integers.BinaryOp.TheVariants.{Mul}
use Rattle.oc_source.specs.declared.spot.Spot.{Spot}
use Rattle.oc_cells.specs.declared.types.CType.{CType, Nothing}
use Rattle.oc_cells.specs.declared.types.CType.TheViews.{Pointer}
use Rattle.oc_source.specs.declared.parsed.TypeName.{TypeName}
use Rattle.oc_source.specs.declared.parsed.Expr.{Expr}
use Rattle.oc_source.specs.declared.parsed.ExprNode.{ExprNode, Number, NullPointer, Text, Named, Unary', Bump', Binary', Logic', Choose', Assign', Index', Field', Arrow', Call', Cast', SizeOf, Row_of-Expr, end_of-Expr, more_of-Expr}
use Rattle.oc_typed.specs.declared.typed.TExpr.{TExpr}
use Rattle.oc_typed.specs.declared.typed.TExprNode as t
use Rattle.type_rules.specs.declared.judging.TypeRule.TheVariants.{T1, T7, T8, T9}
use Rattle.type_rules.specs.declared.judging.Found.{Found}
use Rattle.type_rules.specs.declared.judging.Want.{Want}
use Rattle.type_rules.specs.declared.judging.Want.TheVariants as want
use Rattle.type_rules.specs.Judging.{Judged, next, breaks, public_integer}
use Rattle.type_rules.specs.Lookup.{Lookup, find, valued, is, convert, number, variable}
use Rattle.type_rules.specs.Operators.{unary, bump, operate, logic, choice, assign, index, field, arrow, cast}
use Rattle.type_rules.specs.Calls.{Called, Variable, Unknown, Print, Own, Known, called, is_private_call, types_of, wants, Given, given_none, given_value, given_size, given_wrong, joined, given_by, Way, ByValue, ByPrivate, BySize, own_called, private_word, function_called}
use Rattle.type_rules.specs.Prints.{format_of, asked, Printed, printed_value, printed_both, print_called}
use Rattle.type_rules.specs.Written.{type_name, base_type}

-- the type that `sizeof` names
abbrev pub sizeof_type : ExprNode → Option TypeName
sizeof_type (SizeOf w) = Some w
sizeof_type _ = None

-- the type that a row's only expression names by `sizeof`
abbrev pub sizeof_row : {m : _} → Row_of-Expr m → Option TypeName
sizeof_row (more_of-Expr p n rest) = sizeof_type n
sizeof_row end_of-Expr = None

-- the type of `sizeof` where it may stand
abbrev pub sized : Lookup → TypeName → Judged Given
sized g w = next (type_name g w) (λ ty. Ok (given_size ty))

-- a number of cells
abbrev pub counted : TExpr → Judged Given
counted v = next (public_integer v.spot v.ty) (λ _. Ok (given_value v))

-- the two parts of one argument, in their order
abbrev pub both_parts : Given → Given → Given
both_parts a b = record { args = a.args ++ b.args; party = 0; of = (joined a b).of; misplaced = false; count = 1 }

-- a product with a `sizeof`; of two the first is in place
abbrev pub product : Lookup → Option TypeName → Option TypeName → Judged Found → Judged Found → Judged Given
product g (Some w) o l r = next (sized g w) (λ a. next (valued r) (λ v. next (counted v) (λ b. Ok (both_parts a b))))
product g None (Some w) l r = next (valued l) (λ v. next (counted v) (λ a. next (sized g w) (λ b. Ok (both_parts a b))))
product g None None l r = Ok given_wrong

-- whether an operator is the product
abbrev pub is_product : BinaryOp → Bool
is_product Mul = true
is_product _ = false

-- whether a node is a `sizeof` or a product with one
abbrev pub is_size : ExprNode → Bool
is_size (SizeOf w) = true
is_size _ = false

-- whether a node is a `sizeof`, or a product with one
abbrev pub has_sizeof : ExprNode → Bool
has_sizeof (SizeOf w) = true
has_sizeof (Binary' op _ l _ r) = is_product op && (is_some (sizeof_row l) || is_some (sizeof_row r))
has_sizeof _ = false

-- whether a node is an `ocPrivate`
abbrev pub is_private_node : Lookup → ExprNode → Bool
is_private_node g (Call' x _ es) = is_private_call (called g x)
is_private_node g _ = false

-- how an argument is judged where this is wanted
abbrev pub way : Lookup → Want → ExprNode → Way
way g (want.Word k) n = if is_private_node g n then ByPrivate else ByValue
way g want.Bytes n = if has_sizeof n then BySize else ByValue
way g want.Size n = if is_size n then BySize else ByValue
way g _ n = ByValue

-- the text that a node is
abbrev pub text_of : ExprNode → Option (List ℕ)
text_of (Text x) = Some x
text_of _ = None

-- a first argument of a print, which is a text or has a value
abbrev pub headed : Option (List ℕ) → Judged Found → Judged (Unit {0})
headed (Some text) m = Ok tt
headed None m = next (valued m) (λ _. Ok tt)

-- where a type is written that `sizeof` may not name here
abbrev pub misplaced_size : Lookup → Spot → TypeName → Judged Found
misplaced_size g p w = next (base_type g (nat_eq w.stars 0) w.base) (λ _. breaks p T9)

-- the types of the parameters of what is called
abbrev pub params_of : Called → List CType
params_of (Known n h) = types_of h.params
params_of _ = []

-- what a call of the language's own wants for its arguments
abbrev pub wants_of : Called → List Want
wants_of (Own c) = wants c
wants_of _ = []

-- a call of what the name is, of its arguments as a function's, as those of a call of the language, or as those of a print
abbrev pub invoked : Bool → Spot → Called → Judged (List TExpr) → Judged Given → Judged Found → Judged Found
invoked alone p Variable vs a m = next vs (λ _. breaks p T7)
invoked alone p Unknown vs a m = next vs (λ _. breaks p T1)
invoked alone p (Known n h) vs a m = next vs (λ ws. function_called alone p n h ws)
invoked alone p Print vs a m = m
invoked alone p (Own c) vs a m = next a (λ b. own_called alone p c b)

abbrev mutual
  -- what an expression is; it may have no value where it stands alone
  pub expr : Lookup → Bool → Spot → ExprNode → Judged Found
  expr g alone p (Number l) = number p l
  expr g alone p NullPointer = is p (Pointer false Nothing) t.NullPointer
  expr g alone p (Text x) = breaks p T8
  expr g alone p (Named x) = variable p (find g.seen x)
  expr g alone p (Unary' op _ e) = next (one g e) (λ f. unary p op f)
  expr g alone p (Bump' up before _ e) = next (one g e) (λ f. bump p up before f)
  expr g alone p (Binary' op _ l _ r) = next (value g l) (λ x. next (value g r) (λ y. operate p op x y))
  expr g alone p (Logic' all _ l _ r) = next (value g l) (λ x. next (value g r) (λ y. logic p all x y))
  expr g alone p (Choose' _ c _ y _ n) = next (value g c) (λ a. next (value g y) (λ b. next (value g n) (λ d. choice p a b d)))
  expr g alone p (Assign' op _ l _ r) = next (one g l) (λ f. next (value g r) (λ v. assign p op f v))
  expr g alone p (Index' _ e _ a) = next (value g e) (λ x. next (value g a) (λ y. index p x y))
  expr g alone p (Field' _ e x) = next (one g e) (λ f. field g p x f)
  expr g alone p (Arrow' _ e x) = next (value g e) (λ v. arrow g p x v)
  expr g alone p (Cast' w _ e) = next (type_name g w) (λ ty. next (value g e) (λ v. cast p ty v))
  expr g alone p (SizeOf w) = misplaced_size g p w
  expr g alone p (Call' x _ es) =
      invoked alone p (called g x) (passed g (params_of (called g x)) es) (given g (wants_of (called g x)) es) (printing g alone p es)

  -- arguments, each converted to the type of its parameter if it has one
  pub passed : {m : _} → Lookup → List CType → Row_of-Expr m → Judged (List TExpr)
  passed g tys end_of-Expr = Ok []
  passed g [] (more_of-Expr p n rest) = next (valued (expr g false p n)) (λ v. next (passed g [] rest) (λ vs. Ok (v ∷ vs)))
  passed g (ty ∷ tys) (more_of-Expr p n rest) =
      next (valued (expr g false p n)) (λ v. next (convert ty v) (λ x. next (passed g tys rest) (λ vs. Ok (x ∷ vs))))

  -- arguments of the language's own call, each by what is wanted in its place
  pub given : {m : _} → Lookup → List Want → Row_of-Expr m → Judged Given
  given g ws end_of-Expr = Ok given_none
  given g [] (more_of-Expr p n rest) = next (valued (expr g false p n)) (λ v. next (given g [] rest) (λ a. Ok (joined (given_value v) a)))
  given g (w ∷ ws) (more_of-Expr p n rest) =
      next (given_by (way g w n) w (expr g false p n) (private g p n) (size g n)) (λ a. next (given g ws rest) (λ b. Ok (joined a b)))

  -- the `ocPrivate` that a node is
  pub private : Lookup → Spot → ExprNode → Judged TExpr
  private g p (Call' x _ es) = next (given g (want.Index ∷ []) es) (λ a. private_word p a)
  private g p _ = breaks p T9

  -- the `sizeof` that a node is, or its product with a number
  pub size : Lookup → ExprNode → Judged Given
  size g (SizeOf w) = sized g w
  size g (Binary' op _ l _ r) = product g (sizeof_row l) (sizeof_row r) (one g l) (one g r)
  size g _ = Ok given_wrong

  -- a print: its text, then the values after it
  pub printing : {m : _} → Lookup → Bool → Spot → Row_of-Expr m → Judged Found
  printing g alone p end_of-Expr = print_called alone p false None (record { args = []; fit = true })
  printing g alone p (more_of-Expr q n rest) =
      next (headed (text_of n) (expr g false q n)) (λ _.
      next (printed g (asked (format_of (text_of n)).pieces) rest) (λ a.
      print_called alone p true (text_of n) a))

  -- the values of a print, each by the kind that is asked for
  pub printed : {m : _} → Lookup → List IntKind → Row_of-Expr m → Judged Printed
  printed g ks end_of-Expr = Ok (record { args = []; fit = true })
  printed g [] (more_of-Expr p n rest) =
      next (valued (expr g false p n)) (λ v. next (printed g [] rest) (λ a. Ok (printed_both (record { args = v ∷ []; fit = true }) a)))
  printed g (k ∷ ks) (more_of-Expr p n rest) =
      next (valued (expr g false p n)) (λ v. next (printed_value k v) (λ x. next (printed g ks rest) (λ a. Ok (printed_both x a))))

  -- what a row's only expression is
  pub one : Lookup → Row_of-Expr 1 → Judged Found
  one g (more_of-Expr p n rest) = expr g false p n

  -- the value of a row's only expression
  pub value : Lookup → Row_of-Expr 1 → Judged TExpr
  value g (more_of-Expr p n rest) = valued (expr g false p n)

-- an expression whose value is used
unfoldable pub typed_value : Lookup → Expr → Judged TExpr
typed_value g e = valued (expr g false e.spot e.node)

-- an expression that stands alone
unfoldable pub typed_alone : Lookup → Expr → Judged TExpr
typed_alone g e = valued (expr g true e.spot e.node)
