-- FirstFault: the order of visits of a tree, when a visit is fine and when it breaks a rule, and the first that breaks.
use Rattle.std.specs.Prelude.{ℕ, ◌≡◌, List, [], ◌∷◌, ◌++◌, Option, Some, None, Ok, Err, Bool, true, false, ◌⊎◌}
use Rattle.oc_source.specs.declared.spot.Spot.{Spot}
use Rattle.oc_cells.specs.declared.types.CType.{CType, Nothing}
use Rattle.oc_cells.specs.declared.types.CType.TheViews.{Pointer}
use Rattle.oc_source.specs.declared.parsed.TypeName.{TypeName}
use Rattle.oc_source.specs.declared.parsed.ExprNode.{ExprNode, Number, NullPointer, Text, Named, Unary', Bump', Binary', Logic', Choose', Assign', Index', Field', Arrow', Call', Cast', SizeOf, Row_of-Expr, end_of-Expr, more_of-Expr}
use Rattle.oc_typed.specs.declared.typed.TExpr.{TExpr}
use Rattle.oc_typed.specs.declared.typed.TExprNode as t
use Rattle.type_rules.specs.declared.judging.TypeRule.TheVariants.{T1, T7, T8, T9}
use Rattle.type_rules.specs.declared.judging.Refusal.{Refusal}
use Rattle.type_rules.specs.declared.judging.Found.{Found}
use Rattle.type_rules.specs.Judging.{breaks}
use Rattle.type_rules.specs.Lookup.{Lookup, find, value_of, is, convert, number, variable}
use Rattle.type_rules.specs.Operators.{unary, bump, operate, logic, choice, assign, index, field, arrow, cast}
use Rattle.type_rules.specs.Calls.{Called, Variable, Unknown, Print, Own, Known, called, Given, given_as, Way, ByValue, ByPrivate, BySize, own_called, private_word, function_called}
use Rattle.type_rules.specs.Prints.{format_of, asked, Printed, printed_value, print_called}
use Rattle.type_rules.specs.Written.{type_name}
use Rattle.oc_values.specs.declared.integers.IntKind.{IntKind}
use Rattle.type_rules.specs.declared.judging.Want.{Want}
use Rattle.type_rules.specs.declared.judging.Want.TheVariants as want
use Rattle.type_rules.specs.Rules.{params_of, wants_of, misplaced_size, way, sized, counted, sizeof_row, text_of}
use Rattle.type_rules.specs.Typing.{Typing, TypingAll, Typing1, GivenTyping, PrivateTyping, PrintedTyping, HeadTyping}

-- what is visited: a node after its parts, the conversion of an argument after the argument, a written type
pub data Visit : Type 0 where
  Node : Bool → Spot → ExprNode → Visit
  Argument : CType → Spot → ExprNode → Visit
  Written : TypeName → Visit
  -- what is wanted of an argument's value, the `ocPrivate` of a feed, the type of a `sizeof`, a number of cells, a shown value
  Wanted : Want → Spot → ExprNode → Visit
  PrivateWord : Spot → ExprNode → Visit
  SizeType : TypeName → Visit
  Counted : Row_of-Expr 1 → Visit
  Shown : IntKind → Spot → ExprNode → Visit

-- of a call, by what the name is
abbrev pub order_of_call : Called → List Visit → List Visit → List Visit → List Visit
order_of_call (Own c) vs gs ps = gs
order_of_call Print vs gs ps = ps
order_of_call Variable vs gs ps = vs
order_of_call Unknown vs gs ps = vs
order_of_call (Known n h) vs gs ps = vs

-- of an argument by the way in which it is judged
abbrev pub order_of_way : Way → List Visit → Visit → List Visit → Visit → List Visit → List Visit
order_of_way ByValue vs w ps q ss = vs ++ (w ∷ [])
order_of_way ByPrivate vs w ps q ss = ps ++ (q ∷ [])
order_of_way BySize vs w ps q ss = ss

-- of a product with a `sizeof`, whose parts go from left to right
abbrev pub order_of_product : Option TypeName → Option TypeName → List Visit → List Visit → Visit → Visit → List Visit
order_of_product (Some w) o ls rs l r = SizeType w ∷ (rs ++ (r ∷ []))
order_of_product None (Some w) ls rs l r = ls ++ (l ∷ SizeType w ∷ [])
order_of_product None None ls rs l r = []

-- of the first argument of a print: a text is not visited
abbrev pub order_of_head : Option (List ℕ) → List Visit → List Visit
order_of_head (Some x) vs = []
order_of_head None vs = vs

abbrev mutual
  -- the parts of a node in the order of visits
  pub parts : Lookup → ExprNode → List Visit
  parts g (Number l) = []
  parts g NullPointer = []
  parts g (Named x) = []
  parts g (Text x) = []
  parts g (SizeOf w) = []
  parts g (Unary' op _ e) = order1 g e
  parts g (Bump' up before _ e) = order1 g e
  parts g (Binary' op _ l _ r) = order1 g l ++ (order1 g r)
  parts g (Logic' all _ l _ r) = order1 g l ++ (order1 g r)
  parts g (Choose' _ c _ y _ n) = order1 g c ++ (order1 g y ++ (order1 g n))
  parts g (Assign' op _ l _ r) = order1 g l ++ (order1 g r)
  parts g (Index' _ e _ a) = order1 g e ++ (order1 g a)
  parts g (Field' _ e x) = order1 g e
  parts g (Arrow' _ e x) = order1 g e
  parts g (Cast' w _ e) = Written w ∷ order1 g e
  parts g (Call' x _ es) =
      order_of_call (called g x) (order_all g (params_of (called g x)) es) (order_given g (wants_of (called g x)) es) (order_print g es)

  -- of arguments of a function
  pub order_all : {m : _} → Lookup → List CType → Row_of-Expr m → List Visit
  order_all g tys end_of-Expr = []
  order_all g [] (more_of-Expr p n rest) = parts g n ++ (Node false p n ∷ order_all g [] rest)
  order_all g (ty ∷ tys) (more_of-Expr p n rest) = parts g n ++ (Node false p n ∷ Argument ty p n ∷ order_all g tys rest)

  -- of arguments of a call of the language's own
  pub order_given : {m : _} → Lookup → List Want → Row_of-Expr m → List Visit
  order_given g ws end_of-Expr = []
  order_given g [] (more_of-Expr p n rest) = parts g n ++ (Node false p n ∷ order_given g [] rest)
  order_given g (w ∷ ws) (more_of-Expr p n rest) =
      order_of_way (way g w n) (parts g n ++ (Node false p n
      ∷ [])) (Wanted w p n) (private_parts g n) (PrivateWord p n) (size_parts g n) ++ order_given g ws rest

  -- of the arguments of an `ocPrivate`
  pub private_parts : Lookup → ExprNode → List Visit
  private_parts g (Call' x _ es) = order_given g (want.Index ∷ []) es
  private_parts g _ = []

  -- of a `sizeof`, or its product with a number
  pub size_parts : Lookup → ExprNode → List Visit
  size_parts g (SizeOf w) = SizeType w ∷ []
  size_parts g (Binary' op _ l _ r) = order_of_product (sizeof_row l) (sizeof_row r) (order1 g l) (order1 g r) (Counted l) (Counted r)
  size_parts g _ = []

  -- of the arguments of a print
  pub order_print : {m : _} → Lookup → Row_of-Expr m → List Visit
  order_print g end_of-Expr = []
  order_print g (more_of-Expr q n rest) =
      order_of_head (text_of n) (parts g n ++ (Node false q n ∷ [])) ++ order_printed g (asked (format_of (text_of n)).pieces) rest

  -- of the values of a print
  pub order_printed : {m : _} → Lookup → List IntKind → Row_of-Expr m → List Visit
  order_printed g ks end_of-Expr = []
  order_printed g [] (more_of-Expr p n rest) = parts g n ++ (Node false p n ∷ order_printed g [] rest)
  order_printed g (k ∷ ks) (more_of-Expr p n rest) = parts g n ++ (Node false p n ∷ Shown k p n ∷ order_printed g ks rest)

  -- of a row's only expression
  pub order1 : Lookup → Row_of-Expr 1 → List Visit
  order1 g (more_of-Expr p n rest) = parts g n ++ (Node false p n ∷ [])

-- all visits of an expression
abbrev pub order : Lookup → Bool → Spot → ExprNode → List Visit
order g alone p n = parts g n ++ (Node alone p n ∷ [])

-- a visit that breaks no rule
abbrev pub Fine : Lookup → Visit → Type 0
Fine g (Node alone p n) = (f : Found) × Typing g alone p n f
Fine g (Argument ty p n) = (f : Found) × (x : TExpr) × Typing g false p n f × (convert ty (value_of f) ≡ Ok x)
Fine g (Written w) = (ty : CType) × (type_name g w ≡ Ok ty)
Fine g (Wanted w p n) = (f : Found) × (a : Given) × Typing g false p n f × (given_as w (value_of f) ≡ Ok a)
Fine g (PrivateWord p n) = (v : TExpr) × PrivateTyping g p n v
Fine g (SizeType w) = (a : Given) × (sized g w ≡ Ok a)
Fine g (Counted r) = (f : Found) × (a : Given) × Typing1 g r f × (counted (value_of f) ≡ Ok a)
Fine g (Shown k p n) = (f : Found) × (a : Printed) × Typing g false p n f × (printed_value k (value_of f) ≡ Ok a)

-- the `ocPrivate` of a feed whose argument is typed, and which breaks a rule itself
abbrev pub PrivateBreaks : Lookup → Spot → ExprNode → Refusal → Type 0
PrivateBreaks g p (Call' y _ es) x = (a : Given) × GivenTyping g (want.Index ∷ []) es a × (private_word p a ≡ Err x)
PrivateBreaks g p _ x = breaks {A = TExpr} p T9 ≡ Err x

-- a print whose arguments are typed, and which breaks a rule itself
abbrev pub PrintBreaks : {m : _} → Lookup → Bool → Spot → Row_of-Expr m → Refusal → Type 0
PrintBreaks g alone p end_of-Expr x = print_called alone p false None (record { args = []; fit = true }) ≡ Err x
PrintBreaks g alone p (more_of-Expr q n rest) x =
    (a : Printed) × HeadTyping (text_of n) (λ u. Typing g false q n u) × PrintedTyping g (asked (format_of (text_of n)).pieces) rest a
    × (print_called alone p true (text_of n) a ≡ Err x)

-- a call whose arguments are typed, and which breaks a rule itself
abbrev pub CallBreaks : Bool → Spot → Called → (List TExpr → Type 0) → (Given → Type 0) → Type 0 → Refusal → Type 0
CallBreaks alone p Variable T G B x = (vs : List TExpr) × T vs × (breaks {A = Found} p T7 ≡ Err x)
CallBreaks alone p Unknown T G B x = (vs : List TExpr) × T vs × (breaks {A = Found} p T1 ≡ Err x)
CallBreaks alone p (Known n h) T G B x = (vs : List TExpr) × T vs × (function_called alone p n h vs ≡ Err x)
CallBreaks alone p (Own c) T G B x = (a : Given) × G a × (own_called alone p c a ≡ Err x)
CallBreaks alone p Print T G B x = B

-- a node whose parts are typed, and which breaks a rule itself
abbrev pub NodeBreaks : Lookup → Bool → Spot → ExprNode → Refusal → Type 0
NodeBreaks g alone p (Number l) x = number p l ≡ Err x
NodeBreaks g alone p NullPointer x = is p (Pointer false Nothing) t.NullPointer ≡ Err x
NodeBreaks g alone p (Named y) x = variable p (find g.seen y) ≡ Err x
NodeBreaks g alone p (Text y) x = breaks {A = Found} p T8 ≡ Err x
NodeBreaks g alone p (SizeOf w) x = misplaced_size g p w ≡ Err x
NodeBreaks g alone p (Unary' op _ e) x = (u : Found) × Typing1 g e u × (unary p op u ≡ Err x)
NodeBreaks g alone p (Bump' up before _ e) x = (u : Found) × Typing1 g e u × (bump p up before u ≡ Err x)
NodeBreaks g alone p (Binary' op _ l _ r) x =
    (u v : Found) × Typing1 g l u × Typing1 g r v × (operate p op (value_of u) (value_of v) ≡ Err x)
NodeBreaks g alone p (Logic' all _ l _ r) x =
    (u v : Found) × Typing1 g l u × Typing1 g r v × (logic p all (value_of u) (value_of v) ≡ Err x)
NodeBreaks g alone p (Choose' _ c _ y _ n) x =
    (u v w : Found) × Typing1 g c u × Typing1 g y v × Typing1 g n w × (choice p (value_of u) (value_of v) (value_of w) ≡ Err x)
NodeBreaks g alone p (Assign' op _ l _ r) x = (u v : Found) × Typing1 g l u × Typing1 g r v × (assign p op u (value_of v) ≡ Err x)
NodeBreaks g alone p (Index' _ e _ a) x = (u v : Found) × Typing1 g e u × Typing1 g a v × (index p (value_of u) (value_of v) ≡ Err x)
NodeBreaks g alone p (Field' _ e y) x = (u : Found) × Typing1 g e u × (field g p y u ≡ Err x)
NodeBreaks g alone p (Arrow' _ e y) x = (u : Found) × Typing1 g e u × (arrow g p y (value_of u) ≡ Err x)
NodeBreaks g alone p (Cast' w _ e) x =
    (ty : CType) × (u : Found) × (type_name g w ≡ Ok ty) × Typing1 g e u × (cast p ty (value_of u) ≡ Err x)
NodeBreaks g alone p (Call' y _ es) x =
    CallBreaks alone p (called g y) (λ vs. TypingAll g (params_of (called g y)) es vs)
    (λ a. GivenTyping g (wants_of (called g y)) es a) (PrintBreaks g alone p es x) x

-- a visit that breaks this rule
abbrev pub Breaks : Lookup → Visit → Refusal → Type 0
Breaks g (Node alone p n) x = NodeBreaks g alone p n x
Breaks g (Argument ty p n) x = (f : Found) × Typing g false p n f × (convert ty (value_of f) ≡ Err x)
Breaks g (Written w) x = type_name g w ≡ Err x
Breaks g (Wanted w p n) x = (f : Found) × Typing g false p n f × (given_as w (value_of f) ≡ Err x)
Breaks g (PrivateWord p n) x = PrivateBreaks g p n x
Breaks g (SizeType w) x = sized g w ≡ Err x
Breaks g (Counted r) x = (f : Found) × Typing1 g r f × (counted (value_of f) ≡ Err x)
Breaks g (Shown k p n) x = (f : Found) × Typing g false p n f × (printed_value k (value_of f) ≡ Err x)

-- visits of which none breaks a rule
abbrev pub AllFine : Lookup → List Visit → Type 0
AllFine g [] = Unit {0}
AllFine g (v ∷ vs) = Fine g v × AllFine g vs

-- the first visit that breaks a rule, while all before it are fine, breaks this one
abbrev pub FirstFault : Lookup → List Visit → Refusal → Type 0
FirstFault g [] x = ⊥
FirstFault g (v ∷ vs) x = Breaks g v x ⊎ (Fine g v × FirstFault g vs x)
