-- Typing: what an expression is by the rules, as a relation on both trees.
use Rattle.std.specs.Prelude.{ℕ, ◌≡◌, List, [], ◌∷◌, Option, Some, None, Ok, Bool, true, false}
use Rattle.oc_source.specs.declared.spot.Spot.{Spot}
use Rattle.oc_cells.specs.declared.types.CType.{CType, Nothing}
use Rattle.oc_cells.specs.declared.types.CType.TheViews.{Pointer}
use Rattle.oc_source.specs.declared.parsed.TypeName.{TypeName}
use Rattle.oc_source.specs.declared.parsed.ExprNode.{ExprNode, Number, NullPointer, Text, Named, Unary', Bump', Binary', Logic', Choose', Assign', Index', Field', Arrow', Call', Cast', SizeOf, Row_of-Expr, end_of-Expr, more_of-Expr}
use Rattle.oc_typed.specs.declared.typed.TExpr.{TExpr}
use Rattle.oc_typed.specs.declared.typed.TExprNode as t
use Rattle.type_rules.specs.declared.judging.TypeRule.TheVariants.{T8}
use Rattle.type_rules.specs.declared.judging.Found.{Found}
use Rattle.type_rules.specs.Judging.{breaks}
use Rattle.type_rules.specs.Lookup.{Lookup, find, value_of, is, convert, number, variable}
use Rattle.type_rules.specs.Operators.{unary, bump, operate, logic, choice, assign, index, field, arrow, cast}
use Rattle.type_rules.specs.Calls.{Called, Variable, Unknown, Print, Own, Known, called, Given, given_none, given_value, given_wrong, joined, given_as, Way, ByValue, ByPrivate, BySize, own_called, private_word, function_called}
use Rattle.type_rules.specs.Prints.{format_of, asked, Printed, printed_value, printed_both, print_called}
use Rattle.type_rules.specs.Written.{type_name}
use Rattle.oc_values.specs.declared.integers.IntKind.{IntKind}
use Rattle.type_rules.specs.declared.judging.Want.{Want}
use Rattle.type_rules.specs.declared.judging.Want.TheVariants as want
use Rattle.type_rules.specs.Rules.{params_of, wants_of, misplaced_size, way, sized, counted, both_parts, sizeof_row, text_of}

-- of a call: its arguments, by what the name is
abbrev pub CallTyping : Bool → Spot → Called → (List TExpr → Type 0) → (Given → Type 0) → (Found → Type 0) → Found → Type 0
CallTyping alone p Variable T G P f = ⊥
CallTyping alone p Unknown T G P f = ⊥
CallTyping alone p Print T G P f = P f
CallTyping alone p (Known n h) T G P f = (vs : List TExpr) × T vs × (function_called alone p n h vs ≡ Ok f)
CallTyping alone p (Own c) T G P f = (a : Given) × G a × (own_called alone p c a ≡ Ok f)

-- of an argument of the language's own call, in its way
abbrev pub WayTyping : Way → Want → (Found → Type 0) → (TExpr → Type 0) → (Given → Type 0) → Given → Type 0
WayTyping ByValue w T P S a = (u : Found) × T u × (given_as w (value_of u) ≡ Ok a)
WayTyping ByPrivate w T P S a = (v : TExpr) × P v × (a ≡ given_value v)
WayTyping BySize w T P S a = S a

-- of a product with a `sizeof`
abbrev pub ProductTyping : Lookup → Option TypeName → Option TypeName → (Found → Type 0) → (Found → Type 0) → Given → Type 0
ProductTyping g (Some w) o L R a =
    (b c : Given) × (u : Found) × (sized g w ≡ Ok b) × R u × (counted (value_of u) ≡ Ok c) × (a ≡ both_parts b c)
ProductTyping g None (Some w) L R a =
    (b c : Given) × (u : Found) × L u × (counted (value_of u) ≡ Ok b) × (sized g w ≡ Ok c) × (a ≡ both_parts b c)
ProductTyping g None None L R a = a ≡ given_wrong

-- of the first argument of a print
abbrev pub HeadTyping : Option (List ℕ) → (Found → Type 0) → Type 0
HeadTyping (Some x) T = Unit {0}
HeadTyping None T = (u : Found) × T u

abbrev mutual
  -- f is what the expression is, by the rules
  pub Typing : Lookup → Bool → Spot → ExprNode → Found → Type 0
  Typing g alone p (Number l) f = number p l ≡ Ok f
  Typing g alone p NullPointer f = is p (Pointer false Nothing) t.NullPointer ≡ Ok f
  Typing g alone p (Named x) f = variable p (find g.seen x) ≡ Ok f
  Typing g alone p (Text x) f = breaks {A = Found} p T8 ≡ Ok f
  Typing g alone p (SizeOf w) f = misplaced_size g p w ≡ Ok f
  Typing g alone p (Unary' op _ e) f = (u : Found) × Typing1 g e u × (unary p op u ≡ Ok f)
  Typing g alone p (Bump' up before _ e) f = (u : Found) × Typing1 g e u × (bump p up before u ≡ Ok f)
  Typing g alone p (Binary' op _ l _ r) f = (u v : Found) × Typing1 g l u × Typing1 g r v × (operate p op (value_of u) (value_of v) ≡ Ok f)
  Typing g alone p (Logic' all _ l _ r) f = (u v : Found) × Typing1 g l u × Typing1 g r v × (logic p all (value_of u) (value_of v) ≡ Ok f)
  Typing g alone p (Choose' _ c _ y _ n) f =
      (u v w : Found) × Typing1 g c u × Typing1 g y v × Typing1 g n w × (choice p (value_of u) (value_of v) (value_of w) ≡ Ok f)
  Typing g alone p (Assign' op _ l _ r) f = (u v : Found) × Typing1 g l u × Typing1 g r v × (assign p op u (value_of v) ≡ Ok f)
  Typing g alone p (Index' _ e _ a) f = (u v : Found) × Typing1 g e u × Typing1 g a v × (index p (value_of u) (value_of v) ≡ Ok f)
  Typing g alone p (Field' _ e x) f = (u : Found) × Typing1 g e u × (field g p x u ≡ Ok f)
  Typing g alone p (Arrow' _ e x) f = (u : Found) × Typing1 g e u × (arrow g p x (value_of u) ≡ Ok f)
  Typing g alone p (Cast' w _ e) f = (ty : CType) × (u : Found) × (type_name g w ≡ Ok ty) × Typing1 g e u × (cast p ty (value_of u) ≡ Ok f)
  Typing g alone p (Call' x _ es) f =
      CallTyping alone p (called g x) (λ vs. TypingAll g (params_of (called g x)) es vs)
      (λ a. GivenTyping g (wants_of (called g x)) es a) (λ k. PrintTyping g alone p es k) f

  -- these are the values of arguments, each converted to the type of its parameter
  pub TypingAll : {m : _} → Lookup → List CType → Row_of-Expr m → List TExpr → Type 0
  TypingAll g tys end_of-Expr vs = vs ≡ []
  TypingAll g [] (more_of-Expr p n rest) vs =
      (u : Found) × (ws : List TExpr) × Typing g false p n u × TypingAll g [] rest ws × (vs ≡ value_of u ∷ ws)
  TypingAll g (ty ∷ tys) (more_of-Expr p n rest) vs =
      (u : Found) × (x : TExpr) × (ws : List TExpr) × Typing g false p n u × (convert ty (value_of u) ≡ Ok x) × TypingAll g tys rest ws
      × (vs ≡ x ∷ ws)

  -- of the arguments of the language's own call, by what is wanted
  pub GivenTyping : {m : _} → Lookup → List Want → Row_of-Expr m → Given → Type 0
  GivenTyping g ws end_of-Expr a = a ≡ given_none
  GivenTyping g [] (more_of-Expr p n rest) a =
      (u : Found) × (b : Given) × Typing g false p n u × GivenTyping g [] rest b × (a ≡ joined (given_value (value_of u)) b)
  GivenTyping g (w ∷ ws) (more_of-Expr p n rest) a =
      (b c : Given) × WayTyping (way g w n) w (λ u. Typing g false p n u) (λ v. PrivateTyping g p n v) (λ d. SizeTyping g n d) b
      × GivenTyping g ws rest c × (a ≡ joined b c)

  -- of the `ocPrivate` of a feed
  pub PrivateTyping : Lookup → Spot → ExprNode → TExpr → Type 0
  PrivateTyping g p (Call' x _ es) v = (a : Given) × GivenTyping g (want.Index ∷ []) es a × (private_word p a ≡ Ok v)
  PrivateTyping g p _ v = ⊥

  -- of a `sizeof`, or its product with a number
  pub SizeTyping : Lookup → ExprNode → Given → Type 0
  SizeTyping g (SizeOf w) a = sized g w ≡ Ok a
  SizeTyping g (Binary' op _ l _ r) a = ProductTyping g (sizeof_row l) (sizeof_row r) (λ u. Typing1 g l u) (λ u. Typing1 g r u) a
  SizeTyping g _ a = a ≡ given_wrong

  -- of a print
  pub PrintTyping : {m : _} → Lookup → Bool → Spot → Row_of-Expr m → Found → Type 0
  PrintTyping g alone p end_of-Expr f = print_called alone p false None (record { args = []; fit = true }) ≡ Ok f
  PrintTyping g alone p (more_of-Expr q n rest) f =
      (a : Printed) × HeadTyping (text_of n) (λ u. Typing g false q n u) × PrintedTyping g (asked (format_of (text_of n)).pieces) rest a
      × (print_called alone p true (text_of n) a ≡ Ok f)

  -- of the values of a print
  pub PrintedTyping : {m : _} → Lookup → List IntKind → Row_of-Expr m → Printed → Type 0
  PrintedTyping g ks end_of-Expr a = a ≡ record { args = []; fit = true }
  PrintedTyping g [] (more_of-Expr p n rest) a =
      (u : Found) × (b : Printed) × Typing g false p n u × PrintedTyping g [] rest b × (a ≡ printed_both (record {
        args = value_of u
            ∷ [];
        fit = true;
      }) b)
  PrintedTyping g (k ∷ ks) (more_of-Expr p n rest) a =
      (u : Found) × (b c : Printed) × Typing g false p n u × (printed_value k (value_of u) ≡ Ok b) × PrintedTyping g ks rest c
      × (a ≡ printed_both b c)

  -- of a row's only expression
  pub Typing1 : Lookup → Row_of-Expr 1 → Found → Type 0
  Typing1 g (more_of-Expr p n rest) f = Typing g false p n f
