-- What operators, assignments, elements, fields and casts are, by the rules, of their typed parts.
use Rattle.std.specs.Prelude.{if◌then◌else◌, ℕ, List, [], ◌∷◌, Bool, true, false, not, ◌&&◌, ◌||◌, Option, Some, None, pos, slice_get}
use Rattle.oc_values.specs.declared.integers.IntKind.TheVariants.{Bool as KBool, I32}
use Rattle.oc_values.specs.declared.integers.BinaryOp.{BinaryOp}
use Rattle.oc_values.specs.declared.integers.BinaryOp.TheVariants.{Add, Sub}
use Rattle.oc_source.specs.declared.spot.Spot.{Spot}
use Rattle.oc_cells.specs.declared.types.CType.{CType, Int, Struct}
use Rattle.oc_cells.specs.declared.types.CType.TheViews.{Pointer}
use Rattle.oc_cells.specs.declared.types.FieldType.{FieldType}
use Rattle.oc_cells.specs.declared.types.StructType.{StructType}
use Rattle.oc_source.specs.declared.parsed.UnaryOp.{UnaryOp}
use Rattle.oc_source.specs.declared.parsed.UnaryOp.TheVariants.{Neg, Plus, Not, Flip, Deref, Address}
use Rattle.oc_values.specs.declared.integers.OneOp.{OneOp}
use Rattle.oc_values.specs.declared.integers.OneOp.TheVariants as one
use Rattle.oc_typed.specs.declared.typed.TExpr.{TExpr}
use Rattle.oc_typed.specs.declared.typed.TPlace.{TPlace}
use Rattle.oc_typed.specs.declared.typed.TExprNode.{Number}
use Rattle.oc_typed.specs.declared.typed.TExprNode as t
use Rattle.oc_typed.specs.declared.typed.TPlaceNode as place
use Rattle.type_rules.specs.declared.judging.TypeRule.TheVariants.{T3, T4, T6}
use Rattle.type_rules.specs.declared.judging.Found.{Found}
use Rattle.type_rules.specs.declared.judging.Found.TheVariants.{Place, Value}
use Rattle.oc_cells.specs.Types.{is_integer, is_hidden, kind_of, target, is_pointer}
use Rattle.oc_values.specs.Kinds.{promoted, is_shift, is_minus}
use Rattle.type_rules.specs.Judging.{Judged, next, breaks, needs, demand, leads, common, is_equality, is_unlike, is_comparison, converts, both_integers, takes, takes_update}
use Rattle.type_rules.specs.Lookup.{Lookup, value_of, type_of, placed, is, place_is, converted, convert, same_name}

-- the type of a truth value: hidden Bool, or public I32
abbrev pub truth : Bool → CType
truth true = Int KBool true
truth false = Int I32 false

-- `-`, `+` and `~` take an integer and promote it
abbrev pub negate : Spot → OneOp → TExpr → Judged Found
negate p op e =
    next (needs p T3 (is_integer e.ty)) (λ _.
    is p (Int (promoted (kind_of e.ty)) (is_hidden e.ty)) (t.Unary op (converted (Int (promoted (kind_of e.ty)) (is_hidden e.ty)) e)))

-- `!` takes an integer, converted to Bool
abbrev pub deny : Spot → TExpr → Judged Found
deny p e =
    next (needs p T3 (is_integer e.ty)) (λ _.
    is p (truth (is_hidden e.ty)) (t.Unary one.Not (converted (Int KBool (is_hidden e.ty)) e)))

-- `*` takes a pointer to something, and gives the place where it leads
abbrev pub follow : Spot → TExpr → Judged Found
follow p e = next (needs p T3 (leads e.ty)) (λ _. place_is p (target e.ty) (place.Deref e))

-- `&` takes a place, and gives a pointer to it
abbrev pub refer : Spot → Found → Judged Found
refer p f = next (placed p f) (λ q. is p (Pointer false q.ty) (t.AddressOf q))

-- an operator with one operand
abbrev pub unary : Spot → UnaryOp → Found → Judged Found
unary p Neg f = negate p one.Neg (value_of f)
unary p Plus f = negate p one.Plus (value_of f)
unary p Flip f = negate p one.Flip (value_of f)
unary p Not f = deny p (value_of f)
unary p Deref f = follow p (value_of f)
unary p Address f = refer p f

-- the operator of `++` and of `--`
abbrev pub sum_op : Bool → BinaryOp
sum_op true = Add
sum_op false = Sub

-- the value of an update: a shift's amount keeps its own kind, any other has the common one, hidden where the place is
abbrev pub working : BinaryOp → CType → TExpr → TExpr
working op ty v =
    if not (is_integer ty) then v
    else if is_shift op then converted (Int (promoted (kind_of v.ty)) (is_hidden v.ty)) v
    else converted (Int (common (kind_of ty) (kind_of v.ty)) (is_hidden ty)) v

-- `++` and `--` add and subtract the number 1
abbrev pub bump : Spot → Bool → Bool → Found → Judged Found
bump p up before f =
    next (needs p T3 (is_integer (type_of f) || leads (type_of f))) (λ _.
    next (placed p f) (λ q.
    is p q.ty (t.Update (sum_op up) q
    (working (sum_op up) q.ty (record { spot = p; ty = Int I32 false; node = Number (pos 1) })) (not before))))

-- the type of what an operator gives, of the type of its operands
abbrev pub result_of : BinaryOp → CType → CType
result_of op ty = if is_comparison op then truth (is_hidden ty) else ty

-- an operation on integers
abbrev pub arithmetic : Spot → BinaryOp → TExpr → TExpr → Judged Found
arithmetic p op l r =
    let hidden = is_hidden l.ty || is_hidden r.ty in
    let kind = if is_shift op then promoted (kind_of l.ty) else common (kind_of l.ty) (kind_of r.ty) in
    let right = if is_shift op then Int (promoted (kind_of r.ty)) (is_hidden r.ty) else Int kind hidden in
    is p (result_of op (Int kind hidden)) (t.Binary op (converted (Int kind hidden) l) (converted right r))

-- an operator with two operands that it takes
abbrev pub operated : Spot → BinaryOp → TExpr → TExpr → Judged Found
operated p op l r =
    if both_integers l.ty r.ty then arithmetic p op l r
    else if is_equality op then is p (truth false) (t.PointerSame l r (is_unlike op))
    else if is_pointer l.ty then is p l.ty (t.PointerStep l r (is_minus op) false)
    else is p r.ty (t.PointerStep r l false true)

-- an operator with two operands
abbrev pub operate : Spot → BinaryOp → TExpr → TExpr → Judged Found
operate p op l r = next (demand p (takes op) l.ty r.ty) (λ _. operated p op l r)

-- `&&` and `||` take integers, converted to Bool, and are hidden where one of them is
abbrev pub logic : Spot → Bool → TExpr → TExpr → Judged Found
logic p all l r =
    let hidden = is_hidden l.ty || is_hidden r.ty in
    next (needs p T3 (both_integers l.ty r.ty)) (λ _.
    is p (truth hidden) (t.Logic all (converted (Int KBool hidden) l) (converted (Int KBool hidden) r)))

-- `?:` takes a public condition and two integers, which get their common type
abbrev pub choice : Spot → TExpr → TExpr → TExpr → Judged Found
choice p c y n =
    let ty = Int (common (kind_of y.ty) (kind_of n.ty)) (is_hidden y.ty || is_hidden n.ty) in
    next (needs p T3 (is_integer c.ty && both_integers y.ty n.ty)) (λ _.
    next (needs p T4 (not (is_hidden c.ty))) (λ _.
    is p ty (t.Choose c (converted ty y) (converted ty n))))

-- without a place there is no type that the value has to convert to
abbrev pub assigned : Spot → Found → TExpr → Judged Found
assigned p f v =
    next (placed p f) (λ q.
    next (convert q.ty v) (λ x.
    is p q.ty (t.Assign q x)))

-- a compound assignment
abbrev pub updated : Spot → BinaryOp → Found → TExpr → Judged Found
updated p op f v =
    next (demand p (takes_update op) (type_of f) v.ty) (λ _.
    next (placed p f) (λ q.
    is p q.ty (t.Update op q (working op q.ty v) false)))

-- an assignment, or a compound one
abbrev pub assign : Spot → Option BinaryOp → Found → TExpr → Judged Found
assign p None f v = assigned p f v
assign p (Some op) f v = updated p op f v

-- an element: of a pointer to something and a public integer
abbrev pub index : Spot → TExpr → TExpr → Judged Found
index p e a =
    next (needs p T3 (leads e.ty && is_integer a.ty)) (λ _.
    next (needs p T4 (not (is_hidden a.ty))) (λ _.
    place_is p (target e.ty) (place.Index e a)))

-- the field of a name
abbrev pub field_of : List FieldType → List ℕ → Option FieldType
field_of [] x = None
field_of (f ∷ fs) x = if same_name f.name x then Some f else field_of fs x

-- the fields of a struct that is there
abbrev pub fields_of : Option StructType → List FieldType
fields_of None = []
fields_of (Some s) = s.fields

-- the field of a name in a type
abbrev pub field_in : Lookup → CType → List ℕ → Option FieldType
field_in g (Struct n) x = field_of (fields_of (slice_get g.structs n)) x
field_in g _ x = None

-- a field of a place, where it is there
abbrev pub field_at : Spot → TPlace → Option FieldType → Judged Found
field_at p q None = breaks p T6
field_at p q (Some f) = place_is p f.ty (place.Field q f.offset)

-- `e.f`, of a place that is a struct
abbrev pub field : Lookup → Spot → List ℕ → Found → Judged Found
field g p x (Value e) = breaks p T6
field g p x (Place q) = field_at p q (field_in g q.ty x)

-- `e->f`, of a pointer to a struct
abbrev pub arrow : Lookup → Spot → List ℕ → TExpr → Judged Found
arrow g p x e = field_at p (record { spot = p; ty = target e.ty; node = place.Deref e }) (field_in g (target e.ty) x)

-- a cast names an integer type, and its part converts to it
abbrev pub cast : Spot → CType → TExpr → Judged Found
cast p ty e =
    next (needs p T3 (is_integer ty)) (λ _.
    next (demand e.spot converts e.ty ty) (λ _.
    is p ty (t.Convert e)))
