-- When what the rules look up is what the test of a typed tree has: each name means the same in both.
use Rattle.std.specs.Prelude.{ℕ, ◌≡◌, List, ◌++◌, Option, Some, true, not, Ok, IfOk, slice_get}
use Rattle.oc_cells.specs.declared.types.CType.{CType}
use Rattle.oc_cells.specs.declared.types.FieldType.{FieldType}
use Rattle.oc_cells.specs.declared.types.SlotType.{SlotType}
use Rattle.oc_source.specs.declared.parsed.TypeName.{TypeName}
use Rattle.oc_source.specs.declared.parsed.FieldDef.{FieldDef}
use Rattle.oc_typed.specs.declared.typed.TExpr.{TExpr}
use Rattle.oc_typed.specs.Visible.{is_among}
use Rattle.oc_typing.specs.Rules.{all, is_type, is_nothing, field}
use Rattle.oc_typing.specs.Typed.{Context, has_type, call, is_of_node, alone, place, is_slot}
use Rattle.type_rules.specs.declared.judging.Seen.{Seen}
use Rattle.type_rules.specs.declared.judging.Heading.{Heading}
use Rattle.type_rules.specs.declared.judging.Found.{Found}
use Rattle.type_rules.specs.declared.judging.Found.TheVariants.{Place, Value}
use Rattle.type_rules.specs.Judging.{Judged}
use Rattle.type_rules.specs.Lookup.{Lookup, find}
use Rattle.type_rules.specs.Operators.{field_in}
use Rattle.type_rules.specs.Calls.{called, Known, types_of}
use Rattle.type_rules.specs.Written.{type_name, field_type, is_frozen_place}

-- a value that passes the test where these slots are visible, or a place of a type that does
abbrev pub Good : Context → List ℕ → Found → Type 0
Good g vis (Value e) = alone g vis e ≡ true
Good g vis (Place q) = (is_type g.sizes g.public q.ty ≡ true) × (place g vis q.ty q.node ≡ true)

-- what is judged breaks a rule, or passes the test
abbrev pub Passes : Context → List ℕ → Judged Found → Type 0
Passes g vis m = IfOk m (Good g vis)

-- an expression of this type that passes the test
pub record Valued (g : Context) (vis : List ℕ) (t : CType) (e : TExpr) : Type 0 where
  pub ty : e.ty ≡ t
  pub good : alone g vis e ≡ true

-- a variable whose slot is visible and has its type
pub record GoodVariable (g : Context) (vis : List ℕ) (s : Seen) : Type 0 where
  pub visible : is_among vis s.slot ≡ true
  pub slot : has_type s.ty (slice_get g.slots s.slot) ≡ true
  pub ty : is_type g.sizes g.public s.ty ≡ true

-- a field that is found in this type stands in it at its offset, and has a type itself
abbrev pub GoodField : Context → Option FieldType → CType → Type 0
GoodField g o u = (f : FieldType) → o ≡ Some f → (is_type g.sizes g.public f.ty ≡ true) × (field g.structs u f.offset f.ty ≡ true)

-- a function that is found under this number: its heading is that of the typed one, and its types are types
pub record GoodFunction (g : Context) (n : ℕ) (h : Heading) : Type 0 where
  pub params : all (λ u. is_type g.sizes g.public u) (types_of h.params) ≡ true
  pub result : is_of_node g h.result ≡ true
  pub call : call h.result (types_of h.params) (slice_get g.functions n) ≡ true

-- the rules look up what the context has, where these slots are visible
pub record Agrees (r : Lookup) (g : Context) (vis : List ℕ) : Type 0 where
  pub seen : (x : List ℕ) (s : Seen) → find r.seen x ≡ Some s → GoodVariable g vis s
  pub fields : (u : CType) (x : List ℕ) → GoodField g (field_in r u x) u
  pub types : (w : TypeName) (u : CType) → type_name r w ≡ Ok u → is_type g.sizes g.public u ≡ true
  pub functions : (x : List ℕ) (n : ℕ) (h : Heading) → called r x ≡ Known n h → GoodFunction g n h

-- slots that others go on from
abbrev pub Goes : List SlotType → List SlotType → Type 0
Goes a f = (b : List SlotType) × (f ≡ a ++ b)

-- the rules look up what the context has whatever variables are visible, among any slots
pub record AgreesApart (r : Lookup) (g : Context) : Type 0 where
  pub fields : (ss : List Seen) (f : List SlotType) (u : CType) (x : List ℕ)
      → GoodField (record g { slots = f }) (field_in (record r { seen = ss }) u x) u
  pub types : (ss : List Seen) (w : TypeName) (u : CType) → type_name (record r { seen = ss }) w ≡ Ok u → is_type g.sizes g.public u ≡ true
  pub declared : (d : FieldDef) (u : CType) → field_type r d ≡ Ok u
      → is_slot g.sizes g.public (record { ty = u; frozen = is_frozen_place d.base d.stars }) ≡ true
  pub functions : (ss : List Seen) (f : List SlotType) (x : List ℕ) (n : ℕ) (h : Heading) → called (record r { seen = ss }) x ≡ Known n h
      → GoodFunction (record g { slots = f }) n h
  pub same_result : r.result ≡ g.result
  pub back : not (is_nothing g.result) ≡ true → is_type g.sizes g.public g.result ≡ true

-- the variables that names mean have visible slots of their types, among these slots
abbrev pub SeesAll : Context → List ℕ → List Seen → List SlotType → Type 0
SeesAll g vis ss f = (x : List ℕ) (y : Seen) → find ss x ≡ Some y → GoodVariable (record g { slots = f }) vis y
