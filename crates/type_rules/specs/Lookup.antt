-- What names mean where an expression stands, and what an expression is found to be.
use Rattle.std.specs.Prelude.{if◌then◌else◌, ℕ, List, [], ◌∷◌, Bool, true, false, Option, Some, None, Ok, pos}
use Rattle.oc_source.specs.declared.spot.Spot.{Spot}
use Rattle.oc_source.specs.declared.literal.Literal.{Literal}
use Rattle.oc_cells.specs.declared.types.CType.{CType, Int}
use Rattle.oc_cells.specs.declared.types.CType.TheViews.{Pointer}
use Rattle.oc_cells.specs.declared.types.StructType.{StructType}
use Rattle.oc_typed.specs.declared.typed.TExpr.{TExpr}
use Rattle.oc_typed.specs.declared.typed.TPlace.{TPlace}
use Rattle.oc_typed.specs.declared.typed.TExprNode.{TExprNode, Number}
use Rattle.oc_typed.specs.declared.typed.TExprNode as t
use Rattle.oc_typed.specs.declared.typed.TPlaceNode.{TPlaceNode, Slot}
use Rattle.type_rules.specs.declared.judging.TypeRule.TheVariants.{T1, T5}
use Rattle.type_rules.specs.declared.judging.Found.{Found}
use Rattle.type_rules.specs.declared.judging.Found.TheVariants.{Place, Value}
use Rattle.type_rules.specs.declared.judging.Seen.{Seen}
use Rattle.type_rules.specs.declared.judging.Heading.{Heading}
use Rattle.oc_cells.specs.Types.{same}
use Rattle.type_rules.specs.Judging.{Judged, next, breaks, demand, is_array, element, converts}
pub use Rattle.oc_typing.specs.Rules.{same_name}

-- what the rules look names up in
pub record Lookup : Type 0 where
  -- the names of the program's structs, and which of them hold public data
  pub names : List (List ℕ)
  pub public : List Bool
  -- those that were judged, and how many are defined above
  pub structs : List StructType
  pub above : ℕ
  -- the functions with a body, and the result of the one around
  pub bodies : List Heading
  pub result : CType
  -- the visible variables, the last declared last
  pub seen : List Seen

-- the last declared variable of a name
abbrev pub or_else : Option Seen → Option Seen → Option Seen
or_else (Some a) b = Some a
or_else None b = b

-- a variable, where it has this name
abbrev pub seen_here : Seen → List ℕ → Option Seen
seen_here s x = if same_name s.name x then Some s else None

-- the variable that a name means: the one that was declared last
abbrev pub find : List Seen → List ℕ → Option Seen
find [] x = None
find (s ∷ ss) x = or_else (find ss x) (seen_here s x)

-- the value that is found, or that a place holds
abbrev pub value_of : Found → TExpr
value_of (Value e) = e
value_of (Place q) =
    if is_array q.ty then record { spot = q.spot; ty = Pointer false (element q.ty); node = t.Decay q }
    else record { spot = q.spot; ty = q.ty; node = t.Read q }

-- the value that an expression has
abbrev pub valued : Judged Found → Judged TExpr
valued m = next m (λ f. Ok (value_of f))

-- the type of what is found, of an array too
abbrev pub type_of : Found → CType
type_of (Value e) = e.ty
type_of (Place q) = q.ty

-- a place where one is needed
abbrev pub placed : Spot → Found → Judged TPlace
placed p (Place q) = Ok q
placed p (Value e) = breaks p T5

-- a value of this type
abbrev pub is : Spot → CType → TExprNode → Judged Found
is p ty n = Ok (Value (record { spot = p; ty = ty; node = n }))

-- a place of this type
abbrev pub place_is : Spot → CType → TPlaceNode → Judged Found
place_is p ty n = Ok (Place (record { spot = p; ty = ty; node = n }))

-- a value where this type is wanted; it is there already or a node converts it
abbrev pub converted : CType → TExpr → TExpr
converted ty e = if same true e.ty ty then e else record { spot = e.spot; ty = ty; node = t.Convert e }

-- a conversion that fails is a fault of what is converted
abbrev pub convert : CType → TExpr → Judged TExpr
convert ty e = next (demand e.spot converts e.ty ty) (λ _. Ok (converted ty e))

-- a literal is a public integer of its kind
abbrev pub number : Spot → Literal → Judged Found
number p l = is p (Int l.kind false) (Number (pos l.value))

-- a name is the place of its variable
abbrev pub variable : Spot → Option Seen → Judged Found
variable p None = breaks p T1
variable p (Some s) = place_is p s.ty (Slot s.slot)
