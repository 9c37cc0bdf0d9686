-- What calls are, by the rules, of their typed arguments.
use Rattle.std.specs.Prelude.{if◌then◌else◌, ℕ, ◌+◌, nat_eq, nat_lt, List, [], ◌∷◌, ◌++◌, length, Bool, true, false, not, ◌&&◌, ◌||◌, Option, Some, None, Ok, ℤ, pos, negsuc, codes}
use Rattle.oc_values.specs.declared.integers.IntKind.{IntKind}
use Rattle.oc_values.specs.declared.integers.IntKind.TheVariants.{Bool as KBool, I8, I16, I32, I64}
use Rattle.oc_source.specs.declared.spot.Spot.{Spot}
use Rattle.oc_cells.specs.declared.types.CType.{CType, Int, Nothing}
use Rattle.oc_cells.specs.declared.types.CType.TheViews.{Pointer}
use Rattle.oc_cells.specs.declared.types.SlotType.{SlotType}
use Rattle.oc_typed.specs.declared.typed.TExpr.{TExpr}
use Rattle.oc_typed.specs.declared.typed.TExprNode.{TExprNode, Number}
use Rattle.oc_typed.specs.declared.typed.TExprNode as t
use Rattle.oc_typed.specs.declared.typed.Builtin.{Builtin}
use Rattle.oc_typed.specs.declared.typed.Builtin.TheVariants as own
use Rattle.type_rules.specs.declared.judging.TypeRule.TheVariants.{T3, T7, T9}
use Rattle.type_rules.specs.declared.judging.Found.{Found}
use Rattle.type_rules.specs.declared.judging.Seen.{Seen}
use Rattle.type_rules.specs.declared.judging.Heading.{Heading}
use Rattle.type_rules.specs.declared.judging.OwnCall.{OwnCall}
use Rattle.type_rules.specs.declared.judging.OwnCall.TheVariants as call
use Rattle.type_rules.specs.declared.judging.Want.{Want}
use Rattle.type_rules.specs.declared.judging.Want.TheVariants as want
use Rattle.oc_cells.specs.Types.{is_integer, kind_of, is_pointer}
use Rattle.type_rules.specs.Judging.{Judged, next, needs, public_integer, is_nothing}
use Rattle.type_rules.specs.Lookup.{Lookup, find, valued, is, converted, convert, same_name}

-- the calls that the language has, by their names
abbrev pub own_calls : List (List ℕ × OwnCall)
own_calls =
    (codes "ocPrivate", call.Private)
    ∷ (codes "feedOblivBool", call.Feed KBool) ∷ (codes "feedOblivChar", call.Feed I8) ∷ (codes "feedOblivShort", call.Feed I16)
    ∷ (codes "feedOblivInt", call.Feed I32) ∷ (codes "feedOblivLLong", call.Feed I64)
    ∷ (codes "revealOblivBool", call.Reveal KBool) ∷ (codes "revealOblivChar", call.Reveal I8) ∷ (codes "revealOblivShort", call.Reveal I16)
    ∷ (codes "revealOblivInt", call.Reveal I32) ∷ (codes "revealOblivLLong", call.Reveal I64)
    ∷ (codes "ocResult", call.Result) ∷ (codes "ocPrivateCount", call.PrivateCount) ∷ (codes "ocPublicCount", call.PublicCount)
    ∷ (codes "ocPublic", call.Public) ∷ (codes "printf", call.Printf) ∷ (codes "calloc", call.Calloc) ∷ (codes "malloc", call.Malloc)
    ∷ (codes "free", call.Free) ∷ []

-- the call of a name among these
abbrev pub own_call_in : List (List ℕ × OwnCall) → List ℕ → Option OwnCall
own_call_in [] x = None
own_call_in (c ∷ cs) x = if same_name c.0 x then Some c.1 else own_call_in cs x

-- the call that the language has under a name
abbrev pub own_call : List ℕ → Option OwnCall
own_call x = own_call_in own_calls x

-- what a called name is
pub data Called : Type 0 where
  Variable : Called
  Unknown : Called
  Print : Called
  Own : OwnCall → Called
  Known : ℕ → Heading → Called

-- the function of a name, counted from n
abbrev pub function_from : ℕ → List Heading → List ℕ → Called
function_from n [] x = Unknown
function_from n (h ∷ hs) x = if same_name h.name x then Known n h else function_from (n + 1) hs x

-- what a call of the language is: a print, or another one
abbrev pub called_own : OwnCall → Called
called_own call.Printf = Print
called_own c = Own c

-- what a name that is no variable means: a call of the language's own, or a function
abbrev pub called_function : Lookup → List ℕ → Option OwnCall → Called
called_function g x (Some c) = called_own c
called_function g x None = function_from 0 g.bodies x

-- what a called name means, where a variable of this name is looked for first
abbrev pub called_name : Lookup → List ℕ → Option Seen → Called
called_name g x (Some s) = Variable
called_name g x None = called_function g x (own_call x)

-- what a called name means
abbrev pub called : Lookup → List ℕ → Called
called g x = called_name g x (find g.seen x)

-- whether a called name is that of `ocPrivate`
abbrev pub is_private_call : Called → Bool
is_private_call (Own call.Private) = true
is_private_call _ = false

-- the types of slots
abbrev pub types_of : List SlotType → List CType
types_of [] = []
types_of (s ∷ ss) = s.ty ∷ types_of ss

-- what a call wants for its arguments in order
abbrev pub wants : OwnCall → List Want
wants call.Private = want.Index ∷ []
wants (call.Feed k) = want.Word k ∷ want.Party ∷ []
wants (call.Reveal k) = want.Target k ∷ want.Hidden k ∷ want.Zero ∷ []
wants call.Result = want.Own ∷ want.Party ∷ []
wants call.PrivateCount = want.Party ∷ []
wants call.PublicCount = []
wants call.Public = want.Index ∷ []
wants call.Printf = []
wants call.Calloc = want.Index ∷ want.Size ∷ []
wants call.Malloc = want.Bytes ∷ []
wants call.Free = want.Address ∷ []

-- what some arguments give to a call that the language has
pub record Given : Type 0 where
  pub args : List TExpr
  -- the party, or 0
  pub party : ℕ
  -- the type of the cells, or none
  pub of : CType
  -- whether the call itself breaks a rule on its form
  pub misplaced : Bool
  -- how many there are
  pub count : ℕ

-- what no argument gives
abbrev pub given_none : Given
given_none = record { args = []; party = 0; of = Nothing; misplaced = false; count = 0 }

-- a value
abbrev pub given_value : TExpr → Given
given_value v = record { args = v ∷ []; party = 0; of = Nothing; misplaced = false; count = 1 }

-- the type of the cells, from either argument
abbrev pub either_type : CType → CType → CType
either_type a b = if is_nothing a then b else a

-- what two groups of arguments give together
abbrev pub joined : Given → Given → Given
joined a b =
    record {
      args = a.args ++ b.args;
      party = a.party + b.party;
      of = either_type a.of b.of;
      misplaced = a.misplaced || b.misplaced;
      count = a.count + b.count;
    }

-- the value of a number
abbrev pub literal : TExprNode → Option ℤ
literal (Number z) = Some z
literal _ = None

-- a number that is not negative
abbrev pub natural : Option ℤ → Option ℕ
natural (Some (pos n)) = Some n
natural (Some (negsuc n)) = None
natural None = None

-- the party of this number, or 0
abbrev pub party_of : Option ℕ → ℕ
party_of (Some n) = if nat_eq n 1 || nat_eq n 2 then n else 0
party_of None = 0

-- whether this is the number 0
abbrev pub is_number_zero : Option ℕ → Bool
is_number_zero (Some n) = nat_eq n 0
is_number_zero None = false

-- a party, which is the number 1 or 2
abbrev pub given_party : TExpr → Judged Given
given_party v =
    next (needs v.spot T9 (nat_lt 0 (party_of (natural (literal v.node))))) (λ _.
    Ok (record { args = []; party = party_of (natural (literal v.node)); of = Nothing; misplaced = false; count = 1 }))

-- the type of cells
abbrev pub given_size : CType → Given
given_size ty = record { args = []; party = 0; of = ty; misplaced = false; count = 1 }

-- an argument that gives nothing
abbrev pub given_none_but_one : Given
given_none_but_one = record { args = []; party = 0; of = Nothing; misplaced = false; count = 1 }

-- an argument with which the call breaks a rule on its form
abbrev pub given_wrong : Given
given_wrong = record { args = []; party = 0; of = Nothing; misplaced = true; count = 1 }

-- how an argument is judged: by its value, as the `ocPrivate` of a feed, or by the `sizeof` in it
pub data Way : Type 0 where
  ByValue : Way
  ByPrivate : Way
  BySize : Way

-- what a value gives where this is wanted
abbrev pub given_as : Want → TExpr → Judged Given
given_as want.Index v = next (public_integer v.spot v.ty) (λ _. Ok (given_value v))
given_as (want.Word k) v = next (public_integer v.spot v.ty) (λ _. Ok (given_value (converted (Int k true) v)))
given_as want.Party v = given_party v
given_as (want.Target k) v = next (convert (Pointer false (Int k false)) v) (λ x. Ok (given_value x))
given_as (want.Hidden k) v = next (convert (Int k true) v) (λ x. Ok (given_value x))
given_as want.Zero v = Ok (if is_number_zero (natural (literal v.node)) then given_none_but_one else given_wrong)
given_as want.Own v = next (needs v.spot T3 (is_integer v.ty)) (λ _. Ok (given_value (converted (Int (kind_of v.ty) true) v)))
given_as want.Address v = next (needs v.spot T3 (is_pointer v.ty)) (λ _. Ok (given_value v))
given_as want.Bytes v = Ok given_wrong
given_as want.Size v = Ok given_wrong

-- an argument, judged in its way
abbrev pub given_by : Way → Want → Judged Found → Judged TExpr → Judged Given → Judged Given
given_by ByValue w m private size = next (valued m) (λ v. given_as w v)
given_by ByPrivate w m private size = next private (λ v. Ok (given_value v))
given_by BySize w m private size = size

-- whether a call of the language has no value
abbrev pub has_value : OwnCall → Bool
has_value (call.Reveal k) = false
has_value call.Result = false
has_value call.Printf = false
has_value call.Free = false
has_value _ = true

-- whether a call is an `ocPrivate`
abbrev pub is_private : OwnCall → Bool
is_private call.Private = true
is_private _ = false

-- the kind of a list's first expression
abbrev pub first_kind : List TExpr → IntKind
first_kind [] = I32
first_kind (v ∷ vs) = kind_of v.ty

-- the type of a list's first expression
abbrev pub first_type_of : List TExpr → CType
first_type_of [] = Int I64 false
first_type_of (v ∷ vs) = v.ty

-- the type of a call of the language's own
abbrev pub own_type : OwnCall → Given → CType
own_type call.Private a = first_type_of a.args
own_type (call.Feed k) a = Int k true
own_type call.PrivateCount a = Int I32 false
own_type call.PublicCount a = Int I32 false
own_type call.Public a = Int I64 false
own_type call.Calloc a = Pointer false a.of
own_type call.Malloc a = Pointer false a.of
own_type (call.Reveal k) a = Nothing
own_type call.Result a = Nothing
own_type call.Printf a = Nothing
own_type call.Free a = Nothing

-- the node of a call of the language's own
abbrev pub own_node : OwnCall → Given → Builtin
own_node call.Private a = own.Private
own_node (call.Feed k) a = own.Feed k a.party
own_node (call.Reveal k) a = own.Reveal k
own_node call.Result a = own.Give (first_kind a.args) a.party
own_node call.PrivateCount a = own.PrivateCount a.party
own_node call.PublicCount a = own.PublicCount
own_node call.Public a = own.PublicWord
own_node call.Printf a = own.Print []
own_node call.Calloc a = own.Calloc
own_node call.Malloc a = own.Malloc
own_node call.Free a = own.Free

-- a call of the language's own with what its arguments give; a call without a value stands alone
abbrev pub own_called : Bool → Spot → OwnCall → Given → Judged Found
own_called alone p c a =
    next (needs p T3 (alone || has_value c)) (λ _.
    next (needs p T7 (nat_eq a.count (length (wants c)))) (λ _.
    next (needs p T9 (not (is_private c) && not a.misplaced)) (λ _.
    is p (own_type c a) (t.Builtin (own_node c a) a.args))))

-- the `ocPrivate` of a feed, whose node has the type of its argument
abbrev pub private_word : Spot → Given → Judged TExpr
private_word p a =
    next (needs p T7 (nat_eq a.count 1)) (λ _. Ok (record { spot = p; ty = first_type_of a.args; node = t.Builtin own.Private a.args }))

-- a call of a function; one without a value stands alone
abbrev pub function_called : Bool → Spot → ℕ → Heading → List TExpr → Judged Found
function_called alone p n h vs =
    next (needs p T3 (alone || not (is_nothing h.result))) (λ _.
    next (needs p T7 (nat_eq (length vs) (length h.params))) (λ _.
    is p h.result (t.Call n vs)))
