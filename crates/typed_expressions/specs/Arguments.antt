-- Arguments of calls, judged one by one in their order.
use Rattle.std.specs.Prelude.{ℕ, ◌+◌, List, [], ◌∷◌, Bool, true, false, Option, Some, None, Ok, slice_get}
use Rattle.oc_values.specs.declared.integers.IntKind.{IntKind}
use Rattle.oc_source.specs.declared.spot.Spot.{Spot}
use Rattle.oc_source.specs.declared.parsed.Expr.{Expr}
use Rattle.oc_cells.specs.declared.types.CType.{CType}
use Rattle.oc_typed.specs.declared.typed.TExpr.{TExpr}
use Rattle.type_rules.specs.declared.judging.Found.{Found}
use Rattle.type_rules.specs.declared.judging.Want.{Want}
use Rattle.type_rules.specs.Judging.{Judged, next}
use Rattle.type_rules.specs.Lookup.{Lookup, convert}
use Rattle.type_rules.specs.Calls.{Called, Given, given_none, given_value, joined, given_by}
use Rattle.type_rules.specs.Prints.{Printed, printed_value, printed_both, format_of, asked, print_called}
use Rattle.type_rules.specs.Rules.{typed_value, way, private, size, text_of, headed, params_of, wants_of, invoked}
use Rattle.written_types.specs.Each.{each}
use Rattle.typed_expressions.specs.Sites.{found}

-- the number of the next argument
abbrev pub count_up : ℕ → Expr → ℕ
count_up i e = i + 1

-- a value as a parameter of this type takes it, if there is one
abbrev pub taken_by : Option CType → TExpr → Judged TExpr
taken_by None v = Ok v
taken_by (Some ty) v = convert ty v

-- an argument of a function, for a parameter of this type if there is one
abbrev pub passed_one : Lookup → Option CType → Expr → Judged TExpr
passed_one g ty e = next (typed_value g e) (λ v. taken_by ty v)

-- the argument of this number
abbrev pub passed_at : Lookup → List CType → ℕ → Expr → Judged TExpr
passed_at g tys i e = passed_one g (slice_get tys i) e

-- the arguments of a function
abbrev pub passed_list : Lookup → List CType → List Expr → Judged (List TExpr)
passed_list g tys es = each (passed_at g tys) count_up 0 es

-- an argument of the language's own call, by what is wanted in its place, if something is
abbrev pub given_one : Lookup → Option Want → Expr → Judged Given
given_one g None e = next (typed_value g e) (λ v. Ok (given_value v))
given_one g (Some w) e = given_by (way g w e.node) w (found g false e) (private g e.spot e.node) (size g e.node)

-- the argument of this number
abbrev pub given_at : Lookup → List Want → ℕ → Expr → Judged Given
given_at g ws i e = given_one g (slice_get ws i) e

-- what arguments give together
abbrev pub all_joined : List Given → Given
all_joined [] = given_none
all_joined (a ∷ rest) = joined a (all_joined rest)

-- the arguments of the language's own call
abbrev pub given_list : Lookup → List Want → List Expr → Judged Given
given_list g ws es = next (each (given_at g ws) count_up 0 es) (λ given. Ok (all_joined given))

-- no value of a print
abbrev pub no_value : Printed
no_value = record { args = []; fit = true }

-- a value of a print that no piece asks for
abbrev pub one_value : TExpr → Printed
one_value v = record { args = v ∷ []; fit = true }

-- a value as a piece prints it, if one asks for it
abbrev pub shown_by : Option IntKind → TExpr → Judged Printed
shown_by None v = Ok (one_value v)
shown_by (Some k) v = printed_value k v

-- the argument of this number after the text of a print
abbrev pub printed_at : Lookup → List IntKind → ℕ → Expr → Judged Printed
printed_at g ks i e = next (typed_value g e) (λ v. shown_by (slice_get ks i) v)

-- values of a print together
abbrev pub all_printed : List Printed → Printed
all_printed [] = no_value
all_printed (a ∷ rest) = printed_both a (all_printed rest)

-- the arguments after the text of a print
abbrev pub printed_list : Lookup → List IntKind → List Expr → Judged Printed
printed_list g ks es = next (each (printed_at g ks) count_up 0 es) (λ printed. Ok (all_printed printed))

-- a print of these arguments
abbrev pub printing_list : Lookup → Bool → Spot → List Expr → Judged Found
printing_list g alone p [] = print_called alone p false None no_value
printing_list g alone p (e ∷ es) =
    next (headed (text_of e.node) (found g false e)) (λ _.
    next (printed_list g (asked (format_of (text_of e.node)).pieces) es) (λ a.
    print_called alone p true (text_of e.node) a))

-- a call of what the name is, of these arguments
abbrev pub call_of : Lookup → Bool → Spot → Called → List Expr → Judged Found
call_of g alone p c es = invoked alone p c (passed_list g (params_of c) es) (given_list g (wants_of c) es) (printing_list g alone p es)
