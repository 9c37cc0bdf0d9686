-- Where no load is over 1,000, the tree is no deeper.
use Rattle.std.proofs.Common.{ℕ, ◌≤◌, max, Bool, List, [], ◌∷◌, ◌++◌, map, Option, refl, sym, ap, subst, arith, append_assoc, append-nil}
use Rattle.std.specs.Option.{option_map_or}
use Rattle.oc_source.specs.declared.parsed.TypeName.{TypeName}
use Rattle.oc_source.specs.declared.parsed.FieldDef.{FieldDef}
use Rattle.oc_source.specs.declared.parsed.StructDef.{StructDef}
use Rattle.oc_source.specs.declared.parsed.Param.{Param}
use Rattle.oc_source.specs.declared.parsed.ParamArray.{ParamArray}
use Rattle.oc_source.specs.declared.parsed.Function.{Function}
use Rattle.oc_source.specs.declared.parsed.Stmt.{Stmt}
use Rattle.oc_lexer.specs.declared.token.Token.{Token}
use Rattle.oc_grammar.specs.Headings as h
use Rattle.oc_grammar.specs.Headings.{Fields, fields, AllFields, last_fields, more_fields, Struct, struct, Brackets, open_brackets, sized, Parameter, parameter, Parameters, no_parameter, void_parameter, parameters, Result, void, typed, Mark, unmarked, marked, Body, prototype, body, FunctionSpelled, a_function, after_result, Parts, no_part, struct_part, function_part, Derives, program}
use Rattle.oc_parser.specs.Load.{entry, stack}
use Rattle.oc_source.specs.Depth.{greatest, type_depth, field_depth, struct_depth, param_depth, stmts_depth, function_depth}
use Rattle.oc_parser.specs.Shallow.{LightIsShallow}
use Rattle.oc_parser.proofs.Under.{Under, light_under}
use Rattle.oc_parser.proofs.Flows.{Flow, nothing, then, less, within, plain, opens, closes, after, between}
use Rattle.oc_parser.proofs.TypeFlows.{base_flow, stars_flow, type_flow, declr_flow, commas_flow}
use Rattle.oc_parser.proofs.Finishes.{Finishes, Series, end_less, over, semicolon_ends, then_ends, series_less, empty_series, series_of, series_over, two_series, braces_end}
use Rattle.oc_parser.proofs.StmtFinishes.{block_ends}

-- ---- struct definitions

greatest_joined : {A : Type 0} (size : A → ℕ) (xs ys : List A) → greatest (map size (xs ++ ys)) ≤ max (greatest (map size xs)) (greatest (map size ys))
greatest_joined size [] ys = omega arith
greatest_joined size (x ∷ xs) ys = omega (arith, greatest_joined size xs ys)

fields_end : {fs : List FieldDef} {x : List Token} → Fields fs x → Finishes (greatest (map field_depth fs)) x
fields_end (fields b c i) = end_less (omega arith) (then_ends (base_flow b) (then_ends (commas_flow field_depth (λ v x d. declr_flow d) c) (semicolon_ends i)))

fields_series : {fs : List FieldDef} {x : List Token} → AllFields fs x → Series (greatest (map field_depth fs)) x
fields_series (last_fields d) = series_of (fields_end d)
fields_series (more_fields {fs = fs} {gs = gs} d g) = series_less (greatest_joined field_depth fs gs) (two_series (series_of (fields_end d)) (fields_series g))

struct_series : {d : StructDef} {x : List Token} → Struct d x → Series (struct_depth d) x
struct_series (struct {t = t} {n = n} {a = a} {b = b} {c = c} {x = x} i j k d l m) =
    series_less (omega arith) (series_over (ap (λ ts. t ∷ (n ∷ (a ∷ ts))) (append_assoc x (b ∷ []) (c ∷ []))) (two_series (series_of (then_ends (after refl i (plain refl j)) (braces_end k (fields_series d) l))) (series_of (semicolon_ends m))))

-- ---- functions

brackets_flow : {r : ParamArray} {x : List Token} → Brackets r x → Flow 0 0 0 x
brackets_flow h.plain = nothing
brackets_flow (open_brackets i j) = less (omega arith) (then (opens refl i) (closes refl j))
brackets_flow (sized i j k) = less (omega arith) (between refl refl i (plain refl j) k)

parameter_flow : (p : Param) (x : List Token) → Parameter p x → Flow 0 0 (param_depth p) x
parameter_flow p x (parameter b n i r) = less (omega arith) (then (base_flow b) (then (stars_flow n) (after refl i (brackets_flow r))))

parameters_flow : {ps : List Param} {x : List Token} → Parameters ps x → Flow 0 0 (greatest (map param_depth ps)) x
parameters_flow no_parameter = nothing
parameters_flow (void_parameter i) = less (omega arith) (plain refl i)
parameters_flow (parameters c) = commas_flow param_depth parameter_flow c

result_flow : {r : Option TypeName} {x : List Token} → Result r x → Flow 0 0 (option_map_or type_depth r 0) x
result_flow (void i) = less (omega arith) (plain refl i)
result_flow (typed d) = type_flow d

mark_flow : {m : Bool} {x : List Token} → Mark m x → Flow 0 0 0 x
mark_flow unmarked = nothing
mark_flow (marked i) = less (omega arith) (plain refl i)

body_ends : {b : Option (List Stmt)} {x : List Token} → Body b x → Finishes (option_map_or stmts_depth b 0) x
body_ends (prototype i) = end_less (omega arith) (semicolon_ends i)
body_ends (body d) = end_less (omega arith) (block_ends d)

function_ends : {f : Function} {x : List Token} → FunctionSpelled f x → Finishes (function_depth f) x
function_ends (a_function r (after_result {t = t} {a = a} {b = b} {y = y} {z = z} {w = w} i j ps k m d)) =
    end_less (omega arith) (then_ends (result_flow r) (over (ap (λ ts. t ∷ (a ∷ ts)) (append_assoc y (b ∷ z) w)) (then_ends (after refl i (then (opens refl j) (then (within 1 (parameters_flow ps)) (then (closes refl k) (mark_flow m))))) (body_ends d))))

-- ---- programs

parts_series : {ds : List StructDef} {fs : List Function} {x : List Token} → Parts ds fs x → Series (max (greatest (map struct_depth ds)) (greatest (map function_depth fs))) x
parts_series no_part = empty_series
parts_series (struct_part d g) = series_less (omega arith) (two_series (struct_series d) (parts_series g))
parts_series (function_part d g) = series_less (omega arith) (two_series (series_of (function_ends d)) (parts_series g))

pub light_shallow : LightIsShallow
light_shallow p ts (program q) light =
    let u : Under (stack (entry 0 0) []) (ts ++ []) = subst (λ ts. Under (stack (entry 0 0) []) ts) (sym (append-nil ts)) (light_under ts light) in
    let r = (parts_series q).passes (entry 0 0) [] [] u in
    omega (arith, r.room)
