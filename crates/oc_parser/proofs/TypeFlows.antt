-- Written types and declared names leave a statement unfinished.
use Rattle.std.proofs.Common.{ℕ, List, map, length, refl, arith}
use Rattle.oc_values.specs.declared.integers.IntKind.{IntKind}
use Rattle.oc_source.specs.declared.parsed.BaseName.{BaseName}
use Rattle.oc_source.specs.declared.parsed.TypeName.{TypeName}
use Rattle.oc_source.specs.declared.parsed.FieldDef.{FieldDef}
use Rattle.oc_lexer.specs.declared.token.Token.{Token}
use Rattle.oc_lexer.specs.declared.token.Keyword.{Keyword}
use Rattle.oc_grammar.specs.declared.tables.Width.{Width}
use Rattle.oc_grammar.specs.WrittenTypes.{Optional, absent, present, Core, char, short, int, long, Ints, bool, underscore_bool, plain, signed, unsigned, signed_alone, unsigned_alone, Base, plain_int, obliv_int, frozen_int, frozen_obliv, obliv_frozen, a_struct, frozen_struct, Stars, no_star, star, TypeNamed, type_named, Dims, no_dim, dim, Declr, declr, Commas, last, more}
use Rattle.oc_source.specs.Depth.{greatest, type_depth, field_depth}
use Rattle.oc_parser.proofs.Flows as f
use Rattle.oc_parser.proofs.Flows.{Flow, nothing, then, less, within, after, between}

optional_flow : {word : Keyword} {x : List Token} → Optional word tt x → Flow 0 0 0 x
optional_flow absent = nothing
optional_flow (present i) = less (omega arith) (f.plain refl i)

core_flow : {c : Width} {x : List Token} → Core c x → Flow 0 0 0 x
core_flow (char i) = less (omega arith) (f.plain refl i)
core_flow (short i d) = less (omega arith) (after refl i (optional_flow d))
core_flow (int i) = less (omega arith) (f.plain refl i)
core_flow (long i d g) = less (omega arith) (after refl i (then (optional_flow d) (optional_flow g)))

ints_flow : {k : IntKind} {x : List Token} → Ints k x → Flow 0 0 0 x
ints_flow (bool i) = less (omega arith) (f.plain refl i)
ints_flow (underscore_bool i) = less (omega arith) (f.plain refl i)
ints_flow (plain d) = core_flow d
ints_flow (signed i d) = less (omega arith) (after refl i (core_flow d))
ints_flow (unsigned i d) = less (omega arith) (after refl i (core_flow d))
ints_flow (signed_alone i) = less (omega arith) (f.plain refl i)
ints_flow (unsigned_alone i) = less (omega arith) (f.plain refl i)

pub base_flow : {b : BaseName} {x : List Token} → Base b x → Flow 0 0 0 x
base_flow (plain_int d) = ints_flow d
base_flow (obliv_int i d) = less (omega arith) (after refl i (ints_flow d))
base_flow (frozen_int i d) = less (omega arith) (after refl i (ints_flow d))
base_flow (frozen_obliv i j d) = less (omega arith) (after refl i (after refl j (ints_flow d)))
base_flow (obliv_frozen i j d) = less (omega arith) (after refl i (after refl j (ints_flow d)))
base_flow (a_struct i j) = less (omega arith) (after refl i (f.plain refl j))
base_flow (frozen_struct h i j) = less (omega arith) (after refl h (after refl i (f.plain refl j)))

pub stars_flow : {n : ℕ} {x : List Token} → Stars n x → Flow 0 0 n x
stars_flow no_star = nothing
stars_flow (star i d) = less (omega arith) (after refl i (stars_flow d))

pub type_flow : {ty : TypeName} {x : List Token} → TypeNamed ty x → Flow 0 0 (type_depth ty) x
type_flow (type_named b d) = less (omega arith) (then (base_flow b) (stars_flow d))

dims_flow : {ds : List ℕ} {x : List Token} → Dims ds x → Flow 0 0 (length ds) x
dims_flow no_dim = nothing
dims_flow (dim i j k d) = less (omega arith) (then (between refl refl i (f.plain refl j) k) (dims_flow d))

pub declr_flow : {b : BaseName} {d : FieldDef} {x : List Token} → Declr b d x → Flow 0 0 (field_depth d) x
declr_flow (declr d i g) = less (omega arith) (then (stars_flow d) (after refl i (dims_flow g)))

-- names with commas between them, each of which leaves a statement unfinished
pub commas_flow : {A : Type 0} {form : A → List Token → Type 0} (depth : A → ℕ) → ((v : A) (x : List Token) → form v x → Flow 0 0 (depth v) x) → {vs : List A} {x : List Token} → Commas form vs x → Flow 0 0 (greatest (map depth vs)) x
commas_flow depth h (last {v = v} {x = x} d) = less (omega arith) (h v x d)
commas_flow depth h (more {v = v} {x = x} d i g) = less (omega arith) (then (h v x d) (after refl i (commas_flow depth h g)))
