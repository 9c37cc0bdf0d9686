use Rattle.std.proofs.lemmas.Result.{err_from_is_err_and}
use Rattle.typed_structs.proofs.OneStruct.{struct_fields_fail, struct_name_fails, struct_size_fails, struct_judged}
use Rattle.written_types.specs.Known.{lookup}
use Rattle.typed_structs.proofs.structs.struct_type.Goals as goal

pub returns-in_err-fields-clause-typed : goal.returns-in_err-fields-clause-typed
returns-in_err-fields-clause-typed c =
    let q = err_from_is_err_and c.from_residual.result c.from_residual.ensures.1 in
    struct_fields_fail (lookup c.args.known.now) c.args.def.now _ _ c.as_slice.ensures c.in_err-fields.ensures.typed q.1 q.2

pub returns-in_err-need_new_struct-clause-typed : goal.returns-in_err-need_new_struct-clause-typed
returns-in_err-need_new_struct-clause-typed c =
    let q = err_from_is_err_and c.from_residual-in_err-need_new_struct.result c.from_residual-in_err-need_new_struct.ensures.1 in
    struct_name_fails (lookup c.args.known.now) c.args.def.now _ c.in_ok-fields.fields _ (c.as_slice.ensures, c.in_ok-fields.ensures.typed) c.in_err-need_new_struct.ensures q.1 q.2

pub returns-in_err-need_size-clause-typed : goal.returns-in_err-need_size-clause-typed
returns-in_err-need_size-clause-typed c =
    let q = err_from_is_err_and c.from_residual-in_err-need_size.result c.from_residual-in_err-need_size.ensures.1 in
    struct_size_fails (lookup c.args.known.now) c.args.def.now _ c.in_ok-fields.fields _ (c.as_slice.ensures, c.in_ok-fields.ensures.typed) c.in_ok-fields.ensures.laid c.in_ok-need_new_struct.ensures c.in_err-need_size.ensures.sized q.1 q.2

pub returns-clause-typed : goal.returns-clause-typed
returns-clause-typed c =
    struct_judged (lookup c.args.known.now) c.args.def.now _ c.in_ok-fields.fields _ (c.as_slice.ensures, c.in_ok-fields.ensures.typed) c.in_ok-fields.ensures.laid c.in_ok-need_new_struct.ensures c.in_ok-need_size.ensures.sized c.in_ok-need_size.ensures.within.0 c.in_ok-with_fields.ensures.ty
