-- Calls of the language's own.
use Rattle.std.proofs.Common.{ℕ, ◌≡◌, List, [], ◌∷◌, length, refl, sym, subst, Bool, true, false}
use Rattle.std.specs.Prelude.{◌&&◌, not, nat_le}
use Rattle.oc_values.specs.declared.integers.IntKind.{IntKind}
use Rattle.oc_values.specs.declared.integers.IntKind.TheVariants.{I32, I64}
use Rattle.oc_cells.specs.declared.types.CType.{CType, Int, Nothing}
use Rattle.oc_cells.specs.declared.types.StructType.{StructType}
use Rattle.oc_cells.specs.Types.{same, is_pointer, is_frozen_pointer, target}
use Rattle.oc_cells.specs.Layout.{struct_cells, struct_leaves}
use Rattle.oc_typed.specs.declared.typed.TExprNode.{Convert', Builtin', Row_of-TExpr, end_of-TExpr, more_of-TExpr}
use Rattle.oc_typed.specs.declared.typed.Builtin.{Builtin}
use Rattle.oc_typed.specs.declared.typed.Builtin.TheVariants.{Private, Feed, Reveal, Give, PrivateCount, PublicCount, PublicWord, Print, Calloc, Malloc, Free}
use Rattle.oc_typed.specs.Static.{type_of, types_of}
use Rattle.oc_walk.specs.declared.run.Source.{Source}
use Rattle.oc_walk.specs.declared.run.Source.TheVariants.{Word, Public}
use Rattle.oc_walk.specs.Builtins.{source_of}
use Rattle.oc_typing.specs.Rules.{is_public, is_shown, is_party, text_bytes, one_public, none_or_one, made, one_pointer, revealed, builtin}
use Rattle.oc_typing.specs.Typed.{is_fed, are_fed, fed_by}
use Rattle.typed_runs.specs.Shapes.{Sized, PublicOk, public_ok, BuiltinOk, private_ok, word_ok, fed_ok, reveal_ok, give_ok, count_ok, counts_ok, known_word_ok, print_ok, calloc_ok, malloc_ok, mallocs_ok, free_ok}
use Rattle.sound_runs.proofs.Bools.{first, second, kept, never, all2, all3, all4}
use Rattle.sound_runs.proofs.Rules.{sized_right, nothing_is, public_right, address_right, same_all_is, formats_right}
use Rattle.oc_cells.proofs.Equal.{same_is}

-- a list of one public integer
pub record OnePublic (ts : List CType) : Type 0 where
  pub kind : IntKind
  pub is : ts ≡ Int kind false ∷ []

one_public_at : (t : CType) → PublicOk t → OnePublic (t ∷ [])
one_public_at _ (public_ok {k = k}) = record { kind = k; is = refl }

one_public_right : (ts : List CType) → one_public ts ≡ true → OnePublic ts
one_public_right (t ∷ []) h = one_public_at t (public_right t h)
one_public_right [] h = never h
one_public_right (t ∷ u ∷ ts) h = never h

module _ (structs : List StructType) where
  abbrev Ok : CType → Source → Builtin → List CType → Type 0
  Ok t s which ts = BuiltinOk (struct_leaves structs) t s which ts

  abbrev test : CType → Bool → Builtin → List CType → Bool
  test t fed which ts = builtin (struct_cells structs) t fed which ts

  made_right : (t : CType) → made (struct_cells structs) t ≡ true → (is_pointer t ≡ true) × Sized (struct_leaves structs) (target t)
  made_right t h = let z = all3 (kept (is_pointer t)) (kept (not (is_frozen_pointer t))) (sized_right structs (target t)) h in (z.0, z.2)

  revealed_right : (s : Source) (k : IntKind) (ts : List CType) → revealed k ts ≡ true → Ok Nothing s (Reveal k) ts
  revealed_right s k (t ∷ u ∷ []) h =
      let z = all2 (address_right t (Int k false)) (same_is u (Int k true)) h in
      subst (λ u. Ok Nothing s (Reveal k) (t ∷ u ∷ [])) (sym z.1) (reveal_ok z.0)
  revealed_right s k [] h = never h
  revealed_right s k (t ∷ []) h = never h
  revealed_right s k (t ∷ u ∷ x ∷ ts) h = never h

  pointer_right : (s : Source) (ts : List CType) → one_pointer ts ≡ true → Ok Nothing s Free ts
  pointer_right s (t ∷ []) h = free_ok h
  pointer_right s [] h = never h
  pointer_right s (t ∷ u ∷ ts) h = never h

  malloc_right : (t : CType) (s : Source) (ts : List CType) → made (struct_cells structs) t ≡ true → none_or_one ts ≡ true → Ok t s Malloc ts
  malloc_right t s [] h i = let m = made_right t h in malloc_ok m.0 m.1
  malloc_right t s (u ∷ us) h i =
      let m = made_right t h in
      let o = one_public_right (u ∷ us) i in
      subst (λ ts. Ok t s Malloc ts) (sym o.is) (mallocs_ok m.0 m.1)

  private_at : (t u : CType) (s : Source) → t ≡ u → Ok t s Private (u ∷ [])
  private_at t u s h = subst (λ u. Ok t s Private (u ∷ [])) h private_ok

  -- each but a feed
  built_right : (which : Builtin) (t : CType) (s : Source) (ts : List CType) → test t false which ts ≡ true → Ok t s which ts
  built_right Private t s (u ∷ []) h = private_at t u s (same_is t u (second (is_public u) (same true t u) h))
  built_right Private t s [] h = never h
  built_right Private t s (u ∷ v ∷ ts) h = never h
  built_right (Feed k party) t s ts h = never (second ((same true t (Int k true)) && is_shown k && is_party party) false h)
  built_right (Reveal k) t s ts h =
      let z = all3 (nothing_is t) (kept (is_shown k)) (revealed_right s k ts) h in
      subst (λ t. Ok t s (Reveal k) ts) (sym z.0) z.2
  built_right (Give k party) t s ts h =
      let z = all3 (nothing_is t) (kept (is_party party)) (same_all_is ts (Int k true ∷ [])) h in
      subst (λ t. Ok t s (Give k party) ts) (sym z.0) (subst (λ ts. Ok Nothing s (Give k party) ts) (sym z.2) give_ok)
  built_right (PrivateCount party) t s ts h =
      let z = all3 (same_is t (Int I32 false)) (kept (is_party party)) (same_all_is ts []) h in
      subst (λ t. Ok t s (PrivateCount party) ts) (sym z.0) (subst (λ ts. Ok (Int I32 false) s (PrivateCount party) ts) (sym z.2) count_ok)
  built_right PublicCount t s ts h =
      let z = all2 (same_is t (Int I32 false)) (same_all_is ts []) h in
      subst (λ t. Ok t s PublicCount ts) (sym z.0) (subst (λ ts. Ok (Int I32 false) s PublicCount ts) (sym z.1) counts_ok)
  built_right PublicWord t s ts h =
      let z = all2 (same_is t (Int I64 false)) (one_public_right ts) h in
      subst (λ t. Ok t s PublicWord ts) (sym z.0) (subst (λ ts. Ok (Int I64 false) s PublicWord ts) (sym z.1.is) known_word_ok)
  built_right (Print ps) t s ts h =
      let z = all4 (nothing_is t) (formats_right ps ts) (kept (nat_le (text_bytes ps) 4000)) (kept (nat_le (length ts) 64)) h in
      subst (λ t. Ok t s (Print ps) ts) (sym z.0) (print_ok z.1)
  built_right Calloc t s ts h =
      let z = all2 (made_right t) (one_public_right ts) h in
      subst (λ ts. Ok t s Calloc ts) (sym z.1.is) (calloc_ok z.0.0 z.0.1)
  built_right Malloc t s ts h = malloc_right t s ts (first (made (struct_cells structs) t) (none_or_one ts) h) (second (made (struct_cells structs) t) (none_or_one ts) h)
  built_right Free t s ts h =
      let z = all2 (nothing_is t) (pointer_right s ts) h in
      subst (λ t. Ok t s Free ts) (sym z.0) z.1

  word_at : (k : IntKind) (party : ℕ) (u : CType) (s : _) → PublicOk u → Ok (Int k true) (Word s) (Feed k party) (u ∷ [])
  word_at k party _ s public_ok = word_ok

  fed_right : {m : _} (k : IntKind) (party : ℕ) (es : Row_of-TExpr m) → are_fed k es ≡ true → Ok (Int k true) (source_of es) (Feed k party) (types_of es)
  fed_right k party end_of-TExpr h = never h
  fed_right k party (more_of-TExpr q u c (more_of-TExpr p v d rest)) h = never (second (is_fed k u c) false h)
  fed_right k party (more_of-TExpr q u (Builtin' Private _ es) end_of-TExpr) h = word_at k party u q (public_right u (first (is_public u) true h))
  fed_right k party (more_of-TExpr q u (Convert' _ e) end_of-TExpr) h =
      let z = all2 (same_is u (Int k true)) (kept (is_public (type_of e))) (first (same true u (Int k true) && is_public (type_of e)) true h) in
      subst (λ u. Ok (Int k true) Public (Feed k party) (u ∷ [])) (sym z.0) fed_ok
  fed_right k party (more_of-TExpr q u _ end_of-TExpr) h = never h

  by_types : {m : _} (which : Builtin) (t : CType) (es : Row_of-TExpr m) → test t (fed_by which es) which (types_of es) ≡ true → Ok t (source_of es) which (types_of es)
  by_types (Feed k party) t es h =
      let z = all4 (same_is t (Int k true)) (kept (is_shown k)) (kept (is_party party)) (fed_right k party es) h in
      subst (λ t. Ok t (source_of es) (Feed k party) (types_of es)) (sym z.0) z.3
  by_types Private t es h = built_right Private t (source_of es) (types_of es) h
  by_types (Reveal k) t es h = built_right (Reveal k) t (source_of es) (types_of es) h
  by_types (Give k party) t es h = built_right (Give k party) t (source_of es) (types_of es) h
  by_types (PrivateCount party) t es h = built_right (PrivateCount party) t (source_of es) (types_of es) h
  by_types PublicCount t es h = built_right PublicCount t (source_of es) (types_of es) h
  by_types PublicWord t es h = built_right PublicWord t (source_of es) (types_of es) h
  by_types (Print ps) t es h = built_right (Print ps) t (source_of es) (types_of es) h
  by_types Calloc t es h = built_right Calloc t (source_of es) (types_of es) h
  by_types Malloc t es h = built_right Malloc t (source_of es) (types_of es) h
  by_types Free t es h = built_right Free t (source_of es) (types_of es) h

  pub builtin_right : {m : _} (which : Builtin) (t : CType) (es : Row_of-TExpr m) → builtin (struct_cells structs) t (fed_by which es) which (types_of es) ≡ true → BuiltinOk (struct_leaves structs) t (source_of es) which (types_of es)
  builtin_right which t es h = by_types which t es h
