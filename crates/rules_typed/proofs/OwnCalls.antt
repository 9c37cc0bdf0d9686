-- A call of the language's own passes the test.
use Rattle.std.proofs.Common.{ℕ, ◌≡◌, List, Option, Some, None, Ok, refl, sym, subst, Bool, true, false, nat_eq, arith, suc, ◌+◌, [], ◌∷◌, ◌++◌, length, Err}
use Rattle.std.specs.Prelude.{◌&&◌, ◌||◌, not, if◌then◌else◌, nat_lt, IfOk}
use Rattle.oc_values.specs.declared.integers.IntKind.{IntKind}
use Rattle.oc_values.specs.declared.integers.IntKind.TheVariants.{I32, I64}
use Rattle.oc_values.specs.Kinds.{same_kind}
use Rattle.oc_cells.specs.declared.types.CType.{CType, Int, Pointer', Array', Struct, Nothing}
use Rattle.oc_cells.specs.Types.{same, is_normal}
use Rattle.oc_source.specs.declared.spot.Spot.{Spot}
use Rattle.oc_typed.specs.declared.typed.TExpr.{TExpr}
use Rattle.oc_typed.specs.declared.typed.TExprNode.TheBlock.{hidden-the_row-TExpr-0, hidden-the_row-TExpr-1, hidden-the_row-TPlace-2}
use Rattle.oc_cells.specs.declared.types.CType.TheBlock.{hidden-the_row-CType-0}
use denote.Hole.Carrier.{hidden}
use Rattle.oc_cells.specs.declared.types.CType.TheViews.{Pointer}
use Rattle.type_rules.specs.declared.judging.Seen.{Seen}
use Rattle.type_rules.specs.declared.judging.Found.{Found}
use Rattle.type_rules.specs.declared.judging.TypeRule.{TypeRule}
use Rattle.type_rules.specs.declared.judging.TypeRule.TheVariants.{T3, T4, T7, T9}
use Rattle.type_rules.specs.Judging.{Judged, next, breaks, needs}
use Rattle.type_rules.specs.Lookup.{converted, convert, is, value_of, Lookup, valued}
use Rattle.oc_typing.specs.Rules.{is_nothing}
use Rattle.oc_typing.specs.Typed.{Context, is_of_node, alone}
use Rattle.rules_typed.specs.Agreeing.{Passes, Valued}
use Rattle.oc_typed.specs.declared.typed.Builtin.{Builtin}
use Rattle.type_rules.specs.declared.judging.Heading.{Heading}
use Rattle.type_rules.specs.declared.judging.OwnCall.{OwnCall}
use Rattle.type_rules.specs.declared.judging.Want.{Want}
use Rattle.type_rules.specs.Calls.{Variable, Unknown, Print, Own, Known, Given}
use Rattle.oc_typed.specs.declared.typed.TExprNode as t
use Rattle.type_rules.specs.Judging as judging
use Rattle.oc_typing.specs.Rules as test
use Rattle.oc_typing.specs.Typed as typed
use Rattle.oc_typed.specs.declared.typed.Builtin.TheVariants as own
use Rattle.type_rules.specs.declared.judging.OwnCall.TheVariants as call
use Rattle.type_rules.specs.declared.judging.Want.TheVariants as want
use Rattle.type_rules.specs.Lookup as lookup
use Rattle.type_rules.specs.Calls as calls
use Rattle.rules_typed.proofs.Bools.{both, first, hidden_last, last, left_false, never, none_some, right_false, second, some_is, three}
use Rattle.rules_typed.proofs.Types.{itself, public_test}
use Rattle.rules_typed.proofs.Nodes.{converted_good, if_needs, int_good, node_of, of_type, value_good}
use Rattle.rules_typed.proofs.Arguments.{AllAlone, exprs_row, row_of, types_in, types_row}
use Rattle.std.proofs.lemmas.Bool.{not-true}

module _ (g : Context) (vis : List ℕ) where
  -- what an argument gives where this is wanted
  pub data Exact : Want → Given → Type 0 where
    index : {v : TExpr} → alone g vis v ≡ true → test.is_public v.ty ≡ true → Exact want.Index (calls.given_value v)
    word : {k : IntKind} {v : TExpr} → is_of_node g v.ty ≡ true → typed.expr g vis true v.ty v.node ≡ true → typed.is_fed k v.ty v.node ≡ true → Exact (want.Word k) (calls.given_value v)
    party : {n : ℕ} → test.is_party n ≡ true → Exact want.Party (record { args = []; party = n; of = Nothing; misplaced = false; count = 1 })
    aim : {k : IntKind} {v : TExpr} → Valued g vis (Pointer false (Int k false)) v → Exact (want.Target k) (calls.given_value v)
    hidden_of : {k : IntKind} {v : TExpr} → Valued g vis (Int k true) v → Exact (want.Hidden k) (calls.given_value v)
    nought : Exact want.Zero calls.given_none_but_one
    owned : {k : IntKind} {v : TExpr} → Valued g vis (Int k true) v → Exact want.Own (calls.given_value v)
    address_of : {v : TExpr} → alone g vis v ≡ true → judging.is_pointer v.ty ≡ true → Exact want.Address (calls.given_value v)
    size_of : {u : CType} → of_type g vis u ≡ true → Exact want.Size (calls.given_size u)
    bytes_of : {u : CType} → of_type g vis u ≡ true → Exact want.Bytes (calls.given_size u)
    times : {u : CType} {v : TExpr} → of_type g vis u ≡ true → alone g vis v ≡ true → test.is_public v.ty ≡ true → Exact want.Bytes (record { args = v ∷ []; party = 0; of = u; misplaced = false; count = 1 })

  -- what arguments give where these are wanted
  pub data ExactAll : List Want → Given → Type 0 where
    exact_none : ExactAll [] calls.given_none
    exact_more : {w : Want} {ws : List Want} {b c : Given} → Exact w b → ExactAll ws c → ExactAll (w ∷ ws) (calls.joined b c)

  -- an argument that is in place gives what is wanted
  abbrev pub Told1 : Want → Given → Type 0
  Told1 w b = (b.count ≡ 1) × (b.misplaced ≡ false → Exact w b)

  -- as many arguments as are wanted, each in place, give what is wanted
  abbrev pub Told : List Want → Given → Type 0
  Told ws x = nat_eq x.count (length ws) ≡ true → x.misplaced ≡ false → ExactAll ws x

  -- types, a rule and a conversion, and what follows
  pub if_given : (P : Given → Type 0) (p : Spot) (ok : CType → CType → Bool) (a b : CType) (k : Judged Given) → (ok a b ≡ true → IfOk k P) → IfOk (next (judging.demand p ok a b) (λ _. k)) P
  unfolding next
  if_given P p ok a b k f = at (ok a b) (ok (judging.bare a) (judging.bare b)) f
    where
      at : (c d : Bool) → (c ≡ true → IfOk k P) → IfOk (next (if c then Ok (tt {0}) else if d then breaks p T4 else breaks p T3) (λ _. k)) P
      at true d f = f refl
      at false true f = tt
      at false false f = tt

  pub needs_given : (P : Given → Type 0) (p : Spot) (b : TypeRule) (c : Bool) (k : Judged Given) → (c ≡ true → IfOk k P) → IfOk (next (needs p b c) (λ _. k)) P
  unfolding next
  needs_given P p b true k f = f refl
  needs_given P p b false k f = tt

  pub convert_given : (P : Given → Type 0) (u : CType) (e : TExpr) (k : TExpr → Judged Given) → (judging.converts e.ty u ≡ true → IfOk (k (converted u e)) P) → IfOk (next (convert u e) k) P
  unfolding next
  convert_given P u e k f = at (judging.converts e.ty u) (judging.converts (judging.bare e.ty) (judging.bare u)) f
    where
      at : (c d : Bool) → (c ≡ true → IfOk (k (converted u e)) P) → IfOk (next (next (if c then Ok (tt {0}) else if d then breaks e.spot T4 else breaks e.spot T3) (λ _. Ok (converted u e))) k) P
      at true d f = f refl
      at false true f = tt
      at false false f = tt

  -- a public value becomes hidden by a node that converts it
  pub not_same : (u : CType) (k : IntKind) → test.is_public u ≡ true → same true u (Int k true) ≡ false
  not_same (Int l false) k h = no_both (same_kind l k)
    where
      no_both : (b : Bool) → (b && false) ≡ false
      no_both true = refl
      no_both false = refl
  not_same (Int l true) k h = never h
  not_same (Pointer' f v s) k h = refl
  not_same (Array' n v s) k h = refl
  not_same (Struct n) k h = refl
  not_same Nothing k h = refl

  pub hides : (u : CType) (k : IntKind) → test.is_public u ≡ true → test.converts u (Int k true) ≡ true
  hides (Int l false) k h = refl
  hides (Int l true) k h = never h
  hides (Pointer' f v s) k h = never h
  hides (Array' n v s) k h = never h
  hides (Struct n) k h = never h
  hides Nothing k h = never h

  -- what a feed takes
  pub fed_node : (k : IntKind) (v : TExpr) → alone g vis v ≡ true → test.is_public v.ty ≡ true → Exact (want.Word k) (calls.given_value (record { spot = v.spot; ty = Int k true; node = t.Convert v }))
  unfolding hidden-the_row-TExpr-0 hidden
  fed_node k v h i = word refl (both (hides v.ty k i) h) (both (itself (Int k true)) i)

  pub fed_value : (k : IntKind) (v : TExpr) → alone g vis v ≡ true → test.is_public v.ty ≡ true → Exact (want.Word k) (calls.given_value (converted (Int k true) v))
  fed_value k v h i = subst (λ b. Exact (want.Word k) (calls.given_value (if b then v else record { spot = v.spot; ty = Int k true; node = t.Convert v }))) (sym (not_same v.ty k i)) (fed_node k v h i)

  -- a party is 1 or 2
  pub party_is : (o : Option ℕ) → nat_lt 0 (calls.party_of o) ≡ true → test.is_party (calls.party_of o) ≡ true
  party_is None h = never h
  party_is (Some n) h = at (nat_eq n 1 || nat_eq n 2) refl h
    where
      at : (b : Bool) → (nat_eq n 1 || nat_eq n 2) ≡ b → nat_lt 0 (if b then n else 0) ≡ true → test.is_party (if b then n else 0) ≡ true
      at true q h = q
      at false q h = never h

  -- the type of where a reveal writes
  pub aim_type : (k : IntKind) → of_type g vis (Pointer false (Int k false)) ≡ true
  unfolding hidden-the_row-CType-0 hidden
  aim_type k = refl

  -- a value where something is wanted
  pub as_good : (w : Want) (v : TExpr) → alone g vis v ≡ true → IfOk (calls.given_as w v) (Told1 w)
  as_good want.Index v h = if_given (Told1 want.Index) v.spot judging.is_counted v.ty v.ty _ (λ c. (refl, λ m. index h (public_test v.ty c)))
  as_good (want.Word k) v h = if_given (Told1 (want.Word k)) v.spot judging.is_counted v.ty v.ty _ (λ c. (refl, λ m. fed_value k v h (public_test v.ty c)))
  as_good want.Party v h = needs_given (Told1 want.Party) v.spot T9 (nat_lt 0 (calls.party_of (calls.natural (calls.literal v.node)))) _ (λ c. (refl, λ m. party (party_is (calls.natural (calls.literal v.node)) c)))
  as_good (want.Target k) v h = convert_given (Told1 (want.Target k)) (Pointer false (Int k false)) v _ (λ c. (refl, λ m. aim (converted_good g vis (Pointer false (Int k false)) v h (aim_type k) c)))
  as_good (want.Hidden k) v h = convert_given (Told1 (want.Hidden k)) (Int k true) v _ (λ c. (refl, λ m. hidden_of (converted_good g vis (Int k true) v h refl c)))
  as_good want.Zero v h = at (calls.is_number_zero (calls.natural (calls.literal v.node)))
    where
      at : (b : Bool) → Told1 want.Zero (if b then calls.given_none_but_one else calls.given_wrong)
      at true = (refl, λ m. nought)
      at false = (refl, λ m. never (sym m))
  as_good want.Own v h = needs_given (Told1 want.Own) v.spot T3 (judging.is_integer v.ty) _ (λ c. (refl, λ m. owned (int_good g vis (judging.kind_of v.ty) true v h c (hidden_last (judging.is_hidden v.ty)))))
  as_good want.Address v h = needs_given (Told1 want.Address) v.spot T3 (judging.is_pointer v.ty) _ (λ c. (refl, λ m. address_of h c))
  as_good want.Bytes v h = (refl, λ m. never (sym m))
  as_good want.Size v h = (refl, λ m. never (sym m))

  -- Their nodes.

  -- the node of a call
  pub builtin_node : (p : Spot) (which : Builtin) (y : CType) (vs : List TExpr) → is_of_node g y ≡ true → not (typed.is_private which) ≡ true → test.builtin g.sizes y (typed.fed_by which (row_of vs)) which (types_in vs) ≡ true → typed.exprs g vis (typed.is_feed which) (row_of vs) ≡ true → alone g vis (record { spot = p; ty = y; node = t.Builtin which vs }) ≡ true
  unfolding hidden-the_row-TExpr-0 hidden-the_row-TExpr-1 hidden-the_row-TPlace-2 hidden
  builtin_node p which y vs i n b e = both i (both (both n (subst (λ ts. test.builtin g.sizes y (typed.fed_by which (row_of vs)) which ts ≡ true) (sym (types_row vs)) b)) e)

  pub plain_node : (p : Spot) (which : Builtin) (y : CType) (vs : List TExpr) → is_of_node g y ≡ true → not (typed.is_private which) ≡ true → typed.is_feed which ≡ false → test.builtin g.sizes y (typed.fed_by which (row_of vs)) which (types_in vs) ≡ true → AllAlone g vis vs → alone g vis (record { spot = p; ty = y; node = t.Builtin which vs }) ≡ true
  plain_node p which y vs i n f b h = builtin_node p which y vs i n b (subst (λ c. typed.exprs g vis c (row_of vs) ≡ true) (sym f) (exprs_row g vis vs h))

  -- a feed and the `ocPrivate` in it
  pub feed_node : (p : Spot) (k : IntKind) (n : ℕ) (v : TExpr) → test.is_shown k ≡ true → test.is_party n ≡ true → is_of_node g v.ty ≡ true → typed.expr g vis true v.ty v.node ≡ true → typed.is_fed k v.ty v.node ≡ true → alone g vis (record { spot = p; ty = Int k true; node = t.Builtin (own.Feed k n) (v ∷ []) }) ≡ true
  unfolding hidden-the_row-TExpr-0 hidden-the_row-TExpr-1 hidden-the_row-TPlace-2 hidden
  feed_node p k n v s q i e f = builtin_node p (own.Feed k n) (Int k true) (v ∷ []) refl refl (both (three (itself (Int k true)) s q) (both f refl)) (three i e refl)

  pub private_node : (p : Spot) (k : IntKind) (v : TExpr) → alone g vis v ≡ true → test.is_public v.ty ≡ true → Exact (want.Word k) (calls.given_value (record { spot = p; ty = v.ty; node = t.Builtin own.Private (v ∷ []) }))
  unfolding hidden-the_row-TExpr-0 hidden-the_row-TExpr-1 hidden-the_row-TPlace-2 hidden
  private_node p k v h i = word (node_of g vis v h) (both (both i (itself v.ty)) (both h refl)) i

  -- where a reveal writes is an address
  pub aim_address : (k : IntKind) → test.address (Pointer false (Int k false)) (Int k false) ≡ true
  unfolding hidden-the_row-CType-0 hidden
  aim_address k = itself (Int k false)

  -- what is whole has a size
  pub whole_sized : (u : CType) → test.is_whole g.sizes u ≡ true → test.is_sized g.sizes u ≡ true
  whole_sized (Int k o) h = refl
  whole_sized (Pointer' f v s) h = refl
  whole_sized (Array' n v s) h = first (test.is_sized g.sizes (Array' n v s)) (test.is_whole_row g.sizes s) h
  whole_sized (Struct n) h = h
  whole_sized Nothing h = never h

  -- memory for a type
  pub memory_type : (u : CType) → of_type g vis u ≡ true → is_of_node g (Pointer false u) ≡ true
  unfolding hidden-the_row-CType-0 hidden
  memory_type u h = last (is_nothing u) (of_type g vis (Pointer false u)) h

  pub memory_made : (u : CType) → of_type g vis u ≡ true → test.made g.sizes (Pointer false u) ≡ true
  unfolding hidden-the_row-CType-0 hidden
  memory_made u h = whole_sized u (second (is_normal g.public false u) (test.is_whole g.sizes u) h)

  -- a type from one of two arguments
  pub either_same : (u : CType) → calls.either_type u Nothing ≡ u
  either_same (Int k o) = refl
  either_same (Pointer' f v s) = refl
  either_same (Array' n v s) = refl
  either_same (Struct n) = refl
  either_same Nothing = refl

  -- sums with nothing
  pub plus_none : (n : ℕ) → n + 0 ≡ n
  plus_none n = omega arith

  pub none_plus : (n : ℕ) → 0 + (n + 0) ≡ n
  none_plus n = omega arith

  -- whether feeds and reveals have a call of this kind
  abbrev pub shown : OwnCall → Bool
  shown (call.Feed k) = test.is_shown k
  shown (call.Reveal k) = test.is_shown k
  shown _ = true

  -- each call, of what its arguments give
  pub own_at : (c : OwnCall) (x : Given) → ExactAll (calls.wants c) x → shown c ≡ true → not (calls.is_private c) ≡ true → (p : Spot) → alone g vis (record { spot = p; ty = calls.own_type c x; node = t.Builtin (calls.own_node c x) x.args }) ≡ true
  own_at call.Private x e s z p = never z
  own_at (call.Feed k) _ (exact_more (word {v = v} i e f) (exact_more (party {n = n} q) exact_none)) s z p = feed_node p k (0 + (n + 0)) v s (subst (λ m. test.is_party m ≡ true) (sym (none_plus n)) q) i e f
  own_at (call.Reveal k) _ (exact_more (aim {v = v} a) (exact_more (hidden_of {v = w} b) (exact_more nought exact_none))) s z p =
      plain_node p (own.Reveal k) Nothing (v ∷ w ∷ []) refl refl refl (both s (both (subst (λ u. test.address u (Int k false) ≡ true) (sym a.ty) (aim_address k)) (subst (λ u. same true u (Int k true) ≡ true) (sym b.ty) (itself (Int k true))))) (a.good, (b.good, tt))
  own_at call.Result _ (exact_more (owned {k = l} {v = v} b) (exact_more (party {n = n} q) exact_none)) s z p =
      plain_node p (own.Give (judging.kind_of v.ty) (0 + (n + 0))) Nothing (v ∷ []) refl refl refl (both (subst (λ m. test.is_party m ≡ true) (sym (none_plus n)) q) (both (subst (λ u. same true u (Int (judging.kind_of u) true) ≡ true) (sym b.ty) (itself (Int l true))) refl)) (b.good, tt)
  own_at call.PrivateCount _ (exact_more (party {n = n} q) exact_none) s z p = plain_node p (own.PrivateCount (n + 0)) (Int I32 false) [] refl refl refl (both (subst (λ m. test.is_party m ≡ true) (sym (plus_none n)) q) refl) tt
  own_at call.PublicCount _ exact_none s z p = plain_node p own.PublicCount (Int I32 false) [] refl refl refl refl tt
  own_at call.Public _ (exact_more (index {v = v} h i) exact_none) s z p = plain_node p own.PublicWord (Int I64 false) (v ∷ []) refl refl refl i (h, tt)
  own_at call.Printf _ exact_none s z p = plain_node p (own.Print []) Nothing [] refl refl refl refl tt
  own_at call.Calloc _ (exact_more (index {v = v} h i) (exact_more (size_of {u = u} o) exact_none)) s z p =
      subst (λ w. alone g vis (record { spot = p; ty = Pointer false w; node = t.Builtin own.Calloc (v ∷ []) }) ≡ true) (sym (either_same u)) (plain_node p own.Calloc (Pointer false u) (v ∷ []) (memory_type u o) refl refl (both (memory_made u o) i) (h, tt))
  own_at call.Malloc _ (exact_more (bytes_of {u = u} o) exact_none) s z p =
      subst (λ w. alone g vis (record { spot = p; ty = Pointer false w; node = t.Builtin own.Malloc [] }) ≡ true) (sym (either_same u)) (plain_node p own.Malloc (Pointer false u) [] (memory_type u o) refl refl (both (memory_made u o) refl) tt)
  own_at call.Malloc _ (exact_more (times {u = u} {v = v} o h i) exact_none) s z p =
      subst (λ w. alone g vis (record { spot = p; ty = Pointer false w; node = t.Builtin own.Malloc (v ∷ []) }) ≡ true) (sym (either_same u)) (plain_node p own.Malloc (Pointer false u) (v ∷ []) (memory_type u o) refl refl (both (memory_made u o) i) (h, tt))
  own_at call.Free _ (exact_more (address_of {v = v} h a) exact_none) s z p = plain_node p own.Free Nothing (v ∷ []) refl refl refl a (h, tt)

  -- a call whose arguments are judged
  pub own_called_good : (a : Bool) (p : Spot) (c : OwnCall) (x : Given) → Told (calls.wants c) x → shown c ≡ true → Passes g vis (calls.own_called a p c x)
  own_called_good a p c x t s =
      if_needs g vis p T3 (a || calls.has_value c) _ (λ _.
      if_needs g vis p T7 (nat_eq x.count (length (calls.wants c))) _ (λ k.
      if_needs g vis p T9 (not (calls.is_private c) && not x.misplaced) _ (λ z.
      own_at c x (t k (not-true x.misplaced (second (not (calls.is_private c)) (not x.misplaced) z))) s (first (not (calls.is_private c)) (not x.misplaced) z) p)))

  -- Several arguments.

  -- an argument too many
  pub no_extra : (n : ℕ) → nat_eq (1 + n) 0 ≡ true → ⊥
  no_extra n h = grind arith

  pub extra_good : (m : Judged TExpr) (rest : Judged Given) → IfOk (next m (λ v. next rest (λ a. Ok (calls.joined (calls.given_value v) a)))) (Told [])
  unfolding next
  extra_good (Ok v) (Ok a) = λ q n. absurd (no_extra a.count q)
  extra_good (Ok v) (Err b) = tt
  extra_good (Err b) rest = tt

  -- one argument more
  pub counted : (m n l : ℕ) → m ≡ 1 → nat_eq (m + n) (suc l) ≡ true → nat_eq n l ≡ true
  counted m n l h q = grind arith

  -- arguments one after another
  pub more_good : (w : Want) (ws : List Want) (m rest : Judged Given) → IfOk m (Told1 w) → IfOk rest (Told ws) → IfOk (next m (λ a. next rest (λ b. Ok (calls.joined a b)))) (Told (w ∷ ws))
  unfolding next
  more_good w ws (Ok a) (Ok b) h i = λ q n. exact_more (h.1 (left_false a.misplaced b.misplaced n)) (i (counted a.count b.count (length ws) h.0 q) (right_false a.misplaced b.misplaced n))
  more_good w ws (Ok a) (Err b) h i = tt
  more_good w ws (Err b) rest h i = tt

  -- an argument with a value
  pub value_given : (w : Want) (m : Judged Found) → Passes g vis m → IfOk (next (valued m) (λ v. calls.given_as w v)) (Told1 w)
  unfolding next
  value_given w (Ok f) h = as_good w (value_of f) (value_good g vis f h)
  value_given w (Err b) h = tt

  -- what breaks a rule, or may be fed at any kind
  abbrev pub IsFed : Judged TExpr → Type 0
  IsFed m = IfOk m (λ v. (k : IntKind) → Exact (want.Word k) (calls.given_value v))

  -- an `ocPrivate` as an argument
  pub private_given : (k : IntKind) (m : Judged TExpr) → IsFed m → IfOk (next m (λ v. Ok (calls.given_value v))) (Told1 (want.Word k))
  unfolding next
  private_given k (Ok v) h = (refl, λ n. h k)
  private_given k (Err b) h = tt

  -- an `ocPrivate` with one argument, with more, with none
  pub private_of : (p : Spot) (m : Judged TExpr) → IfOk m (λ e. alone g vis e ≡ true) → IsFed (next (next (next m (λ v. calls.given_as want.Index v)) (λ a. next (Ok calls.given_none) (λ b. Ok (calls.joined a b)))) (λ a. calls.private_word p a))
  unfolding next
  private_of p (Err b) h = tt
  private_of p (Ok v) h = at (judging.is_public v.ty) (judging.is_public (judging.bare v.ty)) (λ c. public_test v.ty c)
    where
      at : (c d : Bool) → (c ≡ true → test.is_public v.ty ≡ true) → IsFed (next (next (next (if c then Ok (tt {0}) else if d then breaks v.spot T4 else breaks v.spot T3) (λ _. Ok (calls.given_value v))) (λ a. next (Ok calls.given_none) (λ b. Ok (calls.joined a b)))) (λ a. calls.private_word p a))
      at true d f = λ k. private_node p k v h (f refl)
      at false true f = tt
      at false false f = tt

  -- counts of arguments
  pub two_many : (m n : ℕ) → m ≡ 1 → nat_eq (m + (1 + n)) 1 ≡ true → ⊥
  two_many m n h q = grind arith

  pub private_many : (p : Spot) (m : Judged Given) (v : Judged TExpr) (rest : Judged Given) → IfOk m (λ a. a.count ≡ 1) → IsFed (next (next m (λ a. next (next v (λ x. next rest (λ c. Ok (calls.joined (calls.given_value x) c)))) (λ b. Ok (calls.joined a b)))) (λ a. calls.private_word p a))
  unfolding next
  private_many p (Err b) v rest h = tt
  private_many p (Ok a) (Err b) rest h = tt
  private_many p (Ok a) (Ok x) (Err b) h = tt
  private_many p (Ok a) (Ok x) (Ok c) h = at (nat_eq (a.count + (1 + c.count)) 1) (λ q. two_many a.count c.count h q)
    where
      at : (b : Bool) → (b ≡ true → ⊥) → IsFed (next (needs p T7 b) (λ _. Ok (record { spot = p; ty = calls.first_type_of (a.args ++ (x ∷ c.args)); node = t.Builtin own.Private (a.args ++ (x ∷ c.args)) })))
      at true f = absurd (f refl)
      at false f = tt

  -- without arguments
  pub none_given : (p : Spot) → IsFed (next (Ok calls.given_none) (λ a. calls.private_word p a))
  unfolding next
  none_given p = tt

  -- an argument counts as one
  pub only_count : (w : Want) (m : Judged Given) → IfOk m (Told1 w) → IfOk m (λ a. a.count ≡ 1)
  only_count w (Ok a) h = h.0
  only_count w (Err b) h = tt

-- the calls of the language's own have the kinds that feeds and reveals have
abbrev pub AllShown : Context → List ℕ → List (List ℕ × OwnCall) → Type 0
AllShown g vis [] = Unit {0}
AllShown g vis (c ∷ cs) = (shown g vis c.1 ≡ true) × AllShown g vis cs

module _ (g : Context) (vis : List ℕ) where
  -- each call of the table is one that is there
  pub shown_in : (cs : List (List ℕ × OwnCall)) (x : List ℕ) (c : OwnCall) → AllShown g vis cs → calls.own_call_in cs x ≡ Some c → shown g vis c ≡ true
  shown_in [] x c h q = absurd (none_some q)
  shown_in (d ∷ cs) x c h q = at (lookup.same_name d.0 x) q (λ p. shown_in cs x c h.1 p)
    where
      at : (b : Bool) → (if b then Some d.1 else calls.own_call_in cs x) ≡ Some c → (calls.own_call_in cs x ≡ Some c → shown g vis c ≡ true) → shown g vis c ≡ true
      at true q f = subst (λ k. shown g vis k ≡ true) (some_is q) h.0
      at false q f = f q

  pub own_shown : (x : List ℕ) (c : OwnCall) → calls.own_call x ≡ Some c → shown g vis c ≡ true
  own_shown x c q = shown_in calls.own_calls x c (refl, (refl, (refl, (refl, (refl, (refl, (refl, (refl, (refl, (refl, (refl, (refl, (refl, (refl, (refl, (refl, (refl, (refl, (refl, tt))))))))))))))))))) q

  -- what a called name is
  pub own_same : {a b : OwnCall} → Own a ≡ Own b → a ≡ b
  own_same q = (cc)

  pub no_variable : {c : OwnCall} → Variable ≡ Own c → ⊥
  no_variable q = (cc)

  pub no_unknown : {c : OwnCall} → Unknown ≡ Own c → ⊥
  no_unknown q = (cc)

  pub no_print : {c : OwnCall} → Print ≡ Own c → ⊥
  no_print q = (cc)

  pub no_known : {n : ℕ} {h : Heading} {c : OwnCall} → Known n h ≡ Own c → ⊥
  no_known q = (cc)

  -- so is the one that a name means
  pub of_own : (c k : OwnCall) → calls.called_own c ≡ Own k → shown g vis c ≡ true → shown g vis k ≡ true
  of_own call.Printf k q h = absurd (no_print q)
  of_own call.Private k q h = subst (λ c. shown g vis c ≡ true) (own_same q) h
  of_own (call.Feed l) k q h = subst (λ c. shown g vis c ≡ true) (own_same q) h
  of_own (call.Reveal l) k q h = subst (λ c. shown g vis c ≡ true) (own_same q) h
  of_own call.Result k q h = subst (λ c. shown g vis c ≡ true) (own_same q) h
  of_own call.PrivateCount k q h = subst (λ c. shown g vis c ≡ true) (own_same q) h
  of_own call.PublicCount k q h = subst (λ c. shown g vis c ≡ true) (own_same q) h
  of_own call.Public k q h = subst (λ c. shown g vis c ≡ true) (own_same q) h
  of_own call.Calloc k q h = subst (λ c. shown g vis c ≡ true) (own_same q) h
  of_own call.Malloc k q h = subst (λ c. shown g vis c ≡ true) (own_same q) h
  of_own call.Free k q h = subst (λ c. shown g vis c ≡ true) (own_same q) h

  pub no_function : (n : ℕ) (hs : List Heading) (x : List ℕ) (k : OwnCall) → calls.function_from n hs x ≡ Own k → ⊥
  no_function n [] x k q = no_unknown q
  no_function n (h ∷ hs) x k q = at (lookup.same_name h.name x) q (λ p. no_function (n + 1) hs x k p)
    where
      at : (b : Bool) → (if b then Known n h else calls.function_from (n + 1) hs x) ≡ Own k → (calls.function_from (n + 1) hs x ≡ Own k → ⊥) → ⊥
      at true q f = no_known q
      at false q f = f q

  pub of_name : (r : Lookup) (x : List ℕ) (o : Option OwnCall) (k : OwnCall) → calls.own_call x ≡ o → calls.called_function r x o ≡ Own k → shown g vis k ≡ true
  of_name r x (Some c) k p q = of_own c k q (own_shown x c p)
  of_name r x None k p q = absurd (no_function 0 r.bodies x k q)

  pub called_shown : (r : Lookup) (x : List ℕ) (o : Option Seen) (k : OwnCall) → calls.called_name r x o ≡ Own k → shown g vis k ≡ true
  called_shown r x (Some s) k q = absurd (no_variable q)
  called_shown r x None k q = of_name r x (calls.own_call x) k refl q
