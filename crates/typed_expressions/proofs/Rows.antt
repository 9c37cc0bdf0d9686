-- The arguments of a call, as the tree keeps them and as the code reads them.
use Rattle.std.proofs.Common.{◌≡◌, ◌<◌, length, ℕ, zero, suc, ◌+◌, Bool, true, false, List, [], ◌∷◌, drop, Option, Some, None, Ok, Err, refl, sym, ap, ◌∙◌, arith}
use Rattle.std.specs.Prelude.{◌&&◌, ◌||◌, is_some, slice_get, option_map}
use Rattle.oc_values.specs.declared.integers.IntKind.{IntKind}
use Rattle.oc_values.specs.declared.integers.BinaryOp.{BinaryOp}
use Rattle.oc_source.specs.declared.spot.Spot.{Spot}
use Rattle.oc_source.specs.declared.parsed.TypeName.{TypeName}
use Rattle.oc_source.specs.declared.parsed.Expr.{Expr}
use Rattle.oc_source.specs.declared.parsed.ExprNode.{Call, Binary, Row_of-Expr}
use Rattle.oc_source.specs.declared.parsed.ExprNode.TheBlock.{hidden-the_row-Expr-0, hidden-the_row-Expr-1, back-the_row-Expr}
use denote.Hole.Carrier.{hidden}
use mathlib.Core.Former.{this, list_count, children}
use mathlib.Core.List.{map}
use Rattle.sqlite_items.specs.formers.items.Items.{the_former}
use Rattle.oc_cells.specs.declared.types.CType.{CType}
use Rattle.type_rules.specs.declared.judging.Want.{Want}
use Rattle.type_rules.specs.declared.judging.Found.{Found}
use Rattle.type_rules.specs.declared.judging.Seen.{Seen}
use Rattle.typed_expressions.proofs.Nodes.{type_in}
use Rattle.type_rules.specs.Judging.{Judged, next}
use Rattle.type_rules.specs.Lookup.{Lookup, convert}
use Rattle.oc_cells.specs.declared.types.SlotType.{SlotType}
use Rattle.call_steps.specs.declared.formats.Format.{Format}
use Rattle.call_steps.specs.Printed.{format_seen}
use Rattle.type_rules.specs.Calls.{types_of, called, Given, joined, given_value, given_as, given_by, ByValue, given_size, private_word, wants}
use Rattle.type_rules.specs.declared.judging.OwnCall.TheVariants as call
use Rattle.type_rules.specs.Prints.{Printed, printed_both, printed_value, asked, format_of, print_called}
use Rattle.type_rules.specs.Rules.{expr, passed, given, printing, printed, typed_value, params_of, wants_of, invoked, way, private, size, text_of, headed, product, sized, counted, both_parts, sizeof_type, has_sizeof, is_product}
use Rattle.written_types.specs.Each.{each}
use Rattle.written_types.proofs.EachItem.{next_next, next_same}
use Rattle.typed_expressions.specs.Sites.{found}
use Rattle.typed_expressions.specs.Arguments.{count_up, passed_one, passed_at, passed_list, given_one, given_at, given_list, all_joined, printed_at, printed_list, all_printed, shown_by, taken_by, one_value, no_value, printing_list, call_of}

-- a list of arguments as the row that the tree keeps
abbrev pub row_of : (es : List Expr) → Row_of-Expr (list_count (this {0}) (map (λ x. (this {0}).shape Expr x) es) 0)
row_of es = back-the_row-Expr (list_count (this {0}) (map (λ x. (this {0}).shape Expr x) es) 0) (children (the_former (this {0})) Expr es)

-- what stands in a list from a number on: nothing any more, or an item and the rest
data At {A : Type 0} (xs : List A) (i : ℕ) : Type 0 where
  gone : slice_get xs i ≡ None → drop i xs ≡ [] → drop (i + 1) xs ≡ [] → At xs i
  here : (x : A) → slice_get xs i ≡ Some x → drop i xs ≡ x ∷ drop (i + 1) xs → At xs i

add_one : (i : ℕ) → suc i ≡ i + 1
add_one i = omega arith

none_left : {A : Type 0} (i : ℕ) → drop {A = A} i [] ≡ []
none_left zero = refl
none_left (suc i) = refl

at : {A : Type 0} (xs : List A) (i : ℕ) → At xs i
at [] i = gone refl (none_left i) (none_left (i + 1))
at (x ∷ xs) zero = here x refl refl
at (x ∷ xs) (suc i) = go (at xs i)
  where
    go : At xs i → At (x ∷ xs) (suc i)
    go (gone a b d) = gone a b (ap (λ j. drop j (x ∷ xs)) (sym (add_one (suc i))) ∙ ap (λ j. drop j xs) (add_one i) ∙ d)
    go (here y a b) = here y a (b ∙ ap (λ zs. y ∷ zs) (ap (λ j. drop j xs) (sym (add_one i)) ∙ ap (λ j. drop j (x ∷ xs)) (add_one (suc i))))

-- what arguments give, gathered before or after
given_fold : (m : Judged Given) (r : Judged (List Given)) → next m (λ a. next (next r (λ given. Ok (all_joined given))) (λ b. Ok (joined a b))) ≡ next (next m (λ y. next r (λ ys. Ok (y ∷ ys)))) (λ given. Ok (all_joined given))
unfolding next
given_fold (Ok a) (Ok as') = refl
given_fold (Ok a) (Err f) = refl
given_fold (Err f) r = refl

printed_fold : (m : Judged Printed) (r : Judged (List Printed)) → next m (λ a. next (next r (λ printed. Ok (all_printed printed))) (λ b. Ok (printed_both a b))) ≡ next (next m (λ y. next r (λ ys. Ok (y ∷ ys)))) (λ printed. Ok (all_printed printed))
unfolding next
printed_fold (Ok a) (Ok as') = refl
printed_fold (Ok a) (Err f) = refl
printed_fold (Err f) r = refl

module _ (g : Lookup) where
  passed_go : (tys : List CType) (i : ℕ) (e : Expr) (es : List Expr) → passed g (drop (i + 1) tys) (row_of es) ≡ each (passed_at g tys) count_up (i + 1) es → At tys i → passed g (drop i tys) (row_of (e ∷ es)) ≡ each (passed_at g tys) count_up i (e ∷ es)
  unfolding hidden next typed_value
  passed_go tys i e es h (gone n d d') =
      ap (λ ts. passed g ts (row_of (e ∷ es))) d
      ∙ ap (λ m. next (typed_value g e) (λ v. next m (λ vs. Ok (v ∷ vs)))) (ap (λ ts. passed g ts (row_of es)) (sym d') ∙ h)
      ∙ sym (next_next (typed_value g e) (λ v. taken_by None v) (λ y. next (each (passed_at g tys) count_up (i + 1) es) (λ ys. Ok (y ∷ ys))))
      ∙ ap (λ o. next (passed_one g o e) (λ y. next (each (passed_at g tys) count_up (i + 1) es) (λ ys. Ok (y ∷ ys)))) (sym n)
  passed_go tys i e es h (here ty n d) =
      ap (λ ts. passed g ts (row_of (e ∷ es))) d
      ∙ ap (λ m. next (typed_value g e) (λ v. next (convert ty v) (λ x. next m (λ vs. Ok (x ∷ vs))))) h
      ∙ sym (next_next (typed_value g e) (λ v. taken_by (Some ty) v) (λ y. next (each (passed_at g tys) count_up (i + 1) es) (λ ys. Ok (y ∷ ys))))
      ∙ ap (λ o. next (passed_one g o e) (λ y. next (each (passed_at g tys) count_up (i + 1) es) (λ ys. Ok (y ∷ ys)))) (sym n)

  passed_row : (tys : List CType) (i : ℕ) (es : List Expr) → passed g (drop i tys) (row_of es) ≡ each (passed_at g tys) count_up i es
  unfolding hidden
  passed_row tys i [] = refl
  passed_row tys i (e ∷ es) = passed_go tys i e es (passed_row tys (i + 1) es) (at tys i)

  given_go : (ws : List Want) (i : ℕ) (e : Expr) (es : List Expr) → given g (drop (i + 1) ws) (row_of es) ≡ next (each (given_at g ws) count_up (i + 1) es) (λ given. Ok (all_joined given)) → At ws i → given g (drop i ws) (row_of (e ∷ es)) ≡ next (each (given_at g ws) count_up i (e ∷ es)) (λ given. Ok (all_joined given))
  unfolding hidden next typed_value found
  given_go ws i e es h (gone n d d') =
      let r = each (given_at g ws) count_up (i + 1) es in
      ap (λ ts. given g ts (row_of (e ∷ es))) d
      ∙ ap (λ m. next (typed_value g e) (λ v. next m (λ b. Ok (joined (given_value v) b)))) (ap (λ ts. given g ts (row_of es)) (sym d') ∙ h)
      ∙ sym (next_next (typed_value g e) (λ v. Ok (given_value v)) (λ a. next (next r (λ given. Ok (all_joined given))) (λ b. Ok (joined a b))))
      ∙ given_fold (given_one g None e) r
      ∙ ap (λ o. next (next (given_one g o e) (λ y. next r (λ ys. Ok (y ∷ ys)))) (λ given. Ok (all_joined given))) (sym n)
  given_go ws i e es h (here w n d) =
      let r = each (given_at g ws) count_up (i + 1) es in
      ap (λ ts. given g ts (row_of (e ∷ es))) d
      ∙ ap (λ m. next (given_one g (Some w) e) (λ a. next m (λ b. Ok (joined a b)))) h
      ∙ given_fold (given_one g (Some w) e) r
      ∙ ap (λ o. next (next (given_one g o e) (λ y. next r (λ ys. Ok (y ∷ ys)))) (λ given. Ok (all_joined given))) (sym n)

  given_row : (ws : List Want) (i : ℕ) (es : List Expr) → given g (drop i ws) (row_of es) ≡ next (each (given_at g ws) count_up i es) (λ given. Ok (all_joined given))
  unfolding hidden next
  given_row ws i [] = refl
  given_row ws i (e ∷ es) = given_go ws i e es (given_row ws (i + 1) es) (at ws i)

  printed_go : (ks : List IntKind) (i : ℕ) (e : Expr) (es : List Expr) → printed g (drop (i + 1) ks) (row_of es) ≡ next (each (printed_at g ks) count_up (i + 1) es) (λ printed. Ok (all_printed printed)) → At ks i → printed g (drop i ks) (row_of (e ∷ es)) ≡ next (each (printed_at g ks) count_up i (e ∷ es)) (λ printed. Ok (all_printed printed))
  unfolding hidden next typed_value
  printed_go ks i e es h (gone n d d') =
      let r = each (printed_at g ks) count_up (i + 1) es in
      ap (λ ts. printed g ts (row_of (e ∷ es))) d
      ∙ ap (λ m. next (typed_value g e) (λ v. next m (λ b. Ok (printed_both (one_value v) b)))) (ap (λ ts. printed g ts (row_of es)) (sym d') ∙ h)
      ∙ sym (next_next (typed_value g e) (λ v. Ok (one_value v)) (λ a. next (next r (λ printed. Ok (all_printed printed))) (λ b. Ok (printed_both a b))))
      ∙ printed_fold (next (typed_value g e) (λ v. shown_by None v)) r
      ∙ ap (λ o. next (next (next (typed_value g e) (λ v. shown_by o v)) (λ y. next r (λ ys. Ok (y ∷ ys)))) (λ printed. Ok (all_printed printed))) (sym n)
  printed_go ks i e es h (here k n d) =
      let r = each (printed_at g ks) count_up (i + 1) es in
      ap (λ ts. printed g ts (row_of (e ∷ es))) d
      ∙ ap (λ m. next (typed_value g e) (λ v. next (printed_value k v) (λ x. next m (λ b. Ok (printed_both x b))))) h
      ∙ sym (next_next (typed_value g e) (λ v. printed_value k v) (λ a. next (next r (λ printed. Ok (all_printed printed))) (λ b. Ok (printed_both a b))))
      ∙ printed_fold (next (typed_value g e) (λ v. shown_by (Some k) v)) r
      ∙ ap (λ o. next (next (next (typed_value g e) (λ v. shown_by o v)) (λ y. next r (λ ys. Ok (y ∷ ys)))) (λ printed. Ok (all_printed printed))) (sym n)

  printed_row : (ks : List IntKind) (i : ℕ) (es : List Expr) → printed g (drop i ks) (row_of es) ≡ next (each (printed_at g ks) count_up i es) (λ printed. Ok (all_printed printed))
  unfolding hidden next
  printed_row ks i [] = refl
  printed_row ks i (e ∷ es) = printed_go ks i e es (printed_row ks (i + 1) es) (at ks i)

  printing_row : (alone : Bool) (p : Spot) (es : List Expr) → printing g alone p (row_of es) ≡ printing_list g alone p es
  unfolding hidden found
  printing_row alone p [] = refl
  printing_row alone p (e ∷ es) =
      ap (λ m. next (headed (text_of e.node) (found g false e)) (λ _. next m (λ a. print_called alone p true (text_of e.node) a))) (printed_row (asked (format_of (text_of e.node)).pieces) 0 es)

  -- a call, by what its name means and its arguments
  pub call_form : (alone : Bool) (p : Spot) (x : List ℕ) (es : List Expr) → expr g alone p (Call x es) ≡ call_of g alone p (called g x) es
  unfolding hidden-the_row-Expr-1 hidden
  call_form alone p x es =
      let c = called g x in
      ap (λ m. invoked alone p c m (given g (wants_of c) (row_of es)) (printing g alone p (row_of es))) (passed_row (params_of c) 0 es)
      ∙ ap (λ m. invoked alone p c (passed_list g (params_of c) es) m (printing g alone p (row_of es))) (given_row (wants_of c) 0 es)
      ∙ ap (λ m. invoked alone p c (passed_list g (params_of c) es) (given_list g (wants_of c) es) m) (printing_row alone p es)

  -- the `ocPrivate` that a call is
  pub private_form : (p : Spot) (x : List ℕ) (es : List Expr) → private g p (Call x es) ≡ next (given_list g (wants call.Private) es) (λ a. private_word p a)
  unfolding hidden-the_row-Expr-1 hidden
  private_form p x es = ap (λ m. next m (λ a. private_word p a)) (given_row (wants call.Private) 0 es)

  -- a product, where a size is wanted
  pub size_binary : (op : BinaryOp) (l r : Expr) → size g (Binary op l r) ≡ product g (sizeof_type l.node) (sizeof_type r.node) (found g false l) (found g false r)
  unfolding hidden-the_row-Expr-0 hidden found
  size_binary op l r = refl

-- whether a product has a size in it
pub has_binary : (op : BinaryOp) (l r : Expr) → has_sizeof (Binary op l r) ≡ (is_product op && (is_some (sizeof_type l.node) || is_some (sizeof_type r.node)))
unfolding hidden-the_row-Expr-0 hidden
has_binary op l r = refl

-- sizes are the same whatever variables are visible
module _ (g : Lookup) (vs : List Seen) where
  sized_in : (w : TypeName) → sized (record g { seen = vs }) w ≡ sized g w
  sized_in w = ap (λ m. next m (λ ty. Ok (given_size ty))) (type_in g vs w)

  pub size_form : (w : TypeName) → sized (record g { seen = vs }) w ≡ sized g w
  size_form w = sized_in w

  pub first_form : (w : TypeName) (o : Option TypeName) (l : Judged Found) (e : Expr) → product (record g { seen = vs }) (Some w) o l (found (record g { seen = vs }) false e) ≡ next (sized g w) (λ a. next (next (typed_value (record g { seen = vs }) e) (λ v. counted v)) (λ b. Ok (both_parts a b)))
  unfolding found typed_value
  first_form w o l e =
      let g' = record g { seen = vs } in
      ap (λ m. next m (λ a. next (typed_value g' e) (λ v. next (counted v) (λ b. Ok (both_parts a b))))) (sized_in w)
      ∙ next_same (sized g w) (λ a. next (typed_value g' e) (λ v. next (counted v) (λ b. Ok (both_parts a b)))) (λ a. next (next (typed_value g' e) (λ v. counted v)) (λ b. Ok (both_parts a b))) (λ a. sym (next_next (typed_value g' e) (λ v. counted v) (λ b. Ok (both_parts a b))))

  pub second_form : (w : TypeName) (e : Expr) (r : Judged Found) → product (record g { seen = vs }) None (Some w) (found (record g { seen = vs }) false e) r ≡ next (next (typed_value (record g { seen = vs }) e) (λ v. counted v)) (λ a. next (sized g w) (λ b. Ok (both_parts a b)))
  unfolding found typed_value
  second_form w e r =
      let g' = record g { seen = vs } in
      ap (λ m. next (typed_value g' e) (λ v. next (counted v) (λ a. next m (λ b. Ok (both_parts a b))))) (sized_in w)
      ∙ sym (next_next (typed_value g' e) (λ v. counted v) (λ a. next (sized g w) (λ b. Ok (both_parts a b))))

-- the type of a parameter, by its number
slot_type : (ps : List SlotType) (i : ℕ) → option_map (λ s. s.ty) (slice_get ps i) ≡ slice_get (types_of ps) i
slot_type [] i = refl
slot_type (s ∷ ss) zero = refl
slot_type (s ∷ ss) (suc i) = slot_type ss i

pub slot_passed : (g : Lookup) (ps : List SlotType) (i : ℕ) (e : Expr) {o : Option SlotType} → o ≡ slice_get ps i → passed_one g (option_map (λ s. s.ty) o) e ≡ passed_at g (types_of ps) i e
slot_passed g ps i e h = ap (λ o. passed_one g o e) (ap (λ o. option_map (λ s. s.ty) o) h ∙ slot_type ps i)

-- the values of a print, by the kinds that its format asks for
pub kinds_printed : (g : Lookup) (es : List Expr) (text : List ℕ) (f : Format) (ks : List IntKind) → format_seen f ≡ format_of (Some text) → ks ≡ asked f.pieces → printed_list g ks es ≡ printed_list g (asked (format_of (Some text)).pieces) es
kinds_printed g es text f ks h q = ap (λ ks. printed_list g ks es) (q ∙ ap (λ f. asked f.pieces) h)

-- an argument of the language's own call that is judged by its value
pub value_way : (g : Lookup) (w : Want) (e : Expr) → way g w e.node ≡ ByValue → given_one g (Some w) e ≡ next (typed_value g e) (λ v. given_as w v)
unfolding typed_value found
value_way g w e h = ap (λ y. given_by y w (found g false e) (private g e.spot e.node) (size g e.node)) h

-- a print, by the text that its first argument is
pub text_form : (g : Lookup) (alone : Bool) (p : Spot) (e : Expr) (es : List Expr) (text : List ℕ) → text_of e.node ≡ Some text → printing_list g alone p (e ∷ es) ≡ next (printed_list g (asked (format_of (Some text)).pieces) es) (λ a. print_called alone p true (Some text) a)
unfolding next
text_form g alone p e es text h = ap (λ o. next (headed o (found g false e)) (λ _. next (printed_list g (asked (format_of o).pieces) es) (λ a. print_called alone p true o a))) h

pub other_form : (g : Lookup) (alone : Bool) (p : Spot) (e : Expr) (es : List Expr) → text_of e.node ≡ None → printing_list g alone p (e ∷ es) ≡ next (typed_value g e) (λ _. next (printed_list g [] es) (λ a. print_called alone p true None a))
unfolding next typed_value found
other_form g alone p e es h =
    ap (λ o. next (headed o (found g false e)) (λ _. next (printed_list g (asked (format_of o).pieces) es) (λ a. print_called alone p true o a))) h
    ∙ next_next (typed_value g e) (λ _. Ok tt) (λ _. next (printed_list g [] es) (λ a. print_called alone p true None a))

never : (e : Expr) (es : List Expr) → length (e ∷ es) < 1 → ⊥
never e es l = omega (arith, l)

-- a print without an argument
pub none_form : (g : Lookup) (alone : Bool) (p : Spot) (es : List Expr) → length es < 1 → printing_list g alone p es ≡ print_called alone p false None no_value
none_form g alone p [] l = refl
none_form g alone p (e ∷ es) l = elim (never e es l) [ ]
