-- How the loops over the arguments of a call go on.
use Rattle.std.proofs.Common.{◌≡◌, ℕ, zero, suc, ◌+◌, ◌<◌, ◌≤◌, Bool, true, false, List, [], ◌∷◌, ◌++◌, length, take, get_or, Result, Ok, Err, refl, sym, ap, ◌∙◌, subst, append_assoc, append-nil, arith}
use Rattle.std.specs.Prelude.{◌||◌, ◌&&◌, map, max}
use Rattle.oc_source.specs.declared.parsed.Expr.{Expr}
use Rattle.oc_source.specs.Depth.{greatest}
use Rattle.oc_values.specs.declared.integers.IntKind.{IntKind}
use Rattle.oc_cells.specs.declared.types.CType.{CType, Int, Pointer', Array', Struct, Nothing}
use Rattle.oc_typed.specs.declared.typed.TExpr.{TExpr}
use Rattle.type_rules.specs.declared.judging.Want.{Want}
use Rattle.type_rules.specs.Judging.{Judged, next}
use Rattle.type_rules.specs.Lookup.{Lookup}
use Rattle.type_rules.specs.Calls as rules
use Rattle.type_rules.specs.Calls.{joined, given_none, either_type}
use Rattle.type_rules.specs.Prints as prints
use Rattle.type_rules.specs.Prints.{printed_both}
use Rattle.type_steps.specs.declared.fault.TypeFault.{TypeFault}
use Rattle.type_steps.specs.Answering.{Answers}
use Rattle.type_steps.proofs.Steps.{go, stop, fine, said_as}
use Rattle.written_types.specs.Each.{each, state_after, mapped}
use Rattle.written_types.proofs.EachItem.{Left, begins, goes_on, fails, ends}
use Rattle.call_steps.specs.declared.given.Given.{Given}
use Rattle.call_steps.specs.declared.prints.Printed.{Printed}
use Rattle.call_steps.specs.Given.{given_of}
use Rattle.call_steps.specs.Printed.{printed_of}
use Rattle.typed_expressions.specs.Arguments.{count_up, given_at, given_list, all_joined, printed_at, printed_list, all_printed, no_value}

-- an answer that is seen otherwise, where a first step fails
pub mapped_stop : {A B C : Type 0} (view : C → B) (m : Judged A) (k : A → Judged B) {f g : TypeFault} {r : Result C TypeFault} → Answers {A = A} m (Err f) → r ≡ Err g → g ≡ f → Answers (next m k) (mapped view r)
mapped_stop view m k x y z = stop m k x (ap (λ r. mapped view r) y) z

-- an item of a list weighs at most as much as the list
pub item_weight : {A : Type 0} (f : A → ℕ) (xs : List A) (i : ℕ) (x : A) → i < length xs → x ≡ get_or xs i x → f x ≤ greatest (map f xs)
item_weight f [] i x p h = omega arith
item_weight f (y ∷ ys) zero x p h = subst (λ z. f z ≤ max (f y) (greatest (map f ys))) (sym h) (omega arith)
item_weight f (y ∷ ys) (suc i) x p h = let r = item_weight f ys i x (omega arith) h in omega (arith, r)

-- the number of an argument counts those before it
counted_from : (n i : ℕ) (es : List Expr) → i ≤ length es → state_after count_up n (take i es) ≡ n + i
counted_from n zero es l = none n
  where
    none : (n : ℕ) → n ≡ n + 0
    none n = omega arith
counted_from n (suc i) [] l = omega (arith, l)
counted_from n (suc i) (e ∷ es) l = counted_from (n + 1) i es (omega arith) ∙ more n i
  where
    more : (n i : ℕ) → (n + 1) + i ≡ n + suc i
    more n i = omega arith

counts : (i : ℕ) (es : List Expr) → i < length es → state_after count_up 0 (take i es) ≡ i
counts i es l = counted_from 0 i es (omega arith) ∙ zero_left i
  where
    zero_left : (i : ℕ) → 0 + i ≡ i
    zero_left i = omega arith

module _ {Y : Type 0} (judge : ℕ → Expr → Judged Y) where
  pub on : (es : List Expr) (i : ℕ) (out : List Y) (e : Expr) (y : Y) → Left judge count_up 0 es i out → e ≡ get_or es i e → i < length es → judge i e ≡ Ok y → Left judge count_up 0 es (i + 1) (out ++ y ∷ [])
  on es i out e y inv is l h = goes_on judge count_up 0 es i out e y inv is l (ap (λ j. judge j e) (counts i es l) ∙ h)

  pub off : (es : List Expr) (i : ℕ) (out : List Y) (e : Expr) {f g : TypeFault} {r : Result (List Y) TypeFault} → Left judge count_up 0 es i out → e ≡ get_or es i e → i < length es → Answers {A = Y} (judge i e) (Err f) → r ≡ Err g → g ≡ f → Answers (each judge count_up 0 es) r
  off es i out e inv is l h p q = fails judge count_up 0 es i out e inv is l (said_as (sym (ap (λ j. judge j e) (counts i es l))) h) p q

-- the types of two groups of arguments, one after another
either_either : (a b c : CType) → either_type (either_type a b) c ≡ either_type a (either_type b c)
either_either (Int k o) b c = refl
either_either (Pointer' f u t) b c = refl
either_either (Array' n u t) b c = refl
either_either (Struct n) b c = refl
either_either Nothing b c = refl

either_none : (a : CType) → either_type a Nothing ≡ a
either_none (Int k o) = refl
either_none (Pointer' f u t) = refl
either_none (Array' n u t) = refl
either_none (Struct n) = refl
either_none Nothing = refl

or_or : (a b c : Bool) → ((a || b) || c) ≡ (a || (b || c))
or_or true b c = refl
or_or false b c = refl

or_false : (a : Bool) → (a || false) ≡ a
or_false true = refl
or_false false = refl

and_and : (a b c : Bool) → ((a && b) && c) ≡ (a && (b && c))
and_and true b c = refl
and_and false b c = refl

and_true : (a : Bool) → (a && true) ≡ a
and_true true = refl
and_true false = refl

plus_plus : (a b c : ℕ) → (a + b) + c ≡ a + (b + c)
plus_plus a b c = omega arith

plus_none : (a : ℕ) → a + 0 ≡ a
plus_none a = omega arith

none_plus : (a : ℕ) → 0 + a ≡ a
none_plus a = omega arith

abbrev given : List TExpr → ℕ → CType → Bool → ℕ → rules.Given
given es party of misplaced count = record { args = es; party = party; of = of; misplaced = misplaced; count = count }

joined_joined : (a b c : rules.Given) → joined (joined a b) c ≡ joined a (joined b c)
joined_joined a b c =
    ap (λ es. given es ((a.party + b.party) + c.party) (either_type (either_type a.of b.of) c.of) ((a.misplaced || b.misplaced) || c.misplaced) ((a.count + b.count) + c.count)) (append_assoc a.args b.args c.args)
    ∙ ap (λ n. given (a.args ++ (b.args ++ c.args)) n (either_type (either_type a.of b.of) c.of) ((a.misplaced || b.misplaced) || c.misplaced) ((a.count + b.count) + c.count)) (plus_plus a.party b.party c.party)
    ∙ ap (λ t. given (a.args ++ (b.args ++ c.args)) (a.party + (b.party + c.party)) t ((a.misplaced || b.misplaced) || c.misplaced) ((a.count + b.count) + c.count)) (either_either a.of b.of c.of)
    ∙ ap (λ m. given (a.args ++ (b.args ++ c.args)) (a.party + (b.party + c.party)) (either_type a.of (either_type b.of c.of)) m ((a.count + b.count) + c.count)) (or_or a.misplaced b.misplaced c.misplaced)
    ∙ ap (λ n. given (a.args ++ (b.args ++ c.args)) (a.party + (b.party + c.party)) (either_type a.of (either_type b.of c.of)) (a.misplaced || (b.misplaced || c.misplaced)) n) (plus_plus a.count b.count c.count)

joined_none : (a : rules.Given) → joined a given_none ≡ a
joined_none a =
    ap (λ es. given es (a.party + 0) (either_type a.of Nothing) (a.misplaced || false) (a.count + 0)) (append-nil a.args)
    ∙ ap (λ n. given a.args n (either_type a.of Nothing) (a.misplaced || false) (a.count + 0)) (plus_none a.party)
    ∙ ap (λ t. given a.args a.party t (a.misplaced || false) (a.count + 0)) (either_none a.of)
    ∙ ap (λ m. given a.args a.party a.of m (a.count + 0)) (or_false a.misplaced)
    ∙ ap (λ n. given a.args a.party a.of a.misplaced n) (plus_none a.count)

none_joined : (a : rules.Given) → joined given_none a ≡ a
none_joined a =
    ap (λ n. given a.args n a.of a.misplaced (0 + a.count)) (none_plus a.party)
    ∙ ap (λ n. given a.args a.party a.of a.misplaced n) (none_plus a.count)

joined_push : (out : List rules.Given) (a : rules.Given) → all_joined (out ++ a ∷ []) ≡ joined (all_joined out) a
joined_push [] a = joined_none a ∙ sym (none_joined a)
joined_push (b ∷ out) a = ap (λ d. joined b d) (joined_push out a) ∙ sym (joined_joined b (all_joined out) a)

both_both : (a b c : prints.Printed) → printed_both (printed_both a b) c ≡ printed_both a (printed_both b c)
both_both a b c =
    ap (λ es. record { args = es; fit = (a.fit && b.fit) && c.fit }) (append_assoc a.args b.args c.args)
    ∙ ap (λ t. record { args = a.args ++ (b.args ++ c.args); fit = t }) (and_and a.fit b.fit c.fit)

both_none : (a : prints.Printed) → printed_both a no_value ≡ a
both_none a = ap (λ es. record { args = es; fit = a.fit && true }) (append-nil a.args) ∙ ap (λ t. record { args = a.args; fit = t }) (and_true a.fit)

printed_push : (out : List prints.Printed) (a : prints.Printed) → all_printed (out ++ a ∷ []) ≡ printed_both (all_printed out) a
printed_push [] a = both_none a
printed_push (b ∷ out) a = ap (λ d. printed_both b d) (printed_push out a) ∙ sym (both_both b (all_printed out) a)

next_of : {A B : Type 0} (m : Judged A) (k : A → Judged B) (a : A) → m ≡ Ok a → next m k ≡ k a
unfolding next
next_of m k a h = ap (λ m. next m k) h

-- what the arguments before this number give together
pub record GivenSo (g : Lookup) (ws : List Want) (es : List Expr) (i : ℕ) (all : Given) : Type 0 where
  pub out : List rules.Given
  pub typed : Left (given_at g ws) count_up 0 es i out
  pub made : given_of all ≡ all_joined out

-- the values before this number
pub record PrintedSo (g : Lookup) (ks : List IntKind) (es : List Expr) (i : ℕ) (all : Printed) : Type 0 where
  pub out : List prints.Printed
  pub typed : Left (printed_at g ks) count_up 0 es i out
  pub made : printed_of all ≡ all_printed out

module _ (g : Lookup) (es : List Expr) where
  pub given_begins : (ws : List Want) (all : Given) → given_of all ≡ given_none → GivenSo g ws es 0 all
  given_begins ws all h = record { out = []; typed = begins (given_at g ws) count_up 0 es; made = h }

  pub given_on : (ws : List Want) (i : ℕ) (e : Expr) (all one new : Given) → GivenSo g ws es i all → e ≡ get_or es i e → i < length es → given_at g ws i e ≡ Ok (given_of one) → given_of new ≡ joined (given_of all) (given_of one) → GivenSo g ws es (i + 1) new
  given_on ws i e all one new x is l h q = record {
    out = x.out ++ given_of one ∷ [];
    typed = on (given_at g ws) es i x.out e (given_of one) x.typed is l h;
    made = q ∙ ap (λ a. joined a (given_of one)) x.made ∙ sym (joined_push x.out (given_of one));
  }

  pub given_off : (ws : List Want) (i : ℕ) (e : Expr) (all : Given) {f h : TypeFault} {r : Result Given TypeFault} → GivenSo g ws es i all → e ≡ get_or es i e → i < length es → Answers {A = rules.Given} (given_at g ws i e) (Err f) → r ≡ Err h → h ≡ f → Answers (given_list g ws es) (mapped given_of r)
  given_off ws i e all x is l y p q = mapped_stop given_of _ _ (off (given_at g ws) es i x.out e x.typed is l y refl refl) p q

  pub given_ends : (ws : List Want) (i : ℕ) (all : Given) → GivenSo g ws es i all → length es ≤ i → Answers (given_list g ws es) (Ok (given_of all))
  given_ends ws i all x l = fine (next_of (each (given_at g ws) count_up 0 es) (λ out. Ok (all_joined out)) x.out (ends (given_at g ws) count_up 0 es i x.out x.typed l) ∙ ap (λ a. Ok a) (sym x.made))

  pub printed_begins : (ks : List IntKind) (all : Printed) → printed_of all ≡ no_value → PrintedSo g ks es 0 all
  printed_begins ks all h = record { out = []; typed = begins (printed_at g ks) count_up 0 es; made = h }

  pub printed_on : (ks : List IntKind) (i : ℕ) (e : Expr) (all one new : Printed) → PrintedSo g ks es i all → e ≡ get_or es i e → i < length es → printed_at g ks i e ≡ Ok (printed_of one) → printed_of new ≡ printed_both (printed_of all) (printed_of one) → PrintedSo g ks es (i + 1) new
  printed_on ks i e all one new x is l h q = record {
    out = x.out ++ printed_of one ∷ [];
    typed = on (printed_at g ks) es i x.out e (printed_of one) x.typed is l h;
    made = q ∙ ap (λ a. printed_both a (printed_of one)) x.made ∙ sym (printed_push x.out (printed_of one));
  }

  pub printed_off : (ks : List IntKind) (i : ℕ) (e : Expr) (all : Printed) {f h : TypeFault} {r : Result Printed TypeFault} → PrintedSo g ks es i all → e ≡ get_or es i e → i < length es → Answers {A = prints.Printed} (printed_at g ks i e) (Err f) → r ≡ Err h → h ≡ f → Answers (printed_list g ks es) (mapped printed_of r)
  printed_off ks i e all x is l y p q = mapped_stop printed_of _ _ (off (printed_at g ks) es i x.out e x.typed is l y refl refl) p q

  pub printed_ends : (ks : List IntKind) (i : ℕ) (all : Printed) → PrintedSo g ks es i all → length es ≤ i → Answers (printed_list g ks es) (Ok (printed_of all))
  printed_ends ks i all x l = fine (next_of (each (printed_at g ks) count_up 0 es) (λ out. Ok (all_printed out)) x.out (ends (printed_at g ks) count_up 0 es i x.out x.typed l) ∙ ap (λ a. Ok a) (sym x.made))
