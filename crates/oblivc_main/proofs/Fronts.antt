-- What printing items one after another has written.
use Rattle.std.proofs.Common.{ℕ, zero, suc, ◌+◌, ◌≡◌, ◌<◌, ◌≤◌, List, [], ◌∷◌, ◌++◌, length, take, get_or, Option, refl, sym, ap, ◌∙◌, subst, arith, append-nil, append_assoc, length-append}
use Rattle.std.proofs.Math.Seq.{take-suc, take-append-add}
use Rattle.std.proofs.lemmas.List.{take-append-le}
use Rattle.oc_outside.specs.Counts.{Rose}
use Rattle.oc_outside.specs.Told.{appended, appended-appended}
use Rattle.oc_outside.specs.declared.sinks.PutEnd.TheVariants.{Failed, NoMemory}
use Rattle.oc_walk.specs.declared.run.ShownItem.{ShownItem}
use Rattle.oblivc_main.specs.Shown.{shown, shown_item}
use Rattle.oblivc_main.specs.Endings.{Printed}

shown-append : (xs ys : List ShownItem) → shown (xs ++ ys) ≡ shown xs ++ shown ys
shown-append [] ys = refl
shown-append (x ∷ xs) ys = ap (λ bytes. shown_item x ++ bytes) (shown-append xs ys) ∙ sym (append_assoc (shown_item x) (shown xs) (shown ys))

-- the first items and one more
shown-next : (items : List ShownItem) (i : ℕ) (item : ShownItem) → i < length items → item ≡ get_or items i item → shown (take (i + 1) items) ≡ shown (take i items) ++ shown_item item
shown-next items i item lt is =
    let on : i + 1 ≡ suc i = omega arith in
    ap (λ n. shown (take n items)) on
    ∙ ap shown (take-suc items i item lt)
    ∙ shown-append (take i items) (get_or items i item ∷ [])
    ∙ ap (λ bytes. shown (take i items) ++ bytes) (append-nil (shown_item (get_or items i item)))
    ∙ ap (λ x. shown (take i items) ++ shown_item x) (sym is)

pub written_next : (items : List ShownItem) (i : ℕ) (item : ShownItem) (start before after : Option (List ℕ)) → i < length items → item ≡ get_or items i item → before ≡ appended (shown (take i items)) start → after ≡ appended (shown_item item) before → after ≡ appended (shown (take (i + 1) items)) start
written_next items i item start before after lt is b a =
    a ∙ ap (appended (shown_item item)) b
    ∙ appended-appended (shown (take i items)) (shown_item item) start
    ∙ ap (λ bytes. appended bytes start) (sym (shown-next items i item lt is))

-- a front of the item after the first ones ends a front of all
front_of_all : (items : List ShownItem) (i : ℕ) (item : ShownItem) (n : ℕ) → i < length items → item ≡ get_or items i item → n ≤ length (shown_item item) → (m : ℕ) × (m ≤ length (shown items)) × (shown (take i items) ++ take n (shown_item item) ≡ take m (shown items))
front_of_all [] i item n lt is le = absurd (omega arith)
front_of_all (x ∷ xs) zero item n lt is le =
    let within : n ≤ length (shown_item x) = subst (λ y. n ≤ length (shown_item y)) is le in
    (n, omega (arith, within, length-append (shown_item x) (shown xs)), ap (λ y. take n (shown_item y)) is ∙ sym (take-append-le n (shown_item x) (shown xs) within))
front_of_all (x ∷ xs) (suc i) item n lt is le =
    let r = front_of_all xs i item n (omega arith) is le in
    let within : r.0 ≤ length (shown xs) = r.1 in (
      length (shown_item x) + r.0,
      omega (arith, within, length-append (shown_item x) (shown xs)),
      append_assoc (shown_item x) (shown (take i xs)) (take n (shown_item item)) ∙ ap (λ bytes. shown_item x ++ bytes) r.2 ∙ sym (take-append-add (shown_item x) (shown xs) r.0),
    )

module _ (items : List ShownItem) (i : ℕ) (item : ShownItem) (first before_faults after_faults : ℕ) (start before after : Option (List ℕ)) where
  front_written : i < length items → item ≡ get_or items i item → before ≡ appended (shown (take i items)) start → ((n : ℕ) × (n ≤ length (shown_item item)) × (after ≡ appended (take n (shown_item item)) before)) → (n : ℕ) × (n ≤ length (shown items)) × (after ≡ appended (take n (shown items)) start)
  front_written lt is b f =
      let r = front_of_all items i item f.0 lt is f.1 in (
        r.0,
        r.1,
        f.2 ∙ ap (appended (take f.0 (shown_item item))) b
            ∙ appended-appended (shown (take i items)) (take f.0 (shown_item item)) start
            ∙ ap (λ bytes. appended bytes start) r.2,
      )

  rose_before : before_faults ≡ first → Rose before_faults after_faults → Rose first after_faults
  rose_before same rose = omega (arith, same, rose)

  pub failed_all : i < length items → item ≡ get_or items i item → before_faults ≡ first → before ≡ appended (shown (take i items)) start → Printed (shown_item item) Failed before_faults after_faults before after → Printed (shown items) Failed first after_faults start after
  failed_all lt is same b p = record {
    never_falls = omega (arith, same, p.never_falls);
    done = tt;
    failed = rose_before same p.failed;
    no_fault = tt;
    refused = front_written lt is b p.refused;
  }

  pub spent_all : i < length items → item ≡ get_or items i item → before_faults ≡ first → before ≡ appended (shown (take i items)) start → Printed (shown_item item) NoMemory before_faults after_faults before after → Printed (shown items) NoMemory first after_faults start after
  spent_all lt is same b p = record {
    never_falls = omega (arith, same, p.never_falls);
    done = tt;
    failed = tt;
    no_fault = p.no_fault ∙ same;
    refused = front_written lt is b p.refused;
  }
