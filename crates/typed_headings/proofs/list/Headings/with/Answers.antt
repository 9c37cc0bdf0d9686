use Rattle.std.proofs.Common.{◌≡◌, ℕ, ◌+◌, ◌-◌, ◌≤◌, List, [], ◌∷◌, ◌++◌, length, true, false, sym, ap, ◌∙◌, subst, arith, length-append}
use Rattle.std.specs.BTreeMap.{BTreeMap}
use denote.Ref.{Bor}
use Rattle.type_rules.specs.declared.judging.Heading.{Heading}
use Rattle.type_rules.specs.Written.{bodies_of}
use Rattle.written_types.specs.Numbers.{Numbers, heading_names}
use Rattle.typed_headings.specs.Beside.{are_agreeing}
use Rattle.typed_headings.proofs.Agreed.{agreeing_more}
use Rattle.typed_headings.proofs.Numbered.{numbers_more, counts, body_more, no_body_more, few_bodies}
use Rattle.typed_headings.proofs.list.Headings.with.Goals.{then-has_body+in_ok-add_name-2, else-has_body}
use Rattle.typed_headings.proofs.list.Headings.with.Goals as goal

pub overflow_add-bodied : goal.overflow_add-bodied
overflow_add-bodied c =
    let few : length (bodies_of c.args.self.list.items) ≤ length c.args.self.list.items = few_bodies c.args.self.list.items in
    let e : c.args.self.bodied ≡ length (bodies_of c.args.self.list.items) = c.args.self.counted in
    let l = c.in_ok-push.ensures.len in
    let t = c.len-total.ensures in
    let r = c.len-total.type_inv in
    omega (arith, few, e, l, t, r)

last_number : (hs ks : List Heading) (h : Heading) (n : ℕ) → ks ≡ hs ++ h ∷ [] → n ≡ length ks → n - 1 ≡ length hs
last_number hs ks h n e f = omega (arith, f, ap length e, length-append hs (h ∷ []))

module _ (m : BTreeMap (Bor (List ℕ)) ℕ) (hs ks : List Heading) (h : Heading) (x : List ℕ) (e : ks ≡ hs ++ h ∷ []) (n : h.name ≡ x) where
  all_numbers : Numbers m (heading_names hs ++ x ∷ []) → Numbers m (heading_names ks)
  all_numbers z = subst (λ ks. Numbers m (heading_names ks)) (sym e) (numbers_more m hs h (subst (λ x. Numbers m (heading_names hs ++ x ∷ [])) (sym n) z))

bodies_with : (hs ks : List Heading) (h : Heading) → ks ≡ hs ++ h ∷ [] → h.has_body ≡ true → bodies_of ks ≡ bodies_of hs ++ h ∷ []
bodies_with hs ks h e b = ap (λ ks. bodies_of ks) e ∙ body_more hs h b

bodies_still : (hs ks : List Heading) (h : Heading) → ks ≡ hs ++ h ∷ [] → h.has_body ≡ false → bodies_of ks ≡ bodies_of hs
bodies_still hs ks h e b = ap (λ ks. bodies_of ks) e ∙ no_body_more hs h b

one_more : (hs ks : List Heading) (h : Heading) (n m : ℕ) → ks ≡ hs ++ h ∷ [] → n ≡ length hs → m ≡ n + 1 → m ≡ length ks
one_more hs ks h n m e f g = omega (arith, f, g, ap length e, length-append hs (h ∷ []))

pub invariant_of-result : goal.invariant_of-result
invariant_of-result c =
    let hs = c.args.self.list.items in
    let ks = c.push.new.self.items in
    let h = c.args.heading in
    let e = c.in_ok-push.ensures.items in
    let t : c.len-total.result ≡ length ks = omega (arith, c.len-total.ensures) in
    record {
      first = all_numbers _ hs ks h c.args.name.now e c.requires.named (c.in_ok-add_name.ensures.numbers (heading_names hs) c.args.self.first (counts hs _ (last_number hs ks h _ e t)));
      numbered = elim c.if-has_body.branch [
        | then-has_body+in_ok-add_name-2 w ↦
            subst (λ m. Numbers m (heading_names (bodies_of ks))) (sym w.bodies-is)
            (all_numbers _ (bodies_of hs) (bodies_of ks) h c.args.name.now (bodies_with hs ks h e w.if-has_body.true) c.requires.named
            (w.in_ok-add_name-2.ensures.numbers (heading_names (bodies_of hs)) c.args.self.numbered (counts (bodies_of hs) _ c.args.self.counted)))
        | else-has_body w ↦
            subst (λ m. Numbers m (heading_names (bodies_of ks))) (sym w.bodies-is)
            (subst (λ bs. Numbers c.args.self.bodies (heading_names bs)) (sym (bodies_still hs ks h e w.if-has_body.false)) c.args.self.numbered)
      ];
      counted = elim c.if-has_body.branch [
        | then-has_body+in_ok-add_name-2 w ↦ one_more (bodies_of hs) (bodies_of ks) h c.args.self.bodied _ (bodies_with hs ks h e w.if-has_body.true) c.args.self.counted w.bodied-is
        | else-has_body w ↦ w.bodied-is ∙ c.args.self.counted ∙ ap (λ bs. length bs) (sym (bodies_still hs ks h e w.if-has_body.false))
      ];
      agreeing = subst (λ ks. are_agreeing ks ≡ true) (sym e) (agreeing_more h hs c.args.self.agreeing c.requires.stands);
    }
