-- What an answer says of the tokens.
use Rattle.std.proofs.Common.{◌≡◌, ℕ, ◌≤◌, List, [], ◌++◌, length, drop, refl, sym, ◌∙◌, ap, append-nil, subst, arith}
use Rattle.std.proofs.Math.Logic.{⊎_elim}
use Rattle.std.proofs.Math.Nat.{eq-or-lt_of_le}
use Rattle.std.proofs.lemmas.Bool.{cases_lt}
use Rattle.std.proofs.lemmas.List.Elements.{recursion_from_All}
use Rattle.oc_source.specs.declared.spot.Spot.{Spot}
use Rattle.oc_source.specs.declared.parsed.Program.{Program}
use Rattle.oc_lexer.specs.declared.token.Token.{Token}
use Rattle.oc_lexer.specs.declared.token.Lexed.{Lexed}
use Rattle.oc_grammar.specs.Parsing.{Found, Refused}
use Rattle.oc_grammar.specs.Headings.{Derives, program}
use Rattle.oc_parser.specs.declared.faults.ParseRule.{ParseRule}
use Rattle.oc_parser.specs.declared.faults.ParseRule.TheVariants.{G1, G2}
use Rattle.oc_parser.specs.Places.{spot_from, place_spot}
use Rattle.oc_parser.specs.Load.{loads, IsLight, HeavyAt}
use Rattle.oc_parser.specs.Refusals.{HasNoTree}
use Rattle.oc_parser.specs.Programs.{program_of, Whole, whole, AtEnd}
use Rattle.oc_parser.specs.Trees.{IsTree}
use Rattle.oc_parser.proofs.Loads.{drop_front, small_at}
use Rattle.oc_parser.proofs.Faulty.{is_fault, same_fault, spelled_no_fault, one_fault}

-- ---- the forms of a program

whole_derives : {end : Spot} (v : Program) (x : List Token) → Whole end v x → (w : Program) × Derives w x
whole_derives v x (whole d) = (v, program d)

derives_whole : {end : Spot} (v : Program) (x : List Token) → Derives v x → (w : Program) × Whole end w x
derives_whole {end} v x (program {p} d) = (program_of p.structs p.functions end, whole d)

parts_of : {end : Spot} {v : Program} {x : List Token} → Whole end v x → Derives v x × (v.end ≡ end)
parts_of (whole d) = (program d, refl)

-- ---- a tree

-- equal parts give an equal program
same_program : (p q : Program) → p.structs ≡ q.structs → p.functions ≡ q.functions → p.end ≡ q.end → p ≡ q
same_program p q structs functions end =
    ap {B = Program} (λ s. record { structs = s; functions = p.functions; end = p.end }) structs
    ∙ ap {B = Program} (λ f. record { structs = q.structs; functions = f; end = p.end }) functions
    ∙ ap {B = Program} (λ e. record { structs = q.structs; functions = q.functions; end = e }) end

module _ {end : Spot} {ts : List Token} {p : Program} (f : Found (Whole end) AtEnd ts p []) where
  all_read : f.front ≡ ts
  all_read = sym (f.whole ∙ append-nil f.front)

  pub tree_derives : Derives p ts
  tree_derives = subst (λ x. Derives p x) all_read (parts_of f.derives).0

  tree_end : p.end ≡ end
  tree_end = (parts_of f.derives).1

  same_parts : (other : Program) → Derives other ts → (other.structs ≡ p.structs) × (other.functions ≡ p.functions)
  same_parts other (program d) =
      let w : Whole end (program_of other.structs other.functions end) ts = whole d in
      let e = (f.only [] ts [] (program_of other.structs other.functions end) refl w refl (ap (λ x. x ++ []) all_read)).0 in
      (ap (λ (p : Program). p.structs) e, ap (λ (p : Program). p.functions) e)

module _ (lexed : Lexed) {p : Program} (f : Found (Whole lexed.end) AtEnd lexed.tokens p []) where
  pub is_tree : IsTree lexed p
  is_tree = record { spelled = tree_derives f; end = tree_end f }

  pub one_tree : (other : Program) → IsTree lexed other → other ≡ p
  one_tree other t = let parts = same_parts f other t.spelled in same_program other p parts.0 parts.1 (t.end ∙ sym (tree_end f))

-- ---- a refusal

heavy_not_light : {ts : List Token} {p : ℕ} → HeavyAt ts p → IsLight ts → ⊥
heavy_not_light {ts = ts} {p = p} h l = let a = small_at (loads ts) p (recursion_from_All (λ n. n ≤ 1000) (loads ts) l) in let b = h.heavy in omega arith

one_heavy : {ts : List Token} (p q : ℕ) → HeavyAt ts p → HeavyAt ts q → p ≡ q
one_heavy p q f g =
    ⊎_elim
    (λ lt. absurd (let a = g.before p lt in let b = f.heavy in omega arith))
    (λ le. ⊎_elim (λ e. sym e) (λ lt. absurd (let a = f.before q lt in let b = g.heavy in omega arith)) (eq-or-lt_of_le le))
    (cases_lt p q)

module _ (lexed : Lexed) where
  -- the fault of the grammar
  pub grammar_refuses : (rest : List Token) → IsLight lexed.tokens → Refused (Whole lexed.end) AtEnd lexed.tokens rest → HasNoTree lexed G1 (spot_from lexed.end rest)
  grammar_refuses rest light f =
      let fault = is_fault (Whole lexed.end) AtEnd (λ w. refl) lexed.tokens rest f in
      (light, (length f.front, same_fault whole_derives derives_whole lexed.tokens (length f.front) fault, (let e : drop (length f.front) lexed.tokens ≡ rest = ap (λ x. drop (length f.front) x) f.whole ∙ drop_front f.front rest in sym (ap (spot_from lexed.end) e))))

  -- the first load that is too large
  pub heavy_refuses : (spot : Spot) → (p : ℕ) × HeavyAt lexed.tokens p × ((end : Spot) → spot ≡ place_spot end lexed.tokens p) → HasNoTree lexed G2 spot
  heavy_refuses spot h = (h.0, h.1, h.2 lexed.end)

  -- a program without a load that is too large is not refused
  pub not_refused : (p : Program) (rule : ParseRule) (spot : Spot) → Derives p lexed.tokens → IsLight lexed.tokens → HasNoTree lexed rule spot → ⊥
  not_refused p G1 spot d light r = spelled_no_fault p r.1.0 d r.1.1
  not_refused p G2 spot d light r = heavy_not_light r.1 light

  -- one rule at one spot
  pub one_refusal : (rule other : ParseRule) (spot at : Spot) → HasNoTree lexed rule spot → HasNoTree lexed other at → (other ≡ rule) × (at ≡ spot)
  one_refusal G1 G1 spot at r s = (refl, s.1.2 ∙ (ap (place_spot lexed.end lexed.tokens) (one_fault s.1.0 r.1.0 s.1.1 r.1.1) ∙ sym r.1.2))
  one_refusal G1 G2 spot at r s = absurd (heavy_not_light s.1 r.0)
  one_refusal G2 G1 spot at r s = absurd (heavy_not_light r.1 s.0)
  one_refusal G2 G2 spot at r s = (refl, s.2 ∙ (ap (place_spot lexed.end lexed.tokens) (one_heavy s.0 r.0 s.1 r.1) ∙ sym r.2))
