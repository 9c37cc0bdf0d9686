-- The elements of a character or a text, and the bytes that are read of them.
use Rattle.std.proofs.Common.{◌≡◌, ℕ, suc, ◌+◌, Bool, true, false, cond, List, [], ◌∷◌, ◌++◌, length, get_or, map, Option, Some, None, refl, sym, ap, ◌∙◌, arith, inl, inr}
use Rattle.std.specs.Prelude.{◌&&◌, ◌⊎◌, nat_eq, option_map}
use Rattle.std.specs.List.{list_all}
use Rattle.std.proofs.lemmas.Bool.{and_parts, and_from, false≢true}
use Rattle.std.proofs.lemmas.Bool.Decides.{nat_tests, Decides-eqb}
use Rattle.oc_lexer.specs.Literals.{Element, Plain, Escape, element_text, element_value, elements_text, is_element, is_escape, escape_value, is_text_byte, is_character_byte}
use Rattle.oc_lexer.specs.Pieces.{SpellsCharacter}
use Rattle.oc_lexer.specs.Scanned.{character_at, element_at, onto, onto_escape, quoted}
use Rattle.oc_lexer.proofs.Quotes.{with_element, quoted_element, quoted_end}

eq_from : (a b : ℕ) → nat_eq a b ≡ true → a ≡ b
eq_from a b h = (Decides-eqb a b).0 h

eq_to : (a b : ℕ) → a ≡ b → nat_eq a b ≡ true
eq_to a b h = (Decides-eqb a b).1 h

escape_is_at : (o : Option ℕ) (v : ℕ) → is_escape o v ≡ true → o ≡ Some v
escape_is_at None v h = absurd (false≢true h)
escape_is_at (Some w) v h = ap (λ x. Some x) (eq_from w v h)

is_escape_of : (v : ℕ) (o : Option ℕ) → o ≡ Some v → is_escape o v ≡ true
is_escape_of v o e = ap (λ x. is_escape x v) e ∙ eq_to v v refl

escape_is : (letter v : ℕ) → is_escape (escape_value letter) v ≡ true → escape_value letter ≡ Some v
escape_is letter v h = escape_is_at (escape_value letter) v h

-- ---- characters

text_not_escape : (b : ℕ) → is_text_byte b ≡ true → nat_eq b 92 ≡ false
text_not_escape b h = grind (arith, nat_tests)

text_not_quote : (b : ℕ) → is_text_byte b ≡ true → nat_eq b 34 ≡ false
text_not_quote b h = grind (arith, nat_tests)

character_not_escape : (b : ℕ) → is_character_byte b ≡ true → nat_eq b 92 ≡ false
character_not_escape b h = grind (arith, nat_tests)

character_spelled_at : (v : ℕ) (e : Element) (text rest : List ℕ) → text ≡ 39 ∷ (element_text e ++ 39 ∷ []) → is_element is_character_byte e ≡ true → v ≡ element_value e → character_at (text ++ rest) ≡ Some (v, length text)
unfolding character_at
character_spelled_at v (Plain b) text rest whole fits value =
    ap (λ t. character_at (t ++ rest)) whole
    ∙ ap (λ x. cond (x && nat_eq (get_or rest 0 0) 39) (option_map (λ w. (w, 4)) (escape_value 39)) (cond (is_character_byte b && true) (Some (b, 3)) None)) (character_not_escape b fits)
    ∙ ap (λ x. cond (x && true) (Some (b, 3)) None) fits
    ∙ ap (λ w. Some (w, 3)) (sym value) ∙ ap (λ t. Some (v, length t)) (sym whole)
character_spelled_at v (Escape letter w) text rest whole fits value =
    ap (λ t. character_at (t ++ rest)) whole
    ∙ ap (option_map (λ w. (w, 4))) (escape_is letter w fits)
    ∙ ap (λ x. Some (x, 4)) (sym value) ∙ ap (λ t. Some (v, length t)) (sym whole)

-- what the bytes after the quote are where a character is read
abbrev Read : (v n b c d : ℕ) → Type 0
Read v n b c d = ((b ≡ 92) × (d ≡ 39) × (escape_value c ≡ Some v) × (n ≡ 4)) ⊎ ((is_character_byte b ≡ true) × (c ≡ 39) × (v ≡ b) × (n ≡ 3))

first : Option (ℕ × ℕ) → ℕ
first None = 0
first (Some p) = p.0

second : Option (ℕ × ℕ) → ℕ
second None = 0
second (Some p) = p.1

abbrev of_length : ℕ → Option ℕ → Option (ℕ × ℕ)
of_length n o = option_map (λ w. let p : ℕ × ℕ = (w, n) in p) o

escaped : (v n : ℕ) (o : Option ℕ) → of_length 4 o ≡ Some (v, n) → (o ≡ Some v) × (n ≡ 4)
unfolding first second
escaped v n None e = absurd cc
escaped v n (Some w) e = (ap (λ x. Some x) (ap first e), sym (ap second e))

read_at : (v n b c d : ℕ) (escape plain : Bool) → (nat_eq b 92 && nat_eq d 39) ≡ escape → (is_character_byte b && nat_eq c 39) ≡ plain → cond escape (of_length 4 (escape_value c)) (cond plain (Some (b, 3)) None) ≡ Some (v, n) → Read v n b c d
unfolding first second
read_at v n b c d true plain he hp e = let p = and_parts _ _ he in let q = escaped v n (escape_value c) e in inl (eq_from b 92 p.0, eq_from d 39 p.1, q.0, q.1)
read_at v n b c d false true he hp e = let p = and_parts _ _ hp in inr (p.0, eq_from c 39 p.1, sym (ap first e), sym (ap second e))
read_at v n b c d false false he hp e = absurd cc

read : (v n : ℕ) (xs : List ℕ) → character_at xs ≡ Some (v, n) → Read v n (get_or xs 1 0) (get_or xs 2 0) (get_or xs 3 0)
unfolding character_at
read v n xs e = read_at v n (get_or xs 1 0) (get_or xs 2 0) (get_or xs 3 0) (nat_eq (get_or xs 1 0) 92 && nat_eq (get_or xs 3 0) 39) (is_character_byte (get_or xs 1 0) && nat_eq (get_or xs 2 0) 39) refl refl e

-- a character at the front of a text
pub record Found (v n : ℕ) (xs : List ℕ) : Type 0 where
  pub text : List ℕ
  pub rest : List ℕ
  pub whole : xs ≡ text ++ rest
  pub size : n ≡ length text
  pub spelled : SpellsCharacter v text

absent : {A : Type 0} → ◌≡◌ {A = ℕ} 0 39 → A
absent h = absurd (omega arith)

found_escape : (v n a b c d : ℕ) (more : List ℕ) → a ≡ 39 → b ≡ 92 → d ≡ 39 → escape_value c ≡ Some v → n ≡ 4 → Found v n (a ∷ b ∷ c ∷ d ∷ more)
found_escape v n a b c d more ha hb hd he hn = record {
  text = 39 ∷ 92 ∷ c ∷ 39 ∷ [];
  rest = more;
  whole = cc;
  size = hn;
  spelled = record { element = Escape c v; whole = refl; fits = is_escape_of v (escape_value c) he; value = refl };
}

found_plain : (v n a b c : ℕ) (more : List ℕ) → a ≡ 39 → is_character_byte b ≡ true → c ≡ 39 → v ≡ b → n ≡ 3 → Found v n (a ∷ b ∷ c ∷ more)
found_plain v n a b c more ha hb hc hv hn = record {
  text = 39 ∷ b ∷ 39 ∷ [];
  rest = more;
  whole = cc;
  size = hn;
  spelled = record { element = Plain b; whole = refl; fits = hb; value = hv };
}

not_character : is_character_byte 0 ≡ true → ⊥
not_character h = false≢true h

found_of : (v n : ℕ) (xs : List ℕ) → get_or xs 0 0 ≡ 39 → Read v n (get_or xs 1 0) (get_or xs 2 0) (get_or xs 3 0) → Found v n xs
found_of v n [] first r = absent first
found_of v n (a ∷ []) first (inl r) = absent r.1
found_of v n (a ∷ []) first (inr r) = absent r.1
found_of v n (a ∷ b ∷ []) first (inl r) = absent r.1
found_of v n (a ∷ b ∷ []) first (inr r) = absent r.1
found_of v n (a ∷ b ∷ c ∷ []) first (inl r) = absent r.1
found_of v n (a ∷ b ∷ c ∷ []) first (inr r) = found_plain v n a b c [] first r.0 r.1 r.2 r.3
found_of v n (a ∷ b ∷ c ∷ d ∷ more) first (inl r) = found_escape v n a b c d more first r.0 r.1 r.2 r.3
found_of v n (a ∷ b ∷ c ∷ d ∷ more) first (inr r) = found_plain v n a b c (d ∷ more) first r.0 r.1 r.2 r.3

pub character_found : (v n : ℕ) (xs : List ℕ) → get_or xs 0 0 ≡ 39 → character_at xs ≡ Some (v, n) → Found v n xs
character_found v n xs first e = found_of v n xs first (read v n xs e)

pub character_spelled : (v : ℕ) (text rest : List ℕ) → SpellsCharacter v text → character_at (text ++ rest) ≡ Some (v, length text)
character_spelled v text rest s = character_spelled_at v s.element text rest s.whole s.fits s.value

-- ---- texts

plain_at : (b : ℕ) (more : List ℕ) → is_text_byte b ≡ true → element_at (b ∷ more) ≡ Some (b, 1)
unfolding element_at
plain_at b more h = ap (λ x. cond x (option_map (λ v. (v, 2)) (escape_value (get_or more 0 0))) (cond (is_text_byte b) (Some (b, 1)) None)) (text_not_escape b h) ∙ ap (λ x. cond x (Some (b, 1)) None) h

escape_at : (letter v : ℕ) (more : List ℕ) → is_escape (escape_value letter) v ≡ true → element_at (92 ∷ letter ∷ more) ≡ Some (v, 2)
unfolding element_at
escape_at letter v more h = ap (option_map (λ w. (w, 2))) (escape_is letter v h)

pub quoted_spelled : (es : List Element) (rest : List ℕ) → list_all (is_element is_text_byte) es ≡ true → quoted (elements_text es ++ 34 ∷ rest) ≡ Some (map element_value es, length (elements_text es) + 1)
quoted_spelled [] rest all = quoted_end (34 ∷ rest) refl
quoted_spelled (Plain b ∷ es) rest all =
    let p = and_parts (is_text_byte b) (list_all (is_element is_text_byte) es) all in
    quoted_element (b ∷ (elements_text es ++ 34 ∷ rest)) (text_not_quote b p.0)
    ∙ ap (with_element (b ∷ (elements_text es ++ 34 ∷ rest))) (plain_at b (elements_text es ++ 34 ∷ rest) p.0)
    ∙ ap (onto (b ∷ []) 1) (quoted_spelled es rest p.1)
    ∙ ap (λ n. Some (b ∷ map element_value es, n)) (let e : 1 + (length (elements_text es) + 1) ≡ suc (length (elements_text es)) + 1 = omega arith in e)
quoted_spelled (Escape letter v ∷ es) rest all =
    let p = and_parts (is_escape (escape_value letter) v) (list_all (is_element is_text_byte) es) all in
    quoted_element (92 ∷ letter ∷ (elements_text es ++ 34 ∷ rest)) refl
    ∙ ap (with_element (92 ∷ letter ∷ (elements_text es ++ 34 ∷ rest))) (escape_at letter v (elements_text es ++ 34 ∷ rest) p.0)
    ∙ ap (onto (v ∷ []) 2) (quoted_spelled es rest p.1)
    ∙ ap (λ n. Some (v ∷ map element_value es, n)) (let e : 2 + (length (elements_text es) + 1) ≡ suc (suc (length (elements_text es))) + 1 = omega arith in e)

-- what was read of a text, as its elements
pub record Quoted (bytes : List ℕ) (n : ℕ) (text : List ℕ) : Type 0 where
  pub elements : List Element
  pub rest : List ℕ
  pub whole : text ≡ elements_text elements ++ 34 ∷ rest
  pub fit : list_all (is_element is_text_byte) elements ≡ true
  pub value : bytes ≡ map element_value elements
  pub size : n ≡ length (elements_text elements) + 1

bytes_of : Option (List ℕ × ℕ) → List ℕ
bytes_of None = []
bytes_of (Some p) = p.0

size_of : Option (List ℕ × ℕ) → ℕ
size_of None = 0
size_of (Some p) = p.1

record Onto (v k n : ℕ) (bytes : List ℕ) (o : Option (List ℕ × ℕ)) : Type 0 where
  pub more : List ℕ
  pub m : ℕ
  pub was : o ≡ Some (more, m)
  pub bytes_is : bytes ≡ v ∷ more
  pub size_is : n ≡ k + m

onto_some : (v k n : ℕ) (bytes : List ℕ) (o : Option (List ℕ × ℕ)) → onto (v ∷ []) k o ≡ Some (bytes, n) → Onto v k n bytes o
unfolding bytes_of size_of
onto_some v k n bytes None e = absurd cc
onto_some v k n bytes (Some (more, m)) e = record { more = more; m = m; was = refl; bytes_is = sym (ap bytes_of e); size_is = sym (ap size_of e) }

quoted_plain : (b n : ℕ) (bytes rest : List ℕ) → is_text_byte b ≡ true → (o : Onto b 1 n bytes (quoted rest)) → Quoted o.more o.m rest → Quoted bytes n (b ∷ rest)
quoted_plain b n bytes rest h o q = record {
  elements = Plain b ∷ q.elements;
  rest = q.rest;
  whole = ap (λ t. b ∷ t) q.whole;
  fit = and_from _ _ h q.fit;
  value = o.bytes_is ∙ ap (λ t. b ∷ t) q.value;
  size = let e = q.size in let f = o.size_is in omega arith;
}

quoted_escape : (b c v n : ℕ) (bytes rest : List ℕ) → b ≡ 92 → escape_value c ≡ Some v → (o : Onto v 2 n bytes (quoted rest)) → Quoted o.more o.m rest → Quoted bytes n (b ∷ c ∷ rest)
quoted_escape b c v n bytes rest is h o q = record {
  elements = Escape c v ∷ q.elements;
  rest = q.rest;
  whole = ap (λ x. x ∷ c ∷ rest) is ∙ ap (λ t. 92 ∷ c ∷ t) q.whole;
  fit = and_from _ _ (is_escape_of v (escape_value c) h) q.fit;
  value = o.bytes_is ∙ ap (λ t. v ∷ t) q.value;
  size = let e = q.size in let f = o.size_is in omega arith;
}

abbrev closing : Option (List ℕ × ℕ)
closing = Some ([], 1)

quoted_close : (b n : ℕ) (bytes rest : List ℕ) → b ≡ 34 → closing ≡ Some (bytes, n) → Quoted bytes n (b ∷ rest)
unfolding bytes_of size_of
quoted_close b n bytes rest is e = record {
  elements = [];
  rest = rest;
  whole = ap (λ x. x ∷ rest) is;
  fit = refl;
  value = sym (ap bytes_of e);
  size = sym (ap size_of e);
}

quoted_escaped : (b c n : ℕ) (bytes more : List ℕ) (o : Option ℕ) → escape_value c ≡ o → b ≡ 92 → onto_escape o (quoted more) ≡ Some (bytes, n) → ((bs : List ℕ) (m : ℕ) → quoted more ≡ Some (bs, m) → Quoted bs m more) → Quoted bytes n (b ∷ c ∷ more)
quoted_escaped b c n bytes more None h is e on = absurd cc
quoted_escaped b c n bytes more (Some v) h is e on = let o = onto_some v 2 n bytes (quoted more) e in quoted_escape b c v n bytes more is h o (on o.more o.m o.was)

quoted_at : (b c n : ℕ) (bytes more : List ℕ) (q e t : Bool) → nat_eq b 34 ≡ q → nat_eq b 92 ≡ e → is_text_byte b ≡ t
    → cond q closing (cond e (onto_escape (escape_value c) (quoted more)) (cond t (onto (b ∷ []) 1 (quoted (c ∷ more))) None)) ≡ Some (bytes, n)
    → ((bs : List ℕ) (m : ℕ) → quoted more ≡ Some (bs, m) → Quoted bs m more) → ((bs : List ℕ) (m : ℕ) → quoted (c ∷ more) ≡ Some (bs, m) → Quoted bs m (c ∷ more)) → Quoted bytes n (b ∷ c ∷ more)
quoted_at b c n bytes more true e t hq he ht is far near = quoted_close b n bytes (c ∷ more) (eq_from b 34 hq) is
quoted_at b c n bytes more false true t hq he ht is far near = quoted_escaped b c n bytes more (escape_value c) refl (eq_from b 92 he) is far
quoted_at b c n bytes more false false true hq he ht is far near = let o = onto_some b 1 n bytes (quoted (c ∷ more)) is in quoted_plain b n bytes (c ∷ more) ht o (near o.more o.m o.was)
quoted_at b c n bytes more false false false hq he ht is far near = absurd cc

quoted_one : (b n : ℕ) (bytes : List ℕ) (q : Bool) → nat_eq b 34 ≡ q → cond q closing None ≡ Some (bytes, n) → Quoted bytes n (b ∷ [])
quoted_one b n bytes true h e = quoted_close b n bytes [] (eq_from b 34 h) e
quoted_one b n bytes false h e = absurd cc

pub quoted_found : (xs bytes : List ℕ) (n : ℕ) → quoted xs ≡ Some (bytes, n) → Quoted bytes n xs
unfolding quoted
quoted_found [] bytes n e = absurd cc
quoted_found (b ∷ []) bytes n e = quoted_one b n bytes (nat_eq b 34) refl e
quoted_found (b ∷ c ∷ more) bytes n e = quoted_at b c n bytes more (nat_eq b 34) (nat_eq b 92) (is_text_byte b) refl refl refl e (λ bs m h. quoted_found more bs m h) (λ bs m h. quoted_found (c ∷ more) bs m h)
