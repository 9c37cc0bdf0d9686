-- A format is read from its front byte by byte.
use Rattle.std.proofs.Common.{ℕ, ◌≡◌, List, [], ◌∷◌, ◌++◌, refl, sym, ap, ◌∙◌, append_assoc, append-nil}
use Rattle.oc_values.specs.declared.integers.IntKind.{IntKind}
use Rattle.oc_typed.specs.declared.typed.PrintPiece.{PrintPiece}
use Rattle.oc_typed.specs.declared.typed.PrintPiece.TheVariants as piece
use Rattle.type_rules.specs.Prints.{Format, byte_before, with_byte, with_piece}
use Rattle.std.proofs.Common.{◌+◌, ◌<◌, ◌≤◌, length, get_or, drop, Result, Ok, Err, IfOk}
use Rattle.std.proofs.lemmas.List.{drop_all, nil_from_length}
use Rattle.std.specs.Prelude.{Bool, Option, Some, None}
use Rattle.oc_values.specs.declared.lists.NoMemory.{NoMemory}
use Rattle.written_types.proofs.EachItem.{at_item}
use Rattle.type_rules.specs.Prints.{format_of}
use Rattle.call_steps.specs.declared.formats.Reading.TheVariants as reading
use Rattle.call_steps.specs.declared.formats.Reading.{Reading}
use Rattle.call_steps.specs.declared.formats.Reader.{Reader}
use Rattle.call_steps.specs.declared.formats.Turn.{Turn}
use Rattle.call_steps.specs.declared.formats.Format.{Format as CodeFormat}
use Rattle.call_steps.specs.Printed.{format_seen}
use Rattle.call_steps.specs.Formats.{bytes_before, read_before, piece_of, read_with, format_from, turned, may_end}

-- a byte after text
text_more : (bs : List ℕ) (b : ℕ) (ps : List PrintPiece) → bytes_before (bs ++ b ∷ []) ps ≡ bytes_before bs (byte_before b ps)
text_more [] b ps = refl
text_more (c ∷ bs) b ps = ap (λ qs. byte_before c qs) (text_more bs b ps)

pub more_text : (done : List PrintPiece) (bs : List ℕ) (b : ℕ) (f : Format) → read_before done (bs ++ b ∷ []) f ≡ read_before done bs (with_byte b f)
more_text done bs b f = ap (λ qs. record { pieces = done ++ qs; good = f.good }) (text_more bs b f.pieces)

-- text is one piece
pub one_text : (b : ℕ) (bs : List ℕ) → bytes_before (b ∷ bs) [] ≡ piece.Text (b ∷ bs) ∷ []
one_text b [] = refl
one_text b (c ∷ bs) = ap (λ qs. byte_before b qs) (one_text c bs)

-- text before a conversion
text_stops : (bs : List ℕ) (k : Option IntKind) (ps : List PrintPiece) → bytes_before bs (piece_of k ∷ ps) ≡ bytes_before bs [] ++ piece_of k ∷ ps
text_stops [] k ps = refl
text_stops (b ∷ []) (Some k) ps = refl
text_stops (b ∷ []) None ps = refl
text_stops (b ∷ c ∷ bs) k ps =
    ap (λ qs. byte_before b qs) (text_stops (c ∷ bs) k ps ∙ ap (λ qs. qs ++ piece_of k ∷ ps) (one_text c bs))
    ∙ sym (ap (λ qs. qs ++ piece_of k ∷ ps) (one_text b (c ∷ bs)))

pub more_piece : (done new : List PrintPiece) (bs : List ℕ) (k : Option IntKind) (f : Format) → new ≡ (done ++ bytes_before bs []) ++ piece_of k ∷ [] → read_before new [] f ≡ read_before done bs (with_piece (piece_of k) f)
more_piece done new bs k f e =
    ap (λ qs. record { pieces = qs; good = f.good })
    (ap (λ qs. qs ++ f.pieces) e ∙ append_assoc (done ++ bytes_before bs []) (piece_of k ∷ []) f.pieces
    ∙ append_assoc done (bytes_before bs []) (piece_of k ∷ f.pieces) ∙ sym (ap (λ qs. done ++ qs) (text_stops bs k f.pieces)))

pub ended_piece : (done new mid : List PrintPiece) (bs read left : List ℕ) (k : Option IntKind) (p : PrintPiece) (f : Format) → new ≡ mid ++ p ∷ [] → p ≡ piece_of k → mid ≡ done ++ bytes_before read [] → read ≡ bs → left ≡ [] → read_before new left f ≡ read_before done bs (with_piece (piece_of k) f)
ended_piece done new mid bs read left k p f e g h i j =
    ap (λ t. read_before new t f) j
    ∙ more_piece done new bs k f (e ∙ ap (λ q. mid ++ q ∷ []) g ∙ ap (λ ps. ps ++ piece_of k ∷ []) (h ∙ ap (λ t. done ++ bytes_before t []) i))

pub no_text : (done : List PrintPiece) (t : List ℕ) (n : ℕ) → n ≡ length t → n ≡ 0 → done ≡ done ++ bytes_before t []
no_text done t n e h = sym (ap (λ t. done ++ bytes_before t []) (nil_from_length t (sym e ∙ h)) ∙ append-nil done)

pub some_text : (t : List ℕ) (n : ℕ) → n ≡ length t → (n ≡ 0 → ⊥) → bytes_before t [] ≡ piece.Text t ∷ []
some_text [] n e h = absurd (h e)
some_text (b ∷ t) n e h = one_text b t

-- the end
ended_so : (done : List PrintPiece) (bs : List ℕ) (r : Reading) → ◌≡◌ {A = Format} (record { pieces = done ++ bytes_before bs []; good = may_end r }) (read_before done bs (format_from r []))
ended_so done bs reading.Outside = refl
ended_so done bs reading.Percent = refl
ended_so done bs reading.Long = refl
ended_so done bs reading.LongLong = refl
ended_so done bs reading.Broken = refl

pub finished : (r : Reader) (ps : List PrintPiece) (good : Bool) → ps ≡ r.pieces ++ bytes_before r.text.items [] → good ≡ may_end r.reading → ◌≡◌ {A = Format} (record { pieces = ps; good = good }) (read_with r [])
finished r ps good e h = ap (λ ps. record { pieces = ps; good = good }) e ∙ ap (λ g. record { pieces = r.pieces ++ bytes_before r.text.items []; good = g }) h ∙ ended_so r.pieces r.text.items r.reading

-- a byte more
pub reads_on : (t : Turn) (r : Reader) (b : ℕ) (x : Result Reader NoMemory) → IfOk x (λ s. (bs : List ℕ) → read_with s bs ≡ read_before r.pieces r.text.items (turned t b bs)) → ((bs : List ℕ) → format_from r.reading (b ∷ bs) ≡ turned t b bs) → IfOk x (λ s. (bs : List ℕ) → read_with s bs ≡ read_with r (b ∷ bs))
reads_on t r b (Ok s) h e = λ bs. h bs ∙ sym (ap (λ f. read_before r.pieces r.text.items f) (e bs))
reads_on t r b (Err f) h e = h

pub goes_on : (text : List ℕ) (i b : ℕ) (old new : Reader) → b ≡ get_or text i b → i < length text → ((bs : List ℕ) → read_with new bs ≡ read_with old (b ∷ bs)) → read_with old (drop i text) ≡ format_from reading.Outside text → read_with new (drop (i + 1) text) ≡ format_from reading.Outside text
goes_on text i b old new e l h inv = h (drop (i + 1) text) ∙ ap (λ bs. read_with old bs) (sym (at_item text i b e l)) ∙ inv

pub ends : (text : List ℕ) (i : ℕ) (r : Reader) (x : Result CodeFormat NoMemory) → length text ≤ i → IfOk x (λ f. format_seen f ≡ read_with r []) → read_with r (drop i text) ≡ format_from reading.Outside text → IfOk x (λ f. format_seen f ≡ format_of (Some text))
ends text i r (Ok f) l h inv = h ∙ sym (ap (λ bs. read_with r bs) (drop_all i text l)) ∙ inv
ends text i r (Err f) l h inv = h
