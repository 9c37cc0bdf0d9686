-- A file that is read up to a line.
use Rattle.std.proofs.Common.{ℕ, ◌+◌, ◌≡◌, ◌≤◌, ◌<◌, ℤ, List, [], ◌∷◌, ◌++◌, length, refl, sym, ap, ◌∙◌, subst, arith, append-nil, append_assoc, length-append}
use Rattle.std.specs.Prelude.{◌⊎◌}
use Rattle.input_words.specs.Words.{IsWord}
use Rattle.input_words.specs.Lines.{lines_of, Spell}
use Rattle.input_words.specs.Telling.{AreItsWords, IsWrongAt}
use Rattle.input_words.proofs.LineForm.{spell_length, spell_push, are_words, is_wrong}

-- the lines before the rest of a file spell the words that were read
pub record Going (bytes rest : List ℕ) (words : List ℤ) : Type 0 where
  pub read : List (List ℕ)
  pub lines : lines_of bytes ≡ read ++ lines_of rest
  pub spelled : Spell read words
  pub few : length words ≤ 65536

pub started : (bytes : List ℕ) (words : List ℤ) → words ≡ [] → Going bytes bytes words
started bytes words e = subst (λ ws. Going bytes bytes ws) (sym e) (record { read = []; lines = refl; spelled = tt; few = omega arith })

pub read_more : (bytes rest line after : List ℕ) (words : List ℤ) (w : ℤ) → Going bytes rest words → lines_of rest ≡ line ∷ lines_of after → IsWord line w → length words < 65536 → Going bytes after (words ++ w ∷ [])
read_more bytes rest line after words w g e i h =
    let size = length-append words (w ∷ []) in
    record {
      read = g.read ++ line ∷ [];
      lines = g.lines ∙ ap (λ ls. g.read ++ ls) e ∙ sym (append_assoc g.read (line ∷ []) (lines_of after));
      spelled = spell_push g.read words line w g.spelled i;
      few = omega (arith, size, h);
    }

pub wrong_here : (bytes rest line after : List ℕ) (words : List ℤ) (number : ℕ) → Going bytes rest words → lines_of rest ≡ line ∷ lines_of after → number ≡ length words + 1 → (number ≡ 65537) ⊎ ((w : ℤ) → IsWord line w → ⊥) → IsWrongAt bytes number
wrong_here bytes rest line after words number g e n wrong =
    let size = spell_length g.read words g.spelled in
    is_wrong bytes number (record {
      before = g.read;
      line = line;
      after = lines_of after;
      lines = g.lines ∙ ap (λ ls. g.read ++ ls) e;
      place = omega (arith, size, n);
      words = words;
      spelled = g.spelled;
      few = omega (arith, size, g.few);
      wrong = wrong;
    })

pub read_all : (bytes rest : List ℕ) (words : List ℤ) → Going bytes rest words → rest ≡ [] → AreItsWords bytes words
read_all bytes rest words g e =
    let same : lines_of bytes ≡ g.read = g.lines ∙ ap (λ r. g.read ++ lines_of r) e ∙ append-nil g.read in
    are_words bytes words (record { spelled = subst (λ ls. Spell ls words) (sym same) g.spelled; few = g.few })
