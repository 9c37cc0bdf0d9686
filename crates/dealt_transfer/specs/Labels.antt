-- Labels that are made of a ChaCha20 stream: four words of the stream 0 of a key make a label.
use Rattle.std.specs.Prelude.{ℕ, ◌+◌, ◌*◌, ◌%◌, ◌^◌, List}
use Rattle.rand_chacha.specs.ChaCha.{word_at}

-- the word of the stream at a place, where the key is given by its eight words; places count modulo 2^68
unfoldable pub word : List ℕ → ℕ → ℕ
word key place = word_at 10 key 0 (place % 2 ^ 68)

-- the label of four words, the lowest first
abbrev pub label_at : List ℕ → ℕ → ℕ
label_at key place =
    word key place + 2 ^ 32 * word key (place + 1) + 2 ^ 64 * word key (place + 2) + 2 ^ 96 * word key (place + 3)

-- the label i of a coin key: that of the words from 4i on
abbrev pub coin_label : List ℕ → ℕ → ℕ
coin_label key i = label_at key (4 * i)

-- the labels of a coin key as contracts see them: the key's eight words, and which label is next, modulo 2^66
pub record CoinStream : Type 0 where
  pub key : List ℕ
  pub next : ℕ
