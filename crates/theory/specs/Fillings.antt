-- Fillings: types for the unknowns of written words, and the row of types that the words then are. Assumes nothing.
use Rattle.std.specs.Prelude.{◌≡◌, ℕ, ◌<◌, true, List, [], ◌∷◌}
use Rattle.theory.specs.Meaning.{Meaning, Admits}
use Rattle.theory.specs.Types.{Tree, Trees, end, and, count, top, before, build, IsType}
use Rattle.theory.specs.Listings.{symbol_word, unknown_word}

-- A filling has a type for each number of an unknown. With it the words are this row of types, where each class of a word's unknown
-- admits the type of its number.
pub data Fills (m : Meaning) (filling : ℕ → Tree) : (words : List ℕ) (row : Trees) → Type 0 where
  no_words : Fills m filling [] end
  -- the word of an unknown is the type of its number
  unknown_filled : {w : ℕ} {ws : List ℕ} {ts : Trees} (n set : ℕ) → w ≡ unknown_word n set → n < 65536 → set < 256 →
      IsType m (filling n) → Admits m set (top (filling n)) → Fills m filling ws ts → Fills m filling (w ∷ ws) (and (filling n) ts)
  -- the word of a symbol, before as many types as it has places, is what its code makes of them
  symbol_filled : {w : ℕ} {ws : List ℕ} {ts : Trees} (c : ℕ) (args : Trees) → w ≡ symbol_word c → m.known c ≡ true → count args ≡ m.places c →
      Fills m filling ws (before args ts) → Fills m filling (w ∷ ws) (and (build m c args) ts)
