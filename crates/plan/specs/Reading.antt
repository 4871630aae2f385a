-- Which item stands at a position of a plan, and where the next one begins. Assumes nothing.
use Rattle.std.specs.Prelude.{◌≡◌, ℕ, ◌+◌, ◌^◌, ◌<◌, false, List, [], ◌∷◌, ◌++◌, length, take, drop}
use Rattle.theory.specs.Meaning.{Meaning, SmallCodes}
use Rattle.plan.specs.declared.refusal.Refusal.{Refusal}
use Rattle.plan.specs.declared.refusal.Refusal.TheVariants.{NotAnItem, NoSuchCode, CutShort}
use Rattle.plan.specs.Items.{Item, first_word, written, all_written, Proper}

-- the most words that a plan may have
abbrev pub most_words : ℕ
most_words = 8192

-- the first words of items: an unknown's set has 8 bits and a term's code 24; all other bits are 0
pub data First (word : ℕ) : Type 0 where
  of_unknown : (set : ℕ) → set < 256 → word ≡ first_word 0x11 set → First word
  of_term : (code : ℕ) → code < 2 ^ 24 → word ≡ first_word 0x12 code → First word
  of_link : word ≡ first_word 0x13 0 → First word

-- what stands at a position: an item, a refusal, or the end of the plan
pub data Reading : Type 0 where
  item : Item → Reading
  refused : Refusal → Reading
  ended : Reading

-- What the words from a position on begin with. Of the refusals, 9 is for the first word, 3 for the code, 10 for the length.
pub data Begins (m : Meaning) : List ℕ → Reading → Type 0 where
  -- no words are left
  at_end : Begins m [] ended
  -- all the words of an item
  at_item : {words : List ℕ} {i : Item} (rest : List ℕ) → Proper m i → words ≡ written i ++ rest → Begins m words (item i)
  -- a word that no item begins with
  at_other : {word : ℕ} {rest : List ℕ} → (First word → ⊥) → Begins m (word ∷ rest) (refused NotAnItem)
  -- a term of a code that the alphabet does not know
  at_code : {word code : ℕ} {rest : List ℕ} → code < 2 ^ 24 → m.known code ≡ false → word ≡ first_word 0x12 code → Begins m (word ∷ rest) (refused (NoSuchCode code))
  -- the first words of an item, not all of them, and no more
  at_part : {word : ℕ} {words : List ℕ} (i : Item) (missing : ℕ) (others : List ℕ) → Proper m i → written i ≡ (word ∷ words) ++ (missing ∷ others) →
      Begins m (word ∷ words) (refused CutShort)

-- how many words are read
abbrev pub span : Reading → ℕ
span (item i) = length (written i)
span (refused r) = 0
span ended = 0

-- at the position stands the reading, and the next one begins at `next`
pub record Stands (m : Meaning) (words : List ℕ) (position : ℕ) (reading : Reading) (next : ℕ) : Type 0 where
  pub begins : Begins m (drop position words) reading
  pub onward : next ≡ position + span reading

-- every position has exactly one item, refusal or end, and one next position
abbrev pub OneReading : Type 0
OneReading = (m : Meaning) → SmallCodes m → (words : List ℕ) (position : ℕ) →
    (reading : Reading) × (next : ℕ) × Stands m words position reading next
    × ((other : Reading) (after : ℕ) → Stands m words position other after → (other ≡ reading) × (after ≡ next))

-- the items that stand one after another from the front to a position
pub data Read (m : Meaning) (words : List ℕ) : List Item → ℕ → Type 0 where
  none_read : Read m words [] 0
  read_on : {items : List Item} {position next : ℕ} {i : Item} → Read m words items position → Stands m words position (item i) next → Read m words (items ++ i ∷ []) next

-- items written out one after another give back exactly the words that were read
abbrev pub GivesBack : Type 0
GivesBack = (m : Meaning) (words : List ℕ) (items : List Item) (position : ℕ) → Read m words items position → all_written items ≡ take position words
