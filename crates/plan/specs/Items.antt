-- The items of a plan, and the words that each is written in. Assumes nothing.
use Rattle.std.specs.Prelude.{◌≡◌, ℕ, ◌+◌, ◌*◌, ◌^◌, ◌<◌, true, List, [], ◌∷◌, length}
use Rattle.std.specs.List.{flat_map}
use Rattle.theory.specs.Meaning.{Meaning}
use Rattle.plan.specs.declared.item.Item as code
use Rattle.plan.specs.declared.item.Item.TheVariants as answer

-- An item of a plan: an unknown with its set, a term with its code and the cells at its places, a link with its two cells.
-- A cell is an entry of a workspace that stands for a type, and goes by its number.
pub data Item : Type 0 where
  unknown : (set : ℕ) → Item
  term : (code : ℕ) → (cells : List ℕ) → Item
  link : (left right : ℕ) → Item

-- the item that an answer of the reader is
abbrev pub item_of : code.Item → Item
item_of (answer.Unknown set) = unknown set
item_of (answer.Term c places) = term c places.now
item_of (answer.Link left right) = link left right

-- the kind of an item, the top 8 bits of its first word
abbrev pub kind : Item → ℕ
kind (unknown set) = 0x11
kind (term c cells) = 0x12
kind (link left right) = 0x13

-- what the low 24 bits of its first word hold
abbrev pub low : Item → ℕ
low (unknown set) = set
low (term c cells) = c
low (link left right) = 0

-- the words that follow the first
abbrev pub following : Item → List ℕ
following (unknown set) = []
following (term c cells) = cells
following (link left right) = left ∷ right ∷ []

-- the first word of an item
abbrev pub first_word : ℕ → ℕ → ℕ
first_word kind low = kind * 2 ^ 24 + low

-- the words of an item
abbrev pub written : Item → List ℕ
written i = first_word (kind i) (low i) ∷ following i

-- the words of items, one after another
abbrev pub all_written : List Item → List ℕ
all_written items = flat_map written items

-- an unknown and a term each make a cell
abbrev pub cells_made : Item → ℕ
cells_made (unknown set) = 1
cells_made (term c cells) = 1
cells_made (link left right) = 0

-- how many cells items make
abbrev pub cells_of : List Item → ℕ
cells_of [] = 0
cells_of (i ∷ is) = cells_made i + cells_of is

-- an item that a plan may hold: a set has 8 bits, a code is known to the alphabet and has its places
abbrev pub Proper : Meaning → Item → Type 0
Proper m (unknown set) = set < 256
Proper m (term c cells) = (m.known c ≡ true) × (length cells ≡ m.places c)
Proper m (link left right) = Unit {0}
