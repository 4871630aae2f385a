-- What the parts of the reader answer. Assumes nothing.
use Rattle.std.specs.Prelude.{◌≡◌, ℕ, ◌^◌, ◌<◌, List, length, Ok, Err, Result, slice_index}
use Rattle.theory.specs.Meaning.{Meaning}
use Rattle.plan.specs.declared.head.Head.{Head}
use Rattle.plan.specs.declared.head.Head.TheVariants as head
use Rattle.plan.specs.declared.item.Item as code
use Rattle.plan.specs.declared.refusal.Refusal.{Refusal}
use Rattle.plan.specs.declared.refusal.Refusal.TheVariants.{NotAnItem}
use Rattle.plan.specs.Items.{first_word, item_of}
use Rattle.plan.specs.Reading.{First, Begins, item, refused}

-- what the word is the first word of, or that no item begins with it
abbrev pub Sees : ℕ → Result Head Refusal → Type 0
Sees word (Ok (head.Unknown set)) = (set < 256) × (word ≡ first_word 0x11 set)
Sees word (Ok (head.Term code)) = (code < 2 ^ 24) × (word ≡ first_word 0x12 code)
Sees word (Ok head.Link) = word ≡ first_word 0x13 0
Sees word (Err refusal) = (First word → ⊥) × (refusal ≡ NotAnItem)

-- the first of the words
abbrev pub Headed : ℕ → List ℕ → Type 0
Headed word words = (0 < length words) × (slice_index words 0 ≡ word)

-- what the words begin with
abbrev pub Finds : Meaning → List ℕ → Result code.Item Refusal → Type 0
Finds m words (Ok i) = Begins m words (item (item_of i))
Finds m words (Err r) = Begins m words (refused r)
