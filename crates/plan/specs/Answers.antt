-- What the reader of a plan answers. Assumes nothing.
use Rattle.std.specs.Prelude.{◌≡◌, ℕ, ◌<◌, ◌≤◌, List, [], ◌∷◌, ◌++◌, length, take, Some, None, Ok, Err, Option, Result}
use Rattle.theory.specs.Meaning.{Meaning}
use Rattle.plan.specs.declared.item.Item as code
use Rattle.plan.specs.declared.refusal.PlanFault.{PlanFault}
use Rattle.plan.specs.Items.{Item, item_of, all_written}
use Rattle.plan.specs.Reading.{Reading, item, refused, ended, Stands, Read}

-- the reading that an answer is
abbrev pub reading_of : Result (Option code.Item) PlanFault → Reading
reading_of (Ok None) = ended
reading_of (Ok (Some i)) = item (item_of i)
reading_of (Err f) = refused f.refusal

-- a refusal names the position
abbrev pub Names : Result (Option code.Item) PlanFault → ℕ → Type 0
Names (Ok o) position = Unit {0}
Names (Err f) position = f.position ≡ position

-- the items with the one that was read, if one was
abbrev pub and_item : List Item → Reading → List Item
and_item items (item i) = items ++ i ∷ []
and_item items (refused r) = items
and_item items ended = items

-- at the end the items give back the whole plan
abbrev pub Whole : List ℕ → List Item → Reading → Type 0
Whole words items (item i) = Unit {0}
Whole words items (refused r) = Unit {0}
Whole words items ended = all_written items ≡ words

-- With all items read so far, the next one is read on from them, and all written out give back exactly the words read.
pub record GoesOn (m : Meaning) (words : List ℕ) (items : List Item) (reading : Reading) (next : ℕ) : Type 0 where
  pub read : Read m words (and_item items reading) next
  pub gives_back : all_written (and_item items reading) ≡ take next words
  pub whole : Whole words items reading

-- What stands at the position is answered, and nothing else stands there.
pub record HandsOut (m : Meaning) (words : List ℕ) (position : ℕ) (answer : Result (Option code.Item) PlanFault) (next : ℕ) : Type 0 where
  pub stands : Stands m words position (reading_of answer) next
  pub names : Names answer position
  pub only : (other : Reading) (after : ℕ) → Stands m words position other after → (other ≡ reading_of answer) × (after ≡ next)
  pub goes_on : (items : List Item) → Read m words items position → GoesOn m words items (reading_of answer) next

-- an item takes the reader onward, and not past the plan
abbrev pub TakesOnward : List ℕ → (position : ℕ) → Result (Option code.Item) PlanFault → (next : ℕ) → Type 0
TakesOnward words position (Ok (Some i)) next = (position < next) × (next ≤ length words)
TakesOnward words position (Ok None) next = Unit {0}
TakesOnward words position (Err f) next = Unit {0}
