-- What undoing the links made since a mark gives back. Assumes nothing.
use Rattle.std.specs.Prelude.{◌≡◌, ℕ, zero, suc, ◌+◌, ◌<◌, List, slice_set}
use Rattle.classes.specs.declared.forest.Classes.{Classes}
use Rattle.classes.specs.Views.{count_of, links_of, label_of, shape_of, set_of, size_of, entry_of, lower_of, upper_of, old_class_of}

-- a list with the old values put back, from the last of `links` entries since the mark down to the first
unfoldable pub restored : {A : Type 0} (at : ℕ → ℕ) (old : ℕ → A) (mark links : ℕ) → List A → List A
restored at old mark zero values = values
restored at old mark (suc j) values = restored at old mark j (slice_set values (at (mark + j)) (old (mark + j)))

-- the first `links` entries of the trail are the same, and so are the classes that others went under by them
pub record SameEntries (links : ℕ) (was now : Classes) : Type 0 where
  pub entries : (k : ℕ) → k < links → entry_of now k ≡ entry_of was k
  pub uppers : (k : ℕ) → k < links → upper_of now k ≡ upper_of was k

-- the links that `now` has since the mark, and what is held once they are undone
pub record Undoes (mark : ℕ) (was now : Classes) : Type 0 where
  pub since : ℕ
  pub more : mark + since ≡ links_of now
  pub at_mark : links_of was ≡ mark
  pub count : count_of now ≡ count_of was
  pub parents : restored (lower_of now) (lower_of now) mark since now.parents ≡ was.parents
  pub classes : restored (upper_of now) (old_class_of now) mark since now.classes ≡ was.classes
  pub entries : SameEntries mark was now

-- Undoing the links of `now` back to the mark gives what `was` holds.
unfoldable pub Since : (mark : ℕ) (was now : Classes) → Type 0
Since mark was now = Undoes mark was now

-- both hold the same cells, labels, shapes, sets, sizes and links
pub record Same (was now : Classes) : Type 0 where
  pub count : count_of now ≡ count_of was
  pub links : links_of now ≡ links_of was
  pub labels : (i : ℕ) → label_of now i ≡ label_of was i
  pub shapes : (i : ℕ) → shape_of now i ≡ shape_of was i
  pub sets : (i : ℕ) → set_of now i ≡ set_of was i
  pub sizes : (i : ℕ) → size_of now i ≡ size_of was i
  pub entries : SameEntries (links_of was) was now

-- The last link of `was` is undone: its lower class stands by itself, and its upper class has again what it had before.
pub record Undone (was now : Classes) : Type 0 where
  pub count : count_of now ≡ count_of was
  pub links : links_of now + 1 ≡ links_of was
  pub parents : now.parents ≡ slice_set was.parents (lower_of was (links_of now)) (lower_of was (links_of now))
  pub classes : now.classes ≡ slice_set was.classes (upper_of was (links_of now)) (old_class_of was (links_of now))
  pub entries : SameEntries (links_of now) was now
