-- What one change of the classes leaves. Assumes nothing.
use Rattle.std.specs.Prelude.{◌≡◌, ℕ, ◌+◌, ◌%◌, ◌^◌, ◌<◌, ◌≤◌, ◌≢◌, bit_or}
use Rattle.theory.specs.Updates.{sent}
use Rattle.classes.specs.declared.forest.Classes.{Classes}
use Rattle.classes.specs.Views.{count_of, links_of, label_of, shape_of, set_of, size_of, lower_of, upper_of, old_shape_of, old_set_of}
use Rattle.classes.specs.Rewinding.{SameEntries, Since, Same}

-- one cell more, a class by itself
pub record Added (shape set : ℕ) (was now : Classes) : Type 0 where
  pub count : count_of now ≡ count_of was + 1
  pub links : links_of now ≡ links_of was
  pub labels : (i : ℕ) → label_of now i ≡ label_of was i
  pub shape_new : shape_of now (count_of was) ≡ shape
  pub set_new : set_of now (count_of was) ≡ set
  pub size_new : size_of now (count_of was) ≡ 1
  pub shapes : (i : ℕ) → (i ≢ count_of was) → shape_of now i ≡ shape_of was i
  pub sets : (i : ℕ) → (i ≢ count_of was) → set_of now i ≡ set_of was i
  pub sizes : (i : ℕ) → (i ≢ count_of was) → size_of now i ≡ size_of was i
  pub entries : SameEntries (links_of was) was now

-- The class x goes under the class y, which gets the shape.
pub record Linked (x y shape : ℕ) (was now : Classes) : Type 0 where
  pub count : count_of now ≡ count_of was
  pub links : links_of now ≡ links_of was + 1
  pub labels : (i : ℕ) → label_of now i ≡ sent x y (label_of was i)
  pub shape_new : shape_of now y ≡ shape
  pub set_new : set_of now y ≡ bit_or (set_of was y) (set_of was x)
  -- a size is kept in 16 bits
  pub size_new : size_of now y ≡ (size_of was y + size_of was x) % 2 ^ 16
  pub shapes : (i : ℕ) → (i ≢ y) → shape_of now i ≡ shape_of was i
  pub sets : (i : ℕ) → (i ≢ y) → set_of now i ≡ set_of was i
  pub sizes : (i : ℕ) → (i ≢ y) → size_of now i ≡ size_of was i
  pub entries : SameEntries (links_of was) was now
  pub lower_new : lower_of now (links_of was) ≡ x
  pub upper_new : upper_of now (links_of was) ≡ y
  pub old_shape_new : old_shape_of now (links_of was) ≡ shape_of was y
  pub old_set_new : old_set_of now (links_of was) ≡ set_of was y
  -- a class that has gone under another keeps its shape and set
  pub lower_shapes : (k : ℕ) → k < links_of now → shape_of now (lower_of now k) ≡ shape_of was (lower_of now k)
  pub lower_sets : (k : ℕ) → k < links_of now → set_of now (lower_of now k) ≡ set_of was (lower_of now k)
  pub since : (first : Classes) (mark : ℕ) → Since mark first was → Since mark first now

-- The class that another went under by the k-th link gets the shape.
pub record Reshaped (k shape : ℕ) (was now : Classes) : Type 0 where
  pub count : count_of now ≡ count_of was
  pub links : links_of now ≡ links_of was
  pub labels : (i : ℕ) → label_of now i ≡ label_of was i
  pub shape_new : shape_of now (upper_of was k) ≡ shape
  pub shapes : (i : ℕ) → (i ≢ upper_of was k) → shape_of now i ≡ shape_of was i
  pub sets : (i : ℕ) → set_of now i ≡ set_of was i
  pub sizes : (i : ℕ) → size_of now i ≡ size_of was i
  pub entries : SameEntries (links_of was) was now
  pub since : (first : Classes) (mark : ℕ) → mark ≤ k → Since mark first was → Since mark first now

-- The links from the last back to the mark are undone.
pub record Rewound (mark : ℕ) (was now : Classes) : Type 0 where
  pub count : count_of now ≡ count_of was
  pub links : links_of now ≡ mark
  pub entries : SameEntries mark was now
  -- the mark gives back what was held there, and older marks stay
  pub back : (first : Classes) → Since mark first was → Same first now
  pub since : (first : Classes) (older : ℕ) → older ≤ mark → Since older first was → Since older first now
