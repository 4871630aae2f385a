-- The trail by its entries. Assumes nothing.
use Rattle.std.specs.Prelude.{ℕ, List}
use Rattle.std.specs.List.{slice_index_or}
use Rattle.classes.specs.declared.forest.Class.{Class}
use Rattle.classes.specs.declared.forest.Entry.{Entry}

-- what stands for a class where there is none
abbrev pub no_class : Class
no_class = record { size = 0; shape = 0; set = 0 }

-- and for an entry
abbrev pub no_entry : Entry
no_entry = record { lower = 0; was = no_class }

-- the class that went under another by the k-th link
unfoldable pub lower_in : (trail : List Entry) → ℕ → ℕ
lower_in trail k = (slice_index_or trail k no_entry).lower
