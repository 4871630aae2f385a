-- What clients know of the classes: labels, shapes, sets and the links made. Assumes nothing.
use Rattle.std.specs.Prelude.{ℕ, slice_index}
use Rattle.std.specs.List.{slice_index_or}
use Rattle.classes.specs.declared.forest.Class.{Class}
use Rattle.classes.specs.declared.forest.Entry.{Entry}
use Rattle.classes.specs.declared.forest.Classes.{Classes}
use Rattle.classes.specs.Forests.{label_in}
use Rattle.classes.specs.Trails.{no_class, no_entry}

-- how many cells there are
abbrev pub count_of : Classes → ℕ
count_of c = c.count

-- how many links were made and not undone
abbrev pub links_of : Classes → ℕ
links_of c = c.links

-- the representative of a cell's class; a number that is not a cell is its own
unfoldable pub label_of : Classes → ℕ → ℕ
label_of c i = label_in (slice_index c.parents) c.count i

-- what the class has, by its representative
unfoldable pub class_of : Classes → ℕ → Class
class_of c i = slice_index_or c.classes i no_class

-- the number that the caller gave the class
abbrev pub shape_of : Classes → ℕ → ℕ
shape_of c i = (class_of c i).shape

-- the union of the sets of the class's cells
abbrev pub set_of : Classes → ℕ → ℕ
set_of c i = (class_of c i).set

-- how many cells the class has
abbrev pub size_of : Classes → ℕ → ℕ
size_of c i = (class_of c i).size

-- the entry of the k-th link
unfoldable pub entry_of : Classes → ℕ → Entry
entry_of c k = slice_index_or c.trail k no_entry

-- the class that went under another by the k-th link
abbrev pub lower_of : Classes → ℕ → ℕ
lower_of c k = (entry_of c k).lower

-- the class that it went under
unfoldable pub upper_of : Classes → ℕ → ℕ
upper_of c k = slice_index c.parents (lower_of c k)

-- what this class had before
abbrev pub old_class_of : Classes → ℕ → Class
old_class_of c k = (entry_of c k).was

-- its shape then
abbrev pub old_shape_of : Classes → ℕ → ℕ
old_shape_of c k = (old_class_of c k).shape

-- its set then
abbrev pub old_set_of : Classes → ℕ → ℕ
old_set_of c k = (old_class_of c k).set
