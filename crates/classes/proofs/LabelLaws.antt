-- Labels are representatives, and the links are of cells: laws for the methods, and for callers. Assumes nothing.
use Rattle.std.proofs.Common.{◌≡◌, ℕ, ◌<◌, ◌≤◌, ◌⊎◌, slice_index, sym, ◌∙◌, arith}
use Rattle.std.proofs.lemmas.Bool.Decides.{nat_tests}
use Rattle.classes.specs.declared.forest.Classes.{Classes}
use Rattle.classes.specs.Forests.{Forest, next_in, follow, label_in, time_in}
use Rattle.classes.specs.Trails.{lower_in}
use Rattle.classes.specs.Views.{count_of, links_of, label_of, entry_of, lower_of, upper_of}
use Rattle.classes.proofs.Times.{time_bounded}
use Rattle.classes.proofs.Ways.{follow_last, follow_within, follow_ends, next_cell, next_beyond, label_own}
use Rattle.classes.proofs.ForestsChange.{links_fewer, links_most}

-- every way up ends
module _ {parent lower : ℕ → ℕ} {count links : ℕ} (f : Forest parent lower count links) where
  pub times_bounded : (i : ℕ) → time_in lower links i ≤ 2048
  times_bounded i = time_bounded lower links i (grind (arith, links_most f, f.few))

  next_rises : (i : ℕ) → (next_in parent count i ≡ i) ⊎ (time_in lower links i < time_in lower links (next_in parent count i))
  unfolding next_in
  next_rises i = grind (arith, nat_tests, f.rising i)

  pub way_ends : (i : ℕ) → next_in parent count (label_in parent count i) ≡ label_in parent count i
  unfolding label_in
  way_ends i = follow_ends (next_in parent count) (time_in lower links) 2048 times_bounded next_rises 2048 i (omega arith)

  -- a cell and its parent have one label
  pub label_next : (i : ℕ) → label_in parent count (next_in parent count i) ≡ label_in parent count i
  unfolding label_in follow
  label_next i = follow_last (next_in parent count) 2048 i ∙ way_ends i

-- a label is the label of its class
pub label_idempotent : (c : Classes) (i : ℕ) → label_of c (label_of c i) ≡ label_of c i
unfolding label_of
label_idempotent c i = label_own _ _ _ (way_ends c.forest i)

-- a number that is not a cell is its own label
pub label_beyond : (c : Classes) (i : ℕ) → count_of c ≤ i → label_of c i ≡ i
unfolding label_of
label_beyond c i h = label_own _ _ _ (next_beyond _ _ i h)

-- the label of a cell is a cell
pub label_within : (c : Classes) (i : ℕ) → i < count_of c → label_of c i < count_of c
unfolding label_of label_in
label_within c i h = follow_within _ _ (λ j l. grind (arith, next_cell (slice_index c.parents) c.count j, c.forest.inside j)) 2048 i h

-- a representative is its own parent
pub own_parent : (c : Classes) (i : ℕ) → i < count_of c → label_of c i ≡ i → slice_index c.parents i ≡ i
unfolding label_of
own_parent c i h e = grind (arith, way_ends c.forest i, next_cell (slice_index c.parents) c.count i)

pub own_label : (c : Classes) (i : ℕ) → i < count_of c → slice_index c.parents i ≡ i → label_of c i ≡ i
unfolding label_of
own_label c i h e = label_own _ _ _ (next_cell _ _ i h ∙ e)

-- a cell and its parent are of one class
pub parent_label : (c : Classes) (i : ℕ) → i < count_of c → label_of c (slice_index c.parents i) ≡ label_of c i
unfolding label_of
parent_label c i h = grind (arith, label_next c.forest i, next_cell (slice_index c.parents) c.count i)

-- a cell was linked before its parent was, and both before 2,048 links were made
pub time_rises : (c : Classes) (i : ℕ) → i < count_of c → (slice_index c.parents i ≡ i → ⊥)
    → (time_in (lower_in c.trail) c.links i < time_in (lower_in c.trail) c.links (slice_index c.parents i)) × (time_in (lower_in c.trail) c.links (slice_index c.parents i) ≤ 2048)
time_rises c i h n = (c.forest.rising i h n, times_bounded c.forest (slice_index c.parents i))

-- there are fewer links than cells, while there is a cell that is a representative
pub links_below_count : (c : Classes) (x : ℕ) → x < count_of c → label_of c x ≡ x → links_of c < count_of c
links_below_count c x h e = links_fewer c.forest x h (own_parent c x h e)

pub lower_within : (c : Classes) (k : ℕ) → k < links_of c → lower_of c k < count_of c
unfolding lower_in entry_of
lower_within c k h = c.forest.trail_inside k h

pub upper_within : (c : Classes) (k : ℕ) → k < links_of c → upper_of c k < count_of c
unfolding upper_of
upper_within c k h = c.forest.inside (lower_of c k) (lower_within c k h)

-- a class that has gone under another is no representative
pub lower_is_no_label : (c : Classes) (k : ℕ) → k < links_of c → label_of c (lower_of c k) ≡ lower_of c k → ⊥
unfolding lower_in entry_of
lower_is_no_label c k h e = c.forest.trail_linked k h (own_parent c (lower_of c k) (lower_within c k h) e)

-- the two classes of a link are one
pub link_joins : (c : Classes) (k : ℕ) → k < links_of c → label_of c (lower_of c k) ≡ label_of c (upper_of c k)
unfolding upper_of
link_joins c k h = sym (parent_label c (lower_of c k) (lower_within c k h))
