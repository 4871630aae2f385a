-- What the writes of each method change, as clients see it. Assumes nothing.
use Rattle.std.proofs.Common.{◌≡◌, ℕ, ◌+◌, ◌%◌, ◌^◌, ◌<◌, ◌≤◌, List, length, set, slice_index, slice_index_or, sym, refl, ap, ◌∙◌, subst, arith}
use Rattle.std.proofs.lemmas.Bool.{cases_eq}
use Rattle.std.proofs.lemmas.Bool.Decides.{nat_tests}
use Rattle.std.proofs.lemmas.List.{get_or-set_same, get_or-set_other, set-set, set-get_or}
use Rattle.std.specs.Int.Bits.{bit_or}
use Rattle.theory.specs.Updates.{sent}
use Rattle.classes.specs.declared.forest.Class.{Class}
use Rattle.classes.specs.declared.forest.Entry.{Entry}
use Rattle.classes.specs.declared.forest.Classes.{Classes}
use Rattle.classes.specs.Forests.{Forest, next_in, follow, label_in}
use Rattle.classes.specs.Trails.{lower_in, no_class, no_entry}
use Rattle.classes.specs.Views.{count_of, links_of, label_of, class_of, shape_of, set_of, size_of, entry_of, lower_of, upper_of, old_class_of}
use Rattle.classes.specs.Rewinding.{restored, SameEntries, Undone, Since}
use Rattle.classes.specs.Moves.{Added, Linked, Reshaped, Rewound}
use Rattle.classes.proofs.Ways.{follow_last, next_cell, label_same, follow_sent}
use Rattle.classes.proofs.ForestsChange.{older_differs}
use Rattle.classes.proofs.LabelLaws.{own_parent, lower_is_no_label, way_ends}
use Rattle.classes.proofs.UndoingLinks.{restored_same, restored_over, since_longer, since_shorter, since_all_undone, same_entries_refl, same_entries_sym, same_entries_trans, fewer_entries, same_lowers, same_olds}

-- at most the class i has something else
module _ (i : ℕ) (was now : Classes) (classes : now.classes ≡ set was.classes i (class_of now i)) where
  class_kept : (j : ℕ) → (j ≡ i → ⊥) → class_of now j ≡ class_of was j
  unfolding class_of
  class_kept j n = ap (λ (l : List Class). slice_index_or l j no_class) classes ∙ get_or-set_other was.classes i j (class_of now i) no_class n

  shape_kept : (j : ℕ) → (j ≡ i → ⊥) → shape_of now j ≡ shape_of was j
  shape_kept j n = ap (λ (k : Class). k.shape) (class_kept j n)

  set_kept : (j : ℕ) → (j ≡ i → ⊥) → set_of now j ≡ set_of was j
  set_kept j n = ap (λ (k : Class). k.set) (class_kept j n)

  size_kept : (j : ℕ) → (j ≡ i → ⊥) → size_of now j ≡ size_of was j
  size_kept j n = ap (λ (k : Class). k.size) (class_kept j n)

-- what `add` writes
pub record CellWrites (was now : Classes) : Type 0 where
  pub count : now.count ≡ was.count + 1
  pub links : now.links ≡ was.links
  pub parents : now.parents ≡ set was.parents was.count was.count
  pub classes : now.classes ≡ set was.classes was.count (class_of now was.count)
  pub trail : now.trail ≡ was.trail
  pub room : was.count < length was.parents

-- a new cell
pub cell_added : (shape set' : ℕ) (was now : Classes) → CellWrites was now → shape_of now was.count ≡ shape → set_of now was.count ≡ set' → size_of now was.count ≡ 1 → Added shape set' was now
unfolding label_of next_in entry_of upper_of lower_in
cell_added shape set' was now w shape_new set_new size_new = record {
  count = w.count;
  links = w.links;
  labels = label_same (slice_index was.parents) (slice_index now.parents) was.count now.count (λ i.
      grind (arith, nat_tests, cases_eq i was.count, get_or-set_same was.parents was.count was.count 0, get_or-set_other was.parents was.count i was.count 0));
  shape_new = shape_new;
  set_new = set_new;
  size_new = size_new;
  shapes = shape_kept was.count was now w.classes;
  sets = set_kept was.count was now w.classes;
  sizes = size_kept was.count was now w.classes;
  entries = record {
    entries = λ k h. rw w.trail refl;
    uppers = λ k h. grind (arith, get_or-set_other was.parents was.count (lower_of was k) was.count 0, was.forest.trail_inside k);
  };
}

-- what `link` writes
pub record LinkWrites (x y : ℕ) (was now : Classes) : Type 0 where
  pub count : now.count ≡ was.count
  pub links : now.links ≡ was.links + 1
  pub parents : now.parents ≡ set was.parents x y
  pub classes : now.classes ≡ set was.classes y (class_of now y)
  pub trail : now.trail ≡ set was.trail was.links (record { lower = x; was = class_of was y })
  pub room : x < length was.parents
  pub room_trail : was.links < length was.trail

-- the class x goes under the class y
module _ (x y : ℕ) (was now : Classes) (w : LinkWrites x y was now)
    (in_x : x < count_of was) (in_y : y < count_of was) (label_x : label_of was x ≡ x) (label_y : label_of was y ≡ y) (apart : x ≡ y → ⊥) where
  parent_new : slice_index now.parents x ≡ y
  parent_new = rw (w.parents, get_or-set_same was.parents x y 0 w.room) refl

  parent_kept : (i : ℕ) → (i ≡ x → ⊥) → slice_index now.parents i ≡ slice_index was.parents i
  parent_kept i n = rw (w.parents, get_or-set_other) refl

  entry_new : entry_of now was.links ≡ record { lower = x; was = class_of was y }
  unfolding entry_of
  entry_new = ap (λ (l : List Entry). slice_index_or l was.links no_entry) w.trail ∙ get_or-set_same was.trail was.links _ no_entry w.room_trail

  entry_kept : (k : ℕ) → k < was.links → entry_of now k ≡ entry_of was k
  unfolding entry_of
  entry_kept k h = ap (λ (l : List Entry). slice_index_or l k no_entry) w.trail ∙ get_or-set_other was.trail was.links k _ no_entry (λ e. omega arith)

  lower_new : lower_of now was.links ≡ x
  lower_new = ap (λ (e : Entry). e.lower) entry_new

  old_new : old_class_of now was.links ≡ class_of was y
  old_new = ap (λ (e : Entry). e.was) entry_new

  upper_new : upper_of now was.links ≡ y
  unfolding upper_of
  upper_new = ap (slice_index now.parents) lower_new ∙ parent_new

  -- a class that went under another before is neither x nor y
  lower_differs : (k i : ℕ) → k < was.links → i < was.count → label_of was i ≡ i → lower_of was k ≡ i → ⊥
  lower_differs k i h l own e = lower_is_no_label was k h cc

  entries_linked : SameEntries was.links was now
  unfolding upper_of
  entries_linked = record {
    entries = entry_kept;
    uppers = λ k h. ap (λ (e : Entry). slice_index now.parents e.lower) (entry_kept k h) ∙ parent_kept (lower_of was k) (lower_differs k x h in_x label_x);
  }

  -- undoing the link gives back what was
  link_undone : Undone now was
  unfolding class_of
  link_undone = record {
    count = sym w.count;
    links = sym w.links;
    parents = cc (lower_new, w.parents, set-set was.parents x y x, set-get_or was.parents x 0, own_parent was x in_x label_x);
    classes = cc (upper_new, old_new, w.classes, set-set was.classes y (class_of now y) (class_of was y), set-get_or was.classes y no_class);
    entries = same_entries_sym entries_linked;
  }

  next_elsewhere : (i : ℕ) → (i ≡ x → ⊥) → next_in (slice_index now.parents) now.count i ≡ next_in (slice_index was.parents) was.count i
  unfolding next_in
  next_elsewhere i n = grind (arith, nat_tests, parent_kept i, w.count)

  labels_linked : (i : ℕ) → label_of now i ≡ sent x y (label_of was i)
  unfolding label_of label_in follow
  labels_linked i =
      let f = next_in (slice_index was.parents) was.count in
      let g = next_in (slice_index now.parents) now.count in
      sym (follow_last g 2048 i ∙ way_ends now.forest i)
      ∙ follow_sent f g x y apart (grind (arith, next_cell (slice_index was.parents) was.count x, own_parent was x)) (grind (arith, next_cell (slice_index was.parents) was.count y, own_parent was y))
      (grind (arith, next_cell (slice_index now.parents) now.count x, parent_new)) next_elsewhere 2048 i (way_ends was.forest i)

  -- no class that has gone under another is y
  lower_not_y : (k : ℕ) → k < now.links → lower_of now k ≡ y → ⊥
  lower_not_y k h e = grind (arith, cases_eq k was.links, lower_new, entry_kept k, lower_differs k y)

  pub class_linked : (shape : ℕ) → shape_of now y ≡ shape → set_of now y ≡ bit_or (set_of was y) (set_of was x) → size_of now y ≡ (size_of was y + size_of was x) % 2 ^ 16 → Linked x y shape was now
  class_linked shape shape_new set_new size_new = record {
    count = w.count;
    links = w.links;
    labels = labels_linked;
    shape_new = shape_new;
    set_new = set_new;
    size_new = size_new;
    shapes = shape_kept y was now w.classes;
    sets = set_kept y was now w.classes;
    sizes = size_kept y was now w.classes;
    entries = entries_linked;
    lower_new = lower_new;
    upper_new = upper_new;
    old_shape_new = ap (λ (k : Class). k.shape) old_new;
    old_set_new = ap (λ (k : Class). k.set) old_new;
    lower_shapes = λ k h. shape_kept y was now w.classes (lower_of now k) (lower_not_y k h);
    lower_sets = λ k h. set_kept y was now w.classes (lower_of now k) (lower_not_y k h);
    since = λ first mark. since_longer now was link_undone first mark;
  }

-- what `reshape` writes
pub record ShapeWrites (k : ℕ) (was now : Classes) : Type 0 where
  pub count : now.count ≡ was.count
  pub links : now.links ≡ was.links
  pub parents : now.parents ≡ was.parents
  pub classes : now.classes ≡ set was.classes (upper_of was k) (class_of now (upper_of was k))
  pub trail : now.trail ≡ was.trail

-- the upper class of the k-th link gets a shape
module _ (k : ℕ) (was now : Classes) (w : ShapeWrites k was now) (stands : k < links_of was) where
  entries_reshaped : (n : ℕ) → SameEntries n was now
  unfolding entry_of upper_of
  entries_reshaped n = record { entries = λ j h. cc w.trail; uppers = λ j h. cc (w.parents, w.trail) }

  since_reshaped : (first : Classes) (mark : ℕ) → mark ≤ k → Since mark first was → Since mark first now
  unfolding Since
  since_reshaped first mark low s =
      let e = entries_reshaped (mark + s.since) in
      record {
        since = s.since;
        more = s.more ∙ sym w.links;
        at_mark = s.at_mark;
        count = w.count ∙ s.count;
        parents = restored_same _ _ _ _ mark s.since (same_lowers e) (same_lowers e) now.parents ∙ ap (restored (lower_of was) (lower_of was) mark s.since) w.parents ∙ s.parents;
        classes = restored_same _ _ _ _ mark s.since e.uppers (same_olds e) now.classes ∙ ap (restored (upper_of was) (old_class_of was) mark s.since) w.classes
            ∙ restored_over (upper_of was) (old_class_of was) mark s.since k (upper_of was k) _ low (grind (arith, s.more)) refl was.classes ∙ s.classes;
        entries = same_entries_trans s.entries (entries_reshaped mark);
      }

  pub upper_reshaped : (shape : ℕ) → shape_of now (upper_of was k) ≡ shape → set_of now (upper_of was k) ≡ set_of was (upper_of was k) → size_of now (upper_of was k) ≡ size_of was (upper_of was k) → Reshaped k shape was now
  unfolding label_of
  upper_reshaped shape shape_new set_same size_same = record {
    count = w.count;
    links = w.links;
    labels = λ i. rw (w.parents, w.count) refl;
    shape_new = shape_new;
    shapes = shape_kept (upper_of was k) was now w.classes;
    sets = λ i. grind (arith, cases_eq i (upper_of was k), set_same, set_kept (upper_of was k) was now w.classes i);
    sizes = λ i. grind (arith, cases_eq i (upper_of was k), size_same, size_kept (upper_of was k) was now w.classes i);
    entries = entries_reshaped (links_of was);
    since = since_reshaped;
  }

-- the entries below the last stay when its cell is its own parent again
pub entries_undone : (was now : Classes) → links_of now + 1 ≡ links_of was → now.trail ≡ was.trail
    → now.parents ≡ set was.parents (lower_of was (links_of now)) (lower_of was (links_of now)) → SameEntries (links_of now) was now
unfolding entry_of upper_of lower_in
entries_undone was now last trail parents = record {
  entries = λ k h. ap (λ (l : List Entry). slice_index_or l k no_entry) trail;
  uppers = λ k h.
      let differs = older_differs (links_of now) (subst (λ (n : ℕ). Forest (slice_index was.parents) (lower_in was.trail) was.count n) (sym last) was.forest) k h in
      ap (λ (l : List Entry). slice_index now.parents (slice_index_or l k no_entry).lower) trail ∙ ap (λ (p : List ℕ). slice_index p (lower_of was k)) parents
      ∙ get_or-set_other was.parents _ (lower_of was k) _ 0 differs;
}

-- links undone so far, each by itself
pub record Undoing (was now : Classes) : Type 0 where
  pub count : count_of now ≡ count_of was
  pub entries : SameEntries (links_of now) was now
  pub since : (first : Classes) (mark : ℕ) → mark ≤ links_of now → Since mark first was → Since mark first now

-- nothing is undone yet
pub undoing_none : (c : Classes) → Undoing c c
undoing_none c = record { count = refl; entries = same_entries_refl; since = λ first mark low s. s }

-- one link less
pub undoing_more : (first was now : Classes) → Undoing first was → Undone was now → Undoing first now
undoing_more first was now r u = record {
  count = u.count ∙ r.count;
  entries = same_entries_trans (fewer_entries (grind (arith, u.links)) r.entries) u.entries;
  since = λ base mark low s. since_shorter was now u base mark low (r.since base mark (grind (arith, u.links)) s);
}

-- all links back to the mark are undone
pub undoing_done : (was now : Classes) (mark : ℕ) → links_of now ≡ mark → Undoing was now → Rewound mark was now
undoing_done was now mark e r = record {
  count = r.count;
  links = e;
  entries = fewer_entries (omega arith) r.entries;
  back = λ first s. since_all_undone first now (r.since first (links_of now) (omega arith) (subst (λ (n : ℕ). Since n first was) (sym e) s));
  since = λ first older low s. r.since first older (omega arith) s;
}
