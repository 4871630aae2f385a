-- The facts that let every way end stay when a cell is added, a class goes under another, or the last link is undone. Assumes nothing.
use Rattle.std.proofs.Common.{◌≡◌, ℕ, ◌+◌, ◌<◌, ◌≤◌, refl, sym, arith, add-one}
use Rattle.std.proofs.lemmas.Bool.{cases_eq}
use Rattle.classes.specs.Forests.{Forest, time_in, lowered}
use Rattle.classes.proofs.Times.{time_hit, time_miss, time_same, time_never, time_range}
use Rattle.classes.proofs.Counting.{lowered_own, lowered_same, lowered_one, lowered_most, lowered_fewer}

-- no cells
pub forest_none : (parent lower : ℕ → ℕ) → Forest parent lower 0 0
unfolding lowered
forest_none parent lower = record {
  few = omega arith;
  inside = λ i h. absurd (omega arith);
  counted = omega arith;
  unlinked = λ i h. absurd (omega arith);
  linked = λ i h. absurd (omega arith);
  rising = λ i h. absurd (omega arith);
  trail_inside = λ k h. absurd (omega arith);
  trail_times = λ k h. absurd (omega arith);
  trail_linked = λ k h. absurd (omega arith);
}

-- a new cell that is its own parent
pub forest_added : {parent parent' lower : ℕ → ℕ} {count links : ℕ} → Forest parent lower count links → count < 2048
    → parent' count ≡ count → ((i : ℕ) → (i ≡ count → ⊥) → parent' i ≡ parent i) → Forest parent' lower (count + 1) links
forest_added {parent} {parent'} {lower} {count} {links} f room new rest = record {
  few = omega arith;
  inside = λ i h. grind (arith, cases_eq i count, rest i, f.inside i);
  counted = rw add-one (grind (arith, lowered_own parent' count, lowered_same parent parent' count (λ i h. rest i (omega arith)), f.counted));
  unlinked = λ i h e. grind (arith, cases_eq i count, rest i, f.unlinked i, time_never lower links count (λ k l e. let t = f.trail_inside k l in omega arith));
  linked = λ i h n. grind (arith, cases_eq i count, rest i, f.linked i);
  rising = λ i h n. grind (arith, cases_eq i count, rest i, f.rising i);
  trail_inside = λ k h. grind (arith, f.trail_inside k);
  trail_times = f.trail_times;
  trail_linked = λ k h. grind (arith, rest (lower k), f.trail_inside k, f.trail_linked k);
}

-- the trail has room while a cell is its own parent
pub links_fewer : {parent lower : ℕ → ℕ} {count links : ℕ} → Forest parent lower count links → (x : ℕ) → x < count → parent x ≡ x → links < count
links_fewer {parent} {lower} {count} f x h e = grind (arith, lowered_fewer parent x e count h, f.counted)

pub links_most : {parent lower : ℕ → ℕ} {count links : ℕ} → Forest parent lower count links → links ≤ count
links_most {parent} {lower} {count} f = grind (arith, lowered_most parent count, f.counted)

-- x goes under y
module _ {parent parent' lower lower' : ℕ → ℕ} {count links x y : ℕ} (f : Forest parent lower count links)
    (in_x : x < count) (in_y : y < count) (own_x : parent x ≡ x) (own_y : parent y ≡ y) (apart : x ≡ y → ⊥)
    (goes : parent' x ≡ y) (rest : (i : ℕ) → (i ≡ x → ⊥) → parent' i ≡ parent i)
    (newest : lower' links ≡ x) (older : (k : ℕ) → k < links → lower' k ≡ lower k) where
  time_x : time_in lower' (links + 1) x ≡ links
  time_x = rw add-one (time_hit lower' links x newest)

  time_other : (i : ℕ) → (i ≡ x → ⊥) → time_in lower' (links + 1) i ≡ time_in lower links i
  time_other i n = rw add-one (grind (arith, time_miss lower' links i, time_same lower lower' links older i))

  pub forest_linked : Forest parent' lower' count (links + 1)
  forest_linked = record {
    few = f.few;
    inside = λ i h. grind (arith, cases_eq i x, rest i, f.inside i);
    counted = grind (arith, lowered_one parent parent' x own_x (λ e. apart (grind arith)) rest count in_x, f.counted);
    unlinked = λ i h e. grind (arith, cases_eq i x, rest i, time_other i, f.unlinked i);
    linked = λ i h n. grind (arith, cases_eq i x, rest i, time_x, time_other i, f.linked i);
    rising = λ i h n.
        let few = links_fewer f x in_x own_x in
        grind (arith, cases_eq i x, cases_eq (parent i) x, rest i, time_x, time_other i, time_other y, time_other (parent i), f.few, f.unlinked y, f.linked i, f.rising i);
    trail_inside = λ k h. grind (arith, cases_eq k links, older k, f.trail_inside k);
    trail_times = λ k h. grind (arith, cases_eq k links, older k, time_x, time_other (lower k), f.trail_times k, f.trail_linked k);
    trail_linked = λ k h. grind (arith, cases_eq k links, older k, rest (lower k), f.trail_linked k);
  }

-- the last link is undone: its cell is its own parent again
module _ {parent lower : ℕ → ℕ} {count : ℕ} (links : ℕ) (f : Forest parent lower count (links + 1)) where
  time_last : time_in lower (links + 1) (lower links) ≡ links
  time_last = rw add-one (time_hit lower links (lower links) refl)

  time_rest : (i : ℕ) → (i ≡ lower links → ⊥) → time_in lower (links + 1) i ≡ time_in lower links i
  time_rest i n = rw add-one (time_miss lower links i (λ e. n (sym e)))

  -- older links are of other cells
  pub older_differs : (k : ℕ) → k < links → lower k ≡ lower links → ⊥
  older_differs k h e = grind (arith, time_last, f.trail_times k)

  time_back : time_in lower links (lower links) ≡ 2048
  time_back = time_never lower links (lower links) older_differs

  pub forest_undone : {parent' : ℕ → ℕ} → parent' (lower links) ≡ lower links → ((i : ℕ) → (i ≡ lower links → ⊥) → parent' i ≡ parent i) → Forest parent' lower count links
  forest_undone {parent'} own rest = record {
    few = f.few;
    inside = λ i h. grind (arith, cases_eq i (lower links), rest i, f.inside i);
    counted = grind (arith, lowered_one parent' parent (lower links) own (f.trail_linked links (omega arith)) (λ i n. sym (rest i n)) count (f.trail_inside links (omega arith)), f.counted);
    unlinked = λ i h e. grind (arith, cases_eq i (lower links), rest i, time_back, time_rest i, f.unlinked i);
    linked = λ i h n. grind (arith, rest i, time_range lower links i, time_rest i, f.linked i, links_most f, f.few);
    rising = λ i h n.
        grind (arith, cases_eq (parent i) (lower links), rest i, time_range lower links i, time_back, time_rest i, time_rest (parent i), f.linked i, f.rising i, links_most f, f.few);
    trail_inside = λ k h. f.trail_inside k (omega arith);
    trail_times = λ k h. grind (arith, older_differs k h, time_rest (lower k), f.trail_times k);
    trail_linked = λ k h. grind (arith, older_differs k h, rest (lower k), f.trail_linked k);
  }
