-- Counting the items of a plan while they are read. Assumes nothing.
use Rattle.std.proofs.Common.{◌≡◌, ℕ, ◌+◌, ◌-◌, ◌^◌, ◌<◌, ◌≤◌, min, List, [], ◌∷◌, ◌++◌, length, drop, Some, None, Ok, Err, sym, refl, ap, ◌∙◌, arith, length-append, length-drop}
use Rattle.theory.specs.Meaning.{Meaning}
use Rattle.plan.specs.declared.item.Item as code
use Rattle.plan.specs.declared.refusal.PlanFault.{PlanFault}
use Rattle.plan.specs.declared.refusal.Refusal.{Refusal}
use Rattle.plan.specs.declared.refusal.Refusal.TheVariants.{TooLong, NotAnItem, NoSuchCode, CutShort}
use Rattle.plan.specs.declared.tally.Tally.{Tally}
use Rattle.plan.specs.Items.{Item, unknown, term, link, item_of, cells_made, cells_of}
use Rattle.plan.specs.Reading.{most_words, refused, Begins, Read, none_read, read_on}
use Rattle.plan.specs.Answers.{HandsOut}
use Rattle.plan.specs.Tallies.{WholePlan, BrokenPlan, BrokenBy}
use Rattle.plan.proofs.Back.{returned, none_left}

-- the items up to the reader's position are counted
pub record Counted (m : Meaning) (words held : List ℕ) (position : ℕ) (tally : Tally) : Type 0 where
  pub same : held ≡ words
  pub short : length words ≤ most_words
  pub done : List Item
  pub read : Read m words done position
  pub items_are : tally.items ≡ length done
  pub cells_are : tally.cells ≡ cells_of done

-- each item has a word
read_length : (m : Meaning) (words : List ℕ) (items : List Item) (position : ℕ) → Read m words items position → length items ≤ position
read_length m words items position none_read = omega arith
read_length m words items next (read_on {items = before} {position = position} {i = i} r s) =
    let h = read_length m words before position r in omega (arith, length-append before (i ∷ []), s.onward)

cells_on : (items : List Item) (i : Item) → cells_of (items ++ i ∷ []) ≡ cells_of items + cells_made i
cells_on [] i = omega arith
cells_on (x ∷ xs) i = let h = cells_on xs i in omega arith

one_cell : (i : Item) → cells_made i ≤ 1
one_cell (unknown set) = omega arith
one_cell (term c cells) = omega arith
one_cell (link left right) = omega arith

few_cells : (items : List Item) → cells_of items ≤ length items
few_cells [] = omega arith
few_cells (i ∷ is) = let h = few_cells is in let o = one_cell i in omega arith

-- a sum that fits is not cut
pub not_cut : (n sum : ℕ) → n ≡ min sum (2 ^ 64 - 1) → sum < 2 ^ 64 → n ≡ sum
not_cut n sum e h = omega arith

-- no word is too long
not_too_long : (m : Meaning) (left : List ℕ) → Begins m left (refused TooLong) → ⊥
not_too_long m left b = elim b [ ]

module _ (m : Meaning) (words held : List ℕ) (position : ℕ) (tally : Tally) (c : Counted m words held position tally) where
  bound : position ≤ length words
  bound = (returned m words c.done position c.read).within

  pub room : (i : Item) → (tally.items + 1 < 2 ^ 64) × (tally.cells + cells_made i < 2 ^ 64)
  room i =
      let o = one_cell i in
      let l = read_length m words c.done position c.read in let b = bound in let f = few_cells c.done in let s = c.short in let n = c.items_are in let k = c.cells_are in
      (omega arith, omega arith)

  pub counted_on : (i : code.Item) (next : ℕ) (after : List ℕ) (more : Tally) → after ≡ held → HandsOut m held position (Ok (Some i)) next → more.items ≡ tally.items + 1 →
      more.cells ≡ tally.cells + cells_made (item_of i) → Counted m words after next more
  counted_on i next after more e h n k =
      let s = rw c.same at h.stands in
      record {
        same = e ∙ c.same;
        short = c.short;
        done = c.done ++ item_of i ∷ [];
        read = read_on c.read s;
        items_are = n ∙ ap (λ (x : ℕ). x + 1) c.items_are ∙ (let l = length-append c.done (item_of i ∷ []) in omega arith);
        cells_are = k ∙ ap (λ (x : ℕ). x + cells_made (item_of i)) c.cells_are ∙ sym (cells_on c.done (item_of i));
      }

  pub counted_whole : (next : ℕ) → HandsOut m held position (Ok None) next → WholePlan m words tally
  counted_whole next h =
      let s = rw c.same at h.stands in
      let n = none_left m (drop position words) s.begins in
      let b = bound in
      let p : position ≡ length words = (let l = length-drop position words in let z = ap length n in omega arith) in
      record {
        short = c.short;
        items = c.done;
        read = rw p at c.read;
        gives_back = rw c.same at (h.goes_on c.done (rw c.same c.read)).whole;
        items_counted = c.items_are;
        cells_counted = c.cells_are;
      }

  broken_by : (fault : PlanFault) (refusal : Refusal) → fault.refusal ≡ refusal → Begins m (drop position words) (refused refusal) → BrokenPlan m words fault → BrokenBy m words fault refusal
  broken_by fault TooLong e b p = absurd (not_too_long m (drop position words) b)
  broken_by fault NotAnItem e b p = p
  broken_by fault (NoSuchCode code) e b p = p
  broken_by fault CutShort e b p = p

  pub counted_broken : (fault : PlanFault) (next : ℕ) → HandsOut m held position (Err fault) next → BrokenBy m words fault fault.refusal
  counted_broken fault next h =
      let s = rw c.same at h.stands in
      let here : fault.position ≡ position = h.names in
      broken_by fault fault.refusal refl s.begins
      record { short = c.short; items = c.done; read = rw here c.read; stands = record { begins = rw here s.begins; onward = omega arith } }

pub counted_none : (m : Meaning) (words held : List ℕ) (position : ℕ) → (length words ≤ most_words) × (held ≡ words) × (position ≡ 0) → Counted m words held position record { items = 0; cells = 0 }
counted_none m words held position o = record { same = o.1; short = o.0; done = []; read = rw o.2 none_read; items_are = refl; cells_are = refl }
