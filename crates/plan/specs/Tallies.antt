-- What counting the items of a plan answers. Assumes nothing.
use Rattle.std.specs.Prelude.{◌≡◌, ℕ, ◌<◌, ◌≤◌, List, length, Ok, Err, Result}
use Rattle.theory.specs.Meaning.{Meaning}
use Rattle.plan.specs.declared.refusal.PlanFault.{PlanFault}
use Rattle.plan.specs.declared.refusal.Refusal.{Refusal}
use Rattle.plan.specs.declared.refusal.Refusal.TheVariants.{TooLong, NotAnItem, NoSuchCode, CutShort}
use Rattle.plan.specs.declared.tally.Tally.{Tally}
use Rattle.plan.specs.Items.{Item, all_written, cells_of}
use Rattle.plan.specs.Reading.{most_words, Read, refused, Stands}

-- A plan that is not too long is items, one after another, whose words are those of the plan.
pub record WholePlan (m : Meaning) (words : List ℕ) (tally : Tally) : Type 0 where
  pub short : length words ≤ most_words
  pub items : List Item
  pub read : Read m words items (length words)
  pub gives_back : all_written items ≡ words
  pub items_counted : tally.items ≡ length items
  pub cells_counted : tally.cells ≡ cells_of items

-- After the items that stand before the position, what stands there is refused.
pub record BrokenPlan (m : Meaning) (words : List ℕ) (fault : PlanFault) : Type 0 where
  pub short : length words ≤ most_words
  pub items : List Item
  pub read : Read m words items fault.position
  pub stands : Stands m words fault.position (refused fault.refusal) fault.position

-- A plan that is refused is too long, or broken at an item.
abbrev pub BrokenBy : Meaning → List ℕ → PlanFault → Refusal → Type 0
BrokenBy m words fault TooLong = (most_words < length words) × (fault.position ≡ 0)
BrokenBy m words fault NotAnItem = BrokenPlan m words fault
BrokenBy m words fault (NoSuchCode c) = BrokenPlan m words fault
BrokenBy m words fault CutShort = BrokenPlan m words fault

-- What counting answers.
abbrev pub Counts : Meaning → List ℕ → Result Tally PlanFault → Type 0
Counts m words (Ok tally) = WholePlan m words tally
Counts m words (Err fault) = BrokenBy m words fault fault.refusal
