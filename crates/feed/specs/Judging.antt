-- What feed says of a plan: that its cells can be given loads under all its links, or which is the first link with which they cannot. Assumes nothing.
use Rattle.std.specs.Prelude.{◌≡◌, ℕ, List, [], ◌∷◌, length}
use Rattle.theory.specs.Meaning.{Meaning, Lawful}
use Rattle.theory.specs.Types.{Tree}
use Rattle.theory.specs.States.{State, unknown, term, empty_state, with_cell, with_equation}
use Rattle.theory.specs.Assignments.{AssignsUnclassed, Assigns}
use Rattle.plan.specs.Items as plan
use Rattle.plan.specs.Reading.{item, ended, Stands, Read}
use Rattle.workspace.specs.declared.fault.Fault.TheVariants.{NoTypes, NoClasses}
use Rattle.workspace.specs.Calls.{NoneUnclassed, NoneClassed}
use Rattle.feed.specs.Feeding.{fed, undone, FeedCall}

-- the state with the cell or the link of an item more
abbrev pub with_item : State → plan.Item → State
with_item s (plan.unknown set) = with_cell s (unknown set)
with_item s (plan.term code cells) = with_cell s (term code cells)
with_item s (plan.link left right) = with_equation s left right

-- the state with those of items, first to last
abbrev pub with_items : State → List plan.Item → State
with_items s [] = s
with_items s (i ∷ is) = with_items (with_item s i) is

-- The items of a plan from a position to its end.
pub data ItemsFrom (m : Meaning) (words : List ℕ) : ℕ → List plan.Item → Type 0 where
  no_more : {p n : ℕ} → Stands m words p ended n → ItemsFrom m words p []
  one_more : {p n : ℕ} {i : plan.Item} {is : List plan.Item} → Stands m words p (item i) n → ItemsFrom m words n is → ItemsFrom m words p (i ∷ is)

-- A plan that feed accepts: its items, all of them, have an assignment of their cells under their links.
pub record Accepted (m : Meaning) (words : List ℕ) (count : ℕ) (t : State) : Type 0 where
  pub items : List plan.Item
  pub whole : ItemsFrom m words 0 items
  pub counted : count ≡ length items
  pub state : t ≡ with_items empty_state items
  pub type_of : ℕ → Tree
  pub assigns : Assigns m t type_of

-- The link at the position is the first with which none remain: the items before it have an assignment.
pub record FirstBadLink (m : Meaning) (words : List ℕ) (position left right : ℕ) (t : State) : Type 0 where
  pub before : List plan.Item
  pub read : Read m words before position
  pub next : ℕ
  pub stands : Stands m words position (item (plan.link left right)) next
  pub state : t ≡ with_items empty_state before
  pub type_of : ℕ → Tree
  pub assigns : Assigns m t type_of

-- What feed judges.
pub record FeedJudges (m : Meaning) (s : State) (words : List ℕ) : Type 0 where
  pub accepted : (count : ℕ) (t : State) → FeedCall m s words (fed count) t → Accepted m words count t
  pub no_types : (p left right : ℕ) (t : State) → FeedCall m s words (undone p (NoTypes left right)) t →
      FirstBadLink m words p left right t × NoneUnclassed m (with_equation t left right)
  pub no_classes : (p left right : ℕ) (t : State) → FeedCall m s words (undone p (NoClasses left right)) t →
      FirstBadLink m words p left right t × ((type_of : ℕ → Tree) × AssignsUnclassed m (with_equation t left right) type_of) × NoneClassed m (with_equation t left right)
  -- a plan whose cells can be given loads under all its links is refused with neither
  pub not_refused : (items : List plan.Item) → ItemsFrom m words 0 items → (type_of : ℕ → Tree) → Assigns m (with_items empty_state items) type_of →
      (p left right : ℕ) (t : State) → (FeedCall m s words (undone p (NoTypes left right)) t → ⊥) × (FeedCall m s words (undone p (NoClasses left right)) t → ⊥)

abbrev pub PlansAreJudged : Type 0
PlansAreJudged = (m : Meaning) → Lawful m → (s : State) (words : List ℕ) → FeedJudges m s words
