-- That feed answers every plan, in one way only. Assumes nothing.
use Rattle.std.specs.Prelude.{ℕ, List}
use Rattle.theory.specs.Meaning.{Meaning, Lawful}
use Rattle.theory.specs.States.{State}
use Rattle.workspace.specs.Promise.{Reached, Same}
use Rattle.feed.specs.Feeding.{FeedAnswer, FeedCall}

-- Feed answers every plan, in one way only, and leaves a state that calls lead to.
pub record Feeds (m : Meaning) (s : State) : Type 0 where
  pub feed_some : (words : List ℕ) → (a : FeedAnswer) × (t : State) × FeedCall m s words a t
  pub feed_one : (words : List ℕ) (a b : FeedAnswer) (t u : State) → FeedCall m s words a t → FeedCall m s words b u → Same a b t u
  pub feed_leads : (words : List ℕ) (a : FeedAnswer) (t : State) → FeedCall m s words a t → Reached m t

abbrev pub FeedHasOneAnswer : Type 0
FeedHasOneAnswer = (m : Meaning) → Lawful m → (s : State) → Reached m s → Feeds m s
