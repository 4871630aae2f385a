-- What feed answers to a plan, and the state that it leaves: the plan's items, done as calls one after another on an empty workspace. Assumes nothing.
use Rattle.std.specs.Prelude.{ℕ, suc, ◌<◌, ◌≤◌, List, length, Some, None, Ok, Err, Option, Result}
use Rattle.theory.specs.Meaning.{Meaning}
use Rattle.theory.specs.States.{State, empty_state}
use Rattle.plan.specs.declared.refusal.Refusal.{Refusal}
use Rattle.plan.specs.declared.refusal.Refusal.TheVariants.{TooLong}
use Rattle.plan.specs.Items as plan
use Rattle.plan.specs.Reading.{most_words, item, refused, ended, Stands}
use Rattle.workspace.specs.declared.fault.Fault.{Fault}
use Rattle.workspace.specs.Calls.{UnknownCall, TermCall, JoinCall}

-- the fault of an answer, if it is one
abbrev pub fault_of : {A : Type 0} → Result A Fault → Option Fault
fault_of (Ok x) = None
fault_of (Err f) = Some f

-- An item is done as a call: an unknown and a term make a cell, a link joins two.
pub data ItemCall (m : Meaning) (s : State) : plan.Item → Option Fault → State → Type 0 where
  unknown_done : {set : ℕ} {t : State} (r : Result ℕ Fault) → UnknownCall m s set r t → ItemCall m s (plan.unknown set) (fault_of r) t
  term_done : {code : ℕ} {cells : List ℕ} {t : State} (r : Result ℕ Fault) → TermCall m s code cells r t → ItemCall m s (plan.term code cells) (fault_of r) t
  link_done : {left right : ℕ} {t : State} (r : Result (Unit {0}) Fault) → JoinCall m s left right r t → ItemCall m s (plan.link left right) (fault_of r) t

-- What feed answers: the number of items, or the position of the first word of the item that is sent back, and why: its words, or its call.
pub data FeedAnswer : Type 0 where
  fed : (items : ℕ) → FeedAnswer
  unread : (position : ℕ) → Refusal → FeedAnswer
  undone : (position : ℕ) → Fault → FeedAnswer

-- From a position on, with some items done and the state that they left.
pub data Feeding (m : Meaning) (words : List ℕ) : (position items : ℕ) (s : State) → FeedAnswer → State → Type 0 where
  -- the plan ends
  all_done : {p n k : ℕ} {s : State} → Stands m words p ended n → Feeding m words p k s (fed k) s
  -- what stands at the position is refused
  no_item : {p n k : ℕ} {s : State} {f : Refusal} → Stands m words p (refused f) n → Feeding m words p k s (unread p f) s
  -- the call of the item is refused
  item_refused : {p n k : ℕ} {s t : State} {i : plan.Item} {f : Fault} → Stands m words p (item i) n → ItemCall m s i (Some f) t → Feeding m words p k s (undone p f) t
  -- the item is done, and feed goes on behind it
  item_done : {p n k : ℕ} {s t u : State} {i : plan.Item} {a : FeedAnswer} → Stands m words p (item i) n → ItemCall m s i None t → Feeding m words n (suc k) t a u →
      Feeding m words p k s a u

-- Feed: a plan that is too long changes nothing; any other is done from its front on an empty workspace.
pub data FeedCall (m : Meaning) (s : State) (words : List ℕ) : FeedAnswer → State → Type 0 where
  too_long : most_words < length words → FeedCall m s words (unread 0 TooLong) s
  from_empty : {a : FeedAnswer} {t : State} → length words ≤ most_words → Feeding m words 0 0 empty_state a t → FeedCall m s words a t
