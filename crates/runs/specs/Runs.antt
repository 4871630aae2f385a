-- Runs: calls one after another from an opening, each with what it was answered and the state that it left. Assumes nothing.
use Rattle.std.specs.Prelude.{ℕ, ◌<◌, List, [], ◌∷◌, ◌++◌, Result}
use Rattle.theory.specs.Meaning.{Meaning}
use Rattle.theory.specs.States.{State, empty_state}
use Rattle.workspace.specs.declared.fault.Fault.{Fault}
use Rattle.workspace.specs.Calls.{UnknownCall, TermCall, JoinCall, ShowCall}
use Rattle.feed.specs.Feeding.{FeedAnswer, FeedCall}

-- A call, with what the caller brings: codes, cells, words, a set of 8 bits, and a buffer, whatever these hold.
pub data Call : Type 0 where
  unknown : (set : ℕ) → set < 256 → Call
  term : (code : ℕ) (cells : List ℕ) → Call
  join : (left right : ℕ) → Call
  show : (cells buffer : List ℕ) → Call
  feed : (words : List ℕ) → Call

-- What a call is answered, and what the buffer then holds.
pub data Outcome : Type 0 where
  made : Result ℕ Fault → Outcome
  joined : Result (Unit {0}) Fault → Outcome
  shown : Result ℕ Fault → (buffer : List ℕ) → Outcome
  fed : FeedAnswer → Outcome

-- A call in a state has an outcome and leaves a state, as its definition says.
pub data Step (m : Meaning) (s : State) : Call → Outcome → State → Type 0 where
  unknown_step : {set : ℕ} {small : set < 256} {r : Result ℕ Fault} {t : State} → UnknownCall m s set r t → Step m s (unknown set small) (made r) t
  term_step : {code : ℕ} {cells : List ℕ} {r : Result ℕ Fault} {t : State} → TermCall m s code cells r t → Step m s (term code cells) (made r) t
  join_step : {left right : ℕ} {r : Result (Unit {0}) Fault} {t : State} → JoinCall m s left right r t → Step m s (join left right) (joined r) t
  show_step : {cells buffer after : List ℕ} {r : Result ℕ Fault} → ShowCall m s cells buffer r after → Step m s (show cells buffer) (shown r after) s
  feed_step : {words : List ℕ} {a : FeedAnswer} {t : State} → FeedCall m s words a t → Step m s (feed words) (fed a) t

-- A run from an opening: the calls, their outcomes, and the state that they lead to.
pub data Run (m : Meaning) : List Call → List Outcome → State → Type 0 where
  opening : Run m [] [] empty_state
  and_then : {calls : List Call} {outcomes : List Outcome} {s t : State} {c : Call} {o : Outcome} → Run m calls outcomes s → Step m s c o t →
      Run m (calls ++ (c ∷ [])) (outcomes ++ (o ∷ [])) t
