-- Runs keep the promise. Assumes nothing.
use Rattle.std.proofs.Common.{List, refl, ap}
use Rattle.theory.specs.Meaning.{Meaning, Lawful}
use Rattle.theory.specs.States.{State}
use Rattle.workspace.specs.Promise.{Reached, opened, after_unknown, after_term, after_join, Same, Determined}
use Rattle.workspace.proofs.Determined.{calls_have_one_answer}
use Rattle.workspace.proofs.Promised.{reached_states_keep_the_promise}
use Rattle.runs.specs.Runs.{Call, unknown, term, join, show, feed, Outcome, made, joined, fed, Step, unknown_step, term_step, join_step, show_step, feed_step, Run, opening, and_then}
use Rattle.feed.specs.Answering.{Feeds}
use Rattle.runs.specs.Promise.{RunsKeepThePromise}
use Rattle.feed.proofs.Fed.{feed_has_one_answer}

module _ (m : Meaning) (lawful : Lawful m) where
  step_leads : (s t : State) (c : Call) (o : Outcome) → Reached m s → Step m s c o t → Reached m t
  step_leads s t c o h (unknown_step {set = set} {small = small} x) = after_unknown set small h x
  step_leads s t c o h (term_step {code = code} {cells = cells} x) = after_term code cells h x
  step_leads s t c o h (join_step {left = left} {right = right} x) = after_join left right h x
  step_leads s t c o h (show_step x) = h
  step_leads s t c o h (feed_step {words = words} {a = a} x) = (feed_has_one_answer m lawful s h).feed_leads words a t x

  pub run_reached : (calls : List Call) (outcomes : List Outcome) (s : State) → Run m calls outcomes s → Reached m s
  run_reached calls outcomes s opening = opened
  run_reached calls outcomes s (and_then {calls = before} {outcomes = earlier} {s = from} {c = c} {o = o} r x) = step_leads from s c o (run_reached before earlier from r) x

  step_some : (s : State) → Determined m s → Feeds m s → (c : Call) → (o : Outcome) × (t : State) × Step m s c o t
  step_some s d f (unknown set small) = let c = d.unknown_some set in (_, _, unknown_step c.2)
  step_some s d f (term code cells) = let c = d.term_some code cells in (_, _, term_step c.2)
  step_some s d f (join left right) = let c = d.join_some left right in (_, _, join_step c.2)
  step_some s d f (show cells buffer) = let c = d.show_some cells buffer in (_, _, show_step c.2)
  step_some s d f (feed words) = let c = f.feed_some words in (_, _, feed_step c.2)

  step_once : (s : State) → Determined m s → Feeds m s → (c : Call) (o q : Outcome) (t u : State) → Step m s c o t → Step m s c q u → Same o q t u
  step_once s d f c o q t u (unknown_step {set = set} {r = r} x) (unknown_step {r = r'} y) = let e = d.unknown_one set r r' t u x y in record { answer = ap made e.answer; left = e.left }
  step_once s d f c o q t u (term_step {code = code} {cells = cells} {r = r} x) (term_step {r = r'} y) =
      let e = d.term_one code cells r r' t u x y in record { answer = ap made e.answer; left = e.left }
  step_once s d f c o q t u (join_step {left = left} {right = right} {r = r} x) (join_step {r = r'} y) =
      let e = d.join_one left right r r' t u x y in record { answer = ap joined e.answer; left = e.left }
  step_once s d f c o q t u (show_step {cells = cells} {buffer = buffer} {after = after} {r = r} x) (show_step {after = after'} {r = r'} y) =
      let e = d.show_one cells buffer r r' after after' x y in
      let p = e.answer in let l = e.left in record { answer = cc; left = refl }
  step_once s d f c o q t u (feed_step {words = words} {a = a} x) (feed_step {a = b} y) = let e = f.feed_one words a b t u x y in record { answer = ap fed e.answer; left = e.left }

pub runs_keep_the_promise : RunsKeepThePromise
runs_keep_the_promise m lawful calls outcomes s run =
    let h = run_reached m lawful calls outcomes s run in
    let d = calls_have_one_answer m lawful s h in
    let f = feed_has_one_answer m lawful s h in
    let p = reached_states_keep_the_promise m lawful s h in
    record {
      goes_on = step_some m lawful s d f;
      one_way = step_once m lawful s d f;
      promise = p;
      shows_alike = λ n lawful' agree calls' outcomes' u other same. p.shows_alike n u lawful' agree (run_reached n lawful' calls' outcomes' u other) same;
    }
