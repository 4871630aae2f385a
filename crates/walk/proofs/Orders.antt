-- A walk is done with its nodes in an order in which edges lead back. Assumes nothing.
use Rattle.std.proofs.Common.{◌≡◌, ℕ, zero, suc, ◌-◌, ◌<◌, ◌≤◌, List, [], ◌∷◌, length, reverse, get_or, Some, sym, ap, ◌∙◌, arith}
use Rattle.std.proofs.lemmas.List.{get_or-reverse}
use Rattle.std.proofs.lemmas.Grind.{common_steps}
use Rattle.std.proofs.lemmas.Option.{gets}
use Rattle.std.specs.List.{slice_get}
use Rattle.theory.specs.Walks.{DoneInOrder, none_done, done_with}
use Rattle.theory.proofs.Impossible.{impossible}
use Rattle.theory.proofs.Lookups.{nth_below}
use Rattle.walk.specs.Progress.{Progress}
use Rattle.walk.specs.Stands.{Stands}
use Rattle.walk.specs.Order.{Ordered}

-- an edge of a node that is done leads to one that was done before
leads_to_older : (edges : ℕ → List ℕ) (done : List ℕ) → DoneInOrder edges done → (k x m y : ℕ) → slice_get done k ≡ Some x → slice_get (edges x) m ≡ Some y →
    (j : ℕ) × (k < j) × (slice_get done j ≡ Some y)
leads_to_older edges [] none_done k x m y e leads = impossible (cc)
leads_to_older edges (z ∷ done) (done_with before rest) zero x m y e leads =
    let same : x ≡ z = cc in
    let p = before m y (rw same at leads) in
    (suc p.0, omega arith, p.1)
leads_to_older edges (z ∷ done) (done_with before rest) (suc k) x m y e leads = let r = leads_to_older edges done rest k x m y e leads in (suc r.0, let l = r.1 in omega arith, r.2)

-- the places of a list, from its end
module _ (xs : List ℕ) where
  from_end : (i : ℕ) → i < length xs → slice_get xs (length xs - 1 - i) ≡ Some (get_or (reverse xs) i 0)
  from_end i h = grind (arith, common_steps, gets, get_or-reverse xs i 0)

  to_end : (k x : ℕ) → slice_get xs k ≡ Some x → (length xs - 1 - k < length xs) × (get_or (reverse xs) (length xs - 1 - k) 0 ≡ x)
  to_end k x e = grind (arith, common_steps, gets, nth_below xs k e, get_or-reverse xs (length xs - 1 - k) 0)

pub walk_is_ordered : (edges : ℕ → List ℕ) (n : ℕ) (p : Progress) → length p.done ≤ 2048 → Stands edges n p → Ordered edges p
walk_is_ordered edges n p few s = record {
  place_is_done = λ i h. (length p.done - 1 - i, from_end p.done i h);
  done_has_place = λ x q. let e = to_end p.done q.0 x q.1 in (length p.done - 1 - q.0, e.0, e.1);
  edges_lead_back = λ i k y h leads.
      let older = leads_to_older edges p.done s.in_order (length p.done - 1 - i) _ k y (from_end p.done i h) leads in
      let below = nth_below p.done older.0 older.2 in
      let l = older.1 in
      (length p.done - 1 - older.0, omega arith, (to_end p.done older.0 y older.2).1);
  one_place = λ i j h h' e. let same = s.done_once _ _ _ (from_end p.done i h) (from_end p.done j h' ∙ ap Some (sym e)) in omega arith;
  few_places = few;
}
