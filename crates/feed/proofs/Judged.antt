-- Feed judges plans by their links. Assumes nothing.
use Rattle.std.proofs.Common.{◌≡◌, ℕ, suc, ◌+◌, List, [], ◌∷◌, ◌++◌, length, Some, None, Option, sym, refl, ap, ◌∙◌, subst, arith}
use Rattle.theory.specs.Meaning.{Meaning, Lawful}
use Rattle.theory.specs.Types.{Tree}
use Rattle.theory.specs.States.{State, empty_state, with_equation}
use Rattle.theory.specs.Assignments.{AssignsUnclassed, Assigns}
use Rattle.theory.proofs.Impossible.{impossible}
use Rattle.plan.specs.Items as plan
use Rattle.plan.specs.Reading.{item, Stands, Read, none_read, read_on}
use Rattle.workspace.specs.declared.fault.Fault.{Fault}
use Rattle.workspace.specs.declared.fault.Fault.TheVariants.{NoTypes, NoClasses}
use Rattle.workspace.specs.Calls.{unknown_full, unknown_no_code, unknown_made, term_no_code, term_wrong_count, term_no_cell, term_full, term_made, join_no_cell, join_no_types, join_no_classes, join_accepted, NoneUnclassed, NoneClassed}
use Rattle.workspace.specs.Promise.{Reached, opened}
use Rattle.workspace.proofs.Promised.{reached_states_keep_the_promise}
use Rattle.feed.specs.Feeding.{ItemCall, unknown_done, term_done, link_done, FeedAnswer, fed, undone, Feeding, all_done, item_refused, item_done, FeedCall, from_empty}
use Rattle.feed.specs.Judging.{with_item, with_items, ItemsFrom, no_more, one_more, Accepted, FirstBadLink, PlansAreJudged}
use Rattle.feed.proofs.Fed.{reads_one, leads}
use Rattle.feed.proofs.Restricted.{without_items}

with_items_on : (s : State) (is : List plan.Item) (i : plan.Item) → with_items s (is ++ i ∷ []) ≡ with_item (with_items s is) i
with_items_on s [] i = refl
with_items_on s (x ∷ xs) i = with_items_on (with_item s x) xs i

module _ (m : Meaning) where
  -- an item that is done adds its cell or its link
  item_adds : (s t : State) (i : plan.Item) (o : Option Fault) → o ≡ None → ItemCall m s i o t → t ≡ with_item s i
  item_adds s t i o e (unknown_done r (unknown_full h)) = impossible (cc)
  item_adds s t i o e (unknown_done r (unknown_no_code h n)) = impossible (cc)
  item_adds s t i o e (unknown_done r (unknown_made h c)) = refl
  item_adds s t i o e (term_done r (term_no_code h)) = impossible (cc)
  item_adds s t i o e (term_done r (term_wrong_count h n)) = impossible (cc)
  item_adds s t i o e (term_done r (term_no_cell h l c f)) = impossible (cc)
  item_adds s t i o e (term_done r (term_full h l st n)) = impossible (cc)
  item_adds s t i o e (term_done r (term_made h l st rm)) = refl
  item_adds s t i o e (link_done r (join_no_cell c f)) = impossible (cc)
  item_adds s t i o e (link_done r (join_no_types x y none)) = impossible (cc)
  item_adds s t i o e (link_done r (join_no_classes x y ty u none)) = impossible (cc)
  item_adds s t i o e (link_done r (join_accepted x y ty given)) = refl

  -- what an item that is refused with 7 is, and what it says
  refused_for_types : (s t : State) (i : plan.Item) (o : Option Fault) (left right : ℕ) → o ≡ Some (NoTypes left right) → ItemCall m s i o t →
      (i ≡ plan.link left right) × (t ≡ s) × NoneUnclassed m (with_equation s left right)
  refused_for_types s t i o left right e (unknown_done r (unknown_full h)) = impossible (cc)
  refused_for_types s t i o left right e (unknown_done r (unknown_no_code h n)) = impossible (cc)
  refused_for_types s t i o left right e (unknown_done r (unknown_made h c)) = impossible (cc)
  refused_for_types s t i o left right e (term_done r (term_no_code h)) = impossible (cc)
  refused_for_types s t i o left right e (term_done r (term_wrong_count h n)) = impossible (cc)
  refused_for_types s t i o left right e (term_done r (term_no_cell h l c f)) = impossible (cc)
  refused_for_types s t i o left right e (term_done r (term_full h l st n)) = impossible (cc)
  refused_for_types s t i o left right e (term_done r (term_made h l st rm)) = impossible (cc)
  refused_for_types s t i o left right e (link_done r (join_no_cell c f)) = impossible (cc)
  refused_for_types s t i o left right e (link_done {left = l} {right = r} q (join_no_types x y none)) =
      let a : l ≡ left = cc in
      let b : r ≡ right = cc in
      (cc, refl, subst (λ (z : ℕ). NoneUnclassed m (with_equation s z right)) a (subst (λ (z : ℕ). NoneUnclassed m (with_equation s l z)) b none))
  refused_for_types s t i o left right e (link_done r (join_no_classes x y ty u none)) = impossible (cc)
  refused_for_types s t i o left right e (link_done r (join_accepted x y ty given)) = impossible (cc)

  abbrev OnlyUnclassed : State → Type 0
  OnlyUnclassed s = ((type_of : ℕ → Tree) × AssignsUnclassed m s type_of) × NoneClassed m s

  -- and with 8
  refused_for_classes : (s t : State) (i : plan.Item) (o : Option Fault) (left right : ℕ) → o ≡ Some (NoClasses left right) → ItemCall m s i o t →
      (i ≡ plan.link left right) × (t ≡ s) × OnlyUnclassed (with_equation s left right)
  refused_for_classes s t i o left right e (unknown_done r (unknown_full h)) = impossible (cc)
  refused_for_classes s t i o left right e (unknown_done r (unknown_no_code h n)) = impossible (cc)
  refused_for_classes s t i o left right e (unknown_done r (unknown_made h c)) = impossible (cc)
  refused_for_classes s t i o left right e (term_done r (term_no_code h)) = impossible (cc)
  refused_for_classes s t i o left right e (term_done r (term_wrong_count h n)) = impossible (cc)
  refused_for_classes s t i o left right e (term_done r (term_no_cell h l c f)) = impossible (cc)
  refused_for_classes s t i o left right e (term_done r (term_full h l st n)) = impossible (cc)
  refused_for_classes s t i o left right e (term_done r (term_made h l st rm)) = impossible (cc)
  refused_for_classes s t i o left right e (link_done r (join_no_cell c f)) = impossible (cc)
  refused_for_classes s t i o left right e (link_done r (join_no_types x y none)) = impossible (cc)
  refused_for_classes s t i o left right e (link_done {left = l} {right = r} q (join_no_classes x y ty u none)) =
      let a : l ≡ left = cc in
      let b : r ≡ right = cc in
      (cc, refl, subst (λ (z : ℕ). OnlyUnclassed (with_equation s z right)) a (subst (λ (z : ℕ). OnlyUnclassed (with_equation s l z)) b ((ty, u), none)))
  refused_for_classes s t i o left right e (link_done r (join_accepted x y ty given)) = impossible (cc)

  module _ (words : List ℕ) where
    -- what a plan that is accepted adds
    record Adds (p k count : ℕ) (s t : State) : Type 0 where
      items : List plan.Item
      whole : ItemsFrom m words p items
      counted : count ≡ k + length items
      state : t ≡ with_items s items

    adds : (p k count : ℕ) (s t : State) → Feeding m words p k s (fed count) t → Adds p k count s t
    adds p k count s t (all_done x) = record { items = []; whole = no_more x; counted = omega arith; state = refl }
    adds p k count s t (item_done {n = n} {t = mid} {i = i} x c f) =
        let r = adds n (suc k) count mid t f in
        let e = item_adds s mid i None refl c in
        record {
          items = i ∷ r.items;
          whole = one_more x r.whole;
          counted = r.counted ∙ (omega arith);
          state = r.state ∙ ap (λ (z : State). with_items z r.items) e;
        }

    -- the item whose call is refused, and the items before it
    record RefusedItem (q : ℕ) (f : Fault) (t : State) : Type 0 where
      before : List plan.Item
      read : Read m words before q
      i : plan.Item
      next : ℕ
      stands : Stands m words q (item i) next
      from : State
      state : from ≡ with_items empty_state before
      call : ItemCall m from i (Some f) t

    refused_item : (p k q : ℕ) (s t : State) (f : Fault) (done : List plan.Item) → Read m words done p → s ≡ with_items empty_state done → Feeding m words p k s (undone q f) t → RefusedItem q f t
    refused_item p k q s t f done r e (item_refused {n = n} {i = i} x c) = record { before = done; read = r; i = i; next = n; stands = x; from = s; state = e; call = c }
    refused_item p k q s t f done r e (item_done {n = n} {t = mid} {i = i} x c g) =
        refused_item n (suc k) q mid t f (done ++ i ∷ []) (read_on r x) (item_adds s mid i None refl c ∙ ap (λ (z : State). with_item z i) e ∙ sym (with_items_on empty_state done i)) g

    -- a plan that has an assignment meets no refusal that leaves none
    never : (f : Fault) → ((s t : State) (i : plan.Item) (type_of : ℕ → Tree) → ItemCall m s i (Some f) t → Assigns m (with_item s i) type_of → ⊥) → Lawful m →
        (p k q : ℕ) (s t : State) (items : List plan.Item) (type_of : ℕ → Tree) → ItemsFrom m words p items → Assigns m (with_items s items) type_of → Feeding m words p k s (undone q f) t → ⊥
    never f bad lawful p k q s t items type_of (no_more y) a (item_refused x c) = let e = (reads_one m lawful words p _ _ _ _ x y).0 in impossible (cc)
    never f bad lawful p k q s t items type_of (no_more y) a (item_done x c g) = let e = (reads_one m lawful words p _ _ _ _ x y).0 in impossible (cc)
    never f bad lawful p k q s t items type_of (one_more {i = j} {is = is} y rest) a (item_refused {i = i} x c) =
        let e = (reads_one m lawful words p _ _ _ _ x y).0 in
        let same : j ≡ i = cc in
        bad s t i type_of c (without_items m type_of (with_item s i) is (subst (λ (z : plan.Item). Assigns m (with_items (with_item s z) is) type_of) same a))
    never f bad lawful p k q s t items type_of (one_more {n = n'} {i = j} {is = is} y rest) a (item_done {n = n} {t = mid} {i = i} x c g) =
        let r = reads_one m lawful words p n n' (item i) (item j) x y in
        let e = r.0 in
        let same : j ≡ i = cc in
        let b : Assigns m (with_items (with_item s i) is) type_of = subst (λ (z : plan.Item). Assigns m (with_items (with_item s z) is) type_of) same a in
        never f bad lawful n (suc k) q mid t is type_of (subst (λ (z : ℕ). ItemsFrom m words z is) r.1 rest)
        (subst (λ (z : State). Assigns m (with_items z is) type_of) (sym (item_adds s mid i None refl c)) b) g

module _ (m : Meaning) (lawful : Lawful m) (s : State) (words : List ℕ) where
  assigned_after : (t : State) (a : FeedAnswer) → Feeding m words 0 0 empty_state a t → (type_of : ℕ → Tree) × Assigns m t type_of
  assigned_after t a f = (reached_states_keep_the_promise m lawful t (feed_leads_from t a f)).assigned
    where
      feed_leads_from : (t : State) (a : FeedAnswer) → Feeding m words 0 0 empty_state a t → Reached m t
      feed_leads_from t a f = leads m lawful words 0 0 empty_state t a opened f

  accepted : (count : ℕ) (t : State) → FeedCall m s words (fed count) t → Accepted m words count t
  accepted count t (from_empty h f) =
      let r = adds m words 0 0 count empty_state t f in
      let p = assigned_after t (fed count) f in
      record { items = r.items; whole = r.whole; counted = r.counted ∙ (omega arith); state = r.state; type_of = p.0; assigns = p.1 }

  -- a link that is refused, from the item that is
  bad_link : (q left right : ℕ) (f : Fault) (t : State) (r : RefusedItem m words q f t) → r.i ≡ plan.link left right → t ≡ r.from → ((type_of : ℕ → Tree) × Assigns m t type_of) →
      FirstBadLink m words q left right t
  bad_link q left right f t r e g p = record {
    before = r.before;
    read = r.read;
    next = r.next;
    stands = subst (λ (z : plan.Item). Stands m words q (item z) r.next) e r.stands;
    state = g ∙ r.state;
    type_of = p.0;
    assigns = p.1;
  }

  no_types : (q left right : ℕ) (t : State) → FeedCall m s words (undone q (NoTypes left right)) t → FirstBadLink m words q left right t × NoneUnclassed m (with_equation t left right)
  no_types q left right t (from_empty h f) =
      let r = refused_item m words 0 0 q empty_state t (NoTypes left right) [] none_read refl f in
      let c = refused_for_types m r.from t r.i (Some (NoTypes left right)) left right refl r.call in (
        bad_link q left right (NoTypes left right) t r c.0 c.1 (assigned_after t (undone q (NoTypes left right)) f),
        subst (λ (z : State). NoneUnclassed m (with_equation z left right)) (sym c.1) c.2,
      )

  no_classes : (q left right : ℕ) (t : State) → FeedCall m s words (undone q (NoClasses left right)) t →
      FirstBadLink m words q left right t × ((type_of : ℕ → Tree) × AssignsUnclassed m (with_equation t left right) type_of) × NoneClassed m (with_equation t left right)
  no_classes q left right t (from_empty h f) =
      let r = refused_item m words 0 0 q empty_state t (NoClasses left right) [] none_read refl f in
      let c = refused_for_classes m r.from t r.i (Some (NoClasses left right)) left right refl r.call in
      let k = subst (λ (z : State). OnlyUnclassed m (with_equation z left right)) (sym c.1) c.2 in
      (bad_link q left right (NoClasses left right) t r c.0 c.1 (assigned_after t (undone q (NoClasses left right)) f), k.0, k.1)

  never_types : (left right : ℕ) (u t : State) (i : plan.Item) (type_of : ℕ → Tree) → ItemCall m u i (Some (NoTypes left right)) t → Assigns m (with_item u i) type_of → ⊥
  never_types left right u t i type_of c a =
      let r = refused_for_types m u t i (Some (NoTypes left right)) left right refl c in
      r.2 type_of (subst (λ (z : plan.Item). Assigns m (with_item u z) type_of) r.0 a).unclassed

  never_classes : (left right : ℕ) (u t : State) (i : plan.Item) (type_of : ℕ → Tree) → ItemCall m u i (Some (NoClasses left right)) t → Assigns m (with_item u i) type_of → ⊥
  never_classes left right u t i type_of c a =
      let r = refused_for_classes m u t i (Some (NoClasses left right)) left right refl c in
      r.2.1 type_of (subst (λ (z : plan.Item). Assigns m (with_item u z) type_of) r.0 a)

  refused_never : (f : Fault) → ((u t : State) (i : plan.Item) (type_of : ℕ → Tree) → ItemCall m u i (Some f) t → Assigns m (with_item u i) type_of → ⊥) →
      (items : List plan.Item) → ItemsFrom m words 0 items → (type_of : ℕ → Tree) → Assigns m (with_items empty_state items) type_of → (q : ℕ) (t : State) → FeedCall m s words (undone q f) t → ⊥
  refused_never f bad items whole type_of a q t (from_empty h g) = never m words f bad lawful 0 0 q empty_state t items type_of whole a g

pub plans_are_judged : PlansAreJudged
plans_are_judged m lawful s words = record {
  accepted = accepted m lawful s words;
  no_types = no_types m lawful s words;
  no_classes = no_classes m lawful s words;
  not_refused = λ items whole type_of a p left right t. (
    refused_never m lawful s words (NoTypes left right) (never_types m lawful s words left right) items whole type_of a p t,
    refused_never m lawful s words (NoClasses left right) (never_classes m lawful s words left right) items whole type_of a p t,
  );
}
