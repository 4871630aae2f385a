-- Feed has one answer. Assumes nothing.
use Rattle.std.proofs.Common.{◌≡◌, ℕ, zero, suc, ◌-◌, ◌<◌, ◌≤◌, List, length, drop, Some, None, Option, sym, refl, ap, subst, arith, length-append, length-drop}
use Rattle.std.proofs.Math.Decide.{dec_le}
use Rattle.theory.specs.Meaning.{Meaning, Lawful}
use Rattle.theory.specs.States.{State, empty_state}
use Rattle.theory.proofs.Impossible.{impossible}
use Rattle.plan.specs.Items as plan
use Rattle.plan.specs.Reading.{most_words, Reading, item, refused, ended, Begins, at_item, Stands}
use Rattle.plan.proofs.Unique.{one_reading, stands_once}
use Rattle.workspace.specs.declared.fault.Fault.{Fault}
use Rattle.workspace.specs.Promise.{Reached, opened, after_unknown, after_term, after_join, Same, Determined}
use Rattle.workspace.proofs.Determined.{calls_have_one_answer}
use Rattle.feed.specs.Feeding.{fault_of, ItemCall, unknown_done, term_done, link_done, FeedAnswer, unread, undone, Feeding, all_done, no_item, item_refused, item_done, FeedCall, too_long, from_empty}
use Rattle.feed.specs.Answering.{FeedHasOneAnswer}

-- where an item stands, a plan may hold it, and it has a word
pub item_proper : (m : Meaning) (i : plan.Item) (left : List ℕ) → Begins m left (item i) → plan.Proper m i
item_proper m i left (at_item rest p e) = p

item_within : (m : Meaning) (i : plan.Item) (left : List ℕ) → Begins m left (item i) → 0 < length left
item_within m i left (at_item rest p e) = omega (arith, ap length e, length-append (plan.written i) rest)

module _ (m : Meaning) (lawful : Lawful m) where
  determined : (s : State) → Reached m s → Determined m s
  determined s h = calls_have_one_answer m lawful s h

  item_some : (s : State) → Determined m s → (i : plan.Item) → (o : Option Fault) × (t : State) × ItemCall m s i o t
  item_some s d (plan.unknown set) = let c = d.unknown_some set in (_, _, unknown_done c.0 c.2)
  item_some s d (plan.term code cells) = let c = d.term_some code cells in (_, _, term_done c.0 c.2)
  item_some s d (plan.link left right) = let c = d.join_some left right in (_, _, link_done c.0 c.2)

  item_once : (s : State) → Determined m s → (i : plan.Item) (o q : Option Fault) (t u : State) → ItemCall m s i o t → ItemCall m s i q u → Same o q t u
  item_once s d i o q t u (unknown_done {set = set} r x) (unknown_done r' y) =
      let e = d.unknown_one set r r' t u x y in record { answer = ap fault_of e.answer; left = e.left }
  item_once s d i o q t u (term_done {code = code} {cells = cells} r x) (term_done r' y) =
      let e = d.term_one code cells r r' t u x y in record { answer = ap fault_of e.answer; left = e.left }
  item_once s d i o q t u (link_done {left = left} {right = right} r x) (link_done r' y) =
      let e = d.join_one left right r r' t u x y in record { answer = ap fault_of e.answer; left = e.left }

  pub item_leads : (s t : State) (i : plan.Item) (o : Option Fault) → plan.Proper m i → Reached m s → ItemCall m s i o t → Reached m t
  item_leads s t i o p h (unknown_done {set = set} r x) = after_unknown set p h x
  item_leads s t i o p h (term_done {code = code} {cells = cells} r x) = after_term code cells h x
  item_leads s t i o p h (link_done {left = left} {right = right} r x) = after_join left right h x

  module _ (words : List ℕ) where
    pub leads : (p k : ℕ) (s t : State) (a : FeedAnswer) → Reached m s → Feeding m words p k s a t → Reached m t
    leads p k s t a h (all_done st) = h
    leads p k s t a h (no_item st) = h
    leads p k s t a h (item_refused {i = i} st c) = item_leads s t i _ (item_proper m i (drop p words) st.begins) h c
    leads p k s t a h (item_done {n = n} {t = mid} {i = i} st c f) =
        leads n (suc k) mid t a (item_leads s mid i _ (item_proper m i (drop p words) st.begins) h c) f

    pub reads_one : (p n n' : ℕ) (r q : Reading) → Stands m words p r n → Stands m words p q n' → (q ≡ r) × (n' ≡ n)
    reads_one p n n' r q x y = stands_once m lawful.small_codes words p r q n n' x y

    -- one item behind a position gives one place to go on from
    moved : (k n n' : ℕ) (s s' : State) (a : FeedAnswer) (t : State) → n' ≡ n → s ≡ s' → Feeding m words n' k s' a t → Feeding m words n k s a t
    moved k n n' s s' a t e f x = subst (λ (z : State). Feeding m words n k z a t) (sym f) (subst (λ (y : ℕ). Feeding m words y k s' a t) e x)

    same_item : (p n n' : ℕ) (s u : State) (i i' : plan.Item) (o : Option Fault) → Stands m words p (item i) n → Stands m words p (item i') n' → ItemCall m s i' o u → ItemCall m s i o u
    same_item p n n' s u i i' o x y c =
        let e = (reads_one p n n' (item i) (item i') x y).0 in
        let j : i' ≡ i = cc in subst (λ (z : plan.Item). ItemCall m s z o u) j c

    once : (p k : ℕ) (s t u : State) (a b : FeedAnswer) → Reached m s → Feeding m words p k s a t → Feeding m words p k s b u → Same a b t u
    once p k s t u a b h (all_done x) (all_done y) = record { answer = refl; left = refl }
    once p k s t u a b h (all_done x) (no_item y) = let e = (reads_one p _ _ _ _ x y).0 in impossible (cc)
    once p k s t u a b h (all_done x) (item_refused y c) = let e = (reads_one p _ _ _ _ x y).0 in impossible (cc)
    once p k s t u a b h (all_done x) (item_done y c f) = let e = (reads_one p _ _ _ _ x y).0 in impossible (cc)
    once p k s t u a b h (no_item x) (all_done y) = let e = (reads_one p _ _ _ _ x y).0 in impossible (cc)
    once p k s t u a b h (no_item {f = f} x) (no_item {f = g} y) = let e = (reads_one p _ _ _ _ x y).0 in record { answer = (let j : f ≡ g = cc in ap (unread p) j); left = refl }
    once p k s t u a b h (no_item x) (item_refused y c) = let e = (reads_one p _ _ _ _ x y).0 in impossible (cc)
    once p k s t u a b h (no_item x) (item_done y c f) = let e = (reads_one p _ _ _ _ x y).0 in impossible (cc)
    once p k s t u a b h (item_refused x c) (all_done y) = let e = (reads_one p _ _ _ _ x y).0 in impossible (cc)
    once p k s t u a b h (item_refused x c) (no_item y) = let e = (reads_one p _ _ _ _ x y).0 in impossible (cc)
    once p k s t u a b h (item_refused {n = n} {i = i} {f = f} x c) (item_refused {n = n'} {i = i'} {f = g} y d) =
        let e = item_once s (determined s h) i (Some f) (Some g) t u c (same_item p n n' s u i i' (Some g) x y d) in
        let q = e.answer in
        record { answer = (let j : f ≡ g = cc in ap (undone p) j); left = e.left }
    once p k s t u a b h (item_refused {n = n} {i = i} {f = f} x c) (item_done {n = n'} {t = mid} {i = i'} y d g) =
        let e = item_once s (determined s h) i (Some f) None t mid c (same_item p n n' s mid i i' None x y d) in let q = e.answer in impossible (cc)
    once p k s t u a b h (item_done x c g) (all_done y) = let e = (reads_one p _ _ _ _ x y).0 in impossible (cc)
    once p k s t u a b h (item_done x c g) (no_item y) = let e = (reads_one p _ _ _ _ x y).0 in impossible (cc)
    once p k s t u a b h (item_done {n = n} {t = mid} {i = i} x c g) (item_refused {n = n'} {i = i'} {f = f} y d) =
        let e = item_once s (determined s h) i None (Some f) mid u c (same_item p n n' s u i i' (Some f) x y d) in let q = e.answer in impossible (cc)
    once p k s t u a b h (item_done {n = n} {t = mid} {i = i} x c f) (item_done {n = n'} {t = mid'} {i = i'} y d g) =
        let e = item_once s (determined s h) i None None mid mid' c (same_item p n n' s mid' i i' None x y d) in
        let r = (reads_one p n n' (item i) (item i') x y).1 in
        once n (suc k) mid t u a b (item_leads s mid i None (item_proper m i (drop p words) x.begins) h c) f (moved (suc k) n n' mid mid' b u r e.left g)

    -- what feed comes to from a position on
    abbrev Comes : (p k : ℕ) (s : State) → Type 0
    Comes p k s = (a : FeedAnswer) × (t : State) × Feeding m words p k s a t

    by_call : (fuel : ℕ) → ((p k : ℕ) (s : State) → length words - p ≤ fuel → Reached m s → Comes p k s) → (p k : ℕ) (s : State) → length words - p ≤ suc fuel → Reached m s →
        (i : plan.Item) (n : ℕ) → Stands m words p (item i) n → (o : Option Fault) (t : State) → ItemCall m s i o t → Comes p k s
    by_call fuel go p k s l h i n x (Some f) t c = (_, _, item_refused x c)
    by_call fuel go p k s l h i n x None t c =
        let w = item_within m i (drop p words) x.begins in
        let d = length-drop p words in
        let o = x.onward in
        let rest = go n (suc k) t (omega arith) (item_leads s t i None (item_proper m i (drop p words) x.begins) h c) in
        (rest.0, rest.1, item_done x c rest.2)

    by_reading : (fuel : ℕ) → ((p k : ℕ) (s : State) → length words - p ≤ fuel → Reached m s → Comes p k s) → (p k : ℕ) (s : State) → length words - p ≤ suc fuel → Reached m s →
        (r : Reading) (n : ℕ) → Stands m words p r n → Comes p k s
    by_reading fuel go p k s l h ended n x = (_, _, all_done x)
    by_reading fuel go p k s l h (refused f) n x = (_, _, no_item x)
    by_reading fuel go p k s l h (item i) n x = let c = item_some s (determined s h) i in by_call fuel go p k s l h i n x c.0 c.1 c.2

    at_last : (p k : ℕ) (s : State) → length words - p ≤ 0 → (r : Reading) (n : ℕ) → Stands m words p r n → Comes p k s
    at_last p k s l ended n x = (_, _, all_done x)
    at_last p k s l (refused f) n x = (_, _, no_item x)
    at_last p k s l (item i) n x = absurd (omega (arith, item_within m i (drop p words) x.begins, length-drop p words))

    some_from : (fuel p k : ℕ) (s : State) → length words - p ≤ fuel → Reached m s → Comes p k s
    some_from zero p k s l h = let r = one_reading m lawful.small_codes words p in at_last p k s l r.0 r.1 r.2
    some_from (suc fuel) p k s l h = let r = one_reading m lawful.small_codes words p in by_reading fuel (some_from fuel) p k s l h r.0 r.1 r.2

  feed_some : (s : State) (words : List ℕ) → Dec (length words ≤ most_words) → (a : FeedAnswer) × (t : State) × FeedCall m s words a t
  feed_some s words (no n) = (_, _, too_long (omega arith))
  feed_some s words (yes h) = let f = some_from words (length words) 0 0 empty_state (omega arith) opened in (f.0, f.1, from_empty h f.2)

  feed_one : (s : State) (words : List ℕ) (a b : FeedAnswer) (t u : State) → FeedCall m s words a t → FeedCall m s words b u → Same a b t u
  feed_one s words a b t u (too_long x) (too_long y) = record { answer = refl; left = refl }
  feed_one s words a b t u (too_long x) (from_empty y f) = absurd (omega arith)
  feed_one s words a b t u (from_empty x f) (too_long y) = absurd (omega arith)
  feed_one s words a b t u (from_empty x f) (from_empty y g) = once words 0 0 empty_state t u a b opened f g

  feed_leads : (s t : State) (words : List ℕ) (a : FeedAnswer) → Reached m s → FeedCall m s words a t → Reached m t
  feed_leads s t words a h (too_long x) = h
  feed_leads s t words a h (from_empty x f) = leads words 0 0 empty_state t a opened f

pub feed_has_one_answer : FeedHasOneAnswer
feed_has_one_answer m lawful s h = record {
  feed_some = λ words. feed_some m lawful s words (dec_le (length words) most_words);
  feed_one = feed_one m lawful s;
  feed_leads = λ words a t. feed_leads m lawful s t words a h;
}
