-- What was held at a mark stays what undoing gives, over a link more, a link less, and a new shape of a class linked since. Assumes nothing.
use Rattle.std.proofs.Common.{◌≡◌, ℕ, zero, suc, ◌+◌, ◌-◌, ◌<◌, ◌≤◌, List, set, sym, refl, ap, ◌∙◌, subst, arith}
use Rattle.std.proofs.lemmas.Bool.{cases_eq}
use Rattle.std.proofs.lemmas.List.{set-set, set_comm}
use Rattle.classes.specs.declared.forest.Entry.{Entry}
use Rattle.classes.specs.declared.forest.Classes.{Classes}
use Rattle.classes.specs.Views.{count_of, links_of, label_of, class_of, lower_of, upper_of, old_class_of}
use Rattle.classes.specs.Rewinding.{restored, SameEntries, Undone, Since, Same}

pub restored_same : {A : Type 0} (at at' : ℕ → ℕ) (old old' : ℕ → A) (mark j : ℕ) → ((k : ℕ) → k < mark + j → at' k ≡ at k) → ((k : ℕ) → k < mark + j → old' k ≡ old k)
    → (values : List A) → restored at' old' mark j values ≡ restored at old mark j values
unfolding restored
restored_same at at' old old' mark zero e q values = refl
restored_same at at' old old' mark (suc j) e q values =
    grind (arith, e (mark + j), q (mark + j), restored_same at at' old old' mark j (λ k h. e k (omega arith)) (λ k h. q k (omega arith)) (set values (at (mark + j)) (old (mark + j))))

-- a value that an entry since the mark puts back does not matter
pub restored_over : {A : Type 0} (at : ℕ → ℕ) (old : ℕ → A) (mark j k u : ℕ) (v : A) → mark ≤ k → k < mark + j → at k ≡ u → (values : List A)
    → restored at old mark j (set values u v) ≡ restored at old mark j values
unfolding restored
restored_over at old mark zero k u v low high e values = absurd (omega arith)
restored_over at old mark (suc j) k u v low high e values =
    grind (arith, cases_eq (at (mark + j)) u, cases_eq k (mark + j), set-set values u v (old (mark + j)), set_comm values u (at (mark + j)) v (old (mark + j)), restored_over at old mark j k u v low)

-- one entry more, which puts back what there was before
pub restored_step : {A : Type 0} (at at' : ℕ → ℕ) (old old' : ℕ → A) (mark j m : ℕ) (before after : List A) → mark + j ≡ m
    → ((k : ℕ) → k < m → at k ≡ at' k) → ((k : ℕ) → k < m → old k ≡ old' k) → before ≡ set after (at' m) (old' m)
    → restored at' old' mark (suc j) after ≡ restored at old mark j before
unfolding restored
restored_step at at' old old' mark j m before after here same_at same_old back =
    grind (arith, restored_same at at' old old' mark j (λ k h. sym (same_at k (omega arith))) (λ k h. sym (same_old k (omega arith))) before)

pub same_entries_refl : {n : ℕ} {c : Classes} → SameEntries n c c
same_entries_refl = record { entries = λ k h. refl; uppers = λ k h. refl }

pub same_entries_sym : {n : ℕ} {a b : Classes} → SameEntries n a b → SameEntries n b a
same_entries_sym e = record { entries = λ k h. sym (e.entries k h); uppers = λ k h. sym (e.uppers k h) }

pub same_entries_trans : {n : ℕ} {a b c : Classes} → SameEntries n a b → SameEntries n b c → SameEntries n a c
same_entries_trans p q = record { entries = λ k h. q.entries k h ∙ p.entries k h; uppers = λ k h. q.uppers k h ∙ p.uppers k h }

pub fewer_entries : {n m : ℕ} {a b : Classes} → n ≤ m → SameEntries m a b → SameEntries n a b
fewer_entries le e = record { entries = λ k h. e.entries k (omega arith); uppers = λ k h. e.uppers k (omega arith) }

module _ {n : ℕ} {a b : Classes} (e : SameEntries n a b) where
  pub same_lowers : (k : ℕ) → k < n → lower_of b k ≡ lower_of a k
  same_lowers k h = ap (λ (x : Entry). x.lower) (e.entries k h)

  pub same_olds : (k : ℕ) → k < n → old_class_of b k ≡ old_class_of a k
  same_olds k h = ap (λ (x : Entry). x.was) (e.entries k h)

-- `short` is `long` with its last link undone
module _ (long short : Classes) (u : Undone long short) (mark since : ℕ) (here : mark + since ≡ links_of short) where
  parents_step : restored (lower_of long) (lower_of long) mark (suc since) long.parents ≡ restored (lower_of short) (lower_of short) mark since short.parents
  parents_step = restored_step _ _ _ _ mark since (links_of short) short.parents long.parents here (same_lowers u.entries) (same_lowers u.entries) u.parents

  classes_step : restored (upper_of long) (old_class_of long) mark (suc since) long.classes ≡ restored (upper_of short) (old_class_of short) mark since short.classes
  classes_step = restored_step _ _ _ _ mark since (links_of short) short.classes long.classes here u.entries.uppers (same_olds u.entries) u.classes

-- a link more keeps what was held at a mark
pub since_longer : (long short : Classes) → Undone long short → (first : Classes) (mark : ℕ) → Since mark first short → Since mark first long
unfolding Since
since_longer long short u first mark s = record {
  since = suc s.since;
  more = grind (arith, s.more, u.links);
  at_mark = s.at_mark;
  count = sym u.count ∙ s.count;
  parents = parents_step long short u mark s.since s.more ∙ s.parents;
  classes = classes_step long short u mark s.since s.more ∙ s.classes;
  entries = same_entries_trans s.entries (same_entries_sym (fewer_entries (grind (arith, s.more)) u.entries));
}

-- and so does a link less, down to the mark
pub since_shorter : (long short : Classes) → Undone long short → (first : Classes) (mark : ℕ) → mark ≤ links_of short → Since mark first long → Since mark first short
unfolding Since
since_shorter long short u first mark low l =
    let since : ℕ = links_of short - mark in
    let here : mark + since ≡ links_of short = omega arith in
    let one : l.since ≡ suc since = grind (arith, l.more, u.links) in
    record {
      since = since;
      more = here;
      at_mark = l.at_mark;
      count = u.count ∙ l.count;
      parents = sym (parents_step long short u mark since here) ∙ (rw one at l.parents);
      classes = sym (classes_step long short u mark since here) ∙ (rw one at l.classes);
      entries = same_entries_trans l.entries (fewer_entries low u.entries);
    }

-- for callers: nothing is to be undone yet
pub since_now : (c : Classes) → Since (links_of c) c c
unfolding Since restored
since_now c = record {
  since = 0;
  more = omega arith;
  at_mark = refl;
  count = refl;
  parents = refl;
  classes = refl;
  entries = same_entries_refl;
}

-- with no links since the mark all is as it was there
pub since_all_undone : (was now : Classes) → Since (links_of now) was now → Same was now
unfolding Since restored label_of class_of
since_all_undone was now s =
    let none : s.since ≡ 0 = grind (arith, s.more) in
    let parents : now.parents ≡ was.parents = rw none at s.parents in
    let classes : now.classes ≡ was.classes = rw none at s.classes in
    record {
      count = s.count;
      links = sym s.at_mark;
      labels = λ i. rw (parents, s.count) refl;
      shapes = λ i. rw classes refl;
      sets = λ i. rw classes refl;
      sizes = λ i. rw classes refl;
      entries = subst (λ (n : ℕ). SameEntries n was now) (sym s.at_mark) s.entries;
    }

-- for callers: the mark does not lie beyond the links
pub since_mark : (mark : ℕ) (was now : Classes) → Since mark was now → (mark ≤ links_of now) × (links_of was ≡ mark) × (count_of now ≡ count_of was) × SameEntries mark was now
unfolding Since
since_mark mark was now s = (grind (arith, s.more), s.at_mark, s.count, s.entries)
