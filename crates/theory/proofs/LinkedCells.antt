-- Cells that labels and pending pairs bring together. Assumes nothing.
use Rattle.std.proofs.Common.{◌≡◌, ℕ, List, [], ◌∷◌, map, Some, sym, refl, ◌∙◌}
use Rattle.std.specs.List.{slice_get}
use Rattle.theory.specs.Meaning.{layered_by, Meaning, Lawful}
use Rattle.theory.specs.Certificates.{Held, same_code, looping_pair}
use Rattle.theory.specs.Closures.{Linked, by_label, by_pending, linked_back, linked_on, LinkedLists, none_left, next_linked, HeldLinked, same_code_linked, looping_pair_linked}
use Rattle.theory.proofs.Impossible.{impossible}
use Rattle.theory.proofs.Layers.{layers_of}

-- what is linked stays linked, where equal labels stay equal and what was pending is linked
pub linked_into : {label : ℕ → ℕ} {pending : List (ℕ × ℕ)} {label' : ℕ → ℕ} {pending' : List (ℕ × ℕ)} →
    ((a b : ℕ) → label a ≡ label b → label' a ≡ label' b) →
    ((k a b : ℕ) → slice_get pending k ≡ Some (a, b) → Linked label' pending' a b) → {a b : ℕ} → Linked label pending a b → Linked label' pending' a b
linked_into f g (by_label e) = by_label (f _ _ e)
linked_into f g (by_pending k e) = g k _ _ e
linked_into f g (linked_back x) = linked_back (linked_into f g x)
linked_into f g (linked_on x y) = linked_on (linked_into f g x) (linked_into f g y)

-- where nothing is pending what is linked has one label
pub linked_label : {label : ℕ → ℕ} {a b : ℕ} → Linked label [] a b → label a ≡ label b
linked_label (by_label e) = e
linked_label (by_pending k e) = impossible (cc)
linked_label (linked_back x) = sym (linked_label x)
linked_label (linked_on x y) = linked_label x ∙ linked_label y

module _ {label : ℕ → ℕ} {pending : List (ℕ × ℕ)} where
  pub linked_lists_refl : (us : List ℕ) → LinkedLists label pending us us
  linked_lists_refl [] = none_left
  linked_lists_refl (a ∷ us) = next_linked (by_label refl) (linked_lists_refl us)

  pub linked_lists_on : {us vs zs : List ℕ} → LinkedLists label pending us vs → LinkedLists label pending vs zs → LinkedLists label pending us zs
  linked_lists_on none_left none_left = none_left
  linked_lists_on (next_linked x xs) (next_linked y ys) = next_linked (linked_on x y) (linked_lists_on xs ys)

  pub linked_lists_back : {us vs : List ℕ} → LinkedLists label pending us vs → LinkedLists label pending vs us
  linked_lists_back none_left = none_left
  linked_lists_back (next_linked x xs) = next_linked (linked_back x) (linked_lists_back xs)

pub linked_lists_into : {label label' : ℕ → ℕ} {pending pending' : List (ℕ × ℕ)} →
    ((a b : ℕ) → Linked label pending a b → Linked label' pending' a b) → {us vs : List ℕ} → LinkedLists label pending us vs →
    LinkedLists label' pending' us vs
linked_lists_into f none_left = none_left
linked_lists_into f (next_linked x xs) = next_linked (f _ _ x) (linked_lists_into f xs)

pub linked_lists_map : {label : ℕ → ℕ} {us vs : List ℕ} → LinkedLists label [] us vs → map label us ≡ map label vs
linked_lists_map none_left = refl
linked_lists_map (next_linked x xs) = let e = linked_label x in let es = linked_lists_map xs in cc

pub held_into : {m : Meaning} {label label' : ℕ → ℕ} {pending pending' : List (ℕ × ℕ)} →
    ((a b : ℕ) → Linked label pending a b → Linked label' pending' a b) →
    {r r' c d : ℕ} {ps qs : List ℕ} → Linked label' pending' r r' → HeldLinked m label pending r c ps d qs →
    HeldLinked m label' pending' r' c ps d qs
held_into f x (same_code_linked p l) = same_code_linked p (linked_lists_into f l)
held_into f x (looping_pair_linked h t e l p q u v) = looping_pair_linked h t e l p q (f _ _ u) (linked_on (f _ _ v) x)

pub held_now : {m : Meaning} {label : ℕ → ℕ} {r c d : ℕ} {ps qs : List ℕ} → label r ≡ r → HeldLinked m label [] r c ps d qs →
    Held m label r c ps d qs
held_now x (same_code_linked p l) = same_code p (linked_lists_map l)
held_now x (looping_pair_linked h t e l p q u v) = looping_pair h t e l p q (linked_label u) (linked_label v ∙ x)

module _ {m : Meaning} (lawful : Lawful m) {label : ℕ → ℕ} {pending : List (ℕ × ℕ)} where
  -- from one shape to another of the same code over linked cells
  pub held_over : {r c d : ℕ} {ps qs qs' : List ℕ} → LinkedLists label pending qs qs' → HeldLinked m label pending r c ps d qs →
      HeldLinked m label pending r c ps d qs'
  held_over x (same_code_linked p l) = same_code_linked p (linked_lists_on l x)
  held_over {r} {c} {d} {ps} {qs} {qs'} x (looping_pair_linked h t e l p q u v) = go (rw q at x)
    where
      go : {qs' : List ℕ} → LinkedLists label pending (e ∷ []) qs' → HeldLinked m label pending r c ps d qs'
      go (next_linked y none_left) = looping_pair_linked h t _ l p refl (linked_on u y) v

  -- from a Pair to the List over its first place, where the second is in its own class
  pub held_list : {r c pair list h t e : ℕ} {ps : List ℕ} → m.layering ≡ layered_by pair list → Linked label pending h e → Linked label pending t r →
      HeldLinked m label pending r c ps pair (h ∷ t ∷ []) → HeldLinked m label pending r c ps list (e ∷ [])
  held_list {r} {c} {pair} {list} {h} {t} {e} named x y (same_code_linked p (next_linked {a = a} u (next_linked {a = b} v none_left))) = looping_pair_linked a b e (cc) refl refl (linked_on u x) (linked_on v y)
  held_list named x y (looping_pair_linked h' t' e' l p q u v) = absurd ((layers_of lawful _ _ named).apart (cc))
