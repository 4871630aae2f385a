-- What one state joins, another joins that has its cells and its equations, over a meaning that agrees. Assumes nothing.
use Rattle.std.proofs.Common.{◌≡◌, ℕ, ◌⊎◌, List, Some, sym, refl, ap, ◌∙◌, inl, inr}
use Rattle.std.specs.List.{slice_get}
use Rattle.theory.specs.Meaning.{layered_by, Meaning, Agree}
use Rattle.theory.specs.States.{Cell, State, Equation}
use Rattle.theory.specs.Joined.{PairTerm, ListTerm, Joined, equation, reflexive, symmetric, transitive, places, list_meets_pair_first, list_meets_pair_tail, ring, Reaches, next_pair, onward}
use Rattle.theory.specs.ListLike.{ListLike, joined_list, joined_loop}
use Rattle.theory.specs.ClassUnions.{HasClass}
use Rattle.theory.specs.Certificates.{Backed, by_term, by_list_like}
use Rattle.theory.specs.SameEquations.{EquationsWithin}

pub agree_back : {m n : Meaning} → Agree m n → Agree n m
agree_back agree = record {
  same_known = λ c. sym (agree.same_known c);
  same_plain = λ c. sym (agree.same_plain c);
  same_places = λ c. sym (agree.same_places c);
  same_classes = λ c. sym (agree.same_classes c);
  same_layering = sym agree.same_layering;
}

pub agree_same : (m : Meaning) → Agree m m
agree_same m = record { same_known = λ c. refl; same_plain = λ c. refl; same_places = λ c. refl; same_classes = λ c. refl; same_layering = refl }

module _ {m n : Meaning} (agree : Agree m n) where
  -- what a layering names by plain codes, in the one meaning and in the other
  pub pair_named : (c list : ℕ) → m.layering ≡ layered_by (m.plain c) list → n.layering ≡ layered_by (n.plain c) list
  pair_named c list named = sym agree.same_layering ∙ named ∙ ap (λ d. layered_by d list) (agree.same_plain c)

  pub list_named : (c pair : ℕ) → m.layering ≡ layered_by pair (m.plain c) → n.layering ≡ layered_by pair (n.plain c)
  list_named c pair named = sym agree.same_layering ∙ named ∙ ap (layered_by pair) (agree.same_plain c)

  pub one_plain : (c d : ℕ) → m.plain c ≡ m.plain d → n.plain c ≡ n.plain d
  one_plain c d e = sym (agree.same_plain c) ∙ e ∙ agree.same_plain d

  module _ {s s' : State} (carries : (i : ℕ) (x : Cell) → slice_get s.cells i ≡ Some x → slice_get s'.cells i ≡ Some x) where
    pair_term_carried : {i first tail : ℕ} → PairTerm m s i first tail → PairTerm n s' i first tail
    pair_term_carried p = record { code = p.code; list = p.list; named = pair_named p.code p.list p.named; stands = carries _ _ p.stands }

    list_term_carried : {i element : ℕ} → ListTerm m s i element → ListTerm n s' i element
    list_term_carried l = record { code = l.code; pair = l.pair; named = list_named l.code l.pair l.named; stands = carries _ _ l.stands }

    module _ (within : EquationsWithin s s') where
      mutual
        pub joined_carried : {a b : ℕ} → Joined m s a b → Joined n s' a b
        joined_carried (equation {a} {b} e) = go (within a b e)
          where
            go : Equation s' a b ⊎ Equation s' b a → Joined n s' a b
            go (inl x) = equation x
            go (inr x) = symmetric (equation x)
        joined_carried reflexive = reflexive
        joined_carried (symmetric j) = symmetric (joined_carried j)
        joined_carried (transitive j k) = transitive (joined_carried j) (joined_carried k)
        joined_carried (places {c = c} {d = d} k t u e j hp hq) = places k (carries _ _ t) (carries _ _ u) (one_plain c d e) (joined_carried j) hp hq
        joined_carried (list_meets_pair_first l p j) = list_meets_pair_first (list_term_carried l) (pair_term_carried p) (joined_carried j)
        joined_carried (list_meets_pair_tail l p j) = list_meets_pair_tail (list_term_carried l) (pair_term_carried p) (joined_carried j)
        joined_carried (ring x y) = ring (reaches_carried x) (reaches_carried y)

        reaches_carried : {a b : ℕ} → Reaches m s a b → Reaches n s' a b
        reaches_carried (next_pair p q j) = next_pair (pair_term_carried p) (pair_term_carried q) (joined_carried j)
        reaches_carried (onward x y) = onward (reaches_carried x) (reaches_carried y)

      pub list_like_carried : {i list element : ℕ} → ListLike m s i list element → ListLike n s' i list element
      list_like_carried {list = list} (joined_list j pair c a t p l) =
          joined_list j pair c (joined_carried a) (carries _ _ t) (sym (agree.same_plain c) ∙ p) (sym agree.same_layering ∙ l)
      list_like_carried {list = list} (joined_loop j u c a t l r) = joined_loop j u c (joined_carried a) (carries _ _ t) (pair_named c list l) (joined_carried r)

      pub has_class_carried : {i k : ℕ} → HasClass m s i k → HasClass n s' i k
      has_class_carried h = record { cell = h.cell; set = h.set; joined = joined_carried h.joined; stands = carries _ _ h.stands; has_it = h.has_it }

      pub backed_carried : {r d : ℕ} {qs : List ℕ} → Backed m s r d qs → Backed n s' r d qs
      backed_carried (by_term j c g t p) = by_term j c (joined_carried g) (carries _ _ t) (sym (agree.same_plain c) ∙ p)
      backed_carried (by_list_like e h q) = by_list_like e (list_like_carried h) q
