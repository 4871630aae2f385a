-- States with the same cells and equations, over meanings that agree, have the same listings. Assumes nothing.
use Rattle.std.proofs.Common.{◌≡◌, ℕ, List, Option, sym, ap, ◌∙◌}
use Rattle.std.specs.List.{slice_get}
use Rattle.theory.specs.Meaning.{Meaning, Agree}
use Rattle.theory.specs.States.{Cell, State}
use Rattle.theory.specs.Joined.{Joined}
use Rattle.theory.specs.ListLike.{ListLike}
use Rattle.theory.specs.ClassUnions.{Union}
use Rattle.theory.specs.Listings.{WithoutTerm, NumberedAs, Written, list_word, term_word, numbered_word, new_word, WrittenAll, no_more, next_cell, Listing}
use Rattle.theory.specs.SameEquations.{SameEquations}
use Rattle.theory.proofs.SameEquationsJoin.{agree_back, joined_carried, list_like_carried, has_class_carried}

pub same_cells : {xs ys : List Cell} {o : Option Cell} → xs ≡ ys → (i : ℕ) → slice_get xs i ≡ o → slice_get ys i ≡ o
same_cells e i t = ap (λ (xs : List Cell). slice_get xs i) (sym e) ∙ t

module _ {m n : Meaning} (agree : Agree m n) {s s' : State} (same : SameEquations s s') where
  pub same_joined : {a b : ℕ} → Joined m s a b → Joined n s' a b
  same_joined = joined_carried agree (λ i x. same_cells same.cells i) same.here

  joined_back : {a b : ℕ} → Joined n s' a b → Joined m s a b
  joined_back = joined_carried (agree_back agree) (λ i x. same_cells (sym same.cells) i) same.there

  list_like_back : {i list element : ℕ} → ListLike n s' i list element → ListLike m s i list element
  list_like_back = list_like_carried (agree_back agree) (λ i x. same_cells (sym same.cells) i) same.there

  same_without_term : {i : ℕ} → WithoutTerm m s i → WithoutTerm n s' i
  same_without_term none_of j c ps g t = none_of j c ps (joined_back g) (same_cells (sym same.cells) j t)

  same_number : {numbered : List ℕ} {i k : ℕ} → NumberedAs m s numbered i k → NumberedAs n s' numbered i k
  same_number f = record { cell = f.cell; stands = f.stands; joined = same_joined f.joined; lowest = λ l u lt e g. f.lowest l u lt e (joined_back g) }

  same_union : {i set : ℕ} → Union m s i set → Union n s' i set
  same_union u = record {
    gathers = λ k h. u.gathers k (has_class_carried (agree_back agree) (λ i x. same_cells (sym same.cells) i) same.there h);
    only = λ k h. has_class_carried agree (λ i x. same_cells same.cells i) same.here (u.only k h);
  }

  mutual
    same_written : {numbered after words : List ℕ} {i : ℕ} → Written m s numbered i words after → Written n s' numbered i words after
    same_written (list_word h x) = list_word (list_like_carried agree (λ i x. same_cells same.cells i) same.here h) (same_written x)
    same_written {numbered} {after} (term_word {ps = ps} {words = words} {i = i} {j = j} {c = c} none_of a t xs) =
        rw (agree.same_plain c) (term_word (λ list element h. none_of list element (list_like_back h)) (same_joined a) (same_cells same.cells j t) (same_written_all xs))
    same_written (numbered_word none_of f v) = numbered_word (same_without_term none_of) (same_number f) (same_union v)
    same_written (new_word none_of u v) = new_word (same_without_term none_of) (λ l v e g. u l v e (joined_back g)) (same_union v)

    same_written_all : {numbered after cells words : List ℕ} → WrittenAll m s numbered cells words after →
        WrittenAll n s' numbered cells words after
    same_written_all no_more = no_more
    same_written_all (next_cell x xs) = next_cell (same_written x) (same_written_all xs)

  pub same_listing : {cells words : List ℕ} → Listing m s cells words → Listing n s' cells words
  same_listing x = record { numbered = x.numbered; written = same_written_all x.written }
