-- Worked examples that test the definitions. Assumes nothing.
use Rattle.std.proofs.Common.{◌≡◌, ℕ, zero, suc, ◌<◌, List, [], ◌∷◌, Some, refl, ap, ◌∙◌, arith}
use Rattle.std.proofs.Math.Decide.{ℕ_discrete}
use Rattle.std.specs.List.{slice_get}
use Rattle.theory.specs.Meaning.{layered_by}
use Rattle.theory.specs.IfSo.{if_so}
use Rattle.theory.specs.Types.{Tree, node, end, one, two, list_of, IsType, build_by, build}
use Rattle.theory.specs.States.{unknown, term, State, Unknown, Term}
use Rattle.theory.specs.Assignments.{AssignsUnclassed, Assigns}
use Rattle.theory.specs.Joined.{PairTerm, Joined, equation, reflexive, symmetric, transitive, places, ring, next_pair}
use Rattle.theory.specs.ListLike.{joined_loop}
use Rattle.theory.specs.ClassUnions.{Union}
use Rattle.theory.specs.Listings.{WithoutTerm, list_word, numbered_word, new_word, no_more, next_cell, Listing}
use Rattle.theory.specs.Fillings.{Fills, no_words, unknown_filled, symbol_filled}
use Rattle.theory.specs.Certificates.{Shape, no_term, over, looping_pair, TermHeld, Falling, Consistent, Backed, by_list_like, Certificate}
use Rattle.theory.specs.Refusals.{at_place, at_joined, inner, inside_itself, not_admitted}
use Rattle.theory.proofs.Impossible.{impossible}
use Rattle.theory.proofs.Lookups.{each_none, each_next}
use Rattle.theory.proofs.Builds.{build_list, list_is_type}
use Rattle.theory.proofs.Pairwise.{joined_cells_have_one_label}
use Rattle.theory.proofs.HeldPairwise.{consistent_pairwise}
use Rattle.theory.proofs.SetsAsNumbers.{has_none}
use Rattle.theory.proofs.ClashRefuses.{clash_refuses}
use Rattle.theory.proofs.BarredRefuses.{barred_refuses}
use Rattle.theory.proofs.Toy.{toy, toy_lawful}

abbrev number : Tree
number = node 1 end

-- Pair over number and List over number is List over number
pair_folds : build toy 4 (two number (list_of 5 number)) ≡ list_of 5 number
unfolding build build_by if_so ℕ_discrete
pair_folds = refl

-- and Pair over number and number stays
pair_stays : build toy 4 (two number number) ≡ node 4 (two number number)
unfolding build build_by if_so ℕ_discrete
pair_stays = refl

list_is_a_type : IsType toy (list_of 5 number)
list_is_a_type = list_is_type toy_lawful 4 5 number refl (refl, refl, refl, λ l. impossible (cc), tt)

-- an unknown, and List over it, in one equation: the type would stand inside itself
abbrev own_list : State
own_list = record { cells = unknown 0 ∷ term 5 (0 ∷ []) ∷ []; equations = (0, 1) ∷ [] }

own_list_has_no_assignment : (type_of : ℕ → Tree) → AssignsUnclassed toy own_list type_of → ⊥
own_list_has_no_assignment type_of assigns =
    clash_refuses toy_lawful assigns (inside_itself 0 (inner (at_joined (equation (0, refl))) (at_place {i = 1} {c = 5} {p = 0} {ps = 0 ∷ []} 0 refl refl (λ list named place. omega arith))))

-- an unknown of class 1, which number alone has, in one equation with a List
abbrev number_list : State
number_list = record { cells = unknown 2 ∷ unknown 0 ∷ term 5 (1 ∷ []) ∷ []; equations = (2, 0) ∷ [] }

number_list_has_no_assignment : (type_of : ℕ → Tree) → Assigns toy number_list type_of → ⊥
number_list_has_no_assignment type_of assigns =
    barred_refuses toy_lawful assigns (not_admitted 0 2 2 5 (1 ∷ []) refl (symmetric (equation (0, refl))) refl (λ admits. admits 1 tt))

-- unknowns 0, 1 and 2, Pair over 2 and 0 as 3, Pair over 1 and 3 as 4, and the equation of 0 and 4: a ring of two Pairs
abbrev pub two_pairs : State
two_pairs = record { cells = unknown 0 ∷ unknown 0 ∷ unknown 0 ∷ term 4 (2 ∷ 0 ∷ []) ∷ term 4 (1 ∷ 3 ∷ []) ∷ []; equations = (0, 4) ∷ [] }

pair_3 : PairTerm toy two_pairs 3 2 0
pair_3 = record { code = 4; list = 5; named = refl; stands = refl }

pair_4 : PairTerm toy two_pairs 4 1 3
pair_4 = record { code = 4; list = 5; named = refl; stands = refl }

pairs_are_joined : Joined toy two_pairs 3 4
pairs_are_joined = ring (next_pair pair_3 pair_4 (equation (0, refl))) (next_pair pair_4 pair_3 reflexive)

elements_are_joined : Joined toy two_pairs 1 2
elements_are_joined = symmetric (places {i = 3} {j = 4} {c = 4} {d = 4} {ps = 2 ∷ 0 ∷ []} {qs = 1 ∷ 3 ∷ []} 0 refl refl refl pairs_are_joined refl refl)

-- its classes: 0, 3 and 4, which are a List over 1, and 1 and 2
abbrev label : ℕ → ℕ
label zero = 0
label (suc zero) = 1
label (suc (suc zero)) = 1
label (suc (suc (suc zero))) = 0
label (suc (suc (suc (suc zero)))) = 0
label (suc (suc (suc (suc (suc i))))) = suc (suc (suc (suc (suc i))))

abbrev rank : ℕ → ℕ
rank zero = 1
rank (suc i) = 0

abbrev shape : ℕ → Shape
shape zero = over 5 (1 ∷ [])
shape (suc i) = no_term

label_fixed : (i : ℕ) → label (label i) ≡ label i
label_fixed zero = refl
label_fixed (suc zero) = refl
label_fixed (suc (suc zero)) = refl
label_fixed (suc (suc (suc zero))) = refl
label_fixed (suc (suc (suc (suc zero)))) = refl
label_fixed (suc (suc (suc (suc (suc i))))) = refl

terms_held : (i c : ℕ) (ps : List ℕ) → Term two_pairs i c ps → TermHeld toy label shape (label i) c ps
terms_held zero c ps t = impossible (cc)
terms_held (suc zero) c ps t = impossible (cc)
terms_held (suc (suc zero)) c ps t = impossible (cc)
terms_held (suc (suc (suc zero))) c ps t =
    let x : 4 ≡ c = cc in
    record { code = 5; parts = 1 ∷ []; shape_is = refl; held = looping_pair 2 0 1 (ap (λ c. layered_by c 5) x) (cc) refl refl refl }
terms_held (suc (suc (suc (suc zero)))) c ps t =
    let x : 4 ≡ c = cc in
    record { code = 5; parts = 1 ∷ []; shape_is = refl; held = looping_pair 1 3 1 (ap (λ c. layered_by c 5) x) (cc) refl refl refl }
terms_held (suc (suc (suc (suc (suc i))))) c ps t = impossible (cc)

falling : Falling label shape rank
falling zero d qs e k q h = go k (ap (λ xs. slice_get xs k) p ∙ h)
  where
    p : 1 ∷ [] ≡ qs
    p = cc

    go : (k : ℕ) → slice_get (1 ∷ []) k ≡ Some q → rank (label q) < 1
    go zero x = let z : 1 ≡ q = cc in rw (← z) (omega arith)
    go (suc k) x = impossible (cc)
falling (suc i) d qs e k q h = impossible (cc)

two_pairs_consistent : Consistent toy two_pairs label rank shape
two_pairs_consistent = record {
  label_fixed = label_fixed;
  equations = λ a b e. each_next (λ x y. label x ≡ label y) 0 4 [] refl (each_none (λ x y. label x ≡ label y)) e.0 a b e.1;
  terms_held = terms_held;
  falling = falling;
}

same_label : {a b : ℕ} → Joined toy two_pairs a b → label a ≡ label b
same_label = joined_cells_have_one_label (consistent_pairwise toy_lawful two_pairs_consistent)

-- cell 1 is joined to no term
no_term_at_1 : WithoutTerm toy two_pairs 1
no_term_at_1 j c ps joined t = go j (same_label joined) t
  where
    go : (j : ℕ) → 1 ≡ label j → Term two_pairs j c ps → ⊥
    go zero e t = omega arith
    go (suc zero) e t = impossible (cc)
    go (suc (suc zero)) e t = impossible (cc)
    go (suc (suc (suc zero))) e t = omega arith
    go (suc (suc (suc (suc zero)))) e t = omega arith
    go (suc (suc (suc (suc (suc j))))) e t = impossible (cc)

-- the unknowns have no classes
no_classes : (i set : ℕ) → Unknown two_pairs i set → set ≡ 0
no_classes zero set e = cc
no_classes (suc zero) set e = cc
no_classes (suc (suc zero)) set e = cc
no_classes (suc (suc (suc zero))) set e = impossible (cc)
no_classes (suc (suc (suc (suc zero)))) set e = impossible (cc)
no_classes (suc (suc (suc (suc (suc i))))) set e = impossible (cc)

empty_union : (i : ℕ) → Union toy two_pairs i 0
empty_union i = record {
  gathers = λ k h. let z = no_classes h.cell h.set h.stands in rw z at h.has_it;
  only = λ k h. absurd (has_none k h);
}

-- cell 0 is written as List over the unknown of number 0
pub cell_0_is_written : Listing toy two_pairs (0 ∷ []) (0x02000005 ∷ 0x01000000 ∷ [])
cell_0_is_written = record {
  numbered = 1 ∷ [];
  written = next_cell
      (list_word {list = 5} (joined_loop 4 3 4 (equation (0, refl)) refl refl pairs_are_joined) (new_word {numbered = []} {i = 1} {set = 0} no_term_at_1 (λ l u e j. impossible (cc)) (empty_union 1)))
      no_more;
}

-- and in the list of 2 and 0 the unknown keeps the number of its first appearance
cells_2_and_0_are_written : Listing toy two_pairs (2 ∷ 0 ∷ []) (0x01000000 ∷ 0x02000005 ∷ 0x01000000 ∷ [])
cells_2_and_0_are_written = record {
  numbered = 2 ∷ [];
  written = next_cell (new_word {numbered = []} {i = 2} {set = 0} (λ j c ps joined t. no_term_at_1 j c ps (transitive elements_are_joined joined) t) (λ l u e j. impossible (cc)) (empty_union 2))
      (next_cell
      (list_word {list = 5} (joined_loop 4 3 4 (equation (0, refl)) refl refl pairs_are_joined)
      (numbered_word {numbered = 2 ∷ []} {i = 1} {k = 0} {set = 0} no_term_at_1
      (record { cell = 2; stands = refl; joined = elements_are_joined; lowest = λ l u lt. absurd (omega arith) }) (empty_union 1)))
      no_more);
}

-- with number for that unknown it is List over number
number_fills : Fills toy (λ k. number) (0x02000005 ∷ 0x01000000 ∷ []) (one (list_of 5 number))
number_fills = rw (build_list toy_lawful 4 5 (one number) refl) at symbol_first
  where
    symbol_first : Fills toy (λ k. number) (0x02000005 ∷ 0x01000000 ∷ []) (one (build toy 5 (one number)))
    symbol_first =
        symbol_filled 5 (one number) refl refl refl
        (unknown_filled 0 0 refl (omega arith) (omega arith) (refl, refl, refl, λ l. impossible (cc), tt) (λ k h. absurd (has_none k h)) no_words)

-- the state has a certificate
label_joined : (i : ℕ) → Joined toy two_pairs i (label i)
label_joined zero = reflexive
label_joined (suc zero) = reflexive
label_joined (suc (suc zero)) = symmetric elements_are_joined
label_joined (suc (suc (suc zero))) = transitive pairs_are_joined (symmetric (equation (0, refl)))
label_joined (suc (suc (suc (suc zero)))) = symmetric (equation (0, refl))
label_joined (suc (suc (suc (suc (suc i))))) = reflexive

shape_backed : (r d : ℕ) (qs : List ℕ) → shape r ≡ over d qs → Backed toy two_pairs r d qs
shape_backed zero d qs e =
    let code : d ≡ 5 = cc in
    let parts : qs ≡ 1 ∷ [] = cc in
    rw code (by_list_like 1 (joined_loop 4 3 4 (equation (0, refl)) refl refl pairs_are_joined) parts)
shape_backed (suc r) d qs e = impossible (cc)

label_stands : (i : ℕ) → i < 5 → label i < 5
label_stands zero h = omega arith
label_stands (suc zero) h = omega arith
label_stands (suc (suc zero)) h = omega arith
label_stands (suc (suc (suc zero))) h = omega arith
label_stands (suc (suc (suc (suc zero)))) h = omega arith
label_stands (suc (suc (suc (suc (suc i))))) h = absurd (omega arith)

pub two_pairs_certificate : Certificate toy two_pairs label rank shape
two_pairs_certificate = record { consistent = two_pairs_consistent; label_joined = label_joined; shape_backed = shape_backed; label_stands = label_stands }
