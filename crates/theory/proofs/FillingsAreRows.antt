-- The fillings of a listing are rows of types that assignments give its cells. Assumes nothing.
use Rattle.std.proofs.Common.{◌≡◌, ℕ, zero, suc, ◌≤◌, T, ◌⊎◌, List, [], ◌∷◌, length, Some, sym, refl, ap, ◌∙◌, inl, inr, arith}
use Rattle.std.proofs.Math.Decide.{ℕ_discrete}
use Rattle.std.specs.List.{slice_get}
use Rattle.theory.specs.Meaning.{has, Meaning, Admits, Lawful}
use Rattle.theory.specs.Types.{Tree, Trees, top, types, IsType}
use Rattle.theory.specs.States.{State, Unknown, Standing, Formed}
use Rattle.theory.specs.Assignments.{Assigns}
use Rattle.theory.specs.Joined.{Joined}
use Rattle.theory.specs.ClassUnions.{HasClass, Union}
use Rattle.theory.specs.Listings.{Listing}
use Rattle.theory.specs.Fillings.{Fills}
use Rattle.theory.specs.Certificates.{Termless, ClassesAdmitted}
use Rattle.theory.proofs.Impossible.{impossible}
use Rattle.theory.proofs.Lookups.{nth_below}
use Rattle.theory.proofs.Pairwise.{Pairwise, same_label_joined}
use Rattle.theory.proofs.Completeness.{assigned, assigned_extends, assigned_classes}
use Rattle.theory.proofs.ClassUnionsAreOne.{union_small}
use Rattle.theory.proofs.NumberedUnknowns.{WordOccurs, Apart, apart_none, occurs_cells}
use Rattle.theory.proofs.RowsOfFillings.{row_is_one, filling_at}
use Rattle.theory.proofs.TypesFillListings.{FilledBy, types_fill_listing}
use Rattle.theory.proofs.SomeTypes.{leaf_type, leaf_is_type, some_type, some_is_type, some_admitted}
use Rattle.theory.proofs.RowsAreFillings.{numbered_apart, numbered_few}

-- the class r has the number k among the unknowns `numbered`
record ClassNumbered (label : ℕ → ℕ) (numbered : List ℕ) (r : ℕ) : Type 0 where
  number : ℕ
  cell : ℕ
  stands : slice_get numbered number ≡ Some cell
  in_class : label cell ≡ r

decide_class_numbered : (label : ℕ → ℕ) (numbered : List ℕ) (r : ℕ) → Dec (ClassNumbered label numbered r)
decide_class_numbered label [] r = no (λ h. let e = h.stands in impossible (cc))
decide_class_numbered label (x ∷ xs) r = go (ℕ_discrete (label x) r) (decide_class_numbered label xs r)
  where
    go : Dec (label x ≡ r) → Dec (ClassNumbered label xs r) → Dec (ClassNumbered label (x ∷ xs) r)
    go (yes e) d = yes (record { number = 0; cell = x; stands = refl; in_class = e })
    go (no n) (yes h) = yes (record { number = suc h.number; cell = h.cell; stands = h.stands; in_class = h.in_class })
    go (no n) (no h) = no (λ p. back p.number p.cell p.stands p.in_class)
      where
        back : (k u : ℕ) → slice_get (x ∷ xs) k ≡ Some u → label u ≡ r → ⊥
        back zero u e q = n (ap label (cc) ∙ q)
        back (suc k) u e q = h (record { number = k; cell = u; stands = e; in_class = q })

module _ {m : Meaning} (lawful : Lawful m) {s : State} (formed : Formed m s) {label rank : ℕ → ℕ} (pairwise : Pairwise m s label rank)
    (label_joined : (i : ℕ) → Joined m s i (label i)) (admitted : ClassesAdmitted m s label) where
  by_label : (a b : ℕ) → label a ≡ label b → Joined m s a b
  by_label = same_label_joined label_joined

  module _ {numbered : List ℕ} (apart : Apart m s numbered) (filling : ℕ → Tree) (are_types : (k u : ℕ) → slice_get numbered k ≡ Some u → IsType m (filling k))
      (fits : (k u j : ℕ) → slice_get numbered k ≡ Some u → HasClass m s u j → T (has (m.classes (top (filling k))) j)) where
    -- what is chosen for a class: what its number is filled with, else some type of a code that its classes admit
    choice_by : (r : ℕ) → Dec (ClassNumbered label numbered r) → Tree
    choice_by r (yes h) = filling h.number
    choice_by r (no n) = some_type lawful (admitted r).code

    choice : ℕ → Tree
    choice r = choice_by r (decide_class_numbered label numbered r)

    choice_by_is_type : (r : ℕ) (d : Dec (ClassNumbered label numbered r)) → IsType m (choice_by r d)
    unfolding choice_by
    choice_by_is_type r (yes h) = are_types h.number h.cell h.stands
    choice_by_is_type r (no n) = some_is_type lawful (admitted r).code (admitted r).code_known

    choice_by_admitted : (r : ℕ) (d : Dec (ClassNumbered label numbered r)) → (i set : ℕ) → Unknown s i set → label i ≡ r → Termless s label r →
        Admits m set (top (choice_by r d))
    unfolding choice_by
    choice_by_admitted r (yes h) i set u e free k x =
        fits h.number h.cell k h.stands (record { cell = i; set = set; joined = by_label h.cell i (h.in_class ∙ sym e); stands = u; has_it = x })
    choice_by_admitted r (no n) i set u e free k x = some_admitted lawful (admitted r).code set (admitted r).code_known ((admitted r).by_code free i set u e) k x

    choice_by_is : (r : ℕ) (d : Dec (ClassNumbered label numbered r)) (k u : ℕ) → slice_get numbered k ≡ Some u → label u ≡ r → choice_by r d ≡ filling k
    unfolding choice_by
    choice_by_is r (yes h) k u at e = ap filling (apart.apart h.number k h.cell u h.stands at (by_label h.cell u (h.in_class ∙ sym e)))
    choice_by_is r (no n) k u at e = absurd (n (record { number = k; cell = u; stands = at; in_class = e }))

    choice_is_type : (r : ℕ) → IsType m (choice r)
    unfolding choice
    choice_is_type r = choice_by_is_type r (decide_class_numbered label numbered r)

    type_of_filling : ℕ → Tree
    type_of_filling = assigned lawful formed pairwise choice choice_is_type

    filling_assigns : Assigns m s type_of_filling
    unfolding type_of_filling choice
    filling_assigns = assigned_classes lawful formed pairwise choice choice_is_type
        (λ i set u j c ps t e. (admitted (label i)).by_terms i set u refl j c ps t e)
        (λ i set u free. choice_by_admitted (label i) (decide_class_numbered label numbered (label i)) i set u refl free)

    filling_is : (k u : ℕ) → slice_get numbered k ≡ Some u → filling k ≡ type_of_filling u
    unfolding type_of_filling choice
    filling_is k u e =
        let x = assigned_extends lawful formed pairwise choice choice_is_type in
        let free : Termless s label (label u) = λ i c ps t q. apart.without_term k u e i c ps (by_label u i (sym q)) t in
        sym (x.by_label u ∙ x.chosen (label u) (pairwise.label_fixed u) free ∙ choice_by_is (label u) (decide_class_numbered label numbered (label u)) k u e refl)

  -- the number k of the cell u is filled with a type that the classes of u admit
  record NumberFilled (filling : ℕ → Tree) (k u : ℕ) : Type 0 where
    set : ℕ
    union : Union m s u set
    is_type : IsType m (filling k)
    admits : Admits m set (top (filling k))

  pub fillings_are_rows : {cells words : List ℕ} → Standing s cells → Listing m s cells words → (filling : ℕ → Tree) (row : Trees) →
      Fills m filling words row →
      (type_of : ℕ → Tree) × Assigns m s type_of × (types type_of cells ≡ row)
  fillings_are_rows {cells} {words} standing listing filling row fills =
      (type_of, assigns, row_is_one (types_fill_listing lawful formed assigns.unclassed filled_by listing.written) fills)
    where
      apart : Apart m s listing.numbered
      apart = numbered_apart formed standing listing

      few : length listing.numbered ≤ 65536
      few = numbered_few formed standing listing

      at : (k u : ℕ) → slice_get listing.numbered k ≡ Some u → NumberFilled filling k u
      at k u e = go (occurs_cells listing.written k u e)
        where
          go : (slice_get [] k ≡ Some u) ⊎ WordOccurs m s k u words → NumberFilled filling k u
          go (inl x) = impossible (cc)
          go (inr o) =
              let low = nth_below listing.numbered k e in
              let few' = few in
              let r = filling_at fills o.occurs.0 k o.set o.occurs.1 (omega arith) (union_small formed o.union) in
              record { set = o.set; union = o.union; is_type = r.0; admits = r.1 }

      are_types : (k u : ℕ) → slice_get listing.numbered k ≡ Some u → IsType m (filling k)
      are_types k u e = (at k u e).is_type

      fits : (k u j : ℕ) → slice_get listing.numbered k ≡ Some u → HasClass m s u j → T (has (m.classes (top (filling k))) j)
      fits k u j e h = let a = at k u e in a.admits j (a.union.gathers j h)

      type_of : ℕ → Tree
      type_of = type_of_filling apart filling are_types fits

      assigns : Assigns m s type_of
      assigns = filling_assigns apart filling are_types fits

      filled_by : FilledBy m s listing.numbered filling type_of
      filled_by = record {
        few = few;
        filled = filling_is apart filling are_types fits;
        are_types = are_types;
        admitted = λ k u set e union j h. fits k u j e (union.only j h);
      }

  pub certified_state_has_assignment : (type_of : ℕ → Tree) × Assigns m s type_of
  certified_state_has_assignment = (type_of_filling apart_none (λ k. leaf_type lawful) are_types fits, filling_assigns apart_none (λ k. leaf_type lawful) are_types fits)
    where
      are_types : (k u : ℕ) → slice_get [] k ≡ Some u → IsType m (leaf_type lawful)
      are_types k u e = leaf_is_type lawful

      fits : (k u j : ℕ) → slice_get [] k ≡ Some u → HasClass m s u j → T (has (m.classes (top (leaf_type lawful))) j)
      fits k u j e h = impossible (cc)
