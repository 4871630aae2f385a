-- The rows of types that assignments give a list of cells are fillings of its listing. Assumes nothing.
use Rattle.std.proofs.Common.{◌≡◌, ℕ, zero, suc, ◌≤◌, T, List, [], ◌∷◌, length, Some, ap, arith}
use Rattle.std.specs.List.{slice_get}
use Rattle.theory.specs.Meaning.{has, Meaning, Lawful}
use Rattle.theory.specs.Types.{Tree, node, end, top, types}
use Rattle.theory.specs.States.{State, Standing, Formed}
use Rattle.theory.specs.Assignments.{Assigns}
use Rattle.theory.specs.Joined.{reflexive}
use Rattle.theory.specs.ClassUnions.{Union}
use Rattle.theory.specs.Listings.{Listing}
use Rattle.theory.specs.Fillings.{Fills}
use Rattle.theory.proofs.Impossible.{impossible}
use Rattle.theory.proofs.Soundness.{joined_cells_have_one_type}
use Rattle.theory.proofs.NumberedUnknowns.{Apart, apart_none, apart_cells, stands_cells}
use Rattle.theory.proofs.Members.{distinct_few}
use Rattle.theory.proofs.TypesFillListings.{FilledBy, types_fill_listing}

-- the type of the unknown of a number
type_at : (ℕ → Tree) → List ℕ → ℕ → Tree
type_at type_of [] k = node 0 end
type_at type_of (u ∷ us) zero = type_of u
type_at type_of (u ∷ us) (suc k) = type_at type_of us k

type_at_is : (type_of : ℕ → Tree) (numbered : List ℕ) (k u : ℕ) → slice_get numbered k ≡ Some u → type_at type_of numbered k ≡ type_of u
unfolding type_at
type_at_is type_of [] k u e = impossible (cc)
type_at_is type_of (x ∷ us) zero u e = ap type_of (cc)
type_at_is type_of (x ∷ us) (suc k) u e = type_at_is type_of us k u e

module _ {m : Meaning} {s : State} (formed : Formed m s) {cells words : List ℕ} (standing : Standing s cells) (listing : Listing m s cells words) where
  -- the numbered unknowns stand
  pub numbered_stand : Standing s listing.numbered
  numbered_stand = stands_cells formed listing.written standing (λ k u e. impossible (cc))

  pub numbered_apart : Apart m s listing.numbered
  numbered_apart = apart_cells listing.written apart_none

  -- so their numbers have 16 bits
  pub numbered_few : length listing.numbered ≤ 65536
  numbered_few =
      let d = distinct_few (length s.cells) listing.numbered (λ k l u e f. numbered_apart.apart k l u u e f reflexive) numbered_stand in
      let f = formed.few_cells in
      omega arith

module _ {m : Meaning} (lawful : Lawful m) {s : State} (formed : Formed m s) where
  pub rows_are_fillings : {cells words : List ℕ} → Standing s cells → Listing m s cells words → (type_of : ℕ → Tree) → Assigns m s type_of →
      (filling : ℕ → Tree) × Fills m filling words (types type_of cells)
  rows_are_fillings {cells} {words} standing listing type_of assigns = (filling, types_fill_listing lawful formed assigns.unclassed filled_by listing.written)
    where
      filling : ℕ → Tree
      filling = type_at type_of listing.numbered

      is : (k u : ℕ) → slice_get listing.numbered k ≡ Some u → filling k ≡ type_of u
      is k u e = type_at_is type_of listing.numbered k u e

      admits : (u set : ℕ) → Union m s u set → (k : ℕ) → T (has set k) → T (has (m.classes (top (type_of u))) k)
      admits u set union k h =
          let c = union.only k h in
          rw (joined_cells_have_one_type lawful assigns.unclassed c.joined) (assigns.classes c.cell c.set c.stands k c.has_it)

      filled_by : FilledBy m s listing.numbered filling type_of
      filled_by = record {
        few = numbered_few formed standing listing;
        filled = is;
        are_types = λ k u e. rw (is k u e) (assigns.unclassed.cells u (numbered_stand formed standing listing k u e));
        admitted = λ k u set e union j h. rw (is k u e) (admits u set union j h);
      }
