-- Listings: the words that a list of cells is written as. Assumes nothing.
use Rattle.std.specs.Prelude.{◌≡◌, ℕ, ◌+◌, ◌*◌, ◌<◌, List, [], ◌∷◌, ◌++◌, length, Some}
use Rattle.std.specs.List.{slice_get}
use Rattle.theory.specs.Meaning.{Meaning}
use Rattle.theory.specs.States.{State, Term}
use Rattle.theory.specs.Joined.{Joined}
use Rattle.theory.specs.ListLike.{ListLike}
use Rattle.theory.specs.ClassUnions.{Union}

-- The word of a symbol: 2 in bits 24 and up, and its plain code below.
abbrev pub symbol_word : ℕ → ℕ
symbol_word c = 0x02000000 + c

-- The word of an unknown: 1 in bits 24 and up, the set of its classes in bits 16 to 23, and its number in bits 0 to 15.
abbrev pub unknown_word : ℕ → ℕ → ℕ
unknown_word number set = 0x01000000 + number + 65536 * set

-- Cell i is joined to no term.
abbrev pub WithoutTerm : Meaning → State → ℕ → Type 0
WithoutTerm m s i = (j c : ℕ) (ps : List ℕ) → Joined m s i j → Term s j c ps → ⊥

-- The unknowns `numbered` have numbers, from 0, by their places in that list.
-- Cell i is joined to the one of number k, and to none of a lower number.
pub record NumberedAs (m : Meaning) (s : State) (numbered : List ℕ) (i k : ℕ) : Type 0 where
  pub cell : ℕ
  pub stands : slice_get numbered k ≡ Some cell
  pub joined : Joined m s i cell
  pub lowest : (l u : ℕ) → l < k → slice_get numbered l ≡ Some u → Joined m s i u → ⊥

-- Cell i is joined to none of them.
abbrev pub Unnumbered : Meaning → State → List ℕ → ℕ → Type 0
Unnumbered m s numbered i = (l u : ℕ) → slice_get numbered l ≡ Some u → Joined m s i u → ⊥

mutual
  -- Where the unknowns `numbered` have numbers, cell i is written as these words, and then the unknowns `after` have numbers.
  pub data Written (m : Meaning) (s : State) : (numbered : List ℕ) (i : ℕ) (words after : List ℕ) → Type 0 where
    -- a list-like cell: the word of List, and then its element
    list_word : {numbered after words : List ℕ} {i list element : ℕ} → ListLike m s i list element → Written m s numbered element words after →
        Written m s numbered i (symbol_word list ∷ words) after
    -- another cell that is joined to a term: the word of its plain code, and then its places
    term_word : {numbered after ps words : List ℕ} {i j c : ℕ} → ((list element : ℕ) → ListLike m s i list element → ⊥) → Joined m s i j →
        Term s j c ps →
        WrittenAll m s numbered ps words after → Written m s numbered i (symbol_word (m.plain c) ∷ words) after
    -- an unknown that has a number
    numbered_word : {numbered : List ℕ} {i k set : ℕ} → WithoutTerm m s i → NumberedAs m s numbered i k → Union m s i set →
        Written m s numbered i (unknown_word k set ∷ []) numbered
    -- an unknown that has none yet gets the next one
    new_word : {numbered : List ℕ} {i set : ℕ} → WithoutTerm m s i → Unnumbered m s numbered i → Union m s i set →
        Written m s numbered i (unknown_word (length numbered) set ∷ []) (numbered ++ (i ∷ []))

  -- The same for cells one after another.
  pub data WrittenAll (m : Meaning) (s : State) : (numbered cells words after : List ℕ) → Type 0 where
    no_more : {numbered : List ℕ} → WrittenAll m s numbered [] [] numbered
    next_cell : {numbered between after cells words words' : List ℕ} {i : ℕ} → Written m s numbered i words between →
        WrittenAll m s between cells words' after →
        WrittenAll m s numbered (i ∷ cells) (words ++ words') after

-- A listing: the words that a list of cells is written as, its unknowns numbered from 0 by their first appearance in the whole list.
pub record Listing (m : Meaning) (s : State) (cells words : List ℕ) : Type 0 where
  pub numbered : List ℕ
  pub written : WrittenAll m s [] cells words numbered
