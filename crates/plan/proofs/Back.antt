-- Items written out one after another give back the words that were read. Assumes nothing.
use Rattle.std.proofs.Common.{◌≡◌, ℕ, ◌+◌, ◌≤◌, List, [], ◌∷◌, ◌++◌, length, take, drop, sym, refl, ap, ◌∙◌, append_assoc, arith, length-append, length-drop, take-append-drop}
use Rattle.std.proofs.lemmas.List.{take_at, take_all, length-take-le, flat_map_more}
use Rattle.theory.specs.Meaning.{Meaning}
use Rattle.plan.specs.Items.{Item, written, all_written}
use Rattle.plan.specs.Reading.{Reading, item, refused, ended, Begins, at_end, at_item, Stands, Read, none_read, read_on, GivesBack}
use Rattle.plan.specs.Answers.{GoesOn}

-- the words of a list up to a position, and then some more of them
take_on : (words part rest : List ℕ) (position : ℕ) → position ≤ length words → drop position words ≡ part ++ rest →
    take (position + length part) words ≡ take position words ++ part
take_on words part rest position h e =
    let front : words ≡ (take position words ++ part) ++ rest = sym (take-append-drop position words) ∙ ap (λ (x : List ℕ). take position words ++ x) e ∙ sym (append_assoc (take position words) part rest) in
    let n : length (take position words ++ part) ≡ position + length part = length-append (take position words) part ∙ ap (λ (x : ℕ). x + length part) (length-take-le position words h) in
    ap (take (position + length part)) front ∙ take_at (take position words ++ part) rest (position + length part) n

-- a part of what is left stays within the words
part_within : (words part rest : List ℕ) (position : ℕ) → position ≤ length words → drop position words ≡ part ++ rest → position + length part ≤ length words
part_within words part rest position h e = omega (arith, ap length e, length-append part rest, length-drop position words)

pub record Returned (words : List ℕ) (items : List Item) (position : ℕ) : Type 0 where
  pub within : position ≤ length words
  pub back : all_written items ≡ take position words

-- where an item stands, what is left begins with its words
item_words : (m : Meaning) (i : Item) (left : List ℕ) → Begins m left (item i) → (rest : List ℕ) × (left ≡ written i ++ rest)
item_words m i left (at_item rest p e) = (rest, e)

on_returned : (m : Meaning) (words : List ℕ) (items : List Item) (position next : ℕ) (i : Item) → Returned words items position → Stands m words position (item i) next →
    Returned words (items ++ i ∷ []) next
on_returned m words items position next i r s =
    let w = item_words m i (drop position words) s.begins in
    record {
      within = rw s.onward (part_within words (written i) w.0 position r.within w.1);
      back = sym (flat_map_more written [] items i) ∙ ap (λ (x : List ℕ). x ++ written i) r.back ∙ sym (take_on words (written i) w.0 position r.within w.1)
          ∙ ap (λ (x : ℕ). take x words) (sym s.onward);
    }

pub returned : (m : Meaning) (words : List ℕ) (items : List Item) (position : ℕ) → Read m words items position → Returned words items position
returned m words items position none_read = record { within = omega arith; back = refl }
returned m words items next (read_on {items = before} {position = position} {i = i} r s) =
    on_returned m words before position next i (returned m words before position r) s

pub gives_back : GivesBack
gives_back m words items position r = (returned m words items position r).back

-- no words are left where the plan ends
pub none_left : (m : Meaning) (left : List ℕ) → Begins m left ended → left ≡ []
none_left m left at_end = refl

whole_at_end : (words : List ℕ) (items : List Item) (position : ℕ) → Returned words items position → drop position words ≡ [] → all_written items ≡ words
whole_at_end words items position r e = r.back ∙ take_all position words (omega (arith, ap length e, length-drop position words))

pub goes_on : (m : Meaning) (words : List ℕ) (position : ℕ) (reading : Reading) (next : ℕ) → Stands m words position reading next →
    (items : List Item) → Read m words items position → GoesOn m words items reading next
goes_on m words position (item i) next s items r = let on : Read m words (items ++ i ∷ []) next = read_on r s in record { read = on; gives_back = gives_back m words (items ++ i ∷ []) next on; whole = tt }
goes_on m words position (refused f) next s items r =
    let n : next ≡ position = s.onward ∙ (omega arith) in record { read = rw n r; gives_back = rw n (gives_back m words items position r); whole = tt }
goes_on m words position ended next s items r =
    let n : next ≡ position = s.onward ∙ (omega arith) in
    record { read = rw n r; gives_back = rw n (gives_back m words items position r); whole = whole_at_end words items position (returned m words items position r) (none_left m (drop position words) s.begins) }
