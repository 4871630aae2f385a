-- An answer of the reader from what stands at its position. Assumes nothing.
use Rattle.std.proofs.Common.{◌≡◌, ℕ, ◌+◌, ◌<◌, ◌≤◌, List, length, drop, Option, Result, ap, arith, length-append, length-drop}
use Rattle.std.proofs.lemmas.List.{drop_all}
use Rattle.theory.specs.Meaning.{Meaning, SmallCodes}
use Rattle.plan.specs.declared.item.Item as code
use Rattle.plan.specs.declared.refusal.PlanFault.{PlanFault}
use Rattle.plan.specs.Items.{Item, written}
use Rattle.plan.specs.Reading.{item, ended, Begins, at_end, at_item, span, Stands}
use Rattle.plan.specs.Answers.{reading_of, Names, HandsOut}
use Rattle.plan.proofs.Unique.{stands_once}
use Rattle.plan.proofs.Back.{goes_on}

pub hands_out : (m : Meaning) → SmallCodes m → (words : List ℕ) (position : ℕ) (answer : Result (Option code.Item) PlanFault) (next : ℕ) → Begins m (drop position words) (reading_of answer) →
    next ≡ position + span (reading_of answer) → Names answer position → HandsOut m words position answer next
hands_out m small words position answer next b n names =
    let s : Stands m words position (reading_of answer) next = record { begins = b; onward = n } in
    record {
      stands = s;
      names = names;
      only = λ other after o. stands_once m small words position (reading_of answer) other next after s o;
      goes_on = goes_on m words position (reading_of answer) next s;
    }

-- past the last word stands the end
pub end_begins : (m : Meaning) (words : List ℕ) (position : ℕ) → length words ≤ position → Begins m (drop position words) ended
end_begins m words position h = rw (drop_all position words h) at_end

-- the words that an item begins are at least its own
holds_item : {m : Meaning} {left : List ℕ} {i : Item} → Begins m left (item i) → length (written i) ≤ length left
holds_item (at_item {i = i} rest p e) = let l = ap length e in let a = length-append (written i) rest in omega arith

-- an item has words, and they are words of the plan
pub takes_onward : (m : Meaning) (words : List ℕ) (position next : ℕ) (i : Item) → Begins m (drop position words) (item i) → next ≡ position + length (written i) → (position < next) × (next ≤ length words)
takes_onward m words position next i b n =
    let h = holds_item b in
    let d = length-drop position words in
    (omega arith, omega arith)
