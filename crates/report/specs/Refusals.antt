-- The sentence that says why a plan is sent back. Assumes nothing.
use Rattle.std.specs.Prelude.{ℕ, List, length, codes, decimal, slice_index}
use Rattle.plan.specs.declared.refusal.PlanFault.{PlanFault}
use Rattle.plan.specs.declared.refusal.Refusal.{Refusal}
use Rattle.plan.specs.declared.refusal.Refusal.TheVariants.{TooLong, NotAnItem, NoSuchCode, CutShort}
use Rattle.plan.specs.Reading.{most_words}
use Rattle.plan.specs.Refusals.{number}
use Rattle.report.specs.Texts.{◌then◌, text_of_word}

-- what is wrong at a position of the words
abbrev pub reason_text : Refusal → ℕ → List ℕ → List ℕ
reason_text TooLong position words = codes "the plan has " then decimal (length words) then codes " words, and a plan has at most " then decimal most_words
reason_text NotAnItem position words = text_of_word (slice_index words position) then codes " is not the first word of an item"
reason_text (NoSuchCode code) position words = codes "the alphabet has no code " then decimal code
reason_text CutShort position words = codes "the plan ends inside this item"

-- a fault in the words of a plan
abbrev pub refusal_text : PlanFault → List ℕ → List ℕ
refusal_text fault words = codes "refused with " then decimal (number fault.refusal) then codes " at word " then decimal fault.position then codes ": " then reason_text fault.refusal fault.position words
