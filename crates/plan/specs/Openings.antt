-- What opening a plan answers. Assumes nothing.
use Rattle.std.specs.Prelude.{◌≡◌, ℕ, ◌<◌, ◌≤◌, List, length, Ok, Err, Result}
use Rattle.plan.specs.declared.reader.Reader.{Reader}
use Rattle.plan.specs.declared.refusal.PlanFault.{PlanFault}
use Rattle.plan.specs.declared.refusal.Refusal.TheVariants.{TooLong}
use Rattle.plan.specs.Reading.{most_words}

-- a reader at the front of the words, or the refusal of more words than a plan may have
abbrev pub Opens : List ℕ → Result Reader PlanFault → Type 0
Opens words (Ok reader) = (length words ≤ most_words) × (reader.words.now ≡ words) × (reader.position ≡ 0)
Opens words (Err f) = (most_words < length words) × (f.position ≡ 0) × (f.refusal ≡ TooLong)
