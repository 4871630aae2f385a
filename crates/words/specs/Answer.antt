-- What the code's own types say of a text. Assumes nothing.
use Rattle.std.specs.Prelude.{ℕ, List}
use Rattle.words.specs.declared.TextError.{TextError}
use Rattle.words.specs.declared.TextError.TheVariants as errors
use Rattle.words.specs.Reading.{unreadable, OneReading, BeginsWithWord}

-- a token is refused where that is the outcome of the text, and memory is wanting only where there is a word to keep
abbrev pub Refuses : (text : List ℕ) → TextError → Type 0
Refuses text (errors.Unreadable u) = OneReading 1 text (unreadable u.line u.token.now)
Refuses text errors.Memory = BeginsWithWord text
