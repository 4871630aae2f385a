-- What the first word of the words from a position on tells. Assumes nothing.
use Rattle.std.proofs.Common.{◌≡◌, ℕ, ◌-◌, ◌^◌, ◌<◌, arith}
use Rattle.std.proofs.Math.Decide.{dec_lt, ℕ_discrete}
use Rattle.plan.specs.Items.{first_word}
use Rattle.plan.specs.Reading.{First, of_unknown, of_term, of_link}

-- what a word is the first word of
pub data Head (word : ℕ) : Type 0 where
  unknown_head : (set : ℕ) → set < 256 → word ≡ first_word 0x11 set → Head word
  term_head : (code : ℕ) → code < 2 ^ 24 → word ≡ first_word 0x12 code → Head word
  link_head : word ≡ first_word 0x13 0 → Head word
  other_head : (First word → ⊥) → Head word

head_from : (word : ℕ) → Dec (word < first_word 0x11 0) → Dec (word < first_word 0x11 256) → Dec (word < first_word 0x12 0) → Dec (word < first_word 0x13 0) → Dec (word ≡ first_word 0x13 0) → Head word
head_from word (yes a) b c d e = other_head (λ f. elim f [ of_unknown set h g ↦ omega arith | of_term code h g ↦ omega arith | of_link g ↦ omega arith ])
head_from word (no a) (yes b) c d e = unknown_head (word - first_word 0x11 0) (omega arith) (omega arith)
head_from word (no a) (no b) (yes c) d e = other_head (λ f. elim f [ of_unknown set h g ↦ omega arith | of_term code h g ↦ omega arith | of_link g ↦ omega arith ])
head_from word (no a) (no b) (no c) (yes d) e = term_head (word - first_word 0x12 0) (omega arith) (omega arith)
head_from word (no a) (no b) (no c) (no d) (yes e) = link_head e
head_from word (no a) (no b) (no c) (no d) (no e) = other_head (λ f. elim f [ of_unknown set h g ↦ omega arith | of_term code h g ↦ omega arith | of_link g ↦ e g ])

pub head_of : (word : ℕ) → Head word
head_of word = head_from word (dec_lt word (first_word 0x11 0)) (dec_lt word (first_word 0x11 256)) (dec_lt word (first_word 0x12 0)) (dec_lt word (first_word 0x13 0)) (ℕ_discrete word (first_word 0x13 0))
