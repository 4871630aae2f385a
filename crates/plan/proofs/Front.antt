-- What words begin with, by their first word and their length. Assumes nothing.
use Rattle.std.proofs.Common.{◌≡◌, ℕ, ◌+◌, ◌-◌, ◌^◌, ◌<◌, ◌≤◌, true, false, List, [], ◌∷◌, length, get_or, take, drop, refl, arith}
use Rattle.std.specs.List.{slice_range}
use Rattle.theory.specs.Meaning.{Meaning}
use Rattle.plan.specs.declared.refusal.Refusal.TheVariants.{NotAnItem, NoSuchCode, CutShort}
use Rattle.plan.specs.Items.{unknown, term, link, first_word}
use Rattle.plan.specs.Reading.{First, item, refused, Begins, at_item, at_other, at_code}
use Rattle.plan.specs.Steps.{Headed}
use Rattle.plan.proofs.Unique.{term_begins, link_begins}

module _ (m : Meaning) where
  pub other_front : (words : List ℕ) (word : ℕ) → Headed word words → (First word → ⊥) → Begins m words (refused NotAnItem)
  other_front [] word h n = absurd (omega (arith, h.0))
  other_front (w ∷ rest) word h n = at_other (rw h.1 n)

  pub unknown_front : (words : List ℕ) (word set : ℕ) → Headed word words → set < 256 → word ≡ first_word 0x11 set → Begins m words (item (unknown set))
  unknown_front [] word set h b e = absurd (omega (arith, h.0))
  unknown_front (w ∷ rest) word set h b e = at_item rest b (let f = h.1 in cc)

  pub code_front : (words : List ℕ) (code : ℕ) → Headed (first_word 0x12 code) words → code < 2 ^ 24 → m.known code ≡ false → Begins m words (refused (NoSuchCode code))
  code_front [] code h b k = absurd (omega (arith, h.0))
  code_front (w ∷ rest) code h b k = at_code b k h.1

  pub short_term_front : (words : List ℕ) (code : ℕ) → Headed (first_word 0x12 code) words → code < 2 ^ 24 → m.known code ≡ true → length words - 1 < m.places code → Begins m words (refused CutShort)
  short_term_front [] code h b k l = absurd (omega (arith, h.0))
  short_term_front (w ∷ rest) code h b k l = term_begins m w rest code b h.1 true k (yes (omega arith))

  pub term_front : (words : List ℕ) (code : ℕ) → Headed (first_word 0x12 code) words → code < 2 ^ 24 → m.known code ≡ true → m.places code ≤ length words - 1 →
      Begins m words (item (term code (take (m.places code) (drop 1 words))))
  term_front [] code h b k l = absurd (omega (arith, h.0))
  term_front (w ∷ rest) code h b k l = term_begins m w rest code b h.1 true k (no (λ s. omega arith))

  -- the words behind the first, as many as the code has places
  pub term_part : (words : List ℕ) (code count : ℕ) (places : List ℕ) → Headed (first_word 0x12 code) words → code < 2 ^ 24 → m.known code ≡ true → count ≡ m.places code →
      1 + count ≤ length words → places ≡ slice_range words 1 (1 + count) → Begins m words (item (term code places))
  term_part words code count places h b k n l e =
      let one : 1 + count - 1 ≡ count = omega arith in
      rw (e, one, n) (term_front words code h b k (omega arith))

  pub short_link_front : (words : List ℕ) → Headed (first_word 0x13 0) words → length words < 3 → Begins m words (refused CutShort)
  short_link_front [] h l = absurd (omega (arith, h.0))
  short_link_front (w ∷ []) h l = link_begins m w [] h.1 [] refl
  short_link_front (w ∷ a ∷ []) h l = link_begins m w (a ∷ []) h.1 (a ∷ []) refl
  short_link_front (w ∷ a ∷ b ∷ rest) h l = absurd (omega arith)

  pub link_front : (words : List ℕ) → Headed (first_word 0x13 0) words → 3 ≤ length words → Begins m words (item (link (get_or words 1 0) (get_or words 2 0)))
  link_front [] h l = absurd (omega arith)
  link_front (w ∷ []) h l = absurd (omega arith)
  link_front (w ∷ a ∷ []) h l = absurd (omega arith)
  link_front (w ∷ a ∷ b ∷ rest) h l = link_begins m w (a ∷ b ∷ rest) h.1 (a ∷ b ∷ rest) refl
