-- How a text is read from its front, a step at a time. Assumes nothing.
use Rattle.std.proofs.Common.{◌≡◌, ◌↔◌, true, false, IsTrue, IfSome, All, slice_get, ℕ, ◌+◌, ◌<◌, ◌≤◌, List, [], ◌∷◌, ◌++◌, length, get_or, sym, refl, ap, ◌∙◌, subst, append_assoc, append-nil, arith, length-append}
use Rattle.std.specs.List.{between}
use Rattle.std.proofs.lemmas.Slice.{first_rest}
use Rattle.words.specs.Spelling.{Spells}
use Rattle.words.specs.Reading.{White, Solid, Inline, Token, Passes, blank, next_line, comment, Outcome, words, unreadable, before, Reads, ended, pass, word, fault, OneReading, BeginsWithWord, here, later}
use Rattle.words.proofs.LongestFront.{longest_by_test}
use Rattle.words.proofs.OneReading.{pass_shortens, one_reading, solid_token}

-- the words found stand at the front of the text, and the rest begins in that line
pub record SoFar (text found : List ℕ) (line : ℕ) (rest : List ℕ) : Type 0 where
  pub reads : (o : Outcome) → Reads line rest o → Reads 1 text (before found o)
  pub begins : BeginsWithWord rest → BeginsWithWord text
  pub lines : line + length rest ≤ length text + 1

before_push : (vs : List ℕ) (v : ℕ) (o : Outcome) → before vs (before (v ∷ []) o) ≡ before (vs ++ v ∷ []) o
before_push vs v (words ws) = ap words (sym (append_assoc vs (v ∷ []) ws))
before_push vs v (unreadable n w) = refl

module _ {text found : List ℕ} {n : ℕ} {t : List ℕ} (so : SoFar text found n t) where
  pub passed : {m : ℕ} {u : List ℕ} → Passes n t m u → SoFar text found m u
  passed p = record {
    reads = λ o r. so.reads o (pass p r);
    begins = λ b. so.begins (later p b);
    lines = omega (arith, pass_shortens p, so.lines);
  }

  pub one_word_more : {w u : List ℕ} {v : ℕ} → t ≡ w ++ u → Token w u → Spells w v → SoFar text (found ++ v ∷ []) n u
  one_word_more {w} {u} {v} e k s = record {
    reads = λ o r. rw before_push at (so.reads (before (v ∷ []) o) (rw e (word k s r)));
    begins = λ b. so.begins (rw e (here k s));
    lines = omega (arith, so.lines, ap length e, length-append w u);
  }

pub all_read : {text found : List ℕ} {n : ℕ} {t : List ℕ} → SoFar text found n t → length t < 1 → OneReading 1 text (words found)
all_read {t = []} so e = one_reading (rw append-nil at (so.reads _ ended))
all_read {t = b ∷ t} so e = absurd (omega arith)

pub stopped : {text found : List ℕ} {n : ℕ} {w u : List ℕ} → SoFar text found n (w ++ u) → Token w u → ((v : ℕ) → Spells w v → ⊥) → OneReading 1 text (unreadable n w)
stopped so k h = one_reading (so.reads _ (fault k h))

-- the text that the code holds, by its first byte
abbrev tail : List ℕ → List ℕ
tail t = between 1 (length t) t

at_first : (P : List ℕ → Type 0) (t : List ℕ) → 0 < length t → P (get_or t 0 0 ∷ tail t) → P t
at_first P t l p = subst P (sym (first_rest t 0 l)) p

pub at_line_end : {n : ℕ} (t : List ℕ) → 0 < length t → get_or t 0 0 ≡ 10 → Passes n t (n + 1) (tail t)
at_line_end {n} t l e = at_first (λ x. Passes n x (n + 1) (tail t)) t l (rw e next_line)

pub at_blank : {n : ℕ} (t : List ℕ) → 0 < length t → White (get_or t 0 0) → Inline (get_or t 0 0) → Passes n t n (tail t)
at_blank {n} t l w i = at_first (λ x. Passes n x n (tail t)) t l (blank w i)

pub at_comment : {n : ℕ} (t c u : List ℕ) → 0 < length t → get_or t 0 0 ≡ 35 → tail t ≡ c ++ u → All (λ b. IsTrue true ↔ Inline b) c → IfSome (slice_get u 0) (λ b. IsTrue false ↔ Inline b) → Passes n t n u
at_comment {n} t c u l e f a s = at_first (λ x. Passes n x n u) t l (rw (e, f) (comment (longest_by_test Inline c u a s)))

pub at_token : (t w u : List ℕ) → 0 < length t → Solid (get_or t 0 0) → t ≡ w ++ u → All (λ b. IsTrue true ↔ Solid b) w → IfSome (slice_get u 0) (λ b. IsTrue false ↔ Solid b) → Token w u
at_token t w u l s e a r = solid_token s (sym (first_rest t 0 l) ∙ e) (longest_by_test Solid w u a r)
