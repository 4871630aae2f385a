-- When two terms may have one type, by their codes. Assumes nothing.
use Rattle.std.specs.Prelude.{◌≡◌, ℕ}
use Rattle.theory.specs.Meaning.{Meaning, layered_by}

-- Two plain codes agree: they are one, or the one is Pair and the other List.
pub data CodesAgree (m : Meaning) (c d : ℕ) : Type 0 where
  one_code : c ≡ d → CodesAgree m c d
  pair_and_list : m.layering ≡ layered_by c d → CodesAgree m c d
  list_and_pair : m.layering ≡ layered_by d c → CodesAgree m c d
