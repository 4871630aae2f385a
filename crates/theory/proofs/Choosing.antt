-- What meanings that agree have in common. Assumes nothing.
use Rattle.std.proofs.Common.{ℕ, Some, None, sym, refl}
use Rattle.theory.specs.Meaning.{Meaning, Agree, Choice, NoChoice, ChoiceByMeaning}

module _ (m n : Meaning) (agree : Agree m n) where
  pub agree_back : Agree n m
  agree_back = record {
    same_known = λ c. sym (agree.same_known c);
    same_plain = λ c. sym (agree.same_plain c);
    same_places = λ c. sym (agree.same_places c);
    same_classes = λ c. sym (agree.same_classes c);
    same_layering = sym agree.same_layering;
  }

  -- a code that one may choose bars the other from finding none
  choice_bars : (set c : ℕ) → Choice m set c → NoChoice n set → ⊥
  choice_bars set c chosen none =
      none.no_code c (let k = agree.same_known c in let h = chosen.is_known in cc) (rw (agree.same_classes c) at chosen.admitted)

pub choice_by_meaning : ChoiceByMeaning
choice_by_meaning m n agree set None None h g = refl
choice_by_meaning m n agree set None (Some q) h g = absurd (choice_bars n m (agree_back m n agree) set q g h)
choice_by_meaning m n agree set (Some r) None h g = absurd (choice_bars m n agree set r h g)
choice_by_meaning m n agree set (Some r) (Some q) h g = refl
