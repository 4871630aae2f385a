-- A small alphabet for examples: number, of code 1, Pair, of code 4, and List, of code 5. Assumes nothing.
use Rattle.std.proofs.Common.{◌≡◌, ℕ, zero, suc, ◌^◌, ◌<◌, ◌≤◌, Bool, true, false, refl, arith}
use Rattle.theory.specs.Meaning.{layered_by, Meaning, Lawful}
use Rattle.theory.proofs.Impossible.{impossible}

abbrev toy_known : ℕ → Bool
toy_known zero = false
toy_known (suc zero) = true
toy_known (suc (suc zero)) = false
toy_known (suc (suc (suc zero))) = false
toy_known (suc (suc (suc (suc zero)))) = true
toy_known (suc (suc (suc (suc (suc zero))))) = true
toy_known (suc (suc (suc (suc (suc (suc c)))))) = false

abbrev toy_places : ℕ → ℕ
toy_places zero = 0
toy_places (suc zero) = 0
toy_places (suc (suc zero)) = 0
toy_places (suc (suc (suc zero))) = 0
toy_places (suc (suc (suc (suc zero)))) = 2
toy_places (suc (suc (suc (suc (suc zero))))) = 1
toy_places (suc (suc (suc (suc (suc (suc c)))))) = 0

-- class 0 admits all of them, and class 1 only number
abbrev toy_classes : ℕ → ℕ
toy_classes zero = 0
toy_classes (suc zero) = 3
toy_classes (suc (suc zero)) = 0
toy_classes (suc (suc (suc zero))) = 0
toy_classes (suc (suc (suc (suc zero)))) = 1
toy_classes (suc (suc (suc (suc (suc zero))))) = 1
toy_classes (suc (suc (suc (suc (suc (suc c)))))) = 0

abbrev pub toy : Meaning
toy = record { known = toy_known; plain = λ c. c; places = toy_places; classes = toy_classes; layering = layered_by 4 5 }

-- what holds of the three codes and of every other number holds of each number
toy_cases : (P : ℕ → Type 0) → P 1 → P 4 → P 5 → ((c : ℕ) → toy_known c ≡ false → toy_places c ≡ 0 → toy_classes c ≡ 0 → P c) → (c : ℕ) → P c
toy_cases P number pair list other zero = other 0 refl refl refl
toy_cases P number pair list other (suc zero) = number
toy_cases P number pair list other (suc (suc zero)) = other 2 refl refl refl
toy_cases P number pair list other (suc (suc (suc zero))) = other 3 refl refl refl
toy_cases P number pair list other (suc (suc (suc (suc zero)))) = pair
toy_cases P number pair list other (suc (suc (suc (suc (suc zero))))) = list
toy_cases P number pair list other (suc (suc (suc (suc (suc (suc c)))))) = other (suc (suc (suc (suc (suc (suc c)))))) refl refl refl

pub toy_lawful : Lawful toy
toy_lawful = record {
  plain_known = λ c known. known;
  plain_plain = λ c known. refl;
  plain_places = λ c known. refl;
  plain_classes = λ c known. refl;
  few_places = toy_cases (λ c. toy_places c ≤ 9) (omega arith) (omega arith) (omega arith) (λ c unknown none_of empty. rw none_of (omega arith));
  small_codes = toy_cases (λ c. toy_known c ≡ true → c < 2 ^ 24) (λ known. omega arith) (λ known. omega arith) (λ known. omega arith) (λ c unknown none_of empty known. impossible (cc));
  eight_classes = toy_cases (λ c. toy_classes c < 256) (omega arith) (omega arith) (omega arith) (λ c unknown none_of empty. rw empty (omega arith));
  other_plain = λ c unknown. refl;
  other_places = toy_cases (λ c. toy_known c ≡ false → toy_places c ≡ 0) (λ unknown. impossible (cc)) (λ unknown. impossible (cc)) (λ unknown. impossible (cc)) (λ c unknown none_of empty q. none_of);
  other_classes = toy_cases (λ c. toy_known c ≡ false → toy_classes c ≡ 0) (λ unknown. impossible (cc)) (λ unknown. impossible (cc)) (λ unknown. impossible (cc)) (λ c unknown none_of empty q. empty);
  has_leaf = (1, record { is_known = refl; is_plain = refl; bare = refl });
  layered = record {
    pair_known = refl;
    list_known = refl;
    pair_plain = refl;
    list_plain = refl;
    apart = λ e. omega arith;
    pair_places = refl;
    list_places = refl;
    alike = λ k. refl;
  };
}
