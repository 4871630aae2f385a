use Rattle.std.proofs.Common.{◌≤◌, rules}
use Rattle.theory.proofs.SetsAsNumbers.{included_below}
use Rattle.alphabet.specs.Loads.{classes}
use Rattle.alphabet.proofs.loads.LoadsAlphabet.some.Goals as goal

-- a code whose classes include floor is that of a pallet or a cage
pub returns-in-2 : goal.returns-in-2
returns-in-2 c = record {
  chosen = record { is_known = search rules; is_plain = search rules; admitted = rw c.in-2.is (λ k h. h); bare = search rules };
  lowest = λ d known plain admitted. let h : c.args.set ≤ classes d = included_below c.args.set (classes d) admitted in search rules;
}

-- the classes of a code are none, belt or floor
pub returns-in_default : goal.returns-in_default
returns-in_default c = record {
  chosen = record { not_empty = search rules; no_code = λ d known admitted. let h : c.args.set ≤ classes d = included_below c.args.set (classes d) admitted in search rules };
  lowest = tt;
}
