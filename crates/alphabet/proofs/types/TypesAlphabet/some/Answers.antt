use Rattle.std.proofs.Common.{◌≤◌, rules}
use Rattle.theory.proofs.SetsAsNumbers.{included_below}
use Rattle.alphabet.specs.Types.{classes}
use Rattle.alphabet.proofs.types.TypesAlphabet.some.Goals as goal

-- the classes of a code are none or addable
pub returns-in_default : goal.returns-in_default
returns-in_default c = record {
  chosen = record { not_empty = search rules; no_code = λ d known admitted. let h : c.args.set ≤ classes d = included_below c.args.set (classes d) admitted in search rules };
  lowest = tt;
}
