-- What has been written are the values so far. Assumes nothing.
use Rattle.std.proofs.Common.{◌≡◌, ℕ, List, map}
use Rattle.std.specs.Fmt.{HasWritten, IsPlainFormatter}
use Rattle.report.specs.Texts.{ShownAs, comma_separated_text}
use Rattle.report.proofs.CommaSeparated.{separator_after}
use Rattle.report.proofs.texts.write_comma_separated.Given as goal

abbrev pub invariant-loop-value : goal.invariant-loop-value
invariant-loop-value g l = record {
  next : l.separator ≡ separator_after l.yielded;
  written : (text : g.row.T.Denot → List ℕ) → ShownAs g.T.Display.output text → IsPlainFormatter l.initial.f → HasWritten g.W.Write.write_str_gives l.initial.f (comma_separated_text (map text l.yielded)) l.f;
}
