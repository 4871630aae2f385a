-- Each value is added to those before it, and the end of the loop is that of the iterator. Assumes nothing.
use Rattle.std.proofs.Common.{true, refl, ◌∙◌}
use Rattle.std.proofs.Output.{has_written_append, has_written_of_eq}
use Rattle.std.proofs.iter.SoFar.{exit_by}
use Rattle.report.proofs.CommaSeparated.{separator_more, separated_more}
use Rattle.report.proofs.texts.write_comma_separated.Goals as goal

pub loop-value-preserved : goal.loop-value-preserved
loop-value-preserved g c = record {
  next = separator_more c.in-Some.value c.loop-value.yielded;
  written = λ text shown plain.
      let before = c.loop-value.invariant.written text shown plain in
      let value = rw (shown c.in-Some.value, c.loop-value.invariant.next) at c.in_ok-write.ensures.writes in
      has_written_of_eq _ _ _ _ _ (separated_more c.in-Some.value text c.loop-value.yielded) (has_written_append _ _ _ _ _ _ before (value before.plain (refl {a = true})));
}

pub returns : goal.returns
returns g c = λ text shown plain ok.
    let run = exit_by g.I.Iterator.next_gives (c.loop-value.yielded, c.loop-value.yielded_by) _ (rw c.in-None.is at c.next.ensures.steps) in
    (run.0, run.1 ∙ c.into_iter-value-iterator.ensures.into_iter_gives, run.2, rw run.3.0 (c.loop-value.invariant.written text shown plain))
