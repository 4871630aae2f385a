-- The classes that are written are those of the set. Assumes nothing.
use Rattle.std.proofs.Common.{ℕ, List, rules, tests, refl, ap}
use Rattle.std.proofs.lemmas.Iterator.{YieldsList-from_range, YieldsList-from_map_by}
use Rattle.std.proofs.lemmas.Iterator.Consumers.{YieldsList-from_filter, YieldsList-at}
use Rattle.std.proofs.Output.{has_written_of_eq}
use Rattle.theory.specs.Meaning.{has}
use Rattle.report.specs.Texts.{comma_separated_text}
use Rattle.report.specs.Names.{class_text}
use Rattle.report.specs.declared.names.Class.{Class}
use Rattle.report.proofs.WholeRuns.{values_of_run}
use Rattle.report.proofs.names.ClassesDisplay.fmt.Goals as goal

pub returns-clause-writes : goal.returns-clause-writes
returns-clause-writes g c = λ plain ok.
    let text : Class → List ℕ = λ it. class_text it.names it.class in
    let run = c.write_comma_separated.ensures text (λ it. refl) plain ok in
    let texts =
    values_of_run run.0 run.1 run.2
    (YieldsList-from_map_by _ text (class_text c.args.self.now.names)
    (YieldsList-at c.map-classes.ensures.source
    (YieldsList-from_filter _ (has c.args.self.now.set)
    (YieldsList-at c.filter.ensures.source (YieldsList-from_range 0 8 8 refl refl)) c.filter.ensures.closure (λ x r q k. search (rules, tests)))) c.map-classes.ensures.closure (λ x r q k. search (rules, tests))) in
    has_written_of_eq _ _ _ _ _ (ap comma_separated_text texts) run.3
