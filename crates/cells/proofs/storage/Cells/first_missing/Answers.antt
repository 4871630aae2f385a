-- What the library's `find` says of the numbers.
use Rattle.std.proofs.Common.{◌<◌, ◌≤◌, length, rules, tests}
use Rattle.std.proofs.lemmas.Iterator.{first_from_find, YieldsList-from_slice}
use Rattle.std.proofs.lemmas.Iterator.Consumers.{YieldsList-from_copied}
use Rattle.cells.specs.Contents.{cells_of}
use Rattle.cells.proofs.MissingNumbers.{first_missing_from_find}
use Rattle.cells.proofs.Holdings.{count_is_length}
use Rattle.cells.proofs.storage.Cells.first_missing.Goals as goal

pub returns : goal.returns
returns c =
    let cells = cells_of c.args.self.now in
    let counted = count_is_length c.args.self.now in
    first_missing_from_find cells c.args.cells.now c.find.result
    (first_from_find _ _ _ (λ x. length cells ≤ x) (λ x. x < length cells) c.find.ensures.ran (YieldsList-from_copied (YieldsList-from_slice c.args.cells.now cc))
    (λ x q k. search (rules, tests)) (λ x q k. search (rules, tests)))
