use Rattle.theory.proofs.RowsAreFillings.{rows_are_fillings}
use Rattle.theory.proofs.rows_are_fillings.Goals as goal

pub returns : goal.returns
returns c = λ m s lawful formed cells words standing listing type_of assigns. rows_are_fillings lawful formed standing listing type_of assigns
