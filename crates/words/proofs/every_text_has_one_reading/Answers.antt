-- The statement is proved in OneReading.
use Rattle.words.proofs.OneReading.{every_text_has_one_reading}
use Rattle.words.proofs.every_text_has_one_reading.Goals as goal

pub returns : goal.returns
returns c = every_text_has_one_reading
