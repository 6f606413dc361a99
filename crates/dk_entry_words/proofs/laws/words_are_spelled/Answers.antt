use Rattle.dk_ledger.proofs.Spelled.{line_spelled}
use Rattle.dk_entry_words.proofs.laws.words_are_spelled.Goals as goal

pub returns : goal.returns
returns c = λ h l is. line_spelled h is.names l
