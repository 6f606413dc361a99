use Rattle.dk_entry_words.proofs.ReadBack.{line_blanks, line_same}
use Rattle.dk_entry_words.proofs.laws.told_by_any_separator.Goals as goal

pub returns-clause-ledger : goal.returns-clause-ledger
returns-clause-ledger c = line_blanks

pub returns-clause-told : goal.returns-clause-told
returns-clause-told c = λ h sep stop a b x y is parts stops other. line_same sep stop parts stops other h a b x y is
