-- The words of what a tick is for are spelled as those of a line are.
use Rattle.std.proofs.Common.{refl}
use Rattle.dk_trace.specs.declared.Source.{Source}
use Rattle.dk_trace.specs.declared.Label.{Label}
use Rattle.dk_ledger.specs.Words.{AreSpelled}
use Rattle.dk_ledger.proofs.Spelled.{number_spelled, work_spelled}
pub use Rattle.dk_ledger.proofs.Spelled.{behind_all, parted_all, word_all}
use Rattle.dk_entry_words.specs.Works.{work_words}

pub work_words_spelled : (label : Label) → AreSpelled (work_words label)
work_words_spelled (Label.Kernel j) = (refl, (number_spelled j, tt))
work_words_spelled (Label.In x) = (refl, tt)
work_words_spelled (Label.Run x) = (refl, tt)
work_words_spelled (Label.Call x) = (refl, tt)
work_words_spelled (Label.Out x) = (refl, tt)
work_words_spelled (Label.Slack x Source.Timeline work) = (refl, (refl, (work_spelled work, tt)))
work_words_spelled (Label.Slack x (Source.Reclaimed j) work) = (refl, (refl, (number_spelled j, (work_spelled work, tt))))
work_words_spelled Label.Idle = (refl, tt)
