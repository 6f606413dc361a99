-- What a tick of a label is for, in the words of a ledger's lines.
use Rattle.std.specs.Prelude.{◌∷◌, [], ℕ, List, codes, decimal}
use Rattle.dk_trace.specs.declared.Label.{Label}
use Rattle.dk_ledger.specs.LineText.{work_text}
use Rattle.dk_ledger.specs.Words.{source_words}

-- the words of a label without its thread
abbrev pub work_words : Label → List (List ℕ)
work_words (Label.Kernel j) = codes "kernel" ∷ decimal j ∷ []
work_words (Label.In x) = codes "in" ∷ []
work_words (Label.Run x) = codes "run" ∷ []
work_words (Label.Call x) = codes "call" ∷ []
work_words (Label.Out x) = codes "out" ∷ []
work_words (Label.Slack x source work) = codes "slack" ∷ source_words source (work_text work ∷ [])
work_words Label.Idle = codes "idle" ∷ []
