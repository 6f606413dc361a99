-- When nothing is wrong with a document.
use Rattle.std.specs.Prelude.{ℕ, ◌≡◌, ◌↔◌, List, Ok}
use Rattle.dk_config.specs.Configuration.{Configuration}
use Rattle.dk_loader.specs.Reading.{reading}
use Rattle.dk_config_report.specs.FaultLines.{count_line}
use Rattle.dk_document_report.specs.Telling.{Tells}

-- `faults 0`, that nothing is wrong, is told exactly where the document is read as a configuration.
abbrev pub TellsNone : Type 0
TellsNone = (bytes text : List ℕ) → Tells bytes text → (text ≡ count_line 0) ↔ ((c : Configuration) × (reading bytes ≡ Ok c))
