-- What is said of the entries that a recorder is handed.
use Rattle.std.specs.Prelude.{◌<◌, List, [], ◌∷◌, IfSome}
use Rattle.dk_config.specs.Configuration.{Configuration}
use Rattle.dk_trace.specs.declared.Label.{Label}
use Rattle.dk_trace.specs.declared.Entry.{Entry}
use Rattle.dk_trace.specs.Entries.{kernel_level, thread_of}
use Rattle.dk_trace.specs.Ranges.{Size, size_of}

-- the label names a level and a process that there are
pub record IsLabelKnown (size : Size) (label : Label) : Type 0 where
  pub level : IfSome (kernel_level label) (λ j. j < size.levels)
  pub process : IfSome (thread_of label) (λ x. x.process < size.processes)

-- so does that of the newest entry
abbrev pub NewestIsKnown : Configuration → List Entry → Type 0
NewestIsKnown c [] = Unit {0}
NewestIsKnown c (e ∷ past) = IsLabelKnown (size_of c) e.label
