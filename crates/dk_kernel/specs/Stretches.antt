-- What contracts see of a stretch of ticks.
use Rattle.std.specs.Prelude.{ℕ, ◌≡◌, ◌-◌, List, ◌∷◌, ◌++◌, replicate, Bool, true, false, None}
use Rattle.dk_trace.specs.declared.Work.{Work}
use Rattle.dk_trace.specs.declared.Label.{Label}
use Rattle.dk_trace.specs.declared.Entry.{Entry}
use Rattle.dk_trace.specs.Entries.{quiet}
use Rattle.dk_kernel.specs.declared.stretch.Stretch.{Stretch}

-- its last entry, which alone may have an event
abbrev pub last_of : Stretch → Entry
last_of s = record { label = s.label; event = s.event }

-- its entries, the newest first
abbrev pub entries_of : Stretch → List Entry
entries_of s = last_of s ∷ replicate (s.count - 1) (quiet s.label)

-- the entries with so many more, all of the label of this one, which is the newest and alone may have an event
abbrev pub gone_on : ℕ → Entry → List Entry → List Entry
gone_on n e past = (e ∷ replicate (n - 1) (quiet e.label)) ++ past

-- somebody is at a kernel call in a tick with this label
abbrev pub calls : Label → Bool
calls (Label.Call x) = true
calls (Label.Slack x source Work.Call) = true
calls _ = false

-- nobody is at a kernel call in its ticks, and nothing happens in them
pub record IsComputed (s : Stretch) : Type 0 where
  pub quiet : s.event ≡ None
  pub label : calls s.label ≡ false
