-- Who asks for slack at the end of a tick has not been stopped.
use Rattle.std.specs.Prelude.{◌≡◌, ◌<◌, List, ◌∷◌, length, None}
use Rattle.dk_config.specs.Configuration.{Configuration}
use Rattle.dk_trace.specs.declared.Entry.{Entry}
use Rattle.dk_trace.specs.Members.{Has}
use Rattle.dk_trace.specs.Threads.{Thread, threads}
use Rattle.dk_trace.specs.Slack.{want}

-- whoever asks for slack once the entry's event is booked runs on
abbrev pub AskersLast : Configuration → Entry → List Entry → Type 0
AskersLast c e past = (x : Thread) → Has (threads c (e ∷ past)) x → 0 < want c (length past) (e ∷ past) x
    → x.stop ≡ None
