-- What an event says: its word, and what stands behind it.
use Rattle.std.specs.Prelude.{ℕ, List, codes}
use Rattle.dk_trace.specs.declared.Event.{Event}
use Rattle.dk_trace.specs.declared.says.Arguments.{Arguments}
use Rattle.dk_trace.specs.Refusals.{number}

-- the word of an event
abbrev pub word_of : Event → List ℕ
word_of Event.Wait = codes "wait"
word_of Event.Exit = codes "exit"
word_of (Event.Fault kind) = codes "fault"
word_of (Event.Create serial level quota) = codes "create"
word_of (Event.Delete serial) = codes "delete"
word_of (Event.Lock m) = codes "lock"
word_of (Event.Unlock m) = codes "unlock"
word_of (Event.Slack amount) = codes "slack"
word_of (Event.Put value) = codes "put"
word_of (Event.Refused refusal) = codes "refused"

-- what stands behind it
abbrev pub arguments_of : Event → Arguments
arguments_of Event.Wait = Arguments.Nothing
arguments_of Event.Exit = Arguments.Nothing
arguments_of (Event.Fault kind) = Arguments.Kind kind
arguments_of (Event.Create serial level quota) = Arguments.Three serial level quota
arguments_of (Event.Delete serial) = Arguments.One serial
arguments_of (Event.Lock m) = Arguments.One m
arguments_of (Event.Unlock m) = Arguments.One m
arguments_of (Event.Slack amount) = Arguments.One amount
arguments_of (Event.Put value) = Arguments.One value
arguments_of (Event.Refused refusal) = Arguments.One (number refusal)
