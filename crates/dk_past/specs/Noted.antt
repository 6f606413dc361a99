-- Where a run stands after a note.
use Rattle.dk_trace.specs.declared.Event.{Event}
use Rattle.dk_past.specs.Past.{Past, charged, with_entry, with_event, closed, later, opened}
use Rattle.dk_past.specs.declared.history.Note.{Note}

abbrev pub noted : Past → Note → Past
noted p Note.Charge = charged p
noted p Note.Wait = with_event Event.Wait p
noted p Note.Exit = with_event Event.Exit p
noted p (Note.Slack amount) = with_event (Event.Slack amount) p
noted p (Note.Lock m) = with_event (Event.Lock m) p
noted p (Note.Unlock m) = with_event (Event.Unlock m) p
noted p (Note.Create serial level quota) = with_event (Event.Create serial level quota) p
noted p (Note.Delete serial) = with_event (Event.Delete serial) p
noted p (Note.Entry e) = with_entry e p
noted p (Note.Close e) = closed e p
noted p Note.Open = opened p
noted p (Note.Ticks choice count) = later choice count p
