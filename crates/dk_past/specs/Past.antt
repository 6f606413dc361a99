-- Where a run stands: its configuration, the entries before the open tick, the newest first, and how far that tick is.
use Rattle.std.specs.Prelude.{ℕ, List, [], ◌∷◌, ◌++◌, replicate, Some}
use Rattle.dk_config.specs.Configuration.{Configuration}
use Rattle.dk_trace.specs.declared.Work.{Work}
use Rattle.dk_trace.specs.declared.Label.{Label}
use Rattle.dk_trace.specs.declared.Choice.{Choice}
use Rattle.dk_trace.specs.declared.Event.{Event}
use Rattle.dk_trace.specs.declared.Entry.{Entry}
use Rattle.dk_trace.specs.Choices.{chosen}
use Rattle.dk_trace.specs.Entries.{quiet}
use Rattle.dk_trace.specs.Audit.{label_of}

-- How far the open tick is: nobody has it yet; it is charged to whoever is chosen, and its event is open; its entry is
-- booked; and the clock has moved on.
pub data Tick : Type 0 where
  Ready : Tick
  Charged : Tick
  Booked : Entry → Tick
  Closed : Entry → Tick

pub record Past : Type 0 where
  pub config : Configuration
  pub entries : List Entry
  pub tick : Tick

-- before the first tick
abbrev pub start : Configuration → Past
start c = record { config = c; entries = []; tick = Ready }

-- who has the open tick
abbrev pub choice_at : Past → Choice
choice_at p = chosen p.config p.entries

-- the label of the open tick, where the thread that has it is in a call
abbrev pub call_label : Past → Label
call_label p = label_of (choice_at p) Work.Call

-- the entry of the open tick, where a call ends with this event
abbrev pub call_entry : Past → Event → Entry
call_entry p event = record { label = call_label p; event = Some event }

-- the open tick is the chosen one's
abbrev pub charged : Past → Past
charged p = record p { tick = Charged }

-- the open tick's entry is booked
abbrev pub with_entry : Entry → Past → Past
with_entry e p = record p { tick = Booked e }

-- and is that of a call that ends with this event
abbrev pub with_event : Event → Past → Past
with_event event p = with_entry (call_entry p event) p

-- the clock has moved on
abbrev pub closed : Entry → Past → Past
closed e p = record p { tick = Closed e }

-- the entries before the next tick, where the clock has moved on
abbrev pub entries_after : Tick → List Entry → List Entry
entries_after (Closed e) past = e ∷ past
entries_after _ past = past

-- the next tick is open
abbrev pub opened : Past → Past
opened p = record { config = p.config; entries = entries_after p.tick p.entries; tick = Ready }

-- so many ticks of the choice went by, one after the other and without an event
abbrev pub later : Choice → ℕ → Past → Past
later choice n p = record p { entries = replicate n (quiet (label_of choice Work.Run)) ++ p.entries }

-- what the tables tell of at this stage: the open tick's entry too, as far as it is known
abbrev pub told_at : Tick → Configuration → List Entry → List Entry
told_at Ready c past = past
told_at Charged c past = quiet (label_of (chosen c past) Work.Call) ∷ past
told_at (Booked e) c past = e ∷ past
told_at (Closed e) c past = e ∷ past

abbrev pub told : Past → List Entry
told p = told_at p.tick p.config p.entries
