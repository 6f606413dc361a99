-- The keys of a document of needs: how each is spelled, which values it takes, and which tables have it.
use Rattle.std.specs.Prelude.{ℕ, List, [], ◌∷◌, codes, if◌then◌else◌}
use Rattle.toml.specs.Data.{Members}
use Rattle.dk_config.specs.declared.TheConstants.{MAX_SPAN, MAX_TICKS}
use Rattle.dk_loader.specs.Look.{is_missing}
use Rattle.dk_needs.specs.declared.TheConstants.{MAX_PERCENT}
use Rattle.dk_needs.specs.declared.fault.Key.{Key}
use Rattle.dk_needs.specs.declared.fault.Key.TheVariants as key
use Rattle.dk_needs.specs.declared.fault.Section.{Section}
use Rattle.dk_needs.specs.declared.fault.Section.TheVariants as section
use Rattle.dk_needs.specs.declared.keys.Form.{Form}
use Rattle.dk_needs.specs.declared.keys.Form.TheVariants as form
use Rattle.dk_needs.specs.declared.keys.Shape.{Shape}
use Rattle.dk_needs.specs.declared.keys.Shape.TheVariants as shape

-- the sections, in the order in which they are read
abbrev pub sections : List Section
sections =
    section.Deadline ∷ section.Chain ∷ section.Jitter ∷ section.Room ∷ section.Growth ∷ section.Spare ∷ section.Slack
    ∷ section.Always ∷ section.Run ∷ []

-- the key as it stands in a document
abbrev pub key_name : Key → List ℕ
key_name key.Version = codes "version"
key_name key.Tick = codes "tick"
key_name key.Deadline = codes "deadline"
key_name key.Chain = codes "chain"
key_name key.Jitter = codes "jitter"
key_name key.Room = codes "room"
key_name key.Growth = codes "growth"
key_name key.Spare = codes "spare"
key_name key.Slack = codes "slack"
key_name key.Always = codes "always"
key_name key.Run = codes "run"
key_name key.Id = codes "id"
key_name key.Process = codes "process"
key_name key.Within = codes "within"
key_name key.Each = codes "each"
key_name key.Processes = codes "processes"
key_name key.Reaction = codes "reaction"
key_name key.Age = codes "age"
key_name key.Begins = codes "begins"
key_name key.Done = codes "done"
key_name key.Budget = codes "budget"
key_name key.Mutex = codes "mutex"
key_name key.Hold = codes "hold"
key_name key.Level = codes "level"
key_name key.Release = codes "release"
key_name key.Percent = codes "percent"
key_name key.Ticks = codes "ticks"
key_name key.Waits = codes "waits"
key_name key.Overruns = codes "overruns"
key_name key.Refused = codes "refused"
key_name key.Faults = codes "faults"
key_name key.Forever = codes "forever"
key_name key.Unknown = codes "unknown"

-- the values that it takes
abbrev pub shape_of : Key → Shape
shape_of key.Version = shape.Number 1 1
shape_of key.Tick = shape.Tick
shape_of key.Id = shape.Id
shape_of key.Process = shape.Name
shape_of key.Mutex = shape.Name
shape_of key.Processes = shape.Names
shape_of key.Within = shape.Number 1 MAX_SPAN
shape_of key.Each = shape.Number 1 MAX_SPAN
shape_of key.Budget = shape.Number 1 MAX_SPAN
shape_of key.Hold = shape.Number 1 MAX_SPAN
shape_of key.Ticks = shape.Number 1 MAX_SPAN
shape_of key.Reaction = shape.Number 1 MAX_TICKS
shape_of key.Age = shape.Number 1 MAX_TICKS
shape_of key.Begins = shape.Number 0 MAX_SPAN
shape_of key.Done = shape.Number 0 MAX_SPAN
shape_of key.Level = shape.Number 0 11
shape_of key.Release = shape.Number 0 MAX_SPAN
shape_of key.Percent = shape.Number 1 MAX_PERCENT
shape_of key.Waits = shape.True
shape_of key.Forever = shape.True
shape_of key.Overruns = shape.Number 0 MAX_TICKS
shape_of key.Refused = shape.Number 0 MAX_TICKS
shape_of key.Faults = shape.Number 0 MAX_TICKS
shape_of _ = shape.Rows

-- the key of its rows
abbrev pub section_key : Section → Key
section_key section.Deadline = key.Deadline
section_key section.Chain = key.Chain
section_key section.Jitter = key.Jitter
section_key section.Room = key.Room
section_key section.Growth = key.Growth
section_key section.Spare = key.Spare
section_key section.Slack = key.Slack
section_key section.Always = key.Always
section_key section.Run = key.Run

-- the keys that a document may have beside its version
abbrev pub top_keys : List Key
top_keys =
    key.Tick ∷ key.Deadline ∷ key.Chain ∷ key.Jitter ∷ key.Room ∷ key.Growth ∷ key.Spare ∷ key.Slack ∷ key.Always
    ∷ key.Run ∷ []

-- the keys that a row must have
abbrev pub needed_keys : Form → List Key
needed_keys form.Deadline = key.Id ∷ key.Process ∷ key.Within ∷ []
needed_keys form.Chain = key.Id ∷ key.Processes ∷ key.Reaction ∷ []
needed_keys form.Age = key.Id ∷ key.Processes ∷ key.Age ∷ []
needed_keys form.Jitter = key.Id ∷ key.Process ∷ key.Begins ∷ []
needed_keys form.DoneJitter = key.Id ∷ key.Process ∷ key.Done ∷ []
needed_keys form.ChainJitter = key.Id ∷ key.Processes ∷ key.Reaction ∷ []
needed_keys form.Budget = key.Id ∷ key.Process ∷ key.Budget ∷ []
needed_keys form.Hold = key.Id ∷ key.Mutex ∷ key.Hold ∷ []
needed_keys form.Release = key.Id ∷ key.Level ∷ key.Release ∷ []
needed_keys form.Growth = key.Id ∷ key.Percent ∷ []
needed_keys form.Spare = key.Id ∷ key.Level ∷ key.Ticks ∷ []
needed_keys form.Slack = key.Id ∷ key.Process ∷ key.Each ∷ []
needed_keys form.Always = key.Id ∷ key.Process ∷ key.Waits ∷ []
needed_keys form.Run = key.Id ∷ []

-- the keys that it may have beside these
abbrev pub other_keys : Form → List Key
other_keys form.Chain = key.Age ∷ []
other_keys form.Jitter = key.Done ∷ []
other_keys form.Slack = key.Within ∷ []
other_keys form.Run = key.Overruns ∷ key.Refused ∷ key.Faults ∷ key.Forever ∷ []
other_keys _ = []

-- room for a release, unless there is a mutex
abbrev pub room_of_none : Members → Form
room_of_none ms = if is_missing (codes "mutex") ms then form.Release else form.Hold

-- jitter that is of no chain: of a process's end alone where nothing is asked of its begin
abbrev pub jitter_of_process : Members → Form
jitter_of_process ms = if is_missing (codes "begins") ms then form.DoneJitter else form.Jitter

-- a chain with no reaction time is of its age; jitter is of a chain or of a process; room is for the budget of a process, the hold of a mutex or the release of a level
abbrev pub form_of : Section → Members → Form
form_of section.Deadline ms = form.Deadline
form_of section.Chain ms = if is_missing (codes "reaction") ms then form.Age else form.Chain
form_of section.Jitter ms = if is_missing (codes "processes") ms then jitter_of_process ms else form.ChainJitter
form_of section.Room ms = if is_missing (codes "process") ms then room_of_none ms else form.Budget
form_of section.Growth ms = form.Growth
form_of section.Spare ms = form.Spare
form_of section.Slack ms = form.Slack
form_of section.Always ms = form.Always
form_of section.Run ms = form.Run
