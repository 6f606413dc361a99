-- The events of the Trace Event Format that a trace has, as the values that serde_json reads: the members of an object
-- stand by their names.
use Rattle.std.specs.Prelude.{ℕ, List, [], ◌∷◌, codes}
use Rattle.serde_json.specs.Data.{Data, Members, no_members, member, number, string, object, unsigned}

abbrev pub members : List (List ℕ × Data) → Members
members [] = no_members
members (m ∷ ms) = member m.0 m.1 (members ms)

-- the object of these members
abbrev pub made : List (List ℕ × Data) → Data
made ms = object (members ms)

abbrev pub count : ℕ → Data
count n = number (unsigned n)

-- an event's arguments, where it has but one
abbrev pub argument : List ℕ → Data → Data
argument key value = made ((key, value) ∷ [])

-- metadata of a process: its name, its labels or its place among the others
abbrev pub process_event : (name : List ℕ) → (args : Data) → (pid : ℕ) → Data
process_event name args pid =
    made ((codes "args", args) ∷ (codes "name", string name) ∷ (codes "ph", string (codes "M")) ∷ (codes "pid", count pid) ∷ [])

-- metadata of a thread's track
abbrev pub thread_event : (name : List ℕ) → (args : Data) → (pid : ℕ) → (tid : ℕ) → Data
thread_event name args pid tid =
    made ((codes "args", args) ∷ (codes "name", string name) ∷ (codes "ph", string (codes "M")) ∷ (codes "pid", count pid) ∷ (codes "tid", count tid) ∷ [])

-- a complete event: a slice of so many microseconds from `ts` on
abbrev pub slice_event : (args : Data) → (cat : List ℕ) → (dur : ℕ) → (name : List ℕ) → (pid : ℕ) → (tid : ℕ) → (ts : ℕ) → Data
slice_event args cat dur name pid tid ts =
    made ((codes "args", args) ∷ (codes "cat", string cat) ∷ (codes "dur", count dur) ∷ (codes "name", string name) ∷ (codes "ph", string (codes "X"))
    ∷ (codes "pid", count pid) ∷ (codes "tid", count tid) ∷ (codes "ts", count ts) ∷ [])

-- an instant of a thread
abbrev pub instant_event : (cat : List ℕ) → (name : List ℕ) → (pid : ℕ) → (tid : ℕ) → (ts : ℕ) → Data
instant_event cat name pid tid ts =
    made ((codes "cat", string cat) ∷ (codes "name", string name) ∷ (codes "ph", string (codes "i")) ∷ (codes "pid", count pid) ∷ (codes "s", string (codes "t"))
    ∷ (codes "tid", count tid) ∷ (codes "ts", count ts) ∷ [])

-- one that has arguments
abbrev pub marked_event : (args : Data) → (cat : List ℕ) → (name : List ℕ) → (pid : ℕ) → (tid : ℕ) → (ts : ℕ) → Data
marked_event args cat name pid tid ts =
    made ((codes "args", args) ∷ (codes "cat", string cat) ∷ (codes "name", string name) ∷ (codes "ph", string (codes "i")) ∷ (codes "pid", count pid)
    ∷ (codes "s", string (codes "t")) ∷ (codes "tid", count tid) ∷ (codes "ts", count ts) ∷ [])

-- the values of a counter of the kernel's process from `ts` on
abbrev pub counter_event : (args : Data) → (name : List ℕ) → (ts : ℕ) → Data
counter_event args name ts =
    made ((codes "args", args) ∷ (codes "name", string name) ∷ (codes "ph", string (codes "C")) ∷ (codes "pid", count 1) ∷ (codes "ts", count ts) ∷ [])
