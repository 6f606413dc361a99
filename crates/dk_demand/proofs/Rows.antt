-- Cells of the worked rows are the recount of their pasts.
use Rattle.dk_demand.proofs.Names.{◌≡◌, ℕ, true, List, [], ◌∷◌, refl, Some, None, ProcessRow, Mutex, Configuration, clock_at, ThreadId, Source, Work, Label, Event, Entry, Cells, first_unfit, IsRecount}

abbrev process : ℕ → ℕ → ℕ → ProcessRow
process name level budget =
    record { name = name ∷ []; program = name ∷ []; level = level; budget = budget; memory = 0; threads = 0; slack = true; max_level = 1 }

abbrev frame : ℕ → List Mutex → Configuration
frame budget mutexes = record {
  version = 1;
  costs = record { switch = 0; call = 1 };
  levels = record { period = 10; release = 0 } ∷ record { period = 20; release = 0 } ∷ [];
  processes = process 97 0 4 ∷ process 98 1 budget ∷ [];
  mutexes = mutexes;
}

abbrev alpha : ThreadId
alpha = record { process = 0; serial = 0 }

abbrev beta : ThreadId
beta = record { process = 1; serial = 0 }

abbrev plain : Label → Entry
plain label = record { label = label; event = None }

abbrev ending : Label → Event → Entry
ending label event = record { label = label; event = Some event }

abbrev run : ThreadId → Entry
run x = plain (Label.Run x)

abbrev asker : Configuration
asker = frame 11 []

-- alpha has spent its share and asked for slack
abbrev asked : List Entry
asked = run alpha ∷ run alpha ∷ ending (Label.Call alpha) (Event.Slack 65535) ∷ run alpha ∷ []

abbrev asked_cells : ℕ → Cells
asked_cells tick = record { own = 0 ∷ 11 ∷ []; remaining = 0 ∷ 15 ∷ []; blocking = 0 ∷ 0 ∷ []; windows = clock_at asker tick }

-- before tick 4 slack fits
pub asked-recount : IsRecount asker asked (asked_cells 4)
asked-recount = record { windows = refl; own = refl; remaining = refl; blocking = refl }

pub asked-fits : first_unfit (asked_cells 4) ≡ None
asked-fits = refl

-- and before tick 5 level 1 has no tick to give
pub given-recount : IsRecount asker (plain (Label.Slack alpha Source.Timeline Work.Run) ∷ asked) (asked_cells 5)
given-recount = record { windows = refl; own = refl; remaining = refl; blocking = refl }

pub given-unfit : first_unfit (asked_cells 5) ≡ Some 1
given-unfit = refl

abbrev holder : Configuration
holder = frame 10 (record { name = 99 ∷ []; ceiling = 0; hold = 3; users = (97 ∷ []) ∷ (98 ∷ []) ∷ [] } ∷ [])

-- beta holds the mutex as a window of level 0 begins
abbrev held : List Entry
held = ending (Label.Call beta) (Event.Lock 0)
    ∷ run beta ∷ run beta ∷ run beta ∷ run beta ∷ run beta
    ∷ run alpha ∷ run alpha ∷ run alpha ∷ run alpha ∷ []

abbrev held_cells : Cells
held_cells = record { own = 4 ∷ 4 ∷ []; remaining = 4 ∷ 8 ∷ []; blocking = 3 ∷ 0 ∷ []; windows = clock_at holder 10 }

pub held-recount : IsRecount holder held held_cells
held-recount = record { windows = refl; own = refl; remaining = refl; blocking = refl }

pub held-fits : first_unfit held_cells ≡ None
held-fits = refl
