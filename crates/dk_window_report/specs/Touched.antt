-- Which rows an entry changes otherwise than one of nobody, and where they stand.
use Rattle.std.specs.Prelude.{ℕ, zero, suc, ◌≡◌, ◌==◌, ◌&&◌, not, if◌then◌else◌, Bool, true, List, [], ◌∷◌, map, slice_get, option_and_then, Option, Some}
use Rattle.std.specs.Option.{option_map_or}
use Rattle.dk_trace.specs.declared.ThreadId.{ThreadId}
use Rattle.dk_trace.specs.declared.Event.{Event}
use Rattle.dk_trace.specs.declared.Entry.{Entry}
use Rattle.dk_trace.specs.Entries.{thread_of}
use Rattle.dk_window_report.specs.declared.late.Late.{Late}
use Rattle.dk_window_report.specs.declared.touched.Touched.{Touched}
use Rattle.dk_window_report.specs.declared.rows.Rows.{Rows}
use Rattle.dk_window_report.specs.Rows.{Kept}
use Rattle.dk_window_report.specs.Late.{AreUpTo}

-- the end of a main stops its children
abbrev pub touched_by_end : ThreadId → Touched
touched_by_end x = if x.serial == 0 then Touched.All else Touched.One x

-- a delete of a main stops a child
abbrev pub touched_by_delete : ThreadId → ℕ → Touched
touched_by_delete x serial =
    if (x.serial == 0) && not (serial == 0) then Touched.Two x (record { process = x.process; serial = serial }) else Touched.One x

-- by what the thread did
abbrev pub touched_in : ThreadId → Option Event → Touched
touched_in x (Some Event.Exit) = touched_by_end x
touched_in x (Some (Event.Fault kind)) = touched_by_end x
touched_in x (Some (Event.Delete serial)) = touched_by_delete x serial
touched_in x _ = Touched.One x

-- By the entry, where rows can be found by their threads; else all may be touched.
abbrev pub touched_by : Bool → Entry → Touched
touched_by known e = option_map_or (λ x. if known then touched_in x e.event else Touched.All) (thread_of e.label) Touched.Nobody

-- the place of the thread's row, by process and serial
abbrev pub place_of : List (List ℕ) → ThreadId → Option ℕ
place_of families x = option_and_then (λ family. slice_get family x.serial) (slice_get families x.process)

-- the row at the place changed, where there is one
abbrev pub changed : (Late → Late) → ℕ → List Late → List Late
changed f i [] = []
changed f zero (l ∷ ls) = f l ∷ ls
changed f (suc i) (l ∷ ls) = l ∷ changed f i ls

abbrev pub changed_at : (Late → Late) → Option ℕ → List Late → List Late
changed_at f place ls = option_map_or (λ i. changed f i ls) place ls

abbrev pub changed_by : (Late → Late) → List (List ℕ) → Touched → List Late → List Late
changed_by f families Touched.Nobody ls = ls
changed_by f families (Touched.One x) ls = changed_at f (place_of families x) ls
changed_by f families (Touched.Two x y) ls = changed_at f (place_of families y) (changed_at f (place_of families x) ls)
changed_by f families Touched.All ls = map f ls

-- the place is the thread's now, and those before are as they were
pub record IsAdded (old new : List (List ℕ)) (x : ThreadId) (place : ℕ) : Type 0 where
  pub found : place_of new x ≡ Some place
  pub keeps : (y : ThreadId) (i : ℕ) → place_of old y ≡ Some i → place_of new y ≡ Some i

-- each row is found by its thread, the places counted from k
abbrev pub AreFound : List (List ℕ) → ℕ → List Late → Type 0
AreFound families k [] = Unit {0}
AreFound families k (l ∷ ls) = (place_of families l.row.thread ≡ Some k) × AreFound families (suc k) ls

-- no row is of a tick after now, and where rows can be found by their threads each one is
pub record ArePlaced (now : ℕ) (r : Rows) : Type 0 where
  pub before : AreUpTo now r.lates.items
  pub found : r.known ≡ true → AreFound r.families.items 0 r.lates.items

-- what is kept of the threads, and the rows of which it is made
pub record Tabled : Type 0 where
  pub kept : Kept
  pub rows : Rows

abbrev pub IsPlaced : Tabled → Type 0
IsPlaced t = ArePlaced t.kept.ticks t.rows
