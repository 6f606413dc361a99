-- What the tables tell of their rows and holds.
use Rattle.dk_recount.proofs.Names.{◌≡◌, true, ℕ, List, ◌∷◌, Configuration, ThreadId, Entry, Has, Thread, threads, thread_body_left, held_by, innermost_left, Always, HoldsNest, nested-quiet, has_row, Lockable, hold_left, innermost, LastIsLeast, last_locked, AreHolders, Tables, IsRecount, body_in, TellsOf, ready, booked, nat_tests, arith}
use Rattle.dk_recount.specs.Questions.{charged}
use Rattle.dk_recount.proofs.Holding.{last-least}

-- Rows.

pub rows-body : (c : Configuration) (now : ℕ) (past : List Entry) (d : Tables) (x : ThreadId) (y : Thread) → IsRecount c now past d → Has (threads c past) y → y.id ≡ x → has_row c now y ≡ true
    → body_in d x ≡ thread_body_left c now past y
rows-body c now past d x y r among is there = grind (arith, nat_tests)

-- Holds.

least-told : Always HoldsNest → (d : Tables) (c : Configuration) (past : List Entry) (x : ThreadId) → TellsOf d c past → LastIsLeast c (held_by x past)
least-told nest d c past x (ready r) = last-least c 1 (held_by x past) (nest c past r.ruled.checked r.ruled.accepted r.ruled.audited x)
least-told nest d c (e ∷ past) x (charged {label = label} r) = last-least c 0 (held_by x (e ∷ past)) (nested-quiet c x label past (nest c past r.ruled.checked r.ruled.accepted r.ruled.audited x))
least-told nest d c (e ∷ past) x (booked b audited) = last-least c 1 (held_by x (e ∷ past)) (nest c (e ∷ past) b.ruled.checked b.ruled.accepted audited x)

held-told : (d : Tables) (c : Configuration) (past : List Entry) → TellsOf d c past → AreHolders c past d.mutexes
held-told d c past is = grind (arith, nat_tests)

-- what the law of the mutexes says
abbrev pub LeftIs : Type 0
LeftIs = (c : Configuration) (past : List Entry) (rows : List Lockable) (x : ThreadId) → AreHolders c past rows → LastIsLeast c (held_by x past) → hold_left x rows ≡ innermost_left c (held_by x past)

abbrev pub InnermostIs : Type 0
InnermostIs = (c : Configuration) (past : List Entry) (rows : List Lockable) (x : ThreadId) → AreHolders c past rows → LastIsLeast c (held_by x past) → innermost x rows ≡ last_locked (held_by x past)

pub told-left : Always HoldsNest → LeftIs → (c : Configuration) (past : List Entry) (d : Tables) (x : ThreadId) → TellsOf d c past → hold_left x d.mutexes ≡ innermost_left c (held_by x past)
told-left nest law c past d x told = law c past d.mutexes x (held-told d c past told) (least-told nest d c past x told)

pub told-innermost : Always HoldsNest → InnermostIs → (c : Configuration) (past : List Entry) (d : Tables) (x : ThreadId) → TellsOf d c past → innermost x d.mutexes ≡ last_locked (held_by x past)
told-innermost nest law c past d x told = law c past d.mutexes x (held-told d c past told) (least-told nest d c past x told)
