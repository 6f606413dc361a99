-- Tables of a tick whose entry stands whole are those of the closed one once the clock moves on.
use Rattle.dk_recount.proofs.Names.{ℕ, List, arith, Configuration, Entry, Tables, IsBooked, IsRecount, IsClosed, clocked, moved_on, nat_tests}

pub set-back : (c : Configuration) (n : ℕ) (after : List Entry) (d : Tables) → IsRecount c n after d → IsRecount c n after (clocked n (moved_on d))
set-back c n after d r = grind (arith, nat_tests)

pub booked-closed : (c : Configuration) (e : Entry) (past : List Entry) (d : Tables) → IsBooked c e past d → IsClosed c e past (moved_on d)
booked-closed c e past d booked = grind (arith, nat_tests, set-back)
