-- What an event that is no lock and no unlock leaves of the holds.
use Rattle.dk_mutex.proofs.Names.{◌≡◌, true, cond, ℕ, List, ◌∷◌, map, Option, None, Configuration, ThreadId, Event, Entry, stops, Hold, held_after, Lockable, left_at, IsRecount, emptied, moves_no_hold, without_event, nat_tests, arith}
use Rattle.dk_mutex.proofs.Holding.{after-own, after-other}

same-holds : (event : Option Event) (held : List Hold) → moves_no_hold event ≡ true → held_after event held ≡ held
same-holds event held quiet = grind (arith, nat_tests)

pub event_is : (c : Configuration) (past : List Entry) (rows next : List Lockable) (e : Entry) → IsRecount c (without_event e ∷ past) rows → moves_no_hold e.event ≡ true
    → map emptied next ≡ map emptied rows → ((x : ThreadId) (m : ℕ) → left_at x next m ≡ cond (stops x e) None (left_at x rows m)) → IsRecount c (e ∷ past) next
event_is c past rows next e before quiet same left = grind (arith, nat_tests, after-own, same-holds, after-other)
