-- The threads that hold mutexes are of the header.
use Rattle.std.proofs.Common.{ℕ, ◌≡◌, ◌+◌, ◌<◌, ◌∷◌, List, length, sym, refl, subst}
use Rattle.std.specs.Prelude.{Bool, true, false, Option, Some, None, IfSome, option_map, if◌then◌else◌}
use Rattle.std.specs.List.{AllByRecursion}
use Rattle.dk_trace.specs.declared.ThreadId.{ThreadId}
use Rattle.dk_trace.specs.declared.Entry.{Entry}
use Rattle.dk_trace.specs.Entries.{has_event, thread_of}
use Rattle.dk_ledger.specs.declared.line.LedgerLine.{LedgerLine}
use Rattle.dk_ledger.specs.Heading.{Heading}
use Rattle.dk_ledger.specs.LineText.{IsNamed}
use Rattle.dk_ledger.proofs.EntryLists.{all_back}
use Rattle.dk_holds.specs.declared.holding.Holding.{Holding}
use Rattle.dk_holds.specs.Holds.{ended, ends, holding, is_lock_of, last_entry}
use Rattle.dk_holds.specs.Told.{IsHeld}

abbrev pub IsNamedIn : Heading → Entry → Type 0
IsNamedIn h e = IsNamed h e.label

abbrev HasName : Heading → Holding → Type 0
HasName h x = x.thread.process < length h.processes

-- a thread that holds a mutex behind entries of the header
holder_known : (h : Heading) (m : ℕ) (past : List Entry) (x : Holding) → IsHeld m past x → AllByRecursion (IsNamedIn h) past → HasName h x
holder_known h m past x held all =
    let own = all_back (IsNamedIn h) held.later (held.lock ∷ held.earlier) (subst (AllByRecursion (IsNamedIn h)) held.parts all) in
    go (has_event (is_lock_of m) held.lock) (thread_of held.lock.label) (length held.earlier) held.begins own.0
  where
    go : (b : Bool) (o : Option ThreadId) (n : ℕ) → (if b then option_map (λ (y : ThreadId). record { thread = y; since = n + 1 }) o else None) ≡ Some x
        → IfSome o (λ y. y.process < length h.processes) → HasName h x
    go true (Some y) n is named =
        let own : Holding = record { thread = y; since = n + 1 } in
        let same : own ≡ x = cc in
        subst (HasName h) same named
    go true None n is named = absurd (cc)
    go false o n is named = absurd (cc)

chosen : (h : Heading) (x y : Holding) (b : Bool) → Some x ≡ (if b then Some y else None) → HasName h y → HasName h x
chosen h x y true is named = let own : y ≡ x = cc in subst (HasName h) own named
chosen h x y false is named = absurd (cc)

module _ (h : Heading) (m : ℕ) where
  pub open_known : (past : List Entry) (hold : Option Holding) → hold ≡ holding m past → ((x : Holding) → holding m past ≡ Some x → IsHeld m past x)
      → AllByRecursion (IsNamedIn h) past → IfSome hold (HasName h)
  open_known past None is held all = tt
  open_known past (Some x) is held all = holder_known h m past x (held x (sym is)) all

  pub ended_known : (l : LedgerLine) (past : List Entry) (hold : Option Holding) → hold ≡ ended m (last_entry l) (holding m past)
      → ((x : Holding) → holding m past ≡ Some x → IsHeld m past x) → AllByRecursion (IsNamedIn h) past → IfSome hold (HasName h)
  ended_known l past None is held all = tt
  ended_known l past (Some x) is held all = go (holding m past) refl is
    where
      go : (o : Option Holding) → holding m past ≡ o → Some x ≡ ended m (last_entry l) o → HasName h x
      go None was same = absurd (cc)
      go (Some y) was same = chosen h x y (ends m y.thread (last_entry l)) same (holder_known h m past y (held y was) all)
