-- The laws of the crates below that the opening needs, and what holds once the ends and starts of a tick are done.
use Rattle.dk_recount.proofs.Names.{Configuration, IsChecked, IsWithinLimits, IsAccepted, window_start, Entry, Audited, Clock, clock_at, start_at, Table, AreFamilies, AreThreads, OpeningMovesRows, Book, recount, OpeningGivesBack, TellsMainShares, TellsChildShares, TellsFutureShares, ClockMovesCells, WishesStay, WishesBegin, UnclaimedBegin, UnclaimedStay, Always, AskersThere, AskersLast, ClockKeeps, WindowsRelease, AtEachEntry, ClockMovesReady, FamiliesStand, RowsAreNamed, AbsentHaveNothing}
use Rattle.std.specs.Prelude.{ℕ, ◌≡◌, List, length}

pub record Laws : Type 0 where
  pub starts : (c : Configuration) (tick level : ℕ) → start_at (clock_at c tick) level ≡ window_start c level tick
  pub threads : OpeningMovesRows
  pub loans : OpeningGivesBack
  pub mains : TellsMainShares
  pub children : TellsChildShares
  pub future : TellsFutureShares
  pub keeps : AtEachEntry ClockKeeps
  pub ready : AtEachEntry ClockMovesReady
  pub release : Always WindowsRelease
  pub families : Always FamiliesStand
  pub named : Always RowsAreNamed
  pub absent : Always AbsentHaveNothing
  pub askers : Always AskersThere
  pub last : AtEachEntry AskersLast
  pub cells : AtEachEntry ClockMovesCells
  pub wish_stays : WishesStay
  pub wish_begins : WishesBegin
  pub count_begins : UnclaimedBegin
  pub count_stays : UnclaimedStay

-- the threads, the loans and the windows are the recount of all that has been, at the next tick
pub record IsDue (c : Configuration) (all : List Entry) (t : Table) (b : Book) (w : Clock) : Type 0 where
  pub checked : IsChecked c
  pub limits : IsWithinLimits c
  pub accepted : IsAccepted c
  pub audited : Audited c all
  pub windows : w ≡ clock_at c (length all)
  pub rows : AreThreads c (length all) all t
  pub loans : b ≡ recount c (length all) all
  pub families : AreFamilies t.levels t.families
