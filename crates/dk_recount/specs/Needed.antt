-- What the laws of the crates below say together, where several laws take the same of them.
use Rattle.dk_bound.specs.Laws.{Always}
use Rattle.dk_bound.specs.Standing.{ThreadsPlaced, AskersThere, HoldersKnown}
use Rattle.dk_bound.specs.Rows.{AbsentHaveNothing, FamiliesStand, RowsAreNamed}
use Rattle.dk_bound.specs.Statements.{BlocksAtMost, HoldersStand, LevelsDiffer, LockFindsFree}
use Rattle.dk_bound.specs.Callers.{CallersRun, CallersStand, HoldsNest}
use Rattle.dk_bound.specs.Moves.{AtEachEntry, AtEachTick}
use Rattle.dk_bound.specs.TickMoves.{TickSpends, TickLowersRem}
use Rattle.dk_bound.specs.EventMoves.{EventCloses, EventLowersRem, EventMovesHolds}
use Rattle.dk_bound.specs.HoldMoves.{TickLowersBlocking, UnlockLowersBlocking}
use Rattle.dk_budget.specs.Laws.{QuietKeepsLoans}
use Rattle.dk_mutex.specs.Laws.{GivingUpEndsHolds, GivingUpKeepsMutexes, LockAddsHold, RefusesLocks, RefusesUnlocks, TellsDelays, TellsHeld, TellsHolders, TellsLeft, TellsLevels, UnheldAreFree, UnlockEndsHold}
use Rattle.dk_demand.specs.Laws.{ChangesRecount, TellsFit}
use Rattle.dk_demand.specs.Moves.{EventMovesCells}
use Rattle.dk_slack.specs.Laws.{DropsWishes, ShutEndsWishes, TellsEntering, TellsSource, TickCountsUnclaimed}
use Rattle.dk_ready.specs.Laws.{EventKeepsParts, QueuesWorkers}

-- what the choice needs
pub record ChoosingLaws : Type 0 where
  pub named : Always RowsAreNamed
  pub places : Always ThreadsPlaced
  pub absent : Always AbsentHaveNothing
  pub askers : Always AskersThere
  pub known : Always HoldersKnown
  pub stand : Always HoldersStand
  pub differ : Always LevelsDiffer
  pub holder : TellsHolders
  pub fit : TellsFit
  pub source : TellsSource
  pub switch : TellsEntering

-- what is known of whoever is in a call
pub record CallerLaws : Type 0 where
  pub callers : Always CallersStand
  pub named : Always RowsAreNamed
  pub places : Always ThreadsPlaced
  pub absent : Always AbsentHaveNothing
  pub askers : Always AskersThere

-- what a lock and an unlock need
pub record HoldLaws : Type 0 where
  pub caller : CallerLaws
  pub nest : Always HoldsNest
  pub known : Always HoldersKnown
  pub differ : Always LevelsDiffer
  pub most : Always BlocksAtMost
  pub free : Always LockFindsFree
  pub tick : AtEachTick TickLowersBlocking
  pub lowers : AtEachEntry UnlockLowersBlocking
  pub cells : AtEachEntry EventMovesCells
  pub locks : LockAddsHold
  pub unlocks : UnlockEndsHold
  pub level : TellsLevels
  pub held : TellsHeld
  pub left : TellsLeft
  pub nobody : UnheldAreFree
  pub lock_refusals : RefusesLocks
  pub unlock_refusals : RefusesUnlocks

-- what a wait and a stop need
pub record StoppingLaws : Type 0 where
  pub spends : AtEachTick TickSpends
  pub lowers : AtEachTick TickLowersRem
  pub absent : Always AbsentHaveNothing
  pub job : AtEachEntry EventCloses
  pub rem : AtEachEntry EventLowersRem
  pub holds : AtEachEntry EventMovesHolds
  pub callers : AtEachEntry CallersRun
  pub families : Always FamiliesStand
  pub named : Always RowsAreNamed
  pub places : Always ThreadsPlaced
  pub askers : Always AskersThere
  pub known : Always HoldersKnown
  pub loans_quiet : QuietKeepsLoans
  pub freed_holds : GivingUpEndsHolds
  pub freed_rows : GivingUpKeepsMutexes
  pub lefts : TellsDelays
  pub cells : ChangesRecount
  pub unclaimed : TickCountsUnclaimed
  pub parts : EventKeepsParts
  pub queued : QueuesWorkers
  pub shuts : ShutEndsWishes
  pub drops : DropsWishes
