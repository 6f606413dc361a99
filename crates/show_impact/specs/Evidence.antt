-- What it means that the evidence of a process stands.
use Rattle.std.specs.Prelude.{ℕ, ◌+◌, ◌≡◌, ◌<◌, Bool, true, List, [], map, slice_index_or}
use Rattle.dk_loader.specs.Workload.{Workload}
use Rattle.dk_trace.specs.declared.Entry.{Entry}
use Rattle.dk_world.specs.Run.{world}
use Rattle.dk_alone.specs.Again.{WindowBegins, ProcessStandsAgain, own_window}
use Rattle.dk_impact.specs.Greater.{has_enough}
use Rattle.dk_impact.specs.Impact.{IsSameAcross, renamed}
use Rattle.show_impact.specs.Impacts.{program_of}

-- What holds of the entries of the process in each window of one run, up to two ticks at which it stands alike, holds of them in
-- each window of every run, whatever programs the other processes have.
pub record WindowsStand (old : Workload) (p : ℕ) (new : Workload) (q : ℕ) : Type 0 where
  pub windows : (programs others : List (List ℕ)) (s k : ℕ) (holds : List Entry → Bool)
      → slice_index_or programs p [] ≡ program_of old p → slice_index_or others q [] ≡ program_of new q
      → ProcessStandsAgain old.config programs p s k
      → ((tick : ℕ) → WindowBegins old.config p tick → tick < s + k → holds (map (renamed q) (own_window old.config programs p tick)) ≡ true)
      → (tick : ℕ) → WindowBegins new.config q tick → holds (own_window new.config others q tick) ≡ true

-- and where its windows begin its entries, its memory and its contexts are what they were
pub record EvidenceStands (old : Workload) (p : ℕ) (new : Workload) (q : ℕ) : Type 0 where
  pub same : (programs others : List (List ℕ)) (n : ℕ) → slice_index_or programs p [] ≡ program_of old p
      → slice_index_or others q [] ≡ program_of new q → WindowBegins old.config p n
      → IsSameAcross p q (world old.config programs n) (world new.config others n)
  pub windows : WindowsStand old p new q

-- Its windows stand where each window up to there has enough: its main waited in it or was stopped, and was refused no lock for
-- want of budget.
pub record EvidenceOutlives (old : Workload) (p : ℕ) (new : Workload) (q : ℕ) : Type 0 where
  pub windows : (programs others : List (List ℕ)) (s k : ℕ) (holds : List Entry → Bool)
      → slice_index_or programs p [] ≡ program_of old p → slice_index_or others q [] ≡ program_of new q
      → ProcessStandsAgain old.config programs p s k
      → ((tick : ℕ) → WindowBegins old.config p tick → tick < s + k → has_enough p (own_window old.config programs p tick) ≡ true)
      → ((tick : ℕ) → WindowBegins old.config p tick → tick < s + k → holds (map (renamed q) (own_window old.config programs p tick)) ≡ true)
      → (tick : ℕ) → WindowBegins new.config q tick → holds (own_window new.config others q tick) ≡ true
