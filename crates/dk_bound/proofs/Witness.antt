-- The premises of the laws can be met all at once: a checked and accepted configuration with switch costs, and a list of entries that follows the rules in which a main makes a child, holds two mutexes, one within the other, asks for slack and gets it, waits, and the child runs a whole window.
use Rattle.std.proofs.Common.{◌≡◌, true, List, [], ◌∷◌, refl}
use Rattle.std.specs.Prelude.{Option, Some, None}
use Rattle.dk_config.specs.Configuration.{Configuration}
use Rattle.dk_config.specs.Checked.{IsChecked, IsAccepted}
use Rattle.dk_config.specs.Tests.{first_broken}
use Rattle.dk_config.specs.Rules.{all_tests, version_tests, count_tests, range_tests, period_tests, name_tests, again_tests, level_tests, budget_tests, user_tests, slowest_tests}
use Rattle.dk_config.proofs.CheckedConfig.{checked}
use Rattle.dk_trace.specs.declared.ThreadId.{ThreadId}
use Rattle.dk_trace.specs.declared.Source.{Source}
use Rattle.dk_trace.specs.declared.Work.{Work}
use Rattle.dk_trace.specs.declared.Label.{Label}
use Rattle.dk_trace.specs.declared.Event.{Event}
use Rattle.dk_trace.specs.declared.Entry.{Entry}
use Rattle.dk_trace.specs.Choices.{chosen}
use Rattle.dk_trace.specs.Audit.{Audited}
use Rattle.dk_bound.proofs.Accepted.{accepted}
use Rattle.dk_bound.proofs.Replay.{audited-right, replayed}

abbrev sample : Configuration
sample = record {
  version = 2;
  costs = record { switch = 1; call = 1 };
  levels = record { period = 20; release = 1 } ∷ record { period = 40; release = 0 } ∷ [];
  processes =
      record { name = 97 ∷ []; program = 97 ∷ []; level = 0; budget = 14; memory = 0; threads = 1; slack = true; max_level = 1 }
      ∷ record { name = 98 ∷ []; program = 98 ∷ []; level = 1; budget = 5; memory = 0; threads = 0; slack = true; max_level = 1 }
      ∷ [];
  mutexes =
      record { name = 109 ∷ []; ceiling = 0; hold = 4; users = (97 ∷ []) ∷ [] }
      ∷ record { name = 110 ∷ []; ceiling = 0; hold = 2; users = (97 ∷ []) ∷ (98 ∷ []) ∷ [] }
      ∷ [];
}

sample-passes : first_broken (all_tests sample) ≡ None
unfolding all_tests version_tests count_tests range_tests period_tests name_tests again_tests level_tests budget_tests user_tests slowest_tests
sample-passes = refl

pub sample-checked : IsChecked sample
sample-checked = checked sample sample-passes

pub sample-accepted : IsAccepted sample
sample-accepted = accepted sample refl

abbrev main : ThreadId
main = record { process = 0; serial = 0 }

abbrev child : ThreadId
child = record { process = 0; serial = 1 }

abbrev other : ThreadId
other = record { process = 1; serial = 0 }

abbrev entry : Label → Option Event → Entry
entry label event = record { label = label; event = event }

-- the newest first
abbrev entries : List Entry
entries =
    entry (Label.Out child) None
    ∷ entry (Label.Run child) None
    ∷ entry (Label.Run child) None
    ∷ entry (Label.Run child) None
    ∷ entry (Label.In child) None
    ∷ entry (Label.Out main) None
    ∷ entry (Label.Call main) (Some Event.Wait)
    ∷ entry (Label.In main) None
    ∷ entry (Label.Kernel 0) None
    ∷ entry (Label.In other) None
    ∷ entry (Label.Slack main (Source.Reclaimed 0) Work.Run) None
    ∷ entry (Label.Slack main (Source.Reclaimed 0) Work.Run) None
    ∷ entry (Label.Slack main (Source.Reclaimed 0) Work.In) None
    ∷ entry (Label.Slack main Source.Timeline Work.In) None
    ∷ entry (Label.Out main) None
    ∷ entry (Label.Run main) None
    ∷ entry (Label.Run main) None
    ∷ entry (Label.Run main) None
    ∷ entry (Label.Run main) None
    ∷ entry (Label.Run main) None
    ∷ entry (Label.Run main) None
    ∷ entry (Label.Call main) (Some (Event.Slack 4))
    ∷ entry (Label.Call main) (Some (Event.Unlock 0))
    ∷ entry (Label.Call main) (Some (Event.Unlock 1))
    ∷ entry (Label.Call main) (Some (Event.Lock 1))
    ∷ entry (Label.Call main) (Some (Event.Lock 0))
    ∷ entry (Label.Call main) (Some (Event.Create 1 0 5))
    ∷ entry (Label.In main) None
    ∷ entry (Label.Kernel 0) None
    ∷ []

pub sample-audited : Audited sample entries
sample-audited = audited-right sample entries (replayed chosen sample entries refl refl)
