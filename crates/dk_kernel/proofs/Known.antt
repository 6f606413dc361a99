-- The label of each entry of a run names a level and a process that there are.
use Rattle.dk_kernel.proofs.Names.{◌≡◌, ◌<◌, List, [], ◌∷◌, length, subst, sym, inl, inr, Configuration, IsAccepted, IsChecked, Label, Entry, ThreadId, Phase, Work, Choice, Has, Thread, threads, chosen, Audited, HasChosenLabel, label_of, size_of, Always, RunsAreAudited, trace, ChoiceHolds, ChosenHolds, ThreadsPlaced, InEveryRun, IsLabelKnown, NewestIsKnown}

-- by what the laws of the bound say of whoever has a tick
module _ (has : Always ChosenHolds) (places : Always ThreadsPlaced) where
  -- the label of an entry that follows the rules is known
  label_known : (c : Configuration) (e : Entry) (past : List Entry) → IsChecked c → IsAccepted c → Audited c (e ∷ past) → IsLabelKnown (size_of c) e.label
  label_known c e past checked accepted audited =
      by (chosen c past) e.label audited.1.choice (has c past checked accepted audited.0)
    where
      known : (y : Thread) → Has (threads c past) y → (x : ThreadId) → y.id ≡ x → x.process < length c.processes
      known y among x name =
          subst (λ (i : ThreadId). i.process < length c.processes) name (places c past checked accepted audited.0 y among).process

      named : (choice : Choice) (work : Work) → ChoiceHolds c past choice → IsLabelKnown (size_of c) (label_of choice work)
      named (Choice.Kernel k) work holds = record { level = holds.0; process = tt }
      named (Choice.Budget x Phase.In) work holds = record { level = tt; process = known holds.thread holds.among x holds.name }
      named (Choice.Budget x Phase.Body) Work.In holds = record { level = tt; process = known holds.thread holds.among x holds.name }
      named (Choice.Budget x Phase.Body) Work.Run holds = record { level = tt; process = known holds.thread holds.among x holds.name }
      named (Choice.Budget x Phase.Body) Work.Call holds = record { level = tt; process = known holds.thread holds.among x holds.name }
      named (Choice.Budget x Phase.Out) work holds = record { level = tt; process = known holds.thread holds.among x holds.name }
      named (Choice.Slack x source Phase.In) work holds = record { level = tt; process = known holds.thread holds.among x holds.name }
      named (Choice.Slack x source Phase.Body) work holds = record { level = tt; process = known holds.thread holds.among x holds.name }
      named (Choice.Slack x source Phase.Out) work holds = record { level = tt; process = known holds.thread holds.among x holds.name }
      named Choice.Idle work holds = record { level = tt; process = tt }

      by : (choice : Choice) (label : Label) → HasChosenLabel choice label → ChoiceHolds c past choice → IsLabelKnown (size_of c) label
      by choice label chose holds =
          elim chose [
            | inl is ↦ subst (IsLabelKnown (size_of c)) (sym is) (named choice Work.Run holds)
            | inr is ↦ subst (IsLabelKnown (size_of c)) (sym is) (named choice Work.Call holds)
          ]

  -- so is that of the newest entry, if there is one
  newest_known : (c : Configuration) (past : List Entry) → IsChecked c → IsAccepted c → Audited c past → NewestIsKnown c past
  newest_known c [] checked accepted audited = tt
  newest_known c (e ∷ past) checked accepted audited = label_known c e past checked accepted audited

  pub known_in_every_run : RunsAreAudited → InEveryRun NewestIsKnown
  known_in_every_run audited c programs n checked accepted = newest_known c (trace c programs n) checked accepted (audited c programs n checked accepted)
