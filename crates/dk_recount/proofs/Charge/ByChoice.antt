-- The charge of a choice, by what the choice is.
use Rattle.dk_recount.proofs.Names.{◌≡◌, ◌<◌, List, length, None, Some, ◌∙◌, sym, ap, subst, refl, MAX_TICKS, Configuration, Choice, Label, Entry, chosen, HasChosenLabel, Says, kernel-says, idle-says, budget-says, slack-says, slack-label, Always, BlocksAtMost, ChoiceHolds, AreFamilies, Tables, IsSound, IsReady, IsCharged, charged, MayBudget, MaySlack, MayCharge}
use Rattle.dk_recount.specs.Needed.{ChoosingLaws as Laws}
use Rattle.dk_recount.proofs.Charge.Labels.{TickLaws}
use Rattle.dk_recount.proofs.Charge.Threads.{budget-charged, budget-may, slack-charged, slack-may}
use Rattle.dk_recount.proofs.Charge.Recount.{idle-charged, kernel-charged, kernel-may, may-count}

module _ (laws : Laws) (tick : TickLaws) where
  is-by : (c : Configuration) (label : Label) (past : List Entry) (d : Tables) → IsReady c past d → AreFamilies d.threads.levels d.threads.families → IsSound d → HasChosenLabel (chosen c past) label → length past < MAX_TICKS
      → (choice : Choice) → chosen c past ≡ choice → ChoiceHolds c past choice → IsCharged c label past (charged choice d)
  is-by c label past d ready families sound chose room (Choice.Kernel k) is holds =
      kernel-charged laws tick c label past d ready families chose room k is (kernel-says k label (subst (λ z. HasChosenLabel z label) is chose)) holds.0 holds.1
  is-by c label past d ready families sound chose room Choice.Idle is holds =
      idle-charged laws tick c label past d ready families chose room is (idle-says label (subst (λ z. HasChosenLabel z label) is chose))
  is-by c label past d ready families sound chose room (Choice.Budget x part) is holds =
      subst (λ i. IsCharged c label past (charged (Choice.Budget i part) d)) holds.name
      (budget-charged laws tick c label past d ready families chose sound holds.thread holds.among holds.rem
      (subst (λ i. Says label None (Some i) None (Some i)) (sym holds.name) (budget-says x part label (subst (λ z. HasChosenLabel z label) is chose)))
      room part (is ∙ ap (λ i. Choice.Budget i part) (sym holds.name)))
  is-by c label past d ready families sound chose room (Choice.Slack x from part) is holds =
      let here : HasChosenLabel (Choice.Slack x from part) label = subst (λ z. HasChosenLabel z label) is chose in
      let told = slack-label x from part label here in
      subst (λ i. IsCharged c label past (charged (Choice.Slack i from part) d)) holds.name
      (slack-charged laws tick c label past d ready families chose sound holds.thread holds.among holds.rem holds.wants from told.0
      (subst (λ i. Says label None None (Some i) (Some i)) (sym holds.name) (slack-says x from part label here))
      (subst (λ i. label ≡ Label.Slack i from told.0) (sym holds.name) told.1)
      room part (is ∙ ap (λ i. Choice.Slack i from part) (sym holds.name)))

  pub is-charged : (c : Configuration) (label : Label) (past : List Entry) (d : Tables) → IsReady c past d → AreFamilies d.threads.levels d.threads.families → IsSound d → HasChosenLabel (chosen c past) label → length past < MAX_TICKS
      → IsCharged c label past (charged (chosen c past) d)
  is-charged c label past d ready families sound chose room =
      is-by c label past d ready families sound chose room (chosen c past) refl (tick.chosen c past ready.ruled.checked ready.ruled.accepted ready.ruled.audited)

  may-by : Always BlocksAtMost → (c : Configuration) (label : Label) (past : List Entry) (d : Tables) → IsReady c past d → AreFamilies d.threads.levels d.threads.families → IsSound d → HasChosenLabel (chosen c past) label
      → (choice : Choice) → chosen c past ≡ choice → ChoiceHolds c past choice → MayCharge choice d
  may-by blocks c label past d ready families sound chose (Choice.Kernel k) is holds =
      kernel-may laws tick c label past d ready families chose k (kernel-says k label (subst (λ z. HasChosenLabel z label) is chose)) holds.0 holds.1
  may-by blocks c label past d ready families sound chose Choice.Idle is holds = may-count laws tick c label past d ready families chose None
  may-by blocks c label past d ready families sound chose (Choice.Budget x part) is holds =
      subst (λ i. MayBudget i d) holds.name
      (budget-may laws tick c label past d ready families chose sound holds.thread holds.among holds.rem
      (subst (λ i. Says label None (Some i) None (Some i)) (sym holds.name) (budget-says x part label (subst (λ z. HasChosenLabel z label) is chose)))
      blocks)
  may-by blocks c label past d ready families sound chose (Choice.Slack x from part) is holds =
      let here : HasChosenLabel (Choice.Slack x from part) label = subst (λ z. HasChosenLabel z label) is chose in
      let told = slack-label x from part label here in
      subst (λ i. MaySlack i d) holds.name
      (slack-may laws tick c label past d ready families chose sound holds.thread holds.among holds.rem holds.wants from told.0
      (subst (λ i. Says label None None (Some i) (Some i)) (sym holds.name) (slack-says x from part label here))
      (subst (λ i. label ≡ Label.Slack i from told.0) (sym holds.name) told.1))

  pub may-charge : Always BlocksAtMost → (c : Configuration) (label : Label) (past : List Entry) (d : Tables) → IsReady c past d → AreFamilies d.threads.levels d.threads.families → IsSound d → HasChosenLabel (chosen c past) label
      → MayCharge (chosen c past) d
  may-charge blocks c label past d ready families sound chose =
      may-by blocks c label past d ready families sound chose (chosen c past) refl (tick.chosen c past ready.ruled.checked ready.ruled.accepted ready.ruled.audited)
