-- Where a level has no spare, no slack comes from the timeline.
use Rattle.dk_warnings.proofs.Names.{ℕ, ◌≡◌, ◌<◌, inl, inr, false, ltb, List, [], ◌∷◌, length, refl, sym, ap, ◌∙◌, arith, Option, Some, None, option_map_or, option_or, nat_tests, Configuration, below, first_of, spare, ThreadId, Phase, Work, Label, Choice, Entry, Has, chosen, Follows, label_of, numbers-has, TakesNoSpare}
use Rattle.dk_trace.specs.declared.Source.{Source}
use Rattle.dk_trace.specs.Slack.{overdrawn_at, source, unclaimed}
use Rattle.dk_trace.proofs.Chosen.{Reason, chosen-reason, kernel_first, nothing, slack_first, thread_first}

-- a search finds something where something passes
finds : (f : ℕ → Option ℕ) (xs : List ℕ) (x y : ℕ) → Has xs x → f x ≡ Some y → (z : ℕ) × (first_of f xs ≡ Some z)
finds f [] x y has is = absurd has
finds f (k ∷ xs) x y has is = at (f k) refl (λ later. finds f xs x y later is)
  where
    at : (o : Option ℕ) → f k ≡ o → (Has xs x → (z : ℕ) × (first_of f xs ≡ Some z)) → (z : ℕ) × (first_of f (k ∷ xs) ≡ Some z)
    at (Some z) found rest = (z, ap (λ o. option_or o (first_of f xs)) found)
    at None found rest = elim has [
      | inl here ↦ absurd (let other = ap f here in cc)
      | inr later ↦ let r = rest later in (r.0, ap (λ o. option_or o (first_of f xs)) found ∙ r.1)
    ]

-- slack is taken of budgets there
reclaimed : (c : Configuration) (past : List Entry) (j : ℕ) → j < length c.levels → spare c j ≡ 0 → (i : ℕ) × (source c (length past) past ≡ Source.Reclaimed i)
reclaimed c past j known none =
    let n = length past in
    let short : ltb (unclaimed c n past j) (spare c j) ≡ false = grind (arith, nat_tests) in
    let over : overdrawn_at c n past j ≡ Some j = rw short refl in
    let r = finds (overdrawn_at c n past) (below (length c.levels)) j j (numbers-has 0 (length c.levels) j (omega arith) (omega arith)) over in
    (r.0, ap (λ o. option_map_or Source.Reclaimed o Source.Timeline) r.1)

-- the source that a label tells
source_in : Label → Option Source
source_in (Label.Slack x source work) = Some source
source_in _ = None

slack-source : (x : ThreadId) (source : Source) (part : Phase) (work : Work) → source_in (label_of (Choice.Slack x source part) work) ≡ Some source
unfolding source_in
slack-source x source part work = grind (arith, nat_tests)

budget-source : (x : ThreadId) (part : Phase) (work : Work) → source_in (label_of (Choice.Budget x part) work) ≡ None
unfolding source_in
budget-source x part work = grind (arith, nat_tests)

timeline-label : (x : ThreadId) (work : Work) → source_in (Label.Slack x Source.Timeline work) ≡ Some Source.Timeline
unfolding source_in
timeline-label x work = refl

kernel-source : (i : ℕ) (work : Work) → source_in (label_of (Choice.Kernel i) work) ≡ None
unfolding source_in
kernel-source i work = refl

idle-source : (work : Work) → source_in (label_of Choice.Idle work) ≡ None
unfolding source_in
idle-source work = refl

none-told : (o : Option Source) → o ≡ None → o ≡ Some Source.Timeline → ⊥
none-told o none timeline = absurd (cc)

other-told : (o : Option Source) (s : Source) (i : ℕ) → o ≡ Some s → s ≡ Source.Reclaimed i → o ≡ Some Source.Timeline → ⊥
other-told o s i told is timeline = absurd (cc)

by-reason : (c : Configuration) (past : List Entry) (choice : Choice) (work : Work) → Reason c past choice → (i : ℕ) → source c (length past) past ≡ Source.Reclaimed i
    → source_in (label_of choice work) ≡ Some Source.Timeline → ⊥
by-reason c past _ work (kernel_first k known passed some) i is timeline = none-told _ (kernel-source k work) timeline
by-reason c past _ work (thread_first k x known passed has turn) i is timeline = none-told _ (budget-source x.id _ work) timeline
by-reason c past _ work (slack_first k x known passed has wishes fit) i is timeline = other-told _ (source c (length past) past) i (slack-source x.id (source c (length past) past) _ work) is timeline
by-reason c past _ work (nothing passed) i is timeline = none-told _ (idle-source work) timeline

pub takes-no-spare : (c : Configuration) (past : List Entry) (e : Entry) (j : ℕ) → j < length c.levels → spare c j ≡ 0 → Follows c past e → TakesNoSpare e
takes-no-spare c past e j known none follows x work is =
    let r = reclaimed c past j known none in
    let told = ap source_in is ∙ timeline-label x work in
    elim follows.choice [
      | inl run ↦ by-reason c past (chosen c past) Work.Run (chosen-reason c past) r.0 r.1 (sym (ap source_in run) ∙ told)
      | inr calls ↦ by-reason c past (chosen c past) Work.Call (chosen-reason c past) r.0 r.1 (sym (ap source_in calls) ∙ told)
    ]
