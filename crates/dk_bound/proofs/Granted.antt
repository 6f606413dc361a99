-- Slack goes to whom the rules lend it.
use Rattle.dk_bound.proofs.Names.{and-false, ℕ, ◌≡◌, Bool, true, false, cond, ◌&&◌, List, [], ◌∷◌, length, refl, ap, ◌∙◌, Option, Some, None, unwrap_or, option_map, option_or, Configuration, below, first_of, ThreadId, Label, Choice, Entry, borrower, Thread, fits, chosen, choice_at, work_at, wish_at, claims_slack_at, on_slack, HasChosenLabel, Audited, Granted, nat_tests, arith}

abbrev pub lends_to : Choice → Option ThreadId
lends_to (Choice.Slack x source phase) = Some x
lends_to _ = None

chosen-lends : (choice : Choice) (label : Label) → HasChosenLabel choice label → borrower label ≡ lends_to choice
chosen-lends choice label is = grind (arith, nat_tests)

work-lends-none : (c : Configuration) (past : List Entry) (k : ℕ) (w : Choice) → work_at c past k ≡ Some w → lends_to w ≡ None
work-lends-none c past k w is = grind (arith, nat_tests)

-- one level of the search
lend-step : (c : Configuration) (past : List Entry) (work : Option Choice) (wish : Option Thread) (fit : Bool)
    (choice : Option Choice) (claim : Option Bool) (later : Option Thread)
    → ((w : Choice) → work ≡ Some w → lends_to w ≡ None)
    → lends_to (unwrap_or choice Choice.Idle) ≡ cond (unwrap_or claim false && fit) (option_map (λ x. x.id) later) None
    → lends_to (unwrap_or (option_or (option_or work (cond fit (option_map (on_slack c past) wish) None)) choice) Choice.Idle)
    ≡ cond (unwrap_or (option_or (option_or (option_map (λ w. false) work) (option_map (λ x. true) wish)) claim) false && fit)
    (option_map (λ x. x.id) (option_or wish later)) None
lend-step c past (Some w) wish fit choice claim later quiet rest = quiet w refl
lend-step c past None (Some x) true choice claim later quiet rest = refl
lend-step c past None (Some x) false choice claim later quiet rest =
    rest ∙ ap (λ b. cond b (option_map (λ x. x.id) later) None) (and-false (unwrap_or claim false))
lend-step c past None None true choice claim later quiet rest = rest
lend-step c past None None false choice claim later quiet rest = rest

lend-levels : (c : Configuration) (past : List Entry) (ks : List ℕ)
    → lends_to (unwrap_or (first_of (choice_at c past) ks) Choice.Idle)
    ≡ cond (unwrap_or (first_of (claims_slack_at c past) ks) false && fits c (length past) past)
    (option_map (λ x. x.id) (first_of (wish_at c past) ks)) None
lend-levels c past [] = refl
lend-levels c past (k ∷ ks) =
    lend-step c past (work_at c past k) (wish_at c past k) (fits c (length past) past)
    (first_of (choice_at c past) ks) (first_of (claims_slack_at c past) ks) (first_of (wish_at c past) ks)
    (λ w is. work-lends-none c past k w is) (lend-levels c past ks)

-- slack goes to whom the rules lend it, whoever holds what
pub granted : (c : Configuration) (past : List Entry) → Audited c past → Granted c past
granted c [] audited = tt
granted c (e ∷ past) audited =
    (granted c past audited.0, chosen-lends (chosen c past) e.label audited.1.choice ∙ lend-levels c past (below (length c.levels)))
