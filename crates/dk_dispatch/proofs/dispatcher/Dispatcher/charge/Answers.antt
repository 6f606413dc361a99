use Rattle.dk_dispatch.proofs.Names.{◌≡◌, ◌<◌, ◌∙◌, length, ap, sym, subst, inl, refl, arith, MAX_TICKS, Work, Choice, label_of, Tables, IsCharged, MayCharge, charged, choice_at, Dispatched}
use Rattle.dk_dispatch.proofs.Ticking.{is-ready, ready-levels, stands-charged}
use Rattle.dk_dispatch.proofs.dispatcher.Dispatcher.charge.Goals as goal

pub charge-requires : goal.charge-requires
charge-requires g c =
    let d = c.self.inside.tables in
    let p = c.self.inside.history.past in
    let chose : c.args.choice ≡ choice_at p = subst (λ (w : Dispatched). c.args.choice ≡ choice_at w.past) (sym c.self.view_is) c.requires.chosen in
    subst (λ (z : Choice). MayCharge z d) (sym chose)
    (c.charging_makes_the_recount.ensures.may p.config (label_of (choice_at p) Work.Run) p.entries d (is-ready p d _ c.self.view_is c.requires.ready c.self.invariant)
    c.are_sound.ensures.families c.are_sound.ensures.sound (inl refl))

pub invariant_of-self : goal.invariant_of-self
invariant_of-self g c =
    let d = c.self.inside.tables in
    let p = c.self.inside.history.past in
    let chose : c.args.choice ≡ choice_at p = subst (λ (w : Dispatched). c.args.choice ≡ choice_at w.past) (sym c.self.view_is) c.requires.chosen in
    let room : length p.entries < MAX_TICKS = subst (λ (w : Dispatched). length w.past.entries < MAX_TICKS) (sym c.self.view_is) c.requires.room in
    stands-charged p d _ c.self.view_is c.requires.ready c.self.invariant _ c.charge.new.self c.then-self-inside.ensures
    (λ label own. subst (IsCharged p.config label p.entries) (sym (c.charge.ensures.tables ∙ ap (λ (z : Choice). charged z d) chose))
    (c.charging_makes_the_recount.ensures.charged p.config label p.entries d (is-ready p d _ c.self.view_is c.requires.ready c.self.invariant)
    c.are_sound.ensures.families c.are_sound.ensures.sound own room))

same-rows : (z : Choice) (d : Tables) → (charged z d).threads ≡ d.threads
same-rows (Choice.Kernel k) d = refl
same-rows (Choice.Budget x part) d = refl
same-rows (Choice.Slack x source part) d = refl
same-rows Choice.Idle d = refl

pub returns-clause-rows : goal.returns-clause-rows
returns-clause-rows g c =
    ap (λ (t : Tables). t.threads) c.charge.ensures.tables ∙ same-rows c.args.choice c.self.inside.tables ∙ ap (λ (w : Dispatched). w.threads) c.self.view_is

pub returns-clause-steps : goal.returns-clause-steps
returns-clause-steps g c =
    let few = c.charge.ensures.steps in
    let same = ready-levels _ _ _ c.self.view_is c.requires.ready c.self.invariant in
    omega (arith, few, same)
