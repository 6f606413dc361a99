-- A call for slack of the tables is one of the past.
use Rattle.dk_recount.proofs.Names.{◌≡◌, ◌<◌, ◌*◌, ◌∙◌, ◌||◌, ◌&&◌, inl, inr, true, false, eqb, ltb, ℕ, List, ◌∷◌, length, Option, Some, None, option_map, refl, ap, sym, subst, arith, length-set, slice_get, filter, Contains, not, option_map_or, cases_Bool, and_parts, ltb-true, nat_tests, length-map, slice_get-map, MAX_SPAN, Configuration, ProcessRow, may_ask, ThreadId, Label, Event, Refusal, Entry, Has, is_same, is_of, Thread, threads, want, same-id, filter-has, contains-has, has-contains, none-of-two, quiet-want, AreFamilies, has_row, Wish, wishes_at, is_wish_of, asked_wish, dropped, AreCounted, HaveOwnNodes, asking, AskingAddsWish, Tables, IsSound, node_in, IsBooked, level_in, IsCalling, CallIsRight, MayAsk, asked, has_right, refusal_of, slack_refusal_in, with_event, CallerLaws}
use Rattle.dk_recount.proofs.Call.Unchanged.{want-as, holders-as}
use Rattle.dk_recount.proofs.Call.Booking.{books, levels-as, seats-as, queues-as, cells-as, blocks-as}
use Rattle.dk_recount.proofs.Call.Caller as calls

pub record AskLaws : Type 0 where
  pub caller : CallerLaws
  pub asking : AskingAddsWish

module _ (laws : AskLaws) (amount : ℕ) (x : ThreadId) (c : Configuration) (label : Label) (past : List Entry) (d : Tables) (calling : IsCalling x c label past d) (sound : IsSound d) (families : AreFamilies d.threads.levels d.threads.families) where
  abbrev now : ℕ
  now = length past

  abbrev node_of : ThreadId → ℕ
  node_of = node_in d.threads

  abbrev event : Event
  event = Event.Slack amount

  abbrev new : List Entry
  new = with_event label event ∷ past

  abbrev caller : Thread
  caller = (calls.caller laws.caller x c label past d calling sound families).row

  right-is : has_right d x.process ≡ may_ask c caller.id.process
  right-is =
      let who = calls.caller laws.caller x c label past d calling sound families in
      ap (λ rights. option_map_or (λ right. right) (slice_get rights x.process) false) calling.charged.recount.rights
      ∙ ap (λ o. option_map_or (λ right. right) o false) (slice_get-map (λ (row : ProcessRow). row.slack) c.processes x.process)
      ∙ told (slice_get c.processes x.process)
      ∙ ap (λ (i : ThreadId). may_ask c i.process) (sym who.id)
    where
      told : (o : Option ProcessRow) → option_map_or (λ right. right) (option_map (λ (row : ProcessRow). row.slack) o) false ≡ option_map_or (λ (row : ProcessRow). row.slack) o false
      told None = refl
      told (Some row) = refl

  refuses : slack_refusal_in d x amount ≡ refusal_of c label past x event
  refuses = grind (arith, nat_tests, right-is, calls.refusal-is laws.caller x c label past d calling sound families event)

  may : MayAsk x d
  may =
      let node = calls.own-node laws.caller x c label past d calling sound families in
      let level = calls.own-levels laws.caller x c label past d calling sound families in
      let nodes = sound.askers in
      let levels = calling.charged.recount.wishes.levels in
      record { node = omega (arith, node, nodes); level = omega (arith, level, levels) }

  some : slack_refusal_in d x amount ≡ None → 0 < amount
  some none =
      let parts = none-of-two (not (has_right d x.process)) (eqb amount 0 || ltb MAX_SPAN amount) Refusal.NoRight Refusal.Amount none in
      positive amount parts.1
    where
      positive : (n : ℕ) → (eqb n 0 || ltb MAX_SPAN n) ≡ false → 0 < n
      positive n h = grind (arith, nat_tests)

  -- whoever asks after the call has a row
  asker-row : (k : ℕ) (y : Thread) → Contains (asking c now new k) y → Has (threads c past) y × (has_row c now y ≡ true)
  asker-row k y has =
      let r = filter-has (λ z. eqb z.level k && ltb 0 (want c now new z)) (threads c new) y (contains-has (asking c now new k) y has) in
      let among = calls.has-before laws.caller x c label past d calling sound families y r.0 in
      let who = calls.caller laws.caller x c label past d calling sound families in
      elim (cases_Bool (is_same y.id x)) [
        | inl same ↦
            let ruled = calling.charged.ruled in
            let is : who.row ≡ y = (laws.caller.named c past ruled.checked ruled.accepted ruled.audited).distinct who.row y who.among among (who.id ∙ sym (same-id y.id x same)) in
            (among, subst (λ z. has_row c now z ≡ true) is (calls.caller-there laws.caller x c label past d calling sound families))
        | inr other ↦
            let apart : is_of y.id (with_event label event) ≡ false = ap (λ o. option_map_or (is_same y.id) o false) calling.caller ∙ other in
            let wants = want-as c label (Some event) past (λ p. refl) refl now y (λ es. refl) (λ es. rw apart refl) in
            let parts = and_parts (eqb y.level k) (ltb 0 (want c now new y)) r.1 in
            let some' : 0 < want c now new y = ltb-true 0 (want c now new y) parts.1 in
            let lower = quiet-want c label past y in
            (among, calls.asker-there laws.caller x c label past d calling sound families y among (omega (arith, wants, some', lower)))
      ]

  own-nodes : HaveOwnNodes node_of c now new
  own-nodes j k y z jn kn hy hz same =
      let a = asker-row j y hy in
      let b = asker-row k z hz in
      let ruled = calling.charged.ruled in
      (laws.caller.named c past ruled.checked ruled.accepted ruled.audited).distinct y z a.0 b.0
      (calls.one-node laws.caller x c label past d calling sound families y z a.0 b.0 a.1 b.1 same)

  abbrev wish_in : ℕ → ℕ → ℕ → List (List Wish)
  wish_in level node entering = asked_wish level (record { node = node; amount = amount; entering = entering }) d.slack.wishes

  wish-is : wish_in (level_in d x) (node_of x) (2 * d.slack.switch) ≡ wish_in caller.level (node_of caller.id) (2 * c.costs.switch)
  wish-is = grind (arith, nat_tests, calls.caller laws.caller x c label past d calling sound families, calls.own-level laws.caller x c label past d calling sound families)

  many : (level : ℕ) (w : Wish) → length (asked_wish level w d.slack.wishes) ≡ length c.levels
  many level w =
      length-set (dropped w.node d.slack.wishes) level _
      ∙ length-map d.slack.wishes (filter (λ v. not (is_wish_of w.node v)))
      ∙ calling.charged.recount.wishes.levels

  done : slack_refusal_in d x amount ≡ None → IsBooked c (with_event label event) past (asked x amount d)
  done none =
      let who = calls.caller laws.caller x c label past d calling sound families in
      let r = calling.charged.recount in
      let ready = calling.charged in
      books c label (Some event) past (λ p. refl) refl refl d ready
      d.mutexes d.demand (wish_in (level_in d x) (node_of x) (2 * d.slack.switch)) d.jobs
      r.tick
      (holders-as c label (Some event) past (λ p. refl) refl d.mutexes (λ y. refl) r.holders)
      (levels-as c label (Some event) past (λ p. refl) refl refl d ready d.mutexes r.own_levels)
      (cells-as c label (Some event) past (λ p. refl) refl refl d ready (λ y es. refl) d.demand.blocking (blocks-as c label (Some event) past (λ p. refl) refl refl d ready (λ y es. refl) (λ y. refl)))
      (many (level_in d x) (record { node = node_of x; amount = amount; entering = 2 * d.slack.switch }))
      (λ k known.
      subst (λ ws. AreCounted node_of c now new k (wishes_at ws k)) (sym wish-is)
      (laws.asking node_of _ c past d.slack caller label amount k r.wishes own-nodes (has-contains (threads c past) caller who.among)
      (calls.placed laws.caller x c label past d calling sound families caller who.among).level
      (calling.caller ∙ ap Some (sym who.id)) who.unclosed (some none) known))
      r.jobs.switch
      (seats-as c label (Some event) past (λ p. refl) refl refl d ready (λ y es. refl))
      (queues-as c label (Some event) past (λ p. refl) refl refl d ready (λ y es. refl))

  pub asks : CallIsRight x event (slack_refusal_in d x amount) (MayAsk x d) (asked x amount d) c label past d
  asks = record { refuses = refuses; may = λ none. may; done = done }
