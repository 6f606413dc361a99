-- What is known of the tables while a thread is in a call.
use Rattle.dk_recount.proofs.Names.{◌≡◌, ◌<◌, ◌*◌, ◌∙◌, true, false, ℕ, List, ◌∷◌, length, Some, None, ap, sym, subst, arith, MatchOption, option_map_or, MAX_THREADS, Configuration, ThreadId, Label, Work, Event, Entry, is_same, is_of, quiet, Has, Thread, threads, thread_rem, want, FaultKind, held_by, innermost_left, ends_hold, row_of, done_refusal, MayHave, HasNextSerial, ThreadFollows, Audited, same-self, family-charged, IsPlaced, CallerStands, threads-charged, length-map, AreFamilies, has_row, HasRow, row-there, row-slot, seat_at, Tables, IsSound, node_in, seat_of, level_in, IsCalling, refusal_of, with_event, CallerLaws, nat_tests}
use Rattle.dk_recount.proofs.Stop.Present.{there-row, worker-has-row}
use Rattle.dk_recount.proofs.Rows.{nodes-differ, slot-is}

module _ (laws : CallerLaws) (x : ThreadId) (c : Configuration) (label : Label) (past : List Entry) (d : Tables) (calling : IsCalling x c label past d) (sound : IsSound d) (families : AreFamilies d.threads.levels d.threads.families) where
  abbrev pub now : ℕ
  now = length past

  abbrev pub old : List Entry
  old = quiet label ∷ past

  abbrev pub node_of : ThreadId → ℕ
  node_of = node_in d.threads

  pub caller : CallerStands c past x
  caller =
      let ruled = calling.charged.ruled in
      laws.callers c past ruled.checked ruled.accepted ruled.audited label x calling.charged.chose calling.caller calling.call

  pub placed : (y : Thread) → Has (threads c past) y → IsPlaced c past y
  placed = let ruled = calling.charged.ruled in laws.places c past ruled.checked ruled.accepted ruled.audited

  pub has-now : (y : Thread) → Has (threads c past) y → Has (threads c old) y
  has-now y among = subst (λ xs. Has xs y) (sym (threads-charged c label past)) among

  pub has-before : (y : Thread) → Has (threads c old) y → Has (threads c past) y
  has-before y among = subst (λ xs. Has xs y) (threads-charged c label past) among

  pub worker-there : (y : Thread) → Has (threads c past) y → 0 < thread_rem c now past y → has_row c now y ≡ true
  worker-there y among some = grind (arith, nat_tests, worker-has-row)

  pub asker-there : (y : Thread) → Has (threads c past) y → 0 < want c now past y → has_row c now y ≡ true
  asker-there y among some = grind (arith, nat_tests, there-row)

  pub caller-there : has_row c now caller.row ≡ true
  caller-there = grind (arith, nat_tests, caller, worker-there, asker-there)

  pub row-there-of : (y : Thread) → Has (threads c past) y → has_row c now y ≡ true → HasRow d.threads y.id
  row-there-of y among there = grind (arith, nat_tests, placed, row-there, family-charged)

  pub own-row : HasRow d.threads x
  own-row = subst (HasRow d.threads) caller.id (row-there-of caller.row caller.among caller-there)

  -- two threads that have rows and one node are one
  pub one-node : (y z : Thread) → Has (threads c past) y → Has (threads c past) z → has_row c now y ≡ true → has_row c now z ≡ true → node_of y.id ≡ node_of z.id → y.id ≡ z.id
  one-node y z here there one two same = nodes-differ d.threads y.id z.id families (row-there-of y here one) (row-there-of z there two) same

  pub own-seat : seat_at d.jobs (node_of x) ≡ seat_of c now old caller.row
  own-seat = grind (arith, nat_tests, caller, has-now, caller-there)

  pub own-level : level_in d x ≡ caller.row.level
  own-level = ap (λ s. s.level) own-seat

  pub levels-are : length d.demand.windows.periods ≡ length c.levels
  levels-are = ap (λ w. length w.periods) calling.charged.recount.cells.windows ∙ length-map c.levels (λ row. row.period)

  pub families-are : length d.threads.families ≡ length c.processes
  families-are = calling.charged.recount.rows.processes

  pub own-node : node_of x < MAX_THREADS * length d.threads.families
  own-node = grind (arith, nat_tests, row-slot, own-row, slot-is, caller, placed, families-are)

  pub own-levels : level_in d x < length c.levels
  own-levels = let is = own-level in let place = (placed caller.row caller.among).level in omega (arith, is, place)

  -- the refusal is over the caller's row
  pub refusal-is : (event : Event) → refusal_of c label past x event ≡ done_refusal c now old caller.row event
  refusal-is event = ap (λ o. option_map_or (λ row. done_refusal c now old row event) o None) caller.found

  -- the tick with the event that its call ends in follows the rules
  pub follows : (event : Event) → (Some event ≡ Some (Event.Fault FaultKind.Hold) → ⊥) → MayHave Work.Call (Some event) → HasNextSerial c past x event
      → (innermost_left c (held_by x past) ≡ 1 → ends_hold (Some event) (held_by x past) ≡ true)
      → refusal_of c label past x event ≡ None → Audited c (with_event label event ∷ past)
  follows event no-fault may serial last none =
      let done : done_refusal c now old caller.row event ≡ None = sym (refusal-is event) ∙ none in
      let met : MatchOption (row_of c past x) ⊥ (λ row. done_refusal c now old row event ≡ None) = grind (arith, nat_tests, caller) in
      let thread : ThreadFollows c past (with_event label event) x = grind (arith, nat_tests) in (
        calling.charged.ruled.audited,
        record {
          choice = calling.charged.chose;
          work = subst (λ w. MayHave w (Some event)) (sym calling.call) may;
          thread = subst (λ o. MatchOption o (Unit {0}) (ThreadFollows c past (with_event label event))) (sym calling.caller) thread;
        },
      )

  pub own-of : is_of x (quiet label) ≡ true
  own-of = ap (λ o. option_map_or (is_same x) o false) calling.caller ∙ same-self x
