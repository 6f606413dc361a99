-- The cases of an event: it closes nobody's window, one thread's, or those of a whole process.
use Rattle.dk_bound.proofs.Names.{and-false, ℕ, zero, suc, ◌≡◌, ◌+◌, ◌<◌, ◌≤◌, inl, inr, Bool, true, false, cond, not, ◌&&◌, ◌||◌, eqb, leb, ltb, List, [], ◌∷◌, length, refl, sym, ap, ◌∙◌, subst, arith, sum_by, Option, is_none, option_map_or, cases_Bool, cases_eq, nat_tests, Configuration, IsChecked, IsAccepted, sum_from, ThreadId, Event, Entry, Has, is_same, main_of, is_of, does, has_event, is_end, is_delete_of, stops, quiet, Thread, threads, family, is_main, Hold, held_by, held_after, thread_blocking, Audited, AtEachEntry, shares_to_come, closes, given_up, given_up_by, lost_shares, changes_holds, StopsFreeBlocking, EventKeeps, IsClosedAlone, OneIsClosed, IsMainsEnd, ProcessIsClosed, main_id, sum_by-same, sum_by-zero, sum_by-add, sum_by-flat, flat-has, sum_from-same, sum_from-zero, sum-only, row-of, same-id, both-zero, whose, not-main-of}
use Rattle.dk_bound.proofs.Demands.{cond-none}
use Rattle.dk_bound.proofs.TickMoves.{blocking-moved}
use Rattle.dk_bound.proofs.EventMoves.{IsEntry, entry-is, event_lowers_own, event_lowers_remaining, event_given_up, event_moves_holds, event_moves_blocking, open-keeps}
use Rattle.dk_bound.proofs.Closers.{closes-nothing, end-alone, who_closes}

-- a sum over numbers in which one counts
sum_from-only : (low n : ℕ) (f : ℕ → ℕ) (k : ℕ) → low ≤ k → k < low + n → ((i : ℕ) → (i ≡ k → ⊥) → f i ≡ 0) → sum_from low n f ≡ f k
sum_from-only low zero f k a b none = absurd (omega arith)
sum_from-only low (suc n) f k a b none =
    elim (cases_eq low k) [
      | inl same ↦
          let rest : sum_from (suc low) n f ≡ 0 =
          sum_from-same (suc low) n f (λ i. 0) (λ i from to. none i (λ is. absurd (omega arith))) ∙ sum_from-zero (suc low) n in
          let here : f low ≡ f k = ap f same in
          omega (arith, rest, here)
      | inr other ↦
          let here : f low ≡ 0 = none low other in
          let rest = sum_from-only (suc low) n f k (omega arith) (omega arith) none in
          omega (arith, here, rest)
    ]

-- a sum over all threads in which those of one process count
sum-process : (c : Configuration) (e : Entry) (past : List Entry) (p : ℕ) (f : Thread → ℕ) → IsEntry c e past → p < length c.processes
    → ((y : Thread) → Has (threads c past) y → (y.id.process ≡ p → ⊥) → f y ≡ 0)
    → sum_by f (threads c past) ≡ sum_by f (family c p past)
sum-process c e past p f is here none =
    let N = length c.processes in
    let g : ℕ → ℕ = λ q. cond (ltb q N) (sum_by f (family c q past)) 0 in
    sum_by-flat f (λ q. family c q past) 0 N
    ∙ sum_from-same 0 N (λ q. sum_by f (family c q past)) g (λ q a b. let under : ltb q N ≡ true = grind (arith, nat_tests) in rw under refl)
    ∙ sum_from-only 0 N g p (omega arith) (omega arith)
    (λ q other. elim (cases_Bool (ltb q N)) [
      | inr beyond ↦ rw beyond refl
      | inl under ↦
          let known : q < N = grind (arith, nat_tests) in
          rw under (sum_by-zero f (family c q past)
          (λ y h. let own : y.id.process ≡ q = (row-of c q past y is.checked known is.audited.0 h).process in
          none y (among-all q known y h) (λ same. other (sym own ∙ same))))
    ])
    ∙ (let under : ltb p N ≡ true = grind (arith, nat_tests) in rw under refl)
  where
    among-all : (q : ℕ) → q < length c.processes → (y : Thread) → Has (family c q past) y → Has (threads c past) y
    among-all q known y h = flat-has (λ r. family c r past) 0 (length c.processes) q y (omega arith) (omega arith) h

-- the holds after an event that neither locks nor unlocks
held-left : (event : Option Event) (held : List Hold) → changes_holds event ≡ false → held_after event held ≡ held
held-left event held h = grind (arith, nat_tests)

part-left : (c : Configuration) (e : Entry) (past : List Entry) (j : ℕ) (x : Thread)
    → (held_by x.id (e ∷ past) ≡ cond (stops x.id e) [] (cond (is_of x.id e) (held_after e.event (held_by x.id (quiet e.label ∷ past))) (held_by x.id (quiet e.label ∷ past))))
    → changes_holds e.event ≡ false
    → thread_blocking c (e ∷ past) j x + cond (stops x.id e) (thread_blocking c (quiet e.label ∷ past) j x) 0 ≡ thread_blocking c (quiet e.label ∷ past) j x
part-left c e past j x holds h = grind (arith, nat_tests, both-zero, held-left)

-- an end neither locks nor unlocks
ends-keep : (event : Option Event) → option_map_or is_end event false ≡ true → changes_holds event ≡ false
ends-keep event h = grind (arith, nat_tests)

pub stops_free_blocking : AtEachEntry StopsFreeBlocking
stops_free_blocking c e past checked accepted audited j h =
    let sums = (event_moves_blocking c e past checked accepted audited).sums j in
    let before = blocking-moved c e.label past j in
    let after_ = thread_blocking c (e ∷ past) j in
    let freed : Thread → ℕ = λ x. cond (stops x.id e) (thread_blocking c (quiet e.label ∷ past) j x) 0 in
    let each = sum_by-same (λ x. after_ x + freed x) (thread_blocking c (quiet e.label ∷ past) j) (threads c past)
    (λ x there. part-left c e past j x (event_moves_holds c e past checked accepted audited x.id) h) in
    let split = sum_by-add after_ freed (threads c past) in
    omega (arith, sums, before, each, split)

-- no main ends
abbrev NoMainEnds : Entry → Type 0
NoMainEnds e = (p : ℕ) → does is_end (main_id p) e ≡ false

no-shares-lost : (c : Configuration) (e : Entry) (past : List Entry) (j : ℕ) → NoMainEnds e → lost_shares c e past j ≡ 0
no-shares-lost c e past j none =
    sum_from-same 0 (length c.processes) (λ p. cond (does is_end (main_id p) e) (shares_to_come c (length past) (quiet e.label ∷ past) j p) 0) (λ p. 0)
    (λ p a b. ap (λ d. cond d (shares_to_come c (length past) (quiet e.label ∷ past) j p) 0) (none p))
    ∙ sum_from-zero 0 (length c.processes)

-- who isn't meant isn't stopped
stops-parts : (e : Entry) (y : ThreadId) → has_event is_end e ≡ false → has_event (is_delete_of y.serial) e ≡ false → stops y e ≡ false
stops-parts e y a b = simp (a, b, and-false)

no-end : (e : Entry) → has_event is_end e ≡ false → NoMainEnds e
no-end e h p = simp (h, and-false)

pub event_keeps : AtEachEntry EventKeeps
event_keeps c e past checked accepted audited =
    let closers = who_closes c e past checked accepted audited in
    let given = event_given_up c e past checked accepted audited in
    record {
      own =
          λ j h. (let none = given.nobody (λ i. eqb i j) (λ x there. closers.nobody h x) in
          let lowers = event_lowers_own c e past checked accepted audited j in omega (arith, none, lowers));
      remaining =
          λ j known h. (let none = given.nobody (λ i. leb i j) (λ x there. closers.nobody h x) in
          let lost = no-shares-lost c e past j (no-end e (closes-nothing e.event 0 h).1) in
          let lowers = event_lowers_remaining c e past checked accepted audited j known in omega (arith, none, lost, lowers));
      blocking =
          λ j h k. (let frees = stops_free_blocking c e past checked accepted audited j k in
          let none = sum_by-zero (λ x. cond (stops x.id e) (thread_blocking c (quiet e.label ∷ past) j x) 0) (threads c past)
          (λ x there. (let no = closes-nothing e.event x.id.serial h in
          ap (λ b. cond b (thread_blocking c (quiet e.label ∷ past) j x) 0) (stops-parts e x.id no.1 no.2))) in
          omega (arith, frees, none));
    }

-- one thread alone
one-closes : (c : Configuration) (e : Entry) (past : List Entry) (x y : Thread) → IsChecked c → IsAccepted c → Audited c (e ∷ past)
    → Has (threads c past) x → Has (threads c past) y → IsClosedAlone e x → closes e y ≡ is_same y.id x.id
one-closes c e past x y checked accepted audited among there (inl (mine, event)) = (who_closes c e past checked accepted audited).wait x mine event y
one-closes c e past x y checked accepted audited among there (inr (child, inl (mine, ends))) =
    (who_closes c e past checked accepted audited).child x y among there child mine ends
one-closes c e past x y checked accepted audited among there (inr (child, inr (mine, event))) =
    (who_closes c e past checked accepted audited).delete x y among there mine event

one-no-main : (e : Entry) (x : Thread) → IsClosedAlone e x → NoMainEnds e
one-no-main e x (inl (mine, event)) = no-end e (ap (λ o. option_map_or is_end o false) event)
one-no-main e x (inr (child, inl (mine, ends))) =
    λ p. ap (λ b. b && has_event is_end e) (whose (main_id p) x.id e mine ∙ not-main-of (main_id p) x.id child)
one-no-main e x (inr (child, inr (mine, event))) = no-end e (ap (λ o. option_map_or is_end o false) event)

-- whom the event stops but the thread that is closed alone
apart : (a b : ThreadId) → (a ≡ b → ⊥) → is_same a b ≡ false
apart a b other = grind (arith, nat_tests)

apart-meant : (a b : ThreadId) → (a ≡ b → ⊥) → (is_same (main_of a) (main_of b) && eqb a.serial b.serial) ≡ false
apart-meant a b other = grind (arith, nat_tests)

stops-by : (e : Entry) (y : ThreadId) (own mains end delete : Bool) → is_of y e ≡ own → is_of (main_of y) e ≡ mains → has_event is_end e ≡ end
    → has_event (is_delete_of y.serial) e ≡ delete
    → stops y e ≡ (((own && end) || (mains && end)) || (not (eqb y.serial 0) && (mains && delete)))
stops-by e y own mains end delete a b d f = rw (a, b, d, f) refl

one-stops : (c : Configuration) (e : Entry) (past : List Entry) (x y : Thread) → IsClosedAlone e x → (y.id ≡ x.id → ⊥) → stops y.id e ≡ false
one-stops c e past x y (inl (mine, event)) other =
    stops-parts e y.id (ap (λ o. option_map_or is_end o false) event) (ap (λ o. option_map_or (is_delete_of y.id.serial) o false) event)
one-stops c e past x y (inr (child, inl (mine, ends))) other =
    let none = end-alone e.event y.id.serial ends in
    stops-by e y.id false false true false (whose y.id x.id e mine ∙ apart y.id x.id other)
    (whose (main_of y.id) x.id e mine ∙ not-main-of y.id x.id child) ends none.1
    ∙ simp and-false
one-stops c e past x y (inr (child, inr (mine, event))) other =
    let b = is_same (main_of y.id) (main_of x.id) in
    let d = eqb y.id.serial x.id.serial in
    stops-by e y.id (is_of y.id e) b false d refl (whose (main_of y.id) (main_of x.id) e mine)
    (ap (λ o. option_map_or is_end o false) event) (ap (λ o. option_map_or (is_delete_of y.id.serial) o false) event)
    ∙ ap (λ k. ((is_of y.id e && false) || (b && false)) || (not (eqb y.id.serial 0) && k)) (apart-meant y.id x.id other)
    ∙ simp and-false

pub one_is_closed : AtEachEntry OneIsClosed
one_is_closed c e past checked accepted audited =
    let given = event_given_up c e past checked accepted audited in
    let is = entry-is c e past checked accepted audited in
    record {
      only = λ x y among there alone. one-closes c e past x y checked accepted audited among there alone;
      own =
          λ x j among alone. (let one = given.one (λ i. eqb i j) x among
          (λ y there shut. same-id y.id x.id (sym (one-closes c e past x y checked accepted audited among there alone) ∙ shut)) in
          let lowers = event_lowers_own c e past checked accepted audited j in omega (arith, one, lowers));
      remaining =
          λ x j known among alone. (let one = given.one (λ i. leb i j) x among
          (λ y there shut. same-id y.id x.id (sym (one-closes c e past x y checked accepted audited among there alone) ∙ shut)) in
          let lost = no-shares-lost c e past j (one-no-main e x alone) in
          let lowers = event_lowers_remaining c e past checked accepted audited j known in omega (arith, one, lost, lowers));
      blocking =
          λ x j among alone. (let frees = stops_free_blocking c e past checked accepted audited j (alone-holds e x alone) in
          let one = sum-only (λ y. cond (stops y.id e) (thread_blocking c (quiet e.label ∷ past) j y) 0) (threads c past) x is.fit.distinct among
          (λ y there other. ap (λ b. cond b (thread_blocking c (quiet e.label ∷ past) j y) 0) (one-stops c e past x y alone other)) in
          omega (arith, frees, one));
    }
  where
    alone-holds : (e : Entry) (x : Thread) → IsClosedAlone e x → changes_holds e.event ≡ false
    alone-holds e x (inl (mine, event)) = ap changes_holds event
    alone-holds e x (inr (child, inl (mine, ends))) = ends-keep e.event ends
    alone-holds e x (inr (child, inr (mine, event))) = ap changes_holds event

-- a whole process
process-of : (c : Configuration) (e : Entry) (past : List Entry) (x y : Thread) → IsMainsEnd c e past x → (y.id.process ≡ x.id.process → ⊥)
    → eqb y.id.process x.id.process ≡ false
process-of c e past x y is other = grind (arith, nat_tests)

main-is : (x : Thread) → is_main x ≡ true → main_id x.id.process ≡ x.id
main-is x main = let z : 0 ≡ x.id.serial = grind (arith, nat_tests) in ap (λ k. record { process = x.id.process; serial = k }) z

process-given : (c : Configuration) (e : Entry) (past : List Entry) (x : Thread) (test : ℕ → Bool) → IsEntry c e past → IsMainsEnd c e past x
    → ((y : Thread) → closes e y ≡ (is_none y.stop && (eqb y.id.process x.id.process)))
    → given_up_by test c e past ≡ sum_by (λ y. cond (test y.level) (given_up c e past y) 0) (family c x.id.process past)
process-given c e past x test is end closers =
    sum-process c e past x.id.process (λ y. cond (test y.level) (given_up c e past y) 0) is (is.fit.rows x end.among).known
    (λ y there other. cond-none (test y.level) (given_up c e past y)
    (open-keeps c e past y is there (closers y ∙ ap (λ b. is_none y.stop && b) (process-of c e past x y end other) ∙ and-false (is_none y.stop))))

-- the process loses its shares to come, and no other
process-lost : (c : Configuration) (e : Entry) (past : List Entry) (x : Thread) (j : ℕ) → IsEntry c e past → IsMainsEnd c e past x
    → lost_shares c e past j ≡ shares_to_come c (length past) (quiet e.label ∷ past) j x.id.process
process-lost c e past x j is end =
    let p = x.id.process in
    let f : ℕ → ℕ = λ q. cond (does is_end (main_id q) e) (shares_to_come c (length past) (quiet e.label ∷ past) j q) 0 in
    sum_from-only 0 (length c.processes) f p (omega arith) (let known = (is.fit.rows x end.among).known in omega arith)
    (λ q other. ap (λ b. cond (b && has_event is_end e) (shares_to_come c (length past) (quiet e.label ∷ past) j q) 0)
    (whose (main_id q) x.id e end.own ∙ apart (main_id q) x.id (λ same. other (ap (λ i. i.process) same))))
    ∙ ap (λ b. cond b (shares_to_come c (length past) (quiet e.label ∷ past) j p) 0) ends_here
  where
    ends_here : does is_end (main_id x.id.process) e ≡ true
    ends_here = let mine : is_of (main_id x.id.process) e ≡ true = subst (λ i. is_of i e ≡ true) (sym (main-is x end.main)) end.own in rw mine end.end

process-stops : (e : Entry) (x y : Thread) → is_main x ≡ true → is_of x.id e ≡ true → has_event is_end e ≡ true
    → stops y.id e ≡ eqb y.id.process x.id.process
process-stops e x y main mine ends = grind (arith, nat_tests)

pub process_is_closed : AtEachEntry ProcessIsClosed
process_is_closed c e past checked accepted audited =
    let is = entry-is c e past checked accepted audited in
    let closers = who_closes c e past checked accepted audited in
    record {
      own =
          λ x j end. (let given = process-given c e past x (λ i. eqb i j) is end (λ y. closers.main x y end.main end.own end.end) in
          let lowers = event_lowers_own c e past checked accepted audited j in omega (arith, given, lowers));
      remaining =
          λ x j known end. (let given = process-given c e past x (λ i. leb i j) is end (λ y. closers.main x y end.main end.own end.end) in
          let lost = process-lost c e past x j is end in
          let lowers = event_lowers_remaining c e past checked accepted audited j known in omega (arith, given, lost, lowers));
      blocking =
          λ x j end. (let p = x.id.process in
          let part = thread_blocking c (quiet e.label ∷ past) j in
          let f : Thread → ℕ = λ y. cond (stops y.id e) (part y) 0 in
          let frees = stops_free_blocking c e past checked accepted audited j (ends-keep e.event end.end) in
          let here = (is.fit.rows x end.among).known in
          let all = sum-process c e past p f is here
          (λ y there other. ap (λ b. cond b (part y) 0) (process-stops e x y end.main end.own end.end ∙ process-of c e past x y end other)) in
          let each = sum_by-same f part (family c p past)
          (λ y h. (let own : y.id.process ≡ p = (row-of c p past y checked here audited.0 h).process in
          let same : eqb y.id.process p ≡ true = grind (arith, nat_tests) in
          ap (λ b. cond b (part y) 0) (process-stops e x y end.main end.own end.end ∙ same))) in
          omega (arith, frees, all, each));
    }
