-- What a thread asks for in a window, up to the allotment of its process, it has had where the window ends.
use Rattle.dk_slack_promise.proofs.Names.{ℕ, suc, ◌≡◌, ◌+◌, ◌-◌, ◌%◌, ◌<◌, ◌≤◌, ◌⊎◌, inl, inr, Bool, true, false, cond, eqb, Option, Some, None, List, [], ◌∷◌, length, refl, sym, ap, ◌∙◌, subst, arith, count_by, cases_Bool, cases_lt, nat_tests, Configuration, IsChecked, IsAccepted, main_level, period, window_start, window_start-within, Entry, is_of, window, Has, Thread, threads, family, after_entry, thread_rem, want, threads-fit, steady, steady-fair, chosen, Audited, Always, count_by-cons, window-charged, past_at}
use Rattle.std.specs.Option.{option_map_or}
use Rattle.std.proofs.lemmas.List.{length-drop}
use Rattle.dk_trace.specs.Entries.{borrower, is_same, main_of, quiet, is_slack_of}
use Rattle.dk_trace.specs.Threads.{new_rows, share}
use Rattle.dk_trace.specs.Jobs.{Job, job, is_closed}
use Rattle.dk_trace.specs.declared.ThreadId.{ThreadId}
use Rattle.dk_trace.specs.Slack.{Request, aged, asked_by, last_request}
use Rattle.dk_trace.specs.Guarantees.{HadShare, job_from}
use Rattle.dk_trace.proofs.Mains.{main_id, main_row}
use Rattle.dk_trace.proofs.Rows.{main-has, has-next}
use Rattle.dk_trace.proofs.RowsFit.{among-threads}
use Rattle.dk_trace.proofs.Entered.{Acts, on_share, on_loan, acts-of}
use Rattle.dk_trace.proofs.Silent.{wish-wants}
use Rattle.dk_trace.proofs.Requests.{quiet-want}
use Rattle.dk_bound.specs.EventMoves.{closes}
use Rattle.dk_bound.proofs.EventMoves.{event_closes, event_lowers_rem, after-open}
use Rattle.dk_bound.proofs.TickMoves.{tick_lowers_rem}
use Rattle.dk_bound.proofs.ByWhen.{goes-on, audited-drop}
use Rattle.dk_bound.proofs.Bounded.{past_at-later}
use Rattle.dk_bound.proofs.Received.{past_at-earlier, received}
use Rattle.dk_slack_promise.specs.Long.{IsOpen, is_lent_to, counted_from}
use Rattle.dk_slack_promise.specs.Own.{ended_at, IsOwnWindow, WishesMet, OwnAllotted}
use Rattle.dk_slack_promise.proofs.Ended.{ended, past-twice}
use Rattle.dk_slack_promise.proofs.Allotted.{allotted_lends}

-- a thread of the process and the level with something left or asked for at tick now
abbrev OpenAs : Configuration → ℕ → List Entry → ℕ → Thread → Type 0
OpenAs c now past p x = (x.id.process ≡ p) × (x.level ≡ main_level c p) × ((0 < thread_rem c now past x) ⊎ (0 < want c now past x))

-- whoever has a tick has something left or asks
acts-open : (c : Configuration) (p : ℕ) (e : Entry) (past : List Entry) (y : Thread) → Has (threads c past) y → y.id.process ≡ p → y.level ≡ main_level c p
    → Acts c past e y → IsOpen c past p
acts-open c p e past y among own level (on_share some label pays) = (y, among, own, level, inl some)
acts-open c p e past y among own level (on_loan k wishes pays) = (y, among, own, level, inr (wish-wants c (length past) past k y wishes))

tick-open : (c : Configuration) (p : ℕ) (e : Entry) (past : List Entry) (y : Thread) → IsChecked c → IsAccepted c → Audited c (e ∷ past)
    → Has (threads c past) y → y.id.process ≡ p → y.level ≡ main_level c p → is_of y.id e ≡ true → IsOpen c past p
tick-open c p e past y checked accepted audited among own level mine =
    let fit = threads-fit c past checked audited.0 in
    let fair = steady-fair c (e ∷ past) (steady c (e ∷ past) checked accepted audited) in
    acts-open c p e past y among own level
    (acts-of c y.id.process past (chosen c past) e y checked (fit.rows y among).known audited.0 (fit.place y among) fair.1 audited.1.choice mine)

-- an entry of nobody of the process closes none of its threads
not-closed : (e : Entry) (y : Thread) → is_of y.id e ≡ false → is_of (main_of y.id) e ≡ false → closes e y ≡ false
not-closed e y mine main = grind (arith, nat_tests)

-- an entry of another thread changes no request
asked-other : (c : Configuration) (e : Entry) (past : List Entry) (y : Thread) → is_of y.id e ≡ false
    → last_request y.id (window c (length past) (e ∷ past) y.level) ≡ last_request y.id (window c (length past) (quiet e.label ∷ past) y.level)
asked-other c e past y other =
    let a = window-charged c e past y.level in
    let b = window-charged c (quiet e.label) past y.level in
    let same : last_request y.id (e ∷ window c (length past) past y.level) ≡ last_request y.id (quiet e.label ∷ window c (length past) past y.level) = grind (arith, nat_tests) in
    ap (last_request y.id) a ∙ same ∙ sym (ap (last_request y.id) b)

want-by : (c : Configuration) (now : ℕ) (one other : List Entry) (y : Thread) → is_closed c now one y ≡ is_closed c now other y
    → last_request y.id (window c now one y.level) ≡ last_request y.id (window c now other y.level) → want c now one y ≡ want c now other y
want-by c now one other y shut asks = grind (arith, nat_tests)

-- what a thread has left, or asks for, after an entry of others it had before
old-open : (c : Configuration) (p : ℕ) (e : Entry) (past : List Entry) (y : Thread) → IsChecked c → IsAccepted c → Audited c (e ∷ past)
    → Has (threads c past) y → is_of y.id e ≡ false → is_of (main_id p) e ≡ false → OpenAs c (length past) (e ∷ past) p (after_entry e (length past) y) → IsOpen c past p
old-open c p e past y checked accepted audited among other main opened =
    let n = length past in
    let own : y.id.process ≡ p = opened.0 in
    let unmain : is_of (main_of y.id) e ≡ false = subst (λ q. is_of (main_id q) e ≡ false) (sym own) main in
    let off = not-closed e y other unmain in
    let stays = after-open e n y off in
    let moved = event_closes c e past checked accepted audited y among in
    let shut : is_closed c n (e ∷ past) y ≡ is_closed c n (quiet e.label ∷ past) y =
    subst (λ z. is_closed c n (e ∷ past) z ≡ is_closed c n (quiet e.label ∷ past) y) stays (grind (arith, nat_tests, ap (λ (j : Job). j.closed) moved)) in (
      y,
      among,
      own,
      opened.1,
      elim opened.2 [
        | inl left ↦
            let a = event_lowers_rem c e past checked accepted audited y among in
            let b = tick_lowers_rem c e.label past checked accepted audited.0 audited.1.choice y among in
            inl (omega (arith, left, a, b))
        | inr wants ↦
            let wants' : 0 < want c n (e ∷ past) y = subst (λ z. 0 < want c n (e ∷ past) z) stays wants in
            let same = want-by c n (e ∷ past) (quiet e.label ∷ past) y shut (asked-other c e past y other) in
            let less = quiet-want c e.label past y in
            inr (omega (arith, wants', same, less))
      ],
    )

-- so where a process is open after a tick it was open at it
pub open-back : (c : Configuration) (p : ℕ) (e : Entry) (past : List Entry) (x : Thread) → IsChecked c → IsAccepted c → Audited c (e ∷ past) → p < length c.processes
    → Has (threads c (e ∷ past)) x → OpenAs c (length past) (e ∷ past) p x → IsOpen c past p
open-back c p e past x checked accepted audited here among opened =
    elim (cases_Bool (is_of (main_id p) e)) [
      | inl main ↦
          tick-open c p e past (main_row c p past) checked accepted audited (among-threads c past (main_row c p past) here (main-has c p past)) refl refl main
      | inr main ↦
          let n = length past in
          let place : Has (family c p (e ∷ past)) x = subst (λ q. Has (family c q (e ∷ past)) x) opened.0 ((threads-fit c (e ∷ past) checked audited).place x among) in
          elim (has-next e n (family c p past) (new_rows c p e past) x place) [
            | inr new ↦ absurd (let none : Has [] x = rw main at new in none)
            | inl old ↦
                let y = old.0 in
                let own : y.id.process ≡ p = ap (λ (z : Thread). z.id.process) old.2 ∙ opened.0 in
                let level : y.level ≡ main_level c p = ap (λ (z : Thread). z.level) old.2 ∙ opened.1 in
                let there : Has (threads c past) y = among-threads c past y (subst (λ q. q < length c.processes) (sym own) here) (subst (λ q. Has (family c q past) y) (sym own) old.1) in
                elim (cases_Bool (is_of y.id e)) [
                  | inl mine ↦ tick-open c p e past y checked accepted audited there own level mine
                  | inr other ↦ old-open c p e past y checked accepted audited there other main (subst (OpenAs c n (e ∷ past) p) (sym old.2) opened)
                ]
          ]
    ]

-- only where the present window begins counts of the clock
by-start : (c : Configuration) (one other : ℕ) (past : List Entry) (x : Thread) → window_start c x.level one ≡ window_start c x.level other
    → (thread_rem c one past x ≡ thread_rem c other past x) × (want c one past x ≡ want c other past x)
by-start c one other past x same = (grind (arith, nat_tests), grind (arith, nat_tests))

-- so a process that is open in a window was open at each tick of it before
opens-back : (c : Configuration) (p r : ℕ) (past : List Entry) → IsChecked c → IsAccepted c → Audited c past → p < length c.processes → r % period c (main_level c p) ≡ 0
    → length past < r + period c (main_level c p) → IsOpen c past p → (u : ℕ) → r ≤ u → u ≤ length past → IsOpen c (past_at past u) p
opens-back c p r [] checked accepted audited here begins under opened u from low = subst (λ q. IsOpen c q p) (sym (past_at-later [] u (omega arith))) opened
opens-back c p r (e ∷ past) checked accepted audited here begins under opened u from low =
    let n = length past in
    let i = main_level c p in
    elim (cases_lt n u) [
      | inl now ↦ subst (λ q. IsOpen c q p) (sym (past_at-later (e ∷ past) u (omega (arith, now)))) opened
      | inr early ↦
          let x = opened.0 in
          let long = goes-on c i r n (checked.positive i (checked.levels p here)) begins (omega (arith, from, early)) (omega (arith, under)) in
          let start : window_start c x.level (suc n) ≡ window_start c x.level n = subst (λ k. window_start c k (suc n) ≡ window_start c k n) (sym opened.3) (window_start-within c i n long) in
          let same = by-start c (suc n) n (e ∷ past) x start in
          let still : (0 < thread_rem c n (e ∷ past) x) ⊎ (0 < want c n (e ∷ past) x) =
          elim opened.4 [ inl left ↦ inl (subst (λ k. 0 < k) same.0 left) | inr wants ↦ inr (subst (λ k. 0 < k) same.1 wants) ] in
          let before = open-back c p e past x checked accepted audited here opened.1 (opened.2, opened.3, still) in
          subst (λ q. IsOpen c q p) (sym (past_at-earlier e past u (omega (arith, early))))
          (opens-back c p r past checked accepted audited.0 here begins (omega (arith, under)) before u from (omega (arith, early)))
    ]

-- who asks for more where a window has ended, was open at each tick of it
asks-opens : (c : Configuration) (past : List Entry) (s : ℕ → ℕ) (p r : ℕ) (x : Thread) → IsChecked c → IsAccepted c → Audited c past → IsOwnWindow c past s p r x
    → 0 < want c r (ended_at c past (main_level c p) r) x → (u : ℕ) → r ≤ u → u < r + period c (main_level c p) → IsOpen c (past_at past u) p
asks-opens c past s p r x checked accepted audited w wants u from under =
    let i = main_level c p in
    let z = ended c past i r (checked.positive i (checked.levels p w.known)) audited w.begins w.ended in
    let size = z.size in
    let own : window_start c i r ≡ r = (let begins = w.begins in rw begins (omega arith)) in
    let start : window_start c x.level r ≡ window_start c x.level (length z.before) = subst (λ k. window_start c k r ≡ window_start c k (length z.before)) (sym w.level) (own ∙ sym z.start) in
    let last : 0 < want c r (z.last ∷ z.before) x = subst (λ q. 0 < want c r q x) z.is wants in
    let now : 0 < want c (length z.before) (z.last ∷ z.before) x = subst (λ k. 0 < k) (by-start c r (length z.before) (z.last ∷ z.before) x start).1 last in
    let opened = open-back c p z.last z.before x checked accepted z.audited w.known (subst (λ q. Has (threads c q) x) z.is w.among) (w.process, w.level, inr now) in
    let all = opens-back c p r z.before checked accepted z.audited.0 w.known w.begins (omega (arith, size)) opened u from (omega (arith, size, under)) in
    let there : past_at z.before u ≡ past_at past u =
    sym (past_at-earlier z.last z.before u (omega (arith, size, under))) ∙ ap (λ q. past_at q u) (sym z.is) ∙ past-twice past (r + period c i) u (omega (arith, under)) in
    subst (λ q. IsOpen c q p) there all

pub wishes_met : Always WishesMet
wishes_met c past checked accepted audited s p r x w =
    elim (cases_lt 0 (want c r (ended_at c past (main_level c p) r) x)) [
      | inr none ↦ inr (omega (arith, none))
      | inl wants ↦
          inl (allotted_lends c past checked accepted audited s p r w.known w.fit w.keeps w.begins w.ended
          (λ u from under. inl (asks-opens c past s p r x checked accepted audited w wants u from under)))
    ]

-- what was spent of a request was lent to its process
aged-spent : (o : Option ℕ) (b : Bool) (r : Request) → (option_map_or (λ amount. record { amount = amount; spent = 0; age = 0 }) o (aged b r)).spent ≤ cond b 1 0 + r.spent
aged-spent (Some amount) b r = omega arith
aged-spent None true r = omega arith
aged-spent None false r = omega arith

slack-lent : (x : ThreadId) (o : Option ThreadId) → cond (option_map_or (is_same x) o false) 1 0 ≤ cond (option_map_or (λ z. eqb z.process x.process) o false) 1 0
slack-lent x None = omega arith
slack-lent x (Some z) = grind (arith, nat_tests)

spent-lent : (x : ThreadId) (entries : List Entry) → (last_request x entries).spent ≤ count_by (is_lent_to x.process) entries
spent-lent x [] = omega arith
spent-lent x (e ∷ entries) =
    let rest = spent-lent x entries in
    let counts = count_by-cons (is_lent_to x.process) e entries in
    let spends = aged-spent (asked_by x e) (is_slack_of x e) (last_request x entries) in
    let mine = slack-lent x (borrower e.label) in
    omega (arith, rest, counts, spends, mine)

-- what a thread that is not closed has asked for last, and wants no more of, it had
want-met : (c : Configuration) (now : ℕ) (past : List Entry) (x : Thread) → is_closed c now past x ≡ false → want c now past x ≡ 0
    → (last_request x.id (window c now past x.level)).amount ≤ (last_request x.id (window c now past x.level)).spent
want-met c now past x stands none = grind (arith, nat_tests)

lent-asked : (c : Configuration) (past : List Entry) (s : ℕ → ℕ) (p r : ℕ) (x : Thread) → IsOwnWindow c past s p r x
    → let i = main_level c p in let ended = ended_at c past i r in
    is_closed c r ended x ≡ false → s p ≤ (last_request x.id (window c r ended i)).amount
    → (s p ≤ counted_from (is_lent_to p) c past i r) ⊎ (want c r ended x ≡ 0) → s p ≤ counted_from (is_lent_to p) c past i r
lent-asked c past s p r x w stands asks (inl had) = had
lent-asked c past s p r x w stands asks (inr none) =
    let i = main_level c p in
    let ended = ended_at c past i r in
    let met = subst (λ k. (last_request x.id (window c r ended k)).amount ≤ (last_request x.id (window c r ended k)).spent) w.level (want-met c r ended x stands none) in
    let spent = subst (λ q. (last_request x.id (window c r ended i)).spent ≤ count_by (is_lent_to q) (window c r ended i)) w.process (spent-lent x.id (window c r ended i)) in
    omega (arith, met, spent, asks)

-- a thread that is not closed where its window has ended had its share
share-had : (c : Configuration) (past : List Entry) (x : Thread) (r : ℕ) → (job_from c past x r).closed ≡ false → HadShare c past x r
    → (job_from c past x r).used ≡ share c (past_at past r) x r
share-had c past x r stands (inl all) = all
share-had c past x r stands (inr closed) = absurd (let shut = closed.0 in grind (arith, nat_tests))

pub own_allotted : Always OwnAllotted
own_allotted c past checked accepted audited s p r x w stands asks =
    let i = main_level c p in
    let v = r + period c i in
    let q = ended_at c past i r in
    let fine = audited-drop c (length past - v) past audited in
    let size : length q ≡ v = length-drop (length past - v) past ∙ (let le = w.ended in omega (arith, le)) in
    let whole : past_at q v ≡ q = past-twice past v v (omega arith) in
    let begins : r % period c x.level ≡ 0 = subst (λ k. r % period c k ≡ 0) (sym w.level) w.begins in
    let inside : r + period c x.level ≤ length q = subst (λ k. r + period c k ≤ length q) (sym w.level) (omega (arith, size)) in
    let had = (received c q checked accepted (steady c q checked accepted fine) fine).0 x r w.among begins inside in
    let same : job_from c q x r ≡ job c r q x = ap (λ k. job c r (past_at q (r + period c k)) x) w.level ∙ ap (λ z. job c r z x) whole in
    let outer : job_from c past x r ≡ job c r q x = ap (λ k. job c r (past_at past (r + period c k)) x) w.level in
    let used = share-had c q x r (ap (λ (j : Job). j.closed) same ∙ stands) had in
    let start : past_at q r ≡ past_at past r = past-twice past v r (omega arith) in
    let share_is : (job_from c past x r).used ≡ share c (past_at past r) x r =
    ap (λ (j : Job). j.used) outer ∙ sym (ap (λ (j : Job). j.used) same) ∙ used ∙ ap (λ z. share c z x r) start in
    let all = lent-asked c past s p r x w stands asks (wishes_met c past checked accepted audited s p r x w) in
    (share_is, all)
