-- Who has the ticks while the main of a process has something left of its share: nobody on slack, and no thread that stands after it.
use Rattle.dk_bound.proofs.Names.{ℕ, zero, suc, ◌≡◌, ◌-◌, ◌<◌, ◌≤◌, ◌⊎◌, inl, inr, Bool, true, false, not, ◌&&◌, ◌||◌, eqb, ltb, List, [], ◌∷◌, length, take, refl, sym, ap, ◌∙◌, subst, arith, Option, Some, None, cases_Bool, cases_lt, and_parts, and_from, nat_tests, Configuration, MAX_SPAN, IsChecked, main_level, may_ask, ThreadId, Work, Event, Refusal, Choice, Entry, Has, borrower, is_of, stops, Thread, threads, family, new_rows, job, phase, held_by, is_holding, is_holder, asked, last_request, want, chosen, ready_at, Audited, Follows, label_of, main_id, main_row, children, family-children, budget-labels, chosen-says, flat-has, has-flat, find-flat, same-row, main-has, has-next, row-of, ThreadsFit, threads-fit, none-holds, wish-wants, of-payer, of-nobody, held-stopped, held-other, Passed, Turn, by_hold, by_share, Reason, kernel_first, thread_first, slack_first, nothing, now_rem, chosen-reason, Kind, paid, lent, kernel, idle, kind, done-event, NoFasterSlack}
use Rattle.dk_bound.proofs.Holding.{HoldersFit}
use Rattle.dk_bound.proofs.Certified.{same-or}
use Rattle.dk_bound.proofs.Blocking.{new-free}

asks-none : (o : Option Event) → ((amount : ℕ) → o ≡ Some (Event.Slack amount) → ⊥) → asked o ≡ None
asks-none o h = grind (arith, nat_tests)

-- a thread of a process that has no right to slack never asks
refused : (c : Configuration) (past : List Entry) (e : Entry) (x : ThreadId) (amount : ℕ) → may_ask c x.process ≡ false → Follows c past e
    → is_of x e ≡ true → e.event ≡ Some (Event.Slack amount) → ⊥
refused c past e x amount right follows mine is =
    let met = done-event c past e x (Event.Slack amount) follows mine is in
    let row = met.row in
    let reasons = none-holds ((not (may_ask c row.id.process), Refusal.NoRight) ∷ ((eqb amount 0) || ltb MAX_SPAN amount, Refusal.Amount) ∷ []) met.unrefused in
    let first : not (may_ask c row.id.process) ≡ false = reasons.0 in
    let same : may_ask c row.id.process ≡ false = ap (λ i. may_ask c i.process) met.same ∙ right in
    let wrong : true ≡ false = rw same at first in
    absurd (cc)

request-none : (c : Configuration) (x : ThreadId) (k : ℕ) (past : List Entry) → may_ask c x.process ≡ false → Audited c past
    → (last_request x (take k past)).amount ≡ 0
request-none c x zero past right audited = refl
request-none c x (suc k) [] right audited = refl
request-none c x (suc k) (e ∷ past) right audited =
    let before = request-none c x k past right audited.0 in
    elim (cases_Bool (is_of x e)) [
      | inl mine ↦ rw (mine, asks-none e.event (λ amount is. refused c past e x amount right audited.1 mine is)) before
      | inr other ↦ rw other before
    ]

pub want-none : (c : Configuration) (past : List Entry) (x : Thread) → may_ask c x.id.process ≡ false → Audited c past → want c (length past) past x ≡ 0
want-none c past x right audited = grind (arith, nat_tests, request-none)

pub main-among : (c : Configuration) (p : ℕ) (past : List Entry) → p < length c.processes → Has (threads c past) (main_row c p past)
main-among c p past here = flat-has (λ q. family c q past) 0 (length c.processes) p (main_row c p past) (omega arith) (omega arith) (main-has c p past)

-- the levels that were passed are faster than a main that has something left
pub passed-faster : (c : Configuration) (p k : ℕ) (past : List Entry) → p < length c.processes → 0 < now_rem c past (main_row c p past) → Passed c past k
    → k ≤ main_level c p
passed-faster c p k past here left passed = grind (arith, nat_tests, main_row, main-among)

-- no choice is of slack where each level that slack could be of is faster than m, and nobody there has the right to it
no-slack-by : (c : Configuration) (m : ℕ) (past : List Entry) (choice : Choice) (work : Work) → ThreadsFit c past → Audited c past
    → ((k : ℕ) → Passed c past (suc k) → k < m) → NoFasterSlack c m → Reason c past choice → borrower (label_of choice work) ≡ None
no-slack-by c m past _ work fit audited fast none (kernel_first k known passed some) = refl
no-slack-by c m past _ work fit audited fast none (thread_first k x known passed among turn) =
    (budget-labels x.id (phase c.costs.switch (job c (length past) past x)) work).1
no-slack-by c m past _ work fit audited fast none (slack_first k x known passed among wishes fitting) =
    let n = length past in
    let faster = fast k passed in
    let parts = and_parts ((eqb x.level k) && eqb (now_rem c past x) 0) (ltb 0 (want c n past x)) wishes in
    let at : eqb x.level k ≡ true = (and_parts (eqb x.level k) (eqb (now_rem c past x) 0) parts.0).0 in
    let level : x.level ≡ k = grind (arith, nat_tests) in
    let row = fit.rows x among in
    let low = row.low in
    let right = none x.id.process row.known (omega arith) in
    let wants = wish-wants c n past k x wishes in
    let never = want-none c past x right audited in
    absurd (omega arith)
no-slack-by c m past _ work fit audited fast none (nothing passed) = refl

pub no-slack-at : (c : Configuration) (m : ℕ) (e : Entry) (past : List Entry) → ThreadsFit c past → Audited c (e ∷ past)
    → ((k : ℕ) → Passed c past (suc k) → k < m) → NoFasterSlack c m → borrower e.label ≡ None
no-slack-at c m e past fit audited fast none =
    chosen-says borrower (chosen c past) e.label None audited.1.choice
    (λ work. no-slack-by c m past (chosen c past) work fit audited.0 fast none (chosen-reason c past))

-- no tick is lent while a main has something left that no faster process with a right to slack stands before
pub no-slack : (c : Configuration) (p : ℕ) (e : Entry) (past : List Entry) → ThreadsFit c past → Audited c (e ∷ past) → p < length c.processes
    → 0 < now_rem c past (main_row c p past) → NoFasterSlack c (main_level c p) → borrower e.label ≡ None
no-slack c p e past fit audited here left none =
    no-slack-at c (main_level c p) e past fit audited (λ k passed. let low = passed-faster c p (suc k) past here left passed in omega arith) none

-- the threads of the main's level that stand after it hold nothing
abbrev pub LaterFree : Configuration → ℕ → List Entry → Type 0
LaterFree c p past =
    (y : Thread) → Has (threads c past) y → y.level ≡ main_level c p → p ≤ y.id.process → (y.id ≡ main_id p → ⊥) → is_holder past y ≡ false

-- where a thread stands that was chosen while the main has something left
pub data Stands (c : Configuration) (p : ℕ) (past : List Entry) (y : Thread) : Type 0 where
  itself : y ≡ main_row c p past → Stands c p past y
  slower : main_level c p < y.level → Stands c p past y
  before : y.level ≤ main_level c p → (y.level < main_level c p) ⊎ (y.id.process < p) → Stands c p past y

-- the first of a level that has something left is not after the main
pub not-after : (c : Configuration) (p : ℕ) (past : List Entry) (y : Thread) → IsChecked c → Audited c past → p < length c.processes
    → 0 < now_rem c past (main_row c p past) → ready_at c past (main_level c p) ≡ Some y → p ≤ y.id.process → y ≡ main_row c p past
not-after c p past y checked audited here left first from =
    let m = main_level c p in
    let x = main_row c p past in
    let test : Thread → Bool = λ z. (eqb z.level m) && ltb 0 (now_rem c past z) in
    let at : eqb m m ≡ true = grind (arith, nat_tests) in
    let some : ltb 0 (now_rem c past x) ≡ true = grind (arith, nat_tests) in
    let passes : test x ≡ true = and_from (eqb x.level m) (ltb 0 (now_rem c past x)) at some in
    elim (find-flat test (λ q. family c q past) 0 (length c.processes) p x (children c p past) y (family-children c p past) passes (omega arith) (omega arith) first) [
      | inl same ↦ same
      | inr earlier ↦
          let less = earlier.1 in
          let own = (row-of c earlier.0 past y checked (omega arith) audited earlier.2).process in
          absurd (omega arith)
    ]

pub turn-stands : (c : Configuration) (p k : ℕ) (past : List Entry) (y : Thread) → IsChecked c → Audited c past → ThreadsFit c past → p < length c.processes
    → 0 < now_rem c past (main_row c p past) → LaterFree c p past → Has (threads c past) y → Turn c past k y → Stands c p past y
turn-stands c p k past y checked audited fit here left free among turn =
    let m = main_level c p in
    elim (cases_lt m y.level) [
      | inl slow ↦ slower slow
      | inr reaches ↦
          elim (cases_lt y.level m) [
            | inl fast ↦ before (omega arith) (inl fast)
            | inr level ↦
                elim (cases_lt y.id.process p) [
                  | inl earlier ↦ before (omega arith) (inr earlier)
                  | inr from ↦
                      elim (same-or y.id (main_id p)) [
                        | inl same ↦ itself (same-row (threads c past) y (main_row c p past) fit.distinct among (main-among c p past here) same)
                        | inr apart ↦ at_level turn (omega arith) (omega arith) apart
                      ]
                ]
          ]
    ]
  where
    at_level : Turn c past k y → y.level ≡ main_level c p → p ≤ y.id.process → (y.id ≡ main_id p → ⊥) → Stands c p past y
    at_level (by_hold holds level) same from apart = let none = free y among same from apart in absurd (cc)
    at_level (by_share nobody first level some) same from apart =
        let here' : k ≡ main_level c p = omega arith in
        itself (not-after c p past y checked audited here left (subst (λ i. ready_at c past i ≡ Some y) here' first) from)

-- so whoever has the tick is not one of those that stand after the main
not-theirs : (c : Configuration) (p : ℕ) (e : Entry) (past : List Entry) (z : Thread) → IsChecked c → Audited c past → ThreadsFit c past → p < length c.processes
    → 0 < now_rem c past (main_row c p past) → LaterFree c p past → borrower e.label ≡ None → Has (threads c past) z → z.level ≡ main_level c p → p ≤ z.id.process
    → (z.id ≡ main_id p → ⊥) → is_of z.id e ≡ true → Kind c past e.label → ⊥
not-theirs c p e past z checked audited fit here left free unlent among level from apart mine (paid k y known passed has turn pays borrows at) =
    let same : z.id ≡ y.id = of-payer z.id y.id e pays mine in
    let row : z ≡ y = same-row (threads c past) z y fit.distinct among has same in
    let level' : y.level ≡ main_level c p = ap (λ w. w.level) (sym row) ∙ level in
    let from' : p ≤ y.id.process = subst (λ w. p ≤ w.id.process) row from in
    go (turn-stands c p k past y checked audited fit here left free has turn) same level' from'
  where
    go : Stands c p past y → z.id ≡ y.id → y.level ≡ main_level c p → p ≤ y.id.process → ⊥
    go (itself is) same level' from' = apart (same ∙ ap (λ w. w.id) is)
    go (slower slow) same level' from' = absurd (omega arith)
    go (before le (inl fast)) same level' from' = absurd (omega arith)
    go (before le (inr earlier)) same level' from' = absurd (omega arith)
not-theirs c p e past z checked audited fit here left free unlent among level from apart mine (lent k y known passed has none room pays borrows at) =
    let wrong : Some y.id ≡ None = sym borrows ∙ unlent in absurd (cc)
not-theirs c p e past z checked audited fit here left free unlent among level from apart mine (kernel k known passed some pays borrows at) =
    of-nobody z.id e pays borrows mine
not-theirs c p e past z checked audited fit here left free unlent among level from apart mine (idle passed pays borrows at) =
    of-nobody z.id e pays borrows mine

pub later-free : (c : Configuration) (p : ℕ) (e : Entry) (past : List Entry) → IsChecked c → Audited c (e ∷ past) → HoldersFit c (length past) past → p < length c.processes
    → 0 < now_rem c past (main_row c p past) → NoFasterSlack c (main_level c p) → LaterFree c p past → LaterFree c p (e ∷ past)
later-free c p e past checked audited inv here left none free y among level from apart =
    let n = length past in
    let fit = threads-fit c past checked audited.0 in
    let unlent = no-slack c p e past fit audited here left none in
    let r = has-flat (λ q. family c q (e ∷ past)) 0 (length c.processes) y among in
    elim (has-next e n (family c r.0 past) (new_rows c r.0 e past) y r.2) [
      | inr new ↦ new-free c e past r.0 y checked audited.0 audited.1 inv (omega (arith, r.1)) new
      | inl old ↦
          let z = old.0 in
          let there : Has (threads c past) z = flat-has (λ q. family c q past) 0 (length c.processes) r.0 z (omega arith) (omega (arith, r.1)) old.1 in
          let id : z.id ≡ y.id = ap (λ w. w.id) old.2 in
          let level' : z.level ≡ main_level c p = ap (λ w. w.level) old.2 ∙ level in
          let from' : p ≤ z.id.process = subst (λ i. p ≤ i.process) (sym id) from in
          let apart' : z.id ≡ main_id p → ⊥ = λ same. apart (sym id ∙ same) in
          let free' : is_holding (held_by z.id past) ≡ false = free z there level' from' apart' in
          let held : is_holding (held_by z.id (e ∷ past)) ≡ false =
          elim (cases_Bool (stops z.id e)) [
            | inl over ↦ ap is_holding (held-stopped z.id e past over)
            | inr runs ↦
                elim (cases_Bool (is_of z.id e)) [
                  | inl mine ↦ absurd (not-theirs c p e past z checked audited.0 fit here left free unlent there level' from' apart' mine (kind c past e audited.1))
                  | inr other ↦ ap is_holding (held-other z.id e past runs other) ∙ free'
                ]
          ] in
          subst (λ i. is_holding (held_by i (e ∷ past)) ≡ false) id held
    ]
