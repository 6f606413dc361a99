-- Who has the ticks that are lent while a process goes on asking that none with the right to slack stands before.
use Rattle.dk_slack_promise.proofs.Names.{ℕ, zero, suc, ◌≡◌, ◌+◌, ◌<◌, ◌≤◌, ◌&&◌, inl, inr, Bool, true, false, cond, eqb, ltb, List, [], ◌∷◌, length, refl, sym, ap, ◌∙◌, subst, arith, Option, Some, None, MatchOption, is_some, option_map, option_or, unwrap_or, filter, count_by, cases_Bool, cases_lt, and_parts, nat_tests, Configuration, IsChecked, IsAccepted, below, first_of, main_level, Entry, Label, Choice, ThreadId, borrower, is_of, Has, Thread, threads, thread_rem, want, is_wishing, fits, work_at, wish_at, chosen, HasChosenLabel, Audited, Follows, NoAnswer, IsFirst, first_of-is, filter-has, threads-fit, no-work, count_by-cons, past_at}
use Rattle.std.specs.Prelude.{take, not, ◌||◌}
use Rattle.std.specs.Option.{option_map_or}
use Rattle.dk_config.specs.declared.TheConstants.{MAX_SPAN}
use Rattle.dk_config.specs.Windows.{may_ask}
use Rattle.dk_trace.specs.declared.Event.{Event}
use Rattle.dk_trace.specs.declared.Refusal.{Refusal}
use Rattle.dk_trace.specs.Choices.{claims_slack_at}
use Rattle.dk_trace.specs.Guarantees.{lent_to}
use Rattle.dk_trace.specs.Slack.{asked, last_request}
use Rattle.dk_trace.proofs.Chosen.{oldest-Has}
use Rattle.dk_trace.proofs.Entered.{done-event}
use Rattle.dk_trace.proofs.Events.{none-holds}
use Rattle.dk_trace.proofs.Silent.{wish-wants}
use Rattle.dk_bound.proofs.Before.{want-none}
use Rattle.dk_bound.proofs.Laws.{granted}
use Rattle.dk_bound.proofs.Received.{past_at-earlier, past_at-now}
use Rattle.dk_slack_promise.specs.Rest.{IsAtRest}
use Rattle.dk_slack_promise.specs.Lent.{is_lent}
use Rattle.dk_slack_promise.specs.Long.{is_idle, is_idle_label, is_lent_to, IsOpen, NoneBefore}
use Rattle.dk_slack_promise.proofs.Rest.{nobody-wishes, idle_at_rest}

-- whoever asks has the right to
pub has-right : (c : Configuration) (past : List Entry) (x : Thread) → Audited c past → 0 < want c (length past) past x → may_ask c x.id.process ≡ true
has-right c past x audited some =
    elim (cases_Bool (may_ask c x.id.process)) [
      | inl right ↦ right
      | inr none ↦ let never = want-none c past x none audited in absurd (omega arith)
    ]

pub claims-none : (work : Option Choice) (wish : Option Thread) → option_or (option_map (λ w. false) work) (option_map (λ x. true) wish) ≡ None → (work ≡ None) × (wish ≡ None)
claims-none None None is = (refl, refl)
claims-none None (Some x) is = absurd (cc)
claims-none (Some w) wish is = absurd (cc)

claims-wish : (work : Option Choice) (wish : Option Thread) → option_or (option_map (λ w. false) work) (option_map (λ x. true) wish) ≡ Some true → wish ≡ None → ⊥
claims-wish None None is none = absurd (cc)
claims-wish None (Some x) is none = absurd (cc)
claims-wish (Some w) wish is none = absurd (cc)

-- the level of a process that is open has work or a wish
pub open-claims : (c : Configuration) (past : List Entry) (p : ℕ) → IsOpen c past p → claims_slack_at c past (main_level c p) ≡ None → ⊥
open-claims c past p is none =
    let k = main_level c p in
    let x = is.0 in
    let both = claims-none (work_at c past k) (wish_at c past k) none in
    let empty = (no-work c past k both.0).ready x is.1 is.3 in
    let unwishing = nobody-wishes c past k x both.1 is.1 in
    elim is.4 [
      | inl left ↦ absurd (omega arith)
      | inr wants ↦
          let at : eqb x.level k ≡ true = (let level = is.3 in grind (arith, nat_tests)) in
          let spent : eqb (thread_rem c (length past) past x) 0 ≡ true = grind (arith, nat_tests) in
          let some : ltb 0 (want c (length past) past x) ≡ true = grind (arith, nat_tests) in
          let wishes : is_wishing c (length past) past k x ≡ true = rw (at, spent, some) refl in
          absurd (cc)
    ]

-- what a tick that is lent says of the claims and of whom it is lent to
record Lending (claims : Option Bool) (wish : Option Thread) (z : ThreadId) : Type 0 where
  slack : claims ≡ Some true
  who : Thread
  first : wish ≡ Some who
  same : who.id ≡ z

lending : (claims : Option Bool) (fit : Bool) (wish : Option Thread) (z : ThreadId)
    → cond (unwrap_or claims false && fit) (option_map (λ x. x.id) wish) None ≡ Some z → Lending claims wish z
lending None fit wish z is = absurd (cc)
lending (Some false) fit wish z is = absurd (cc)
lending (Some true) false wish z is = absurd (cc)
lending (Some true) true None z is = absurd (cc)
lending (Some true) true (Some y) z is = record { slack = refl; who = y; first = refl; same = cc }

-- the first level that claims is no slower than one that does
claims-by : (c : Configuration) (past : List Entry) (i : ℕ) (o : Option Bool) → i < length c.levels → (claims_slack_at c past i ≡ None → ⊥)
    → MatchOption o (NoAnswer (claims_slack_at c past) 0 (0 + length c.levels)) (IsFirst (claims_slack_at c past) 0 (0 + length c.levels))
    → o ≡ Some true → (q : ℕ) × (q ≤ i) × (wish_at c past q ≡ None → ⊥)
claims-by c past i None known some first is = absurd (cc)
claims-by c past i (Some b) known some first is =
    let q = first.place in
    let answer : claims_slack_at c past q ≡ Some true = first.answer ∙ is in
    elim (cases_lt i q) [
      | inl later ↦ absurd (some (first.before i (omega arith) later))
      | inr early ↦ (q, omega (arith, early), λ none. claims-wish (work_at c past q) (wish_at c past q) answer none)
    ]

pub record Wisher (c : Configuration) (past : List Entry) (i : ℕ) (y : Thread) : Type 0 where
  pub level : y.level ≤ i
  pub among : Has (threads c past) y
  pub wants : 0 < want c (length past) past y

-- the first wish is no slower than one that there is
wish-by : (c : Configuration) (past : List Entry) (i q : ℕ) (o : Option Thread) (y : Thread) → q ≤ i → q < length c.levels → (wish_at c past q ≡ None → ⊥)
    → MatchOption o (NoAnswer (wish_at c past) 0 (0 + length c.levels)) (IsFirst (wish_at c past) 0 (0 + length c.levels))
    → o ≡ Some y → Wisher c past i y
wish-by c past i q None y le known some first is = absurd (cc)
wish-by c past i q (Some z) y le known some first is =
    let n = length past in
    let r = first.place in
    let answer : wish_at c past r ≡ Some y = first.answer ∙ is in
    let early : r ≤ q =
    elim (cases_lt q r) [
      | inl later ↦ absurd (some (first.before q (omega arith) later))
      | inr reached ↦ omega (arith, reached)
    ] in
    let there = oldest-Has c n past (filter (is_wishing c n past r) (threads c past)) y answer in
    let found = filter-has (is_wishing c n past r) (threads c past) y there in
    let parts = and_parts ((eqb y.level r) && eqb (thread_rem c n past y) 0) (ltb 0 (want c n past y)) found.1 in
    let at : eqb y.level r ≡ true = (and_parts (eqb y.level r) (eqb (thread_rem c n past y) 0) parts.0).0 in
    let level : y.level ≡ r = grind (arith, nat_tests) in
    record { level = omega (arith, level, early, le); among = found.0; wants = wish-wants c n past r y found.1 }

-- whom a tick is lent to, where level i claims it: a thread of a level up to i that asks
pub record LentBy (c : Configuration) (past : List Entry) (i : ℕ) (z : ThreadId) : Type 0 where
  pub who : Thread
  pub wisher : Wisher c past i who
  pub same : who.id ≡ z

pub lent-by : (c : Configuration) (i : ℕ) (e : Entry) (past : List Entry) (z : ThreadId) → Audited c (e ∷ past) → i < length c.levels
    → (claims_slack_at c past i ≡ None → ⊥) → borrower e.label ≡ Some z → LentBy c past i z
lent-by c i e past z audited known claims same =
    let L = length c.levels in
    let due : lent_to c past ≡ Some z = sym (granted c (e ∷ past) audited).1 ∙ same in
    let l = lending (first_of (claims_slack_at c past) (below L)) (fits c (length past) past) (first_of (wish_at c past) (below L)) z due in
    let q = claims-by c past i (first_of (claims_slack_at c past) (below L)) known claims (first_of-is (claims_slack_at c past) 0 L) l.slack in
    record {
      who = l.who;
      wisher = wish-by c past i q.0 (first_of (wish_at c past) (below L)) l.who q.1 (omega (arith, q.1, known)) q.2 (first_of-is (wish_at c past) 0 L) l.first;
      same = l.same;
    }

-- while a process is open that none with the right stands before, each tick that is lent is its own
pub lent-mine : (c : Configuration) (p : ℕ) (e : Entry) (past : List Entry) → IsChecked c → Audited c (e ∷ past) → p < length c.processes → NoneBefore c p
    → IsOpen c past p → is_lent e ≡ true → is_lent_to p e ≡ true
lent-mine c p e past checked audited here first is lends = go (borrower e.label) refl lends
  where
    go : (o : Option ThreadId) → borrower e.label ≡ o → is_some o ≡ true → option_map_or (λ x. eqb x.process p) (borrower e.label) false ≡ true
    go None same some = absurd (cc)
    go (Some z) same some =
        let l = lent-by c (main_level c p) e past z audited (checked.levels p here) (open-claims c past p is) same in
        let y = l.who in
        let w = l.wisher in
        let row = (threads-fit c past checked audited.0).rows y w.among in
        let low = row.low in
        let level = w.level in
        let mine : y.id.process ≡ p = first y.id.process row.known (omega (arith, low, level)) (has-right c past y audited.0 w.wants) in
        let own : z.process ≡ p = ap (λ (v : ThreadId). v.process) (sym l.same) ∙ mine in
        let test : eqb z.process p ≡ true = grind (arith, nat_tests) in
        rw (same, test) refl

-- 1 where the entry passes the test
abbrev pub one_of : (Entry → Bool) → Entry → ℕ
one_of test e = cond (test e) 1 0

-- along a list: whatever is lent is lent to the process
pub all-mine : (c : Configuration) (p k : ℕ) (past : List Entry) → IsChecked c → Audited c past → p < length c.processes → NoneBefore c p
    → ((u : ℕ) → length past ≤ u + k → u < length past → IsOpen c (past_at past u) p)
    → count_by is_lent (take k past) ≤ count_by (is_lent_to p) (take k past)
all-mine c p zero past checked audited here first opens = omega arith
all-mine c p (suc k) [] checked audited here first opens = omega arith
all-mine c p (suc k) (e ∷ past) checked audited here first opens =
    let rest = all-mine c p k past checked audited.0 here first
    (λ u low high. subst (λ q. IsOpen c q p) (past_at-earlier e past u (omega (arith, high))) (opens u (omega (arith, low)) (omega (arith, high)))) in
    let now : IsOpen c past p = subst (λ q. IsOpen c q p) (past_at-earlier e past (length past) (omega arith) ∙ past_at-now past) (opens (length past) (omega arith) (omega arith)) in
    let a = count_by-cons is_lent e (take k past) in
    let b = count_by-cons (is_lent_to p) e (take k past) in
    elim (cases_Bool (is_lent e)) [
      | inr out ↦ (let off : one_of is_lent e ≡ 0 = rw out refl in omega (arith, rest, a, b, off))
      | inl lends ↦
          let on : one_of is_lent e ≡ 1 = rw lends refl in
          let mine : one_of (is_lent_to p) e ≡ 1 = rw (lent-mine c p e past checked audited here first now lends) refl in
          omega (arith, rest, a, b, on, mine)
    ]

-- who is open isn't at rest
pub open-not : (c : Configuration) (past : List Entry) (p : ℕ) → IsOpen c past p → IsAtRest c past → ⊥
open-not c past p is rest =
    let none = rest.shares is.0 is.1 in
    let quiet = rest.wishes is.0 is.1 in
    elim is.4 [ inl left ↦ absurd (omega arith) | inr wants ↦ absurd (omega arith) ]

pub idle-chosen : (choice : Choice) (label : Label) → HasChosenLabel choice label → is_idle_label label ≡ true → choice ≡ Choice.Idle
idle-chosen choice label has is = grind (arith, nat_tests)

-- along a list: while a process is open no tick is idle
pub none-idle : (c : Configuration) (p k : ℕ) (past : List Entry) → IsChecked c → IsAccepted c → Audited c past
    → ((u : ℕ) → length past ≤ u + k → u < length past → IsOpen c (past_at past u) p)
    → count_by is_idle (take k past) ≡ 0
none-idle c p zero past checked accepted audited opens = refl
none-idle c p (suc k) [] checked accepted audited opens = refl
none-idle c p (suc k) (e ∷ past) checked accepted audited opens =
    let rest = none-idle c p k past checked accepted audited.0
    (λ u low high. subst (λ q. IsOpen c q p) (past_at-earlier e past u (omega (arith, high))) (opens u (omega (arith, low)) (omega (arith, high)))) in
    let now : IsOpen c past p = subst (λ q. IsOpen c q p) (past_at-earlier e past (length past) (omega arith) ∙ past_at-now past) (opens (length past) (omega arith) (omega arith)) in
    let a = count_by-cons is_idle e (take k past) in
    elim (cases_Bool (is_idle e)) [
      | inr out ↦ (let off : one_of is_idle e ≡ 0 = rw out refl in omega (arith, rest, a, off))
      | inl idles ↦
          let choice = idle-chosen (chosen c past) e.label audited.1.choice idles in
          absurd (open-not c past p now ((idle_at_rest c past checked accepted audited.0).0 choice))
    ]
