-- Lists of entries in which every thread but one main exits in its first tick of work: soon that main has its level and the faster ones to itself.
use Rattle.dk_chain.proofs.Names.{ℕ, zero, suc, ◌≡◌, ◌-◌, ◌⊎◌, inl, inr, false, cond, eqb, List, [], ◌∷◌, length, take, refl, sym, ap, ◌∙◌, subst, arith, Option, Some, None, MatchOption, cases_Bool, nat_tests, Configuration, IsChecked, IsAccepted, main_level, budget, window_start, ThreadId, Phase, Label, Choice, Entry, is_of, Thread, share, job, held_by, chosen, Audited, window, main_id, main_row}
use Rattle.std.specs.Prelude.{map}
use Rattle.std.specs.List.{list_any}
use Rattle.dk_trace.specs.declared.Work.{Work}
use Rattle.dk_trace.specs.declared.Event.{Event}
use Rattle.dk_trace.specs.Audit.{label_of, work_of, MayHave, ThreadFollows, row_of}
use Rattle.dk_trace.specs.Entries.{thread_of, does, is_wait, stops}
use Rattle.dk_trace.specs.Holds.{aged, held_after, innermost_left}
use Rattle.dk_trace.specs.Jobs.{is_closed, thread_rem}
use Rattle.dk_trace.specs.Slack.{last_request, want}
use Rattle.dk_trace.specs.Threads.{family}
use Rattle.dk_trace.proofs.Families.{children, family-children, lent, lent_of}
use Rattle.dk_trace.proofs.Holds.{held-mine, held-other}
use Rattle.dk_trace.proofs.Mains.{main_stop}
use Rattle.dk_trace.proofs.Shares.{share-main}
use Rattle.dk_bound.proofs.Laws.{choice_known}

-- a tick of work of another process than p is an exit
abbrev pub leave : ℕ → Label → Option Event
leave p (Label.Call x) = cond (eqb x.process p) None (Some Event.Exit)
leave p _ = None

-- each label is that of the choice, with a call, and the event as above
abbrev pub AllLeave : Configuration → ℕ → List Entry → Type 0
AllLeave c p [] = Unit {0}
AllLeave c p (e ∷ past) = AllLeave c p past × (e.label ≡ label_of (chosen c past) Work.Call) × (e.event ≡ leave p e.label)

abbrev leaving_entry : Configuration → ℕ → List Entry → Entry
leaving_entry c p past = let label = label_of (chosen c past) Work.Call in record { label = label; event = leave p label }

-- the entries of the first n ticks in which all others leave, the newest first
abbrev pub leaving : Configuration → ℕ → ℕ → List Entry
leaving c p zero = []
leaving c p (suc n) = leaving_entry c p (leaving c p n) ∷ leaving c p n

pub leaving-leaves : (c : Configuration) (p n : ℕ) → AllLeave c p (leaving c p n)
leaving-leaves c p zero = tt
leaving-leaves c p (suc n) = (leaving-leaves c p n, refl, refl)

pub leaving-length : (c : Configuration) (p n : ℕ) → length (leaving c p n) ≡ n
leaving-length c p zero = refl
leaving-length c p (suc n) = let rest = leaving-length c p n in omega (arith, rest)

-- no event but an exit
abbrev IsMild : Option Event → Type 0
IsMild event = (event ≡ None) ⊎ (event ≡ Some (Event.Exit))

leave-mild : (p : ℕ) (label : Label) → IsMild (leave p label)
leave-mild p (Label.Call x) = elim (cases_Bool (eqb x.process p)) [ inl own ↦ inl (rw own refl) | inr other ↦ inr (rw other refl) ]
leave-mild p (Label.Kernel i) = inl refl
leave-mild p (Label.In x) = inl refl
leave-mild p (Label.Run x) = inl refl
leave-mild p (Label.Out x) = inl refl
leave-mild p (Label.Slack x source work) = inl refl
leave-mild p Label.Idle = inl refl

abbrev AllMild : List Entry → Type 0
AllMild [] = Unit {0}
AllMild (e ∷ past) = AllMild past × IsMild e.event

all-mild : (c : Configuration) (p : ℕ) (past : List Entry) → AllLeave c p past → AllMild past
all-mild c p [] leaves = tt
all-mild c p (e ∷ past) leaves = (all-mild c p past leaves.0, subst IsMild (sym leaves.2) (leave-mild p e.label))

mild-take : (k : ℕ) (past : List Entry) → AllMild past → AllMild (take k past)
mild-take zero past mild = tt
mild-take (suc k) [] mild = tt
mild-take (suc k) (e ∷ past) mild = (mild-take k past mild.0, mild.1)

after-mild : (event : Option Event) → IsMild event → held_after event [] ≡ []
after-mild event (inl none) = ap (λ o. held_after o []) none
after-mild event (inr exits) = ap (λ o. held_after o []) exits

mild-held : (x : ThreadId) (past : List Entry) → AllMild past → held_by x past ≡ []
mild-held x [] mild = refl
mild-held x (e ∷ past) mild =
    let before = mild-held x past mild.0 in
    elim (cases_Bool (stops x e)) [
      | inl halted ↦ rw halted refl
      | inr runs ↦
          elim (cases_Bool (is_of x e)) [
            | inl mine ↦ held-mine x e past runs mine ∙ ap (λ hs. held_after e.event (map aged hs)) before ∙ after-mild e.event mild.1
            | inr other ↦ held-other x e past runs other ∙ before
          ]
    ]

mild-alone : (c : Configuration) (q : ℕ) (past : List Entry) → AllMild past → children c q past ≡ []
mild-alone c q [] mild = refl
mild-alone c q (e ∷ past) mild =
    let before = mild-alone c q past mild.0 in
    elim mild.1 [
      | inl none ↦ grind (arith, nat_tests)
      | inr exits ↦ grind (arith, nat_tests)
    ]

mild-waits : (x : ThreadId) (es : List Entry) → AllMild es → list_any (does is_wait x) es ≡ false
mild-waits x [] mild = refl
mild-waits x (e ∷ es) mild =
    let rest = mild-waits x es mild.0 in
    let here : does is_wait x e ≡ false = (elim mild.1 [
      | inl none ↦ grind (arith, nat_tests)
      | inr exits ↦ grind (arith, nat_tests)
    ]) in
    rw (here, rest) refl

mild-asks : (x : ThreadId) (es : List Entry) → AllMild es → (last_request x es).amount ≡ 0
mild-asks x [] mild = refl
mild-asks x (e ∷ es) mild =
    let rest = mild-asks x es mild.0 in
    elim mild.1 [
      | inl none ↦ grind (arith, nat_tests)
      | inr exits ↦ grind (arith, nat_tests)
    ]

pub leave-free : (c : Configuration) (p : ℕ) (x : ThreadId) (past : List Entry) → AllLeave c p past → held_by x past ≡ []
leave-free c p x past leaves = mild-held x past (all-mild c p past leaves)

pub leave-alone : (c : Configuration) (p q : ℕ) (past : List Entry) → AllLeave c p past → family c q past ≡ main_row c q past ∷ []
leave-alone c p q past leaves = family-children c q past ∙ ap (λ ys. main_row c q past ∷ ys) (mild-alone c q past (all-mild c p past leaves))

pub leave-wants : (c : Configuration) (p : ℕ) (past : List Entry) (x : Thread) → AllLeave c p past → want c (length past) past x ≡ 0
leave-wants c p past x leaves =
    let none = mild-asks x.id (window c (length past) past x.level) (mild-take (length past - window_start c x.level (length past)) past (all-mild c p past leaves)) in
    elim (cases_Bool (is_closed c (length past) past x)) [
      | inl shut ↦ grind (arith, nat_tests)
      | inr not_shut ↦ grind (arith, nat_tests)
    ]

-- the main of p never stops
own-quiet : (p : ℕ) (label : Label) (e : Entry) → e.label ≡ label → e.event ≡ leave p label → stops (main_id p) e ≡ false
own-quiet p (Label.Run x) e is event = grind (arith, nat_tests)
own-quiet p (Label.Kernel i) e is event = grind (arith, nat_tests)
own-quiet p (Label.In x) e is event = grind (arith, nat_tests)
own-quiet p (Label.Call x) e is event = grind (arith, nat_tests)
own-quiet p (Label.Out x) e is event = grind (arith, nat_tests)
own-quiet p (Label.Slack x source work) e is event = grind (arith, nat_tests)
own-quiet p Label.Idle e is event = grind (arith, nat_tests)

pub own-runs : (c : Configuration) (p : ℕ) (past : List Entry) → AllLeave c p past → main_stop p past ≡ None
own-runs c p [] leaves = refl
own-runs c p (e ∷ past) leaves =
    let before = own-runs c p past leaves.0 in
    let quiet_ = own-quiet p e.label e refl leaves.2 in
    rw (before, quiet_) refl

pub leave-share : (c : Configuration) (p q s : ℕ) (past : List Entry) → AllLeave c p past → main_stop q past ≡ None → share c past (main_row c q past) s ≡ budget c q
leave-share c p q s past leaves runs =
    let alone = mild-alone c q past (all-mild c p past leaves) in
    grind (arith, nat_tests, lent, lent_of, share-main)

pub leave-open : (c : Configuration) (p q n : ℕ) (past : List Entry) → AllLeave c p past → main_stop q past ≡ None → is_closed c n past (main_row c q past) ≡ false
leave-open c p q n past leaves runs =
    let none = mild-waits (main_id q) (window c n past (main_level c q)) (mild-take (length past - window_start c (main_level c q) n) past (all-mild c p past leaves)) in
    grind (arith, nat_tests)

pub leave-rem : (c : Configuration) (p q n : ℕ) (past : List Entry) → AllLeave c p past → main_stop q past ≡ None
    → thread_rem c n past (main_row c q past) ≡ budget c q - (job c n past (main_row c q past)).used
leave-rem c p q n past leaves runs =
    let open_ = leave-open c p q n past leaves runs in
    let whole = leave-share c p q (window_start c (main_level c q) n) past leaves runs in
    grind (arith, nat_tests)

-- such a list follows the rules
may-leave : (p : ℕ) (label : Label) → MayHave (work_of label) (leave p label)
may-leave p (Label.Call x) = elim (cases_Bool (eqb x.process p)) [ inl own ↦ rw own tt | inr other ↦ rw other tt ]
may-leave p (Label.Kernel i) = tt
may-leave p (Label.In x) = tt
may-leave p (Label.Run x) = tt
may-leave p (Label.Out x) = tt
may-leave p (Label.Slack x source work) = tt
may-leave p Label.Idle = tt

follows-mild : (c : Configuration) (past : List Entry) (e : Entry) (x : ThreadId) (row : Thread) → AllMild past → IsMild e.event → row_of c past x ≡ Some row → ThreadFollows c past e x
follows-mild c past e x row mild (inl none) found =
    let free : innermost_left c (held_by x past) ≡ 0 = ap (innermost_left c) (mild-held x past mild) in
    record {
      fault = λ faults. absurd (cc);
      last = λ one. absurd (omega arith);
      met = rw none tt;
    }
follows-mild c past e x row mild (inr exits) found =
    let free : innermost_left c (held_by x past) ≡ 0 = ap (innermost_left c) (mild-held x past mild) in
    record {
      fault = λ faults. absurd (cc);
      last = λ one. absurd (omega arith);
      met = rw exits (tt, rw found refl);
    }

same-thread : (choice : Choice) → thread_of (label_of choice Work.Run) ≡ thread_of (label_of choice Work.Call)
same-thread (Choice.Kernel k) = refl
same-thread (Choice.Budget x Phase.In) = refl
same-thread (Choice.Budget x Phase.Body) = refl
same-thread (Choice.Budget x Phase.Out) = refl
same-thread (Choice.Slack x source Phase.In) = refl
same-thread (Choice.Slack x source Phase.Body) = refl
same-thread (Choice.Slack x source Phase.Out) = refl
same-thread Choice.Idle = refl

thread-follows : (c : Configuration) (past : List Entry) (e : Entry) (o : Option ThreadId) → IsChecked c → IsAccepted c → Audited c past → AllMild past → IsMild e.event
    → thread_of (label_of (chosen c past) Work.Call) ≡ o → MatchOption o (Unit {0}) (ThreadFollows c past e)
thread-follows c past e None checked accepted audited mild event is = tt
thread-follows c past e (Some x) checked accepted audited mild event is =
    let known = choice_known c past checked accepted audited x (same-thread (chosen c past) ∙ is) in
    follows-mild c past e x known.row mild event known.found

pub leaving-audited : (c : Configuration) (p n : ℕ) → IsChecked c → IsAccepted c → Audited c (leaving c p n)
leaving-audited c p zero checked accepted = tt
leaving-audited c p (suc n) checked accepted =
    let past = leaving c p n in
    let e = leaving_entry c p past in
    let before = leaving-audited c p n checked accepted in
    let mild = all-mild c p past (leaving-leaves c p n) in (
      before,
      record {
        choice = inr refl;
        work = may-leave p e.label;
        thread = thread-follows c past e (thread_of e.label) checked accepted before mild (leave-mild p e.label) refl;
      },
    )
