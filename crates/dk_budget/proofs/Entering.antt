-- What an entry changes in the recount of a process: a stop, a new child, or nothing.
use Rattle.dk_budget.proofs.Names.{◌≡◌, ◌∙◌, ◌<◌, ◌+◌, ◌-◌, ◌%◌, ℕ, Bool, true, false, List, [], ◌∷◌, length, map, cond, Option, Some, None, ap, sym, arith, refl, inl, inr, nat_lt, nat_le, ◌==◌, ◌&&◌, not, filter, find, if◌then◌else◌, option_map_or, option_or, option_map, then_some, filter_map, cons_option, cases_Bool, nat_tests, append-nil, map-append, mod-lt, filter-append, find-append, Configuration, IsChecked, period, window_end, clock_at, end_at, ThreadId, Entry, Has, is_of, stops, Thread, family, main_thread, after_entry, made_by, is_main, is_void, is_ended_by, Loan, Lender, stopped, lender_of, lent_to, new_loan, stopped_child, stopped_process, counted_loan, counted_stop, counted_lender, StopsOnly, MakesChild}
use Rattle.dk_budget.proofs.Starting.{period-same}

-- whether a child is neither void nor ended
abbrev pub stands-at : Configuration → ℕ → Thread → Bool
stands-at c now y = not (is_main y) && not (is_void y) && not (is_ended_by c now y)

-- the thread after an entry that stops it or doesn't
abbrev after : Bool → ℕ → Thread → Thread
after b t y = record { id = y.id; level = y.level; quota = y.quota; start = y.start; stop = option_or y.stop (then_some b t) }

pub end-same : (c : Configuration) (t level : ℕ) → end_at (clock_at c t) level ≡ window_end c level t
end-same c t level = ap (λ (p : ℕ). (t - t % p) + p) (period-same c.levels level)

-- a loan once the children are stopped whose serial passes the test
abbrev stopped-of : Configuration → ℕ → (ℕ → Bool) → Loan → Option Loan
stopped-of c t meant l = if meant l.serial then stopped (clock_at c t) l else Some l

abbrev loans-of : Configuration → List Thread → List Loan
loans-of c ys = map (counted_loan c) ys

-- a thread whose loan stays, before the others
keep : (c : Configuration) (h : Loan → Option Loan) (y : Thread) (z : Bool) (now new : List Thread) → h (counted_loan c y) ≡ Some (counted_loan c y)
    → loans-of c new ≡ filter_map h (loans-of c now)
    → loans-of c (cond z (y ∷ new) new) ≡ filter_map h (loans-of c (cond z (y ∷ now) now))
keep c h y z now new same rest = grind (arith, nat_tests)

-- a child that is stopped now, before the others: early where it has not started
halt : (c : Configuration) (t : ℕ) (id : ThreadId) (level quota start : ℕ) (early ended main : Bool) (new : List Thread) (rest : List Loan)
    → ended ≡ false → main ≡ false → loans-of c new ≡ rest
    → loans-of c (cond (not main && not early && not ended) (record { id = id; level = level; quota = quota; start = start; stop = Some t } ∷ new) new)
    ≡ cons_option
    (if early then None else Some (record { serial = id.serial; level = level; quota = quota; start = start; end = Some (end_at (clock_at c t) level) }))
    rest
halt c t id level quota start true false false new rest e m same = same
halt c t id level quota start false false false new rest e m same =
    ap (λ ls. counted_loan c (record { id = id; level = level; quota = quota; start = start; stop = Some t }) ∷ ls) same
    ∙ ap (λ (n : ℕ). record { serial = id.serial; level = level; quota = quota; start = start; end = Some n } ∷ rest) (sym (end-same c t level))
halt c t id level quota start early true main new rest e m same = absurd (cc)
halt c t id level quota start early false true new rest e m same = absurd (cc)

chosen : (c : Configuration) (t : ℕ) (meant : ℕ → Bool) (l : Loan) (b : Bool) → b ≡ meant l.serial
    → stopped-of c t meant l ≡ (if b then stopped (clock_at c t) l else Some l)
chosen c t meant l b same = ap (λ m. if m then stopped (clock_at c t) l else Some l) (sym same)

-- one child that the entry stops or doesn't, before the others
child-step : (c : Configuration) (t : ℕ) (meant : ℕ → Bool) (id : ThreadId) (level quota start : ℕ) (stop : Option ℕ) (b : Bool) (now new : List Thread)
    → t < window_end c level t → (id.serial == 0) ≡ false → b ≡ meant id.serial
    → loans-of c new ≡ filter_map (stopped-of c t meant) (loans-of c now)
    → loans-of c
    (cond (stands-at c t (after b t (record { id = id; level = level; quota = quota; start = start; stop = stop })))
    (after b t (record { id = id; level = level; quota = quota; start = start; stop = stop }) ∷ new) new)
    ≡ filter_map (stopped-of c t meant)
    (loans-of c
    (cond (stands-at c t (record { id = id; level = level; quota = quota; start = start; stop = stop }))
    (record { id = id; level = level; quota = quota; start = start; stop = stop } ∷ now) now))
child-step c t meant id level quota start (Some s) b now new late child is rest =
    let y : Thread = record { id = id; level = level; quota = quota; start = start; stop = Some s } in
    keep c (stopped-of c t meant) y (stands-at c t y) now new (chosen c t meant (counted_loan c y) b is ∙ either-way b) rest
  where
    either-way : (b : Bool)
        → (if b then stopped (clock_at c t) (counted_loan c (record { id = id; level = level; quota = quota; start = start; stop = Some s }))
        else Some (counted_loan c (record { id = id; level = level; quota = quota; start = start; stop = Some s })))
        ≡ Some (counted_loan c (record { id = id; level = level; quota = quota; start = start; stop = Some s }))
    either-way true = refl
    either-way false = refl
child-step c t meant id level quota start None false now new late child is rest =
    let y : Thread = record { id = id; level = level; quota = quota; start = start; stop = None } in
    keep c (stopped-of c t meant) y (stands-at c t y) now new (chosen c t meant (counted_loan c y) false is) rest
child-step c t meant id level quota start None true now new late child is rest =
    let y : Thread = record { id = id; level = level; quota = quota; start = start; stop = None } in
    let ended : nat_le (window_end c level t) t ≡ false = grind (arith, nat_tests) in
    let others = filter_map (stopped-of c t meant) (loans-of c now) in
    halt c t id level quota start (nat_lt t start) (nat_le (window_end c level t) t) (id.serial == 0) new others ended child rest
    ∙ sym
    (ap (λ m. filter_map (stopped-of c t meant) (loans-of c (cond (not m && true && true) (y ∷ now) now))) child
    ∙ ap (λ o. cons_option o others) (chosen c t meant (counted_loan c y) true is))

main-out : (m a b : Bool) → m ≡ true → (not m && a && b) ≡ false
main-out m a b h = grind (arith, nat_tests)

step : (c : Configuration) (t : ℕ) (meant : ℕ → Bool) (y : Thread) (b : Bool) (now new : List Thread) → t < window_end c y.level t
    → (is_main y ≡ false → b ≡ meant y.id.serial)
    → loans-of c new ≡ filter_map (stopped-of c t meant) (loans-of c now)
    → loans-of c (cond (stands-at c t (after b t y)) (after b t y ∷ new) new)
    ≡ filter_map (stopped-of c t meant) (loans-of c (cond (stands-at c t y) (y ∷ now) now))
step c t meant y b now new late is rest =
    elim (cases_Bool (is_main y)) [
      | inl main ↦
          ap (λ z. loans-of c (cond z (after b t y ∷ new) new)) (main-out (is_main y) (not (is_void (after b t y))) (not (is_ended_by c t (after b t y))) main)
          ∙ rest
          ∙ sym (ap (λ z. filter_map (stopped-of c t meant) (loans-of c (cond z (y ∷ now) now))) (main-out (is_main y) (not (is_void y)) (not (is_ended_by c t y)) main))
      | inr child ↦ child-step c t meant y.id y.level y.quota y.start y.stop b now new late child (is child) rest
    ]

pub loans-after : (c : Configuration) (t : ℕ) (e : Entry) (meant : ℕ → Bool) (ys : List Thread)
    → ((y : Thread) → Has ys y → (t < window_end c y.level t) × (is_main y ≡ false → stops y.id e ≡ meant y.id.serial))
    → loans-of c (filter (stands-at c t) (map (after_entry e t) ys)) ≡ filter_map (stopped-of c t meant) (loans-of c (filter (stands-at c t) ys))
loans-after c t e meant [] all = refl
loans-after c t e meant (y ∷ ys) all = grind (arith, nat_tests, step, loans-after c t e meant ys)

-- the main is found where it was
main-stays : (e : Entry) (t : ℕ) (now : Bool) (ys : List Thread) → ((y : Thread) → Has ys y → is_main y ≡ true → stops y.id e ≡ now)
    → find is_main (map (after_entry e t) ys) ≡ option_map (after now t) (find is_main ys)
main-stays e t now [] all = refl
main-stays e t now (y ∷ ys) all = grind (arith, nat_tests, main-stays e t now ys)

no-more : (b : Bool) (xs : List Thread) → (b ≡ true → xs ≡ []) → (if b then xs else []) ≡ []
no-more b xs none = grind (arith, nat_tests)

family-after : (c : Configuration) (past : List Entry) (e : Entry) (p : ℕ) (meant : ℕ → Bool) (main : Bool) → StopsOnly c past e p meant main
    → family c p (e ∷ past) ≡ map (after_entry e (length past)) (family c p past)
family-after c past e p meant main only = grind (arith, nat_tests, no-more, append-nil)

window-late : (c : Configuration) (t level : ℕ) → IsChecked c → level < length c.levels → t < window_end c level t
window-late c t level checked known = let some = checked.positive level known in let part : t % period c level < period c level = mod-lt t some in omega arith

-- the process's row after the entry
lender-after : (c : Configuration) (past : List Entry) (e : Entry) (p : ℕ) (meant : ℕ → Bool) (main : Bool) → IsChecked c
    → StopsOnly c past e p meant main
    → counted_lender c (length past) (e ∷ past) p
    ≡ record (lender_of c p) {
      stop = option_map_or (λ (x : Thread). x.stop) (option_map (after main (length past)) (find is_main (family c p past))) None;
      loans = record { items = filter_map (stopped-of c (length past) meant) (loans-of c (filter (stands-at c (length past)) (family c p past))) };
    }
lender-after c past e p meant main checked only =
    let t = length past in
    let ys = family c p past in
    let row : Option ℕ → List Loan → Lender = λ o ls. record (lender_of c p) { stop = o; loans = record { items = ls } } in
    ap (λ (fam : List Thread). row (option_map_or (λ (x : Thread). x.stop) (find is_main fam) None) (loans-of c (filter (stands-at c t) fam)))
    (family-after c past e p meant main only)
    ∙ ap (λ o. row (option_map_or (λ (x : Thread). x.stop) o None) (loans-of c (filter (stands-at c t) (map (after_entry e t) ys))))
    (main-stays e t main ys only.mains)
    ∙ ap (row (option_map_or (λ (x : Thread). x.stop) (option_map (after main t) (find is_main ys)) None))
    (loans-after c t e meant ys (λ y has. (window-late c t y.level checked (only.levels y has), only.children y has)))

stop-kept : (t : ℕ) (o : Option Thread)
    → option_map_or (λ (x : Thread). x.stop) (option_map (after false t) o) None ≡ option_map_or (λ (x : Thread). x.stop) o None
stop-kept t o = grind (arith, nat_tests)

all-kept : (c : Configuration) (t : ℕ) (ls : List Loan) → filter_map (stopped-of c t (λ s. false)) ls ≡ ls
all-kept c t [] = refl
all-kept c t (l ∷ ls) = ap (λ xs. l ∷ xs) (all-kept c t ls)

pub quiet-row : (c : Configuration) (past : List Entry) (e : Entry) (p : ℕ) → IsChecked c → StopsOnly c past e p (λ s. false) false
    → counted_lender c (length past) (e ∷ past) p ≡ counted_lender c (length past) past p
quiet-row c past e p checked only =
    let t = length past in
    let ys = family c p past in
    let row : Option ℕ → List Loan → Lender = λ o ls. record (lender_of c p) { stop = o; loans = record { items = ls } } in
    let old = loans-of c (filter (stands-at c t) ys) in
    lender-after c past e p (λ s. false) false checked only
    ∙ ap (λ o. row o (filter_map (stopped-of c t (λ s. false)) old)) (stop-kept t (find is_main ys))
    ∙ ap (row (counted_stop c past p)) (all-kept c t old)

pub stopped-row : (c : Configuration) (past : List Entry) (e : Entry) (p serial : ℕ) → IsChecked c → StopsOnly c past e p (λ s. s == serial) false
    → counted_lender c (length past) (e ∷ past) p ≡ stopped_child (clock_at c (length past)) serial (counted_lender c (length past) past p)
stopped-row c past e p serial checked only =
    let t = length past in
    let ys = family c p past in
    let row : Option ℕ → List Loan → Lender = λ o ls. record (lender_of c p) { stop = o; loans = record { items = ls } } in
    let old = loans-of c (filter (stands-at c t) ys) in
    lender-after c past e p (λ s. s == serial) false checked only
    ∙ ap (λ o. row o (filter_map (stopped-of c t (λ s. s == serial)) old)) (stop-kept t (find is_main ys))

-- a process has its main
has-main : (c : Configuration) (p : ℕ) (past : List Entry) → (x : Thread) × (find is_main (family c p past) ≡ Some x)
has-main c p [] = (main_thread c p, refl)
has-main c p (e ∷ past) =
    let (x, is) = has-main c p past in
    let t = length past in (
      after (stops x.id e) t x,
      find-append is_main (map (after_entry e t) (family c p past)) (if is_of (record { process = p; serial = 0 }) e then made_by c p t e.event else [])
          ∙ ap (λ o. option_or o (find is_main (if is_of (record { process = p; serial = 0 }) e then made_by c p t e.event else [])))
          (moved e t (family c p past) x is),
    )
  where
    moved : (e : Entry) (t : ℕ) (ys : List Thread) (x : Thread) → find is_main ys ≡ Some x → find is_main (map (after_entry e t) ys) ≡ Some (after_entry e t x)
    moved e t [] x is = absurd (cc)
    moved e t (y ∷ ys) x is = here (is_main y) (find is_main ys) (find is_main (map (after_entry e t) ys)) (moved e t ys x) is
      where
        here : (m : Bool) (old new : Option Thread) → (old ≡ Some x → new ≡ Some (after_entry e t x)) → cond m (Some y) old ≡ Some x
            → cond m (Some (after_entry e t y)) new ≡ Some (after_entry e t x)
        here true old new later is = let same : y ≡ x = cc in ap (λ (z : Thread). Some (after_entry e t z)) same
        here false old new later is = later is

stop-now : (t : ℕ) (o : Option Thread) (x : Thread) → o ≡ Some x → option_map_or (λ (y : Thread). y.stop) o None ≡ None
    → option_map_or (λ (y : Thread). y.stop) (option_map (after true t) o) None ≡ Some t
stop-now t o x is none = grind (arith, nat_tests)

pub stopped-process-row : (c : Configuration) (past : List Entry) (e : Entry) (p : ℕ) → IsChecked c → StopsOnly c past e p (λ s. true) true
    → counted_stop c past p ≡ None
    → counted_lender c (length past) (e ∷ past) p ≡ stopped_process (clock_at c (length past)) (counted_lender c (length past) past p)
stopped-process-row c past e p checked only stands =
    let t = length past in
    let ys = family c p past in
    let row : Option ℕ → List Loan → Lender = λ o ls. record (lender_of c p) { stop = o; loans = record { items = ls } } in
    let old = loans-of c (filter (stands-at c t) ys) in
    let (x, is) = has-main c p past in
    lender-after c past e p (λ s. true) true checked only
    ∙ ap (λ o. row o (filter_map (stopped-of c t (λ s. true)) old)) (stop-now t (find is_main ys) x is stands)

all-stay : (e : Entry) (t : ℕ) (ys : List Thread) → ((y : Thread) → Has ys y → stops y.id e ≡ false) → map (after_entry e t) ys ≡ ys
all-stay e t [] stays = refl
all-stay e t (y ∷ ys) stays = grind (arith, nat_tests, all-stay e t ys)

thread-or-none : (o : Option Thread) → option_or o None ≡ o
thread-or-none o = grind (arith, nat_tests)

pub lent-row : (c : Configuration) (past : List Entry) (e : Entry) (p serial level quota : ℕ) → MakesChild c past e p serial level quota
    → counted_lender c (length past) (e ∷ past) p
    ≡ lent_to (new_loan (clock_at c (length past)) serial level quota) (counted_lender c (length past) past p)
lent-row c past e p serial level quota makes = grind (arith, nat_tests, all-stay, find-append, thread-or-none, filter-append, map-append, end-same)
