-- Lists of entries in which no thread does anything but execute: nobody holds, waits, stops or has children.
use Rattle.dk_bound.proofs.Names.{and-false, zero-div, ℕ, zero, suc, ◌≡◌, ◌-◌, inl, inr, Bool, false, List, [], ◌∷◌, length, take, refl, ap, ◌∙◌, arith, map, Option, Some, None, MatchOption, list_any, cases_Bool, nat_tests, sum_by-cons, Configuration, main_level, budget, ThreadId, Work, Event, Entry, thread_of, is_of, does, is_wait, stops, quiet, main_thread, family, share, job, thread_rem, is_closed, aged, held_after, held_by, innermost_left, chosen, label_of, ThreadFollows, Audited, main_id, main_row, main_stop, children, family-children, lent_of, share-main, held-mine, held-other, spent}
use Rattle.dk_trace.proofs.Families.{lent}
use Rattle.dk_bound.proofs.Begins.{thread_part}
use Rattle.dk_bound.proofs.Demands.{process_demand, process_paid, kept, up_to}

-- no entry has an event
abbrev pub AllSpin : List Entry → Type 0
AllSpin [] = Unit {0}
AllSpin (e ∷ past) = AllSpin past × (e.event ≡ None)

-- the entries of the first n ticks in which all spin, the newest first
abbrev pub spinning : Configuration → ℕ → List Entry
spinning c zero = []
spinning c (suc n) = quiet (label_of (chosen c (spinning c n)) Work.Run) ∷ spinning c n

pub spinning-spins : (c : Configuration) (n : ℕ) → AllSpin (spinning c n)
spinning-spins c zero = tt
spinning-spins c (suc n) = (spinning-spins c n, refl)

pub spinning-length : (c : Configuration) (n : ℕ) → length (spinning c n) ≡ n
spinning-length c zero = refl
spinning-length c (suc n) = let rest = spinning-length c n in omega (arith, rest)

does-none : (test : Event → Bool) (x : ThreadId) (e : Entry) → e.event ≡ None → does test x e ≡ false
does-none test x e is = rw is (and-false (is_of x e))

stops-none : (x : ThreadId) (e : Entry) → e.event ≡ None → stops x e ≡ false
stops-none x e is = grind (arith, nat_tests)

pub spin-held : (x : ThreadId) (past : List Entry) → AllSpin past → held_by x past ≡ []
spin-held x [] spins = refl
spin-held x (e ∷ past) spins =
    let before = spin-held x past spins.0 in
    let runs = stops-none x e spins.1 in
    elim (cases_Bool (is_of x e)) [
      | inl mine ↦ held-mine x e past runs mine ∙ ap (λ hs. held_after e.event (map aged hs)) before ∙ ap (λ o. held_after o []) spins.1
      | inr other ↦ held-other x e past runs other ∙ before
    ]

thread-fine : (c : Configuration) (past : List Entry) (e : Entry) (o : Option ThreadId) → AllSpin past → e.event ≡ None → MatchOption o (Unit {0}) (ThreadFollows c past e)
thread-fine c past e None spins is = tt
thread-fine c past e (Some x) spins is =
    let free : innermost_left c (held_by x past) ≡ 0 = ap (innermost_left c) (spin-held x past spins) in
    record {
      fault = λ faults. absurd (cc);
      last = λ one. absurd (omega arith);
      met = rw is tt;
    }

pub spinning-audited : (c : Configuration) (n : ℕ) → Audited c (spinning c n)
spinning-audited c zero = tt
spinning-audited c (suc n) =
    let past = spinning c n in
    let e : Entry = quiet (label_of (chosen c past) Work.Run) in
    (spinning-audited c n, record { choice = inl refl; work = tt; thread = thread-fine c past e (thread_of e.label) (spinning-spins c n) refl })

spin-take : (k : ℕ) (past : List Entry) → AllSpin past → AllSpin (take k past)
spin-take zero past spins = tt
spin-take (suc k) [] spins = tt
spin-take (suc k) (e ∷ past) spins = (spin-take k past spins.0, spins.1)

no-waits : (x : ThreadId) (es : List Entry) → AllSpin es → list_any (does is_wait x) es ≡ false
no-waits x [] spins = refl
no-waits x (e ∷ es) spins = let here = does-none is_wait x e spins.1 in let rest = no-waits x es spins.0 in rw (here, rest) refl

pub spin-stop : (p : ℕ) (past : List Entry) → AllSpin past → main_stop p past ≡ None
spin-stop p [] spins = refl
spin-stop p (e ∷ past) spins = grind (arith, nat_tests, spin-stop p past)

pub spin-main : (c : Configuration) (p : ℕ) (past : List Entry) → AllSpin past → main_row c p past ≡ main_thread c p
spin-main c p past spins = grind (arith, nat_tests, main_id, spin-stop)

spin-alone : (c : Configuration) (p : ℕ) (past : List Entry) → AllSpin past → children c p past ≡ []
spin-alone c p [] spins = refl
spin-alone c p (e ∷ past) spins = grind (arith, nat_tests, spin-alone c p past)

pub spin-family : (c : Configuration) (p : ℕ) (past : List Entry) → AllSpin past → family c p past ≡ main_row c p past ∷ []
spin-family c p past spins = family-children c p past ∙ ap (λ ys. main_row c p past ∷ ys) (spin-alone c p past spins)

pub spin-share : (c : Configuration) (p s : ℕ) (past : List Entry) → AllSpin past → share c past (main_row c p past) s ≡ budget c p
spin-share c p s past spins = grind (arith, nat_tests, lent, lent_of, spin-alone, share-main, spin-stop)

pub spin-open : (c : Configuration) (p n : ℕ) (past : List Entry) → AllSpin past → is_closed c n past (main_row c p past) ≡ false
spin-open c p n past spins = grind (arith, nat_tests, no-waits, main_id, spin-take, spin-stop)

pub spin-rem : (c : Configuration) (p n : ℕ) (past : List Entry) → AllSpin past
    → thread_rem c n past (main_row c p past) ≡ budget c p - (job c n past (main_row c p past)).used
spin-rem c p n past spins = grind (arith, nat_tests, spin-open, main_row, spin-share)

-- what a process needs in the present window of its main is what its main has left
pub spin-demand : (c : Configuration) (q n : ℕ) (past : List Entry) → AllSpin past
    → process_demand c q (main_level c q) n past ≡ thread_rem c n past (main_row c q past)
spin-demand c q n past spins = grind (arith, nat_tests, main_row, zero-div, thread_part, process_demand, spin-family, sum_by-cons)

pub spin-paid : (c : Configuration) (q : ℕ) (e : Entry) (past : List Entry) → AllSpin past → process_paid c q (main_level c q) e past ≡ spent (main_id q) e
spin-paid c q e past spins = grind (arith, nat_tests, kept, up_to, spent, main_row, main_id, process_paid, spin-family, sum_by-cons)
