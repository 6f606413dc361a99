-- How the entries of a run go on.
use Rattle.dk_command.proofs.Names.{ℕ, zero, suc, ◌≡◌, ◌≤◌, ◌+◌, ◌-◌, ◌∙◌, List, [], ◌∷◌, ◌++◌, reverse, refl, ap, sym, subst, arith, append_assoc, append-nil, replicate_more, reverse-append, Option, None, Some, replicate, option_map_or, Configuration, Entry, ThreadId, chosen, Workload, trace, world, executes, body_step, quiet_step, quiet, stretch_of, gone_on, Running, trace_of, workload_of}
use Rattle.dk_command.specs.Runs.{AreEntries}

-- one more tick has one more entry
newest : (c : Configuration) (programs : List (List ℕ)) (n : ℕ) → (e : Entry) × (trace c programs (suc n) ≡ e ∷ trace c programs n)
newest c programs n = by (executes (chosen c (trace c programs n)))
  where
    by : (o : Option ThreadId) → (e : Entry) × ((option_map_or (body_step c (chosen c (trace c programs n)) (world c programs n)) o (quiet_step (chosen c (trace c programs n)) (world c programs n))).past ≡ e ∷ trace c programs n)
    by None = (_, refl)
    by (Some x) = (_, refl)

-- the entries of more ticks begin with those of fewer
entries-more : (c : Configuration) (programs : List (List ℕ)) (n k : ℕ) → (more : List Entry) × (reverse (trace c programs (n + k)) ≡ reverse (trace c programs n) ++ more)
entries-more c programs n zero =
    let same : n + 0 ≡ n = omega arith in
    ([], ap (λ m. reverse (trace c programs m)) same ∙ sym (append-nil (reverse (trace c programs n))))
entries-more c programs n (suc k) =
    let (more, same) = entries-more c programs n k in
    let (e, next) = newest c programs (n + k) in
    let step : n + suc k ≡ suc (n + k) = omega arith in
    (more ++ e ∷ [], ap (λ m. reverse (trace c programs m)) step ∙ ap reverse next ∙ reverse-append (e ∷ []) (trace c programs (n + k)) ∙ ap (λ es. es ++ e ∷ []) same ∙ append_assoc (reverse (trace c programs n)) more (e ∷ []))

-- no tick has no entry
pub none_yet : (w : Workload) → AreEntries w 0 []
unfolding AreEntries
none_yet w = refl

-- more ticks of one label have their entries more
pub gone_on_reversed : (n : ℕ) (e : Entry) (past : List Entry) → reverse (gone_on n e past) ≡ reverse past ++ stretch_of n e
gone_on_reversed n e past =
    reverse-append (e ∷ replicate (n - 1) (quiet e.label)) past
    ∙ ap (λ gs. reverse past ++ gs) (reverse-append (e ∷ []) (replicate (n - 1) (quiet e.label)) ∙ ap (λ xs. xs ++ e ∷ []) (same_way (quiet e.label) (n - 1)))
  where
    same_way : (x : Entry) (m : ℕ) → reverse (replicate m x) ≡ replicate m x
    same_way x zero = refl
    same_way x (suc m) =
        let step : m + 1 ≡ suc m = omega arith in
        reverse-append (x ∷ []) (replicate m x) ∙ ap (λ xs. xs ++ x ∷ []) (same_way x m) ∙ replicate_more m x ∙ ap (λ k. replicate k x) step

-- the entries of a kernel's run are those of its ticks
pub are_entries : (k : Running) → AreEntries (workload_of k) k.ticks (reverse (trace_of k))
unfolding AreEntries
are_entries k = refl

-- the entries of the first ticks are the first of those of more ticks
pub go_on : (w : Workload) (k n : ℕ) (es : List Entry) → AreEntries w k es → k ≤ n → (more : List Entry) × AreEntries w n (es ++ more)
unfolding AreEntries
go_on w k n es entries within =
    let (more, same) = entries-more w.config w.programs k (n - k) in
    let all : n ≡ k + (n - k) = omega (arith, within) in
    (more, ap (λ fs. fs ++ more) entries ∙ sym same ∙ sym (ap (λ m. reverse (trace w.config w.programs m)) all))

-- the same entries, said of the same workload and number in other words
pub moved : (v w : Workload) (k n : ℕ) (es : List Entry) → v ≡ w → k ≡ n → AreEntries v k es → AreEntries w n es
moved v w k n es same count entries = subst (λ u. AreEntries u n es) same (subst (λ m. AreEntries v m es) count entries)

-- those of a kernel that went on from another
pub went_on : (k old : Running) (n : ℕ) → k ≡ record old { ticks = k.ticks } → k.ticks ≡ n → AreEntries (workload_of old) n (reverse (trace_of k))
went_on k old n same now = moved (workload_of k) (workload_of old) k.ticks n (reverse (trace_of k)) (ap workload_of same) now (are_entries k)

-- a kernel before its first tick has none
pub nothing_yet : (k : Running) → k.ticks ≡ 0 → trace_of k ≡ []
nothing_yet k start = ap (trace k.config k.programs) start
