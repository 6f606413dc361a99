-- The mains sit down one after the other, and are then the recount of no entries.
use Rattle.dk_ready.proofs.Names.{◌≡◌, ◌<◌, ◌≤◌, ◌+◌, ◌-◌, ◌*◌, ◌∙◌, ◌⊎◌, inl, inr, ℕ, zero, suc, Bool, true, false, cond, ltb, eqb, List, [], ◌∷◌, ◌++◌, length, map, get_or, replicate, set, None, refl, ap, sym, subst, arith, filter, flat_map, position_from, cases_Bool, cases_eq, nat_tests, length-replicate, map-append, append-nil, get_or-set_same, length-set, filter-append, MAX_THREADS, Configuration, IsChecked, numbers, below, main_level, budget, ThreadId, Has, Thread, family, main_thread, Job, job, thread_rem, whole, Queues, queue_at, holds, holder, pushed, Seat, vacant, seat_at, queued, IsRecount, is_ready, seat_of, main_seat, seated}
use Rattle.dk_ready.proofs.Numbers.{numbers-more, set-other}

-- the nodes of the mains of level k among the first processes
abbrev pub mains_at : Configuration → ℕ → ℕ → List ℕ
mains_at c k p = map (λ q. MAX_THREADS * q) (filter (λ q. eqb (main_level c q) k) (below p))

mains-more : (c : Configuration) (k p : ℕ) → mains_at c k (suc p) ≡ mains_at c k p ++ cond (eqb (main_level c p) k) ((MAX_THREADS * p) ∷ []) []
mains-more c k p =
    let test : ℕ → Bool = λ q. eqb (main_level c q) k in
    let more : numbers 0 (suc p) ≡ numbers 0 p ++ p ∷ [] = numbers-more 0 p ∙ ap (λ last. numbers 0 p ++ last ∷ []) (omega arith) in
    ap (λ ns. map (λ q. MAX_THREADS * q) (filter test ns)) more
    ∙ ap (map (λ q. MAX_THREADS * q)) (filter-append test (numbers 0 p) (p ∷ []))
    ∙ map-append (λ q. MAX_THREADS * q) (filter test (numbers 0 p)) (filter test (p ∷ []))
    ∙ ap (λ rest. mains_at c k p ++ rest) (last (cases_Bool (eqb (main_level c p) k)))
  where
    last : (eqb (main_level c p) k ≡ true) ⊎ (eqb (main_level c p) k ≡ false)
        → map (λ q. MAX_THREADS * q) (filter (λ q. eqb (main_level c q) k) (p ∷ [])) ≡ cond (eqb (main_level c p) k) ((MAX_THREADS * p) ∷ []) []
    last (inl on) = rw on refl
    last (inr off) = rw off refl

-- what holds of the roster once the mains of the first processes have sat down
pub record Seated (c : Configuration) (p : ℕ) : Type 0 where
  pub switch : (seated c p).switch ≡ c.costs.switch
  pub nodes : length (seated c p).seats ≡ MAX_THREADS * length c.processes
  pub ends : (seated c p).ready.nodes ≡ MAX_THREADS * length c.processes
  pub queues : length (seated c p).ready.lists ≡ length c.levels
  pub seats : (q : ℕ) → q < p → seat_at (seated c p) (MAX_THREADS * q) ≡ main_seat c q
  pub ready : (k : ℕ) → k < length c.levels → queue_at (seated c p).ready.lists k ≡ mains_at c k p

empty-queue : (n k : ℕ) → queue_at (replicate n []) k ≡ []
empty-queue zero k = refl
empty-queue (suc n) zero = refl
empty-queue (suc n) (suc k) = empty-queue n k

queue-some : (node : ℕ) (seat : Seat) (ready : Queues) → 0 < seat.job.share
    → queued node seat ready ≡ record { nodes = ready.nodes; lists = pushed ready.lists seat.level node }
queue-some node seat ready some = let off : eqb seat.job.share 0 ≡ false = grind (arith, nat_tests) in rw off refl

next-seated : (c : Configuration) (p : ℕ) → IsChecked c → p < length c.processes → Seated c p → Seated c (suc p)
next-seated c p checked known was =
    let some : 0 < budget c p = (let least = checked.budgets p known in omega (arith, least)) in
    let level = checked.levels p known in
    let now : (seated c (suc p)).ready ≡ record { nodes = (seated c p).ready.nodes; lists = pushed (seated c p).ready.lists (main_level c p) (MAX_THREADS * p) } =
    queue-some (MAX_THREADS * p) (main_seat c p) (seated c p).ready some in
    let nodes = was.nodes in
    let queues = was.queues in
    record {
      switch = was.switch;
      nodes = length-set (seated c p).seats (MAX_THREADS * p) (main_seat c p) ∙ was.nodes;
      ends = ap (λ (r : Queues). r.nodes) now ∙ was.ends;
      queues = ap (λ (r : Queues). length r.lists) now
          ∙ length-set (seated c p).ready.lists (main_level c p) (queue_at (seated c p).ready.lists (main_level c p) ++ (MAX_THREADS * p) ∷ []) ∙ was.queues;
      seats = λ q less.
          elim (cases_eq p q) [
            | inl same ↦
                subst (λ z. get_or (set (seated c p).seats (MAX_THREADS * p) (main_seat c p)) (MAX_THREADS * z) vacant ≡ main_seat c z) same
                (get_or-set_same (seated c p).seats (MAX_THREADS * p) (main_seat c p) vacant (omega arith))
            | inr apart ↦
                let off : eqb (MAX_THREADS * p) (MAX_THREADS * q) ≡ false = grind (arith, nat_tests) in
                set-other (seated c p).seats (MAX_THREADS * p) (MAX_THREADS * q) (main_seat c p) vacant off ∙ was.seats q (omega arith)
          ];
      ready = λ k known'.
          ap (λ (r : Queues). queue_at r.lists k) now
          ∙ (elim (cases_eq (main_level c p) k) [
            | inl same ↦
                let on : eqb (main_level c p) k ≡ true = grind (arith, nat_tests) in
                subst (λ z. get_or (set (seated c p).ready.lists (main_level c p) (queue_at (seated c p).ready.lists (main_level c p) ++ (MAX_THREADS * p) ∷ [])) z [] ≡ mains_at c z (suc p)) same
                (get_or-set_same (seated c p).ready.lists (main_level c p) (queue_at (seated c p).ready.lists (main_level c p) ++ (MAX_THREADS * p) ∷ []) [] (omega arith)
                ∙ ap (λ queue. queue ++ (MAX_THREADS * p) ∷ []) (was.ready (main_level c p) level)
                ∙ sym (mains-more c (main_level c p) p ∙ (let self : eqb (main_level c p) (main_level c p) ≡ true = grind (arith, nat_tests) in rw self refl)))
            | inr apart ↦
                let off : eqb (main_level c p) k ≡ false = grind (arith, nat_tests) in
                set-other (seated c p).ready.lists (main_level c p) k (queue_at (seated c p).ready.lists (main_level c p) ++ (MAX_THREADS * p) ∷ []) [] off
                ∙ was.ready k known'
                ∙ sym (mains-more c k p ∙ rw off (append-nil (mains_at c k p)))
          ]);
    }

pub is-seated : (c : Configuration) (p : ℕ) → IsChecked c → p ≤ length c.processes → Seated c p
is-seated c zero checked known = record {
  switch = refl;
  nodes = length-replicate (MAX_THREADS * length c.processes) vacant;
  ends = refl;
  queues = length-replicate (length c.levels) [];
  seats = λ q less. absurd (omega arith);
  ready = λ k known'. empty-queue (length c.levels) k;
}
is-seated c (suc p) checked known = next-seated c p checked (omega arith) (is-seated c p checked (omega arith))

-- the next main is in no queue
not-below : (c : Configuration) (k low n p : ℕ) → low + n ≤ p → holds (MAX_THREADS * p) (map (λ q. MAX_THREADS * q) (filter (λ q. eqb (main_level c q) k) (numbers low n))) ≡ false
not-below c k low zero p within = refl
not-below c k low (suc n) p within =
    let rest = not-below c k (suc low) n p (omega arith) in
    let off : eqb (MAX_THREADS * p) (MAX_THREADS * low) ≡ false = grind (arith, nat_tests) in
    elim (cases_Bool (eqb (main_level c low) k)) [
      | inl on ↦ rw on (rw (off, rest) refl)
      | inr no' ↦ rw no' rest
    ]

pub nowhere : (node i : ℕ) (lists : List (List ℕ)) → ((k : ℕ) → k < length lists → holds node (queue_at lists k) ≡ false) → position_from (holds node) i lists ≡ None
nowhere node i [] free = refl
nowhere node i (queue ∷ lists) free =
    let here : holds node queue ≡ false = free 0 (omega arith) in
    rw here (nowhere node (i + 1) lists (λ k h. free (suc k) (omega arith)))

pub next-free : (c : Configuration) (p : ℕ) → Seated c p → holder (seated c p).ready.lists (MAX_THREADS * p) ≡ None
next-free c p was =
    let queues = was.queues in
    nowhere (MAX_THREADS * p) 0 (seated c p).ready.lists (λ k h. ap (holds (MAX_THREADS * p)) (was.ready k (omega arith)) ∙ not-below c k 0 p p (omega arith))

-- the threads are the mains
main-of : (c : Configuration) (low n : ℕ) (x : Thread) → Has (flat_map (λ p. family c p []) (numbers low n)) x → (p : ℕ) × (p < low + n) × (main_thread c p ≡ x)
main-of c low zero x has = absurd has
main-of c low (suc n) x (inl is) = (low, omega arith, is)
main-of c low (suc n) x (inr has) = let r = main-of c (suc low) n x has in let less = r.1 in (r.0, omega arith, r.2)

-- each with its whole budget
abbrev pub HasBudgets : Type 0
HasBudgets = (c : Configuration) (p : ℕ) → whole (budget c p) ≡ job c 0 [] (main_thread c p)

main-some : HasBudgets → (c : Configuration) (p : ℕ) → IsChecked c → p < length c.processes → ltb 0 (thread_rem c 0 [] (main_thread c p)) ≡ true
main-some budgets c p checked known =
    let least = checked.budgets p known in
    let rem : thread_rem c 0 [] (main_thread c p) ≡ budget c p =
    ap (λ (j : Job). cond j.closed (cond (eqb j.used 0) 0 (c.costs.switch - j.out_ticks)) (j.share - j.used)) (sym (budgets c p)) ∙ omega arith in
    grind (arith, nat_tests)

module _ (budgets : HasBudgets) (node_of : ThreadId → ℕ) (c : Configuration) (checked : IsChecked c)
    (nodes : (p : ℕ) → p < length c.processes → node_of (record { process = p; serial = 0 }) ≡ MAX_THREADS * p) where
  ready-start : (k low n : ℕ) → low + n ≤ length c.processes
      → map (λ q. MAX_THREADS * q) (filter (λ q. eqb (main_level c q) k) (numbers low n))
      ≡ map (λ (x : Thread). node_of x.id) (filter (is_ready c 0 [] k) (flat_map (λ p. family c p []) (numbers low n)))
  ready-start k low zero within = refl
  ready-start k low (suc n) within =
      let rest = ready-start k (suc low) n (omega arith) in
      let node = nodes low (omega arith) in
      let some = main-some budgets c low checked (omega arith) in
      elim (cases_Bool (eqb (main_level c low) k)) [
        | inl on ↦
            rw (on, some)
            (ap (λ ns. MAX_THREADS * low ∷ ns) rest
            ∙ ap (λ m. m ∷ map (λ (x : Thread). node_of x.id) (filter (is_ready c 0 [] k) (flat_map (λ p. family c p []) (numbers (suc low) n)))) (sym node))
        | inr off ↦ rw off rest
      ]

  pub seats-start : (sits : Thread → Bool) → IsRecount node_of sits c 0 [] (seated c (length c.processes))
  seats-start sits =
      let P = length c.processes in
      let s = is-seated c P checked (omega arith) in
      record {
        switch = s.switch;
        seats = λ x among there.
            (let r = main-of c 0 P x among in
            let less = r.1 in
            let known : r.0 < P = omega arith in
            subst (λ (z : Thread). seat_at (seated c P) (node_of z.id) ≡ seat_of c 0 [] z) r.2
            (ap (seat_at (seated c P)) (nodes r.0 known) ∙ s.seats r.0 known
            ∙ ap (λ (j : Job). record { thread = record { process = r.0; serial = 0 }; level = main_level c r.0; job = j }) (budgets c r.0)));
        ready = λ k known. s.ready k known ∙ ready-start k 0 P (omega arith);
      }
