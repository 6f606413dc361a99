-- Threads that are shut one after the other, told by the tables before.
use Rattle.dk_recount.proofs.Names.{◌≡◌, ◌<◌, ◌≤◌, ◌+◌, ◌-◌, ◌∙◌, inl, inr, ◌&&◌, ◌||◌, Bool, true, false, eqb, ltb, leb, ℕ, zero, suc, List, [], ◌∷◌, length, map, max, Option, Some, None, refl, ap, sym, subst, arith, length-set, filter, nat_lt, nat_le, slice_get, slice_index, sum_by, if◌then◌else◌, IsSome, list_any, option_map_or, cases_Bool, eq-eqb, nat_tests, length-map, sum_by-cons, filter-twice, filter-all, eqb-not, ThreadId, is_same, rem, Has, same-id, sum_by-same, ThreadRow, named, Holder, Lockable, freed, is_by, is_holder, holder_left, left_under, left_up_to, left_at, emptied, by_level, at_level, from_level, less, length-by_level, get_or-by_level, by-twice, queue_at, holder, unlinked, is_wish_of, wishes_at, DropsWishes, Seat, closed, dropped_on, left_on, seat_at, Tables, node_on, shut, unblocked, MayShut, shut_all, MayShutAll, holder-other, one-queue, leaves, one-seat, seat-shut}
use Rattle.std.proofs.Common.{not}
use Rattle.dk_recount.proofs.Cells.{by-nothing}

-- whether one of the rows has the node, or the name
abbrev pub sits : List ThreadRow → ℕ → Bool
sits rows n = list_any (λ (r : ThreadRow). eqb (node_on r) n) rows

-- no two of the rows have one node or one name
abbrev pub AreApart : List ThreadRow → Type 0
AreApart [] = Unit {0}
AreApart (r ∷ rows) = ((q : ThreadRow) → Has rows q → (eqb (node_on q) (node_on r) ≡ false) × (is_same q.id r.id ≡ false)) × AreApart rows

-- Seats.

pub switch-shut : (rows : List ThreadRow) (d : Tables) → (shut_all rows d).jobs.switch ≡ d.jobs.switch
switch-shut [] d = refl
switch-shut (r ∷ rows) d = switch-shut rows (shut r d)

pub slack-shut : (rows : List ThreadRow) (d : Tables) → (shut_all rows d).slack ≡ record d.slack { wishes = (shut_all rows d).slack.wishes }
slack-shut [] d = refl
slack-shut (r ∷ rows) d = slack-shut rows (shut r d)

-- all rows have their seats
abbrev pub AreInside : List ThreadRow → Tables → Type 0
AreInside rows d = (r : ThreadRow) → Has rows r → node_on r < length d.jobs.seats

inside-on : (r : ThreadRow) (rows : List ThreadRow) (d : Tables) → AreInside (r ∷ rows) d → AreInside rows (shut r d)
inside-on r rows d inside q h =
    let few = inside q (inr h) in
    let same = length-set d.jobs.seats (node_on r) (seat-shut (seat_at d.jobs (node_on r))) in
    omega (arith, few, same)

pub seats-shut : (rows : List ThreadRow) (d : Tables) (n : ℕ) → AreInside rows d
    → seat_at (shut_all rows d).jobs n ≡ (if sits rows n then seat-shut (seat_at d.jobs n) else seat_at d.jobs n)
seats-shut [] d n inside = refl
seats-shut (r ∷ rows) d n inside =
    let rest = seats-shut rows (shut r d) n (inside-on r rows d inside) in
    let here = one-seat d.jobs (node_on r) n (inside r (inl refl)) in
    elim (cases_Bool (eqb (node_on r) n)) [
      | inl own ↦ grind (arith, nat_tests, seat-shut)
      | inr other ↦ grind (arith, nat_tests, seat-shut)
    ]
  where
    twice : (b : Bool) → (if b then seat-shut (seat-shut (seat_at d.jobs n)) else seat-shut (seat_at d.jobs n)) ≡ seat-shut (seat_at d.jobs n)
    twice true = refl
    twice false = refl

-- Queues.

pub queues-shut : (rows : List ThreadRow) (d : Tables) (k : ℕ) → AreInside rows d
    → queue_at (shut_all rows d).jobs.ready.lists k ≡ filter (λ n. not (sits rows n && leaves d.jobs n)) (queue_at d.jobs.ready.lists k)
queues-shut [] d k inside = sym (filter-all (λ n. true) (queue_at d.jobs.ready.lists k) (λ n. refl))
queues-shut (r ∷ rows) d k inside =
    queues-shut rows (shut r d) k (inside-on r rows d inside)
    ∙ ap (filter (λ n. not (sits rows n && leaves (shut r d).jobs n))) (one-queue d.jobs (node_on r) k)
    ∙ filter-twice (λ n. not (sits rows n && leaves (shut r d).jobs n)) (λ n. not (eqb (node_on r) n && leaves d.jobs n))
    (λ n. not (sits (r ∷ rows) n && leaves d.jobs n)) (queue_at d.jobs.ready.lists k) one
  where
    -- a closed node has left its queue, or stays there
    stays : (a b : ℕ) → (nat_lt 0 a && eqb a 0) ≡ false
    stays a b = elim (cases_Bool (eqb a 0)) [ inl none ↦ grind (arith, nat_tests) | inr some ↦ rw some (last (nat_lt 0 a)) ]
      where
        last : (t : Bool) → (t && false) ≡ false
        last true = refl
        last false = refl

    both : (l s : Bool) → (not l && not (s && false)) ≡ not l
    both true s = refl
    both false true = refl
    both false false = refl

    one : (n : ℕ) → (not (eqb (node_on r) n && leaves d.jobs n) && not (sits rows n && leaves (shut r d).jobs n)) ≡ not (sits (r ∷ rows) n && leaves d.jobs n)
    one n =
        let seat = one-seat d.jobs (node_on r) n (inside r (inl refl)) in
        elim (cases_Bool (eqb (node_on r) n)) [
          | inl own ↦
              let shut' : seat_at (shut r d).jobs n ≡ seat-shut (seat_at d.jobs n) = rw own at seat in
              let gone : leaves (shut r d).jobs n ≡ false =
              ap (λ (s : Seat). nat_lt 0 (rem d.jobs.switch s.job) && eqb (rem d.jobs.switch (closed s.job)) 0) shut'
              ∙ stays (rem d.jobs.switch (closed (seat_at d.jobs n).job)) 0 in
              rw (own, gone) (both (leaves d.jobs n) (sits rows n))
          | inr other ↦
              let same : seat_at (shut r d).jobs n ≡ seat_at d.jobs n = rw other at seat in
              let alike : leaves (shut r d).jobs n ≡ leaves d.jobs n =
              ap (λ (s : Seat). nat_lt 0 (rem d.jobs.switch s.job) && eqb (rem d.jobs.switch (closed s.job)) 0) same in
              rw (other, alike) refl
        ]

-- Wishes.

pub wishes-shut : DropsWishes → (rows : List ThreadRow) (d : Tables) (k : ℕ)
    → wishes_at (shut_all rows d).slack.wishes k ≡ filter (λ w. not (sits rows w.node)) (wishes_at d.slack.wishes k)
wishes-shut drops [] d k = sym (filter-all (λ w. true) (wishes_at d.slack.wishes k) (λ w. refl))
wishes-shut drops (r ∷ rows) d k =
    wishes-shut drops rows (shut r d) k
    ∙ ap (filter (λ w. not (sits rows w.node))) (drops (node_on r) d.slack.wishes k)
    ∙ filter-twice (λ w. not (sits rows w.node)) (λ w. not (eqb (node_on r) w.node)) (λ w. not (sits (r ∷ rows) w.node)) (wishes_at d.slack.wishes k)
    (λ w. either (eqb (node_on r) w.node) (sits rows w.node))
  where
    either : (a b : Bool) → (not a && not b) ≡ not (a || b)
    either true b = refl
    either false b = refl

pub wishes-length : (rows : List ThreadRow) (d : Tables) → length (shut_all rows d).slack.wishes ≡ length d.slack.wishes
wishes-length [] d = refl
wishes-length (r ∷ rows) d = wishes-length rows (shut r d) ∙ length-map d.slack.wishes (filter (λ w. not (is_wish_of (node_on r) w)))

-- Holders.

pub left-shut : (free : (rows : List Lockable) (id x : ThreadId) (m : ℕ) → left_at x (map (freed id) rows) m ≡ (if is_same x id then None else left_at x rows m))
    → (rows : List ThreadRow) (d : Tables) (x : ThreadId) (m : ℕ)
    → left_at x (shut_all rows d).mutexes m ≡ (if named rows x then None else left_at x d.mutexes m)
left-shut free [] d x m = refl
left-shut free (r ∷ rows) d x m =
    left-shut free rows (shut r d) x m ∙ ap (λ o. if named rows x then None else o) (free d.mutexes r.id x m) ∙ either (is_same x r.id) (named rows x) (left_at x d.mutexes m)
  where
    either : (a b : Bool) (o : Option ℕ) → (if b then None else (if a then None else o)) ≡ (if (a || b) then None else o)
    either true true o = refl
    either true false o = refl
    either false b o = refl

pub mutexes-shut : (keep : (rows : List Lockable) (id : ThreadId) → map emptied (map (freed id) rows) ≡ map emptied rows)
    → (rows : List ThreadRow) (d : Tables) → map emptied (shut_all rows d).mutexes ≡ map emptied d.mutexes
mutexes-shut keep [] d = refl
mutexes-shut keep (r ∷ rows) d = mutexes-shut keep rows (shut r d) ∙ keep d.mutexes r.id

freed-at : (id : ThreadId) (rows : List Lockable) (m : ℕ) (row : Lockable) → slice_get (map (freed id) rows) m ≡ Some row
    → (old : Lockable) × (slice_get rows m ≡ Some old) × (freed id old ≡ row)
freed-at id [] m row is = absurd (cc)
freed-at id (r ∷ rows) zero row is = (r, refl, cc)
freed-at id (r ∷ rows) (suc m) row is = freed-at id rows m row is

-- whoever holds a mutex afterwards held it before
pub held-before : (rows : List ThreadRow) (d : Tables) (m : ℕ) (row : Lockable) (h : Holder) → slice_get (shut_all rows d).mutexes m ≡ Some row → row.holder ≡ Some h
    → (old : Lockable) × (slice_get d.mutexes m ≡ Some old) × (old.holder ≡ Some h)
held-before [] d m row h at holds-it = (row, at, holds-it)
held-before (r ∷ rows) d m row h at holds-it =
    let next = held-before rows (shut r d) m row h at holds-it in
    let old = freed-at r.id d.mutexes m next.0 next.1 in
    (old.0, old.1, was (is_by r.id old.0) old.0.holder (ap (λ (z : Lockable). z.holder) old.2 ∙ next.2))
  where
    was : (b : Bool) (o : Option Holder) → (if b then None else o) ≡ Some h → o ≡ Some h
    was true o is = absurd (cc)
    was false o is = is

-- a thread keeps what it holds where another's mutexes are freed
left-other : (x y : ThreadId) (j : ℕ) (rows : List Lockable) → is_same x y ≡ false → left_up_to x j (map (freed y) rows) ≡ left_up_to x j rows
left-other x y j [] other = refl
left-other x y j (row ∷ rows) other =
    ap (λ o. max (option_map_or (λ n. if nat_le row.ceiling j then n else 0) o 0) (left_up_to x j (map (freed y) rows))) (one row.holder refl)
    ∙ ap (max (left_under x j row)) (left-other x y j rows other)
  where
    one : (o : Option Holder) → row.holder ≡ o → holder_left x (if is_by y row then None else row.holder) ≡ holder_left x row.holder
    one None at = ap (λ o. holder_left x (if is_holder y o then None else o)) at ∙ sym (ap (holder_left x) at)
    one (Some h) at = ap (λ o. holder_left x (if is_holder y o then None else o)) at ∙ go (is_same y h.thread) refl ∙ sym (ap (holder_left x) at)
      where
        go : (b : Bool) → is_same y h.thread ≡ b → holder_left x (if is_same y h.thread then None else Some h) ≡ holder_left x (Some h)
        go true same =
            let off : is_same x h.thread ≡ false = subst (λ i. is_same x i ≡ false) (same-id y h.thread same) other in
            ap (λ b. holder_left x (if b then None else Some h)) same ∙ sym (ap (λ b. if b then Some h.left else None) off)
        go false apart = ap (λ b. holder_left x (if b then None else Some h)) apart

-- Cells.

-- what level j no longer has to do, what the levels up to it no longer need, and for what it waits no longer
abbrev pub own-part : List ThreadRow → ℕ → Tables → ℕ
own-part rows j d = sum_by (λ (r : ThreadRow). if eqb j r.level then dropped_on (node_on r) d.jobs else 0) rows

abbrev pub remaining-part : List ThreadRow → ℕ → Tables → ℕ
remaining-part rows j d = sum_by (λ (r : ThreadRow). if nat_le r.level j then dropped_on (node_on r) d.jobs else 0) rows

abbrev pub blocking-part : List ThreadRow → ℕ → Tables → ℕ
blocking-part rows j d = sum_by (λ (r : ThreadRow). if nat_lt j r.level then left_up_to r.id j d.mutexes else 0) rows

module _ (r : ThreadRow) (rows : List ThreadRow) (d : Tables) (apart : AreApart (r ∷ rows)) (inside : AreInside (r ∷ rows) d) where
  seat-kept : (q : ThreadRow) → Has rows q → seat_at (shut r d).jobs (node_on q) ≡ seat_at d.jobs (node_on q)
  seat-kept q h = grind (arith, nat_tests, eqb-not, one-seat)

  left-kept : (q : ThreadRow) → Has rows q → left_on (shut r d).jobs (node_on q) ≡ left_on d.jobs (node_on q)
  left-kept q h = ap (λ (s : Seat). rem d.jobs.switch s.job) (seat-kept q h)

  dropped-kept : (q : ThreadRow) → Has rows q → dropped_on (node_on q) (shut r d).jobs ≡ dropped_on (node_on q) d.jobs
  dropped-kept q h = ap (λ (s : Seat). rem d.jobs.switch s.job - rem d.jobs.switch (closed s.job)) (seat-kept q h)

  own-kept : (j : ℕ) → own-part rows j (shut r d) ≡ own-part rows j d
  own-kept j = sum_by-same _ _ rows (λ q h. ap (λ n. if eqb j q.level then n else 0) (dropped-kept q h))

  remaining-kept : (j : ℕ) → remaining-part rows j (shut r d) ≡ remaining-part rows j d
  remaining-kept j = sum_by-same _ _ rows (λ q h. ap (λ n. if nat_le q.level j then n else 0) (dropped-kept q h))

  blocking-kept : (j : ℕ) → blocking-part rows j (shut r d) ≡ blocking-part rows j d
  blocking-kept j = sum_by-same _ _ rows (λ q h. ap (λ n. if nat_lt j q.level then n else 0) (left-other q.id r.id j d.mutexes (apart.0 q h).1))

less-both : (b : Bool) (n a rest sum : ℕ) → sum ≡ (if b then a else 0) + rest → (if b then n - a else n) - rest ≡ n - sum
less-both b n a rest sum is = grind (arith, nat_tests)

less-none : (f : ℕ → ℕ) (ns : List ℕ) → ((j : ℕ) → f j ≡ 0) → ns ≡ by_level (λ j n. n - f j) ns
less-none f ns none = sym (by-nothing (λ j n. n - f j) ns (λ j n h. let e = none j in omega (arith, e)))

pub own-shut : (rows : List ThreadRow) (d : Tables) → AreApart rows → AreInside rows d
    → (shut_all rows d).demand.own ≡ by_level (λ j n. n - own-part rows j d) d.demand.own
own-shut [] d apart inside = less-none (λ j. 0) d.demand.own (λ j. refl)
own-shut (r ∷ rows) d apart inside =
    own-shut rows (shut r d) apart.1 (inside-on r rows d inside)
    ∙ by-twice (λ j n. n - own-part rows j (shut r d)) (at_level r.level (less (dropped_on (node_on r) d.jobs))) (λ j n. n - own-part (r ∷ rows) j d) d.demand.own
    (λ j n. ap (λ k. at_level r.level (less (dropped_on (node_on r) d.jobs)) j n - k) (own-kept r rows d apart inside j)
    ∙ less-both (eqb j r.level) n (dropped_on (node_on r) d.jobs) (own-part rows j d) (own-part (r ∷ rows) j d) (sum_by-cons _ r rows))

pub remaining-shut : (rows : List ThreadRow) (d : Tables) → AreApart rows → AreInside rows d
    → (shut_all rows d).demand.remaining ≡ by_level (λ j n. n - remaining-part rows j d) d.demand.remaining
remaining-shut [] d apart inside = less-none (λ j. 0) d.demand.remaining (λ j. refl)
remaining-shut (r ∷ rows) d apart inside =
    remaining-shut rows (shut r d) apart.1 (inside-on r rows d inside)
    ∙ by-twice (λ j n. n - remaining-part rows j (shut r d)) (from_level r.level (less (dropped_on (node_on r) d.jobs))) (λ j n. n - remaining-part (r ∷ rows) j d) d.demand.remaining
    (λ j n. ap (λ k. from_level r.level (less (dropped_on (node_on r) d.jobs)) j n - k) (remaining-kept r rows d apart inside j)
    ∙ less-both (leb r.level j) n (dropped_on (node_on r) d.jobs) (remaining-part rows j d) (remaining-part (r ∷ rows) j d) (sum_by-cons _ r rows))

pub blocking-shut : (rows : List ThreadRow) (d : Tables) → AreApart rows → AreInside rows d
    → (shut_all rows d).demand.blocking ≡ by_level (λ j n. n - blocking-part rows j d) d.demand.blocking
blocking-shut [] d apart inside = less-none (λ j. 0) d.demand.blocking (λ j. refl)
blocking-shut (r ∷ rows) d apart inside =
    blocking-shut rows (shut r d) apart.1 (inside-on r rows d inside)
    ∙ by-twice (λ j n. n - blocking-part rows j (shut r d)) (unblocked r.id r.level d.mutexes) (λ j n. n - blocking-part (r ∷ rows) j d) d.demand.blocking
    (λ j n. ap (λ k. unblocked r.id r.level d.mutexes j n - k) (blocking-kept r rows d apart inside j)
    ∙ less-both (ltb j r.level) n (left_up_to r.id j d.mutexes) (blocking-part rows j d) (blocking-part (r ∷ rows) j d) (sum_by-cons _ r rows))

-- What all of them may be shut for: what they give up is in the cells, and whoever has something left is queued.
pub record CanShut (rows : List ThreadRow) (d : Tables) : Type 0 where
  pub apart : AreApart rows
  pub inside : AreInside rows d
  pub levels : (r : ThreadRow) → Has rows r → r.level < length d.demand.windows.periods
  pub queued : (r : ThreadRow) → Has rows r → 0 < left_on d.jobs (node_on r) → IsSome (holder d.jobs.ready.lists (node_on r))
  pub owns : length d.demand.own ≡ length d.demand.windows.periods
  pub needs : length d.demand.remaining ≡ length d.demand.windows.periods
  pub waits : length d.demand.blocking ≡ length d.demand.windows.periods
  pub own : (j : ℕ) → j < length d.demand.windows.periods → own-part rows j d ≤ slice_index d.demand.own j
  pub remaining : (j : ℕ) → j < length d.demand.windows.periods → remaining-part rows j d ≤ slice_index d.demand.remaining j
  pub blocking : (j : ℕ) → j < length d.demand.windows.periods → blocking-part rows j d ≤ slice_index d.demand.blocking j

-- the rest may be shut after the first
can-rest : (r : ThreadRow) (rows : List ThreadRow) (d : Tables) → CanShut (r ∷ rows) d → CanShut rows (shut r d)
can-rest r rows d can = record {
  apart = can.apart.1;
  inside = inside-on r rows d can.inside;
  levels = λ q h. can.levels q (inr h);
  queued = λ q h left.
      (let was : 0 < left_on d.jobs (node_on q) = subst (λ n. 0 < n) (left-kept r rows d can.apart can.inside q h) left in
      still (leaves d.jobs (node_on r)) q h (can.queued q (inr h) was));
  owns = length-by_level (at_level r.level (less (dropped_on (node_on r) d.jobs))) d.demand.own ∙ can.owns;
  needs = length-by_level (from_level r.level (less (dropped_on (node_on r) d.jobs))) d.demand.remaining ∙ can.needs;
  waits = length-by_level (unblocked r.id r.level d.mutexes) d.demand.blocking ∙ can.waits;
  own = λ j h.
      (let cell = get_or-by_level (at_level r.level (less (dropped_on (node_on r) d.jobs))) d.demand.own j (subst (λ n. j < n) (sym can.owns) h) in
      room (eqb j r.level) (slice_index d.demand.own j) (dropped_on (node_on r) d.jobs) (own-part rows j d) (own-part (r ∷ rows) j d)
      (own-part rows j (shut r d)) (slice_index (shut r d).demand.own j)
      (sum_by-cons _ r rows) (can.own j h) (own-kept r rows d can.apart can.inside j) cell);
  remaining = λ j h.
      (let cell = get_or-by_level (from_level r.level (less (dropped_on (node_on r) d.jobs))) d.demand.remaining j (subst (λ n. j < n) (sym can.needs) h) in
      room (leb r.level j) (slice_index d.demand.remaining j) (dropped_on (node_on r) d.jobs) (remaining-part rows j d) (remaining-part (r ∷ rows) j d)
      (remaining-part rows j (shut r d)) (slice_index (shut r d).demand.remaining j)
      (sum_by-cons _ r rows) (can.remaining j h) (remaining-kept r rows d can.apart can.inside j) cell);
  blocking = λ j h.
      (let cell = get_or-by_level (unblocked r.id r.level d.mutexes) d.demand.blocking j (subst (λ n. j < n) (sym can.waits) h) in
      room (ltb j r.level) (slice_index d.demand.blocking j) (left_up_to r.id j d.mutexes) (blocking-part rows j d) (blocking-part (r ∷ rows) j d)
      (blocking-part rows j (shut r d)) (slice_index (shut r d).demand.blocking j)
      (sum_by-cons _ r rows) (can.blocking j h) (blocking-kept r rows d can.apart can.inside j) cell);
}
  where
    still : (b : Bool) (q : ThreadRow) → Has rows q → IsSome (holder d.jobs.ready.lists (node_on q))
        → IsSome (holder (if b then record d.jobs.ready { lists = unlinked d.jobs.ready.lists (node_on r) } else d.jobs.ready).lists (node_on q))
    still true q h was = subst (λ o. IsSome o) (sym (holder-other (node_on q) (node_on r) 0 d.jobs.ready.lists (can.apart.0 q h).0)) was
    still false q h was = was

    room : (b : Bool) (n a rest all kept cell : ℕ) → all ≡ (if b then a else 0) + rest → all ≤ n → kept ≡ rest → cell ≡ (if b then n - a else n) → kept ≤ cell
    room true n a rest all kept cell sum low same is =
        let e : all ≡ a + rest = sum in let e' : cell ≡ n - a = is in omega (arith, e, low, same, e')
    room false n a rest all kept cell sum low same is =
        let e : all ≡ 0 + rest = sum in let e' : cell ≡ n = is in omega (arith, e, low, same, e')

pub may-all : (rows : List ThreadRow) (d : Tables) → CanShut rows d → MayShutAll rows d
may-all [] d can = tt
may-all (r ∷ rows) d can = (one, may-all rows (shut r d) (can-rest r rows d can))
  where
    first : (b : Bool) (a rest all cell : ℕ) → b ≡ true → all ≡ (if b then a else 0) + rest → all ≤ cell → a ≤ cell
    first true a rest all cell on sum low = let e : all ≡ a + rest = sum in omega (arith, e, low)
    first false a rest all cell on sum low = absurd (cc)

    one : MayShut r d
    one = record {
      closes = record {
        inside = can.inside r (inl refl);
        known = can.levels r (inl refl);
        queued = can.queued r (inl refl);
        own = first (eqb r.level r.level) (dropped_on (node_on r) d.jobs) (own-part rows r.level d) (own-part (r ∷ rows) r.level d) (slice_index d.demand.own r.level)
            (eq-eqb r.level r.level refl) (sum_by-cons _ r rows) (can.own r.level (can.levels r (inl refl)));
        remaining = λ j low high.
            first (leb r.level j) (dropped_on (node_on r) d.jobs) (remaining-part rows j d) (remaining-part (r ∷ rows) j d) (slice_index d.demand.remaining j)
            (let on : leb r.level j ≡ true = grind (arith, nat_tests) in on) (sum_by-cons _ r rows) (can.remaining j high);
      };
      blocking = λ j low.
          (let known = can.levels r (inl refl) in
          first (ltb j r.level) (left_up_to r.id j d.mutexes) (blocking-part rows j d) (blocking-part (r ∷ rows) j d) (slice_index d.demand.blocking j)
          (let on : ltb j r.level ≡ true = grind (arith, nat_tests) in on) (sum_by-cons _ r rows) (can.blocking j (omega (arith, low, known))));
    }
