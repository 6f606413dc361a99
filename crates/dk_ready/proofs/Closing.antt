-- What the closing of one job leaves of the seats and the queues.
use Rattle.dk_ready.proofs.Names.{if◌then◌else◌, nat_lt, filter, position_from, eqb, ℕ, length, inl, inr, ◌<◌, ◌≡◌, subst, ◌&&◌, Bool, sym, not, refl, true, ◌∙◌, ap, false, arith, ◌∷◌, List, ◌+◌, [], eqb-true, cases_Bool, get_or-set_same, nat_tests, filter-all, queue_at, unlinked, holds, without, rem, Seat, closed, seat_at, vacant, closed_on, Roster, left_on}
use Rattle.dk_ready.proofs.Numbers.{set-other}
use Rattle.dk_ready.proofs.Moving.{queue-unlinked, filter-same}

abbrev pub seat-shut : Seat → Seat
seat-shut s = record { thread = s.thread; level = s.level; job = closed s.job }

pub one-seat : (r : Roster) (node n : ℕ) → node < length r.seats → seat_at (closed_on node r) n ≡ (if eqb node n then seat-shut (seat_at r n) else seat_at r n)
one-seat r node n inside =
    elim (cases_Bool (eqb node n)) [
      | inl here ↦
          let e = eqb-true node n here in
          rw here (subst (λ k. seat_at (closed_on node r) k ≡ seat-shut (seat_at r k)) e (get_or-set_same r.seats node (seat-shut (seat_at r node)) vacant inside))
      | inr other ↦ rw other (set-other r.seats node n (seat-shut (seat_at r node)) vacant other)
    ]

-- whether the node leaves its queue once it is closed
abbrev pub leaves : Roster → ℕ → Bool
leaves r n = nat_lt 0 (left_on r n) && eqb (rem r.switch (closed (seat_at r n).job)) 0

pub one-queue : (r : Roster) (node k : ℕ) → queue_at (closed_on node r).ready.lists k ≡ filter (λ n. not (eqb node n && leaves r n)) (queue_at r.ready.lists k)
one-queue r node k = go (leaves r node) refl
  where
    own : (b : Bool) (n : ℕ) → leaves r node ≡ b → eqb node n ≡ true → leaves r n ≡ b
    own b n at same = subst (λ m. leaves r m ≡ b) (eqb-true node n same) at

    go : (b : Bool) → leaves r node ≡ b → queue_at (closed_on node r).ready.lists k ≡ filter (λ n. not (eqb node n && leaves r n)) (queue_at r.ready.lists k)
    go true at =
        ap (λ b. queue_at (if b then record r.ready { lists = unlinked r.ready.lists node } else r.ready).lists k) at
        ∙ queue-unlinked node r.ready.lists k
        ∙ filter-same (λ n. not (eqb node n)) (λ n. not (eqb node n && leaves r n)) (queue_at r.ready.lists k)
        (λ n h. elim (cases_Bool (eqb node n)) [ inl same ↦ let on = own true n at same in rw (same, on) refl | inr other ↦ rw other refl ])
    go false at =
        ap (λ b. queue_at (if b then record r.ready { lists = unlinked r.ready.lists node } else r.ready).lists k) at
        ∙ sym (filter-all (λ n. not (eqb node n && leaves r n)) (queue_at r.ready.lists k)
        (λ n. elim (cases_Bool (eqb node n)) [ inl same ↦ let off = own false n at same in rw (same, off) refl | inr other ↦ rw other refl ]))

holds-other : (n node : ℕ) (queue : List ℕ) → eqb n node ≡ false → holds n (without node queue) ≡ holds n queue
holds-other n node [] apart = refl
holds-other n node (x ∷ queue) apart =
    elim (cases_Bool (eqb node x)) [
      | inl here ↦ let off : eqb n x ≡ false = grind (arith, nat_tests) in rw (here, off) (holds-other n node queue apart)
      | inr other ↦ rw (other, holds-other n node queue apart) refl
    ]

pub holder-other : (n node from : ℕ) (lists : List (List ℕ)) → eqb n node ≡ false → position_from (holds n) from (unlinked lists node) ≡ position_from (holds n) from lists
holder-other n node from [] apart = refl
holder-other n node from (q ∷ lists) apart = rw (holds-other n node q apart, holder-other n node (from + 1) lists apart) refl
