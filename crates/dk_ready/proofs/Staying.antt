-- Who stands first stays there where another node is closed and leaves its queue.
use Rattle.dk_ready.proofs.Names.{ℕ, arith, ◌≡◌, ◌<◌, ◌∙◌, ◌⊎◌, inl, inr, true, false, eqb, Option, None, Some, IfSome, length, set, ap, sym, subst, is_some, MatchOption, nat_tests, HasBody, AreQuiet, Queues, queue_at, unlinked, WaitsFirst, first-unlinked, First, Seat, IsKept, Roster, seat_at, vacant}
use Rattle.std.proofs.Common.{slice_get}
use Rattle.dk_ready.proofs.Numbers.{set-other}

-- the node has another seat, and has left its queue
abbrev pub left_by : Roster → ℕ → Seat → Queues → Roster
left_by r node seat queues = record { switch = r.switch; seats = set r.seats node seat; ready = queues }

stays-kept : (r : Roster) (node : ℕ) (seat : Seat) (queues : Queues) (first : First) (body : ℕ) → queues.lists ≡ unlinked r.ready.lists node
    → eqb first.node node ≡ false → IsKept r body first → IsKept (left_by r node seat queues) body first
stays-kept r node seat queues first body lists other is =
    let apart : eqb node first.node ≡ false = grind (arith, nat_tests) in
    let same : seat_at (left_by r node seat queues) first.node ≡ seat_at r first.node = set-other r.seats node first.node seat vacant apart in
    let waits : WaitsFirst (unlinked r.ready.lists node) (record { level = first.level; node = first.node }) =
    first-unlinked r.ready.lists first.level node (Some first.node) other
    (record { known = is.stands.known; before = is.stands.before; front = is.stands.front }) in
    record {
      stands = record {
        known = subst (λ ls. first.level < length ls) (sym lists) waits.known;
        before = subst (AreQuiet first.level) (sym lists) waits.before;
        front = subst (λ ls. slice_get (queue_at ls first.level) 0 ≡ Some first.node) (sym lists) waits.front;
        thread = ap (λ (s : Seat). s.thread) same ∙ is.stands.thread;
        level = ap (λ (s : Seat). s.level) same ∙ is.stands.level;
      };
      computes = λ some. subst (λ (s : Seat). HasBody r.switch body s.job) (sym same) (is.computes some);
    }

-- what is kept in mind of who stands first, unless it is the node's
pub kept-after : (r : Roster) (node : ℕ) (seat : Seat) (queues : Queues) (was : Option First) (body : ℕ) (first : Option First) (next : ℕ)
    → queues.lists ≡ unlinked r.ready.lists node → MatchOption was (body ≡ 0) (IsKept r body)
    → IfSome first (λ kept. (was ≡ Some kept) × (eqb kept.node node ≡ false))
    → ((is_some first ≡ true) × (next ≡ body)) ⊎ ((is_some first ≡ false) × (next ≡ 0))
    → MatchOption first (next ≡ 0) (IsKept (left_by r node seat queues) next)
kept-after r node seat queues was body None next lists kept is (inl both) = let no : false ≡ true = both.0 in absurd (cc)
kept-after r node seat queues was body None next lists kept is (inr both) = both.1
kept-after r node seat queues was body (Some first) next lists kept is (inr both) = let no : true ≡ false = both.0 in absurd (cc)
kept-after r node seat queues was body (Some first) next lists kept is (inl both) =
    subst (λ n. IsKept (left_by r node seat queues) n first) (sym both.1)
    (stays-kept r node seat queues first body lists is.1 (subst (λ o. MatchOption o (body ≡ 0) (IsKept r body)) is.0 kept))
