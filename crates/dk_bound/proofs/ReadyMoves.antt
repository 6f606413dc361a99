-- The ready lists of the levels under each move.
use Rattle.dk_bound.proofs.Names.{ℕ, zero, suc, ◌≡◌, ◌+◌, ◌%◌, ◌<◌, ◌≤◌, Bool, true, false, ◌&&◌, eqb, ltb, List, [], ◌∷◌, ◌++◌, length, refl, sym, ap, ◌∙◌, subst, arith, map, flat_map, nat_tests, Configuration, numbers, period, ThreadId, Label, Entry, Has, quiet, Thread, threads, family, after_entry, new_rows, rem, thread_rem, AtEachEntry, is_ready, ids_of, ready, EventKeepsReady, ClockMovesReady, charge-new, job-moves}
use Rattle.dk_bound.proofs.TickMoves.{threads-charged}
use Rattle.dk_bound.proofs.EventMoves.{IsEntry, entry-is, rem-kept}
use Rattle.dk_bound.proofs.ClockMoves.{over-is, begins-mod, within-mod}

pub ids-same : (f g : Thread → Bool) (xs : List Thread) → ((x : Thread) → Has xs x → f x ≡ g x) → ids_of f xs ≡ ids_of g xs
ids-same f g [] same = refl
ids-same f g (x ∷ xs) same = grind (arith, nat_tests, ids-same f g xs)

ids-none : (f : Thread → Bool) (xs : List Thread) → ((x : Thread) → Has xs x → f x ≡ false) → ids_of f xs ≡ []
ids-none f [] none = refl
ids-none f (x ∷ xs) none = grind (arith, nat_tests, ids-none f xs)

ids-append : (f : Thread → Bool) (xs ys : List Thread) → ids_of f (xs ++ ys) ≡ ids_of f xs ++ ids_of f ys
ids-append f [] ys = refl
ids-append f (x ∷ xs) ys = grind (arith, nat_tests, ids-append f xs)

ids-after : (f : Thread → Bool) (e : Entry) (n : ℕ) (xs : List Thread) → ids_of f (map (after_entry e n) xs) ≡ ids_of (λ x. f (after_entry e n x)) xs
ids-after f e n [] = refl
ids-after f e n (x ∷ xs) = grind (arith, nat_tests, ids-after f e n xs)

ids-flat : (f g : Thread → Bool) (lists others : ℕ → List Thread) (low n : ℕ)
    → ((p : ℕ) → low ≤ p → p < low + n → ids_of f (lists p) ≡ ids_of g (others p))
    → ids_of f (flat_map lists (numbers low n)) ≡ ids_of g (flat_map others (numbers low n))
ids-flat f g lists others low zero same = refl
ids-flat f g lists others low (suc n) same = grind (arith, nat_tests, ids-append, ids-flat f g lists others (suc low) n)

append-none : (xs : List ThreadId) → xs ++ [] ≡ xs
append-none [] = refl
append-none (x ∷ xs) = ap (λ ys. x ∷ ys) (append-none xs)

-- what the test of readiness says after a change of what is left
ready-same : (b : Bool) (r s : ℕ) → r ≡ s → (b && ltb 0 r) ≡ (b && ltb 0 s)
ready-same b r s same = ap (λ k. b && ltb 0 k) same

-- the event
ready-moved : (c : Configuration) (label : Label) (past : List Entry) (k : ℕ)
    → ready c (length past) (quiet label ∷ past) k ≡ ids_of (is_ready c (length past) (quiet label ∷ past) k) (threads c past)
ready-moved c label past k = ap (ids_of (is_ready c (length past) (quiet label ∷ past) k)) (threads-charged c label past)

-- whether the thread is ready after the event
abbrev stays_ready : Configuration → Entry → List Entry → ℕ → Thread → Bool
stays_ready c e past k x = is_ready c (length past) (e ∷ past) k (after_entry e (length past) x)

ready-left : (c : Configuration) (e : Entry) (past : List Entry) (k : ℕ) → IsEntry c e past
    → ready c (length past) (e ∷ past) k ≡ ids_of (stays_ready c e past k) (threads c past)
ready-left c e past k is =
    let n = length past in
    let f = is_ready c n (e ∷ past) k in
    ids-flat f (stays_ready c e past k) (λ p. family c p (e ∷ past)) (λ p. family c p past) 0 (length c.processes)
    (λ p a b.
    ids-append f (map (after_entry e n) (family c p past)) (new_rows c p e past)
    ∙ ap (λ ys. ids_of f (map (after_entry e n) (family c p past)) ++ ys)
    (ids-none f (new_rows c p e past)
    (λ x new. let none = (charge-new c p e past x is.checked (omega arith) is.fair is.audited new).1 in
    ready-same (eqb x.level k) (thread_rem c n (e ∷ past) x) 0 none ∙ nothing (eqb x.level k)))
    ∙ append-none (ids_of f (map (after_entry e n) (family c p past)))
    ∙ ids-after f e n (family c p past))
  where
    nothing : (b : Bool) → (b && ltb 0 0) ≡ false
    nothing true = refl
    nothing false = refl

pub event_keeps_ready : AtEachEntry EventKeepsReady
event_keeps_ready c e past checked accepted audited k nobody =
    let is = entry-is c e past checked accepted audited in
    let n = length past in
    let after : Thread → ℕ = λ y. thread_rem c n (e ∷ past) (after_entry e n y) in
    let before = thread_rem c n (quiet e.label ∷ past) in
    ready-left c e past k is
    ∙ ids-same (stays_ready c e past k) (is_ready c n (quiet e.label ∷ past) k) (threads c past)
    (λ y h. ready-same (eqb y.level k) (after y) (before y) (rem-kept c e past y is h (nobody y h)))
    ∙ sym (ready-moved c e.label past k)

-- the clock
ready-at-level : (k : ℕ) (f g : Thread → ℕ) (xs : List Thread) → ((x : Thread) → Has xs x → x.level ≡ k → f x ≡ g x)
    → ids_of (λ x. (eqb x.level k) && ltb 0 (f x)) xs ≡ ids_of (λ x. (eqb x.level k) && ltb 0 (g x)) xs
ready-at-level k f g xs same = grind (arith, nat_tests, ids-same, ready-same)

ready-none : (k : ℕ) (xs : List Thread) → ids_of (λ x. (eqb x.level k) && ltb 0 0) xs ≡ []
ready-none k xs = grind (arith, nat_tests, ids-none)

pub clock_moves_ready : AtEachEntry ClockMovesReady
clock_moves_ready c e past checked accepted audited =
    let is = over-is c e past checked accepted audited in
    let n = length past in
    record {
      keeps =
          λ k known within. (let long = within-mod c k n (checked.positive k known) within in
          ready-at-level k (thread_rem c (suc n) (e ∷ past)) (thread_rem c n (e ∷ past)) (threads c (e ∷ past))
          (λ x h level. ap (rem c.costs.switch) (job-moves c n (e ∷ past) x (subst (λ i. suc n % period c i ≡ suc (n % period c i)) (sym level) long))));
      done =
          λ k known here. (let begin = begins-mod c k (suc n) here in
          ready-at-level k (thread_rem c n (e ∷ past)) (λ x. 0) (threads c (e ∷ past))
          (λ x h level. is.rems x h (subst (λ i. suc n % period c i ≡ 0) (sym level) begin))
          ∙ ready-none k (threads c (e ∷ past)));
    }
