-- A line without an event changes no hold, and of one with an event its last entry alone does.
use Rattle.std.proofs.Common.{ℕ, zero, suc, ◌≡◌, ◌∙◌, ◌+◌, ◌-◌, ◌<◌, ◌≤◌, ◌++◌, [], ◌∷◌, List, length, sym, ap, refl, subst, arith, append_assoc, append-nil, length-append}
use Rattle.std.specs.Prelude.{Bool, true, false, ◌&&◌, ◌==◌, Option, Some, None, get_or, option_map, replicate, reverse, set, slice_get, if◌then◌else◌}
use Rattle.std.specs.Option.{option_or}
use Rattle.std.proofs.lemmas.Bool.{eqb-false, eqb-true}
use Rattle.std.proofs.lemmas.List.{reverse-append, length-reverse, length-replicate}
use Rattle.std.proofs.lemmas.Option.{slice_get-get_or, slice_get_within}
use Rattle.dk_config.specs.declared.TheConstants.{MAX_MUTEXES}
use Rattle.dk_trace.specs.declared.ThreadId.{ThreadId}
use Rattle.dk_trace.specs.declared.Label.{Label}
use Rattle.dk_trace.specs.declared.Entry.{Entry}
use Rattle.dk_trace.specs.Entries.{quiet}
use Rattle.dk_ledger.specs.declared.line.LedgerLine.{LedgerLine}
use Rattle.dk_ledger.specs.Cuts.{entries_of}
use Rattle.dk_holds.specs.declared.holding.Holding.{Holding}
use Rattle.dk_holds.specs.Holds.{AreHolders, behind, ends, holding, last_entry}

pub and_false : (b : Bool) → (b && false) ≡ false
and_false true = refl
and_false false = refl

pub none_ends : (m : ℕ) (x : ThreadId) (label : Label) → ends m x (quiet label) ≡ false
none_ends m x label = simp and_false refl

pub behind_quiet : (m n : ℕ) (label : Label) (held : Option Holding) → behind m n (quiet label) held ≡ held
behind_quiet m n label None = refl
behind_quiet m n label (Some h) = ap (λ b. option_or None (if b then None else Some h)) (none_ends m h.thread label)

pub newest : (es : List Entry) (e : Entry) → reverse (es ++ e ∷ []) ≡ e ∷ reverse es
newest es e = reverse-append es (e ∷ [])

pub quiet_run : (m : ℕ) (label : Label) (n : ℕ) (es : List Entry) → holding m (reverse (es ++ replicate n (quiet label))) ≡ holding m (reverse es)
quiet_run m label zero es = ap (λ t. holding m (reverse t)) (append-nil es)
quiet_run m label (suc n) es =
    ap (λ t. holding m (reverse t)) (sym (append_assoc es (quiet label ∷ []) (replicate n (quiet label))))
    ∙ quiet_run m label n (es ++ quiet label ∷ []) ∙ ap (holding m) (newest es (quiet label))
    ∙ behind_quiet m (length (reverse es)) label (holding m (reverse es))

-- the hold behind a line
pub holding_line : (m : ℕ) (l : LedgerLine) (es : List Entry) → 0 < l.count → l.start ≡ length es
    → holding m (reverse (es ++ entries_of l)) ≡ behind m (l.start + (l.count - 1)) (last_entry l) (holding m (reverse es))
holding_line m l es some start =
    let quiets = replicate (l.count - 1) (quiet l.label) in
    let front = es ++ quiets in
    let all = length-append es quiets in
    let count = length-replicate (l.count - 1) (quiet l.label) in
    let back = length-reverse front in
    let ticks : length (reverse front) ≡ l.start + (l.count - 1) = omega (arith, all, count, back, start) in
    ap (λ t. holding m (reverse t)) (sym (append_assoc es quiets (last_entry l ∷ []))) ∙ ap (holding m) (newest front (last_entry l))
    ∙ ap (λ n. behind m n (last_entry l) (holding m (reverse front))) ticks
    ∙ ap (behind m (l.start + (l.count - 1)) (last_entry l)) (quiet_run m l.label (l.count - 1) es)

-- a line without an event
pub stays : (rows : List (Option Holding)) (l : LedgerLine) (es : List Entry) → 0 < l.count → l.start ≡ length es → l.event ≡ None
    → AreHolders (reverse es) rows → AreHolders (reverse (es ++ entries_of l)) rows
stays rows l es some start none holders = λ m less.
    let held = holding m (reverse es) in
    let n = l.start + (l.count - 1) in
    let same : behind m n (last_entry l) held ≡ held =
    ap (λ event. behind m n (record { label = l.label; event = event }) held) none ∙ behind_quiet m n l.label held in
    holders m less ∙ ap (λ o. Some o) (sym (holding_line m l es some start ∙ same))

-- a line whose event was told to each row
pub goes : (rows new : List (Option Holding)) (l : LedgerLine) (es : List Entry) → 0 < l.count → l.start ≡ length es → AreHolders (reverse es) rows
    → ((m : ℕ) → m < MAX_MUTEXES → slice_get new m ≡ option_map (behind m (l.start + (l.count - 1)) (last_entry l)) (slice_get rows m))
    → AreHolders (reverse (es ++ entries_of l)) new
goes rows new l es some start holders step = λ m less.
    step m less ∙ ap (option_map (behind m (l.start + (l.count - 1)) (last_entry l))) (holders m less) ∙ ap (λ o. Some o) (sym (holding_line m l es some start))

get_set_same : {A : Type 0} (xs : List A) (i : ℕ) (v : A) → i < length xs → slice_get (set xs i v) i ≡ Some v
get_set_same [] i v less = absurd (omega arith)
get_set_same (x ∷ xs) zero v less = refl
get_set_same (x ∷ xs) (suc i) v less = get_set_same xs i v (omega arith)

get_set_other : {A : Type 0} (xs : List A) (i k : ℕ) (v : A) → (k ≡ i → ⊥) → slice_get (set xs i v) k ≡ slice_get xs k
get_set_other [] i k v other = refl
get_set_other (x ∷ xs) zero zero v other = absurd (other refl)
get_set_other (x ∷ xs) zero (suc k) v other = refl
get_set_other (x ∷ xs) (suc i) zero v other = refl
get_set_other (x ∷ xs) (suc i) (suc k) v other = get_set_other xs i k v (λ e. other (ap suc e))

-- one row more
module _ (old rows : List (Option Holding)) (at n : ℕ) (e : Entry) (v : Option Holding) (within : at < length old) (is : v ≡ behind at n e (get_or rows at None))
    (done : (k : ℕ) → k < at → slice_get rows k ≡ option_map (behind k n e) (slice_get old k)) (left : (k : ℕ) → at ≤ k → slice_get rows k ≡ slice_get old k) where
  own_row : slice_get (set rows at v) at ≡ option_map (behind at n e) (slice_get old at)
  own_row =
      let there = left at (omega arith) in
      let here = there ∙ slice_get-get_or old at None within in
      let room = slice_get_within rows at _ here in
      get_set_same rows at v room ∙ ap (λ o. Some o) is ∙ ap (option_map (behind at n e)) (sym (slice_get-get_or rows at None room) ∙ there)

  pub row_done : (k : ℕ) → k < at + 1 → slice_get (set rows at v) k ≡ option_map (behind k n e) (slice_get old k)
  row_done k less = go (k == at) refl
    where
      go : (b : Bool) → (k == at) ≡ b → slice_get (set rows at v) k ≡ option_map (behind k n e) (slice_get old k)
      go true same = subst (λ i. slice_get (set rows at v) i ≡ option_map (behind i n e) (slice_get old i)) (sym (eqb-true k at same)) own_row
      go false other =
          let apart = eqb-false k at other in
          get_set_other rows at k v apart ∙ done k (omega (arith, less, apart))

  pub row_left : (k : ℕ) → at + 1 ≤ k → slice_get (set rows at v) k ≡ slice_get old k
  row_left k more = get_set_other rows at k v (λ same. omega (arith, more, same)) ∙ left k (omega arith)
