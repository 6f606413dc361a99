-- What one more entry makes of what is kept of all threads.
use Rattle.std.proofs.Common.{ℕ, suc, ◌≡◌, ◌+◌, ◌-◌, ◌/◌, ◌%◌, ◌<◌, ◌≤◌, ◌∙◌, refl, sym, ap, subst, arith, Bool, true, false, List, [], ◌∷◌, ◌++◌, length, map, take, reverse, append_assoc, zero-add}
use Rattle.std.specs.Prelude.{◌==◌, ◌||◌, if◌then◌else◌, replicate, Option, Some, None}
use Rattle.std.specs.Option.{option_map_or}
use Rattle.std.proofs.lemmas.List.{map-append, reverse-append}
use Rattle.std.proofs.Math.Nat.{zero-div, zero-mod}
use Rattle.dk_trace.specs.declared.ThreadId.{ThreadId}
use Rattle.dk_trace.specs.declared.Event.{Event}
use Rattle.dk_trace.specs.declared.Entry.{Entry}
use Rattle.dk_trace.specs.Entries.{has_event, thread_of}
use Rattle.dk_ledger.specs.Heading.{Heading}
use Rattle.dk_ledger.proofs.EntryLists.{next_turn}
use Rattle.dk_window_report.specs.Windows.{did_in, counts_of, once, stopped_once, window_at}
use Rattle.dk_window_report.specs.Owners.{Owner, owners, mains, main_owner, made_of, made_in, child_owner}
use Rattle.dk_window_report.specs.Rows.{stepped, row_of, rows_of, new_row, Kept, IsKeptOf, kept_with, is_trouble}
use Rattle.dk_window_report.specs.Accounts.{accounts_of, accounts_with}
use Rattle.dk_window_report.proofs.Befallen.{accounts-next}
use Rattle.dk_window_report.proofs.Steps.{row_with, row-next, row-equal, is_gone, numbers-more}
use Rattle.dk_config.specs.Sums.{below}

-- what is kept of a thread without entries of its own
with-none : (o : Owner) → row_with o [] ≡ new_row o
with-none o =
    let none : 0 / o.period ≡ 0 = zero-div o.period in
    let start : 0 % o.period ≡ 0 = zero-mod o.period in
    row-equal (row_with o []) (new_row o) refl refl refl
    (ap (λ k. once (is_gone (map (did_in o.id) (map (window_at o.period []) (below k)))) (did_in o.id (take (0 % o.period) []))) none
    ∙ ap (λ k. did_in o.id (take k [])) start)
    (ap (λ k. counts_of (stopped_once (map (did_in o.id) (map (window_at o.period []) (below k))))) none)
    (ap (λ k. is_gone (map (did_in o.id) (map (window_at o.period []) (below k)))) none)

pub row-fresh : (o : Owner) (past : List Entry) → length past ≤ o.since → row_of past o ≡ new_row o
row-fresh o past early =
    let none : length past - o.since ≡ 0 = omega (arith, early) in
    ap (λ k. row_with o (take k past)) none ∙ with-none o

rows-next : (os : List Owner) (e : Entry) (past : List Entry) → length past < 4294967295 → map (stepped (length past) e) (map (row_of past) os) ≡ map (row_of (e ∷ past)) os
rows-next [] e past few = refl
rows-next (o ∷ os) e past few =
    ap (λ r. r ∷ map (stepped (length past) e) (map (row_of past) os)) (sym (row-next o e past few))
    ∙ ap (λ rs. row_of (e ∷ past) o ∷ rs) (rows-next os e past few)

-- the row of a new child
new-if : (b : Bool) (h : Heading) (now p serial level : ℕ) (past : List Entry) → length past ≡ suc now
    → map new_row (if b then child_owner h now p serial level ∷ [] else [])
    ≡ map (row_of past) (if b then child_owner h now p serial level ∷ [] else [])
new-if false h now p serial level past len = refl
new-if true h now p serial level past len =
    let o = child_owner h now p serial level in
    let fresh-one = row-fresh o past (omega (arith, len)) in
    ap (λ r. r ∷ []) (sym fresh-one)

new-of : (h : Heading) (now : ℕ) (x : ThreadId) (event : Option Event) (past : List Entry) → length past ≡ suc now
    → map new_row (made_of h now x event) ≡ map (row_of past) (made_of h now x event)
new-of h now x None past len = refl
new-of h now x (Some (Event.Create serial level quota)) past len = new-if (x.serial == 0) h now x.process serial level past len
new-of h now x (Some other) past len = refl

new-in : (h : Heading) (now : ℕ) (o : Option ThreadId) (event : Option Event) (past : List Entry) → length past ≡ suc now
    → map new_row (option_map_or (λ x. made_of h now x event) o [])
    ≡ map (row_of past) (option_map_or (λ x. made_of h now x event) o [])
new-in h now None event past len = refl
new-in h now (Some x) event past len = new-of h now x event past len

-- what is kept after one entry more
pub kept-next : (h : Heading) (past : List Entry) (e : Entry) (k : Kept) → length past < 4294967295 → IsKeptOf h past k → IsKeptOf h (e ∷ past) (kept_with h e k)
kept-next h past e k few is =
    let os = owners h past in
    let made = made_in h (length past) e in
    record {
      rows = ap (λ rs. map (stepped k.ticks e) rs ++ map new_row (made_in h k.ticks e)) is.rows
          ∙ ap (λ n. map (stepped n e) (rows_of h past) ++ map new_row (made_in h n e)) is.ticks
          ∙ ap (λ rs. rs ++ map new_row made) (rows-next os e past few)
          ∙ ap (λ rs. map (row_of (e ∷ past)) os ++ rs) (new-in h (length past) (thread_of e.label) e.event (e ∷ past) refl)
          ∙ sym (map-append (row_of (e ∷ past)) os made);
      accounts = ap (accounts_with k.ticks e) is.accounts ∙ ap (λ n. accounts_with n e (accounts_of h past)) is.ticks ∙ accounts-next h e past few;
      ticks = let before = is.ticks in omega (arith, before);
      troubled = ap (λ b. has_event is_trouble e || b) is.troubled;
    }

-- what is kept after one entry more, in the order of a ledger
pub kept-later : (h : Heading) (es : List Entry) (e : Entry) (old new : Kept) → old.ticks < 4294967295 → new ≡ kept_with h e old
    → IsKeptOf h (reverse es) old → IsKeptOf h (reverse (es ++ e ∷ [])) new
kept-later h es e old new few is before =
    let ticks = before.ticks in
    subst (λ past. IsKeptOf h past new) (sym (reverse-append es (e ∷ [])))
    (subst (IsKeptOf h (e ∷ reverse es)) (sym is) (kept-next h (reverse es) e old (omega (arith, few, ticks)) before))

-- before the first entry
rows-start : (os : List Owner) → map new_row os ≡ map (row_of []) os
rows-start [] = refl
rows-start (o ∷ os) =
    let one = row-fresh o [] (omega arith) in
    ap (λ r. r ∷ map new_row os) (sym one) ∙ ap (λ rs. row_of [] o ∷ rs) (rows-start os)

pub mains-start : (h : Heading) (n : ℕ) → map new_row (mains h n) ≡ map (row_of []) (mains h n)
mains-start h n = rows-start (mains h n)

-- one main more
pub mains-more : (h : Heading) (n : ℕ) → mains h (suc n) ≡ mains h n ++ main_owner h n ∷ []
mains-more h n =
    ap (map (main_owner h)) (numbers-more 0 n) ∙ map-append (main_owner h) (below n) ((0 + n) ∷ [])
    ∙ ap (λ k. mains h n ++ main_owner h k ∷ []) (zero-add n)

pub turn-more : (h : Heading) (es : List Entry) (e : Entry) (turn : ℕ) (new : Kept) → 1 ≤ turn
    → IsKeptOf h (reverse ((es ++ replicate (turn - 1) e) ++ e ∷ [])) new → IsKeptOf h (reverse (es ++ replicate (turn + 1 - 1) e)) new
turn-more h es e turn new first is =
    subst (λ xs. IsKeptOf h (reverse xs) new) (append_assoc es (replicate (turn - 1) e) (e ∷ []) ∙ ap (λ xs. es ++ xs) (next_turn e turn first)) is
