-- Whose rows the tables have, how many, and in which slots.
use Rattle.dk_dispatch.proofs.Names.{ℕ, ◌≡◌, ◌∙◌, ◌<◌, ◌≤◌, List, [], ◌∷◌, Option, Some, None, option_map, subst, sym, ap, length, refl, arith, slice_get, option_map_or, length-map, slice_get_within, MAX_THREADS, Configuration, ThreadId, Entry, ThreadRow, Family, AreFamilies, find_row, rows_of, counted_rows, unplaced, found-fits, Tables, IsReady, slots}

-- between two ticks each row is of a process that is there, in a slot up to 8
pub seats-fit : (c : Configuration) (past : List Entry) (d : Tables) → AreFamilies d.threads.levels d.threads.families → IsReady c past d
    → (x : ThreadId) (s : ℕ) → slots d x ≡ Some s → (x.process < length c.processes) × (s ≤ 8)
seats-fit c past d are ready x s here = go (find_row d.threads x) refl here
  where
    within : (o : Option Family) → slice_get d.threads.families x.process ≡ o → (row : ThreadRow) → find_row d.threads x ≡ Some row → x.process < length c.processes
    within None none row found = let gone : None ≡ Some row = rw none at found in absurd (cc)
    within (Some family) some row found =
        let low = slice_get_within d.threads.families x.process family some in
        let many = ready.recount.rows.processes in
        omega (arith, low, many)

    go : (o : Option ThreadRow) → find_row d.threads x ≡ o → option_map (λ (row : ThreadRow). row.slot) o ≡ Some s → (x.process < length c.processes) × (s ≤ 8)
    go None found at = absurd (cc)
    go (Some row) found at =
        let slot : row.slot ≡ s = cc in
        let fits = found-fits d.threads x (Some row) are (sym found) in
        (within (slice_get d.threads.families x.process) refl row found, subst (λ k. k ≤ 8) slot fits)

few-in : (levels : ℕ) (families : List Family) (p : ℕ) (o : Option Family) → AreFamilies levels families → slice_get families p ≡ o
    → length (option_map_or (λ (z : Family). z.main ∷ z.children) o []) ≤ MAX_THREADS
few-in levels families p None are is = omega arith
few-in levels families p (Some z) are is = let kept = are p z is in let room = kept.room in let few = kept.few in omega arith

-- a process has at most nine of them
pub rows-few : (c : Configuration) (past : List Entry) (d : Tables) → AreFamilies d.threads.levels d.threads.families → IsReady c past d
    → (p : ℕ) → p < length c.processes → length (counted_rows c (length past) past p) ≤ MAX_THREADS
rows-few c past d are ready p known =
    let few : length (rows_of d.threads p) ≤ MAX_THREADS = few-in d.threads.levels d.threads.families p (slice_get d.threads.families p) are refl in
    let as_many : length (counted_rows c (length past) past p) ≡ length (rows_of d.threads p) =
    sym (ap (λ xs. length xs) (ready.recount.rows.rows p known)) ∙ length-map (rows_of d.threads p) unplaced in
    omega (arith, few, as_many)
