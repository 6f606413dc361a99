-- What the stop of a thread leaves: slots and steps.
use Rattle.dk_dispatch.proofs.Names.{◌≡◌, ◌≤◌, ◌+◌, ◌*◌, ◌∙◌, Bool, true, false, eqb, ℕ, Option, Some, None, refl, ap, sym, subst, arith, if◌then◌else◌, Result, Ok, Err, option_map_or, mul-le-mul_left, ThreadId, Refusal, same-id, find-has, ThreadRow, Table, AreFamilies, find_row, rows_of, is_row_of, process-descends, stop-descends, Tables, Keeps, slots, child_of, delete_refusal_in, running_child, without_child, without_running, without_process, without_thread, keeps-slots, Makes}

-- the name of a row that is found
pub row-name : (table : Table) (x : ThreadId) (row : ThreadRow) → find_row table x ≡ Some row → x ≡ row.id
row-name table x row found = same-id x row.id (find-has (is_row_of x) (rows_of table x.process) row found).1

pub main-stopped : (x : ThreadId) (row : ThreadRow) (d : Tables) → find_row d.threads x ≡ Some row → eqb x.serial 0 ≡ true → without_thread x d ≡ without_process row d
main-stopped x row d found main =
    ap (λ o. option_map_or (λ r. if eqb x.serial 0 then without_process r d else without_child r d) o d) found
    ∙ ap (λ b. if b then without_process row d else without_child row d) main

pub child-stopped : (x : ThreadId) (row : ThreadRow) (d : Tables) → find_row d.threads x ≡ Some row → eqb x.serial 0 ≡ false → without_thread x d ≡ without_child row d
child-stopped x row d found child =
    ap (λ o. option_map_or (λ r. if eqb x.serial 0 then without_process r d else without_child r d) o d) found
    ∙ ap (λ b. if b then without_process row d else without_child row d) child

-- threads keep their slots, or have none any more
pub child-keeps : (row : ThreadRow) (d : Tables) → AreFamilies d.threads.levels d.threads.families → Keeps (slots d) (slots (without_child row d))
child-keeps row d are = keeps-slots d (without_child row d) are (λ p. stop-descends row.id d.demand.windows p d.threads)

pub stop-keeps : (x : ThreadId) (d : Tables) → AreFamilies d.threads.levels d.threads.families → Keeps (slots d) (slots (without_thread x d))
stop-keeps x d are = go (find_row d.threads x) refl (eqb x.serial 0) refl
  where
    go : (o : Option ThreadRow) → find_row d.threads x ≡ o → (b : Bool) → eqb x.serial 0 ≡ b → Keeps (slots d) (slots (without_thread x d))
    go None none b at =
        let same : without_thread x d ≡ d = ap (λ o. option_map_or (λ r. if eqb x.serial 0 then without_process r d else without_child r d) o d) none in
        subst (λ t. Keeps (slots d) (slots t)) (sym same) (λ y s at-s. at-s)
    go (Some row) found true main =
        subst (λ t. Keeps (slots d) (slots t)) (sym (main-stopped x row d found main))
        (keeps-slots d (without_process row d) are (λ p. process-descends d.demand.windows row.id.process p d.threads))
    go (Some row) found false child = subst (λ t. Keeps (slots d) (slots t)) (sym (child-stopped x row d found child)) (child-keeps row d are)

pub delete-keeps : {U : Type 0} (x : ThreadId) (serial : ℕ) (d new : Tables) → AreFamilies d.threads.levels d.threads.families → (r : Result U Refusal)
    → Makes r (delete_refusal_in d.threads x serial) d (without_running (child_of x serial) d) new
    → Keeps (slots d) (slots new)
delete-keeps x serial d new are (Err refusal) told = subst (λ t. Keeps (slots d) (slots t)) (sym told.1) (λ y s at. at)
delete-keeps x serial d new are (Ok done) told = subst (λ t. Keeps (slots d) (slots t)) (sym told.1) (go (running_child d.threads (child_of x serial)) refl)
  where
    go : (o : Option ThreadRow) → running_child d.threads (child_of x serial) ≡ o → Keeps (slots d) (slots (without_running (child_of x serial) d))
    go None none = subst (λ t. Keeps (slots d) (slots t)) (sym (ap (λ o. option_map_or (λ row. without_child row d) o d) none)) (λ y s at. at)
    go (Some row) some = subst (λ t. Keeps (slots d) (slots t)) (sym (ap (λ o. option_map_or (λ row. without_child row d) o d) some)) (child-keeps row d are)

-- the steps of a family, and of one child
pub family-steps : (k a s : ℕ) → 1 + a ≤ s → (5 + k) * (1 + a) + k ≤ (k + 6) * (s + 1)
family-steps k a s many =
    let low : (5 + k) * (1 + a) ≤ (5 + k) * s = mul-le-mul_left (5 + k) many in
    let split : (k + 6) * (s + 1) ≡ (5 + k) * s + (s + (k + 6)) = grind arith in
    omega (arith, low, split)

pub child-steps : (k s : ℕ) → 5 + k ≤ (k + 6) * (s + 1)
child-steps k s =
    let split : (k + 6) * (s + 1) ≡ (k + 6) * s + (k + 6) = grind arith in
    omega (arith, split)
