-- A thread that has a row in two tables keeps its node from one to the other.
use Rattle.dk_recount.proofs.Names.{◌≡◌, ◌∙◌, true, ℕ, Option, Some, None, option_map, refl, ap, sym, subst, ThreadId, is_same, same-id, find-has, find-some, ThreadRow, is_row_of, Table, rows_of, find_row, AreFamilies, Descend, one-row, HasRow, Tables, node_in, Keeps, slots, nat_tests, arith}
use Rattle.dk_recount.proofs.Rows.{slot-is}

pub node-kept : (table table' : Table) (x : ThreadId) → AreFamilies table.levels table.families → Descend table table' x.process
    → HasRow table x → HasRow table' x → node_in table' x ≡ node_in table x
node-kept table table' x are descend one two = grind (arith, nat_tests, one-row, slot-is)

-- Where each row comes from one before, of the same name and slot, the threads keep their slots.
pub keeps-slots : (d d' : Tables) → AreFamilies d.threads.levels d.threads.families → ((p : ℕ) → Descend d.threads d'.threads p) → Keeps (slots d) (slots d')
keeps-slots d d' are descend x s at = go (find_row d'.threads x) refl at
  where
    go : (o : Option ThreadRow) → find_row d'.threads x ≡ o → option_map (λ (row : ThreadRow). row.slot) (find_row d'.threads x) ≡ Some s → slots d x ≡ Some s
    go None at none = let n : None ≡ Some s = rw at at none in absurd (cc)
    go (Some r') at some =
        let slot : Some r'.slot ≡ Some s = rw at at some in
        let new = find-has (is_row_of x) (rows_of d'.threads x.process) r' at in
        let r = descend x.process r' new.0 in
        let name : is_row_of x r.0 ≡ true = subst (λ i. is_same x i ≡ true) (sym r.2) new.1 in
        let f = find-some (is_row_of x) (rows_of d.threads x.process) r.0 r.1 name in
        let serial : f.0.id.serial ≡ r.0.id.serial = ap (λ (i : ThreadId). i.serial) (sym (same-id x f.0.id f.2) ∙ same-id x r.0.id name) in
        let same = one-row d.threads x.process f.0 r.0 are f.1 r.1 serial in
        ap (option_map (λ (row : ThreadRow). row.slot)) f.3 ∙ ap (λ (row : ThreadRow). Some row.slot) same ∙ ap Some r.3 ∙ slot
