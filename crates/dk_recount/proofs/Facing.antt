-- What the kernel above needs of the calls.
use Rattle.dk_recount.proofs.Names.{◌≡◌, ◌⊎◌, ◌<◌, true, ℕ, List, length, Option, Some, option_map, ap, sym, subst, IfSome, Configuration, ThreadId, Label, Work, Entry, thread_of, Has, Thread, threads, thread_rem, want, chosen, HasChosenLabel, work_of, ThreadRow, Table, AreFamilies, find_row, has_row, same-owner, HasRow, row-there, threads-charged, Tables, IsReady, IsRuled, IsCalling, CallerIsThere, HasOwn, slots, CallerLaws, nat_tests, arith}
use Rattle.dk_recount.proofs.Stop.Present.{there-row, worker-has-row}

-- A thread that has something left, or asks for slack, has a row.
there-by : (laws : CallerLaws) (c : Configuration) (past : List Entry) → IsRuled c past → (y : Thread) → Has (threads c past) y
    → (0 < thread_rem c (length past) past y) ⊎ (0 < want c (length past) past y) → has_row c (length past) y ≡ true
there-by laws c past ruled y among active = grind (arith, nat_tests, worker-has-row, there-row)

pub caller-is-there : (laws : CallerLaws) (c : Configuration) (label : Label) (past : List Entry) (d : Tables) (x : ThreadId) → IsCalling x c label past d → CallerIsThere c label past x
caller-is-there laws c label past d x calling =
    let ruled = calling.charged.ruled in
    let caller = laws.callers c past ruled.checked ruled.accepted ruled.audited label x calling.charged.chose calling.caller calling.call in
    record {
      row = caller.row;
      found = caller.found;
      among = subst (λ xs. Has xs caller.row) (sym (threads-charged c label past)) caller.among;
      id = caller.id;
      there = there-by laws c past ruled caller.row caller.among caller.active;
    }

pub caller-has-slot : (laws : CallerLaws) (c : Configuration) (label : Label) (past : List Entry) (d : Tables) (x : ThreadId) → IsReady c past d
    → HasChosenLabel (chosen c past) label → thread_of label ≡ Some x → work_of label ≡ Work.Call → (s : ℕ) × (slots d x ≡ Some s)
caller-has-slot laws c label past d x ready chose who call =
    let ruled = ready.ruled in
    let caller = laws.callers c past ruled.checked ruled.accepted ruled.audited label x chose who call in
    let there = there-by laws c past ruled caller.row caller.among caller.active in
    let place = laws.places c past ruled.checked ruled.accepted ruled.audited caller.row caller.among in
    let own : HasRow d.threads x = grind (arith, nat_tests, HasRow, row-there) in
    (own.row.slot, ap (option_map (λ (row : ThreadRow). row.slot)) own.found)

abbrev slot_at : Table → ThreadId → Option ℕ
slot_at table x = option_map (λ row. row.slot) (find_row table x)

own-of : (table : Table) (x y : ThreadId) (row : ThreadRow) (o : Option ThreadRow) → AreFamilies table.levels table.families → find_row table x ≡ Some row → find_row table y ≡ o
    → option_map (λ (row : ThreadRow). row.slot) o ≡ Some row.slot → y.process ≡ x.process → y.serial ≡ x.serial
own-of table x y row o are found too at process = grind (arith, nat_tests, same-owner)

pub found-own : (table : Table) (x : ThreadId) (o : Option ThreadRow) → AreFamilies table.levels table.families → o ≡ find_row table x → IfSome o (λ row. HasOwn (slot_at table) x row.slot)
found-own table x o are is = grind (arith, nat_tests, own-of)
