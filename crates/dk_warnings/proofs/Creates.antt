-- Where no child fits a budget, each create is refused.
use Rattle.dk_warnings.proofs.Names.{ℕ, ◌≡◌, ◌+◌, ◌-◌, ◌*◌, ◌/◌, ◌<◌, ◌≤◌, true, false, eqb, List, ◌∷◌, length, refl, sym, ap, subst, arith, Option, Some, None, MatchOption, and_parts, nat_tests, mul-le-mul, le_of_dvd, Configuration, IsChecked, budget, main_level, max_level, period, slots, ThreadId, Event, Entry, is_same, quiet, thread_of, Thread, family, create_refusal, least_share, Follows, done_refusal, row_of, none-holds, find-has, same-id, greatest_child_share, has_no_child, CreatesRefused, MakesNoChild, OfEachEntry}
use Rattle.dk_warnings.proofs.GreatestShares.{div-rises}

-- no child that the budget has room for has a greater share
share-room : (c : Configuration) (p level quota : ℕ) → IsChecked c → p < length c.processes → level ≤ max_level c p → quota + least_share c ≤ budget c p
    → 0 < slots c p → (quota * period c level) / period c (main_level c p) ≤ greatest_child_share c p
share-room c p level quota checked known high room some =
    let reach = checked.reaches p known in
    let positive = checked.positive (max_level c p) reach in
    let own = checked.positive (main_level c p) (checked.levels p known) in
    let longer : period c level ≤ period c (max_level c p) = le_of_dvd positive (checked.divides level (max_level c p) high reach) in
    let less : quota ≤ budget c p - least_share c = omega arith in
    let more : quota * period c level ≤ (budget c p - least_share c) * period c (max_level c p) = mul-le-mul less longer in
    let shares : (quota * period c level) / period c (main_level c p) ≤ ((budget c p - least_share c) * period c (max_level c p)) / period c (main_level c p) = grind (arith, nat_tests, div-rises) in
    let any : eqb (slots c p) 0 ≡ false = grind (arith, nat_tests) in
    rw any shares

pub creates-refused : (c : Configuration) (p : ℕ) → IsChecked c → p < length c.processes → has_no_child c p ≡ true → CreatesRefused c p
creates-refused c p checked known none now past x level quota entry instructions same free = grind (arith, nat_tests, none-holds, and_parts, share-room)

-- whoever did a call has a row, and it wasn't refused
pub met-call : (c : Configuration) (past : List Entry) (e : Entry) (x : ThreadId) (event : Event) → Follows c past e → thread_of e.label ≡ Some x → e.event ≡ Some event
    → MatchOption (row_of c past x) ⊥ (λ row. done_refusal c (length past) (quiet e.label ∷ past) row event ≡ None)
met-call c past e x event follows thread is = grind (arith, nat_tests)

-- its row has its name
pub row-id : (c : Configuration) (past : List Entry) (x : ThreadId) (row : Thread) → row_of c past x ≡ Some row → x ≡ row.id
row-id c past x row found = same-id x row.id (find-has (λ z. is_same x z.id) (family c x.process past) row found).1

no-create : (c : Configuration) (past : List Entry) (e : Entry) (x : ThreadId) (level quota : ℕ) (found : Option Thread) → row_of c past x ≡ found
    → CreatesRefused c x.process
    → MatchOption found ⊥ (λ row. create_refusal c (length past) (quiet e.label ∷ past) row level quota 0 1 ≡ None) → ⊥
no-create c past e x level quota None found refused met = met
no-create c past e x level quota (Some row) found refused met =
    refused (length past) (quiet e.label ∷ past) row level quota 0 1 (sym (ap (λ (i : ThreadId). i.process) (row-id c past x row found))) met

pub makes-none : (c : Configuration) (p : ℕ) → CreatesRefused c p → OfEachEntry c (MakesNoChild p)
makes-none c p refused past e (older, follows) x serial level quota thread same is =
    no-create c past e x level quota (row_of c past x) refl (subst (CreatesRefused c) (sym same) refused)
    (met-call c past e x (Event.Create serial level quota) follows thread is)
