-- The quotas of a process's children never leave its main less than the least share.
use Rattle.dk_trace.proofs.Names.{ℕ, suc, ◌≡◌, ◌+◌, ◌<◌, ◌≤◌, ◌⊎◌, inl, inr, Bool, true, false, cond, ◌&&◌, List, [], ◌∷◌, length, refl, arith, sum_by, not, Option, Some, None, option_or, then_some, nat_tests, sum_by-append, Configuration, budget, window_end, ThreadId, Event, Entry, stops, Thread, family, after_entry, made_by, new_rows, is_ended_by, is_main, is_void, standing_children, Audited, IsChecked, Has}
use Rattle.dk_trace.proofs.Mains.{main_id}
use Rattle.dk_trace.proofs.Families.{child_row, lent_of, lent, lent_at-children}
use Rattle.dk_trace.proofs.Members.{sum_by-filter, sum_by-map, sum_by-le}
use Rattle.dk_trace.proofs.Events.{quotas, least, is_standing, standing, new-row}

abbrev pub quota_standing : Configuration → ℕ → Thread → ℕ
quota_standing c n y = cond (is_standing c n y) y.quota 0

pub standing-sum : (c : Configuration) (n : ℕ) (ys : List Thread) → quotas (standing c n ys) ≡ sum_by (quota_standing c n) ys
standing-sum c n ys = sum_by-filter (λ y. y.quota) (is_standing c n) ys

standing-next_at : (c : Configuration) (n : ℕ) (id : ThreadId) (level quota start : ℕ) (stop : Option ℕ) (b : Bool)
    → quota_standing c (suc n) (child_row id level quota start (option_or stop (then_some b n)))
    ≤ quota_standing c n (child_row id level quota start stop)
standing-next_at c n id level quota start stop b = grind (arith, nat_tests)

pub standing-next : (c : Configuration) (n : ℕ) (e : Entry) (x : Thread) → quota_standing c (suc n) (after_entry e n x) ≤ quota_standing c n x
standing-next c n e x = standing-next_at c n x.id x.level x.quota x.start x.stop (stops x.id e)

made-quota : (c : Configuration) (p n : ℕ) (mine : Bool) (event : Option Event)
    → (quotas (cond mine (made_by c p n event) []) ≡ 0)
    ⊎ ((y : Thread) × Has (cond mine (made_by c p n event) []) y × (quotas (cond mine (made_by c p n event) []) ≡ y.quota))
made-quota c p n false event = inl refl
made-quota c p n true (Some (Event.Create serial level quota)) =
    inr (record { id = record { process = p; serial = serial }; level = level; quota = quota; start = window_end c level n; stop = None }, inl refl, omega arith)
made-quota c p n true None = inl refl
made-quota c p n true (Some event) = inl refl

cond-at_most : (b : Bool) (q : ℕ) → cond b q 0 ≤ q
cond-at_most b q = grind (arith, nat_tests)

-- what stands after an entry is at most what stood and what the entry made
pub standing-entry : (c : Configuration) (p : ℕ) (e : Entry) (past : List Entry)
    → quotas (standing_children c (suc (length past)) (e ∷ past) p) ≤ quotas (standing_children c (length past) past p) + quotas (new_rows c p e past)
standing-entry c p e past = grind (arith, nat_tests, standing-sum, sum_by-append, sum_by-map, sum_by-le, standing-next, cond-at_most, is_standing)

pub loans-fit : (c : Configuration) (p : ℕ) (past : List Entry) → IsChecked c → p < length c.processes → Audited c past
    → quotas (standing_children c (length past) past p) + least c ≤ budget c p
loans-fit c p [] checked here audited = grind (arith, nat_tests, standing-entry, made-quota, main_id, new-row)
loans-fit c p (e ∷ past) checked here audited = grind (arith, nat_tests, standing-entry, made-quota, main_id, new-row, loans-fit c p past)

lent-standing_at : (c : Configuration) (n s : ℕ) (id : ThreadId) (level quota start : ℕ) (stop : Option ℕ) → n ≤ s
    → lent_of c s (child_row id level quota start stop) ≤ quota_standing c n (child_row id level quota start stop)
lent-standing_at c n s id level quota start stop le = grind (arith, nat_tests)

pub lent-standing : (c : Configuration) (n s : ℕ) (x : Thread) → n ≤ s → lent_of c s x ≤ quota_standing c n x
lent-standing c n s x le = lent-standing_at c n s x.id x.level x.quota x.start x.stop le

-- at any tick to come the main keeps its least share
pub lent-fits : (c : Configuration) (p : ℕ) (past : List Entry) (s : ℕ) → IsChecked c → p < length c.processes → Audited c past
    → length past ≤ s → lent c p past s + least c ≤ budget c p
lent-fits c p past s checked here audited le =
    let n = length past in
    let all = sum_by-le (lent_of c s) (quota_standing c n) (family c p past) (λ x h. lent-standing c n s x le) in
    let whole = standing-sum c n (family c p past) in
    let rows = lent_at-children c p s past in
    let fits = loans-fit c p past checked here audited in
    omega (arith, all, whole, rows, fits)

-- of a family's children as many have rows as there are loans
abbrev pub is-lent : Configuration → ℕ → Thread → Bool
is-lent c now y = not (is_main y) && not (is_void y) && not (is_ended_by c now y)
