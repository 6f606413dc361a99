-- A share of a window does not change once the window has begun, and is nothing or at least the least share.
use Rattle.dk_trace.proofs.Names.{ℕ, ◌≡◌, ◌-◌, ◌<◌, ◌≤◌, ◌⊎◌, inl, inr, Bool, false, cond, ◌&&◌, eqb, leb, List, ◌∷◌, length, refl, sym, ap, ◌∙◌, subst, arith, map, not, Option, option_or, then_some, cases_Bool, nat_tests, sum_by-append, Configuration, period, budget, ThreadId, Entry, stops, Thread, family, after_entry, is_main, is_void, is_stopped_before, child_share, share, new_rows, Audited, IsChecked, Has}
use Rattle.dk_trace.proofs.Mains.{main_id, main_row, main_stop, stopped_before-same}
use Rattle.dk_trace.proofs.Families.{children, child_row, lent_of, lent, lent_at-children}
use Rattle.dk_trace.proofs.Members.{sum_by-same, sum_by-map, sum_by-zero}
use Rattle.dk_trace.proofs.Events.{least, new-row}
use Rattle.dk_trace.proofs.Rows.{window_end-above, child-of, child-new, main-or-child}
use Rattle.dk_trace.proofs.Loans.{lent-fits}

-- a main's share
pub share-main : (c : Configuration) (p : ℕ) (past : List Entry) (s : ℕ)
    → share c past (main_row c p past) s ≡ cond (is_stopped_before s (main_row c p past)) 0 (budget c p - lent c p past s)
share-main c p past s = ap (λ k. cond (is_stopped_before s (main_row c p past)) 0 (budget c p - k)) (lent_at-children c p s past)

lent-same_at : (c : Configuration) (n w : ℕ) (id : ThreadId) (level quota start : ℕ) (stop : Option ℕ) (b : Bool) → 0 < period c level → w ≤ n
    → lent_of c w (child_row id level quota start (option_or stop (then_some b n))) ≡ lent_of c w (child_row id level quota start stop)
lent-same_at c n w id level quota start stop b positive le = grind (arith, nat_tests)

-- an entry does not change what is lent in a window that has begun
pub lent-same : (c : Configuration) (p w : ℕ) (e : Entry) (past : List Entry) → IsChecked c → p < length c.processes → Audited c (e ∷ past)
    → w ≤ length past → lent c p (e ∷ past) w ≡ lent c p past w
lent-same c p w e past checked here audited le =
    let n = length past in
    let old = map (after_entry e n) (children c p past) in
    let new = new_rows c p e past in
    let split = sum_by-append (lent_of c w) old new in
    let mapped = sum_by-map (lent_of c w) (after_entry e n) (children c p past) in
    let same = sum_by-same (λ x. lent_of c w (after_entry e n x)) (lent_of c w) (children c p past)
    (λ x h. lent-same_at c n w x.id x.level x.quota x.start x.stop (stops x.id e) (child-of c p past x checked here audited.0 h).row.positive le) in
    let none = sum_by-zero (lent_of c w) new (λ y h. new-lends-none y h) in
    omega (arith, split, mapped, same, none)
  where
    new-lends-none : (y : Thread) → Has (new_rows c p e past) y → lent_of c w y ≡ 0
    new-lends-none y h =
        let new = new-row c p e past y audited.1 h in
        let k = child-new c p e past y checked here new h in
        let start = new.start in
        let up = window_end-above c y.level (length past) k.row.positive in
        let later : leb y.start w ≡ false = grind (arith, nat_tests) in
        elim (cases_Bool (not (is_main y) && not (is_void y))) [ inl a ↦ rw (a, later) refl | inr b ↦ rw b refl ]

pub child-same_at : (c : Configuration) (n w : ℕ) (id : ThreadId) (level quota start : ℕ) (stop : Option ℕ) (b : Bool) → w ≤ n
    → child_share c (child_row id level quota start (option_or stop (then_some b n))) w ≡ child_share c (child_row id level quota start stop) w
child-same_at c n w id level quota start stop b le = grind (arith, nat_tests)

pub share-child : (c : Configuration) (past : List Entry) (x : Thread) (s : ℕ) → eqb x.id.serial 0 ≡ false → share c past x s ≡ child_share c x s
share-child c past x s child = rw child refl

-- an entry does not change the share of a window that has begun
pub share-same : (c : Configuration) (p w : ℕ) (e : Entry) (past : List Entry) (x : Thread) → IsChecked c → p < length c.processes
    → Audited c (e ∷ past) → Has (family c p past) x → w ≤ length past
    → share c (e ∷ past) (after_entry e (length past) x) w ≡ share c past x w
share-same c p w e past x checked here audited h le =
    let n = length past in
    elim (main-or-child c p past x h) [
      | inl main ↦
          subst (λ y. share c (e ∷ past) (after_entry e n y) w ≡ share c past y w) main
          (let before = share-main c p past w in
          let after = share-main c p (e ∷ past) w in
          let stopped = stopped_before-same n w (main_stop p past) (stops (main_id p) e) le in
          let lends = lent-same c p w e past checked here audited le in
          after ∙ ap (λ b. cond b 0 (budget c p - lent c p (e ∷ past) w)) stopped
          ∙ ap (λ k. cond (is_stopped_before w (main_row c p past)) 0 (budget c p - k)) lends ∙ sym before)
      | inr child ↦
          let k = (child-of c p past x checked here audited.0 child).row in
          share-child c (e ∷ past) (after_entry e n x) w k.no_main
          ∙ child-same_at c n w x.id x.level x.quota x.start x.stop (stops x.id e) le
          ∙ sym (share-child c past x w k.no_main)
    ]

-- a new child has no share of a window that has begun
pub share-new : (c : Configuration) (p w : ℕ) (e : Entry) (past : List Entry) (y : Thread) → IsChecked c → p < length c.processes
    → Audited c (e ∷ past) → Has (new_rows c p e past) y → w ≤ length past → share c (e ∷ past) y w ≡ 0
share-new c p w e past y checked here audited h le = grind (arith, nat_tests, new-row, child-new, window_end-above, share-child)

-- where a window begins the share is nothing or at least the least share
pub share-whole : (c : Configuration) (p : ℕ) (past : List Entry) (x : Thread) → IsChecked c → p < length c.processes
    → Audited c past → Has (family c p past) x
    → (share c past x (length past) ≡ 0) ⊎ (least c ≤ share c past x (length past))
share-whole c p past x checked here audited h = grind (arith, nat_tests, main-or-child, least, share-main, lent-fits, main_row, lent, child-of, share-child)
