-- A stopped thread has no event, one that stopped before its present window has no entry there, and a serial that is not given has none at all.
use Rattle.dk_trace.proofs.Names.{ℕ, zero, suc, ◌≡◌, ◌<◌, ◌≤◌, ◌⊎◌, inl, inr, Bool, true, false, cond, ◌&&◌, ◌||◌, ltb, List, [], ◌∷◌, length, drop, refl, sym, ap, ◌∙◌, subst, arith, Option, Some, None, count_by, is_some, option_or, option_map_or, then_some, cases_Bool, cases_lt, nat_tests, Configuration, period, window_start, window_end, ThreadId, Event, Entry, is_of, is_budget_of, is_out_of, does, is_end, stops, window, Thread, family, made_by, share, is_stopped_before, new_rows, thread_rem, is_closed, last_request, want, is_wishing, chosen, work_of, MayHave, Audited, IsChecked, Has}
use Rattle.std.specs.Prelude.{take}
use Rattle.dk_trace.proofs.Windows.{mod-next, window-goes-on, window-begins}
use Rattle.dk_trace.proofs.Mains.{main_id, main_row, main_stop, window_start-within}
use Rattle.dk_trace.proofs.Families.{children}
use Rattle.dk_trace.proofs.Members.{has-flat}
use Rattle.dk_trace.proofs.Events.{new-row}
use Rattle.dk_trace.proofs.Rows.{row-of, has-next, child-has, main-has, window_end-above, family-length}
use Rattle.dk_trace.proofs.Fair.{AllFair}
use Rattle.dk_trace.proofs.Entered.{Acts, actor-of, acts-of}

-- none of the entries is the thread's
abbrev pub Quiet : ThreadId → List Entry → Type 0
Quiet x [] = Unit {0}
Quiet x (e ∷ es) = (is_of x e ≡ false) × Quiet x es

pub quiet-take : (x : ThreadId) (k : ℕ) (es : List Entry) → Quiet x es → Quiet x (take k es)
quiet-take x zero es h = tt
quiet-take x (suc k) [] h = tt
quiet-take x (suc k) (e ∷ es) h = (h.0, quiet-take x k es h.1)

pub quiet-drop : (x : ThreadId) (k : ℕ) (es : List Entry) → Quiet x es → Quiet x (drop k es)
quiet-drop x zero es h = h
quiet-drop x (suc k) [] h = tt
quiet-drop x (suc k) (e ∷ es) h = quiet-drop x k es h.1

pub quiet-used : (x : ThreadId) (es : List Entry) → Quiet x es → count_by (is_budget_of x) es ≡ 0
quiet-used x [] h = refl
quiet-used x (e ∷ es) h = grind (arith, nat_tests, quiet-used x es)

pub quiet-outs : (x : ThreadId) (es : List Entry) → Quiet x es → count_by (is_out_of x) es ≡ 0
quiet-outs x [] h = refl
quiet-outs x (e ∷ es) h = grind (arith, nat_tests, quiet-outs x es)

pub quiet-request : (x : ThreadId) (es : List Entry) → Quiet x es → (last_request x es).amount ≡ 0
quiet-request x [] h = refl
quiet-request x (e ∷ es) h = grind (arith, nat_tests, quiet-request x es)

pub stopped-share : (c : Configuration) (past : List Entry) (x : Thread) (s : ℕ) → is_stopped_before s x ≡ true → share c past x s ≡ 0
stopped-share c past x s stopped = grind (arith, nat_tests)

-- a thread that stopped before its present window and has no entry there does not act
pub rem-gone : (c : Configuration) (n : ℕ) (past : List Entry) (x : Thread) → is_stopped_before (window_start c x.level n) x ≡ true
    → Quiet x.id (window c n past x.level) → thread_rem c n past x ≡ 0
rem-gone c n past x stopped quiet = grind (arith, nat_tests, stopped-share, quiet-used)

pub wish-wants : (c : Configuration) (n : ℕ) (past : List Entry) (k : ℕ) (x : Thread) → is_wishing c n past k x ≡ true → 0 < want c n past x
wish-wants c n past k x h = grind (arith, nat_tests)

pub want-gone : (c : Configuration) (n : ℕ) (past : List Entry) (x : Thread) → Quiet x.id (window c n past x.level) → want c n past x ≡ 0
want-gone c n past x quiet = grind (arith, nat_tests, quiet-request)

pub want-closed : (c : Configuration) (n : ℕ) (past : List Entry) (x : Thread) → is_closed c n past x ≡ true → want c n past x ≡ 0
want-closed c n past x shut = rw shut refl

pub gone-not-acting : (c : Configuration) (past : List Entry) (e : Entry) (x : Thread)
    → is_stopped_before (window_start c x.level (length past)) x ≡ true → Quiet x.id (window c (length past) past x.level)
    → Acts c past e x → ⊥
gone-not-acting c past e x stopped quiet is = grind (arith, nat_tests, rem-gone, wish-wants, want-gone)

pub stopped-test : (t s : ℕ) (x : Thread) → x.stop ≡ Some t → t < s → is_stopped_before s x ≡ true
stopped-test t s x is less = let a : ltb t s ≡ true = grind (arith, nat_tests) in rw is a

stop-cases : (n t : ℕ) (stop : Option ℕ) (b : Bool) → option_or stop (then_some b n) ≡ Some t → (stop ≡ Some t) ⊎ ((stop ≡ None) × (b ≡ true) × (t ≡ n))
stop-cases n t stop b h = grind (arith, nat_tests)

-- a thread that stopped before its present window has no entry there
pub gone-quiet : (c : Configuration) (p : ℕ) (past : List Entry) (x : Thread) (t : ℕ) → IsChecked c → p < length c.processes
    → AllFair c past → Audited c past → Has (family c p past) x → x.stop ≡ Some t → t < window_start c x.level (length past)
    → Quiet x.id (window c (length past) past x.level)
gone-quiet c p [] x t checked here fair audited h is less = absurd (omega arith)
gone-quiet c p (e ∷ past) x t checked here fair audited h is less =
    let n = length past in
    elim (has-next e (length past) (family c p past) (new_rows c p e past) x h) [
      | inr new ↦ let running = (new-row c p e past x audited.1 new).running in absurd (cc)
      | inl old ↦
          let y = old.0 in
          let level : y.level ≡ x.level = ap (λ z. z.level) old.2 in
          let known = row-of c p past y checked here audited.0 old.1 in
          let positive : 0 < period c x.level = subst (λ i. 0 < period c i) level known.positive in
          elim (mod-next n (period c x.level) positive) [
            | inl begins ↦ subst (Quiet x.id) (sym (window-begins c (e ∷ past) x.level begins.0)) tt
            | inr within ↦
                let start : window_start c x.level (suc n) ≡ window_start c x.level n = window_start-within c x.level n within in
                let stop : option_or y.stop (then_some (stops y.id e) n) ≡ Some t = ap (λ z. z.stop) old.2 ∙ is in
                elim (stop-cases n t y.stop (stops y.id e) stop) [
                  | inr fresh ↦ let same = fresh.2 in absurd (omega arith)
                  | inl was ↦
                      let less' : t < window_start c y.level n = subst (λ i. t < window_start c i n) (sym level) (omega arith) in
                      let before : Quiet y.id (window c n past y.level) = gone-quiet c p past y t checked here fair.0 audited.0 old.1 was less' in
                      let silent : is_of y.id e ≡ false =
                      elim (cases_Bool (is_of y.id e)) [
                        | inr other ↦ other
                        | inl mine ↦
                            let acts = acts-of c p past (chosen c past) e y checked here audited.0 old.1 fair.1 audited.1.choice mine in
                            absurd (gone-not-acting c past e y (stopped-test t (window_start c y.level n) y was less') before acts)
                      ] in
                      let ids : y.id ≡ x.id = ap (λ z. z.id) old.2 in
                      let silent' : is_of x.id e ≡ false = subst (λ i. is_of i e ≡ false) ids silent in
                      let before' : Quiet x.id (window c n past x.level) =
                      subst (λ i. Quiet i (window c n past x.level)) ids (subst (λ i. Quiet y.id (window c n past i)) level before) in
                      subst (Quiet x.id) (sym (window-goes-on c e past x.level within)) (silent', before')
                ]
          ]
    ]

pub closed-stopped : (c : Configuration) (n : ℕ) (past : List Entry) (x : Thread) (t : ℕ) → x.stop ≡ Some t
    → window_start c x.level n ≤ t → t < window_end c x.level n → is_closed c n past x ≡ true
closed-stopped c n past x t is low high = grind (arith, nat_tests)

closed-acts : (c : Configuration) (past : List Entry) (e : Entry) (x : Thread) → is_closed c (length past) past x ≡ true
    → MayHave (work_of e.label) e.event → Acts c past e x → e.event ≡ None
closed-acts c past e x shut may is = grind (arith, nat_tests)

-- a stopped thread has no event
pub stopped-no-event : (c : Configuration) (p : ℕ) (e : Entry) (past : List Entry) (x : Thread) (t : ℕ) → IsChecked c → p < length c.processes
    → AllFair c (e ∷ past) → Audited c (e ∷ past) → Has (family c p past) x → x.stop ≡ Some t → is_of x.id e ≡ true → e.event ≡ None
stopped-no-event c p e past x t checked here fair audited h is mine =
    let n = length past in
    let known = row-of c p past x checked here audited.0 h in
    let acts = acts-of c p past (chosen c past) e x checked here audited.0 h fair.1 audited.1.choice mine in
    elim (cases_lt t (window_start c x.level n)) [
      | inl gone ↦
          absurd (gone-not-acting c past e x (stopped-test t (window_start c x.level n) x is gone)
          (gone-quiet c p past x t checked here fair.0 audited.0 h is gone) acts)
      | inr inside ↦
          let old : t < n = known.stopped t is in
          let up = window_end-above c x.level n known.positive in
          closed-acts c past e x (closed-stopped c n past x t is (omega arith) (omega arith)) audited.1.work acts
    ]

-- where the main is stopped, each child is
abbrev pub WithMain : ℕ → List Entry → Thread → Type 0
WithMain p past y = (t : ℕ) → main_stop p past ≡ Some t → is_some y.stop ≡ true

or-some : (stop : Option ℕ) (b : Bool) (n : ℕ) → is_some stop ≡ true → is_some (option_or stop (then_some b n)) ≡ true
or-some stop b n h = grind (arith, nat_tests)

now-some : (stop : Option ℕ) (b : Bool) (n : ℕ) → b ≡ true → is_some (option_or stop (then_some b n)) ≡ true
now-some stop b n h = grind (arith, nat_tests)

main-ends : (a : Bool) → ((a || a) || false) ≡ true → a ≡ true
main-ends a h = grind (arith, nat_tests)

pub stops-main : (p : ℕ) (e : Entry) → stops (main_id p) e ≡ true → does is_end (main_id p) e ≡ true
stops-main p e h = main-ends (does is_end (main_id p) e) h

pub stops-child : (p : ℕ) (e : Entry) (x : ThreadId) → x.process ≡ p → does is_end (main_id p) e ≡ true → stops x e ≡ true
stops-child p e x of_p h = grind (arith, nat_tests)

no-create-ends : (p n : ℕ) (c : Configuration) (mine : Bool) (event : Option Event) (y : Thread)
    → Has (cond mine (made_by c p n event) []) y → (mine && option_map_or is_end event false) ≡ true → ⊥
no-create-ends p n c mine event y h k = grind (arith, nat_tests)

no-create-none : (p n : ℕ) (c : Configuration) (mine : Bool) (event : Option Event) (y : Thread)
    → Has (cond mine (made_by c p n event) []) y → (mine ≡ true) × (event ≡ None → ⊥)
no-create-none p n c mine event y h = grind (arith, nat_tests)

pub children-with-main : (c : Configuration) (p : ℕ) (past : List Entry) (y : Thread) → IsChecked c → p < length c.processes
    → AllFair c past → Audited c past → Has (children c p past) y → WithMain p past y
children-with-main c p [] y checked here fair audited h t is = absurd h
children-with-main c p (e ∷ past) y checked here fair audited h t is =
    let n = length past in
    let cases = stop-cases n t (main_stop p past) (stops (main_id p) e) is in
    elim (has-next e (length past) (children c p past) (new_rows c p e past) y h) [
      | inl old ↦
          let x = old.0 in
          subst (λ z. is_some z.stop ≡ true) old.2
          (elim cases [
            | inl was ↦ or-some x.stop (stops x.id e) n (children-with-main c p past x checked here fair.0 audited.0 old.1 t was)
            | inr now ↦
                let of_p = (row-of c p past x checked here audited.0 (child-has c p past x old.1)).process in
                now-some x.stop (stops x.id e) n (stops-child p e x.id of_p (stops-main p e now.1))
          ])
      | inr new ↦
          let made = no-create-none p n c (is_of (main_id p) e) e.event y new in
          absurd (elim cases [
            | inl was ↦ made.1 (stopped-no-event c p e past (main_row c p past) t checked here fair audited (main-has c p past) was made.0)
            | inr now ↦ no-create-ends p n c (is_of (main_id p) e) e.event y new (stops-main p e now.1)
          ])
    ]

-- a serial that is not given has no entry
pub fresh-not-of : (c : Configuration) (p k : ℕ) (e : Entry) (past : List Entry) → IsChecked c → p < length c.processes
    → AllFair c (e ∷ past) → Audited c (e ∷ past) → length (family c p past) ≤ k → is_of (record { process = p; serial = k }) e ≡ false
fresh-not-of c p k e past checked here fair audited beyond =
    let z : ThreadId = record { process = p; serial = k } in
    elim (cases_Bool (is_of z e)) [
      | inr other ↦ other
      | inl mine ↦
          let a = actor-of c past (chosen c past) e z fair.1 audited.1.choice mine in
          let x = a.who in
          let r = has-flat (λ q. family c q past) 0 (length c.processes) x a.among in
          let there : r.0 < length c.processes = omega (arith, r.1) in
          let ids : x.id ≡ z = sym a.same in
          let row = row-of c r.0 past x checked there audited.0 r.2 in
          let pp : r.0 ≡ p = sym row.process ∙ ap (λ i. i.process) ids in
          let serial : x.id.serial ≡ k = ap (λ i. i.serial) ids in
          let less : x.id.serial < length (family c p past) = subst (λ q. x.id.serial < length (family c q past)) pp row.serial in
          absurd (omega arith)
    ]

pub fresh-quiet : (c : Configuration) (p k : ℕ) (past : List Entry) → IsChecked c → p < length c.processes
    → AllFair c past → Audited c past → length (family c p past) ≤ k → Quiet (record { process = p; serial = k }) past
fresh-quiet c p k [] checked here fair audited beyond = tt
fresh-quiet c p k (e ∷ past) checked here fair audited beyond =
    let longer = family-length c p e past in
    let less : length (family c p past) ≤ k = omega arith in
    (fresh-not-of c p k e past checked here fair audited less, fresh-quiet c p k past checked here fair.0 audited.0 less)
