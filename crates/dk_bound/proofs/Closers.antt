-- Which event closes whose window.
use Rattle.dk_bound.proofs.Names.{ℕ, ◌≡◌, ◌<◌, inl, inr, Bool, true, false, not, ◌&&◌, ◌||◌, eqb, List, [], ◌∷◌, length, refl, sym, ap, ◌∙◌, subst, arith, Option, Some, None, is_none, list_any, option_map_or, cases_Bool, and_parts, not-false, nat_tests, Configuration, Event, Entry, Has, is_same, main_of, is_of, has_event, is_wait, is_end, is_delete_of, quiet, Thread, threads, family, is_main, is_running_child, delete_reasons, AtEachEntry, closes, may_close, WhoCloses, none-holds, whose, not-main-of, family-charged, same-row, among-threads, row-of, stopped-no-event, done-event, same-id, make-id}
use Rattle.dk_bound.proofs.EventMoves.{IsEntry, entry-is}

pub and-zero : (b : Bool) (s : ℕ) → s ≡ 0 → (b && eqb 0 s) ≡ b
and-zero b s h = grind (arith, nat_tests)

-- the test by its parts: whether the entry is the thread's and its main's, whether the thread runs and is a child, and whether the
-- event is a wait, an end, and a delete of it
abbrev shut : Bool → Bool → Bool → Bool → Bool → Bool → Bool → Bool
shut own mains runs child wait end delete = (own && wait) || (runs && (((own && end) || (mains && end)) || (child && (mains && delete))))

shut-nothing : (own mains runs child : Bool) → shut own mains runs child false false false ≡ false
shut-nothing own mains runs child = grind (arith, nat_tests)

shut-wait : (own mains runs child : Bool) → shut own mains runs child true false false ≡ own
shut-wait own mains runs child = grind (arith, nat_tests)

-- an end of a thread that runs, where the main has no entry
shut-child : (own mains runs child : Bool) → mains ≡ false → (own ≡ true → runs ≡ true) → shut own mains runs child false true false ≡ own
shut-child own mains runs child h k = grind (arith, nat_tests)

shut-delete : (own mains runs child meant : Bool) → ((mains && meant) ≡ true → (runs ≡ true) × (child ≡ true))
    → shut own mains runs child false false meant ≡ (mains && meant)
shut-delete own mains runs child meant h = grind (arith, nat_tests)

parts-of : (e : Entry) (y : Thread) (own mains wait end delete : Bool) → is_of y.id e ≡ own → is_of (main_of y.id) e ≡ mains
    → has_event is_wait e ≡ wait → has_event is_end e ≡ end → has_event (is_delete_of y.id.serial) e ≡ delete
    → closes e y ≡ shut own mains (is_none y.stop) (not (eqb y.id.serial 0)) wait end delete
parts-of e y own mains wait end delete a b d f g = rw (a, b, d, f, g) refl

-- an event that is an end is no wait and no delete
pub end-alone : (event : Option Event) (s : ℕ) → option_map_or is_end event false ≡ true
    → (option_map_or is_wait event false ≡ false) × (option_map_or (is_delete_of s) event false ≡ false)
end-alone event s h = grind (arith, nat_tests)

pub closes-nothing : (event : Option Event) (s : ℕ) → may_close event ≡ false
    → (option_map_or is_wait event false ≡ false) × (option_map_or is_end event false ≡ false) × (option_map_or (is_delete_of s) event false ≡ false)
closes-nothing event s h = grind (arith, nat_tests)

-- whoever has an event has not been stopped
runs-now : (c : Configuration) (e : Entry) (past : List Entry) (x : Thread) → IsEntry c e past → Has (threads c past) x → is_of x.id e ≡ true
    → (e.event ≡ None → ⊥) → is_none x.stop ≡ true
runs-now c e past x is among mine some = grind (arith, nat_tests, stopped-no-event)

end-some : (e : Entry) → has_event is_end e ≡ true → e.event ≡ None → ⊥
end-some e h none = let wrong : false ≡ true = rw none at h in absurd (cc)

-- a row with the id of another is that one, so it has its stop
stop-of : (c : Configuration) (past : List Entry) (e : Entry) (x y : Thread) → IsEntry c e past → Has (threads c past) x → Has (threads c past) y
    → is_same y.id x.id ≡ true → y ≡ x
stop-of c past e x y is among there same = same-row (threads c past) y x is.fit.distinct there among (same-id y.id x.id same)

child-closes : (c : Configuration) (e : Entry) (past : List Entry) (x y : Thread) → IsEntry c e past → Has (threads c past) x → Has (threads c past) y
    → is_main x ≡ false → is_of x.id e ≡ true → has_event is_end e ≡ true → closes e y ≡ is_same y.id x.id
child-closes c e past x y is among there child mine ends =
    let others = end-alone e.event y.id.serial ends in
    parts-of e y (is_same y.id x.id) (is_same (main_of y.id) x.id) false true false (whose y.id x.id e mine) (whose (main_of y.id) x.id e mine)
    others.0 ends others.1
    ∙ shut-child (is_same y.id x.id) (is_same (main_of y.id) x.id) (is_none y.stop) (not (eqb y.id.serial 0)) (not-main-of y.id x.id child)
    (λ same. subst (λ z. is_none z.stop ≡ true) (sym (stop-of c past e x y is among there same)) (runs-now c e past x is among mine (end-some e ends)))

main-closes : (e : Entry) (x y : Thread) → is_main x ≡ true → is_of x.id e ≡ true → has_event is_end e ≡ true
    → closes e y ≡ (is_none y.stop && (eqb y.id.process x.id.process))
main-closes e x y main mine ends = grind (arith, nat_tests)

pub any-has : (test : Thread → Bool) (xs : List Thread) → list_any test xs ≡ true → (x : Thread) × Has xs x × (test x ≡ true)
any-has test [] h = absurd (cc)
any-has test (x ∷ xs) h =
    elim (cases_Bool (test x)) [
      | inl passes ↦ (x, inl refl, passes)
      | inr fails ↦ (let rest : list_any test xs ≡ true = rw fails at h in let r = any-has test xs rest in (r.0, inr r.1, r.2))
    ]

-- the child that a delete names runs
deleted-runs : (c : Configuration) (e : Entry) (past : List Entry) (x : Thread) → IsEntry c e past → Has (threads c past) x
    → is_of (main_of x.id) e ≡ true → e.event ≡ Some (Event.Delete x.id.serial)
    → (is_none x.stop ≡ true) × (not (eqb x.id.serial 0) ≡ true)
deleted-runs c e past x is among mine event =
    let s = x.id.serial in
    let p = x.id.process in
    let done = done-event c past e (main_of x.id) (Event.Delete s) is.audited.1 mine event in
    let parts = none-holds (delete_reasons c (quiet e.label ∷ past) done.row s) done.unrefused in
    let some = not-false (list_any (is_running_child s) (family c done.row.id.process (quiet e.label ∷ past))) parts.1.0 in
    let process : done.row.id.process ≡ p = ap (λ i. i.process) done.same in
    let found = any-has (is_running_child s) (family c done.row.id.process (quiet e.label ∷ past)) some in
    let z = found.0 in
    let there : Has (family c p past) z =
    subst (λ zs. Has zs z) (family-charged c p e.label past) (subst (λ q. Has (family c q (quiet e.label ∷ past)) z) process found.1) in
    let test = and_parts (not (is_main z) && (eqb z.id.serial s)) (is_none z.stop) found.2 in
    let test' = and_parts (not (is_main z)) (eqb z.id.serial s) test.0 in
    let serial : z.id.serial ≡ s = (let b = test'.1 in grind (arith, nat_tests)) in
    let own : z.id.process ≡ p = (row-of c p past z is.checked (is.fit.rows x among).known is.audited.0 there).process in
    let ids : z.id ≡ x.id = make-id z.id x.id own serial in
    let all : Has (threads c past) z =
    among-threads c past z (subst (λ q. q < length c.processes) (sym own) (is.fit.rows x among).known) (subst (λ q. Has (family c q past) z) (sym own) there) in
    let same : z ≡ x = same-row (threads c past) z x is.fit.distinct all among ids in
    (subst (λ w. is_none w.stop ≡ true) same test.1, subst (λ w. not (is_main w) ≡ true) same test'.0)

delete-closes : (c : Configuration) (e : Entry) (past : List Entry) (x y : Thread) → IsEntry c e past → Has (threads c past) x → Has (threads c past) y
    → is_of (main_of x.id) e ≡ true → e.event ≡ Some (Event.Delete x.id.serial) → closes e y ≡ is_same y.id x.id
delete-closes c e past x y is among there mine event =
    let meant = eqb y.id.serial x.id.serial in
    let mains = eqb y.id.process x.id.process in
    let from_main : is_of (main_of y.id) e ≡ mains = whose (main_of y.id) (main_of x.id) e mine ∙ and-self mains in
    let test : ((mains && meant) ≡ true) → (is_none y.stop ≡ true) × (not (eqb y.id.serial 0) ≡ true) =
    λ same. (let it : y ≡ x = stop-of c past e x y is among there same in
    let runs = deleted-runs c e past x is among mine event in
    (subst (λ w. is_none w.stop ≡ true) (sym it) runs.0, subst (λ w. not (eqb w.id.serial 0) ≡ true) (sym it) runs.1)) in
    parts-of e y (is_of y.id e) mains false false meant refl from_main
    (ap (λ o. option_map_or is_wait o false) event) (ap (λ o. option_map_or is_end o false) event) (ap (λ o. option_map_or (is_delete_of y.id.serial) o false) event)
    ∙ shut-delete (is_of y.id e) mains (is_none y.stop) (not (eqb y.id.serial 0)) meant test
  where
    and-self : (b : Bool) → (b && eqb 0 0) ≡ b
    and-self true = refl
    and-self false = refl

pub who_closes : AtEachEntry WhoCloses
who_closes c e past checked accepted audited =
    let is = entry-is c e past checked accepted audited in
    record {
      wait =
          λ x mine event y. parts-of e y (is_same y.id x.id) (is_of (main_of y.id) e) true false false (whose y.id x.id e mine) refl
          (ap (λ o. option_map_or is_wait o false) event) (ap (λ o. option_map_or is_end o false) event) (ap (λ o. option_map_or (is_delete_of y.id.serial) o false) event)
          ∙ shut-wait (is_same y.id x.id) (is_of (main_of y.id) e) (is_none y.stop) (not (eqb y.id.serial 0));
      child = λ x y among there child mine ends. child-closes c e past x y is among there child mine ends;
      delete = λ x y among there mine event. delete-closes c e past x y is among there mine event;
      main = λ x y main mine ends. main-closes e x y main mine ends;
      nobody =
          λ none y. (let no = closes-nothing e.event y.id.serial none in
          parts-of e y (is_of y.id e) (is_of (main_of y.id) e) false false false refl refl no.0 no.1 no.2
          ∙ shut-nothing (is_of y.id e) (is_of (main_of y.id) e) (is_none y.stop) (not (eqb y.id.serial 0)));
    }
