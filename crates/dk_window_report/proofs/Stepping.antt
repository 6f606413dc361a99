-- What an entry makes of all rows, where those are changed that it touches.
use Rattle.std.proofs.Common.{ℕ, zero, suc, ◌≡◌, ◌≢◌, ◌+◌, ◌-◌, ◌%◌, ◌≤◌, ◌⊎◌, inl, inr, ◌∙◌, refl, sym, ap, subst, zero-add, arith, Bool, true, false, List, [], ◌∷◌, map, Option, Some, None}
use Rattle.std.specs.Prelude.{◌==◌, ◌||◌, ◌&&◌, not, nat_lt, if◌then◌else◌}
use Rattle.std.specs.Option.{option_map_or}
use Rattle.std.proofs.Math.Bool.{and-false}
use Rattle.std.proofs.lemmas.Bool.{cases_Bool, eqb-true, eq-eqb, lt-ltb, le-ltb}
use Rattle.dk_trace.specs.declared.ThreadId.{ThreadId}
use Rattle.dk_trace.specs.declared.Event.{Event}
use Rattle.dk_trace.specs.declared.Entry.{Entry}
use Rattle.dk_trace.specs.Entries.{is_of, has_event, does, is_end, is_delete_of, main_of, stops, thread_of}
use Rattle.dk_trace.proofs.Whose.{of-thread}
use Rattle.dk_window_report.specs.declared.row.Did.{Did}
use Rattle.dk_window_report.specs.declared.row.Row.{Row}
use Rattle.dk_window_report.specs.declared.late.Late.{Late}
use Rattle.dk_window_report.specs.declared.touched.Touched.{Touched}
use Rattle.dk_window_report.specs.Rows.{did_with, ended, filled, stepped}
use Rattle.dk_window_report.specs.Late.{nobody, passed, row_at, rows_at, late_with, AreUpTo}
use Rattle.dk_window_report.specs.Touched.{touched_in, touched_by, place_of, changed, changed_at, changed_by, AreFound}
use Rattle.dk_window_report.proofs.Idle.{IsOther, as-nobody, not-own}

-- ---- whose row an entry leaves

-- nothing stops it
pub not-stopped : (x : ThreadId) (e : Entry) → does is_end x e ≡ false → does is_end (main_of x) e ≡ false
    → (not (x.serial == 0) && does (is_delete_of x.serial) (main_of x) e) ≡ false → stops x e ≡ false
not-stopped x e own main delete =
    ap (λ b. b || does is_end (main_of x) e || (not (x.serial == 0) && does (is_delete_of x.serial) (main_of x) e)) own
    ∙ ap (λ b. b || (not (x.serial == 0) && does (is_delete_of x.serial) (main_of x) e)) main ∙ delete

-- Another thread had the tick: it isn't the thread's main that ends, nor one that deletes it.
other-of : (x y : ThreadId) (e : Entry) → thread_of e.label ≡ Some y → x ≢ y
    → (y ≡ main_of x → has_event is_end e ≡ false)
    → (y ≡ main_of x → (x.serial == 0) ≡ false → has_event (is_delete_of x.serial) e ≡ false) → IsOther x e
other-of x y e whose differ end delete =
    let own : is_of x e ≡ false =
    elim (cases_Bool (is_of x e)) [
      | inl mine ↦ absurd (differ (let same : Some x ≡ Some y = sym (of-thread x e mine) ∙ whose in cc))
      | inr other ↦ other
    ] in
    not-own x e own
    (elim (cases_Bool (is_of (main_of x) e)) [
      | inl main ↦
          let is : y ≡ main_of x = (let same : Some y ≡ Some (main_of x) = sym whose ∙ of-thread (main_of x) e main in cc) in
          not-stopped x e (ap (λ b. b && has_event is_end e) own)
          (ap (λ b. is_of (main_of x) e && b) (end is) ∙ and-false (is_of (main_of x) e))
          (elim (cases_Bool (x.serial == 0)) [
            | inl first ↦ ap (λ b. not b && (is_of (main_of x) e && has_event (is_delete_of x.serial) e)) first
            | inr child ↦
                ap (λ b. not (x.serial == 0) && (is_of (main_of x) e && b)) (delete is child)
                ∙ ap (λ b. not (x.serial == 0) && b) (and-false (is_of (main_of x) e)) ∙ and-false (not (x.serial == 0))
          ])
      | inr other_main ↦
          not-stopped x e (ap (λ b. b && has_event is_end e) own) (ap (λ b. b && has_event is_end e) other_main)
          (ap (λ b. not (x.serial == 0) && (b && has_event (is_delete_of x.serial) e)) other_main ∙ and-false (not (x.serial == 0)))
    ])

of-none : (x : ThreadId) (e : Entry) → thread_of e.label ≡ None → IsOther x e
of-none x e none =
    let no : (y : ThreadId) → is_of y e ≡ false =
    λ y. elim (cases_Bool (is_of y e)) [
      | inl mine ↦ absurd (let both : Some y ≡ None = sym (of-thread y e mine) ∙ none in cc)
      | inr other ↦ other
    ] in
    not-own x e (no x)
    (not-stopped x e (ap (λ b. b && has_event is_end e) (no x)) (ap (λ b. b && has_event is_end e) (no (main_of x)))
    (ap (λ b. not (x.serial == 0) && (b && has_event (is_delete_of x.serial) e)) (no (main_of x)) ∙ and-false (not (x.serial == 0))))

-- ---- threads stay

filled-thread : (b : Bool) (r : Row) (d : Did) → (if b then ended r d else record r { did = d }).thread ≡ r.thread
filled-thread true r d = refl
filled-thread false r d = refl

stepped-thread : (now : ℕ) (e : Entry) (r : Row) → (stepped now e r).thread ≡ r.thread
stepped-thread now e r = go (nat_lt now r.since)
  where
    go : (b : Bool) → (if b then r else filled ((now - r.since) % r.period) r (did_with r.gone r.thread e ((now - r.since) % r.period) r.did)).thread ≡ r.thread
    go true = refl
    go false =
        filled-thread ((now - r.since) % r.period + 1 == r.period) r (did_with r.gone r.thread e ((now - r.since) % r.period) r.did)

pub passed-thread : (tick n : ℕ) (r : Row) → (passed tick n r).thread ≡ r.thread
passed-thread tick zero r = refl
passed-thread tick (suc n) r = stepped-thread (tick + n) nobody (passed tick n r) ∙ passed-thread tick n r

-- ---- rows of which some are changed

module _ (now : ℕ) (e : Entry) where
  abbrev done : Late → Late
  done l = record { row = stepped now e (row_at now l); tick = now + 1 }

  done-is : (l : Late) → l.tick ≤ now → late_with now e l ≡ done l
  done-is l early = ap (λ b. if b then l else done l) (le-ltb now l.tick early)

  -- a row is changed, or it is as it was, and T holds of its thread
  abbrev IsChanged : (ThreadId → Type 0) → Late → Late → Type 0
  IsChanged T l m = (m ≡ late_with now e l) ⊎ ((m ≡ l) × T l.row.thread)

  abbrev AreChanged : (ThreadId → Type 0) → List Late → List Late → Type 0
  AreChanged T [] [] = Unit {0}
  AreChanged T [] (m ∷ ms) = ⊥
  AreChanged T (l ∷ ls) [] = ⊥
  AreChanged T (l ∷ ls) (m ∷ ms) = IsChanged T l m × AreChanged T ls ms

  none-changed : (ls : List Late) → AreChanged (λ _. Unit {0}) ls ls
  none-changed [] = tt
  none-changed (l ∷ ls) = (inr (refl, tt), none-changed ls)

  all-changed : (ls : List Late) → AreChanged (λ _. ⊥) ls (map (late_with now e) ls)
  all-changed [] = tt
  all-changed (l ∷ ls) = (inl refl, all-changed ls)

  -- once more changes nothing
  again : (T : ThreadId → Type 0) (l m : Late) → l.tick ≤ now → IsChanged T l m → late_with now e m ≡ late_with now e l
  again T l m early (inl is) =
      let has : late_with now e (done l) ≡ done l = ap (λ b. if b then done l else done (done l)) (lt-ltb now (now + 1) (omega arith)) in
      ap (late_with now e) (is ∙ done-is l early) ∙ has ∙ sym (done-is l early)
  again T l m early (inr (is, t)) = ap (late_with now e) is

  narrow : (families : List (List ℕ)) (k : ℕ) (T U : ThreadId → Type 0) → ((y : ThreadId) (i : ℕ) → place_of families y ≡ Some i → k ≤ i → T y → U y)
      → (ls ms : List Late) → AreFound families k ls → AreChanged T ls ms → AreChanged U ls ms
  narrow families k T U f [] [] found c = tt
  narrow families k T U f [] (m ∷ ms) found c = absurd c
  narrow families k T U f (l ∷ ls) [] found c = absurd c
  narrow families k T U f (l ∷ ls) (m ∷ ms) found c = (
    elim c.0 [ inl is ↦ inl is | inr other ↦ inr (other.0, f l.row.thread k found.0 (omega arith) other.1) ],
    narrow families (suc k) T U (λ y i place after. f y i place (omega (arith, after))) ls ms found.1 c.1,
  )

  -- two places of one thread
  one-place : (families : List (List ℕ)) (x y : ThreadId) (i j : ℕ) → place_of families x ≡ Some i → place_of families y ≡ Some j → y ≡ x → i ≡ j
  one-place families x y i j px py same = let both : Some i ≡ Some j = sym px ∙ ap (place_of families) (sym same) ∙ py in cc

  -- the row at the thread's place is changed, and no other row is the thread's
  one-changed : (families : List (List ℕ)) (x : ThreadId) (T : ThreadId → Type 0) (k i : ℕ) → place_of families x ≡ Some (k + i)
      → (ls ms : List Late) → AreUpTo now ls → AreFound families k ls → AreChanged T ls ms
      → AreChanged (λ y. T y × (y ≢ x)) ls (changed (late_with now e) i ms)
  one-changed families x T k i place [] [] before found c = tt
  one-changed families x T k i place [] (m ∷ ms) before found c = absurd c
  one-changed families x T k i place (l ∷ ls) [] before found c = absurd c
  one-changed families x T k zero place (l ∷ ls) (m ∷ ms) before found c = (
    inl (again T l m before.0 c.0),
    narrow families (suc k) T (λ y. T y × (y ≢ x))
        (λ y j at after t. (t, λ same. let equal = one-place families x y (k + 0) j place at same in omega (arith, equal, after))) ls ms found.1 c.1,
  )
  one-changed families x T k (suc i) place (l ∷ ls) (m ∷ ms) before found c =
      let next : k + suc i ≡ suc k + i = omega arith in (
        elim c.0 [
          | inl is ↦ inl is
          | inr other ↦
              inr (other.0, (other.1, λ same. let equal = one-place families x l.row.thread (k + suc i) k place found.0 same in omega (arith, equal)))
        ],
        one-changed families x T (suc k) i (place ∙ ap Some next) ls ms before.1 found.1 c.1,
      )

  thread-changed : (families : List (List ℕ)) (x : ThreadId) (T : ThreadId → Type 0) (place : Option ℕ) → place ≡ place_of families x
      → (ls ms : List Late) → AreUpTo now ls → AreFound families 0 ls → AreChanged T ls ms
      → AreChanged (λ y. T y × (y ≢ x)) ls (changed_at (late_with now e) place ms)
  thread-changed families x T None is ls ms before found c =
      narrow families 0 T (λ y. T y × (y ≢ x))
      (λ y i at after t. (t, λ same. let both : None ≡ Some i = is ∙ ap (place_of families) (sym same) ∙ at in cc)) ls ms found c
  thread-changed families x T (Some i) is ls ms before found c =
      one-changed families x T 0 i (sym is ∙ ap Some (sym (zero-add i))) ls ms before found c

  -- ---- all of them are stepped

  pub record Done (families : List (List ℕ)) (k : ℕ) (ls ms : List Late) : Type 0 where
    pub rows : rows_at (now + 1) ms ≡ map (stepped now e) (rows_at now ls)
    pub before : AreUpTo (now + 1) ms
    pub found : AreFound families k ls → AreFound families k ms

  -- a row
  record OneDone (l m : Late) : Type 0 where
    row : row_at (now + 1) m ≡ stepped now e (row_at now l)
    tick : m.tick ≤ now + 1
    thread : m.row.thread ≡ l.row.thread

  of-done : (l m : Late) → l.tick ≤ now → m ≡ done l → OneDone l m
  of-done l m early is =
      let none : now + 1 - (now + 1) ≡ 0 = omega arith in
      subst (OneDone l) (sym is) (record {
        row = ap (λ n. passed (now + 1) n (stepped now e (row_at now l))) none;
        tick = omega arith;
        thread = stepped-thread now e (row_at now l) ∙ passed-thread l.tick (now - l.tick) l.row;
      })

  of-other : (l m : Late) → l.tick ≤ now → m ≡ l → IsOther l.row.thread e → OneDone l m
  of-other l m early is other =
      let one : now + 1 - l.tick ≡ suc (now - l.tick) = omega (arith, early) in
      let at : l.tick + (now - l.tick) ≡ now = omega (arith, early) in
      let thread = passed-thread l.tick (now - l.tick) l.row in
      subst (OneDone l) (sym is) (record {
        row = ap (λ n. passed l.tick n l.row) one ∙ ap (λ t. stepped t nobody (row_at now l)) at
            ∙ as-nobody now e (row_at now l) (subst (λ x. IsOther x e) (sym thread) other);
        tick = omega (arith, early);
        thread = refl;
      })

  one-done : (T : ThreadId → Type 0) → ((y : ThreadId) → T y → IsOther y e) → (l m : Late) → l.tick ≤ now → IsChanged T l m → OneDone l m
  one-done T others l m early (inl is) = of-done l m early (is ∙ done-is l early)
  one-done T others l m early (inr (is, t)) = of-other l m early is (others l.row.thread t)

  all-done : (families : List (List ℕ)) (k : ℕ) (T : ThreadId → Type 0) → ((y : ThreadId) → T y → IsOther y e)
      → (ls ms : List Late) → AreUpTo now ls → AreChanged T ls ms → Done families k ls ms
  all-done families k T others [] [] before c = record { rows = refl; before = tt; found = λ found. found }
  all-done families k T others [] (m ∷ ms) before c = absurd c
  all-done families k T others (l ∷ ls) [] before c = absurd c
  all-done families k T others (l ∷ ls) (m ∷ ms) before c =
      let one = one-done T others l m before.0 c.0 in
      let rest = all-done families (suc k) T others ls ms before.1 c.1 in
      record {
        rows = ap (λ r. r ∷ rows_at (now + 1) ms) one.row ∙ ap (λ rs. stepped now e (row_at now l) ∷ rs) rest.rows;
        before = (one.tick, rest.before);
        found = λ found. (ap (place_of families) one.thread ∙ found.0, rest.found found.1);
      }

  -- ---- by the entry

  module _ (families : List (List ℕ)) (ls : List Late) (before : AreUpTo now ls) where
    abbrev IsDone : Touched → Type 0
    IsDone touched = Done families 0 ls (changed_by (late_with now e) families touched ls)

    all-touched : IsDone Touched.All
    all-touched = all-done families 0 (λ _. ⊥) (λ y none. absurd none) ls (map (late_with now e) ls) before (all-changed ls)

    module _ (found : AreFound families 0 ls) (x : ThreadId) (whose : thread_of e.label ≡ Some x) where
      abbrev ByOne : ThreadId → Type 0
      ByOne y = Unit {0} × (y ≢ x)

      changed-one : AreChanged ByOne ls (changed_at (late_with now e) (place_of families x) ls)
      changed-one = thread-changed families x (λ _. Unit {0}) (place_of families x) refl ls ls before found (none-changed ls)

      one-touched : ((y : ThreadId) → x ≡ main_of y → has_event is_end e ≡ false)
          → ((y : ThreadId) → x ≡ main_of y → (y.serial == 0) ≡ false → has_event (is_delete_of y.serial) e ≡ false) → IsDone (Touched.One x)
      one-touched end delete =
          all-done families 0 ByOne (λ y t. other-of y x e whose t.1 (end y) (delete y)) ls (changed_at (late_with now e) (place_of families x) ls) before changed-one

      -- a main that ends stops all its children, another thread none
      end-touched : (b : Bool) → b ≡ (x.serial == 0) → ((y : ThreadId) → has_event (is_delete_of y.serial) e ≡ false)
          → IsDone (if b then Touched.All else Touched.One x)
      end-touched true is delete = all-touched
      end-touched false is delete =
          one-touched
          (λ y main. absurd (let both : false ≡ true = is ∙ eq-eqb x.serial 0 (ap (λ (z : ThreadId). z.serial) main) in cc))
          (λ y main child. delete y)

      -- the child of that serial, or none
      deleted-child : (serial : ℕ) → e.event ≡ Some (Event.Delete serial) → (y : ThreadId) → y ≢ (record { process = x.process; serial = serial })
          → x ≡ main_of y → has_event (is_delete_of y.serial) e ≡ false
      deleted-child serial event y differ main =
          ap (λ o. option_map_or (is_delete_of y.serial) o false) event
          ∙ (elim (cases_Bool (y.serial == serial)) [
            | inl same ↦
                let process : y.process ≡ x.process = ap (λ (z : ThreadId). z.process) (sym main) in
                let number = eqb-true y.serial serial same in
                absurd (differ (ap (λ p. record { process = p; serial = y.serial }) process ∙ ap (λ s. record { process = x.process; serial = s }) number))
            | inr other ↦ other
          ])

      delete-touched : (serial : ℕ) → e.event ≡ Some (Event.Delete serial) → (b : Bool) → b ≡ ((x.serial == 0) && not (serial == 0))
          → IsDone (if b then Touched.Two x (record { process = x.process; serial = serial }) else Touched.One x)
      delete-touched serial event true is =
          let child : ThreadId = record { process = x.process; serial = serial } in
          let two = changed_at (late_with now e) (place_of families child) (changed_at (late_with now e) (place_of families x) ls) in
          all-done families 0 (λ y. ByOne y × (y ≢ child))
          (λ y t. other-of y x e whose t.0.1 (λ main. ap (λ o. option_map_or is_end o false) event) (λ main some. deleted-child serial event y t.1 main))
          ls two before
          (thread-changed families child ByOne (place_of families child) refl ls (changed_at (late_with now e) (place_of families x) ls) before found changed-one)
      delete-touched serial event false is =
          one-touched (λ y main. ap (λ o. option_map_or is_end o false) event)
          (λ y main some.
          let first : (x.serial == 0) ≡ true = eq-eqb x.serial 0 (ap (λ (z : ThreadId). z.serial) main) in
          let none : false ≡ not (serial == 0) = is ∙ ap (λ b. b && not (serial == 0)) first in
          ap (λ o. option_map_or (is_delete_of y.serial) o false) event
          ∙ (elim (cases_Bool (y.serial == serial)) [
            | inl same ↦
                let number = eqb-true y.serial serial same in
                let child : false ≡ (serial == 0) = sym some ∙ ap (λ k. k == 0) number in
                absurd (let both : false ≡ true = none ∙ ap not (sym child) in cc)
            | inr other ↦ other
          ]))

      event-touched : (event : Option Event) → e.event ≡ event → IsDone (touched_in x event)
      event-touched None is =
          one-touched (λ y main. ap (λ o. option_map_or is_end o false) is)
          (λ y main some. ap (λ o. option_map_or (is_delete_of y.serial) o false) is)
      event-touched (Some Event.Exit) is =
          end-touched (x.serial == 0) refl (λ y. ap (λ o. option_map_or (is_delete_of y.serial) o false) is)
      event-touched (Some (Event.Fault kind)) is =
          end-touched (x.serial == 0) refl (λ y. ap (λ o. option_map_or (is_delete_of y.serial) o false) is)
      event-touched (Some (Event.Delete serial)) is = delete-touched serial is ((x.serial == 0) && not (serial == 0)) refl
      event-touched (Some other) is =
          one-touched (λ y main. ap (λ o. option_map_or is_end o false) is)
          (λ y main some. ap (λ o. option_map_or (is_delete_of y.serial) o false) is)

    thread-touched : (known : Bool) → (known ≡ true → AreFound families 0 ls) → (whose : Option ThreadId) → thread_of e.label ≡ whose
        → IsDone (option_map_or (λ x. if known then touched_in x e.event else Touched.All) whose Touched.Nobody)
    thread-touched known found None is = all-done families 0 (λ _. Unit {0}) (λ y t. of-none y e is) ls ls before (none-changed ls)
    thread-touched false found (Some x) is = all-touched
    thread-touched true found (Some x) is = event-touched (found refl) x is e.event refl

    pub entry-done : (known : Bool) → (known ≡ true → AreFound families 0 ls) → IsDone (touched_by known e)
    entry-done known found = thread-touched known found (thread_of e.label) refl
