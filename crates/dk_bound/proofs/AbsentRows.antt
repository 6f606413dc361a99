-- The rows of the threads, and what those have that are gone or haven't started.
use Rattle.dk_bound.proofs.Names.{ℕ, ◌≡◌, ◌<◌, ◌≤◌, inl, inr, true, false, not, eqb, leb, List, length, refl, sym, ap, ◌∙◌, subst, arith, option_map_or, cases_Bool, nat_tests, Configuration, IsChecked, IsAccepted, period, max_level, window_start, window_end, Entry, Has, Thread, threads, family, is_void, is_ended_by, share, thread_rem, Audited, Always, IdsTellLevels, is_gone, AbsentHaveNothing, FamiliesStand, RowsAreNamed, window_start-le, main_row, children, family-children, same-row, Numbered-serial, Numbered-Distinct, flat-has, ThreadsFit, threads-fit, family-fits, window_end-above, child-of, child-has, row-of, main-or-child, main_stop-old, share-child, stopped-share, stopped-test, jobs-in-order, make-id}
use Rattle.std.proofs.Common.{Option, Some, None}
use Rattle.dk_bound.proofs.Fits.{steady-fair}
use Rattle.dk_bound.proofs.Joint.{steady}
use Rattle.dk_bound.proofs.TickMoves.{id-level}

-- nobody has more left than its share
rem-share : (c : Configuration) (past : List Entry) (x : Thread) → IsChecked c → IsAccepted c → Audited c past → Has (threads c past) x
    → thread_rem c (length past) past x ≤ share c past x (window_start c x.level (length past))
rem-share c past x checked accepted audited among = grind (arith, nat_tests, threads-fit, jobs-in-order, steady-fair, steady)

-- a window that ends by now ends by the start of the present one of its level
end-before : (c : Configuration) (i t n : ℕ) → 0 < period c i → window_end c i t ≤ n → window_end c i t ≤ window_start c i n
end-before c i t n positive le = grind (arith, nat_tests)

ended-stop : (c : Configuration) (n : ℕ) (x : Thread) → is_ended_by c n x ≡ true → (t : ℕ) × (x.stop ≡ Some t) × (window_end c x.level t ≤ n)
ended-stop c n x h = go x.stop refl h
  where
    go : (stop : Option ℕ) → x.stop ≡ stop
        → option_map_or (λ tick. leb tick n) (option_map_or (λ t. Some (window_end c x.level t)) stop None) false ≡ true
        → (t : ℕ) × (x.stop ≡ Some t) × (window_end c x.level t ≤ n)
    go None is h = absurd (cc)
    go (Some t) is h = (t, is, grind (arith, nat_tests))

void-share : (c : Configuration) (past : List Entry) (x : Thread) (s : ℕ) → eqb x.id.serial 0 ≡ false → is_void x ≡ true → share c past x s ≡ 0
void-share c past x s child void = share-child c past x s child ∙ rw void refl

void-child : (c : Configuration) (past : List Entry) (x : Thread) → IsChecked c → Audited c past → ThreadsFit c past → Has (threads c past) x
    → is_void x ≡ true → eqb x.id.serial 0 ≡ false
void-child c past x checked audited fit among void = grind (arith, nat_tests, main-or-child, child-of)

gone-share : (c : Configuration) (past : List Entry) (x : Thread) (s : ℕ) → IsChecked c → Audited c past → ThreadsFit c past → Has (threads c past) x
    → is_gone c (length past) x ≡ true → window_start c x.level (length past) ≤ s → share c past x s ≡ 0
gone-share c past x s checked audited fit among gone le =
    let n = length past in
    elim (cases_Bool (is_void x)) [
      | inl void ↦ void-share c past x s (void-child c past x checked audited fit among void) void
      | inr started ↦
          let over : is_ended_by c n x ≡ true = rw started at gone in
          let stop = ended-stop c n x over in
          let t = stop.0 in
          let row = row-of c x.id.process past x checked (fit.rows x among).known audited (fit.place x among) in
          let up = window_end-above c x.level t row.positive in
          let by = end-before c x.level t n row.positive stop.2 in
          stopped-share c past x s (stopped-test t s x stop.1 (omega (arith, up, by, le)))
    ]

pub absent_have_nothing : Always AbsentHaveNothing
absent_have_nothing c past checked accepted audited =
    let n = length past in
    let fit = threads-fit c past checked audited in
    record {
      gone =
          λ x among gone. (let most = rem-share c past x checked accepted audited among in
          let none = gone-share c past x (window_start c x.level n) checked audited fit among gone (omega arith) in omega (arith, most, none));
      waiting =
          λ x among before. (let most = rem-share c past x checked accepted audited among in
          let none = waiting-share c past x checked audited fit among before in omega (arith, most, none));
      shares = λ x s among gone le. gone-share c past x s checked audited fit among gone (let low = window_start-le c x.level n in omega (arith, low, le));
    }
  where
    waiting-share : (c : Configuration) (past : List Entry) (x : Thread) → IsChecked c → Audited c past → ThreadsFit c past → Has (threads c past) x
        → length past < x.start → share c past x (window_start c x.level (length past)) ≡ 0
    waiting-share c past x checked audited fit among before =
        let n = length past in
        let p = x.id.process in
        let w = window_start c x.level n in
        let low = window_start-le c x.level n in
        let later : leb x.start w ≡ false = grind (arith, nat_tests, low) in
        elim (main-or-child c p past x (fit.place x among)) [
          | inl main ↦ absurd (let start : x.start ≡ 0 = sym (ap (λ y. y.start) main) in omega arith)
          | inr child ↦
              share-child c past x w (child-of c p past x checked (fit.rows x among).known audited child).row.no_main
              ∙ (elim (cases_Bool (not (is_void x))) [ inl a ↦ rw (a, later) refl | inr b ↦ rw b refl ])
        ]

pub families_stand : Always FamiliesStand
families_stand c past checked accepted audited p here = record {
  main = main_row c p past;
  children = children c p past;
  rows = family-children c p past;
  id = refl;
  level = refl;
  start = refl;
  stopped = main_stop-old p past;
  each =
      λ y h. (let k = child-of c p past y checked here audited h in
      let r = (family-fits c p past checked here audited).rows y (child-has c p past y h) in
      record {
        process = k.row.of_process;
        child = k.row.no_main;
        serial = k.serial;
        low = k.above;
        high = subst (λ q. y.level ≤ max_level c q) k.row.of_process r.high;
        known = k.row.known;
        aligned = k.row.aligned;
        stopped = k.row.stopped;
      });
  distinct =
      λ y z h k same. (let numbered = (family-fits c p past checked here audited).numbered in
      let one = Numbered-serial p 0 (family c p past) y numbered (child-has c p past y h) in
      let two = Numbered-serial p 0 (family c p past) z numbered (child-has c p past z k) in
      same-row (family c p past) y z (Numbered-Distinct p 0 (family c p past) numbered) (child-has c p past y h) (child-has c p past z k)
      (make-id y.id z.id (one.2 ∙ sym two.2) same));
}

pub rows_are_named : Always RowsAreNamed
rows_are_named c past checked accepted audited =
    let fit = threads-fit c past checked audited in
    record {
      distinct = λ x y among there same. same-row (threads c past) x y fit.distinct among there same;
      place = λ x among. ((fit.rows x among).known, fit.place x among);
      all = λ p x here h. flat-has (λ q. family c q past) 0 (length c.processes) p x (omega arith) (omega arith) h;
    }

pub ids_tell_levels : Always IdsTellLevels
ids_tell_levels c past checked accepted audited x among = id-level c past x (threads-fit c past checked audited) among
