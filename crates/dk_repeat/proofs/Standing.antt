-- Threads that stand alike where all windows begin are twins, and stay so with each entry.
use Rattle.dk_repeat.proofs.Names.{ℕ, suc, ◌≡◌, ◌+◌, ◌-◌, ◌<◌, ◌≤◌, inl, inr, Bool, true, false, cond, ltb, List, [], ◌∷◌, ◌++◌, length, Option, Some, None, refl, sym, ap, ◌∙◌, arith, length-append, map, is_some, nat_tests, Configuration, period, window_end, IsChecked, Event, Entry, Has, is_of, Thread, family, after_entry, made_by, new_rows, Audited, main_id, append-right, children, new-row, row-of, main-or-child, child-of, has-next, Standing, standing}
use Rattle.dk_repeat.proofs.Since.{LevelsBegin, Since, Stop, row_since, stop_since, row-later, row_after, end-behind, end-before}
use Rattle.dk_repeat.proofs.Pairs.{Pairs, pairs-append, pairs-map}
use Rattle.dk_repeat.proofs.Twins.{Twin}

-- the thread had its start by the tick, and its stop before it
record Settled (c : Configuration) (A : ℕ) (x : Thread) : Type 0 where
  start : x.start ≤ A
  stop : (t : ℕ) → x.stop ≡ Some t → t < A
  positive : 0 < period c x.level
  known : x.id.process < length c.processes

child-early : (c : Configuration) (p : ℕ) (past : List Entry) (y : Thread) → IsChecked c → p < length c.processes → Audited c past → LevelsBegin c (length past)
    → Has (children c p past) y → 0 < period c y.level → y.start ≤ length past
child-early c p [] y checked here audited begins h positive = absurd h
child-early c p (e ∷ past) y checked here audited begins h positive =
    let ends = end-before c (suc (length past)) begins y.level (length past) positive (omega arith) in
    elim (has-next e (length past) (children c p past) (new_rows c p e past) y h) [
      | inl old ↦
          let x : Thread = old.0 in
          let early = (child-of c p past x checked here audited.0 old.1).row.early in
          let level : x.level ≡ y.level = ap (λ (z : Thread). z.level) old.2 in
          let start : x.start ≡ y.start = ap (λ (z : Thread). z.start) old.2 in
          let same : window_end c x.level (length past) ≡ window_end c y.level (length past) = ap (λ i. window_end c i (length past)) level in
          omega (arith, early, start, same, ends)
      | inr new ↦ let start = (new-row c p e past y audited.1 new).start in omega (arith, start, ends)
    ]

settled : (c : Configuration) (p : ℕ) (past : List Entry) (x : Thread) → IsChecked c → p < length c.processes → Audited c past → LevelsBegin c (length past)
    → Has (family c p past) x → Settled c (length past) x
settled c p past x checked here audited begins h =
    let row = row-of c p past x checked here audited h in
    let process = row.process in
    record {
      start = elim (main-or-child c p past x h) [
        | inl main ↦ (let zero_start : x.start ≡ 0 = ap (λ (z : Thread). z.start) (sym main) in omega (arith, zero_start))
        | inr child ↦ child-early c p past x checked here audited begins child row.positive
      ];
      stop = row.stopped;
      positive = row.positive;
      known = omega (arith, process, here);
    }

-- a settled thread, counted from the tick
abbrev from_standing : Standing → Since
from_standing s = record { id = s.id; level = s.level; quota = s.quota; start = 0; stop = cond s.stopped Stop.before Stop.never }

stop-settled : (A : ℕ) (o : Option ℕ) → ((t : ℕ) → o ≡ Some t → t < A) → stop_since A o ≡ cond (is_some o) Stop.before Stop.never
stop-settled A None early = refl
stop-settled A (Some t) early = let low = early t refl in let test : ltb t A ≡ true = grind (arith, nat_tests) in rw test refl

settled-since : (c : Configuration) (A : ℕ) (x : Thread) → Settled c A x → row_since A x ≡ from_standing (standing x)
settled-since c A x s =
    let start = s.start in
    let none : x.start - A ≡ 0 = omega (arith, start) in
    ap (λ n. record { id = x.id; level = x.level; quota = x.quota; start = n; stop = stop_since A x.stop }) none
    ∙ ap (λ (t : Stop). record { id = x.id; level = x.level; quota = x.quota; start = 0; stop = t }) (stop-settled A x.stop s.stop)

first-pairs : (c : Configuration) (A B : ℕ) (xs ys : List Thread) → ((x : Thread) → Has xs x → Settled c A x) → ((y : Thread) → Has ys y → Settled c B y)
    → map standing xs ≡ map standing ys → Pairs (Twin c A B) xs ys
first-pairs c A B [] [] each each' same = tt
first-pairs c A B [] (y ∷ ys) each each' same = absurd (cc)
first-pairs c A B (x ∷ xs) [] each each' same = absurd (cc)
first-pairs c A B (x ∷ xs) (y ∷ ys) each each' same =
    let here : standing x ≡ standing y = cc in
    let rest : map standing xs ≡ map standing ys = cc in
    let s = each x (inl refl) in
    let s' = each' y (inl refl) in (
      record { same = settled-since c A x s ∙ ap from_standing here ∙ sym (settled-since c B y s'); positive = s.positive; known = s.known },
      first-pairs c A B xs ys (λ z h. each z (inr h)) (λ z h. each' z (inr h)) rest,
    )

-- families that stand alike
pub first-twins : (c : Configuration) (p : ℕ) (one other : List Entry) → IsChecked c → p < length c.processes → Audited c one → Audited c other
    → LevelsBegin c (length one) → LevelsBegin c (length other) → map standing (family c p one) ≡ map standing (family c p other)
    → Pairs (Twin c (length one) (length other)) (family c p one) (family c p other)
first-twins c p one other checked here audited audited' begins begins' same =
    first-pairs c (length one) (length other) (family c p one) (family c p other)
    (λ x h. settled c p one x checked here audited begins h) (λ y h. settled c p other y checked here audited' begins' h) same

made-twins : (c : Configuration) (A B p d n m : ℕ) (event : Option Event) → LevelsBegin c A → LevelsBegin c B → p < length c.processes
    → n ≡ d + A → m ≡ d + B → ((y : Thread) → Has (made_by c p n event) y → 0 < period c y.level)
    → Pairs (Twin c A B) (made_by c p n event) (made_by c p m event)
made-twins c A B p d n m None begins begins' here is is' positive = tt
made-twins c A B p d n m (Some (Event.Create serial level quota)) begins begins' here is is' positive =
    let up : 0 < period c level = positive _ (inl refl) in
    let a = end-behind c A begins level d up in
    let b = end-behind c B begins' level d up in
    let a' : window_end c level n ≡ window_end c level d + A = ap (window_end c level) is ∙ a in
    let b' : window_end c level m ≡ window_end c level d + B = ap (window_end c level) is' ∙ b in
    let start : window_end c level n - A ≡ window_end c level m - B = omega (arith, a', b') in (
      record {
        same = ap (λ k. record { id = record { process = p; serial = serial }; level = level; quota = quota; start = k; stop = Stop.never }) start;
        positive = up;
        known = here;
      },
      tt,
    )
made-twins c A B p d n m (Some event) begins begins' here is is' positive = tt

after-twin : (c : Configuration) (A B d n m : ℕ) (e : Entry) (x y : Thread) → n ≡ d + A → m ≡ d + B → Twin c A B x y → Twin c A B (after_entry e n x) (after_entry e m y)
after-twin c A B d n m e x y is is' t =
    record {
      same = ap (λ k. row_since A (after_entry e k x)) is ∙ row-later A d e x ∙ ap (row_after e d) t.same ∙ sym (row-later B d e y) ∙ sym (ap (λ k. row_since B (after_entry e k y)) is');
      positive = t.positive;
      known = t.known;
    }

pub twins-go-on : (c : Configuration) (p : ℕ) (one other new : List Entry) → IsChecked c → p < length c.processes → LevelsBegin c (length one) → LevelsBegin c (length other)
    → Audited c (new ++ one) → Pairs (Twin c (length one) (length other)) (family c p one) (family c p other)
    → Pairs (Twin c (length one) (length other)) (family c p (new ++ one)) (family c p (new ++ other))
twins-go-on c p one other [] checked here begins begins' audited first = first
twins-go-on c p one other (e ∷ new) checked here begins begins' audited first =
    let A = length one in
    let B = length other in
    let before = twins-go-on c p one other new checked here begins begins' audited.0 first in
    let is = length-append new one in
    let is' = length-append new other in
    pairs-append (Twin c A B) (map (after_entry e (length (new ++ one))) (family c p (new ++ one))) (map (after_entry e (length (new ++ other))) (family c p (new ++ other)))
    (new_rows c p e (new ++ one)) (new_rows c p e (new ++ other))
    (pairs-map (Twin c A B) (after_entry e (length (new ++ one))) (after_entry e (length (new ++ other))) (family c p (new ++ one)) (family c p (new ++ other)) before
    (λ x y t. after-twin c A B (length new) (length (new ++ one)) (length (new ++ other)) e x y is is' t))
    (made (is_of (main_id p) e) refl)
  where
    made : (b : Bool) → is_of (main_id p) e ≡ b
        → Pairs (Twin c (length one) (length other)) (cond b (made_by c p (length (new ++ one)) e.event) []) (cond b (made_by c p (length (new ++ other)) e.event) [])
    made false mine = tt
    made true mine =
        made-twins c (length one) (length other) p (length new) (length (new ++ one)) (length (new ++ other)) e.event begins begins' here (length-append new one) (length-append new other)
        (λ y h.
        let h' : Has (new_rows c p e (new ++ one)) y = rw mine h in
        (row-of c p (e ∷ (new ++ one)) y checked here audited
        (append-right (map (after_entry e (length (new ++ one))) (family c p (new ++ one))) (new_rows c p e (new ++ one)) y h')).positive)
