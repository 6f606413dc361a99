-- The rows of the threads along a list that follows the rules.
use Rattle.dk_trace.proofs.Names.{ℕ, suc, ◌≡◌, ◌+◌, ◌%◌, ◌<◌, ◌≤◌, ◌⊎◌, inl, inr, Bool, List, [], ◌∷◌, ◌++◌, length, refl, sym, ap, ◌∙◌, subst, arith, length-append, zero, eqb, map, Option, Some, flat_map, if◌then◌else◌, sum_by, option_or, then_some, ◌∣◌, nat_tests, dvd-add, dvd_refl, mod-lt, length-map, map-append, dvd-zero, cases_Bool, sum_by-append, Configuration, period, window_end, main_level, max_level, Entry, stops, is_of, Thread, family, after_entry, new_rows, made_by, threads, Audited, IsChecked, below, numbers, Has, ThreadId, level_of, Event}
use Rattle.std.proofs.lemmas.List.{append-nil}
use Rattle.dk_trace.proofs.Mains.{main_id, main_row, main_stop}
use Rattle.dk_trace.proofs.Families.{children, family-children, IsChildRow, AllRows, dvd-start}
use Rattle.dk_trace.proofs.Members.{has-append, has-map, has-length, flat-has}
use Rattle.dk_trace.proofs.Events.{IsNew, new-row, share_of, least}

pub window_end-above : (c : Configuration) (i n : ℕ) → 0 < period c i → n < window_end c i n
window_end-above c i n positive = let less : n % period c i < period c i = mod-lt n positive in omega arith

-- window ends never fall
pub window_end-next : (c : Configuration) (i n : ℕ) → 0 < period c i → window_end c i n ≤ window_end c i (suc n)
window_end-next c i n positive = grind (arith, nat_tests)

pub dvd-end : (c : Configuration) (i n : ℕ) → period c i ∣ window_end c i n
dvd-end c i n = dvd-add (period c i) (dvd-start (period c i) n) (dvd_refl (period c i))

-- what is known of a child
pub record IsChild (c : Configuration) (p : ℕ) (past : List Entry) (y : Thread) : Type 0 where
  pub row : IsChildRow c p (length past) y
  pub serial : y.id.serial < length (family c p past)
  pub above : main_level c p ≤ y.level
  pub enough : least c ≤ share_of c p y.level y.quota

-- a row of the next tick was there, or is new
pub has-next : (e : Entry) (n : ℕ) (xs new : List Thread) (y : Thread) → Has (map (after_entry e n) xs ++ new) y
    → ((x : Thread) × Has xs x × (after_entry e n x ≡ y)) ⊎ Has new y
has-next e n xs new y h =
    elim (has-append (map (after_entry e n) xs) new y h) [ inl old ↦ inl (has-map (after_entry e n) xs y old) | inr is ↦ inr is ]

pub family-length : (c : Configuration) (p : ℕ) (e : Entry) (past : List Entry)
    → length (family c p (e ∷ past)) ≡ length (family c p past) + length (new_rows c p e past)
family-length c p e past =
    length-append (map (after_entry e (length past)) (family c p past)) (new_rows c p e past)
    ∙ ap (λ k. k + length (new_rows c p e past)) (length-map (family c p past) (after_entry e (length past)))

pub family-some : (c : Configuration) (p : ℕ) (past : List Entry) → 0 < length (family c p past)
family-some c p past = let e = ap length (family-children c p past) in omega arith

stop-old : (n : ℕ) (stop : Option ℕ) (b : Bool) → ((t : ℕ) → stop ≡ Some t → t < n) → (t : ℕ) → option_or stop (then_some b n) ≡ Some t → t < suc n
stop-old n stop b h t e = grind (arith, nat_tests)

pub child-next : (c : Configuration) (p : ℕ) (e : Entry) (past : List Entry) (x : Thread) → IsChild c p past x
    → IsChild c p (e ∷ past) (after_entry e (length past) x)
child-next c p e past x h = grind (arith, nat_tests, family-length, window_end-next, stop-old)

pub child-new : (c : Configuration) (p : ℕ) (e : Entry) (past : List Entry) (y : Thread) → IsChecked c → p < length c.processes
    → IsNew c p past y → Has (new_rows c p e past) y → IsChild c p (e ∷ past) y
child-new c p e past y checked here new h =
    let n = length past in
    let met = new.met in
    let next = met.next in
    let some = family-some c p past in
    let longer = family-length c p e past in
    let one = has-length (new_rows c p e past) y h in
    let top : max_level c p < length c.levels = checked.reaches p here in
    let below_top : y.level ≤ max_level c p = met.known in
    let known : y.level < length c.levels = omega arith in
    let positive : 0 < period c y.level = checked.positive y.level known in
    let start = new.start in
    let grows = window_end-next c y.level n positive in
    record {
      row = record {
        no_main = (let some' : 0 < y.id.serial = omega arith in grind (arith, nat_tests));
        of_process = new.process;
        known = known;
        positive = positive;
        aligned = subst (λ s. period c y.level ∣ s) (sym start) (dvd-end c y.level n);
        early = omega arith;
        stopped = λ t is. absurd (cc (new.running));
      };
      serial = omega arith;
      above = met.above;
      enough = met.enough;
    }

-- every child along the list
pub child-of : (c : Configuration) (p : ℕ) (past : List Entry) (y : Thread) → IsChecked c → p < length c.processes → Audited c past
    → Has (children c p past) y → IsChild c p past y
child-of c p [] y checked here audited h = absurd h
child-of c p (e ∷ past) y checked here audited h =
    elim (has-next e (length past) (children c p past) (new_rows c p e past) y h) [
      | inl old ↦ subst (IsChild c p (e ∷ past)) old.2 (child-next c p e past old.0 (child-of c p past old.0 checked here audited.0 old.1))
      | inr new ↦ child-new c p e past y checked here (new-row c p e past y audited.1 new) new
    ]

pub all-rows : (c : Configuration) (p n : ℕ) (ys : List Thread) → ((y : Thread) → Has ys y → IsChildRow c p n y) → AllRows c p n ys
all-rows c p n [] h = tt
all-rows c p n (y ∷ ys) h = (h y (inl refl), all-rows c p n ys (λ z k. h z (inr k)))

pub rows-of : (c : Configuration) (p : ℕ) (past : List Entry) → IsChecked c → p < length c.processes → Audited c past
    → AllRows c p (length past) (children c p past)
rows-of c p past checked here audited =
    all-rows c p (length past) (children c p past) (λ y h. (child-of c p past y checked here audited h).row)

-- a thread is the main or a child
pub main-or-child : (c : Configuration) (p : ℕ) (past : List Entry) (x : Thread) → Has (family c p past) x
    → (main_row c p past ≡ x) ⊎ Has (children c p past) x
main-or-child c p past x h = subst (λ xs. Has xs x) (family-children c p past) h

pub child-has : (c : Configuration) (p : ℕ) (past : List Entry) (x : Thread) → Has (children c p past) x → Has (family c p past) x
child-has c p past x h = subst (λ xs. Has xs x) (sym (family-children c p past)) (inr h)

pub main-has : (c : Configuration) (p : ℕ) (past : List Entry) → Has (family c p past) (main_row c p past)
main-has c p past = subst (λ xs. Has xs (main_row c p past)) (sym (family-children c p past)) (inl refl)

-- what is known of any thread
pub record IsRow (c : Configuration) (p : ℕ) (past : List Entry) (x : Thread) : Type 0 where
  pub process : x.id.process ≡ p
  pub serial : x.id.serial < length (family c p past)
  pub above : main_level c p ≤ x.level
  pub known : x.level < length c.levels
  pub positive : 0 < period c x.level
  pub aligned : period c x.level ∣ x.start
  pub stopped : (t : ℕ) → x.stop ≡ Some t → t < length past

pub main_stop-old : (p : ℕ) (past : List Entry) (t : ℕ) → main_stop p past ≡ Some t → t < length past
main_stop-old p [] t h = absurd (cc)
main_stop-old p (e ∷ past) t h = stop-old (length past) (main_stop p past) (stops (main_id p) e) (main_stop-old p past) t h

pub row-of : (c : Configuration) (p : ℕ) (past : List Entry) (x : Thread) → IsChecked c → p < length c.processes → Audited c past
    → Has (family c p past) x → IsRow c p past x
row-of c p past x checked here audited h =
    elim (main-or-child c p past x h) [
      | inl main ↦ subst (IsRow c p past) main (record {
        process = refl;
        serial = family-some c p past;
        above = omega arith;
        known = checked.levels p here;
        positive = checked.positive (main_level c p) (checked.levels p here);
        aligned = dvd-zero (period c (main_level c p));
        stopped = main_stop-old p past;
      })
      | inr child ↦
          let k = child-of c p past x checked here audited child in
          record {
            process = k.row.of_process;
            serial = k.serial;
            above = k.above;
            known = k.row.known;
            positive = k.row.positive;
            aligned = k.row.aligned;
            stopped = k.row.stopped;
          }
    ]

module _ (c : Configuration) (e : Entry) (past : List Entry) (makes : (p : ℕ) → made_by c p (length past) e.event ≡ []) where
  makes-none : (p : ℕ) (b : Bool) → (if b then made_by c p (length past) e.event else []) ≡ []
  makes-none p b = grind (arith, nat_tests)

  pub family-after : (p : ℕ) → family c p (e ∷ past) ≡ map (after_entry e (length past)) (family c p past)
  family-after p = grind (arith, nat_tests, makes-none, append-nil)

  flat-after : (ns : List ℕ) → flat_map (λ p. family c p (e ∷ past)) ns ≡ map (after_entry e (length past)) (flat_map (λ p. family c p past) ns)
  flat-after [] = refl
  flat-after (n ∷ ns) = grind (arith, nat_tests, family-after, map-append, flat-after ns)

  pub threads-after : threads c (e ∷ past) ≡ map (after_entry e (length past)) (threads c past)
  threads-after = flat-after (below (length c.processes))

  pub after-has : (y : Thread) → Has (threads c (e ∷ past)) y → (x : Thread) × Has (threads c past) x × (after_entry e (length past) x ≡ y)
  after-has y h = has-map (after_entry e (length past)) (threads c past) y (subst (λ xs. Has xs y) threads-after h)

level-after : (e : Entry) (tick : ℕ) (x : ThreadId) (xs : List Thread) → level_of (map (after_entry e tick) xs) x ≡ level_of xs x
level-after e tick x [] = refl
level-after e tick x (y ∷ ys) = grind (arith, nat_tests, level-after e tick x ys)

-- an entry that makes no thread keeps all levels
pub levels-stay : (c : Configuration) (e : Entry) (past : List Entry) → ((p : ℕ) → made_by c p (length past) e.event ≡ [])
    → (x : ThreadId) → level_of (threads c (e ∷ past)) x ≡ level_of (threads c past) x
levels-stay c e past makes x = ap (λ xs. level_of xs x) (threads-after c e past makes) ∙ level-after e (length past) x (threads c past)

-- a thread of a process is among all
pub family-among : (c : Configuration) (p : ℕ) (past : List Entry) (y : Thread) → p < length c.processes → Has (family c p past) y → Has (threads c past) y
family-among c p past y known has = flat-has (λ q. family c q past) 0 (length c.processes) p y (omega arith) (omega (arith, known)) has

-- the sum over a process's threads is a part of that over all
pub family-sum : (c : Configuration) (p : ℕ) (past : List Entry) (g : Thread → ℕ) → p < length c.processes → sum_by g (family c p past) ≤ sum_by g (threads c past)
family-sum c p past g known = go 0 (length c.processes) (omega arith) (omega (arith, known))
  where
    go : (low n : ℕ) → low ≤ p → p < low + n → sum_by g (family c p past) ≤ sum_by g (flat_map (λ q. family c q past) (numbers low n))
    go low zero from under = absurd (omega arith)
    go low (suc n) from under =
        let split = sum_by-append g (family c low past) (flat_map (λ q. family c q past) (numbers (suc low) n)) in
        elim (cases_Bool (eqb low p)) [
          | inl here ↦
              let e : low ≡ p = grind (arith, nat_tests) in
              let same = ap (λ q. sum_by g (family c q past)) e in
              omega (arith, split, same)
          | inr further ↦
              let above : suc low ≤ p = grind (arith, nat_tests) in
              let rest = go (suc low) n above (omega arith) in
              omega (arith, split, rest)
        ]

made-most : (c : Configuration) (p tick : ℕ) (event : Option Event) (b : Bool) → length (if b then made_by c p tick event else []) ≤ 1
made-most c p tick event b = grind (arith, nat_tests)

-- a process has at most one thread more than there were ticks
pub family-few : (c : Configuration) (p : ℕ) (past : List Entry) → length (family c p past) ≤ suc (length past)
family-few c p [] = omega arith
family-few c p (e ∷ past) =
    let before = family-few c p past in
    let a = length-map (family c p past) (after_entry e (length past)) in
    let b = length-append (map (after_entry e (length past)) (family c p past)) (if is_of (record { process = p; serial = 0 }) e then made_by c p (length past) e.event else []) in
    let one = made-most c p (length past) e.event (is_of (record { process = p; serial = 0 }) e) in
    omega (arith, before, a, b, one)
