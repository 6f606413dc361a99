-- Each label of the groups has a row that takes it.
use Rattle.dk_picture.proofs.Names.{ℕ, zero, suc, ◌≡◌, ◌∙◌, ◌+◌, ◌-◌, ◌<◌, ◌≤◌, ◌++◌, [], ◌∷◌, List, length, map, take, drop, sym, ap, subst, refl, arith, eq-eqb, length-drop, Bool, true, false, ◌||◌, ◌&&◌, ◌==◌, not, Option, Some, None, fold, nat_le, slice_get, if◌then◌else◌, AllByRecursion, list_any, option_map_or, below, numbers, ThreadId, Label, HasEntry, HasLabel, Entry, length-take, eqb-true, eqb-false, groups_filled, groups_in_turn, ProcessLine, LedgerLine, Heading, IsProcessLine, IsReadable, IsReadableHeading, size_in, IsReadableLine, lines_readable, groups, whole_slice, Row, child_of, child_rows, children, is_seen, level_of, level_rows, main_rows, own_child, process_rows, rows_at_level, rows_of, takes, takes_thread, thread_of_process, with_child}
use Rattle.std.specs.Prelude.{flat_map}
use Rattle.dk_picture.specs.declared.rows.Row.TheVariants as row

-- ---- lists in which some element passes

module _ {A : Type 0} (q : A → Bool) where
  pub any_first : (x : A) (xs : List A) → q x ≡ true → list_any q (x ∷ xs) ≡ true
  any_first x xs is = ap (λ b. b || list_any q xs) is

  pub any_later : (x : A) (xs : List A) (b : Bool) → q x ≡ b → list_any q xs ≡ true → list_any q (x ∷ xs) ≡ true
  any_later x xs true is e = any_first x xs is
  any_later x xs false is e = ap (λ b. b || list_any q xs) is ∙ e

  any_rest : (x : A) (xs ys : List A) (b : Bool) → q x ≡ b → list_any q (x ∷ xs) ≡ true → (list_any q xs ≡ true → list_any q ys ≡ true) → list_any q (x ∷ ys) ≡ true
  any_rest x xs ys true is e more = any_first x ys is
  any_rest x xs ys false is e more = ap (λ b. b || list_any q ys) is ∙ more (sym (ap (λ b. b || list_any q xs) is) ∙ e)

  any_left : (xs ys : List A) → list_any q xs ≡ true → list_any q (xs ++ ys) ≡ true
  any_left [] ys e = absurd (cc)
  any_left (x ∷ xs) ys e = any_rest x xs (xs ++ ys) (q x) refl e (λ own. any_left xs ys own)

  any_right : (xs ys : List A) → list_any q ys ≡ true → list_any q (xs ++ ys) ≡ true
  any_right [] ys e = e
  any_right (x ∷ xs) ys e = any_later x (xs ++ ys) (q x) refl (any_right xs ys e)

  any_here : (f : ℕ → List A) (low i : ℕ) (rest : List A) (b : Bool) → (low == i) ≡ b → low ≤ i → list_any q (f i) ≡ true → (suc low ≤ i → list_any q rest ≡ true) → list_any q (f low ++ rest) ≡ true
  any_here f low i rest true is from e more = let same : low ≡ i = eqb-true _ _ is in any_left (f low) rest (ap (λ k. list_any q (f k)) same ∙ e)
  any_here f low i rest false is from e more = let other = eqb-false _ _ is in any_right (f low) rest (more (omega (arith, from, other)))

  pub any_numbered : (f : ℕ → List A) (low n i : ℕ) → low ≤ i → i < low + n → list_any q (f i) ≡ true → list_any q (flat_map f (numbers low n)) ≡ true
  any_numbered f low zero i from to e = absurd (omega (arith, from, to))
  any_numbered f low (suc n) i from to e =
      any_here f low i (flat_map f (numbers (suc low) n)) (low == i) refl from e (λ more. any_numbered f (suc low) n i more (omega (arith, to)) e)

-- ---- a child that has a group is among the children

abbrev has : ℕ → ℕ → Bool
has s t = t == s

keeps : (s : ℕ) (ss : List ℕ) (o : Option ℕ) → list_any (has s) ss ≡ true → list_any (has s) (with_child ss o) ≡ true
keeps s ss None e = e
keeps s ss (Some t) e = go (list_any (λ u. u == t) ss)
  where
    go : (b : Bool) → list_any (has s) (if b then ss else ss ++ t ∷ []) ≡ true
    go true = e
    go false = any_left (has s) ss (t ∷ []) e

same_number : (s : ℕ) → (s == s) ≡ true
same_number s = eq-eqb s s refl

takes_in : (s : ℕ) (ss : List ℕ) → list_any (has s) (with_child ss (Some s)) ≡ true
takes_in s ss = go (list_any (has s) ss) refl
  where
    go : (b : Bool) → list_any (has s) ss ≡ b → list_any (has s) (if b then ss else ss ++ s ∷ []) ≡ true
    go true is = is
    go false is = any_right (has s) ss (s ∷ []) (any_first (has s) s [] (same_number s))

module _ (p : ℕ) where
  abbrev step : List ℕ → LedgerLine → List ℕ
  step ss g = with_child ss (child_of p g.label)

  keeps_all : (s : ℕ) (ss : List ℕ) (gs : List LedgerLine) → list_any (has s) ss ≡ true → list_any (has s) (fold step ss gs) ≡ true
  keeps_all s ss [] e = e
  keeps_all s ss (g ∷ gs) e = keeps_all s (step ss g) gs (keeps s ss (child_of p g.label) e)

  all_among : (ss : List ℕ) (gs : List LedgerLine) → AllByRecursion (λ g. (s : ℕ) → child_of p g.label ≡ Some s → list_any (has s) (fold step ss gs) ≡ true) gs
  all_among ss [] = tt
  all_among ss (g ∷ gs) = (
    λ s is. keeps_all s (step ss g) gs (ap (λ o. list_any (has s) (with_child ss o)) is ∙ takes_in s ss),
    all_among (step ss g) gs,
  )

-- ---- a thread's row

-- the level of a process of the header is one of the header's
level_known : (levels p : ℕ) (ps : List ProcessLine) → AllByRecursion (IsProcessLine levels) ps → p < length ps → option_map_or (λ (line : ProcessLine). line.level) (slice_get ps p) 0 < levels
level_known levels p [] all inside = absurd (omega arith)
level_known levels zero (q ∷ ps) all inside = all.0.level
level_known levels (suc p) (q ∷ ps) all inside = level_known levels p ps all.1 (omega arith)

main_taken : (x : ThreadId) → x.serial ≡ 0 → takes_thread (thread_of_process x.process 0) x ≡ true
main_taken x main = ap (λ n. (x.process == x.process) && (0 == n)) main ∙ ap (λ b. b && true) (same_number x.process)

any_rest_of : (a b rest more : Bool) → a ≡ b → (b || more) ≡ true → (more ≡ true → rest ≡ true) → (a || rest) ≡ true
any_rest_of a true rest more is e later = ap (λ c. c || rest) is
any_rest_of a false rest more is e later = ap (λ c. c || rest) is ∙ later e

own_here : (x : ThreadId) (s : ℕ) (ss : List ℕ) (b : Bool) → (s == x.serial) ≡ b → list_any (has x.serial) (s ∷ ss) ≡ true
    → (list_any (has x.serial) ss ≡ true → list_any (λ r. takes_thread r x) (map (thread_of_process x.process) ss) ≡ true)
    → list_any (λ r. takes_thread r x) (map (thread_of_process x.process) (s ∷ ss)) ≡ true
own_here x s ss b is e more =
    any_rest_of (takes_thread (thread_of_process x.process s) x) b (list_any (λ r. takes_thread r x) (map (thread_of_process x.process) ss)) (list_any (has x.serial) ss)
    (ap (λ a. a && (s == x.serial)) (same_number x.process) ∙ ap (λ a. true && a) is) (sym (ap (λ a. a || list_any (has x.serial) ss) is) ∙ e) more

own_taken : (x : ThreadId) (ss : List ℕ) → list_any (has x.serial) ss ≡ true → list_any (λ r. takes_thread r x) (map (thread_of_process x.process) ss) ≡ true
own_taken x [] e = absurd (cc)
own_taken x (s ∷ ss) e = own_here x s ss (s == x.serial) refl e (λ more. own_taken x ss more)

not_true : (n : ℕ) → (n == 0) ≡ false → not (n == 0) ≡ true
not_true n is = ap not is

module _ (h : Heading) (gs : List LedgerLine) (is : IsReadableHeading h) where
  module _ (x : ThreadId) (inside : x.process < length h.processes) where
    abbrev takes_it : Row → Bool
    takes_it r = takes_thread r x

    child_taken : (x.serial == 0) ≡ false → list_any (has x.serial) (children gs x.process) ≡ true → list_any takes_it (child_rows x.process (children gs x.process)) ≡ true
    child_taken child among = go (nat_le (length (children gs x.process)) 4)
      where
        go : (b : Bool) → list_any takes_it (if b then map (thread_of_process x.process) (children gs x.process) else row.Children x.process ∷ []) ≡ true
        go true = own_taken x (children gs x.process) among
        go false =
            any_first takes_it (row.Children x.process) []
            (ap (λ b. b && not (x.serial == 0)) (same_number x.process) ∙ ap (λ b. true && b) (not_true x.serial child))

    main_there : x.serial ≡ 0 → is_seen gs x.process ≡ true → list_any takes_it (main_rows gs x.process) ≡ true
    main_there main seen =
        ap (λ b. list_any takes_it (if b then thread_of_process x.process 0 ∷ [] else [])) seen ∙ any_first takes_it (thread_of_process x.process 0) [] (main_taken x main)

    process_taken : (b : Bool) → (x.serial == 0) ≡ b → (x.serial ≡ 0 → is_seen gs x.process ≡ true)
        → ((x.serial == 0) ≡ false → list_any (has x.serial) (children gs x.process) ≡ true) → list_any takes_it (process_rows gs x.process) ≡ true
    process_taken true main seen among =
        let zero_is : x.serial ≡ 0 = eqb-true _ _ main in
        any_left takes_it (main_rows gs x.process) (child_rows x.process (children gs x.process)) (main_there zero_is (seen zero_is))
    process_taken false child seen among =
        any_right takes_it (main_rows gs x.process) (child_rows x.process (children gs x.process)) (child_taken child (among child))

    level_taken : list_any takes_it (process_rows gs x.process) ≡ true → list_any takes_it (rows_at_level h gs (level_of h x.process) x.process) ≡ true
    level_taken own = ap (λ b. list_any takes_it (if b then process_rows gs x.process else [])) (same_number (level_of h x.process)) ∙ own

    pub thread_covered : (x.serial ≡ 0 → is_seen gs x.process ≡ true) → ((x.serial == 0) ≡ false → list_any (has x.serial) (children gs x.process) ≡ true)
        → list_any takes_it (rows_of h gs) ≡ true
    thread_covered seen among =
        let known = level_known (length h.levels) x.process h.processes is.processes inside in
        any_right takes_it (row.Kernel ∷ []) (flat_map (level_rows h gs) (below (length h.levels)))
        (any_numbered takes_it (level_rows h gs) 0 (length h.levels) (level_of h x.process) (omega arith) (omega (arith, known))
        (any_numbered takes_it (rows_at_level h gs (level_of h x.process)) 0 (length h.processes) x.process (omega arith) (omega (arith, inside))
        (level_taken (process_taken (x.serial == 0) refl seen among))))

  record Among (label : Label) : Type 0 where
    child : (p s : ℕ) → child_of p label ≡ Some s → list_any (has s) (children gs p) ≡ true
    main : (p : ℕ) → takes label (thread_of_process p 0) ≡ true → is_seen gs p ≡ true

  child_is : (x : ThreadId) → (x.serial == 0) ≡ false → own_child x.process x ≡ Some x.serial
  child_is x child =
      ap (λ b. if b && not (x.serial == 0) then Some x.serial else None) (same_number x.process)
      ∙ ap (λ b. if true && b then Some x.serial else None) (not_true x.serial child)

  label_covered : (label : Label) → HasLabel (size_in h) label → Among label → list_any (takes label) (rows_of h gs) ≡ true
  label_covered (Label.Kernel j) known among = refl
  label_covered (Label.In x) known among = thread_covered x known.0 (λ main. among.main x.process (main_taken x main)) (λ child. among.child x.process x.serial (child_is x child))
  label_covered (Label.Run x) known among = thread_covered x known.0 (λ main. among.main x.process (main_taken x main)) (λ child. among.child x.process x.serial (child_is x child))
  label_covered (Label.Call x) known among = thread_covered x known.0 (λ main. among.main x.process (main_taken x main)) (λ child. among.child x.process x.serial (child_is x child))
  label_covered (Label.Out x) known among = thread_covered x known.0 (λ main. among.main x.process (main_taken x main)) (λ child. among.child x.process x.serial (child_is x child))
  label_covered (Label.Slack x source work) known among =
      thread_covered x known.0.0 (λ main. among.main x.process (main_taken x main)) (λ child. among.child x.process x.serial (child_is x child))
  label_covered Label.Idle known among = refl

-- each process's children are among them, group by group
among_all : (p : ℕ) (all gs : List LedgerLine) (ss : List ℕ) → fold (step p) ss gs ≡ children all p → AllByRecursion (λ g. (s : ℕ) → child_of p g.label ≡ Some s → list_any (has s) (children all p) ≡ true) gs
among_all p all gs ss whole =
    subst (λ (t : List ℕ). AllByRecursion (λ g. (s : ℕ) → child_of p g.label ≡ Some s → list_any (has s) t ≡ true) gs) whole (all_among p ss gs)

-- what passes is among all
any_all : {A : Type 0} (q : A → Bool) (xs : List A) → AllByRecursion (λ x. q x ≡ true → list_any q xs ≡ true) xs
any_all q [] = tt
any_all q (x ∷ xs) = (any_first q x xs, go xs (any_all q xs))
  where
    go : (ys : List _) → AllByRecursion (λ y. q y ≡ true → list_any q xs ≡ true) ys → AllByRecursion (λ y. q y ≡ true → list_any q (x ∷ xs) ≡ true) ys
    go [] all = tt
    go (y ∷ ys) all = (λ is. any_later q x xs (q x) refl (all.0 is), go ys all.1)

abbrev in_row : ℕ → LedgerLine → Bool
in_row p g = takes g.label (thread_of_process p 0)

covered_from : (h : Heading) (all gs : List LedgerLine) → IsReadableHeading h → AllByRecursion (IsReadableLine h) gs
    → ((p : ℕ) → AllByRecursion (λ g. (s : ℕ) → child_of p g.label ≡ Some s → list_any (has s) (children all p) ≡ true) gs)
    → ((p : ℕ) → AllByRecursion (λ g. in_row p g ≡ true → list_any (in_row p) all ≡ true) gs)
    → AllByRecursion (λ g. list_any (takes g.label) (rows_of h all) ≡ true) gs
covered_from h all [] is fits among seen = tt
covered_from h all (g ∷ gs) is fits among seen = (
  label_covered h all is g.label fits.0.label (record { child = λ p s. (among p).0 s; main = λ p. (seen p).0 }),
  covered_from h all gs is fits.1 (λ p. (among p).1) (λ p. (seen p).1),
)

-- each label of the groups has a row that takes it
pub all_covered : (h : Heading) (gs : List LedgerLine) → IsReadableHeading h → AllByRecursion (IsReadableLine h) gs → AllByRecursion (λ g. list_any (takes g.label) (rows_of h gs) ≡ true) gs
all_covered h gs is fits = covered_from h gs gs is fits (λ p. among_all p gs gs [] refl) (λ p. any_all (in_row p) gs)

all_dropped : {A : Type 0} (P : A → Type 0) (n : ℕ) (xs : List A) → AllByRecursion P xs → AllByRecursion P (drop n xs)
all_dropped P zero xs all = all
all_dropped P (suc n) [] all = tt
all_dropped P (suc n) (x ∷ xs) all = all_dropped P n xs all.1

all_taken : {A : Type 0} (P : A → Type 0) (n : ℕ) (xs : List A) → AllByRecursion P xs → AllByRecursion P (take n xs)
all_taken P zero xs all = tt
all_taken P (suc n) [] all = tt
all_taken P (suc n) (x ∷ xs) all = (all.0, all_taken P n xs all.1)

-- each label of the groups of a range of a ledger that can be read has a row
pub range_covered : (h : Heading) (from to : ℕ) (es : List Entry) → IsReadable (record { heading = h; entries = es }) → from ≤ to → to ≤ length es
    → AllByRecursion (λ g. list_any (takes g.label) (rows_of h (groups from to es)) ≡ true) (groups from to es)
range_covered h from to es readable begins within =
    let whole = whole_slice from to es in
    let count = ap length whole in
    let taken = length-take (to - from) (drop from es) in
    let dropped = length-drop from es in
    let short = readable.short in
    all_covered h (groups from to es) readable.heading
    (lines_readable h from (groups from to es) (groups_filled from to es) (groups_in_turn from to es) (omega (arith, count, taken, dropped, begins, within, short))
    (subst (AllByRecursion (HasEntry (size_in h))) (sym whole) (all_taken (HasEntry (size_in h)) (to - from) (drop from es) (all_dropped (HasEntry (size_in h)) from es readable.entries))))
