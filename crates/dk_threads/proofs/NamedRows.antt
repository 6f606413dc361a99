-- The row of a thread: it is found by its name, and no two rows of a process have one slot or one serial.
use Rattle.dk_threads.proofs.Names.{◌≡◌, length, true, subst, refl, sym, ℕ, ap, ◌<◌, map, List, Option, ◌∷◌, ◌≤◌, false, ◌∙◌, inr, inl, arith, [], eq-eqb, nat_tests, filter_map, slice_get, IfSome, option_map_or, Configuration, MAX_CHILDREN, ThreadId, Has, Thread, family, Entry, is_same, find-some, has-map, has-filter_map, list_any-has, find-has, same-id, same-self, rows_of, Table, find_row, AreFamilies, IsFamily, children_at, ThreadRow, has_row, unplaced, counted_row, row_at, IsRecount, is_row_of, AreChildren, is_taken, Family}
use Rattle.std.proofs.Common.{Some, None}

-- the row that the table has of a thread
pub record HasRow (table : Table) (x : ThreadId) : Type 0 where
  pub row : ThreadRow
  pub found : find_row table x ≡ Some row
  pub among : Has (rows_of table x.process) row
  pub name : row.id ≡ x

pub row-there : (c : Configuration) (now : ℕ) (past : List Entry) (table : Table) (x : Thread) → IsRecount c now past table
    → x.id.process < length c.processes → Has (family c x.id.process past) x → has_row c now x ≡ true → HasRow table x.id
row-there c now past table x is known among there =
    let counted : row_at c now x ≡ Some (counted_row c now x) = rw there refl in
    let has : Has (filter_map (row_at c now) (family c x.id.process past)) (counted_row c now x) = grind (arith, nat_tests, has-filter_map) in
    let has' : Has (map unplaced (rows_of table x.id.process)) (counted_row c now x) = subst (λ rows. Has rows (counted_row c now x)) (sym (is.rows x.id.process known)) has in
    let r = has-map unplaced (rows_of table x.id.process) (counted_row c now x) has' in
    let name : r.0.id ≡ x.id = ap (λ (row : ThreadRow). row.id) r.2 in
    let test : is_row_of x.id r.0 ≡ true = subst (λ i. is_same x.id i ≡ true) (sym name) (same-self x.id) in
    let f = find-some (is_row_of x.id) (rows_of table x.id.process) r.0 r.1 test in
    record { row = f.0; found = f.3; among = f.1; name = sym (same-id x.id f.0.id f.2) }

-- the rows of a process are those of its family
pub family-of : (table : Table) (p : ℕ) (row : ThreadRow) → AreFamilies table.levels table.families → Has (rows_of table p) row
    → (f : Family) × IsFamily table.levels f × (rows_of table p ≡ f.main ∷ f.children)
family-of table p row are among = go (slice_get table.families p) refl among
  where
    go : (o : Option Family) → slice_get table.families p ≡ o → Has (option_map_or (λ family. family.main ∷ family.children) (slice_get table.families p) []) row
        → (f : Family) × IsFamily table.levels f × (rows_of table p ≡ f.main ∷ f.children)
    go None at has = let none : Has [] row = rw at at has in absurd none
    go (Some f) at has = (f, are p f at, rw at refl)

pub child-slot : (levels low high : ℕ) (rows : List ThreadRow) (row : ThreadRow) → AreChildren levels low high rows → Has rows row → (1 ≤ row.slot) × (row.slot ≤ MAX_CHILDREN)
child-slot levels low high [] row are has = absurd has
child-slot levels low high (first ∷ rows) row are (inl is) = grind (arith, nat_tests)
child-slot levels low high (first ∷ rows) row are (inr has) = grind (arith, nat_tests, child-slot levels first.id.serial high rows row are.2 has)

pub slot-apart : (rows : List ThreadRow) (first row : ThreadRow) → is_taken rows first.slot ≡ false → Has rows row → first.slot ≡ row.slot → ⊥
slot-apart rows first row free has same = grind (arith, nat_tests, eq-eqb, list_any-has)

children-apart : (levels low high : ℕ) (rows : List ThreadRow) (q r : ThreadRow) → AreChildren levels low high rows → Has rows q → Has rows r → q.slot ≡ r.slot → q ≡ r
children-apart levels low high [] q r are one two same = absurd one
children-apart levels low high (first ∷ rows) q r are (inl a) (inl b) same = sym a ∙ b
children-apart levels low high (first ∷ rows) q r are (inl a) (inr two) same =
    absurd (slot-apart rows first r are.1 two (ap (λ (z : ThreadRow). z.slot) a ∙ same))
children-apart levels low high (first ∷ rows) q r are (inr one) (inl b) same =
    absurd (slot-apart rows first q are.1 one (ap (λ (z : ThreadRow). z.slot) b ∙ sym same))
children-apart levels low high (first ∷ rows) q r are (inr one) (inr two) same = children-apart levels first.id.serial high rows q r are.2 one two same

-- every slot is at most 8
pub row-slot : (table : Table) (p : ℕ) (row : ThreadRow) → AreFamilies table.levels table.families → Has (rows_of table p) row → row.slot ≤ MAX_CHILDREN
row-slot table p row are among = grind (arith, nat_tests, family-of, child-slot)

-- no two rows of a process have one slot
pub slots-differ : (table : Table) (p : ℕ) (q r : ThreadRow) → AreFamilies table.levels table.families → Has (rows_of table p) q → Has (rows_of table p) r → q.slot ≡ r.slot → q ≡ r
slots-differ table p q r are one two same = grind (arith, nat_tests, family-of, child-slot, children-apart)

pub child-later : (levels low high : ℕ) (rows : List ThreadRow) (r : ThreadRow) → AreChildren levels low high rows → Has rows r → low < r.id.serial
child-later levels low high [] r are has = absurd has
child-later levels low high (first ∷ rows) r are (inl is) = grind (arith, nat_tests)
child-later levels low high (first ∷ rows) r are (inr rest) = grind (arith, nat_tests, child-later levels first.id.serial high rows r are.2 rest)

pub one-child : (levels low high : ℕ) (rows : List ThreadRow) (q r : ThreadRow) → AreChildren levels low high rows → Has rows q → Has rows r → q.id.serial ≡ r.id.serial → q ≡ r
one-child levels low high [] q r are one two same = absurd one
one-child levels low high (first ∷ rows) q r are (inl a) (inl b) same = sym a ∙ b
one-child levels low high (first ∷ rows) q r are (inl a) (inr two) same =
    let later = child-later levels first.id.serial high rows r are.2 two in
    let e : first.id.serial ≡ q.id.serial = ap (λ (z : ThreadRow). z.id.serial) a in
    absurd (omega (arith, later, e, same))
one-child levels low high (first ∷ rows) q r are (inr one) (inl b) same =
    let later = child-later levels first.id.serial high rows q are.2 one in
    let e : first.id.serial ≡ r.id.serial = ap (λ (z : ThreadRow). z.id.serial) b in
    absurd (omega (arith, later, e, same))
one-child levels low high (first ∷ rows) q r are (inr one) (inr two) same = one-child levels first.id.serial high rows q r are.2 one two same

-- the rows of a process, as its family has them
pub rows-family : (table : Table) (p : ℕ) (row : ThreadRow) → Has (rows_of table p) row → (f : Family) × (slice_get table.families p ≡ Some f)
rows-family table p row among = go (slice_get table.families p) refl among
  where
    go : (o : Option Family) → slice_get table.families p ≡ o → Has (option_map_or (λ family. family.main ∷ family.children) (slice_get table.families p) []) row
        → (f : Family) × (slice_get table.families p ≡ Some f)
    go None at has = let none : Has [] row = rw at at has in absurd none
    go (Some f) at has = (f, at)

pub rows-are : (table : Table) (p : ℕ) (f : Family) → slice_get table.families p ≡ Some f → rows_of table p ≡ f.main ∷ f.children
rows-are table p f at = ap (λ o. option_map_or (λ (family : Family). family.main ∷ family.children) o []) at

-- no two rows of a process have one serial
pub one-row : (table : Table) (p : ℕ) (q r : ThreadRow) → AreFamilies table.levels table.families → Has (rows_of table p) q → Has (rows_of table p) r
    → q.id.serial ≡ r.id.serial → q ≡ r
one-row table p q r are one two same =
    let f = rows-family table p q one in
    let is = are p f.0 f.1 in
    let a : Has (f.0.main ∷ f.0.children) q = subst (λ rows. Has rows q) (rows-are table p f.0 f.1) one in
    let b : Has (f.0.main ∷ f.0.children) r = subst (λ rows. Has rows r) (rows-are table p f.0 f.1) two in
    let main = is.main_serial in
    elim a [
      | inl first ↦ grind (arith, nat_tests, child-later)
      | inr child ↦ grind (arith, nat_tests, child-later, one-child)
    ]

-- The slot of a row that is found is at most 8, and is no other thread's.
pub found-fits : (table : Table) (x : ThreadId) (o : Option ThreadRow) → AreFamilies table.levels table.families → o ≡ find_row table x → IfSome o (λ row. row.slot ≤ MAX_CHILDREN)
found-fits table x None are is = tt
found-fits table x (Some row) are is = row-slot table x.process row are (find-has (is_row_of x) (rows_of table x.process) row (sym is)).0

-- two rows of a process with one slot are of one thread
pub same-owner : (table : Table) (x y : ThreadId) (row other : ThreadRow) → AreFamilies table.levels table.families → find_row table x ≡ Some row → find_row table y ≡ Some other
    → other.slot ≡ row.slot → y.process ≡ x.process → y.serial ≡ x.serial
same-owner table x y row other are found too slot process =
    let mine = find-has (is_row_of x) (rows_of table x.process) row found in
    let yours = find-has (is_row_of y) (rows_of table y.process) other too in
    let there : Has (rows_of table x.process) other = subst (λ p. Has (rows_of table p) other) process yours.0 in
    let same = slots-differ table x.process other row are there mine.0 slot in
    let one = same-id y other.id yours.1 in
    let two = same-id x row.id mine.1 in
    ap (λ (i : ThreadId). i.serial) one ∙ ap (λ (r : ThreadRow). r.id.serial) same ∙ ap (λ (i : ThreadId). i.serial) (sym two)

pub names-apart : (q r : ThreadRow) → r.id.serial < q.id.serial → is_same q.id r.id ≡ false
names-apart q r later = grind (arith, nat_tests)

pub few-children : (table : Table) (p : ℕ) → AreFamilies table.levels table.families → length (children_at table p) ≤ MAX_CHILDREN
few-children table p are = go (slice_get table.families p) refl
  where
    go : (o : Option Family) → slice_get table.families p ≡ o → length (children_at table p) ≤ MAX_CHILDREN
    go None at = rw at (omega arith)
    go (Some f) at = let is = are p f at in let room = is.room in let few = is.few in rw at (omega arith)
