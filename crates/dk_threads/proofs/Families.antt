-- What every change leaves of a family, and of the list of families.
use Rattle.dk_threads.proofs.Names.{◌≡◌, ◌<◌, ◌≤◌, ◌==◌, ◌++◌, ℕ, zero, suc, ◌+◌, Bool, true, false, List, [], ◌∷◌, length, get_or, set, take, drop, map, refl, ap, sym, subst, arith, inl, inr, length-append, Some, None, slice_get, filter_map, All, nat_lt, ◌⊎◌, option_map, find, if◌then◌else◌, cons_option, range_with_len, option_map_or, list_any-append, nat_tests, slice_get-map, slice_get-get_or, slice_get_within, or_parts, MAX_CHILDREN, MAX_TICKS, Configuration, IsWithinLimits, ThreadId, Clock, end_at, State, ThreadRow, Family, IsChild, AreChildren, is_taken, is_row_of, is_stopped, started, stopped, stopped_child, stopped_with_main, kept, ends_at, is_starting, IsFamily, AreFamilies, family_started, family_ended, child_stopped, all_stopped, begun, new_row, free_slot, first_family, Table, stands, runs, is_running, changed_at, has_room, has_serials, serials_at}
use Rattle.std.specs.Prelude.{Option}
use Rattle.dk_threads.proofs.Slots.{free}
use Rattle.dk_threads.proofs.Turns.{filter_map-some}

-- the second row has the serial, the level and the slot of the first
abbrev pub IsSame : ThreadRow → ThreadRow → Type 0
IsSame row next = (next.id.serial ≡ row.id.serial) × (next.level ≡ row.level) × (next.slot ≡ row.slot)

-- a change of the rows in which each that is left has its serial, level and slot
abbrev pub Keeps : (ThreadRow → Option ThreadRow) → Type 0
Keeps f = (row next : ThreadRow) → f row ≡ Some next → IsSame row next

taken-cons : (o : Option ThreadRow) (rows : List ThreadRow) (slot : ℕ) → ((next : ThreadRow) → o ≡ Some next → (next.slot == slot) ≡ false)
    → is_taken rows slot ≡ false → is_taken (cons_option o rows) slot ≡ false
taken-cons o rows slot apart rest = grind (arith, nat_tests)

is_taken-kept : (f : ThreadRow → Option ThreadRow) → Keeps f → (rows : List ThreadRow) (slot : ℕ) → is_taken rows slot ≡ false
    → is_taken (filter_map f rows) slot ≡ false
is_taken-kept f keeps [] slot apart = refl
is_taken-kept f keeps (row ∷ rows) slot apart = grind (arith, nat_tests, or_parts, taken-cons, is_taken-kept f keeps rows)

AreChildren-lower : (levels low later high : ℕ) (rows : List ThreadRow) → low ≤ later → AreChildren levels later high rows → AreChildren levels low high rows
AreChildren-lower levels low later high [] below h = tt
AreChildren-lower levels low later high (row ∷ rows) below h = grind (arith, nat_tests)

children-cons : (levels low high : ℕ) (o : Option ThreadRow) (rows : List ThreadRow)
    → ((next : ThreadRow) → o ≡ Some next → IsChild levels low high next × (is_taken rows next.slot ≡ false) × AreChildren levels next.id.serial high rows)
    → AreChildren levels low high rows → AreChildren levels low high (cons_option o rows)
children-cons levels low high o rows some none = grind (arith, nat_tests)

-- the children that are left are children as before
pub AreChildren-kept : (f : ThreadRow → Option ThreadRow) → Keeps f → (levels low high : ℕ) (rows : List ThreadRow)
    → AreChildren levels low high rows → AreChildren levels low high (filter_map f rows)
AreChildren-kept f keeps levels low high [] h = tt
AreChildren-kept f keeps levels low high (row ∷ rows) h = grind (arith, nat_tests, is_taken-kept, children-cons, AreChildren-lower, AreChildren-kept f keeps levels row.id.serial high rows)

-- a child of the next serial, in a slot that no other has, comes last
pub AreChildren-push : (levels low high : ℕ) (rows : List ThreadRow) (row : ThreadRow) → AreChildren levels low high rows → low ≤ high
    → IsChild levels high (high + 1) row → is_taken rows row.slot ≡ false → AreChildren levels low (high + 1) (rows ++ row ∷ [])
AreChildren-push levels low high [] row h below child apart = grind (arith, nat_tests, or_parts, list_any-append)
AreChildren-push levels low high (r ∷ rs) row h below child apart = grind (arith, nat_tests, or_parts, list_any-append, AreChildren-push levels r.id.serial high rs)

level-of : (levels low high : ℕ) (rows : List ThreadRow) → AreChildren levels low high rows
    → (k : ℕ) (d : ThreadRow) → k < length rows → (get_or rows k d).level < levels
level-of levels low high [] h k d below = absurd (omega arith)
level-of levels low high (row ∷ rows) h zero d below = h.0.level
level-of levels low high (row ∷ rows) h (suc k) d below = level-of levels row.id.serial high rows h.2 k d (omega arith)

-- all children are on levels that there are
pub levels-of : (levels : ℕ) (family : Family) → IsFamily levels family → All (λ row. row.level < levels) family.children
levels-of levels family is k d below = level-of levels 0 family.serials family.children is.children k d below

length-cons-le : (o : Option ThreadRow) (rows : List ThreadRow) → length (cons_option o rows) ≤ suc (length rows)
length-cons-le o rows = grind (arith, nat_tests)

fewer : (f : ThreadRow → Option ThreadRow) (rows : List ThreadRow) → length (filter_map f rows) ≤ length rows
fewer f [] = omega arith
fewer f (row ∷ rows) = grind (arith, nat_tests, length-cons-le, fewer f rows)

-- a family whose rows change so is one as before
pub IsFamily-kept : (f : ThreadRow → Option ThreadRow) → Keeps f → (levels : ℕ) (family : Family) (main : ThreadRow) → IsFamily levels family
    → main.slot ≡ family.main.slot → main.id ≡ family.main.id → main.end ≡ family.main.end → is_starting main.state ≡ false
    → IsFamily levels (record family { main = main; children = filter_map f family.children })
IsFamily-kept f keeps levels family main is slot id end live = grind (arith, nat_tests, fewer, AreChildren-kept)

from_same : (row next made : ThreadRow) → made.id ≡ row.id → made.level ≡ row.level → made.slot ≡ row.slot → Some made ≡ Some next → IsSame row next
from_same row next made id level slot is = grind (arith, nat_tests)

choice : (b : Bool) (row next : ThreadRow) (one other : Option ThreadRow) → (P : Type 0) → (one ≡ Some next → P) → (other ≡ Some next → P)
    → (if b then one else other) ≡ Some next → P
choice true row next one other P first second is = first is
choice false row next one other P first second is = second is

keeps-stopped : (clock : Clock) → Keeps (stopped clock)
keeps-stopped clock row next is =
    let made : ThreadRow = record row { state = State.Stopped; end = Some (end_at clock row.level) } in
    choice (nat_lt clock.tick row.start) row next None (Some made) (IsSame row next) (λ e. absurd (cc)) (λ e. from_same row next made refl refl refl e) is

pub keeps-started : (now : ℕ) → Keeps (λ row. Some (started now row))
keeps-started now row next is = from_same row next (started now row) refl refl refl is

pub keeps-kept : (now : ℕ) → Keeps (kept now)
keeps-kept now row next is =
    choice (ends_at now row) row next None (Some row) (IsSame row next) (λ e. absurd (cc)) (λ e. from_same row next row refl refl refl e) is

pub keeps-stopped_child : (x : ThreadId) (clock : Clock) → Keeps (stopped_child x clock)
keeps-stopped_child x clock row next is =
    choice (is_row_of x row) row next (stopped clock row) (Some row) (IsSame row next)
    (λ e. keeps-stopped clock row next e) (λ e. from_same row next row refl refl refl e) is

pub keeps-stopped_with_main : (clock : Clock) → Keeps (stopped_with_main clock)
keeps-stopped_with_main clock row next is =
    choice (is_stopped row.state) row next (Some row) (stopped clock row) (IsSame row next)
    (λ e. from_same row next row refl refl refl e) (λ e. keeps-stopped clock row next e) is

slice_get-set : (families : List Family) (p q : ℕ) (new family : Family) → slice_get (set families p new) q ≡ Some family
    → (family ≡ new) ⊎ (slice_get families q ≡ Some family)
slice_get-set [] p q new family at = inr at
slice_get-set (x ∷ xs) zero zero new family at = inl (cc)
slice_get-set (x ∷ xs) zero (suc q) new family at = inr at
slice_get-set (x ∷ xs) (suc p) zero new family at = inr at
slice_get-set (x ∷ xs) (suc p) (suc q) new family at = slice_get-set xs p q new family at

pub AreFamilies-set : (levels : ℕ) (families : List Family) (p : ℕ) (new : Family) → AreFamilies levels families → IsFamily levels new
    → AreFamilies levels (set families p new)
AreFamilies-set levels families p new all is q family at =
    elim (slice_get-set families p q new family at) [ inl same ↦ subst (IsFamily levels) (sym same) is | inr old ↦ all q family old ]

under : (f : Family → Family) (o : Option Family) (y : Family) → option_map f o ≡ Some y → (x : Family) × (o ≡ Some x) × (f x ≡ y)
under f None y h = absurd (cc)
under f (Some x) y h = (x, refl, cc)

under-number : (f : ℕ → Family) (o : Option ℕ) (y : Family) → option_map f o ≡ Some y → (n : ℕ) × (o ≡ Some n) × (f n ≡ y)
under-number f None y h = absurd (cc)
under-number f (Some n) y h = (n, refl, cc)

pub AreFamilies-map : (levels : ℕ) (families : List Family) (f : Family → Family) → AreFamilies levels families
    → ((family : Family) → IsFamily levels family → IsFamily levels (f family)) → AreFamilies levels (map f families)
AreFamilies-map levels families f all keeps p family at = grind (arith, nat_tests, under, slice_get-map)

get-at : (f : Family → Family) (old : List Family) (i : ℕ) (d : Family) → i < length old
    → get_or (map f (take i old) ++ drop i old) i d ≡ get_or old i d
get-at f [] i d below = absurd (omega arith)
get-at f (x ∷ xs) zero d below = refl
get-at f (x ∷ xs) (suc i) d below = get-at f xs i d (omega arith)

set-at : (f : Family → Family) (old : List Family) (i : ℕ) (d : Family) → i < length old
    → set (map f (take i old) ++ drop i old) i (f (get_or old i d)) ≡ map f (take (suc i) old) ++ drop (suc i) old
set-at f [] i d below = absurd (omega arith)
set-at f (x ∷ xs) zero d below = refl
set-at f (x ∷ xs) (suc i) d below = ap (λ (ys : List Family). f x ∷ ys) (set-at f xs i d (omega arith))

-- a loop over the families, one family further
pub one-more : (f : Family → Family) (old now : List Family) (i : ℕ) (item new : Family) → i < length old
    → now ≡ map f (take i old) ++ drop i old → item ≡ get_or now i item → new ≡ f item
    → set now i new ≡ map f (take (i + 1) old) ++ drop (i + 1) old
one-more f old now i item new below so is becomes = grind (arith, nat_tests, get-at, set-at)

-- the family of a process that has one
pub family_at : (table : Table) (families : List Family) (p : ℕ) (family : Family) → families ≡ table.families → p < length table.families
    → family ≡ get_or families p family → slice_get families p ≡ Some family
family_at table families p family same below is = grind (arith, nat_tests, slice_get-get_or)

is_there : (o : Option Family) (test : Family → Bool) → option_map_or test o false ≡ true → (family : Family) × (o ≡ Some family)
is_there None test h = absurd (cc)
is_there (Some family) test h = (family, refl)

-- a process that stands has a family
pub within-stands : (table : Table) (p : ℕ) → stands table p ≡ true → p < length table.families
within-stands table p h = grind (arith, nat_tests, is_there, slice_get_within)

is_member : (x : ThreadId) (o : Option Family)
    → option_map_or is_running (find (is_row_of x) (option_map_or (λ (family : Family). family.main ∷ family.children) o [])) false ≡ true
    → (family : Family) × (o ≡ Some family)
is_member x None h = absurd (cc)
is_member x (Some family) h = (family, refl)

-- a thread that runs is of a process that has a family
pub within-runs : (table : Table) (x : ThreadId) → runs table x ≡ true → x.process < length table.families
within-runs table x h = grind (arith, nat_tests, is_member, slice_get_within)

-- the table with one family changed
pub changed-set : (change : Family → Family) (levels : ℕ) (families : List Family) (p : ℕ) (family new : Family)
    → slice_get families p ≡ Some family → new ≡ change family
    → ◌≡◌ {A = Table} (record { levels = levels; families = set families p new }) (changed_at change p (record { levels = levels; families = families }))
changed-set change levels families p family new at is = grind (arith, nat_tests)

pub IsFamily-started : (now levels : ℕ) (family : Family) → IsFamily levels family → IsFamily levels (family_started now family)
IsFamily-started now levels family is =
    subst (λ (rows : List ThreadRow). IsFamily levels (record family { children = rows }))
    (filter_map-some (started now) family.children)
    (IsFamily-kept (λ row. Some (started now row)) (keeps-started now) levels family family.main is refl refl refl is.main_state)

pub IsFamily-ended : (now levels : ℕ) (family : Family) → IsFamily levels family → IsFamily levels (family_ended now family)
IsFamily-ended now levels family is = IsFamily-kept (kept now) (keeps-kept now) levels family family.main is refl refl refl is.main_state

pub IsFamily-stopped : (x : ThreadId) (clock : Clock) (levels : ℕ) (family : Family) → IsFamily levels family → IsFamily levels (child_stopped x clock family)
IsFamily-stopped x clock levels family is =
    IsFamily-kept (stopped_child x clock) (keeps-stopped_child x clock) levels family family.main is refl refl refl is.main_state

pub IsFamily-all_stopped : (clock : Clock) (levels : ℕ) (family : Family) → IsFamily levels family → IsFamily levels (all_stopped clock family)
IsFamily-all_stopped clock levels family is =
    IsFamily-kept (stopped_with_main clock) (keeps-stopped_with_main clock) levels family (record family.main { state = State.Stopped }) is refl refl refl refl

pub IsFamily-begun : (p level start levels : ℕ) (family : Family) → IsFamily levels family → level < levels → length family.children < family.most
    → IsFamily levels (begun p level start family)
IsFamily-begun p level start levels family is known room =
    let few : family.most ≤ MAX_CHILDREN = is.few in
    let slot = free family.children (omega arith) in
    let row : ThreadRow = new_row (record { process = p; serial = family.serials + 1 }) level (free_slot family.children) start in
    let longer : length (family.children ++ row ∷ []) ≡ length family.children + 1 = length-append family.children (row ∷ []) in
    record {
      main_slot = is.main_slot;
      main_serial = is.main_serial;
      main_end = is.main_end;
      main_state = is.main_state;
      room = omega arith;
      few = is.few;
      children = grind (arith, nat_tests, AreChildren-push);
    }

-- at the start there are no children
pub AreFamilies-first : (c : Configuration) → IsWithinLimits c → AreFamilies (length c.levels) (map (first_family c) (range_with_len 0 (length c.processes)))
AreFamilies-first c limits p family at = grind (arith, nat_tests, under-number, slice_get-map)

-- a process that has room may have one more child
pub room-at : (table : Table) (p : ℕ) (family : Family) → slice_get table.families p ≡ Some family → has_room table p ≡ true
    → length family.children < family.most
room-at table p family at room = grind (arith, nat_tests)

pub serials-at : (table : Table) (p : ℕ) (family : Family) → slice_get table.families p ≡ Some family → serials_at table p ≡ family.serials
serials-at table p family at = ap (λ (o : Option Family). option_map_or (λ (x : Family). x.serials) o 0) at

-- and has had few enough
pub few-at : (table : Table) (p : ℕ) (family : Family) → slice_get table.families p ≡ Some family → has_serials table p ≡ true
    → family.serials < MAX_TICKS
few-at table p family at few = grind (arith, nat_tests)
