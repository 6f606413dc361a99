-- The rows of the threads and their lines.
use Rattle.dk_inspect.proofs.Names.{◌≡◌, ◌<◌, ◌≤◌, ◌+◌, ◌∙◌, ℕ, List, [], ◌∷◌, ◌++◌, length, refl, ap, sym, subst, arith, Option, Some, None, option_map, slice_get, flat_map, IfSome, codes, decimal, option_map_or, slice_get-map, length-map, MAX_THREADS, Configuration, process_name, below, ProcessRow, ThreadId, Thread, family, denied, Context, ThreadRow, counted_row, counted_rows, state_of, unplaced, FamilyStands, RowsAreNamed, Past, ProcessLine, Heading, ended, name_of, line_of_row, Running, trace_of, world_of, thread_body, state_word, context_of, is_shown, denied_body, view, IsHeaderOf, IsRowAt, IsTextAt, IsThereIn, now_of, word_of}
use Rattle.dk_inspect.specs.View.{thread_line, shown, view_of}
use Rattle.dk_inspect.specs.Printing.{shown_of, thread_line_of, level_line_of, line_at, process_lines, all_lines}
use Rattle.dk_inspect.proofs.Pieces.{by_place}
use Rattle.dk_inspect.proofs.Shown.{rows-shown, shown-at, word-counted, by_family}

-- the row of a thread has its name and its state
abbrev pub IsSame : ℕ → ThreadRow → Thread → Type 0
IsSame n row x = (row.id ≡ x.id) × (row.state ≡ state_of n x)

same-row : (c : Configuration) (n : ℕ) (row : ThreadRow) (x : Thread) → Some (unplaced row) ≡ Some (counted_row c n x) → IsSame n row x
same-row c n row x is = (
  ap (λ (o : Option ThreadRow). option_map_or (λ (r : ThreadRow). r.id) o row.id) is,
  ap (λ (o : Option ThreadRow). option_map_or (λ (r : ThreadRow). r.state) o row.state) is,
)

-- the thread at the place of which there is a row
pub record IsThreadAt (k : Running) (p place : ℕ) (row : ThreadRow) : Type 0 where
  pub thread : Thread
  pub at : slice_get (shown_of k p) place ≡ Some thread
  pub same : IsSame (now_of k) row thread

thread-in : (k : Running) (p place : ℕ) (row : ThreadRow) (o : Option Thread) → slice_get (shown_of k p) place ≡ o
    → Some (unplaced row) ≡ option_map (counted_row k.config (now_of k)) o → IsThreadAt k p place row
thread-in k p place row None at is = absurd (cc)
thread-in k p place row (Some x) at is = record { thread = x; at = at; same = same-row k.config (now_of k) row x is }

pub thread-of-row : (k : Running) (p place : ℕ) (row : ThreadRow) → IsRowAt k p place (Some row) → IsThreadAt k p place row
thread-of-row k p place row is = thread-in k p place row (slice_get (shown_of k p) place) refl is

pub row-there : (k : Running) (p place : ℕ) (row : Option ThreadRow) → FamilyStands k.config (trace_of k) p → RowsAreNamed k.config (trace_of k)
    → p < length k.config.processes → IsRowAt k p place row → IfSome row (λ r. IsThereIn k p r.id)
unfolding shown_of
row-there k p place None stands named known is = tt
row-there k p place (Some row) stands named known is =
    let at = thread-of-row k p place row is in
    let x = at.thread in
    let there = shown-at k.config (now_of k) (trace_of k) p place x stands named known at.at in
    let whole : IsThereIn k p x.id = record { process = there.process; there = there.there } in
    subst (λ id. IsThereIn k p id) (sym at.same.0) whole

name-mapped : (o : Option ProcessRow) → option_map_or (λ (line : ProcessLine). line.name) (option_map line_of_row o) [] ≡ option_map_or (λ (row : ProcessRow). row.name) o []
name-mapped None = refl
name-mapped (Some row) = refl

-- the header's name of a process is the configuration's
pub name-told : (c : Configuration) (h : Heading) (p : ℕ) → IsHeaderOf c h → name_of h p ≡ process_name c p
name-told c h p header =
    ap (λ (lines : List ProcessLine). option_map_or (λ (line : ProcessLine). line.name) (slice_get lines p) []) header.processes
    ∙ ap (λ (o : Option ProcessLine). option_map_or (λ (line : ProcessLine). line.name) o []) (slice_get-map line_of_row c.processes p)
    ∙ name-mapped (slice_get c.processes p)

-- the header has a line for each process
pub lines-of-header : (c : Configuration) (h : Heading) → IsHeaderOf c h → length h.processes ≡ length c.processes
lines-of-header c h header = ap (λ (lines : List ProcessLine). length lines) header.processes ∙ length-map c.processes line_of_row

-- what was written of a row is its thread's line
pub text-told : (k : Running) (p place : ℕ) (h : Heading) (row : ThreadRow) (context : Context) (text : List ℕ) → IsHeaderOf k.config h → IsRowAt k p place (Some row)
    → context ≡ context_of (world_of k) row.id → text ≡ thread_body (name_of h row.id.process) row.id.serial (word_of row.state) context → IsTextAt k p place (Some text)
unfolding thread_line_of thread_line
text-told k p place h row context text header is here body =
    let c = k.config in
    let n = now_of k in
    let w = world_of k in
    let at = thread-of-row k p place row is in
    let x = at.thread in
    let state : word_of row.state ≡ state_word n x = ap word_of at.same.1 ∙ word-counted n x in
    let line = λ (id : ThreadId). thread_body (process_name c id.process) id.serial (state_word n x) (context_of w id) in
    let whole : text ≡ line x.id =
    body ∙ ap (λ name. thread_body name row.id.serial (word_of row.state) context) (name-told c h row.id.process header)
    ∙ ap (λ word. thread_body (process_name c row.id.process) row.id.serial word context) state
    ∙ ap (λ z. thread_body (process_name c row.id.process) row.id.serial (state_word n x) z) here
    ∙ ap line at.same.0 in
    ap (λ t. Some (ended t)) whole ∙ ap (option_map (thread_line_of k)) (sym at.at)

or-mapped : {A B : Type 0} (f : A → B) (o : Option A) (d : B) → option_map_or f o d ≡ option_map_or (λ y. y) (option_map f o) d
or-mapped f None d = refl
or-mapped f (Some x) d = refl

-- the line at the place, as far as there is a text
pub line-told : (k : Running) (p place : ℕ) (text : Option (List ℕ)) → IsTextAt k p place text → option_map_or ended text [] ≡ line_at k p place
unfolding line_at
line-told k p place text is =
    or-mapped ended text [] ∙ ap (λ o. option_map_or (λ y. y) o []) is ∙ sym (or-mapped (thread_line_of k) (slice_get (shown_of k p) place) [])

pub few-shown : (k : Running) (past : Past) (p : ℕ) → past.config ≡ k.config → past.entries ≡ trace_of k
    → ((p : ℕ) → p < length past.config.processes → length (counted_rows past.config (length past.entries) past.entries p) ≤ MAX_THREADS) → p < length k.config.processes
    → length (shown_of k p) ≤ MAX_THREADS
unfolding shown_of
few-shown k past p config entries few known =
    let c = k.config in
    let all : (p : ℕ) → p < length c.processes → length (counted_rows c (now_of k) (trace_of k) p) ≤ MAX_THREADS =
    subst (λ es. (p : ℕ) → p < length c.processes → length (counted_rows c (length es) es p) ≤ MAX_THREADS) entries
    (subst (λ z. (p : ℕ) → p < length z.processes → length (counted_rows z (length past.entries) past.entries p) ≤ MAX_THREADS) config few) in
    let nine = all p known in
    let counted = rows-shown c (now_of k) (family c p (trace_of k)) in
    let as_many : length (shown_of k p) ≡ length (counted_rows c (now_of k) (trace_of k) p) =
    sym (length-map (shown_of k p) (counted_row c (now_of k))) ∙ sym (ap (λ xs. length xs) counted) in
    omega (arith, nine, as_many)

line-at : (k : Running) (p i : ℕ) → line_at k p (0 + i) ≡ option_map_or (thread_line_of k) (slice_get (shown_of k p) i) []
unfolding line_at
line-at k p i = let same : 0 + i ≡ i = omega arith in ap (λ j. option_map_or (thread_line_of k) (slice_get (shown_of k p) j) []) same

-- the lines of the nine places are the process's
pub nine-places : (k : Running) (p : ℕ) → length (shown_of k p) ≤ MAX_THREADS → flat_map (line_at k p) (below MAX_THREADS) ≡ process_lines k p
unfolding process_lines
nine-places k p few = by_place (thread_line_of k) (line_at k p) (shown_of k p) 0 MAX_THREADS (line-at k p) few

lines-by-process : (k : Running) → flat_map (thread_line k.config (now_of k) (world_of k)) (shown k.config (now_of k) (trace_of k)) ≡ all_lines k
unfolding all_lines process_lines thread_line_of shown_of shown
lines-by-process k =
    let c = k.config in
    by_family (thread_line c (now_of k) (world_of k)) (is_shown c (now_of k)) (λ p. family c p (trace_of k)) (below (length c.processes))

-- the view, line by line
pub view-parts : (k : Running) (n : ℕ) → n ≡ k.ticks → n ≡ length (trace_of k)
    → view k.config k.programs k.ticks ≡
    ended (codes "tick " ++ decimal n)
    ++ (flat_map (level_line_of k) (below (length k.config.levels))
    ++ (ended (denied_body (denied k.config (trace_of k))) ++ (all_lines k ++ ended (codes "end " ++ decimal n))))
unfolding view_of level_line_of
view-parts k n ticks entries =
    let c = k.config in
    let w = world_of k in
    let now : k.ticks ≡ now_of k = sym ticks ∙ entries in
    let whole = λ (m : ℕ) (lines : List ℕ).
    ended (codes "tick " ++ decimal m)
    ++ (flat_map (level_line_of k) (below (length c.levels))
    ++ (ended (denied_body (denied c (trace_of k))) ++ (lines ++ ended (codes "end " ++ decimal m)))) in
    ap (λ m. view_of c m w) now ∙ ap (whole (now_of k)) (lines-by-process k) ∙ ap (λ m. whole m (all_lines k)) (sym entries)
